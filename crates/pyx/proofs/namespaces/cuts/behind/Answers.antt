use Rattle.std.proofs.Common.{◌<◌, arith, sym, ap, ◌∙◌, length, slice_index_or, subst}
use Rattle.std.proofs.lemmas.Str.{IsCharBoundary-after_ascii}
use Rattle.pyx.proofs.namespaces.cuts.behind.Goals as goal

pub range_from-requires : goal.range_from-requires
range_from-requires c = λ positive. IsCharBoundary-after_ascii c.args.text.now 0 c.utf8.text
    (omega (arith, c.in-len1-up.len_at_least, ap length c.as_bytes.ensures.value))
    (subst (λ b. b < 128) (sym c.if-first-kind.true ∙ ap (λ bs. slice_index_or bs 0 0) c.as_bytes.ensures.value) c.requires)
