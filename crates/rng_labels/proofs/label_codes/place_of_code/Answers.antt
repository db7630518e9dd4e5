use Rattle.std.proofs.Common.{◌∙◌, ap, sym, map, slice_get}
use Rattle.rng_labels.specs.plain.LabelCodes.{part_of}
use Rattle.rng_labels.proofs.LabelCodes.{code_at, codes_apart, not_put}
use Rattle.rng_labels.proofs.label_codes.place_of_code.Goals as goal

pub returns-then-is_new-clause-apart : goal.returns-then-is_new-clause-apart
returns-then-is_new-clause-apart c = codes_apart c.insert_full.new.self.keys c.in_ok-place.ensures.unique

pub returns-clause-apart : goal.returns-clause-apart
returns-clause-apart c = codes_apart c.insert_full.new.self.keys c.in_ok-place.ensures.unique

pub returns-clause-placed : goal.returns-clause-placed
returns-clause-placed c =
    let keys = c.args.codes.now.keys in
    let now = c.in_ok-place.ensures.keys ∙ not_put keys c.args.code (sym c.if-is_new.false ∙ c.in_ok-place.ensures.added) in
    let s = c.in_ok-place.ensures.stored in (
      ap (map (λ k. map part_of k.items)) now,
      code_at keys c.args.code s.0 c.in_ok-place.place (ap (λ ks. slice_get ks c.in_ok-place.place) (sym now) ∙ s.1) s.2,
    )
