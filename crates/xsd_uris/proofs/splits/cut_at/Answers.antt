use Rattle.std.proofs.Common.{◌≤◌, length, take, drop, not, ap, sym, ◌∙◌, subst}
use Rattle.std.proofs.lemmas.List.Sums.{prefix_len-le-length}
use Rattle.xsd_uris.specs.plain.UriShapes.{is}
use Rattle.xsd_uris.proofs.TextParts.{take-before, drop-from}
use Rattle.xsd_uris.proofs.splits.cut_at.Goals as goal

pub split_at-requires : goal.split_at-requires
split_at-requires c =
    subst (λ n. n ≤ length c.args.bytes.now) (sym c.len_before.ensures) (prefix_len-le-length (λ d. not (is c.args.mark d)) c.args.bytes.now)

pub returns-clause-before : goal.returns-clause-before
returns-clause-before c =
    c.split_at.ensures.front ∙ ap (λ n. take n c.args.bytes.now) c.len_before.ensures ∙ take-before (is c.args.mark) c.args.bytes.now

pub returns-clause-from : goal.returns-clause-from
returns-clause-from c =
    c.split_at.ensures.back ∙ ap (λ n. drop n c.args.bytes.now) c.len_before.ensures ∙ drop-from (is c.args.mark) c.args.bytes.now
