use Rattle.std.proofs.Common.{◌≤◌, length, drop, ap, sym, ◌∙◌, subst}
use Rattle.std.proofs.lemmas.List.Sums.{prefix_len-le-length}
use Rattle.xsd_uris.specs.plain.UriShapes.{is_digit}
use Rattle.xsd_uris.proofs.TextParts.{drop-digits}
use Rattle.xsd_uris.proofs.authority.past_digits.Goals as goal

pub split_at-requires : goal.split_at-requires
split_at-requires c = subst (λ n. n ≤ length c.args.bytes.now) (sym c.digits_len.ensures) (prefix_len-le-length is_digit c.args.bytes.now)

pub returns : goal.returns
returns c = c.split_at.ensures.back ∙ ap (λ n. drop n c.args.bytes.now) c.digits_len.ensures ∙ drop-digits c.args.bytes.now
