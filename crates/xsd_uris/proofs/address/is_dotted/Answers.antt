use Rattle.std.proofs.Common.{◌≡◌, ◌&&◌, true, ap, sym, ◌∙◌}
use Rattle.xsd_uris.specs.plain.UriShapes.{is_number}
use Rattle.xsd_uris.proofs.CutAddresses.{dotted_four}
use Rattle.xsd_uris.proofs.address.is_dotted.Goals as goal

pub returns-then-are_numbers : goal.returns-then-are_numbers
returns-then-are_numbers c =
    let first = c.in-Some.first.now in
    let second = c.in-Some-split_once.second.now in
    let third = c.in-Some-split_once-2.third.now in
    let fourth = c.in-Some-split_once-2.fourth.now in
    let front : (is_number first && is_number second) ≡ true = sym c.are_numbers.ensures ∙ c.if-are_numbers.true in
    c.are_numbers-then-are_numbers.ensures
    ∙ ap (λ x. x && (is_number third && is_number fourth)) (sym front)
    ∙ sym (dotted_four c.args.bytes.now first second third fourth c.in-Some.rest.now c.in-Some-split_once.rest.now c.in-Some.ensures.0 c.in-Some-split_once.ensures.0
    c.in-Some-split_once-2.ensures.0)
