use Rattle.std.proofs.Common.{◌∙◌, sym}
use Rattle.xsd_decimals.proofs.PartsOfTexts.{writes, more_behind, empty_parts}
use Rattle.xsd_decimals.proofs.reading.parts.Goals as goal
use Rattle.xsd_decimals.proofs.reading.parts.Goals.{then-are_empty-via-then-are_empty, then-are_empty-via-else-are_empty+then-not-is_blank}

pub returns-then-are_empty : goal.returns-then-are_empty
returns-then-are_empty c =
    let s = c.args.bytes.now in
    let front = c.split_digits.ensures in
    let behind = c.behind_point.ensures in
    elim c.then-are_empty.branch [
      | then-are_empty-via-then-are_empty v ↦ empty_parts s _ _ _ _ front.parts front.digits front.behind behind.parts behind.digits (sym c.are_empty.ensures ∙ v.if-are_empty.true)
      | then-are_empty-via-else-are_empty+then-not-is_blank v ↦ more_behind s _ _ _ _ front.parts front.digits front.behind behind.parts behind.digits (sym v.is_blank.ensures ∙ v.if-not-is_blank.true)
    ]

pub returns : goal.returns
returns c =
    let front = c.split_digits.ensures in
    let behind = c.behind_point.ensures in
    writes c.args.bytes.now _ _ _ _ front.parts front.digits front.behind behind.parts behind.digits (sym c.is_blank.ensures ∙ c.if-not-is_blank.false)
    (sym c.are_empty.ensures ∙ c.if-are_empty.false)
