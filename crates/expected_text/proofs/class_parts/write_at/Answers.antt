use Rattle.std.proofs.Common.{◌≡◌, ◌+◌, ◌++◌, ap, arith, length, rules, string_bytes}
use Rattle.expected_text.specs.plain.Parts.{left_weight, part_weight}
use Rattle.expected_text.proofs.ClassParts.{all_written, first_put, one_written, weight_put}
use Rattle.expected_text.proofs.class_parts.write_at.Goals as goal

pub parts-init : goal.parts-init
parts-init c = ap (λ w. string_bytes c.args.text.now ++ w) (first_put _ _ _ c.new-left.ensures.items c.in_ok-push.ensures.items)

pub parts-smaller : goal.parts-smaller
parts-smaller c =
    let popped : left_weight c.parts.left.items ≡ left_weight c.pop.new.self.items + part_weight c.in-Some.part = weight_put _ _ _ c.in-Some.ensures.items in
    let less = c.in_ok-write_part.ensures.less in
    omega (arith, popped, less)

pub parts-preserved : goal.parts-preserved
parts-preserved c = one_written _ _ _ _ _ _ _ c.in-Some.ensures.items c.in_ok-write_part.ensures.text c.parts.invariant

pub returns : goal.returns
returns c = let none : length c.parts.left.items ≡ 0 = search rules in all_written _ _ _ none c.parts.invariant
