use Rattle.std.proofs.Common.{◌≡◌, ◌∙◌, ◌+◌, ◌++◌, ap, arith, map, string_bytes, sym}
use Rattle.expected_text.specs.plain.Parts.{class_weight, left_text, left_weight, members_weight}
use Rattle.expected_text.proofs.ClassParts.{choice_texts, none_written, one_put, weight_put}
use Rattle.expected_text.proofs.class_parts.put_choice.Goals as goal

pub returns-then-not-is_empty-clause-text : goal.returns-then-not-is_empty-clause-text
returns-then-not-is_empty-clause-text c =
    ap (λ w. string_bytes c.args.text.now ++ w) (one_put _ _ _ c.in_ok-push.ensures.items
    ∙ ap (λ w. w ++ left_text c.args.left.now.items) (choice_texts c.args.place c.args.members.now (sym c.is_empty.ensures ∙ c.if-not-is_empty.true)))

pub returns-then-not-is_empty-clause-less : goal.returns-then-not-is_empty-clause-less
returns-then-not-is_empty-clause-less c =
    let one : left_weight c.push.new.self.items ≡ left_weight c.args.left.now.items + (members_weight (map class_weight c.args.members.now) + 1) =
    weight_put _ _ _ c.in_ok-push.ensures.items in
    omega (arith, one)

pub returns-clause-text : goal.returns-clause-text
returns-clause-text c =
    none_written c.args.place (string_bytes c.args.text.now) _ (string_bytes c.push_str.new.self) _ (left_text c.args.left.now.items) c.args.members.now
    (sym c.is_empty.ensures ∙ c.if-not-is_empty.false) c.in_ok-write_every.ensures c.in_ok-push_str.ensures.bytes
    (c.in_ok-push_str-2.ensures.bytes ∙ ap (λ b. string_bytes c.push_str.new.self ++ b) c.back.ensures)
