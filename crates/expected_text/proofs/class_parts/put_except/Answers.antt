use Rattle.std.proofs.Common.{◌≡◌, ◌∙◌, ◌+◌, ◌++◌, ap, append_assoc, arith, codes, string_bytes}
use Rattle.rng_model.specs.names.NameViews.{class_of}
use Rattle.expected_text.specs.plain.Parts.{class_weight, left_text, left_weight, text_at}
use Rattle.expected_text.specs.declared.parts.Place.TheVariants as places
use Rattle.expected_text.proofs.ClassParts.{three_put, weight_put}
use Rattle.expected_text.proofs.class_parts.put_except.Goals as goal

pub returns-clause-text : goal.returns-clause-text
returns-clause-text c =
    let old = string_bytes c.args.text.now in
    let put = three_put _ _ _ _ _ _ _ c.in_ok-push.ensures.items c.in_ok-push-2.ensures.items c.in_ok-push-3.ensures.items in
    ap (λ w. w ++ left_text c.push-3.new.self.items) c.in_ok-push_str.ensures.bytes ∙ append_assoc old (codes " except ( ") (left_text c.push-3.new.self.items)
    ∙ ap (λ w. old ++ (codes " except ( " ++ w)) (put
    ∙ ap (λ b. text_at places.Except (class_of c.args.except.now) ++ (codes ")" ++ (b ++ left_text c.args.left.now.items))) c.back.ensures)

pub returns-clause-less : goal.returns-clause-less
returns-clause-less c =
    let one : left_weight c.push.new.self.items ≡ left_weight c.args.left.now.items + 1 = weight_put _ _ _ c.in_ok-push.ensures.items in
    let two : left_weight c.push-2.new.self.items ≡ left_weight c.push.new.self.items + 1 = weight_put _ _ _ c.in_ok-push-2.ensures.items in
    let three : left_weight c.push-3.new.self.items ≡ left_weight c.push-2.new.self.items + class_weight c.args.except.now =
    weight_put _ _ _ c.in_ok-push-3.ensures.items in
    omega (arith, one, two, three)
