use Rattle.std.proofs.Common.{◌≡◌, ◌∙◌, ◌+◌, ◌-◌, ◌∷◌, ◌++◌, ap, append_assoc, arith, drop, flat_map, length, map, sym, take}
use Rattle.std.proofs.lemmas.Slice.{first_rest}
use Rattle.rng_model.specs.names.NameViews.{class_of}
use Rattle.expected_text.specs.plain.Parts.{class_weight, left_text, left_weight, members_weight, text_at}
use Rattle.expected_text.proofs.ClassParts.{first_weight, two_put, weight_put}
use Rattle.expected_text.proofs.class_parts.put_members.Goals as goal

pub returns-clause-text : goal.returns-clause-text
returns-clause-text c =
    let members = c.args.members.now in
    let rest = take (length members - 1) (drop 1 members) in
    let first = c.first-item.result in
    let p = c.args.place in
    let left = left_text c.args.left.now.items in
    let whole : first ∷ rest ≡ members = ap (λ m. m ∷ rest) c.first-item.is ∙ sym (first_rest members first (omega (arith, c.in-len1-up.len_at_least))) in
    two_put _ _ _ _ _ c.in_ok-push.ensures.items c.in_ok-push-2.ensures.items
    ∙ sym (append_assoc (text_at p (class_of first)) (flat_map (λ m. text_at p (class_of m)) rest) left)
    ∙ ap (λ ms. flat_map (λ m. text_at p (class_of m)) ms ++ left) whole

pub returns-clause-less : goal.returns-clause-less
returns-clause-less c =
    let members = c.args.members.now in
    let rest = take (length members - 1) (drop 1 members) in
    let first = c.first-item.result in
    let whole : first ∷ rest ≡ members = ap (λ m. m ∷ rest) c.first-item.is ∙ sym (first_rest members first (omega (arith, c.in-len1-up.len_at_least))) in
    let all = ap (λ ms. members_weight (map class_weight ms)) (sym whole) ∙ first_weight first rest in
    let one : left_weight c.push.new.self.items ≡ left_weight c.args.left.now.items + (members_weight (map class_weight rest) + 1) =
    weight_put _ _ _ c.in_ok-push.ensures.items in
    let two : left_weight c.push-2.new.self.items ≡ left_weight c.push.new.self.items + class_weight first = weight_put _ _ _ c.in_ok-push-2.ensures.items in
    omega (arith, all, one, two)
