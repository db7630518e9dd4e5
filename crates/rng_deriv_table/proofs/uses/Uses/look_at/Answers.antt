use Rattle.std.proofs.Common.{◌≡◌, ◌∙◌, [], ◌∷◌, ◌++◌, ap, append_assoc, refl}
use Rattle.rng_deriv_table.specs.plain.AskedFor.{moved, opened}
use Rattle.rng_deriv_table.proofs.OpenedChoices.{moved_fewer, opened_fewer}
use Rattle.rng_deriv_table.proofs.uses.Uses.look_at.Goals as goal

pub returns-in_ok-push-in-Some-2-clause-opened : goal.returns-in_ok-push-in-Some-2-clause-opened
returns-in_ok-push-in-Some-2-clause-opened c = λ first second was.
    let todo = c.args.todo.now.items in
    let a = c.in-Some.first in
    let b = c.in-Some.second in
    let next : c.push-in-Some.new.self.items ≡ todo ++ a ∷ b ∷ [] = c.in_ok-push-in-Some-2.ensures.items
    ∙ ap (λ ks. ks ++ b ∷ []) c.in_ok-push-in-Some.ensures.items ∙ append_assoc todo (a ∷ []) (b ∷ []) in
    opened todo c.args.position a b was refl c.in-Some.ensures.sides c.in-Some.ensures.below next

pub returns-in_ok-push-in-Some-2-clause-fewer : goal.returns-in_ok-push-in-Some-2-clause-fewer
returns-in_ok-push-in-Some-2-clause-fewer c =
    let todo = c.args.todo.now.items in
    let a = c.in-Some.first in
    let b = c.in-Some.second in
    let next : c.push-in-Some.new.self.items ≡ todo ++ a ∷ b ∷ [] = c.in_ok-push-in-Some-2.ensures.items
    ∙ ap (λ ks. ks ++ b ∷ []) c.in_ok-push-in-Some.ensures.items ∙ append_assoc todo (a ∷ []) (b ∷ []) in
    opened_fewer todo c.push-in-Some.new.self.items c.args.position a b next c.in-Some.ensures.below.0 c.in-Some.ensures.below.1

pub returns-in_ok-push-in-None-clause-opened : goal.returns-in_ok-push-in-None-clause-opened
returns-in_ok-push-in-None-clause-opened c = λ first second was. moved c.args.position was refl c.in-None.ensures.none c.in_ok-push-in-None.ensures.items

pub returns-in_ok-push-in-None-clause-fewer : goal.returns-in_ok-push-in-None-clause-fewer
returns-in_ok-push-in-None-clause-fewer c = moved_fewer c.args.todo.now.items c.args.position
