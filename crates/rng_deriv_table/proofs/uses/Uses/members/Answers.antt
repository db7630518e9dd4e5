use Rattle.std.proofs.Common.{◌∙◌, [], ◌∷◌, ◌++◌, ap}
use Rattle.rng_deriv_table.specs.plain.AskedFor.{begun}
use Rattle.rng_deriv_table.proofs.uses.Uses.members.Goals as goal

pub todo-init : goal.todo-init
todo-init c =
    begun (c.in_ok-push-2.ensures.items ∙ ap (λ ks. ks ++ c.args.second ∷ []) (c.in_ok-push.ensures.items
    ∙ ap (λ ks. ks ++ c.args.first ∷ []) c.new-todo.ensures.items)) c.new-members.ensures.items
