-- What was learned, behind its box.
use Rattle.std.proofs.Common.{◌≡◌, ◌∙◌, List, ap, subst, sym}
use Rattle.rng_model.specs.simple.Table.{Table}
use Rattle.rng_deriv_table.specs.views.Node.{Node}
use Rattle.rng_deriv_events.specs.views.Basis.{Basis}
use Rattle.rng_deriv.specs.views.Serving.{Serves, nodes_of}
use Rattle.rng_deriv.specs.declared.learned.Learned.{Learned}

-- it serves the grammar, and contracts see these patterns of it
pub record Opened (t : Table) (seen : Table × List Node) (l : Learned) : Type 0 where
  pub serves : Serves t l
  pub seen_is : (t, nodes_of l) ≡ seen

pub opened : (t : Table) (seen : Table × List Node) (boxed l : Learned) → l ≡ boxed → Serves t boxed → (t, nodes_of boxed) ≡ seen → Opened t seen l
opened t seen boxed l same serves is = subst (Opened t seen) (sym same) (record { serves = serves; seen_is = is })

-- contracts see its keys
pub keys_seen : (t : Table) (v : Basis × List Node) (boxed l : Learned) → l ≡ boxed → (record { grammar = t; keys = boxed.keys }, nodes_of boxed) ≡ v
    → l.keys ≡ v.0.keys
keys_seen t v boxed l same is = ap (λ (l : Learned). l.keys) same ∙ ap (λ (v : Basis × List Node). v.0.keys) is
