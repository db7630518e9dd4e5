use Rattle.std.proofs.Common.{ℕ, None, Option, IsSome, subst, sym}
use Rattle.std.proofs.lemmas.Map.Text.{btree_map_updates_text}
use Rattle.pyx.proofs.namespaces.places.restore_place.Goals as goal

pub returns-in-Some : goal.returns-in-Some
returns-in-Some c = rw (c.in-Some.is)
    (λ some. c.replace_place.ensures.set (subst (λ (o : Option ℕ). IsSome o) (sym c.replace_place.ensures.before) some))

pub returns-in-None : goal.returns-in-None
returns-in-None c = rw (c.in-None.is)
    (λ some. btree_map_updates_text c.args.prefix.now c.args.prefixes.now c.remove.new.self None c.remove.ensures.updates)
