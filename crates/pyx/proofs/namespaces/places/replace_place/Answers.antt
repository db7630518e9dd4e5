use Rattle.std.proofs.Common.{Some, rules}
use Rattle.std.proofs.lemmas.Map.Text.{btree_map_updates_text}
use Rattle.pyx.proofs.namespaces.places.replace_place.Goals as goal

pub returns-in-Some-clause-set : goal.returns-in-Some-clause-set
returns-in-Some-clause-set c = λ some q. btree_map_updates_text c.args.prefix.now c.args.prefixes.now (c.get_mut.follows.lender c.args.place) (Some c.args.place)
    ((c.get_mut.follows.holds c.args.place).3 (search rules)) q
