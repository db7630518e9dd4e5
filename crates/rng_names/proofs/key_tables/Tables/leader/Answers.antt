use Rattle.std.proofs.Common.{refl, length, arith}
use Rattle.std.proofs.lemmas.List.{length-map}
use Rattle.std.proofs.lemmas.Option.{slice_get_read, slice_get_within}
use Rattle.rng_model.specs.names.NameViews.{name_of}
use Rattle.rng_names.proofs.key_tables.Tables.leader.Goals as goal

pub returns-clause-inside : goal.returns-clause-inside
returns-clause-inside c =
    let t = c.args.self.now in
    let p = c.index.result.now in
    let shared = c.requires.tables.shared in
    let at = slice_get_read t.shared.leaders.items (length t.shared.leaders.items) c.args.key p refl c.requires.key c.index.ensures in
    let inside = slice_get_within t.shared.keys.items p c.args.key (shared.own c.args.key p at) in
    omega (arith, inside, shared.count, length-map t.places.names.keys name_of)
