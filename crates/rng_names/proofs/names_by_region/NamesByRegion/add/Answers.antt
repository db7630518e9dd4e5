use Rattle.std.proofs.Common.{refl}
use Rattle.std.proofs.lemmas.Result.{on_ok_weaker}
use Rattle.rng_model.specs.names.NameViews.{name_of}
use Rattle.rng_names.specs.plain.Regions.{sorted_in}
use Rattle.rng_names.proofs.Regions.{name_added}
use Rattle.rng_names.proofs.names_by_region.NamesByRegion.add.Goals as goal

pub returns-clause-adds : goal.returns-clause-adds
returns-clause-adds c =
    let new = sorted_in (record { names = c.put.new.all; regions = c.note_region.new.regions; last = c.args.self.now.last }) in
    on_ok_weaker c.note_region.result
    (λ notes. name_added c.args.region (name_of c.args.name) (sorted_in c.args.self.now) new c.in_ok-place.place c.in_ok-place.ensures notes refl)
    c.note_region.ensures
