use Rattle.rng_names.proofs.OwnKeys.{put_there}
use Rattle.rng_names.proofs.texts.put.Goals as goal

pub returns : goal.returns
returns c =
    let stored = c.in_ok-place.ensures.stored in
    put_there c.args.all.now.keys c.insert_full.new.self.keys c.args.name _ c.in_ok-place.ensures.keys stored c.insert_full.ensures.unique
