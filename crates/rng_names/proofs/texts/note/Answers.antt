use Rattle.std.proofs.Common.{ap, sym, ◌∙◌, Some, bytes_eq}
use Rattle.std.specs.Map.{update}
use Rattle.rng_model.specs.names.NameViews.{namespace_bytes}
use Rattle.rng_names.proofs.KeyLookups.{number_found, updates_at}
use Rattle.rng_names.proofs.texts.note.Goals as goal

pub returns : goal.returns
returns c = λ u.
    sym (number_found u c.insert.new.self.entries)
    ∙ updates_at (namespace_bytes c.args.ns) c.args.numbers.now c.insert.new.self (Some c.args.number) c.in_ok-insert.ensures.updates u
    ∙ ap (λ f. update bytes_eq f (namespace_bytes c.args.ns) (Some c.args.number) u) (λ i v. number_found v c.args.numbers.now.entries i)
