use Rattle.std.proofs.Common.{ap, sym, ◌∙◌}
use Rattle.rng_model.specs.names.NameViews.{class_of, name_of}
use Rattle.rng_names.specs.views.PreparedClasses.{kind_class}
use Rattle.rng_names.proofs.PlainNames.{plain_common, swapped}
use Rattle.rng_names.proofs.NameViews.{are_texts, name_class_is}
use Rattle.rng_names.proofs.prepared_class.PreparedClass.meets.Goals as goal

pub returns-in-Name-clause-common : goal.returns-in-Name-clause-common
returns-in-Name-clause-common c = λ told.
    let n = c.in-Name.name.now in
    let is = name_class_is c.args.self.now n (sym c.self.view_is ∙ ap kind_class c.in-Name.is) in
    swapped (class_of c.args.self.now) (class_of c.args.table.now)
    (plain_common c.contains.result (name_of n) (class_of c.args.self.now) (class_of c.args.table.now) (are_texts n) is c.contains.ensures told)
