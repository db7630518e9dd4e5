use Rattle.std.proofs.Common.{sym, ap, ◌∙◌, map, string_bytes}
use Rattle.rnc_model.specs.loading.Loading.{with_name}
use Rattle.rng_load.specs.views.FilesView.{names_of}
use Rattle.rng_load.proofs.LoadOrder.NameSets.{names_after_insert, name_is_there}
use Rattle.rng_load.proofs.order.note.Goals as goal

pub returns-in_ok-insert : goal.returns-in_ok-insert
returns-in_ok-insert c =
    ap (map string_bytes) c.in_ok-insert.ensures.keys ∙ names_after_insert c.args.names.now.keys c.in_ok-from_str.field-0
    ∙ ap (with_name (names_of c.args.names.now)) c.in_ok-from_str.ensures.ok

pub returns-else-not-contains : goal.returns-else-not-contains
returns-else-not-contains c = name_is_there c.args.names.now.keys c.args.name.now (sym c.contains.ensures ∙ c.if-not-contains.false)
