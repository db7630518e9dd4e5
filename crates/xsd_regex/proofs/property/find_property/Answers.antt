use Rattle.std.proofs.Common.{sym, ◌∙◌, ◌++◌}
use Rattle.rng_model.specs.regexes.Properties.{category_names, block_names}
use Rattle.xsd_regex.specs.views.Classes.{set_class}
use Rattle.xsd_regex.proofs.Properties.{found_first, found_second, named_by_bytes, ascii_names}
use Rattle.xsd_regex.proofs.property.find_property.Goals as goal

pub returns-in-Some : goal.returns-in-Some
returns-in-Some c =
    found_first c.args.name.now category_names block_names (set_class c.in-Some.set) c.in-Some.ensures
    ∙ sym (named_by_bytes c.args.name.now (category_names ++ block_names) c.utf8.name ascii_names)

pub returns-in-None : goal.returns-in-None
returns-in-None c =
    found_second c.args.name.now category_names block_names _ c.in-None.ensures c.find_block.ensures
    ∙ sym (named_by_bytes c.args.name.now (category_names ++ block_names) c.utf8.name ascii_names)
