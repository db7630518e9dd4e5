use Rattle.std.proofs.Common.{◌++◌}
use Rattle.xsd_regex.specs.views.Classes.{set_class}
use Rattle.xsd_regex.specs.plain.PropertyParts.{letter_names, number_names, other_names}
use Rattle.xsd_regex.proofs.Properties.{found_either}
use Rattle.xsd_regex.proofs.property.find_category.Goals as goal

pub returns : goal.returns
returns c =
    found_either set_class c.args.name.now (letter_names ++ number_names) other_names _ _ _
    (found_either set_class c.args.name.now letter_names number_names _ _ _ c.find_letters.ensures c.find_numbers.ensures c.«or».ensures)
    c.find_others.ensures c.or-2.ensures
