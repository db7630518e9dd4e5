use Rattle.std.proofs.Common.{◌++◌}
use Rattle.xsd_regex.specs.views.Classes.{set_class}
use Rattle.xsd_regex.specs.plain.PropertyParts.{block_part}
use Rattle.xsd_regex.proofs.Properties.{found_either}
use Rattle.xsd_regex.proofs.property.find_block.Goals as goal

pub returns : goal.returns
returns c =
    let two = block_part 0 ++ block_part 1 in
    let three = two ++ block_part 2 in
    let four = three ++ block_part 3 in
    let five = four ++ block_part 4 in
    found_either set_class c.args.name.now five (block_part 5) _ _ _
    (found_either set_class c.args.name.now four (block_part 4) _ _ _
    (found_either set_class c.args.name.now three (block_part 3) _ _ _
    (found_either set_class c.args.name.now two (block_part 2) _ _ _
    (found_either set_class c.args.name.now (block_part 0) (block_part 1) _ _ _ c.find_from_basic_latin.ensures c.find_from_gurmukhi.ensures
    c.«or».ensures)
    c.find_from_canadian_syllabics.ensures c.or-2.ensures) c.find_from_control_pictures.ensures c.or-3.ensures)
    c.find_from_hangul_jamo.ensures c.or-4.ensures) c.find_from_small_forms.ensures c.or-5.ensures
