use Rattle.std.proofs.Common.{◌≡◌, ◌+◌, ◌≤◌, length}
use Rattle.rng_model.specs.xsd.primitives.Octets.{without_blanks}
use Rattle.xsd_octets.specs.declared.base64_binary.Place.TheVariants.{First}
use Rattle.xsd_octets.specs.plain.Base64Characters.{character_count}
use Rattle.xsd_octets.specs.views.Places.{are_groups_from}
use Rattle.xsd_octets.proofs.base64_binary.character_count.Given as goal

abbrev pub invariant-characters : goal.invariant-characters
invariant-characters l = record {
  groups : are_groups_from l.place (without_blanks l.rest) ≡ are_groups_from First (without_blanks l.fn.text);
  counted : l.count + character_count (without_blanks l.rest) ≡ character_count (without_blanks l.fn.text);
  within : l.count + length l.rest ≤ length l.fn.text;
}

abbrev pub decreases-characters : goal.decreases-characters
decreases-characters l = length l.rest
