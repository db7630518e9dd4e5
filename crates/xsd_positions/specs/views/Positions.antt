-- The positions that values of the code stand for.
use Rattle.std.specs.Prelude.{ℕ, List, map, slice_index_or}
use Rattle.rng_model.specs.regexes.Expressions.{Class, no_char}
use Rattle.xsd_regex.specs.plain.Positions as spec
use Rattle.xsd_regex.specs.plain.Positions.{nothing_part, class_part, both_part, either_part, optional_part, repeated_part}
use Rattle.xsd_regex.specs.views.Classes.{class_of}
use Rattle.xsd_positions.specs.declared.position.Part.{Part}
use Rattle.xsd_positions.specs.declared.position.Part.TheVariants as part
use Rattle.xsd_positions.specs.declared.position.Position.{Position}
use Rattle.xsd_positions.specs.declared.position.Positions.{Positions}

-- a class by its number
abbrev pub class_at : List Class → ℕ → Class
class_at ks n = slice_index_or ks n no_char

abbrev pub part_of : List Class → Part → spec.Part
part_of ks part.Nothing = nothing_part
part_of ks (part.OneOf n) = class_part (class_at ks n)
part_of ks part.Never = class_part no_char
part_of ks (part.Both l) = both_part l
part_of ks (part.Either l) = either_part l
part_of ks part.Optional = optional_part
part_of ks part.Repeated = repeated_part

abbrev pub position_of : List Class → Position → spec.Position
position_of ks p = record { part = part_of ks p.part; next = p.next; is_nullable = p.is_nullable }

abbrev pub positions_of : Positions → List spec.Position
positions_of ps = map (position_of (map class_of ps.classes.items)) ps.positions.items
