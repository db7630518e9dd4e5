-- Classes that hold all characters past ASCII, or none of them.
use Rattle.std.specs.Prelude.{◌≡◌, ℕ, ◌≤◌, Bool, true, false, nat_lt}
use Rattle.std.specs.List.{list_all}
use Rattle.rng_model.specs.regexes.Expressions as spec
use Rattle.xsd_regex.specs.declared.class.CharSet.{CharSet}
use Rattle.xsd_regex.specs.declared.class.CharSet.TheVariants as sets
use Rattle.xsd_regex.specs.declared.class.Member.{Member}
use Rattle.xsd_regex.specs.declared.class.Member.TheVariants as members
use Rattle.xsd_regex.specs.declared.class.Class.{Class}
use Rattle.xsd_regex.specs.declared.class.Class.TheVariants as classes

abbrev pub IsUniform : spec.Class → Type 0
IsUniform k = (c d : ℕ) → 128 ≤ c → 128 ≤ d → spec.holds k c ≡ spec.holds k d

-- whether the set holds none
abbrev pub is_of_ascii : CharSet → Bool
is_of_ascii (sets.Range low high) = nat_lt high 128
is_of_ascii sets.NameStart = false
is_of_ascii sets.NameChar = false
is_of_ascii (sets.Category g) = false
is_of_ascii (sets.Categories g) = false
is_of_ascii sets.WhiteSpace = true
is_of_ascii sets.LineEnds = true
is_of_ascii sets.WordChars = false
is_of_ascii sets.PrivateUse = false
is_of_ascii sets.Specials = false

-- the set of a member, if it has one, holds none
abbrev pub is_member_of_ascii : Member → Bool
is_member_of_ascii (members.Leaf l) = is_of_ascii l.set
is_member_of_ascii (members.End negated) = true

-- the sets that the class is made of hold none
abbrev pub is_class_of_ascii : Class → Bool
is_class_of_ascii (classes.Leaf l) = is_of_ascii l.set
is_class_of_ascii (classes.Groups ms) = list_all is_member_of_ascii ms.items
