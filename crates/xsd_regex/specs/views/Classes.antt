-- The classes that values of the code stand for.
use Rattle.std.specs.Prelude.{[], ◌∷◌, map}
use Rattle.xsd_regex.specs.declared.class.CharSet.{CharSet}
use Rattle.xsd_regex.specs.declared.class.CharSet.TheVariants as sets
use Rattle.xsd_regex.specs.declared.class.Leaf.{Leaf}
use Rattle.xsd_regex.specs.declared.class.Member.{Member}
use Rattle.xsd_regex.specs.declared.class.Member.TheVariants as members
use Rattle.xsd_regex.specs.declared.class.Class.{Class}
use Rattle.xsd_regex.specs.declared.class.Class.TheVariants as classes
use Rattle.rng_model.specs.regexes.Expressions as spec
use Rattle.rng_model.specs.regexes.Expressions.{ranges, name_start, name_char, category, categories, char_from_to}
use Rattle.rng_model.specs.regexes.Symbols.{white_space, word_char}
use Rattle.rng_model.specs.regexes.plain.Spelling.{negated_if}
use Rattle.xsd_regex.specs.plain.Groups.{Mark, member, ends, class_of_marks}

abbrev pub set_class : CharSet → spec.Class
set_class (sets.Range low high) = char_from_to low high
set_class sets.NameStart = name_start
set_class sets.NameChar = name_char
set_class (sets.Category g) = category g
set_class (sets.Categories g) = categories g
set_class sets.WhiteSpace = white_space
set_class sets.LineEnds = ranges ((0xA, 0xA) ∷ (0xD, 0xD) ∷ [])
set_class sets.WordChars = word_char
set_class sets.PrivateUse = ranges ((0xE000, 0xF8FF) ∷ (0xF0000, 0xFFFFD) ∷ (0x100000, 0x10FFFD) ∷ [])
set_class sets.Specials = ranges ((0xFEFF, 0xFEFF) ∷ (0xFFF0, 0xFFFD) ∷ [])

abbrev pub leaf_class : Leaf → spec.Class
leaf_class l = negated_if l.negated (set_class l.set)

abbrev pub mark_of : Member → Mark
mark_of (members.Leaf l) = member (leaf_class l)
mark_of (members.End neg) = ends neg

abbrev pub class_of : Class → spec.Class
class_of (classes.Leaf l) = leaf_class l
class_of (classes.Groups ms) = class_of_marks (map mark_of ms.items)
