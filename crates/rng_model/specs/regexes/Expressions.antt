-- Classes of characters, regular expressions, and which texts they match (XML Schema Part 2, Second Edition, appendix F).
-- A character is its Unicode number, and a text is a list of characters.
use Rattle.std.specs.Prelude.{ℕ, suc, ◌≡◌, ◌≤◌, List, [], ◌∷◌, ◌++◌, Bool, true, not, ◌&&◌, ◌||◌, Option, IfSome}
use Rattle.ucd_category.specs.declared.GeneralCategory.{GeneralCategory}
use Rattle.ucd_category.specs.declared.GeneralCategoryGroup.{GeneralCategoryGroup}
use Rattle.ucd_category.specs.GeneralCategory.{general_category, general_category_eq}
use Rattle.ucd_category.specs.GeneralCategoryGroup.{in_group}
use Rattle.rng_model.specs.names.Names.{is_in_ranges, is_name_start, is_name_char}

-- ---- classes of characters

-- A set of characters (section F.1). `either_class` is the union of two sets, `minus` the difference.
pub data Class : Type 0 where
  -- the first and the last of each range
  ranges : List (ℕ × ℕ) → Class
  -- the characters that may begin a name, and those that may occur in it
  name_start name_char : Class
  -- the characters of a general category of Unicode, or of a group of them
  category : GeneralCategory → Class
  categories : GeneralCategoryGroup → Class
  either_class : Class → Class → Class
  complement : Class → Class
  minus : Class → Class → Class

abbrev pub holds : Class → ℕ → Bool
holds (ranges rs) c = is_in_ranges rs c
holds name_start c = is_name_start c
holds name_char c = is_name_char c
holds (category g) c = general_category_eq (general_category c) g
holds (categories g) c = in_group g (general_category c)
holds (either_class a b) c = holds a c || holds b c
holds (complement a) c = not (holds a c)
holds (minus a b) c = holds a c && not (holds b c)

-- the characters from one to another, one character, and none
abbrev pub char_from_to : ℕ → ℕ → Class
char_from_to low high = ranges ((low, high) ∷ [])

abbrev pub only_char : ℕ → Class
only_char c = char_from_to c c

abbrev pub no_char : Class
no_char = ranges []

-- ---- regular expressions

pub data Regex : Type 0 where
  -- the empty branch
  nothing_more : Regex
  one_of : Class → Regex
  -- one after the other
  both : Regex → Regex → Regex
  either : Regex → Regex → Regex
  -- at least so often, and at most so often, if there is a limit
  times : ℕ → Option ℕ → Regex → Regex

-- L(R), the texts that an expression matches as a whole (the tables of appendix F)
mutual
  pub data Denotes : Regex → List ℕ → Type 0 where
    nothing_is : Denotes nothing_more []
    one_is : {k : Class} {c : ℕ} → holds k c ≡ true → Denotes (one_of k) (c ∷ [])
    both_are : {a b : Regex} {s t all : List ℕ} → Denotes a s → Denotes b t → all ≡ s ++ t → Denotes (both a b) all
    first_is : {a b : Regex} {s : List ℕ} → Denotes a s → Denotes (either a b) s
    second_is : {a b : Regex} {s : List ℕ} → Denotes b s → Denotes (either a b) s
    so_often : {least : ℕ} {most : Option ℕ} {a : Regex} {s : List ℕ} (n : ℕ) → AreCopies a n s → least ≤ n → IfSome most (λ m. n ≤ m)
        → Denotes (times least most a) s

  -- so many texts of L(R), one after the other
  pub data AreCopies : Regex → ℕ → List ℕ → Type 0 where
    no_copy : {a : Regex} → AreCopies a 0 []
    copy_and : {a : Regex} {n : ℕ} {s t all : List ℕ} → Denotes a s → AreCopies a n t → all ≡ s ++ t → AreCopies a (suc n) all
