-- White space, the pieces of a text between its blanks, values, and what datatypes say of texts. A text is a list of
-- bytes. Blanks are bytes of their own in UTF-8, so all of this also holds for a list of characters.
use Rattle.std.specs.Prelude.{ℕ, List, Bool, ◌||◌, ◌==◌, IsTrue, [], ◌∷◌, true, false, ℤ, Option, Some, None, cond}
use Rattle.std.specs.List.{list_all, slice_split, filter, join_with_byte}
use Rattle.rng_model.specs.simple.Tree.{Datatype}
use Rattle.std.specs.Bool.{beq}
use Rattle.std.specs.Ordering.{int_eq}
use Rattle.std.specs.Str.{bytes_eq}

-- a space, a tab, a line feed or a carriage return (XML 1.0, section 2.3)
abbrev pub is_blank_byte : ℕ → Bool
is_blank_byte b = (b == 32) || ((b == 9) || ((b == 10) || (b == 13)))

-- nothing but white space (RELAX NG Specification, section 6.2.7)
abbrev pub is_blank : List ℕ → Bool
is_blank s = list_all is_blank_byte s

-- what is known of texts
pub record Texts : Type 1 where
  -- the datatype allows the text; two texts are equal by it (RELAX NG Specification, sections 6.2.8 and 6.2.9)
  pub Allows : Datatype → List ℕ → Type 0
  pub Equals : Datatype → List ℕ → List ℕ → Type 0
  -- the longest pieces without blanks, in order (section 6.2.10)
  pub pieces : List ℕ → List (List ℕ)
  -- nothing but blanks (section 6.2.7)
  pub blank : List ℕ → Bool

-- what datatypes say of texts, and the pieces of a text between its blanks
pub record TextTests : Type 0 where
  pub allows : Datatype → List ℕ → Bool
  pub equals : Datatype → List ℕ → List ℕ → Bool
  pub pieces : List ℕ → List (List ℕ)

-- the same as relations
abbrev pub texts_of : TextTests → Texts
texts_of tests = record { Allows = λ d w. IsTrue (tests.allows d w); Equals = λ d v w. IsTrue (tests.equals d v w); pieces = tests.pieces; blank = is_blank }

-- ---- blanks and pieces

-- the text is not empty
abbrev pub has_bytes : List ℕ → Bool
has_bytes [] = false
has_bytes (b ∷ s) = true

-- the pieces of a text: the parts between its blanks, without the empty ones
unfoldable pub pieces : List ℕ → List (List ℕ)
pieces s = filter has_bytes (slice_split is_blank_byte s)

-- The pieces of a text, joined by single spaces (XML Schema Part 2, section 4.3.6: white space `collapse`)
unfoldable pub collapse : List ℕ → List ℕ
collapse s = join_with_byte 32 (pieces s)

-- ---- values (XML Schema Part 2, section 2: value space and lexical space)

pub data Value : Type 0 where
  text : List ℕ → Value
  truth : Bool → Value
  number : ℤ → Value
  -- a value of another type of XML Schema, by the numbers that it consists of
  numbers : List ℕ → Value

abbrev pub same_value : Value → Value → Bool
same_value (text v) (text w) = bytes_eq v w
same_value (truth a) (truth b) = beq a b
same_value (number m) (number n) = int_eq m n
same_value (numbers v) (numbers w) = bytes_eq v w
same_value _ _ = false

-- of the values of two texts: both texts have a value, and the values are the same
abbrev pub are_equal : Option Value → Option Value → Bool
are_equal None b = false
are_equal (Some a) None = false
are_equal (Some a) (Some b) = same_value a b

-- the text itself, if it passes the test
abbrev pub text_if : Bool → List ℕ → Option Value
text_if passes s = cond passes (Some (text s)) None
