-- What the symbols that are read so far are a part of, in each mode.
use Rattle.std.proofs.Common.{◌≡◌, ◌∙◌, ◌≤◌, ℕ, zero, List, [], ◌∷◌, ◌++◌, Bool, true, false}
use Rattle.std.proofs.Common.{Option, Some, None, refl, ap}
use Rattle.std.specs.Str.Parse.{IsNumeral, digits_value}
use Rattle.std.proofs.lemmas.List.{append_assoc}
use Rattle.rng_model.specs.declared.regex_mode.RegexMode.{RegexMode}
use Rattle.rng_model.specs.declared.regex_mode.RegexMode.TheVariants as mode
use Rattle.rng_model.specs.declared.regex_mode.ClassPlace.{ClassPlace}
use Rattle.rng_model.specs.regexes.Expressions.{Class, no_char, Regex, both, times}
use Rattle.rng_model.specs.regexes.Symbols.{Symbol, char}
use Rattle.rng_model.specs.regexes.ExpressionGrammar.{chars_of, most_count, IsCount, IsQuantifier, IsGroup}
use Rattle.rng_model.specs.regexes.ExpressionGrammar.{IsExpression, IsBranch, piece_and, once, quantified, IsAtom}
use Rattle.rng_model.specs.regexes.plain.Held.{with_last, with_last_two}
use Rattle.rng_model.specs.regexes.plain.ClassSteps.{State}
use Rattle.xsd_regex.proofs.SoundClasses.{Group, InClass}

-- what is before the branch that is read
pub data Outer : List Symbol → List Bool → Bool → List Regex → Type 0 where
  no_outer : Outer [] [] false []
  after_bar : {us vs all : List Symbol} {gs : List Bool} {rs : List Regex} {x : Regex} → Outer us gs false rs → IsExpression vs x
      → all ≡ us ++ (vs ++ char 0x7C ∷ []) → Outer all gs true (x ∷ rs)
  in_group : {us vs all : List Symbol} {gs : List Bool} {b : Bool} {rs : List Regex} {a : Regex} → Outer us gs b rs → IsBranch vs a
      → all ≡ us ++ (vs ++ char 0x28 ∷ []) → Outer all (b ∷ gs) false (a ∷ rs)

-- with the branch
pub data InBranch : List Symbol → List Bool → Bool → List Regex → Type 0 where
  in_branch : {us vs all : List Symbol} {gs : List Bool} {b : Bool} {rs : List Regex} {a : Regex} → Outer us gs b rs → IsBranch vs a
      → all ≡ us ++ vs → InBranch all gs b (a ∷ rs)

-- and with an atom
pub data AtAtom : List Symbol → List Bool → Bool → List Regex → Type 0 where
  at_atom : {us vs all : List Symbol} {gs : List Bool} {b : Bool} {qs : List Regex} {x : Regex} → InBranch us gs b qs → IsAtom vs x
      → all ≡ us ++ vs → AtAtom all gs b (x ∷ qs)

pub settled : {us : List Symbol} {gs : List Bool} {b : Bool} {qs : List Regex} → AtAtom us gs b qs → InBranch us gs b (with_last_two both qs)
settled (at_atom {vs = ws} (in_branch {us} {vs} o br p) at q) =
    in_branch o (piece_and br (once at) refl) (q ∙ ap (λ l. l ++ ws) p ∙ append_assoc us vs ws)

pub settled_times : {us all : List Symbol} {gs : List Bool} {b : Bool} {qs : List Regex} {n : ℕ} {m : Option ℕ} (zs : List Symbol) → AtAtom us gs b qs
    → IsQuantifier zs n m → all ≡ us ++ zs → InBranch all gs b (with_last_two both (with_last (times n m) qs))
settled_times zs (at_atom {vs = ws} (in_branch {us} {vs} o br p) at q) is parts =
    in_branch o (piece_and br (quantified at is refl) refl)
    (parts ∙ ap (λ l. l ++ zs) (q ∙ ap (λ l. l ++ ws) p) ∙ ap (λ l. l ++ zs) (append_assoc us vs ws) ∙ append_assoc us (vs ++ ws) zs
    ∙ ap (λ l. us ++ l) (append_assoc vs ws zs))

-- the digits of a number that is read, if there are any
pub data Digits : Option ℕ → List ℕ → Type 0 where
  no_digits : Digits None []
  digits : {n : ℕ} {ds : List ℕ} → IsNumeral 10 ds → n ≡ digits_value 10 ds → n ≤ most_count → Digits (Some n) ds

-- what is read so far
pub data Reads : List Symbol → List Class → List Regex → List Bool → Bool → ℕ → RegexMode → Type 0 where
  ready : {us : List Symbol} {gs : List Bool} {b : Bool} {qs : List Regex} → InBranch us gs b qs → Reads us [] qs gs b zero mode.Ready
  atom : {us : List Symbol} {gs : List Bool} {b : Bool} {qs : List Regex} → AtAtom us gs b qs → Reads us [] qs gs b zero mode.Atom
  least : {us all : List Symbol} {gs : List Bool} {b : Bool} {qs : List Regex} {o : Option ℕ} {ds : List ℕ} → AtAtom us gs b qs → Digits o ds
      → all ≡ us ++ char 0x7B ∷ chars_of ds → Reads all [] qs gs b zero (mode.Least o)
  most : {us ns all : List Symbol} {gs : List Bool} {b : Bool} {qs : List Regex} {n : ℕ} {o : Option ℕ} {ds : List ℕ} → AtAtom us gs b qs → IsCount ns n
      → Digits o ds → all ≡ us ++ char 0x7B ∷ (ns ++ char 0x2C ∷ chars_of ds) → Reads all [] qs gs b zero (mode.Most n o)
  open_class : {us vs all : List Symbol} {gs : List Bool} {b : Bool} {qs : List Regex} {d : ℕ} {ks : List Class} → InBranch us gs b qs → InClass vs d ks
      → all ≡ us ++ vs → Reads all (no_char ∷ ks) qs gs b d mode.Open
  in_class : {us vs ws all : List Symbol} {gs : List Bool} {b : Bool} {qs : List Regex} {d : ℕ} {ks : List Class} {neg : Bool} {p : ClassPlace} {k : Class}
      → InBranch us gs b qs → InClass vs d ks → Group neg p ws k → all ≡ us ++ (vs ++ ws)
      → Reads all (k ∷ ks) qs gs b d (mode.Group neg p)
  closed : {us vs ws all : List Symbol} {gs : List Bool} {b : Bool} {qs : List Regex} {d : ℕ} {ks : List Class} {k : Class}
      → InBranch us gs b qs → InClass vs d ks → IsGroup ws k → all ≡ us ++ (vs ++ ws) → Reads all (k ∷ ks) qs gs b d mode.Closed

abbrev pub ReadsTo : List Symbol → State → Type 0
ReadsTo us s = Reads us s.held.classes s.held.regexes s.groups s.alternative s.depth s.mode
