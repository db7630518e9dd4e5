-- The meaning of a matcher's state, whatever the state is made of: what may remain of a document, and how each event
-- must change this. Any matcher whose events do so gives the result of the rules of matching. The states of `States`
-- do.
use Rattle.std.specs.Prelude.{◌≡◌, ◌↔◌, ℕ, List, [], ◌∷◌, ◌++◌, Bool, true, false}
use Rattle.rng_model.specs.names.Names.{Name}
use Rattle.rng_model.specs.matching.Document.{Attribute, Item, a_text, an_element, Items, list_of, Distinct}
use Rattle.rng_model.specs.plain.WellFormed.{Separate}
use Rattle.rng_model.specs.matching.GrammarMatching.{IsValidBy, Reading}
use Rattle.rng_model.specs.simple.Grammar.{Grammar}
use Rattle.rng_model.specs.datatypes.Texts.{is_blank, TextTests, texts_of}
use Rattle.rng_model.specs.documents.ElementTrees.{IsElementTree}
use Rattle.rng_model.specs.documents.PyxTrees.{Event, EventKind, a_start, a_string, an_end, Placed, item_of, events_of}
use Rattle.rng_deriv_laws.specs.plain.Taking.{Takes}
use Rattle.rng_deriv_laws.specs.plain.Blanks.{Every, IsNotBlank, has_element, without_blanks, string_of}
use Rattle.rng_deriv_laws.specs.plain.Events.{kinds}
use Rattle.rng_deriv_laws.specs.plain.Laws.{reading}

pub record Meaning : Type 1 where
  -- what may remain in each open element, the innermost first; blank strings of an element with a child element are
  -- removed
  pub holds : List (List Item) → Type 0
  -- what may be the whole content of an element that just started, with what remains in those around it
  pub begins : List Item → List (List Item) → Type 0

-- no remainder is possible, so no continuation is valid
pub record IsEmpty (m : Meaning) : Type 0 where
  pub holds : (ls : List (List Item)) → m.holds ls → ⊥
  pub begins : (kids : List Item) (ls : List (List Item)) → m.begins kids ls → ⊥

-- the meaning before the first event: what the start takes
abbrev pub IsStart : Reading → Meaning → Type 0
IsStart g m = (ns : List Item) → m.holds (ns ∷ []) ↔ Takes g g.grammar.start [] ns

-- the meaning after a start tag
pub record IsAfterStart (m n : Meaning) (q : Name) (xs : List Attribute) : Type 0 where
  pub begins : (kids : Items) (ns : List Item) (ls : List (List Item)) → Distinct xs → Separate (list_of kids) → Every IsNotBlank ns
      → n.begins (list_of kids) (ns ∷ ls) ↔ m.holds ((an_element q xs kids ∷ ns) ∷ ls)
  pub content : (kids : List Item) (ls : List (List Item)) → has_element kids ≡ true → n.begins kids ls ↔ n.holds (without_blanks kids ∷ ls)

-- the meaning after a string that is not blank, with an element beside it
abbrev pub IsAfterString : Meaning → Meaning → List ℕ → Type 0
IsAfterString m n s = (ns : List Item) (ls : List (List Item)) → Every IsNotBlank (a_text s ∷ ns) → n.holds (ns ∷ ls) ↔ m.holds ((a_text s ∷ ns) ∷ ls)

-- the meaning after the end of an element that has a child element
abbrev pub IsAfterEnd : Meaning → Meaning → Type 0
IsAfterEnd m n = (ls : List (List Item)) → n.holds ls ↔ m.holds ([] ∷ ls)

-- the meaning after the end of an element with only this string, or with nothing if the string is empty
abbrev pub IsAfterEndOfText : Meaning → Meaning → List ℕ → Type 0
IsAfterEndOfText m n s = (kids : List Item) (ls : List (List Item)) → Separate kids → has_element kids ≡ false → string_of kids ≡ s
    → n.holds ls ↔ m.begins kids ls

-- a matcher whose states have these meanings
module _ {S : Type 0} (means : S → Meaning) where
  -- the state after the held string, given that an element is beside it
  pub data Settles (s : List ℕ) : S → S → Type 0 where
    as_blank : {m : S} → is_blank s ≡ true → Settles s m m
    as_text : {m n : S} → is_blank s ≡ false → IsAfterString (means m) (means n) s → Settles s m n

  -- Events lead from a state to another. With each state go whether its level has a child element already, and the held
  -- string.
  pub data Runs : S → Bool → List ℕ → List EventKind → S → Bool → List ℕ → Type 0 where
    stays : {m : S} {b : Bool} {s : List ℕ} → Runs m b s [] m b s
    at_start : {m k n o : S} {b c : Bool} {s u : List ℕ} {q : Name} {xs : List Attribute} {es : List EventKind} →
        Settles s m k → IsAfterStart (means k) (means n) q xs → Runs n false [] es o c u → Runs m b s (a_start q xs ∷ es) o c u
    at_string : {m o : S} {b c : Bool} {s t u : List ℕ} {es : List EventKind} → Runs m b t es o c u → Runs m b s (a_string t ∷ es) o c u
    at_end : {m k n o : S} {c : Bool} {s u : List ℕ} {es : List EventKind} →
        Settles s m k → IsAfterEnd (means k) (means n) → Runs n true [] es o c u → Runs m true s (an_end ∷ es) o c u
    at_end_of_text : {m n o : S} {c : Bool} {s u : List ℕ} {es : List EventKind} →
        IsAfterEndOfText (means m) (means n) s → Runs n true [] es o c u → Runs m false s (an_end ∷ es) o c u

  -- ---- laws

  -- from the start, the events of a document lead to a state that allows the end of the document exactly if the
  -- document is valid
  abbrev pub RunsAnswer : Type 0
  RunsAnswer = (g : Grammar) (tests : TextTests) (m n : S) (b : Bool) (held : List ℕ) (d : Placed) → IsElementTree d →
      IsStart (reading g tests) (means m) → Runs m false [] (kinds (events_of d)) n b held
      → (means n).holds ([] ∷ []) ↔ IsValidBy g (texts_of tests) (item_of d)

  -- if events lead to a state with an empty meaning, no document that begins with them is valid
  abbrev pub EmptyIsInvalid : Type 0
  EmptyIsInvalid = (g : Grammar) (tests : TextTests) (m n : S) (b : Bool) (held : List ℕ) (es more : List Event) → IsStart (reading g tests) (means m) →
      Runs m false [] (kinds es) n b held → IsEmpty (means n) → (d : Placed) → IsElementTree d → events_of d ≡ es ++ more
      → ¬ (IsValidBy g (texts_of tests) (item_of d))
