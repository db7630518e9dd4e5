-- A matcher that keeps level states: what each event must do to it, and what it represents after events.
use Rattle.std.specs.Prelude.{◌≡◌, ◌↔◌, ℕ, List, [], ◌++◌, length, Bool, true, false, Some, All, Contains}
use Rattle.rng_model.specs.names.Names.{Name, NameClass, In}
use Rattle.rng_model.specs.simple.Tree.{Simple}
use Rattle.rng_model.specs.matching.Document.{Attribute}
use Rattle.rng_model.specs.matching.GrammarMatching.{IsValidBy, Reading}
use Rattle.rng_model.specs.simple.Grammar.{Grammar}
use Rattle.rng_model.specs.restrictions.Restrictions.{ClassIn}
use Rattle.rng_model.specs.datatypes.Texts.{is_blank, TextTests, texts_of}
use Rattle.rng_model.specs.documents.ElementTrees.{IsElementTree}
use Rattle.rng_model.specs.documents.PyxTrees.{Event, EventKind, a_start, a_string, an_end, Placed, item_of, events_of}
use Rattle.rng_deriv_laws.specs.plain.Derivatives.{is_nullable, is_not_allowed}
use Rattle.rng_deriv_laws.specs.plain.Events.{kinds, open_after}
use Rattle.rng_deriv_laws.specs.plain.Laws.{reading}
use Rattle.rng_deriv_laws.specs.plain.Meanings.{IsStart, Runs}
use Rattle.rng_deriv_laws.specs.plain.LevelStates.{LevelState, level_meaning, StartsLevel, TakesString, EndsLevel, EndsNow, EndsWith}

pub record LevelMatcher : Type 0 where
  pub state : LevelState
  -- the element at this level has a child element already
  pub has_begun : Bool
  -- the string since the last tag, or the empty string if there is none
  pub held : List ℕ

module _ (g : Reading) where
  -- the state after the held string, given that an element is beside it
  pub data SettlesLevels (s : List ℕ) (m : LevelState) : LevelState → Type 0 where
    as_blank : is_blank s ≡ true → SettlesLevels s m m
    as_text : {n : LevelState} → is_blank s ≡ false → TakesString g s m n → SettlesLevels s m n

  -- an event leads from a matcher to another
  pub data StepsTo (m : LevelMatcher) : EventKind → LevelMatcher → Type 0 where
    at_start : {n : LevelMatcher} {q : Name} {xs : List Attribute} (k : LevelState) → SettlesLevels m.held m.state k → StartsLevel g q xs k n.state →
        n.has_begun ≡ false → n.held ≡ [] → StepsTo m (a_start q xs) n
    at_string : {n : LevelMatcher} {s : List ℕ} → n.state ≡ m.state → n.has_begun ≡ m.has_begun → n.held ≡ s → StepsTo m (a_string s) n
    at_end : {n : LevelMatcher} (k : LevelState) → m.has_begun ≡ true → SettlesLevels m.held m.state k → EndsLevel g (EndsNow g) k n.state →
        n.has_begun ≡ true → n.held ≡ [] → StepsTo m an_end n
    at_end_of_text : {n : LevelMatcher} → m.has_begun ≡ false → EndsLevel g (EndsWith g m.held) m.state n.state →
        n.has_begun ≡ true → n.held ≡ [] → StepsTo m an_end n
    -- no document has an end where no element is open
    at_stray_end : {n : LevelMatcher} → m.state.levels ≡ [] → StepsTo m an_end n

  -- the matcher represents these events: they lead from a start to it, if they may begin a document
  pub record StandsFor (m : LevelMatcher) (es : List EventKind) : Type 0 where
    pub first : LevelState
    pub start : IsStart g (level_meaning g first)
    pub runs : (n : ℕ) → open_after 0 es ≡ Some n →
        (length m.state.levels ≡ n) × Runs (level_meaning g) first false [] es m.state m.has_begun m.held

-- ---- laws

-- after the events of a document some alternative is nullable exactly if the document is valid (section 6.3)
abbrev pub LevelsAnswer : Type 0
LevelsAnswer = (g : Grammar) (tests : TextTests) (m : LevelMatcher) (d : Placed) → IsElementTree d →
    StandsFor (reading g tests) m (kinds (events_of d)) →
    ((p : Simple ℕ) × Contains m.state.now p × (is_nullable p ≡ true)) ↔ IsValidBy g (texts_of tests) (item_of d)

-- if all alternatives are notAllowed, no document that begins with the events so far is valid
abbrev pub NoLevelsAreInvalid : Type 0
NoLevelsAreInvalid = (g : Grammar) (tests : TextTests) (m : LevelMatcher) (es more : List Event) → StandsFor (reading g tests) m (kinds es) →
    All (λ p. is_not_allowed p ≡ true) m.state.now → (d : Placed) → IsElementTree d → events_of d ≡ es ++ more
    → ¬ (IsValidBy g (texts_of tests) (item_of d))

-- if no alternative is nullable after the events of a document, no document that begins with these events is valid
abbrev pub NoEndIsInvalid : Type 0
NoEndIsInvalid = (g : Grammar) (tests : TextTests) (m : LevelMatcher) (d : Placed) → IsElementTree d →
    StandsFor (reading g tests) m (kinds (events_of d)) → ((p : Simple ℕ) → Contains m.state.now p → ¬ (is_nullable p ≡ true)) →
    (more : List Event) (d' : Placed) → IsElementTree d' → events_of d' ≡ events_of d ++ more
    → ¬ (IsValidBy g (texts_of tests) (item_of d'))

-- no alternative is left after a start whose name is in the class of no element
abbrev pub UnknownNameLeavesNone : Type 0
UnknownNameLeavesNone = (g : Grammar) (tests : TextTests) (m n : LevelMatcher) (q : Name) (xs : List Attribute) →
    ((k : ℕ) (c : NameClass) → ClassIn g k c → ¬ (In c q)) → StepsTo (reading g tests) m (a_start q xs) n → n.state.now ≡ []
