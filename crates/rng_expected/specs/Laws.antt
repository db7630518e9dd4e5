-- What cannot come: after an event that is not expected no continuation is valid (RELAX NG Specification, sections 6.2 and
-- 6.3).
use Rattle.std.specs.Prelude.{◌≡◌, ℕ, List, [], ◌∷◌, ◌++◌}
use Rattle.rng_model.specs.matching.Document.{Attribute, HasNoName}
use Rattle.rng_model.specs.matching.GrammarMatching.{Reading}
use Rattle.rng_model.specs.names.Lists.{Among}
use Rattle.rng_model.specs.names.Names.{In, Name, NameClass}
use Rattle.rng_model.specs.simple.Tree.{Simple}
use Rattle.rng_model.specs.documents.PyxTrees.{Event, a_start, an_end}
use Rattle.rng_deriv_laws.specs.plain.Events.{kinds}
use Rattle.rng_deriv_laws.specs.plain.LevelEvents.{LevelMatcher, SettlesLevels, StandsFor}
use Rattle.rng_deriv_laws.specs.plain.LevelStates.{LevelState}
use Rattle.rng_model.specs.matching.Outcomes.{NoneIsValidAfter}
use Rattle.rng_expected.specs.Expectations.{Ends, IsElementOf, SomeBegins}
use Rattle.rng_expected.specs.Tags.{IsTag, Tag}
use Rattle.std.specs.Prelude.{Contains}

-- the matcher of levels represents these events, and no string has come since the last tag
pub record StandsAtTag (g : Reading) (m : LevelMatcher) (es : List Event) : Type 0 where
  pub stands : StandsFor g m (kinds es)
  pub held : m.held ≡ []

-- no class with which an alternative may begin holds the name
abbrev pub NoClassHolds : Reading → List (Simple ℕ) → Name → Type 0
NoClassHolds g now q = (c : NameClass) → SomeBegins now (IsElementOf g.grammar c) → ¬ (In c q)

-- a start with another name, whatever its attributes, behind the string that has come since the last tag, if one has
abbrev pub OtherStartIsInvalid : Type 0
OtherStartIsInvalid = (g : Reading) (m : LevelMatcher) (settled : LevelState) (es : List Event) (line : ℕ) (q : Name) (xs : List Attribute)
    → StandsFor g m (kinds es) → SettlesLevels g m.held m.state settled → NoClassHolds g settled.now q
    → NoneIsValidAfter g (es ++ record { line = line; kind = a_start q xs } ∷ [])

-- a start without an attribute that its tag must have (sections 6.2.7 and 6.2.8), behind that string
abbrev pub LackingTagIsInvalid : Type 0
LackingTagIsInvalid = (g : Reading) (m : LevelMatcher) (settled : LevelState) (es : List Event) (line : ℕ) (q : Name) (tag : Tag) (n : Name)
    (xs : List Attribute) → StandsFor g m (kinds es) → SettlesLevels g m.held m.state settled → IsTag g settled.now q tag → Contains tag.required n
    → HasNoName n xs → NoneIsValidAfter g (es ++ record { line = line; kind = a_start q xs } ∷ [])

-- a start with an attribute that its tag may not have, behind that string
abbrev pub OtherAttributeIsInvalid : Type 0
OtherAttributeIsInvalid = (g : Reading) (m : LevelMatcher) (settled : LevelState) (es : List Event) (line : ℕ) (q : Name) (tag : Tag) (x : Attribute)
    (xs : List Attribute) → StandsFor g m (kinds es) → SettlesLevels g m.held m.state settled → IsTag g settled.now q tag → Among x xs
    → ((c : NameClass) → Contains tag.attributes c → ¬ (In c x.name)) → NoneIsValidAfter g (es ++ record { line = line; kind = a_start q xs } ∷ [])

-- the end of an element of which no alternative may end
abbrev pub EarlyEndIsInvalid : Type 0
EarlyEndIsInvalid = (g : Reading) (m : LevelMatcher) (es : List Event) (line : ℕ) → StandsAtTag g m es → ¬ (m.state.levels ≡ [])
    → ((p : Simple ℕ) → Contains m.state.now p → ¬ (Ends g m.has_begun p)) → NoneIsValidAfter g (es ++ record { line = line; kind = an_end } ∷ [])
