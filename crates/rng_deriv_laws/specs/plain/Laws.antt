-- The laws of this crate: derivatives equal the rules of matching, and where a document becomes invalid.
use Rattle.std.specs.Prelude.{◌≡◌, ◌↔◌, ℕ, List, ◌++◌, true}
use Rattle.rng_model.specs.names.Names.{Name, NameClass, In}
use Rattle.rng_model.specs.matching.Document.{Attribute}
use Rattle.rng_model.specs.matching.GrammarMatching.{IsValidBy, Reading}
use Rattle.rng_model.specs.simple.Grammar.{Grammar}
use Rattle.rng_model.specs.restrictions.Restrictions.{ClassIn}
use Rattle.rng_model.specs.datatypes.Texts.{TextTests, texts_of}
use Rattle.rng_model.specs.documents.ElementTrees.{IsElementTree}
use Rattle.rng_model.specs.documents.PyxTrees.{Event, Placed, item_of, events_of, a_start}
use Rattle.rng_deriv_laws.specs.plain.States.{is_never}
use Rattle.rng_deriv_laws.specs.plain.Events.{kinds, Matcher, new, step, run, is_valid}
use Rattle.rng_model.specs.restrictions.RestrictionFaults.{BreaksNone}

abbrev pub reading : Grammar → TextTests → Reading
reading g tests = record { grammar = g; tests = tests }

-- the matcher accepts the events of a document exactly if the document is valid (section 6.3)
abbrev pub AcceptsValidDocuments : Type 0
AcceptsValidDocuments = (g : Grammar) → BreaksNone g → (tests : TextTests) (d : Placed) → IsElementTree d
    → (is_valid (reading g tests) (kinds (events_of d)) ≡ true) ↔ IsValidBy g (texts_of tests) (item_of d)

-- once the state is `never` after some events, no document that begins with these events is valid
abbrev pub NeverIsInvalid : Type 0
NeverIsInvalid = (g : Grammar) → BreaksNone g → (tests : TextTests) (es more : List Event) →
    is_never (run (reading g tests) (new g.start) (kinds es)).state ≡ true →
    (d : Placed) → IsElementTree d → events_of d ≡ es ++ more → ¬ (IsValidBy g (texts_of tests) (item_of d))

-- the state is `never` after a start whose name is in the class of no element
abbrev pub UnknownNameIsNever : Type 0
UnknownNameIsNever = (g : Grammar) (tests : TextTests) (m : Matcher) (q : Name) (xs : List Attribute) →
    ((k : ℕ) (c : NameClass) → ClassIn g k c → ¬ (In c q)) → is_never (step (reading g tests) m (a_start q xs)).state ≡ true

-- the state is `never` after the events of an invalid document
abbrev pub InvalidIsNever : Type 0
InvalidIsNever = (g : Grammar) → BreaksNone g → (tests : TextTests) (d : Placed) → IsElementTree d →
    ¬ (IsValidBy g (texts_of tests) (item_of d)) → is_never (run (reading g tests) (new g.start) (kinds (events_of d))).state ≡ true
