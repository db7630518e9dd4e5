-- What is known of the excepts of a grammar while a text is judged.
use Rattle.std.specs.Prelude.{◌≡◌, ℕ, IsTrue, List, Some, false, nat_eq, slice_get}
use Rattle.std.specs.HashSet.{HashSet, contains}
use Rattle.rng_model.specs.simple.Table.{Table, tree_at}
use Rattle.rng_model.specs.declared.simple.PatternId.{PatternId}
use Rattle.rng_model.specs.declared.simple.Simple.TheVariants as rows
use Rattle.rng_deriv_laws.specs.plain.Derivatives.{is_excepted}
use Rattle.rng_model.specs.matching.GrammarMatching.{reading_of}

-- the patterns at these positions of the grammar do not have the text (RELAX NG Specification, section 6.2.8)
abbrev pub AreWithout : {Z : Type 0} → Table → List ℕ → HashSet ℕ Z → Type 0
AreWithout t text without = (k : ℕ) → IsTrue (contains nat_eq without k) → is_excepted (reading_of t) (tree_at t.patterns (record { 0 = k })) text ≡ false

-- the pattern at this position is a choice
abbrev pub IsChoiceAt : Table → PatternId → Type 0
IsChoiceAt t id = (first second : PatternId) × (slice_get t.patterns id.0 ≡ Some (rows.Choice first second))
