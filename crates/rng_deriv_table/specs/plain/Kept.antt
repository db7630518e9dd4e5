-- What the restrictions of section 7 say of the patterns of a grammar in a table.
use Rattle.std.specs.Prelude.{◌≡◌, ◌⊎◌, ◌↔◌, ℕ, ◌<◌, List, [], length, Some}
use Rattle.rng_model.specs.simple.Tree as tree
use Rattle.rng_model.specs.restrictions.Contents.{ContentType, greater}
use Rattle.rng_model.specs.simple.Table.{Table, tree_at}
use Rattle.rng_model.specs.declared.simple.PatternId.{PatternId}
use Rattle.rng_model.specs.declared.simple.Simple.{Simple}
use Rattle.rng_model.specs.declared.simple.Simple.TheVariants as simple
use Rattle.rng_deriv_laws.specs.plain.Derivatives.{joined_of, repeat_of}
use Rattle.rng_deriv_laws.specs.plain.Restricted.{HasNoAttribute, HasNoneGrouped, RepeatsWell, HasTexts, MayBeListed, IsRestricted, IsTyped, content_type}
use Rattle.rng_deriv_laws.specs.plain.Restricted.{type_of_both}
use Rattle.rng_model.specs.matching.Document.{Attribute, Item}
use Rattle.rng_model.specs.matching.GrammarMatching.{Reading}
use Rattle.rng_deriv_laws.specs.plain.Taking.{Same, Takes}
use Rattle.rng_deriv_table.specs.declared.uses.Use.{Use}
use Rattle.rng_deriv_table.specs.plain.AskedFor.{AreOpened, IsAskedFor, IsNoChoice, IsOwn}
use Rattle.rng_deriv_table.specs.views.Choices.{IsAlternativeOf, SomeTakes}
use Rattle.rng_deriv_table.specs.views.Node.{Node}
use Rattle.rng_deriv_table.specs.plain.Reduced.{HasAlternative, IsReducedChoice}
use Rattle.rng_deriv_table.specs.views.Taking.{numbers_at, taken_over, tree_by}
use Rattle.rng_deriv_table.specs.views.Trees.{tree_of}
use Rattle.rng_deriv_table.specs.declared.pattern.PatternNumber.{PatternNumber}

-- a choice of patterns with these numbers, flat and without notAllowed
pub record IsChoiceOf (of : ℕ → tree.Simple ℕ) (ms : List PatternNumber) (whole : tree.Simple ℕ) : Type 0 where
  pub within : (s : tree.Simple ℕ) → HasAlternative whole s → IsAlternativeOf of ms s
  pub reduced : IsReducedChoice whole

-- the pattern has a content type that is not greater (section 7.2), or is notAllowed
abbrev pub HasContentWithin : ContentType → tree.Simple ℕ → Type 0
HasContentWithin most p = ((c : ContentType) × (content_type p ≡ Some c) × (greater c most ≡ most)) ⊎ (p ≡ tree.s_not_allowed)

-- the pattern contains no list, as in the body of a list (section 7.1.3)
abbrev pub HasNoLists : tree.Simple ℕ → Type 0
HasNoLists p = HasTexts (λ q. ⊥) p

-- an interleave of the members of both, nested in some way: the whole obeys the restrictions that its members obey
pub record IsInterleaveOf (p q whole : tree.Simple ℕ) : Type 0 where
  pub bare : HasNoAttribute p → HasNoAttribute q → HasNoAttribute whole
  pub repeats : RepeatsWell p → RepeatsWell q → RepeatsWell whole
  pub texts : HasTexts MayBeListed p → HasTexts MayBeListed q → HasTexts MayBeListed whole
  pub unlisted : HasNoLists p → HasNoLists q → HasNoLists whole
  pub content : (u v c : ContentType) → type_of_both (Some u) (Some v) ≡ Some c → HasContentWithin u p → HasContentWithin v q → HasContentWithin c whole

-- a pattern made over these members of a pattern of a grammar, which is no choice
abbrev pub IsMadeOver : Table → (PatternId → tree.Simple ℕ) → Simple → tree.Simple ℕ → Type 0
IsMadeOver t of simple.NotAllowed p = p ≡ taken_over t of simple.NotAllowed
IsMadeOver t of simple.Empty p = p ≡ taken_over t of simple.Empty
IsMadeOver t of simple.Text p = p ≡ taken_over t of simple.Text
IsMadeOver t of (simple.Element e) p = p ≡ taken_over t of (simple.Element e)
IsMadeOver t of (simple.Attribute class body) p = p ≡ taken_over t of (simple.Attribute class body)
IsMadeOver t of (simple.List body) p = p ≡ taken_over t of (simple.List body)
IsMadeOver t of (simple.Data datatype) p = p ≡ taken_over t of (simple.Data datatype)
IsMadeOver t of (simple.DataExcept datatype except) p = p ≡ taken_over t of (simple.DataExcept datatype except)
IsMadeOver t of (simple.Value value) p = p ≡ taken_over t of (simple.Value value)
IsMadeOver t of (simple.OneOrMore body) p = p ≡ repeat_of (of body)
IsMadeOver t of (simple.Group a b) p = p ≡ joined_of tree.group (of a) (of b)
IsMadeOver t of (simple.Interleave a b) p = IsInterleaveOf (of a) (of b) p
IsMadeOver t of (simple.Choice a b) p = ⊥

-- the second pattern obeys the restrictions that the first obeys
pub record KeepsRestrictions (p made : tree.Simple ℕ) : Type 0 where
  pub bare : HasNoAttribute p → HasNoAttribute made
  pub ungrouped : HasNoneGrouped p → HasNoneGrouped made
  pub repeats : RepeatsWell p → RepeatsWell made
  pub texts : HasTexts MayBeListed p → HasTexts MayBeListed made
  pub unlisted : HasNoLists p → HasNoLists made
  pub content : (c : ContentType) → content_type p ≡ Some c → HasContentWithin c made
  pub not_allowed : p ≡ tree.s_not_allowed → made ≡ tree.s_not_allowed

-- a pattern that takes the same as the first one, and obeys the restrictions that it obeys
pub record IsRegrouped (p made : tree.Simple ℕ) : Type 0 where
  pub same : (g : Reading) → Same g made p
  pub kept : KeepsRestrictions p made

-- the patterns of the table with these numbers obey what the grammar's patterns obey, at positions with a property
abbrev pub AreKeptAt : (ℕ → Type 0) → Table → List Node → List PatternNumber → Type 0
AreKeptAt Has t ns numbers = (i : ℕ) → i < length numbers → Has i
    → KeepsRestrictions (tree_at t.patterns (record { 0 = i })) (tree_by t ns numbers (record { 0 = i }))

-- the patterns of the table are restricted, without lists and typed where those of the grammar are, at positions that
-- are asked for
pub record AreRestrictedAlike (t : Table) (ns : List Node) (numbers : List PatternNumber) : Type 0 where
  pub restricted : (id : PatternId) → id.0 < length numbers → IsAskedFor t id.0 → IsRestricted (tree_at t.patterns id) → IsRestricted (tree_by t ns numbers id)
  pub unlisted : (id : PatternId) → id.0 < length numbers → IsAskedFor t id.0 → HasNoLists (tree_at t.patterns id) → HasNoLists (tree_by t ns numbers id)
  pub typed : (id : PatternId) → id.0 < length numbers → IsAskedFor t id.0 → IsTyped (tree_at t.patterns id) → IsTyped (tree_by t ns numbers id)

-- a choice of the members of a choice of a grammar, by their numbers
pub record IsChoiceTaken (t : Table) (us : List Use) (numbers : List PatternNumber) (first second : PatternId) (old new : List Node) (n : ℕ) : Type 0 where
  pub positions : List PatternId
  pub opened : AreOpened t us first second [] positions
  pub takes : (g : Reading) (xs : List Attribute) (ks : List Item) → Takes g (tree_of t new n) xs ks
      ↔ SomeTakes g (tree_of t old) (numbers_at numbers positions) xs ks
  pub made : IsChoiceOf (tree_of t old) (numbers_at numbers positions) (tree_of t new n)

-- the pattern of the number is what the grammar's pattern is over the patterns before it, unless that has no number
pub data IsTakenAs (t : Table) (us : List Use) (numbers : List PatternNumber) (k : ℕ) (row : Simple) (old new : List Node) (n : ℕ) : Type 0 where
  by_parts : IsNoChoice row → ((g : Reading) → Same g (tree_of t new n) (taken_over t (tree_by t old numbers) row))
      → IsMadeOver t (tree_by t old numbers) row (tree_of t new n) → IsTakenAs t us numbers k row old new n
  by_members : (first second : PatternId) → row ≡ simple.Choice first second → IsChoiceTaken t us numbers first second old new n
      → IsTakenAs t us numbers k row old new n
  unnumbered : (first second : PatternId) → row ≡ simple.Choice first second → ¬ (IsOwn us k) → IsTakenAs t us numbers k row old new n

-- the pattern of this number is an interleave of the members of the other two
pub record Interleaves (old new : List Node) (first second number : ℕ) : Type 0 where
  pub inside : number < length new
  pub same : (t : Table) (g : Reading) → Same g (tree_of t new number) (tree.s_joined tree.interleave (tree_of t old first) (tree_of t old second))
  pub made : (t : Table) → IsInterleaveOf (tree_of t old first) (tree_of t old second) (tree_of t new number)
