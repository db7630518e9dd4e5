-- What may take what comes first: elements of a grammar, by their numbers, and attributes, by their positions.
use Rattle.std.specs.Prelude.{◌≡◌, ◌⊎◌, ◌<◌, ℕ, List, Some, length, slice_get, true}
use Rattle.rng_names.specs.plain.Keys.{Keys, key_of}
use Rattle.rng_model.specs.names.Names.{Name}
use Rattle.rng_model.specs.simple.Table.{Table}
use Rattle.rng_model.specs.simple.Tree.{Simple, s_not_allowed, s_empty, s_text, s_leaf, s_attribute, s_list, s_data, s_data_except, s_value, s_one_or_more}
use Rattle.rng_model.specs.simple.Tree.{s_joined}
use Rattle.rng_model.specs.names.NameViews.{name_of}
use Rattle.rng_names.specs.plain.Holding.{holds}
use Rattle.rng_deriv_laws.specs.plain.Reading.{has_name}
use Rattle.rng_deriv_table.specs.plain.Facts.{IsWithin, joined_spans}
use Rattle.rng_deriv_table.specs.views.Node.{Node}
use Rattle.rng_deriv_table.specs.views.Skips.{AreSkips}
use Rattle.rng_deriv_table.specs.views.Trees.{attribute_found, tree_of}
use Rattle.rng_deriv_table.specs.declared.pattern.Span.{Span}
use Rattle.rng_deriv_ways.specs.plain.Alike.{AreAlike}
use Rattle.rng_model.specs.matching.GrammarMatching.{reading_of}
use Rattle.rng_deriv_ways.specs.plain.Kinds.{takes_kind}
use Rattle.rng_deriv_ways.specs.declared.takers.Takers.{Takers}
use Rattle.rng_deriv_ways.specs.declared.way.Candidates.{Candidates}
use Rattle.rng_deriv_ways.specs.declared.way.Candidates.TheVariants as candidates
use Rattle.rng_deriv_ways.specs.declared.way.Kind.{Kind}
use Rattle.rng_deriv_ways.specs.declared.way.Kind.TheVariants as kinds

-- an element comes first
abbrev pub IsElementFirst : Kind → Type 0
IsElementFirst (kinds.Element q) = Unit {0}
IsElementFirst (kinds.Attribute q) = ⊥
IsElementFirst kinds.Text = ⊥

-- an element comes first, and the elements that may take it by their names are among these
pub record AreElements (t : Table) (kind : Kind) (takers : Span) : Type 0 where
  pub element : IsElementFirst kind
  pub within : (k : ℕ) → takes_kind (reading_of t) kind (s_leaf k) ≡ true → IsWithin takers k

-- the tree contains an attribute that may have the name, outside elements, lists and excepts
abbrev pub HasAttribute : Name → Simple ℕ → Type 0
HasAttribute q s_not_allowed = ⊥
HasAttribute q s_empty = ⊥
HasAttribute q s_text = ⊥
HasAttribute q (s_leaf k) = ⊥
HasAttribute q (s_attribute c p) = holds c q ≡ true
HasAttribute q (s_list p) = ⊥
HasAttribute q (s_data d) = ⊥
HasAttribute q (s_data_except d p) = ⊥
HasAttribute q (s_value d v) = ⊥
HasAttribute q (s_one_or_more p) = HasAttribute q p
HasAttribute q (s_joined k a b) = HasAttribute q a ⊎ HasAttribute q b

-- the pattern at this position of the grammar is an attribute that may have the name
abbrev pub IsAttributeAt : Table → Name → ℕ → Type 0
IsAttributeAt t q k = HasAttribute q (attribute_found t (slice_get t.patterns k))

-- the attributes of the tree are at positions of the grammar within these
abbrev pub IsSpanOf : Table → Simple ℕ → Span → Type 0
IsSpanOf t p span = (q : Name) → HasAttribute q p → (k : ℕ) × IsWithin span k × IsAttributeAt t q k

-- the same for the first patterns of a table, by their numbers
abbrev pub AreSpansOf : Table → List Node → List Span → Type 0
AreSpansOf t ns spans = (n : ℕ) (span : Span) → slice_get spans n ≡ Some span → (n < length ns) × IsSpanOf t (tree_of t ns n) span

-- an attribute comes first, and the attributes that may take it by their names are among these
abbrev pub AreAttributes : Table → Kind → Span → Type 0
AreAttributes t (kinds.Element q) takers = ⊥
AreAttributes t (kinds.Attribute q) takers = (k : ℕ) → IsAttributeAt t (name_of q.now) k → IsWithin takers k
AreAttributes t kinds.Text takers = ⊥

-- the candidates are right for what comes first
abbrev pub AreCandidates : Table → List Node → Kind → Candidates → Type 0
AreCandidates t ns kind candidates.Any = Unit {0}
AreCandidates t ns kind (candidates.Elements takers alike skips) = AreElements t kind takers × AreAlike t alike.now × AreSkips ns skips.now
AreCandidates t ns kind (candidates.Attributes takers spans) = AreAttributes t kind takers × AreSpansOf t ns spans.now

-- ---- by key

-- the takers of this key, if they are known, include this number
abbrev pub IsTold : Takers → ℕ → ℕ → Type 0
IsTold takers k n = (m : Span) → slice_get takers.by_key.items k ≡ Some m → IsWithin (joined_spans m takers.others) n

-- the same for each element of the grammar and the key of each name that it may have (RELAX NG Specification, section
-- 6.1)
abbrev pub AreAllTold : Table → Keys → Takers → Type 0
AreAllTold t keys takers = (e : ℕ) (q : Name) → has_name (reading_of t) e q ≡ true → IsTold takers (key_of keys q) e

-- the same for each attribute
abbrev pub AreAttributesTold : Table → Keys → Takers → Type 0
AreAttributesTold t keys takers = (k : ℕ) (q : Name) → IsAttributeAt t q k → IsTold takers (key_of keys q) k

-- the elements that may have a name with this key are among these
abbrev pub AreOfKey : Table → Keys → ℕ → Span → Type 0
AreOfKey t keys k takers = (e : ℕ) (q : Name) → key_of keys q ≡ k → has_name (reading_of t) e q ≡ true → IsWithin takers e
