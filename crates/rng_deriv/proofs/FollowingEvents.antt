-- What may come next, by what is left.
use Rattle.std.proofs.Common.{◌≡◌, ℕ, ◌<◌, List, [], ◌∷◌, All, length, map, refl, sym, ap, subst, Bool, true, false, Some, None}
use Rattle.std.proofs.lemmas.List.Elements.{All-head, All-map, All-nil, All-weaker}
use Rattle.std.proofs.lemmas.Option.{same_Some}
use Rattle.rng_model.specs.simple.Table.{Table}
use Rattle.rng_model.specs.simple.Tree.{Simple}
use Rattle.rng_model.specs.documents.PyxTrees.{Event}
use Rattle.rng_model.specs.matching.GrammarMatching.{Reading, reading_of}
use Rattle.rng_deriv_table.specs.views.Node.{Node}
use Rattle.rng_deriv_table.specs.views.Trees.{trees, tree_of}
use Rattle.rng_deriv_table.specs.declared.pattern.PatternNumber.{PatternNumber}
use Rattle.rng_deriv_events.specs.views.Innermost.{innermost_of}
use Rattle.rng_deriv_events.specs.views.LevelsLeft.{LevelLeft, left_of, level_in, level_left}
use Rattle.rng_deriv_events.specs.views.Numbers as numbers
use Rattle.rng_deriv_events.specs.views.Numbers.{IsInside}
use Rattle.rng_deriv_events.specs.views.Positions.{IsLeftInside, IsLost}
use Rattle.rng_deriv_events.specs.declared.innermost.Innermost.{Innermost}
use Rattle.rng_deriv_events.specs.declared.progress.Progress.{Progress}
use Rattle.rng_deriv_events.specs.declared.progress.Progress.TheVariants as progress
use Rattle.rng_deriv_events.proofs.MarkedLevels.{innermost_inside, innermost_leads}
use Rattle.rng_reasons.specs.AllowedPatterns.{IsReduced}
use Rattle.rng_reasons.specs.Reasons.{Alternatives}
use Rattle.rng_deriv.specs.views.Followers.{AreAllReduced, HaveLeft, LeaveSuch, alternatives_of}
use Rattle.rng_deriv.specs.views.Matchers.{IsStateBy, Knows, matching_in, trees_in}
use Rattle.rng_deriv.specs.views.Serving.{IsTableReduced, nodes_of, nodes_unless}
use Rattle.rng_deriv.specs.views.Alternatives.{alternatives_at, numbers_at, unless_lost}
use Rattle.rng_deriv.specs.declared.matcher_state.MatcherState.{MatcherState}
use Rattle.rng_deriv.proofs.ServedTables.{all_below_there, none_there}

-- ---- numbers of the table, or none where nothing is known of it

-- no number is in an empty table
none_inside : (t : Table) (lost : Bool) (ns : List Node) (now : List PatternNumber) → lost ≡ true → All (IsInside (trees t (nodes_unless lost ns))) now → now ≡ []
none_inside t lost ns [] gone all = refl
none_inside t lost ns (n ∷ now) gone all =
    absurd (none_there t lost ns (t, nodes_unless lost ns) n gone refl (All-head (IsInside (trees t (nodes_unless lost ns))) n now all))

pub left_below : (t : Table) (lost : Bool) (ns : List Node) (now : List PatternNumber) → All (IsInside (trees t (nodes_unless lost ns))) now
    → All (λ n. n.0 < length ns) (unless_lost lost now)
left_below t true ns now all = All-nil (λ (n : PatternNumber). n.0 < length ns)
left_below t false ns now all = all_below_there t false ns (t, ns) refl refl now all

pub left_trees : (t : Table) (lost : Bool) (ns : List Node) (now : List PatternNumber) → All (IsInside (trees t (nodes_unless lost ns))) now
    → map (λ (n : PatternNumber). tree_of t ns n.0) (unless_lost lost now) ≡ map (numbers.tree_of (trees t (nodes_unless lost ns))) now
left_trees t true ns now all = ap (map (numbers.tree_of (trees t []))) (sym (none_inside t true ns now refl all))
left_trees t false ns now all = refl

left_reduced : (t : Table) (lost : Bool) (ns : List Node) (now : List PatternNumber) → (lost ≡ false → IsTableReduced t ns)
    → All (λ n. n.0 < length ns) (unless_lost lost now) → All IsReduced (map (λ (n : PatternNumber). tree_of t ns n.0) (unless_lost lost now))
left_reduced t true ns now reduced below = All-nil IsReduced
left_reduced t false ns now reduced below =
    All-map IsReduced (λ (n : PatternNumber). tree_of t ns n.0) now
    (All-weaker (λ (n : PatternNumber). n.0 < length ns) (λ (n : PatternNumber). IsReduced (tree_of t ns n.0)) (λ n b. reduced refl n.0 b) now below)

-- ---- what is left

-- what the code returns of it
abbrev pub left_in : Innermost → LevelLeft
left_in l = level_left l.alternatives.now l.in_place.now l.has_begun l.has_text l.is_open

abbrev pub left_at : Bool → LevelLeft → List PatternNumber
left_at true l = l.in_place
left_at false l = l.now

pub numbers_left : (in_place : Bool) (l : Innermost) → numbers_at in_place l ≡ left_at in_place (left_in l)
numbers_left true l = refl
numbers_left false l = refl

abbrev pub alternatives : List (Simple ℕ) → List (Simple ℕ) → Bool → Alternatives
alternatives behind in_place has_text = record { behind = behind; in_place = in_place; has_text = has_text }

have_left : (g : Reading) (trees : List (Simple ℕ)) (AreSo : Alternatives → Type 0) (p : Progress) (es : List Event) (l : LevelLeft)
    → innermost_of p ≡ Some l → LeaveSuch g trees AreSo p es l → HaveLeft g trees AreSo p es
have_left g trees AreSo (progress.Going p line) es l is w =
    subst (LeaveSuch g trees AreSo (progress.Going p line) es) (sym (same_Some (level_in p.value) l is)) w
have_left g trees AreSo (progress.Failed line left) es l is w =
    subst (LeaveSuch g trees AreSo (progress.Failed line left) es) (sym (same_Some (left_of left.value) l is)) w
have_left g trees AreSo progress.Lost es l is w = tt

module _ (t : Table) (s : MatcherState) (state : IsStateBy t s) (l : LevelLeft) (is : innermost_of s.progress ≡ Some l) where
  inside : IsLeftInside (trees t (nodes_of s.learned.value)) l
  inside = innermost_inside (reading_of t) s.learned.value.keys (trees t (nodes_of s.learned.value)) s.progress l is state.inside

  pub alternatives_there : All (λ n. n.0 < length s.learned.value.table) (unless_lost s.learned.value.lost l.now)
  alternatives_there = left_below t s.learned.value.lost s.learned.value.table l.now inside.now

  pub in_place_there : All (λ n. n.0 < length s.learned.value.table) (unless_lost s.learned.value.lost l.in_place)
  in_place_there = left_below t s.learned.value.lost s.learned.value.table l.in_place inside.in_place

  abbrev in_table : List PatternNumber → List (Simple ℕ)
  in_table ns = map (λ (n : PatternNumber). tree_of t s.learned.value.table n.0) (unless_lost s.learned.value.lost ns)

  -- what is so of the alternatives in the table is so of them as contracts see them
  in_view : (AreSo : Alternatives → Type 0) → AreSo (alternatives (in_table l.now) (in_table l.in_place) l.has_text)
      → AreSo (alternatives_of (trees_in (matching_in t s)) l)
  in_view AreSo are_so =
      let at = trees_in (matching_in t s) in
      let lost = s.learned.value.lost in
      let table = s.learned.value.table in
      subst (λ ps. AreSo (alternatives (map (numbers.tree_of at) l.now) ps l.has_text)) (left_trees t lost table l.in_place inside.in_place)
      (subst (λ ps. AreSo (alternatives ps (in_table l.in_place) l.has_text)) (left_trees t lost table l.now inside.now) are_so)

  table_reduced : AreAllReduced (alternatives (in_table l.now) (in_table l.in_place) l.has_text)
  table_reduced = record {
    behind = left_reduced t s.learned.value.lost s.learned.value.table l.now state.reduced alternatives_there;
    in_place = left_reduced t s.learned.value.lost s.learned.value.table l.in_place state.reduced in_place_there;
  }

  -- what is so of the alternatives in the table is so of what the events leave
  pub is_left : (AreSo : Alternatives → Type 0) → AreSo (alternatives (in_table l.now) (in_table l.in_place) l.has_text)
      → (es : List Event) → Knows (matching_in t s) es → HaveLeft (reading_of t) (trees_in (matching_in t s)) AreSo s.progress es
  is_left AreSo are_so es known = have_left (reading_of t) (trees_in (matching_in t s)) AreSo s.progress es l is (record {
    lead = innermost_leads (reading_of t) (trees_in (matching_in t s)) s.progress l es is known;
    reduced = in_view AreAllReduced table_reduced;
    are_so = in_view AreSo are_so;
  })

  -- ---- the alternatives behind the string since the last tag, or in its place

  pub there_at : (in_place : Bool) → All (λ n. n.0 < length s.learned.value.table) (unless_lost s.learned.value.lost (left_at in_place l))
  there_at true = in_place_there
  there_at false = alternatives_there

  pub is_left_at : (in_place : Bool) (AreSo : List (Simple ℕ) → Type 0) → AreSo (in_table (left_at in_place l)) → (es : List Event)
      → Knows (matching_in t s) es → HaveLeft (reading_of t) (trees_in (matching_in t s)) (λ left. AreSo (alternatives_at in_place left)) s.progress es
  is_left_at true AreSo are_so = is_left (λ left. AreSo left.in_place) are_so
  is_left_at false AreSo are_so = is_left (λ left. AreSo left.behind) are_so

-- something is left unless a call ran out of memory
pub none_left : (p : Progress) → innermost_of p ≡ None → IsLost p
none_left (progress.Going p line) none = absurd (cc)
none_left (progress.Failed line left) none = absurd (cc)
none_left progress.Lost none = refl

pub some_left : (p : Progress) (l : LevelLeft) → innermost_of p ≡ Some l → IsLost p → ⊥
some_left (progress.Going p line) l some lost = absurd (cc)
some_left (progress.Failed line left) l some lost = absurd (cc)
some_left progress.Lost l some lost = absurd (cc)
