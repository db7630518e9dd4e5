-- States by numbers of a table, as lists.
use Rattle.std.proofs.Common.{◌≡◌, inl, ◌∙◌, ℕ, ◌<◌, List, [], ◌∷◌, ◌++◌, length, map, take, drop, refl, sym, ap, ap₂, subst, All, append_assoc}
use Rattle.std.proofs.Common.{Bool, Option, Some, None, Result, Ok, Err, OnOk, slice_get}
use Rattle.std.specs.List.{AllZip}
use Rattle.std.proofs.lemmas.List.{append-nil}
use Rattle.std.proofs.lemmas.Option.{slice_get_within}
use Rattle.std.proofs.lemmas.List.Elements.{All-append, All-cons, All-contains, All-head, All-map, All-nil, All-push, All-tail, All-weaker, Contains-push}
use Rattle.rng_model.proofs.Places.{all_at as all_there}
use Rattle.rng_names.specs.plain.Keys.{Keys, key_of}
use Rattle.rng_model.specs.names.Names.{Name}
use Rattle.rng_model.specs.simple.Tree.{Simple}
use Rattle.rng_model.specs.matching.Document.{Attribute}
use Rattle.rng_model.specs.matching.GrammarMatching.{Reading}
use Rattle.rng_deriv_laws.specs.plain.LevelStates.{EndsWith, IsAfterTag, StartsLevel}
use Rattle.rng_deriv_table.specs.declared.pattern.PatternNumber.{PatternNumber}
use Rattle.rng_deriv_events.specs.views.LevelTable.{IsStepOf, levels_in, numbers_in, steps_in}
use Rattle.rng_deriv_events.specs.declared.level_table.level.LevelNumber.{LevelNumber}
use Rattle.rng_deriv_events.specs.declared.level_table.table.LevelTable.{LevelTable}
use Rattle.rng_deriv_events.specs.declared.level_table.step.Step.{Step}
use Rattle.rng_deriv_events.specs.declared.level_table.step.StepNumber.{StepNumber}
use Rattle.rng_deriv_events.specs.views.Basis.{Basis, HoldsBy, Keeps, reading_by}
use Rattle.rng_deriv_events.specs.views.KeptLevels.{AddsAfter, AddsLevels, AddsOutside, AreKept, Grows, IsStepKept}
use Rattle.rng_deriv_events.specs.views.Levels.{AddsEnded, AddsOpened}
use Rattle.rng_deriv_events.specs.views.LevelRenewal.{AreWaysRenewed, IsRenewed, IsStateRenewed, rests_in}
use Rattle.rng_deriv_events.specs.views.Numbers.{AreRenewed, Longer}
use Rattle.rng_deriv_events.specs.views.OpenPositions.{IsHeldKept, IsPositionKept, IsStateKept, held_string, level_at, open_level, open_position, open_state}
use Rattle.rng_deriv_events.specs.views.OpenPositions.{open_string, step_level}
use Rattle.rng_deriv_events.specs.views.Positions.{IsPositionInside}
use Rattle.rng_deriv_events.specs.views.States.{AddsState, EndsBy, EndsIf, IsLevelInside, IsStateInside, OpenLevel, OpenState, levels_of, state_of}
use Rattle.rng_deriv_events.specs.views.Strings.{AddsHeld, HeldString, IsHeld, IsHeldInside}
use Rattle.rng_deriv_events.specs.declared.held.Held.{Held}
use Rattle.rng_deriv_events.specs.declared.position.Position.{Position}
use Rattle.rng_deriv_events.specs.declared.state.State.{State}
use Rattle.rng_deriv_events.specs.declared.state.WaysOut.{WaysOut}
use Rattle.rng_deriv_events.proofs.KeptLevels.{adds_through, all_at, below_grows, get_grows, numbers_grow, numbers_inside}
use Rattle.rng_deriv_events.proofs.LevelRenewal.{state_renewed}
use Rattle.rng_deriv_events.proofs.Numbers.{all_before, longer_same, longer_through, map_push}
use Rattle.rng_deriv_events.proofs.Positions.{ends_if, state_stays}
use Rattle.rng_deriv_events.proofs.StateSteps.{ends, enters, level_stays}

abbrev state_from : List PatternNumber → List OpenLevel → OpenState
state_from now levels = record { now = now; levels = levels }

-- ---- what is held is in the table of patterns

pub all_unmap : {A B : Type 0} (P : B → Type 0) (f : A → B) (xs : List A) → All P (map f xs) → All (λ x. P (f x)) xs
all_unmap P f [] all = All-nil (λ x. P (f x))
all_unmap P f (x ∷ xs) all = All-cons (λ x. P (f x)) x xs (All-head P (f x) (map f xs) all) (all_unmap P f xs (All-tail P (f x) (map f xs) all))

step_inside : (g : Reading) (keys : Keys) (trees : List (Simple ℕ)) (t : LevelTable) → AreKept g keys trees t → (n : StepNumber)
    → n.0 < length (steps_in t) → IsLevelInside trees (level_at (steps_in t) n)
step_inside g keys trees t k n lt =
    let s = all_at (IsStepKept g keys trees (levels_in t)) (steps_in t) n.0 k.steps lt in
    subst (λ o. IsLevelInside trees (step_level o)) (sym s.1) s.2.links

pub state_inside : (g : Reading) (keys : Keys) (trees : List (Simple ℕ)) (s : State) → IsStateKept g keys trees s → IsStateInside trees (open_state s)
state_inside g keys trees s k = record {
  now = numbers_inside trees (levels_in s.table) s.now.0 k.kept.levels k.now;
  levels = All-append (IsLevelInside trees) (map open_level s.carried.items) (map (level_at (steps_in s.table)) s.steps.items)
      (All-map (IsLevelInside trees) open_level s.carried.items k.carried)
      (All-map (IsLevelInside trees) (level_at (steps_in s.table)) s.steps.items
      (All-weaker (λ (n : StepNumber). n.0 < length (steps_in s.table)) (λ n. IsLevelInside trees (level_at (steps_in s.table) n))
      (step_inside g keys trees s.table k.kept) s.steps.items k.steps));
}

held_inside : (g : Reading) (keys : Keys) (trees : List (Simple ℕ)) (t : LevelTable) (now : LevelNumber) (string : Option Held) → AreKept g keys trees t
    → IsHeldKept t now string → IsHeldInside trees (length (numbers_in (levels_in t) now.0)) (open_string t string)
held_inside g keys trees t now None k h = tt
held_inside g keys trees t now (Some string) k h = (h.1, numbers_inside trees (levels_in t) string.after.0 k.levels h.0)

pub position_inside : (g : Reading) (keys : Keys) (trees : List (Simple ℕ)) (p : Position) → IsPositionKept g keys trees p
    → IsPositionInside trees (open_position p)
position_inside g keys trees p k = record {
  state = state_inside g keys trees p.state k.state;
  held = held_inside g keys trees p.state.table p.state.now p.held k.state.kept k.held;
}

-- ---- in a table that has grown

pub levels_at_grow : (old new : List Step) → Grows old new → (steps : List StepNumber) → All (λ (n : StepNumber). n.0 < length old) steps
    → map (level_at new) steps ≡ map (level_at old) steps
levels_at_grow old new grown [] all = refl
levels_at_grow old new grown (n ∷ steps) all =
    let Below : StepNumber → Type 0 = λ n. n.0 < length old in
    ap₂ (λ l ls. l ∷ ls) (ap step_level (get_grows old new n.0 grown (All-head Below n steps all)))
    (levels_at_grow old new grown steps (All-tail Below n steps all))

all_below : (old new : List Step) → Grows old new → (steps : List StepNumber) → All (λ (n : StepNumber). n.0 < length old) steps
    → All (λ (n : StepNumber). n.0 < length new) steps
all_below old new grown steps all =
    All-weaker (λ (n : StepNumber). n.0 < length old) (λ (n : StepNumber). n.0 < length new) (λ n lt. below_grows old new n.0 grown lt) steps all

module _ (g h : Reading) (keys others : Keys) (old new : List (Simple ℕ)) (longer : Longer old new) (s n : State) (k : IsStateKept g keys old s)
    (a : AddsLevels s.table h others new n.table) where
  carried_stays : n.carried.items ≡ s.carried.items → All (λ (w : WaysOut). IsLevelInside new (open_level w)) n.carried.items
  carried_stays same =
      subst (All (λ (w : WaysOut). IsLevelInside new (open_level w))) (sym same)
      (All-weaker (λ (w : WaysOut). IsLevelInside old (open_level w)) (λ (w : WaysOut). IsLevelInside new (open_level w))
      (λ w. level_stays old new longer (open_level w)) s.carried.items k.carried)

  open_stays : All (λ (m : StepNumber). m.0 < length (steps_in n.table)) s.steps.items
  open_stays = all_below (steps_in s.table) (steps_in n.table) a.steps s.steps.items k.steps

  same_levels : map (level_at (steps_in n.table)) s.steps.items ≡ map (level_at (steps_in s.table)) s.steps.items
  same_levels = levels_at_grow (steps_in s.table) (steps_in n.table) a.steps s.steps.items k.steps

  -- only the table and the level change
  pub kept_at : n.now.0 < length (levels_in n.table) → n.carried.items ≡ s.carried.items → n.steps.items ≡ s.steps.items → IsStateKept h others new n
  kept_at now carried steps = record {
    kept = a.kept;
    now = now;
    carried = carried_stays carried;
    steps = subst (All (λ (m : StepNumber). m.0 < length (steps_in n.table))) (sym steps) open_stays;
  }

  pub state_grows : n.now ≡ s.now → n.carried.items ≡ s.carried.items → n.steps.items ≡ s.steps.items → open_state n ≡ open_state s
  state_grows now carried steps =
      let first = ap (λ (m : LevelNumber). numbers_in (levels_in n.table) m.0) now
      ∙ numbers_grow (levels_in s.table) (levels_in n.table) s.now.0 a.levels k.now in
      let second = ap (map (level_at (steps_in n.table))) steps ∙ same_levels in
      ap₂ state_from first (ap₂ (λ a b. a ++ b) (ap (map open_level) carried) second)

  -- one more step is open
  module _ (step : StepNumber) (carried : n.carried.items ≡ s.carried.items) (pushed : n.steps.items ≡ s.steps.items ++ step ∷ []) where
    pub kept_pushed : n.now.0 < length (levels_in n.table) → step.0 < length (steps_in n.table) → IsStateKept h others new n
    kept_pushed now below = record {
      kept = a.kept;
      now = now;
      carried = carried_stays carried;
      steps = subst (All (λ (m : StepNumber). m.0 < length (steps_in n.table))) (sym pushed)
          (All-push (λ (m : StepNumber). m.0 < length (steps_in n.table)) s.steps.items step open_stays below);
    }

    pub levels_pushed : (open_state n).levels ≡ (open_state s).levels ++ level_at (steps_in n.table) step ∷ []
    levels_pushed =
        let at = level_at (steps_in n.table) in
        ap (λ ls. map open_level n.carried.items ++ map at ls) pushed
        ∙ ap (λ ls. map open_level n.carried.items ++ ls) (map_push at s.steps.items step)
        ∙ sym (append_assoc (map open_level n.carried.items) (map at s.steps.items) (at step ∷ []))
        ∙ ap (λ ls. ls ++ at step ∷ []) (ap₂ (λ a b. a ++ b) (ap (map open_level) carried) same_levels)

  -- the innermost step ends
  module _ (step : StepNumber) (carried : n.carried.items ≡ s.carried.items) (popped : s.steps.items ≡ n.steps.items ++ step ∷ []) where
    all_then : All (λ (m : StepNumber). m.0 < length (steps_in s.table)) (n.steps.items ++ step ∷ [])
    all_then = subst (All (λ (m : StepNumber). m.0 < length (steps_in s.table))) popped k.steps

    all_left : All (λ (m : StepNumber). m.0 < length (steps_in s.table)) n.steps.items
    all_left = all_before (λ (m : StepNumber). m.0 < length (steps_in s.table)) n.steps.items step all_then

    pub kept_popped : n.now.0 < length (levels_in n.table) → IsStateKept h others new n
    kept_popped now = record {
      kept = a.kept;
      now = now;
      carried = carried_stays carried;
      steps = all_below (steps_in s.table) (steps_in n.table) a.steps n.steps.items all_left;
    }

    pub levels_popped : (open_state s).levels ≡ (open_state n).levels ++ level_at (steps_in s.table) step ∷ []
    levels_popped =
        let at = level_at (steps_in s.table) in
        let stay = levels_at_grow (steps_in s.table) (steps_in n.table) a.steps n.steps.items all_left in
        ap (λ ls. map open_level s.carried.items ++ map at ls) popped
        ∙ ap (λ ls. map open_level s.carried.items ++ ls) (map_push at n.steps.items step)
        ∙ sym (append_assoc (map open_level s.carried.items) (map at n.steps.items) (at step ∷ []))
        ∙ ap (λ ls. ls ++ at step ∷ []) (ap₂ (λ a b. a ++ b) (ap (map open_level) (sym carried)) (sym stay))

-- the step with this number is below the number of steps
pub popped_below : (g : Reading) (keys : Keys) (trees : List (Simple ℕ)) (s : State) (steps : List StepNumber) (step : StepNumber)
    → IsStateKept g keys trees s → s.steps.items ≡ steps ++ step ∷ [] → step.0 < length (steps_in s.table)
popped_below g keys trees s steps step k popped =
    let Below : StepNumber → Type 0 = λ n. n.0 < length (steps_in s.table) in
    All-contains Below (steps ++ step ∷ []) step (subst (All Below) popped k.steps) (Contains-push steps step)

-- ---- a start tag

module _ (g : Reading) (keys : Keys) (q : Name) (xs : List Attribute) (old mid new : List (Simple ℕ)) (s n : State) (t : LevelTable) (step : StepNumber)
    (k : IsStateKept g keys old s) (longer : Longer old mid) (first : AddsLevels s.table g keys mid t)
    (found : IsStepOf (steps_in t) s.now.0 (key_of keys q) step.0) where
  law : IsStepKept g keys mid (levels_in t) found.0
  law = all_there (IsStepKept g keys mid (levels_in t)) (steps_in t) step.0 found.0 first.kept.steps found.1

  pub child_below : found.0.child.0 < length (levels_in t)
  child_below = law.child

  around_is : numbers_in (levels_in t) found.0.from.0 ≡ numbers_in (levels_in s.table) s.now.0
  around_is =
      ap (numbers_in (levels_in t)) found.2 ∙ numbers_grow (levels_in s.table) (levels_in t) s.now.0 first.levels k.now

  opened : AddsOpened g q old mid (numbers_in (levels_in s.table) s.now.0) (numbers_in (levels_in t) found.0.child.0) found.0.links.items
  opened =
      let here = subst (λ ps. AddsOpened g q mid mid ps (numbers_in (levels_in t) found.0.child.0) found.0.links.items) around_is (law.opened q (sym found.3)) in
      record { longer = longer; inside = here.inside; within = here.within; opened = here.opened }

  module _ (second : AddsLevels t g keys new n.table) (after : AddsAfter (IsAfterTag g xs) mid new (numbers_in (levels_in t) found.0.child.0) n.table n.now)
      (carried : n.carried.items ≡ s.carried.items) (pushed : n.steps.items ≡ s.steps.items ++ step ∷ []) where
    all : AddsLevels s.table g keys new n.table
    all = adds_through g g keys keys mid new s.table t n.table first second

    longer_all : Longer old new
    longer_all = longer_through old mid new longer after.after.longer

    there : slice_get (steps_in n.table) step.0 ≡ Some found.0
    there = get_grows (steps_in t) (steps_in n.table) step.0 second.steps (slice_get_within (steps_in t) step.0 found.0 found.1) ∙ found.1

    pub kept_entered : IsStateKept g keys new n
    kept_entered = kept_pushed g g keys keys old new longer_all s n k all step carried pushed after.there
        (slice_get_within (steps_in n.table) step.0 found.0 there)

    pub state_entered : AddsState (StartsLevel g q xs (state_of old (open_state s))) old new (open_state n)
    state_entered =
        let pushed_levels = levels_pushed g g keys keys old new longer_all s n k all step carried pushed in
        let level : OpenLevel = record { around = found.0.around; links = found.0.links.items } in
        enters g q xs old mid new (open_state s) (open_state n) (numbers_in (levels_in t) found.0.child.0) level (state_inside g keys old s k) opened after.after
        (law.around ∙ ap length around_is) (pushed_levels ∙ ap (λ o. (open_state s).levels ++ step_level o ∷ []) there)

-- ---- an end tag

module _ (g : Reading) (keys : Keys) (MayEnd : Simple ℕ → Type 0) (old new : List (Simple ℕ)) (s n : State) (step : StepNumber) (k : IsStateKept g keys old s)
    (a : AddsLevels s.table g keys new n.table) (carried : n.carried.items ≡ s.carried.items) (popped : s.steps.items ≡ n.steps.items ++ step ∷ [])
    (outside : (st : Step) → slice_get (steps_in s.table) step.0 ≡ Some st
    → AddsOutside g MayEnd old new (numbers_in (levels_in s.table) s.now.0) st n.table n.now) where
  -- the step that ends
  ended_step : (st : Step) × (slice_get (steps_in s.table) step.0 ≡ Some st) × IsStepKept g keys old (levels_in s.table) st
  ended_step = all_at (IsStepKept g keys old (levels_in s.table)) (steps_in s.table) step.0 k.kept.steps
      (popped_below g keys old s n.steps.items step k popped)

  leaves : AddsOutside g MayEnd old new (numbers_in (levels_in s.table) s.now.0) ended_step.0 n.table n.now
  leaves = outside ended_step.0 ended_step.1

  pub kept_left : IsStateKept g keys new n
  kept_left = kept_popped g g keys keys old new leaves.ended.ended.longer s n k a step carried popped leaves.ended.there

  pub state_left : AddsState (EndsIf g MayEnd (state_of old (open_state s))) old new (open_state n)
  state_left =
      let all = levels_popped g g keys keys old new leaves.ended.ended.longer s n k a step carried popped in
      let level : OpenLevel = record { around = ended_step.0.around; links = ended_step.0.links.items } in
      let e = ends g leaves.good old new (open_state s) (open_state n) level (state_inside g keys old s k)
      (all ∙ ap (λ o. (open_state n).levels ++ step_level o ∷ []) ended_step.1) leaves.ended.ended in
      record {
        longer = e.longer;
        inside = e.inside;
        is = ends_if g MayEnd leaves.good (state_of old (open_state s)) (state_of new (open_state n)) leaves.which e.is;
      }

-- ---- for derivatives whose basis stays

-- the child of a step that was found
pub child_there : (g : Reading) (keys : Keys) (trees : List (Simple ℕ)) (t : LevelTable) (n : ℕ) (s : Step) → AreKept g keys trees t
    → slice_get (steps_in t) n ≡ Some s → s.child.0 < length (levels_in t)
child_there g keys trees t n s k at = (all_there (IsStepKept g keys trees (levels_in t)) (steps_in t) n s k.steps at).child

pub same_basis : (b d : Basis) (trees : List (Simple ℕ)) (before after : LevelTable) → Keeps (AddsLevels before) b d trees after
    → HoldsBy (AddsLevels before) b trees after
same_basis b d trees before after k = subst (λ b. HoldsBy (AddsLevels before) b trees after) k.basis k.right

pub keeps_basis : (b d : Basis) (trees : List (Simple ℕ)) (s : State) → d ≡ b → HoldsBy IsStateKept b trees s → Keeps IsStateKept b d trees s
keeps_basis b d trees s basis k = record { basis = basis; right = subst (λ b. HoldsBy IsStateKept b trees s) (sym basis) k }

-- ---- an end where no step is open

module _ (b d : Basis) (good : List Bool) (old new : List (Simple ℕ)) (s n : State) (k : HoldsBy IsStateKept b old s)
    (longer : Longer old new) (a : HoldsBy (AddsLevels s.table) d new n.table) (now : n.now.0 < length (levels_in n.table))
    (none : s.steps.items ≡ []) (still : n.steps.items ≡ s.steps.items) where
  no_steps : n.steps.items ≡ []
  no_steps = still ∙ none

  open_none : All (λ (m : StepNumber). m.0 < length (steps_in n.table)) n.steps.items
  open_none = subst (All (λ (m : StepNumber). m.0 < length (steps_in n.table))) (sym no_steps) (All-nil (λ (m : StepNumber). m.0 < length (steps_in n.table)))

  levels_then : (open_state s).levels ≡ map open_level s.carried.items
  levels_then = ap (λ ls. map open_level s.carried.items ++ map (level_at (steps_in s.table)) ls) none ∙ append-nil (map open_level s.carried.items)

  levels_now : (open_state n).levels ≡ map open_level n.carried.items
  levels_now = ap (λ ls. map open_level n.carried.items ++ map (level_at (steps_in n.table)) ls) no_steps ∙ append-nil (map open_level n.carried.items)

  all_stay : (ws : List WaysOut) → All (λ (w : WaysOut). IsLevelInside old (open_level w)) ws → All (λ (w : WaysOut). IsLevelInside new (open_level w)) ws
  all_stay ws all =
      All-weaker (λ (w : WaysOut). IsLevelInside old (open_level w)) (λ (w : WaysOut). IsLevelInside new (open_level w))
      (λ w. level_stays old new longer (open_level w)) ws all

  -- no element is open
  module _ (empty : s.carried.items ≡ []) (left : n.carried.items ≡ []) where
    pub kept_stray : HoldsBy IsStateKept d new n
    kept_stray = record {
      kept = a.kept;
      now = now;
      carried = subst (All (λ (w : WaysOut). IsLevelInside new (open_level w))) (sym left) (All-nil (λ (w : WaysOut). IsLevelInside new (open_level w)));
      steps = open_none;
    }

    pub state_stray : AddsState (EndsBy (reading_by b) good (state_of old (open_state s))) old new (open_state n)
    state_stray = record {
      longer = longer;
      inside = state_inside (reading_by d) d.keys new n kept_stray;
      is = inl (ap (levels_of old) (levels_then ∙ ap (map open_level) empty));
    }

  -- the innermost element ends
  module _ (w : WaysOut) (popped : s.carried.items ≡ n.carried.items ++ w ∷ [])
      (ended : AddsEnded (reading_by b) good w.around old new w.links.items (numbers_in (levels_in n.table) n.now.0)) where
    pub kept_closed : HoldsBy IsStateKept d new n
    kept_closed = record {
      kept = a.kept;
      now = now;
      carried = all_stay n.carried.items (all_before (λ (w : WaysOut). IsLevelInside old (open_level w)) n.carried.items w
          (subst (All (λ (w : WaysOut). IsLevelInside old (open_level w))) popped k.carried));
      steps = open_none;
    }

    pub state_closed : AddsState (EndsBy (reading_by b) good (state_of old (open_state s))) old new (open_state n)
    state_closed =
        ends (reading_by b) good old new (open_state s) (open_state n) (open_level w) (state_inside (reading_by b) b.keys old s k)
        (levels_then ∙ ap (map open_level) popped ∙ map_push open_level n.carried.items w ∙ ap (λ ls. ls ++ open_level w ∷ []) (sym levels_now)) ended

-- ---- an end, after the string of the element was settled

pub ends_held : (g h : Reading) (old mid new : List (Simple ℕ)) (s : OpenState) (n : OpenState) (string : Option HeldString) (held : HeldString) → h ≡ g
    → IsStateInside old s → AddsHeld (IsHeld g old s.now string) g old mid s.now held
    → AddsState (λ n. (t : List ℕ) → IsHeld h mid s.now (Some held) t → EndsIf h (EndsWith h t) (state_of mid s) n) mid new n
    → AddsState (λ n. (t : List ℕ) → IsHeld g old s.now string t → EndsIf g (EndsWith g t) (state_of old s) n) old new n
ends_held g h old mid new s n string held reading inside a e =
    let f = subst (λ g. AddsState (λ n. (t : List ℕ) → IsHeld g mid s.now (Some held) t → EndsIf g (EndsWith g t) (state_of mid s) n) mid new n) reading e in
    record {
      longer = longer_through old mid new a.longer f.longer;
      inside = f.inside;
      is = λ t is. subst (λ k. EndsIf g (EndsWith g t) k (state_of new n)) (state_stays old mid a.longer s inside) (f.is t (a.held t is));
    }

-- ---- the end of an element whose string is known to satisfy `Holds`

module _ (g : Reading) (keys : Keys) (old new : List (Simple ℕ)) (s n : State) (step : StepNumber) (k : IsStateKept g keys old s)
    (a : AddsLevels s.table g keys new n.table) (carried : n.carried.items ≡ s.carried.items) (popped : s.steps.items ≡ n.steps.items ++ step ∷ [])
    (longer : Longer old new) (there : n.now.0 < length (levels_in n.table)) where
  pub kept_left_for : IsStateKept g keys new n
  kept_left_for = kept_popped g g keys keys old new longer s n k a step carried popped there

  pub state_left_for : (MayEnd : List ℕ → Simple ℕ → Type 0) (Holds : List ℕ → Type 0) → ((st : Step) (t : List ℕ) → slice_get (steps_in s.table) step.0 ≡ Some st
      → Holds t → AddsOutside g (MayEnd t) old new (numbers_in (levels_in s.table) s.now.0) st n.table n.now)
      → AddsState (λ n. (t : List ℕ) → Holds t → EndsIf g (MayEnd t) (state_of old (open_state s)) n) old new (open_state n)
  state_left_for MayEnd Holds outside = record {
    longer = longer;
    inside = state_inside g keys new n kept_left_for;
    is = λ t held. (state_left g keys (MayEnd t) old new s n step k a carried popped (λ st at. outside st t at held)).is;
  }

pub ends_held_ok : {A E : Type 0} (g h : Reading) (old mid new : List (Simple ℕ)) (s n : OpenState) (string : Option HeldString) (held : HeldString)
    (r : Result A E) → h ≡ g → IsStateInside old s → AddsHeld (IsHeld g old s.now string) g old mid s.now held
    → OnOk r (AddsState (λ n. (t : List ℕ) → IsHeld h mid s.now (Some held) t → EndsIf h (EndsWith h t) (state_of mid s) n) mid new n)
    → OnOk r (AddsState (λ n. (t : List ℕ) → IsHeld g old s.now string t → EndsIf g (EndsWith g t) (state_of old s) n) old new n)
ends_held_ok g h old mid new s n string held (Ok x) reading inside a e = ends_held g h old mid new s n string held reading inside a e
ends_held_ok g h old mid new s n string held (Err f) reading inside a e = tt

-- ---- a string that is held

pub held_none : (t : LevelTable) (o : Option Held) → o ≡ None → open_string t o ≡ None
held_none t o e = ap (open_string t) e

pub held_is : (t : LevelTable) (o : Option Held) (h : Held) → o ≡ Some h → open_string t o ≡ Some (held_string t h)
held_is t o h e = ap (open_string t) e

-- it is the string that is held
pub held_same : (g : Reading) (keys : Keys) (trees : List (Simple ℕ)) (t : LevelTable) (now : LevelNumber) (o : Option Held) (h : Held) → o ≡ Some h
    → AreKept g keys trees t → IsHeldKept t now o
    → AddsHeld (IsHeld g trees (numbers_in (levels_in t) now.0) (open_string t o)) g trees trees (numbers_in (levels_in t) now.0) (held_string t h)
held_same g keys trees t now o h is k held = record {
  longer = longer_same trees;
  inside = held_inside g keys trees t now (Some h) k (subst (IsHeldKept t now) is held);
  held = λ s e. subst (λ o. IsHeld g trees (numbers_in (levels_in t) now.0) (open_string t o) s) is e;
}

-- the string is beside an element
pub kept_text : (g : Reading) (keys : Keys) (trees : List (Simple ℕ)) (p : Position) (h : Held) → p.held ≡ Some h → IsPositionKept g keys trees p
    → IsStateKept g keys trees (record { table = p.state.table; now = h.after; carried = p.state.carried; steps = p.state.steps })
kept_text g keys trees p h is k =
    let held = subst (IsHeldKept p.state.table p.state.now) is k.held in
    record { kept = k.state.kept; now = held.0; carried = k.state.carried; steps = k.state.steps }

-- no string is held
pub kept_no_string : (g : Reading) (keys : Keys) (trees : List (Simple ℕ)) (p : Position) → p.held ≡ None → IsStateKept g keys trees p.state
    → IsPositionKept g keys trees p
kept_no_string g keys trees p none k = record { state = k; held = subst (IsHeldKept p.state.table p.state.now) (sym none) tt }

-- ---- all steps are carried over

module _ (s n : State) (table : n.table ≡ s.table) (now : n.now ≡ s.now)
    (carried : map open_level n.carried.items ≡ map open_level s.carried.items ++ map (level_at (steps_in s.table)) s.steps.items) (none : n.steps.items ≡ []) where
  levels_carried : (open_state n).levels ≡ (open_state s).levels
  levels_carried =
      ap (λ ls. map open_level n.carried.items ++ map (level_at (steps_in n.table)) ls) none ∙ append-nil (map open_level n.carried.items) ∙ carried

  pub state_carried : open_state n ≡ open_state s
  state_carried =
      ap₂ state_from (ap₂ (λ (t : LevelTable) (m : LevelNumber). numbers_in (levels_in t) m.0) table now) levels_carried

  pub kept_carried : (g : Reading) (keys : Keys) (trees : List (Simple ℕ)) → IsStateKept g keys trees s → IsStateKept g keys trees n
  kept_carried g keys trees k = record {
    kept = subst (AreKept g keys trees) (sym table) k.kept;
    now = subst (λ (m : LevelNumber). m.0 < length (levels_in n.table)) (sym now)
        (subst (λ (t : LevelTable). s.now.0 < length (levels_in t)) (sym table) k.now);
    carried = all_unmap (IsLevelInside trees) open_level n.carried.items
        (subst (All (IsLevelInside trees)) (sym carried) (state_inside g keys trees s k).levels);
    steps = subst (All (λ (m : StepNumber). m.0 < length (steps_in n.table))) (sym none) (All-nil (λ (m : StepNumber). m.0 < length (steps_in n.table)));
  }

-- ---- a renewal where no step is open

levels_bare : (s : State) → s.steps.items ≡ [] → (open_state s).levels ≡ map open_level s.carried.items
levels_bare s none = ap (λ ls. map open_level s.carried.items ++ map (level_at (steps_in s.table)) ls) none ∙ append-nil (map open_level s.carried.items)

pub renewed_to : (old new : List (Simple ℕ)) (s n : State) (held numbers : List PatternNumber) (g : Reading) (keys : Keys) → IsStateKept g keys old s
    → s.steps.items ≡ [] → n.steps.items ≡ [] → held ≡ numbers_in (levels_in s.table) s.now.0 ++ rests_in s.carried.items → AreRenewed old new held numbers
    → numbers_in (levels_in n.table) n.now.0 ≡ take (length (numbers_in (levels_in s.table) s.now.0)) numbers
    → (AllZip (IsRenewed old new) (rests_in s.carried.items) (drop (length (numbers_in (levels_in s.table) s.now.0)) numbers)
    → AllZip (AreWaysRenewed old new) s.carried.items n.carried.items)
    → IsStateRenewed old new (open_state s) (open_state n)
renewed_to old new s n held numbers g keys k none still is r now put =
    state_renewed old new (open_state s) (open_state n) held numbers s.carried.items n.carried.items (state_inside g keys old s k) (levels_bare s none)
    (levels_bare n still) is r now put

pub kept_renewed : (g : Reading) (keys : Keys) (trees : List (Simple ℕ)) (n : State) → AreKept g keys trees n.table → n.now.0 < length (levels_in n.table)
    → n.steps.items ≡ [] → IsStateInside trees (open_state n) → IsStateKept g keys trees n
kept_renewed g keys trees n k now none inside = record {
  kept = k;
  now = now;
  carried = all_unmap (IsLevelInside trees) open_level n.carried.items (subst (All (IsLevelInside trees)) (levels_bare n none) inside.levels);
  steps = subst (All (λ (m : StepNumber). m.0 < length (steps_in n.table))) (sym none) (All-nil (λ (m : StepNumber). m.0 < length (steps_in n.table)));
}

-- ---- before the first event

pub levels_first : (s : State) → s.carried.items ≡ [] → s.steps.items ≡ [] → (open_state s).levels ≡ []
levels_first s carried none = levels_bare s none ∙ ap (map open_level) carried

pub kept_first : (g : Reading) (keys : Keys) (trees : List (Simple ℕ)) (s : State) → AreKept g keys trees s.table → s.now.0 < length (levels_in s.table)
    → s.carried.items ≡ [] → s.steps.items ≡ [] → IsStateKept g keys trees s
kept_first g keys trees s k now carried none = record {
  kept = k;
  now = now;
  carried = subst (All (λ (w : WaysOut). IsLevelInside trees (open_level w))) (sym carried) (All-nil (λ (w : WaysOut). IsLevelInside trees (open_level w)));
  steps = subst (All (λ (m : StepNumber). m.0 < length (steps_in s.table))) (sym none) (All-nil (λ (m : StepNumber). m.0 < length (steps_in s.table)));
}
