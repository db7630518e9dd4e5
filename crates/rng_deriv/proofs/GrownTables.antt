-- What is known of a document stays when patterns are added.
use Rattle.std.proofs.Common.{◌≡◌, ◌∙◌, ℕ, List, All, false, length, map, refl, sym, ap, subst, Option, Some, None}
use Rattle.std.specs.List.{AllZip}
use Rattle.std.proofs.lemmas.List.Elements.{All-weaker}
use Rattle.rng_names.specs.plain.Keys.{Keys}
use Rattle.rng_model.specs.simple.Table.{Table}
use Rattle.rng_model.specs.simple.Tree.{Simple}
use Rattle.rng_model.specs.documents.PyxTrees.{Event}
use Rattle.rng_model.specs.matching.GrammarMatching.{Reading, reading_of}
use Rattle.rng_deriv_laws.specs.plain.LevelStates.{IsAfterText}
use Rattle.rng_deriv_table.specs.views.Node.{Node}
use Rattle.rng_deriv_table.specs.views.PatternTable as nodes
use Rattle.rng_deriv_table.specs.views.Trees.{trees}
use Rattle.rng_deriv_table.specs.declared.pattern.PatternNumber.{PatternNumber}
use Rattle.rng_deriv_events.specs.views.LevelsLeft.{LevelLeft, left_of, level_in}
use Rattle.rng_deriv_events.specs.views.Numbers.{IsInside, Longer, tree_of}
use Rattle.rng_deriv_events.specs.views.OpenPositions.{IsPositionKept, open_level, open_position, open_state}
use Rattle.rng_deriv_events.specs.views.Positions.{HasCome, IsKnown, IsLeftInside, IsProgressInside, LeadUp}
use Rattle.rng_deriv_events.specs.views.States.{IsLevelInside}
use Rattle.rng_deriv_events.specs.views.Strings.{HeldString, IsHeld, IsHeldInside}
use Rattle.rng_deriv_events.specs.declared.position.Position.{Position}
use Rattle.rng_deriv_events.specs.declared.progress.Progress.{Progress}
use Rattle.rng_deriv_events.specs.declared.progress.Progress.TheVariants as progress
use Rattle.rng_deriv_events.specs.declared.state.WaysOut.{WaysOut}
use Rattle.rng_deriv_events.proofs.KeptLevels.{kept_longer}
use Rattle.rng_deriv_events.proofs.MarkedLevels.{innermost_inside, lead_stays, left_stays}
use Rattle.rng_deriv_events.proofs.Numbers.{trees_stay}
use Rattle.rng_deriv_events.proofs.OpenStates.{position_inside}
use Rattle.rng_deriv_events.proofs.Positions.{state_stays}
use Rattle.rng_deriv_events.proofs.StateSteps.{level_stays}
use Rattle.rng_reasons.specs.Reasons.{Alternatives}
use Rattle.rng_deriv.specs.views.Followers.{AreAllReduced, HaveLeft, LeaveSuch, alternatives_of}
use Rattle.rng_deriv.specs.views.Matchers.{IsStateBy, Knows, matching_in, trees_in}
use Rattle.rng_deriv.specs.views.Serving.{IsServedBy, Serves, nodes_of, nodes_unless}
use Rattle.rng_deriv.specs.declared.learned.Learned.{Learned}
use Rattle.rng_deriv.specs.declared.matcher_state.MatcherState.{MatcherState}
use Rattle.rng_deriv.proofs.ServedTables.{there_served, trees_longer}

module _ (g : Reading) (keys : Keys) (old new : List (Simple ℕ)) (longer : Longer old new) where
  position_grows : (p : Position) → IsPositionKept g keys old p → IsPositionKept g keys new p
  position_grows p k = record {
    state = record {
      kept = kept_longer g keys old new p.state.table longer k.state.kept;
      now = k.state.now;
      carried = All-weaker (λ (w : WaysOut). IsLevelInside old (open_level w)) (λ (w : WaysOut). IsLevelInside new (open_level w))
          (λ w. level_stays old new longer (open_level w)) p.state.carried.items k.state.carried;
      steps = k.state.steps;
    };
    held = k.held;
  }

  pub progress_grows : (p : Progress) → IsProgressInside g keys old p → IsProgressInside g keys new p
  progress_grows (progress.Going p line) k = position_grows p.value k
  progress_grows (progress.Failed line left) inside = left_stays old new (left_of left.value) longer inside
  progress_grows progress.Lost k = tt

  held_stays : (now : List PatternNumber) → All (IsInside old) now → (h : Option HeldString) → IsHeldInside old (length now) h → (s : List ℕ)
      → IsHeld g old now h s → IsHeld g new now h s
  held_stays now inside None i s is = is
  held_stays now inside (Some h) i s is = (
    is.0,
    subst (λ ps. AllZip (IsAfterText g s) ps (map (tree_of new) h.after)) (sym (trees_stay old new longer now inside))
        (subst (λ ps. AllZip (IsAfterText g s) (map (tree_of old) now) ps) (sym (trees_stay old new longer h.after i.1)) is.1),
  )

  come_stays : (p : Position) (line : ℕ) → IsPositionKept g keys old p → (es : List Event) → HasCome g old (open_position p) line es
      → HasCome g new (open_position p) line es
  come_stays p line k es come =
      let inside = position_inside g keys old p k in
      record {
        matcher = come.matcher;
        position = record {
          state = come.position.state ∙ sym (state_stays old new longer (open_state p.state) inside.state);
          has_begun = come.position.has_begun;
          held = held_stays (open_state p.state).now inside.state.now (open_position p).held inside.held come.matcher.held come.position.held;
        };
        stands = come.stands;
        known = come.known;
        left = come.left;
        last = come.last;
      }

  pub known_stays : (p : Progress) → IsProgressInside g keys old p → (es : List Event) → IsKnown g old p es → IsKnown g new p es
  known_stays (progress.Going p line) k es come = come_stays p.value line k es come
  known_stays (progress.Failed line left) inside es f =
      record { fails = f.fails; is = f.is; left = lead_stays g old new (left_of left.value) f.fails.before longer inside f.left; ends = f.ends }
  known_stays progress.Lost k es known = tt

  -- ---- what is left

  alternatives_stay : (l : LevelLeft) → IsLeftInside old l → alternatives_of old l ≡ alternatives_of new l
  alternatives_stay l inside =
      ap (λ ps. record { behind = ps; in_place = map (tree_of old) l.in_place; has_text = l.has_text }) (sym (trees_stay old new longer l.now inside.now))
      ∙ ap (λ ps. record { behind = map (tree_of new) l.now; in_place = ps; has_text = l.has_text }) (sym (trees_stay old new longer l.in_place inside.in_place))

  such_stays : (AreSo : Alternatives → Type 0) (p : Progress) (es : List Event) (l : LevelLeft) → IsLeftInside old l
      → (LeadUp g old p l es → LeadUp g new p l es) → LeaveSuch g old AreSo p es l → LeaveSuch g new AreSo p es l
  such_stays AreSo p es l inside leads w = record {
    lead = leads w.lead;
    reduced = subst AreAllReduced (alternatives_stay l inside) w.reduced;
    are_so = subst AreSo (alternatives_stay l inside) w.are_so;
  }

  pub have_stays : (AreSo : Alternatives → Type 0) (p : Progress) → IsProgressInside g keys old p → (es : List Event) → HaveLeft g old AreSo p es
      → HaveLeft g new AreSo p es
  have_stays AreSo (progress.Going p line) k es w =
      let inside = innermost_inside g keys old (progress.Going p line) (level_in p.value) refl k in
      such_stays AreSo (progress.Going p line) es (level_in p.value) inside (lead_stays g old new (level_in p.value) es longer inside) w
  have_stays AreSo (progress.Failed line left) inside es w =
      such_stays AreSo (progress.Failed line left) es (left_of left.value) inside
      (λ f. record { fails = f.fails; is = f.is; left = lead_stays g old new (left_of left.value) f.fails.before longer inside f.left; ends = f.ends }) w
  have_stays AreSo progress.Lost k es w = tt

-- ---- a state whose table is there

module _ (t : Table) (s : MatcherState) (state : IsStateBy t s) (l : Learned) (same : l ≡ s.learned.value) (there : l.lost ≡ false) where
  pub served_state : IsServedBy t l.keys false l.table l.numbers.items l.known
  served_state = there_served t l.keys l.lost l.table l.numbers.items l.known there (subst (Serves t) (sym same) state.serves)

  state_inside : IsProgressInside (reading_of t) l.keys (trees t l.table) s.progress
  state_inside =
      subst (λ b. IsProgressInside (reading_of t) l.keys (trees t (nodes_unless b l.table)) s.progress) there
      (subst (λ (n : Learned). IsProgressInside (reading_of t) n.keys (trees t (nodes_of n)) s.progress) (sym same) state.inside)

  known_there : (es : List Event) → Knows (matching_in t s) es → IsKnown (reading_of t) (trees t l.table) s.progress es
  known_there es known =
      subst (λ b. IsKnown (reading_of t) (trees t (nodes_unless b l.table)) s.progress es) there
      (subst (λ (n : Learned). IsKnown (reading_of t) (trees t (nodes_of n)) s.progress es) (sym same) known)

  -- in a table that has grown
  module _ (new : List Node) (longer : nodes.Longer l.table new) where
    pub inside_grown : IsProgressInside (reading_of t) l.keys (trees t new) s.progress
    inside_grown = progress_grows (reading_of t) l.keys (trees t l.table) (trees t new) (trees_longer t l.table new longer) s.progress state_inside

    pub known_grown : (es : List Event) → Knows (matching_in t s) es → IsKnown (reading_of t) (trees t new) s.progress es
    known_grown es known =
        known_stays (reading_of t) l.keys (trees t l.table) (trees t new) (trees_longer t l.table new longer) s.progress state_inside es (known_there es known)

    pub left_grown : (AreSo : Alternatives → Type 0) (es : List Event) → HaveLeft (reading_of t) (trees_in (matching_in t s)) AreSo s.progress es
        → HaveLeft (reading_of t) (trees t new) AreSo s.progress es
    left_grown AreSo es w =
        have_stays (reading_of t) l.keys (trees t l.table) (trees t new) (trees_longer t l.table new longer) AreSo s.progress state_inside es
        (subst (λ b. HaveLeft (reading_of t) (trees t (nodes_unless b l.table)) AreSo s.progress es) there
        (subst (λ (n : Learned). HaveLeft (reading_of t) (trees t (nodes_of n)) AreSo s.progress es) (sym same) w))
