-- What is left at a mark, and the events that lead to it.
use Rattle.std.proofs.Common.{◌≡◌, ◌∙◌, ℕ, ◌<◌, List, [], length, map, All, ap, subst, refl, sym, Bool, true, false, not, Option, Some, None}
use Rattle.std.proofs.Common.{if◌then◌else◌}
use Rattle.std.proofs.lemmas.Option.{same_Some}
use Rattle.std.specs.List.{AllZip}
use Rattle.rng_model.specs.datatypes.Texts.{is_blank}
use Rattle.rng_model.specs.simple.Tree.{Simple}
use Rattle.rng_model.specs.documents.PyxTrees.{Event}
use Rattle.rng_model.specs.matching.GrammarMatching.{Reading}
use Rattle.rng_names.specs.plain.Keys.{Keys}
use Rattle.rng_deriv_laws.specs.plain.LevelEvents.{LevelMatcher, SettlesLevels, as_blank, as_text}
use Rattle.rng_deriv_laws.specs.plain.LevelStates.{IsAfterText, LevelState}
use Rattle.rng_deriv_table.specs.declared.pattern.PatternNumber.{PatternNumber}
use Rattle.rng_deriv_events.specs.views.Innermost.{innermost_of}
use Rattle.rng_deriv_events.specs.views.KeptLevels.{Grows}
use Rattle.rng_deriv_events.specs.views.LevelTable.{levels_in, numbers_in}
use Rattle.rng_deriv_events.specs.views.LevelsLeft.{LevelLeft, has_text, left_of, level_in, level_left, mark_of, marked, settled_level}
use Rattle.rng_deriv_events.specs.views.Numbers.{IsInside, Longer, tree_of}
use Rattle.rng_deriv_events.specs.views.OpenPositions.{IsHeldKept, IsPositionKept, open_position, open_state, open_string}
use Rattle.rng_deriv_events.specs.views.Positions.{FailsWith, HasCome, IsKnown, IsLeftInside, IsProgressInside, LeadTo, LeadUp}
use Rattle.rng_deriv_events.specs.views.Strings.{IsHeld}
use Rattle.rng_deriv_events.specs.declared.held.Held.{Held}
use Rattle.rng_deriv_events.specs.declared.left.Left.{Left}
use Rattle.rng_deriv_events.specs.declared.left.Mark.{Mark}
use Rattle.rng_deriv_events.specs.declared.level_table.level.Level.{Level}
use Rattle.rng_deriv_events.specs.declared.level_table.level.LevelNumber.{LevelNumber}
use Rattle.rng_deriv_events.specs.declared.level_table.table.LevelTable.{LevelTable}
use Rattle.rng_deriv_events.specs.declared.position.Position.{Position}
use Rattle.rng_deriv_events.specs.declared.progress.Progress.{Progress}
use Rattle.rng_deriv_events.specs.declared.progress.Progress.TheVariants as progress
use Rattle.rng_deriv_events.proofs.KeptLevels.{numbers_grow, numbers_inside}
use Rattle.rng_deriv_events.proofs.Numbers.{all_inside_stay, longer_through, trees_stay}

pub marked_grows : (old new : List Level) (m : Mark) → Grows old new → (settled_level m.level m.string).0 < length old → m.level.0 < length old
    → marked new m ≡ marked old m
marked_grows old new m g behind there =
    ap (λ ns. level_left ns (numbers_in new m.level.0) m.has_begun (has_text m.string) m.is_open) (numbers_grow old new (settled_level m.level m.string).0 g behind)
    ∙ ap (λ ns. level_left (numbers_in old (settled_level m.level m.string).0) ns m.has_begun (has_text m.string) m.is_open) (numbers_grow old new m.level.0 g there)

-- what is left still has numbers of the table, when patterns are added
pub left_stays : (old new : List (Simple ℕ)) (l : LevelLeft) → Longer old new → IsLeftInside old l → IsLeftInside new l
left_stays old new l longer inside =
    record { now = all_inside_stay old new longer l.now inside.now; in_place = all_inside_stay old new longer l.in_place inside.in_place }

-- what the events lead to stays so, when patterns are added
pub lead_stays : (g : Reading) (old new : List (Simple ℕ)) (l : LevelLeft) (es : List Event) → Longer old new → IsLeftInside old l
    → LeadTo g old l es → LeadTo g new l es
lead_stays g old new l es longer inside t = record {
  matcher = t.matcher;
  stands = t.stands;
  settled = t.settled;
  settles = t.settles;
  now = t.now ∙ sym (trees_stay old new longer l.now inside.now);
  in_place = t.in_place ∙ sym (trees_stay old new longer l.in_place inside.in_place);
  has_begun = t.has_begun;
  has_text = t.has_text;
}

text_is : (g : Reading) (trees : List (Simple ℕ)) (now : List PatternNumber) (t : LevelTable) (string : Option Held) (held : List ℕ)
    → IsHeld g trees now (open_string t string) held → has_text string ≡ not (is_blank held)
text_is g trees now t None held is = sym (ap (λ s. not (is_blank s)) is)
text_is g trees now t (Some h) held is = ap not (sym is.0)

-- ---- a held string

-- the level behind the held string is in the table
pub settled_there : (t : LevelTable) (now : LevelNumber) (o : Option Held) → now.0 < length (levels_in t) → IsHeldKept t now o
    → (settled_level now o).0 < length (levels_in t)
settled_there t now None lt k = lt
settled_there t now (Some h) lt k = by_blank h.blank where
  by_blank : (b : Bool) → (if b then now else h.after).0 < length (levels_in t)
  by_blank true = lt
  by_blank false = k.0

-- a state behind the held string, with the alternatives of a level
pub record Settled (g : Reading) (trees : List (Simple ℕ)) (m : LevelMatcher) (now : List PatternNumber) : Type 0 where
  pub state : LevelState
  pub settles : SettlesLevels g m.held m.state state
  pub now_is : state.now ≡ map (tree_of trees) now

module _ (g : Reading) (trees : List (Simple ℕ)) (t : LevelTable) (now : LevelNumber) (m : LevelMatcher)
    (at : m.state.now ≡ map (tree_of trees) (numbers_in (levels_in t) now.0)) where
  abbrev SettledAt : LevelNumber → Type 0
  SettledAt n = Settled g trees m (numbers_in (levels_in t) n.0)

  pub settled : (o : Option Held) → IsHeld g trees (numbers_in (levels_in t) now.0) (open_string t o) m.held → SettledAt (settled_level now o)
  settled None is = record { state = m.state; settles = as_blank (ap is_blank is); now_is = at }
  settled (Some h) is = by_blank h.blank refl where
    by_blank : (b : Bool) → h.blank ≡ b → SettledAt (if b then now else h.after)
    by_blank true blank = record { state = m.state; settles = as_blank (is.0 ∙ blank); now_is = at }
    by_blank false blank =
        let after = map (tree_of trees) (numbers_in (levels_in t) h.after.0) in
        record {
          state = record { now = after; levels = m.state.levels };
          settles = as_text (is.0 ∙ blank) (record { now = subst (λ ps. AllZip (IsAfterText g m.held) ps after) (sym at) is.1; levels = refl });
          now_is = refl;
        }

-- the events lead to what is left at a position
pub come_left : (g : Reading) (trees : List (Simple ℕ)) (p : Position) (line : ℕ) (es : List Event) → HasCome g trees (open_position p) line es
    → LeadTo g trees (level_in p) es
come_left g trees p line es come =
    let behind = settled g trees p.state.table p.state.now come.matcher (ap (λ s. s.now) come.position.state) p.held come.position.held in
    record {
      matcher = come.matcher;
      stands = come.stands;
      settled = behind.state;
      settles = behind.settles;
      now = behind.now_is;
      in_place = ap (λ s. s.now) come.position.state;
      has_begun = come.position.has_begun;
      has_text = text_is g trees (open_state p.state).now p.state.table p.held come.matcher.held come.position.held;
    }

-- ---- what is left, as far as it is known

left_kept : (g : Reading) (keys : Keys) (trees : List (Simple ℕ)) (p : Position) → IsPositionKept g keys trees p → IsLeftInside trees (level_in p)
left_kept g keys trees p k =
    let levels = levels_in p.state.table in
    record {
      now = numbers_inside trees levels (settled_level p.state.now p.held).0 k.state.kept.levels
          (settled_there p.state.table p.state.now p.held k.state.now k.held);
      in_place = numbers_inside trees levels p.state.now.0 k.state.kept.levels k.state.now;
    }

-- it has numbers of the table
pub innermost_inside : (g : Reading) (keys : Keys) (trees : List (Simple ℕ)) (p : Progress) (l : LevelLeft) → innermost_of p ≡ Some l
    → IsProgressInside g keys trees p → IsLeftInside trees l
innermost_inside g keys trees (progress.Going p line) l is k =
    subst (IsLeftInside trees) (same_Some (level_in p.value) l is) (left_kept g keys trees p.value k)
innermost_inside g keys trees (progress.Failed line left) l is inside =
    subst (IsLeftInside trees) (same_Some (left_of left.value) l is) inside
innermost_inside g keys trees progress.Lost l is k = absurd (cc)

-- the events lead to it
pub innermost_leads : (g : Reading) (trees : List (Simple ℕ)) (p : Progress) (l : LevelLeft) (es : List Event) → innermost_of p ≡ Some l
    → IsKnown g trees p es → LeadUp g trees p l es
innermost_leads g trees (progress.Going p line) l es is come =
    subst (λ (l : LevelLeft). LeadTo g trees l es) (same_Some (level_in p.value) l is) (come_left g trees p.value line es come)
innermost_leads g trees (progress.Failed line left) l es is f =
    subst (λ (l : LevelLeft). FailsWith g trees l left.value.may_end left.value.event es line) (same_Some (left_of left.value) l is) f
innermost_leads g trees progress.Lost l es is known = tt

-- ---- a step from a position

-- what is told of the mark of a position, in tables that have grown
module _ (g : Reading) (keys : Keys) (old mid new : List (Simple ℕ)) (p : Position) (levels : List Level) (m : Mark) (l : Left) (kept : IsPositionKept g keys old p)
    (longer : Longer old mid) (more : Longer mid new) (grows : Grows (levels_in p.state.table) levels) (at : m ≡ mark_of p) (told : left_of l ≡ marked levels m) where
  left_is : left_of l ≡ level_in p
  left_is =
      told ∙ ap (marked levels) at
      ∙ marked_grows (levels_in p.state.table) levels (mark_of p) grows (settled_there p.state.table p.state.now p.held kept.state.now kept.held)
      kept.state.now

  longer_all : Longer old new
  longer_all = longer_through old mid new longer more

  -- what was left before the step has numbers of the table behind it
  pub left_inside : IsLeftInside new (left_of l)
  left_inside = left_stays old new (left_of l) longer_all (subst (IsLeftInside old) (sym left_is) (left_kept g keys old p kept))

  -- and the events before it lead there
  pub left_leads : (line : ℕ) (es : List Event) → HasCome g old (open_position p) line es → LeadTo g new (left_of l) es
  left_leads line es come =
      subst (λ (l : LevelLeft). LeadTo g new l es) (sym left_is)
      (lead_stays g old new (level_in p) es longer_all (left_kept g keys old p kept) (come_left g old p line es come))
