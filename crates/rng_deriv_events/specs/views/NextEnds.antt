-- Whether the end tag of the innermost open element may come next.
use Rattle.std.specs.Prelude.{◌≡◌, ◌↔◌, ⊤, ℕ, List, [], Bool, true, false, Contains}
use Rattle.rng_model.specs.documents.PyxTrees.{Event}
use Rattle.rng_model.specs.matching.GrammarMatching.{Reading}
use Rattle.rng_model.specs.simple.Tree.{Simple}
use Rattle.rng_deriv_laws.specs.plain.Events.{kinds}
use Rattle.rng_deriv_laws.specs.plain.LevelEvents.{LevelMatcher, SettlesLevels, StandsFor}
use Rattle.rng_deriv_laws.specs.plain.LevelStates.{EndsNow, EndsWith, LevelState}
use Rattle.rng_model.specs.matching.Outcomes.{FailsAt}
use Rattle.rng_deriv_events.specs.declared.progress.Progress.{Progress}
use Rattle.rng_deriv_events.specs.declared.progress.Progress.TheVariants as progress

module _ (g : Reading) where
  -- some alternative may end (RELAX NG Specification, section 6.2.7)
  pub data SomeEnds (m : LevelMatcher) : Type 0 where
    -- behind the string since the last tag, beside a child element
    behind_string : (k : LevelState) (p : Simple ℕ) → m.has_begun ≡ true → SettlesLevels g m.held m.state k → Contains k.now p → EndsNow g p → SomeEnds m
    -- with only that string
    with_string : (p : Simple ℕ) → m.has_begun ≡ false → Contains m.state.now p → EndsWith g m.held p → SomeEnds m

  -- an element is open, and some alternative may end
  abbrev pub EndMayCome : LevelMatcher → Type 0
  EndMayCome m = ¬ (m.state.levels ≡ []) × SomeEnds m

-- the events lead to a matcher of levels where the end tag may come next exactly if this is true
pub record LeadToEnd (g : Reading) (told : Bool) (es : List Event) : Type 0 where
  pub matcher : LevelMatcher
  pub stands : StandsFor g matcher (kinds es)
  pub ends : (told ≡ true) ↔ EndMayCome g matcher

-- the same for the events, or else for those before the one, at this line, after which no continuation is valid
abbrev pub TellsEnd : Reading → Progress → Bool → List Event → Type 0
TellsEnd g (progress.Going p line) told es = LeadToEnd g told es
TellsEnd g (progress.Failed line left) told es = (f : FailsAt g es line) × LeadToEnd g told f.before
TellsEnd g progress.Lost told es = ⊤
