-- From position to position.
use Rattle.std.proofs.Common.{◌≡◌, ◌↔◌, inl, inr, true, false, ℕ, List, [], length, map, refl, sym, ap, ◌∙◌, subst, All, Bool, Option, Some, None}
use Rattle.std.specs.List.{AllZip}
use Rattle.std.proofs.lemmas.List.Elements.{All-weaker}
use Rattle.rng_model.specs.names.Names.{Name}
use Rattle.rng_model.specs.simple.Tree.{Simple}
use Rattle.rng_model.specs.datatypes.Texts.{is_blank}
use Rattle.rng_model.specs.matching.Document.{Attribute}
use Rattle.rng_model.specs.documents.PyxTrees.{a_start, a_string, an_end}
use Rattle.rng_model.specs.matching.GrammarMatching.{Reading}
use Rattle.rng_deriv_laws.specs.plain.LevelStates.{IsAfterText, StartsLevel, LevelState, EndsLevel, EndsNow, EndsWith}
use Rattle.rng_deriv_laws.specs.plain.LevelEvents.{LevelMatcher, SettlesLevels, StepsTo, as_blank, as_text, at_start, at_string, at_end, at_end_of_text}
use Rattle.rng_deriv_laws.specs.plain.LevelEvents.{at_stray_end}
use Rattle.rng_deriv_laws.proofs.Levels.Events.{settled_levels}
use Rattle.rng_deriv_table.specs.declared.pattern.PatternNumber.{PatternNumber}
use Rattle.rng_deriv_events.specs.views.Numbers.{Longer, IsInside, tree_of, AddsEach}
use Rattle.rng_deriv_events.specs.views.Levels.{AreEndsWith}
use Rattle.rng_deriv_events.specs.views.OpenPositions.{OpenPosition}
use Rattle.rng_deriv_events.specs.views.States.{OpenState, state_of, IsStateInside, AddsState, EndsBy, EndsIf, levels_of, IsLevelInside}
use Rattle.rng_deriv_events.specs.views.Strings.{HeldString, IsHeld, IsHeldInside, AddsHeld}
use Rattle.rng_deriv_events.specs.views.Positions.{IsPositionInside, IsPositionOf, AddsStep}
use Rattle.rng_deriv_events.proofs.Numbers.{longer_through, trees_stay, all_inside_stay}
use Rattle.rng_deriv_events.proofs.StateSteps.{levels_stay, level_stays, ends_level}

-- ---- states in a table that grows

pub state_stays : (old new : List (Simple ℕ)) → Longer old new → (s : OpenState) → IsStateInside old s → state_of new s ≡ state_of old s
state_stays old new l s inside =
    let now = trees_stay old new l s.now inside.now in
    let levels = levels_stay old new l s.levels inside.levels in
    rw (now, levels) refl

pub state_inside_stays : (old new : List (Simple ℕ)) → Longer old new → (s : OpenState) → IsStateInside old s → IsStateInside new s
state_inside_stays old new l s inside = record {
  now = all_inside_stay old new l s.now inside.now;
  levels = All-weaker (IsLevelInside old) (IsLevelInside new) (level_stays old new l) s.levels inside.levels;
}

-- ---- strings

pub holds_text : (g : Reading) (old new : List (Simple ℕ)) (now : List PatternNumber) (h : HeldString) (text : List ℕ) → All (IsInside old) now →
    is_blank text ≡ h.blank → length now ≡ length h.after → AddsEach (IsAfterText g text) old new now h.after
    → AddsHeld (λ s. s ≡ text) g old new now h
holds_text g old new now h text inside blank count a = record {
  longer = a.longer;
  inside = (count, a.inside);
  held = λ s e. subst (λ t. IsHeld g new now (Some h) t) (sym e) (blank, a.each);
}

-- ---- steps

module _ (g : Reading) where
  -- a held string that is beside an element

  pub settles_nothing : (trees : List (Simple ℕ)) (p : OpenPosition) (m : LevelMatcher) → p.held ≡ None → IsPositionOf g trees p m
      → SettlesLevels g m.held m.state (state_of trees p.state)
  settles_nothing trees p m none of =
      let empty = subst (λ h. IsHeld g trees p.state.now h m.held) none of.held in
      subst (SettlesLevels g m.held m.state) of.state (as_blank (ap is_blank empty))

  pub settles_blank : (trees : List (Simple ℕ)) (p : OpenPosition) (h : HeldString) (m : LevelMatcher) → p.held ≡ Some h → h.blank ≡ true → IsPositionOf g trees p m
      → SettlesLevels g m.held m.state (state_of trees p.state)
  settles_blank trees p h m some blank of =
      let held = subst (λ h. IsHeld g trees p.state.now h m.held) some of.held in
      subst (SettlesLevels g m.held m.state) of.state (as_blank (held.0 ∙ blank))

  pub settles_text : (trees : List (Simple ℕ)) (p : OpenPosition) (h : HeldString) (n : OpenState) (m : LevelMatcher) → p.held ≡ Some h → h.blank ≡ false →
      n.now ≡ h.after → n.levels ≡ p.state.levels → IsPositionOf g trees p m → SettlesLevels g m.held m.state (state_of trees n)
  settles_text trees p h n m some blank now levels of =
      let held = subst (λ h. IsHeld g trees p.state.now h m.held) some of.held in
      subst (λ s. SettlesLevels g m.held s (state_of trees n)) (sym of.state) (as_text (held.0 ∙ blank) (record {
        now = subst (λ ns. AllZip (IsAfterText g m.held) (map (tree_of trees) p.state.now) (map (tree_of trees) ns)) (sym now) held.1;
        levels = ap (levels_of trees) levels;
      }))

  -- a start
  pub starts_step : (q : Name) (xs : List Attribute) (old new : List (Simple ℕ)) (p : OpenPosition) (s : OpenState) (r : OpenPosition) →
      ((m : LevelMatcher) → IsPositionOf g old p m → SettlesLevels g m.held m.state (state_of old s)) →
      AddsState (StartsLevel g q xs (state_of old s)) old new r.state → r.has_begun ≡ false → r.held ≡ None → AddsStep g (a_start q xs) old new p r
  starts_step q xs old new p s r settles a begun none = record {
    longer = a.longer;
    inside = record { state = a.inside; held = subst (IsHeldInside new (length r.state.now)) (sym none) tt };
    leads = λ m of. record {
      matcher = record { state = state_of new r.state; has_begun = false; held = [] };
      steps = at_start (state_of old s) (settles m of) a.is refl refl;
      position = record { state = refl; has_begun = sym begun; held = subst (λ h. IsHeld g new r.state.now h []) (sym none) refl };
    };
  }

  -- a string
  pub string_step : (Is : List ℕ → Type 0) (text : List ℕ) (old new : List (Simple ℕ)) (p : OpenPosition) (h : HeldString) (r : OpenPosition) → Is text →
      IsPositionInside old p → AddsHeld Is g old new p.state.now h → r.state ≡ p.state → r.has_begun ≡ p.has_begun → r.held ≡ Some h
      → AddsStep g (a_string text) old new p r
  string_step Is text old new p h r is inside a same begun held = record {
    longer = a.longer;
    inside = record {
      state = subst (IsStateInside new) (sym same) (state_inside_stays old new a.longer p.state inside.state);
      held = subst (λ s. IsHeldInside new (length s.now) r.held) (sym same)
          (subst (IsHeldInside new (length p.state.now)) (sym held) a.inside);
    };
    leads = λ m of. record {
      matcher = record { state = m.state; has_begun = m.has_begun; held = text };
      steps = at_string refl refl refl;
      position = record {
        state = of.state ∙ sym (state_stays old new a.longer p.state inside.state) ∙ ap (state_of new) (sym same);
        has_begun = of.has_begun ∙ sym begun;
        held = subst (λ s. IsHeld g new s.now r.held text) (sym same) (subst (λ h. IsHeld g new p.state.now h text) (sym held) (a.held text is));
      };
    };
  }

  -- an end after an element
  pub end_step : (old new : List (Simple ℕ)) (p : OpenPosition) (s : OpenState) (r : OpenPosition) →
      ((m : LevelMatcher) → IsPositionOf g old p m → SettlesLevels g m.held m.state (state_of old s)) →
      AddsState (EndsIf g (EndsNow g) (state_of old s)) old new r.state → p.has_begun ≡ true → r.has_begun ≡ true → r.held ≡ None
      → AddsStep g an_end old new p r
  end_step old new p s r settles a before begun none = record {
    longer = a.longer;
    inside = record { state = a.inside; held = subst (IsHeldInside new (length r.state.now)) (sym none) tt };
    leads = λ m of. record {
      matcher = record { state = state_of new r.state; has_begun = true; held = [] };
      steps = step m of a.is;
      position = record { state = refl; has_begun = sym begun; held = subst (λ h. IsHeld g new r.state.now h []) (sym none) refl };
    };
  } where
    step : (m : LevelMatcher) → IsPositionOf g old p m → EndsIf g (EndsNow g) (state_of old s) (state_of new r.state)
        → StepsTo g m an_end (record { state = state_of new r.state; has_begun = true; held = [] })
    step m of (inl none) = at_stray_end (sym (settled_levels g m.held m.state (state_of old s) (settles m of)) ∙ none)
    step m of (inr e) = at_end (state_of old s) (of.has_begun ∙ before) (settles m of) e refl refl

  -- an end after only a string, or after nothing
  pub lone_step : (old new : List (Simple ℕ)) (p r : OpenPosition) →
      AddsState (λ n. (s : List ℕ) → IsHeld g old p.state.now p.held s → EndsIf g (EndsWith g s) (state_of old p.state) n) old new r.state →
      p.has_begun ≡ false → r.has_begun ≡ true → r.held ≡ None → AddsStep g an_end old new p r
  lone_step old new p r a before begun none = record {
    longer = a.longer;
    inside = record { state = a.inside; held = subst (IsHeldInside new (length r.state.now)) (sym none) tt };
    leads = λ m of. record {
      matcher = record { state = state_of new r.state; has_begun = true; held = [] };
      steps = step m of (a.is m.held of.held);
      position = record { state = refl; has_begun = sym begun; held = subst (λ h. IsHeld g new r.state.now h []) (sym none) refl };
    };
  } where
    step : (m : LevelMatcher) → IsPositionOf g old p m → EndsIf g (EndsWith g m.held) (state_of old p.state) (state_of new r.state)
        → StepsTo g m an_end (record { state = state_of new r.state; has_begun = true; held = [] })
    step m of (inl none) = at_stray_end (ap (λ s. s.levels) of.state ∙ none)
    step m of (inr e) =
        at_end_of_text (of.has_begun ∙ before) (subst (λ s. EndsLevel g (EndsWith g m.held) s (state_of new r.state)) (sym of.state) e) refl refl

  -- ---- ends

  -- given the tests of the alternatives
  pub ends_if : (MayEnd : Simple ℕ → Type 0) (good : List Bool) (m n : LevelState) → AllZip (λ p b. (b ≡ true) ↔ MayEnd p) m.now good → EndsBy g good m n
      → EndsIf g MayEnd m n
  ends_if MayEnd good m n which (inl none) = inl none
  ends_if MayEnd good m n which (inr e) = inr (ends_level g MayEnd good m n which e)

  pub ends_lone : (old mid new : List (Simple ℕ)) (s n : OpenState) (string : Option HeldString) (h : HeldString) (good : List Bool) → IsStateInside old s →
      AddsHeld (IsHeld g old s.now string) g old mid s.now h → AreEndsWith g mid s.now h.after h.blank s.now good →
      AddsState (EndsBy g good (state_of mid s)) mid new n
      → AddsState (λ n. (t : List ℕ) → IsHeld g old s.now string t → EndsIf g (EndsWith g t) (state_of old s) n) old new n
  ends_lone old mid new s n string h good inside a which e = record {
    longer = longer_through old mid new a.longer e.longer;
    inside = e.inside;
    is = λ t is.
        let held = a.held t is in
        subst (λ k. EndsIf g (EndsWith g t) k (state_of new n)) (state_stays old mid a.longer s inside)
        (ends_if (EndsWith g t) good (state_of mid s) (state_of new n) (which t held.0 held.1) e.is);
  }
