-- What is known of a document, event by event, and at its end.
use Rattle.std.proofs.Common.{◌≡◌, ◌↔◌, ◌⊎◌, None, inl, inr, ◌&&◌, true, false, ℕ, List, [], ◌∷◌, ◌++◌, map, refl, sym, ap, ◌∙◌, subst, All}
use Rattle.std.proofs.Common.{Bool, Contains, Some, append_assoc}
use Rattle.std.specs.List.{list_all, list_any}
use Rattle.std.proofs.lemmas.Option.{same_Some}
use Rattle.std.proofs.lemmas.List.Elements.{All-push, All-nil, All-cons, All-contains, Contains-append_left, Contains-append_right, Contains-get_or}
use Rattle.std.proofs.lemmas.List.Elements.{Contains-push}
use Rattle.std.proofs.lemmas.List.Folds.{Any-from_list_any}
use Rattle.std.proofs.lemmas.Bool.{or_parts, and_parts}
use Rattle.rng_model.specs.simple.Tree.{Simple}
use Rattle.rng_model.specs.matching.Document.{Item}
use Rattle.rng_model.specs.documents.ElementTrees.{IsElementTree}
use Rattle.rng_model.specs.documents.PyxTrees.{Event, EventKind, a_start, a_string, an_end, Placed, events_of}
use Rattle.rng_model.specs.matching.GrammarMatching.{Reading}
use Rattle.rng_deriv_laws.specs.plain.Taking.{Takes}
use Rattle.rng_deriv_laws.specs.plain.Derivatives.{is_nullable, is_not_allowed}
use Rattle.rng_deriv_laws.specs.plain.Events.{kinds}
use Rattle.rng_deriv_laws.specs.plain.LevelEvents.{LevelMatcher, StepsTo, StandsFor}
use Rattle.rng_deriv_laws.proofs.Events.{kinds_append}
use Rattle.rng_deriv_laws.proofs.Levels.Events.{stands_on, stands_first, levels_answer, no_levels_are_invalid, no_end_is_invalid, unknown_name_leaves_none}
use Rattle.rng_deriv_table.specs.declared.pattern.PatternNumber.{PatternNumber}
use Rattle.rng_deriv_events.specs.views.Numbers.{tree_of}
use Rattle.rng_deriv_events.specs.views.Strings.{IsHeld}
use Rattle.rng_model.specs.matching.Outcomes.{KnowsName, IsValidByReading, FailsAt}
use Rattle.rng_deriv_events.specs.views.LevelsLeft.{LevelLeft}
use Rattle.rng_deriv_events.specs.views.NextEnds.{LeadToEnd}
use Rattle.rng_deriv_events.specs.views.FailedEvents.{IsFailedEvent}
use Rattle.rng_deriv_events.specs.declared.failed_event.FailedEvent.{FailedEvent}
use Rattle.rng_deriv_events.specs.views.Positions.{Leads, AddsStep, FailsWith, HasCome, IsKnown, IsLost, LeadTo, failed_line}
use Rattle.rng_deriv_events.specs.views.OpenPositions.{OpenPosition}
use Rattle.rng_deriv_events.specs.declared.progress.Progress.{Progress}
use Rattle.rng_deriv_events.specs.declared.progress.Progress.TheVariants as progress
use Rattle.rng_deriv_events.proofs.Numbers.{all_before}
use Rattle.rng_deriv_events.proofs.LevelTests.{any_mapped}

-- ---- tests over numbers, and their meaning for patterns

module _ (test : Simple ℕ → Bool) (f : PatternNumber → Simple ℕ) where
  all_pass : (ns : List PatternNumber) → list_all (λ n. test (f n)) ns ≡ true → All (λ p. test p ≡ true) (map f ns)
  all_pass [] e = All-nil (λ p. test p ≡ true)
  all_pass (n ∷ ns) e =
      let both = and_parts (test (f n)) (list_all (λ n. test (f n)) ns) e in
      All-cons (λ p. test p ≡ true) (f n) (map f ns) both.0 (all_pass ns both.1)

  all_fail : (ns : List PatternNumber) → list_any (λ n. test (f n)) ns ≡ false → All (λ p. test p ≡ false) (map f ns)
  all_fail [] e = All-nil (λ p. test p ≡ false)
  all_fail (n ∷ ns) e =
      let both = or_parts (test (f n)) (list_any (λ n. test (f n)) ns) e in
      All-cons (λ p. test p ≡ false) (f n) (map f ns) both.0 (all_fail ns both.1)

  some_passes : (ns : List PatternNumber) → list_any (λ n. test (f n)) ns ≡ true → (p : Simple ℕ) × Contains (map f ns) p × (test p ≡ true)
  some_passes ns e =
      let h = Any-from_list_any test (map f ns) (any_mapped test f ns ∙ e) in
      (h.1, subst (Contains (map f ns)) h.3 (Contains-get_or (map f ns) h.0 h.1 h.2), h.4)

  one_more : (b all : Bool) (p : Simple ℕ) (ps : List (Simple ℕ)) → test p ≡ b → (b && all) ≡ false
      → (all ≡ false → (q : Simple ℕ) × Contains ps q × (test q ≡ false)) → (q : Simple ℕ) × Contains (p ∷ ps) q × (test q ≡ false)
  one_more false all p ps is e rest = (p, Contains-append_left (p ∷ []) ps p (Contains-push [] p), is)
  one_more true all p ps is e rest = let h = rest e in (h.0, Contains-append_right (p ∷ []) ps h.0 h.1, h.2)

  one_fails : (ns : List PatternNumber) → list_all (λ n. test (f n)) ns ≡ false → (q : Simple ℕ) × Contains (map f ns) q × (test q ≡ false)
  one_fails [] e = absurd (cc)
  one_fails (n ∷ ns) e = one_more (test (f n)) (list_all (λ n. test (f n)) ns) (f n) (map f ns) refl e (one_fails ns)

  none_left : (ns : List PatternNumber) → map f ns ≡ [] → list_all (λ n. test (f n)) ns ≡ true
  none_left [] e = refl
  none_left (n ∷ ns) e = absurd (cc)

-- ---- before the first event

pub comes_first : (g : Reading) (trees : List (Simple ℕ)) (p : OpenPosition) (line : ℕ) (start : PatternNumber) → p.state.now ≡ start ∷ [] →
    p.state.levels ≡ [] → p.has_begun ≡ false → p.held ≡ None →
    ((ns : List Item) → Takes g (tree_of trees start) [] ns ↔ Takes g g.grammar.start [] ns) → HasCome g trees p line []
comes_first g trees p line start now levels begun held same = record {
  matcher = record { state = record { now = tree_of trees start ∷ []; levels = [] }; has_begun = false; held = [] };
  position = record {
    state = rw (now, levels) refl;
    has_begun = sym begun;
    held = subst (λ h. IsHeld g trees p.state.now h []) (sym held) refl;
  };
  stands = stands_first g (record { state = record { now = tree_of trees start ∷ []; levels = [] }; has_begun = false; held = [] })
      (tree_of trees start) same refl;
  known = All-nil (λ e. KnowsName g.grammar e.kind);
  left = inl refl;
  last = inl refl;
}

-- ---- one more event

module _ (g : Reading) where
  known_kind : (kind : EventKind) (m n : LevelMatcher) (f : PatternNumber → Simple ℕ) (ns : List PatternNumber) → StepsTo g m kind n →
      n.state.now ≡ map f ns → list_all (λ n. is_not_allowed (f n)) ns ≡ false → KnowsName g.grammar kind
  known_kind (a_start q xs) m n f ns step is some = λ none.
      let all = none_left is_not_allowed f ns (sym is ∙ unknown_name_leaves_none g.grammar g.tests m n q xs none step) in
      absurd (cc)
  known_kind (a_string s) m n f ns step is some = tt
  known_kind an_end m n f ns step is some = tt

  module _ (old new : List (Simple ℕ)) (p q : OpenPosition) (e : Event) (step : AddsStep g e.kind old new p q) (line : ℕ) (es : List Event)
      (come : HasCome g old p line es) where
    lead : Leads g e.kind new come.matcher q
    lead = step.leads come.matcher come.position

    stands : StandsFor g lead.matcher (kinds (es ++ e ∷ []))
    stands =
        subst (StandsFor g lead.matcher) (sym (kinds_append es (e ∷ [])))
        (stands_on g come.matcher lead.matcher (kinds es) e.kind come.stands lead.steps)

    now : lead.matcher.state.now ≡ map (tree_of new) q.state.now
    now = ap (λ s. s.now) lead.position.state

    pub comes_on : list_all (λ n. is_not_allowed (tree_of new n)) q.state.now ≡ false → HasCome g new q e.line (es ++ e ∷ [])
    comes_on some = record {
      matcher = lead.matcher;
      position = lead.position;
      stands = stands;
      known = All-push (λ e. KnowsName g.grammar e.kind) es e come.known
          (known_kind e.kind come.matcher lead.matcher (tree_of new) q.state.now lead.steps now some);
      left = inr (subst (λ ps. (p : Simple ℕ) × Contains ps p × (is_not_allowed p ≡ false)) (sym now) (one_fails is_not_allowed (tree_of new) q.state.now some));
      last = inr (es, e.kind, refl);
    }

    pub fails : (later : List (Simple ℕ)) (l : LevelLeft) (may_end : Bool) (event : FailedEvent) → LeadTo g later l es → LeadToEnd g may_end es
        → IsFailedEvent event e.kind → list_all (λ n. is_not_allowed (tree_of new n)) q.state.now ≡ true
        → FailsWith g later l may_end event (es ++ e ∷ []) e.line
    fails later l may_end event left ends is all = record {
      fails = record {
        before = es;
        kind = e.kind;
        behind = [];
        parts = refl;
        cannot = λ more d is parts. no_levels_are_invalid g.grammar g.tests lead.matcher (es ++ e ∷ []) more stands
            (subst (All (λ p. is_not_allowed p ≡ true)) (sym now) (all_pass is_not_allowed (tree_of new) q.state.now all)) d is parts;
        known = come.known;
      };
      is = is;
      left = left;
      ends = ends;
    }

  -- this stays so after one more event
  pub fails_on : (trees : List (Simple ℕ)) (l : LevelLeft) (may_end : Bool) (event : FailedEvent) (es : List Event) (line : ℕ) (e : Event)
      → FailsWith g trees l may_end event es line → FailsWith g trees l may_end event (es ++ e ∷ []) line
  fails_on trees l may_end event es line e w =
      let f = w.fails in
      record {
        fails = record {
          before = f.before;
          kind = f.kind;
          behind = f.behind ++ e ∷ [];
          parts = ap (λ l. l ++ e ∷ []) f.parts ∙ append_assoc f.before (record { line = line; kind = f.kind } ∷ f.behind) (e ∷ []);
          cannot = f.cannot;
          known = f.known;
        };
        is = w.is;
        left = w.left;
        ends = w.ends;
      }

-- ---- what is known, by the line after which no continuation is valid

module _ (g : Reading) (trees : List (Simple ℕ)) (es : List Event) where
  pub fails_there : (p : Progress) (line : ℕ) → failed_line p ≡ Some line → IsKnown g trees p es → FailsAt g es line
  fails_there (progress.Going p at) line f known = absurd (cc)
  fails_there (progress.Failed at left) line f known = subst (FailsAt g es) (same_Some at line f) known.fails
  fails_there progress.Lost line f known = absurd (cc)

  pub names_there : (p : Progress) → failed_line p ≡ None → ¬ (IsLost p) → IsKnown g trees p es → All (λ (e : Event). KnowsName g.grammar e.kind) es
  names_there (progress.Going p at) none kept come = come.known
  names_there (progress.Failed at left) none kept fails = absurd (cc)
  names_there progress.Lost none kept known = absurd (kept refl)

-- ---- the end of a document

not_empty : {d : Placed} → IsElementTree d → events_of d ≡ [] → ⊥
not_empty t none = let first = ap events_of (sym t.is) ∙ none in absurd (cc)

fails_behind : (g : Reading) (es : List Event) (line : ℕ) (f : FailsAt g es line) (d : Placed) → IsElementTree d → events_of d ≡ es
    → ¬ (IsValidByReading g d)
fails_behind g es line f d is same =
    f.cannot f.behind d is (same ∙ f.parts ∙ sym (append_assoc f.before (record { line = line; kind = f.kind } ∷ []) f.behind))

pub failed : (g : Reading) (d : Placed) (line : ℕ) → IsElementTree d → FailsAt g (events_of d) line
    → ¬ (IsValidByReading g d) × FailsAt g (events_of d) line
failed g d line is f = (fails_behind g (events_of d) line f d is refl, f)

module _ (g : Reading) (trees : List (Simple ℕ)) (p : OpenPosition) (line : ℕ) (d : Placed) (is : IsElementTree d)
    (come : HasCome g trees p line (events_of d)) where
  now_is : come.matcher.state.now ≡ map (tree_of trees) p.state.now
  now_is = ap (λ s. s.now) come.position.state

  pub ends_valid : list_any (λ n. is_nullable (tree_of trees n)) p.state.now ≡ true → IsValidByReading g d
  ends_valid some =
      (levels_answer g.grammar g.tests come.matcher d is come.stands).0
      (subst (λ ps. (p : Simple ℕ) × Contains ps p × (is_nullable p ≡ true)) (sym now_is) (some_passes is_nullable (tree_of trees) p.state.now some))

  none_ends : list_any (λ n. is_nullable (tree_of trees n)) p.state.now ≡ false → (q : Simple ℕ) → Contains come.matcher.state.now q
      → ¬ (is_nullable q ≡ true)
  none_ends none q in_now e =
      let no : is_nullable q ≡ false =
      All-contains (λ p. is_nullable p ≡ false) (map (tree_of trees) p.state.now) q (all_fail is_nullable (tree_of trees) p.state.now none)
      (subst (λ ps. Contains ps q) now_is in_now) in
      absurd (cc)

  pub ends_invalid : list_any (λ n. is_nullable (tree_of trees n)) p.state.now ≡ false → ¬ (IsValidByReading g d) × FailsAt g (events_of d) line
  ends_invalid none = last come.last where
    last : (events_of d ≡ []) ⊎ ((front : List Event) × (kind : EventKind) × (events_of d ≡ front ++ record { line = line; kind = kind } ∷ []))
        → ¬ (IsValidByReading g d) × FailsAt g (events_of d) line
    last (inl nothing) = absurd (not_empty is nothing)
    last (inr (front, kind, parts)) =
        let f : FailsAt g (events_of d) line = record {
          before = front;
          kind = kind;
          behind = [];
          parts = parts;
          cannot = λ more d' is' parts'. no_end_is_invalid g.grammar g.tests come.matcher d is come.stands (none_ends none) more d' is'
              (parts' ∙ ap (λ l. l ++ more) (sym parts));
          known = front_known front kind parts;
        } in
        failed g d line is f where
          front_known : (front : List Event) (kind : EventKind) → events_of d ≡ front ++ record { line = line; kind = kind } ∷ []
              → All (λ e. KnowsName g.grammar e.kind) front
          front_known front kind parts = all_before (λ e. KnowsName g.grammar e.kind) front (record { line = line; kind = kind })
              (subst (All (λ e. KnowsName g.grammar e.kind)) parts come.known)
