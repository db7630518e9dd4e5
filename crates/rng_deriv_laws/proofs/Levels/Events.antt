-- A matcher of level states: each event keeps the relation between the matcher and the events. The laws.
use Rattle.std.proofs.Common.{◌≡◌, ◌↔◌, ℕ, suc, List, [], ◌∷◌, ◌++◌, length, refl, sym, ap, ◌∙◌, subst, Bool, true, false, Some, None, Contains, slice_get}
use Rattle.rng_model.specs.simple.Tree.{Simple}
use Rattle.rng_model.specs.matching.Document.{Item}
use Rattle.rng_model.specs.documents.PyxTrees.{EventKind, a_start, a_string, an_end, events_of}
use Rattle.rng_model.specs.matching.GrammarMatching.{Reading}
use Rattle.rng_deriv_laws.specs.plain.Taking.{Takes}
use Rattle.rng_deriv_laws.specs.plain.Derivatives.{is_nullable}
use Rattle.rng_deriv_laws.specs.plain.Events.{kinds, open_after}
use Rattle.rng_deriv_laws.specs.plain.Laws.{reading}
use Rattle.rng_deriv_laws.specs.plain.Meanings.{Settles, Runs, stays}
use Rattle.rng_deriv_laws.specs.plain.Meanings as meanings
use Rattle.rng_deriv_laws.specs.plain.LevelStates.{Link, LevelState, HoldsInLevels, level_meaning}
use Rattle.rng_deriv_laws.specs.plain.LevelEvents.{LevelMatcher, SettlesLevels, StepsTo, StandsFor, as_blank, as_text, at_start, at_string, at_end}
use Rattle.rng_deriv_laws.specs.plain.LevelEvents.{at_end_of_text}
use Rattle.rng_deriv_laws.specs.plain.LevelEvents.{at_stray_end, LevelsAnswer, NoLevelsAreInvalid, NoEndIsInvalid, UnknownNameLeavesNone}
use Rattle.rng_deriv_laws.proofs.Meanings.{run_on, runs_answer, empty_stays_invalid}
use Rattle.rng_deriv_laws.proofs.Events.{kinds_append}
use Rattle.rng_deriv_laws.proofs.Levels.States.{start_is_after, string_is_after, end_is_after, end_of_text_is_after}
use Rattle.rng_deriv_laws.proofs.Levels.States.{first_is_start, ended_by_nullable, none_allowed}
use Rattle.rng_deriv_laws.proofs.Levels.States.{unknown_leaves_none}
use Rattle.rng_deriv_laws.proofs.Laws.{not_named}
use Rattle.rng_deriv_laws.proofs.OpenElements.{count_between, ends_open, document_closes, nothing_behind_document}
use Rattle.std.proofs.lemmas.Option.{same_Some}
use Rattle.std.proofs.lemmas.List.{append-nil}

module _ (g : Reading) where
  settles : (s : List ℕ) (m k : LevelState) → SettlesLevels g s m k → Settles (level_meaning g) s m k
  settles s m k (as_blank e) = meanings.as_blank e
  settles s m k (as_text e a) = meanings.as_text e (string_is_after g s m k a)

  pub settled_levels : (s : List ℕ) (m k : LevelState) → SettlesLevels g s m k → k.levels ≡ m.levels
  settled_levels s m k (as_blank e) = refl
  settled_levels s m k (as_text e a) = a.levels

  one_less : {k l count : ℕ} → k ≡ suc l → open_after k (an_end ∷ []) ≡ Some count → l ≡ count
  one_less {k} {l} {count} e o = same_Some _ _ (ap (λ k. open_after k (an_end ∷ [])) (sym e) ∙ o)

  -- ---- one event

  RunsOn : LevelMatcher → EventKind → LevelMatcher → Type 0
  RunsOn m e n = Runs (level_meaning g) m.state m.has_begun m.held (e ∷ []) n.state n.has_begun n.held

  run_of : (m n : LevelMatcher) (e : EventKind) (b c : Bool) (u : List ℕ) → m.has_begun ≡ b → n.has_begun ≡ c → n.held ≡ u
      → Runs (level_meaning g) m.state b m.held (e ∷ []) n.state c u → RunsOn m e n
  unfolding RunsOn
  run_of m n e b c u f h k r =
      subst (λ b. Runs (level_meaning g) m.state b m.held (e ∷ []) n.state n.has_begun n.held) (sym f)
      (subst (λ c. Runs (level_meaning g) m.state b m.held (e ∷ []) n.state c n.held) (sym h)
      (subst (λ u. Runs (level_meaning g) m.state b m.held (e ∷ []) n.state c u) (sym k) r))

  runs_on : (m n : LevelMatcher) (e : EventKind) → StepsTo g m e n → (count : ℕ) → open_after (length m.state.levels) (e ∷ []) ≡ Some count → RunsOn m e n
  runs_on m n (a_start q xs) (at_start k settled s f h) count o =
      run_of m n (a_start q xs) m.has_begun false [] refl f h
      (meanings.at_start (settles m.held m.state k settled) (start_is_after g q xs k n.state s) stays)
  runs_on m n (a_string s) (at_string f h k) count o =
      run_of m n (a_string s) m.has_begun m.has_begun s refl h k
      (meanings.at_string (subst (λ r. Runs (level_meaning g) m.state m.has_begun s [] r m.has_begun s) (sym f) stays))
  runs_on m n an_end (at_end k f settled s h i) count o =
      run_of m n an_end true true [] f h i (meanings.at_end (settles m.held m.state k settled) (end_is_after g k n.state s) stays)
  runs_on m n an_end (at_end_of_text f s h i) count o =
      run_of m n an_end false true [] f h i (meanings.at_end_of_text (end_of_text_is_after g m.held m.state n.state s) stays)
  runs_on m n an_end (at_stray_end none) count o =
      let l : length m.state.levels ≡ 0 = ap length none in
      let stray : None ≡ Some count = ap (λ k. open_after k (an_end ∷ [])) (sym l) ∙ o in
      absurd (cc)

  -- there are as many levels as open elements
  levels_on : (m n : LevelMatcher) (e : EventKind) → StepsTo g m e n → (count : ℕ) → open_after (length m.state.levels) (e ∷ []) ≡ Some count
      → length n.state.levels ≡ count
  levels_on m n (a_start q xs) (at_start k settled s f h) count o =
      let l : length n.state.levels ≡ suc (length m.state.levels) = ap length s.levels ∙ ap (λ l. suc (length l)) (settled_levels m.held m.state k settled) in
      l ∙ same_Some _ _ o
  levels_on m n (a_string s) (at_string f h k) count o = ap (λ r. length r.levels) f ∙ same_Some _ _ o
  levels_on m n an_end (at_end k f settled s h i) count o =
      one_less (ap length (sym (settled_levels m.held m.state k settled) ∙ s.levels)) o
  levels_on m n an_end (at_end_of_text f s h i) count o = one_less (ap length s.levels) o
  levels_on m n an_end (at_stray_end none) count o =
      let l : length m.state.levels ≡ 0 = ap length none in
      let stray : None ≡ Some count = ap (λ k. open_after k (an_end ∷ [])) (sym l) ∙ o in
      absurd (cc)

  pub stands_on : (m n : LevelMatcher) (es : List EventKind) (e : EventKind) → StandsFor g m es → StepsTo g m e n → StandsFor g n (es ++ e ∷ [])
  unfolding RunsOn
  stands_on m n es e s step = record {
    first = s.first;
    start = s.start;
    runs = λ count o.
        let b = count_between 0 es (e ∷ []) count o in
        let r = s.runs b.count b.before in
        let now = ap (λ k. open_after k (e ∷ [])) r.0 ∙ b.behind in
        (levels_on m n e step count now, run_on (level_meaning g) r.1 (runs_on m n e step count now));
  }

  -- before the first event, with an alternative that takes what the start takes
  pub stands_first : (m : LevelMatcher) (p : Simple ℕ) → ((ns : List Item) → Takes g p [] ns ↔ Takes g g.grammar.start [] ns) →
      m ≡ record { state = record { now = p ∷ []; levels = [] }; has_begun = false; held = [] } → StandsFor g m []
  stands_first m p same is = subst (λ m. StandsFor g m []) (sym is) (record {
    first = record { now = p ∷ []; levels = [] };
    start = first_is_start g p same;
    runs = λ n o. (same_Some _ _ o, stays);
  })

  -- if no level is left, an alternative allows the end exactly if it is nullable
  ended : (m : LevelState) → length m.levels ≡ 0 → HoldsInLevels g m ([] ∷ []) ↔ ((p : Simple ℕ) × Contains m.now p × (is_nullable p ≡ true))
  ended m e =
      subst (λ levels. HoldsInLevels g (record { now = m.now; levels = levels }) ([] ∷ []) ↔ ((p : Simple ℕ) × Contains m.now p × (is_nullable p ≡ true)))
      (sym (no_levels m.levels e)) (ended_by_nullable g m.now) where
        no_levels : (levels : List (List Link)) → length levels ≡ 0 → levels ≡ []
        no_levels [] e = refl
        no_levels (l ∷ levels) e = absurd (cc)

-- ---- the laws

pub levels_answer : LevelsAnswer
levels_answer g tests m d is s =
    let r = s.runs 0 (document_closes d is) in
    let a = runs_answer (level_meaning (reading g tests)) g tests s.first m.state m.has_begun m.held d is s.start r.1 in
    let e = ended (reading g tests) m.state r.0 in
    (λ h. a.0 (e.1 h), λ v. e.0 (a.1 v))

pub no_levels_are_invalid : NoLevelsAreInvalid
no_levels_are_invalid g tests m es more s all d is parts =
    let o = ends_open d is (kinds es) (kinds more) (ap kinds parts ∙ kinds_append es more) in
    let r = s.runs o.0 o.1 in
    empty_stays_invalid (level_meaning (reading g tests)) g tests s.first m.state m.has_begun m.held es more s.start r.1
    (none_allowed (reading g tests) m.state all) d is parts

pub no_end_is_invalid : NoEndIsInvalid
no_end_is_invalid g tests m d is s none more d' is' parts v =
    let all : kinds (events_of d') ≡ kinds (events_of d) ++ kinds more = ap kinds parts ∙ kinds_append (events_of d) more in
    let nothing = nothing_behind_document d d' is is' (kinds more) all in
    let same : kinds (events_of d') ≡ kinds (events_of d) = all ∙ ap (λ l. kinds (events_of d) ++ l) nothing ∙ append-nil (kinds (events_of d)) in
    let h = (levels_answer g tests m d' is' (subst (StandsFor (reading g tests) m) (sym same) s)).1 v in
    none h.0 h.1 h.2

pub unknown_name_leaves_none : UnknownNameLeavesNone
unknown_name_leaves_none g tests m n q xs none (at_start k settled s f h) =
    unknown_leaves_none (reading g tests) q xs k n.state (λ k. not_named g q none k (slice_get g.elements k) refl) s
