-- Events that are not expected leave nothing.
use Rattle.std.proofs.Common.{◌≡◌, ◌↔◌, ℕ, List, [], ◌∷◌, ◌++◌, map, Bool, true, false, refl, sym, ap, subst}
use Rattle.std.proofs.Common.{Contains, Option, Some, None, zero, suc, slice_get, arith}
use Rattle.std.specs.List.{AllZip}
use Rattle.std.proofs.lemmas.List.Elements.{All-nil, Contains-append_right, Contains-get_or}
use Rattle.rng_model.specs.names.Names.{In, Name, NameClass}
use Rattle.rng_model.specs.simple.Tree.{Simple, s_leaf}
use Rattle.rng_model.specs.matching.GrammarMatching.{Reading}
use Rattle.rng_model.specs.datatypes.Texts.{is_blank}
use Rattle.rng_model.specs.documents.PyxTrees.{Event, an_end}
use Rattle.rng_names.proofs.Holding.{holds-Decides}
use Rattle.rng_deriv_laws.specs.plain.Derivatives.{is_not_allowed}
use Rattle.rng_deriv_laws.specs.plain.Events.{kinds}
use Rattle.rng_deriv_laws.specs.plain.LevelEvents.{LevelMatcher, StandsFor, StepsTo, SettlesLevels, as_blank, at_end, at_end_of_text}
use Rattle.rng_deriv_laws.specs.plain.LevelStates.{EndsLevel, EndsNow, EndsWith, LevelState, Link}
use Rattle.rng_model.specs.matching.Outcomes.{NoneIsValidAfter}
use Rattle.rng_deriv_laws.specs.plain.Reading.{named_in}
use Rattle.rng_deriv_laws.proofs.Events.{kinds_append}
use Rattle.rng_deriv_laws.proofs.Levels.Events.{no_levels_are_invalid, stands_on}
use Rattle.rng_expected.specs.Expectations.{Ends, IsElementOf}
use Rattle.rng_expected.specs.Laws.{EarlyEndIsInvalid, OtherStartIsInvalid}
use Rattle.rng_expected.proofs.UntakenStarts.{untaken_start}

-- a name that an element has is in the class that the grammar lists
class_of_named : (g : Reading) (q : Name) (k : ℕ) (o : Option (NameClass × Simple ℕ)) → slice_get g.grammar.elements k ≡ o → named_in o q ≡ true
    → (c : NameClass) × IsElementOf g.grammar c (s_leaf k) × In c q
class_of_named g q k None none h = absurd cc
class_of_named g q k (Some e) some h = (e.0, (k, e.1, refl, some), (holds-Decides e.0 q).0 h)

pub other_start : OtherStartIsInvalid
other_start g m k es line q xs stands settles none = untaken_start g m k es line q xs stands settles (λ n kids may taken.
    let c = class_of_named g q n (slice_get g.grammar.elements n) refl may.1 in
    none c.0 (may.0.0, may.0.1, may.0.2, may.0.3, subst (IsElementOf g.grammar c.0) (sym may.0.4) c.1) c.2)

-- ---- an end that leaves nothing

-- an empty string is as nothing
settled : (g : Reading) (m : LevelMatcher) → m.held ≡ [] → SettlesLevels g m.held m.state m.state
settled g m none = as_blank (ap is_blank none)

module _ (g : Reading) (m : LevelMatcher) (es : List Event) (line : ℕ) (levels : List (List Link)) where
  abbrev left : LevelMatcher
  left = record { state = record { now = []; levels = levels }; has_begun = true; held = [] }

  abbrev end : Event
  end = record { line = line; kind = an_end }

  leaves_nothing : StandsFor g m (kinds es) → StepsTo g m an_end left → NoneIsValidAfter g (es ++ end ∷ [])
  leaves_nothing stands step = λ more d is parts.
      no_levels_are_invalid g.grammar g.tests left (es ++ end ∷ []) more
      (subst (StandsFor g left) (sym (kinds_append es (end ∷ []))) (stands_on g m left (kinds es) an_end stands step))
      (All-nil (λ p. is_not_allowed p ≡ true)) d is parts

-- no alternative is good
none_good : (MayEnd : Simple ℕ → Type 0) (now : List (Simple ℕ)) → ((p : Simple ℕ) → Contains now p → MayEnd p → ⊥)
    → AllZip (λ p b. (b ≡ true) ↔ MayEnd p) now (map (λ p. false) now)
none_good MayEnd [] none = tt
none_good MayEnd (p ∷ now) none = (
  (λ e. absurd cc, λ h. absurd (none p (Contains-get_or (p ∷ now) 0 p (omega arith)) h)),
  none_good MayEnd now (λ r c. none r (Contains-append_right (p ∷ []) now r c)),
)

not_good : (now : List (Simple ℕ)) (i : ℕ) → slice_get (map (λ (p : Simple ℕ). false) now) i ≡ Some true → ⊥
not_good [] i e = absurd cc
not_good (p ∷ now) zero e = absurd cc
not_good (p ∷ now) (suc i) e = not_good now i e

ends_in_nothing : (g : Reading) (MayEnd : Simple ℕ → Type 0) (m : LevelState) (links : List Link) (levels : List (List Link)) → m.levels ≡ links ∷ levels
    → ((p : Simple ℕ) → Contains m.now p → MayEnd p → ⊥) → EndsLevel g MayEnd m (record { now = []; levels = levels })
ends_in_nothing g MayEnd m links levels are none = record {
  links = links;
  good = map (λ p. false) m.now;
  levels = are;
  which = none_good MayEnd m.now none;
  ended = record {
    to = λ l ns c good d. absurd (not_good m.now l.inner good);
    back = λ i r ns found d. absurd cc;
  };
}

pub early_end : EarlyEndIsInvalid
early_end g m es line at within none = by_level m.state.levels refl m.has_begun refl
  where
    by_level : (levels : List (List Link)) → m.state.levels ≡ levels → (begun : Bool) → m.has_begun ≡ begun
        → NoneIsValidAfter g (es ++ record { line = line; kind = an_end } ∷ [])
    by_level [] are begun is = absurd (within are)
    by_level (links ∷ levels) are true is =
        leaves_nothing g m es line levels at.stands
        (at_end m.state is (settled g m at.held)
        (ends_in_nothing g (EndsNow g) m.state links levels are (λ p c h. none p c (subst (λ b. Ends g b p) (sym is) h))) refl refl)
    by_level (links ∷ levels) are false is =
        leaves_nothing g m es line levels at.stands
        (at_end_of_text is
        (ends_in_nothing g (EndsWith g m.held) m.state links levels are
        (λ p c h. none p c (subst (λ b. Ends g b p) (sym is) (subst (λ s. EndsWith g s p) at.held h)))) refl refl)
