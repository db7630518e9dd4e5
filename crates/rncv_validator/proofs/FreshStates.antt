-- The state of a matcher that has had no event yet.
use Rattle.std.proofs.Common.{◌≡◌, ◌∙◌, [], false, ap, sym, subst}
use Rattle.rng_model.specs.simple.Table.{Table}
use Rattle.rng_deriv_events.specs.views.Positions.{KeepsTag}
use Rattle.rng_deriv.specs.views.Matchers.{HasRunOut, IsStateBy, Knows, Matching, matching_in}
use Rattle.rng_deriv.specs.declared.matcher_state.MatcherState.{MatcherState}
use Rattle.rncv_validator.specs.views.FedDocuments.{IsFresh}

pub fresh : (t : Table) (m : Matching) (s : MatcherState) → m.grammar ≡ t → Knows m [] → KeepsTag false m.progress → ¬ (HasRunOut m)
    → IsStateBy m.grammar s → matching_in m.grammar s ≡ m → IsFresh t s
fresh t m s is stands mode kept state same =
    let now : m ≡ matching_in t s = sym same ∙ ap (λ (g : Table). matching_in g s) is in record {
      state = subst (λ (g : Table). IsStateBy g s) is state;
      knows = subst (λ (m : Matching). Knows m []) now stands;
      mode = subst (λ (m : Matching). KeepsTag false m.progress) now mode;
      kept = subst (λ (m : Matching). ¬ (HasRunOut m)) now kept;
    }
