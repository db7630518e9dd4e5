use Rattle.std.proofs.Common.{◌≡◌, ◌∙◌, List, ap, subst, sym}
use Rattle.rng_model.specs.documents.PyxTrees.{Event}
use Rattle.rng_model.specs.matching.GrammarMatching.{reading_of}
use Rattle.rng_model.specs.simple.Table.{Table}
use Rattle.rng_deriv.specs.views.Followers.{HasEndReason}
use Rattle.rng_deriv.specs.views.Matchers.{Knows, Matching, matching_in}
use Rattle.rncv_validator.specs.views.FedDocuments.{matching_of}
use Rattle.rncv_events.specs.views.Told.{Judging}
use Rattle.rncv_events.proofs.document.EventDocument.reason_of_end.Goals as goal

pub returns : goal.returns
returns c = λ es known.
    let d = c.args.self.now in
    let t = c.self.inside.grammar.value in
    let s = c.in-Some.state in
    let reason = c.in_ok-reason.reason in
    let grammar : d.grammar ≡ t = ap (λ (j : Judging). j.grammar) (sym c.self.view_is) in
    let matching : d.matching ≡ matching_in t s = ap (λ (j : Judging). j.matching) (sym c.self.view_is) ∙ ap (matching_of t) c.in-Some.is in
    let Why : Table → Type 0 = λ g. (es : List Event) → Knows (matching_in g s) es → HasEndReason (reading_of g) (matching_in g s) reason es in
    let told : Why t = subst Why c.deref.ensures c.in_ok-reason.ensures in
    subst (λ (g : Table). HasEndReason (reading_of g) d.matching reason es) (sym grammar)
    (subst (λ (m : Matching). HasEndReason (reading_of t) m reason es) (sym matching)
    (told es (subst (λ (m : Matching). Knows m es) matching known)))
