use Rattle.std.proofs.Common.{◌≡◌, ◌∙◌, List, IfSome, ap, subst, sym}
use Rattle.rng_model.specs.documents.PyxTrees.{Event}
use Rattle.rng_model.specs.matching.GrammarMatching.{reading_of}
use Rattle.rng_model.specs.simple.Table.{Table}
use Rattle.rng_deriv.specs.views.Followers.{MayReplace}
use Rattle.rng_deriv.specs.views.Matchers.{Knows, Matching, matching_in}
use Rattle.rng_expected.specs.views.Next.{next_of}
use Rattle.rng_expected.specs.declared.next.Expected.{Expected}
use Rattle.rncv_validator.specs.views.FedDocuments.{matching_of}
use Rattle.rncv_events.specs.views.Told.{Judging}
use Rattle.rncv_events.proofs.document.EventDocument.expected_in_place.Goals as goal

pub returns : goal.returns
returns c = λ calls taken.
    let d = c.args.self.now in
    let t = c.self.inside.grammar.value in
    let s = c.in-Some.state in
    let next = next_of c.in-Some-2.expected in
    let grammar : d.grammar ≡ t = ap (λ (j : Judging). j.grammar) (sym c.self.view_is) in
    let matching : d.matching ≡ matching_in t s = ap (λ (j : Judging). j.matching) (sym c.self.view_is) ∙ ap (matching_of t) c.in-Some.is in
    let Follows : Table → Expected → Type 0 = λ g e. (es : List Event) → Knows (matching_in g s) es → MayReplace (reading_of g) (matching_in g s) (next_of e) es in
    let told : Follows t c.in-Some-2.expected = subst (λ (g : Table). Follows g c.in-Some-2.expected) c.deref.ensures
    (subst (λ o. IfSome o (Follows c.deref.result.now)) c.in-Some-2.is c.in_ok-expected.ensures.expected) in
    let known : Knows (matching_in t s) taken.events = subst (λ (m : Matching). Knows m taken.events) matching taken.knows in
    subst (λ (g : Table). MayReplace (reading_of g) d.matching next taken.events) (sym grammar)
    (subst (λ (m : Matching). MayReplace (reading_of t) m next taken.events) (sym matching) (told taken.events known))
