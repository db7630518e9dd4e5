use Rattle.std.proofs.Common.{◌≡◌, ◌∙◌, List, IfSome, ap, subst, sym}
use Rattle.rng_model.specs.documents.PyxTrees.{Event}
use Rattle.rng_model.specs.matching.GrammarMatching.{reading_of}
use Rattle.rng_model.specs.names.Names as names
use Rattle.rng_model.specs.names.NameViews.{name_of}
use Rattle.rng_model.specs.simple.Table.{Table}
use Rattle.element_events.specs.views.Told.{name_told}
use Rattle.rng_deriv.specs.views.Followers.{MayHave}
use Rattle.rng_deriv.specs.views.Matchers.{Knows, Matching, matching_in}
use Rattle.rng_expected.specs.views.Next.{tag_of}
use Rattle.rng_expected.specs.declared.tags.ExpectedTag.{ExpectedTag}
use Rattle.rncv_validator.specs.views.FedDocuments.{matching_of}
use Rattle.rncv_events.specs.views.Told.{Judging}
use Rattle.rncv_events.proofs.document.EventDocument.expected_tag.Goals as goal

pub returns : goal.returns
returns c = λ calls taken.
    let d = c.args.self.now in
    let t = c.self.inside.grammar.value in
    let s = c.in-Some.state in
    let tag = tag_of c.in-Some-2.tag in
    let grammar : d.grammar ≡ t = ap (λ (j : Judging). j.grammar) (sym c.self.view_is) in
    let matching : d.matching ≡ matching_in t s = ap (λ (j : Judging). j.matching) (sym c.self.view_is) ∙ ap (matching_of t) c.in-Some.is in
    let Has : Table → ExpectedTag → Type 0 = λ g tag. (es : List Event) → Knows (matching_in g s) es
    → MayHave (reading_of g) (matching_in g s) (name_of c.in_ok-name.name) (tag_of tag) es in
    let told : Has t c.in-Some-2.tag = subst (λ (g : Table). Has g c.in-Some-2.tag) c.deref.ensures
    (subst (λ o. IfSome o (Has c.deref.result.now)) c.in-Some-2.is c.in_ok-tag.ensures.tag) in
    let known : Knows (matching_in t s) taken.events = subst (λ (m : Matching). Knows m taken.events) matching taken.knows in
    subst (λ (g : Table). MayHave (reading_of g) d.matching (name_told c.args.name) tag taken.events) (sym grammar)
    (subst (λ (m : Matching). MayHave (reading_of t) m (name_told c.args.name) tag taken.events) (sym matching)
    (subst (λ (q : names.Name). MayHave (reading_of t) (matching_in t s) q tag taken.events) c.in_ok-name.ensures (told taken.events known)))
