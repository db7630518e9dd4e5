use Rattle.std.proofs.Common.{ap, ap₂, sym, ◌∙◌, ◌||◌, arith}
use Rattle.std.specs.List.{list_any}
use Rattle.rng_names.proofs.ClassChoices.{none_before}
use Rattle.rng_names.proofs.CoveredNames.{is_listed, listed_apart}
use Rattle.rng_names.proofs.namespaces.Namespaces.are_apart.Goals as goal

pub returns : goal.returns
returns c = λ _ u e.
    let keys = c.args.self.now.listed.keys in
    let items = c.as_slice-ns-items.result.now in
    let none = none_before (λ k. is_listed keys k.now) items c.loop-ns.ns-index (omega (arith, c.loop-ns-test.false)) c.loop-ns.invariant in
    ap₂ (λ x y. x || y) c.if-others.false (listed_apart keys c.args.others.now.listed.keys u
    (ap (list_any (λ k. is_listed keys k.now)) (sym c.as_slice-ns-items.ensures.keys) ∙ none) (sym (ap (λ b. b || is_listed keys u) c.if-self.false) ∙ e))
