use Rattle.std.proofs.Common.{◌≡◌, ◌∙◌, false, subst, sym, true}
use Rattle.std.proofs.lemmas.Bool.{not-true}
use Rattle.rng_deriv_ways.specs.plain.Takers.{AreCandidates}
use Rattle.rng_deriv_ways.proofs.ElementTakers.{idle_elements}
use Rattle.rng_deriv_ways.proofs.idle.lacks.Goals as goal

pub returns-in-Elements : goal.returns-in-Elements
returns-in-Elements c = λ apart t ns kind p among elements.
    idle_elements t ns p kind c.in-Elements.own (subst (AreCandidates t ns kind) c.in-Elements.is among).0 (λ e has within.
    let met = c.may_meet.ensures e within (elements e has) in
    let both : true ≡ false = sym met ∙ not-true _ apart in absurd (cc))
