use Rattle.std.proofs.Common.{◌≡◌, ℕ, ◌<◌, slice_get, Some}
use Rattle.rng_simple.specs.plain.MemberDepths.{IsDeepElement}
use Rattle.rng_simple.specs.declared.graph.parts.GraphElement.{GraphElement}
use Rattle.rng_simple.proofs.graph.depth_table.is_too_deep.Given as goal

abbrev pub invariant-elements : goal.invariant-elements
invariant-elements l =
    (k : ℕ) (e : GraphElement) → k < l.element-index → slice_get l.graph.elements.items k ≡ Some e → IsDeepElement l.definitions e → ⊥
