use Rattle.std.proofs.Common.{◌<◌, ◌≤◌, ◌∙◌, All, List, ap, arith, length, slice_get, subst, sym}
use Rattle.std.proofs.lemmas.List.{length-map}
use Rattle.rng_deriv_table.specs.declared.pattern.PatternNumber.{PatternNumber}
use Rattle.rng_deriv_table.specs.views.Node.{node_of}
use Rattle.rng_deriv_table.specs.views.PatternTable.{ArePartsBelow, facts_of}
use Rattle.rng_deriv_table.specs.views.Trees.{tree_of, tree_over}
use Rattle.rng_deriv_table.proofs.KnownFacts.{attribute_known, of_members}
use Rattle.rng_deriv_table.proofs.pattern_table.PatternTable.facts_of.Goals as goal

pub facts_of_choice-requires : goal.facts_of_choice-requires
facts_of_choice-requires c =
    let n = length c.args.self.now in
    let ms = c.in-Choice.members.items in
    let below = subst (λ p. ArePartsBelow n (node_of p)) c.in-Choice.is c.requires in
    let two = below.0 in
    let Below : List PatternNumber → Type 0 = λ ms. All (λ m. m.0 < n) ms in
    let Two : List PatternNumber → Type 0 = λ ms. 2 ≤ length ms in
    record {
      inside = subst Below (sym c.as_slice.ensures.value) (of_members (λ m. m < n) ms below.1);
      two = subst Two (sym c.as_slice.ensures.value) (omega (arith, two, length-map ms (λ (m : PatternNumber). m.0)));
    }

pub returns-in-Attribute : goal.returns-in-Attribute
returns-in-Attribute c = λ t.
    sym (attribute_known t (slice_get t.patterns c.in-Attribute.field-0.0))
    ∙ ap (λ p. facts_of (tree_over t (tree_of t c.args.self.now) (node_of p))) (sym c.in-Attribute.is)
