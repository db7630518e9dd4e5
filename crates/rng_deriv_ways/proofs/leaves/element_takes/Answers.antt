use Rattle.std.proofs.Common.{◌∙◌, ap, sym}
use Rattle.rng_names.proofs.Holding.{decides_holds}
use Rattle.rng_model.specs.simple.Tree.{s_leaf}
use Rattle.rng_model.specs.names.NameViews.{class_of, name_of}
use Rattle.rng_model.specs.matching.GrammarMatching.{reading_of}
use Rattle.rng_deriv_ways.specs.plain.Kinds.{takes_kind}
use Rattle.rng_deriv_ways.proofs.GrammarRows.{class_there, no_class_there}
use Rattle.rng_deriv_ways.proofs.leaves.element_takes.Goals as goal

pub returns-in-Some : goal.returns-in-Some
returns-in-Some c =
    let t = c.args.grammar.now in
    let q = name_of c.in-Element.name.now in
    decides_holds c.contains.result (class_of c.in-Some.field-0.now.0) q c.contains.ensures
    ∙ sym (class_there t c.args.element.0 c.in-Some.field-0.now q (sym c.in-Some.ensures))
    ∙ ap (λ kind. takes_kind (reading_of t) kind (s_leaf c.args.element.0)) (sym c.in-Element.is)

pub returns-in-None : goal.returns-in-None
returns-in-None c =
    let t = c.args.grammar.now in
    sym (no_class_there t c.args.element.0 (name_of c.in-Element.name.now) (sym c.in-None.ensures))
    ∙ ap (λ kind. takes_kind (reading_of t) kind (s_leaf c.args.element.0)) (sym c.in-Element.is)
