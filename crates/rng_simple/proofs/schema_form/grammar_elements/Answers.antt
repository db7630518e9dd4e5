use Rattle.std.proofs.Common.{◌+◌, get_or, map, take, rules}
use Rattle.std.proofs.lemmas.List.{take_more}
use Rattle.rng_model.specs.names.NameViews.{class_of}
use Rattle.rng_simple.proofs.Tables.GrammarElements.{elements_next}
use Rattle.rng_simple.proofs.schema_form.grammar_elements.Goals as goal

pub listed-preserved : goal.listed-preserved
listed-preserved c =
    let listed = c.args.listed.now in
    let i = c.listed.element-index in
    elements_next (map (λ k. class_of k.now) c.args.classes.now) c.args.contents.now c.args.places.now (take i listed) (take (i + 1) listed) c.listed.elements.items
    c.push.new.self.items (get_or listed i 0) _ c.listed.invariant
    (record { class = c.in_ok-class.ensures.class; paired = c.in_ok-class.ensures.paired; body = search rules })
    (take_more listed i 0 c.listed-test.true) c.in_ok-push.ensures.items
