use Rattle.std.proofs.Common.{◌∙◌, [], sym, ap, flat_map}
use Rattle.std.specs.Str.{bytes_eq}
use Rattle.std.proofs.lemmas.List.{take_all}
use Rattle.std.proofs.lemmas.List.Folds.{flat_map-map}
use Rattle.rng_model.specs.simple.Table.{grammar_of}
use Rattle.rncv_model.specs.printed.Items.{and_new}
use Rattle.rnc_print.specs.views.Items.{item_at}
use Rattle.rncv_model.specs.printed.PrintedText.{namespaces_of}
use Rattle.rnc_print.proofs.Namespaces.{one_added}
use Rattle.rnc_print.proofs.prefixes.Prefixes.of_items.Goals as goal

pub returns : goal.returns
returns c =
    let t = c.args.grammar.now in
    c.items.invariant ∙ ap (and_new bytes_eq [])
    (ap (λ ys. flat_map (λ x. namespaces_of (grammar_of t) (item_at t x)) ys) (take_all c.items.item-index c.args.items.now c.items-test.false)
    ∙ sym (flat_map-map (namespaces_of (grammar_of t)) (item_at t) c.args.items.now))

pub items-preserved : goal.items-preserved
items-preserved c =
    let t = c.args.grammar.now in
    one_added (λ x. namespaces_of (grammar_of t) (item_at t x)) [] _ _ c.args.items.now c.items.item-index _ c.items-test.true c.items.invariant
    c.in_ok-add_item.ensures
