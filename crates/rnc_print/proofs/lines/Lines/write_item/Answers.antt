use Rattle.std.proofs.Common.{◌∙◌, ◌++◌, ap, sym, codes}
use Rattle.std.proofs.lemmas.Result.{on_ok_weaker}
use Rattle.rng_model.specs.simple.Table.{grammar_of}
use Rattle.rnc_print.specs.views.Items.{item_at, items_seen}
use Rattle.rncv_model.specs.printed.PrintedText.{element_text, item_text}
use Rattle.rnc_print.specs.views.Prefixes.{namespaces_seen}
use Rattle.rnc_print.proofs.ItemTables.{element_is}
use Rattle.rnc_print.proofs.LineTexts.{behind}
use Rattle.rnc_print.proofs.lines.Lines.write_item.Goals as goal

pub returns-in_ok-extend_from_slice-in-Element : goal.returns-in_ok-extend_from_slice-in-Element
returns-in_ok-extend_from_slice-in-Element c =
    let t = c.args.self.now.grammar.now in
    let ns = namespaces_seen c.args.self.now.prefixes.now in
    let items = items_seen t c.args.self.now.items.now in
    let old = c.args.text.now.items in
    on_ok_weaker c.write_named.result
    (λ e. behind old (codes "element ") _ _ _ c.in_ok-extend_from_slice-in-Element.ensures.items e
    ∙ ap (λ e. old ++ element_text ns items e) (sym (element_is t c.in-Element.id.0 c.in-Some.field-0.now (sym c.in-Some.ensures)))
    ∙ ap (λ i. old ++ item_text (grammar_of t) ns items (item_at t i)) (sym c.in-Element.is))
    c.write_named.ensures
