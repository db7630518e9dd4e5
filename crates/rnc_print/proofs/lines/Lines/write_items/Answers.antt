use Rattle.rng_model.specs.simple.Table.{grammar_of}
use Rattle.rnc_print.specs.views.Items.{item_at, items_seen}
use Rattle.rncv_model.specs.printed.PrintedText.{item_line}
use Rattle.rnc_print.specs.views.Prefixes.{namespaces_seen}
use Rattle.rnc_print.proofs.LineTexts.{all_written}
use Rattle.rnc_print.proofs.lines.Lines.write_items.Goals as goal

pub returns : goal.returns
returns c =
    let t = c.args.self.now.grammar.now in
    all_written (item_line (grammar_of t) (namespaces_seen c.args.self.now.prefixes.now) (items_seen t c.args.self.now.items.now)) (item_at t) _ _
    c.as_slice-item-items.result.now _ c.items.item-index c.items-test.false c.as_slice-item-items.ensures.value c.items.invariant
