use Rattle.rng_model.specs.simple.Table.{grammar_of}
use Rattle.rnc_print.specs.views.Items.{item_at, items_seen}
use Rattle.rncv_model.specs.printed.PrintedText.{item_text}
use Rattle.rnc_print.specs.views.Prefixes.{namespaces_seen}
use Rattle.rnc_print.proofs.ItemNumbers.{name_is}
use Rattle.rnc_print.proofs.LineTexts.{line_written}
use Rattle.rnc_print.proofs.lines.Lines.write_item_line.Goals as goal

pub returns : goal.returns
returns c =
    let t = c.args.self.now.grammar.now in
    let items = items_seen t c.args.self.now.items.now in
    let w = item_text (grammar_of t) (namespaces_seen c.args.self.now.prefixes.now) items (item_at t c.args.item) in
    line_written _ _ w _ _ _ _ _ c.in_ok-write_name.ensures (name_is t c.args.self.now.items.now c.args.item c.requires.items c.requires.inside)
    c.in_ok-extend_from_slice.ensures.items c.in_ok-write_item.ensures c.in_ok-push.ensures.items
