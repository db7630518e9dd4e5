use Rattle.std.proofs.Common.{◌∙◌, ap, map}
use Rattle.rng_model.specs.simple.Table.{grammar_of}
use Rattle.rnc_print.specs.views.Items.{item_at, items_seen}
use Rattle.rncv_model.specs.printed.PrintedText.{schema_lines, namespaces}
use Rattle.rnc_print.proofs.LineTexts.{text_written}
use Rattle.rnc_print.proofs.printing.printed_text.Goals as goal

pub returns : goal.returns
returns c =
    let t = c.args.grammar.now in
    let items = items_seen t c.in_ok-items.items in
    record {
      items = items;
      numbered = c.in_ok-items.ensures.numbered;
      is =
          text_written _ _ _ _ _ _ _ c.new-text.ensures.items c.in_ok-write_namespaces.ensures c.in_ok-write_start.ensures c.in_ok-write_items.ensures
          ∙ ap (λ ns. schema_lines (grammar_of t) ns items)
          (c.in_ok-prefixes.ensures ∙ ap (λ xs. namespaces (grammar_of t) (map (item_at t) xs)) c.as_slice.ensures.value);
    }
