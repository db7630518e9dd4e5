use Rattle.std.proofs.Common.{◌≡◌, ◌++◌, flat_map, map, take}
use Rattle.rng_model.specs.simple.Table.{grammar_of}
use Rattle.rnc_print.specs.views.Items.{item_at, items_seen}
use Rattle.rncv_model.specs.printed.PrintedText.{item_line}
use Rattle.rnc_print.specs.views.Prefixes.{namespaces_seen}
use Rattle.rnc_print.proofs.lines.Lines.write_items.Given as goal

-- the lines of the items so far are written
abbrev pub invariant-items : goal.invariant-items
invariant-items l = l.text.items ≡ l.fn.text.items
    ++ flat_map (item_line (grammar_of l.self.grammar.now) (namespaces_seen l.self.prefixes.now) (items_seen l.self.grammar.now l.self.items.now))
    (map (item_at l.self.grammar.now) (take l.item-index l.item-items))
