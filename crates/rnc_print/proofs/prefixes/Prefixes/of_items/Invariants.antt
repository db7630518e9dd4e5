use Rattle.std.proofs.Common.{◌≡◌, [], take, flat_map}
use Rattle.std.specs.Str.{bytes_eq}
use Rattle.rng_model.specs.simple.Table.{grammar_of}
use Rattle.rnc_print.specs.views.Items.{item_at}
use Rattle.rncv_model.specs.printed.Items.{and_new}
use Rattle.rncv_model.specs.printed.PrintedText.{namespaces_of}
use Rattle.rnc_print.specs.views.Prefixes.{namespaces_seen}
use Rattle.rnc_print.proofs.prefixes.Prefixes.of_items.Given as goal

-- the namespaces of the items so far are there
abbrev pub invariant-items : goal.invariant-items
invariant-items l =
    namespaces_seen l.prefixes ≡ and_new bytes_eq [] (flat_map (λ x. namespaces_of (grammar_of l.grammar) (item_at l.grammar x)) (take l.item-index l.items))
