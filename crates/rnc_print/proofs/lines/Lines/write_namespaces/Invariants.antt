use Rattle.std.proofs.Common.{◌≡◌, ◌++◌, flat_map, map, take}
use Rattle.rncv_model.specs.printed.PrintedText.{namespace_line}
use Rattle.rnc_print.specs.views.Prefixes.{namespaces_seen}
use Rattle.rnc_print.proofs.lines.Lines.write_namespaces.Given as goal

-- the lines of the namespaces so far are written
abbrev pub invariant-namespaces : goal.invariant-namespaces
invariant-namespaces l = l.text.items ≡ l.fn.text.items
    ++ flat_map (namespace_line (namespaces_seen l.self.prefixes.now)) (map (λ ns. ns.now) (take l.ns-index l.ns-items))
