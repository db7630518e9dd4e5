use Rattle.rncv_model.specs.printed.PrintedText.{namespace_line}
use Rattle.rnc_print.specs.views.Prefixes.{namespaces_seen}
use Rattle.rnc_print.proofs.LineTexts.{all_written, line_added}
use Rattle.rnc_print.proofs.lines.Lines.write_namespaces.Goals as goal

pub returns : goal.returns
returns c =
    let f = namespace_line (namespaces_seen c.args.self.now.prefixes.now) in
    all_written f (λ ns. ns.now) _ _ c.as_slice-ns-items.result.now _ c.namespaces.ns-index c.namespaces-test.false c.as_slice-ns-items.ensures.keys
    c.namespaces.invariant

pub namespaces-preserved : goal.namespaces-preserved
namespaces-preserved c =
    let f = namespace_line (namespaces_seen c.args.self.now.prefixes.now) in
    line_added f (λ ns. ns.now) _ _ _ c.as_slice-ns-items.result.now c.namespaces.ns-index _ c.namespaces-test.true c.namespaces.invariant
    c.in_ok-write_namespace_line.ensures
