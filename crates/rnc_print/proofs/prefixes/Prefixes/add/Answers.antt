use Rattle.std.proofs.Common.{ap, ◌∙◌, map}
use Rattle.rnc_print.proofs.Namespaces.{with_namespace}
use Rattle.rnc_print.proofs.prefixes.Prefixes.add.Goals as goal

pub returns : goal.returns
returns c = ap (map (λ n. n.now)) c.in_ok-insert.ensures.keys ∙ with_namespace c.args.self.now.namespaces.keys c.args.ns
