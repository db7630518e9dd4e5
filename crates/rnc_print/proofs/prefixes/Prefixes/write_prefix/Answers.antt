use Rattle.std.proofs.Common.{◌≡◌, ◌∙◌, ◌++◌, ap, subst, codes}
use Rattle.std.specs.Prelude.{OnOk, decimal}
use Rattle.std.specs.Str.{bytes_eq}
use Rattle.rnc_print.proofs.ListLookups.{number_is}
use Rattle.rnc_print.proofs.Namespaces.{place_seen}
use Rattle.rnc_print.proofs.prefixes.Prefixes.write_prefix.Goals as goal

pub returns : goal.returns
returns c =
    let number =
    number_is (λ n. bytes_eq c.args.ns.now n.now) c.args.self.now.namespaces.keys _ _ _ c.get_index_of.ensures.index c.len.ensures.len
    c.unwrap_or-number.ensures in
    subst (λ w. OnOk c.write_numbered.result (c.write_numbered.new.text.items ≡ c.args.text.now.items ++ w))
    (ap (λ n. codes "n" ++ decimal n) (number ∙ place_seen c.args.ns.now c.args.self.now.namespaces.keys)) c.write_numbered.ensures
