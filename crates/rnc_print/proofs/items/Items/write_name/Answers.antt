use Rattle.std.proofs.Common.{◌≡◌, ◌∙◌, ◌++◌, ap, sym, subst, codes}
use Rattle.std.specs.Prelude.{OnOk, ◌==◌, decimal}
use Rattle.std.specs.List.{position_or_len}
use Rattle.rnc_print.specs.views.Items.{numbered_name}
use Rattle.rnc_print.proofs.ListLookups.{number_is}
use Rattle.rnc_print.proofs.items.Items.write_name.Goals as goal

pub returns-in-Element : goal.returns-in-Element
returns-in-Element c =
    let number = number_is (λ d. c.in-Element.id.0 == d.0) c.args.self.now.elements.keys _ _ _ c.get_index_of.ensures.index c.len.ensures.len
    c.unwrap_or-number.ensures in
    subst (λ w. OnOk c.write_numbered.result (c.write_numbered.new.text.items ≡ c.args.text.now.items ++ w))
    (ap (λ n. codes "e" ++ decimal n) number ∙ ap (numbered_name c.args.self.now) (sym c.in-Element.is)) c.write_numbered.ensures

pub returns-in-Pattern : goal.returns-in-Pattern
returns-in-Pattern c =
    let keys = c.args.self.now.trees.keys in
    let number = number_is (λ n. c.number.result == n) keys _ _ _ c.get_index_of-in-Pattern.ensures.index c.len-in-Pattern.ensures.len
    c.unwrap_or-number-in-Pattern.ensures in
    subst (λ w. OnOk c.write_numbered-in-Pattern.result (c.write_numbered-in-Pattern.new.text.items ≡ c.args.text.now.items ++ w))
    (ap (λ n. codes "p" ++ decimal n) (number ∙ ap (λ k. position_or_len (λ n. k == n) keys) c.number.ensures)
    ∙ ap (numbered_name c.args.self.now) (sym c.in-Pattern.is)) c.write_numbered-in-Pattern.ensures
