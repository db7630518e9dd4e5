use Rattle.std.proofs.Common.{refl}
use Rattle.rnc_print.proofs.ItemNumbers.{element_new, element_there}
use Rattle.rnc_print.proofs.ListLookups.{is_new, is_old}
use Rattle.rnc_print.proofs.items.Items.add_element.Goals as goal

pub returns-in_ok-push : goal.returns-in_ok-push
returns-in_ok-push c =
    element_new c.args.self.now
    (record { all = c.push.new.self; elements = c.insert.new.self; trees = c.args.self.now.trees; numbers = c.args.self.now.numbers }) c.requires refl
    c.args.id refl (is_new _ _ c.in_ok-insert.ensures.added c.if-branch.true) c.in_ok-insert.ensures.keys c.in_ok-push.ensures.items

pub returns-else-branch : goal.returns-else-branch
returns-else-branch c =
    element_there c.args.self.now
    (record { all = c.args.self.now.all; elements = c.insert.new.self; trees = c.args.self.now.trees; numbers = c.args.self.now.numbers }) c.requires refl
    c.args.id refl (is_old _ _ c.in_ok-insert.ensures.added c.if-branch.false) c.in_ok-insert.ensures.keys refl
