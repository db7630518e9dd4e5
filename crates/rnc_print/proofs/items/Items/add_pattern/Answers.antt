use Rattle.std.proofs.Common.{refl}
use Rattle.rnc_print.proofs.ItemNumbers.{pattern_new, pattern_there}
use Rattle.rnc_print.proofs.ListLookups.{is_new, is_old}
use Rattle.rnc_print.proofs.items.Items.add_pattern.Goals as goal

pub returns-in_ok-push : goal.returns-in_ok-push
returns-in_ok-push c =
    pattern_new c.args.self.now
    (record { all = c.push.new.self; elements = c.args.self.now.elements; trees = c.insert.new.self; numbers = c.args.self.now.numbers }) c.requires refl
    c.args.id c.number-number.result c.number-number.ensures refl (is_new _ _ c.in_ok-insert.ensures.added c.if-branch.true) c.in_ok-insert.ensures.keys
    c.in_ok-push.ensures.items

pub returns-else-branch : goal.returns-else-branch
returns-else-branch c =
    pattern_there c.args.self.now
    (record { all = c.args.self.now.all; elements = c.args.self.now.elements; trees = c.insert.new.self; numbers = c.args.self.now.numbers }) c.requires refl
    c.args.id c.number-number.result c.number-number.ensures refl (is_old _ _ c.in_ok-insert.ensures.added c.if-branch.false) c.in_ok-insert.ensures.keys refl
