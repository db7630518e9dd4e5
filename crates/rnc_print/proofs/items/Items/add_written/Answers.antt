use Rattle.std.proofs.lemmas.Result.{on_ok_weaker}
use Rattle.rnc_print.proofs.ItemNumbers.{items_with, seen_one}
use Rattle.rnc_print.proofs.items.Items.add_written.Goals as goal

pub returns-in-Some-clause-added : goal.returns-in-Some-clause-added
returns-in-Some-clause-added c =
    on_ok_weaker c.add.result
    (λ w. seen_one c.args.grammar.now c.args.self.now c.add.new.self c.in-Some.item _ c.requires.items c.in-Some.ensures.inside w
    c.in-Some.ensures.item)
    c.add.ensures

pub returns-in-Some-clause-items : goal.returns-in-Some-clause-items
returns-in-Some-clause-items c =
    on_ok_weaker c.add.result
    (λ w. items_with c.args.grammar.now c.args.self.now c.add.new.self c.in-Some.item c.requires.items c.in-Some.ensures.inside w)
    c.add.ensures
