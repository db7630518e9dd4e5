use Rattle.std.proofs.Common.{◌≡◌, nat_lt, true, rules, tests}
use Rattle.rng_types.specs.views.View.{lengths_of}
use Rattle.xsd_types.specs.views.View.{item_test}
use Rattle.xsd_types.proofs.Items.{allowed_items}
use Rattle.xsd_types.proofs.lists.List.allows.Goals as goal

pub returns-then-count-gt0 : goal.returns-then-count-gt0
returns-then-count-gt0 c =
    let some : nat_lt 0 c.in-Some.count ≡ true = search (rules, tests) in
    allowed_items (item_test c.args.self.now.kind) (lengths_of c.args.self.now.lengths) c.args.text.now c.in-Some.count _ c.in-Some.ensures some c.allow.ensures
