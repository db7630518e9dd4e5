use Rattle.std.proofs.Common.{rules, ◌≡◌, sym, subst, slice_get, length, Some, None, [], ◌∷◌, ◌++◌}
use Rattle.rng_model.proofs.Places.{at_place_of_end}
use Rattle.rng_simple.specs.views.RowIndex.{IsIndex, number_of_row}
use Rattle.rng_simple.proofs.Tables.RowIndex.{index_more}
use Rattle.rng_simple.proofs.rows.number.Goals as goal

pub returns-clause-index : goal.returns-clause-index
returns-clause-index c =
    let more : c.push.new.self.items ≡ c.args.rows.now.items ++ c.args.row ∷ [] = search rules in
    let last : c.len-i.result ≡ length c.args.rows.now.items = search rules in
    let none : number_of_row c.args.numbers.now c.args.row ≡ None = search rules in
    subst (λ xs. IsIndex xs c.insert.new.self) (sym more) (index_more c.args.rows.now.items c.args.numbers.now c.insert.new.self c.args.row c.requires none
    c.len-i.result last (λ q. c.in_ok-insert.ensures.updates.0 q))

pub returns-clause-there : goal.returns-clause-there
returns-clause-there c =
    let more : c.push.new.self.items ≡ c.args.rows.now.items ++ c.args.row ∷ [] = search rules in
    let last : c.len-i.result ≡ length c.args.rows.now.items = search rules in
    subst (λ xs. slice_get xs c.len-i.result ≡ Some c.args.row) (sym more) (at_place_of_end c.args.rows.now.items c.args.row c.len-i.result last)
