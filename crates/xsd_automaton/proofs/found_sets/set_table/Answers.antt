use Rattle.std.proofs.Common.{◌≡◌, ◌∙◌, ◌<◌, ℕ, [], length, sym, subst, arith}
use Rattle.std.proofs.lemmas.List.{length-map}
use Rattle.xsd_automaton.specs.plain.Closures.{LeadsTo, has_number}
use Rattle.xsd_automaton.specs.plain.Sets.{members_at, IsRow}
use Rattle.xsd_positions.specs.views.Positions.{positions_of}
use Rattle.xsd_automaton.specs.views.Sets.{sets_of}
use Rattle.xsd_automaton.proofs.SetTables.{rows_pushed, ends_pushed}
use Rattle.xsd_automaton.proofs.found_sets.set_table.Goals as goal

pub rows-preserved : goal.rows-preserved
rows-preserved c =
    let ps = positions_of c.args.positions.now in
    let old = sets_of c.rows.found in
    let new = sets_of c.row.new.self in
    let count : ℕ = length c.rows.rows.items in
    let as_many : length c.rows.ends.items ≡ count = c.rows.invariant.as_many in
    let long = length-map c.rows.found.sets.items (λ v. v.items) in
    let len = c.len.ensures in
    let lens = c.len-in-rows.ensures in
    let test = c.rows-test.true in
    let few : count < length old = omega (arith, long, len, lens, test) in
    let longer = c.in_ok-row.ensures.longer in
    let many = longer.many in
    let pushed = c.in_ok-push-2.ensures.len in
    let pushed_end = c.in_ok-push.ensures.len in
    let set : c.len-set.result ≡ count = c.len-set.ensures ∙ c.rows.rows.ok.0 in
    let end : c.is_end.result ≡ has_number (members_at old (length c.rows.ends.items)) (length ps) =
    subst (λ n. c.is_end.result ≡ has_number (members_at old n) (length ps)) (set ∙ sym as_many) c.is_end.ensures in
    record {
      sets = c.in_ok-row.ensures.sets;
      start = subst (LeadsTo ps c.args.positions.now.first []) (sym (longer.same 0 (omega (arith, few)))) c.rows.invariant.start;
      many = omega (arith, few, many, pushed);
      as_many = omega (arith, as_many, pushed, pushed_end);
      ends =
          ends_pushed ps old new longer c.rows.ends.items c.is_end.result c.push.new.self.items (omega (arith, few, as_many)) c.rows.invariant.ends
          c.in_ok-push.ensures.items end;
      rows =
          rows_pushed ps old new longer c.rows.rows.items c.in_ok-row.row c.push-in-rows.new.self.items few c.rows.invariant.rows
          c.in_ok-push-2.ensures.items (subst (λ n. IsRow ps new n c.in_ok-row.row.targets) set c.in_ok-row.ensures.row);
    }

pub returns : goal.returns
returns c = record {
  table = record {
    sets = sets_of c.rows.found;
    are = c.rows.invariant.sets;
    many = c.rows.invariant.many;
    start = c.rows.invariant.start;
    each = c.rows.invariant.rows;
  };
  as_many = c.rows.invariant.as_many;
  each_end = c.rows.invariant.ends;
}
