use Rattle.std.proofs.Common.{◌≡◌, ◌∙◌, [], ◌∷◌, ◌++◌, length, take, get_or, sym, ap, arith}
use Rattle.std.proofs.lemmas.List.{append-nil}
use Rattle.xsd_automaton.specs.plain.Closures.{next_at, nexts}
use Rattle.xsd_positions.specs.views.Positions.{positions_of}
use Rattle.xsd_automaton.proofs.ReadTexts.{nexts_more}
use Rattle.xsd_automaton.proofs.steps.find_nexts.Goals as goal
use Rattle.xsd_automaton.proofs.steps.find_nexts.Goals.{in-Some, in_default}

pub loop-number-preserved : goal.loop-number-preserved
loop-number-preserved c =
    let more = nexts_more (positions_of c.args.positions.now) c.args.c c.args.numbers.now c.loop-number.number-index c.loop-number-test.true in
    let so_far = c.loop-number.invariant.found in
    let few = c.loop-number.invariant.few in
    elim c.match-next_behind.branch [
      | in-Some w ↦
          let added : w.in-Some.next ∷ [] ≡ next_at (positions_of c.args.positions.now) c.args.c (get_or c.args.numbers.now c.loop-number.number-index 0) =
          w.in-Some.ensures in
          let len = w.push.ensures.len in
          let same = ap (λ v. length v.items) w.found-is in
          record {
            found = ap (λ v. v.items) w.found-is ∙ w.push.ensures.items ∙ ap (λ l. l ++ w.in-Some.next ∷ []) so_far
                ∙ ap (λ l. nexts (positions_of c.args.positions.now) c.args.c (take c.loop-number.number-index c.args.numbers.now) ++ l) added ∙ sym more;
            few = omega (arith, few, len, same);
          }
      | in_default w ↦
          let none : [] ≡ next_at (positions_of c.args.positions.now) c.args.c (get_or c.args.numbers.now c.loop-number.number-index 0) =
          w.in_default.ensures in
          let same = ap (λ v. length v.items) w.found-is in
          record {
            found = ap (λ v. v.items) w.found-is ∙ so_far
                ∙ sym (append-nil (nexts (positions_of c.args.positions.now) c.args.c (take c.loop-number.number-index c.args.numbers.now)))
                ∙ ap (λ l. nexts (positions_of c.args.positions.now) c.args.c (take c.loop-number.number-index c.args.numbers.now) ++ l) none ∙ sym more;
            few = omega (arith, few, same);
          }
    ]
