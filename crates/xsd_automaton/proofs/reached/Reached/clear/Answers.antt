use Rattle.std.proofs.Common.{◌≡◌, ◌∙◌, ◌<◌, ℕ, [], ◌∷◌, ◌++◌, true, false, length-set, sym, subst, arith}
use Rattle.xsd_automaton.specs.plain.Closures.{has_number}
use Rattle.xsd_automaton.proofs.Marks.{true_within, none_left, all_cleared, has_last, has_before, one_cleared}
use Rattle.xsd_automaton.proofs.reached.Reached.clear.Goals as goal

pub loop-number-init : goal.loop-number-init
loop-number-init c = record {
  as_many = c.self.invariant.as_many;
  within = λ i e.
      let lt = true_within c.self.inside.marks i (c.self.invariant.marked i ∙ e) in
      let many = c.self.invariant.as_many in omega (arith, lt, many);
  marked = λ i e. sym (c.self.invariant.marked i) ∙ e;
}

pub bounds-self-inside-from : goal.bounds-self-inside-from
bounds-self-inside-from c =
    subst (λ n. n < 12289) (sym c.from.ensures)
    (c.loop-number.invariant.within c.in-Some.number
    (subst (λ l. has_number l c.in-Some.number ≡ true) (sym c.in-Some.ensures.items) (has_last c.pop.new.self.items c.in-Some.number)))

pub loop-number-preserved : goal.loop-number-preserved
loop-number-preserved c =
    let e : c.loop-number.self-inside.numbers.items ≡ c.pop.new.self.items ++ c.from.result ∷ [] =
    subst (λ n. c.loop-number.self-inside.numbers.items ≡ c.pop.new.self.items ++ n ∷ []) (sym c.from.ensures) c.in-Some.ensures.items in
    let within : (i : ℕ) → has_number c.pop.new.self.items i ≡ true → i < 12289 =
    λ i h. c.loop-number.invariant.within i
    (subst (λ l. has_number l i ≡ true) (sym e) (has_before c.pop.new.self.items (c.from.result ∷ []) i h)) in
    let number : c.from.result < 12289 =
    c.loop-number.invariant.within c.from.result
    (subst (λ l. has_number l c.from.result ≡ true) (sym e) (has_last c.pop.new.self.items c.from.result)) in
    let many = c.loop-number.invariant.as_many in
    record {
      as_many = length-set c.loop-number.self-inside.marks c.from.result false ∙ many;
      within = within;
      marked = λ i. one_cleared c.loop-number.self-inside.marks c.loop-number.self-inside.numbers.items c.pop.new.self.items c.from.result i
          (omega (arith, number, many)) e c.loop-number.invariant.marked;
    }

pub invariant_of-self : goal.invariant_of-self
invariant_of-self c =
    all_cleared 12289 c.loop-number.self-inside.marks c.loop-number.self-inside.numbers.items c.pop.new.self.items c.loop-number.invariant.as_many
    (none_left c.loop-number.self-inside.numbers.items c.in_default.ensures.variant.1) c.in_default.ensures.items c.loop-number.invariant.marked
