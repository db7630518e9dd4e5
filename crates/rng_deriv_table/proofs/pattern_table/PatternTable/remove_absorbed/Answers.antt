use Rattle.std.proofs.Common.{◌≡◌, ◌⊎◌, List, nat_eq, not, rules, subst, sym}
use Rattle.std.specs.HashSet.{contains}
use Rattle.std.specs.List.{Contains, filter}
use Rattle.std.proofs.lemmas.Fn.{filter_same}
use Rattle.rng_deriv_table.specs.views.Choices.{IsAbsorbedBy}
use Rattle.rng_deriv_table.specs.declared.pattern.PatternNumber.{PatternNumber}
use Rattle.rng_deriv_table.proofs.AbsorbedAlternatives.{left_or_absorbed, left_takes}
use Rattle.rng_deriv_table.proofs.pattern_table.PatternTable.remove_absorbed.Goals as goal

pub returns-clause-takes : goal.returns-clause-takes
returns-clause-takes c =
    let ns = c.args.self.now in
    let all = c.args.alternatives.now.items in
    let absorbed = c.in_ok-absorbed.absorbed in
    let kept : c.retain.new.self.items ≡ filter (λ m. not (contains nat_eq absorbed m.0)) all =
    filter_same _ _ _ (λ x b f' k. search rules) _ _ c.retain.ensures.filtered in
    let Absorbed : List PatternNumber → PatternNumber → Type 0 = λ ms m. (other : PatternNumber) × Contains ms other × IsAbsorbedBy ns m other in
    left_takes ns all c.retain.new.self.items c.requires
    (subst (λ left. (m : PatternNumber) → Contains all m → Contains left m ⊎ Absorbed all m) (sym kept)
    (left_or_absorbed ns absorbed all (λ m h. subst (λ ms. Absorbed ms m) c.as_slice.ensures.value (c.in_ok-absorbed.ensures m h))))
