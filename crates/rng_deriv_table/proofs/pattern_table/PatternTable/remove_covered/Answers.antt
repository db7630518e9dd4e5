use Rattle.std.proofs.Common.{◌<◌, length, subst}
use Rattle.std.specs.List.{Contains}
use Rattle.rng_deriv_table.proofs.Choices.{all_within}
use Rattle.rng_deriv_table.proofs.pattern_table.PatternTable.remove_covered.Goals as goal

pub remove_one_of_two-requires : goal.remove_one_of_two-requires
remove_one_of_two-requires c =
    all_within (λ m. m.0 < length c.args.self.now) c.args.alternatives.now.items c.in_ok-alternatives.field-0.items
    (λ m h. subst (λ ms. Contains ms m) c.as_slice.ensures.value (c.in_ok-alternatives.ensures.within m h)) c.requires

pub returns-clause-within : goal.returns-clause-within
returns-clause-within c = λ m h.
    subst (λ ms. Contains ms m) c.as_slice.ensures.value (c.in_ok-alternatives.ensures.within m (c.remove_one_of_two.ensures.within m h))
