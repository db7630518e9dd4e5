use Rattle.std.proofs.Common.{◌<◌, ◌↔◌, ℕ, length, map, arith, subst, sym}
use Rattle.std.proofs.lemmas.List.{length-map}
use Rattle.std.proofs.lemmas.List.Elements.{All-map}
use Rattle.std.proofs.lemmas.Result.{IfOk-weaker}
use Rattle.rng_model.specs.simple.Tree.{Simple}
use Rattle.rng_model.specs.simple.Table.{Table}
use Rattle.rng_deriv_table.specs.views.Choices.{IsAlternativeOf}
use Rattle.rng_deriv_table.specs.views.PatternTable.{Adds}
use Rattle.rng_deriv_table.specs.plain.Reduced.{HasAlternative, IsReducedChoice, MayBeMember}
use Rattle.rng_deriv_table.specs.views.Trees.{choice_over, tree_of}
use Rattle.rng_deriv_table.proofs.Alternatives.{choice_reduced}
use Rattle.rng_deriv_table.proofs.Choices.{of_choice}
use Rattle.rng_deriv_table.proofs.pattern_table.PatternTable.choice_of.Goals as goal

pub number_of-requires : goal.number_of-requires
number_of-requires c =
    let ms = c.args.alternatives.items in
    let two = c.if-len-gt1.true in
    record {
      below = (
        omega (arith, length-map ms (λ m. m.0), two, c.len.ensures),
        All-map (λ m. m < length c.args.self.now) (λ m. m.0) ms c.requires.inside,
        c.requires.rising,
      );
      reduced = λ t. All-map (λ m. MayBeMember (tree_of t c.args.self.now m)) (λ m. m.0) ms (c.requires.members t);
    }

pub returns-then-len-gt1-clause-same : goal.returns-then-len-gt1-clause-same
returns-then-len-gt1-clause-same c =
    let ns = c.args.self.now in
    let ms = c.args.alternatives.items in
    IfOk-weaker c.number_of.result
    (λ n. Adds ns c.number_of.new.self n.0 (λ t. choice_over (tree_of t ns) (map (λ m. m.0) ms)))
    (λ n. (t : Table) (s : Simple ℕ) → HasAlternative (tree_of t c.number_of.new.self n.0) s ↔ IsAlternativeOf (tree_of t ns) ms s)
    (λ n added t s. subst (λ p. HasAlternative p s ↔ IsAlternativeOf (tree_of t ns) ms s) (sym (added.is t)) (of_choice (tree_of t ns) ms s))
    c.number_of.ensures.adds

pub returns-then-len-gt1-clause-reduced : goal.returns-then-len-gt1-clause-reduced
returns-then-len-gt1-clause-reduced c =
    let ns = c.args.self.now in
    let ms = c.args.alternatives.items in
    IfOk-weaker c.number_of.result
    (λ n. Adds ns c.number_of.new.self n.0 (λ t. choice_over (tree_of t ns) (map (λ m. m.0) ms)))
    (λ n. (t : Table) → IsReducedChoice (tree_of t c.number_of.new.self n.0))
    (λ n added t. subst IsReducedChoice (sym (added.is t)) (choice_reduced (tree_of t ns) ms (c.requires.members t)))
    c.number_of.ensures.adds
