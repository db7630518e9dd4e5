use Rattle.std.proofs.Common.{◌≡◌, ◌∙◌, ap, arith, subst, sym, ℕ}
use Rattle.rng_model.specs.simple.Tree.{Simple, group, s_joined}
use Rattle.rng_deriv_laws.specs.plain.Derivatives.{joined_of}
use Rattle.rng_deriv_laws.specs.plain.Taking.{Same}
use Rattle.rng_deriv_table.specs.plain.Kept.{IsRegrouped}
use Rattle.rng_deriv_table.specs.views.Trees.{tree_of}
use Rattle.rng_deriv_table.proofs.Choices.{both_ok}
use Rattle.rng_deriv_table.proofs.Regrouped.{more_made, turned_made}
use Rattle.rng_deriv_table.proofs.Trees.{tree_stays}
use Rattle.rng_deriv_table.proofs.Units.{group_there}
use Rattle.rng_deriv_table.proofs.pattern_table.PatternTable.regrouped_group.Goals as goal

pub returns-then-is_option-clause-is : goal.returns-then-is_option-clause-is
returns-then-is_option-clause-is c =
    let old = c.args.self.now in
    let option = c.requires.options c.args.second c.args.first (c.is_option.ensures c.if-is_option.true) in
    both_ok c.group.result _ _ _ (λ n adds takes. λ t.
    let made = tree_of t c.group.new.self n.0 in
    subst (λ (p : Simple ℕ). IsRegrouped p made) (sym (c.requires.is t))
    (turned_made (tree_of t old c.args.second.0) (tree_of t old c.args.first.0) made (option.is t) (takes t) (adds.is t)))
    c.group.ensures.tree c.group.ensures.matches

pub are_copies-requires-clause-number : goal.are_copies-requires-clause-number
are_copies-requires-clause-number c =
    let below = (group_there c.args.self.now c.args.first.0 c.pattern.result.now c.in-Group.body c.in-Group.copies c.pattern.ensures.table
    c.pattern.ensures.found c.in-Group.is).1 in
    let inside = c.requires.first in
    omega (arith, below, inside)

pub group-requires-2-clause-second : goal.group-requires-2-clause-second
group-requires-2-clause-second c =
    let below = (group_there c.args.self.now c.args.first.0 c.pattern.result.now c.in-Group.body c.in-Group.copies c.pattern.ensures.table
    c.pattern.ensures.found c.in-Group.is).1 in
    let inside = c.requires.first in
    omega (arith, below, inside)

pub returns-clause-is : goal.returns-clause-is
returns-clause-is c =
    let old = c.args.self.now in
    let mid = c.group-2.new.self in
    let sides = group_there old c.args.first.0 c.pattern.result.now c.in-Group.body c.in-Group.copies c.pattern.ensures.table
    c.pattern.ensures.found c.in-Group.is in
    let below = sides.0 in
    let inside = c.requires.first in
    both_ok c.group-3.result _ _ _ (λ n adds takes. λ t.
    let made = tree_of t c.group-3.new.self n.0 in
    let p = tree_of t old c.in-Group.body.0 in
    let o = tree_of t old c.args.second.0 in
    let q = tree_of t old c.in-Group.copies.0 in
    let inner = tree_of t mid c.in_ok-copies.copies.0 in
    let stays = tree_stays t old mid c.in-Group.body.0 c.in_ok-copies.ensures.longer (omega (arith, below, inside)) in
    subst (λ (w : Simple ℕ). IsRegrouped w made) (sym (c.requires.is t ∙ ap (λ (w : Simple ℕ). s_joined group w o) (sides.2 t)))
    (more_made p o q inner made (c.are_copies.ensures c.if-not-are_copies.false t) (c.in_ok-copies.ensures.matches t) (c.in_ok-copies.ensures.tree.is t)
    (λ g. subst (λ (w : Simple ℕ). Same g made (s_joined group w inner)) stays (takes t g))
    (subst (λ (w : Simple ℕ). made ≡ joined_of group w inner) stays (adds.is t))))
    c.group-3.ensures.tree c.group-3.ensures.matches
