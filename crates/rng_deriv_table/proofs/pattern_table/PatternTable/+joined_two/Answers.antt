use Rattle.std.proofs.Common.{◌≡◌, ◌∙◌, ap, arith, eqb-true, sym, subst, ℕ}
use Rattle.std.proofs.lemmas.Result.{IfOk-weaker}
use Rattle.rng_model.specs.simple.Tree.{Simple, group, interleave, s_joined}
use Rattle.rng_deriv_laws.specs.plain.Derivatives.{joined_of}
use Rattle.rng_deriv_laws.specs.plain.Restricted.{IsRestricted}
use Rattle.rng_deriv_laws.specs.plain.Taking.{Same}
use Rattle.rng_deriv_table.specs.views.Choices.{IsEither}
use Rattle.rng_deriv_table.specs.views.Trees.{tree_of}
use Rattle.rng_deriv_table.proofs.Choices.{both_ok}
use Rattle.rng_deriv_table.proofs.JoinedSides.{either_of_two, group_first, group_second, interleave_first, interleave_second, side_first, side_second}
use Rattle.rng_deriv_table.proofs.TableRows.{is_there}
use Rattle.rng_deriv_table.proofs.Trees.{Longer-length, tree_of-over_parts, tree_stays}
use Rattle.rng_deriv_table.proofs.pattern_table.PatternTable.+joined_two.Goals as goal

pub returns-then-levels-eq0-clause-matches : goal.returns-then-levels-eq0-clause-matches
returns-then-levels-eq0-clause-matches t c =
    IfOk-weaker c.choice.result _ _ (λ n takes. λ t. either_of_two t c.args.self.now c.choice.new.self c.args.first c.args.second n (takes t))
    c.choice.ensures.matches

pub returns-in_default-clause-matches : goal.returns-in_default-clause-matches
returns-in_default-clause-matches t c =
    IfOk-weaker c.choice-in_default.result _ _ (λ n takes. λ t. either_of_two t c.args.self.now c.choice-in_default.new.self c.args.first c.args.second n (takes t))
    c.choice-in_default.ensures.matches

pub joined_two-requires : goal.joined_two-requires
joined_two-requires t c =
    let first = (c.pattern.ensures.table.falls c.args.first.0 _ (is_there c.pattern.ensures.found c.in-Interleave-Interleave.is-0)).1 in
    let second = (c.pattern-2.ensures.table.falls c.args.second.0 _ (is_there c.pattern-2.ensures.found c.in-Interleave-Interleave.is-1)).1 in
    let inside = c.requires.first in
    let other = c.requires.second in
    let d = c.decreases in
    let more = c.if-levels-eq0.false in
    (omega (arith, d, more), (omega (arith, first, inside), omega (arith, second, other)))

pub interleave-requires-clause-first : goal.interleave-requires-clause-first
interleave-requires-clause-first t c =
    let side = (c.pattern.ensures.table.falls c.args.first.0 _ (is_there c.pattern.ensures.found c.in-Interleave-Interleave.is-0)).0 in
    let inside = c.requires.first in
    let long = Longer-length c.args.self.now c.joined_two.new.self c.in_ok-rest-in-Interleave-Interleave.ensures.longer in
    omega (arith, side, inside, long)

pub returns-in_ok-rest-in-Interleave-Interleave-clause-matches : goal.returns-in_ok-rest-in-Interleave-Interleave-clause-matches
returns-in_ok-rest-in-Interleave-Interleave-clause-matches t c =
    let old = c.args.self.now in
    let mid = c.joined_two.new.self in
    let new = c.interleave.new.self in
    let in_first = c.pattern.ensures.table.falls c.args.first.0 _ (is_there c.pattern.ensures.found c.in-Interleave-Interleave.is-0) in
    let in_second = c.pattern-2.ensures.table.falls c.args.second.0 _ (is_there c.pattern-2.ensures.found c.in-Interleave-Interleave.is-1) in
    let below = in_first.0 in
    let inside = c.requires.first in
    let same_side : c.in-Interleave-Interleave.a.0 ≡ c.in-Interleave-Interleave.c.0 = eqb-true _ _ (sym c.if-eq-2.ensures) in
    both_ok c.interleave.result _ _ _ (λ n adds takes. λ t.
    let side = tree_of t old c.in-Interleave-Interleave.a.0 in
    let one = tree_of t old c.in-Interleave-Interleave.b.0 in
    let other = tree_of t old c.in-Interleave-Interleave.d.0 in
    let rest = tree_of t mid c.in_ok-rest-in-Interleave-Interleave.rest.0 in
    let made = tree_of t new n.0 in
    let stays = tree_stays t old mid c.in-Interleave-Interleave.a.0 c.in_ok-rest-in-Interleave-Interleave.ensures.longer (omega (arith, below, inside)) in
    let first_is : tree_of t old c.args.first.0 ≡ s_joined interleave side one =
    tree_of-over_parts t old c.args.first.0 _ in_first (is_there c.pattern.ensures.found c.in-Interleave-Interleave.is-0) in
    let second_is : tree_of t old c.args.second.0 ≡ s_joined interleave side other =
    tree_of-over_parts t old c.args.second.0 _ in_second (is_there c.pattern-2.ensures.found c.in-Interleave-Interleave.is-1)
    ∙ ap (λ k. s_joined interleave (tree_of t old k) other) (sym same_side) in
    subst (λ (p : Simple ℕ). IsEither p (tree_of t old c.args.second.0) made) (sym first_is)
    (subst (λ (p : Simple ℕ). IsEither (s_joined interleave side one) p made) (sym second_is)
    (interleave_first side one other rest made (c.in_ok-rest-in-Interleave-Interleave.ensures.matches t)
    (λ g. subst (λ (w : Simple ℕ). Same g made (s_joined interleave w rest)) stays (takes t g)))))
    c.interleave.ensures.tree c.interleave.ensures.matches

pub returns-in_ok-rest-in-Interleave-Interleave-clause-restricted : goal.returns-in_ok-rest-in-Interleave-Interleave-clause-restricted
returns-in_ok-rest-in-Interleave-Interleave-clause-restricted t c =
    let old = c.args.self.now in
    let mid = c.joined_two.new.self in
    let new = c.interleave.new.self in
    let in_first = c.pattern.ensures.table.falls c.args.first.0 _ (is_there c.pattern.ensures.found c.in-Interleave-Interleave.is-0) in
    let in_second = c.pattern-2.ensures.table.falls c.args.second.0 _ (is_there c.pattern-2.ensures.found c.in-Interleave-Interleave.is-1) in
    let below = in_first.0 in
    let inside = c.requires.first in
    let same_side : c.in-Interleave-Interleave.a.0 ≡ c.in-Interleave-Interleave.c.0 = eqb-true _ _ (sym c.if-eq-2.ensures) in
    both_ok c.interleave.result _ _ _ (λ n adds takes. λ t.
    let side = tree_of t old c.in-Interleave-Interleave.a.0 in
    let one = tree_of t old c.in-Interleave-Interleave.b.0 in
    let other = tree_of t old c.in-Interleave-Interleave.d.0 in
    let rest = tree_of t mid c.in_ok-rest-in-Interleave-Interleave.rest.0 in
    let made = tree_of t new n.0 in
    let stays = tree_stays t old mid c.in-Interleave-Interleave.a.0 c.in_ok-rest-in-Interleave-Interleave.ensures.longer (omega (arith, below, inside)) in
    let first_is : tree_of t old c.args.first.0 ≡ s_joined interleave side one =
    tree_of-over_parts t old c.args.first.0 _ in_first (is_there c.pattern.ensures.found c.in-Interleave-Interleave.is-0) in
    let second_is : tree_of t old c.args.second.0 ≡ s_joined interleave side other =
    tree_of-over_parts t old c.args.second.0 _ in_second (is_there c.pattern-2.ensures.found c.in-Interleave-Interleave.is-1)
    ∙ ap (λ k. s_joined interleave (tree_of t old k) other) (sym same_side) in
    λ h i. side_first interleave side one other rest made (subst (λ (w : Simple ℕ). made ≡ joined_of interleave w rest) stays (adds.is t)) (c.in_ok-rest-in-Interleave-Interleave.ensures.restricted t)
    (subst IsRestricted first_is h) (subst IsRestricted second_is i))
    c.interleave.ensures.tree c.interleave.ensures.matches

pub joined_two-requires-in-Interleave-Interleave-2 : goal.joined_two-requires-in-Interleave-Interleave-2
joined_two-requires-in-Interleave-Interleave-2 t c =
    let first = (c.pattern.ensures.table.falls c.args.first.0 _ (is_there c.pattern.ensures.found c.in-Interleave-Interleave-2.is-0)).0 in
    let second = (c.pattern-2.ensures.table.falls c.args.second.0 _ (is_there c.pattern-2.ensures.found c.in-Interleave-Interleave-2.is-1)).0 in
    let inside = c.requires.first in
    let other = c.requires.second in
    let d = c.decreases in
    let more = c.if-levels-eq0.false in
    (omega (arith, d, more), (omega (arith, first, inside), omega (arith, second, other)))

pub interleave-requires-in-Interleave-Interleave-2-clause-second : goal.interleave-requires-in-Interleave-Interleave-2-clause-second
interleave-requires-in-Interleave-Interleave-2-clause-second t c =
    let side = (c.pattern.ensures.table.falls c.args.first.0 _ (is_there c.pattern.ensures.found c.in-Interleave-Interleave-2.is-0)).1 in
    let inside = c.requires.first in
    let long = Longer-length c.args.self.now c.joined_two-in-Interleave-Interleave-2.new.self c.in_ok-rest-in-Interleave-Interleave-2.ensures.longer in
    omega (arith, side, inside, long)

pub returns-in_ok-rest-in-Interleave-Interleave-2-clause-matches : goal.returns-in_ok-rest-in-Interleave-Interleave-2-clause-matches
returns-in_ok-rest-in-Interleave-Interleave-2-clause-matches t c =
    let old = c.args.self.now in
    let mid = c.joined_two-in-Interleave-Interleave-2.new.self in
    let new = c.interleave-in-Interleave-Interleave-2.new.self in
    let in_first = c.pattern.ensures.table.falls c.args.first.0 _ (is_there c.pattern.ensures.found c.in-Interleave-Interleave-2.is-0) in
    let in_second = c.pattern-2.ensures.table.falls c.args.second.0 _ (is_there c.pattern-2.ensures.found c.in-Interleave-Interleave-2.is-1) in
    let below = in_first.1 in
    let inside = c.requires.first in
    let same_side : c.in-Interleave-Interleave-2.b.0 ≡ c.in-Interleave-Interleave-2.d.0 = eqb-true _ _ (sym c.if-eq-3.ensures) in
    both_ok c.interleave-in-Interleave-Interleave-2.result _ _ _ (λ n adds takes. λ t.
    let side = tree_of t old c.in-Interleave-Interleave-2.b.0 in
    let one = tree_of t old c.in-Interleave-Interleave-2.a.0 in
    let other = tree_of t old c.in-Interleave-Interleave-2.c.0 in
    let rest = tree_of t mid c.in_ok-rest-in-Interleave-Interleave-2.rest.0 in
    let made = tree_of t new n.0 in
    let stays = tree_stays t old mid c.in-Interleave-Interleave-2.b.0 c.in_ok-rest-in-Interleave-Interleave-2.ensures.longer (omega (arith, below, inside)) in
    let first_is : tree_of t old c.args.first.0 ≡ s_joined interleave one side =
    tree_of-over_parts t old c.args.first.0 _ in_first (is_there c.pattern.ensures.found c.in-Interleave-Interleave-2.is-0) in
    let second_is : tree_of t old c.args.second.0 ≡ s_joined interleave other side =
    tree_of-over_parts t old c.args.second.0 _ in_second (is_there c.pattern-2.ensures.found c.in-Interleave-Interleave-2.is-1)
    ∙ ap (λ k. s_joined interleave other (tree_of t old k)) (sym same_side) in
    subst (λ (p : Simple ℕ). IsEither p (tree_of t old c.args.second.0) made) (sym first_is)
    (subst (λ (p : Simple ℕ). IsEither (s_joined interleave one side) p made) (sym second_is)
    (interleave_second side one other rest made (c.in_ok-rest-in-Interleave-Interleave-2.ensures.matches t)
    (λ g. subst (λ (w : Simple ℕ). Same g made (s_joined interleave rest w)) stays (takes t g)))))
    c.interleave-in-Interleave-Interleave-2.ensures.tree c.interleave-in-Interleave-Interleave-2.ensures.matches

pub returns-in_ok-rest-in-Interleave-Interleave-2-clause-restricted : goal.returns-in_ok-rest-in-Interleave-Interleave-2-clause-restricted
returns-in_ok-rest-in-Interleave-Interleave-2-clause-restricted t c =
    let old = c.args.self.now in
    let mid = c.joined_two-in-Interleave-Interleave-2.new.self in
    let new = c.interleave-in-Interleave-Interleave-2.new.self in
    let in_first = c.pattern.ensures.table.falls c.args.first.0 _ (is_there c.pattern.ensures.found c.in-Interleave-Interleave-2.is-0) in
    let in_second = c.pattern-2.ensures.table.falls c.args.second.0 _ (is_there c.pattern-2.ensures.found c.in-Interleave-Interleave-2.is-1) in
    let below = in_first.1 in
    let inside = c.requires.first in
    let same_side : c.in-Interleave-Interleave-2.b.0 ≡ c.in-Interleave-Interleave-2.d.0 = eqb-true _ _ (sym c.if-eq-3.ensures) in
    both_ok c.interleave-in-Interleave-Interleave-2.result _ _ _ (λ n adds takes. λ t.
    let side = tree_of t old c.in-Interleave-Interleave-2.b.0 in
    let one = tree_of t old c.in-Interleave-Interleave-2.a.0 in
    let other = tree_of t old c.in-Interleave-Interleave-2.c.0 in
    let rest = tree_of t mid c.in_ok-rest-in-Interleave-Interleave-2.rest.0 in
    let made = tree_of t new n.0 in
    let stays = tree_stays t old mid c.in-Interleave-Interleave-2.b.0 c.in_ok-rest-in-Interleave-Interleave-2.ensures.longer (omega (arith, below, inside)) in
    let first_is : tree_of t old c.args.first.0 ≡ s_joined interleave one side =
    tree_of-over_parts t old c.args.first.0 _ in_first (is_there c.pattern.ensures.found c.in-Interleave-Interleave-2.is-0) in
    let second_is : tree_of t old c.args.second.0 ≡ s_joined interleave other side =
    tree_of-over_parts t old c.args.second.0 _ in_second (is_there c.pattern-2.ensures.found c.in-Interleave-Interleave-2.is-1)
    ∙ ap (λ k. s_joined interleave other (tree_of t old k)) (sym same_side) in
    λ h i. side_second interleave side one other rest made (subst (λ (w : Simple ℕ). made ≡ joined_of interleave rest w) stays (adds.is t)) (c.in_ok-rest-in-Interleave-Interleave-2.ensures.restricted t)
    (subst IsRestricted first_is h) (subst IsRestricted second_is i))
    c.interleave-in-Interleave-Interleave-2.ensures.tree c.interleave-in-Interleave-Interleave-2.ensures.matches

pub joined_two-requires-in-Group-Group : goal.joined_two-requires-in-Group-Group
joined_two-requires-in-Group-Group t c =
    let first = (c.pattern.ensures.table.falls c.args.first.0 _ (is_there c.pattern.ensures.found c.in-Group-Group.is-0)).1 in
    let second = (c.pattern-2.ensures.table.falls c.args.second.0 _ (is_there c.pattern-2.ensures.found c.in-Group-Group.is-1)).1 in
    let inside = c.requires.first in
    let other = c.requires.second in
    let d = c.decreases in
    let more = c.if-levels-eq0.false in
    (omega (arith, d, more), (omega (arith, first, inside), omega (arith, second, other)))

pub group-requires-clause-first : goal.group-requires-clause-first
group-requires-clause-first t c =
    let side = (c.pattern.ensures.table.falls c.args.first.0 _ (is_there c.pattern.ensures.found c.in-Group-Group.is-0)).0 in
    let inside = c.requires.first in
    let long = Longer-length c.args.self.now c.joined_two-in-Group-Group.new.self c.in_ok-rest-in-Group-Group.ensures.longer in
    omega (arith, side, inside, long)

pub returns-in_ok-rest-in-Group-Group-clause-matches : goal.returns-in_ok-rest-in-Group-Group-clause-matches
returns-in_ok-rest-in-Group-Group-clause-matches t c =
    let old = c.args.self.now in
    let mid = c.joined_two-in-Group-Group.new.self in
    let new = c.group.new.self in
    let in_first = c.pattern.ensures.table.falls c.args.first.0 _ (is_there c.pattern.ensures.found c.in-Group-Group.is-0) in
    let in_second = c.pattern-2.ensures.table.falls c.args.second.0 _ (is_there c.pattern-2.ensures.found c.in-Group-Group.is-1) in
    let below = in_first.0 in
    let inside = c.requires.first in
    let same_side : c.in-Group-Group.a.0 ≡ c.in-Group-Group.c.0 = eqb-true _ _ (sym c.if-eq-4.ensures) in
    both_ok c.group.result _ _ _ (λ n adds takes. λ t.
    let side = tree_of t old c.in-Group-Group.a.0 in
    let one = tree_of t old c.in-Group-Group.b.0 in
    let other = tree_of t old c.in-Group-Group.d.0 in
    let rest = tree_of t mid c.in_ok-rest-in-Group-Group.rest.0 in
    let made = tree_of t new n.0 in
    let stays = tree_stays t old mid c.in-Group-Group.a.0 c.in_ok-rest-in-Group-Group.ensures.longer (omega (arith, below, inside)) in
    let first_is : tree_of t old c.args.first.0 ≡ s_joined group side one =
    tree_of-over_parts t old c.args.first.0 _ in_first (is_there c.pattern.ensures.found c.in-Group-Group.is-0) in
    let second_is : tree_of t old c.args.second.0 ≡ s_joined group side other =
    tree_of-over_parts t old c.args.second.0 _ in_second (is_there c.pattern-2.ensures.found c.in-Group-Group.is-1)
    ∙ ap (λ k. s_joined group (tree_of t old k) other) (sym same_side) in
    subst (λ (p : Simple ℕ). IsEither p (tree_of t old c.args.second.0) made) (sym first_is)
    (subst (λ (p : Simple ℕ). IsEither (s_joined group side one) p made) (sym second_is)
    (group_first side one other rest made (c.in_ok-rest-in-Group-Group.ensures.matches t)
    (λ g. subst (λ (w : Simple ℕ). Same g made (s_joined group w rest)) stays (takes t g)))))
    c.group.ensures.tree c.group.ensures.matches

pub returns-in_ok-rest-in-Group-Group-clause-restricted : goal.returns-in_ok-rest-in-Group-Group-clause-restricted
returns-in_ok-rest-in-Group-Group-clause-restricted t c =
    let old = c.args.self.now in
    let mid = c.joined_two-in-Group-Group.new.self in
    let new = c.group.new.self in
    let in_first = c.pattern.ensures.table.falls c.args.first.0 _ (is_there c.pattern.ensures.found c.in-Group-Group.is-0) in
    let in_second = c.pattern-2.ensures.table.falls c.args.second.0 _ (is_there c.pattern-2.ensures.found c.in-Group-Group.is-1) in
    let below = in_first.0 in
    let inside = c.requires.first in
    let same_side : c.in-Group-Group.a.0 ≡ c.in-Group-Group.c.0 = eqb-true _ _ (sym c.if-eq-4.ensures) in
    both_ok c.group.result _ _ _ (λ n adds takes. λ t.
    let side = tree_of t old c.in-Group-Group.a.0 in
    let one = tree_of t old c.in-Group-Group.b.0 in
    let other = tree_of t old c.in-Group-Group.d.0 in
    let rest = tree_of t mid c.in_ok-rest-in-Group-Group.rest.0 in
    let made = tree_of t new n.0 in
    let stays = tree_stays t old mid c.in-Group-Group.a.0 c.in_ok-rest-in-Group-Group.ensures.longer (omega (arith, below, inside)) in
    let first_is : tree_of t old c.args.first.0 ≡ s_joined group side one =
    tree_of-over_parts t old c.args.first.0 _ in_first (is_there c.pattern.ensures.found c.in-Group-Group.is-0) in
    let second_is : tree_of t old c.args.second.0 ≡ s_joined group side other =
    tree_of-over_parts t old c.args.second.0 _ in_second (is_there c.pattern-2.ensures.found c.in-Group-Group.is-1)
    ∙ ap (λ k. s_joined group (tree_of t old k) other) (sym same_side) in
    λ h i. side_first group side one other rest made (subst (λ (w : Simple ℕ). made ≡ joined_of group w rest) stays (adds.is t)) (c.in_ok-rest-in-Group-Group.ensures.restricted t)
    (subst IsRestricted first_is h) (subst IsRestricted second_is i))
    c.group.ensures.tree c.group.ensures.matches

pub joined_two-requires-in-Group-Group-2 : goal.joined_two-requires-in-Group-Group-2
joined_two-requires-in-Group-Group-2 t c =
    let first = (c.pattern.ensures.table.falls c.args.first.0 _ (is_there c.pattern.ensures.found c.in-Group-Group-2.is-0)).0 in
    let second = (c.pattern-2.ensures.table.falls c.args.second.0 _ (is_there c.pattern-2.ensures.found c.in-Group-Group-2.is-1)).0 in
    let inside = c.requires.first in
    let other = c.requires.second in
    let d = c.decreases in
    let more = c.if-levels-eq0.false in
    (omega (arith, d, more), (omega (arith, first, inside), omega (arith, second, other)))

pub group-requires-in-Group-Group-2-clause-second : goal.group-requires-in-Group-Group-2-clause-second
group-requires-in-Group-Group-2-clause-second t c =
    let side = (c.pattern.ensures.table.falls c.args.first.0 _ (is_there c.pattern.ensures.found c.in-Group-Group-2.is-0)).1 in
    let inside = c.requires.first in
    let long = Longer-length c.args.self.now c.joined_two-in-Group-Group-2.new.self c.in_ok-rest-in-Group-Group-2.ensures.longer in
    omega (arith, side, inside, long)

pub returns-in_ok-rest-in-Group-Group-2-clause-matches : goal.returns-in_ok-rest-in-Group-Group-2-clause-matches
returns-in_ok-rest-in-Group-Group-2-clause-matches t c =
    let old = c.args.self.now in
    let mid = c.joined_two-in-Group-Group-2.new.self in
    let new = c.group-in-Group-Group-2.new.self in
    let in_first = c.pattern.ensures.table.falls c.args.first.0 _ (is_there c.pattern.ensures.found c.in-Group-Group-2.is-0) in
    let in_second = c.pattern-2.ensures.table.falls c.args.second.0 _ (is_there c.pattern-2.ensures.found c.in-Group-Group-2.is-1) in
    let below = in_first.1 in
    let inside = c.requires.first in
    let same_side : c.in-Group-Group-2.b.0 ≡ c.in-Group-Group-2.d.0 = eqb-true _ _ (sym c.if-eq-5.ensures) in
    both_ok c.group-in-Group-Group-2.result _ _ _ (λ n adds takes. λ t.
    let side = tree_of t old c.in-Group-Group-2.b.0 in
    let one = tree_of t old c.in-Group-Group-2.a.0 in
    let other = tree_of t old c.in-Group-Group-2.c.0 in
    let rest = tree_of t mid c.in_ok-rest-in-Group-Group-2.rest.0 in
    let made = tree_of t new n.0 in
    let stays = tree_stays t old mid c.in-Group-Group-2.b.0 c.in_ok-rest-in-Group-Group-2.ensures.longer (omega (arith, below, inside)) in
    let first_is : tree_of t old c.args.first.0 ≡ s_joined group one side =
    tree_of-over_parts t old c.args.first.0 _ in_first (is_there c.pattern.ensures.found c.in-Group-Group-2.is-0) in
    let second_is : tree_of t old c.args.second.0 ≡ s_joined group other side =
    tree_of-over_parts t old c.args.second.0 _ in_second (is_there c.pattern-2.ensures.found c.in-Group-Group-2.is-1)
    ∙ ap (λ k. s_joined group other (tree_of t old k)) (sym same_side) in
    subst (λ (p : Simple ℕ). IsEither p (tree_of t old c.args.second.0) made) (sym first_is)
    (subst (λ (p : Simple ℕ). IsEither (s_joined group one side) p made) (sym second_is)
    (group_second side one other rest made (c.in_ok-rest-in-Group-Group-2.ensures.matches t)
    (λ g. subst (λ (w : Simple ℕ). Same g made (s_joined group rest w)) stays (takes t g)))))
    c.group-in-Group-Group-2.ensures.tree c.group-in-Group-Group-2.ensures.matches

pub returns-in_ok-rest-in-Group-Group-2-clause-restricted : goal.returns-in_ok-rest-in-Group-Group-2-clause-restricted
returns-in_ok-rest-in-Group-Group-2-clause-restricted t c =
    let old = c.args.self.now in
    let mid = c.joined_two-in-Group-Group-2.new.self in
    let new = c.group-in-Group-Group-2.new.self in
    let in_first = c.pattern.ensures.table.falls c.args.first.0 _ (is_there c.pattern.ensures.found c.in-Group-Group-2.is-0) in
    let in_second = c.pattern-2.ensures.table.falls c.args.second.0 _ (is_there c.pattern-2.ensures.found c.in-Group-Group-2.is-1) in
    let below = in_first.1 in
    let inside = c.requires.first in
    let same_side : c.in-Group-Group-2.b.0 ≡ c.in-Group-Group-2.d.0 = eqb-true _ _ (sym c.if-eq-5.ensures) in
    both_ok c.group-in-Group-Group-2.result _ _ _ (λ n adds takes. λ t.
    let side = tree_of t old c.in-Group-Group-2.b.0 in
    let one = tree_of t old c.in-Group-Group-2.a.0 in
    let other = tree_of t old c.in-Group-Group-2.c.0 in
    let rest = tree_of t mid c.in_ok-rest-in-Group-Group-2.rest.0 in
    let made = tree_of t new n.0 in
    let stays = tree_stays t old mid c.in-Group-Group-2.b.0 c.in_ok-rest-in-Group-Group-2.ensures.longer (omega (arith, below, inside)) in
    let first_is : tree_of t old c.args.first.0 ≡ s_joined group one side =
    tree_of-over_parts t old c.args.first.0 _ in_first (is_there c.pattern.ensures.found c.in-Group-Group-2.is-0) in
    let second_is : tree_of t old c.args.second.0 ≡ s_joined group other side =
    tree_of-over_parts t old c.args.second.0 _ in_second (is_there c.pattern-2.ensures.found c.in-Group-Group-2.is-1)
    ∙ ap (λ k. s_joined group other (tree_of t old k)) (sym same_side) in
    λ h i. side_second group side one other rest made (subst (λ (w : Simple ℕ). made ≡ joined_of group rest w) stays (adds.is t)) (c.in_ok-rest-in-Group-Group-2.ensures.restricted t)
    (subst IsRestricted first_is h) (subst IsRestricted second_is i))
    c.group-in-Group-Group-2.ensures.tree c.group-in-Group-Group-2.ensures.matches
