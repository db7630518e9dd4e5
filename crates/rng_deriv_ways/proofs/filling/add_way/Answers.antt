use Rattle.std.proofs.Common.{arith, length, ◌≡◌, ◌++◌, ◌∷◌, [], sym, ap, ◌∙◌, subst}
use Rattle.rng_deriv_table.specs.views.Trees.{tree_of}
use Rattle.rng_deriv_table.proofs.Taking.{choice_of_two}
use Rattle.rng_deriv_ways.specs.plain.Ways.{AreInside, StandFor, ways_by}
use Rattle.rng_deriv_ways.proofs.AddedWays.{back_inside, joined_stands, nowhere_stands, two_below}
use Rattle.rng_deriv_ways.proofs.filling.add_way.Goals as goal

pub returns-then-is_not_allowed-clause-ways : goal.returns-then-is_not_allowed-clause-ways
returns-then-is_not_allowed-clause-ways c =
    nowhere_stands c.args.table.now c.args.all.now.items c.args.way c.requires.inside (λ t. sym c.if-is_not_allowed.true ∙ c.is_not_allowed.ensures t)

pub choice-requires : goal.choice-requires
choice-requires c =
    let out = c.in-Some.ensures.found.1 in
    let old = c.args.table.now in
    let all_inside = subst (AreInside old) out.2 c.requires.inside in
    let other = back_inside old out.0 (c.in-Some.other ∷ out.1) all_inside 0 c.in-Some.other (omega arith) in
    two_below (length old) c.in-Some.other.rest c.args.way.rest other.1 c.requires.way.1

pub returns-clause-ways : goal.returns-clause-ways
returns-clause-ways c =
    let taken = c.in-Some.ensures.found in
    let out = taken.1 in
    let old = c.args.table.now in
    let new = c.choice.new.self in
    let way = c.args.way in
    let all_inside = subst (AreInside old) out.2 c.requires.inside in
    let e : c.push-2.new.self.items ≡ (out.0 ++ out.1) ++ record { leaf = way.leaf; rest = c.in_ok-rest.rest } ∷ [] =
    c.in_ok-push-2.ensures.ok ∙ ap (λ ws. ws ++ record { leaf = way.leaf; rest = c.in_ok-rest.rest } ∷ []) out.3 in
    subst (λ all. StandFor new c.push-2.new.self.items (λ t. ways_by (tree_of t old) (all ++ way ∷ []))) (sym out.2)
    (subst (λ more. StandFor new more (λ t. ways_by (tree_of t old) ((out.0 ++ c.in-Some.other ∷ out.1) ++ way ∷ []))) (sym e)
    (joined_stands old new out.0 out.1 c.in-Some.other way c.in_ok-rest.rest c.in_ok-rest.ensures.longer all_inside c.requires.way taken.0
    c.in_ok-rest.ensures.inside
    (λ t g. choice_of_two g (tree_of t old) c.in-Some.other.rest way.rest (tree_of t new c.in_ok-rest.rest.0) (λ xs ns. c.in_ok-rest.ensures.matches t g xs ns))
    c.in_ok-rest.ensures.alternatives))
