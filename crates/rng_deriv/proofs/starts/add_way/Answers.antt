use Rattle.std.proofs.Common.{◌≡◌, ◌∙◌, ◌++◌, ◌∷◌, [], List, All, ap, length, sym, subst}
use Rattle.rng_deriv_laws.specs.plain.Restricted.{IsRestricted, IsTyped}
use Rattle.rng_deriv_table.proofs.Taking.{choice_of_two}
use Rattle.rng_deriv_table.specs.views.Trees.{tree_of}
use Rattle.rng_model.specs.matching.GrammarMatching.{reading_of}
use Rattle.rng_deriv_ways.proofs.AddedWays.{two_below}
use Rattle.rng_deriv_events.specs.declared.derivatives.StartWay.{StartWay}
use Rattle.rng_deriv.specs.views.Starts.{IsWayInside, OpensLike, with_way}
use Rattle.rng_deriv.proofs.JoinedStarts.{all_of_two, at_middle, joined_more, nothing_more}
use Rattle.rng_deriv.proofs.starts.add_way.Goals as goal

pub returns-then-is_one_not_allowed-clause-ways : goal.returns-then-is_one_not_allowed-clause-ways
returns-then-is_one_not_allowed-clause-ways c = λ t.
    nothing_more t c.args.table.now c.args.all.now.items c.args.way c.requires.inside
    (sym (c.is_one_not_allowed.ensures t) ∙ c.if-is_one_not_allowed.true)

pub choice-requires : goal.choice-requires
choice-requires c =
    let out = c.in-Some.ensures.found.1 in
    let old = c.args.table.now in
    let other = at_middle old out.0 out.1 c.in-Some.other (subst (All (IsWayInside old)) out.2 c.requires.inside) in
    two_below (length old) c.in-Some.other.body c.args.way.leaf other.0 c.requires.way.0

pub returns-clause-ways : goal.returns-clause-ways
returns-clause-ways c = λ t.
    let taken = c.in-Some.ensures.found in
    let out = taken.1 in
    let old = c.args.table.now in
    let new = c.choice.new.self in
    let way = c.args.way in
    let other = c.in-Some.other in
    let body = c.in_ok-body.body in
    let inside = subst (All (IsWayInside old)) out.2 c.requires.inside in
    let one : StartWay = record { body = body; rest = way.rest } in
    let e : c.push-2.new.self.items ≡ (out.0 ++ out.1) ++ one ∷ [] = c.in_ok-push-2.ensures.ok ∙ ap (λ (ws : List StartWay). ws ++ one ∷ []) out.3 in
    let more = joined_more old new c.in_ok-body.ensures.longer out.0 out.1 other way body inside c.requires.way taken.0 c.in_ok-body.ensures.inside t
    (choice_of_two (reading_of t) (tree_of t old) other.body way.leaf (tree_of t new body.0) (c.in_ok-body.ensures.matches t (reading_of t)))
    (λ h k. c.in_ok-body.ensures.restricted t (all_of_two IsRestricted (tree_of t old) other.body way.leaf h k))
    (λ h k. c.in_ok-body.ensures.typed t (all_of_two IsTyped (tree_of t old) other.body way.leaf h k)) in
    subst (λ (all : List StartWay). OpensLike t new (with_way t old all way) c.push-2.new.self.items) (sym out.2)
    (subst (OpensLike t new (with_way t old (out.0 ++ other ∷ out.1) way)) (sym e) more)
