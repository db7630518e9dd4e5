use Rattle.std.proofs.Common.{◌≡◌, ◌∙◌, ◌∷◌, ◌++◌, [], ap, sym, subst, arith}
use Rattle.rng_deriv_table.specs.views.Trees.{tree_of}
use Rattle.rng_deriv_table.proofs.Trees.{Longer-length, tree_stays}
use Rattle.rng_deriv_ways.specs.plain.Alike.{AreLikeLeaves}
use Rattle.rng_model.specs.matching.GrammarMatching.{reading_of}
use Rattle.rng_deriv_ways.specs.plain.Ways.{AreKept, AreWays, AreWaysOf, ways_by}
use Rattle.rng_deriv_ways.specs.declared.way.LeafWay as numbered
use Rattle.rng_deriv_ways.proofs.AttributeTakers.{candidates_longer}
use Rattle.rng_deriv_ways.proofs.LikeLeaves.{like_kept, like_law, like_way}
use Rattle.rng_deriv_ways.proofs.WaysOfLeaves.{no_law}
use Rattle.rng_deriv_ways.proofs.AddedWays.{one_inside}
use Rattle.rng_deriv_ways.proofs.leaves.ways_of_leaf.Goals as goal

pub returns-then-not-takes_kind-clause-ways : goal.returns-then-not-takes_kind-clause-ways
returns-then-not-takes_kind-clause-ways c =
    let t = c.args.search.now.grammar.now in
    let p = tree_of t c.args.table.now c.args.number.0 in
    let not_taken = sym c.takes_kind.ensures ∙ c.if-not-takes_kind.true in
    subst (AreWaysOf t c.args.table.now c.args.search.now.kind p) (sym c.new-ways.ensures.items) (record {
      inside = λ i d h. absurd (omega (arith, h));
      law = no_law (reading_of t) c.args.search.now.kind p c.requires.leaf not_taken;
      kept = λ place o. tt;
    })

pub returns-clause-ways : goal.returns-clause-ways
returns-clause-ways c =
    let t = c.args.search.now.grammar.now in
    let old = c.args.table.now in
    let middle = c.rest_of_leaf.new.table in
    let new = c.like_leaf.new.table in
    let p = tree_of t old c.args.number.0 in
    let q = tree_of t new c.in_ok-leaf.leaf.0 in
    let way : numbered.LeafWay = record { leaf = c.in_ok-leaf.leaf; rest = c.in_ok-rest.rest } in
    let e : c.push.new.self.items ≡ way ∷ [] = c.in_ok-push.ensures.ok ∙ ap (λ ws. ws ++ way ∷ []) c.new-ways.ensures.items in
    let rest = c.in_ok-rest.ensures.tree in
    let is : ways_by (tree_of t new) (way ∷ []) ≡ like_way p q ∷ [] =
    ap (λ r. record { leaf = q; rest = r } ∷ []) (tree_stays t middle new c.in_ok-rest.rest.0 c.like_leaf.ensures.longer rest.inside ∙ rest.is t) in
    let there = tree_stays t old middle c.args.number.0 c.rest_of_leaf.ensures.longer c.requires.inside in
    let leaf = c.in_ok-leaf.ensures.leaf t c.args.search.now.kind
    (candidates_longer t old middle c.rest_of_leaf.ensures.longer c.args.search.now.kind c.args.search.now.candidates c.requires.candidates) in
    let like = subst (λ p. AreLikeLeaves t p q) there leaf.like in
    let taken = sym c.takes_kind.ensures ∙ c.if-not-takes_kind.false in
    let long = Longer-length middle new c.like_leaf.ensures.longer in
    let below = rest.inside in
    subst (AreWaysOf t new c.args.search.now.kind p) (sym e) (record {
      inside = one_inside new way (leaf.inside, omega (arith, below, long));
      law = subst (AreWays (reading_of t) c.args.search.now.kind p) (sym is) (like_law t c.args.search.now.kind p q like taken);
      kept = λ place o. subst (AreKept c.args.search.now.kind place) (sym is) (like_kept t c.args.search.now.kind place p q like taken o);
    })
