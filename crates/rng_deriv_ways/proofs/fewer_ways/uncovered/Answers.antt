use Rattle.std.proofs.Common.{◌≡◌, ◌++◌, ◌∷◌, [], List, IsTrue, get_or, rules, subst, sym, take, true, ◌+◌}
use Rattle.std.proofs.lemmas.Bool.{not-false}
use Rattle.rng_deriv_ways.specs.plain.FewerWays.{AreUncovered}
use Rattle.rng_deriv_ways.specs.declared.way.LeafWay.{LeafWay}
use Rattle.rng_deriv_ways.proofs.FewerWays.{one_covered, one_left}
use Rattle.rng_deriv_ways.proofs.JoinedWays.{one_more_taken, way_to}
use Rattle.rng_deriv_ways.proofs.fewer_ways.uncovered.Goals as goal
use Rattle.rng_deriv_ways.proofs.fewer_ways.uncovered.Goals.{then-not-is_covered+in_ok-push, else-not-is_covered}

pub seconds-preserved : goal.seconds-preserved
seconds-preserved c =
    let ns = c.args.table.now in
    let ways : List LeafWay = c.as_slice-way-items.result.now in
    let i = c.seconds.way-index in
    let none = way_to (record { 0 = 0 }) (record { 0 = 0 }) in
    let way : LeafWay = get_or ways i none in
    let left = c.seconds.left.items in
    let firsts = c.args.firsts.now in
    let next = one_more_taken ways i none c.seconds-test.true in
    let nullable : IsTrue c.facts-facts.result.nullable = not-false _ c.if-not-facts.false in
    let closed : IsTrue c.facts-facts.result.subsequences = not-false _ c.if-not-facts-2.false in
    elim c.if-not-is_covered.branch [
      | then-not-is_covered+in_ok-push w ↦
          let e : c.if-not-is_covered.left.items ≡ left ++ way ∷ [] = search rules in
          subst (AreUncovered ns c.args.second firsts (take (i + 1) ways)) (sym e)
          (subst (λ ws. AreUncovered ns c.args.second firsts ws (left ++ way ∷ [])) next (one_left ns c.args.second firsts (take i ways) way left c.seconds.invariant))
      | else-not-is_covered w ↦
          let has : c.is_covered.result ≡ true = search rules in
          let e : c.if-not-is_covered.left.items ≡ left = search rules in
          subst (AreUncovered ns c.args.second firsts (take (i + 1) ways)) (sym e)
          (subst (λ ws. AreUncovered ns c.args.second firsts ws left) next (one_covered ns c.args.second firsts (take i ways) way left (record {
            loses = λ t g. c.facts-facts.ensures.subsequences t g nullable closed;
            first = c.is_covered.ensures has;
          }) c.seconds.invariant))
    ]
