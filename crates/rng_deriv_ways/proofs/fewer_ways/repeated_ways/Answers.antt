use Rattle.std.proofs.Common.{◌≡◌, ◌∙◌, ◌++◌, ◌∷◌, [], List, get_or, rules, subst, sym, take, true, false, ◌+◌}
use Rattle.rng_deriv_ways.specs.plain.FewerWays.{AreRepeated}
use Rattle.rng_deriv_ways.specs.declared.way.LeafWay.{LeafWay}
use Rattle.rng_deriv_ways.proofs.FewerWays.{one_dropped, one_repeated}
use Rattle.rng_deriv_ways.proofs.JoinedWays.{one_more_taken, way_to}
use Rattle.rng_deriv_ways.proofs.fewer_ways.repeated_ways.Goals as goal
use Rattle.rng_deriv_ways.proofs.fewer_ways.repeated_ways.Goals.{then-facts+in_ok-push, else-facts}

not_both : false ≡ true → ⊥
not_both e = cc

pub copies-preserved : goal.copies-preserved
copies-preserved c =
    let ns = c.args.table.now in
    let ways : List LeafWay = c.args.copies.now in
    let i = c.copies.copy-index in
    let none = way_to (record { 0 = 0 }) (record { 0 = 0 }) in
    let way : LeafWay = get_or ways i none in
    let all = c.copies.all.items in
    let more = c.args.more in
    let next = one_more_taken ways i none c.copies-test.true in
    elim c.if-facts.branch [
      | then-facts+in_ok-push w ↦
          let nullable : c.facts.result.nullable ≡ true = search rules in
          let e : c.if-facts.all.items ≡ all ++ way_to way.leaf more ∷ [] = search rules in
          subst (AreRepeated ns (take (i + 1) ways) more) (sym e)
          (subst (λ ws. AreRepeated ns ws more (all ++ way_to way.leaf more ∷ [])) next
          (one_repeated ns (take i ways) way more all (λ t g. (c.facts.ensures.nullable t g).0 nullable) c.copies.invariant))
      | else-facts w ↦
          let nullable : c.facts.result.nullable ≡ false = search rules in
          let e : c.if-facts.all.items ≡ all = search rules in
          subst (AreRepeated ns (take (i + 1) ways) more) (sym e)
          (subst (λ ws. AreRepeated ns ws more all) next
          (one_dropped ns (take i ways) way more all (λ t g d. not_both (sym nullable ∙ (c.facts.ensures.nullable t g).1 d)) c.copies.invariant))
    ]
