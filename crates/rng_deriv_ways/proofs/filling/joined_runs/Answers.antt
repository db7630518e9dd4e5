use Rattle.std.proofs.Common.{◌≡◌, ◌+◌, ◌≤◌, List, arith, get_or, length, rules, subst, sym}
use Rattle.std.proofs.lemmas.List.Elements.{Contains-get_or}
use Rattle.rng_deriv_ways.specs.plain.Ways.{IsRun}
use Rattle.rng_deriv_ways.specs.declared.way.LeafWay.{LeafWay}
use Rattle.rng_deriv_ways.proofs.JoinedWays.{AreJoined, joined_stand, rests_inside, run_joined}
use Rattle.rng_deriv_ways.proofs.filling.joined_runs.Goals as goal

pub choice-requires : goal.choice-requires
choice-requires c = λ k d h.
    let slice = c.as_slice.result.now in
    rests_inside c.args.table.now c.args.ways.now c.requires c.runs.table c.runs.start slice c.runs.invariant.joined.longer
    (subst (IsRun c.args.ways.now c.runs.start) (sym c.as_slice.ensures) c.in_ok-rests.ensures) (get_or slice k d) (Contains-get_or slice k d h)

pub runs-preserved : goal.runs-preserved
runs-preserved c =
    let old = c.args.table.now in
    let new = c.choice.new.self in
    let ways : List LeafWay = c.args.ways.now in
    let start = c.runs.start in
    let slice = c.as_slice.result.now in
    let run = subst (IsRun ways start) (sym c.as_slice.ensures) c.in_ok-rests.ensures in
    let more = run_joined old ways c.requires c.runs.table new c.runs.all.items start c.in_ok-rest.rest slice c.runs-test.true c.in_ok-rest.ensures.longer
    c.in_ok-rest.ensures.inside run c.in_ok-rest.ensures.matches c.in_ok-rest.ensures.alternatives c.runs.invariant.joined in
    let counted : c.len-start.result ≡ length slice = search rules in
    record {
      joined = subst (λ n. AreJoined old ways new c.push.new.self.items (start + n)) (sym counted)
          (subst (λ all. AreJoined old ways new all (start + length slice)) (sym c.in_ok-push.ensures.ok) more);
      within = subst (λ n. start + n ≤ length ways) (sym counted) run.within;
    }

pub runs-preserved-in_ok-push : goal.runs-preserved-in_ok-push
runs-preserved-in_ok-push c =
    let old = c.args.table.now in
    let new = c.choice.new.self in
    let ways : List LeafWay = c.args.ways.now in
    let start = c.runs.start in
    let slice = c.as_slice.result.now in
    let run = subst (IsRun ways start) (sym c.as_slice.ensures) c.in_ok-rests.ensures in
    let more = run_joined old ways c.requires c.runs.table new c.runs.all.items start c.in_ok-rest.rest slice c.runs-test.true c.in_ok-rest.ensures.longer
    c.in_ok-rest.ensures.inside run c.in_ok-rest.ensures.matches c.in_ok-rest.ensures.alternatives c.runs.invariant.joined in
    let counted : c.len-start.result ≡ length slice = search rules in
    record {
      joined = subst (λ n. AreJoined old ways new c.push.new.self.items (start + n)) (sym counted)
          (subst (λ all. AreJoined old ways new all (start + length slice)) (sym c.in_ok-push.ensures.ok) more);
      within = subst (λ n. start + n ≤ length ways) (sym counted) run.within;
    }

pub runs-smaller : goal.runs-smaller
runs-smaller c =
    let some = c.in_ok-rests.ensures.some in
    let within = c.in_ok-rests.ensures.within in
    let before = c.runs-test.true in
    omega (arith, some, within, before)

pub returns-clause-ways : goal.returns-clause-ways
returns-clause-ways c =
    let end = c.runs-test.false in
    joined_stand c.args.table.now c.args.ways.now c.requires c.runs.table c.runs.all.items c.runs.start (omega (arith, end)) c.runs.invariant.joined
