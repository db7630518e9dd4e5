use Rattle.std.proofs.Common.{◌≡◌, ◌<◌, ◌++◌, ◌∷◌, [], length, rules, subst, sym}
use Rattle.std.proofs.lemmas.List.{length_push}
use Rattle.rng_deriv_ways.specs.plain.Ways.{IsRun, way_at}
use Rattle.rng_deriv_ways.proofs.JoinedWays.{run_begins, run_more}
use Rattle.rng_deriv_ways.proofs.filling.run_from.Goals as goal

pub ways-init : goal.ways-init
ways-init c =
    let ways = c.args.ways.now in
    let start = c.args.start in
    let made : c.push.new.self.items ≡ (way_at ways start).rest ∷ [] = search rules in
    record {
      leaf = search rules;
      at = search rules;
      run = subst (IsRun ways start) (sym made) (run_begins ways start c.requires);
    }

pub ways-preserved : goal.ways-preserved
ways-preserved c =
    let ways = c.args.ways.now in
    let start = c.args.start in
    let next = c.ways.next in
    let rests = c.ways.rests.items in
    let made : c.push-in-ways.new.self.items ≡ rests ++ (way_at ways next).rest ∷ [] = search rules in
    let inside : next < length ways = search rules in
    let same : (way_at ways next).leaf ≡ (way_at ways start).leaf = search rules in
    let long = length_push rests (way_at ways next).rest in
    let at = c.ways.invariant.at in
    record {
      leaf = c.ways.invariant.leaf;
      at = search rules;
      run = subst (IsRun ways start) (sym made) (run_more ways start next rests at inside c.ways.invariant.run same);
    }
