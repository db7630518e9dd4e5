use Rattle.std.proofs.Common.{◌∙◌, [], ◌∷◌, ◌++◌, ap, sym, append_assoc, rules}
use Rattle.std.specs.Vec.Iter.{into_iter_items}
use Rattle.rng_plain_matcher.proofs.WayLists.{one_more}
use Rattle.rng_plain_matcher.proofs.ways.before.Goals as goal

pub ways-preserved : goal.ways-preserved
ways-preserved c =
    let at = c.ways in
    record {
      all = append_assoc at.yielded (c.in-Some.way ∷ []) (into_iter_items c.next.new.self)
          ∙ ap (λ r. at.yielded ++ r) (sym c.in-Some.ensures.steps.0) ∙ at.invariant.all;
      made = one_more _ at.all.items c.push.new.self.items at.yielded c.in-Some.way (record { leaf = c.in-Some.way.leaf; rest = c.in_ok-rest.rest })
          at.invariant.made (search rules) (search rules);
    }
