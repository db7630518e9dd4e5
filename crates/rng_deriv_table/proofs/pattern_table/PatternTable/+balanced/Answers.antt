use Rattle.std.proofs.Common.{◌+◌, ◌<◌, Some, ap, arith, length, ◌∙◌}
use Rattle.rng_deriv_table.specs.plain.Kept.{Interleaves}
use Rattle.rng_deriv_table.specs.views.Node.{node_of}
use Rattle.rng_deriv_table.proofs.Choices.{both_ok}
use Rattle.rng_deriv_table.proofs.Interleaves.{as_given, at_side, of_pair, opened, ordered, sum_of_pair}
use Rattle.rng_deriv_table.proofs.Trees.{Longer-length}
use Rattle.rng_deriv_table.proofs.pattern_table.PatternTable.+balanced.Goals as goal

pub returns-in_default : goal.returns-in_default
returns-in_default t c =
    let old = c.args.self.now in
    let new = c.interleave.new.self in
    record {
      longer = c.interleave.ensures.longer;
      both = both_ok c.interleave.result _ _ (λ n. Interleaves old new c.args.first.0 c.args.second.0 n.0)
          (λ n added takes. ordered old new c.args.first c.args.second c.by_members.result n.0 c.by_members.ensures
          (as_given old new c.by_members.result.0.0 c.by_members.result.1.0 n.0 added takes))
          c.interleave.ensures.tree c.interleave.ensures.matches;
    }

pub by_members-requires-2-clause-first : goal.by_members-requires-2-clause-first
by_members-requires-2-clause-first t c =
    let o = opened c.args.self.now c.args.first c.args.second c.by_members.result c.in-Interleave.a.0 c.in-Interleave.b.0 c.by_members.ensures
    c.requires.first c.requires.second c.pattern.ensures.table (c.pattern.ensures.found ∙ ap (λ p. Some (node_of p)) c.in-Interleave.is) in
    let a = o.0 in
    let inside = o.2 in
    omega (arith, a, inside)

pub by_members-requires-2-clause-second : goal.by_members-requires-2-clause-second
by_members-requires-2-clause-second t c =
    let o = opened c.args.self.now c.args.first c.args.second c.by_members.result c.in-Interleave.a.0 c.in-Interleave.b.0 c.by_members.ensures
    c.requires.first c.requires.second c.pattern.ensures.table (c.pattern.ensures.found ∙ ap (λ p. Some (node_of p)) c.in-Interleave.is) in
    let b = o.1 in
    let inside = o.2 in
    omega (arith, b, inside)

pub members-requires : goal.members-requires
members-requires t c =
    let o = opened c.args.self.now c.args.first c.args.second c.by_members.result c.in-Interleave.a.0 c.in-Interleave.b.0 c.by_members.ensures
    c.requires.first c.requires.second c.pattern.ensures.table (c.pattern.ensures.found ∙ ap (λ p. Some (node_of p)) c.in-Interleave.is) in
    let a = o.0 in
    let b = o.1 in
    let inside = o.2 in
    (of_pair (λ n. n.0 < length c.args.self.now) c.in-Interleave.a c.in-Interleave.b c.by_members-2.result c.by_members-2.ensures
    (omega (arith, a, inside)) (omega (arith, b, inside))).1

pub members-requires-3 : goal.members-requires-3
members-requires-3 t c =
    let o = opened c.args.self.now c.args.first c.args.second c.by_members.result c.in-Interleave.a.0 c.in-Interleave.b.0 c.by_members.ensures
    c.requires.first c.requires.second c.pattern.ensures.table (c.pattern.ensures.found ∙ ap (λ p. Some (node_of p)) c.in-Interleave.is) in
    let a = o.0 in
    let b = o.1 in
    let inside = o.2 in
    (of_pair (λ n. n.0 < length c.args.self.now) c.in-Interleave.a c.in-Interleave.b c.by_members-2.result c.by_members-2.ensures
    (omega (arith, a, inside)) (omega (arith, b, inside))).0

pub returns-then-saturating_add-members-clause-both : goal.returns-then-saturating_add-members-clause-both
returns-then-saturating_add-members-clause-both t c =
    let old = c.args.self.now in
    let new = c.interleave-then-saturating_add-members.new.self in
    both_ok c.interleave-then-saturating_add-members.result _ _ (λ n. Interleaves old new c.args.first.0 c.args.second.0 n.0)
    (λ n added takes. ordered old new c.args.first c.args.second c.by_members.result n.0 c.by_members.ensures
    (as_given old new c.by_members.result.0.0 c.by_members.result.1.0 n.0 added takes))
    c.interleave-then-saturating_add-members.ensures.tree c.interleave-then-saturating_add-members.ensures.matches

pub balanced-requires : goal.balanced-requires
balanced-requires t c =
    let o = opened c.args.self.now c.args.first c.args.second c.by_members.result c.in-Interleave.a.0 c.in-Interleave.b.0 c.by_members.ensures
    c.requires.first c.requires.second c.pattern.ensures.table (c.pattern.ensures.found ∙ ap (λ p. Some (node_of p)) c.in-Interleave.is) in
    let a = o.0 in
    let b = o.1 in
    let inside = o.2 in
    let less = (of_pair (λ n. n.0 < c.by_members.result.0.0) c.in-Interleave.a c.in-Interleave.b c.by_members-2.result c.by_members-2.ensures a b).1 in
    let sum = sum_of_pair c.args.first c.args.second c.by_members.result c.by_members.ensures in
    let down : c.by_members-2.result.1.0 + c.by_members.result.1.0 < t = omega (arith, less, sum, c.decreases) in
    (down, (omega (arith, less, inside), o.3))

pub interleave-requires-2-clause-first : goal.interleave-requires-2-clause-first
interleave-requires-2-clause-first t c =
    let o = opened c.args.self.now c.args.first c.args.second c.by_members.result c.in-Interleave.a.0 c.in-Interleave.b.0 c.by_members.ensures
    c.requires.first c.requires.second c.pattern.ensures.table (c.pattern.ensures.found ∙ ap (λ p. Some (node_of p)) c.in-Interleave.is) in
    let a = o.0 in
    let b = o.1 in
    let inside = o.2 in
    let more = (of_pair (λ n. n.0 < length c.args.self.now) c.in-Interleave.a c.in-Interleave.b c.by_members-2.result c.by_members-2.ensures
    (omega (arith, a, inside)) (omega (arith, b, inside))).0 in
    let longer = Longer-length c.args.self.now c.balanced.new.self c.in_ok-joined.ensures.longer in
    omega (arith, more, longer)

pub returns-clause-both : goal.returns-clause-both
returns-clause-both t c =
    let old = c.args.self.now in
    let mid = c.balanced.new.self in
    let new = c.interleave-2.new.self in
    let big = c.by_members.result.0.0 in
    let small = c.by_members.result.1.0 in
    let inner = c.in_ok-joined.joined.0 in
    let found = c.pattern.ensures.found ∙ ap (λ p. Some (node_of p)) c.in-Interleave.is in
    let o = opened old c.args.first c.args.second c.by_members.result c.in-Interleave.a.0 c.in-Interleave.b.0 c.by_members.ensures
    c.requires.first c.requires.second c.pattern.ensures.table found in
    let a = o.0 in
    let b = o.1 in
    let inside = o.2 in
    both_ok c.interleave-2.result _ _ (λ n. Interleaves old new c.args.first.0 c.args.second.0 n.0)
    (λ n added takes. ordered old new c.args.first c.args.second c.by_members.result n.0 c.by_members.ensures
    (at_side old mid new big small inner n.0 c.pattern.ensures.table c.in_ok-joined.ensures.longer c.in-Interleave.a c.in-Interleave.b c.by_members-2.result
    c.by_members-2.ensures found (omega (arith, a, inside)) (omega (arith, b, inside)) c.in_ok-joined.ensures.both
    (as_given mid new c.by_members-2.result.0.0 inner n.0 added takes)))
    c.interleave-2.ensures.tree c.interleave-2.ensures.matches
