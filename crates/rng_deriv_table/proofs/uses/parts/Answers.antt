use Rattle.std.proofs.Common.{◌≡◌, ◌+◌, ◌∙◌, ap, arith, length, slice_get, Some, subst, sym}
use Rattle.std.proofs.lemmas.List.{length_push}
use Rattle.std.proofs.lemmas.Option.{slice_get_within}
use Rattle.rng_model.proofs.Places.{ends_before}
use Rattle.rng_deriv_table.proofs.GrammarUses.{ArePartsOwn, parts_all, parts_more}
use Rattle.rng_deriv_table.proofs.uses.parts.Goals as goal

pub rows-preserved : goal.rows-preserved
rows-preserved c =
    let t = c.args.grammar.now in
    let us = c.rows.uses.items in
    let middle = c.add_parts.new.uses.items in
    let at : c.len.result ≡ length us = omega (arith, c.len.ensures, c.rows.uses.ok.0) in
    let row : slice_get t.patterns (length us) ≡ Some c.in-Some.row.now = subst (λ n. slice_get t.patterns n ≡ Some c.in-Some.row.now) at
    (sym c.in-Some.ensures.value) in
    let inside = slice_get_within t.patterns (length us) c.in-Some.row.now row in
    let long : length c.push.new.self.items ≡ length middle + 1 = ap length c.in_ok-push.ensures.items ∙ length_push middle c.use_by_count.result in
    let same = c.add_parts.ensures.long in
    let counted : length c.push-in-Some.new.self.items ≡ length c.rows.counts.items + 1 = ap length c.in_ok-push-2.ensures.items
    ∙ length_push c.rows.counts.items c.member_count-count.result in
    let next : length us + 1 ≡ length c.push.new.self.items = omega (arith, long, same) in
    record {
      within = omega (arith, inside, next);
      counts = omega (arith, counted, c.rows.invariant.counts, next);
      parts = subst (ArePartsOwn t c.push.new.self.items) next
          (parts_more t us middle c.push.new.self.items c.use_by_count.result (length us) c.in-Some.row.now row c.add_parts.ensures.stays
          c.add_parts.ensures.parts c.in_ok-push.ensures.items c.rows.invariant.parts);
    }

pub returns-clause-long : goal.returns-clause-long
returns-clause-long c =
    let at : c.len.result ≡ length c.rows.uses.items = omega (arith, c.len.ensures, c.rows.uses.ok.0) in
    let within = c.rows.invariant.within in
    let past = ends_before c.args.grammar.now.patterns c.len.result (sym c.in_default.ensures.value) in
    omega (arith, at, within, past)

pub returns-clause-parts : goal.returns-clause-parts
returns-clause-parts c =
    let at : c.len.result ≡ length c.rows.uses.items = omega (arith, c.len.ensures, c.rows.uses.ok.0) in
    let past = ends_before c.args.grammar.now.patterns c.len.result (sym c.in_default.ensures.value) in
    parts_all c.args.grammar.now c.rows.uses.items (length c.rows.uses.items) (omega (arith, at, past)) c.rows.invariant.parts
