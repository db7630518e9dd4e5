use Rattle.std.proofs.Common.{rules, ◌≡◌, ◌∙◌, refl, sym, ap, length, slice_index_or}
use Rattle.std.proofs.lemmas.List.{length-set}
use Rattle.rng_deriv_table.specs.declared.pattern.PatternNumber.{PatternNumber}
use Rattle.rng_deriv_events.specs.declared.level_table.link.Link.{Link}
use Rattle.rng_deriv_events.proofs.Numbers.{set_lent}
use Rattle.rng_deriv_events.proofs.LevelRenewal.{with_at, with_none}
use Rattle.rng_deriv_events.proofs.level_renewal.put_rests.Goals as goal

pub rests-init : goal.rests-init
rests-init c = record { around = refl; count = refl; links = sym (with_none c.args.level.now.links.items) }

pub rests-preserved : goal.rests-preserved
rests-preserved c =
    let before = c.rests.invariant in
    let links = c.rests.level.links.items in
    let lent = c.deref_mut.result.now in
    let same : lent ≡ links = c.deref_mut.ensures.value in
    let place = c.rests.place in
    let numbers = c.split_at.result.0.now in
    let none : PatternNumber = record { 0 = 0 } in
    let no_link : Link = record { inner = 0; outer = 0; rest = none } in
    let link = slice_index_or lent place no_link in
    let put : Link = record { inner = link.inner; outer = link.outer; rest = slice_index_or numbers place none } in
    let set = set_lent links lent place put same in
    record {
      around = before.around;
      count = ap length set ∙ length-set links place put ∙ before.count;
      links = set ∙ with_at c.args.level.now.links.items links numbers place none no_link link before.links c.rests-test.true (search rules)
          (ap (λ ls. slice_index_or ls place no_link) same);
    }
