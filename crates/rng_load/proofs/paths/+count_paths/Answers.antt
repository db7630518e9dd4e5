use Rattle.std.proofs.Common.{rules, ◌≡◌, ap, sym, subst, ◌∙◌, refl, ◌<◌, ◌≤◌, ◌-◌, suc, length, map, inr, Some}
use Rattle.rng_load.specs.declared.paths.Mark.TheVariants.{Open, Counted}
use Rattle.std.proofs.lemmas.Map.Text.{hash_map_updates_str}
use Rattle.rng_load.specs.plain.Counting.{HasFewPaths, long_end}
use Rattle.rng_load.specs.views.FilesView.{taken_files_of}
use Rattle.rnc_model.specs.loading.Loading.{hrefs_in}
use Rattle.rng_load.proofs.Mentions.CountMarks.{at_some, at_none, starts, may_count, closes, stops, goes_round, stands_in, turn, excess, ended}
use Rattle.rng_load.proofs.paths.+count_paths.Goals as goal

pub returns-in-Some-Counted-clause-counts : goal.returns-in-Some-Counted-clause-counts
returns-in-Some-Counted-clause-counts t c =
    let is : c.in-Some-Counted.field-0 ≡ Counted c.in-Some-Counted.number = search rules in
    subst (HasFewPaths (hrefs_in (taken_files_of c.args.trees.now)) c.args.name.now) (sym c.in-Some-Counted.number-is)
    (c.requires.1.1.counted _ _ (sym c.in-Some-Counted.ensures ∙ ap Some is))

pub returns-in-Some-Open-clause-counts : goal.returns-in-Some-Open-clause-counts
returns-in-Some-Open-clause-counts t c =
    let is : c.in-Some-Open.field-0 ≡ Open = search rules in
    goes_round _ _ _ _ c.requires.1.1 (sym c.in-Some-Open.ensures ∙ ap Some is)

pub returns-then-levels-eq0-clause-counts : goal.returns-then-levels-eq0-clause-counts
returns-then-levels-eq0-clause-counts t c = inr (long_end c.if-levels-eq0.true)

pub loop-next-init : goal.loop-next-init
loop-next-init t c =
    starts _ _ _ _ _ c.requires.1.1 refl (hash_map_updates_str c.args.name.now c.args.marks.now c.insert.new.self _ c.in_ok-insert.ensures.updates)

pub count_paths-requires : goal.count_paths-requires
count_paths-requires t c =
    let within : c.loop-next.next-index < length c.deref-next-items.result.now = search rules in
    let said = ap (map (λ n. n.now)) c.deref-next-items.ensures.value ∙ c.in_ok-names.ensures in
    let there = stands_in (λ n. n.now) (hrefs_in (taken_files_of c.args.trees.now)) c.args.name.now _ said c.loop-next.next-index _ within _ refl in
    (search rules, may_count _ _ _ _ _ c.requires.1.1 c.loop-next.invariant.marks there)

pub returns-in_default-clause-counts : goal.returns-in_default-clause-counts
returns-in_default-clause-counts t c =
    let within : c.loop-next.next-index < length c.deref-next-items.result.now = search rules in
    let said = ap (map (λ n. n.now)) c.deref-next-items.ensures.value ∙ c.in_ok-names.ensures in
    let there = stands_in (λ n. n.now) (hrefs_in (taken_files_of c.args.trees.now)) c.args.name.now _ said c.loop-next.next-index _ within _ refl in
    let down : c.args.levels ≡ suc (c.args.levels - 1) = search rules in
    stops _ _ _ (c.args.levels - 1) _ down there (at_none _ _ _ c.in_default.is c.in_ok-number.ensures.counts)

pub returns-then-total-gt-PATH_LIMIT-clause-counts : goal.returns-then-total-gt-PATH_LIMIT-clause-counts
returns-then-total-gt-PATH_LIMIT-clause-counts t c =
    let within : c.loop-next.next-index < length c.deref-next-items.result.now = search rules in
    let said = ap (map (λ n. n.now)) c.deref-next-items.ensures.value ∙ c.in_ok-names.ensures in
    let counted = at_some _ _ _ _ c.in-Some.is c.in_ok-number.ensures.counts in
    excess (λ n. n.now) _ _ _ said c.loop-next.next-index _ within _ refl c.args.levels _ _ _ _ c.loop-next.invariant counted.0 c.if-total-gt-PATH_LIMIT.true

pub loop-next-preserved : goal.loop-next-preserved
loop-next-preserved t c =
    let within : c.loop-next.next-index < length c.deref-next-items.result.now = search rules in
    let said = ap (map (λ n. n.now)) c.deref-next-items.ensures.value ∙ c.in_ok-names.ensures in
    let counted = at_some _ _ _ _ c.in-Some.is c.in_ok-number.ensures.counts in
    let marks = at_some _ _ _ _ c.in-Some.is c.in_ok-number.ensures.marks in
    turn (λ n. n.now) _ _ _ said c.loop-next.next-index _ within _ refl _ _ _ _ _ c.loop-next.invariant counted.0 marks (search rules)

pub returns-clause-counts : goal.returns-clause-counts
returns-clause-counts t c =
    let over : length c.deref-next-items.result.now ≤ c.loop-next.next-index = search rules in
    let said = ap (map (λ n. n.now)) c.deref-next-items.ensures.value ∙ c.in_ok-names.ensures in
    let all = ended (λ n. n.now) _ _ _ said c.loop-next.next-index over _ _ _ c.loop-next.invariant in
    (closes _ _ _ _ _ _ _ all refl (hash_map_updates_str c.args.name.now c.loop-next.marks c.insert-2.new.self _ c.in_ok-insert-2.ensures.updates)).0

pub returns-clause-marks : goal.returns-clause-marks
returns-clause-marks t c =
    let over : length c.deref-next-items.result.now ≤ c.loop-next.next-index = search rules in
    let said = ap (map (λ n. n.now)) c.deref-next-items.ensures.value ∙ c.in_ok-names.ensures in
    let all = ended (λ n. n.now) _ _ _ said c.loop-next.next-index over _ _ _ c.loop-next.invariant in
    (closes _ _ _ _ _ _ _ all refl (hash_map_updates_str c.args.name.now c.loop-next.marks c.insert-2.new.self _ c.in_ok-insert-2.ensures.updates)).1
