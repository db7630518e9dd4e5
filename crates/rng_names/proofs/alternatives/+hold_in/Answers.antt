use Rattle.std.proofs.Common.{◌≡◌, ◌∙◌, ap, ap₂, sym, refl, length, slice_get, false, not, ◌&&◌, arith}
use Rattle.std.specs.List.{list_any}
use Rattle.std.proofs.lemmas.Option.{same_Some, slice_get_read}
use Rattle.rng_names.specs.plain.Holding.{pair}
use Rattle.rng_names.specs.views.Alternatives.{excepted_hold, told}
use Rattle.rng_names.proofs.ClassChoices.{any_here, none_before, none_more}
use Rattle.rng_names.proofs.ExceptTables.{except_beyond, excepted_test, held_as_excepted, held_by_except, held_if_told, out_of_scope}
use Rattle.rng_names.proofs.alternatives.+hold_in.Goals.{else-is_in-via-then-is_in+else-not-hold_in, else-is_in-via-else-is_in}
use Rattle.rng_names.proofs.alternatives.+hold_in.Goals as goal

pub returns-then-told : goal.returns-then-told
returns-then-told t c = λ all at.
    let q = pair c.args.ns.now c.args.local.now in
    let xs = c.args.tables.now in
    let own = slice_get_read xs (length xs) c.args.number c.index-tables-number.result refl c.requires.1.1.1 c.index-tables-number.is in
    let same = same_Some _ _ (sym own ∙ at) in
    sym (held_if_told all q (c.requires.1.1.0 c.args.number all at).stands (ap (λ x. told x q) (sym same) ∙ sym c.told.ensures ∙ c.if-told.true))

pub hold_in-requires : goal.hold_in-requires
hold_in-requires t c =
    let xs = c.args.tables.now in
    let es = c.as_slice-excepted-items.result.now in
    let own = slice_get_read xs (length xs) c.args.number c.index-tables-number.result refl c.requires.1.1.1 c.index-tables-number.is in
    let at = slice_get_read es (length es) c.excepts.excepted-index c.excepted-item.result refl c.excepts-test.true c.excepted-item.is in
    let there = (c.requires.1.1.0 c.args.number c.index-tables-number.result own).linked c.excepts.excepted-index c.excepted-item.result
    (ap (λ ys. slice_get ys c.excepts.excepted-index) (sym c.as_slice-excepted-items.ensures.value) ∙ at) in
    let below = there.below in
    let inside = c.requires.1.1.1 in
    let level = c.requires.1.0 in
    (omega (arith, below, level), (c.requires.1.1.0, omega (arith, below, inside)))

pub returns-then-not-hold_in : goal.returns-then-not-hold_in
returns-then-not-hold_in t c = λ all at.
    let q = pair c.args.ns.now c.args.local.now in
    let xs = c.args.tables.now in
    let es = c.as_slice-excepted-items.result.now in
    let i = c.excepts.excepted-index in
    let e = c.excepted-item.result in
    let own = slice_get_read xs (length xs) c.args.number c.index-tables-number.result refl c.requires.1.1.1 c.index-tables-number.is in
    let same = same_Some _ _ (sym own ∙ at) in
    let at_e = slice_get_read es (length es) i e refl c.excepts-test.true c.excepted-item.is in
    let there = (c.requires.1.1.0 c.args.number c.index-tables-number.result own).linked i e
    (ap (λ ys. slice_get ys i) (sym c.as_slice-excepted-items.ensures.value) ∙ at_e) in
    let beyond = except_beyond xs c.args.number e q c.is_in.result c.hold_in.result c.is_in.ensures there (c.hold_in.ensures there.table there.at) in
    let found = any_here (excepted_test q) es i e c.excepts-test.true c.excepted-item.is
    (beyond ∙ ap₂ (λ x y. x && not y) c.if-is_in.true c.if-not-hold_in.true) in
    sym (held_by_except all q (c.requires.1.1.0 c.args.number all at).stands
    (ap (λ x. excepted_hold x q) (sym same) ∙ ap (list_any (excepted_test q)) (sym c.as_slice-excepted-items.ensures.value) ∙ found))

pub excepts-preserved : goal.excepts-preserved
excepts-preserved t c =
    let q = pair c.args.ns.now c.args.local.now in
    let xs = c.args.tables.now in
    let es = c.as_slice-excepted-items.result.now in
    let i = c.excepts.excepted-index in
    let e = c.excepted-item.result in
    let own = slice_get_read xs (length xs) c.args.number c.index-tables-number.result refl c.requires.1.1.1 c.index-tables-number.is in
    let at_e = slice_get_read es (length es) i e refl c.excepts-test.true c.excepted-item.is in
    let there = (c.requires.1.1.0 c.args.number c.index-tables-number.result own).linked i e
    (ap (λ ys. slice_get ys i) (sym c.as_slice-excepted-items.ensures.value) ∙ at_e) in
    let more : excepted_test q e ≡ false → _ = λ off. none_more (excepted_test q) es i e c.excepts-test.true c.excepted-item.is off c.excepts.invariant in
    elim c.else-is_in.branch [
      | else-is_in-via-then-is_in+else-not-hold_in w ↦ more (except_beyond xs c.args.number e q c.is_in.result w.hold_in.result c.is_in.ensures there
          (w.hold_in.ensures there.table there.at) ∙ ap₂ (λ x y. x && not y) w.if-is_in.true w.if-not-hold_in.false)
      | else-is_in-via-else-is_in w ↦ more (out_of_scope e q (sym c.is_in.ensures ∙ w.if-is_in.false))
    ]

pub returns : goal.returns
returns t c = λ all at.
    let q = pair c.args.ns.now c.args.local.now in
    let xs = c.args.tables.now in
    let es = c.as_slice-excepted-items.result.now in
    let own = slice_get_read xs (length xs) c.args.number c.index-tables-number.result refl c.requires.1.1.1 c.index-tables-number.is in
    let same = same_Some _ _ (sym own ∙ at) in
    let none = none_before (excepted_test q) es c.excepts.excepted-index (omega (arith, c.excepts-test.false)) c.excepts.invariant in
    sym (held_as_excepted all q (c.requires.1.1.0 c.args.number all at).stands (ap (λ x. told x q) (sym same) ∙ sym c.told.ensures ∙ c.if-told.false)
    ∙ ap (λ x. excepted_hold x q) (sym same) ∙ ap (list_any (excepted_test q)) (sym c.as_slice-excepted-items.ensures.value) ∙ none)
