use Rattle.std.proofs.Common.{◌≡◌, ◌↔◌, ◌∙◌, All, ap, subst, sym, true}
use Rattle.std.proofs.lemmas.Bool.{not-false}
use Rattle.rng_deriv_events.specs.views.Basis.{reading_by}
use Rattle.rng_deriv_events.specs.views.LevelTable.{levels_in, numbers_in}
use Rattle.rng_deriv_events.specs.views.NextEnds.{EndMayCome}
use Rattle.rng_deriv_events.specs.views.Numbers.{IsInside}
use Rattle.rng_deriv_events.specs.views.OpenPositions.{held_string}
use Rattle.rng_deriv_events.specs.declared.level_table.level.LevelNumber.{LevelNumber}
use Rattle.rng_deriv_events.proofs.KeptLevels.{below_grows, numbers_grow, numbers_inside}
use Rattle.rng_deriv_events.proofs.NextEnds.{ends_alone, ends_behind, some_alone, some_nullable}
use Rattle.rng_deriv_events.proofs.Numbers.{trees_stay}
use Rattle.rng_deriv_events.proofs.left.Mark.may_end.Goals as goal

pub returns-then-self-clause-ends : goal.returns-then-self-clause-ends
returns-then-self-clause-ends g c = λ m of.
    let d = c.args.derivatives.now in
    let reading = reading_by (g.D.Derivatives.basis d) in
    let trees = g.D.Derivatives.trees d in
    let t = c.args.table.now in
    let k = c.args.self in
    let same = ap (λ (n : LevelNumber). some_nullable trees (numbers_in (levels_in t) n.0)) (sym c.settled_level-level.ensures)
    ∙ ap (some_nullable trees) (sym c.numbers.ensures) ∙ sym c.some_end.ensures in
    subst (λ b. (b ≡ true) ↔ EndMayCome reading m) same
    (ends_behind reading trees t k m of (not-false k.is_open c.if-not-self.false) c.if-self.true)

pub some_end_with-requires : goal.some_end_with-requires
some_end_with-requires g c =
    let trees = g.D.Derivatives.trees c.held_or_empty.new.derivatives in
    let told = c.in_ok-string.ensures in
    let t = c.held_or_empty.new.table in
    let level = c.args.self.level in
    record {
      now = subst (All (IsInside trees)) (sym c.numbers-now.ensures)
          (numbers_inside trees (levels_in t) level.0 told.keeps.right.kept.levels
          (below_grows (levels_in c.args.table.now) (levels_in t) level.0 told.keeps.right.levels c.requires.mark.0));
      after = subst (All (IsInside trees)) (sym c.numbers-after.ensures)
          (numbers_inside trees (levels_in t) c.in_ok-string.string.after.0 told.keeps.right.kept.levels told.inside.0);
    }

pub returns-clause-ends : goal.returns-clause-ends
returns-clause-ends g c = λ m of.
    let d = c.args.derivatives.now in
    let reading = reading_by (g.D.Derivatives.basis d) in
    let old = g.D.Derivatives.trees d in
    let new = g.D.Derivatives.trees c.held_or_empty.new.derivatives in
    let t = c.args.table.now in
    let u = c.held_or_empty.new.table in
    let k = c.args.self in
    let told = c.in_ok-string.ensures in
    let h = held_string u c.in_ok-string.string in
    let now = numbers_in (levels_in t) k.level.0 in
    let grown = numbers_grow (levels_in t) (levels_in u) k.level.0 told.keeps.right.levels c.requires.mark.0 in
    let same = some_alone new now h.after c.numbers-now.result.now c.numbers-after.result.now h.blank c.some_end_with.result
    (c.numbers-now.ensures ∙ grown) c.numbers-after.ensures c.some_end_with.ensures in
    let inside = numbers_inside old (levels_in t) k.level.0 c.requires.kept.levels c.requires.mark.0 in
    subst (λ b. (b ≡ true) ↔ EndMayCome reading m) same
    (ends_alone reading old t k m of (not-false k.is_open c.if-not-self.false) c.if-self.false new now h
    (of.now ∙ sym (trees_stay old new told.held.longer now inside)) (told.held.held m.held of.held))
