use Rattle.std.proofs.Common.{◌≡◌, ◌&&◌, ℕ, Bool, nat_lt, ◌∙◌, sym}
use Rattle.rng_model.specs.xsd.primitives.Durations.{added_to}
use Rattle.xsd_durations.specs.Views.{duration_view}
use Rattle.xsd_durations.specs.declared.duration.Duration.{Duration}
use Rattle.xsd_durations.proofs.AllMonths.{and_then, and_else, in_order}
use Rattle.xsd_durations.proofs.duration.Duration.is_less.Goals as goal
use Rattle.xsd_durations.proofs.duration.Duration.is_less.Goals.{then-ends_before, else-ends_before, then-ends_before-2, else-ends_before-2}

abbrev before : Duration → Duration → ℕ → Bool
before a b k = nat_lt (added_to k (duration_view a)) (added_to k (duration_view b))

pub returns-then-ends_before-3 : goal.returns-then-ends_before-3
returns-then-ends_before-3 c =
    let p = before c.args.self.now c.args.other.now in
    let two : c.if-ends_before.value ≡ (p 4800000000000000020360 && p 4800000000000000020365) =
    elim c.if-ends_before.branch [
      | then-ends_before w ↦ and_then _ _ _ (sym c.ends_before.ensures ∙ w.if-ends_before.true) (w.value-is ∙ w.ends_before-then-ends_before.ensures)
      | else-ends_before w ↦ and_else _ _ _ (sym c.ends_before.ensures ∙ w.if-ends_before.false) (w.value-is ∙ w.if-ends_before.false)
    ] in
    let three : c.if-ends_before-2.value ≡ ((p 4800000000000000020360 && p 4800000000000000020365) && p 4800000000000000022838) =
    elim c.if-ends_before-2.branch [
      | then-ends_before-2 w ↦ and_then _ _ _ (sym two ∙ w.if-ends_before-2.true) (w.value-is ∙ w.ends_before-then-ends_before-2.ensures)
      | else-ends_before-2 w ↦ and_else _ _ _ (sym two ∙ w.if-ends_before-2.false) (w.value-is ∙ w.if-ends_before-2.false)
    ] in
    and_then _ _ _ (sym three ∙ c.if-ends_before-3.true) c.ends_before-then-ends_before-3.ensures
    ∙ in_order (p 4800000000000000020360) (p 4800000000000000020365) (p 4800000000000000022838) (p 4800000000000000022842)

pub returns-else-ends_before-3 : goal.returns-else-ends_before-3
returns-else-ends_before-3 c =
    let p = before c.args.self.now c.args.other.now in
    let two : c.if-ends_before.value ≡ (p 4800000000000000020360 && p 4800000000000000020365) =
    elim c.if-ends_before.branch [
      | then-ends_before w ↦ and_then _ _ _ (sym c.ends_before.ensures ∙ w.if-ends_before.true) (w.value-is ∙ w.ends_before-then-ends_before.ensures)
      | else-ends_before w ↦ and_else _ _ _ (sym c.ends_before.ensures ∙ w.if-ends_before.false) (w.value-is ∙ w.if-ends_before.false)
    ] in
    let three : c.if-ends_before-2.value ≡ ((p 4800000000000000020360 && p 4800000000000000020365) && p 4800000000000000022838) =
    elim c.if-ends_before-2.branch [
      | then-ends_before-2 w ↦ and_then _ _ _ (sym two ∙ w.if-ends_before-2.true) (w.value-is ∙ w.ends_before-then-ends_before-2.ensures)
      | else-ends_before-2 w ↦ and_else _ _ _ (sym two ∙ w.if-ends_before-2.false) (w.value-is ∙ w.if-ends_before-2.false)
    ] in
    and_else _ _ _ (sym three ∙ c.if-ends_before-3.false) c.if-ends_before-3.false
    ∙ in_order (p 4800000000000000020360) (p 4800000000000000020365) (p 4800000000000000022838) (p 4800000000000000022842)
