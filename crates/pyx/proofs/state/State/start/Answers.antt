use Rattle.std.proofs.Common.{◌≡◌, ◌∙◌, ◌&&◌, rules, sym, ap, arith, false, true, length}
use Rattle.std.specs.Prelude.{nat_le}
use Rattle.pyx.specs.plain.DocumentReader.{is_outside}
use Rattle.pyx.specs.plain.LineReader.{is_name}
use Rattle.pyx.specs.views.View.{state_of}
use Rattle.pyx.proofs.States.JudgedNames.{few_open, not_outside, start_judged}
use Rattle.pyx.proofs.state.State.start.Goals as goal
use Rattle.pyx.proofs.state.State.start.Goals.{else-self-via-then-self+else-is_empty, else-self-via-else-self}

pub returns-in_err-end_text : goal.returns-in_err-end_text
returns-in_err-end_text g c =
    let s = state_of c.args.self.now in
    let inside : (s.root && is_outside s) ≡ false = elim c.else-self.branch [
      | else-self-via-then-self+else-is_empty w ↦
          not_outside s c.begin.new.self.opened c.in_ok-begin.ensures.opened (sym w.is_empty.ensures ∙ w.if-is_empty.false)
      | else-self-via-else-self w ↦ ap (λ b. b && is_outside s) w.if-self.false
    ] in
    let good : is_name c.args.name.now ≡ true = search rules in
    let few : nat_le 512 (length s.opened) ≡ false =
    few_open s c.begin.new.self.opened c.in_ok-begin.ensures.opened (omega (arith, c.len.ensures, c.if-len-ge-OPEN_LIMIT.false)) in
    rw (start_judged c.args.bytes c.args.name.now s (state_of (record c.args.self.now { elements = c.begin.new.self })).tag c.begin.new.self.opened good inside few c.in_ok-begin.ensures.opened) (search rules)

pub returns : goal.returns
returns g c =
    let s = state_of c.args.self.now in
    let inside : (s.root && is_outside s) ≡ false = elim c.else-self.branch [
      | else-self-via-then-self+else-is_empty w ↦
          not_outside s c.begin.new.self.opened c.in_ok-begin.ensures.opened (sym w.is_empty.ensures ∙ w.if-is_empty.false)
      | else-self-via-else-self w ↦ ap (λ b. b && is_outside s) w.if-self.false
    ] in
    let good : is_name c.args.name.now ≡ true = search rules in
    let few : nat_le 512 (length s.opened) ≡ false =
    few_open s c.begin.new.self.opened c.in_ok-begin.ensures.opened (omega (arith, c.len.ensures, c.if-len-ge-OPEN_LIMIT.false)) in
    rw (start_judged c.args.bytes c.args.name.now s (state_of (record c.args.self.now { elements = c.begin.new.self })).tag c.begin.new.self.opened good inside few c.in_ok-begin.ensures.opened) (search rules)
