use Rattle.std.proofs.Common.{◌≡◌, ◌∙◌, ◌-◌, ◌+◌, ℕ, Bool, not, true≢false, true, false, refl, sym, ap, subst, get_or, arith}
use Rattle.std.specs.Bool.{beq}
use Rattle.rng_model.specs.regexes.Expressions.{holds}
use Rattle.xsd_regex.specs.views.Classes.{class_of}
use Rattle.xsd_automaton.proofs.AlikeChars.{left_mark, mark_taken, mark_kept, all_marks}
use Rattle.xsd_automaton.proofs.alike.mark_changes.Goals as goal
use Rattle.xsd_automaton.proofs.alike.mark_changes.Goals.{then-held-before, else-held-before}

no_change : (a b : Bool) → not (beq a b) ≡ false → a ≡ b
no_change true true e = refl
no_change true false e = absurd (true≢false e)
no_change false true e = absurd (true≢false e)
no_change false false e = refl

pub loop-c-preserved : goal.loop-c-preserved
loop-c-preserved c =
    let held = λ (n : ℕ). holds (class_of c.args.class.now) n in
    let at = c.loop-c.c in
    let now : c.holds-held.result ≡ held at = c.holds-held.ensures ∙ ap held c.from.ensures in
    let last : c.holds-held.result ≡ held (at + 1 - 1) = now ∙ ap held (omega arith) in
    elim c.if-held-before.branch [
      | then-held-before w ↦ record {
        as_many = c.if-held-before.array_long;
        before = λ j e. c.loop-c.invariant.before j
            (left_mark c.loop-c.alike w.from-then-held-before.result j (subst (λ l. get_or l j false ≡ true) w.alike-is e)).0;
        marked = λ j lt e.
            mark_taken held c.loop-c.alike at c.loop-c.invariant.marked w.from-then-held-before.result w.from-then-held-before.ensures j lt
            (subst (λ l. get_or l j false ≡ true) w.alike-is e);
        last = last;
      }
      | else-held-before w ↦ record {
        as_many = c.if-held-before.array_long;
        before = λ j e. c.loop-c.invariant.before j (subst (λ l. get_or l j false ≡ true) w.alike-is e);
        marked = λ j lt e.
            mark_kept held c.loop-c.alike at c.loop-c.invariant.marked
            (sym now ∙ no_change c.holds-held.result c.loop-c.before w.if-held-before.false ∙ c.loop-c.invariant.last) j lt
            (subst (λ l. get_or l j false ≡ true) w.alike-is e);
        last = last;
      }
    ]

pub returns-clause-alike : goal.returns-clause-alike
returns-clause-alike c =
    let many = c.loop-c.invariant.as_many in
    let past = c.loop-c-test.false in
    all_marks (λ n. holds (class_of c.args.class.now) n) c.loop-c.alike c.loop-c.c (omega (arith, many, past)) c.loop-c.invariant.marked
