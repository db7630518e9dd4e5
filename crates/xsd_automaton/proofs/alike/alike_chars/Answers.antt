use Rattle.std.proofs.Common.{◌≡◌, ◌∙◌, ◌≤◌, ◌-◌, length, map, sym, ap, subst, inl, inr, arith}
use Rattle.std.proofs.lemmas.Bool.{cases_lt}
use Rattle.std.proofs.lemmas.List.{get_or-map, length-map}
use Rattle.rng_model.specs.regexes.Expressions.{no_char, holds}
use Rattle.xsd_regex.specs.views.Classes.{class_of}
use Rattle.xsd_positions.specs.views.Positions.{class_at}
use Rattle.xsd_automaton.specs.views.Classes.{classes_of}
use Rattle.xsd_automaton.proofs.AlikeChars.{next_alike}
use Rattle.xsd_automaton.proofs.alike.alike_chars.Goals as goal

pub loop-class-preserved : goal.loop-class-preserved
loop-class-preserved c ch e n lt =
    let ks = classes_of c.args.positions.now in
    let at = c.loop-class.class-index in
    elim (cases_lt n at) [
      | inl before ↦ c.loop-class.invariant ch (c.mark_changes.ensures.before ch e) n before
      | inr here ↦
          let n_is : n ≡ at = omega (arith, lt, here) in
          let class : class_at ks n ≡ class_of c.class-item.result =
          ap (class_at ks) n_is ∙ ap (λ l. class_at (map class_of l) at) (sym c.deref-class-items.ensures.value)
          ∙ get_or-map class_of c.deref-class-items.result.now at c.class-item.result no_char c.loop-class-test.true
          ∙ ap class_of (sym c.class-item.is) in
          ap (λ k. holds k ch) class ∙ c.mark_changes.ensures.alike ch e ∙ sym (ap (λ k. holds k (ch - 1)) class)
    ]

pub returns : goal.returns
returns c ch e i =
    let items = c.args.positions.now.classes.items in
    let whole : length (classes_of c.args.positions.now) ≤ c.loop-class.class-index =
    subst (λ n. n ≤ c.loop-class.class-index)
    (sym (length-map items class_of ∙ ap (λ l. length l) (sym c.deref-class-items.ensures.value))) c.loop-class-test.false in
    next_alike (classes_of c.args.positions.now) ch (ch - 1) (λ n lt. c.loop-class.invariant ch e n (omega (arith, lt, whole)))
    c.args.positions.now.positions.items i
