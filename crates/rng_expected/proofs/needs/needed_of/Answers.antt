use Rattle.std.proofs.Common.{◌≡◌, ◌∙◌, ◌+◌, false, true, map, take, ap, sym, subst, Bor, Vec, Global}
use Rattle.std.proofs.lemmas.List.{map_push, take_all}
use Rattle.rng_model.specs.names.NameViews.{class_of, name_of}
use Rattle.rng_model.specs.declared.name.Name.{Name}
use Rattle.rng_expected.specs.plain.TagLeaves.{AllNeed, AreNeeded}
use Rattle.rng_expected.proofs.NeededNames.{class_more, not_needed, one_needed, other_name}
use Rattle.rng_expected.proofs.needs.needed_of.Goals as goal
use Rattle.rng_expected.proofs.needs.needed_of.Goals.{then-branch+in_ok-push, else-branch}

pub classes-preserved-in_default : goal.classes-preserved-in_default
classes-preserved-in_default c =
    let d = c.class-item.result in
    not_needed c.args.grammar.now c.args.table.now c.args.bodies.now _ _ (class_of d.now)
    (class_more c.args.classes.now c.classes.class-index d c.classes-test.true c.class-item.is) _ c.classes.invariant (λ n e all. c.in_default.ensures.none n e)

pub classes-preserved : goal.classes-preserved
classes-preserved c =
    let t = c.args.grammar.now in
    let ns = c.args.table.now in
    let bodies = c.args.bodies.now in
    let d = c.class-item.result in
    let n = name_of c.in-Some.name.now in
    let more = class_more c.args.classes.now c.classes.class-index d c.classes-test.true c.class-item.is in
    let Next : Vec (Bor Name) Global → Type 0 = λ needed.
    AreNeeded t ns bodies (map (λ c. class_of c.now) (take (c.classes.class-index + 1) c.args.classes.now)) (map (λ n. name_of n.now) needed.items) in
    elim c.if-branch.branch [
      | then-branch+in_ok-push w ↦ subst Next (sym w.needed-is)
          (one_needed t ns bodies _ _ (class_of d.now) more _ c.classes.invariant n _ c.in-Some.ensures.some (c.in_ok-is_needed.ensures.0 w.if-branch.true)
          (ap (map (λ n. name_of n.now)) w.in_ok-push.ensures.items ∙ map_push (λ n. name_of n.now) c.classes.needed.items c.in-Some.name))
      | else-branch w ↦ subst Next (sym w.needed-is)
          (not_needed t ns bodies _ _ (class_of d.now) more _ c.classes.invariant
          (λ m e all. let same = other_name n m (sym c.in-Some.ensures.some ∙ e) in
          let holds = c.in_ok-is_needed.ensures.1 (subst (λ n. AllNeed t ns n bodies) (sym same) all) in
          let no : false ≡ true = sym w.if-branch.false ∙ holds in absurd cc))
    ]

pub returns : goal.returns
returns c = subst
    (λ cs. AreNeeded c.args.grammar.now c.args.table.now c.args.bodies.now (map (λ c. class_of c.now) cs) (map (λ n. name_of n.now) c.classes.needed.items))
    (take_all c.classes.class-index c.args.classes.now c.classes-test.false) c.classes.invariant
