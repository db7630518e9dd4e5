use Rattle.std.proofs.Common.{◌≡◌, ◌≤◌, ap, refl, max, map, None, Some, arith, rules}
use Rattle.std.proofs.lemmas.List.{length-map}
use Rattle.std.proofs.lemmas.Option.{none-some, same_Some}
use Rattle.rng_model.specs.names.Names.{NameClass}
use Rattle.rng_model.specs.names.NameViews.{class_of}
use Rattle.rng_names.specs.plain.Written.{longest}
use Rattle.rng_names.specs.views.GrammarClasses.{seen_class}
use Rattle.rng_names.proofs.CollectedNames.{holds_on, holds_of_all, seen_at}
use Rattle.rng_names.proofs.grammar_classes.longest_among.Goals as goal

pub classes-preserved-in_default : goal.classes-preserved-in_default
classes-preserved-in_default c =
    let classes = c.args.classes.now in
    let at = seen_at seen_class classes c.classes.class-index c.class-item.result _ c.classes-test.true c.class-item.is c.in_default.is in
    holds_on (λ o. (d : NameClass) → o ≡ Some d → longest d ≤ c.classes.most) (map seen_class classes) c.classes.class-index None at
    (λ d e. absurd (none-some d e)) c.classes.invariant

pub classes-preserved : goal.classes-preserved
classes-preserved c =
    let classes = c.args.classes.now in
    let at = seen_at seen_class classes c.classes.class-index c.class-item.result _ c.classes-test.true c.class-item.is c.in-Some.is in
    let most : c.max-most.result ≡ max c.classes.most c.longest.result = search rules in
    let own : c.longest.result ≡ longest (class_of c.in-Some.class.now) = c.longest.ensures in
    holds_on (λ o. (d : NameClass) → o ≡ Some d → longest d ≤ c.max-most.result) (map seen_class classes) c.classes.class-index
    (Some (class_of c.in-Some.class.now)) at
    (λ d e. let same = ap longest (same_Some (class_of c.in-Some.class.now) d e) in omega (arith, same, own, most))
    (λ k x less e d is. let before = c.classes.invariant k x less e d is in omega (arith, before, most))

pub returns : goal.returns
returns c = λ k d e.
    holds_of_all (λ o. (d : NameClass) → o ≡ Some d → longest d ≤ c.classes.most) (map seen_class c.args.classes.now) c.classes.class-index
    (omega (arith, c.classes-test.false, length-map c.args.classes.now seen_class)) c.classes.invariant k (Some d) e d refl
