use Rattle.std.proofs.Common.{refl, map, arith}
use Rattle.std.proofs.lemmas.List.{length-map}
use Rattle.rng_model.specs.names.NameViews.{class_of}
use Rattle.rng_names.specs.views.GrammarClasses.{seen_class}
use Rattle.rng_names.specs.plain.Regions.{sorted_in}
use Rattle.rng_names.specs.plain.WrittenNames.{written_in}
use Rattle.rng_names.specs.declared.written_names.WrittenNames.{WrittenNames}
use Rattle.rng_names.proofs.CollectedNames.{all_added, grows_on, one_added, one_passed_over, seen_at}
use Rattle.rng_names.proofs.Regions.{all_sorted, begins_grows, class_added, one_part, one_passed}
use Rattle.rng_names.proofs.written_names.WrittenNames.add_classes.Goals as goal

pub classes-preserved-in_default : goal.classes-preserved-in_default
classes-preserved-in_default c =
    let classes = c.args.classes.now in
    let n = c.classes.class-index in
    let at = seen_at seen_class classes n c.class-item.result _ c.classes-test.true c.class-item.is c.in_default.is in (
      one_passed_over (written_in c.args.self.now) (written_in c.classes.self) (map seen_class classes) n at c.classes.invariant.0,
      λ begun. one_passed 0 (sorted_in c.args.self.now.names) (sorted_in c.classes.self.names) (map seen_class classes) n at (c.classes.invariant.1 begun),
    )

pub classes-preserved : goal.classes-preserved
classes-preserved c =
    let classes = c.args.classes.now in
    let n = c.classes.class-index in
    let class = class_of c.in-Some.class.now in
    let old = c.args.self.now in
    let mid = c.classes.self in
    let begun : WrittenNames = record { names = c.begin.new.self; longest = mid.longest } in
    let new = c.add_class.new.self in
    let added = c.in_ok-add_class.ensures in
    let begins = c.in_ok-region.ensures in
    let region = c.in_ok-region.region in
    let at = seen_at seen_class classes n c.class-item.result _ c.classes-test.true c.class-item.is c.in-Some.is in
    let same = begins_grows (written_in mid) (written_in begun) (sorted_in mid.names) (sorted_in begun.names) region begins refl refl refl in (
      one_added (written_in old) (written_in mid) (written_in new) (map seen_class classes) n class at c.classes.invariant.0
          (grows_on (written_in mid) (written_in begun) (written_in new) same added.grows) added.knows,
      λ ready. one_part 0 (sorted_in old.names) (sorted_in mid.names) (sorted_in new.names) (map seen_class classes) n class (written_in mid) refl at
          c.classes.invariant.0.known (c.classes.invariant.1 ready)
          (class_added 0 class (sorted_in mid.names) (sorted_in begun.names) (sorted_in new.names) region begins added.adds),
    )

pub returns-clause-knows : goal.returns-clause-knows
returns-clause-knows c =
    all_added (written_in c.args.self.now) (written_in c.classes.self) (map seen_class c.args.classes.now) c.classes.class-index
    (omega (arith, c.classes-test.false, length-map c.args.classes.now seen_class)) c.classes.invariant.0

pub returns-clause-sorts : goal.returns-clause-sorts
returns-clause-sorts c = λ begun.
    all_sorted (sorted_in c.args.self.now.names) (sorted_in c.classes.self.names) (map seen_class c.args.classes.now) c.classes.class-index
    (omega (arith, c.classes-test.false, length-map c.args.classes.now seen_class)) (c.classes.invariant.1 begun)
