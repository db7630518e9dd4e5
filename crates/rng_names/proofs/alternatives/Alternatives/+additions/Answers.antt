use Rattle.std.proofs.Common.{◌≡◌, ◌+◌, ap, sym, ◌∙◌, ◌||◌, map, subst, take, arith}
use Rattle.std.specs.List.{list_any}
use Rattle.std.proofs.lemmas.List.{take_all}
use Rattle.std.proofs.lemmas.List.Folds.{list_any_more}
use Rattle.std.proofs.lemmas.Result.{on_ok_weaker}
use Rattle.rng_model.proofs.ChoiceViews.{choice_is}
use Rattle.rng_model.specs.names.Names.{some_of}
use Rattle.rng_model.specs.names.NameViews.{class_of}
use Rattle.rng_names.specs.views.Alternatives.{Adds, has_alternative}
use Rattle.rng_names.proofs.ExceptTables.{grows_more, grows_past_except, linked_past_except, linked_same}
use Rattle.rng_names.proofs.HeldByAlternatives.{adds_choice, adds_more}
use Rattle.rng_names.proofs.alternatives.Alternatives.+additions.Goals as goal

pub add-members-preserved : goal.add-members-preserved
add-members-preserved t c =
    let xs = c.deref-member-items.result.now in
    let i = c.members.member-index in
    let adds = c.in_ok-add-in-Choice.ensures in record {
      adds = adds_more c.args.self.now c.members.self c.add.new.self (λ test. list_any (λ x. has_alternative test (class_of x)) (take i xs))
          (λ test. has_alternative test (class_of c.member-item.result)) (λ test. list_any (λ x. has_alternative test (class_of x)) (take (i + 1) xs))
          c.members.invariant.adds adds.adds
          (λ test. list_any_more (λ x. has_alternative test (class_of x)) xs i c.member-item.result c.members-test.true
          ∙ ap (λ y. list_any (λ x. has_alternative test (class_of x)) (take i xs) || has_alternative test (class_of y)) (sym c.member-item.is));
      grows = grows_more c.args.tables.now.items c.members.tables.items c.add.new.tables.items c.members.invariant.grows adds.grows;
      linked = λ linked. adds.linked (c.members.invariant.linked linked);
    }

pub add-returns-in-Ns-clause-linked : goal.add-returns-in-Ns-clause-linked
add-returns-in-Ns-clause-linked t c =
    on_ok_weaker c.add_written.result (linked_same c.args.tables.now.items c.args.self.now c.add_written.new.self) c.add_written.ensures.excepted

pub add-returns-in-Name-clause-linked : goal.add-returns-in-Name-clause-linked
add-returns-in-Name-clause-linked t c =
    on_ok_weaker c.add_written-in-Name.result (linked_same c.args.tables.now.items c.args.self.now c.add_written-in-Name.new.self)
    c.add_written-in-Name.ensures.excepted

pub add_excepting-returns-clause-grows : goal.add_excepting-returns-clause-grows
add_excepting-returns-clause-grows t c =
    let adds = c.in_ok-add.ensures in
    on_ok_weaker c.add_except.result
    (grows_past_except c.args.tables.now.items c.add.new.tables.items c.add_except.new.tables.items c.args.self.now c.add_except.new.self c.new-inner.result
    c.add.new.self (class_of c.args.except.now) c.new-inner.ensures.bare c.new-inner.ensures.class adds.adds adds.grows adds.linked)
    c.add_except.ensures.except

pub add_excepting-returns-clause-linked : goal.add_excepting-returns-clause-linked
add_excepting-returns-clause-linked t c =
    let adds = c.in_ok-add.ensures in
    on_ok_weaker c.add_except.result
    (linked_past_except c.args.tables.now.items c.add.new.tables.items c.add_except.new.tables.items c.args.self.now c.add_except.new.self c.new-inner.result
    c.add.new.self (class_of c.args.except.now) c.new-inner.ensures.bare c.new-inner.ensures.class adds.adds adds.grows adds.linked)
    c.add_except.ensures.except

pub add-returns-after-members-clause-adds : goal.add-returns-after-members-clause-adds
add-returns-after-members-clause-adds t c =
    let xs = c.deref-member-items.result.now in
    let whole : class_of c.args.class.now ≡ some_of (map class_of xs) = choice_is _ _ xs c.in-Choice.is c.deref-member-items.ensures.value in
    let all = take_all c.members.member-index xs (omega (arith, c.members-test.false)) in
    adds_choice class_of xs (class_of c.args.class.now) c.args.self.now c.members.self whole
    (subst (λ ys. Adds c.args.self.now c.members.self (λ test. list_any (λ x. has_alternative test (class_of x)) ys)) all c.members.invariant.adds)
