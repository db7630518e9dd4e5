use Rattle.std.proofs.Common.{◌≡◌, ◌∙◌, ap, refl, sym, subst, map, Some, arith, rules}
use Rattle.std.proofs.lemmas.List.{length-map}
use Rattle.std.proofs.lemmas.Result.{on_ok_weaker}
use Rattle.rng_model.proofs.ChoiceViews.{choice_is}
use Rattle.rng_model.specs.names.NameViews.{namespace_bytes, class_of}
use Rattle.rng_model.specs.names.Names.{any_except, ns_except, some_of}
use Rattle.rng_names.proofs.NameViews.{any_except_is, ns_except_is}
use Rattle.rng_names.specs.plain.Regions.{AddsPart, HasBegun, sorted_in}
use Rattle.rng_names.specs.declared.written_names.WrittenNames.{WrittenNames}
use Rattle.rng_names.proofs.Regions.{any_except_added, begins_grows, choice_added, ns_except_added, one_part}
use Rattle.rng_names.specs.plain.WrittenNames.{IsMeasured, Knows, written_in}
use Rattle.rng_names.proofs.CollectedNames.{all_members, both_ok, grows_on, knows_members, knows_ns_except, one_added, seen_at}
use Rattle.rng_names.proofs.written_names.WrittenNames.+add_class.Goals as goal

pub members-preserved : goal.members-preserved
members-preserved t c =
    let members = c.deref-member-items.result.now in
    let at = seen_at (λ m. Some (class_of m)) members c.members.member-index c.member-item.result _ c.members-test.true c.member-item.is refl in
    let added = c.in_ok-add_class-in-Choice.ensures in
    let classes = map (λ m. Some (class_of m)) members in
    let n = c.members.member-index in
    let class = class_of c.member-item.result in
    let mid = c.members.self in
    let new = c.add_class-in-members.new.self in (
      one_added (written_in c.args.self.now) (written_in mid) (written_in new) classes n class at c.members.invariant.0 added.grows added.knows,
      λ begun. one_part c.args.region (sorted_in c.args.self.now.names) (sorted_in mid.names) (sorted_in new.names) classes n class (written_in mid) refl at
          c.members.invariant.0.known (c.members.invariant.1 begun) added.adds,
    )

pub returns-after-members-clause-knows : goal.returns-after-members-clause-knows
returns-after-members-clause-knows t c =
    let members = c.deref-member-items.result.now in
    let new = written_in c.members.self in
    let whole : class_of c.args.class.now ≡ some_of (map class_of members) = choice_is _ _ members c.in-Choice.is c.deref-member-items.ensures.value in
    subst (Knows new) (sym whole)
    (knows_members new (map class_of members) (all_members (written_in c.args.self.now) new class_of members c.members.member-index
    (omega (arith, c.members-test.false)) c.members.invariant.0))

pub returns-after-members-clause-adds : goal.returns-after-members-clause-adds
returns-after-members-clause-adds t c =
    let members = c.deref-member-items.result.now in
    let old = sorted_in c.args.self.now.names in
    let new = sorted_in c.members.self.names in
    let whole : class_of c.args.class.now ≡ some_of (map class_of members) = choice_is _ _ members c.in-Choice.is c.deref-member-items.ensures.value in
    λ begun. subst (λ k. AddsPart c.args.region k old new) (sym whole)
    (choice_added c.args.region old new class_of members c.members.member-index
    (omega (arith, c.members-test.false, length-map members (λ m. Some (class_of m)))) (c.members.invariant.1 begun))

pub returns-in_ok-region-in-AnyExcept-clause-adds : goal.returns-in_ok-region-in-AnyExcept-clause-adds
returns-in_ok-region-in-AnyExcept-clause-adds t c =
    let r = c.args.region in
    let except = c.in-AnyExcept.except in
    let old = sorted_in c.args.self.now.names in
    let mid = sorted_in c.begin.new.self in
    let new = sorted_in c.add_class.new.self.names in
    let whole = any_except_is _ except c.in-AnyExcept.is in
    let inside : class_of c.deref-in-AnyExcept.result.now ≡ class_of except.value = search rules in
    on_ok_weaker c.add_class.result
    (λ adds begun. subst (λ k. AddsPart r k old new) (ap any_except inside ∙ sym whole)
    (any_except_added r (class_of c.deref-in-AnyExcept.result.now) old mid new c.in_ok-region-in-AnyExcept.region c.in_ok-region-in-AnyExcept.ensures adds begun))
    c.add_class.ensures.adds

pub returns-in_ok-region-in-NsExcept-clause-grows : goal.returns-in_ok-region-in-NsExcept-clause-grows
returns-in_ok-region-in-NsExcept-clause-grows t c =
    let mid = c.add_namespace-in-NsExcept.new.self in
    let begun : WrittenNames = record { names = c.begin-in-NsExcept.new.self; longest = mid.longest } in
    let new = c.add_class-in-NsExcept.new.self in
    on_ok_weaker c.add_class-in-NsExcept.result
    (grows_on (written_in c.args.self.now) (written_in begun) (written_in new)
    (grows_on (written_in c.args.self.now) (written_in mid) (written_in begun) c.in_ok-add_namespace-in-NsExcept.ensures.grows
    (begins_grows (written_in mid) (written_in begun) (sorted_in mid.names) (sorted_in begun.names) c.in_ok-region-in-NsExcept.region
    c.in_ok-region-in-NsExcept.ensures refl refl refl)))
    c.add_class-in-NsExcept.ensures.grows

pub returns-in_ok-region-in-NsExcept-clause-knows : goal.returns-in_ok-region-in-NsExcept-clause-knows
returns-in_ok-region-in-NsExcept-clause-knows t c =
    let ns = c.in-NsExcept.ns in
    let except = c.in-NsExcept.except in
    let mid = written_in c.add_namespace-in-NsExcept.new.self in
    let new = written_in c.add_class-in-NsExcept.new.self in
    let whole = ns_except_is _ ns except c.in-NsExcept.is in
    let has : IsMeasured mid (namespace_bytes ns) 0 = c.in_ok-add_namespace-in-NsExcept.ensures.has in
    let inside : class_of c.deref-in-NsExcept-2.result.now ≡ class_of except.value = search rules in
    both_ok c.add_class-in-NsExcept.result
    (λ grows known. subst (Knows new) (sym whole)
    (knows_ns_except new (namespace_bytes ns) (class_of except.value) (grows.longest (namespace_bytes ns) 0 has) (subst (Knows new) inside known)))
    c.add_class-in-NsExcept.ensures.grows c.add_class-in-NsExcept.ensures.knows

pub returns-in_ok-region-in-NsExcept-clause-adds : goal.returns-in_ok-region-in-NsExcept-clause-adds
returns-in_ok-region-in-NsExcept-clause-adds t c =
    let r = c.args.region in
    let ns = c.in-NsExcept.ns in
    let except = c.in-NsExcept.except in
    let mid = sorted_in c.add_namespace-in-NsExcept.new.self.names in
    let begun' = sorted_in c.begin-in-NsExcept.new.self in
    let new = sorted_in c.add_class-in-NsExcept.new.self.names in
    let whole = ns_except_is _ ns except c.in-NsExcept.is in
    let same = c.in_ok-add_namespace-in-NsExcept.ensures.names in
    let inside : class_of c.deref-in-NsExcept-2.result.now ≡ class_of except.value = search rules in
    on_ok_weaker c.add_class-in-NsExcept.result
    (λ adds begun. subst (λ o. AddsPart r (class_of c.args.class.now) (sorted_in o) new) same
    (subst (λ k. AddsPart r k mid new) (ap (ns_except (namespace_bytes ns)) inside ∙ sym whole)
    (ns_except_added r (class_of c.deref-in-NsExcept-2.result.now) mid begun' new c.in_ok-region-in-NsExcept.region c.in_ok-region-in-NsExcept.ensures adds
    (subst (λ o. HasBegun (sorted_in o) r) (sym same) begun) (namespace_bytes ns))))
    c.add_class-in-NsExcept.ensures.adds
