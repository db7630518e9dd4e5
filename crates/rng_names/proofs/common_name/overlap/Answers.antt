use Rattle.std.proofs.Common.{IsTrue, IsFalse, rules, subst}
use Rattle.rng_model.specs.names.Names.{Overlap}
use Rattle.rng_model.specs.plain.ClassesApart.{AreApart}
use Rattle.rng_model.specs.names.NameViews.{class_of, name_of}
use Rattle.rng_names.proofs.PlainNames.{either_way, plain_common, plain_apart, swapped}
use Rattle.rng_names.proofs.NameViews.{are_texts, name_class_is}
use Rattle.rng_names.proofs.common_name.overlap.Goals as goal

pub returns-in-Name-default-clause-common : goal.returns-in-Name-default-clause-common
returns-in-Name-default-clause-common c =
    let n = c.in-Name-default.name in
    plain_common _ (name_of n) (class_of c.args.a.now) (class_of c.args.b.now) (are_texts n) (name_class_is _ n c.in-Name-default.is-0) c.contains.ensures

pub returns-in_default-Name : goal.returns-in_default-Name
returns-in_default-Name c =
    let n = c.in_default-Name.name in
    let a = class_of c.args.a.now in
    let b = class_of c.args.b.now in
    let is = name_class_is _ n c.in_default-Name.is-1 in
    let decides = c.contains-in_default-Name.ensures in
    let common : IsTrue c.contains-in_default-Name.result → Overlap a b = λ told. swapped b a (plain_common _ (name_of n) b a (are_texts n) is decides told) in
    let apart : IsFalse c.contains-in_default-Name.result → AreApart a b = λ denied q in_a in_b. plain_apart _ (name_of n) b a is decides denied q in_b in_a in
    record { common = common; apart = apart; either_way = either_way a b _ common apart; plain = search rules }

pub returns-in_ok-second-in_default : goal.returns-in_ok-second-in_default
returns-in_ok-second-in_default c =
    let a = class_of c.args.a.now in
    let b = class_of c.args.b.now in
    let first = c.in_ok-first-in_default.ensures in
    let second = c.in_ok-second-in_default.ensures in
    let common : IsTrue c.meet.result → Overlap a b = λ told.
    subst (λ k. Overlap (class_of k) b) first (subst (λ k. Overlap (class_of c.in_ok-first-in_default.first) (class_of k)) second (c.meet.ensures.common told)) in
    let apart : IsFalse c.meet.result → AreApart a b = λ denied.
    subst (λ k. AreApart (class_of k) b) first (subst (λ k. AreApart (class_of c.in_ok-first-in_default.first) (class_of k)) second (c.meet.ensures.apart denied)) in
    record { common = common; apart = apart; either_way = either_way a b _ common apart; plain = search rules }
