use Rattle.std.proofs.Common.{◌≡◌, subst, sym, refl, length, rules}
use Rattle.std.proofs.lemmas.Result.{on_ok_weaker}
use Rattle.rng_model.specs.names.Names.{name_is}
use Rattle.rng_model.specs.names.NameViews.{name_of}
use Rattle.rng_names.specs.plain.Regions.{AddsPart, HasBegun, sorted_in}
use Rattle.rng_names.specs.plain.WrittenNames.{HasName, IsMeasured, written_in}
use Rattle.rng_names.proofs.CollectedNames.{grows_on, knows_name, less_measured, name_put}
use Rattle.rng_names.proofs.written_names.WrittenNames.add_name.Goals as goal

pub returns-clause-grows : goal.returns-clause-grows
returns-clause-grows c =
    let mid = written_in c.add_namespace.new.self in
    let new = written_in (record { names = c.add.new.self; longest = c.add_namespace.new.self.longest }) in
    on_ok_weaker c.add.result
    (λ puts. grows_on (written_in c.args.self.now) mid new c.in_ok-add_namespace.ensures.grows (name_put mid new refl puts.1.stays)) c.add.ensures.puts

pub returns-clause-knows : goal.returns-clause-knows
returns-clause-knows c =
    let n = name_of c.args.name.now in
    let mid = written_in c.add_namespace.new.self in
    let new = written_in (record { names = c.add.new.self; longest = c.add_namespace.new.self.longest }) in
    let copy : name_of c.in_ok-name.name ≡ n = search rules in
    let bytes : c.len.result ≡ length n.local = search rules in
    let has = c.in_ok-add_namespace.ensures.has in
    let measured = subst (λ b. IsMeasured mid n.ns b) bytes has in
    on_ok_weaker c.add.result
    (λ puts. knows_name new n (less_measured new n.ns (length n.local) measured)
    (subst (HasName new) copy (record { place = puts.0; at = puts.1.there; measured = subst (λ q. IsMeasured mid q.ns (length q.local)) (sym copy) measured })))
    c.add.ensures.puts

pub returns-clause-adds : goal.returns-clause-adds
returns-clause-adds c =
    let n = name_of c.args.name.now in
    let r = c.args.region in
    let new = sorted_in c.add.new.self in
    let copy : name_of c.in_ok-name.name ≡ n = search rules in
    let same = c.in_ok-add_namespace.ensures.names in
    on_ok_weaker c.add.result
    (λ adds begun. subst (λ o. AddsPart r (name_is n) (sorted_in o) new) same
    (subst (λ q. AddsPart r (name_is q) (sorted_in c.add_namespace.new.self.names) new) copy (adds (subst (λ o. HasBegun (sorted_in o) r) (sym same) begun))))
    c.add.ensures.adds
