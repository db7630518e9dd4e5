use Rattle.std.proofs.Common.{◌≡◌, ◌∙◌, sym, ap, rules}
use Rattle.std.proofs.lemmas.Bool.Decides.{Decides-at}
use Rattle.rng_model.specs.names.Names.{name_is}
use Rattle.rng_model.specs.names.NameViews.{class_of, name_of}
use Rattle.rng_model.specs.declared.name.NameClass.{the_lemmas}
use Rattle.rng_names.specs.plain.Holding.{holds, pair, same_name}
use Rattle.rng_names.proofs.Holding.{holds-Decides}
use Rattle.rng_names.proofs.membership.contains.Goals as goal

pub returns-in-Name : goal.returns-in-Name
returns-in-Name c =
    let class = c.args.class.now in
    let name = name_of c.args.name.now in
    let one : class_of class ≡ name_is (name_of c.in-Name.only) = ap class_of c.in-Name.is ∙ search (rules, the_lemmas) in
    let same : same_name (name_of c.in-Name.only) (pair c.as_str.result.now c.as_str-in-Name.result.now) ≡ same_name (name_of c.in-Name.only) name = search rules in
    Decides-at _ _ (c.is_named.ensures ∙ same ∙ sym (ap (λ k. holds k name) one)) (holds-Decides (class_of class) name)

pub returns-in_default : goal.returns-in_default
returns-in_default c =
    let tested : c.holds.result ≡ holds (class_of c.args.class.now) (name_of c.args.name.now) = search rules in
    Decides-at _ _ tested (holds-Decides (class_of c.args.class.now) (name_of c.args.name.now))
