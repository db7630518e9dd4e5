use Rattle.std.proofs.Common.{rules, ◌≡◌, ◌++◌, ◌∷◌, [], subst, map}
use Rattle.std.proofs.lemmas.Result.{on_ok_weaker}
use Rattle.rng_model.specs.declared.name.NameClass.TheVariants as class
use Rattle.rng_rules.specs.views.NamesMeetLabels.{AreGroups, plain_name_of}
use Rattle.rng_rules.specs.plain.NamesMeetReach.{lists}
use Rattle.rng_rules.proofs.NamesMeetGroups.{not_added}
use Rattle.rng_rules.proofs.names_meet_groups.NameGroups.add.Goals as goal

pub returns-in-Name : goal.returns-in-Name
returns-in-Name c =
    let is : class.Name c.in-Name.name ≡ c.args.label.class.now = search rules in
    on_ok_weaker c.add_name.result (λ f ls a. subst (λ k. AreGroups (ls ++ (c.args.label.row, k) ∷ []) (map plain_name_of c.add_name.new.self.names.keys)
    (lists c.add_name.new.self.rows.items)) is (f ls a)) c.add_name.ensures

pub returns-in_default : goal.returns-in_default
returns-in_default c = λ ls is.
    not_added ls (map plain_name_of c.args.self.now.names.keys) (lists c.args.self.now.rows.items) c.args.label.row c.args.label.class.now c.in_default.not-Name is
