use Rattle.std.proofs.Common.{ap, subst, sym, refl, ◌∙◌, rules}
use Rattle.rng_names.specs.views.PlainNames.{IsPlain}
use Rattle.rng_names.specs.views.PreparedClasses.{IsToldApart, kind_class}
use Rattle.rng_names.proofs.prepared_class.PreparedClass.is_name.Goals as goal

pub returns-in-Name : goal.returns-in-Name
returns-in-Name c = (λ _. (c.in-Name.field-0.now, sym c.self.view_is ∙ ap kind_class c.in-Name.is), λ _. refl)

pub returns-in-Table : goal.returns-in-Table
returns-in-Table c =
    let apart = subst IsToldApart c.in-Table.is c.self.invariant in
    (λ told. search rules, λ plain. absurd (apart (subst IsPlain (sym c.self.view_is ∙ ap kind_class c.in-Table.is) plain)))
