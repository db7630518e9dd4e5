use Rattle.std.proofs.Common.{◌∙◌, ap, filter, map, not}
use Rattle.rnc_model.specs.loading.Places.{is_overridden}
use Rattle.rng_overrides.specs.views.Gathered.{without_grammars}
use Rattle.rng_overrides.proofs.AppendedLists.{both_appended}
use Rattle.rng_overrides.proofs.replacing.replace.Goals as goal

pub returns : goal.returns
returns g c =
    both_appended c.args.all.now.items c.remove_overridden.new.included.items
    (filter (λ x. not (is_overridden (map without_grammars c.args.overriding.items) (without_grammars x))) c.args.included.items)
    c.args.overriding.items c.append.new.self.items c.append-2.new.self.items
    (c.in_ok-remove_overridden.ensures
    ∙ ap (λ os. filter (λ x. not (is_overridden (map without_grammars os) (without_grammars x))) c.args.included.items) c.deref.ensures.value)
    c.in_ok-append.ensures.items c.in_ok-append-2.ensures.items
