use Rattle.std.proofs.Common.{◌≡◌, ◌∙◌, ap, subst, map}
use Rattle.rng_names.specs.views.GrammarClasses.{attribute_class, element_class, seen_class}
use Rattle.rng_names.specs.views.KeyTables.{ServesAll, keys_in}
use Rattle.rng_names.proofs.ServingKeys.{all_served}
use Rattle.rng_names.proofs.name_keys.NameKeys.of.Goals as goal

pub returns : goal.returns
returns c =
    let t = c.args.grammar.now in
    let keys = keys_in c.in_ok-tables.tables in
    let elements : map seen_class c.as_slice.result.now ≡ map element_class t.elements =
    ap (map seen_class) c.as_slice.ensures.value ∙ c.in_ok-elements.ensures in
    let attributes : map seen_class c.as_slice-2.result.now ≡ map attribute_class t.patterns =
    ap (map seen_class) c.as_slice-2.ensures.value ∙ c.in_ok-attributes.ensures in
    all_served t keys (subst (ServesAll keys) elements c.in_ok-tables.ensures.elements) (subst (ServesAll keys) attributes c.in_ok-tables.ensures.attributes)
