use Rattle.std.proofs.Common.{codes, rules, tests, sym, ◌∙◌}
use Rattle.std.proofs.lemmas.Iterator.{YieldsList-from_slice}
use Rattle.std.proofs.lemmas.Iterator.Search.{all_from_yields_List}
use Rattle.std.proofs.lemmas.List.Folds.{list_all-map}
use Rattle.rng_model.specs.datatypes.DatatypeViews.{parameter_of}
use Rattle.rng_model.specs.datatypes.Facets.{short_bound_of, is_range_facet}
use Rattle.rng_types.proofs.parameters.are_bounds.Goals as goal

pub returns : goal.returns
returns c =
    all_from_yields_List (λ p. is_range_facet short_bound_of (codes "minInclusive") (codes "maxInclusive") (parameter_of p)) _ _ c.all.result c.all.ensures.ran (YieldsList-from_slice c.args.params.now cc)
    (λ x b q k. search (rules, tests))
    ∙ sym (list_all-map (is_range_facet short_bound_of (codes "minInclusive") (codes "maxInclusive")) parameter_of c.args.params.now)
