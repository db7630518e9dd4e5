use Rattle.std.proofs.Common.{◌++◌, rules, tests, sym, ◌∙◌}
use Rattle.std.proofs.lemmas.Iterator.{YieldsList-from_slice}
use Rattle.std.proofs.lemmas.Iterator.Search.{all_from_yields_List}
use Rattle.std.proofs.lemmas.List.Folds.{list_all-map}
use Rattle.rng_model.specs.datatypes.DatatypeViews.{parameter_of}
use Rattle.rng_model.specs.xsd.Facets.{is_facet}
use Rattle.rng_model.specs.xsd.Limits.{limit_facets}
use Rattle.xsd_limits.specs.views.Limits.{ordered}
use Rattle.xsd_limits.proofs.facets.have_values.Goals as goal

pub returns : goal.returns
returns g c =
    let facets = limit_facets (ordered g.B.Bound.at_most g.B.Bound.less (g.T.OrderedType.value_of c.args.datatype.now)) ++ g.F.OtherFacets.facets in
    all_from_yields_List (λ p. is_facet facets (parameter_of p)) _ _ c.all.result c.all.ensures.ran (YieldsList-from_slice c.args.params.now cc)
    (λ x b q k. search (rules, tests))
    ∙ sym (list_all-map (is_facet facets) parameter_of c.args.params.now)
