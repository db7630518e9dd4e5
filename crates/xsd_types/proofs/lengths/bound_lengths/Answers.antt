use Rattle.std.proofs.Common.{rules, tests, sym, ◌∙◌}
use Rattle.std.proofs.lemmas.Iterator.{YieldsList-from_slice}
use Rattle.std.proofs.lemmas.Iterator.Search.{all_from_yields_List}
use Rattle.std.proofs.lemmas.List.Folds.{list_all-map}
use Rattle.rng_model.specs.datatypes.DatatypeViews.{parameter_of}
use Rattle.rng_model.specs.xsd.Facets.{is_facet, length_facets}
use Rattle.xsd_types.proofs.lengths.bound_lengths.Goals as goal

pub returns : goal.returns
returns c =
    let facets = length_facets c.args.least in
    all_from_yields_List (λ p. is_facet facets (parameter_of p)) _ _ c.all.result c.all.ensures.ran (YieldsList-from_slice c.args.params.now cc)
    (λ x b q k. search (rules, tests))
    ∙ sym (list_all-map (is_facet facets) parameter_of c.args.params.now)
