use Rattle.std.proofs.Common.{rules, tests, not, sym, ◌∙◌}
use Rattle.std.proofs.lemmas.Iterator.{YieldsList-from_slice}
use Rattle.std.proofs.lemmas.Iterator.Search.{all_from_yields_List}
use Rattle.std.proofs.lemmas.List.Folds.{list_all-map}
use Rattle.rng_model.specs.datatypes.DatatypeViews.{parameter_of}
use Rattle.rng_model.specs.regexes.Patterns.{is_pattern}
use Rattle.xsd_patterns.proofs.parameters.have_no_pattern.Goals as goal

pub returns : goal.returns
returns c =
    all_from_yields_List (λ p. not (is_pattern (parameter_of p))) _ _ c.all.result c.all.ensures.ran (YieldsList-from_slice c.args.params.now cc)
    (λ x b q k. search (rules, tests))
    ∙ sym (list_all-map (λ p. not (is_pattern p)) parameter_of c.args.params.now)
