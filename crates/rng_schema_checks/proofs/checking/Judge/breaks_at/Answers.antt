use Rattle.std.proofs.Common.{◌∙◌, ap, map, sym}
use Rattle.std.proofs.lemmas.Result.{IfOk-weaker}
use Rattle.rng_model.specs.views.SchemaView.{place_of, schema_component_of}
use Rattle.rng_load.specs.views.PlacedGrammars.{schema_of}
use Rattle.rng_schema_checks.specs.plain.ClauseTests.{is_broken_at}
use Rattle.rng_schema_checks.specs.plain.GrammarTests.{defines, defines_if, some_has}
use Rattle.rng_schema_checks.specs.plain.PatternTests.{ref_test}
use Rattle.rng_schema_checks.proofs.checking.Judge.breaks_at.Goals as goal

pub returns-in-Refs : goal.returns-in-Refs
returns-in-Refs c =
    let s = schema_of c.args.self.schema.now in
    let x = place_of c.args.place.now in
    let same = ap (λ t. some_has t (map schema_component_of c.components_at-components.result.now)) c.refs_at.ensures
    ∙ ap (some_has (ref_test (defines s x) (defines_if s (s.outer x)))) c.components_at-components.ensures
    ∙ ap (λ clause. is_broken_at c.args.self.types clause s x) (sym c.in-Refs.is) in
    IfOk-weaker c.break_rule-in-Refs.result _ _ (λ broken e. e ∙ same) c.break_rule-in-Refs.ensures
