use Rattle.std.proofs.Common.{◌∙◌, ◌<◌, rules, arith, sym, ap, map}
use Rattle.rng_model.specs.names.NameViews.{namespace_bytes}
use Rattle.rnc_model.specs.grammar.Syntax.{components_of}
use Rattle.rnc_model.specs.loading.FileGrammars.{grammar_if}
use Rattle.rnc_model.specs.loading.Places.{uri_in}
use Rattle.rnc_grammar.specs.views.View.{component_of, mention_of}
use Rattle.rng_load.specs.views.ReadPatterns.{files_in}
use Rattle.rng_load.proofs.Patterns.GatherIncluded.{file_gathered, no_grammar, no_level}
use Rattle.rng_load.proofs.reading_patterns.TreeReader.included.Goals as goal
use Rattle.rng_load.proofs.reading_patterns.TreeReader.included.Goals.{in_default-via-in-Some+else-scope-gt0, in_default-via-in_default}

pub returns-in-Some-clause-gathered : goal.returns-in-Some-clause-gathered
returns-in-Some-clause-gathered c = λ x.
    let files = files_in c.args.self in
    let some : 0 < c.args.scope.levels = search rules in
    let is = c.in-Some.ensures ∙ ap (λ f. grammar_if (files f)) c.as_str.ensures.value in
    sym (file_gathered files c.args.scope.levels (namespace_bytes c.namespace_uri-uri.result.now) _ x _
    (components_of (map component_of c.in-Some.components.now)) some is c.namespace_uri-uri.ensures)

pub returns-in_default-clause-gathered : goal.returns-in_default-clause-gathered
returns-in_default-clause-gathered c = λ x.
    let files = files_in c.args.self in
    let levels = c.args.scope.levels in
    let uri = namespace_bytes c.namespace_uri-uri.result.now in
    let v = uri_in (namespace_bytes c.args.scope.uri.now) (mention_of c.args.mention.now).inherit in
    let file = grammar_if (files (mention_of c.args.mention.now).href) in
    elim c.in_default.branch [
      | in_default-via-in-Some+else-scope-gt0 w ↦ no_level files 0 levels uri v x file (omega (arith, w.if-scope-gt0.false))
      | in_default-via-in_default w ↦ no_grammar files 0 levels uri v x file (w.in_default.ensures ∙ ap (λ f. grammar_if (files f)) c.as_str.ensures.value)
    ]
