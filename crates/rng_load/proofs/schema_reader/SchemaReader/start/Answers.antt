use Rattle.std.proofs.Common.{◌≡◌, ◌∙◌, rules, ap, sym, map, reverse, [], ◌∷◌, ◌++◌, None}
use Rattle.rng_model.specs.names.NameViews.{namespace_bytes}
use Rattle.rng_model.specs.views.SchemaView.{schema_component_of}
use Rattle.rng_model.specs.declared.method.Method.TheVariants as methods
use Rattle.rnc_grammar.specs.views.View.{pattern_of}
use Rattle.rng_load.specs.views.GatheredComponents.{gathered_of}
use Rattle.rnc_model.specs.loading.Mentions.{path_limit}
use Rattle.rnc_model.specs.loading.Places.{grammar_or_start}
use Rattle.rng_load.specs.plain.FoundGrammars.{gathered_at, nested_in}
use Rattle.rng_load.specs.plain.PlainReading.{gathered_as, read_at}
use Rattle.rng_load.specs.views.ReadPatterns.{files_in, nested_of}
use Rattle.rng_load.proofs.Places.ReaderEnds.{only_start}
use Rattle.rng_load.proofs.schema_reader.SchemaReader.start.Goals as goal

pub returns : goal.returns
returns c =
    let files = files_in c.args.self.trees in
    let none : c.new-all.result.items ≡ [] = search rules in
    let way : c.in_ok-way.way.items ≡ 0 ∷ [] = search rules in
    let gathered : map gathered_of c.push.new.self.items ≡ gathered_at files [] [] (grammar_or_start (pattern_of c.args.pattern.now) None) =
    ap (map gathered_of) (c.in_ok-push.ensures.items ∙ ap (λ es. es ++ c.in_ok-start.start ∷ []) none) ∙ ap (λ g. g ∷ []) (c.in_ok-start.ensures.gathered
    ∙ ap (λ numbers. gathered_as None methods.Plain (read_at files path_limit (namespace_bytes c.args.none.now) (reverse numbers) (pattern_of c.args.pattern.now))) way
    ∙ ap (λ u. gathered_as None methods.Plain (read_at files path_limit u (0 ∷ []) (pattern_of c.args.pattern.now))) c.requires)
    ∙ sym (only_start files (pattern_of c.args.pattern.now)) in
    record {
      components = c.in_ok-append.ensures.components
          ∙ ap (λ cs. map schema_component_of cs ++ map (λ g. g.component) (map gathered_of c.push.new.self.items)) c.new-parts.ensures.components
          ∙ ap (map (λ g. g.component)) gathered;
      nested = c.in_ok-append.ensures.nested
          ∙ ap (λ ns. map nested_of ns ++ nested_in (map gathered_of c.push.new.self.items)) c.new-parts.ensures.nested ∙ ap nested_in gathered;
    }
