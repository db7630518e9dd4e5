use Rattle.std.proofs.Common.{◌≡◌, ◌∙◌, ◌++◌, sym, ap, map, option_map, reverse}
use Rattle.std.proofs.lemmas.Result.{IfOk-weaker}
use Rattle.rng_model.specs.names.NameViews.{namespace_bytes}
use Rattle.rnc_grammar.specs.views.View.{data_of, pattern_of}
use Rattle.rng_load.specs.plain.PlainReading.{read_at}
use Rattle.rng_load.specs.views.ReadPatterns.{files_in, nested_of}
use Rattle.rng_load.proofs.Patterns.ReadMentioned.{data_tree}
use Rattle.rng_load.proofs.reading_patterns.TreeReader.head.Goals as goal

pub returns-in-Data-clause-pattern : goal.returns-in-Data-clause-pattern
returns-in-Data-clause-pattern c =
    let files = files_in c.args.self in
    let way = reverse c.args.way.now in
    let uri = namespace_bytes c.args.scope.uri.now in
    let tree : data_of c.deref-in-Data.result.now (option_map (λ p. pattern_of p.value) c.in-Data.except) ≡ pattern_of c.args.pattern.now =
    ap (λ d. data_of d (option_map (λ p. pattern_of p.value) c.in-Data.except)) c.deref-in-Data.ensures
    ∙ sym (data_tree c.in-Data.datatype c.in-Data.except) ∙ ap pattern_of (sym c.in-Data.is) in
    IfOk-weaker c.data.result _ _ (λ h e. ap (λ r. r.0) (e ∙ ap (read_at files c.args.scope.levels uri way) tree)) (c.data.ensures.pattern files way)

pub returns-in-Data-clause-nested : goal.returns-in-Data-clause-nested
returns-in-Data-clause-nested c =
    let files = files_in c.args.self in
    let way = reverse c.args.way.now in
    let uri = namespace_bytes c.args.scope.uri.now in
    let tree : data_of c.deref-in-Data.result.now (option_map (λ p. pattern_of p.value) c.in-Data.except) ≡ pattern_of c.args.pattern.now =
    ap (λ d. data_of d (option_map (λ p. pattern_of p.value) c.in-Data.except)) c.deref-in-Data.ensures
    ∙ sym (data_tree c.in-Data.datatype c.in-Data.except) ∙ ap pattern_of (sym c.in-Data.is) in
    IfOk-weaker c.data.result _ _ (λ h e. ap (λ r. map nested_of c.args.grammars.now.items ++ r.1) (e ∙ ap (read_at files c.args.scope.levels uri way) tree))
    (c.data.ensures.pattern files way)
