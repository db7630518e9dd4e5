use Rattle.std.proofs.Common.{◌∙◌, ◌<◌, ◌++◌, rules, sym, ap, map, reverse, Some}
use Rattle.rng_model.specs.names.NameViews.{namespace_bytes}
use Rattle.rnc_grammar.specs.views.View.{file_of, pattern_of}
use Rattle.rng_load.specs.views.PatternRows.{read_head}
use Rattle.rng_load.specs.views.ReadPatterns.{files_in, nested_of}
use Rattle.rng_load.proofs.Patterns.ReadMentioned.{file_opened}
use Rattle.rng_load.proofs.reading_patterns.TreeReader.external.Goals as goal

pub returns-else-scope-eq0-clause-pattern : goal.returns-else-scope-eq0-clause-pattern
returns-else-scope-eq0-clause-pattern c =
    let files = files_in c.args.self in
    let way = reverse c.args.way.now in
    let is = ap (λ t. Some (file_of t)) (sym c.in-Pattern.is) ∙ c.in-Some.ensures ∙ ap files c.as_str.ensures.value in
    let some : 0 < c.args.scope.levels = search rules in
    let read = file_opened files c.args.scope.levels (namespace_bytes c.namespace_uri-uri.result.now) _ way _ (pattern_of c.in-Pattern.pattern) some is
    c.namespace_uri-uri.ensures in
    ap (λ h. (read_head files way h).0) c.of.ensures ∙ ap (λ r. r.0) read

pub returns-else-scope-eq0-clause-nested : goal.returns-else-scope-eq0-clause-nested
returns-else-scope-eq0-clause-nested c =
    let files = files_in c.args.self in
    let way = reverse c.args.way.now in
    let before = map nested_of c.args.grammars.now.items in
    let is = ap (λ t. Some (file_of t)) (sym c.in-Pattern.is) ∙ c.in-Some.ensures ∙ ap files c.as_str.ensures.value in
    let some : 0 < c.args.scope.levels = search rules in
    let read = file_opened files c.args.scope.levels (namespace_bytes c.namespace_uri-uri.result.now) _ way _ (pattern_of c.in-Pattern.pattern) some is
    c.namespace_uri-uri.ensures in
    ap (λ h. before ++ (read_head files way h).1) c.of.ensures ∙ ap (λ r. before ++ r.1) read
