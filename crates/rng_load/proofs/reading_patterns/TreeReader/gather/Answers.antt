use Rattle.std.proofs.Common.{◌≡◌, ◌∙◌, ◌∷◌, ◌++◌, [], sym, ap, ap₂, map, reverse}
use Rattle.std.proofs.lemmas.Result.{IfOk-weaker}
use Rattle.rng_model.specs.names.NameViews.{namespace_bytes}
use Rattle.rnc_model.specs.grammar.Syntax as tree
use Rattle.rnc_model.specs.grammar.Syntax.{components_of}
use Rattle.rnc_grammar.specs.views.View.{component_of, mention_of}
use Rattle.rng_load.specs.plain.OpenComponents.{gathered_at_end}
use Rattle.rng_load.specs.plain.PlainReading.{gather_one_at}
use Rattle.rng_load.specs.views.GatheredComponents.{end_of, gathered_of, list_of, lists_in}
use Rattle.rng_load.specs.views.ReadPatterns.{files_in}
use Rattle.rng_load.proofs.Patterns.GatherIncluded.{include_tree}
use Rattle.rng_load.proofs.Patterns.OpenComponents.{include_opened}
use Rattle.rng_load.proofs.Patterns.OpenPatterns.{reverse_pushed}
use Rattle.rng_load.proofs.reading_patterns.TreeReader.gather.Goals as goal

pub returns-in_ok-push-in-Include : goal.returns-in_ok-push-in-Include
returns-in_ok-push-in-Include c =
    let files = files_in c.args.self in
    let levels = c.args.scope.levels in
    let uri = namespace_bytes c.args.scope.uri.now in
    let way = reverse c.args.way.now.items in
    let mention = c.deref-in-Include-2.result.now in
    let over = c.deref-in-Include.result.now in
    let none : map gathered_of c.replace-before.new.dest.items ≡ [] =
    ap (λ v. map gathered_of v.items) c.replace-before.ensures.after ∙ ap (map gathered_of) c.new.ensures.items in
    let here : reverse c.push-in-Include.new.self.items ≡ 0 ∷ way =
    reverse_pushed c.args.way.now.items c.push-in-Include.new.self.items 0 c.in_ok-push-in-Include.ensures.items in
    let put = include_opened files (list_of c.included.result) levels uri (mention_of mention) (map component_of over)
    (map gathered_of c.replace-before.result.items) (map gathered_of c.replace-before.new.dest.items) way (reverse c.push-in-Include.new.self.items)
    none here (ap end_of c.included.ensures.end) (c.included.ensures.gathered way) in
    let one : tree.include (mention_of mention) (components_of (map component_of over)) ≡ component_of c.args.component.now =
    ap₂ (λ m os. tree.include (mention_of m) (components_of (map component_of os))) c.deref-in-Include-2.ensures c.deref-in-Include.ensures.value
    ∙ sym (include_tree c.in-Include.mention c.in-Include.overriding) ∙ ap component_of (sym c.in-Include.is) in
    let all = ap₂ (λ v d. (map gathered_of v.items ++ gather_one_at files levels uri way d, way)) c.replace-before.ensures.value one in
    IfOk-weaker c.open_list-in-Include.result _ _ (λ r e. e files ∙ ap (gathered_at_end files (lists_in c.args.made.now)) (put ∙ all))
    c.open_list-in-Include.ensures
