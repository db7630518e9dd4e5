use Rattle.std.proofs.Common.{◌≡◌, ◌∙◌, ◌++◌, [], ap, map, reverse, subst, sym}
use Rattle.rng_model.specs.names.NameViews.{namespace_bytes}
use Rattle.rnc_model.specs.grammar.Syntax.{components_of}
use Rattle.rnc_grammar.specs.views.View.{component_of}
use Rattle.rng_load.specs.plain.PlainReading.{gather_at}
use Rattle.rng_load.specs.views.GatheredComponents.{gathered_in, gathered_of, list_of, lists_in}
use Rattle.rng_load.specs.views.GrammarParts.{AreJoined}
use Rattle.rng_load.specs.views.ReadPatterns.{files_in}
use Rattle.rng_load.proofs.Patterns.GatheredParts.{all_moved, none_joined}
use Rattle.rng_load.proofs.Patterns.OpenComponents.{none_open}
use Rattle.rng_load.proofs.reading_patterns.TreeReader.gather_all.Goals as goal

pub steps-init : goal.steps-init
steps-init c =
    let files = files_in c.args.self in
    let way = reverse c.args.way.now.items in
    let added = gather_at files c.args.levels (namespace_bytes c.args.uri.now) way 0 (components_of (map component_of c.args.components.now)) in
    let empty : map gathered_of c.new.result.items ≡ [] = ap (map gathered_of) c.new.ensures.items in
    let none : reverse (map list_of c.new-2.result.items) ≡ [] = ap (λ ls. reverse (map list_of ls)) c.new-2.ensures.items in
    let is = c.in_ok-open_list.ensures files
    ∙ none_open files (reverse (map list_of c.new-2.result.items)) (_, way) none in
    subst (λ gs. AreJoined c.new-parts.result gs added) (sym (ap (λ s. s.0) is))
    (subst (λ gs. AreJoined c.new-parts.result gs added) (sym (ap (λ gs. gs ++ added) empty))
    (none_joined c.new-parts.result added c.new-parts.ensures.components c.new-parts.ensures.nested))

pub steps-preserved : goal.steps-preserved
steps-preserved c =
    let files = files_in c.args.self in
    let added = gather_at files c.args.levels (namespace_bytes c.args.uri.now) (reverse c.args.way.now.items) 0 (components_of (map component_of c.args.components.now)) in
    c.in_ok-move_on.ensures files (reverse c.gather_next.new.way.items) added
    (subst (λ s. AreJoined c.steps.parts s.0 added) (sym c.in_ok-gather_next.ensures.same) c.steps.invariant)

pub returns-then-not-branch : goal.returns-then-not-branch
returns-then-not-branch c =
    let files = files_in c.args.self in
    let way = reverse c.args.way.now.items in
    let added = gather_at files c.args.levels (namespace_bytes c.args.uri.now) way 0 (components_of (map component_of c.args.components.now)) in
    let made = c.gather_next.new.made in
    let last = none_open files (lists_in made) (gathered_in made, reverse c.gather_next.new.way.items) (c.in_ok-gather_next.ensures.none c.if-not-branch.true) in
    all_moved c.steps.parts c.append.new.self (gathered_in made) c.in_ok-append.ensures.components c.in_ok-append.ensures.nested added
    (subst (λ s. AreJoined c.steps.parts s.0 added) (sym c.in_ok-gather_next.ensures.same ∙ last) c.steps.invariant)
