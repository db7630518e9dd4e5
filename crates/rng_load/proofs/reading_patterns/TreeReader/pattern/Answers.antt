use Rattle.std.proofs.Common.{◌≡◌, ◌∙◌, ap, rules, false, reverse}
use Rattle.rng_model.specs.names.NameViews.{namespace_bytes}
use Rattle.rng_model.specs.views.SchemaView.{child, patterns_in}
use Rattle.rnc_grammar.specs.views.View.{pattern_of}
use Rattle.rng_load.specs.plain.PlainReading.{read_at}
use Rattle.rng_load.specs.views.PatternRows.{made_of, opens}
use Rattle.rng_load.specs.views.ReadPatterns.{files_in}
use Rattle.rng_load.proofs.Patterns.OpenPatterns.{is_read, same_way, starts, way_back}
use Rattle.rng_load.proofs.reading_patterns.TreeReader.pattern.Goals as goal

pub steps-init : goal.steps-init
steps-init c =
    let files = files_in c.args.self in
    let way = reverse c.args.way.now.items in
    let read = read_at files c.args.scope.levels (namespace_bytes c.args.scope.uri.now) way (pattern_of c.args.pattern.now) in
    c.in_ok-open.ensures
    ∙ starts files (opens c.new-made.result) way (made_of c.new-made.result) read c.new-made.ensures.opens c.new-made.ensures.made

pub returns-then-not-branch-clause-read : goal.returns-then-not-branch-clause-read
returns-then-not-branch-clause-read c =
    let files = files_in c.args.self in
    let way = reverse c.args.way.now.items in
    let read = read_at files c.args.scope.levels (namespace_bytes c.args.scope.uri.now) way (pattern_of c.args.pattern.now) in
    let stopped : c.in_ok-step.field-0 ≡ false = search rules in
    ap (λ rows. (child (patterns_in rows), (made_of c.step.new.made).1)) c.shrink_to_fit.ensures.items
    ∙ is_read files (opens c.step.new.made) (reverse c.step.new.way.items) way (made_of c.step.new.made) read (c.in_ok-step.ensures.none stopped)
    (c.in_ok-step.ensures.same ∙ c.steps.invariant)

pub returns-then-not-branch-clause-way : goal.returns-then-not-branch-clause-way
returns-then-not-branch-clause-way c =
    let files = files_in c.args.self in
    let way = reverse c.args.way.now.items in
    let read = read_at files c.args.scope.levels (namespace_bytes c.args.scope.uri.now) way (pattern_of c.args.pattern.now) in
    let stopped : c.in_ok-step.field-0 ≡ false = search rules in
    same_way (way_back files (opens c.step.new.made) (reverse c.step.new.way.items) way (made_of c.step.new.made) read (c.in_ok-step.ensures.none stopped)
    (c.in_ok-step.ensures.same ∙ c.steps.invariant))
