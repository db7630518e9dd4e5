use Rattle.std.proofs.Common.{◌≡◌, ◌∙◌, ◌+◌, ◌<◌, ◌≤◌, ◌∷◌, ◌++◌, rules, sym, ap, ap₂, map, reverse, drop, length}
use Rattle.rnc_grammar.specs.views.View.{component_of}
use Rattle.rng_load.specs.plain.OpenComponents.{after_end, gathered_at_end}
use Rattle.rng_load.specs.plain.PlainReading.{gather_one_at}
use Rattle.rng_load.specs.views.GatheredComponents.{gathered_in, list_of, lists_in}
use Rattle.rng_load.specs.views.ReadPatterns.{files_in}
use Rattle.rng_load.proofs.Patterns.OpenComponents.{ends, goes_on}
use Rattle.rng_load.proofs.Patterns.OpenPatterns.{child_past, child_there, reverse_pushed, views_pushed, way_popped}
use Rattle.rng_load.proofs.reading_patterns.TreeReader.gather_next.Goals as goal

pub returns-then-list-clause-same : goal.returns-then-list-clause-same
returns-then-list-clause-same c =
    let files = files_in c.args.self in
    let all = gathered_in c.args.made.now in
    let way = reverse c.args.way.now.items in
    let list = c.in-Some.list in
    let rest = reverse (map list_of c.pop.new.self.items) in
    let stack : lists_in c.args.made.now ≡ list_of list ∷ rest =
    views_pushed list_of c.pop.new.self.items c.args.made.now.open.items list c.in-Some.ensures.items in
    let parent : reverse c.pop-2.new.self.items ≡ drop 1 way =
    way_popped c.pop-2.result c.args.way.now.items c.pop-2.new.self.items c.args.way.now.len c.pop-2.ensures.items c.pop-2.ensures.variant.1
    c.args.way.now.ok.0 in
    let past : length list.components.now ≤ list.number = search rules in
    c.in_ok-end_list.ensures files ∙ ap (λ x. gathered_at_end files rest (after_end files (list_of list).at_end (all, x))) parent
    ∙ ends files (list_of list) rest way all (child_past component_of list.components.now list.number past)
    ∙ ap (λ os. gathered_at_end files os (all, way)) (sym stack)

pub returns-clause-same : goal.returns-clause-same
returns-clause-same c =
    let files = files_in c.args.self in
    let all = gathered_in c.args.made.now in
    let way = reverse c.args.way.now.items in
    let list = c.in-Some.list in
    let o = list_of list in
    let one = component_of c.index-list-list.result in
    let left = drop (list.number + 1) (map component_of list.components.now) in
    let rest = reverse (map list_of c.pop.new.self.items) in
    let stack : lists_in c.args.made.now ≡ o ∷ rest =
    views_pushed list_of c.pop.new.self.items c.args.made.now.open.items list c.in-Some.ensures.items in
    let parent : reverse c.pop-2.new.self.items ≡ drop 1 way =
    way_popped c.pop-2.result c.args.way.now.items c.pop-2.new.self.items c.args.way.now.len c.pop-2.ensures.items c.pop-2.ensures.variant.1
    c.args.way.now.ok.0 in
    let child : reverse c.push.new.self.items ≡ list.number ∷ drop 1 way =
    reverse_pushed c.pop-2.new.self.items c.push.new.self.items list.number c.in_ok-push.ensures.items ∙ ap (λ x. list.number ∷ x) parent in
    let inside : list.number < length list.components.now = search rules in
    let again = views_pushed list_of c.pop.new.self.items c.push-2.new.self.items _ c.in_ok-push-2.ensures.items in
    let below = reverse c.push.new.self.items in
    c.in_ok-gather.ensures
    ∙ ap (λ d. gathered_at_end files (reverse (map list_of c.push-2.new.self.items)) (all ++ gather_one_at files o.levels o.uri below (component_of d), below))
    (sym c.index-list-list.is)
    ∙ ap₂ (λ os x. gathered_at_end files os (all ++ gather_one_at files o.levels o.uri x one, x)) again child
    ∙ goes_on files o.levels o.uri o.number one left o.at_end rest way all
    ∙ ap (λ cs. gathered_at_end files (record { levels = o.levels; uri = o.uri; number = o.number; left = cs; at_end = o.at_end } ∷ rest) (all, way))
    (sym (child_there component_of list.components.now list.number c.index-list-list.result inside c.index-list-list.is))
    ∙ ap (λ os. gathered_at_end files os (all, way)) (sym stack)
