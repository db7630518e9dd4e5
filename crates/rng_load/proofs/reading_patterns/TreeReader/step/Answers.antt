use Rattle.std.proofs.Common.{◌≡◌, ◌∙◌, ◌+◌, ◌∷◌, sym, ap, ap₂, map, reverse, drop}
use Rattle.rng_model.specs.views.SchemaView.{patterns_in, with_row}
use Rattle.rng_model.proofs.SchemaRows.{row_put}
use Rattle.rnc_grammar.specs.views.View.{pattern_of}
use Rattle.rng_load.specs.plain.OpenPatterns.{finished, with_read}
use Rattle.rng_load.specs.plain.PlainReading.{read_at}
use Rattle.rng_load.specs.views.PatternRows.{children_of, made_of, open_of, opens}
use Rattle.rng_load.specs.views.ReadPatterns.{files_in}
use Rattle.rng_load.proofs.Patterns.OpenPatterns.{ends, goes_on, reverse_pushed, views_pushed, way_popped}
use Rattle.rng_load.proofs.reading_patterns.TreeReader.step.Goals as goal

pub returns-in_default-get-clause-same : goal.returns-in_default-get-clause-same
returns-in_default-get-clause-same c =
    let files = files_in c.args.self in
    let made = made_of c.args.made.now in
    let way = reverse c.args.way.now.items in
    let o = open_of c.in-Some.open in
    let rest = reverse (map open_of c.pop.new.self.items) in
    let stack : opens c.args.made.now ≡ o ∷ rest =
    views_pushed open_of c.pop.new.self.items c.args.made.now.open.items c.in-Some.open c.in-Some.ensures.items in
    let parent : reverse c.pop-2.new.self.items ≡ drop 1 way =
    way_popped c.pop-2.result c.args.way.now.items c.pop-2.new.self.items c.args.way.now.len c.pop-2.ensures.items c.pop-2.ensures.variant.1
    c.args.way.now.ok.0 in
    let row : patterns_in c.push.new.self.items ≡ with_row made.0 c.in-Some.open.row =
    ap patterns_in c.in_ok-push.ensures.items ∙ row_put c.args.made.now.rows.items c.in-Some.open.row in
    ap₂ (λ x ps. finished files rest x (ps, made.1)) parent row ∙ ends files o rest way made c.in_default-get.ensures.child
    ∙ ap (λ os. finished files os way made) (sym stack)

pub returns-clause-same : goal.returns-clause-same
returns-clause-same c =
    let files = files_in c.args.self in
    let made = made_of c.args.made.now in
    let way = reverse c.args.way.now.items in
    let o = open_of c.in-Some.open in
    let p = pattern_of c.in-Some-get.child.now in
    let left = drop (o.number + 1) (children_of c.in-Some.open.children) in
    let rest = reverse (map open_of c.pop.new.self.items) in
    let stack : opens c.args.made.now ≡ o ∷ rest =
    views_pushed open_of c.pop.new.self.items c.args.made.now.open.items c.in-Some.open c.in-Some.ensures.items in
    let parent : reverse c.pop-2.new.self.items ≡ drop 1 way =
    way_popped c.pop-2.result c.args.way.now.items c.pop-2.new.self.items c.args.way.now.len c.pop-2.ensures.items c.pop-2.ensures.variant.1
    c.args.way.now.ok.0 in
    let child : reverse c.push-2.new.self.items ≡ o.number ∷ drop 1 way =
    reverse_pushed c.pop-2.new.self.items c.push-2.new.self.items o.number c.in_ok-push-2.ensures.items ∙ ap (λ x. o.number ∷ x) parent in
    let again = views_pushed open_of c.pop.new.self.items c.push-3.new.self.items _ c.in_ok-push-3.ensures.items in
    c.in_ok-open.ensures
    ∙ ap₂ (λ os x. finished files os x (with_read made (read_at files o.levels o.uri x p))) again child
    ∙ goes_on files o.row o.levels o.uri o.number p left rest way made
    ∙ ap (λ ps. finished files (record { row = o.row; levels = o.levels; uri = o.uri; number = o.number; left = ps } ∷ rest) way made)
    (sym c.in-Some-get.ensures.child)
    ∙ ap (λ os. finished files os way made) (sym stack)
