use Rattle.std.proofs.Common.{◌≡◌, ◌∙◌, ◌++◌, [], ap, map, refl, rules, subst, sym}
use Rattle.std.proofs.lemmas.List.{map_push}
use Rattle.rnc_grammar.specs.views.View.{file_of}
use Rattle.rng_load.specs.plain.FoundGrammars.{gathered_at, left_by}
use Rattle.rng_model.specs.views.SchemaView.{place_of}
use Rattle.rnc_model.specs.loading.Places.{main_grammar}
use Rattle.rng_load.specs.views.GrammarParts.{AreParts}
use Rattle.rng_load.specs.views.PendingGrammars.{Pending, pending_of}
use Rattle.rng_load.specs.views.PlacedGrammars.{grammars_of}
use Rattle.rng_load.specs.views.ReadPatterns.{files_in}
use Rattle.rng_load.proofs.Places.ReaderEnds.{first_put_at, main_gathered, next_put_at}
use Rattle.rng_load.proofs.schema_reader.SchemaReader.grammars.Goals as goal

pub places-init : goal.places-init
places-init c =
    let none : grammars_of c.new.result ≡ [] = search rules in
    let empty : map pending_of c.new-2.result.items ≡ [] = search rules in
    let files = files_in c.args.self.trees in
    let main = file_of c.args.self.main.now in
    let all = gathered_at files [] [] (main_grammar main) in
    first_put_at files main c.requires.readable none empty c.main.ensures (main_gathered files main all refl)
    (c.in_ok-add.ensures.put all c.requires.there)
    (c.in_ok-add.ensures.left ∙ ap (λ ns. map pending_of c.new-2.result.items ++ left_by (place_of c.main.result) ns) c.requires.there.nested)

pub places-preserved : goal.places-preserved
places-preserved c =
    let files = files_in c.args.self.trees in
    let rest = c.pop.new.self.items in
    let p : Pending = pending_of c.in-Some.field-0 in
    let popped = ap (map pending_of) c.in-Some.ensures.items ∙ map_push pending_of rest c.in-Some.field-0 in
    let all = gathered_at files p.nested.uri p.nested.place p.nested.components in
    let are = subst (λ x. AreParts c.in_ok-parts.parts (gathered_at files p.nested.uri x p.nested.components)) (sym c.in_ok-way.ensures) c.in_ok-parts.ensures in
    next_put_at files (file_of c.args.self.main.now) c.requires.readable (map pending_of rest) p popped c.places.invariant refl
    (c.in_ok-add-2.ensures.put all are)
    (c.in_ok-add-2.ensures.left ∙ ap (λ ns. map pending_of rest ++ left_by p.nested.place ns) are.nested)
