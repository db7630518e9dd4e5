use Rattle.std.proofs.Common.{◌≡◌, ◌∙◌, ◌∷◌, ◌++◌, [], ap, map, option_map, sym}
use Rattle.std.proofs.lemmas.List.{map_push}
use Rattle.rng_model.specs.views.SchemaView.{place_of, schema_component_of}
use Rattle.rng_load.specs.plain.FoundGrammars.{left_by, pending_in}
use Rattle.rng_load.specs.views.PendingGrammars.{pending_of}
use Rattle.rng_load.specs.views.ReadPatterns.{nested_of}
use Rattle.rng_load.proofs.Places.ReaderEnds.{nested_moves, put_at}
use Rattle.rng_load.proofs.schema_reader.FoundGrammars.add.Goals as goal

pub inner-preserved : goal.inner-preserved
inner-preserved c =
    let x = place_of c.args.place in
    let old = c.inner.self.left.items in
    let rest = c.pop.new.self.items in
    let grammar = c.in-Some.grammar in
    let pushed : map pending_of c.push.new.self.items ≡ map pending_of old ++ pending_in x (nested_of grammar) ∷ [] =
    ap (map pending_of) c.in_ok-push.ensures.items ∙ map_push pending_of old _
    ∙ ap (λ y. map pending_of old ++ pending_in y (nested_of grammar) ∷ []) c.in_ok-share.ensures in
    record {
      grammars = c.inner.invariant.grammars;
      outer = c.inner.invariant.outer;
      left = ap (λ ps. ps ++ left_by x (map nested_of rest)) pushed ∙ nested_moves (map pending_of old) x (map nested_of rest) (nested_of grammar)
          ∙ ap (λ ns. map pending_of old ++ left_by x ns) (sym (map_push nested_of rest grammar) ∙ ap (map nested_of) (sym c.in-Some.ensures.items))
          ∙ c.inner.invariant.left;
    }

pub returns-clause-put : goal.returns-clause-put
returns-clause-put c = λ all are.
    put_at c.put.result c.args.self.now.grammars.entries c.inner.self.grammars.entries c.put.new.map.entries c.args.place
    (record { components = c.shrink_to_fit.new.self; outer = _ }) all
    (ap (λ m. m.entries) c.inner.invariant.grammars) c.put.ensures (ap (λ o. option_map place_of o) c.inner.invariant.outer)
    (ap (map schema_component_of) c.shrink_to_fit.ensures.items ∙ are.components)
