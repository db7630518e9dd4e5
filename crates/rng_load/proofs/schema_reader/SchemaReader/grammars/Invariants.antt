use Rattle.std.proofs.Common.{map}
use Rattle.rnc_grammar.specs.views.View.{file_of}
use Rattle.rng_load.specs.plain.FoundGrammars.{AreFound, AreLeft, places_left}
use Rattle.rng_load.specs.views.PendingGrammars.{pending_of}
use Rattle.rng_load.specs.views.PlacedGrammars.{grammars_of}
use Rattle.rng_load.specs.views.ReadPatterns.{files_in}
use Rattle.rng_load.proofs.schema_reader.SchemaReader.grammars.Given as goal

abbrev pub invariant-places : goal.invariant-places
invariant-places l =
    let files = files_in l.self.trees in
    let main = file_of l.self.main.now in
    let left = map pending_of l.found.left.items in
    AreFound files main (grammars_of l.found.grammars) (places_left left) × AreLeft files main left
