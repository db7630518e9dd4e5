-- Names that no element of a schema's simple form may have.
use Rattle.std.proofs.lemmas.List.Elements.{All-contains}
use Rattle.rng_model.specs.names.Names.{In, Name}
use Rattle.rng_model.specs.schema.Schema.{Schema}
use Rattle.rng_model.specs.simple.SchemaForm.{IsOnlySimpleGrammarOf}
use Rattle.rng_model.specs.simple.Grammar.{Grammar}
use Rattle.rncv_validator.specs.plain.Judging.{IsUnknownTo}
use Rattle.rncv_model.specs.answers.Verdict.{IsUnknownIn}

-- they are the names that no element of the grammar may have
pub unknown_to_grammar : (s : Schema) (g : Grammar) → IsOnlySimpleGrammarOf s g → (name : Name) → IsUnknownIn s name → IsUnknownTo g name
unknown_to_grammar s g only name unknown k c class is_in =
    let same = only unknown.0 unknown.1 in
    All-contains (λ e. ¬ (In e.class name)) unknown.0.elements _ unknown.2 (same.bodies k c class.0 class.1).0 is_in
