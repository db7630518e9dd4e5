-- What is printed for a schema, handed in again, is a schema with the same simple form.
use Rattle.std.proofs.Common.{◌≡◌, subst, ℕ, List}
use Rattle.rng_load.proofs.FilesVerdict.{same_files}
use Rattle.rnc_model.specs.loading.LoadedSchema.{AreSchema}
use Rattle.rnc_model.specs.loading.Loading.{TakenFiles, are_taken, FilesHaveVerdict}
use Rattle.rnc_model.specs.loading.SchemaFile.{FileName, NamedFile}
use Rattle.rng_model.specs.schema.Schema.{Schema}
use Rattle.rng_model.specs.simple.SchemaForm.{IsSimpleGrammarOf}
use Rattle.rng_model.specs.simple.Grammar.{Grammar}
use Rattle.rncv_model.specs.printed.Items.{PrintedItem}
use Rattle.rnc_print.proofs.OneForm.{same_numbering}
use Rattle.rnc_print.proofs.SameNumberings.{is_form_too}
use Rattle.rng_simple.proofs.Grammars.NumberedSchema.{only_simple_grammar}
use Rattle.rnc_print_laws.specs.plain.HandedIn.{IsHandedInAgain, lines_alone, AreFilesOf, HaveSameForm, AreOfSameForm}
use Rattle.rnc_print_laws.specs.plain.LinesSchema.{IsReprinted, schema_of_lines}
use Rattle.rnc_print_laws.proofs.SimpleForms.LinesKept.{is_reprinted, reprinted_form, reprinted_kept}
use Rattle.rnc_print_laws.proofs.Lines.LinesTaken.{lines_taken, lines_are_schema, schema_is_lines}

-- ---- schemas with one simple grammar in common have all

also_of : (s r : Schema) (g : Grammar) → IsSimpleGrammarOf s g → IsSimpleGrammarOf r g → (h : Grammar) → IsSimpleGrammarOf s h → IsSimpleGrammarOf r h
also_of s r g is also h has = is_form_too g h (same_numbering s g h is.0 is.1 is.2 (only_simple_grammar s h has)) r also

have_same_form : (s r : Schema) (g : Grammar) → IsSimpleGrammarOf s g → IsSimpleGrammarOf r g → HaveSameForm s r
have_same_form s r g is also h = (also_of s r g is also h, also_of r s g also is h)

-- ---- the schema of the lines

-- files have at most one schema
module _ (one_schema : (read : TakenFiles) (main : FileName) (r t : Schema) → AreSchema read main r → AreSchema read main t → r ≡ t) where
  pub only_schema : (files : List NamedFile) (main : FileName) (read : TakenFiles) (s r : Schema) → FilesHaveVerdict files main (are_taken read)
      → AreSchema read main s → AreFilesOf r files main → r ≡ s
  only_schema files main read s r taken are is =
      let same : is.read ≡ read = same_files (is.taken.only (are_taken read) taken) in
      one_schema read main r s (subst (λ x. AreSchema x main r) same is.are) are

  module _ (s : Schema) (text : List ℕ) (files : List NamedFile) (main : FileName) (h : IsHandedInAgain s text files main) where
    abbrev grammar : Grammar
    grammar = h.printed.grammar

    abbrev items : List PrintedItem
    items = h.printed.is_printed.items

    abbrev again : Schema
    again = schema_of_lines grammar items

    taken : FilesHaveVerdict files main (are_taken (lines_alone main grammar items))
    taken = lines_taken main grammar items files h.tree

    are : AreSchema (lines_alone main grammar items) main again
    are = schema_is_lines main grammar items

    reprinted : IsReprinted s again grammar items
    reprinted = is_reprinted s again text
        (record { kept = h.kept; printed = h.printed; few = h.few; lines = lines_are_schema main grammar items again are })

    pub same_form_again : AreOfSameForm s files main
    same_form_again = record {
      read = lines_alone main grammar items;
      taken = taken;
      schema = again;
      are = are;
      only = λ r. only_schema files main (lines_alone main grammar items) again r taken are;
      kept = reprinted_kept s again grammar items reprinted;
      form = have_same_form s again grammar h.printed.is_form (reprinted_form s again grammar items reprinted);
    }
