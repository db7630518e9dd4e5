use Rattle.std.proofs.Common.{ℕ, ◌≤◌, List, length}
use Rattle.rnc_model.specs.loading.LoadedSchema.{AreSchema}
use Rattle.rnc_model.specs.loading.Loading.{TakenFiles, are_taken, FilesHaveOnlyVerdict}
use Rattle.rnc_model.specs.loading.SchemaFile.{FileName, NamedFile, IsSchemaFile, size_limit}
use Rattle.rng_model.specs.schema.Schema.{Schema}
use Rattle.rng_model.specs.schema.SchemaClauses.{BreaksNoClause}
use Rattle.rng_model.specs.simple.SchemaForm.{IsSimpleGrammarOf}
use Rattle.rng_model.specs.simple.Grammar.{Grammar}
use Rattle.rncv_model.specs.printed.PrintedText.{IsPrinted}
use Rattle.rncv_model.specs.printed.SchemaText.{IsPrintedForm}
use Rattle.rnc_print_laws.specs.plain.LinesTree.{lines_tree}
use Rattle.rnc_print_laws.specs.plain.Printable.{IsPrintable}
use Rattle.rnc_print_laws.specs.views.ReadBack.{IsReadAs}
use Rattle.rnc_print_laws.proofs.PrintedAgain.{answer_again, answer_alone}
use Rattle.rnc_print_laws.proofs.PrintedTwice.{printed_twice, same_form_twice}
use Rattle.rnc_print_laws.proofs.printed_again.printed_again_laws.Goals as goal

-- what is printed for a good schema of files is a file with the tree of its lines: printable texts are read back, and
-- its simple grammars are printable
printed_file : ((g : Grammar) (text : List ℕ) → IsPrintable g → (p : IsPrinted g text) → length text ≤ 1048576 → IsReadAs text (lines_tree g p.items))
    → ((files : List NamedFile) (main : FileName) (read : TakenFiles) (s : Schema) → FilesHaveOnlyVerdict files main (are_taken read) → AreSchema read main s
    → BreaksNoClause s → (g : Grammar) → IsSimpleGrammarOf s g → IsPrintable g)
    → (files : List NamedFile) (main : FileName) (text : List ℕ) → length text ≤ size_limit
    → (read : TakenFiles) (s : Schema) → FilesHaveOnlyVerdict files main (are_taken read) → AreSchema read main s → BreaksNoClause s
    → (p : IsPrintedForm s text) → IsSchemaFile text (lines_tree p.grammar p.is_printed.items)
printed_file reads are_printable files main text small read s v is kept p =
    let r = reads p.grammar text (are_printable files main read s v is kept p.grammar p.is_form) p.is_printed small in
    record { tokens = r.tokens; are = record { characters = r.characters; decoded = r.decoded; are = r.cut }; tree = r.tree }

pub returns-clause-same_form : goal.returns-clause-same_form
returns-clause-same_form c = λ files main input_old input_new text answered small.
    let file = printed_file c.reading_back_laws.ensures.read c.printable_laws.ensures.printable files main text small in
    same_form_twice files main text small file input_old input_new answered c.answer_laws.ensures.schema

pub returns-clause-again : goal.returns-clause-again
returns-clause-again c = answer_again

pub returns-clause-alone : goal.returns-clause-alone
returns-clause-alone c = answer_alone

pub returns-clause-twice : goal.returns-clause-twice
returns-clause-twice c = λ files main input_old input_new text answered small.
    let file = printed_file c.reading_back_laws.ensures.read c.printable_laws.ensures.printable files main text small in
    printed_twice files main text small file input_old input_new answered
