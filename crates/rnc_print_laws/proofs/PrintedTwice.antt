-- What `simple` printed is a schema with the same simple form, and is its own answer, if printed texts are read back.
use Rattle.std.proofs.Common.{◌≡◌, refl, sym, subst, ℕ, ◌≤◌, List, Option, length}
use Rattle.rnc_model.specs.loading.LoadedSchema.{AreSchema}
use Rattle.rnc_model.specs.loading.Loading.{TakenFiles, are_taken, FilesHaveOnlyVerdict}
use Rattle.rnc_model.specs.loading.SchemaFile.{FileName, NamedFile, IsSchemaFile, size_limit}
use Rattle.rng_model.specs.schema.Schema.{Schema}
use Rattle.rng_model.specs.schema.SchemaClauses.{BreaksNoClause}
use Rattle.rncv_model.specs.printed.SchemaText.{IsPrintedForm}
use Rattle.rnc_print_laws.specs.plain.HandedIn.{IsPrintedFile, text_alone, AreFilesOf, AreOfSameForm}
use Rattle.rnc_print_laws.specs.plain.LinesTree.{lines_tree}
use Rattle.rncv_model.specs.answers.Answer.{Answer, refused, refused_file, printed}
use Rattle.rncv_model.specs.answers.Run as run
use Rattle.rncv_model.specs.answers.Run.{IsAnswer}
use Rattle.rncv_model.specs.declared.command.Command.TheVariants.{Simple}
use Rattle.rnc_print_laws.proofs.LinesLoaded.{printed_alone}
use Rattle.rnc_print_laws.proofs.PrintedAgain.{not_check, not_valid, answer_alone}
use Rattle.rnc_print_laws.proofs.SameForm.{only_schema, same_form_again}

not_refused : {A : Type 0} {clause : ℕ} {text : List ℕ} → refused clause ≡ printed text → A
not_refused e = cc

not_refused_file : {A : Type 0} {clause : ℕ} {name text : List ℕ} → refused_file clause name ≡ printed text → A
not_refused_file e = cc

same_printed : {text other : List ℕ} → printed other ≡ printed text → other ≡ text
same_printed e = cc

-- texts that are printed for schemas of files without broken clauses are read back, if they are no longer than a file
-- may be
module _ (files : List NamedFile) (main : FileName) (text : List ℕ) (small : length text ≤ size_limit)
    (reads : (read : TakenFiles) (s : Schema) → FilesHaveOnlyVerdict files main (are_taken read) → AreSchema read main s → BreaksNoClause s
    → (p : IsPrintedForm s text) → IsSchemaFile text (lines_tree p.grammar p.is_printed.items)) (input_old input_new : Option (List ℕ)) where
  -- the schema of the files for which the text is printed
  read_back : (answer : Answer) → answer ≡ printed text → IsAnswer Simple files main input_old input_new answer
      → (s : Schema) × AreFilesOf s files main × IsPrintedFile s text
  read_back answer e (run.file_refused v) = not_refused_file e
  read_back answer e (run.files_refused v) = not_refused e
  read_back answer e (run.schema_refused h) = not_refused e
  read_back answer e (run.schema_good c g) = not_check c
  read_back answer e (run.document_judged c g j) = not_valid c
  read_back answer e (run.form_printed {s} {text = other} c g p) =
      let form = subst (IsPrintedForm s) (same_printed e) p in
      let taken = g.are in (
        s,
        record { read = taken.read; taken = taken.is_verdict; are = taken.are },
        record { kept = g.good; printed = form; small = small; is = reads taken.read s taken.is_verdict taken.are g.good form },
      )

  module _ (answered : IsAnswer Simple files main input_old input_new (printed text)) where
    abbrev first : (s : Schema) × AreFilesOf s files main × IsPrintedFile s text
    first = read_back (printed text) refl answered

    pub printed_twice : (name : FileName) (old new : Option (List ℕ)) (answer : Answer) → IsAnswer Simple (text_alone name text) name old new answer
        → answer ≡ printed text
    printed_twice = answer_alone first.0 text first.2

    pub same_form_twice : ((read : TakenFiles) (n : FileName) (r t : Schema) → AreSchema read n r → AreSchema read n t → r ≡ t)
        → (s : Schema) → AreFilesOf s files main → (name : FileName) → AreOfSameForm s (text_alone name text) name
    same_form_twice one_schema s is name =
        let same : s ≡ first.0 = only_schema one_schema files main first.1.read first.0 s first.1.taken.is first.1.are is in
        subst (λ x. AreOfSameForm x (text_alone name text) name) (sym same)
        (same_form_again one_schema first.0 text (text_alone name text) name (printed_alone first.0 text first.2 name))
