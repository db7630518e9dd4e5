-- What loading returns if the file of the lines is handed in as the main one.
use Rattle.std.proofs.Common.{◌≡◌, refl, subst, inl, inr, ℕ, ◌≤◌, List, [], ◌∷◌, length, arith, Result, Ok, Err}
use Rattle.std.specs.Prelude.{MatchResult}
use Rattle.rng_load.proofs.FilesVerdict.{same_files, file_or_all}
use Rattle.rng_model.specs.names.Lists.{here, HasTwo, first_and, both_later}
use Rattle.rng_model.specs.schema.Schema.{Schema}
use Rattle.rng_model.specs.simple.Grammar.{Grammar}
use Rattle.rng_model.specs.declared.fault.SchemaFault.{SchemaFault}
use Rattle.rng_model.specs.declared.fault.SchemaFault.TheVariants as faults
use Rattle.rnc_model.specs.loading.LoadedSchema.{AreSchema}
use Rattle.rng_load.specs.views.Loaded.{IsLoaded}
use Rattle.rnc_model.specs.loading.Loading.{TakenFiles, together_break, are_taken}
use Rattle.rng_load.specs.views.PlacedGrammars.{schema_of}
use Rattle.rnc_model.specs.loading.SchemaFile.{FileName, NamedFile, HasTree, BreaksLimit, size_limit}
use Rattle.rng_load.specs.declared.schema.Schema as loaded
use Rattle.rncv_model.specs.printed.Items.{PrintedItem}
use Rattle.rnc_print_laws.specs.plain.HandedIn.{lines_alone, IsHandedInAgain, IsAgain, IsPrintedFile, text_alone}
use Rattle.rnc_print_laws.specs.plain.LinesSchema.{IsSchemaOfLines}
use Rattle.rnc_print_laws.specs.plain.LinesTree.{lines_tree}
use Rattle.rnc_print_laws.proofs.SimpleForms.LinesKept.{reprinted_text}
use Rattle.rnc_print_laws.proofs.Lines.LinesTaken.{lines_taken, lines_are_schema}

together_or_all : {k : ℕ} {r : TakenFiles} → together_break k ≡ are_taken r → ⊥
together_or_all e = cc

module _ (files : List NamedFile) (main : FileName) (g : Grammar) (items : List PrintedItem) (has : HasTree files main main (lines_tree g items)) where
  -- what loading returns is the schema of the lines
  pub lines_loaded : (result : Result loaded.Schema SchemaFault) → IsLoaded files main result
      → MatchResult result (λ r. IsSchemaOfLines g items (schema_of r)) (λ fault. fault ≡ faults.Memory)
  lines_loaded (Ok r) h =
      let e : h.0 ≡ lines_alone main g items = same_files (h.1.only (are_taken (lines_alone main g items)) (lines_taken main g items files has)) in
      lines_are_schema main g items (schema_of r) (subst (λ read. AreSchema read main (schema_of r)) e h.2)
  lines_loaded (Err (faults.File clause name)) h =
      absurd (file_or_all (h.only (are_taken (lines_alone main g items)) (lines_taken main g items files has)))
  lines_loaded (Err (faults.Clause clause)) h =
      absurd (together_or_all (h.only (are_taken (lines_alone main g items)) (lines_taken main g items files has)))
  lines_loaded (Err faults.Memory) h = refl

module _ (s : Schema) (text : List ℕ) (files : List NamedFile) (main : FileName) (h : IsHandedInAgain s text files main) where
  again : (result : Result loaded.Schema SchemaFault)
      → MatchResult result (λ r. IsSchemaOfLines h.printed.grammar h.printed.is_printed.items (schema_of r)) (λ fault. fault ≡ faults.Memory)
      → IsAgain text result
  again (Ok r) lines = reprinted_text s (schema_of r) text (record { kept = h.kept; printed = h.printed; few = h.few; lines = lines })
  again (Err fault) e = e

  pub printed_again : (result : Result loaded.Schema SchemaFault) → IsLoaded files main result → IsAgain text result
  printed_again result l = again result (lines_loaded files main h.printed.grammar h.printed.is_printed.items h.tree result l)

-- ---- the text alone

one_file : (P : NamedFile → NamedFile → Type 0) (a : NamedFile) → HasTwo P (a ∷ []) → ⊥
one_file P a (first_and b p) = elim b [ ]
one_file P a (both_later t) = elim t [ ]

within_limits : (main : FileName) (text : List ℕ) → length text ≤ size_limit → ¬ (BreaksLimit (text_alone main text) main main text)
within_limits main text small (inl b) = let more = b.1 in omega (arith, more)
within_limits main text small (inr more) = omega (arith, small, more)

pub printed_alone : (s : Schema) (text : List ℕ) → IsPrintedFile s text → (main : FileName) → IsHandedInAgain s text (text_alone main text) main
printed_alone s text h main = record {
  kept = h.kept;
  printed = h.printed;
  few = let small = h.small in omega (arith, small);
  tree = record {
    bytes = text;
    handed_in = record { there = here; once = one_file (λ a b. (a.name ≡ main) × (b.name ≡ main)) (record { name = main; bytes = text }) };
    small = within_limits main text h.small;
    is = h.is;
  };
}
