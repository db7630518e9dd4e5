-- One round of the walk through the files.
use Rattle.std.proofs.Common.{◌≡◌, refl, sym, subst, ap, ◌∙◌, ℕ, suc, ◌-◌, ◌<◌, ◌≤◌, List, [], ◌∷◌, length, map, arith, Err, IfSome, Some, String}
use Rattle.std.proofs.Common.{slice_get, string_bytes, fold, None, zero}
use Rattle.std.specs.Global.{Global}
use Rattle.std.specs.String.{string_eq}
use Rattle.indexmap.specs.IndexMap.{insert_entry}
use Rattle.std.proofs.lemmas.List.{length-append, length-map, map-append}
use Rattle.rng_model.proofs.Places.{ends_before}
use Rattle.rng_model.specs.names.Lists.{Among}
use Rattle.rnc_grammar.specs.declared.file_tree.FileTree as declared
use Rattle.rnc_grammar.specs.views.View.{file_of}
use Rattle.rnc_model.specs.loading.Loading.{TakenFiles, with_name, hrefs_of, file_breaks}
use Rattle.rng_load.specs.views.LoadingFaults.{IsNamedTree, IsTheReading, verdict_of_reading}
use Rattle.rng_load.specs.declared.fault.ReadingFault.{ReadingFault}
use Rattle.rng_load.specs.declared.fault.ReadingFault.TheVariants as readings
use Rattle.rnc_model.specs.loading.SchemaFile.{FileName, NamedFile}
use Rattle.rnc_model.specs.loading.FileVerdicts.{breaks, has_tree}
use Rattle.rng_load.specs.views.FileVerdicts.{FileHasOnlyVerdict}
use Rattle.rng_load.proofs.LoadOrder.NameSets.{entry_goes_last}
use Rattle.rng_load.proofs.LoadOrder.TakenFiles.{IsFirm, more_firm, firm_taken, fresh, few_taken, first_broken, first_of}

abbrev Entries : Type 0
Entries = List (String Global × declared.FileTree)

abbrev pub entries_of : Entries → TakenFiles
entries_of es = map (λ e. (string_bytes e.0, file_of e.1)) es

pub length_entries : (es : Entries) → length (entries_of es) ≡ length es
length_entries [] = refl
length_entries (e ∷ es) = ap suc (length_entries es)

pub name_at : (ks : List (String Global)) (i : ℕ) {k : String Global} → Some k ≡ slice_get ks i → slice_get (map string_bytes ks) i ≡ Some (string_bytes k)
name_at [] i e = absurd cc
name_at (m ∷ ks) zero {k} e = let same : k ≡ m = cc in ap (λ x. Some (string_bytes x)) (sym same)
name_at (m ∷ ks) (suc i) e = name_at ks i e

pub no_name_left : (ks : List (String Global)) (i : ℕ) → None ≡ slice_get ks i → length (map string_bytes ks) ≤ i
no_name_left ks i e = let l = ends_before ks i (sym e) in omega (arith, l, length-map ks string_bytes)

module _ (files : List NamedFile) (main : FileName) (es : Entries) (names : List FileName) (firm : IsFirm files main (entries_of es) names)
    (name : String Global) (next : slice_get names (length es) ≡ Some (string_bytes name)) where
  abbrev at : slice_get names (length (entries_of es)) ≡ Some (string_bytes name)
  at = ap (slice_get names) (length_entries es) ∙ next

  pub breaks_here : (clause : ℕ) (told : String Global) → string_bytes told ≡ string_bytes name → FileHasOnlyVerdict files main (string_bytes name)
      (breaks clause)
      → IsTheReading files main (file_breaks (string_bytes told) clause)
  breaks_here clause told same v =
      subst (λ f. IsTheReading files main (file_breaks f clause)) (sym same)
      (first_broken files main (string_bytes name) clause (record { before = entries_of es; names = names; firm = firm; next = at; broken = v }))

  -- a file without a tree ends the walk
  pub as_told : (f : FileName) → f ≡ string_bytes name → (fault : ReadingFault) → IsNamedTree files main f (Err fault)
      → IfSome (verdict_of_reading fault) (IsTheReading files main)
  as_told f e (readings.File clause told) t = breaks_here clause told (t.0 ∙ e) (subst (λ g. FileHasOnlyVerdict files main g (breaks clause)) e t.1)
  as_told f e readings.Memory t = tt

  module _ (tree : declared.FileTree) (f : FileName) (same : f ≡ string_bytes name) (told : FileHasOnlyVerdict files main f (has_tree (file_of tree))) where
    abbrev v : FileHasOnlyVerdict files main (string_bytes name) (has_tree (file_of tree))
    v = subst (λ g. FileHasOnlyVerdict files main g (has_tree (file_of tree))) same told

    abbrev new_name : ¬ (Among (string_bytes name) (map (λ e. string_bytes e.0) es))
    new_name = subst (λ ns. ¬ (Among (string_bytes name) ns)) (keys_same es) (fresh files main (firm_taken files main firm) at) where
      keys_same : (es : Entries) → map first_of (entries_of es) ≡ map (λ e. string_bytes e.0) es
      keys_same [] = refl
      keys_same (e ∷ es) = ap (λ ns. string_bytes e.0 ∷ ns) (keys_same es)

    pub goes_on : (new : Entries) (more : List FileName) → new ≡ insert_entry string_eq es name tree → more ≡ fold with_name names (hrefs_of (file_of tree)) →
        IsFirm files main (entries_of new) more
    goes_on new more e m = more_firm firm at v
        (ap entries_of (e ∙ entry_goes_last es name tree new_name) ∙ map-append (λ e. (string_bytes e.0, file_of e.1)) es ((name, tree) ∷ [])) m

    pub fewer_left : (new : Entries) (more : List FileName) → new ≡ insert_entry string_eq es name tree → more ≡ fold with_name names (hrefs_of (file_of tree)) →
        length files - length new < length files - length es
    fewer_left new more e m =
        let few = few_taken files main (firm_taken files main (goes_on new more e m)) in
        let k = length_entries new in
        let h = length_entries es in
        let l = ap length (e ∙ entry_goes_last es name tree new_name) in
        let j = length-append es ((name, tree) ∷ []) in
        omega (arith, few, k, h, l, j)
