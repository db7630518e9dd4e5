-- The place that is reported is one in the first file of the name that the cause has.
use Rattle.std.proofs.Common.{◌≡◌, ◌∙◌, ℕ, List, Option, ap, subst, sym, string_bytes}
use Rattle.std.specs.Prelude.{bytes_eq, position}
use Rattle.rnc_model.specs.declared.file_place.FilePlace.{FilePlace}
use Rattle.rncv_c_values.specs.views.Files.{file_at, first_file, index_for_c, index_of}
use Rattle.rncv_c_values.specs.views.Told.{IsPlaceToTell, IsToldOf, refusal_at}
use Rattle.rncv_c_values.specs.declared.files.SchemaFile.{SchemaFile}
use Rattle.rncv_c_values.specs.declared.told.Refusal.{Refusal}
use Rattle.rncv_c_values.proofs.told.refusal_to_tell.Goals as goal

-- what is reported of the file of a name, found by its index
told_of : (files : List SchemaFile) (name word : List ℕ) (clause : ℕ) (index : Option ℕ) (file : Option SchemaFile) (place : Option FilePlace) (told : Refusal)
    → word ≡ name → index ≡ position (λ f. bytes_eq f.name.now word) files → file ≡ file_at index files → IsPlaceToTell file clause place
    → told ≡ refusal_at (index_for_c index) clause place
    → (place : Option FilePlace) × IsPlaceToTell (first_file name files) clause place × (told ≡ refusal_at (index_of name files) clause place)
told_of files name word clause index file place told word-is index-is file-is is told-is =
    let at : index ≡ position (λ (f : SchemaFile). bytes_eq f.name.now name) files =
    index-is ∙ ap (λ (w : List ℕ). position (λ (f : SchemaFile). bytes_eq f.name.now w) files) word-is in
    let first : file ≡ first_file name files = file-is ∙ ap (λ (x : Option ℕ). file_at x files) at in (
      place,
      subst (λ (x : Option SchemaFile). IsPlaceToTell x clause place) first is,
      told-is ∙ ap (λ (x : Option ℕ). refusal_at (index_for_c x) clause place) at,
    )

pub returns-in_ok-place-in-File : goal.returns-in_ok-place-in-File
returns-in_ok-place-in-File c = subst (λ f. IsToldOf c.args.files.now f c.refusal_at.result) (sym c.in-File.is)
    (told_of c.args.files.now (string_bytes c.in-File.name) _ c.in-File.clause _ _ c.in_ok-place-in-File.place _ c.as_bytes.ensures.value
    c.position_of-index.ensures.position c.file_at.ensures c.in_ok-place-in-File.ensures c.refusal_at.ensures)
