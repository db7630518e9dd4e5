-- The names that a schema file mentions, as C reads them.
use Rattle.std.specs.Prelude.{◌≡◌, ℕ, pos, List, [], ◌∷◌, ◌++◌, Some, map}
use Rattle.std.specs.List.{concat}
use Rattle.rnc_model.specs.declarations.FileTree.{FileTree}
use Rattle.rnc_model.specs.declared.file_place.FilePlace.{FilePlace}
use Rattle.rnc_model.specs.loading.FaultPlaces.{BreaksClauseAt}
use Rattle.rnc_model.specs.loading.FileVerdicts.{ContentHasOnlyVerdict, breaks, has_tree}
use Rattle.rnc_model.specs.loading.Loading.{hrefs_of}
use Rattle.rnc_model.specs.loading.SchemaFile.{FileName}
use Rattle.rncv_c_values.specs.views.Told.{refusal_at}
use Rattle.rncv_c_values.specs.declared.told.Refusal.{Refusal}

-- each name with a zero after it
abbrev pub with_ends : List FileName → List ℕ
with_ends names = concat (map (λ name. name ++ 0 ∷ []) names)

-- the file breaks no clause by itself, and the text has the names that it mentions, in order
pub record AreMentionsOf (file text : List ℕ) : Type 0 where
  pub tree : FileTree
  pub is : ContentHasOnlyVerdict file (has_tree tree)
  pub text_is : text ≡ with_ends (hrefs_of tree)

-- the file breaks this clause by itself, and no other, and this is reported of it
pub record IsRefusedAlone (file : List ℕ) (told : Refusal) : Type 0 where
  pub clause : ℕ
  pub place : FilePlace
  pub at : BreaksClauseAt file clause place
  pub only : ContentHasOnlyVerdict file (breaks clause)
  pub told_is : told ≡ refusal_at (pos 0) clause (Some place)
