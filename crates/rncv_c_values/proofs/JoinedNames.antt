-- Names, each with a zero after it.
use Rattle.std.proofs.Common.{◌≡◌, ◌∙◌, ap, sym, ℕ, List, [], ◌∷◌, ◌++◌, map, append_assoc}
use Rattle.std.specs.List.{concat}
use Rattle.std.proofs.lemmas.List.{append-nil, map-append}
use Rattle.std.proofs.lemmas.List.Folds.{concat-append}
use Rattle.rnc_model.specs.loading.SchemaFile.{FileName}
use Rattle.rncv_c_values.specs.views.Mentions.{with_ends}

abbrev with_end : FileName → List ℕ
with_end name = name ++ 0 ∷ []

-- one more name
pub one_more : (names : List FileName) (name : FileName) → with_ends (names ++ name ∷ []) ≡ (with_ends names ++ name) ++ 0 ∷ []
one_more names name =
    ap concat (map-append with_end names (name ∷ [])) ∙ concat-append (map with_end names) (with_end name ∷ [])
    ∙ ap (λ t. with_ends names ++ t) (append-nil (with_end name)) ∙ sym (append_assoc (with_ends names) name (0 ∷ []))
