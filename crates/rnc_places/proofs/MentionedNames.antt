-- The names of the files that a tree mentions.
use Rattle.std.proofs.Common.{◌≡◌, ◌∙◌, refl, ap, ℕ, ◌≤◌, List, [], ◌∷◌, map, length, take}
use Rattle.std.proofs.lemmas.List.{take_all}
use Rattle.rnc_grammar.specs.declared.mentions.MentionedFile.{MentionedFile}
use Rattle.rnc_grammar.specs.views.View.{mentioned_file_of}
use Rattle.rnc_model.specs.declarations.FileTree.{FileTree}
use Rattle.rnc_model.specs.loading.Loading.{hrefs_of}
use Rattle.rnc_model.specs.loading.Mentions.{mention_of, mentions_of}
use Rattle.rnc_model.specs.loading.SchemaFile.{FileName}

-- the name of a mentioned file
abbrev pub name_in : MentionedFile → FileName
name_in m = (mention_of (mentioned_file_of m)).href

names_are : (items : List MentionedFile) → map name_in items ≡ map (λ m. (mention_of m).href) (map mentioned_file_of items)
names_are [] = refl
names_are (m ∷ items) = ap (λ ns. name_in m ∷ ns) (names_are items)

-- the names after the last round
pub all_names : (items all : List MentionedFile) (i : ℕ) → length items ≤ i → items ≡ all → (t : FileTree) → map mentioned_file_of all ≡ mentions_of t
    → map name_in (take i items) ≡ hrefs_of t
all_names items all i l same t are =
    ap (map name_in) (take_all i items l ∙ same) ∙ names_are all ∙ ap (map (λ m. (mention_of m).href)) are
