-- The names that files mention.
use Rattle.std.proofs.Common.{◌≡◌, refl, sym, ap, ◌∙◌, ℕ, ◌≤◌, Bool, true, false, cond, Option, Some, option_map, String, string_bytes}
use Rattle.std.proofs.Common.{List, [], ◌∷◌, map, length, take}
use Rattle.std.specs.Global.{Global}
use Rattle.std.specs.Map.{lookup}
use Rattle.std.specs.Str.{bytes_eq}
use Rattle.std.proofs.lemmas.List.{take_all}
use Rattle.rnc_grammar.specs.declared.file_tree.FileTree as declared
use Rattle.rnc_grammar.specs.declared.mentions.MentionedFile as mentioned
use Rattle.rnc_model.specs.declarations.FileTree.{FileTree}
use Rattle.rnc_model.specs.loading.Mentions.{mention_of, mentions_of}
use Rattle.rnc_grammar.specs.views.View.{file_of, mentioned_file_of}
use Rattle.rnc_model.specs.loading.Loading.{tree_in, hrefs_of, hrefs_if, hrefs_in}
use Rattle.rnc_model.specs.loading.SchemaFile.{FileName}

-- the name of a mentioned file
abbrev pub href_of : mentioned.MentionedFile → FileName
href_of m = (mention_of (mentioned_file_of m)).href

hrefs_are : (items : List mentioned.MentionedFile) → map href_of items ≡ map (λ m. (mention_of m).href) (map mentioned_file_of items)
hrefs_are [] = refl
hrefs_are (m ∷ items) = ap (λ ns. href_of m ∷ ns) (hrefs_are items)

-- what a file mentions, after the last round
pub all_hrefs : (items all : List mentioned.MentionedFile) (i : ℕ) → length items ≤ i → items ≡ all → (t : FileTree) → map mentioned_file_of all ≡ mentions_of t
    → map href_of (take i items) ≡ hrefs_of t
all_hrefs items all i l same t are =
    ap (map href_of) (take_all i items l ∙ same) ∙ hrefs_are all ∙ ap (map (λ m. (mention_of m).href)) are

-- the tree of the file of a name
found_first : (o : Option declared.FileTree) (p : Option FileTree) (t : declared.FileTree) (b : Bool) → p ≡ option_map file_of o →
    cond b (Some (file_of t)) p ≡ option_map file_of (cond b (Some t) o)
found_first o p t true e = refl
found_first o p t false e = e

pub tree_found : (es : List (String Global × declared.FileTree)) (f : FileName)
    → tree_in (map (λ e. (string_bytes e.0, file_of e.1)) es) f ≡ option_map file_of (lookup (λ k. bytes_eq f (string_bytes k)) es)
tree_found [] f = refl
tree_found (e ∷ es) f = found_first _ _ e.1 (bytes_eq f (string_bytes e.0)) (tree_found es f)

-- what the file of a name mentions
pub mentions_found : (es : List (String Global × declared.FileTree)) (f : FileName) (o : Option declared.FileTree)
    → o ≡ lookup (λ k. bytes_eq f (string_bytes k)) es → hrefs_if (option_map file_of o) ≡ hrefs_in (map (λ e. (string_bytes e.0, file_of e.1)) es) f
mentions_found es f o e = ap (λ p. hrefs_if (option_map file_of p)) e ∙ sym (ap hrefs_if (tree_found es f))
