-- Files become one schema: the order in which they are taken, and the verdict on them up to S10 (RELAX NG Specification, sections 4.6 and 4.7;
-- the order and the limit of S9: profile).
use Rattle.std.specs.Prelude.{◌≡◌, ℕ, ◌≤◌, List, [], ◌∷◌, ◌++◌, map, fold, length, slice_get, Option, Some, None, if◌then◌else◌}
use Rattle.std.specs.List.{list_any}
use Rattle.std.specs.Map.{lookup}
use Rattle.std.specs.Str.{bytes_eq}
use Rattle.rng_model.specs.names.Lists.{Among}
use Rattle.rnc_model.specs.grammar.Syntax as tree
use Rattle.rnc_model.specs.grammar.Syntax.{applied, Mention}
use Rattle.rnc_model.specs.declarations.FileTree.{FileTree, grammar_components}
use Rattle.rnc_model.specs.loading.Mentions.{BreaksMentions, MentionedFile, external_file, included_file, mention_of, mentions_of, HasName}
use Rattle.rnc_model.specs.loading.SchemaFile.{FileName, NamedFile, BreaksOwn, HasTree}

-- the names that a tree mentions, in order
abbrev pub hrefs_of : FileTree → List FileName
hrefs_of t = map (λ m. (mention_of m).href) (mentions_of t)

-- ---- the load order

-- the names with this one at the end, unless they have it already
abbrev pub with_name : List FileName → FileName → List FileName
with_name ns n = if list_any (λ m. bytes_eq n m) ns then ns else ns ++ n ∷ []

-- files with their trees, in the order in which they are taken
abbrev pub TakenFiles : Type 0
TakenFiles = List (FileName × FileTree)

module _ (files : List NamedFile) (main : FileName) where
  -- The load order, as far as it goes: these files are taken, each with its tree, and these are the names so far,
  -- beginning with those of the files. The main file is first. The next name is that of the file that is taken next.
  -- Each name that this file mentions, and that is not there yet, is put at the end.
  pub data IsTaken : TakenFiles → List FileName → Type 0 where
    none_yet : {read : TakenFiles} {names : List FileName} → read ≡ [] → names ≡ main ∷ [] → IsTaken read names
    one_more : {read all : TakenFiles} {names more : List FileName} {f : FileName} {t : FileTree} → IsTaken read names → slice_get names (length read) ≡ Some f →
        HasTree files main f t → all ≡ read ++ (f, t) ∷ [] → more ≡ fold with_name names (hrefs_of t) → IsTaken all more

  -- these are all the files of the schema, in load order: no file breaks a clause by itself, and no name is left
  pub record AreTaken (read : TakenFiles) : Type 0 where
    pub names : List FileName
    pub taken : IsTaken read names
    pub all : length names ≤ length read

  -- in load order this file is the first that breaks a clause by itself, and this is the first clause that it breaks
  pub record IsFirstBroken (f : FileName) (k : ℕ) : Type 0 where
    pub before : TakenFiles
    pub names : List FileName
    pub taken : IsTaken before names
    pub next : slice_get names (length before) ≡ Some f
    pub broken : BreaksOwn files main f k

-- ---- what the files are together

-- the tree of the file of this name
abbrev pub tree_in : TakenFiles → FileName → Option FileTree
tree_in read f = lookup (bytes_eq f) read

-- the names that a file mentions; a file that is not among these mentions nothing
abbrev pub hrefs_if : Option FileTree → List FileName
hrefs_if None = []
hrefs_if (Some t) = hrefs_of t

abbrev pub hrefs_in : TakenFiles → FileName → List FileName
hrefs_in read f = hrefs_if (tree_in read f)

module _ (read : TakenFiles) where
  -- an include, in a file or in a component that is overridden: the file that it mentions is not a grammar, or the
  -- braces override a name, or a start, that the grammar of this file does not have
  pub data BreaksInclude (m : Mention applied) (over : tree.ComponentsAt applied) : Type 0 where
    no_grammar : {t : FileTree} → tree_in read m.href ≡ Some t → grammar_components t ≡ None → BreaksInclude m over
    nothing_to_override : {t : FileTree} {cs : tree.ComponentsAt applied} {y : Option (List ℕ)} → tree_in read m.href ≡ Some t → grammar_components t ≡ Some cs
        → HasName (tree_in read) y over → ¬ (HasName (tree_in read) y cs) → BreaksInclude m over

  abbrev pub IsBrokenInclude : MentionedFile → Type 0
  IsBrokenInclude (external_file m) = ⊥
  IsBrokenInclude (included_file m over) = BreaksInclude m over

  -- an include anywhere in one of the files breaks this rule
  abbrev pub HasBrokenInclude : FileTree → Type 0
  HasBrokenInclude t = (m : MentionedFile) × Among m (mentions_of t) × IsBrokenInclude m

  abbrev pub BreaksIncludes : Type 0
  BreaksIncludes = (file : FileName × FileTree) × Among file read × HasBrokenInclude file.1

  -- the first clause that all files together break: the one on paths of mentions (9), or the one on includes (10)
  pub data BreaksTogether (main : FileName) (k : ℕ) : Type 0 where
    mentions_break : BreaksMentions (hrefs_in read) main → k ≡ 9 → BreaksTogether main k
    includes_break : ¬ (BreaksMentions (hrefs_in read) main) → BreaksIncludes → k ≡ 10 → BreaksTogether main k

-- the verdict on the files: a file is the first that breaks a clause by itself, with the first clause that it breaks;
-- or the files together break this clause; or they are one schema, with these trees
pub data FilesVerdict : Type 0 where
  file_breaks : FileName → ℕ → FilesVerdict
  together_break : ℕ → FilesVerdict
  are_taken : TakenFiles → FilesVerdict

module _ (files : List NamedFile) (main : FileName) where
  abbrev pub FilesHaveVerdict : FilesVerdict → Type 0
  FilesHaveVerdict (file_breaks f k) = IsFirstBroken files main f k
  FilesHaveVerdict (together_break k) = (read : TakenFiles) × AreTaken files main read × BreaksTogether read main k
  FilesHaveVerdict (are_taken read) = AreTaken files main read × ((k : ℕ) → ¬ (BreaksTogether read main k))

  -- this is the verdict, and there is no other
  pub record FilesHaveOnlyVerdict (v : FilesVerdict) : Type 0 where
    pub is : FilesHaveVerdict v
    pub only : (other : FilesVerdict) → FilesHaveVerdict other → v ≡ other
