-- Which other files a schema file mentions (RELAX NG Specification, sections 4.6 and 4.7).
use Rattle.std.specs.Prelude.{List, [], ◌∷◌, ◌++◌, ◌≡◌, ℕ, ◌<◌, length, slice_get, Some, ◌⊎◌, Option, None}
use Rattle.rnc_model.specs.grammar.Syntax as tree
use Rattle.rnc_model.specs.grammar.Syntax.{applied, Mention}
use Rattle.rnc_model.specs.declarations.FileTree.{FileTree, grammar_file, pattern_file, grammar_components}
use Rattle.rng_model.specs.names.Lists.{Among, HasTwice}
use Rattle.rnc_model.specs.loading.SchemaFile.{FileName}
use Rattle.rng_model.specs.declared.method.Method.{Method}

-- a file that is mentioned: its pattern replaces the mention (section 4.6), or its components are included, and the
-- components in the braces override them (section 4.7)
pub data MentionedFile : Type 0 where
  external_file : Mention applied → MentionedFile
  included_file : Mention applied → tree.ComponentsAt applied → MentionedFile

abbrev pub mention_of : MentionedFile → Mention applied
mention_of (external_file m) = m
mention_of (included_file m over) = m

abbrev mutual
  -- the mentions in a pattern, in order
  pub mentions_of_pattern : tree.PatternAt applied → List MentionedFile
  mentions_of_pattern (tree.element c p) = mentions_of_pattern p
  mentions_of_pattern (tree.attribute c p) = mentions_of_pattern p
  mentions_of_pattern (tree.list p) = mentions_of_pattern p
  mentions_of_pattern (tree.mixed p) = mentions_of_pattern p
  mentions_of_pattern (tree.optional p) = mentions_of_pattern p
  mentions_of_pattern (tree.zero_or_more p) = mentions_of_pattern p
  mentions_of_pattern (tree.one_or_more p) = mentions_of_pattern p
  mentions_of_pattern (tree.ref n) = []
  mentions_of_pattern (tree.parent_ref n) = []
  mentions_of_pattern tree.empty = []
  mentions_of_pattern tree.text = []
  mentions_of_pattern tree.not_allowed = []
  mentions_of_pattern (tree.value d v) = []
  mentions_of_pattern (tree.data_of d ps) = []
  mentions_of_pattern (tree.data_except d ps p) = mentions_of_pattern p
  mentions_of_pattern (tree.external m) = external_file m ∷ []
  mentions_of_pattern (tree.grammar cs) = mentions_of_components cs
  mentions_of_pattern (tree.joined k ps) = mentions_of_patterns ps

  pub mentions_of_patterns : tree.PatternsAt applied → List MentionedFile
  mentions_of_patterns tree.no_patterns = []
  mentions_of_patterns (tree.pattern_and p ps) = mentions_of_pattern p ++ mentions_of_patterns ps

  pub mentions_of_component : tree.ComponentAt applied → List MentionedFile
  mentions_of_component (tree.start m p) = mentions_of_pattern p
  mentions_of_component (tree.define n m p) = mentions_of_pattern p
  mentions_of_component (tree.div cs) = mentions_of_components cs
  mentions_of_component (tree.include m over) = included_file m over ∷ mentions_of_components over

  pub mentions_of_components : tree.ComponentsAt applied → List MentionedFile
  mentions_of_components tree.no_components = []
  mentions_of_components (tree.component_and c cs) = mentions_of_component c ++ mentions_of_components cs

-- the mentions anywhere in a file, also in components that are overridden
abbrev pub mentions_of : FileTree → List MentionedFile
mentions_of (pattern_file p) = mentions_of_pattern p
mentions_of (grammar_file cs) = mentions_of_components cs

-- ---- paths of mentions, by name (the limit: profile)

-- a path of mentions: at each step, which mention of the file it follows
abbrev pub Path : Type 0
Path = List ℕ

-- how many paths of mentions there may be, including the empty one
abbrev pub path_limit : ℕ
path_limit = 4096

module _ (mentions : FileName → List FileName) where
  -- a file mentions a file, directly or through others
  pub data Mentions : FileName → FileName → Type 0 where
    directly : {f g : FileName} → Among g (mentions f) → Mentions f g
    through : {f g h : FileName} → Mentions f g → Among h (mentions g) → Mentions f h

  -- the main file, and what it mentions, directly or through others
  abbrev pub IsReachedFile : FileName → FileName → Type 0
  IsReachedFile main f = (f ≡ main) ⊎ Mentions main f

  -- a file that is reached mentions itself, directly or through others
  abbrev pub IsCyclic : FileName → Type 0
  IsCyclic main = (f : FileName) × IsReachedFile main f × Mentions f f

  -- a path from the file: the empty one, or one of its mentions and then a path from the file that it mentions
  pub data IsPath : FileName → Path → Type 0 where
    path_ends : {f : FileName} {p : Path} → p ≡ [] → IsPath f p
    path_goes_on : {f g : FileName} {i : ℕ} {p q : Path} → slice_get (mentions f) i ≡ Some g → IsPath g p → q ≡ i ∷ p → IsPath f q

  -- there are more paths of mentions from the file than the limit
  pub record HasMorePathsThan (limit : ℕ) (f : FileName) : Type 0 where
    pub some : List Path
    pub differ : ¬ (HasTwice some)
    pub are : (p : Path) → Among p some → IsPath f p
    pub more : limit < length some

  -- a file mentions itself, or there are too many paths of mentions from the main file
  abbrev pub BreaksMentions : FileName → Type 0
  BreaksMentions main = IsCyclic main ⊎ HasMorePathsThan path_limit main

-- ---- the names of a grammar

module _ (files : List ℕ → Option FileTree) where
  -- These components give their grammar a component of this name, or a start: directly, or through the braces or the
  -- file of an include. An overridden component counts too, since the braces have one of its name.
  mutual
    pub data HasName (y : Option (List ℕ)) : tree.ComponentsAt applied → Type 0 where
      of_first : {c : tree.ComponentAt applied} {cs : tree.ComponentsAt applied} → NamesIt y c → HasName y (tree.component_and c cs)
      of_later : {c : tree.ComponentAt applied} {cs : tree.ComponentsAt applied} → HasName y cs → HasName y (tree.component_and c cs)

    pub data NamesIt (y : Option (List ℕ)) : tree.ComponentAt applied → Type 0 where
      of_start : {p : tree.PatternAt applied} {m : Method} → y ≡ None → NamesIt y (tree.start m p)
      of_define : {n : List ℕ} {p : tree.PatternAt applied} {m : Method} → y ≡ Some n → NamesIt y (tree.define n m p)
      of_div : {cs : tree.ComponentsAt applied} → HasName y cs → NamesIt y (tree.div cs)
      of_braces : {m : Mention applied} {over : tree.ComponentsAt applied} → HasName y over → NamesIt y (tree.include m over)
      of_file : {m : Mention applied} {over cs : tree.ComponentsAt applied} {f : FileTree} → files m.href ≡ Some f → grammar_components f ≡ Some cs → HasName y cs
          → NamesIt y (tree.include m over)
