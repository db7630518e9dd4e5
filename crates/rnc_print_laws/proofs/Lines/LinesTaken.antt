-- The file of the lines, handed in as the main one, is taken alone, and breaks no clause about several files.
use Rattle.std.proofs.Common.{◌≡◌, ◌∙◌, refl, sym, ap, ap₂, subst, inl, inr, ℕ, ◌<◌, Bool, true, false, cond, List, [], ◌∷◌, ◌++◌, map}
use Rattle.std.proofs.Common.{length, Option, Some, None, slice_get, arith}
use Rattle.std.specs.List.{fold}
use Rattle.std.proofs.lemmas.Option.{slice_get_within}
use Rattle.std.specs.Str.{bytes_eq}
use Rattle.rng_model.proofs.Texts.{bytes_itself}
use Rattle.rng_model.specs.names.Lists.{Among, here, there, HasTwice, at_first}
use Rattle.rng_model.specs.simple.Tree.{Simple, s_not_allowed, s_empty, s_text, s_leaf, s_attribute, s_list, s_data, s_data_except, s_value, s_one_or_more}
use Rattle.rng_model.specs.simple.Tree.{s_joined}
use Rattle.rng_model.specs.simple.Grammar.{Grammar}
use Rattle.rng_model.specs.schema.Schema.{Schema}
use Rattle.rncv_model.specs.printed.Items.{PrintedItem, element, pattern, element_at}
use Rattle.rnc_model.specs.grammar.Syntax as tree
use Rattle.rnc_model.specs.declarations.FileTree.{FileTree}
use Rattle.rnc_model.specs.loading.Mentions.{MentionedFile, mention_of, mentions_of, mentions_of_pattern, mentions_of_component, mentions_of_components, Path}
use Rattle.rnc_model.specs.loading.Mentions.{Mentions, directly, through, IsPath, path_ends, path_goes_on, BreaksMentions, path_limit}
use Rattle.rnc_model.specs.loading.Loading.{TakenFiles, with_name, hrefs_of, tree_in, hrefs_if, hrefs_in, none_yet, one_more, AreTaken, BreaksIncludes}
use Rattle.rnc_model.specs.loading.Loading.{BreaksTogether}
use Rattle.rnc_model.specs.loading.Loading.{mentions_break, includes_break, are_taken, FilesHaveVerdict}
use Rattle.rnc_model.specs.loading.LoadedSchema.{AreSchema, IsSchemaOf}
use Rattle.rnc_model.specs.loading.SchemaFile.{FileName, NamedFile, HasTree}
use Rattle.rnc_print_laws.specs.plain.LinesSchema.{IsSchemaOfLines, schema_of_lines}
use Rattle.rnc_print_laws.specs.plain.HandedIn.{lines_alone}
use Rattle.rnc_print_laws.specs.plain.LinesTree as lines
use Rattle.rnc_print_laws.specs.plain.LinesTree.{lines_tree}
use Rattle.rnc_print_laws.proofs.Lines.ReadLines.{lines_read, lines_are_read}

-- ---- the lines mention no file

reference_mentions : (items : List PrintedItem) (a : Simple ℕ) → mentions_of_pattern (lines.reference_of items a) ≡ []
reference_mentions items s_not_allowed = refl
reference_mentions items s_empty = refl
reference_mentions items s_text = refl
reference_mentions items (s_leaf k) = refl
reference_mentions items (s_attribute c a) = refl
reference_mentions items (s_list a) = refl
reference_mentions items (s_data d) = refl
reference_mentions items (s_data_except d a) = refl
reference_mentions items (s_value d v) = refl
reference_mentions items (s_one_or_more a) = refl
reference_mentions items (s_joined k a b) = refl

pattern_mentions : (items : List PrintedItem) (a : Simple ℕ) → mentions_of_pattern (lines.pattern_of items a) ≡ []
pattern_mentions items s_not_allowed = refl
pattern_mentions items s_empty = refl
pattern_mentions items s_text = refl
pattern_mentions items (s_leaf k) = refl
pattern_mentions items (s_attribute c a) = reference_mentions items a
pattern_mentions items (s_list a) = reference_mentions items a
pattern_mentions items (s_data d) = refl
pattern_mentions items (s_data_except d a) = reference_mentions items a
pattern_mentions items (s_value d v) = refl
pattern_mentions items (s_one_or_more a) = reference_mentions items a
pattern_mentions items (s_joined k a b) = ap₂ (λ (xs ys : List MentionedFile). xs ++ (ys ++ [])) (reference_mentions items a) (reference_mentions items b)

item_mentions : (g : Grammar) (items : List PrintedItem) (i : PrintedItem) → mentions_of_component (lines.define_of g items i) ≡ []
item_mentions g items (element k) = reference_mentions items (element_at g k).1
item_mentions g items (pattern a) = pattern_mentions items a

items_mention : (g : Grammar) (items js : List PrintedItem) → mentions_of_components (tree.components_of (map (lines.define_of g items) js)) ≡ []
items_mention g items [] = refl
items_mention g items (j ∷ js) = ap₂ (λ (xs ys : List MentionedFile). xs ++ ys) (item_mentions g items j) (items_mention g items js)

lines_mention : (g : Grammar) (items : List PrintedItem) → mentions_of (lines_tree g items) ≡ []
lines_mention g items = ap₂ (λ (xs ys : List MentionedFile). xs ++ ys) (reference_mentions items g.start) (items_mention g items items)

-- ---- a main file that mentions no other

twice_none : (p q : Path) (rest : List Path) → p ≡ [] → q ≡ [] → HasTwice (p ∷ q ∷ rest)
twice_none p q rest e f = subst (λ x. HasTwice (p ∷ x ∷ rest)) (e ∙ sym f) (at_first here)

module _ (main : FileName) (t : FileTree) (none : mentions_of t ≡ []) where
  abbrev pub alone : TakenFiles
  alone = (main, t) ∷ []

  no_hrefs : hrefs_of t ≡ []
  no_hrefs = ap (map (λ m. (mention_of m).href)) none

  hrefs_none : (f : FileName) → hrefs_in alone f ≡ []
  hrefs_none f = by_name (bytes_eq f main)
    where
      by_name : (b : Bool) → hrefs_if (cond b (Some t) None) ≡ []
      by_name true = no_hrefs
      by_name false = refl

  mentions_none : {f g : FileName} → Mentions (hrefs_in alone) f g → ⊥
  mentions_none (directly {f} {g} a) = let b = subst (Among g) (hrefs_none f) a in elim b [ ]
  mentions_none (through {f} {g} {h} m a) = mentions_none m

  path_none : (f : FileName) (p : Path) → IsPath (hrefs_in alone) f p → p ≡ []
  path_none f p (path_ends e) = e
  path_none f p (path_goes_on {f = d} {g} {i} here_is rest e) =
      not_found i g (sym (ap (λ (ns : List FileName). slice_get ns i) (hrefs_none d)) ∙ here_is)
    where
      not_found : (i : ℕ) (g : FileName) → slice_get [] i ≡ Some g → p ≡ []
      not_found i g e = let h = slice_get_within [] i g e in absurd (omega (arith, h))

  few_paths : (some : List Path) → ((p : Path) → Among p some → IsPath (hrefs_in alone) main p) → ¬ (HasTwice some) → path_limit < length some → ⊥
  few_paths [] are differ more = omega (arith, more)
  few_paths (p ∷ []) are differ more = omega (arith, more)
  few_paths (p ∷ (q ∷ rest)) are differ more = differ (twice_none p q rest (path_none main p (are p here)) (path_none main q (are q (there here))))

  no_mentions : ¬ (BreaksMentions (hrefs_in alone) main)
  no_mentions (inl c) = mentions_none c.2
  no_mentions (inr m) = few_paths m.some m.are m.differ m.more

  only_main : (file : FileName × FileTree) → Among file alone → mentions_of file.1 ≡ []
  only_main file here = none
  only_main file (there a) = elim a [ ]

  no_includes : ¬ (BreaksIncludes alone)
  no_includes b = not_among b.2.1 (only_main b.0 b.1)
    where
      not_among : {m : MentionedFile} {ms : List MentionedFile} → Among m ms → ms ≡ [] → ⊥
      not_among here e = cc
      not_among (there a) e = cc

  none_together : (k : ℕ) → ¬ (BreaksTogether alone main k)
  none_together k (mentions_break b e) = no_mentions b
  none_together k (includes_break n b e) = no_includes b

  module _ (files : List NamedFile) (has : HasTree files main main t) where
    taken_alone : AreTaken files main alone
    taken_alone = record {
      names = main ∷ [];
      taken = one_more (none_yet refl refl) refl has refl (ap (fold with_name (main ∷ [])) (sym no_hrefs));
      all = omega arith;
    }

    pub verdict_alone : FilesHaveVerdict files main (are_taken alone)
    verdict_alone = (taken_alone, none_together)

  main_tree : tree_in alone main ≡ Some t
  main_tree = ap (λ b. cond b (Some t) None) (bytes_itself main)

-- ---- the file of the lines

module _ (main : FileName) (g : Grammar) (items : List PrintedItem) where
  abbrev only_lines : TakenFiles
  only_lines = lines_alone main g items

  pub lines_taken : (files : List NamedFile) → HasTree files main main (lines_tree g items) → FilesHaveVerdict files main (are_taken only_lines)
  lines_taken files has = verdict_alone main (lines_tree g items) (lines_mention g items) files has

  tree_is : {t u : FileTree} {o : Option FileTree} → o ≡ Some t → o ≡ Some u → t ≡ u
  tree_is e f = cc

  pub lines_are_schema : (r : Schema) → AreSchema only_lines main r → IsSchemaOfLines g items r
  lines_are_schema r a =
      let e : a.tree ≡ lines_tree g items = tree_is a.main_file (main_tree main (lines_tree g items) (lines_mention g items)) in
      lines_read (tree_in only_lines) g items r (subst (λ t. IsSchemaOf (tree_in only_lines) t r) e a.is)

  pub schema_is_lines : AreSchema only_lines main (schema_of_lines g items)
  schema_is_lines = record {
    tree = lines_tree g items;
    main_file = main_tree main (lines_tree g items) (lines_mention g items);
    is = lines_are_read (tree_in only_lines) g items;
  }
