-- What is read plainly agrees with the definitions, if mentions can be followed. In files that keep their rules they
-- can be.
use Rattle.std.proofs.Common.{◌≡◌, refl, sym, subst, ap, ◌∙◌, ℕ, zero, suc, ◌+◌, ◌-◌, ◌<◌, arith, Bool, true, false, cond, not, List, [], ◌∷◌, ◌++◌, filter}
use Rattle.std.proofs.Common.{inl, inr, Option, Some, None}
use Rattle.std.specs.Str.{bytes_eq}
use Rattle.rng_model.proofs.Members.{among_mapped}
use Rattle.rng_model.specs.names.Lists.{Among, here, there}
use Rattle.rng_model.specs.schema.Patterns.{Place, Pattern}
use Rattle.rnc_model.specs.grammar.Syntax as tree
use Rattle.rnc_model.specs.grammar.Syntax.{applied}
use Rattle.rnc_model.specs.declarations.FileTree.{FileTree, grammar_file, pattern_file, grammar_components, whole_grammar}
use Rattle.rnc_model.specs.loading.Mentions.{MentionedFile, external_file, included_file, mention_of, mentions_of, mentions_of_pattern, mentions_of_patterns}
use Rattle.rnc_model.specs.loading.Mentions.{mentions_of_components, BreaksMentions, path_limit}
use Rattle.rnc_model.specs.loading.Loading.{hrefs_if, TakenFiles, tree_in, hrefs_in, BreaksIncludes, no_grammar}
use Rattle.rnc_model.specs.loading.FileGrammars.{grammar_if}
use Rattle.rnc_model.specs.loading.SchemaFile.{FileName}
use Rattle.rng_load.specs.plain.Counting.{IsLong, long_end, long_more}
use Rattle.rnc_model.specs.loading.Places.{TreePath, Nested, Gathered, is_overridden, uri_in, grammar_or_start, main_grammar}
use Rattle.rnc_model.specs.loading.LoadedSchema.{HasGrammar, main_is, nested_is, Gathers, nothing, a_start, a_define, a_div, an_include}
use Rattle.rnc_model.specs.loading.Places.{Reads, element_is, attribute_is, list_is, mixed_is, optional_is, zero_or_more_is, one_or_more_is, ref_is}
use Rattle.rnc_model.specs.loading.Places.{parent_ref_is}
use Rattle.rnc_model.specs.loading.Places.{empty_is, text_is, not_allowed_is, value_is, data_is, except_is, grammar_is, pattern_file_is, grammar_file_is}
use Rattle.rnc_model.specs.loading.Places.{joined_is}
use Rattle.rnc_model.specs.loading.Places.{ReadAll, none_are, more_are}
use Rattle.rng_load.specs.plain.PlainReading.{PatternReader, Gatherer, external_with, included_with, read_with, read_all_with, gather_with, gather_one_with}
use Rattle.rng_load.specs.plain.PlainReading.{read_below, read_at, read_all_at, gather_below, gather_at, IsFollowed, AreFollowed, IsReadable, AreReadable}
use Rattle.rng_load.specs.plain.PlainReading.{Serves}
use Rattle.rng_load.proofs.Mentions.CountedPaths.{long_breaks}
use Rattle.rng_load.proofs.Mentions.PathLists.{breaks_here}
use Rattle.rng_load.proofs.NameLists.{in_none, in_cons, in_first, in_either, in_left, in_right}

-- ---- the components of a file that is a grammar

whole_mentions : (p : tree.PatternAt applied) (cs : tree.ComponentsAt applied) → whole_grammar p ≡ Some cs → mentions_of_components cs ≡ mentions_of_pattern p
whole_mentions (tree.grammar ds) cs e = let s : ds ≡ cs = cc in ap mentions_of_components (sym s)
whole_mentions _ cs e = absurd cc

-- a grammar mentions the same files as its file
pub grammar_mentions : (t : FileTree) (cs : tree.ComponentsAt applied) → grammar_components t ≡ Some cs → mentions_of_components cs ≡ mentions_of t
grammar_mentions (grammar_file ds) cs e = let s : ds ≡ cs = cc in ap mentions_of_components (sym s)
grammar_mentions (pattern_file p) cs e = whole_mentions p cs e

module _ (files : List ℕ → Option FileTree) where
  -- ---- what can be followed

  pub followed_left : (n : ℕ) (ms ks : List MentionedFile) → AreFollowed files n (ms ++ ks) → AreFollowed files n ms
  followed_left n ms ks a m i = a m (in_left i ks)

  pub followed_right : (n : ℕ) (ms ks : List MentionedFile) → AreFollowed files n (ms ++ ks) → AreFollowed files n ks
  followed_right n ms ks a m i = a m (in_right ms i)

  -- ---- soundness

  -- for a readable pattern, the reader's result is what the pattern reads as
  abbrev ReaderSound : ℕ → PatternReader → Type 0
  ReaderSound n read = (u : List ℕ) (x : TreePath) (a : tree.PatternAt applied) → IsReadable files n a → Reads files u x a (read u x a).0 (read u x a).1

  abbrev GathererSound : ℕ → Gatherer → Type 0
  GathererSound n gather = (u : List ℕ) (x : TreePath) (k : ℕ) (cs : tree.ComponentsAt applied) → AreReadable files n cs
      → Gathers files u x k cs (gather u x k cs)

  -- the same for a mention that can be followed
  abbrev ExternalSound : ℕ → PatternReader → Type 0
  ExternalSound n below = (m : tree.Mention applied) → IsFollowed files n (external_file m) → (u : List ℕ) (x : TreePath) →
      Reads files u x (tree.external m) (external_with below (uri_in u m.inherit) x (files m.href)).0
      (external_with below (uri_in u m.inherit) x (files m.href)).1

  -- the components of the included file
  abbrev IncludedAre : Gatherer → tree.Mention applied → Type 0
  IncludedAre below m = (t : FileTree) × (is : tree.ComponentsAt applied) × (files m.href ≡ Some t) × (grammar_components t ≡ Some is)
      × ((v : List ℕ) (x : TreePath) → Gathers files v (0 ∷ x) 0 is (included_with below v x (grammar_if (files m.href))))

  abbrev IncludeSound : ℕ → Gatherer → Type 0
  IncludeSound n below = (m : tree.Mention applied) (over : tree.ComponentsAt applied) → IsFollowed files n (included_file m over) → IncludedAre below m

  module _ (n : ℕ) (below : PatternReader) (sound : ExternalSound n below) where
    mutual
      unfolding read_with read_all_with

      read_with_sound : (u : List ℕ) (x : TreePath) (a : tree.PatternAt applied) → IsReadable files n a
          → Reads files u x a (read_with files below u x a).0 (read_with files below u x a).1
      read_with_sound u x (tree.element c a) r = element_is (read_with_sound u (0 ∷ x) a r)
      read_with_sound u x (tree.attribute c a) r = attribute_is (read_with_sound u (0 ∷ x) a r)
      read_with_sound u x (tree.list a) r = list_is (read_with_sound u (0 ∷ x) a r)
      read_with_sound u x (tree.mixed a) r = mixed_is (read_with_sound u (0 ∷ x) a r)
      read_with_sound u x (tree.optional a) r = optional_is (read_with_sound u (0 ∷ x) a r)
      read_with_sound u x (tree.zero_or_more a) r = zero_or_more_is (read_with_sound u (0 ∷ x) a r)
      read_with_sound u x (tree.one_or_more a) r = one_or_more_is (read_with_sound u (0 ∷ x) a r)
      read_with_sound u x (tree.ref y) r = ref_is
      read_with_sound u x (tree.parent_ref y) r = parent_ref_is
      read_with_sound u x tree.empty r = empty_is
      read_with_sound u x tree.text r = text_is
      read_with_sound u x tree.not_allowed r = not_allowed_is
      read_with_sound u x (tree.value d v) r = value_is
      read_with_sound u x (tree.data_of d ps) r = data_is
      read_with_sound u x (tree.data_except d ps a) r = except_is (read_with_sound u (0 ∷ x) a r)
      read_with_sound u x (tree.external m) r = sound m (r (external_file m) here) u x
      read_with_sound u x (tree.grammar cs) r = grammar_is
      read_with_sound u x (tree.joined k all) r = joined_is (read_all_with_sound u x 0 all r)

      read_all_with_sound : (u : List ℕ) (x : TreePath) (k : ℕ) (all : tree.PatternsAt applied) → AreFollowed files n (mentions_of_patterns all)
          → ReadAll files u x k all (read_all_with files below u x k all).0 (read_all_with files below u x k all).1
      read_all_with_sound u x k tree.no_patterns r = none_are
      read_all_with_sound u x k (tree.pattern_and a all) r =
          let one = followed_left n (mentions_of_pattern a) (mentions_of_patterns all) r in
          let rest = followed_right n (mentions_of_pattern a) (mentions_of_patterns all) r in
          more_are (read_with_sound u (k ∷ x) a one) (read_all_with_sound u x (k + 1) all rest) refl

  module _ (n : ℕ) (read : PatternReader) (below : Gatherer) (read_sound : ReaderSound n read) (sound : IncludeSound n below) where
    gather_with_sound : (u : List ℕ) (x : TreePath) (k : ℕ) (cs : tree.ComponentsAt applied) → AreReadable files n cs
        → Gathers files u x k cs (gather_with files read below u x k cs)
    unfolding gather_with gather_one_with
    gather_with_sound u x k tree.no_components r = nothing
    gather_with_sound u x k (tree.component_and (tree.start m a) cs) r =
        let one = followed_left n (mentions_of_pattern a) (mentions_of_components cs) r in
        let rest = followed_right n (mentions_of_pattern a) (mentions_of_components cs) r in
        a_start (read_sound u (k ∷ x) a one) (gather_with_sound u x (k + 1) cs rest)
    gather_with_sound u x k (tree.component_and (tree.define y m a) cs) r =
        let one = followed_left n (mentions_of_pattern a) (mentions_of_components cs) r in
        let rest = followed_right n (mentions_of_pattern a) (mentions_of_components cs) r in
        a_define (read_sound u (k ∷ x) a one) (gather_with_sound u x (k + 1) cs rest)
    gather_with_sound u x k (tree.component_and (tree.div is) cs) r =
        let one = followed_left n (mentions_of_components is) (mentions_of_components cs) r in
        let rest = followed_right n (mentions_of_components is) (mentions_of_components cs) r in
        a_div (gather_with_sound u (k ∷ x) 0 is one) (gather_with_sound u x (k + 1) cs rest) refl
    gather_with_sound u x k (tree.component_and (tree.include m over) cs) r =
        let braces = followed_left n (mentions_of_components over) (mentions_of_components cs) (λ f i. r f (there i)) in
        let rest = followed_right n (mentions_of_components over) (mentions_of_components cs) (λ f i. r f (there i)) in
        let file = sound m over (r (included_file m over) here) in
        an_include file.2 file.3 (file.4 (uri_in u m.inherit) (k ∷ x)) (gather_with_sound u (1 ∷ k ∷ x) 0 over braces)
        (gather_with_sound u x (k + 1) cs rest) refl

  external_of : (n : ℕ) (below : PatternReader) → ReaderSound n below → (m : tree.Mention applied) (t : FileTree) → files m.href ≡ Some t
      → AreFollowed files n (mentions_of t) → (u : List ℕ) (x : TreePath) → Reads files u x (tree.external m)
      (external_with below (uri_in u m.inherit) x (Some t)).0 (external_with below (uri_in u m.inherit) x (Some t)).1
  unfolding external_with
  external_of n below sound m (pattern_file a) e all u x = pattern_file_is e (sound (uri_in u m.inherit) (0 ∷ x) a all)
  external_of n below sound m (grammar_file cs) e all u x = grammar_file_is e

  external_sound : (n : ℕ) → ExternalSound n (read_below files n)
  unfolding IsFollowed read_below
  external_sound zero m f u x = absurd f
  external_sound (suc n) m f u x =
      let v = uri_in u m.inherit in
      let below = read_with files (read_below files n) in
      subst (λ o. Reads files u x (tree.external m) (external_with below v x o).0 (external_with below v x o).1) (sym f.1)
      (external_of n below (read_with_sound n (read_below files n) (external_sound n)) m f.0 f.1 f.3 u x)

  -- a readable pattern reads as the plain result
  pub read_sound : (n : ℕ) (u : List ℕ) (x : TreePath) (a : tree.PatternAt applied) → IsReadable files n a
      → Reads files u x a (read_at files n u x a).0 (read_at files n u x a).1
  read_sound n = read_with_sound n (read_below files n) (external_sound n)

  -- readable patterns read as the plain results
  pub read_all_sound : (n : ℕ) (u : List ℕ) (x : TreePath) (k : ℕ) (all : tree.PatternsAt applied) → AreFollowed files n (mentions_of_patterns all)
      → ReadAll files u x k all (read_all_at files n u x k all).0 (read_all_at files n u x k all).1
  read_all_sound n = read_all_with_sound n (read_below files n) (external_sound n)

  included_of : (n : ℕ) (below : Gatherer) → GathererSound n below → (m : tree.Mention applied) (t : FileTree) (is : tree.ComponentsAt applied)
      → files m.href ≡ Some t → grammar_components t ≡ Some is → AreReadable files n is → IncludedAre below m
  unfolding included_with
  included_of n below sound m t is e g all =
      let found = ap grammar_if e ∙ g in
      (t, is, e, g, λ v x. subst (λ o. Gathers files v (0 ∷ x) 0 is (included_with below v x o)) (sym found) (sound v (0 ∷ x) 0 is all))

  include_sound : (n : ℕ) → IncludeSound n (gather_below files n)
  unfolding IsFollowed gather_below
  include_sound zero m over f = absurd f
  include_sound (suc n) m over f =
      let below = gather_with files (read_at files n) (gather_below files n) in
      included_of n below (gather_with_sound n (read_at files n) (gather_below files n) (read_sound n) (include_sound n)) m f.0 f.2.0 f.1 f.2.1
      (subst (AreFollowed files n) (sym (grammar_mentions f.0 f.2.0 f.2.1)) f.3)

  -- readable components are gathered as the plain result
  pub gather_sound : (n : ℕ) (u : List ℕ) (x : TreePath) (k : ℕ) (cs : tree.ComponentsAt applied) → AreReadable files n cs
      → Gathers files u x k cs (gather_at files n u x k cs)
  gather_sound n = gather_with_sound n (read_at files n) (gather_below files n) (read_sound n) (include_sound n)

  -- if a level is left, a mention of a pattern is read with one level less
  pub read_step : (n : ℕ) → 0 < n → read_below files n ≡ read_at files (n - 1)
  unfolding read_below
  read_step zero l = absurd (omega (arith, l))
  read_step (suc n) l = let e : suc n - 1 ≡ n = omega arith in ap (read_at files) (sym e)

  -- and an include is gathered with one level less
  pub gather_step : (n : ℕ) → 0 < n → gather_below files n ≡ gather_at files (n - 1)
  unfolding gather_below
  gather_step zero l = absurd (omega (arith, l))
  gather_step (suc n) l = let e : suc n - 1 ≡ n = omega arith in ap (gather_at files) (sym e)

  -- ---- what is nested

  followed_more : (n : ℕ) (m : MentionedFile) → IsFollowed files n m → IsFollowed files (suc n) m
  unfolding IsFollowed
  followed_more zero m f = absurd f
  followed_more (suc n) m f = (f.0, f.1, f.2, λ k i. followed_more n k (f.3 k i))

  all_more : (n : ℕ) (ms : List MentionedFile) → AreFollowed files n ms → AreFollowed files (suc n) ms
  all_more n ms a m i = followed_more n m (a m i)

  -- the file of a mention that can be followed
  pub record Follows (n : ℕ) (m : MentionedFile) (t : FileTree) : Type 0 where
    pub less : ℕ
    pub is : n ≡ suc less
    pub all : AreFollowed files less (mentions_of t)

  same_file : {o : Option FileTree} {s t : FileTree} → o ≡ Some s → o ≡ Some t → s ≡ t
  same_file e f = cc

  pub follows : (n : ℕ) (m : MentionedFile) (t : FileTree) → files (mention_of m).href ≡ Some t → IsFollowed files n m → Follows n m t
  unfolding IsFollowed
  follows zero m t e f = absurd f
  follows (suc n) m t e f = record { less = n; is = refl; all = subst (λ t. AreFollowed files n (mentions_of t)) (same_file f.1 e) f.3 }

  -- the grammars are readable
  abbrev pub NestedReadable : ℕ → List Nested → Type 0
  NestedReadable n gs = (g : Nested) → Among g gs → AreReadable files n g.components

  nested_more : (n k : ℕ) (gs : List Nested) → n ≡ suc k → NestedReadable k gs → NestedReadable n gs
  nested_more n k gs e r g i = subst (λ n. AreReadable files n g.components) (sym e) (all_more k (mentions_of_components g.components) (r g i))

  none_nested : (n : ℕ) → NestedReadable n []
  none_nested n g i = absurd (in_none i)

  one_nested : (n : ℕ) (g : Nested) → AreReadable files n g.components → NestedReadable n (g ∷ [])
  one_nested n g r h i = elim (in_cons i) [ inl e ↦ subst (λ h. AreReadable files n h.components) (sym e) r | inr j ↦ absurd (in_none j) ]

  both_nested : (n : ℕ) (gs hs : List Nested) → NestedReadable n gs → NestedReadable n hs → NestedReadable n (gs ++ hs)
  both_nested n gs hs r s g i = elim (in_either gs i) [ inl j ↦ r g j | inr j ↦ s g j ]

  mutual
    -- the grammars that are nested in a readable pattern are readable
    pub nested_readable : {u : List ℕ} {x : TreePath} {a : tree.PatternAt applied} {p : Pattern} {gs : List Nested} → Reads files u x a p gs → (n : ℕ)
        → IsReadable files n a → NestedReadable n gs
    nested_readable (element_is d) n r = nested_readable d n r
    nested_readable (attribute_is d) n r = nested_readable d n r
    nested_readable (list_is d) n r = nested_readable d n r
    nested_readable (mixed_is d) n r = nested_readable d n r
    nested_readable (optional_is d) n r = nested_readable d n r
    nested_readable (zero_or_more_is d) n r = nested_readable d n r
    nested_readable (one_or_more_is d) n r = nested_readable d n r
    nested_readable ref_is n r = none_nested n
    nested_readable parent_ref_is n r = none_nested n
    nested_readable empty_is n r = none_nested n
    nested_readable text_is n r = none_nested n
    nested_readable not_allowed_is n r = none_nested n
    nested_readable value_is n r = none_nested n
    nested_readable data_is n r = none_nested n
    nested_readable (except_is d) n r = nested_readable d n r
    nested_readable (grammar_is {u} {x} {cs}) n r = one_nested n (record { place = x; uri = u; components = cs }) r
    nested_readable (pattern_file_is {m = m} {a} {gs = gs} f d) n r =
        let file = follows n (external_file m) (pattern_file a) f (r (external_file m) here) in
        nested_more n file.less gs file.is (nested_readable d file.less file.all)
    nested_readable (grammar_file_is {u} {x} {m} {cs} f) n r =
        let file = follows n (external_file m) (grammar_file cs) f (r (external_file m) here) in
        let g : Nested = record { place = x; uri = uri_in u m.inherit; components = cs } in
        nested_more n file.less (g ∷ []) file.is (one_nested file.less g file.all)
    nested_readable (joined_is d) n r = all_nested_readable d n r

    all_nested_readable : {u : List ℕ} {x : TreePath} {k : ℕ} {all : tree.PatternsAt applied} {ps : List Pattern} {gs : List Nested}
        → ReadAll files u x k all ps gs → (n : ℕ) → AreFollowed files n (mentions_of_patterns all) → NestedReadable n gs
    all_nested_readable none_are n r = none_nested n
    all_nested_readable (more_are {a = a} {all} {gs = gs} {hs} d ds e) n r =
        let one = nested_readable d n (followed_left n (mentions_of_pattern a) (mentions_of_patterns all) r) in
        let rest = all_nested_readable ds n (followed_right n (mentions_of_pattern a) (mentions_of_patterns all) r) in
        subst (NestedReadable n) (sym e) (both_nested n gs hs one rest)

  -- the grammars that are nested in the components are readable
  abbrev pub GatheredReadable : ℕ → List Gathered → Type 0
  GatheredReadable n all = (g : Gathered) → Among g all → NestedReadable n g.nested

  gathered_more : (n k : ℕ) (all : List Gathered) → n ≡ suc k → GatheredReadable k all → GatheredReadable n all
  gathered_more n k all e r g i = nested_more n k g.nested e (r g i)

  one_gathered : (n : ℕ) (g : Gathered) (all : List Gathered) → NestedReadable n g.nested → GatheredReadable n all → GatheredReadable n (g ∷ all)
  one_gathered n g all r s h i = elim (in_cons i) [ inl e ↦ subst (λ h. NestedReadable n h.nested) (sym e) r | inr j ↦ s h j ]

  both_gathered : (n : ℕ) (gs hs : List Gathered) → GatheredReadable n gs → GatheredReadable n hs → GatheredReadable n (gs ++ hs)
  both_gathered n gs hs r s g i = elim (in_either gs i) [ inl j ↦ r g j | inr j ↦ s g j ]

  kept : (test : Gathered → Bool) (b : Bool) (g h : Gathered) (gs : List Gathered) → (Among h (filter test gs) → Among h gs)
      → Among h (cond b (g ∷ filter test gs) (filter test gs)) → Among h (g ∷ gs)
  kept test true g h gs ih i = elim (in_cons i) [ inl e ↦ in_first gs e | inr j ↦ there (ih j) ]
  kept test false g h gs ih i = there (ih i)

  in_filtered : (test : Gathered → Bool) (h : Gathered) (gs : List Gathered) → Among h (filter test gs) → Among h gs
  in_filtered test h [] i = i
  in_filtered test h (g ∷ gs) i = kept test (test g) g h gs (in_filtered test h gs) i

  -- the grammars that are nested in readable components are readable
  pub gathered_readable : {u : List ℕ} {x : TreePath} {k : ℕ} {cs : tree.ComponentsAt applied} {all : List Gathered} → Gathers files u x k cs all → (n : ℕ)
      → AreReadable files n cs → GatheredReadable n all
  gathered_readable nothing n r = λ g i. absurd (in_none i)
  gathered_readable (a_start {a = a} {cs} {rest = rest} d ds) n r =
      let one = nested_readable d n (followed_left n (mentions_of_pattern a) (mentions_of_components cs) r) in
      one_gathered n _ rest one (gathered_readable ds n (followed_right n (mentions_of_pattern a) (mentions_of_components cs) r))
  gathered_readable (a_define {a = a} {cs} {rest = rest} d ds) n r =
      let one = nested_readable d n (followed_left n (mentions_of_pattern a) (mentions_of_components cs) r) in
      one_gathered n _ rest one (gathered_readable ds n (followed_right n (mentions_of_pattern a) (mentions_of_components cs) r))
  gathered_readable (a_div {is = is} {cs} {inner} {rest} d ds e) n r =
      let one = gathered_readable d n (followed_left n (mentions_of_components is) (mentions_of_components cs) r) in
      let more = gathered_readable ds n (followed_right n (mentions_of_components is) (mentions_of_components cs) r) in
      subst (GatheredReadable n) (sym e) (both_gathered n inner rest one more)
  gathered_readable (an_include {m = m} {over} {cs} {is} {f} {included} {overriding} {rest} e g d o ds w) n r =
      let file = follows n (included_file m over) f e (r (included_file m over) here) in
      let readable = subst (AreFollowed files file.less) (sym (grammar_mentions f is g)) file.all in
      let of_file = gathered_more n file.less included file.is (gathered_readable d file.less readable) in
      let braces = gathered_readable o n (followed_left n (mentions_of_components over) (mentions_of_components cs) (λ k i. r k (there i))) in
      let more = gathered_readable ds n (followed_right n (mentions_of_components over) (mentions_of_components cs) (λ k i. r k (there i))) in
      let test = λ (g : Gathered). not (is_overridden overriding g) in
      let left : GatheredReadable n (filter test included) = λ h i. of_file h (in_filtered test h included i) in
      subst (GatheredReadable n) (sym w)
      (both_gathered n (filter test included ++ overriding) rest (both_gathered n (filter test included) overriding left braces) more)

  -- if the components of the main file are readable, so are those of each grammar
  pub grammars_readable : {main : FileTree} {x : Place} {o : Option Place} {u : List ℕ} {cs : tree.ComponentsAt applied} → HasGrammar files main x o u cs
      → (n : ℕ) → AreReadable files n (main_grammar main) → AreReadable files n cs
  grammars_readable (main_is e) n r = subst (AreReadable files n) (sym e) r
  grammars_readable (nested_is {g = g} {n = nested} h d i j) n r = gathered_readable d n (grammars_readable h n r) g i nested j

-- ---- files that keep their rules

only_that : {n : MentionedFile} (ms : List MentionedFile) → Among n (ms ++ []) → Among n ms
only_that ms i = elim (in_either ms i) [ inl j ↦ j | inr j ↦ absurd (in_none j) ]

-- the main file mentions everything that its grammar mentions
pub main_mentions : (t : FileTree) (m : MentionedFile) → Among m (mentions_of_components (main_grammar t)) → Among m (mentions_of t)
main_mentions (grammar_file cs) m i = i
main_mentions (pattern_file p) m i = by_whole (whole_grammar p) refl i where
  by_whole : (o : Option (tree.ComponentsAt applied)) → whole_grammar p ≡ o → Among m (mentions_of_components (grammar_or_start p o))
      → Among m (mentions_of_pattern p)
  by_whole None e i = only_that (mentions_of_pattern p) i
  by_whole (Some cs) e i = subst (Among m) (whole_mentions p cs e) i

found_first : (f : FileName) (t : FileTree) (x : FileName × FileTree) (read : TakenFiles) (b : Bool) → cond b (Some x.1) (tree_in read f) ≡ Some t
    → (tree_in read f ≡ Some t → (file : FileName × FileTree) × Among file read × (file.1 ≡ t)) → (file : FileName × FileTree) × Among file (x ∷ read) × (file.1 ≡ t)
found_first f t x read true e ih = let s : x.1 ≡ t = cc in (x, here, s)
found_first f t x read false e ih = let r = ih e in (r.0, there r.1, r.2)

-- a file that is found is one of those that were read
pub found_among : (read : TakenFiles) (f : FileName) (t : FileTree) → tree_in read f ≡ Some t → (file : FileName × FileTree) × Among file read × (file.1 ≡ t)
found_among [] f t e = absurd cc
found_among (x ∷ read) f t e = found_first f t x read (bytes_eq f x.0) e (found_among read f t)

module _ (read : TakenFiles) where
  -- each name that one of the files mentions is that of one of them
  abbrev pub AreClosed : Type 0
  AreClosed = (f g : FileName) → Among g (hrefs_in read f) → (t : FileTree) × (tree_in read g ≡ Some t)

  module _ (closed : AreClosed) (kept : ¬ (BreaksIncludes read)) where
    in_mentions : (f : FileName) (t : FileTree) (m : MentionedFile) → tree_in read f ≡ Some t → Among m (mentions_of t)
        → Among (mention_of m).href (hrefs_in read f)
    in_mentions f t m e i = subst (λ o. Among (mention_of m).href (hrefs_if o)) (sym e) (among_mapped (λ m. (mention_of m).href) i)

    serves : (f : FileName) (t s : FileTree) (m : MentionedFile) → tree_in read f ≡ Some t → Among m (mentions_of t) → tree_in read (mention_of m).href ≡ Some s
        → Serves (tree_in read) s m
    serves f t s (external_file m) e i g = tt
    serves f t s (included_file m over) e i g = by_grammar (grammar_components s) refl where
      broken : grammar_components s ≡ None → BreaksIncludes read
      broken n =
          let file = found_among read f t e in
          (file.0, file.1, (included_file m over, subst (λ t. Among (included_file m over) (mentions_of t)) (sym file.2) i, no_grammar g n))

      by_grammar : (o : Option (tree.ComponentsAt applied)) → grammar_components s ≡ o → (is : tree.ComponentsAt applied) × (grammar_components s ≡ Some is)
      by_grammar None n = absurd (kept (broken n))
      by_grammar (Some is) n = (is, n)

    -- if a file has no path of n steps, each of its mentions can be followed for n levels
    pub all_followed : (n : ℕ) (f : FileName) (t : FileTree) → tree_in read f ≡ Some t → ¬ (IsLong (hrefs_in read) n f)
        → AreFollowed (tree_in read) n (mentions_of t)
    unfolding IsFollowed
    all_followed zero f t e short m i = absurd (short (long_end refl))
    all_followed (suc n) f t e short m i =
        let mentioned = in_mentions f t m e i in
        let file = closed f (mention_of m).href mentioned in
        let rest = all_followed n (mention_of m).href file.0 file.1 (λ long. short (long_more mentioned long refl)) in
        (file.0, file.1, serves f t file.0 m e i file.1, rest)

    module _ (main : FileName) (t : FileTree) (there_is : tree_in read main ≡ Some t) (paths : ¬ (BreaksMentions (hrefs_in read) main)) where
      -- the components of the main file are readable
      pub main_readable : AreReadable (tree_in read) path_limit (main_grammar t)
      main_readable m i =
          all_followed path_limit main t there_is (λ long. paths (breaks_here (hrefs_in read) (long_breaks (hrefs_in read) long))) m (main_mentions t m i)

      -- and so are those of each grammar at a place
      pub all_readable : {x : Place} {o : Option Place} {u : List ℕ} {cs : tree.ComponentsAt applied} → HasGrammar (tree_in read) t x o u cs
          → AreReadable (tree_in read) path_limit cs
      all_readable h = grammars_readable (tree_in read) h path_limit main_readable
