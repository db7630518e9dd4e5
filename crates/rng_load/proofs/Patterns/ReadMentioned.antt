-- The pattern of a mentioned file, and datatypes with what they exclude.
use Rattle.std.proofs.Common.{◌≡◌, ◌∙◌, sym, subst, ap, ℕ, zero, suc, ◌-◌, ◌<◌, List, ◌∷◌, Option, Some, None, option_map, arith, rules, Box, Global}
use Rattle.std.proofs.lemmas.List.{append-nil}
use Rattle.rng_model.specs.schema.Patterns as pattern
use Rattle.rng_model.specs.views.SchemaView.{child}
use Rattle.rnc_model.specs.grammar.Syntax as tree
use Rattle.rnc_model.specs.grammar.Syntax.{applied}
use Rattle.rnc_model.specs.declarations.FileTree.{FileTree, pattern_file}
use Rattle.rnc_model.specs.loading.Places.{TreePath}
use Rattle.rnc_grammar.specs.declared.file_tree.Component.{the_lemmas as tree_lemmas}
use Rattle.rnc_grammar.specs.declared.file_tree.Datatype.{Datatype}
use Rattle.rnc_grammar.specs.declared.file_tree.Pattern.{Pattern}
use Rattle.rnc_grammar.specs.declared.file_tree.Pattern.TheVariants as trees
use Rattle.rnc_grammar.specs.views.View.{data_of, pattern_of}
use Rattle.rng_load.specs.plain.PlainReading.{external_with, read_all_at, read_all_with, read_at, read_below, within}

pub data_tree : (d : Box Datatype Global) (e : Option (Box Pattern Global))
    → pattern_of (trees.Data d e) ≡ data_of d.value (option_map (λ p. pattern_of p.value) e)
data_tree d None = search (rules, tree_lemmas)
data_tree d (Some b) = search (rules, tree_lemmas)

module _ (files : List ℕ → Option FileTree) where
  one_level_less : (levels : ℕ) (v : List ℕ) (x : TreePath) (a : tree.PatternAt applied) → 0 < levels
      → read_below files levels v x a ≡ read_at files (levels - 1) v x a
  unfolding read_below
  one_level_less zero v x a l = absurd (omega (arith, l))
  one_level_less (suc n) v x a l =
      let e : suc n - 1 ≡ n = omega arith in
      ap (λ k. read_at files k v x a) (sym e)

  -- it is read one level further down
  file_read : (levels : ℕ) (u v : List ℕ) (x : TreePath) (o : Option FileTree) (a : tree.PatternAt applied) → 0 < levels → Some (pattern_file a) ≡ o → u ≡ v
      → external_with (read_below files levels) v x o ≡ within pattern.external (read_at files (levels - 1) u (0 ∷ x) a)
  unfolding external_with
  file_read levels u v x o a l is same =
      subst (λ o. external_with (read_below files levels) v x o ≡ within pattern.external (read_at files (levels - 1) u (0 ∷ x) a)) is
      (ap (within pattern.external) (one_level_less levels v (0 ∷ x) a l ∙ ap (λ w. read_at files (levels - 1) w (0 ∷ x) a) (sym same)))

  -- as the only child
  pub file_opened : (levels : ℕ) (u v : List ℕ) (x : TreePath) (o : Option FileTree) (a : tree.PatternAt applied) → 0 < levels → Some (pattern_file a) ≡ o → u ≡ v
      → (
        pattern.external (child (read_all_at files (levels - 1) u x 0 (tree.pattern_and a tree.no_patterns)).0),
        (read_all_at files (levels - 1) u x 0 (tree.pattern_and a tree.no_patterns)).1,
      ) ≡ external_with (read_below files levels) v x o
  unfolding read_all_with
  file_opened levels u v x o a l is same =
      let r = read_at files (levels - 1) u (0 ∷ x) a in
      ap (λ gs. (pattern.external r.0, gs)) (append-nil r.1) ∙ sym (file_read levels u v x o a l is same)
