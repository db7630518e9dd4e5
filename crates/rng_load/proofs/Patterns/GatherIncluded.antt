-- The components of an included file.
use Rattle.std.proofs.Common.{◌≡◌, ◌∙◌, refl, sym, subst, ap, ℕ, zero, suc, ◌-◌, ◌<◌, List, ◌∷◌, map, Option, None, Some, arith, rules, Box, Global, Vec}
use Rattle.rnc_model.specs.grammar.Syntax as tree
use Rattle.rnc_model.specs.grammar.Syntax.{applied, components_of}
use Rattle.rnc_model.specs.declarations.FileTree.{FileTree}
use Rattle.rnc_model.specs.loading.Places.{TreePath}
use Rattle.rnc_grammar.specs.declared.file_tree.Component.{Component, the_lemmas as tree_lemmas}
use Rattle.rnc_grammar.specs.declared.file_tree.Component.TheVariants as trees
use Rattle.rnc_grammar.specs.declared.file_tree.Mention.{Mention}
use Rattle.rnc_grammar.specs.views.View.{component_of, mention_of}
use Rattle.rng_load.specs.plain.PlainReading.{included_with, gather_at, gather_below, gather_with}

pub include_tree : (m : Box Mention Global) (over : Vec Component Global)
    → component_of (trees.Include m over) ≡ tree.include (mention_of m.value) (components_of (map component_of over.items))
include_tree m over = search (rules, tree_lemmas)

module _ (files : List ℕ → Option FileTree) where
  one_level_less : (levels : ℕ) (v : List ℕ) (x : TreePath) (k : ℕ) (cs : tree.ComponentsAt applied) → 0 < levels
      → gather_below files levels v x k cs ≡ gather_at files (levels - 1) v x k cs
  unfolding gather_below
  one_level_less zero v x k cs l = absurd (omega (arith, l))
  one_level_less (suc n) v x k cs l =
      let e : suc n - 1 ≡ n = omega arith in
      ap (λ m. gather_at files m v x k cs) (sym e)

  -- they are gathered one level further down
  pub file_gathered : (levels : ℕ) (u v : List ℕ) (x : TreePath) (o : Option (tree.ComponentsAt applied)) (cs : tree.ComponentsAt applied) → 0 < levels
      → Some cs ≡ o → u ≡ v → included_with (gather_below files levels) v x o ≡ gather_at files (levels - 1) u (0 ∷ x) 0 cs
  unfolding included_with
  file_gathered levels u v x o cs l is same =
      subst (λ o. included_with (gather_below files levels) v x o ≡ gather_at files (levels - 1) u (0 ∷ x) 0 cs) is
      (one_level_less levels v (0 ∷ x) 0 cs l ∙ ap (λ w. gather_at files (levels - 1) w (0 ∷ x) 0 cs) (sym same))

  -- there are none if the file is no grammar
  pub no_grammar : (n levels : ℕ) (u v : List ℕ) (x : TreePath) (o : Option (tree.ComponentsAt applied)) → None ≡ o
      → gather_at files n u (0 ∷ x) 0 tree.no_components ≡ included_with (gather_below files levels) v x o
  unfolding included_with gather_with
  no_grammar n levels u v x o e = ap (included_with (gather_below files levels) v x) e

  -- or if no level is left
  pub no_level : (n levels : ℕ) (u v : List ℕ) (x : TreePath) (o : Option (tree.ComponentsAt applied)) → levels ≡ 0
      → gather_at files n u (0 ∷ x) 0 tree.no_components ≡ included_with (gather_below files levels) v x o
  unfolding included_with gather_with gather_below
  no_level n levels u v x None e = refl
  no_level n levels u v x (Some is) e = ap (λ k. gather_below files k v (0 ∷ x) 0 is) (sym e)
