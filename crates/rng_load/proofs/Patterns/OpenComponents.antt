-- Open lists of components gathered component by component.
use Rattle.std.proofs.Common.{◌≡◌, ◌∙◌, refl, sym, ap, ap₂, ℕ, ◌+◌, List, [], ◌∷◌, ◌++◌, drop, append_assoc}
use Rattle.std.proofs.lemmas.List.{append-nil}
use Rattle.rnc_model.specs.grammar.Syntax as tree
use Rattle.rnc_model.specs.grammar.Syntax.{applied, components_of}
use Rattle.rnc_model.specs.loading.Places.{TreePath, Gathered}
use Rattle.rnc_model.specs.loading.FileGrammars.{grammar_if}
use Rattle.rnc_model.specs.loading.Places.{uri_in}
use Rattle.rng_load.specs.plain.OpenComponents.{AtEnd, Files, Gathering, OpenList, after_end, braces, components_at, gathered_at_end, with_list}
use Rattle.rng_load.specs.plain.PlainReading.{gather_at, gather_below, gather_one_at, gather_with, included_with, replaced_by}

module _ (files : Files) where
  -- a list is opened
  pub opened : (o : OpenList) (os : List OpenList) (x : TreePath) (s : List Gathered)
      → gathered_at_end files (o ∷ os) (s, 0 ∷ x) ≡ gathered_at_end files os (with_list files o (s, x))
  unfolding gathered_at_end
  opened o os x s = refl

  -- no component is left
  pub ends : (o : OpenList) (os : List OpenList) (x : TreePath) (s : List Gathered) → o.left ≡ []
      → gathered_at_end files os (after_end files o.at_end (s, drop 1 x)) ≡ gathered_at_end files (o ∷ os) (s, x)
  unfolding gathered_at_end gather_with
  ends o os x s e =
      let y = drop 1 x in
      let none : s ++ gather_at files o.levels o.uri y o.number (components_of o.left) ≡ s =
      ap (λ cs. s ++ gather_at files o.levels o.uri y o.number (components_of cs)) e ∙ append-nil s in
      ap (λ g. gathered_at_end files os (after_end files o.at_end (g, y))) (sym none)

  -- the next component is gathered
  pub goes_on : (levels : ℕ) (u : List ℕ) (n : ℕ) (c : tree.ComponentAt applied) (cs : List (tree.ComponentAt applied)) (end : AtEnd) (os : List OpenList)
      (x : TreePath)
      (s : List Gathered) → gathered_at_end files (record { levels = levels; uri = u; number = n + 1; left = cs; at_end = end } ∷ os)
      (s ++ gather_one_at files levels u (n ∷ drop 1 x) c, n ∷ drop 1 x)
      ≡ gathered_at_end files (record { levels = levels; uri = u; number = n; left = c ∷ cs; at_end = end } ∷ os) (s, x)
  unfolding gathered_at_end gather_with
  goes_on levels u n c cs end os x s =
      let y = drop 1 x in
      let rest = gather_at files levels u y (n + 1) (components_of cs) in
      ap (λ g. gathered_at_end files os (after_end files end (g, y))) (append_assoc s (gather_one_at files levels u (n ∷ y) c) rest)

  -- an include: its file, and its braces at the end of that
  pub include_opened : (o : OpenList) (levels : ℕ) (u : List ℕ) (m : tree.Mention applied) (over : List (tree.ComponentAt applied)) (before s : List Gathered)
      (x y : TreePath) → s ≡ [] → y ≡ 0 ∷ x → o.at_end ≡ braces before levels u over
      → components_at files (0 ∷ x) o ≡ included_with (gather_below files levels) (uri_in u m.inherit) x (grammar_if (files m.href))
      → with_list files o (s, y) ≡ (before ++ gather_one_at files levels u x (tree.include m (components_of over)), x)
  unfolding gather_with
  include_opened o levels u m over before s x y none here end is =
      let file = components_at files (0 ∷ x) o in
      ap₂ (λ g z. after_end files o.at_end (g ++ components_at files z o, z)) none here ∙ ap (λ e. after_end files e (file, 0 ∷ x)) end
      ∙ ap (λ g. (before ++ replaced_by g (gather_at files levels u (1 ∷ x) 0 (components_of over)), x)) is

  -- no list is open
  pub none_open : (os : List OpenList) (s : Gathering) → os ≡ [] → gathered_at_end files os s ≡ s
  unfolding gathered_at_end
  none_open os s none = ap (λ os. gathered_at_end files os s) none

  -- no list is open any more
  pub all_gathered : (os : List OpenList) (s t : Gathering) → os ≡ [] → gathered_at_end files os s ≡ t → s ≡ t
  all_gathered os s t none same = sym (none_open os s none) ∙ same
