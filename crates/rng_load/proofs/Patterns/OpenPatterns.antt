-- Open patterns finished child by child.
use Rattle.std.proofs.Common.{◌≡◌, ◌∙◌, refl, sym, ap, ap₂, ℕ, suc, ◌+◌, ◌<◌, ◌≤◌, List, [], ◌∷◌, ◌++◌, length, map, reverse, drop, get_or, append_assoc}
use Rattle.std.proofs.Common.{Option, Some, None, IsSome, option_to_list, false, true, arith}
use Rattle.std.proofs.lemmas.List.{append-nil, drop-map, drop_all, drop_more, map_push, reverse-append, reverse-reverse}
use Rattle.rng_model.specs.declared.schema_pattern.SchemaRow.{SchemaRow}
use Rattle.rng_model.specs.declared.schema_pattern.SchemaRow.TheVariants as row
use Rattle.rng_model.specs.schema.Patterns.{Pattern}
use Rattle.rng_model.specs.schema.Patterns as pattern
use Rattle.rng_model.specs.views.SchemaView.{child, patterns_in, row_arity, row_pattern, with_row}
use Rattle.rng_model.proofs.ReplacedLists.{with_children}
use Rattle.rng_model.proofs.SchemaRows.{leaf_put, put_around}
use Rattle.rnc_model.specs.grammar.Syntax as tree
use Rattle.rnc_model.specs.grammar.Syntax.{applied, patterns_of}
use Rattle.rnc_model.specs.loading.Places.{TreePath, Nested}
use Rattle.rng_load.specs.plain.OpenPatterns.{Files, Made, Open, finished, left_at, with_read}
use Rattle.rng_load.specs.plain.PlainReading.{read_all_at, read_all_with, read_at}

-- ---- stacks

pub reverse_push : {A : Type 0} (xs : List A) (x : A) → reverse (xs ++ x ∷ []) ≡ x ∷ reverse xs
reverse_push xs x = reverse-append xs (x ∷ [])

pub reverse_pushed : {A : Type 0} (xs ys : List A) (x : A) → ys ≡ xs ++ x ∷ [] → reverse ys ≡ x ∷ reverse xs
reverse_pushed xs ys x e = ap reverse e ∙ reverse_push xs x

-- views of a stack, the last first
pub views_pushed : {A B : Type 0} (f : A → B) (xs ys : List A) (x : A) → ys ≡ xs ++ x ∷ [] → reverse (map f ys) ≡ f x ∷ reverse (map f xs)
views_pushed f xs ys x e = ap (λ zs. reverse (map f zs)) e ∙ ap reverse (map_push f xs x) ∙ reverse_push (map f xs) (f x)

-- ---- children

module _ {A B : Type 0} (f : A → B) (ps : List A) (i : ℕ) where
  pub child_there : (p : A) → i < length ps → p ≡ get_or ps i p → drop i (map f ps) ≡ f p ∷ drop (i + 1) (map f ps)
  child_there p h e =
      let next : drop i ps ≡ p ∷ drop (i + 1) ps = drop_more ps i p h ∙ ap (λ y. y ∷ drop (i + 1) ps) (sym e) in
      drop-map f i ps ∙ ap (map f) next ∙ ap (λ qs. f p ∷ qs) (sym (drop-map f (i + 1) ps))

  pub child_past : length ps ≤ i → drop i (map f ps) ≡ []
  child_past h = drop-map f i ps ∙ ap (map f) (drop_all i ps h)

-- the way to the parent
pub way_popped : (o : Option ℕ) (old new : List ℕ) (n : ℕ) → old ≡ new ++ option_to_list o → (0 < n → IsSome o) → n ≡ length old
    → reverse new ≡ drop 1 (reverse old)
way_popped (Some k) old new n e some long = sym (ap (drop 1) (reverse_pushed new old k e))
way_popped None old new n e some long =
    let none : old ≡ [] = is_none old long in
    let same : new ≡ [] = sym (append-nil new) ∙ sym e ∙ none in
    ap reverse same ∙ sym (ap (λ xs. drop 1 (reverse xs)) none) where
      is_none : (xs : List ℕ) → n ≡ length xs → xs ≡ []
      is_none [] l = refl
      is_none (x ∷ xs) l = let h : false ≡ true = some (omega (arith, l)) in absurd cc

pub same_way : {xs ys : List ℕ} → reverse xs ≡ reverse ys → xs ≡ ys
same_way {xs} {ys} e = sym (reverse-reverse xs) ∙ ap reverse e ∙ reverse-reverse ys

-- ---- rows

pub no_more : (gs : List Nested) → gs ++ [] ≡ gs
no_more gs = append-nil gs

pub leaf_made : (rows more : List SchemaRow) (r : SchemaRow) (gs : List Nested) → more ≡ rows ++ r ∷ [] → row_arity r ≡ 0
    → (patterns_in more, gs) ≡ with_read (patterns_in rows, gs) (row_pattern r [], [])
leaf_made rows more r gs e none = ap₂ (λ ps hs. (ps, hs)) (leaf_put rows more r e none) (sym (append-nil gs))

pub external_made : (rows more most : List SchemaRow) (r : SchemaRow) (gs : List Nested) → more ≡ rows ++ r ∷ [] → most ≡ more ++ row.External ∷ []
    → row_arity r ≡ 0 → (patterns_in most, gs) ≡ with_read (patterns_in rows, gs) (pattern.external (row_pattern r []), [])
external_made rows more most r gs e f none =
    ap₂ (λ ps hs. (ps, hs)) (put_around more most row.External (patterns_in rows) (row_pattern r [] ∷ []) f (leaf_put rows more r e none) refl)
    (sym (append-nil gs))

-- ---- open patterns

module _ (files : Files) where
  all_read : (levels : ℕ) (u : List ℕ) (x : TreePath) (n : ℕ) (ps : List (tree.PatternAt applied))
      → length ps ≡ length (read_all_at files levels u x n (patterns_of ps)).0
  unfolding read_all_with
  all_read levels u x n [] = refl
  all_read levels u x n (p ∷ ps) = ap suc (all_read levels u x (n + 1) ps)

  -- no child is left
  pub ends : (o : Open) (os : List Open) (x : TreePath) (s : Made) → o.left ≡ []
      → finished files os (drop 1 x) (with_row s.0 o.row, s.1) ≡ finished files (o ∷ os) x s
  unfolding finished read_all_with
  ends o os x s e =
      let y = drop 1 x in
      let none : left_at files y o ≡ ([], []) = ap (λ ps. read_all_at files o.levels o.uri y o.number (patterns_of ps)) e in
      ap₂ (λ ps gs. finished files os y (with_row ps o.row, gs)) (sym (append-nil s.0)) (sym (append-nil s.1))
      ∙ ap (λ r. finished files os y (with_row (s.0 ++ r.0) o.row, s.1 ++ r.1)) (sym none)

  -- the next child is read
  pub goes_on : (row : SchemaRow) (levels : ℕ) (u : List ℕ) (n : ℕ) (p : tree.PatternAt applied) (ps : List (tree.PatternAt applied)) (os : List Open)
      (x : TreePath) (s : Made) → finished files (record { row = row; levels = levels; uri = u; number = n + 1; left = ps } ∷ os) (n ∷ drop 1 x)
      (with_read s (read_at files levels u (n ∷ drop 1 x) p))
      ≡ finished files (record { row = row; levels = levels; uri = u; number = n; left = p ∷ ps } ∷ os) x s
  unfolding finished read_all_with
  goes_on row levels u n p ps os x s =
      let y = drop 1 x in
      let r = read_at files levels u (n ∷ y) p in
      let rest = read_all_at files levels u y (n + 1) (patterns_of ps) in
      ap₂ (λ qs gs. finished files os y (with_row qs row, gs)) (append_assoc s.0 (r.0 ∷ []) rest.0) (append_assoc s.1 r.1 rest.1)

  -- a pattern around children that are not read yet
  pub opened : (o : Open) (os : List Open) (x : TreePath) (s : Made) → row_arity o.row ≡ length o.left
      → finished files (o ∷ os) (0 ∷ x) s ≡ finished files os x (with_read s (row_pattern o.row (left_at files x o).0, (left_at files x o).1))
  unfolding finished
  opened o os x s fits =
      let r = left_at files x o in
      ap (λ ps. finished files os x (ps, s.1 ++ r.1)) (with_children (row_arity o.row) (row_pattern o.row) s.0 r.0
      (fits ∙ all_read o.levels o.uri x o.number o.left))

  -- no pattern is open yet
  pub starts : (os : List Open) (x : TreePath) (s : Made) (r : Pattern × List Nested) → os ≡ [] → s ≡ ([], [])
      → finished files os x (with_read s r) ≡ ((r.0 ∷ [], r.1), x)
  unfolding finished
  starts os x s r none nothing = ap₂ (λ os s. finished files os x (with_read s r)) none nothing

  -- no pattern is open any more
  module _ (os : List Open) (x y : TreePath) (s : Made) (r : Pattern × List Nested) (none : os ≡ [])
      (same : finished files os x s ≡ ((r.0 ∷ [], r.1), y)) where
    all_made : ◌≡◌ {A = Made × TreePath} (s, x) ((r.0 ∷ [], r.1), y)
    unfolding finished
    all_made = ap (λ os. finished files os x s) (sym none) ∙ same

    pub is_read : ◌≡◌ {A = Pattern × List Nested} (child s.0, s.1) r
    is_read = ap (λ w. (child w.0.0, w.0.1)) all_made

    pub way_back : x ≡ y
    way_back = ap (λ w. w.1) all_made
