-- A file with a number of paths is in no cycle of mentions, and no more paths are found at any depth.
use Rattle.std.proofs.Common.{◌≡◌, refl, sym, subst, ap, ◌∙◌, ℕ, zero, suc, ◌+◌, ◌<◌, ◌≤◌, List, [], ◌∷◌, ◌++◌, length, map, arith, inl, inr}
use Rattle.std.proofs.lemmas.List.{length-append, length-map}
use Rattle.rng_model.specs.names.Lists.{Among, here, there}
use Rattle.rnc_model.specs.loading.Mentions.{Path, Mentions, directly, through, IsCyclic, path_limit}
use Rattle.rnc_model.specs.loading.SchemaFile.{FileName}
use Rattle.rng_load.specs.plain.Counting.{paths, paths_along, Breaks, HasPaths, has, HavePaths, have_none, have_more, IsLong, long_end, long_more}
use Rattle.rng_load.proofs.NameLists.{in_none}

-- a sum over names
abbrev pub total : (FileName → ℕ) → List FileName → ℕ
total k [] = 0
total k (g ∷ gs) = k g + total k gs

total_append : (k : FileName → ℕ) (xs ys : List FileName) → total k (xs ++ ys) ≡ total k xs + total k ys
total_append k [] ys = omega arith
total_append k (x ∷ xs) ys = let i = total_append k xs ys in omega (arith, i)

total_le : (k l : FileName → ℕ) → ((g : FileName) → k g ≤ l g) → (xs : List FileName) → total k xs ≤ total l xs
total_le k l h [] = omega arith
total_le k l h (x ∷ xs) = let a = h x in let i = total_le k l h xs in omega (arith, a, i)

in_total : (k : FileName → ℕ) {g : FileName} {gs : List FileName} → Among g gs → k g ≤ total k gs
in_total k here = omega arith
in_total k (there p) = let i = in_total k p in omega (arith, i)

length_along : (from : FileName → List Path) (at : ℕ) (gs : List FileName) → length (paths_along from at gs) ≡ total (λ g. length (from g)) gs
unfolding paths_along
length_along from at [] = refl
length_along from at (g ∷ gs) =
    let a = length-append (map (λ p. at ∷ p) (from g)) (paths_along from (at + 1) gs) in
    let b = length-map (from g) (λ p. at ∷ p) in
    let i = length_along from (at + 1) gs in
    omega (arith, a, b, i)

module _ (mentions : FileName → List FileName) where
  -- the number of paths with at most n steps
  abbrev pub many : ℕ → FileName → ℕ
  many n f = length (paths mentions n f)

  many_zero : (f : FileName) → many 0 f ≡ 1
  unfolding paths
  many_zero f = refl

  many_suc : (n : ℕ) (f : FileName) → many (suc n) f ≡ suc (total (many n) (mentions f))
  unfolding paths
  many_suc n f = ap suc (length_along (paths mentions n) 0 (mentions f))

  some : (n : ℕ) (f : FileName) → 0 < many n f
  some zero f = let e = many_zero f in omega (arith, e)
  some (suc n) f = let e = many_suc n f in omega (arith, e)

  further : (d e : ℕ) → d ≤ e → (f : FileName) → many d f ≤ many e f
  further zero e l f = let a = many_zero f in let b = some e f in omega (arith, a, b)
  further (suc d) zero l f = absurd (omega (arith, l))
  further (suc d) (suc e) l f =
      let i = total_le (many d) (many e) (further d e (omega (arith, l))) (mentions f) in
      let a = many_suc d f in
      let b = many_suc e f in
      omega (arith, a, b, i)

  -- no more paths are found than the file has
  mutual
    pub at_most : {f : FileName} {n : ℕ} → HasPaths mentions f n → (d : ℕ) → many d f ≤ n
    at_most (has {f} {n} {k} h e) zero = let a = many_zero f in omega (arith, a, e)
    at_most (has {f} {n} {k} h e) (suc d) = let a = many_suc d f in let i = all_at_most h d in omega (arith, a, e, i)

    all_at_most : {gs : List FileName} {n : ℕ} → HavePaths mentions gs n → (d : ℕ) → total (many d) gs ≤ n
    all_at_most (have_none e) d = omega arith
    all_at_most (have_more {g} {gs} {m} {k} {n} h hs e) d = let a = at_most h d in let b = all_at_most hs d in omega (arith, a, b, e)

  -- and all of them are found
  mutual
    pub at_least : {f : FileName} {n : ℕ} → HasPaths mentions f n → (d : ℕ) × n ≤ many d f
    at_least (has {f} {n} {k} h e) = let i = all_at_least h in (suc i.0, let a = many_suc i.0 f in let b = i.1 in omega (arith, a, e, b))

    pub all_at_least : {gs : List FileName} {n : ℕ} → HavePaths mentions gs n → (d : ℕ) × n ≤ total (many d) gs
    all_at_least (have_none e) = (0, omega (arith, e))
    all_at_least (have_more {g} {gs} {m} {k} {n} h hs e) =
        let a = at_least h in
        let b = all_at_least hs in
        let x = further a.0 (a.0 + b.0) (omega arith) g in
        let y = total_le (many b.0) (many (a.0 + b.0)) (further b.0 (a.0 + b.0) (omega arith)) gs in
        let p = a.1 in
        let q = b.1 in
        (a.0 + b.0, omega (arith, x, y, p, q, e))

  -- a file that is mentioned by one with a number has a smaller number
  one_falls : {g : FileName} {gs : List FileName} {n : ℕ} → HavePaths mentions gs n → Among g gs → (m : ℕ) × HasPaths mentions g m × m ≤ n
  one_falls (have_none e) p = absurd (in_none p)
  one_falls (have_more {g} {gs} {m} {k} {n} h hs e) here = (m, h, omega (arith, e))
  one_falls (have_more {g} {gs} {m} {k} {n} h hs e) (there p) = let r = one_falls hs p in let l = r.2 in (r.0, r.1, omega (arith, e, l))

  falls : {f g : FileName} {n : ℕ} → HasPaths mentions f n → Among g (mentions f) → (m : ℕ) × HasPaths mentions g m × m < n
  falls (has {f} {n} {k} h e) p = let r = one_falls h p in let l = r.2 in (r.0, r.1, omega (arith, e, l))

  falls_far : {f g : FileName} {n : ℕ} → Mentions mentions f g → HasPaths mentions f n → (m : ℕ) × HasPaths mentions g m × m < n
  falls_far (directly p) h = falls h p
  falls_far (through m p) h = let r = falls_far m h in let s = falls r.1 p in let a = r.2 in let b = s.2 in (s.0, s.1, omega (arith, a, b))

  -- so there is no cycle: the number would fall in each round
  round : {f : FileName} → Mentions mentions f f → (most n : ℕ) → n ≤ most → HasPaths mentions f n → ⊥
  round m zero n l h = let r = falls_far m h in let a = r.2 in omega (arith, a, l)
  round m (suc most) n l h = let r = falls_far m h in let a = r.2 in round m most r.0 (omega (arith, a, l)) r.1

  no_cycle : {f : FileName} {n : ℕ} → HasPaths mentions f n → IsCyclic mentions f → ⊥
  no_cycle {f} {n} h c = elim c.1 [
    | inl e ↦ round c.2 n n (omega arith) (subst (λ x. HasPaths mentions x n) (sym e) h)
    | inr m ↦ let r = falls_far m h in round c.2 r.0 r.0 (omega arith) r.1
  ]

  -- a file with few paths keeps the rule
  pub few_keep : {f : FileName} {n : ℕ} → HasPaths mentions f n → n ≤ path_limit → Breaks mentions f → ⊥
  few_keep h l (inl c) = no_cycle h c
  few_keep h l (inr w) = let a = at_most h w.0 in let b = w.1 in omega (arith, a, b, l)

  -- a file breaks the rule if a file breaks it that it mentions
  joined : {f g h : FileName} → Mentions mentions f g → Mentions mentions g h → Mentions mentions f h
  joined m (directly p) = through m p
  joined m (through n p) = through (joined m n) p

  pub breaks_up : {f g : FileName} → Among g (mentions f) → Breaks mentions g → Breaks mentions f
  breaks_up {f} {g} p (inl c) =
      inl (c.0, elim c.1 [ inl e ↦ inr (directly (subst (λ x. Among x (mentions f)) (sym e) p)) | inr m ↦ inr (joined (directly p) m) ], c.2)
  breaks_up {f} {g} p (inr w) = inr (suc w.0, let a = many_suc w.0 f in let b = in_total (many w.0) p in let c = w.1 in omega (arith, a, b, c))

  -- a path of n steps has n + 1 beginnings
  long_many : {n : ℕ} {f : FileName} → IsLong mentions n f → n < many n f
  long_many (long_end {n} {f} e) = let a = some n f in omega (arith, a, e)
  long_many (long_more {n} {m} {f} {g} p q e) =
      let i = long_many q in
      let a = in_total (many n) p in
      let b = many_suc n f in
      subst (λ k. k < many k f) (sym e) (omega (arith, i, a, b))

  pub long_breaks : {f : FileName} → IsLong mentions path_limit f → Breaks mentions f
  long_breaks q = inr (path_limit, long_many q)

  -- some of the mentions already have too many paths
  pub sum_breaks : (f : FileName) (some more : List FileName) (k : ℕ) → mentions f ≡ some ++ more → HavePaths mentions some k → path_limit ≤ k → Breaks mentions f
  sum_breaks f some more k e h l =
      let i = all_at_least h in
      let a = many_suc i.0 f in
      let b = ap (total (many i.0)) e ∙ total_append (many i.0) some more in
      let c = i.1 in
      inr (suc i.0, omega (arith, a, b, c, l))

  pub have_next : {xs : List FileName} {k m n : ℕ} {g : FileName} → HavePaths mentions xs k → HasPaths mentions g m → n ≡ k + m → HavePaths mentions (xs ++ g ∷ []) n
  have_next (have_none e) h i = have_more h (have_none refl) (omega (arith, e, i))
  have_next (have_more {g = x} {gs} {m} {k} {n} a as2 e) h i = have_more a (have_next as2 h refl) (omega (arith, e, i))
