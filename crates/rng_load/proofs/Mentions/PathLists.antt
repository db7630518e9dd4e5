-- The lists of paths contain each path of n steps exactly once.
use Rattle.std.proofs.Common.{◌≡◌, refl, sym, subst, ap, ◌∙◌, ℕ, zero, suc, ◌+◌, ◌<◌, ◌≤◌, arith, inl, inr, Some, None}
use Rattle.std.proofs.Common.{List, [], ◌∷◌, length, map, slice_get}
use Rattle.std.proofs.lemmas.Option.{same_Some}
use Rattle.rng_model.proofs.Members.{among_mapped}
use Rattle.rng_model.specs.names.Lists.{Among, there, HasTwice}
use Rattle.rnc_model.specs.loading.Mentions.{Path, IsPath, path_ends, path_goes_on, HasMorePathsThan, BreaksMentions, path_limit}
use Rattle.rnc_model.specs.loading.SchemaFile.{FileName}
use Rattle.rng_load.specs.plain.Counting.{paths, paths_along, Breaks}
use Rattle.rng_load.proofs.NameLists.{none_twice, in_cons, in_none, in_left, in_right, in_either, in_first, from_map, no_more}
use Rattle.rng_load.proofs.Mentions.DistinctLists.{differ_cons, differ_append, differ_map}

cons_nil : {i : ℕ} {p : Path} → ◌≡◌ {A = Path} [] (i ∷ p) → ⊥
cons_nil e = cc

none_some : {g : FileName} → None ≡ Some g → ⊥
none_some e = cc

module _ (from : FileName → List Path) where
  in_along : (at : ℕ) (gs : List FileName) (i : ℕ) (g : FileName) {p : Path} → slice_get gs i ≡ Some g → Among p (from g)
      → Among ((at + i) ∷ p) (paths_along from at gs)
  unfolding paths_along
  in_along at [] i g e h = absurd (none_some e)
  in_along at (x ∷ gs) zero g {p} e h =
      let same : x ≡ g = same_Some _ _ e in
      let first : at ≡ at + 0 = omega arith in
      let here_too = among_mapped (λ q. at ∷ q) (subst (λ y. Among p (from y)) (sym same) h) in
      in_left (subst (λ i. Among (i ∷ p) (map (λ q. at ∷ q) (from x))) first here_too) (paths_along from (at + 1) gs)
  in_along at (x ∷ gs) (suc i) g {p} e h =
      let next : at + 1 + i ≡ at + suc i = omega arith in
      in_right (map (λ q. at ∷ q) (from x)) (subst (λ j. Among (j ∷ p) (paths_along from (at + 1) gs)) next (in_along (at + 1) gs i g e h))

  pub record IsAlong (at : ℕ) (gs : List FileName) (q : Path) : Type 0 where
    pub i : ℕ
    pub g : FileName
    pub p : Path
    pub mentioned : slice_get gs i ≡ Some g
    pub goes_on : Among p (from g)
    pub whole : q ≡ (at + i) ∷ p

  from_along : (at : ℕ) (gs : List FileName) {q : Path} → Among q (paths_along from at gs) → IsAlong at gs q
  unfolding paths_along
  from_along at [] h = absurd (in_none h)
  from_along at (x ∷ gs) h = elim (in_either (map (λ p. at ∷ p) (from x)) h) [
    | inl a ↦
        let r = from_map (λ p. at ∷ p) (from x) a in
        let first : at ≡ at + 0 = omega arith in
        record { i = 0; g = x; p = r.0; mentioned = refl; goes_on = r.1; whole = r.2 ∙ ap (λ i. i ∷ r.0) first }
    | inr b ↦
        let r = from_along (at + 1) gs b in
        let next : at + 1 + r.i ≡ at + suc r.i = omega arith in
        record { i = suc r.i; g = r.g; p = r.p; mentioned = r.mentioned; goes_on = r.goes_on; whole = r.whole ∙ ap (λ i. i ∷ r.p) next }
  ]

  apart : (at i : ℕ) {p q : Path} → at ∷ p ≡ (at + 1 + i) ∷ q → ⊥
  apart at i e = let same = heads e in omega (arith, same) where
    heads : {x y : ℕ} {p q : Path} → x ∷ p ≡ y ∷ q → x ≡ y
    heads h = cc

  tail_is : (at : ℕ) (p q : Path) → at ∷ p ≡ at ∷ q → p ≡ q
  tail_is at p q e = cc

  differ_along : ((g : FileName) → ¬ (HasTwice (from g))) → (at : ℕ) (gs : List FileName) → ¬ (HasTwice (paths_along from at gs))
  unfolding paths_along
  differ_along d at [] = none_twice
  differ_along d at (g ∷ gs) =
      differ_append (map (λ p. at ∷ p) (from g)) (paths_along from (at + 1) gs)
      (differ_map (λ p. at ∷ p) (tail_is at) (from g) (d g)) (differ_along d (at + 1) gs)
      (λ x a b. let r = from_map (λ p. at ∷ p) (from g) a in let s = from_along (at + 1) gs b in apart at s.i (sym r.2 ∙ s.whole))

module _ (mentions : FileName → List FileName) where
  in_paths : {f : FileName} {p : Path} → IsPath mentions f p → (n : ℕ) → length p ≤ n → Among p (paths mentions n f)
  unfolding paths
  in_paths (path_ends e) zero l = in_first [] e
  in_paths {f} (path_ends e) (suc n) l = in_first (paths_along (paths mentions n) 0 (mentions f)) e
  in_paths (path_goes_on {f} {g} {i} {p} {q} m w e) zero l = absurd (let len = ap length e in omega (arith, len, l))
  in_paths (path_goes_on {f} {g} {i} {p} {q} m w e) (suc n) l =
      let len = ap length e in
      let zeroth : 0 + i ≡ i = omega arith in
      let goes_on = in_along (paths mentions n) 0 (mentions f) i g m (in_paths w n (omega (arith, len, l))) in
      there (subst (λ x. Among x (paths_along (paths mentions n) 0 (mentions f))) (ap (λ j. j ∷ p) zeroth ∙ sym e) goes_on)

  from_paths : (n : ℕ) (f : FileName) {p : Path} → Among p (paths mentions n f) → IsPath mentions f p
  unfolding paths
  from_paths zero f h = elim (in_cons h) [ inl e ↦ path_ends e | inr k ↦ absurd (in_none k) ]
  from_paths (suc n) f h = elim (in_cons h) [
    | inl e ↦ path_ends e
    | inr k ↦
        let r = from_along (paths mentions n) 0 (mentions f) k in
        let zeroth : 0 + r.i ≡ r.i = omega arith in
        path_goes_on r.mentioned (from_paths n r.g r.goes_on) (r.whole ∙ ap (λ i. i ∷ r.p) zeroth)
  ]

  differ_paths : (n : ℕ) (f : FileName) → ¬ (HasTwice (paths mentions n f))
  unfolding paths
  differ_paths zero f = differ_cons in_none none_twice
  differ_paths (suc n) f =
      differ_cons (λ h. cons_nil (from_along (paths mentions n) 0 (mentions f) h).whole)
      (differ_along (paths mentions n) (differ_paths n) 0 (mentions f))

  longest : (ps : List Path) → (n : ℕ) × ((p : Path) → Among p ps → length p ≤ n)
  longest [] = (0, λ p h. absurd (in_none h))
  longest (q ∷ ps) =
      let r = longest ps in (
        length q + r.0,
        λ p h. elim (in_cons h) [ inl e ↦ let len = ap length e in omega (arith, len) | inr k ↦ let l = r.1 p k in omega (arith, l) ],
      )

  -- the lists of paths count the existing paths
  pub more_here : {f : FileName} (limit n : ℕ) → limit < length (paths mentions n f) → HasMorePathsThan mentions limit f
  more_here {f} limit n l = record { some = paths mentions n f; differ = differ_paths n f; are = λ p h. from_paths n f h; more = l }

  pub more_found : {f : FileName} (limit : ℕ) → HasMorePathsThan mentions limit f → (n : ℕ) × limit < length (paths mentions n f)
  more_found {f} limit m =
      let r = longest m.some in
      let few = no_more m.some (paths mentions r.0 f) m.differ (λ p h. in_paths (m.are p h) r.0 (r.1 p h)) in
      let more = m.more in
      (r.0, omega (arith, few, more))

  pub breaks_here : {f : FileName} → Breaks mentions f → BreaksMentions mentions f
  breaks_here (inl c) = inl c
  breaks_here (inr w) = inr (more_here path_limit w.0 w.1)

  pub breaks_found : {f : FileName} → BreaksMentions mentions f → Breaks mentions f
  breaks_found (inl c) = inl c
  breaks_found (inr m) = inr (more_found path_limit m)
