-- Labels of rows, by their codes.
use Rattle.std.proofs.Common.{◌≡◌, ap, ap₂, sym, ◌∙◌, ℕ, zero, suc, ◌<◌, List, [], ◌∷◌, ◌++◌, length, map, get_or, slice_get, Some, arith}
use Rattle.std.proofs.lemmas.List.{length-map, map_push}
use Rattle.std.proofs.lemmas.Option.{slice_get_within, get_or_from_slice_get, same_Some}
use Rattle.rng_simple.proofs.NumberedGraphs.Graphs.{found}
use Rattle.rng_simple.proofs.ListParts.{map_at}
use Rattle.rng_labels.specs.plain.LabelCodes.{Part}
use Rattle.rng_simple.specs.views.RowTable.{AreCodes}

pub none_coded : (written codes : List (List Part)) → codes ≡ [] → written ≡ [] → AreCodes written codes
none_coded written codes e f = record {
  same = e ∙ sym f;
  apart = λ i j c g h. let n : slice_get [] i ≡ Some c = ap (λ cs. slice_get cs i) (sym e) ∙ g in cc;
}

module _ {A L : Type 0} (code : A → List Part) (label : A → L) where
  label_there : (xs : List A) (k : List Part) (l : L) (n : ℕ) → slice_get (map code xs) n ≡ Some k → ((y : A) → code y ≡ k → label y ≡ l)
      → slice_get (map label xs) n ≡ Some l
  label_there [] k l n e f = cc
  label_there (y ∷ ys) k l zero e f = ap Some (f y (same_Some _ _ e))
  label_there (y ∷ ys) k l (suc n) e f = label_there ys k l n e f

  -- a label has the index of its code
  pub label_found : (none : L) (xs : List A) (k : List Part) (l : L) (codes : List (List Part)) (n : ℕ) → codes ≡ map code xs → slice_get codes n ≡ Some k
      → ((y : A) → code y ≡ k → label y ≡ l) → (n < length (map label xs)) × (get_or (map label xs) n none ≡ l)
  label_found none xs k l codes n e f g =
      let there = label_there xs k l n (ap (λ cs. slice_get cs n) (sym e) ∙ f) g in
      (slice_get_within (map label xs) n l there, get_or_from_slice_get (map label xs) n l none there)

  -- one more label
  pub codes_more : (xs ys : List A) (x : A) (old new : List (List Part)) (k : List Part) → old ≡ map code xs → new ≡ old ++ k ∷ [] → k ≡ code x
      → ys ≡ xs ++ x ∷ [] → new ≡ map code ys
  codes_more xs ys x old new k e f g h = f ∙ ap₂ (λ cs c. cs ++ c ∷ []) e g ∙ sym (ap (map code) h ∙ map_push code xs x)

  -- labels are distinct
  pub labels_apart : (none : L) (xs : List A) (codes : List (List Part)) → AreCodes (map code xs) codes → ((x y : A) → label x ≡ label y → code x ≡ code y)
      → (c d : ℕ) → c < length (map label xs) → d < length (map label xs) → get_or (map label xs) c none ≡ get_or (map label xs) d none → c ≡ d
  labels_apart none xs codes are one c d h k e =
      let x = found xs c (omega (arith, h, length-map xs label)) in
      let y = found xs d (omega (arith, k, length-map xs label)) in
      let at_c = get_or_from_slice_get (map label xs) c (label x.0) none (map_at label xs c x.0 x.1) in
      let at_d = get_or_from_slice_get (map label xs) d (label y.0) none (map_at label xs d y.0 y.1) in
      let same = one x.0 y.0 (sym at_c ∙ e ∙ at_d) in
      are.apart c d (code x.0) (ap (λ cs. slice_get cs c) are.same ∙ map_at code xs c x.0 x.1)
      (ap (λ cs. slice_get cs d) are.same ∙ map_at code xs d y.0 y.1 ∙ ap Some (sym same))
