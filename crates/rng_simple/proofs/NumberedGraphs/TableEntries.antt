-- A table that is filled by numbers along an order: one more entry does not change earlier values.
use Rattle.std.proofs.Common.{◌≡◌, inl, inr, refl, ap, sym, ◌∙◌, subst, ℕ, List, [], ◌∷◌, ◌++◌, slice_get, Some, Contains}
use Rattle.std.proofs.lemmas.Bool.{cases_eq}
use Rattle.std.proofs.lemmas.List.Elements.{Contains-append_left, Contains-push_cases}
use Rattle.rng_model.proofs.Members.{not_in_none}
use Rattle.rng_model.specs.simple.Tree.{Tree}
use Rattle.rng_model.specs.simple.Leaves.{LeafIn}
use Rattle.rng_simple.specs.plain.Graph.{Spot, at_element, at_definition, Graph, Mentions, IsOrderBy, no_numbers, and_number, of_spot, spot_depth}
use Rattle.rng_simple.specs.plain.Graph.{IsFilledBy}
use Rattle.rng_model.proofs.Options.{one_value}
use Rattle.rng_simple.proofs.Leaves.RenamedLeaves.{depth_same}

-- what a member of an order mentions is in the order
pub order_closed : {A : Type 0} (M : A → A → Type 0) {xs : List A} → IsOrderBy M xs → (x y : A) → Contains xs x → M x y → Contains xs y
order_closed M no_numbers x y c m = absurd (not_in_none c)
order_closed M (and_number {xs = xs} {ys = ys} z o f e) x y c m =
    subst (λ zs. Contains zs y) (sym e) (Contains-append_left xs (z ∷ []) y (elim (Contains-push_cases xs z x (subst (λ zs. Contains zs x) e c)) [
      | inl h ↦ order_closed M o x y h m
      | inr h ↦ f y (subst (λ w. M w y) (sym h) m)
    ]))

-- only the entries of mentioned numbers matter
abbrev pub ReadsMentions : {A : Type 0} → ((ℕ → A) → Tree Spot → A) → Type 0
ReadsMentions {A} of_body = (v w : ℕ → A) (r : Tree Spot) → ((i : ℕ) → LeafIn (at_definition i) r → v i ≡ w i) → of_body v r ≡ of_body w r

spot_same : {A : Type 0} (one : ℕ → A) (v w : ℕ → A) (r : Tree Spot) → ((i : ℕ) → LeafIn (at_definition i) r → v i ≡ w i) → (p : Spot) → LeafIn p r
    → of_spot one v p ≡ of_spot one w p
spot_same one v w r h (at_element k) i = refl
spot_same one v w r h (at_definition j) i = h j i

pub depth_reads : ReadsMentions spot_depth
depth_reads v w r h =
    sym (depth_same (λ p. p) (of_spot (λ k. 1) v) (of_spot (λ k. 1) v) r (λ p i. refl))
    ∙ depth_same (λ p. p) (of_spot (λ k. 1) v) (of_spot (λ k. 1) w) r (spot_same (λ k. 1) v w r h)

module _ {A : Type 0} (of_body : (ℕ → A) → Tree Spot → A) (reads : ReadsMentions of_body) (g : Graph) (js : List ℕ) (o : IsOrderBy (Mentions g) js)
    (v w : ℕ → A) (filled : IsFilledBy g (of_body v) v js)
    (j : ℕ) (r : Tree Spot) (there : slice_get g.bodies j ≡ Some r) (new : w j ≡ of_body v r) (others : (i : ℕ) → (i ≡ j → ⊥) → w i ≡ v i)
    (earlier : (i : ℕ) → Mentions g j i → Contains js i) where
  same_there : (i : ℕ) → Contains js i → v i ≡ w i
  same_there i c = elim (cases_eq i j) [
    | inl e ↦ filled i c r (ap (slice_get g.bodies) e ∙ there) ∙ sym (ap w e ∙ new)
    | inr n ↦ sym (others i n)
  ]

  -- one more
  pub filled_more : IsFilledBy g (of_body w) w (js ++ j ∷ [])
  filled_more i c q f = elim (Contains-push_cases js j i c) [
    | inl h ↦ sym (same_there i h) ∙ filled i h q f
        ∙ reads v w q (λ k l. same_there k (order_closed (Mentions g) o i k h (record { tree = q; is = f; there = l })))
    | inr e ↦
        let same : r ≡ q = one_value there (ap (slice_get g.bodies) e ∙ f) in
        ap w (sym e) ∙ new ∙ reads v w r (λ k l. same_there k (earlier k (record { tree = r; is = there; there = l }))) ∙ ap (of_body w) same
  ]
