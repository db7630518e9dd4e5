-- The steps of the loops.
use Rattle.std.proofs.Common.{◌≡◌, ◌≤◌, ◌<◌, ◌∙◌, ℕ, suc, ◌+◌, List, [], ◌∷◌, ◌++◌, length, reverse, drop, get_or, Bool, true, false}
use Rattle.std.proofs.Common.{Option, Some, None, refl, sym, ap, append_assoc, add-one, arith}
use Rattle.std.specs.Option.{option_and_then}
use Rattle.std.proofs.lemmas.List.{append-nil, drop_more, drop_all, reverse-append, length-reverse}
use Rattle.xsd_positions.specs.declared.position.Position.{Position}
use Rattle.xsd_positions.specs.plain.Folds.{folded, kept}
use Rattle.xsd_positions.specs.declared.drafts.Kind.{Kind}
use Rattle.xsd_positions.specs.declared.drafts.Kind.TheVariants as kind
use Rattle.xsd_positions.specs.plain.Drafts.{copied, rows_counted}
use Rattle.xsd_positions.specs.plain.Links.{position}
use Rattle.xsd_positions.specs.plain.Places.{placed, behind_parts}

-- ---- copies

pub copied_none : {A : Type 0} (xs ys : List A) → ys ≡ ys ++ copied 0 xs
unfolding copied
copied_none xs ys = sym (append-nil ys)

pub copied_more : {A : Type 0} (n : ℕ) (xs ys : List A) → (ys ++ copied n xs) ++ xs ≡ ys ++ copied (n + 1) xs
unfolding copied
copied_more n xs ys = rw (add-one, append_assoc) refl

pub at_least_put : (rows first next last all part ys : List Kind) (n : ℕ) → first ≡ rows ++ copied n part → next ≡ first ++ part
    → last ≡ next ++ kind.Repeated ∷ [] → all ≡ last ++ copied n ys → ys ≡ kind.Both ∷ [] → all ≡ rows ++ rows_counted n None part
unfolding copied
at_least_put rows first next last all part ys n a b c d e = rw (d, c, b, a, e) (simp append_assoc)

-- ---- a state that goes through a list

module _ {X S : Type 0} (step : X → S → Option S) where
  pub stops : (x : X) (xs : List X) (s t : S) (b : Bool) → b ≡ false → kept b t ≡ step x s → None ≡ folded step (x ∷ xs) s
  unfolding folded
  stops x xs s t true n e = absurd (cc)
  stops x xs s t false n e = ap (option_and_then (folded step xs)) e

  pub goes_on : (x : X) (xs : List X) (s t : S) (b : Bool) → b ≡ true → kept b t ≡ step x s → folded step xs t ≡ folded step (x ∷ xs) s
  unfolding folded
  goes_on x xs s t false n e = absurd (cc)
  goes_on x xs s t true n e = ap (option_and_then (folded step xs)) e

  pub stops_at : (xs : List X) (i : ℕ) (d : X) (s t : S) (b : Bool) → i < length xs → b ≡ false → kept b t ≡ step (get_or xs i d) s
      → None ≡ folded step (drop i xs) s
  stops_at xs i d s t b l n e = stops (get_or xs i d) (drop (i + 1) xs) s t b n e ∙ ap (λ ys. folded step ys s) (sym (drop_more xs i d l))

  pub goes_on_at : (xs : List X) (i : ℕ) (d : X) (s t : S) (b : Bool) → i < length xs → b ≡ true → kept b t ≡ step (get_or xs i d) s
      → folded step (drop (i + 1) xs) t ≡ folded step (drop i xs) s
  goes_on_at xs i d s t b l n e = goes_on (get_or xs i d) (drop (i + 1) xs) s t b n e ∙ ap (λ ys. folded step ys s) (sym (drop_more xs i d l))

  pub ends_at : (xs : List X) (i : ℕ) (s : S) → length xs ≤ i → Some s ≡ folded step (drop i xs) s
  unfolding folded
  ends_at xs i s l = rw (drop_all i xs l) refl

  pub all_gone : (xs : List X) (s : S) → xs ≡ [] → Some s ≡ folded step xs s
  unfolding folded
  all_gone xs s e = rw e refl

-- ---- the last item first

pub none_left : {A : Type 0} (ys : List A) → length ys ≡ 0 → ys ≡ []
none_left [] e = refl
none_left (y ∷ ys) e = absurd (omega arith)

pub one_fewer : {A : Type 0} {xs ys : List A} {x : A} {m n : ℕ} → xs ≡ x ∷ ys → m + 1 ≡ n → length xs ≡ n → length ys ≡ m
one_fewer {xs} {ys} {x} e l all = let f : length xs ≡ suc (length ys) = ap length e in omega arith

module _ (left rest : List Position) (p : Position) (behind : List ℕ) (done : List Position) (is : left ≡ rest ++ p ∷ []) where
  abbrev placed_now : Option (List Position)
  placed_now = placed (reverse left) (reverse behind) (reverse done)

  pub nothing_behind : length behind ≡ 0 → None ≡ placed_now
  unfolding placed
  nothing_behind e = rw (is, reverse-append rest (p ∷ []), none_left behind e) refl

  module _ (before : List ℕ) (x i : ℕ) (next : behind ≡ before ++ x ∷ []) (at : i ≡ length rest) where
    abbrev then : List ℕ → Option (List Position)
    then ms = placed (reverse rest) ms (position p.part x p.is_nullable ∷ reverse done)

    placed_step : option_and_then then (behind_parts p.part i x (reverse before)) ≡ placed_now
    unfolding placed
    placed_step = rw (is, next, reverse-append rest (p ∷ []), reverse-append before (x ∷ []), at, ← (length-reverse rest)) refl

    pub no_place : (ms : List ℕ) (b : Bool) → b ≡ false → kept b ms ≡ behind_parts p.part i x (reverse before) → None ≡ placed_now
    no_place ms true n e = absurd (cc)
    no_place ms false n e = ap (option_and_then then) e ∙ placed_step

    pub is_placed : (ms : List ℕ) (b : Bool) (all : List Position) → b ≡ true → kept b ms ≡ behind_parts p.part i x (reverse before)
        → all ≡ done ++ position p.part x p.is_nullable ∷ [] → placed (reverse rest) ms (reverse all) ≡ placed_now
    is_placed ms false all n e d = absurd (cc)
    is_placed ms true all n e d =
        ap (placed (reverse rest) ms) (ap reverse d ∙ reverse-append done (position p.part x p.is_nullable ∷ []))
        ∙ ap (option_and_then then) e ∙ placed_step

pub all_placed : (left : List Position) (ns : List ℕ) (done all : List Position) → length left ≡ 0 → all ≡ reverse done
    → Some all ≡ placed (reverse left) ns (reverse done)
unfolding placed
all_placed left ns done all e is = rw (none_left left e, is) refl
