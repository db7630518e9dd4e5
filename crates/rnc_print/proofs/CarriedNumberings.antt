-- A numbering mapped to other things is their numbering.
use Rattle.std.proofs.Common.{◌≡◌, ◌∙◌, Bool, true, false, cond, List, [], ◌∷◌, ◌++◌, map, flat_map, refl, sym, ap, subst}
use Rattle.std.specs.Prelude.{Contains}
use Rattle.std.specs.List.{AllByRecursion}
use Rattle.rng_model.proofs.Members.{contains_mapped}
use Rattle.rncv_model.specs.printed.Items.{has, with_new, and_new, first_times, place_in, IsReached, at_start, in_line, IsNumbering}
use Rattle.rnc_print.proofs.Numberings.{all_contained, all_append}

pub map_append : {A B : Type 0} (f : A → B) (xs ys : List A) → map f (xs ++ ys) ≡ map f xs ++ map f ys
map_append f [] ys = refl
map_append f (x ∷ xs) ys = ap (λ (z : List _). f x ∷ z) (map_append f xs ys)

pub each_of : {A : Type 0} (P Q : A → Type 0) (xs : List A) → ((a : A) → P a → Q a) → AllByRecursion P xs → AllByRecursion Q xs
each_of P Q [] f h = tt
each_of P Q (x ∷ xs) f h = (f x h.0, each_of P Q xs f h.1)

module _ {A B : Type 0} (same : A → A → Bool) (alike : B → B → Bool) (f : A → B) (R : A → Type 0)
    (tests : (a b : A) → R a → R b → alike (f a) (f b) ≡ same a b) where
  has_map : (w : List A) (z : A) → AllByRecursion R w → R z → has alike (map f w) (f z) ≡ has same w z
  has_map [] z h r = refl
  has_map (x ∷ w) z h r = rw (tests z x r h.0, has_map w z h.1 r) refl

  pub place_map : (w : List A) (z : A) → AllByRecursion R w → R z → place_in alike (map f w) (f z) ≡ place_in same w z
  place_map [] z h r = refl
  place_map (x ∷ w) z h r = rw (tests z x r h.0, place_map w z h.1 r) refl

  pub with_all : (w : List A) (z : A) → AllByRecursion R w → R z → AllByRecursion R (with_new same w z)
  with_all w z h r = at_test (has same w z)
    where
      at_test : (b : Bool) → AllByRecursion R (cond b w (w ++ z ∷ []))
      at_test true = h
      at_test false = all_append R w (z ∷ []) h (r, tt)

  pub with_map : (w : List A) (z : A) → AllByRecursion R w → R z → map f (with_new same w z) ≡ with_new alike (map f w) (f z)
  with_map w z h r = at_test (has same w z) ∙ ap (λ (b : Bool). cond b (map f w) (map f w ++ f z ∷ [])) (sym (has_map w z h r))
    where
      at_test : (b : Bool) → map f (cond b w (w ++ z ∷ [])) ≡ cond b (map f w) (map f w ++ f z ∷ [])
      at_test true = refl
      at_test false = map_append f w (z ∷ [])

  and_map : (w zs : List A) → AllByRecursion R w → AllByRecursion R zs → map f (and_new same w zs) ≡ and_new alike (map f w) (map f zs)
  and_map w [] h i = refl
  and_map w (z ∷ zs) h i = and_map (with_new same w z) zs (with_all w z h i.0) i.1 ∙ ap (λ (x : List B). and_new alike x (map f zs)) (with_map w z h i.0)

  module _ (start : List A) (line : A → List A) (begin : List B) (lane : B → List B) (starts : begin ≡ map f start)
      (lines : (a : A) → R a → lane (f a) ≡ map f (line a)) (start_all : AllByRecursion R start) (line_all : (a : A) → R a → AllByRecursion R (line a)) where
    reached_all : (a : A) → IsReached same start line a → R a
    reached_all a (at_start {a = x} c) = all_contained R start start_all x c
    reached_all a (in_line {a = y} {x} r c) = all_contained R (line x) (line_all x (reached_all x r)) y c

    reached_map : (a : A) → IsReached same start line a → IsReached alike begin lane (f a)
    reached_map a (at_start {a = x} c) = at_start (subst (λ (z : List B). Contains z (f x)) (sym starts) (contains_mapped f start x c))
    reached_map a (in_line {a = y} {x} r c) =
        in_line (reached_map x r) (subst (λ (z : List B). Contains z (f y)) (sym (lines x (reached_all x r))) (contains_mapped f (line x) y c))

    flat_map_map : (xs : List A) → AllByRecursion R xs → map f (flat_map line xs) ≡ flat_map lane (map f xs)
    flat_map_map [] h = refl
    flat_map_map (x ∷ xs) h = map_append f (line x) (flat_map line xs) ∙ rw (lines x h.0, flat_map_map xs h.1) refl

    flat_all : (xs : List A) → AllByRecursion R xs → AllByRecursion R (flat_map line xs)
    flat_all [] h = tt
    flat_all (x ∷ xs) h = all_append R (line x) (flat_map line xs) (line_all x h.0) (flat_all xs h.1)

    all_of : (xs : List A) → IsNumbering same start line xs → AllByRecursion R xs
    all_of xs n = each_of (IsReached same start line) R xs reached_all n.reached

    map_reached : (xs : List A) → AllByRecursion (IsReached same start line) xs → AllByRecursion (IsReached alike begin lane) (map f xs)
    map_reached [] h = tt
    map_reached (x ∷ xs) h = (reached_map x h.0, map_reached xs h.1)

    pub carried : (xs : List A) → IsNumbering same start line xs → AllByRecursion R xs × IsNumbering alike begin lane (map f xs)
    carried xs n =
        let h = all_of xs n in
        let e : map f (start ++ flat_map line xs) ≡ begin ++ flat_map lane (map f xs) =
        map_append f start (flat_map line xs) ∙ rw (starts, flat_map_map xs h) refl in (
          h,
          record {
            in_order = ap (map f) n.in_order ∙ and_map [] (start ++ flat_map line xs) tt (all_append R start (flat_map line xs) start_all (flat_all xs h))
                ∙ ap (first_times alike) e;
            reached = map_reached xs n.reached;
          },
        )
