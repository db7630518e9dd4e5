-- Lists without duplicates, made of other lists.
use Rattle.std.proofs.Common.{◌≡◌, subst, sym, List, [], ◌∷◌, ◌++◌, map, inl, inr}
use Rattle.rng_model.specs.names.Lists.{Among, here, there, HasTwice, at_first, later}
use Rattle.rng_load.proofs.NameLists.{none_twice, in_either, from_map}

module _ {A : Type 0} where
  -- one more at the front
  pub differ_cons : {x : A} {xs : List A} → ¬ (Among x xs) → ¬ (HasTwice xs) → ¬ (HasTwice (x ∷ xs))
  differ_cons n d (at_first p) = n p
  differ_cons n d (later t) = d t

  pub differ_append : (xs ys : List A) → ¬ (HasTwice xs) → ¬ (HasTwice ys) → ((x : A) → Among x xs → Among x ys → ⊥) → ¬ (HasTwice (xs ++ ys))
  differ_append [] ys d e h t = e t
  differ_append (x ∷ xs) ys d e h (at_first p) = elim (in_either xs p) [ inl a ↦ d (at_first a) | inr b ↦ h x here b ]
  differ_append (x ∷ xs) ys d e h (later t) = differ_append xs ys (λ u. d (later u)) e (λ z p q. h z (there p) q) t

-- an injective function
pub differ_map : {A B : Type 0} (f : A → B) → ((x y : A) → f x ≡ f y → x ≡ y) → (xs : List A) → ¬ (HasTwice xs) → ¬ (HasTwice (map f xs))
differ_map f apart [] d t = none_twice t
differ_map f apart (x ∷ xs) d (at_first p) = let r = from_map f xs p in d (at_first (subst (λ y. Among y xs) (sym (apart x r.0 r.2)) r.1))
differ_map f apart (x ∷ xs) d (later t) = differ_map f apart xs (λ u. d (later u)) t
