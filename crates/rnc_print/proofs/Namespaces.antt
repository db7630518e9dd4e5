-- Namespaces of a class, and their places.
use Rattle.std.proofs.Common.{◌≡◌, ◌∙◌, ℕ, ◌+◌, ◌<◌, length, take, get_or, cond, not, List, [], ◌∷◌, ◌++◌, map, flat_map, refl, sym, ap, Bor}
use Rattle.std.proofs.Common.{bytes_eq}
use Rattle.std.specs.List.{AllByRecursion, position_or_len}
use Rattle.std.proofs.lemmas.List.{append-nil, take_more}
use Rattle.std.proofs.lemmas.Grind.{flat_map-append}
use Rattle.rng_model.proofs.Texts.{bytes_same, bytes_itself}
use Rattle.indexmap.specs.IndexSet.{insert_key}
use Rattle.rng_model.specs.names.Names as names
use Rattle.rng_model.specs.names.Names.{class_list, some_of}
use Rattle.rncv_model.specs.printed.Items.{and_new, with_new}
use Rattle.rncv_model.specs.printed.PrintedText.{namespaces_in, namespaces_among}
use Rattle.rnc_print.proofs.CarriedNumberings.{with_map}
use Rattle.rnc_print.proofs.Numberings.{and_append}

any_names : (ns : List (Bor (List ℕ))) → AllByRecursion (λ n. Unit {0}) ns
any_names [] = tt
any_names (n ∷ ns) = (tt, any_names ns)

-- a new namespace goes last, and a known one stays where it is
pub with_namespace : (ks : List (Bor (List ℕ))) (k : Bor (List ℕ))
    → map (λ n. n.now) (insert_key (λ a b. bytes_eq a.now b.now) ks k) ≡ with_new bytes_eq (map (λ n. n.now) ks) k.now
with_namespace ks k = with_map (λ a b. bytes_eq a.now b.now) bytes_eq (λ n. n.now) (λ n. Unit {0}) (λ a b p q. refl) ks k (any_names ks) tt

pub place_seen : (u : List ℕ) (ks : List (Bor (List ℕ))) → position_or_len (λ n. bytes_eq u n.now) ks ≡ position_or_len (bytes_eq u) (map (λ n. n.now) ks)
place_seen u [] = refl
place_seen u (k ∷ ks) = ap (λ n. cond (not (bytes_eq u k.now)) (1 + n) 0) (place_seen u ks)

-- the namespaces of a choice are those of its members
module _ {A : Type 0} (view : A → names.NameClass) where
  among : (xs : List A) → namespaces_among (class_list (map view xs)) ≡ flat_map (λ c. namespaces_in (view c)) xs
  among [] = refl
  among (x ∷ xs) = ap (λ z. namespaces_in (view x) ++ z) (among xs)

  pub namespaces_of_members : (xs : List A) → namespaces_in (some_of (map view xs)) ≡ flat_map (λ c. namespaces_in (view c)) xs
  namespaces_of_members [] = refl
  namespaces_of_members (x ∷ []) = sym (append-nil (namespaces_in (view x)))
  namespaces_of_members (x ∷ (y ∷ xs)) = ap (λ z. namespaces_in (view x) ++ (namespaces_in (view y) ++ z)) (among xs)

-- one more
module _ {A : Type 0} (f : A → List (List ℕ)) (old was new : List (List ℕ)) (xs : List A) (i : ℕ) (d : A) (l : i < length xs)
    (w : was ≡ and_new bytes_eq old (flat_map f (take i xs))) where
  pub one_added : new ≡ and_new bytes_eq was (f (get_or xs i d)) → new ≡ and_new bytes_eq old (flat_map f (take (i + 1) xs))
  one_added n =
      let more : flat_map f (take (i + 1) xs) ≡ flat_map f (take i xs) ++ f (get_or xs i d) =
      ap (flat_map f) (take_more xs i d l) ∙ flat_map-append f (take i xs) (get_or xs i d ∷ [])
      ∙ ap (λ z. flat_map f (take i xs) ++ z) (append-nil (f (get_or xs i d))) in
      n ∙ ap (λ z. and_new bytes_eq z (f (get_or xs i d))) w
      ∙ sym (and_append bytes_eq bytes_same bytes_itself old (flat_map f (take i xs)) (f (get_or xs i d)))
      ∙ ap (and_new bytes_eq old) (sym more)

  pub member_added : d ≡ get_or xs i d → new ≡ and_new bytes_eq was (f d) → new ≡ and_new bytes_eq old (flat_map f (take (i + 1) xs))
  member_added is n = one_added (n ∙ ap (λ x. and_new bytes_eq was (f x)) is)
