-- Positions of names, and numbers of texts.
use Rattle.std.proofs.Common.{◌≡◌, refl, sym, ap, ◌∙◌, ℕ, zero, suc, ◌+◌, Bool, true, false, not, cond, nat_lt}
use Rattle.std.proofs.Common.{List, [], ◌∷◌, ◌++◌, Some, None, ◌⊎◌, inl, inr, option_map, map, length, position, slice_get, string_bytes, subst, Option}
use Rattle.std.proofs.Common.{bytes_eq, arith}
use Rattle.std.specs.List.{list_any, prefix_len, position_or_len}
use Rattle.std.specs.Map.{lookup, AreApart, IsKeyTest, KeepsOthers}
use Rattle.std.specs.HashMap.{HashMap, UpdatesBy}
use Rattle.std.specs.Cmp.Lexicographic.{nat_list_eq_equiv}
use Rattle.std.proofs.lemmas.Slice.Eq.{bytes_eq-Decides}
use Rattle.std.proofs.Math.Bool.{and_comm}
use Rattle.std.proofs.lemmas.List.{length-map, map-append}
use Rattle.std.proofs.lemmas.Option.{none-some, same_Some, slice_get-map}
use Rattle.rng_model.proofs.Places.{in_front}
use Rattle.indexmap.specs.IndexSet.{insert_key}
use Rattle.rng_model.specs.names.Names as names
use Rattle.rng_model.specs.names.NameViews.{name_of, namespace_bytes}
use Rattle.rng_model.specs.declared.name.Name.{Name}
use Rattle.rng_model.specs.declared.namespace.Namespace.{Namespace}
use Rattle.rng_model.specs.contracts.name.NamePartialEq.TheImpl as same
use Rattle.rng_model.specs.contracts.namespace.NamespacePartialEq.TheImpl as same_ns
use Rattle.rng_names.specs.plain.Holding.{same_name}
use Rattle.rng_names.proofs.Holding.{same_name-Decides}
use Rattle.rng_names.specs.plain.WrittenNames.{seen_numbers}

-- ---- names are compared by their bytes

pub same_names : (n m : Name) → same.ghosts.eq n m ≡ same_name (name_of n) (name_of m)
same_names n m = and_comm (bytes_eq (namespace_bytes n.ns) (namespace_bytes m.ns)) (bytes_eq (string_bytes n.local) (string_bytes m.local))

prefix_len-map : {A B : Type 0} (f : A → B) (p : B → Bool) (xs : List A) → prefix_len (λ x. p (f x)) xs ≡ prefix_len p (map f xs)
prefix_len-map f p [] = refl
prefix_len-map f p (x ∷ xs) = ap (λ n. cond (p (f x)) (1 + n) 0) (prefix_len-map f p xs)

position-map : {A B : Type 0} (f : A → B) (p : B → Bool) (xs : List A) → position (λ x. p (f x)) xs ≡ position p (map f xs)
position-map f p xs =
    ap (λ n. cond (nat_lt n (length xs)) (Some n) None) (prefix_len-map f (λ x. not (p x)) xs)
    ∙ ap (λ m. cond (nat_lt (position_or_len p (map f xs)) m) (Some (position_or_len p (map f xs))) None) (sym (length-map xs f))

pub place_found : (n : Name) (ks : List Name) → position (same.ghosts.eq n) ks ≡ position (same_name (name_of n)) (map name_of ks)
place_found n ks = ap (λ test. position test ks) (λ i m. same_names n m i) ∙ position-map name_of (same_name (name_of n)) ks

-- ---- one more at the end of a list

module _ {A : Type 0} where
  pub at_end : (xs : List A) (x : A) (k : ℕ) (y : A) → slice_get (xs ++ x ∷ []) k ≡ Some y → (slice_get xs k ≡ Some y) ⊎ ((k ≡ length xs) × (x ≡ y))
  at_end [] x zero y e = inr (refl, same_Some x y e)
  at_end [] x (suc k) y e = absurd (none-some y e)
  at_end (z ∷ xs) x zero y e = inl e
  at_end (z ∷ xs) x (suc k) y e = by (at_end xs x k y e) where
    by : (slice_get xs k ≡ Some y) ⊎ ((k ≡ length xs) × (x ≡ y)) → (slice_get (z ∷ xs) (suc k) ≡ Some y) ⊎ ((suc k ≡ length (z ∷ xs)) × (x ≡ y))
    by (inl a) = inl a
    by (inr b) = inr (omega (arith, b.0), b.1)

-- ---- one more name

stays_by : (ks : List Name) (n : Name) (b : Bool) (k : ℕ) (q : names.Name) → slice_get (map name_of ks) k ≡ Some q
    → slice_get (map name_of (cond b ks (ks ++ n ∷ []))) k ≡ Some q
stays_by ks n true k q e = e
stays_by ks n false k q e = ap (λ xs. slice_get xs k) (map-append name_of ks (n ∷ [])) ∙ in_front (map name_of ks) (name_of n ∷ []) k q e

pub stays : (ks : List Name) (n : Name) (k : ℕ) (q : names.Name) → slice_get (map name_of ks) k ≡ Some q
    → slice_get (map name_of (insert_key same.ghosts.eq ks n)) k ≡ Some q
stays ks n = stays_by ks n (list_any (same.ghosts.eq n) ks)

-- the first one
pub is_first : (ks ms : List Name) (n : Name) (q : names.Name) → ks ≡ [] → ms ≡ insert_key same.ghosts.eq ks n → name_of n ≡ q
    → slice_get (map name_of ms) 0 ≡ Some q
is_first ks ms n q none more is =
    ap (λ xs. slice_get (map name_of xs) 0) (more ∙ ap (λ xs. insert_key same.ghosts.eq xs n) none) ∙ ap Some is

pub is_there : (ks : List Name) (n m : Name) (k : ℕ) → slice_get ks k ≡ Some m → same.ghosts.eq n m ≡ true → slice_get (map name_of ks) k ≡ Some (name_of n)
is_there ks n m k at e =
    slice_get-map name_of ks k ∙ ap (option_map name_of) at
    ∙ ap Some ((same_name-Decides (name_of n) (name_of m)).0 (sym (same_names n m) ∙ e))

-- ---- namespaces and their numbers

pub number_found : (u : List ℕ) (es : List (Namespace × ℕ)) → lookup (λ k. bytes_eq u (namespace_bytes k)) es ≡ lookup (bytes_eq u) (seen_numbers es)
number_found u [] = refl
number_found u (e ∷ es) = ap (cond (bytes_eq u (namespace_bytes e.0)) (Some e.1)) (number_found u es)

-- a namespace that is apart from one with a number has none of its keys
apart : (u v k : List ℕ) → bytes_eq u v ≡ false → bytes_eq u k ≡ true → bytes_eq v k ≡ false
apart u v k n y = nat_list_eq_equiv.symm v k ∙ sym (nat_list_eq_equiv.congr u k v y) ∙ n

others_stay : (eq : Namespace → Namespace → Bool) (test : Namespace → Bool) (old new : List (Namespace × ℕ)) → KeepsOthers eq test old new
    → (other : Namespace → Bool) → IsKeyTest eq other → AreApart test other → lookup other new ≡ lookup other old
unfolding KeepsOthers
others_stay eq test old new h = h

-- what a change at the namespace u leaves at any bytes
pub updates_at : {S : Type 0} (u : List ℕ) (m n : HashMap Namespace ℕ S) (w : Option ℕ)
    → UpdatesBy same_ns.ghosts.eq (λ k. bytes_eq u (namespace_bytes k)) m n w → (v : List ℕ)
    → lookup (λ k. bytes_eq v (namespace_bytes k)) n.entries ≡ cond (bytes_eq u v) w (lookup (λ k. bytes_eq v (namespace_bytes k)) m.entries)
updates_at u m n w h v = by (bytes_eq u v) refl where
  by : (b : Bool) → bytes_eq u v ≡ b
      → lookup (λ k. bytes_eq v (namespace_bytes k)) n.entries ≡ cond b w (lookup (λ k. bytes_eq v (namespace_bytes k)) m.entries)
  by true e = subst (λ x. lookup (λ k. bytes_eq x (namespace_bytes k)) n.entries ≡ w) ((bytes_eq-Decides u v).0 e) h.1
  by false e = others_stay _ _ _ _ h.3 _ (λ x y. nat_list_eq_equiv.congr v (namespace_bytes x) (namespace_bytes y)) (λ k. apart u v (namespace_bytes k) e)
