-- Each name is found at its place.
use Rattle.std.proofs.Common.{◌≡◌, refl, sym, ap, ◌∙◌, subst, ℕ, zero, suc, ◌<◌, ◌≤◌, ◌+◌, ◌⊎◌, inl, inr, ⊎_elim, Bool, true, false, cond, nat_lt, true≢false}
use Rattle.std.proofs.Common.{List, [], ◌∷◌, ◌++◌, length-append, Some, None, option_map, map, length, position, slice_get, get_or, arith, rules}
use Rattle.std.specs.List.{AllByRecursion, IsDistinct, list_any, position_or_len}
use Rattle.std.specs.Map.{lookup}
use Rattle.std.specs.Option.{unwrap_or}
use Rattle.std.specs.Str.{bytes_eq}
use Rattle.std.proofs.lemmas.Bool.{cases_lt}
use Rattle.std.proofs.lemmas.List.{length-map}
use Rattle.std.proofs.lemmas.List.Folds.{list_any_at}
use Rattle.indexmap.specs.IndexSet.{insert_key}
use Rattle.std.proofs.lemmas.Bool.Decides.{Decides-like, same_from_decides}
use Rattle.std.proofs.lemmas.List.Sums.{position_or_len_is}
use Rattle.std.proofs.lemmas.Map.Keys.{IsDistinct-head, IsDistinct-tail}
use Rattle.std.proofs.lemmas.Option.{get_or_from_slice_get, none-some, same_Some, slice_get-get_or, slice_get-map, slice_get_within}
use Rattle.rng_model.proofs.Places.{in_front}
use Rattle.rng_model.specs.names.Names as names
use Rattle.rng_model.specs.names.NameViews.{name_of}
use Rattle.rng_model.specs.declared.name.Name.{Name}
use Rattle.rng_model.specs.contracts.name.NamePartialEq.TheImpl as same
use Rattle.rng_names.specs.plain.Holding.{same_name}
use Rattle.rng_names.proofs.Holding.{same_name-Decides}
use Rattle.rng_names.specs.plain.Keys.{place_of}
use Rattle.rng_names.proofs.KeyLookups.{is_there, same_names, stays}
use Rattle.rng_names.specs.plain.Regions.{Puts}

-- ---- no two of the names are the same

module _ {A : Type 0} where
  at_each : (P : A → Type 0) (xs : List A) → AllByRecursion P xs → (k : ℕ) (x : A) → slice_get xs k ≡ Some x → P x
  at_each P [] all k x e = absurd (none-some x e)
  at_each P (y ∷ xs) all zero x e = subst P (same_Some y x e) all.0
  at_each P (y ∷ xs) all (suc k) x e = at_each P xs all.1 k x e

  distinct_at : (eq : A → A → Bool) (xs : List A) → IsDistinct eq xs → (j k : ℕ) (x y : A) → slice_get xs j ≡ Some x → slice_get xs k ≡ Some y → j < k
      → eq x y ≡ false
  distinct_at eq [] apart j k x y e f less = absurd (none-some x e)
  distinct_at eq (z ∷ xs) apart zero zero x y e f less = absurd (omega (arith, less))
  distinct_at eq (z ∷ xs) apart zero (suc k) x y e f less =
      subst (λ w. eq w y ≡ false) (same_Some z x e) (at_each (λ w. eq z w ≡ false) xs (IsDistinct-head eq z xs apart) k y f)
  distinct_at eq (z ∷ xs) apart (suc j) zero x y e f less = absurd (omega (arith, less))
  distinct_at eq (z ∷ xs) apart (suc j) (suc k) x y e f less = distinct_at eq xs (IsDistinct-tail eq z xs apart) j k x y e f (omega (arith, less))

-- the name at a place of the list
raw_at : (ks : List Name) (k : ℕ) (d : Name) (q : names.Name) → slice_get (map name_of ks) k ≡ Some q
    → (slice_get ks k ≡ Some (get_or ks k d)) × (name_of (get_or ks k d) ≡ q)
raw_at ks k d q e =
    let inside = slice_get_within (map name_of ks) k q e in
    let at = slice_get-get_or ks k d (omega (arith, inside, length-map ks name_of)) in
    (at, same_Some (name_of (get_or ks k d)) q (sym (slice_get-map name_of ks k ∙ ap (option_map name_of) at) ∙ e))

one_place : (ks : List Name) → IsDistinct same.ghosts.eq ks → (d : Name) (j k : ℕ) (q : names.Name) → slice_get (map name_of ks) j ≡ Some q
    → slice_get (map name_of ks) k ≡ Some q → j < k → ⊥
one_place ks apart d j k q e f less =
    let one = raw_at ks j d q e in
    let other = raw_at ks k d q f in
    let passes : same_name (name_of (get_or ks j d)) (name_of (get_or ks k d)) ≡ true =
    (same_name-Decides (name_of (get_or ks j d)) (name_of (get_or ks k d))).1 (other.1 ∙ sym one.1) in
    true≢false (sym passes ∙ sym (same_names (get_or ks j d) (get_or ks k d))
    ∙ distinct_at same.ghosts.eq ks apart j k (get_or ks j d) (get_or ks k d) one.0 other.0 less)

-- ---- a name is put among the names

module _ (ks ms : List Name) (n : Name) (place : ℕ) (keys : ms ≡ insert_key same.ghosts.eq ks n)
    (stored : (m : Name) × (slice_get ms place ≡ Some m) × (same.ghosts.eq n m ≡ true)) (apart : IsDistinct same.ghosts.eq ms) where
  is_here : slice_get (map name_of ms) place ≡ Some (name_of n)
  is_here = is_there ms n stored.0 place stored.1 stored.2

  here_alone : (k : ℕ) → slice_get (map name_of ms) k ≡ Some (name_of n) → k ≡ place
  here_alone k e = by (cases_lt k place) (cases_lt place k)
    where
      by : (k < place) ⊎ (place ≤ k) → (place < k) ⊎ (k ≤ place) → k ≡ place
      by (inl less) other = absurd (one_place ms apart n k place (name_of n) e is_here less)
      by (inr above) (inl less) = absurd (one_place ms apart n place k (name_of n) is_here e less)
      by (inr above) (inr below) = omega (arith, above, below)

  inside : place < length ms
  inside = slice_get_within ms place stored.0 stored.1

  counted : (b : Bool) → list_any (same.ghosts.eq n) ks ≡ b → ms ≡ cond b ks (ks ++ n ∷ [])
      → ((place < length ks) × (length ms ≡ length ks)) ⊎ ((place ≡ length ks) × (length ms ≡ length ks + 1))
  counted true any e = let less = inside in let even = ap length e in inl (omega (arith, less, even), even)
  counted false none e =
      let longer = ap length e ∙ length-append ks (n ∷ []) in
      let within = inside in
      ⊎_elim (λ less. absurd (true≢false (sym (list_any_at (same.ghosts.eq n) ks place n less (found less)) ∙ none)))
      (λ above. inr (omega (arith, above, within, longer), longer)) (cases_lt place (length ks))
    where
      found : place < length ks → same.ghosts.eq n (get_or ks place n) ≡ true
      found less =
          let at = slice_get-get_or ks place n less in
          ap (same.ghosts.eq n) (same_Some _ _ (sym (ap (λ xs. slice_get xs place) e ∙ in_front ks (n ∷ []) place (get_or ks place n) at) ∙ stored.1))
          ∙ stored.2

  pub put_there : Puts (map name_of ks) (map name_of ms) (name_of n) place
  put_there = record {
    stays = λ k q e. ap (λ xs. slice_get (map name_of xs) k) keys ∙ stays ks n k q e;
    there = is_here;
    only = here_alone;
    count =
        let one = length-map ks name_of in
        let other = length-map ms name_of in
        ⊎_elim (λ a. let less = a.0 in let even = a.1 in inl (omega (arith, less, one), omega (arith, even, one, other)))
        (λ a. let at = a.0 in let more = a.1 in inr (omega (arith, at, one), omega (arith, more, one, other)))
        (counted (list_any (same.ghosts.eq n) ks) refl keys);
  }

same_name-flip : (n q : names.Name) → same_name n q ≡ same_name q n
same_name-flip n q = same_from_decides (same_name n q) (same_name q n) (same_name-Decides n q) (Decides-like (same_name q n) sym sym (same_name-Decides q n))

-- ---- a name is found at its place

module _ (ks : List Name) (apart : IsDistinct same.ghosts.eq ks) (k : ℕ) (n : Name) (at : slice_get ks k ≡ Some n) where
  abbrev q : names.Name
  q = name_of n

  abbrev seen : List names.Name
  seen = map name_of ks

  seen_there : (j : ℕ) (m : Name) → slice_get ks j ≡ Some m → get_or seen j q ≡ name_of m
  seen_there j m e = get_or_from_slice_get seen j (name_of m) q (slice_get-map name_of ks j ∙ ap (option_map name_of) e)

  not_before : (j : ℕ) → j < k → same_name q (get_or seen j q) ≡ false
  not_before j less =
      let inside = slice_get_within ks k n at in
      let m = get_or ks j n in
      let there : slice_get ks j ≡ Some m = slice_get-get_or ks j n (omega (arith, less, inside)) in
      ap (same_name q) (seen_there j m there) ∙ same_name-flip q (name_of m) ∙ sym (same_names m n) ∙ distinct_at same.ghosts.eq ks apart j k m n there at less

  first_place : position_or_len (same_name q) seen ≡ k
  first_place =
      let inside = slice_get_within seen k q (slice_get-map name_of ks k ∙ ap (option_map name_of) at) in
      position_or_len_is (same_name q) seen k q (omega (arith, inside)) not_before
      (λ less. ap (same_name q) (seen_there k n at) ∙ (same_name-Decides q q).1 refl)

  own_position : position (same_name q) seen ≡ Some k
  own_position =
      let inside : k < length seen = slice_get_within seen k q (slice_get-map name_of ks k ∙ ap (option_map name_of) at) in
      let below : nat_lt k (length seen) ≡ true = search rules in
      ap (λ i. cond (nat_lt i (length seen)) (Some i) None) first_place ∙ ap (λ b. cond b (Some k) None) below

  pub own_place : (others : List (List ℕ × ℕ)) → place_of (record { names = seen; others = others }) q ≡ k
  own_place others = ap (λ o. unwrap_or o (unwrap_or (lookup (bytes_eq q.ns) others) 0)) own_position
