-- Keys that names share, place by place.
use Rattle.std.proofs.Common.{◌≡◌, refl, sym, ap, ◌∙◌, subst, ℕ, zero, suc, ◌<◌, ◌+◌, Bool, true, false, cond, ◌⊎◌, inl, inr, ⊎_elim}
use Rattle.std.proofs.Common.{List, [], ◌∷◌, Some, length, length-append, slice_get, slice_index_or, bytes_eq, arith}
use Rattle.std.specs.Map.{lookup, update}
use Rattle.std.proofs.lemmas.Option.{same_Some, slice_get_within}
use Rattle.std.proofs.lemmas.Slice.Eq.{bytes_eq-Decides}
use Rattle.rng_model.proofs.Places.{in_front}
use Rattle.rng_model.specs.names.Names.{Name}
use Rattle.rng_names.specs.plain.Holding.{pair}
use Rattle.rng_names.specs.plain.SharedKeys.{AddsPlace, AreLed, AreMade, AreShared, IsKeyIn, IsLed, SameRegion, Sharing, following, leading}
use Rattle.rng_names.specs.declared.shared_keys.SharedKeys.{SharedKeys}
use Rattle.rng_model.proofs.Places as places
use Rattle.rng_names.proofs.KeyLookups.{at_end}

found_region : (rs : List ℕ) (k r : ℕ) → slice_index_or rs k 0 ≡ r → 0 < r → slice_get rs k ≡ Some r
found_region [] k r e counts = absurd (omega (arith, e, counts))
found_region (x ∷ rs) zero r e counts = ap Some e
found_region (x ∷ rs) (suc k) r e counts = found_region rs k r e counts

same_region : (names : List Name) (regions : List ℕ) (a b c : ℕ) → (a ≡ b) ⊎ SameRegion names regions a b → SameRegion names regions b c → SameRegion names regions a c
same_region names regions a b c (inl e) two = subst (λ x. SameRegion names regions x c) (sym e) two
same_region names regions a b c (inr one) two = record {
  ns = two.ns;
  local = one.local;
  local' = two.local';
  region = two.region;
  counts = two.counts;
  at = one.at ∙ ap (λ u. Some (pair u one.local)) (ap (λ q. q.ns) (same_Some (pair one.ns one.local') (pair two.ns two.local) (sym one.at' ∙ two.at)));
  at' = two.at';
  in_region = one.in_region ∙ sym one.in_region' ∙ two.in_region;
  in_region' = two.in_region';
}

module _ (names : List Name) (s : Sharing) (made : AreMade names s) where
  -- the next place leads
  module _ (newest : List (List ℕ × ℕ))
      (is : (u : List ℕ) (p : ℕ) → lookup (bytes_eq u) newest ≡ Some p → (p < length s.keys + 1) × (l : List ℕ) × (slice_get names p ≡ Some (pair u l))) where
    abbrev led : Sharing
    led = leading (record { regions = s.regions; newest = newest; keys = s.keys; leaders = s.leaders })

    own_led : (k key : ℕ) → (k ≡ length s.keys) × (length s.leaders ≡ key) → IsLed names s.regions led.leaders k key
    own_led k key e = (length s.keys, subst (λ j. slice_get led.leaders j ≡ Some (length s.keys)) e.1 (places.at_end s.leaders (length s.keys)), inl (sym e.0))

    old_led : (k key : ℕ) → IsLed names s.regions s.leaders k key → IsLed names s.regions led.leaders k key
    old_led k key is = (is.0, in_front s.leaders (length s.keys ∷ []) key is.0 is.1, is.2)

    pub made_leading : AreMade names led
    made_leading = record {
      newest = λ u p e. let found = is u p e in let less = found.0 in let more = length-append s.keys (length s.leaders ∷ []) in
          (omega (arith, less, more), found.1, found.2);
      led = λ k key e. ⊎_elim (λ f. old_led k key (made.led k key f)) (own_led k key) (at_end s.keys (length s.leaders) k key e);
      own = λ key p e. ⊎_elim
          (λ f. in_front s.keys (length s.leaders ∷ []) p key (made.own key p f))
          (λ f. subst (λ j. slice_get led.keys j ≡ Some key) f.1 (places.at_end s.keys (length s.leaders) ∙ ap Some (sym f.0)))
          (at_end s.leaders (length s.keys) key p e);
    }

  pub made_alone : AreMade names (leading s)
  made_alone = made_leading s.newest (λ u p e. let found = made.newest u p e in let less = found.0 in (omega (arith, less), found.1, found.2))

  module _ (q : Name) (at : slice_get names (length s.keys) ≡ Some q) where
    pub made_noted : (newest : List (List ℕ × ℕ))
        → ((u : List ℕ) → lookup (bytes_eq u) newest ≡ update bytes_eq (λ v. lookup (bytes_eq v) s.newest) q.ns (Some (length s.keys)) u)
        → AreMade names (leading (record { regions = s.regions; newest = newest; keys = s.keys; leaders = s.leaders }))
    made_noted newest noted = made_leading newest (λ u p e. by u p (bytes_eq q.ns u) refl (sym (noted u) ∙ e))
      where
        by : (u : List ℕ) (p : ℕ) (b : Bool) → bytes_eq q.ns u ≡ b → cond b (Some (length s.keys)) (lookup (bytes_eq u) s.newest) ≡ Some p
            → (p < length s.keys + 1) × (l : List ℕ) × (slice_get names p ≡ Some (pair u l))
        by u p true same e =
            let here = same_Some (length s.keys) p e in
            (omega (arith, here), q.local, ap (slice_get names) (sym here) ∙ at ∙ ap (λ v. Some (pair v q.local)) ((bytes_eq-Decides q.ns u).0 same))
        by u p false same e = let found = made.newest u p e in let less = found.0 in (omega (arith, less), found.1, found.2)

    -- the next place follows
    pub made_following : (region key : ℕ) → region ≡ slice_index_or s.regions (length s.keys) 0 → 0 < region → IsKeyIn s q.ns region key
        → AreMade names (following key s)
    made_following region key here counts is = record {
      newest = λ u p e. let found = made.newest u p e in let less = found.0 in let more = length-append s.keys (key ∷ []) in
          (omega (arith, less, more), found.1, found.2);
      led = λ k j e. ⊎_elim (made.led k j) (λ f. subst (λ x. IsLed names s.regions s.leaders x j) (sym f.0)
          (subst (IsLed names s.regions s.leaders (length s.keys)) f.1 followed)) (at_end s.keys key k j e);
      own = λ j p e. in_front s.keys (key ∷ []) p j (made.own j p e);
    }
      where
        near : SameRegion names s.regions is.place (length s.keys)
        near = let found = made.newest q.ns is.place is.newest in record {
          ns = q.ns;
          local = found.1;
          local' = q.local;
          region = region;
          counts = counts;
          at = found.2;
          at' = at;
          in_region = found_region s.regions is.place region is.in_region counts;
          in_region' = found_region s.regions (length s.keys) region (sym here) counts;
        }

        followed : IsLed names s.regions s.leaders (length s.keys) key
        followed = let leads = made.led is.place key is.at in
            (leads.0, leads.1, inr (same_region names s.regions leads.0 is.place (length s.keys) leads.2 near))

pub adds_alone : (q : Name) (old new : Sharing) → new ≡ leading old → AddsPlace q old new
adds_alone q old new e = record {
  regions = ap (λ s. s.regions) e;
  count = ap (λ s. length s.keys) e ∙ length-append old.keys (length old.leaders ∷ []);
  made = λ names at made. subst (AreMade names) (sym e) (made_alone names old made);
}

pub adds_noted : (q : Name) (old mid new : Sharing) → mid.regions ≡ old.regions → mid.keys ≡ old.keys → mid.leaders ≡ old.leaders
    → ((u : List ℕ) → lookup (bytes_eq u) mid.newest ≡ update bytes_eq (λ v. lookup (bytes_eq v) old.newest) q.ns (Some (length old.keys)) u)
    → new ≡ leading mid → AddsPlace q old new
adds_noted q old mid new regions keys leaders noted e = record {
  regions = ap (λ s. s.regions) e ∙ regions;
  count = ap (λ s. length s.keys) e ∙ length-append mid.keys (length mid.leaders ∷ []) ∙ ap (λ ks. length ks + 1) keys;
  made = λ names at made. subst (AreMade names) (sym (e ∙ same)) (made_noted names old made q at mid.newest noted);
}
  where
    same : leading mid ≡ leading (record { regions = old.regions; newest = mid.newest; keys = old.keys; leaders = old.leaders })
    same i = leading (record { regions = regions i; newest = mid.newest; keys = keys i; leaders = leaders i })

pub adds_following : (q : Name) (old new : Sharing) (region key : ℕ) → region ≡ slice_index_or old.regions (length old.keys) 0 → 0 < region
    → IsKeyIn old q.ns region key → new ≡ following key old → AddsPlace q old new
adds_following q old new region key here counts is e = record {
  regions = ap (λ s. s.regions) e;
  count = ap (λ s. length s.keys) e ∙ length-append old.keys (key ∷ []);
  made = λ names at made. subst (AreMade names) (sym e) (made_following names old made q at region key here counts is);
}

-- ---- the keys of all names

-- the keys of the first n places
pub record AreMadeOf (names : List Name) (regions : List ℕ) (s : Sharing) (n : ℕ) : Type 0 where
  pub same : s.regions ≡ regions
  pub count : length s.keys ≡ n
  pub made : AreMade names s

pub one_made : (names : List Name) (regions : List ℕ) (old new : Sharing) (n : ℕ) (q : Name) → slice_get names n ≡ Some q → AddsPlace q old new
    → AreMadeOf names regions old n → AreMadeOf names regions new (n + 1)
one_made names regions old new n q at adds before = record {
  same = adds.regions ∙ before.same;
  count = adds.count ∙ ap (λ k. k + 1) before.count;
  made = adds.made names (ap (slice_get names) before.count ∙ at) before.made;
}

pub all_shared : (names : List Name) (regions : List ℕ) (s : Sharing) (n : ℕ) (all : SharedKeys) → all.keys.items ≡ s.keys → all.leaders.items ≡ s.leaders
    → n ≡ length names → AreMadeOf names regions s n → AreShared names all × AreLed names regions all
all_shared names regions s n all keys leaders past made = (shared, led)
  where
    led : AreLed names regions all
    led k key e =
        let is = made.made.led k key (ap (λ ks. slice_get ks k) (sym keys) ∙ e) in
        (is.0, ap (λ ls. slice_get ls key) leaders ∙ is.1, subst (λ rs. (is.0 ≡ k) ⊎ SameRegion names rs is.0 k) made.same is.2)

    shared : AreShared names all
    shared = record {
      count = ap length keys ∙ made.count ∙ past;
      led = λ k key e. let is = led k key e in slice_get_within all.leaders.items key is.0 is.1;
      own = λ key p e. ap (λ ks. slice_get ks p) keys ∙ made.made.own key p (ap (λ ls. slice_get ls key) (sym leaders) ∙ e);
    }
