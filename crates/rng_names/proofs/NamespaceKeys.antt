-- Places made from what is written, namespace by namespace.
use Rattle.std.proofs.Common.{◌≡◌, refl, sym, ap, ◌∙◌, subst, ℕ, suc, ◌≤◌, ◌+◌, Bool, true, false, cond, List, [], ◌∷◌, Option, Some}
use Rattle.std.proofs.Common.{map, length, slice_get, bytes_eq, arith}
use Rattle.std.specs.Map.{keys_of, lookup}
use Rattle.std.specs.Option.{unwrap_or}
use Rattle.std.proofs.lemmas.List.{length-map}
use Rattle.std.proofs.lemmas.Option.{none-some, same_Some}
use Rattle.std.proofs.lemmas.Slice.Eq.{bytes_eq-Decides}
use Rattle.rng_model.specs.names.NameViews.{namespace_bytes}
use Rattle.rng_model.specs.declared.namespace.Namespace.{Namespace}
use Rattle.rng_names.specs.plain.Holding.{pair}
use Rattle.rng_names.specs.plain.Keys.{Places}
use Rattle.rng_names.specs.views.KeyTables.{AddsOthers, HasOthers, IsTold, KeepsNames, StandsBeyond}
use Rattle.rng_names.specs.plain.WrittenNames.{IsMeasured, Written, seen_numbers}
use Rattle.rng_names.proofs.CollectedNames.{HoldsBefore, holds_on, holds_of_all}

-- the first n of these namespaces have places for their other names
pub record IsToldOf (w : Written) (places : Places) (us : List (List ℕ)) (n : ℕ) : Type 0 where
  pub names : KeepsNames w.names places.names
  pub others : (u : List ℕ) (k : ℕ) → lookup (bytes_eq u) places.others ≡ Some k → StandsBeyond w places k u
  pub done : HoldsBefore (HasOthers places) us n

module _ (w : Written) (old new : Places) (u : List ℕ) (bytes : ℕ) (adds : AddsOthers old new u bytes) (most : (b : ℕ) → IsMeasured w u b → b ≤ bytes) where
  still_stands : (v : List ℕ) (k : ℕ) → StandsBeyond w old k v → StandsBeyond w new k v
  still_stands v k stands = record { local = stands.local; at = adds.names k (pair v stands.local) stands.at; longer = stands.longer }

  new_stands : StandsBeyond w new adds.place u
  new_stands = record {
    local = adds.local;
    at = adds.at;
    longer = λ b is. let below = most b is in let longer = adds.longer in omega (arith, below, longer);
  }

  stands_by : ((v : List ℕ) (k : ℕ) → lookup (bytes_eq v) old.others ≡ Some k → StandsBeyond w old k v) → (v : List ℕ) (k : ℕ) (b : Bool) → bytes_eq u v ≡ b
      → cond b (Some adds.place) (lookup (bytes_eq v) old.others) ≡ Some k → StandsBeyond w new k v
  stands_by before v k true same e =
      subst (λ x. StandsBeyond w new k x) ((bytes_eq-Decides u v).0 same) (subst (λ j. StandsBeyond w new j u) (same_Some adds.place k e) new_stands)
  stands_by before v k false same e = still_stands v k (before v k e)

  has_by : (v : List ℕ) (b : Bool) → HasOthers old v → (k : ℕ) × (cond b (Some adds.place) (lookup (bytes_eq v) old.others) ≡ Some k)
  has_by v true has = (adds.place, refl)
  has_by v false has = has

  still_has : (v : List ℕ) → HasOthers old v → HasOthers new v
  still_has v has = let found = has_by v (bytes_eq u v) has in (found.0, adds.others v ∙ found.1)

  has_new : HasOthers new u
  has_new = (adds.place, adds.others u ∙ ap (λ b. cond b (Some adds.place) (lookup (bytes_eq u) old.others)) ((bytes_eq-Decides u u).1 refl))

  pub one_told : (us : List (List ℕ)) (n : ℕ) → slice_get us n ≡ Some u → IsToldOf w old us n → IsToldOf w new us (n + 1)
  one_told us n at before = record {
    names = λ k q e. adds.names k q (before.names k q e);
    others = λ v k e. stands_by before.others v k (bytes_eq u v) refl (sym (adds.others v) ∙ e);
    done = holds_on (HasOthers new) us n u at has_new (λ k v less e. still_has v (before.done k v less e));
  }

-- the number of a namespace is that of its longest name
pub measured_most : (w : Written) (u : List ℕ) (o : Option ℕ) (bytes : ℕ) → o ≡ lookup (bytes_eq u) w.longest → bytes ≡ unwrap_or o 0
    → (b : ℕ) → IsMeasured w u b → b ≤ bytes
measured_most w u o bytes found taken b is = let same : bytes ≡ is.0 = taken ∙ ap (λ x. unwrap_or x 0) (found ∙ is.1) in omega (arith, same, is.2)

-- ---- each namespace with a number is among those of the map

module _ (u : List ℕ) where
  there_by : (e : Namespace × ℕ) (es : List (Namespace × ℕ)) (m : ℕ) (b : Bool) → bytes_eq u (namespace_bytes e.0) ≡ b
      → cond b (Some e.1) (lookup (bytes_eq u) (seen_numbers es)) ≡ Some m
      → (lookup (bytes_eq u) (seen_numbers es) ≡ Some m → (j : ℕ) × (slice_get (map namespace_bytes (keys_of es)) j ≡ Some u))
      → (j : ℕ) × (slice_get (map namespace_bytes (keys_of (e ∷ es))) j ≡ Some u)
  there_by e es m true same is later = (0, ap Some (sym ((bytes_eq-Decides u (namespace_bytes e.0)).0 same)))
  there_by e es m false same is later = let found = later is in (suc found.0, found.1)

  key_there : (es : List (Namespace × ℕ)) (m : ℕ) → lookup (bytes_eq u) (seen_numbers es) ≡ Some m
      → (j : ℕ) × (slice_get (map namespace_bytes (keys_of es)) j ≡ Some u)
  key_there [] m is = absurd (none-some m is)
  key_there (e ∷ es) m is = there_by e es m (bytes_eq u (namespace_bytes e.0)) refl is (key_there es m)

pub all_told : (w : Written) (places : Places) (es : List (Namespace × ℕ)) (n : ℕ) → w.longest ≡ seen_numbers es → length (keys_of es) ≤ n
    → IsToldOf w places (map namespace_bytes (keys_of es)) n → IsTold w places
all_told w places es n same past told = record {
  names = told.names;
  others = told.others;
  all = λ u bytes is.
      let found = key_there u es is.0 (ap (lookup (bytes_eq u)) (sym same) ∙ is.1) in
      holds_of_all (HasOthers places) (map namespace_bytes (keys_of es)) n (omega (arith, past, length-map (keys_of es) namespace_bytes)) told.done found.0 u found.1;
}
