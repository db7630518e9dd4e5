-- The contents of a set of names and namespaces after one more is inserted.
use Rattle.std.proofs.Common.{◌≡◌, refl, sym, ap, ap₂, ◌∙◌, ℕ, ◌≤◌, length, List, [], ◌∷◌, Bool, true, false, cond, map, ◌&&◌, ◌||◌, Option, Some, None, Bor, bytes_eq, arith, rules}
use Rattle.std.specs.HashSet.{HashSet, contains}
use Rattle.std.specs.List.{list_any}
use Rattle.std.specs.Option.{option_eq}
use Rattle.std.proofs.Math.Bool.{or-false}
use Rattle.std.proofs.lemmas.Slice.Eq.{bytes_eq-Decides}
use Rattle.rng_names.specs.views.NameSets.{IsMeasured, bytes_of, has, same_parts, seen, seen_key}
use Rattle.rng_names.specs.declared.name_set.NameOrNs.{NameOrNs}
use Rattle.rng_names.specs.contracts.name_set.NameOrNsPartialEq.TheImpl as same

-- ---- keys are compared by their views

same_seen : (a b : Option (Bor (List ℕ))) → option_eq (λ x y. bytes_eq x.now y.now) a b ≡ option_eq bytes_eq (seen a) (seen b)
same_seen None None = refl
same_seen None (Some b) = refl
same_seen (Some a) None = refl
same_seen (Some a) (Some b) = refl

same_keys : (k m : NameOrNs) → same.ghosts.eq k m ≡ same_parts k.ns.now (seen k.local) m.ns.now (seen m.local)
same_keys k m = ap (λ b. bytes_eq k.ns.now m.ns.now && b) (same_seen k.local m.local)

pub any_same : (k : NameOrNs) (ks : List NameOrNs) → list_any (same.ghosts.eq k) ks ≡ has (map seen_key ks) k.ns.now (seen k.local)
any_same k [] = refl
any_same k (m ∷ ks) = ap₂ (λ x y. x || y) (same_keys k m) (any_same k ks)

-- ---- one more

abbrev pub text : List ℕ → Bor (List ℕ)
text u = record { ref_ptr = (0, 0); now = u }

pub one_more : (b x : Bool) → cond b true x ≡ (x || b)
one_more false x = sym (or-false x)
one_more true false = refl
one_more true true = refl

module _ {S : Type 0} (old new : HashSet NameOrNs S) (k : NameOrNs)
    (updates : (m : NameOrNs) → contains same.ghosts.eq new m ≡ cond (same.ghosts.eq k m) true (contains same.ghosts.eq old m)) where
  at_key : (m : NameOrNs) → has (map seen_key new.keys) m.ns.now (seen m.local)
      ≡ (has (map seen_key old.keys) m.ns.now (seen m.local) || same_parts k.ns.now (seen k.local) m.ns.now (seen m.local))
  at_key m = sym (any_same m new.keys) ∙ updates m ∙ one_more (same.ghosts.eq k m) (contains same.ghosts.eq old m)
      ∙ ap₂ (λ x y. x || y) (any_same m old.keys) (same_keys k m)

  pub one_more_key : (u : List ℕ) (l : Option (List ℕ)) → has (map seen_key new.keys) u l ≡ (has (map seen_key old.keys) u l || same_parts k.ns.now (seen k.local) u l)
  one_more_key u None = at_key (record { ns = text u; local = None })
  one_more_key u (Some l) = at_key (record { ns = text u; local = Some (text l) })

-- ---- the longest local name

-- equal local names have as many bytes
same_bytes : (l m : Option (List ℕ)) → option_eq bytes_eq l m ≡ true → bytes_of l ≡ bytes_of m
same_bytes None None e = refl
same_bytes None (Some m) e = search rules
same_bytes (Some l) None e = search rules
same_bytes (Some l) (Some m) e = ap length ((bytes_eq-Decides l m).0 e)

and-second : (x y : Bool) → (x && y) ≡ true → y ≡ true
and-second true y e = e
and-second false y e = search rules

-- a number that bounds the old local names and the new one bounds all
pub measured_more : (old new : List (List ℕ × Option (List ℕ))) (most more : ℕ) (u : List ℕ) (l : Option (List ℕ)) → IsMeasured old most
    → ((v : List ℕ) (m : Option (List ℕ)) → has new v m ≡ (has old v m || same_parts u l v m)) → most ≤ more → bytes_of l ≤ more → IsMeasured new more
measured_more old new most more u l measured grown less inside v m e = by (has old v m) refl where
  by : (b : Bool) → has old v m ≡ b → bytes_of m ≤ more
  by true f = let below = measured v m f in omega (arith, below, less)
  by false f =
      let there : same_parts u l v m ≡ true = ap (λ b. b || same_parts u l v m) (sym f) ∙ sym (grown v m) ∙ e in
      let same : bytes_of l ≡ bytes_of m = same_bytes l m (and-second (bytes_eq u v) _ there) in
      omega (arith, same, inside)
