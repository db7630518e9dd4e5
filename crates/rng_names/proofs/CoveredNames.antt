-- The namespaces of the names of a class.
use Rattle.std.proofs.Common.{◌≡◌, refl, sym, ap, ap₂, ◌∙◌, ℕ, ◌+◌, ◌<◌, ◌≤◌, List, [], ◌∷◌, length, take, get_or, map, Bool, true, false, ◌||◌, cond}
use Rattle.std.proofs.Common.{bytes_eq, Bor}
use Rattle.std.specs.List.{list_any}
use Rattle.std.proofs.lemmas.List.{take_all}
use Rattle.std.proofs.lemmas.List.Folds.{list_any_more}
use Rattle.std.proofs.lemmas.Slice.Eq.{bytes_eq-Decides}
use Rattle.std.proofs.lemmas.Bool.{or_parts}
use Rattle.rng_model.proofs.Truths.{not_both}
use Rattle.rng_model.specs.names.Names.{Name, NameClass, some_of}
use Rattle.rng_model.specs.plain.ClassesApart.{AreApart}
use Rattle.rng_names.specs.plain.Holding.{holds}
use Rattle.rng_names.specs.views.Namespaces.{Covers, has_ns}
use Rattle.rng_names.specs.declared.namespaces.Namespaces.{Namespaces}
use Rattle.rng_names.proofs.ClassChoices.{holds-members}
use Rattle.rng_names.proofs.HeldByAlternatives.{or-assoc}
use Rattle.rng_names.proofs.Holding.{holds-Decides}
use Rattle.rng_names.proofs.NameSets.{one_more}

-- ---- one more

pub ns_more : (any x b y : Bool) → y ≡ cond b true x → (any || y) ≡ ((any || x) || b)
ns_more any x b y is = ap (λ z. any || z) (is ∙ one_more b x) ∙ sym (or-assoc any x b)

-- ---- the members of a choice

or-cases : (x y z : Bool) → (x ≡ true → z ≡ true) → (y ≡ true → z ≡ true) → (x || y) ≡ true → z ≡ true
or-cases true y z f g e = f refl
or-cases false y z f g e = g e

module _ {A : Type 0} (f : A → NameClass) (xs : List A) where
  -- the names of the first members are covered
  abbrev pub CoversFirst : Namespaces → ℕ → Type 0
  CoversFirst all n = (q : Name) → list_any (λ x. holds (f x) q) (take n xs) ≡ true → has_ns all q.ns ≡ true

  pub covers_more : (old new : Namespaces) (n : ℕ) (x : A) → n < length xs → x ≡ get_or xs n x
      → ((u : List ℕ) → has_ns old u ≡ true → has_ns new u ≡ true) → Covers new (f x) → CoversFirst old n → CoversFirst new (n + 1)
  covers_more old new n x inside at kept covers first q e =
      or-cases (list_any (λ x. holds (f x) q) (take n xs)) (holds (f (get_or xs n x)) q) (has_ns new q.ns) (λ h. kept q.ns (first q h))
      (λ h. covers q (ap (λ y. holds (f y) q) at ∙ h)) (sym (list_any_more (λ x. holds (f x) q) xs n x inside) ∙ e)

  pub covers_all : (all : Namespaces) (n : ℕ) (c : NameClass) → length xs ≤ n → c ≡ some_of (map f xs) → CoversFirst all n → Covers all c
  covers_all all n c past whole first q e =
      first q (ap (list_any (λ x. holds (f x) q)) (take_all n xs past) ∙ sym (holds-members f xs q) ∙ ap (λ k. holds k q) (sym whole) ∙ e)

-- ---- namespaces that are apart

abbrev pub is_listed : List (Bor (List ℕ)) → List ℕ → Bool
is_listed keys u = list_any (λ k. bytes_eq u k.now) keys

pub listed_apart : (keys others : List (Bor (List ℕ))) (u : List ℕ) → list_any (λ k. is_listed keys k.now) others ≡ false → is_listed keys u ≡ true
    → is_listed others u ≡ false
listed_apart keys [] u none e = refl
listed_apart keys (k ∷ others) u none e =
    let parts = or_parts (is_listed keys k.now) _ none in
    ap₂ (λ x y. x || y) (by (bytes_eq u k.now) refl) (listed_apart keys others u parts.1 e) where
      by : (b : Bool) → bytes_eq u k.now ≡ b → bytes_eq u k.now ≡ false
      by false f = f
      by true f =
          let here : is_listed keys k.now ≡ false = (or_parts (is_listed keys k.now) _ none).0 in
          let same : u ≡ k.now = (bytes_eq-Decides u k.now).0 f in
          absurd (not_both (ap (is_listed keys) (sym same) ∙ e) here)

-- classes without a common namespace have no common name
pub apart_by_namespaces : (all others : Namespaces) (c d : NameClass) → Covers all c → Covers others d
    → ((u : List ℕ) → has_ns all u ≡ true → has_ns others u ≡ false) → AreApart c d
apart_by_namespaces all others c d first second apart q in_c in_d =
    not_both (second q ((holds-Decides d q).1 in_d)) (apart q.ns (first q ((holds-Decides c q).1 in_c)))
