-- What a map by places returns.
use Rattle.std.proofs.Common.{◌≡◌, refl, sym, ap, ◌∙◌, ℕ, Bool, true, false, cond, List, [], ◌∷◌, Option, Some, None, Bor}
use Rattle.std.specs.Map.{lookup}
use Rattle.std.specs.Option.{option_copied}
use Rattle.std.specs.Str.{bytes_eq}
use Rattle.std.proofs.lemmas.Slice.Eq.{bytes_eq-Decides}
use Rattle.indexmap.specs.IndexMap.{insert_entry}
use Rattle.rng_model.specs.schema.Patterns as patterns
use Rattle.rng_model.specs.views.SchemaView.{place_eq, place_of}
use Rattle.rng_model.specs.declared.place.Place.{Place}
use Rattle.rng_model.proofs.SamePlaces.{compares_numbers, same_place}
use Rattle.rng_schema_checks.specs.views.Defined.{finds, has_if, has_name}
use Rattle.rng_schema_checks.specs.declared.definitions.DefinedNames.{DefinedNames}

abbrev pub key_eq : Bor Place → Bor Place → Bool
key_eq k m = place_eq k.now m.now

-- the key is this place
abbrev pub is_at : patterns.Place → Bor Place → Bool
is_at x k = bytes_eq x (place_of k.now)

-- ---- a key is looked up

same_test : (k : Bor Place) → key_eq k ≡ is_at (place_of k.now)
same_test k = λ i m. compares_numbers k.now m.now i

pub found_there : (k : Bor Place) (es : List (Bor Place × DefinedNames)) (o : Option (Bor DefinedNames)) → option_copied o ≡ lookup (key_eq k) es
    → (y : List ℕ) → finds o y ≡ has_if (lookup (is_at (place_of k.now)) es) y
found_there k es None e y = ap (λ o. has_if o y) (e ∙ ap (λ test. lookup test es) (same_test k))
found_there k es (Some names) e y = ap (λ o. has_if o y) (e ∙ ap (λ test. lookup test es) (same_test k))

-- ---- a value is put under a key

either_first : {A : Type 0} (a b : Bool) (p q r : A) → a ≡ b → cond b p r ≡ cond a p (cond b q r)
either_first true true p q r e = refl
either_first true false p q r e = absurd (cc)
either_first false true p q r e = absurd (cc)
either_first false false p q r e = refl

in_turn : {A : Type 0} (a b : Bool) (p q r : A) → (a ≡ true → b ≡ true → ⊥) → cond b q (cond a p r) ≡ cond a p (cond b q r)
in_turn true true p q r n = absurd (n refl refl)
in_turn true false p q r n = refl
in_turn false true p q r n = refl
in_turn false false p q r n = refl

module _ {V : Type 0} (x : patterns.Place) (k : Bor Place) (v : V) where
  by_key : (e : Bor Place × V) (es : List (Bor Place × V)) (b : Bool) → key_eq k e.0 ≡ b
      → lookup (is_at x) (insert_entry key_eq es k v) ≡ cond (is_at x k) (Some v) (lookup (is_at x) es)
      → lookup (is_at x) (cond b ((e.0, v) ∷ es) (e ∷ insert_entry key_eq es k v)) ≡ cond (is_at x k) (Some v) (lookup (is_at x) (e ∷ es))
  by_key e es true is later =
      either_first (is_at x k) (is_at x e.0) (Some v) (Some e.1) (lookup (is_at x) es) (ap (bytes_eq x) ((same_place k.now e.0.now).0 is))
  by_key e es false is later =
      ap (cond (is_at x e.0) (Some e.1)) later ∙ in_turn (is_at x k) (is_at x e.0) (Some v) (Some e.1) (lookup (is_at x) es) not_both
    where
      not_both : is_at x k ≡ true → is_at x e.0 ≡ true → ⊥
      not_both a b =
          let same = sym ((bytes_eq-Decides x (place_of k.now)).0 a) ∙ (bytes_eq-Decides x (place_of e.0.now)).0 b in
          let equal = (same_place k.now e.0.now).1 same in cc

  pub after_insert : (es : List (Bor Place × V)) →
      lookup (is_at x) (insert_entry key_eq es k v) ≡ cond (is_at x k) (Some v) (lookup (is_at x) es)
  after_insert [] = refl
  after_insert (e ∷ es) = by_key e es (key_eq k e.0) refl (after_insert es)

has_either : (b : Bool) (names : DefinedNames) (o : Option DefinedNames) (y : List ℕ) →
    has_if (cond b (Some names) o) y ≡ cond b (has_name names y) (has_if o y)
has_either true names o y = refl
has_either false names o y = refl

pub defined_after : (x : patterns.Place) (y : List ℕ) (k : Bor Place) (names : DefinedNames) (es : List (Bor Place × DefinedNames)) →
    has_if (lookup (is_at x) (insert_entry key_eq es k names)) y ≡ cond (is_at x k) (has_name names y) (has_if (lookup (is_at x) es) y)
defined_after x y k names es = ap (λ o. has_if o y) (after_insert x k names es) ∙ has_either (is_at x k) names (lookup (is_at x) es) y
