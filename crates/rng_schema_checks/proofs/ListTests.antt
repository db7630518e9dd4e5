-- Tests of the members of a list, and of names.
use Rattle.std.proofs.Common.{◌≡◌, inl, inr, refl, sym, ap, ◌∙◌, List, [], ◌∷◌, Bool, true, Some, None}
use Rattle.std.specs.List.{list_any}
use Rattle.std.proofs.lemmas.Bool.{or_cases, or_left, or_right}
use Rattle.std.proofs.lemmas.Slice.Eq.{bytes_eq-Decides}
use Rattle.rng_model.proofs.Truths.{no_truth}
use Rattle.rng_model.specs.names.Lists.{Among, here, there}
use Rattle.rng_model.specs.schema.Schema.{same_component_name}
use Rattle.rng_schema_checks.specs.plain.GrammarTests.{Name}

module _ {A : Type 0} (p : A → Bool) where
  pub any_found : (xs : List A) → list_any p xs ≡ true → (x : A) × Among x xs × (p x ≡ true)
  any_found [] e = no_truth e
  any_found (x ∷ xs) e = elim (or_cases (p x) (list_any p xs) e) [
    | inl this ↦ (x, here, this)
    | inr later ↦ let found = any_found xs later in (found.0, there found.1, found.2)
  ]

  pub any_met : {x : A} {xs : List A} → Among x xs → p x ≡ true → list_any p xs ≡ true
  any_met {x} (here {xs}) e = or_left (p x) (list_any p xs) e
  any_met (there {y} {xs} a) e = or_right (p y) (list_any p xs) (any_met a e)

pub same_name-found : (a b : Name) → same_component_name a b ≡ true → a ≡ b
same_name-found None None e = refl
same_name-found None (Some b) e = no_truth e
same_name-found (Some a) None e = no_truth e
same_name-found (Some a) (Some b) e = ap Some ((bytes_eq-Decides a b).0 e)

same_as_itself : (a : Name) → same_component_name a a ≡ true
same_as_itself None = refl
same_as_itself (Some a) = (bytes_eq-Decides a a).1 refl

pub same_name-met : (a b : Name) → a ≡ b → same_component_name a b ≡ true
same_name-met a b e = ap (same_component_name a) (sym e) ∙ same_as_itself a
