-- Declarations whose slots are not set are not there.
use Rattle.std.proofs.Common.{◌≡◌, Bool, true, false, ◌||◌, ℕ, ◌≤◌, ◌-◌, List, [], ◌∷◌, map, refl, sym, ap, ◌∙◌, length, get_or, take, drop}
use Rattle.std.proofs.Common.{string_bytes}
use Rattle.std.specs.List.{between}
use Rattle.std.proofs.lemmas.Slice.{first_rest}
use Rattle.rng_model.proofs.Texts.{bytes_same}
use Rattle.pyx.specs.declared.namespaces.written.WrittenAttribute.{WrittenAttribute}
use Rattle.pyx.specs.plain.WrittenNames.{written_of}
use Rattle.pyx.specs.plain.NamespacesSlots.{AreAllMet, is_met}
use Rattle.pyx.specs.plain.Declarations.{same_written, is_written_in, is_written_twice}
use Rattle.pyx.specs.views.WrittenAttributes.{written_attribute, written_bytes}
use Rattle.pyx.proofs.Lines.WrittenNames.{written_alike}

true_false : true ≡ false → ⊥
true_false e = cc

pub not_written : (name : List ℕ) (slots : List Bool) (all : List WrittenAttribute) → is_met slots name ≡ false → AreAllMet slots (map written_bytes all)
    → is_written_in (written_of name) (map written_attribute all) ≡ false
unfolding is_written_in
not_written name slots [] e met = refl
not_written name slots (a ∷ more) e met =
    go (same_written (written_of (string_bytes a.name)) (written_of name)) refl (not_written name slots more e met.1) where
      go : (b : Bool) → same_written (written_of (string_bytes a.name)) (written_of name) ≡ b
          → is_written_in (written_of name) (map written_attribute more) ≡ false → (b || is_written_in (written_of name) (map written_attribute more)) ≡ false
      go true k f = absurd (true_false (sym met.0
          ∙ ap (is_met slots) (bytes_same (string_bytes a.name) name (sym (written_alike (string_bytes a.name) name) ∙ k)) ∙ e))
      go false k f = f

pub unmet_written : (a : WrittenAttribute) (slots : List Bool) (more : List WrittenAttribute) → is_met slots (string_bytes a.name) ≡ false
    → AreAllMet slots (map written_bytes more) → is_written_twice (map written_attribute more) ≡ false
    → is_written_twice (map written_attribute (a ∷ more)) ≡ false
unfolding is_written_twice
unmet_written a slots more e met t = rw (not_written (string_bytes a.name) slots more e met, t) refl

-- the first of some, and the rest
pub first_written : (attributes : List WrittenAttribute) (first : WrittenAttribute) → 1 ≤ length attributes → first ≡ get_or attributes 0 first
    → attributes ≡ first ∷ take (length attributes - 1) (drop 1 attributes)
first_written attributes first some e = first_rest attributes first some ∙ ap (λ (a : WrittenAttribute). a ∷ between 1 (length attributes) attributes) (sym e)

pub kept_names : (old new : List Bool) (names : List (List ℕ)) → ((other : List ℕ) → is_met old other ≡ true → is_met new other ≡ true)
    → AreAllMet old names → AreAllMet new names
kept_names old new [] kept met = tt
kept_names old new (n ∷ more) kept met = (kept n met.0, kept_names old new more kept met.1)
