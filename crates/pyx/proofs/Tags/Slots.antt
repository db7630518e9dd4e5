-- Names whose slots are not set are not among the attributes.
use Rattle.std.proofs.Common.{◌≡◌, Bool, true, false, ◌||◌, ℕ, ◌≤◌, ◌-◌, List, [], ◌∷◌, map, refl, sym, ap, ◌∙◌, length, get_or, take, drop}
use Rattle.std.specs.List.{between}
use Rattle.std.proofs.lemmas.Slice.{first_rest}
use Rattle.rng_model.specs.matching.Document.{Attribute}
use Rattle.rng_model.specs.names.Names.{Name}
use Rattle.rng_model.specs.documents.EventViews.{attribute_of}
use Rattle.rng_model.specs.declared.document.Attr.{Attr}
use Rattle.pyx.specs.plain.Slots.{AreMet}
use Rattle.pyx.specs.plain.NamespacesSlots.{is_met}
use Rattle.pyx.specs.plain.TagReader.{same_name, is_named_in, is_named_twice}
use Rattle.pyx.proofs.Tags.Repeats.{names_same, true_false}

pub not_met : (name : Name) (slots : List Bool) (all : List Attribute) → is_met slots name.local ≡ false → AreMet slots all → is_named_in name all ≡ false
unfolding is_named_in
not_met name slots [] e met = refl
not_met name slots (a ∷ more) e met = go (same_name a.name name) refl (not_met name slots more e met.1) where
  go : (b : Bool) → same_name a.name name ≡ b → is_named_in name more ≡ false → (b || is_named_in name more) ≡ false
  go true k f = absurd (true_false (sym met.0 ∙ ap (λ (n : Name). is_met slots n.local) (names_same a.name name k) ∙ e))
  go false k f = f

pub unmet : (a : Attribute) (slots : List Bool) (more : List Attribute) → is_met slots a.name.local ≡ false → AreMet slots more
    → is_named_twice more ≡ false → is_named_twice (a ∷ more) ≡ false
unfolding is_named_twice
unmet a slots more e met t = rw (not_met a.name slots more e met, t) refl

pub all_kept : (old new : List Bool) (all : List Attribute) → ((other : List ℕ) → is_met old other ≡ true → is_met new other ≡ true)
    → AreMet old all → AreMet new all
all_kept old new [] kept met = tt
all_kept old new (a ∷ more) kept met = (kept a.name.local met.0, all_kept old new more kept met.1)

-- the first attribute, and the rest
pub first_and_rest : (attrs : List Attr) (first : Attr) → 1 ≤ length attrs → first ≡ get_or attrs 0 first
    → map attribute_of attrs ≡ attribute_of first ∷ map attribute_of (take (length attrs - 1) (drop 1 attrs))
first_and_rest attrs first some e = ap (map attribute_of) (first_rest attrs first some ∙ ap (λ (a : Attr). a ∷ between 1 (length attrs) attrs) (sym e))
