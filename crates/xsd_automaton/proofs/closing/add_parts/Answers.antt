use Rattle.std.proofs.Common.{◌≡◌, ◌∙◌, ◌<◌, ◌-◌, ◌⊎◌, ℕ, List, [], ◌∷◌, refl, sym, subst, inl, inr}
use Rattle.xsd_regex.specs.plain.StateTable.{Has}
use Rattle.xsd_regex.specs.plain.Positions.{Position, position_at}
use Rattle.xsd_regex.proofs.OneOf.{under_in}
use Rattle.xsd_automaton.specs.plain.Closures.{part_edges}
use Rattle.xsd_positions.specs.declared.position.Part.{Part}
use Rattle.xsd_positions.specs.declared.position.Part.TheVariants as part
use Rattle.rng_model.specs.regexes.Expressions.{Class}
use Rattle.xsd_positions.specs.views.Positions.{part_of, positions_of}
use Rattle.xsd_automaton.specs.views.Classes.{classes_of}
use Rattle.xsd_automaton.proofs.closing.add_parts.Goals as goal

below : (ps : List Position) (ks : List Class) (n : ℕ) (p : Part) → ((j : ℕ) → Has (part_edges ps n (part_of ks p)) j → j < 12289)
    → (p ≡ part.Optional) ⊎ (p ≡ part.Repeated) → n - 1 < 12289
below ps ks n p h (inl e) = subst (λ q. (j : ℕ) → Has (part_edges ps n (part_of ks q)) j → j < 12289) e h (n - 1) (inl refl)
below ps ks n p h (inr e) = subst (λ q. (j : ℕ) → Has (part_edges ps n (part_of ks q)) j → j < 12289) e h (n - 1) (inl refl)

pub add-requires : goal.add-requires
add-requires c =
    subst (λ p. (j : ℕ) → Has (part_edges (positions_of c.args.positions.now) c.args.number (part_of (classes_of c.args.positions.now) p)) j → j < 12289)
    c.in-Both.is c.requires c.in-Both.first (inl refl)

pub add-requires-then-is_nullable : goal.add-requires-then-is_nullable
add-requires-then-is_nullable c =
    subst (λ n. n < 12289) (sym c.saturating_sub.ensures)
    (subst (λ p. (j : ℕ) → Has (part_edges (positions_of c.args.positions.now) c.args.number (part_of (classes_of c.args.positions.now) p)) j → j < 12289)
    c.in-Both.is c.requires (c.args.number - 1)
    (inr (under_in _ (position_at (positions_of c.args.positions.now) c.in-Both.first).is_nullable ((c.args.number - 1) ∷ [])
    (sym c.is_nullable.ensures ∙ c.if-is_nullable.true) (inl refl))))

pub add-requires-in-Either : goal.add-requires-in-Either
add-requires-in-Either c =
    subst (λ p. (j : ℕ) → Has (part_edges (positions_of c.args.positions.now) c.args.number (part_of (classes_of c.args.positions.now) p)) j → j < 12289)
    c.in-Either.is c.requires c.in-Either.first (inl refl)

pub add-requires-in-Either-2 : goal.add-requires-in-Either-2
add-requires-in-Either-2 c =
    subst (λ n. n < 12289) (sym c.saturating_sub-in-Either.ensures)
    (subst (λ p. (j : ℕ) → Has (part_edges (positions_of c.args.positions.now) c.args.number (part_of (classes_of c.args.positions.now) p)) j → j < 12289)
    c.in-Either.is c.requires (c.args.number - 1) (inr (inl refl)))

pub add-requires-in-Optional : goal.add-requires-in-Optional
add-requires-in-Optional c =
    subst (λ n. n < 12289) (sym c.saturating_sub-in-Optional.ensures)
    (below (positions_of c.args.positions.now) (classes_of c.args.positions.now) c.args.number c.args.part c.requires c.in-Optional.is)
