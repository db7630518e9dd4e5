-- A position of the code is that of the definitions with its number.
use Rattle.std.proofs.Common.{◌≡◌, ◌∙◌, ◌<◌, ◌≤◌, ℕ, zero, suc, List, [], ◌∷◌, length, true, false, cond, None, Some, refl, ap}
use Rattle.std.proofs.Common.{sym, subst, inl, inr, arith}
use Rattle.std.proofs.lemmas.Bool.{cases_lt}
use Rattle.std.proofs.lemmas.List.{get_or_past, length-map}
use Rattle.xsd_automaton.specs.plain.Closures.{no_position, next_of, next_at}
use Rattle.std.specs.List.{slice_get}
use Rattle.std.proofs.lemmas.Option.{slice_get-map, get_or_from_slice_get}
use Rattle.std.specs.Option.{option_map}
use Rattle.rng_model.specs.regexes.Expressions.{Class, holds}
use Rattle.xsd_positions.specs.declared.position.Part.{Part}
use Rattle.xsd_positions.specs.declared.position.Part.TheVariants as part
use Rattle.xsd_positions.specs.declared.position.Position.{Position}
use Rattle.xsd_positions.specs.declared.position.Positions.{Positions}
use Rattle.xsd_regex.specs.plain.Positions as plain
use Rattle.xsd_positions.specs.views.Positions.{part_of, position_of, positions_of}
use Rattle.xsd_positions.specs.views.Positions.{class_at}
use Rattle.xsd_automaton.specs.views.Classes.{classes_of}

pub position_found : (ps : Positions) (i : ℕ) (p : Position) → slice_get ps.positions.items i ≡ Some p
    → plain.position_at (positions_of ps) i ≡ position_of (classes_of ps) p
position_found ps i p e =
    get_or_from_slice_get (positions_of ps) i (position_of (classes_of ps) p) _
    (slice_get-map (position_of (classes_of ps)) ps.positions.items i ∙ ap (option_map (position_of (classes_of ps))) e)

pub position_missing : (ps : Positions) (i : ℕ) → None ≡ slice_get ps.positions.items i → plain.position_at (positions_of ps) i ≡ no_position
position_missing ps i e =
    elim (cases_lt i (length ps.positions.items)) [
      | inl lt ↦ absurd (past_none ps.positions.items i lt (sym e))
      | inr past ↦ get_or_past (positions_of ps) i no_position (subst (λ n. n ≤ i) (sym (length-map ps.positions.items (position_of (classes_of ps)))) past)
    ]
  where
    past_none : {A : Type 0} (is : List A) (k : ℕ) → k < length is → slice_get is k ≡ None → ⊥
    past_none [] k lt e = absurd (omega (arith, lt))
    past_none (x ∷ is) zero lt e = cc
    past_none (x ∷ is) (suc k) lt e = past_none is k (omega (arith, lt)) e

-- ---- what is behind a position

module _ (ps : Positions) (i c : ℕ) where
  module _ (p : Position) (e : slice_get ps.positions.items i ≡ Some p) where
    same_next : next_at (positions_of ps) c i ≡ next_of c (part_of (classes_of ps) p.part) p.next
    same_next = ap (λ q. next_of c q.part q.next) (position_found ps i p e)

    class_next : (k : ℕ) → p.part ≡ part.OneOf k
        → next_at (positions_of ps) c i ≡ cond (holds (class_at (classes_of ps) k) c) (p.next ∷ []) []
    class_next k is = same_next ∙ ap (λ x. next_of c (part_of (classes_of ps) x) p.next) is

    pub next_found : (k : ℕ) → p.part ≡ part.OneOf k → holds (class_at (classes_of ps) k) c ≡ true → p.next ∷ [] ≡ next_at (positions_of ps) c i
    next_found k is h = sym (class_next k is ∙ ap (λ b. cond b (p.next ∷ []) []) h)

    pub next_not : (k : ℕ) → p.part ≡ part.OneOf k → holds (class_at (classes_of ps) k) c ≡ false → [] ≡ next_at (positions_of ps) c i
    next_not k is h = sym (class_next k is ∙ ap (λ b. cond b (p.next ∷ []) []) h)

    no_class : (ks : List Class) (n : ℕ) (q : Part) → ((k : ℕ) → q ≡ part.OneOf k → ⊥) → next_of c (part_of ks q) n ≡ []
    no_class ks n part.Nothing h = refl
    no_class ks n (part.OneOf k) h = absurd (h k refl)
    no_class ks n part.Never h = refl
    no_class ks n (part.Both l) h = refl
    no_class ks n (part.Either l) h = refl
    no_class ks n part.Optional h = refl
    no_class ks n part.Repeated h = refl

    pub next_none : ((k : ℕ) → p.part ≡ part.OneOf k → ⊥) → [] ≡ next_at (positions_of ps) c i
    next_none h = sym (same_next ∙ no_class (classes_of ps) p.next p.part h)

  pub next_missing : None ≡ slice_get ps.positions.items i → [] ≡ next_at (positions_of ps) c i
  next_missing e = sym (ap (λ q. next_of c q.part q.next) (position_missing ps i e))
