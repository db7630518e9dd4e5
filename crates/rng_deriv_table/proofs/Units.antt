-- The units of patterns, as patterns are added.
use Rattle.std.proofs.Common.{◌≡◌, ◌<◌, ◌-◌, ◌^◌, ◌++◌, ◌∷◌, [], ℕ, inl, inr, ⊎_elim, List, Some, arith, length, min, slice_get, subst, sym, ◌∙◌}
use Rattle.std.proofs.lemmas.Bool.{cases_lt}
use Rattle.rng_model.specs.simple.Table.{Table}
use Rattle.rng_model.specs.simple.Tree.{Simple, group, s_joined}
use Rattle.rng_deriv_table.specs.plain.Copies.{AreCopies, AreUnits, IsKeptLast, IsUnit, both}
use Rattle.rng_deriv_table.specs.views.Node.{Node, node_of}
use Rattle.rng_deriv_table.specs.views.PatternTable.{Adds, IsPatternTable, Longer}
use Rattle.rng_deriv_table.specs.views.Trees.{tree_of, tree_over}
use Rattle.rng_deriv_table.specs.declared.pattern.Pattern.{Pattern}
use Rattle.rng_deriv_table.specs.declared.pattern.Pattern.TheVariants as pattern
use Rattle.rng_deriv_table.specs.declared.pattern.PatternNumber.{PatternNumber}
use Rattle.rng_deriv_table.proofs.TableRows.{found_new, found_old}
use Rattle.rng_deriv_table.proofs.Trees.{Longer-length, tree_of-over_parts, tree_stays}

module _ (old new : List Node) (longer : Longer old new) where
  -- a unit stays a unit
  unit_stays : (whole : Table → Simple ℕ) (other : Table → Simple ℕ) (unit : ℕ) → ((t : Table) → other t ≡ whole t) → IsUnit old whole unit
      → IsUnit new other unit
  unit_stays whole other unit same h = ⊎_elim (λ none. inl none)
      (λ k. let inside = k.0 in let long = Longer-length old new longer in
      inr (
        omega (arith, inside, long),
        λ t. subst (λ p. AreCopies p (other t)) (sym (tree_stays t old new unit longer inside))
            (subst (AreCopies (tree_of t old unit)) (sym (same t)) (k.1 t)),
      )) h

  pub units_stay : (units : List ℕ) → AreUnits old units → AreUnits new units
  units_stay units all i unit found =
      let own = all i unit found in
      let inside = own.0 in
      let long = Longer-length old new longer in
      (omega (arith, inside, long), unit_stays _ _ unit (λ t. tree_stays t old new i longer inside) own.1)

  -- and one more is kept
  pub units_kept : (before after : List ℕ) (number unit : ℕ) (whole : Table → Simple ℕ) → AreUnits old before → Adds old new number whole
      → IsUnit old whole unit → IsKeptLast before after number unit → AreUnits new after
  units_kept before after number unit whole all adds own (inl same) = subst (AreUnits new) (sym same) (units_stay before all)
  units_kept before after number unit whole all adds own (inr last) = subst (AreUnits new) (sym last.1) more where
    more : AreUnits new (before ++ unit ∷ [])
    more i other found = ⊎_elim
        (λ h. units_stay before all i other (found_old before unit i other found h))
        (λ h. let at = found_new before unit i other found h in
        let is : i ≡ number = at.0 ∙ last.0 in
        subst (λ i. (i < length new) × IsUnit new (λ t. tree_of t new i) other) (sym is)
        (subst (λ unit. (number < length new) × IsUnit new (λ t. tree_of t new number) unit) at.1
        (adds.inside, unit_stays whole (λ t. tree_of t new number) unit adds.is own)))
        (cases_lt i (length before))

-- no units
pub no_units : (ns : List Node) (units : List ℕ) → units ≡ [] → AreUnits ns units
no_units ns units none i unit found = absurd (cc)

-- the unit of a group whose sides have this one, if its number is small enough
pub unit_of_both : (ns : List Node) (p : Pattern) (first second : PatternNumber) → p ≡ pattern.Group first second → (unit other : PatternNumber) (kept : ℕ)
    → unit ≡ other → unit.0 < length ns → ((t : Table) → AreCopies (tree_of t ns unit.0) (tree_of t ns first.0))
    → ((t : Table) → AreCopies (tree_of t ns other.0) (tree_of t ns second.0)) → kept ≡ min unit.0 (2 ^ 32 - 1)
    → IsUnit ns (λ t. tree_over t (tree_of t ns) (node_of p)) kept
unit_of_both ns p first second is unit other kept same inside a b at = ⊎_elim
    (λ low. let own : kept ≡ unit.0 = omega (arith, low, at) in
    inr (
      omega (arith, own, inside),
      λ t.
          subst (λ k. AreCopies (tree_of t ns k) (tree_over t (tree_of t ns) (node_of p))) (sym own)
          (subst (λ p. AreCopies (tree_of t ns unit.0) (tree_over t (tree_of t ns) (node_of p))) (sym is)
          (both (a t) (subst (λ (u : PatternNumber). AreCopies (tree_of t ns u.0) (tree_of t ns second.0)) (sym same) (b t)))),
    ))
    (λ high. inl (omega (arith, high, at)))
    (cases_lt unit.0 (2 ^ 32 - 1))

-- the sides of a group are before it, and its tree is made of theirs
pub group_there : (ns : List Node) (i : ℕ) (p : Pattern) (first second : PatternNumber) → IsPatternTable ns → slice_get ns i ≡ Some (node_of p)
    → p ≡ pattern.Group first second → (first.0 < i) × (second.0 < i)
    × ((t : Table) → tree_of t ns i ≡ s_joined group (tree_of t ns first.0) (tree_of t ns second.0))
group_there ns i p first second table found is =
    let at : slice_get ns i ≡ Some (node_of (pattern.Group first second)) = subst (λ p. slice_get ns i ≡ Some (node_of p)) is found in
    let below = table.falls i (node_of (pattern.Group first second)) at in
    (below.0, below.1, λ t. tree_of-over_parts t ns i (node_of (pattern.Group first second)) below at)
