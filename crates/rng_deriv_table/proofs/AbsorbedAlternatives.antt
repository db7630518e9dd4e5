-- A choice without the alternatives that another one absorbs takes the same.
use Rattle.std.proofs.Common.{◌≡◌, ◌⊎◌, ℕ, zero, suc, ◌+◌, ◌<◌, ◌≤◌, All, Bool, true, false, cond, List, [], ◌∷◌, length, refl, sym, subst, ⊎_elim, inl}
use Rattle.std.proofs.Common.{inr, arith, not, nat_eq, IsTrue}
use Rattle.std.specs.HashSet.{HashSet, contains}
use Rattle.std.specs.List.{Contains, filter}
use Rattle.std.proofs.lemmas.List.Elements.{Contains-append_cases, Contains-append_left, Contains-append_right}
use Rattle.rng_model.specs.matching.Document.{Attribute, Item}
use Rattle.rng_model.specs.simple.Table.{Table}
use Rattle.rng_model.specs.matching.GrammarMatching.{Reading}
use Rattle.rng_deriv_laws.specs.plain.Taking.{Takes}
use Rattle.rng_deriv_table.specs.views.Choices.{IsAbsorbedBy, SomeTakes}
use Rattle.rng_deriv_table.specs.views.Node.{Node}
use Rattle.rng_deriv_table.specs.views.Trees.{tree_of}
use Rattle.rng_deriv_table.specs.declared.pattern.PatternNumber.{PatternNumber}
use Rattle.rng_deriv_table.proofs.Alternatives.{each_of}
use Rattle.rng_deriv_table.proofs.Choices.{only_one}

-- ---- what passes a test is kept

module _ (test : PatternNumber → Bool) where
  later : (b : Bool) (n m : PatternNumber) (ms : List PatternNumber) → Contains ms m → Contains (cond b (n ∷ ms) ms) m
  later true n m ms h = Contains-append_right (n ∷ []) ms m h
  later false n m ms h = h

  stays : (ms : List PatternNumber) (m : PatternNumber) → Contains ms m → test m ≡ true → Contains (filter test ms) m
  stays [] m h e = absurd (omega (arith, h.1))
  stays (n ∷ ms) m h e = ⊎_elim
      (λ c. let passes : test n ≡ true = subst (λ k. test k ≡ true) (sym (only_one n m c)) e in
      subst (λ b. Contains (cond b (n ∷ filter test ms) (filter test ms)) m) (sym passes)
      (Contains-append_left (n ∷ []) (filter test ms) m c))
      (λ c. later (test n) n m (filter test ms) (stays ms m c e))
      (Contains-append_cases (n ∷ []) ms m h)

-- ---- what is left takes the same

module _ (ns : List Node) (all left : List PatternNumber) (inside : All (λ m. m.0 < length ns) all)
    (stands : (m : PatternNumber) → Contains all m → Contains left m ⊎ ((other : PatternNumber) × Contains all other × IsAbsorbedBy ns m other)) where
  -- by going up from a pattern to one that absorbs it
  upward : (n : ℕ) (t : Table) (g : Reading) (xs : List Attribute) (is : List Item) (m : PatternNumber) → Contains all m → length ns ≤ m.0 + n
      → Takes g (tree_of t ns m.0) xs is → SomeTakes g (tree_of t ns) left xs is
  upward zero t g xs is m h room d = let low = each_of (λ m. m.0 < length ns) all inside m h in absurd (omega (arith, room, low))
  upward (suc n) t g xs is m h room d = ⊎_elim
      (λ c. (m, c, d))
      (λ a. let above = a.2.above in upward n t g xs is a.0 a.1 (omega (arith, room, above)) (a.2.takes t g xs is d))
      (stands m h)

  pub left_takes : (t : Table) (g : Reading) (xs : List Attribute) (is : List Item) → SomeTakes g (tree_of t ns) all xs is
      → SomeTakes g (tree_of t ns) left xs is
  left_takes t g xs is d = upward (length ns) t g xs is d.0 d.1 (omega arith) d.2

-- a list without the members of a set
module _ {Z : Type 0} (ns : List Node) (absorbed : HashSet ℕ Z) (all : List PatternNumber)
    (each : (m : PatternNumber) → IsTrue (contains nat_eq absorbed m.0) → (other : PatternNumber) × Contains all other × IsAbsorbedBy ns m other) where
  pub left_or_absorbed : (m : PatternNumber) → Contains all m → Contains (filter (λ m. not (contains nat_eq absorbed m.0)) all) m
      ⊎ ((other : PatternNumber) × Contains all other × IsAbsorbedBy ns m other)
  left_or_absorbed m h = by (contains nat_eq absorbed m.0) refl
    where
      by : (b : Bool) → contains nat_eq absorbed m.0 ≡ b → Contains (filter (λ m. not (contains nat_eq absorbed m.0)) all) m
          ⊎ ((other : PatternNumber) × Contains all other × IsAbsorbedBy ns m other)
      by true e = inr (each m e)
      by false e = inl (stays (λ m. not (contains nat_eq absorbed m.0)) all m h (subst (λ b. not b ≡ true) (sym e) refl))
