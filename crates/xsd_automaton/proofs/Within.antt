-- Positions lead no further than the end.
use Rattle.std.proofs.Common.{◌≡◌, ◌≤◌, ◌-◌, ℕ, List, [], ◌∷◌, length, subst, inl, inr, arith}
use Rattle.std.proofs.lemmas.Bool.{cases_lt}
use Rattle.std.proofs.lemmas.List.{get_or_past}
use Rattle.rng_model.specs.regexes.Expressions.{holds, Regex}
use Rattle.rng_model.specs.regexes.plain.LinearForms.{RegexState}
use Rattle.xsd_regex.specs.plain.StateTable.{Has}
use Rattle.xsd_regex.specs.plain.Positions.{Part, nothing_part, class_part, both_part, either_part, optional_part, repeated_part}
use Rattle.xsd_regex.specs.plain.Positions.{Position, position_at, IsPart, is_nothing, is_class, is_both, is_either, is_optional}
use Rattle.xsd_regex.specs.plain.Positions.{is_repeated, ArePositions}
use Rattle.xsd_regex.proofs.OneOf.{of_both, under_out}
use Rattle.xsd_automaton.specs.plain.Closures.{no_position, part_edges, edges_of, edges, next_of, next_at, AreWithin}
use Rattle.xsd_automaton.proofs.Edges.{only_has}

module _ (states : List RegexState) (ps : List Position) where
  part_below : (i next : ℕ) (p : Part) (r : Regex) (j : ℕ) → IsPart states i next p r → Has (part_edges ps i p) j → j ≤ i
  part_below i next _ _ j is_nothing h = absurd h
  part_below i next _ _ j is_class h = absurd h
  part_below i next _ _ j (is_both below some left right) (inl e) = omega (arith, below, e)
  part_below i next _ _ j (is_both {l} below some left right) (inr h) =
      let u = under_out (λ n. j ≡ n) (position_at ps l).is_nullable ((i - 1) ∷ []) h in
      let e = only_has (i - 1) j u.1 in omega (arith, e)
  part_below i next _ _ j (is_either below some left right) (inl e) = omega (arith, below, e)
  part_below i next _ _ j (is_either below some left right) (inr h) = let e = only_has (i - 1) j h in omega (arith, e)
  part_below i next _ _ j (is_optional some state) h = let e = only_has (i - 1) j h in omega (arith, e)
  part_below i next _ _ j (is_repeated some state) h = let e = only_has (i - 1) j h in omega (arith, e)

next_only : (c : ℕ) (p : Part) (n j : ℕ) → Has (next_of c p n) j → j ≡ n
next_only c nothing_part n j h = absurd h
next_only c (class_part k) n j h = only_has n j (under_out (λ m. j ≡ m) (holds k c) (n ∷ []) h).1
next_only c (both_part l) n j h = absurd h
next_only c (either_part l) n j h = absurd h
next_only c optional_part n j h = absurd h
next_only c repeated_part n j h = absurd h

pub are_within : (states : List RegexState) (ps : List Position) → ArePositions states ps → AreWithin ps
are_within states ps are = record { edge = edge; next = next } where
  edge : (i j : ℕ) → Has (edges ps i) j → j ≤ length ps
  edge i j h =
      elim (cases_lt i (length ps)) [
        | inl lt ↦
            let p = are.each i lt in
            let here = position_at ps i in
            elim (of_both (λ n. j ≡ n) (part_edges ps i here.part) _ h) [
              | inl a ↦ let below = part_below states ps i here.next here.part p.expression j p.part a in omega (arith, below, lt)
              | inr b ↦
                  let e = only_has here.next j (under_out (λ n. j ≡ n) here.is_nullable (here.next ∷ []) b).1 in
                  let most = p.within in omega (arith, e, most)
            ]
        | inr past ↦ absurd (subst (λ p. Has (edges_of ps i p) j) (get_or_past ps i no_position past) h)
      ]

  next : (c i j : ℕ) → Has (next_at ps c i) j → j ≤ length ps
  next c i j h =
      elim (cases_lt i (length ps)) [
        | inl lt ↦
            let e = next_only c (position_at ps i).part (position_at ps i).next j h in
            let most = (are.each i lt).within in omega (arith, e, most)
        | inr past ↦ absurd (subst (λ p. Has (next_of c p.part p.next) j) (get_or_past ps i no_position past) h)
      ]
