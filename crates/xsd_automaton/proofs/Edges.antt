-- What a closed set of positions accepts.
use Rattle.std.proofs.Common.{◌≡◌, ◌↔◌, ◌∙◌, ℕ, zero, suc, ◌-◌, ◌<◌, ◌≤◌, List, [], ◌∷◌, ◌++◌, length, true, refl, sym, ap, subst}
use Rattle.std.proofs.Common.{inl, inr, arith}
use Rattle.std.proofs.Common.{None, ◌⊎◌}
use Rattle.std.proofs.lemmas.Bool.{cases_lt}
use Rattle.std.proofs.lemmas.List.{append_assoc, get_or_past}
use Rattle.rng_model.specs.regexes.Expressions.{Class, holds, Regex, times, Denotes, one_is, both_are, first_is, second_is, so_often}
use Rattle.rng_model.specs.regexes.plain.LinearForms.{RegexState, AcceptsState, nothing_left, next_is, is_nullable}
use Rattle.xsd_regex.specs.plain.StateTable.{state_at, Has}
use Rattle.xsd_regex.specs.plain.Positions.{Part, class_part}
use Rattle.xsd_regex.specs.plain.Positions.{Position, position_at, IsPart, is_nothing, is_class, is_both, is_either, is_optional}
use Rattle.xsd_regex.specs.plain.Positions.{is_repeated, ArePositions}
use Rattle.xsd_regex.proofs.OneOf.{in_first, in_second, of_both, under_in, under_out, one_member, member_one}
use Rattle.xsd_regex.proofs.Nullable.{nullable_if, nullable_then, none_before, none_behind}
use Rattle.xsd_regex.proofs.LinearForms.{head_in, FirstCopy, first_copy, both_back, second_back, left_back, right_back, times_back}
use Rattle.xsd_automaton.specs.plain.Closures.{part_edges, no_position, edges_of, edges, IsClosed, next_of, next_at, nexts}
use Rattle.xsd_automaton.specs.plain.Closures.{AcceptsFrom, StepsTo}

-- the only number of a list
pub only_has : (n j : ℕ) → Has (n ∷ []) j → j ≡ n
only_has n j (inl e) = e
only_has n j (inr h) = absurd h

-- ---- the positions behind a character

module _ (ps : List Position) (c : ℕ) where
  in_nexts : (is : List ℕ) (i j : ℕ) → Has is i → Has (next_at ps c i) j → Has (nexts ps c is) j
  in_nexts [] i j h n = absurd h
  in_nexts (x ∷ is) i j (inl e) n = in_first (λ l. j ≡ l) (next_at ps c x) (nexts ps c is) (subst (λ l. Has (next_at ps c l) j) e n)
  in_nexts (x ∷ is) i j (inr h) n = in_second (λ l. j ≡ l) (next_at ps c x) (nexts ps c is) (in_nexts is i j h n)

  pub from_nexts : (is : List ℕ) (j : ℕ) → Has (nexts ps c is) j → (i : ℕ) × Has is i × Has (next_at ps c i) j
  from_nexts [] j h = absurd h
  from_nexts (x ∷ is) j h =
      elim (of_both (λ l. j ≡ l) (next_at ps c x) (nexts ps c is) h)
      [ inl a ↦ (x, inl refl, a) | inr b ↦ let g = from_nexts is j b in (g.0, inr g.1, g.2) ]

heads : (a b : Regex) (k l : RegexState) → a ∷ k ≡ b ∷ l → a ≡ b
heads a b k l e = cc

tails : (a b : Regex) (k l : RegexState) → a ∷ k ≡ b ∷ l → k ≡ l
tails a b k l e = cc

module _ (states : List RegexState) (ps : List Position) (are : ArePositions states ps) where
  abbrev Accepts : ℕ → List ℕ → Type 0
  Accepts i s = AcceptsState (state_at states i) s

  -- ---- each edge leads to what accepts no more

  -- the first part, if it may be empty
  left_nullable : (l : ℕ) (a : Regex) (k : RegexState) → l < length ps → state_at states l ≡ a ∷ k → (position_at ps l).is_nullable ≡ is_nullable a
  left_nullable l a k h e =
      let p = are.each l h in p.nullable ∙ ap is_nullable (heads p.expression a (state_at states (position_at ps l).next) k (sym p.state ∙ e))

  part_sound : (i next : ℕ) (p : Part) (r : Regex) (j : ℕ) (s : List ℕ) → i < length ps → IsPart states i next p r → Has (part_edges ps i p) j
      → Accepts j s → AcceptsState (r ∷ state_at states next) s
  part_sound i next _ _ j s within is_nothing h a = absurd h
  part_sound i next _ _ j s within is_class h a = absurd h
  part_sound i next _ _ j s within (is_both {l} {a = x} {b = y} below some left right) (inl e) a =
      both_back 0 (subst (λ q. AcceptsState q s) left (subst (λ n. Accepts n s) e a))
  part_sound i next _ _ j s within (is_both {l} {a = x} {b = y} below some left right) (inr h) a =
      let u = under_out (λ n. j ≡ n) (position_at ps l).is_nullable ((i - 1) ∷ []) h in
      second_back 0 (sym (left_nullable l x (y ∷ state_at states next) (omega (arith, below, within)) left) ∙ u.0)
      (subst (λ q. AcceptsState q s) right (subst (λ n. Accepts n s) (only_has (i - 1) j u.1) a))
  part_sound i next _ _ j s within (is_either below some left right) (inl e) a =
      left_back 0 (subst (λ q. AcceptsState q s) left (subst (λ n. Accepts n s) e a))
  part_sound i next _ _ j s within (is_either below some left right) (inr h) a =
      right_back 0 (subst (λ q. AcceptsState q s) right (subst (λ n. Accepts n s) (only_has (i - 1) j h) a))
  part_sound i next _ _ j s within (is_optional some state) h a =
      right_back 0 (subst (λ q. AcceptsState q s) state (subst (λ n. Accepts n s) (only_has (i - 1) j h) a))
  part_sound i next _ _ j s within (is_repeated some state) h a =
      times_back 0 0 None refl (subst (λ q. AcceptsState q s) state (subst (λ n. Accepts n s) (only_has (i - 1) j h) a))

  edge_within : (i j : ℕ) (s : List ℕ) → i < length ps → Has (edges ps i) j → Accepts j s → Accepts i s
  edge_within i j s within h a =
      let p = are.each i within in
      let here = position_at ps i in
      subst (λ q. AcceptsState q s) (sym p.state)
      (elim (of_both (λ n. j ≡ n) (part_edges ps i here.part) _ h) [
        | inl x ↦ part_sound i here.next here.part p.expression j s within p.part x a
        | inr y ↦
            let u = under_out (λ n. j ≡ n) here.is_nullable (here.next ∷ []) y in
            next_is (nullable_then p.expression (sym p.nullable ∙ u.0)) (subst (λ n. Accepts n s) (only_has here.next j u.1) a) refl
      ])

  edge_sound : (i j : ℕ) (s : List ℕ) → Has (edges ps i) j → Accepts j s → Accepts i s
  edge_sound i j s h a =
      elim (cases_lt i (length ps)) [
        | inl within ↦ edge_within i j s within h a
        | inr past ↦ absurd (subst (λ p. Has (edges_of ps i p) j) (get_or_past ps i no_position past) h)
      ]

  -- ---- a closed set has all that its members lead to

  module _ (is : List ℕ) (all : IsClosed ps is) where
    pub record Found (c : ℕ) (t : List ℕ) : Type 0 where
      pub at : ℕ
      pub has : Has is at
      pub class : Class
      pub part : (position_at ps at).part ≡ class_part class
      pub holds : holds class c ≡ true
      pub rest : Accepts (position_at ps at).next t

    abbrev Below : ℕ → ℕ → List ℕ → Type 0
    Below i c t = (j : ℕ) → j < i → Has is j → (r : Regex) (k : RegexState) → state_at states j ≡ r ∷ k → (u v : List ℕ) → Denotes r (c ∷ u)
        → AcceptsState k v → t ≡ u ++ v → Found c t

    part_char : (i next c : ℕ) (t : List ℕ) (p : Part) (r : Regex) (u v : List ℕ) → i < length ps → IsPart states i next p r
        → ((j : ℕ) → Has (part_edges ps i p) j → Has is j) → Below i c t
        → ((k : Class) → p ≡ class_part k → holds k c ≡ true → Accepts next t → Found c t)
        → Denotes r (c ∷ u) → Accepts next v → t ≡ u ++ v → Found c t
    part_char i next c t _ _ u v within is_nothing edge below own m a parts = elim m [ ]
    part_char i next c t _ _ _ v within (is_class {k}) edge below own (one_is h) a parts = own k refl h (subst (Accepts next) (sym parts) a)
    part_char i next c t _ _ u v within (is_both {l} {a = x} {b = y} lt some left right) edge below own (both_are {s} {t = s'} mx my e) a parts =
        elim (head_in c u s s' e) [
          | inl h ↦
              let nullable = left_nullable l x (y ∷ state_at states next) (omega (arith, lt, within)) left ∙ nullable_if x (subst (Denotes x) h.0 mx) in
              below (i - 1) (omega (arith, some)) (edge (i - 1) (inr (under_in _ _ ((i - 1) ∷ []) nullable (inl refl))))
              y (state_at states next) right u v (subst (Denotes y) h.1 my) a parts
          | inr h ↦
              below l lt (edge l (inl refl)) x (y ∷ state_at states next) left h.rest (s' ++ v) (subst (Denotes x) h.first mx) (next_is my a refl)
              (parts ∙ ap (λ l. l ++ v) h.parts ∙ append_assoc h.rest s' v)
        ]
    part_char i next c t _ _ u v within (is_either {l} {a = x} {b = y} lt some left right) edge below own (first_is m) a parts =
        below l lt (edge l (inl refl)) x (state_at states next) left u v m a parts
    part_char i next c t _ _ u v within (is_either {l} {a = x} {b = y} lt some left right) edge below own (second_is m) a parts =
        below (i - 1) (omega (arith, some)) (edge (i - 1) (inr (inl refl))) y (state_at states next) right u v m a parts
    part_char i next c t _ _ u v within (is_optional some state) edge below own (first_is m) a parts = elim m [ ]
    part_char i next c t _ _ u v within (is_optional {a = x} some state) edge below own (second_is m) a parts =
        below (i - 1) (omega (arith, some)) (edge (i - 1) (inl refl)) x (state_at states next) state u v m a parts
    part_char i next c t _ _ u v within (is_repeated {a = x} some state) edge below own (so_often n copies least most) a parts =
        let f : FirstCopy x n c u = first_copy c u copies refl in
        below (i - 1) (omega (arith, some)) (edge (i - 1) (inl refl)) x (times 0 None x ∷ state_at states next) state f.front (f.back ++ v) f.first
        (next_is (so_often f.others f.then (omega arith) tt) a refl) (parts ∙ ap (λ l. l ++ v) f.parts ∙ append_assoc f.front f.back v)

    -- the first character is in the part of a position, with smaller numbers for its parts
    first_char : (m i c : ℕ) (t : List ℕ) → i < m → i < length ps → Has is i → (r : Regex) (k : RegexState) → state_at states i ≡ r ∷ k
        → (u v : List ℕ) → Denotes r (c ∷ u) → AcceptsState k v → t ≡ u ++ v → Found c t
    first_char zero i c t lt within has r k e u v m a parts = absurd (omega (arith, lt))
    first_char (suc m) i c t lt within has r k e u v mr a parts =
        let p = are.each i within in
        let here = position_at ps i in
        part_char i here.next c t here.part p.expression u v within p.part
        (λ j h. all.closed i j has (in_first (λ n. j ≡ n) (part_edges ps i here.part) _ h))
        (λ j below has' r' k' e' u' v' m' a' parts'.
        first_char m j c t (omega (arith, lt, below)) (omega (arith, below, within)) has' r' k' e' u' v' m' a' parts')
        (λ k' part h rest. record { at = i; has = has; class = k'; part = part; holds = h; rest = rest })
        (subst (λ x. Denotes x (c ∷ u)) (heads r p.expression k (state_at states here.next) (sym e ∙ p.state)) mr)
        (subst (λ x. AcceptsState x v) (tails r p.expression k (state_at states here.next) (sym e ∙ p.state)) a)
        parts

    past_end : (i : ℕ) → length ps ≤ i → state_at states i ≡ []
    past_end i h = let same = are.as_many in get_or_past states i [] (omega (arith, h, same))

    to_next : (i : ℕ) → i < length ps → Has is i → (position_at ps i).is_nullable ≡ true → Has is (position_at ps i).next
    to_next i within has e =
        all.closed i (position_at ps i).next has
        (in_second (λ n. (position_at ps i).next ≡ n) (part_edges ps i (position_at ps i).part) _
        (under_in _ _ ((position_at ps i).next ∷ []) e (inl refl)))

    no_first : (c : ℕ) (t : List ℕ) → AcceptsState [] (c ∷ t) → ⊥
    no_first c t a = elim a [ ]

    -- the first character is in the part, or the part is empty
    state_parts : (c : ℕ) (t : List ℕ) (r : Regex) (k : RegexState) → ((u v : List ℕ) → Denotes r (c ∷ u) → AcceptsState k v → t ≡ u ++ v → Found c t)
        → (is_nullable r ≡ true → AcceptsState k (c ∷ t) → Found c t) → AcceptsState (r ∷ k) (c ∷ t) → Found c t
    state_parts c t r k here behind (next_is {s = u} {t = v} m a e) =
        elim (head_in c t u v e) [
          | inl h ↦ behind (nullable_if r (subst (Denotes r) h.0 m)) (subst (AcceptsState k) h.1 a)
          | inr h ↦ here h.rest v (subst (Denotes r) h.first m) a h.parts
        ]

    found_char : (m i c : ℕ) (t : List ℕ) → length ps - i < m → Has is i → Accepts i (c ∷ t) → Found c t
    found_char zero i c t lt has a = absurd (omega (arith, lt))
    found_char (suc m) i c t lt has a =
        elim (cases_lt i (length ps)) [
          | inl within ↦
              let p = are.each i within in
              let next = (position_at ps i).next in
              state_parts c t p.expression (state_at states next)
              (first_char (suc i) i c t (omega arith) within has p.expression (state_at states next) p.state)
              (λ e b. let later = p.later in
              found_char m next c t (omega (arith, lt, within, later)) (to_next i within has (p.nullable ∙ e)) b)
              (subst (λ q. AcceptsState q (c ∷ t)) p.state a)
          | inr past ↦ absurd (no_first c t (subst (λ q. AcceptsState q (c ∷ t)) (past_end i past) a))
        ]

    state_ends : (r : Regex) (k : RegexState) → AcceptsState (r ∷ k) [] → (is_nullable r ≡ true) × AcceptsState k []
    state_ends r k (next_is {s} {t} m a e) = (nullable_if r (subst (Denotes r) (none_before s t e) m), subst (AcceptsState k) (none_behind s t e) a)

    found_end : (m i : ℕ) → length ps - i < m → Has is i → Accepts i [] → Has is (length ps)
    found_end zero i lt has a = absurd (omega (arith, lt))
    found_end (suc m) i lt has a =
        elim (cases_lt i (length ps)) [
          | inl within ↦
              let p = are.each i within in
              let next = (position_at ps i).next in
              let later = p.later in
              let parts = state_ends p.expression (state_at states next) (subst (λ q. AcceptsState q []) p.state a) in
              found_end m next (omega (arith, lt, within, later)) (to_next i within has (p.nullable ∙ parts.0)) parts.1
          | inr past ↦ let most = all.within i has in subst (Has is) (omega (arith, past, most)) has
        ]

    -- ---- a step

    part_holds : (k : Class) (next c : ℕ) (t : List ℕ) (p : Part) → p ≡ class_part k → holds k c ≡ true → Has (next_of c p next) next
    part_holds k next c t p e h =
        subst (λ q. Has (next_of c q next) next) (sym e) (under_in (λ n. next ≡ n) (holds k c) (next ∷ []) h (inl refl))

    step_if : (c : ℕ) (t : List ℕ) → AcceptsFrom states is (c ∷ t) → AcceptsFrom states (nexts ps c is) t
    step_if c t h =
        let m = one_member (λ i. Accepts i (c ∷ t)) is h in
        let f = found_char (suc (length ps)) m.0 c t (omega arith) m.1 m.2 in
        let here = position_at ps f.at in
        member_one (λ i. Accepts i t) (nexts ps c is) here.next
        (in_nexts ps c is f.at here.next f.has (part_holds f.class here.next c t here.part f.part f.holds)) f.rest

  one_char : (next c : ℕ) (t : List ℕ) (p : Part) (i : ℕ) (r : Regex) (j : ℕ) → IsPart states i next p r → Has (next_of c p next) j → Accepts j t
      → AcceptsState (r ∷ state_at states next) (c ∷ t)
  one_char next c t _ i _ j is_nothing h a = absurd h
  one_char next c t _ i _ j (is_class {k}) h a =
      let u = under_out (λ n. j ≡ n) (holds k c) (next ∷ []) h in next_is (one_is u.0) (subst (λ n. Accepts n t) (only_has next j u.1) a) refl
  one_char next c t _ i _ j (is_both below some left right) h a = absurd h
  one_char next c t _ i _ j (is_either below some left right) h a = absurd h
  one_char next c t _ i _ j (is_optional some state) h a = absurd h
  one_char next c t _ i _ j (is_repeated some state) h a = absurd h

  one_step : (c i j : ℕ) (t : List ℕ) → Has (next_at ps c i) j → Accepts j t → Accepts i (c ∷ t)
  one_step c i j t h a =
      elim (cases_lt i (length ps)) [
        | inl within ↦
            let p = are.each i within in
            subst (λ q. AcceptsState q (c ∷ t)) (sym p.state) (one_char (position_at ps i).next c t (position_at ps i).part i p.expression j p.part h a)
        | inr past ↦ absurd (subst (λ p. Has (next_of c p.part p.next) j) (get_or_past ps i no_position past) h)
      ]

  step_then : (c : ℕ) (t : List ℕ) (is : List ℕ) → AcceptsFrom states (nexts ps c is) t → AcceptsFrom states is (c ∷ t)
  step_then c t is h =
      let m = one_member (λ i. Accepts i t) (nexts ps c is) h in
      let f = from_nexts ps c is m.0 m.1 in
      member_one (λ i. Accepts i (c ∷ t)) is f.0 f.1 (one_step c f.0 m.0 t f.2 m.2)

  -- the edges of a position are followed
  pub edges_sound : (is js : List ℕ) (i : ℕ) → Has is i → ((j : ℕ) → Has js j → Has is j ⊎ Has (edges ps i) j)
      → (s : List ℕ) → AcceptsFrom states js s → AcceptsFrom states is s
  edges_sound is js i has f s h =
      let m = one_member (λ i. Accepts i s) js h in
      elim (f m.0 m.1) [
        | inl a ↦ member_one (λ i. Accepts i s) is m.0 a m.2
        | inr b ↦ member_one (λ i. Accepts i s) is i has (edge_sound i m.0 s b m.2)
      ]

-- ---- what the sets accept

-- the texts behind a character
pub behind_char : (ps : List Position) (c : ℕ) (is : List ℕ) → IsClosed ps is → StepsTo ps c is (nexts ps c is)
behind_char ps c is all states are s = (step_if states ps are is all c s, step_then states ps are c s is)

-- the empty text
pub at_end : (ps : List Position) (is : List ℕ) → IsClosed ps is → (states : List RegexState) → ArePositions states ps
    → AcceptsFrom states is [] ↔ Has is (length ps)
at_end ps is all states are = (to, back) where
  to : AcceptsFrom states is [] → Has is (length ps)
  to h =
      let m = one_member (λ i. Accepts states ps are i []) is h in
      found_end states ps are is all (suc (length ps)) m.0 (omega arith) m.1 m.2

  back : Has is (length ps) → AcceptsFrom states is []
  back h =
      member_one (λ i. Accepts states ps are i []) is (length ps) h
      (subst (λ q. AcceptsState q []) (sym (past_end states ps are is all (length ps) (omega arith))) nothing_left)
