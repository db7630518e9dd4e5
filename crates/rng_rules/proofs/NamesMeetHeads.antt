-- A row that is a direct part of one other row only meets itself exactly if that one does.
use Rattle.std.proofs.Common.{◌≡◌, ◌⊎◌, ◌↔◌, inl, inr, refl, ap, sym, ◌∙◌, subst, ℕ, ◌+◌, ◌<◌, ◌≤◌, false, true≢false}
use Rattle.std.proofs.Common.{List, [], ◌∷◌, length, slice_index_or, Contains, set, arith}
use Rattle.std.proofs.lemmas.Bool.{cases_eq, eq-eqb}
use Rattle.std.proofs.lemmas.List.{get_or-set_same, get_or-set_other, length-set}
use Rattle.std.proofs.lemmas.Option.{slice_get_within}
use Rattle.rng_model.proofs.Members.{one_only}
use Rattle.rng_model.specs.simple.Table.{Table}
use Rattle.rng_model.specs.simple.TableRules.{Falls}
use Rattle.rng_rules.specs.declared.names_meet.NamesOf.{NamesOf}
use Rattle.rng_rules.specs.declared.names_meet_sides.Rows as declared
use Rattle.rng_rules.specs.views.NamesMeetHeads.{AreHeads, AreHeadsFrom, IsHead, IsOnlyAbove, are_equal}
use Rattle.rng_labels.specs.plain.Queues.{at_start, onward}
use Rattle.rng_rules.specs.plain.NamesMeetReach.{lists}
use Rattle.rng_rules.specs.views.NamesMeetRows.{IsAbove}
use Rattle.rng_rules.specs.views.NamesMeetSides.{AreRows, Climbs, IsJoin, MeetBetween, row_sides}
use Rattle.rng_rules.proofs.NamesMeetBetween.{join_sides, passed_below, sides_passed}

module _ (of : NamesOf) (t : Table) (above : List (List ℕ)) (is_above : IsAbove t.patterns above) (falls : Falls t.patterns) where
  -- what is above a row comes after it
  pub comes_after : (k p : ℕ) → Contains (slice_index_or above k []) p → k < p
  comes_after k p h = let i = (is_above.exact k p).0 h in passed_below i.0 p (falls p i.0 i.1) i.2

  rises : {k x : ℕ} → Climbs above (k ∷ []) x → k ≤ x
  rises {k} (at_start {x} c) = let e : k ≡ x = one_only k x c in omega (arith, e)
  rises {k} (onward {x} {y} r c) = omega (arith, rises r, comes_after x y c)

  from_above : {k p x : ℕ} → Contains (slice_index_or above k []) p → Climbs above (p ∷ []) x → Climbs above (k ∷ []) x
  from_above {k} {p} h (at_start {x} c) = onward (at_start (0, omega arith, refl)) (subst (Contains (slice_index_or above k [])) (one_only p x c) h)
  from_above h (onward r c) = onward (from_above h r) c

  here_or_above : {k p x : ℕ} → slice_index_or above k [] ≡ p ∷ [] → Climbs above (k ∷ []) x → (k ≡ x) ⊎ Climbs above (p ∷ []) x
  here_or_above {k} e (at_start {x} c) = inl (one_only k x c)
  here_or_above {k} {p} e (onward {x} {y} r c) = elim (here_or_above e r) [
    | inl s ↦ inr (at_start (subst (λ ys. Contains ys y) (ap (λ j. slice_index_or above j []) (sym s) ∙ e) c))
    | inr s ↦ inr (onward s c)
  ]

  module _ {k p : ℕ} (only : slice_index_or above k [] ≡ p ∷ []) (apart : IsJoin of t p k k → ⊥) where
    module _ {row left right : ℕ} (join : IsJoin of t row left right) where
      left_in : Contains (slice_index_or above left []) row
      left_in = (is_above.exact left row).1 (join.pattern, join.is, (sides_passed of join.pattern join.sides).0)

      right_in : Contains (slice_index_or above right []) row
      right_in = (is_above.exact right row).1 (join.pattern, join.is, (sides_passed of join.pattern join.sides).1)

      is_only : {side : ℕ} → k ≡ side → Contains (slice_index_or above side []) row → p ≡ row
      is_only {side} e h = one_only p row (subst (λ ys. Contains ys row) (ap (λ j. slice_index_or above j []) (sym e) ∙ only) h)

      both_here : k ≡ left → k ≡ right → ⊥
      both_here e f = apart (subst (λ j. IsJoin of t j k k) (sym (is_only e left_in))
          (subst (λ j. IsJoin of t row k j) (sym f) (subst (λ j. IsJoin of t row j right) (sym e) join)))

      -- if the row climbs to both sides, it is not a side itself
      both_above : Climbs above (k ∷ []) left → Climbs above (k ∷ []) right → Climbs above (p ∷ []) left × Climbs above (p ∷ []) right
      both_above l r = elim (here_or_above only l) [
        | inl e ↦ elim (here_or_above only r) [
          | inl f ↦ absurd (both_here e f)
          | inr s ↦ absurd (let h = rises s in let b = comes_after right row right_in in let q = is_only e left_in in omega (arith, h, b, q))
        ]
        | inr c ↦ elim (here_or_above only r) [
          | inl f ↦ absurd (let h = rises c in let b = comes_after left row left_in in let q = is_only f right_in in omega (arith, h, b, q))
          | inr s ↦ (c, s)
        ]
      ]

    goes_up : MeetBetween of t above (k ∷ []) (k ∷ []) → MeetBetween of t above (p ∷ []) (p ∷ [])
    goes_up m = record {
      row = m.row;
      left = m.left;
      right = m.right;
      join = m.join;
      meet = elim m.meet [ inl c ↦ inl (both_above m.join c.0 c.1) | inr c ↦ let b = both_above m.join c.1 c.0 in inr (b.1, b.0) ];
    }

    comes_down : MeetBetween of t above (p ∷ []) (p ∷ []) → MeetBetween of t above (k ∷ []) (k ∷ [])
    comes_down m =
        let h : Contains (slice_index_or above k []) p = subst (λ ys. Contains ys p) (sym only) (0, omega arith, refl) in record {
          row = m.row;
          left = m.left;
          right = m.right;
          join = m.join;
          meet = elim m.meet [ inl c ↦ inl (from_above h c.0, from_above h c.1) | inr c ↦ inr (from_above h c.0, from_above h c.1) ];
        }

    pub meets_as_above : MeetBetween of t above (k ∷ []) (k ∷ []) ↔ MeetBetween of t above (p ∷ []) (p ∷ [])
    meets_as_above = (goes_up, comes_down)

module _ (rows : declared.Rows) where
  pub head_above : {k p head : ℕ} → AreRows rows → IsOnlyAbove rows k p → IsHead rows p head → IsHead rows k head
  head_above are o h =
      let m = meets_as_above rows.of rows.grammar.now (lists rows.above.items) are.is_above are.valid.falls o.only o.apart in record {
        below = h.below;
        same = (λ x. h.same.0 (m.0 x), λ x. m.1 (h.same.1 x));
      }

  pub own_head : {k : ℕ} → k < length rows.standing.items → IsHead rows k k
  own_head h = record { below = h; same = (λ x. x, λ x. x) }

  module _ (k p : ℕ) (are : AreRows rows) (e : slice_index_or (lists rows.above.items) k [] ≡ p ∷ []) where
    in_above : Contains (slice_index_or (lists rows.above.items) k []) p
    in_above = subst (λ ys. Contains ys p) (sym e) (0, omega arith, refl)

    pub inside_rows : p < length rows.standing.items
    inside_rows = let i = (are.is_above.exact k p).0 in_above in omega (arith, slice_get_within rows.grammar.now.patterns p i.0 i.1, are.long)

    -- the only row of the list, if its sides are not equal
    pub only_above : are_equal (row_sides rows p) ≡ false → IsOnlyAbove rows k p
    only_above unequal = record {
      after = comes_after rows.of rows.grammar.now (lists rows.above.items) are.is_above are.valid.falls k p in_above;
      below = inside_rows;
      only = e;
      apart = λ j. true≢false (sym (ap are_equal (join_sides rows.of rows.grammar.now (lists rows.above.items) rows.standing.items are j) ∙ eq-eqb k k refl) ∙ unequal);
    }

  pub heads_more : (heads : List ℕ) (row head : ℕ) → row < length heads → AreHeadsFrom rows (row + 1) heads → IsHead rows row head
      → AreHeadsFrom rows row (set heads row head)
  heads_more heads row head inside after is k from within = elim (cases_eq k row) [
    | inl e ↦
        subst (IsHead rows k) (sym (ap (λ j. slice_index_or (set heads row head) j 0) e ∙ get_or-set_same heads row head 0 inside))
        (subst (λ j. IsHead rows j head) (sym e) is)
    | inr n ↦ subst (IsHead rows k) (sym (get_or-set_other heads row k head 0 n)) (after k (omega (arith, from, n)) (omega (arith, within, length-set heads row head)))
  ]

-- ---- a list with one row

pub one_item : (xs : List ℕ) → 1 ≤ length xs → length xs < 2 → slice_index_or xs 0 0 ∷ [] ≡ xs
one_item [] h l = absurd (omega (arith, h))
one_item (x ∷ []) h l = refl
one_item (x ∷ (y ∷ ys)) h l = absurd (omega (arith, l))

-- the head of a single row decides
pub group_by_head : (rows : declared.Rows) (heads group asked : List ℕ) → 1 ≤ length group → length group < 2 → AreHeads rows heads
    → slice_index_or group 0 0 < length heads → asked ≡ slice_index_or heads (slice_index_or group 0 0) 0 ∷ []
    → MeetBetween rows.of rows.grammar.now (lists rows.above.items) group group ↔ MeetBetween rows.of rows.grammar.now (lists rows.above.items) asked asked
group_by_head rows heads group asked h l are inside e =
    let same = (are (slice_index_or group 0 0) inside).same in
    let one = one_item group h l in (
      λ m. subst (λ xs. MeetBetween rows.of rows.grammar.now (lists rows.above.items) xs xs) (sym e)
          (same.0 (subst (λ xs. MeetBetween rows.of rows.grammar.now (lists rows.above.items) xs xs) (sym one) m)),
      λ m. subst (λ xs. MeetBetween rows.of rows.grammar.now (lists rows.above.items) xs xs) one
          (same.1 (subst (λ xs. MeetBetween rows.of rows.grammar.now (lists rows.above.items) xs xs) e m)),
    )
