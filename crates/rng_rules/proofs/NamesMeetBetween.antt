-- The test of the sides of a row says whether both sides are reached.
use Rattle.std.proofs.Common.{◌≡◌, ◌⊎◌, ◌↔◌, inl, inr, refl, ap, sym, ◌∙◌, subst, ℕ, ◌<◌, ◌&&◌, ◌||◌, Bool, true, false, true≢false}
use Rattle.std.proofs.Common.{List, [], ◌∷◌, length, slice_get, slice_index_or, Some, None, Option, Contains, arith, ◌==◌, if◌then◌else◌}
use Rattle.std.proofs.lemmas.Bool.{eqb-true, eq-eqb, and_from, or_left, or_right, and_parts, or_cases}
use Rattle.std.proofs.lemmas.Option.{slice_get_within, get_or_from_slice_get, slice_get-get_or}
use Rattle.rng_model.proofs.Options.{none_is_some}
use Rattle.rng_model.proofs.Members.{not_in_none, one_only}
use Rattle.rng_model.specs.simple.Table.{Table}
use Rattle.rng_model.specs.simple.TableRules.{AreChildrenBelow}
use Rattle.rng_model.specs.declared.simple.Simple.{Simple}
use Rattle.rng_model.specs.declared.simple.Simple.TheVariants as simple
use Rattle.rng_rules.specs.declared.names_meet.NamesOf.{NamesOf}
use Rattle.rng_rules.specs.declared.names_meet.NamesOf.TheVariants as names_of
use Rattle.rng_labels.specs.plain.Queues.{onward}
use Rattle.rng_rules.specs.plain.NamesMeetReach.{AreBelow}
use Rattle.rng_rules.specs.views.NamesMeetRows.{IsAbove, passed, sides_at}
use Rattle.rng_rules.specs.views.NamesMeetSides.{Climbs, IsJoin, MeetBetween, AreRowsOf, sides_in, are_marked}
use Rattle.rng_rules.proofs.NamesMeetTables.{first_of_two, second_of_two, one_of_two}

-- ---- a row passes to its sides

abbrev left_of : Option (ℕ × ℕ) → ℕ
left_of None = 0
left_of (Some s) = s.0

abbrev right_of : Option (ℕ × ℕ) → ℕ
right_of None = 0
right_of (Some s) = s.1

same_sides : {a b l r : ℕ} → ◌≡◌ {A = Option (ℕ × ℕ)} (Some (a, b)) (Some (l, r)) → (l ≡ a) × (r ≡ b)
same_sides e = (sym (ap left_of e), sym (ap right_of e))

both_passed : {a b l r : ℕ} → ◌≡◌ {A = Option (ℕ × ℕ)} (Some (a, b)) (Some (l, r)) → Contains (a ∷ (b ∷ [])) l × Contains (a ∷ (b ∷ [])) r
both_passed e = let s = same_sides e in (first_of_two s.0, second_of_two s.1)

pub sides_passed : (of : NamesOf) (p : Simple) {l r : ℕ} → sides_at of p ≡ Some (l, r) → Contains (passed p) l × Contains (passed p) r
sides_passed names_of.Attributes (simple.Group a b) e = both_passed e
sides_passed names_of.Elements (simple.Group a b) e = none_is_some e
sides_passed names_of.Attributes (simple.Interleave a b) e = both_passed e
sides_passed names_of.Elements (simple.Interleave a b) e = both_passed e
sides_passed names_of.Attributes (simple.Choice a b) e = none_is_some e
sides_passed names_of.Elements (simple.Choice a b) e = none_is_some e
sides_passed names_of.Attributes (simple.Attribute c a) e = none_is_some e
sides_passed names_of.Elements (simple.Attribute c a) e = none_is_some e
sides_passed names_of.Attributes (simple.List a) e = none_is_some e
sides_passed names_of.Elements (simple.List a) e = none_is_some e
sides_passed names_of.Attributes (simple.DataExcept d a) e = none_is_some e
sides_passed names_of.Elements (simple.DataExcept d a) e = none_is_some e
sides_passed names_of.Attributes (simple.OneOrMore a) e = none_is_some e
sides_passed names_of.Elements (simple.OneOrMore a) e = none_is_some e
sides_passed names_of.Attributes simple.NotAllowed e = none_is_some e
sides_passed names_of.Elements simple.NotAllowed e = none_is_some e
sides_passed names_of.Attributes simple.Empty e = none_is_some e
sides_passed names_of.Elements simple.Empty e = none_is_some e
sides_passed names_of.Attributes simple.Text e = none_is_some e
sides_passed names_of.Elements simple.Text e = none_is_some e
sides_passed names_of.Attributes (simple.Element k) e = none_is_some e
sides_passed names_of.Elements (simple.Element k) e = none_is_some e
sides_passed names_of.Attributes (simple.Data d) e = none_is_some e
sides_passed names_of.Elements (simple.Data d) e = none_is_some e
sides_passed names_of.Attributes (simple.Value value) e = none_is_some e
sides_passed names_of.Elements (simple.Value value) e = none_is_some e

-- a row passes only to rows below it
pub passed_below : (p : Simple) (n : ℕ) {c : ℕ} → AreChildrenBelow n p → Contains (passed p) c → c < n
passed_below (simple.OneOrMore a) n {c} h i = subst (λ k. k < n) (one_only a.0 c i) h
passed_below (simple.Group a b) n {c} h i = elim (one_of_two i) [ inl e ↦ omega (arith, e, h.0) | inr e ↦ omega (arith, e, h.1) ]
passed_below (simple.Interleave a b) n {c} h i = elim (one_of_two i) [ inl e ↦ omega (arith, e, h.0) | inr e ↦ omega (arith, e, h.1) ]
passed_below (simple.Choice a b) n {c} h i = elim (one_of_two i) [ inl e ↦ omega (arith, e, h.0) | inr e ↦ omega (arith, e, h.1) ]
passed_below (simple.Attribute d a) n {c} h i = absurd (not_in_none i)
passed_below (simple.List a) n {c} h i = absurd (not_in_none i)
passed_below (simple.DataExcept d a) n {c} h i = absurd (not_in_none i)
passed_below simple.NotAllowed n {c} h i = absurd (not_in_none i)
passed_below simple.Empty n {c} h i = absurd (not_in_none i)
passed_below simple.Text n {c} h i = absurd (not_in_none i)
passed_below (simple.Element e) n {c} h i = absurd (not_in_none i)
passed_below (simple.Data d) n {c} h i = absurd (not_in_none i)
passed_below (simple.Value value) n {c} h i = absurd (not_in_none i)

-- everything above a row is in the table
pub above_in_table : (ps : List Simple) (above : List (List ℕ)) → IsAbove ps above → AreBelow (length above) above
above_in_table ps above is c p h = let i = (is.exact c p).0 h in omega (arith, slice_get_within ps p i.0 i.1, is.long)

-- ---- tests

marked_at : (m : List ℕ) (k round : ℕ) → k < length m → (slice_index_or m k 0 == round) ≡ true → slice_get m k ≡ Some round
marked_at m k round h e = slice_get-get_or m k 0 h ∙ ap Some (eqb-true (slice_index_or m k 0) round e)

pub at_marked : (m : List ℕ) (k round : ℕ) → slice_get m k ≡ Some round → (slice_index_or m k 0 == round) ≡ true
at_marked m k round e = eq-eqb (slice_index_or m k 0) round (get_or_from_slice_get m k round 0 e)

module _ (of : NamesOf) (t : Table) (above : List (List ℕ)) (standing : List ℕ) (rows : AreRowsOf of t above standing) where
  abbrev sides_of : ℕ → Option (ℕ × ℕ)
  sides_of row = if slice_index_or standing row 0 == 1 then sides_in of (slice_get t.patterns row) else None

  is_join : (row l r : ℕ) (b : Bool) (o : Option Simple) → row < length standing → (slice_index_or standing row 0 == 1) ≡ b → slice_get t.patterns row ≡ o
      → (if b then sides_in of o else None) ≡ Some (l, r) → IsJoin of t row l r
  is_join row l r false o h e f g = none_is_some g
  is_join row l r true None h e f g = none_is_some g
  is_join row l r true (Some p) h e f g = record { pattern = p; stands = (rows.is_standing row).1 (marked_at standing row 1 h e); is = f; sides = g }

  pub join_sides : {row l r : ℕ} → IsJoin of t row l r → sides_of row ≡ Some (l, r)
  join_sides {row} {l} {r} j =
      ap (λ b. if b then sides_in of (slice_get t.patterns row) else None) (at_marked standing row 1 ((rows.is_standing row).0 j.stands))
      ∙ ap (sides_in of) j.is ∙ j.sides

  -- what climbs to a side climbs to the row
  climbs_left : {row l r : ℕ} {start : List ℕ} → IsJoin of t row l r → Climbs above start l → Climbs above start row
  climbs_left {row} {l} {r} j c = onward c ((rows.is_above.exact l row).1 (j.pattern, j.is, (sides_passed of j.pattern j.sides).0))

  climbs_right : {row l r : ℕ} {start : List ℕ} → IsJoin of t row l r → Climbs above start r → Climbs above start row
  climbs_right {row} {l} {r} j c = onward c ((rows.is_above.exact r row).1 (j.pattern, j.is, (sides_passed of j.pattern j.sides).1))

  module _ (first second m1 m2 : List ℕ) (round : ℕ) (one_long : length m1 ≡ length standing) (two_long : length m2 ≡ length standing)
      (one : (k : ℕ) → Climbs above first k ↔ (slice_get m1 k ≡ Some round)) (two : (k : ℕ) → Climbs above second k ↔ (slice_get m2 k ≡ Some round)) where
    abbrev first_marked : ℕ → Bool
    first_marked k = slice_index_or m1 k 0 == round

    abbrev second_marked : ℕ → Bool
    second_marked k = slice_index_or m2 k 0 == round

    on_sides : (l r : ℕ) → l < length standing → r < length standing
        → ((first_marked l && second_marked r) || (first_marked r && second_marked l)) ≡ true
        → (Climbs above first l × Climbs above second r) ⊎ (Climbs above first r × Climbs above second l)
    on_sides l r hl hr e = elim (or_cases (first_marked l && second_marked r) (first_marked r && second_marked l) e) [
      | inl f ↦
          let b = and_parts (first_marked l) (second_marked r) f in
          inl ((one l).1 (marked_at m1 l round (omega arith) b.0), (two r).1 (marked_at m2 r round (omega arith) b.1))
      | inr f ↦
          let b = and_parts (first_marked r) (second_marked l) f in
          inr ((one r).1 (marked_at m1 r round (omega arith) b.0), (two l).1 (marked_at m2 l round (omega arith) b.1))
    ]

    found_by : (row : ℕ) (o : Option (ℕ × ℕ)) → row < length standing → sides_of row ≡ o → are_marked m1 m2 round o ≡ true → MeetBetween of t above first second
    found_by row None h e f = absurd (true≢false (sym f))
    found_by row (Some s) h e f =
        let j = is_join row s.0 s.1 (slice_index_or standing row 0 == 1) (slice_get t.patterns row) h refl refl e in
        let p = sides_passed of j.pattern j.sides in
        let below = rows.valid.falls row j.pattern j.is in
        record {
          row = row;
          left = s.0;
          right = s.1;
          join = j;
          meet = on_sides s.0 s.1 (let l = passed_below j.pattern row below p.0 in omega arith) (let l = passed_below j.pattern row below p.1 in omega arith) f;
        }

    -- a row with marked sides is a row where they meet
    pub found_between : (row : ℕ) → row < length standing → are_marked m1 m2 round (sides_of row) ≡ true → MeetBetween of t above first second
    found_between row h e = found_by row (sides_of row) h refl e

    -- a row where they meet has marked sides and is reached from the first rows
    pub between_found : MeetBetween of t above first second → (row : ℕ) × Climbs above first row × (are_marked m1 m2 round (sides_of row) ≡ true)
    between_found m = elim m.meet [
      | inl c ↦ (
        m.row,
        climbs_left m.join c.0,
        ap (are_marked m1 m2 round) (join_sides m.join) ∙ or_left _ (first_marked m.right && second_marked m.left) (and_from _ _ (at_marked m1 m.left round ((one m.left).0 c.0))
            (at_marked m2 m.right round ((two m.right).0 c.1))),
      )
      | inr c ↦ (
        m.row,
        climbs_right m.join c.0,
        ap (are_marked m1 m2 round) (join_sides m.join)
            ∙ or_right (first_marked m.left && second_marked m.right) _ (and_from _ _ (at_marked m1 m.right round ((one m.right).0 c.0))
            (at_marked m2 m.left round ((two m.left).0 c.1))),
      )
    ]

    -- so the test of everything reached from the first rows decides it
    pub told : (yes : Bool) (reached : List ℕ) → ((k : ℕ) → Climbs above first k ↔ Contains reached k)
        → (yes ≡ false → (row : ℕ) → Contains reached row → are_marked m1 m2 round (sides_of row) ≡ false) → MeetBetween of t above first second → yes ≡ true
    told true reached f none m = refl
    told false reached f none m =
        let b = between_found m in absurd (true≢false (sym b.2 ∙ none refl b.0 ((f b.0).0 b.1)))
