-- The first pattern of rows for which a test passes, row by row.
use Rattle.std.proofs.Common.{◌≡◌, refl, ap, ap₂, sym, ◌∙◌, ℕ, suc, ◌+◌, ◌-◌, ◌<◌, ◌≤◌, List, [], ◌∷◌, ◌++◌, length, take, drop, get_or, arith}
use Rattle.std.proofs.Common.{Bool, true, false, ◌||◌, if◌then◌else◌, Option, Some, None, option_map, length-append}
use Rattle.std.specs.List.{list_any}
use Rattle.std.proofs.Math.Bool.{or-false}
use Rattle.std.proofs.lemmas.List.{length-drop, length-take-le, take-append-drop}
use Rattle.rng_model.specs.simple.Tree.{Connector, choice, group, interleave}
use Rattle.rng_model.specs.schema.Patterns.{Pattern, joined_members, pattern_list}
use Rattle.rng_model.specs.views.SchemaView.{child, patterns_in, row_arity, row_pattern}
use Rattle.rng_model.specs.declared.schema_pattern.SchemaRow.{SchemaRow}
use Rattle.rng_model.specs.declared.schema_pattern.SchemaRow.TheVariants as row
use Rattle.rng_model.proofs.SchemaRows.{next_row}
use Rattle.rng_schema_checks.specs.plain.PatternTests.{PatternTest, has_written, some_has_written}
use Rattle.rng_schema_checks.specs.plain.RowTests.{first_met, is_first, met_with, row_passes}

-- ---- the first member

abbrev first_if : Bool → Option ℕ
first_if b = if b then Some 0 else None

abbrev later : Option ℕ → Option ℕ
later n = option_map (λ n. suc n) n

first_if_passed : (c : Bool) (rest : Option ℕ) → is_first (if c then Some 0 else later rest) ≡ c
first_if_passed true rest = refl
first_if_passed false None = refl
first_if_passed false (Some n) = refl

module _ {A : Type 0} (test : A → Bool) where
  -- the first member passes c, the others give the rest
  one_before_end : (b c any : Bool) (rest : Option ℕ) → met_with b 0 rest ≡ first_if (b || any)
      → met_with b 0 (if c then Some 0 else later rest) ≡ first_if (b || (c || any))
  one_before_end true true any rest e = refl
  one_before_end false true any rest e = refl
  one_before_end true false any None e = refl
  one_before_end true false any (Some n) e = ap Some (omega arith)
  one_before_end false false any None e = e
  one_before_end false false any (Some n) e = ap Some (omega arith) ∙ e

  all_replaced : (b : Bool) (back : List A) → met_with b 0 (first_met test back) ≡ first_if (b || list_any test back)
  all_replaced true [] = refl
  all_replaced false [] = refl
  all_replaced b (x ∷ back) = one_before_end b (test x) (list_any test back) (first_met test back) (all_replaced b back)

  one_before : (b c : Bool) (start : ℕ) (rest other : Option ℕ) → met_with b start rest ≡ other
      → met_with b (suc start) (if c then Some 0 else later rest) ≡ (if c then Some 0 else later other)
  one_before b true start rest other e = ap Some (omega arith)
  one_before b false start (Some n) other e = ap Some (omega arith) ∙ ap later e
  one_before true false start None other e = ap later e
  one_before false false start None other e = ap later e

  -- members at the end replaced by one
  first_replaced : (b : Bool) (front back : List A) (y : A) → test y ≡ (b || list_any test back)
      → met_with b (length front) (first_met test (front ++ back)) ≡ first_met test (front ++ y ∷ [])
  first_replaced b [] back y e = all_replaced b back ∙ ap first_if (sym e)
  first_replaced b (x ∷ front) back y e =
      ap (λ n. met_with b n (first_met test (x ∷ (front ++ back)))) (omega arith)
      ∙ one_before b (test x) (length front) (first_met test (front ++ back)) (first_met test (front ++ y ∷ [])) (first_replaced b front back y e)

-- ---- rows

module _ (t : PatternTest) where
  some_in : (ps : List Pattern) → some_has_written t (pattern_list ps) ≡ list_any (has_written t) ps
  some_in [] = refl
  some_in (p ∷ ps) = ap (λ b. has_written t p || b) (some_in ps)

  in_members : (k : Connector) (ps : List Pattern) → has_written t (joined_members k ps) ≡ list_any (has_written t) ps
  in_members choice [] = refl
  in_members group [] = refl
  in_members interleave [] = refl
  in_members choice (p ∷ []) = sym (or-false (has_written t p))
  in_members group (p ∷ []) = sym (or-false (has_written t p))
  in_members interleave (p ∷ []) = sym (or-false (has_written t p))
  in_members choice (p ∷ (q ∷ ps)) = ap (λ b. has_written t p || (has_written t q || b)) (some_in ps)
  in_members group (p ∷ (q ∷ ps)) = ap (λ b. has_written t p || (has_written t q || b)) (some_in ps)
  in_members interleave (p ∷ (q ∷ ps)) = ap (λ b. has_written t p || (has_written t q || b)) (some_in ps)

  no_child : (b : Bool) (ps : List Pattern) → length ps ≤ 0 → b ≡ (b || list_any (has_written t) ps)
  no_child b [] h = sym (or-false b)
  no_child b (p ∷ ps) h = absurd (omega (arith, h))

  one_child : (b : Bool) (ps : List Pattern) → length ps ≤ 1 → (b || has_written t (child ps)) ≡ (b || list_any (has_written t) ps)
  one_child b [] h = refl
  one_child b (p ∷ []) h = ap (λ c. b || c) (sym (or-false (has_written t p)))
  one_child b (p ∷ (q ∷ ps)) h = absurd (omega (arith, h))

  in_row : (r : SchemaRow) (ps : List Pattern) → length ps ≤ row_arity r
      → has_written t (row_pattern r ps) ≡ (row_passes t r || list_any (has_written t) ps)
  in_row row.NotAllowed ps h = no_child false ps h
  in_row row.Empty ps h = no_child false ps h
  in_row row.Text ps h = no_child false ps h
  in_row (row.Element c) ps h = one_child (row_passes t (row.Element c)) ps h
  in_row (row.Attribute c) ps h = one_child (row_passes t (row.Attribute c)) ps h
  in_row row.List ps h = one_child false ps h
  in_row (row.Data d) ps h = no_child (row_passes t (row.Data d)) ps h
  in_row (row.DataExcept d) ps h = one_child (row_passes t (row.DataExcept d)) ps h
  in_row (row.Value v) ps h = no_child (row_passes t (row.Value v)) ps h
  in_row row.Mixed ps h = one_child false ps h
  in_row row.Optional ps h = one_child false ps h
  in_row row.ZeroOrMore ps h = one_child false ps h
  in_row row.OneOrMore ps h = one_child false ps h
  in_row (row.Group n) ps h = in_members group ps
  in_row (row.Interleave n) ps h = in_members interleave ps
  in_row (row.Choice n) ps h = in_members choice ps
  in_row (row.Ref y) ps h = no_child (row_passes t (row.Ref y)) ps h
  in_row (row.ParentRef y) ps h = no_child (row_passes t (row.ParentRef y)) ps h
  in_row (row.Grammar z) ps h = no_child false ps h
  in_row row.External ps h = one_child false ps h

  -- one more row
  pub next_first : (rows : List SchemaRow) (i : ℕ) (r : SchemaRow) (count start : ℕ) (before : Option ℕ) → i < length rows → r ≡ get_or rows i r
      → count ≡ length (patterns_in (take i rows)) → before ≡ first_met (has_written t) (patterns_in (take i rows)) → start ≡ count - row_arity r
      → met_with (row_passes t r) start before ≡ first_met (has_written t) (patterns_in (take (i + 1) rows))
  next_first rows i r count start before h e long first from =
      let ps = patterns_in (take i rows) in
      let n = length ps - row_arity r in
      let front = take n ps in
      let back = drop n ps in
      let starts : start ≡ length front = from ∙ ap (λ k. k - row_arity r) long ∙ sym (length-take-le n ps (omega arith)) in
      ap₂ (met_with (row_passes t r)) starts (first ∙ ap (first_met (has_written t)) (sym (take-append-drop n ps)))
      ∙ first_replaced (has_written t) (row_passes t r) front back (row_pattern r back) (in_row r back (omega (arith, length-drop n ps)))
      ∙ ap (first_met (has_written t)) (sym (next_row rows i r h e))

  -- the test of the first pattern
  pub first_is : (ps : List Pattern) → is_first (first_met (has_written t) ps) ≡ has_written t (child ps)
  first_is [] = refl
  first_is (p ∷ ps) = first_if_passed (has_written t p) (first_met (has_written t) ps)

pub next_count : (rows : List SchemaRow) (i : ℕ) (r : SchemaRow) (count start : ℕ) → i < length rows → r ≡ get_or rows i r
    → count ≡ length (patterns_in (take i rows)) → start ≡ count - row_arity r → start + 1 ≡ length (patterns_in (take (i + 1) rows))
next_count rows i r count start h e long from =
    let ps = patterns_in (take i rows) in
    let n = length ps - row_arity r in
    let starts : start ≡ length (take n ps) = from ∙ ap (λ k. k - row_arity r) long ∙ sym (length-take-le n ps (omega arith)) in
    ap (λ k. k + 1) starts ∙ sym (length-append (take n ps) (row_pattern r (drop n ps) ∷ [])) ∙ ap length (sym (next_row rows i r h e))
