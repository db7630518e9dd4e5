-- What the trees of a table contain and what occurs in them, row by row, without a walk over a tree.
use Rattle.std.proofs.Common.{◌≡◌, inl, inr, refl, ap, sym, ◌∙◌, subst, ℕ, zero, suc, ◌<◌, List, [], ◌∷◌, length, map}
use Rattle.std.proofs.Common.{slice_get, Some, option_map, Contains, arith}
use Rattle.std.proofs.lemmas.List.{get_or-map, length-map}
use Rattle.std.proofs.lemmas.List.Elements.{All-contains, Contains-append_left, Contains-push, Contains-push_cases}
use Rattle.std.proofs.lemmas.Option.{slice_get_cases, slice_get_within, get_or_from_slice_get, slice_get-map}
use Rattle.rng_model.proofs.Options.{one_value}
use Rattle.rng_model.proofs.Members.{not_in_none, one_only}
use Rattle.rng_model.proofs.Places.{contains_at, some_at, among_at, at_among}
use Rattle.rng_model.specs.names.Lists.{there}
use Rattle.rng_model.specs.names.Names as names
use Rattle.rng_model.specs.simple.Tree as tree
use Rattle.rng_model.specs.names.NameViews.{class_of}
use Rattle.rng_model.specs.simple.Table.{Table, grammar_of, tree_at, tree_over}
use Rattle.rng_model.specs.simple.TableRules.{IsTable, AreChildrenBelow}
use Rattle.rng_model.specs.simple.Grammar.{StandsIn, Inside, OccursIn, IsTransparent, kind_of, itself, of_attribute, of_list, of_except, of_one_or_more}
use Rattle.rng_model.specs.simple.Grammar.{of_left, of_right}
use Rattle.rng_model.specs.restrictions.Restrictions.{IsPart, the_start, a_body}
use Rattle.rng_model.proofs.Inside.{in_attribute, in_list, in_except, in_one_or_more, in_left, in_right, deeper, stands_cases, through_cases, ThroughChild}
use Rattle.rng_model.proofs.Inside.{occurs_repeated, occurs_left, occurs_right}
use Rattle.rng_model.specs.declared.simple.Simple.{Simple}
use Rattle.rng_model.specs.declared.simple.Simple.TheVariants as simple
use Rattle.rng_model.proofs.Table.{tree_at-over_children}
use Rattle.rng_labels.specs.plain.Queues.{IsReachedBy, at_start, onward}
use Rattle.rng_rules.specs.views.NamesMeetRows.{IsAbove, children, children_at, part_rows, passed}
use Rattle.rng_rules.specs.views.NamesMeetSides.{Climbs}
use Rattle.rng_rules.proofs.NamesMeetTables.{one_of_two, children_below}

abbrev pub STree : Type 0
STree = tree.Simple ℕ

-- q occurs in the parts of the pattern
abbrev OccursBelow : STree → STree → Type 0
OccursBelow q p = IsTransparent (kind_of p) × ThroughChild IsTransparent q p

module _ (t : Table) (valid : IsTable t) where
  abbrev ps : List Simple
  ps = t.patterns

  abbrev at : ℕ → STree
  at i = tree_at ps (record { 0 = i })

  abbrev IsPlaced : ℕ → Type 0
  IsPlaced k = IsReachedBy (children_at ps) (part_rows t) k

  row_of : (i : ℕ) → i < length ps → (r : Simple) × (slice_get ps i ≡ Some r)
  row_of i h = elim (slice_get_cases ps i).1 [ inl f ↦ (f.0, f.2) | inr f ↦ absurd (omega (arith, h, f.0)) ]

  pub over : (i : ℕ) (r : Simple) → slice_get ps i ≡ Some r → at i ≡ tree_over (tree_at ps) r
  over i r e = tree_at-over_children ps (record { 0 = i }) r valid.falls e

  pub children_of : (i : ℕ) (r : Simple) → slice_get ps i ≡ Some r → children_at ps i ≡ children r
  children_of i r e = get_or-map children ps i r [] (slice_get_within ps i r e) ∙ ap children (get_or_from_slice_get ps i r r e)

  -- ---- what is inside a part has a row that is reached

  pub record RowAt (P : ℕ → Type 0) (q : STree) : Type 0 where
    pub place : ℕ
    pub pattern : Simple
    pub there : slice_get ps place ≡ Some pattern
    pub is : at place ≡ q
    pub holds : P place

  down : {q : STree} (r : Simple) (n : ℕ) → ((y : ℕ) → y < n → Contains (children r) y → StandsIn q (at y) → RowAt IsPlaced q) → AreChildrenBelow n r
      → Inside q (tree_over (tree_at ps) r) → RowAt IsPlaced q
  down simple.NotAllowed n f h i = elim i.1 [ ]
  down simple.Empty n f h i = elim i.1 [ ]
  down simple.Text n f h i = elim i.1 [ ]
  down (simple.Element e) n f h i = elim i.1 [ ]
  down (simple.Attribute d a) n f h (_, of_attribute, i) = f a.0 h (0, omega arith, refl) i
  down (simple.List a) n f h (_, of_list, i) = f a.0 h (0, omega arith, refl) i
  down (simple.Data d) n f h i = elim i.1 [ ]
  down (simple.DataExcept d a) n f h (_, of_except, i) = f a.0 h (0, omega arith, refl) i
  down (simple.Value value) n f h i = elim i.1 [ ]
  down (simple.OneOrMore a) n f h (_, of_one_or_more, i) = f a.0 h (0, omega arith, refl) i
  down (simple.Group a b) n f h (_, of_left, i) = f a.0 h.0 (0, omega arith, refl) i
  down (simple.Group a b) n f h (_, of_right, i) = f b.0 h.1 (1, omega arith, refl) i
  down (simple.Interleave a b) n f h (_, of_left, i) = f a.0 h.0 (0, omega arith, refl) i
  down (simple.Interleave a b) n f h (_, of_right, i) = f b.0 h.1 (1, omega arith, refl) i
  down (simple.Choice a b) n f h (_, of_left, i) = f a.0 h.0 (0, omega arith, refl) i
  down (simple.Choice a b) n f h (_, of_right, i) = f b.0 h.1 (1, omega arith, refl) i

  pub standing_row : {q : STree} (bound n : ℕ) → n < bound → n < length ps → IsPlaced n → StandsIn q (at n) → RowAt IsPlaced q
  standing_row zero n m h w s = absurd (omega (arith, m))
  standing_row {q} (suc bound) n m h w s =
      let r = row_of n h in
      elim (stands_cases s) [
        | inl e ↦ record { place = n; pattern = r.0; there = r.1; is = sym e; holds = w }
        | inr i ↦ down r.0 n (λ y p c j. standing_row bound y (omega (arith, p, m)) (omega (arith, p, h))
            (onward w (subst (λ xs. Contains xs y) (sym (children_of n r.0 r.1)) c)) j) (valid.falls n r.0 r.1)
            (subst (Inside q) (over n r.0 r.1) i)
      ]

  -- ---- a row that is reached is inside a part

  child_stands : {y : ℕ} (r : Simple) → Contains (children r) y → StandsIn (at y) (tree_over (tree_at ps) r)
  child_stands {y} simple.NotAllowed c = absurd (not_in_none c)
  child_stands {y} simple.Empty c = absurd (not_in_none c)
  child_stands {y} simple.Text c = absurd (not_in_none c)
  child_stands {y} (simple.Element e) c = absurd (not_in_none c)
  child_stands {y} (simple.Attribute d a) c = in_attribute (subst (λ k. StandsIn (at k) (tree_at ps a)) (one_only a.0 _ c) itself)
  child_stands {y} (simple.List a) c = in_list (subst (λ k. StandsIn (at k) (tree_at ps a)) (one_only a.0 _ c) itself)
  child_stands {y} (simple.Data d) c = absurd (not_in_none c)
  child_stands {y} (simple.DataExcept d a) c = in_except (subst (λ k. StandsIn (at k) (tree_at ps a)) (one_only a.0 _ c) itself)
  child_stands {y} (simple.Value value) c = absurd (not_in_none c)
  child_stands {y} (simple.OneOrMore a) c = in_one_or_more (subst (λ k. StandsIn (at k) (tree_at ps a)) (one_only a.0 _ c) itself)
  child_stands {y} (simple.Group a b) c = elim (one_of_two c) [ inl e ↦ in_left (subst (λ k. StandsIn (at k) (tree_at ps a)) (sym e) itself) | inr e ↦ in_right (subst (λ k. StandsIn (at k) (tree_at ps b)) (sym e) itself) ]
  child_stands {y} (simple.Interleave a b) c = elim (one_of_two c) [ inl e ↦ in_left (subst (λ k. StandsIn (at k) (tree_at ps a)) (sym e) itself) | inr e ↦ in_right (subst (λ k. StandsIn (at k) (tree_at ps b)) (sym e) itself) ]
  child_stands {y} (simple.Choice a b) c = elim (one_of_two c) [ inl e ↦ in_left (subst (λ k. StandsIn (at k) (tree_at ps a)) (sym e) itself) | inr e ↦ in_right (subst (λ k. StandsIn (at k) (tree_at ps b)) (sym e) itself) ]

  pub record InPart (k : ℕ) : Type 0 where
    pub inside : k < length ps
    pub part : STree
    pub is : IsPart (grammar_of t) part
    pub stands : StandsIn (at k) part

  body_row : (k : ℕ) → Contains (map (λ e. e.1.0) t.elements) k → InPart k
  body_row k c =
      let i = some_at (map (λ e. e.1.0) t.elements) k c in
      elim (slice_get_cases t.elements i.0).1 [
        | inl f ↦
            let same : f.0.1.0 ≡ k = one_value (slice_get-map (λ e. e.1.0) t.elements i.0 ∙ ap (option_map (λ e. e.1.0)) f.2) i.2 in
            let listed : slice_get (grammar_of t).elements i.0 ≡ Some (class_of f.0.0, tree_at ps f.0.1) =
            slice_get-map (λ e. (class_of e.0, tree_at ps e.1)) t.elements i.0 ∙ ap (option_map (λ e. (class_of e.0, tree_at ps e.1))) f.2 in
            subst InPart same (record {
              inside = All-contains (λ e. e.1.0 < length ps) t.elements f.0 valid.bodies (contains_at t.elements i.0 f.0 f.2);
              part = tree_at ps f.0.1;
              is = a_body (at_among (grammar_of t).elements i.0 (class_of f.0.0, tree_at ps f.0.1) listed);
              stands = itself;
            })
        | inr f ↦ absurd (let l = length-map t.elements (λ e. e.1.0) in omega (arith, i.1, f.0, l))
      ]

  pub in_part : {k : ℕ} → IsPlaced k → InPart k
  in_part (at_start {x = k} c) = elim (Contains-push_cases (map (λ e. e.1.0) t.elements) t.start.0 k c) [
    | inl b ↦ body_row k b
    | inr e ↦ subst InPart e (record { inside = valid.start; part = at t.start.0; is = the_start; stands = itself })
  ]
  in_part (onward {x = x} {y = y} w c) =
      let p = in_part w in
      let r = row_of x p.inside in
      let child : Contains (children r.0) y = subst (λ xs. Contains xs y) (children_of x r.0 r.1) c in
      record {
        inside = let l = children_below r.0 x y (valid.falls x r.0 r.1) child in omega (arith, l, p.inside);
        part = p.part;
        is = p.is;
        stands = deeper p.stands (subst (StandsIn (at y)) (sym (over x r.0 r.1)) (child_stands r.0 child));
      }

  -- a part has a row
  pub part_row : {p : STree} → IsPart (grammar_of t) p → (k : ℕ) × Contains (part_rows t) k × (at k ≡ p)
  part_row the_start = (t.start.0, Contains-push (map (λ e. e.1.0) t.elements) t.start.0, refl)
  part_row (a_body {c} {body} a) =
      let i = among_at a in
      let f : (names.NameClass × STree) → STree = λ x. x.1 in
      elim (slice_get_cases t.elements i.0).1 [
        | inl g ↦
            let listed : slice_get (grammar_of t).elements i.0 ≡ Some (class_of g.0.0, tree_at ps g.0.1) =
            slice_get-map (λ e. (class_of e.0, tree_at ps e.1)) t.elements i.0 ∙ ap (option_map (λ e. (class_of e.0, tree_at ps e.1))) g.2 in (
              g.0.1.0,
              Contains-append_left (map (λ e. e.1.0) t.elements) (t.start.0 ∷ []) g.0.1.0
                  (contains_at (map (λ e. e.1.0) t.elements) i.0 g.0.1.0 (slice_get-map (λ e. e.1.0) t.elements i.0 ∙ ap (option_map (λ e. e.1.0)) g.2)),
              ap f (one_value listed i.1),
            )
        | inr g ↦ absurd (let l = length-map {B = names.NameClass × STree} t.elements (λ e. (class_of e.0, tree_at ps e.1)) in
            let h = slice_get_within (grammar_of t).elements i.0 (c, body) i.1 in omega (arith, h, g.0, l))
      ]

  -- ---- what occurs in a row climbs to it

  module _ (above : List (List ℕ)) (is : IsAbove ps above) where
    occurs_over : {q : STree} {x : ℕ} (r : Simple) → Contains (passed r) x → OccursIn q (at x) → OccursIn q (tree_over (tree_at ps) r)
    occurs_over {q} {x} simple.NotAllowed c o = absurd (not_in_none c)
    occurs_over {q} {x} simple.Empty c o = absurd (not_in_none c)
    occurs_over {q} {x} simple.Text c o = absurd (not_in_none c)
    occurs_over {q} {x} (simple.Element e) c o = absurd (not_in_none c)
    occurs_over {q} {x} (simple.Attribute d a) c o = absurd (not_in_none c)
    occurs_over {q} {x} (simple.List a) c o = absurd (not_in_none c)
    occurs_over {q} {x} (simple.Data d) c o = absurd (not_in_none c)
    occurs_over {q} {x} (simple.DataExcept d a) c o = absurd (not_in_none c)
    occurs_over {q} {x} (simple.Value value) c o = absurd (not_in_none c)
    occurs_over {q} {x} (simple.OneOrMore a) c o = occurs_repeated (subst (λ k. OccursIn q (at k)) (sym (one_only a.0 x c)) o)
    occurs_over {q} {x} (simple.Group a b) c o = elim (one_of_two c) [ inl e ↦ occurs_left (subst (λ k. OccursIn q (at k)) e o) | inr e ↦ occurs_right (subst (λ k. OccursIn q (at k)) e o) ]
    occurs_over {q} {x} (simple.Interleave a b) c o = elim (one_of_two c) [ inl e ↦ occurs_left (subst (λ k. OccursIn q (at k)) e o) | inr e ↦ occurs_right (subst (λ k. OccursIn q (at k)) e o) ]
    occurs_over {q} {x} (simple.Choice a b) c o = elim (one_of_two c) [ inl e ↦ occurs_left (subst (λ k. OccursIn q (at k)) e o) | inr e ↦ occurs_right (subst (λ k. OccursIn q (at k)) e o) ]

    pub climbed_occurs : {s k : ℕ} → Climbs above (s ∷ []) k → OccursIn (at s) (at k)
    climbed_occurs {s = s} (at_start {x = x} c) = subst (λ k. OccursIn (at s) (at k)) (one_only s x c) itself
    climbed_occurs {s = s} (onward {x = x} {y = y} w c) =
        let p = (is.exact x y).0 c in
        subst (OccursIn (at s)) (sym (over y p.0 p.1)) (occurs_over p.0 p.2 (climbed_occurs w))

    abbrev ClimbsFrom : ℕ → ℕ → Type 0
    ClimbsFrom n place = (start : List ℕ) → Contains start place → Climbs above start n

    climb_on : {q : STree} {y n : ℕ} {r : Simple} → slice_get ps n ≡ Some r → Contains (passed r) y → RowAt (ClimbsFrom y) q → RowAt (ClimbsFrom n) q
    climb_on {y = y} {n = n} {r = r} e c a = record {
      place = a.place;
      pattern = a.pattern;
      there = a.there;
      is = a.is;
      holds = λ start h. onward (a.holds start h) ((is.exact y n).1 (r, e, c));
    }

    climb_down : {q : STree} (r : Simple) (n : ℕ) → slice_get ps n ≡ Some r → ((y : ℕ) → y < n → OccursIn q (at y) → RowAt (ClimbsFrom y) q)
        → AreChildrenBelow n r → OccursBelow q (tree_over (tree_at ps) r) → RowAt (ClimbsFrom n) q
    climb_down simple.NotAllowed n e f h o = elim o.0 [ ]
    climb_down simple.Empty n e f h o = elim o.0 [ ]
    climb_down simple.Text n e f h o = elim o.0 [ ]
    climb_down (simple.Element k) n e f h o = elim o.0 [ ]
    climb_down (simple.Attribute d a) n e f h o = elim o.0 [ ]
    climb_down (simple.List a) n e f h o = elim o.0 [ ]
    climb_down (simple.Data d) n e f h o = elim o.0 [ ]
    climb_down (simple.DataExcept d a) n e f h o = elim o.0 [ ]
    climb_down (simple.Value value) n e f h o = elim o.0 [ ]
    climb_down (simple.OneOrMore a) n e f h (_, (_, of_one_or_more, o)) = climb_on e (0, omega arith, refl) (f a.0 h o)
    climb_down (simple.Group a b) n e f h (_, (_, of_left, o)) = climb_on e (0, omega arith, refl) (f a.0 h.0 o)
    climb_down (simple.Group a b) n e f h (_, (_, of_right, o)) = climb_on e (1, omega arith, refl) (f b.0 h.1 o)
    climb_down (simple.Interleave a b) n e f h (_, (_, of_left, o)) = climb_on e (0, omega arith, refl) (f a.0 h.0 o)
    climb_down (simple.Interleave a b) n e f h (_, (_, of_right, o)) = climb_on e (1, omega arith, refl) (f b.0 h.1 o)
    climb_down (simple.Choice a b) n e f h (_, (_, of_left, o)) = climb_on e (0, omega arith, refl) (f a.0 h.0 o)
    climb_down (simple.Choice a b) n e f h (_, (_, of_right, o)) = climb_on e (1, omega arith, refl) (f b.0 h.1 o)

    pub occurring_row : {q : STree} (bound n : ℕ) → n < bound → n < length ps → OccursIn q (at n) → RowAt (ClimbsFrom n) q
    occurring_row zero n m h o = absurd (omega (arith, m))
    occurring_row {q} (suc bound) n m h o =
        let r = row_of n h in
        elim (through_cases o) [
          | inl e ↦ record { place = n; pattern = r.0; there = r.1; is = sym e; holds = λ start c. at_start c }
          | inr i ↦ climb_down r.0 n r.1 (λ y p j. occurring_row bound y (omega (arith, p, m)) (omega (arith, p, h)) j) (valid.falls n r.0 r.1)
              (subst (OccursBelow q) (over n r.0 r.1) i)
        ]
