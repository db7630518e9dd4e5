-- Patterns resolved row by row.
use Rattle.std.proofs.Common.{◌≡◌, refl, ap, ap₂, sym, ◌∙◌, ℕ, ◌+◌, ◌-◌, ◌<◌, ◌≤◌, min, List, [], ◌∷◌, ◌++◌, length, take, drop, get_or, Option, append_assoc}
use Rattle.std.proofs.Common.{arith, length-append, append-nil}
use Rattle.std.proofs.Math.Seq.{drop-append_seam, take-append_seam}
use Rattle.std.proofs.lemmas.List.{take_all, take-append-drop, length-drop, length-take}
use Rattle.rng_model.specs.simple.Tree.{Tree, choice, group, interleave}
use Rattle.rng_model.specs.simple.Tree as tree
use Rattle.rng_model.specs.declared.schema_pattern.SchemaRow.{SchemaRow}
use Rattle.rng_model.specs.declared.schema_pattern.SchemaRow.TheVariants as row
use Rattle.rng_model.specs.schema.Patterns.{Place, Pattern}
use Rattle.rng_model.specs.datatypes.DatatypeViews.{datatype_of}
use Rattle.rng_model.specs.names.NameViews.{class_of}
use Rattle.rng_model.specs.views.ReplacedLists.{replaced}
use Rattle.rng_model.specs.views.SchemaView.{patterns_in, row_arity, row_pattern}
use Rattle.rng_model.specs.views.SchemaView as schema
use Rattle.rng_model.proofs.ReplacedLists.{with_children}
use Rattle.rng_model.proofs.SchemaRows.{no_rows, next_row}
use Rattle.rng_simple.specs.plain.Graph.{Spot}
use Rattle.rng_simple.specs.plain.Resolving.{Numbering, Resolved, resolve, resolve_each, with_element, within}
use Rattle.rng_simple.specs.plain.ResolvedRows.{AllResolved, behind, in_place, row_resolved, with_resolved}
use Rattle.rng_simple.specs.views.GraphView.{child}
use Rattle.rng_simple.proofs.BuiltGraphs.ResolvedMembers.{each_once, members_resolved}
use Rattle.rng_simple.proofs.BuiltGraphs.WholePatterns.{length_replaced}

-- ---- the trees that a row takes

in_place_is : (n : ℕ) (make : List (Tree Spot) → Resolved) (ts us : List (Tree Spot)) → n ≡ length us → in_place n make (ts ++ us) ≡ behind ts (make us)
in_place_is n make ts us e =
    let front : length (ts ++ us) - n ≡ length ts = omega (arith, length-append ts us, e) in
    ap₂ (λ xs ys. behind xs (make ys)) (ap (λ n. take n (ts ++ us)) front ∙ take-append_seam ts us)
    (ap (λ n. drop n (ts ++ us)) front ∙ drop-append_seam ts us)

none_in_place : (n : ℕ) (ts : List (Tree Spot)) (r : Resolved) → n ≤ 0 → behind ts r ≡ behind (take (length ts - n) ts) r
none_in_place n ts r none = ap (λ xs. behind xs r) (sym (take_all (length ts - n) ts (omega (arith, none))))

module _ (x : Place) (outer : Option Place) where
  pub with_resolved_is : (r : SchemaRow) (n : ℕ) (ts : List (Tree Spot)) (v : Numbering) → n ≤ row_arity r
      → with_resolved x outer r n ts v ≡ in_place n (λ us. row_resolved x outer r us v) ts
  with_resolved_is row.NotAllowed n ts v h = none_in_place n ts _ h
  with_resolved_is row.Empty n ts v h = none_in_place n ts _ h
  with_resolved_is row.Text n ts v h = none_in_place n ts _ h
  with_resolved_is (row.Element c) n ts v h = refl
  with_resolved_is (row.Attribute c) n ts v h = refl
  with_resolved_is row.List n ts v h = refl
  with_resolved_is (row.Data d) n ts v h = none_in_place n ts _ h
  with_resolved_is (row.DataExcept d) n ts v h = refl
  with_resolved_is (row.Value w) n ts v h = none_in_place n ts _ h
  with_resolved_is row.Mixed n ts v h = refl
  with_resolved_is row.Optional n ts v h = refl
  with_resolved_is row.ZeroOrMore n ts v h = refl
  with_resolved_is row.OneOrMore n ts v h = refl
  with_resolved_is (row.Group k) n ts v h = refl
  with_resolved_is (row.Interleave k) n ts v h = refl
  with_resolved_is (row.Choice k) n ts v h = refl
  with_resolved_is (row.Ref y) n ts v h = none_in_place n ts _ h
  with_resolved_is (row.ParentRef y) n ts v h = none_in_place n ts _ h
  with_resolved_is (row.Grammar z) n ts v h = none_in_place n ts _ h
  with_resolved_is row.External n ts v h = refl

  -- ---- one row

  each_append : (ps qs : List Pattern) (v : Numbering) → resolve_each x outer (ps ++ qs) v
      ≡ ((resolve_each x outer ps v).0 ++ (resolve_each x outer qs (resolve_each x outer ps v).1).0, (resolve_each x outer qs (resolve_each x outer ps v).1).1)
  unfolding resolve_each
  each_append [] qs v = refl
  each_append (p ∷ ps) qs v =
      let a = resolve x outer p v in
      ap {B = List (Tree Spot) × Numbering} (λ r. (a.0 ∷ r.0, r.1)) (each_append ps qs a.1)

  pub child_resolved : (ps : List Pattern) (v : Numbering) → length ps ≤ 1
      → resolve x outer (schema.child ps) v ≡ (child (resolve_each x outer ps v).0, (resolve_each x outer ps v).1)
  unfolding resolve resolve_each
  child_resolved [] v h = refl
  child_resolved (p ∷ []) v h = refl
  child_resolved (p ∷ (q ∷ ps)) v h = absurd (omega (arith, h))

  none_resolved : (ps : List Pattern) (v : Numbering) → length ps ≤ 0 → v ≡ (resolve_each x outer ps v).1
  unfolding resolve_each
  none_resolved [] v h = refl
  none_resolved (p ∷ ps) v h = absurd (omega (arith, h))

  row_is : (r : SchemaRow) (ps : List Pattern) (v : Numbering) → length ps ≤ row_arity r
      → resolve x outer (row_pattern r ps) v ≡ row_resolved x outer r (resolve_each x outer ps v).0 (resolve_each x outer ps v).1
  unfolding resolve
  row_is row.NotAllowed ps v h = ap (row_resolved x outer row.NotAllowed []) (none_resolved ps v h)
  row_is row.Empty ps v h = ap (row_resolved x outer row.Empty []) (none_resolved ps v h)
  row_is row.Text ps v h = ap (row_resolved x outer row.Text []) (none_resolved ps v h)
  row_is (row.Element c) ps v h = ap (with_element (class_of c.value)) (child_resolved ps v h)
  row_is (row.Attribute c) ps v h = ap (within (tree.attribute (class_of c.value))) (child_resolved ps v h)
  row_is row.List ps v h = ap (within tree.list) (child_resolved ps v h)
  row_is (row.Data d) ps v h = ap (row_resolved x outer (row.Data d) []) (none_resolved ps v h)
  row_is (row.DataExcept d) ps v h = ap (within (tree.data_except (datatype_of d.value))) (child_resolved ps v h)
  row_is (row.Value w) ps v h = ap (row_resolved x outer (row.Value w) []) (none_resolved ps v h)
  row_is row.Mixed ps v h = ap (within tree.mixed) (child_resolved ps v h)
  row_is row.Optional ps v h = ap (within tree.optional) (child_resolved ps v h)
  row_is row.ZeroOrMore ps v h = ap (within tree.zero_or_more) (child_resolved ps v h)
  row_is row.OneOrMore ps v h = ap (within tree.one_or_more) (child_resolved ps v h)
  row_is (row.Group k) ps v h = members_resolved x outer group ps v
  row_is (row.Interleave k) ps v h = members_resolved x outer interleave ps v
  row_is (row.Choice k) ps v h = members_resolved x outer choice ps v
  row_is (row.Ref y) ps v h = ap (row_resolved x outer (row.Ref y) []) (none_resolved ps v h)
  row_is (row.ParentRef y) ps v h = ap (row_resolved x outer (row.ParentRef y) []) (none_resolved ps v h)
  row_is (row.Grammar z) ps v h = ap (row_resolved x outer (row.Grammar z) []) (none_resolved ps v h)
  row_is row.External ps v h = child_resolved ps v h

  pushed : (ps : List Pattern) (q : Pattern) (v : Numbering) → resolve_each x outer (ps ++ q ∷ []) v
      ≡ behind (resolve_each x outer ps v).0 (resolve x outer q (resolve_each x outer ps v).1)
  unfolding resolve_each
  pushed ps q v = each_append ps (q ∷ []) v

  -- trees in front of what is resolved
  abbrev front_of : List (Tree Spot) → AllResolved → AllResolved
  front_of front r = (front ++ r.0, r.1)

  behind_front : (front ts : List (Tree Spot)) (r : Resolved) → behind (front ++ ts) r ≡ (front ++ (behind ts r).0, r.1)
  behind_front front ts r = ap {B = AllResolved} (λ us. (us, r.1)) (append_assoc front ts (r.0 ∷ []))

  row_step : (r : SchemaRow) (n : ℕ) (ps : List Pattern) (v : Numbering) (front ts : List (Tree Spot)) (w : Numbering)
      → ts ≡ front ++ (resolve_each x outer ps v).0 → w ≡ (resolve_each x outer ps v).1 → n ≡ min (row_arity r) (length ps)
      → with_resolved x outer r n ts w
      ≡ (front ++ (resolve_each x outer (schema.with_row ps r) v).0, (resolve_each x outer (schema.with_row ps r) v).1)
  row_step r n ps v front ts w trees now few =
      let k = length ps - row_arity r in
      let kept = take k ps in
      let bs = drop k ps in
      let a = resolve_each x outer kept v in
      let b = resolve_each x outer bs a.1 in
      let q = row_pattern r bs in
      let resolved = row_resolved x outer r in
      let whole = ap (λ ps. resolve_each x outer ps v) (sym (take-append-drop k ps)) ∙ each_append kept bs v in
      let parts : ts ≡ (front ++ a.0) ++ b.0 = trees ∙ ap (λ r. front ++ r.0) whole ∙ sym (append_assoc front a.0 b.0) in
      let last : w ≡ b.1 = now ∙ ap (λ r. r.1) whole in
      let long : n ≡ length b.0 = omega (arith, few, each_once x outer bs a.1, length-drop k ps) in
      let made : resolve x outer q a.1 ≡ resolved b.0 b.1 = row_is r bs a.1 (omega (arith, length-drop k ps)) in
      with_resolved_is r n ts w (omega (arith, few))
      ∙ ap₂ (λ ts w. in_place n (λ us. resolved us w) ts) parts last
      ∙ in_place_is n (λ us. resolved us b.1) (front ++ a.0) b.0 long
      ∙ ap (behind (front ++ a.0)) (sym made)
      ∙ behind_front front a.0 (resolve x outer q a.1)
      ∙ ap (front_of front) (sym (pushed kept q v))

  -- the state of the loop over rows
  pub record AreResolved (front : List (Tree Spot)) (before : Numbering) (rows : List SchemaRow) (i count : ℕ) (ts : List (Tree Spot)) (now : Numbering)
      : Type 0 where
    pub counted : count ≡ length (patterns_in (take i rows))
    pub small : count ≤ i
    pub trees : ts ≡ front ++ (resolve_each x outer (patterns_in (take i rows)) before).0
    pub numbering : now ≡ (resolve_each x outer (patterns_in (take i rows)) before).1

  module _ {front : List (Tree Spot)} {before : Numbering} (rows : List SchemaRow) where
    pub no_rows_resolved : AreResolved front before rows 0 0 front before
    unfolding resolve_each
    no_rows_resolved =
        let none : patterns_in (take 0 rows) ≡ [] = no_rows in
        record {
          counted = sym (ap length none);
          small = omega arith;
          trees = sym (ap (λ ps. front ++ (resolve_each x outer ps before).0) none ∙ append-nil front);
          numbering = sym (ap (λ ps. (resolve_each x outer ps before).1) none);
        }

    -- the trees that the next row takes are there
    pub there : (i count n : ℕ) (ts : List (Tree Spot)) (now : Numbering) → AreResolved front before rows i count ts now → n ≤ count → n ≤ length ts
    there i count n ts now is few =
        let ps = patterns_in (take i rows) in
        let long : length ts ≡ length (front ++ (resolve_each x outer ps before).0) = ap length is.trees in
        omega (arith, few, long, is.counted, length-append front (resolve_each x outer ps before).0, each_once x outer ps before)

    pub next_resolved : (i : ℕ) (r : SchemaRow) (count n : ℕ) (ts more : List (Tree Spot)) (now later : Numbering) → i < length rows → r ≡ get_or rows i r
        → AreResolved front before rows i count ts now → n ≡ min (row_arity r) count → more ≡ (with_resolved x outer r n ts now).0
        → later ≡ (with_resolved x outer r n ts now).1 → AreResolved front before rows (i + 1) (count - n + 1) more later
    next_resolved i r count n ts more now later h e is few grown numbered =
        let ps = patterns_in (take i rows) in
        let next : patterns_in (take (i + 1) rows) ≡ schema.with_row ps r = next_row rows i r h e in
        let step = row_step r n ps before front ts now is.trees is.numbering (few ∙ ap (min (row_arity r)) is.counted) in
        let long = length_replaced (row_arity r) (row_pattern r) ps in
        let counted : count - n + 1 ≡ length (schema.with_row ps r) = omega (arith, few, long, is.counted) in
        record {
          counted = counted ∙ ap length (sym next);
          small = omega (arith, is.small);
          trees = grown ∙ ap (λ r. r.0) step ∙ ap (λ ps. front ++ (resolve_each x outer ps before).0) (sym next);
          numbering = numbered ∙ ap (λ r. r.1) step ∙ ap (λ ps. (resolve_each x outer ps before).1) (sym next);
        }

    -- all rows of the first one of these patterns
    module _ (qs : List Pattern) (first : patterns_in rows ≡ take 1 qs) (i count : ℕ) (ts : List (Tree Spot)) (now : Numbering) (all : length rows ≤ i)
        (is : AreResolved front before rows i count ts now) where
      abbrev ps : List Pattern
      ps = take 1 qs

      whole : patterns_in (take i rows) ≡ ps
      whole = ap patterns_in (take_all i rows all) ∙ first

      few : length ps ≤ 1
      few = omega (arith, length-take 1 qs)

      pub one : count ≤ 1
      one = let long : length (patterns_in (take i rows)) ≡ length ps = ap length whole in omega (arith, is.counted, long, few)

      only : (qs : List Pattern) → schema.child (take 1 qs) ≡ schema.child qs
      only [] = refl
      only (q ∷ qs) = refl

      resolved : resolve x outer (schema.child qs) before ≡ (child (resolve_each x outer ps before).0, (resolve_each x outer ps before).1)
      resolved = ap (λ p. resolve x outer p before) (sym (only qs)) ∙ child_resolved ps before few

      pub all_trees : (more : List (Tree Spot)) → more ≡ replaced count child ts → more ≡ front ++ (resolve x outer (schema.child qs) before).0 ∷ []
      all_trees more grown =
          let us = (resolve_each x outer ps before).0 in
          let same : ts ≡ front ++ us = is.trees ∙ ap (λ ps. front ++ (resolve_each x outer ps before).0) whole in
          let long : count ≡ length us = is.counted ∙ ap length whole ∙ sym (each_once x outer ps before) in
          grown ∙ ap (replaced count child) same ∙ with_children count child front us long ∙ ap (λ r. front ++ r.0 ∷ []) (sym resolved)

      pub all_numbers : now ≡ (resolve x outer (schema.child qs) before).1
      all_numbers = is.numbering ∙ ap (λ ps. (resolve_each x outer ps before).1) whole ∙ ap (λ r. r.1) (sym resolved)
