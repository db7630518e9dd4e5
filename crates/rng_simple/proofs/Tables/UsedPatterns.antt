-- Each pattern of the tables that are made of rows is in the start or in the body of an element.
use Rattle.std.proofs.Common.{◌≡◌, ◌↔◌, refl, ap, subst, ℕ, zero, suc, ◌<◌, List, [], ◌∷◌, length, map, slice_get, slice_index_or, Some, Bool, true}
use Rattle.std.proofs.Common.{Contains, inl, inr, arith}
use Rattle.std.proofs.lemmas.Option.{slice_get_within, slice_get-get_or}
use Rattle.rng_model.specs.names.Lists.{Among}
use Rattle.rng_model.specs.names.Lists as lists
use Rattle.rng_model.specs.names.Names as names
use Rattle.rng_model.specs.restrictions.Restrictions.{IsPart, the_start, a_body}
use Rattle.rng_model.specs.simple.Grammar.{StandsIn, itself}
use Rattle.rng_model.proofs.Members.{not_in_none, one_only}
use Rattle.rng_model.proofs.Inside.{deeper, in_attribute, in_list, in_except, in_one_or_more, in_left, in_right}
use Rattle.rng_model.specs.simple.Table.{Table, grammar_of}
use Rattle.rng_model.specs.simple.Tree.{Simple}
use Rattle.rng_model.specs.names.NameViews.{class_of}
use Rattle.rng_model.specs.declared.name.NameClass.{NameClass}
use Rattle.rng_model.specs.declared.simple.PatternId.{PatternId}
use Rattle.rng_model.specs.declared.simple.Simple as declared
use Rattle.rng_simple.specs.plain.Copying.{tree_numbered, place_of, numbered_row, AreCopied}
use Rattle.rng_simple.specs.views.GrammarElements.{AreElementCopies}
use Rattle.rng_simple.specs.plain.RowReach.{nexts, row_next, content_of}
use Rattle.rng_simple.specs.views.Rows.{Labels, row_tree, AreRows, AreChildrenBelow}
use Rattle.rng_simple.specs.plain.SimpleParts.{AreRowsBelow}
use Rattle.rng_model.specs.simple.SimplifiedSchema.{AreAllUsed}
use Rattle.rng_labels.specs.plain.Queues.{IsReachedBy, at_start, onward}
use Rattle.rng_model.specs.declared.type_set.TypeSet.{TypeSet}
use Rattle.rng_simple.specs.declared.rows.Row.{Row}
use Rattle.rng_simple.specs.declared.rows.Row.TheVariants as row
use Rattle.rng_simple.proofs.Tables.RowReach.{one_of_two}

-- what is found in a list is a member, and so is its image
found_among : {A B : Type 0} (f : A → B) (xs : List A) (i : ℕ) (x : A) → slice_get xs i ≡ Some x → Among (f x) (map f xs)
found_among f [] i x e = let h = slice_get_within [] i x e in absurd (omega arith)
found_among f (y ∷ xs) zero x e = let same : y ≡ x = cc in subst (λ z. Among (f z) (map f (y ∷ xs))) same lists.here
found_among f (y ∷ xs) (suc i) x e = lists.there (found_among f xs i x e)

module _ (l : Labels) (rs : List Row) (rows : AreRows l rs) (contents : List ℕ) (below : AreRowsBelow (length rs) contents) (first : ℕ)
    (first_below : first < length rs)
    (reached : List Bool)
    (marks : (i : ℕ) → IsReachedBy (row_next rs (content_of contents)) (first ∷ []) i ↔ (slice_get reached i ≡ Some true))
    (places listed : List ℕ) (ps : List declared.Simple) (are : AreCopied l rs reached (length rs) places ps listed) (classes : List names.NameClass)
    (es : List (NameClass × PatternId)) (copies : AreElementCopies classes contents places listed es) (start : PatternId)
    (is_start : start.0 ≡ place_of places first) (types : TypeSet) where
  abbrev of : ℕ → Simple ℕ
  of a = tree_numbered ps (place_of places a)

  abbrev made_table : Table
  made_table = record { patterns = ps; elements = es; start = start; types = types }

  -- its pattern is in a part of the grammar
  abbrev Stands : ℕ → Type 0
  Stands i = (i < length rs) × (part : Simple ℕ) × IsPart (grammar_of made_table) part × StandsIn (of i) part

  body_stands : (k n : ℕ) → slice_get listed n ≡ Some k → Stands (content_of contents k)
  body_stands k n e =
      let within = slice_get_within listed n k e in
      let x : NameClass × PatternId = slice_index_or es n (NameClass.Any, record { 0 = 0 }) in
      let found : slice_get es n ≡ Some x = slice_get-get_or es n (NameClass.Any, record { 0 = 0 }) (omega (arith, within, copies.count)) in
      let body = (copies.each n k x e found).body in (
        below k,
        of (content_of contents k),
        a_body (subst (λ t. Among (class_of x.0, t) (grammar_of made_table).elements) (ap (tree_numbered ps) body)
            (found_among (λ (y : NameClass × PatternId). (class_of y.0, tree_numbered ps y.1.0)) es n x found)),
        itself,
      )

  onward_stands : (r : Row) (n i y : ℕ) → i < length rs → AreChildrenBelow i r → (part : Simple ℕ) → IsPart (grammar_of made_table) part
      → StandsIn (row_tree l of (numbered_row n r)) part → ((k : ℕ) → r ≡ row.Element k → slice_get listed n ≡ Some k)
      → Contains (nexts (content_of contents) r) y → Stands y
  onward_stands (row.Element m) n i y h b part is w e c = subst Stands (one_only (content_of contents m) y c) (body_stands m n (e m refl))
  onward_stands (row.Attribute d a) n i y h b part is w e c =
      subst Stands (one_only a y c) (omega (arith, h, b), part, is, deeper w (in_attribute itself))
  onward_stands (row.List a) n i y h b part is w e c =
      subst Stands (one_only a y c) (omega (arith, h, b), part, is, deeper w (in_list itself))
  onward_stands (row.DataExcept d a) n i y h b part is w e c =
      subst Stands (one_only a y c) (omega (arith, h, b), part, is, deeper w (in_except itself))
  onward_stands (row.OneOrMore a) n i y h b part is w e c =
      subst Stands (one_only a y c) (omega (arith, h, b), part, is, deeper w (in_one_or_more itself))
  onward_stands (row.Choice a f) n i y h b part is w e c = elim (one_of_two a f y c) [
    | inl s ↦ subst Stands s (omega (arith, h, b.0), part, is, deeper w (in_left itself))
    | inr s ↦ subst Stands s (omega (arith, h, b.1), part, is, deeper w (in_right itself))
  ]
  onward_stands (row.Group a f) n i y h b part is w e c = elim (one_of_two a f y c) [
    | inl s ↦ subst Stands s (omega (arith, h, b.0), part, is, deeper w (in_left itself))
    | inr s ↦ subst Stands s (omega (arith, h, b.1), part, is, deeper w (in_right itself))
  ]
  onward_stands (row.Interleave a f) n i y h b part is w e c = elim (one_of_two a f y c) [
    | inl s ↦ subst Stands s (omega (arith, h, b.0), part, is, deeper w (in_left itself))
    | inr s ↦ subst Stands s (omega (arith, h, b.1), part, is, deeper w (in_right itself))
  ]
  onward_stands row.NotAllowed n i y h b part is w e c = absurd (not_in_none c)
  onward_stands row.Empty n i y h b part is w e c = absurd (not_in_none c)
  onward_stands row.Text n i y h b part is w e c = absurd (not_in_none c)
  onward_stands (row.Data d) n i y h b part is w e c = absurd (not_in_none c)
  onward_stands (row.Value v) n i y h b part is w e c = absurd (not_in_none c)

  stands : {i : ℕ} → IsReachedBy (row_next rs (content_of contents)) (first ∷ []) i → Stands i
  stands (at_start {x = i} c) = subst Stands (one_only first i c)
      (first_below, tree_numbered ps start.0, the_start, subst (λ n. StandsIn (tree_numbered ps n) (tree_numbered ps start.0)) is_start itself)
  stands (onward {x = i} {y = j} w c) =
      let h = stands w in
      let r : Row = slice_index_or rs i row.Empty in
      let found : slice_get rs i ≡ Some r = slice_get-get_or rs i row.Empty h.0 in
      let t = are.made i r h.0 ((marks i).0 w) found in
      onward_stands r t.number i j h.0 (rows.falls i r found) h.1 h.2 (subst (λ u. StandsIn u h.1) t.tree h.3) t.element c

  pub all_used : AreAllUsed made_table
  all_used i h =
      let u = are.used i h in
      let s = stands ((marks u.0).1 u.2) in
      (s.1, s.2, subst (λ n. StandsIn (tree_numbered ps n) s.1) u.3 s.3)
