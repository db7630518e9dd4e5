-- After a start tag: bodies of leaves, in order.
use Rattle.std.proofs.Common.{◌≡◌, ◌∙◌, ℕ, ◌<◌, ◌+◌, ◌↔◌, ◌⊎◌, inl, inr, ⊎_elim, suc, List, [], ◌∷◌, ◌++◌, length, map, take, get_or, refl, sym, ap, subst}
use Rattle.std.proofs.Common.{arith, Bool, true, false, cond, Some, None, slice_get}
use Rattle.rng_model.specs.names.Names.{Name}
use Rattle.rng_model.specs.matching.Document.{Attribute, Item}
use Rattle.rng_model.specs.simple.Tree.{Simple, s_not_allowed, s_empty, s_text, s_leaf, s_attribute, s_list, s_data, s_data_except, s_value, s_one_or_more}
use Rattle.rng_model.specs.simple.Tree.{s_joined}
use Rattle.std.proofs.lemmas.Option.{get_or_from_slice_get, slice_get_within}
use Rattle.rng_model.specs.simple.Table.{Table}
use Rattle.rng_model.specs.simple.TableRules.{IsTable}
use Rattle.rng_model.specs.declared.name.NameClass.{NameClass}
use Rattle.rng_model.specs.declared.simple.PatternId.{PatternId}
use Rattle.std.proofs.Math.Seq.{take-suc}
use Rattle.std.proofs.lemmas.List.{append-nil, map-append}
use Rattle.std.proofs.lemmas.List.Elements.{All-append}
use Rattle.rng_model.specs.matching.Document.{an_element, list_of}
use Rattle.rng_model.specs.simple.Table.{tree_at}
use Rattle.rng_deriv_laws.specs.plain.Restricted.{IsRestricted, IsRestrictedBody}
use Rattle.rng_deriv_laws.specs.plain.Ways.{AreItemWays, EachWay, IsItemLeaf}
use Rattle.rng_deriv_laws.proofs.Starts.{bodies_in, bodies_out}
use Rattle.rng_deriv_laws.proofs.SamePatterns.{same_back}
use Rattle.rng_deriv_table.specs.views.PatternTable.{Longer}
use Rattle.rng_deriv_table.specs.declared.pattern.PatternNumber.{PatternNumber}
use Rattle.rng_deriv_table.proofs.Trees.{Longer-length, tree_stays}
use Rattle.rng_deriv_ways.specs.plain.Kinds.{IsElementNamed, Obeys}
use Rattle.rng_model.specs.matching.GrammarMatching.{reading_of, Reading}
use Rattle.rng_deriv_ways.specs.plain.Starting.{AreBodies, AreStarts, HasRestrictedBodies, IsBodyOf, IsReady, IsRestrictedBodyNamed}
use Rattle.rng_deriv_ways.specs.plain.Ways.{AreInside, IsInside, way_by, ways_by}
use Rattle.rng_deriv_ways.specs.declared.way.LeafWay as numbered
use Rattle.rng_deriv_ways.proofs.AddedWays.{one_inside}
use Rattle.rng_deriv_ways.proofs.KeptRestrictions.{each_both, each_first, each_second}
use Rattle.rng_deriv_table.specs.views.Node.{Node, node_of}
use Rattle.rng_deriv_table.specs.views.Node as node
use Rattle.rng_deriv_table.specs.views.PatternTable.{ArePartsBelow, IsPatternTable}
use Rattle.rng_deriv_table.specs.views.Trees.{tree_of, tree_over}
use Rattle.rng_deriv_table.specs.declared.pattern.Pattern.{Pattern}
use Rattle.rng_deriv_table.specs.declared.pattern.Pattern.TheVariants as pattern
use Rattle.rng_deriv_ways.proofs.PatternNodes.{IsAttribute, IsStringLeaf, a_datatype, a_list, a_value, an_attribute, an_except, found_attribute, found_string}
use Rattle.rng_deriv_ways.proofs.PatternNodes.{is_over}
use Rattle.rng_deriv_ways.proofs.PatternNodes.{parts_there}
use Rattle.rng_deriv_laws.specs.plain.Reading.{body_of, has_name}
use Rattle.rng_deriv_laws.specs.plain.Taking.{Same, WeaklyTakes}
use Rattle.rng_deriv_laws.specs.plain.Taking as t
use Rattle.rng_deriv_laws.specs.plain.Derivatives.{Way, bodies_of, started}
use Rattle.rng_deriv_laws.specs.plain.Ways.{Opens}

module _ (g : Reading) (xs : List Attribute) (kids ns : List Item) where
  pub opens_first : (ws vs : List Way) → Opens g xs kids ns ws → Opens g xs kids ns (ws ++ vs)
  opens_first [] vs h = absurd h
  opens_first (w ∷ ws) vs (inl h) = inl h
  opens_first (w ∷ ws) vs (inr h) = inr (opens_first ws vs h)

  pub opens_second : (ws vs : List Way) → Opens g xs kids ns vs → Opens g xs kids ns (ws ++ vs)
  opens_second [] vs h = h
  opens_second (w ∷ ws) vs h = inr (opens_second ws vs h)

  pub opens_both : (ws vs : List Way) → Opens g xs kids ns (ws ++ vs) → Opens g xs kids ns ws ⊎ Opens g xs kids ns vs
  opens_both [] vs h = inr h
  opens_both (w ∷ ws) vs (inl h) = inl (inl h)
  opens_both (w ∷ ws) vs (inr h) = ⊎_elim (λ a. inl (inr a)) (λ b. inr b) (opens_both ws vs h)

  pub append_opens : (ws ws' vs vs' : List Way) → (Opens g xs kids ns ws ↔ Opens g xs kids ns ws') → (Opens g xs kids ns vs ↔ Opens g xs kids ns vs')
      → Opens g xs kids ns (ws ++ vs) ↔ Opens g xs kids ns (ws' ++ vs')
  append_opens ws ws' vs vs' e f = (
    λ h. ⊎_elim (λ a. opens_first ws' vs' (e.0 a)) (λ b. opens_second ws' vs' (f.0 b)) (opens_both ws vs h),
    λ h. ⊎_elim (λ a. opens_first ws vs (e.1 a)) (λ b. opens_second ws vs (f.1 b)) (opens_both ws' vs' h),
  )

weakly_same : (g : Reading) (p q : Simple ℕ) → Same g p q → (xs : List Attribute) (ns : List Item) → WeaklyTakes g p xs ns → WeaklyTakes g q xs ns
weakly_same g p q s xs ns (t.as_is d) = t.as_is (s.to xs ns d)
weakly_same g p q s xs ns (t.blank_text d b) = t.blank_text (s.to xs [] d) b
weakly_same g p q s xs ns (t.nothing_there d) = t.nothing_there (s.to xs _ d)

pub one_opens : (g : Reading) (xs : List Attribute) (kids ns : List Item) (b c r : Simple ℕ) → Same g b c
    → Opens g xs kids ns (record { leaf = b; rest = r } ∷ []) ↔ Opens g xs kids ns (record { leaf = c; rest = r } ∷ [])
one_opens g xs kids ns b c r s = (to b c s, to c b (same_back g s)) where
  to : (b c : Simple ℕ) → Same g b c → Opens g xs kids ns (record { leaf = b; rest = r } ∷ []) → Opens g xs kids ns (record { leaf = c; rest = r } ∷ [])
  to b c s (inl h) = inl (weakly_same g b c s xs kids h.0, h.1)
  to b c s (inr h) = absurd h

module _ (g : Reading) (q : Name) where
  cond_append : (b : Bool) (w : Way) (xs ys : List Way) → cond b (w ∷ xs ++ ys) (xs ++ ys) ≡ cond b (w ∷ xs) xs ++ ys
  cond_append true w xs ys = refl
  cond_append false w xs ys = refl

  started-append : (l r : Simple ℕ) (xs ys : List Way) → started g l r q (xs ++ ys) ≡ started g l r q xs ++ ys
  started-append s_not_allowed r xs ys = refl
  started-append s_empty r xs ys = refl
  started-append s_text r xs ys = refl
  started-append (s_leaf k) r xs ys = cond_append (has_name g k q) (record { leaf = body_of g k; rest = r }) xs ys
  started-append (s_attribute c p) r xs ys = refl
  started-append (s_list p) r xs ys = refl
  started-append (s_data d) r xs ys = refl
  started-append (s_data_except d p) r xs ys = refl
  started-append (s_value d v) r xs ys = refl
  started-append (s_one_or_more p) r xs ys = refl
  started-append (s_joined k p p') r xs ys = refl

  pub bodies-append : (ws vs : List Way) → bodies_of g q (ws ++ vs) ≡ bodies_of g q ws ++ bodies_of g q vs
  bodies-append [] vs = refl
  bodies-append (w ∷ ws) vs = ap (started g w.leaf w.rest q) (bodies-append ws vs) ∙ started-append w.leaf w.rest (bodies_of g q ws) (bodies_of g q vs)

-- ---- patterns of the table with which no element begins

abbrev pub IsNoElement : Simple ℕ → Type 0
IsNoElement s_not_allowed = Unit {0}
IsNoElement s_empty = Unit {0}
IsNoElement s_text = Unit {0}
IsNoElement (s_leaf k) = ⊥
IsNoElement (s_attribute c p) = Unit {0}
IsNoElement (s_list p) = Unit {0}
IsNoElement (s_data d) = Unit {0}
IsNoElement (s_data_except d p) = Unit {0}
IsNoElement (s_value d v) = Unit {0}
IsNoElement (s_one_or_more p) = Unit {0}
IsNoElement (s_joined k p q) = Unit {0}

not_started : (g : Reading) (q : Name) (l r : Simple ℕ) (ws : List Way) → IsNoElement l → started g l r q ws ≡ ws
not_started g q s_not_allowed r ws h = refl
not_started g q s_empty r ws h = refl
not_started g q s_text r ws h = refl
not_started g q (s_leaf k) r ws h = absurd h
not_started g q (s_attribute c p) r ws h = refl
not_started g q (s_list p) r ws h = refl
not_started g q (s_data d) r ws h = refl
not_started g q (s_data_except d p) r ws h = refl
not_started g q (s_value d v) r ws h = refl
not_started g q (s_one_or_more p) r ws h = refl
not_started g q (s_joined k p p') r ws h = refl

attribute_no_element : {p : Simple ℕ} → IsAttribute p → IsNoElement p
attribute_no_element an_attribute = tt

string_no_element : {p : Simple ℕ} → IsStringLeaf p → IsNoElement p
string_no_element a_list = tt
string_no_element a_datatype = tt
string_no_element an_except = tt
string_no_element a_value = tt

other_over : (t : Table) (f : ℕ → Simple ℕ) (p : Pattern) (i : ℕ) → ArePartsBelow i (node_of p) → ((e : _) → p ≡ pattern.Element e → ⊥)
    → IsNoElement (tree_over t f (node_of p))
other_over t f pattern.NotAllowed i h k = tt
other_over t f pattern.Empty i h k = tt
other_over t f pattern.Text i h k = tt
other_over t f (pattern.Choice ms) i h k = choice_over (map (λ m. m.0) ms.items) h where
  choice_over : (ms : List ℕ) → ArePartsBelow i (node.choice ms) → IsNoElement (tree_over t f (node.choice ms))
  choice_over [] h = absurd (omega (arith, h.0))
  choice_over (m ∷ []) h = absurd (omega (arith, h.0))
  choice_over (m ∷ n ∷ ms) h = tt
other_over t f (pattern.Group a b) i h k = tt
other_over t f (pattern.Interleave a b) i h k = tt
other_over t f (pattern.OneOrMore a) i h k = tt
other_over t f (pattern.Element e) i h k = absurd (k e refl)
other_over t f (pattern.Attribute a) i h k = attribute_no_element (found_attribute t (slice_get t.patterns a.0))
other_over t f (pattern.Data d) i h k = string_no_element (found_string t (slice_get t.patterns d.0))

pub other_not_started : (g : Reading) (q : Name) (t : Table) (ns : List Node) (i : ℕ) (p : Pattern) → IsPatternTable ns → slice_get ns i ≡ Some (node_of p)
    → ((e : _) → p ≡ pattern.Element e → ⊥) → (r : Simple ℕ) (ws : List Way) → started g (tree_of t ns i) r q ws ≡ ws
other_not_started g q t ns i p kept found other r ws =
    not_started g q (tree_of t ns i) r ws (subst IsNoElement (sym (is_over t ns i p p kept found refl))
    (other_over t (tree_of t ns) p i (parts_there ns i p p kept found refl) other))

pub leaf_not_started : (g : Reading) (q : Name) (l : Simple ℕ) (k : ℕ) → l ≡ s_leaf k → has_name g k q ≡ false → (r : Simple ℕ) (ws : List Way)
    → started g l r q ws ≡ ws
leaf_not_started g q l k is has_not r ws =
    ap (λ l. started g l r q ws) is ∙ ap (λ b. cond b (record { leaf = body_of g k; rest = r } ∷ ws) ws) has_not

pub leaf_started : (g : Reading) (q : Name) (l : Simple ℕ) (k : ℕ) → l ≡ s_leaf k → has_name g k q ≡ true → (r : Simple ℕ) (ws : List Way)
    → started g l r q ws ≡ record { leaf = body_of g k; rest = r } ∷ ws
leaf_started g q l k is has r ws =
    ap (λ l. started g l r q ws) is ∙ ap (λ b. cond b (record { leaf = body_of g k; rest = r } ∷ ws) ws) has

pub body_inside : (t : Table) (k : ℕ) (e : NameClass × PatternId) → IsTable t → slice_get t.elements k ≡ Some e → e.1.0 < length t.patterns
body_inside t k e valid found =
    subst (λ (e : NameClass × PatternId). e.1.0 < length t.patterns) (get_or_from_slice_get t.elements k e e found)
    (valid.bodies k e (slice_get_within t.elements k e found))

-- ---- one more way

module _ (t : Table) (ns : List Node) (numbers : List PatternNumber) (q : Name) (ways starts : List numbered.LeafWay) (i : ℕ) (d : numbered.LeafWay)
    (within : i < length ways) (inside : AreInside ns ways) (was : AreBodies t ns numbers q (take i ways) starts) where
  abbrev g : Reading
  g = reading_of t

  abbrev f : ℕ → Simple ℕ
  f = tree_of t ns

  abbrev w : numbered.LeafWay
  w = get_or ways i d

  next : i + 1 ≡ suc i
  next = omega arith

  cut : ways_by f (take (i + 1) ways) ≡ ways_by f (take i ways) ++ way_by f w ∷ []
  cut = ap (ways_by f) (ap (λ k. take k ways) next ∙ take-suc ways i d within) ∙ map-append (way_by f) (take i ways) (w ∷ [])

  parted : bodies_of g q (ways_by f (take (i + 1) ways)) ≡ bodies_of g q (ways_by f (take i ways)) ++ started g (f w.leaf.0) (f w.rest.0) q []
  parted = ap (bodies_of g q) cut ∙ bodies-append g q (ways_by f (take i ways)) (way_by f w ∷ [])

  pub no_body_more : IsBodyOf t ns numbers (f w.leaf.0) q None → AreBodies t ns numbers q (take (i + 1) ways) starts
  no_body_more none = record {
    inside = was.inside;
    opens = λ xs kids ms.
        let e : bodies_of g q (ways_by f (take (i + 1) ways)) ≡ bodies_of g q (ways_by f (take i ways)) =
        parted ∙ ap (λ vs. bodies_of g q (ways_by f (take i ways)) ++ vs) (none (f w.rest.0) []) ∙ append-nil (bodies_of g q (ways_by f (take i ways))) in
        subst (λ vs. Opens g xs kids ms (ways_by f starts) ↔ Opens g xs kids ms vs) (sym e) (was.opens xs kids ms);
    kept = λ bodies each. was.kept bodies (each_first _ _ (ways_by f (take i ways)) (way_by f w ∷ []) (subst (EachWay (λ p. Unit {0}) IsRestricted) cut each));
  }

  pub one_body_more : (b : PatternNumber) (more : List numbered.LeafWay) → IsBodyOf t ns numbers (f w.leaf.0) q (Some b)
      → more ≡ starts ++ record { leaf = b; rest = w.rest } ∷ [] → AreBodies t ns numbers q (take (i + 1) ways) more
  one_body_more b more body added =
      let one : numbered.LeafWay = record { leaf = b; rest = w.rest } in
      let there = inside i d within in
      let k = body.1.0 in
      let long : ways_by f more ≡ ways_by f starts ++ way_by f one ∷ [] = ap (ways_by f) added ∙ map-append (way_by f) starts (one ∷ []) in
      record {
        inside = subst (AreInside ns) (sym added) (All-append (IsInside ns) starts (one ∷ []) was.inside (one_inside ns one (body.0, there.1)));
        opens = λ xs kids ms.
            let e : bodies_of g q (ways_by f (take (i + 1) ways)) ≡ bodies_of g q (ways_by f (take i ways))
            ++ record { leaf = body_of g k; rest = f w.rest.0 } ∷ [] =
            parted ∙ ap (λ vs. bodies_of g q (ways_by f (take i ways)) ++ vs) (body.1.1 (f w.rest.0) []) in
            let both = append_opens g xs kids ms (ways_by f starts) (bodies_of g q (ways_by f (take i ways))) (way_by f one ∷ [])
            (record { leaf = body_of g k; rest = f w.rest.0 } ∷ []) (was.opens xs kids ms)
            (one_opens g xs kids ms (f b.0) (body_of g k) (f w.rest.0) body.1.2) in
            subst (λ vs. Opens g xs kids ms vs ↔ Opens g xs kids ms (bodies_of g q (ways_by f (take (i + 1) ways)))) (sym long)
            (subst (λ vs. Opens g xs kids ms (ways_by f starts ++ way_by f one ∷ []) ↔ Opens g xs kids ms vs) (sym e) both);
        kept = λ bodies each.
            let parts = subst (EachWay (λ p. Unit {0}) IsRestricted) cut each in
            let last = each_second (λ p. Unit {0}) IsRestricted (ways_by f (take i ways)) (way_by f w ∷ []) parts in
            subst (EachWay (IsRestrictedBodyNamed g q) IsRestricted) (sym long)
            (each_both (IsRestrictedBodyNamed g q) IsRestricted (ways_by f starts) (way_by f one ∷ [])
            (was.kept bodies (each_first (λ p. Unit {0}) IsRestricted (ways_by f (take i ways)) (way_by f w ∷ []) parts))
            ((body.1.3 bodies, last.0.1), tt));
      }

each_rest : (P Q : Simple ℕ → Type 0) (ws : List Way) → EachWay P Q ws → EachWay (λ p. Unit {0}) Q ws
each_rest P Q [] h = tt
each_rest P Q (w ∷ ws) h = ((tt, h.0.1), each_rest P Q ws h.1)

-- the ways of a pattern, and their bodies
pub starts_made : (t : Table) (ns : List Node) (numbers : List PatternNumber) (p : Simple ℕ) (q : Name) (ways starts : List numbered.LeafWay)
    → AreItemWays (reading_of t) (IsElementNamed q) p (ways_by (tree_of t ns) ways)
    → (IsRestricted p → EachWay (λ l. IsItemLeaf l × IsRestricted l) IsRestricted (ways_by (tree_of t ns) ways))
    → AreBodies t ns numbers q ways starts → AreStarts t ns numbers p q starts
starts_made t ns numbers p q ways starts law each bodies = record {
  inside = bodies.inside;
  to = λ o xs kids ms bare d. (bodies.opens xs (list_of kids) ms).1
      (bodies_in (reading_of t) q xs kids IsRestricted IsRestricted (ways_by (tree_of t ns) ways) (each o) ms (law.to (an_element q xs kids) ms refl bare d));
  back = λ xs kids ms h. law.back (an_element q xs kids) ms
      (bodies_out (reading_of t) q xs kids (ways_by (tree_of t ns) ways) ms ((bodies.opens xs (list_of kids) ms).0 h));
  kept = λ o restricted. bodies.kept restricted (each_rest (λ l. IsItemLeaf l × IsRestricted l) IsRestricted (ways_by (tree_of t ns) ways) (each o));
}

pub no_bodies : (t : Table) (ns : List Node) (numbers : List PatternNumber) (q : Name) (starts : List numbered.LeafWay) → starts ≡ []
    → AreBodies t ns numbers q [] starts
no_bodies t ns numbers q starts e = subst (AreBodies t ns numbers q []) (sym e) (record {
  inside = λ i d h. absurd (omega (arith, h));
  opens = λ xs kids ms. (λ h. h, λ h. h);
  kept = λ bodies each. tt;
})

pub ready_longer : (t : Table) (old new : List Node) (numbers : List PatternNumber) → Longer old new → IsReady t old numbers → IsReady t new numbers
ready_longer t old new numbers longer ready = record {
  grammar = ready.grammar;
  long = ready.long;
  taken = record {
    inside = λ i h. let was = ready.taken.inside i h in let long = Longer-length old new longer in omega (arith, was, long);
    same = λ i h has g. subst (λ p. Same g p (tree_at t.patterns (record { 0 = i }))) (sym (tree_stays t old new _ longer (ready.taken.inside i h)))
        (ready.taken.same i h has g);
  };
  kept = λ place id h has o. subst (Obeys place) (sym (tree_stays t old new _ longer (ready.taken.inside id.0 h))) (ready.kept place id h has o);
}

pub bodies_longer : (t : Table) (old new : List Node) (numbers : List PatternNumber) → Longer old new → IsReady t old numbers
    → HasRestrictedBodies t old numbers → HasRestrictedBodies t new numbers
bodies_longer t old new numbers longer ready bodies k e found =
    let long = ready.long in
    let there = body_inside t k e ready.grammar found in
    subst IsRestrictedBody (sym (tree_stays t old new _ longer (ready.taken.inside e.1.0 (omega (arith, there, long))))) (bodies k e found)
