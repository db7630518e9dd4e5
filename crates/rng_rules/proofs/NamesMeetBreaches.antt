-- The clauses on names, in terms of rows that meet.
use Rattle.std.proofs.Common.{◌≡◌, inl, inr, refl, ap, sym, ◌∙◌, subst, ℕ, ◌<◌, List, [], ◌∷◌, length, slice_get, Some, None, Option, option_map}
use Rattle.std.proofs.Common.{arith}
use Rattle.std.proofs.lemmas.List.{length-map}
use Rattle.std.proofs.lemmas.Option.{slice_get_cases, slice_get_within, slice_get-map}
use Rattle.rng_model.proofs.Options.{one_value, none_is_some}
use Rattle.rng_model.specs.names.Names as names
use Rattle.rng_model.specs.names.Names.{Overlap}
use Rattle.rng_model.specs.restrictions.Contents.{IsNoChoice, grouped, interleaved}
use Rattle.rng_model.specs.restrictions.Restrictions.{IsPart, ClassIn}
use Rattle.rng_model.specs.simple.Grammar.{StandsIn, OccursIn, Grammar}
use Rattle.rng_model.specs.simple.Table.{Table, grammar_of, tree_at, tree_over}
use Rattle.rng_model.specs.simple.TableRules.{IsTable}
use Rattle.rng_model.specs.simple.Tree as tree
use Rattle.rng_model.specs.names.NameViews.{class_of}
use Rattle.rng_model.specs.declared.name.NameClass.{NameClass}
use Rattle.rng_model.specs.declared.simple.Simple.{Simple}
use Rattle.rng_model.specs.declared.simple.Simple.TheVariants as simple
use Rattle.rng_rules.specs.declared.names_meet.NamesOf.{NamesOf}
use Rattle.rng_rules.specs.declared.names_meet.NamesOf.TheVariants as names_of
use Rattle.rng_labels.specs.plain.Queues.{at_start, onward}
use Rattle.rng_rules.specs.views.NamesMeetRows.{IsAbove, IsLabelled, class_at, class_in, sides_at}
use Rattle.rng_rules.specs.views.NamesMeetLabels.{AreLabels}
use Rattle.rng_rules.specs.views.NamesMeetSearch.{Breaks, Meeting}
use Rattle.rng_rules.specs.views.NamesMeetSides.{IsJoin}
use Rattle.rng_rules.proofs.NamesMeetBetween.{sides_passed, passed_below}
use Rattle.rng_rules.proofs.RowPaths.{STree, over, standing_row, in_part, part_row, climbed_occurs, occurring_row}

-- the connectors between whose sides names must not meet
abbrev IsBetween : NamesOf → tree.Connector → Type 0
IsBetween names_of.Attributes k = IsNoChoice k
IsBetween names_of.Elements k = k ≡ tree.interleave

-- a pattern with the class
abbrev HasClass : NamesOf → Grammar → STree → names.NameClass → Type 0
HasClass names_of.Attributes g q c = (b : STree) × (q ≡ tree.s_attribute c b)
HasClass names_of.Elements g q c = (k : ℕ) × (q ≡ tree.s_leaf k) × ClassIn g k c

-- one of the two clauses is broken
record Breach (of : NamesOf) (g : Grammar) (p : STree) : Type 0 where
  pub connector : tree.Connector
  pub left : STree
  pub right : STree
  pub stands : StandsIn (tree.s_joined connector left right) p
  pub between : IsBetween of connector
  pub first : STree
  pub second : STree
  pub occurs_left : OccursIn first left
  pub occurs_right : OccursIn second right
  pub first_class : names.NameClass
  pub second_class : names.NameClass
  pub is_first : HasClass of g first first_class
  pub is_second : HasClass of g second second_class
  pub overlap : Overlap first_class second_class

breach_breaks : (of : NamesOf) (g : Grammar) (p : STree) → Breach of g p → Breaks of g p
breach_breaks names_of.Attributes g p b = record {
  connector = b.connector;
  left = b.left;
  right = b.right;
  stands = b.stands;
  is_no_choice = b.between;
  first_class = b.first_class;
  first_body = b.is_first.0;
  second_class = b.second_class;
  second_body = b.is_second.0;
  occurs_left = subst (λ q. OccursIn q b.left) b.is_first.1 b.occurs_left;
  occurs_right = subst (λ q. OccursIn q b.right) b.is_second.1 b.occurs_right;
  overlap = b.overlap;
}
breach_breaks names_of.Elements g p b = record {
  left = b.left;
  right = b.right;
  stands = subst (λ k. StandsIn (tree.s_joined k b.left b.right) p) b.between b.stands;
  first = b.is_first.0;
  second = b.is_second.0;
  occurs_left = subst (λ q. OccursIn q b.left) b.is_first.1 b.occurs_left;
  occurs_right = subst (λ q. OccursIn q b.right) b.is_second.1 b.occurs_right;
  first_class = b.first_class;
  second_class = b.second_class;
  is_first = b.is_first.2;
  is_second = b.is_second.2;
  overlap = b.overlap;
}

breaks_breach : (of : NamesOf) (g : Grammar) (p : STree) → Breaks of g p → Breach of g p
breaks_breach names_of.Attributes g p b = record {
  connector = b.connector;
  left = b.left;
  right = b.right;
  stands = b.stands;
  between = b.is_no_choice;
  first = tree.s_attribute b.first_class b.first_body;
  second = tree.s_attribute b.second_class b.second_body;
  occurs_left = b.occurs_left;
  occurs_right = b.occurs_right;
  first_class = b.first_class;
  second_class = b.second_class;
  is_first = (b.first_body, refl);
  is_second = (b.second_body, refl);
  overlap = b.overlap;
}
breaks_breach names_of.Elements g p b = record {
  connector = tree.interleave;
  left = b.left;
  right = b.right;
  stands = b.stands;
  between = refl;
  first = tree.s_leaf b.first;
  second = tree.s_leaf b.second;
  occurs_left = b.occurs_left;
  occurs_right = b.occurs_right;
  first_class = b.first_class;
  second_class = b.second_class;
  is_first = (b.first, refl, b.is_first);
  is_second = (b.second, refl, b.is_second);
  overlap = b.overlap;
}

same_overlap : (c d : names.NameClass) → Overlap c d → Overlap d c
same_overlap c d o = (o.0, o.1, o.3, o.2)

abbrev left_of : Option (ℕ × ℕ) → ℕ
left_of None = 0
left_of (Some s) = s.0

abbrev right_of : Option (ℕ × ℕ) → ℕ
right_of None = 0
right_of (Some s) = s.1

not_choice : {k : tree.Connector} → IsNoChoice k → k ≡ tree.choice → ⊥
not_choice grouped e = cc
not_choice interleaved e = cc

abbrev connector_of : STree → tree.Connector
connector_of (tree.s_joined k p q) = k
connector_of p = tree.choice

module _ (t : Table) (valid : IsTable t) where
  abbrev at : ℕ → STree
  at i = tree_at t.patterns (record { 0 = i })

  abbrev made : Simple → STree
  made r = tree_over (tree_at t.patterns) r

  abbrev g : Grammar
  g = grammar_of t

  element_listed : (k : ℕ) (c : NameClass) → option_map (λ x. x.0) (slice_get t.elements k) ≡ Some c → ClassIn g k (class_of c)
  element_listed k c e = elim (slice_get_cases t.elements k).1 [
    | inl f ↦
        let same : f.0.0 ≡ c = one_value (ap (option_map (λ x. x.0)) f.2) e in (
          tree_at t.patterns f.0.1,
          slice_get-map (λ x. (class_of x.0, tree_at t.patterns x.1)) t.elements k
              ∙ ap (option_map (λ x. (class_of x.0, tree_at t.patterns x.1))) f.2 ∙ ap (λ d. Some (class_of d, tree_at t.patterns f.0.1)) same,
        )
    | inr f ↦ none_is_some (sym (ap (option_map (λ x. x.0)) f.1) ∙ e)
  ]

  listed_element : (k : ℕ) (c : names.NameClass) → ClassIn g k c → (d : NameClass) × (option_map (λ x. x.0) (slice_get t.elements k) ≡ Some d) × (class_of d ≡ c)
  listed_element k c h = elim (slice_get_cases t.elements k).1 [
    | inl f ↦
        let all : slice_get g.elements k ≡ Some (class_of f.0.0, tree_at t.patterns f.0.1) =
        slice_get-map (λ x. (class_of x.0, tree_at t.patterns x.1)) t.elements k ∙ ap (option_map (λ x. (class_of x.0, tree_at t.patterns x.1))) f.2 in
        (f.0.0, ap (option_map (λ x. x.0)) f.2, ap (λ (x : names.NameClass × STree). x.0) (one_value all h.1))
    | inr f ↦ absurd (let l = length-map {B = names.NameClass × STree} t.elements (λ x. (class_of x.0, tree_at t.patterns x.1)) in
        let i = slice_get_within g.elements k (c, h.0) h.1 in omega (arith, i, f.0, l))
  ]

  has_class : (of : NamesOf) (r : Simple) {c : NameClass} → class_at of t.elements r ≡ Some c → HasClass of g (made r) (class_of c)
  has_class names_of.Attributes simple.NotAllowed e = none_is_some e
  has_class names_of.Attributes simple.Empty e = none_is_some e
  has_class names_of.Attributes simple.Text e = none_is_some e
  has_class names_of.Attributes (simple.Element k) e = none_is_some e
  has_class names_of.Attributes (simple.Attribute d a) {c} e = (tree_at t.patterns a, ap (λ x. tree.s_attribute (class_of x) (tree_at t.patterns a)) (one_value refl e))
  has_class names_of.Attributes (simple.List a) e = none_is_some e
  has_class names_of.Attributes (simple.Data d) e = none_is_some e
  has_class names_of.Attributes (simple.DataExcept d a) e = none_is_some e
  has_class names_of.Attributes (simple.Value value) e = none_is_some e
  has_class names_of.Attributes (simple.OneOrMore a) e = none_is_some e
  has_class names_of.Attributes (simple.Group a b) e = none_is_some e
  has_class names_of.Attributes (simple.Interleave a b) e = none_is_some e
  has_class names_of.Attributes (simple.Choice a b) e = none_is_some e
  has_class names_of.Elements simple.NotAllowed e = none_is_some e
  has_class names_of.Elements simple.Empty e = none_is_some e
  has_class names_of.Elements simple.Text e = none_is_some e
  has_class names_of.Elements (simple.Element k) {c} e = (k.0, refl, element_listed k.0 c e)
  has_class names_of.Elements (simple.Attribute d a) e = none_is_some e
  has_class names_of.Elements (simple.List a) e = none_is_some e
  has_class names_of.Elements (simple.Data d) e = none_is_some e
  has_class names_of.Elements (simple.DataExcept d a) e = none_is_some e
  has_class names_of.Elements (simple.Value value) e = none_is_some e
  has_class names_of.Elements (simple.OneOrMore a) e = none_is_some e
  has_class names_of.Elements (simple.Group a b) e = none_is_some e
  has_class names_of.Elements (simple.Interleave a b) e = none_is_some e
  has_class names_of.Elements (simple.Choice a b) e = none_is_some e

  class_has : (of : NamesOf) (r : Simple) {c : names.NameClass} → HasClass of g (made r) c → (d : NameClass) × (class_at of t.elements r ≡ Some d) × (class_of d ≡ c)
  class_has names_of.Attributes simple.NotAllowed h = absurd (let e = h.1 in cc)
  class_has names_of.Attributes simple.Empty h = absurd (let e = h.1 in cc)
  class_has names_of.Attributes simple.Text h = absurd (let e = h.1 in cc)
  class_has names_of.Attributes (simple.Element k) h = absurd (let e = h.1 in cc)
  class_has names_of.Attributes (simple.Attribute d a) h = (d.value, refl, (let e = h.1 in cc))
  class_has names_of.Attributes (simple.List a) h = absurd (let e = h.1 in cc)
  class_has names_of.Attributes (simple.Data d) h = absurd (let e = h.1 in cc)
  class_has names_of.Attributes (simple.DataExcept d a) h = absurd (let e = h.1 in cc)
  class_has names_of.Attributes (simple.Value value) h = absurd (let e = h.1 in cc)
  class_has names_of.Attributes (simple.OneOrMore a) h = absurd (let e = h.1 in cc)
  class_has names_of.Attributes (simple.Group a b) h = absurd (let e = h.1 in cc)
  class_has names_of.Attributes (simple.Interleave a b) h = absurd (let e = h.1 in cc)
  class_has names_of.Attributes (simple.Choice a b) h = absurd (let e = h.1 in cc)
  class_has names_of.Elements simple.NotAllowed h = absurd (let e = h.1 in cc)
  class_has names_of.Elements simple.Empty h = absurd (let e = h.1 in cc)
  class_has names_of.Elements simple.Text h = absurd (let e = h.1 in cc)
  class_has names_of.Elements (simple.Element k) {c} h = listed_element k.0 c (subst (λ n. ClassIn g n c) (let e = h.1 in let f : h.0 ≡ k.0 = cc in f) h.2)
  class_has names_of.Elements (simple.Attribute d a) h = absurd (let e = h.1 in cc)
  class_has names_of.Elements (simple.List a) h = absurd (let e = h.1 in cc)
  class_has names_of.Elements (simple.Data d) h = absurd (let e = h.1 in cc)
  class_has names_of.Elements (simple.DataExcept d a) h = absurd (let e = h.1 in cc)
  class_has names_of.Elements (simple.Value value) h = absurd (let e = h.1 in cc)
  class_has names_of.Elements (simple.OneOrMore a) h = absurd (let e = h.1 in cc)
  class_has names_of.Elements (simple.Group a b) h = absurd (let e = h.1 in cc)
  class_has names_of.Elements (simple.Interleave a b) h = absurd (let e = h.1 in cc)
  class_has names_of.Elements (simple.Choice a b) h = absurd (let e = h.1 in cc)

  sides_joined : (of : NamesOf) (r : Simple) {l m : ℕ} → sides_at of r ≡ Some (l, m) → (k : tree.Connector) × IsBetween of k × (made r ≡ tree.s_joined k (at l) (at m))
  sides_joined names_of.Attributes simple.NotAllowed e = none_is_some e
  sides_joined names_of.Attributes simple.Empty e = none_is_some e
  sides_joined names_of.Attributes simple.Text e = none_is_some e
  sides_joined names_of.Attributes (simple.Element k) e = none_is_some e
  sides_joined names_of.Attributes (simple.Attribute d a) e = none_is_some e
  sides_joined names_of.Attributes (simple.List a) e = none_is_some e
  sides_joined names_of.Attributes (simple.Data d) e = none_is_some e
  sides_joined names_of.Attributes (simple.DataExcept d a) e = none_is_some e
  sides_joined names_of.Attributes (simple.Value value) e = none_is_some e
  sides_joined names_of.Attributes (simple.OneOrMore a) e = none_is_some e
  sides_joined names_of.Attributes (simple.Group a b) {l} {m} e = (tree.group, grouped, (let f : a.0 ≡ l = ap left_of e in let h : b.0 ≡ m = ap right_of e in ap (λ n. tree.s_joined tree.group (at n) (at b.0)) f ∙ ap (λ n. tree.s_joined tree.group (at l) (at n)) h))
  sides_joined names_of.Attributes (simple.Interleave a b) {l} {m} e = (tree.interleave, interleaved, (let f : a.0 ≡ l = ap left_of e in let h : b.0 ≡ m = ap right_of e in ap (λ n. tree.s_joined tree.interleave (at n) (at b.0)) f ∙ ap (λ n. tree.s_joined tree.interleave (at l) (at n)) h))
  sides_joined names_of.Attributes (simple.Choice a b) e = none_is_some e
  sides_joined names_of.Elements simple.NotAllowed e = none_is_some e
  sides_joined names_of.Elements simple.Empty e = none_is_some e
  sides_joined names_of.Elements simple.Text e = none_is_some e
  sides_joined names_of.Elements (simple.Element k) e = none_is_some e
  sides_joined names_of.Elements (simple.Attribute d a) e = none_is_some e
  sides_joined names_of.Elements (simple.List a) e = none_is_some e
  sides_joined names_of.Elements (simple.Data d) e = none_is_some e
  sides_joined names_of.Elements (simple.DataExcept d a) e = none_is_some e
  sides_joined names_of.Elements (simple.Value value) e = none_is_some e
  sides_joined names_of.Elements (simple.OneOrMore a) e = none_is_some e
  sides_joined names_of.Elements (simple.Group a b) e = none_is_some e
  sides_joined names_of.Elements (simple.Interleave a b) {l} {m} e = (tree.interleave, refl, (let f : a.0 ≡ l = ap left_of e in let h : b.0 ≡ m = ap right_of e in ap (λ n. tree.s_joined tree.interleave (at n) (at b.0)) f ∙ ap (λ n. tree.s_joined tree.interleave (at l) (at n)) h))
  sides_joined names_of.Elements (simple.Choice a b) e = none_is_some e

  joined_sides : (of : NamesOf) (r : Simple) {k : tree.Connector} {p q : STree} → IsBetween of k → made r ≡ tree.s_joined k p q
      → (l : ℕ) × (m : ℕ) × (sides_at of r ≡ Some (l, m)) × (at l ≡ p) × (at m ≡ q)
  joined_sides names_of.Attributes simple.NotAllowed i e = absurd (let f = e in cc)
  joined_sides names_of.Attributes simple.Empty i e = absurd (let f = e in cc)
  joined_sides names_of.Attributes simple.Text i e = absurd (let f = e in cc)
  joined_sides names_of.Attributes (simple.Element k) i e = absurd (let f = e in cc)
  joined_sides names_of.Attributes (simple.Attribute d a) i e = absurd (let f = e in cc)
  joined_sides names_of.Attributes (simple.List a) i e = absurd (let f = e in cc)
  joined_sides names_of.Attributes (simple.Data d) i e = absurd (let f = e in cc)
  joined_sides names_of.Attributes (simple.DataExcept d a) i e = absurd (let f = e in cc)
  joined_sides names_of.Attributes (simple.Value value) i e = absurd (let f = e in cc)
  joined_sides names_of.Attributes (simple.OneOrMore a) i e = absurd (let f = e in cc)
  joined_sides names_of.Attributes (simple.Group a b) i e = (a.0, b.0, refl, (let f = e in cc), (let f = e in cc))
  joined_sides names_of.Attributes (simple.Interleave a b) i e = (a.0, b.0, refl, (let f = e in cc), (let f = e in cc))
  joined_sides names_of.Attributes (simple.Choice a b) i e = absurd (not_choice i (sym (ap connector_of e)))
  joined_sides names_of.Elements simple.NotAllowed i e = absurd (let f = e in cc)
  joined_sides names_of.Elements simple.Empty i e = absurd (let f = e in cc)
  joined_sides names_of.Elements simple.Text i e = absurd (let f = e in cc)
  joined_sides names_of.Elements (simple.Element k) i e = absurd (let f = e in cc)
  joined_sides names_of.Elements (simple.Attribute d a) i e = absurd (let f = e in cc)
  joined_sides names_of.Elements (simple.List a) i e = absurd (let f = e in cc)
  joined_sides names_of.Elements (simple.Data d) i e = absurd (let f = e in cc)
  joined_sides names_of.Elements (simple.DataExcept d a) i e = absurd (let f = e in cc)
  joined_sides names_of.Elements (simple.Value value) i e = absurd (let f = e in cc)
  joined_sides names_of.Elements (simple.OneOrMore a) i e = absurd (let f = e in cc)
  joined_sides names_of.Elements (simple.Group a b) {k} i e = absurd (let f : tree.group ≡ k = ap connector_of e in let h = i in cc)
  joined_sides names_of.Elements (simple.Interleave a b) i e = (a.0, b.0, refl, (let f = e in cc), (let f = e in cc))
  joined_sides names_of.Elements (simple.Choice a b) {k} i e = absurd (let f : tree.choice ≡ k = ap connector_of e in let h = i in cc)

  labelled : (of : NamesOf) (row : ℕ) (c : NameClass) → IsLabelled of t row c → HasClass of g (at row) (class_of c)
  labelled of row c e = elim (slice_get_cases t.patterns row).1 [
    | inl f ↦ subst (λ q. HasClass of g q (class_of c)) (sym (over t valid row f.0 f.2)) (has_class of f.0 (sym (ap (class_in of t.elements) f.2) ∙ e))
    | inr f ↦ none_is_some (sym (ap (class_in of t.elements) f.1) ∙ e)
  ]

  module _ (of : NamesOf) (above : List (List ℕ)) (is : IsAbove t.patterns above) (ls : List (ℕ × NameClass))
      (are : AreLabels of t above ls) where
    pub meeting_breaks : Meeting of t above ls → (p : STree) × IsPart g p × Breaks of g p
    meeting_breaks m =
        let j = m.meet.join in
        let part = in_part t valid j.stands in
        let k = sides_joined of j.pattern j.sides in
        let stands = subst (λ q. StandsIn q part.part) (over t valid m.meet.row j.pattern j.is ∙ k.2) part.stands in
        let f = labelled of m.first.0 m.first.1 (are.sound m.first.0 m.first.1 m.first_there) in
        let s = labelled of m.second.0 m.second.1 (are.sound m.second.0 m.second.1 m.second_there) in (
          part.part,
          part.is,
          breach_breaks of g part.part (elim m.meet.meet [
            | inl c ↦ record {
              connector = k.0;
              left = at m.meet.left;
              right = at m.meet.right;
              stands = stands;
              between = k.1;
              first = at m.first.0;
              second = at m.second.0;
              occurs_left = climbed_occurs t valid above is c.0;
              occurs_right = climbed_occurs t valid above is c.1;
              first_class = class_of m.first.1;
              second_class = class_of m.second.1;
              is_first = f;
              is_second = s;
              overlap = m.overlap;
            }
            | inr c ↦ record {
              connector = k.0;
              left = at m.meet.left;
              right = at m.meet.right;
              stands = stands;
              between = k.1;
              first = at m.second.0;
              second = at m.first.0;
              occurs_left = climbed_occurs t valid above is c.1;
              occurs_right = climbed_occurs t valid above is c.0;
              first_class = class_of m.second.1;
              second_class = class_of m.first.1;
              is_first = s;
              is_second = f;
              overlap = same_overlap (class_of m.first.1) (class_of m.second.1) m.overlap;
            }
          ]),
        )

    breach_meeting : (p : STree) → IsPart g p → Breach of g p → Meeting of t above ls
    breach_meeting p part b =
        let n = length t.patterns in
        let top = part_row t valid part in
        let inside = (in_part t valid (at_start top.1)).inside in
        let join = standing_row t valid n top.0 inside inside (at_start top.1) (subst (StandsIn (tree.s_joined b.connector b.left b.right)) (sym top.2) b.stands) in
        let sides = joined_sides of join.pattern b.between (sym (over t valid join.place join.pattern join.there) ∙ join.is) in
        let below = valid.falls join.place join.pattern join.there in
        let within = slice_get_within t.patterns join.place join.pattern join.there in
        let passed = sides_passed of join.pattern sides.2 in
        let left_inside : sides.0 < n = let h = passed_below join.pattern join.place below passed.0 in omega (arith, h, within) in
        let right_inside : sides.1 < n = let h = passed_below join.pattern join.place below passed.1 in omega (arith, h, within) in
        let first = occurring_row t valid above is n sides.0 left_inside left_inside (subst (OccursIn b.first) (sym sides.3) b.occurs_left) in
        let second = occurring_row t valid above is n sides.1 right_inside right_inside (subst (OccursIn b.second) (sym sides.4) b.occurs_right) in
        let c = class_has of first.pattern (subst (λ q. HasClass of g q b.first_class) (sym first.is ∙ over t valid first.place first.pattern first.there) b.is_first) in
        let d = class_has of second.pattern (subst (λ q. HasClass of g q b.second_class) (sym second.is ∙ over t valid second.place second.pattern second.there) b.is_second) in
        let here : IsJoin of t join.place sides.0 sides.1 = record { pattern = join.pattern; stands = join.holds; is = join.there; sides = sides.2 } in
        let one = first.holds (first.place ∷ []) (0, omega arith, refl) in
        let two = second.holds (second.place ∷ []) (0, omega arith, refl) in
        let one_under = onward one ((is.exact sides.0 join.place).1 (join.pattern, join.there, passed.0)) in
        let two_under = onward two ((is.exact sides.1 join.place).1 (join.pattern, join.there, passed.1)) in
        record {
          first = (first.place, c.0);
          second = (second.place, d.0);
          first_there = are.complete first.place c.0 (ap (class_in of t.elements) first.there ∙ c.1)
              (record { row = join.place; left = sides.0; right = sides.1; join = here; climbs = one_under });
          second_there = are.complete second.place d.0 (ap (class_in of t.elements) second.there ∙ d.1)
              (record { row = join.place; left = sides.0; right = sides.1; join = here; climbs = two_under });
          overlap = subst (λ x. Overlap x (class_of d.0)) (sym c.2) (subst (Overlap b.first_class) (sym d.2) b.overlap);
          meet = record {
            row = join.place;
            left = sides.0;
            right = sides.1;
            join = here;
            meet = inl (one, two);
          };
        }

    pub breaks_meeting : (p : STree) → IsPart g p → Breaks of g p → Meeting of t above ls
    breaks_meeting p part b = breach_meeting p part (breaks_breach of g p b)
