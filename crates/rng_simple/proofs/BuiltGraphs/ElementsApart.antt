-- The elements of definitions are distinct: no two have the same position and place.
use Rattle.std.proofs.Common.{◌≡◌, inl, inr, refl, sym, ap, subst, ◌∙◌, arith, ℕ, zero, suc, ◌+◌, ◌≤◌, Bool, true, false, true≢false, if◌then◌else◌}
use Rattle.std.proofs.Common.{List, [], ◌∷◌, ◌++◌, append_assoc, length, length-append, slice_get, fold, Option, Some, None, Contains}
use Rattle.std.specs.Str.{bytes_eq}
use Rattle.std.proofs.lemmas.Bool.{and_parts}
use Rattle.std.proofs.lemmas.List.{append-nil}
use Rattle.std.proofs.lemmas.List.Elements.{Contains-append_cases, Contains-append_right}
use Rattle.std.proofs.lemmas.Option.{slice_get_within}
use Rattle.std.proofs.lemmas.Slice.Eq.{bytes_eq-Decides}
use Rattle.rng_model.proofs.Members.{not_in_none, first_or_later}
use Rattle.rng_model.proofs.Places.{contains_at}
use Rattle.rng_model.specs.names.Names.{NameClass}
use Rattle.rng_model.specs.schema.Patterns.{Place, Position, Pattern, Patterns, no_patterns, pattern_and}
use Rattle.rng_model.specs.schema.Patterns as pattern
use Rattle.rng_model.specs.schema.Schema.{Schema, Component, Definition, same_component_name}
use Rattle.rng_model.specs.schema.Unfolding.{Leaf}
use Rattle.rng_model.proofs.Options.{one_value}
use Rattle.rng_simple.specs.views.ComponentTable.{components_at}
use Rattle.rng_simple.specs.plain.Graph.{ArePairwiseApart, same_definition, same_leaf}
use Rattle.rng_simple.specs.plain.ResolvedElements.{with_elements, with_all_elements, with_named_elements, with_elements_of, elements_of}
use Rattle.rng_simple.proofs.NumberedGraphs.Graphs.{found_contained}

-- ---- positions

-- a position is not an extension of itself
longer : (n front : Position) (i : ℕ) → n ≡ front ++ i ∷ n → ⊥
longer n front i e = omega (arith, ap length e, length-append front (i ∷ n))

-- equal positions that extend children of one position extend the same child
one_child : (f g n : Position) (i j : ℕ) → f ++ i ∷ n ≡ g ++ j ∷ n → i ≡ j
one_child [] [] n i j e = cc
one_child [] (c ∷ g) n i j e = let rest : n ≡ g ++ j ∷ n = cc in absurd (longer n g j rest)
one_child (c ∷ f) [] n i j e = let rest : f ++ i ∷ n ≡ n = cc in absurd (longer n f i (sym rest))
one_child (c ∷ f) (d ∷ g) n i j e = one_child f g n i j cc

-- ---- lists of distinct elements

-- the elements are distinct
abbrev pub AreTwo : Leaf → Leaf → Type 0
AreTwo l m = l.place ≡ m.place → l.position ≡ m.position → ⊥

data AllApart : List Leaf → Type 0 where
  none_apart : AllApart []
  more_apart : {l : Leaf} {ls : List Leaf} → ((m : Leaf) → Contains ls m → AreTwo l m) → AllApart ls → AllApart (l ∷ ls)

in_first : {A : Type 0} (x : A) (xs : List A) → Contains (x ∷ xs) x
in_first x xs = (0, omega arith, refl)

both_apart : (ls ms : List Leaf) → AllApart ls → AllApart ms → ((l m : Leaf) → Contains ls l → Contains ms m → AreTwo l m) → AllApart (ls ++ ms)
both_apart [] ms a b h = b
both_apart (l ∷ ls) ms (more_apart a more) b h =
    more_apart (λ m c. elim (Contains-append_cases ls ms m c) [ inl i ↦ a m i | inr i ↦ h l m (in_first l ls) i ])
    (both_apart ls ms more b (λ k m i j. h k m (Contains-append_right (l ∷ []) ls k i) j))

not_one : (l m : Leaf) → same_leaf l m ≡ true → AreTwo l m → ⊥
not_one l m q two =
    let both = and_parts (bytes_eq l.place m.place) (bytes_eq l.position m.position) q in
    two ((bytes_eq-Decides l.place m.place).0 both.0) ((bytes_eq-Decides l.position m.position).0 both.1)

leaves_apart : (ls : List Leaf) → AllApart ls → ArePairwiseApart same_leaf ls
leaves_apart [] none_apart i j x y e f q = absurd (let h = slice_get_within [] i x e in omega arith)
leaves_apart (l ∷ ls) (more_apart a more) zero zero x y e f q = refl
leaves_apart (l ∷ ls) (more_apart a more) zero (suc j) x y e f q =
    absurd (not_one x y q (subst (λ k. AreTwo k y) (one_value refl e) (a y (contains_at ls j y f))))
leaves_apart (l ∷ ls) (more_apart a more) (suc i) zero x y e f q =
    let two : AreTwo y x = subst (λ k. AreTwo k x) (one_value refl f) (a x (contains_at ls i x e)) in
    absurd (not_one x y q (λ p n. two (sym p) (sym n)))
leaves_apart (l ∷ ls) (more_apart a more) (suc i) (suc j) x y e f q = ap suc (leaves_apart ls more i j x y e f q)

-- ---- what a list has in addition

-- the elements that are appended: each has this property, and all are distinct
record Brought (P : Leaf → Type 0) (before after : List Leaf) : Type 0 where
  more : List Leaf
  is : after ≡ before ++ more
  each : (m : Leaf) → Contains more m → P m
  apart : AllApart more

none_brought : {P : Leaf → Type 0} {ls : List Leaf} → Brought P ls ls
none_brought {ls = ls} = record { more = []; is = sym (append-nil ls); each = λ m c. absurd (not_in_none c); apart = none_apart }

one_brought : {P : Leaf → Type 0} (l : Leaf) {ls : List Leaf} → P l → Brought P ls (ls ++ l ∷ [])
one_brought {P} l p = record {
  more = l ∷ [];
  is = refl;
  each = λ m c. elim (first_or_later l [] m c) [ inl e ↦ subst P e p | inr n ↦ absurd (not_in_none n) ];
  apart = more_apart (λ m c. absurd (not_in_none c)) none_apart;
}

brought_so : {P Q : Leaf → Type 0} {ls ms : List Leaf} → ((m : Leaf) → P m → Q m) → Brought P ls ms → Brought Q ls ms
brought_so h b = record { more = b.more; is = b.is; each = λ m c. h m (b.each m c); apart = b.apart }

-- one after the other
brought_both : {P Q R : Leaf → Type 0} {ls ms ns : List Leaf} → ((m : Leaf) → P m → R m) → ((m : Leaf) → Q m → R m)
    → ((l m : Leaf) → P l → Q m → AreTwo l m) → Brought P ls ms → Brought Q ms ns → Brought R ls ns
brought_both {ls = ls} p q two b c = record {
  more = b.more ++ c.more;
  is = c.is ∙ ap (λ k. k ++ c.more) b.is ∙ append_assoc ls b.more c.more;
  each = λ m i. elim (Contains-append_cases b.more c.more m i) [ inl j ↦ p m (b.each m j) | inr j ↦ q m (c.each m j) ];
  apart = both_apart b.more c.more b.apart c.apart (λ l m i j. two l m (b.each l i) (c.each m j));
}

-- ---- the elements of a pattern

module _ (x : Place) where
  -- an element at this place, at this position or an extension of it
  record Inside (n : Position) (m : Leaf) : Type 0 where
    place : m.place ≡ x
    front : Position
    position : m.position ≡ front ++ n

  -- an element at an extension of a child of this position, from this number on
  record InChild (n : Position) (k : ℕ) (m : Leaf) : Type 0 where
    place : m.place ≡ x
    child : ℕ
    from : k ≤ child
    front : Position
    position : m.position ≡ front ++ child ∷ n

  inside_child : {n : Position} {k : ℕ} {m : Leaf} → InChild n k m → Inside n m
  inside_child {n} c = record { place = c.place; front = c.front ++ c.child ∷ []; position = c.position ∙ sym (append_assoc c.front (c.child ∷ []) n) }

  in_child : {n : Position} {k : ℕ} {m : Leaf} → Inside (k ∷ n) m → InChild n k m
  in_child {k = k} i = record { place = i.place; child = k; from = omega arith; front = i.front; position = i.position }

  later_child : {n : Position} {k : ℕ} {m : Leaf} → InChild n (k + 1) m → InChild n k m
  later_child {k = k} c = record { place = c.place; child = c.child; from = let h = c.from in omega (arith, h); front = c.front; position = c.position }

  -- an element of one child and an element of a later child
  children_two : {n : Position} {k : ℕ} (l m : Leaf) → Inside (k ∷ n) l → InChild n (k + 1) m → AreTwo l m
  children_two {n} {k} l m i c p q =
      let same = one_child i.front c.front n k c.child (sym i.position ∙ q ∙ c.position) in
      let h = c.from in
      omega (arith, same, h)

  from_child : {n : Position} {k : ℕ} {ls ms ns : List Leaf} → Brought (Inside (k ∷ n)) ls ms → Brought (InChild n (k + 1)) ms ns → Brought (InChild n k) ls ns
  from_child b c = brought_both (λ m. in_child) (λ m. later_child) children_two b c

  only_child : {n : Position} {ls ms : List Leaf} → Brought (Inside (0 ∷ n)) ls ms → Brought (Inside n) ls ms
  only_child b = brought_so (λ m i. inside_child (in_child i)) b

  -- an element after those in its body
  element_last : (n : Position) (c : NameClass) (p : Pattern) {ls ms : List Leaf} → Brought (Inside (0 ∷ n)) ls ms
      → Brought (Inside n) ls (ms ++ record { place = x; position = n; class = c; content = p } ∷ [])
  element_last n c p b =
      let l : Leaf = record { place = x; position = n; class = c; content = p } in
      brought_both {Q = λ m. m ≡ l} (λ m i. inside_child (in_child i)) (λ m e. subst (Inside n) (sym e) (record { place = refl; front = []; position = refl }))
      (λ k m i e q r. longer n i.front 0 (sym (ap (λ z. z.position) e) ∙ sym r ∙ i.position)) b (one_brought l refl)

  mutual
    unfolding with_elements

    pattern_brings : (n : Position) (p : Pattern) (ls : List Leaf) → Brought (Inside n) ls (with_elements x n p ls)
    pattern_brings n pattern.not_allowed ls = none_brought
    pattern_brings n pattern.empty ls = none_brought
    pattern_brings n pattern.text ls = none_brought
    pattern_brings n (pattern.element c p) ls = element_last n c p (pattern_brings (0 ∷ n) p ls)
    pattern_brings n (pattern.attribute c p) ls = only_child (pattern_brings (0 ∷ n) p ls)
    pattern_brings n (pattern.list p) ls = only_child (pattern_brings (0 ∷ n) p ls)
    pattern_brings n (pattern.data_of d) ls = none_brought
    pattern_brings n (pattern.data_except d p) ls = only_child (pattern_brings (0 ∷ n) p ls)
    pattern_brings n (pattern.value library name w) ls = none_brought
    pattern_brings n (pattern.mixed p) ls = only_child (pattern_brings (0 ∷ n) p ls)
    pattern_brings n (pattern.optional p) ls = only_child (pattern_brings (0 ∷ n) p ls)
    pattern_brings n (pattern.zero_or_more p) ls = only_child (pattern_brings (0 ∷ n) p ls)
    pattern_brings n (pattern.one_or_more p) ls = only_child (pattern_brings (0 ∷ n) p ls)
    pattern_brings n (pattern.joined k p q ps) ls =
        let first = pattern_brings (0 ∷ n) p ls in
        let second = pattern_brings (1 ∷ n) q (with_elements x (0 ∷ n) p ls) in
        let others = patterns_bring 2 n ps (with_elements x (1 ∷ n) q (with_elements x (0 ∷ n) p ls)) in
        brought_so (λ m. inside_child) (from_child first (from_child second others))
    pattern_brings n (pattern.ref y) ls = none_brought
    pattern_brings n (pattern.parent_ref y) ls = none_brought
    pattern_brings n (pattern.grammar z) ls = none_brought
    pattern_brings n (pattern.external p) ls = only_child (pattern_brings (0 ∷ n) p ls)

    patterns_bring : (k : ℕ) (n : Position) (ps : Patterns) (ls : List Leaf) → Brought (InChild n k) ls (with_all_elements x k n ps ls)
    patterns_bring k n no_patterns ls = none_brought
    patterns_bring k n (pattern_and p ps) ls =
        from_child (pattern_brings (k ∷ n) p ls) (patterns_bring (k + 1) n ps (with_elements x (k ∷ n) p ls))

  -- ---- the elements of a definition

  -- an element in a component of this name; the first component has this number
  record InNamed (y : Option (List ℕ)) (k : ℕ) (cs : List Component) (m : Leaf) : Type 0 where
    place : m.place ≡ x
    index : ℕ
    component : Component
    there : slice_get cs index ≡ Some component
    named : same_component_name y component.name ≡ true
    front : Position
    position : m.position ≡ front ++ (k + index) ∷ []

  later_named : {y : Option (List ℕ)} {k : ℕ} (c : Component) {cs : List Component} {m : Leaf} → InNamed y (k + 1) cs m → InNamed y k (c ∷ cs) m
  later_named {k = k} c i =
      let sum : (k + 1) + i.index ≡ k + suc i.index = omega arith in record {
        place = i.place;
        index = suc i.index;
        component = i.component;
        there = i.there;
        named = i.named;
        front = i.front;
        position = i.position ∙ ap (λ j. i.front ++ j ∷ []) sum;
      }

  first_named : {y : Option (List ℕ)} {k : ℕ} (c : Component) (cs : List Component) {m : Leaf} → same_component_name y c.name ≡ true → Inside (k ∷ []) m
      → InNamed y k (c ∷ cs) m
  first_named {k = k} c cs h i =
      let sum : k ≡ k + 0 = omega arith in record {
        place = i.place;
        index = 0;
        component = c;
        there = refl;
        named = h;
        front = i.front;
        position = i.position ∙ ap (λ j. i.front ++ j ∷ []) sum;
      }

  named_two : {y : Option (List ℕ)} {k : ℕ} {cs : List Component} (l m : Leaf) → Inside (k ∷ []) l → InNamed y (k + 1) cs m → AreTwo l m
  named_two {k = k} l m i c p q =
      let same = one_child i.front c.front [] k ((k + 1) + c.index) (sym i.position ∙ q ∙ c.position) in
      omega (arith, same)

  named_more : (y : Option (List ℕ)) (k : ℕ) (c : Component) (cs : List Component) {ls ms : List Leaf} (b : Bool) → same_component_name y c.name ≡ b
      → Brought (InNamed y (k + 1) cs) (if b then with_elements x (k ∷ []) c.pattern ls else ls) ms → Brought (InNamed y k (c ∷ cs)) ls ms
  named_more y k c cs {ls} true h r =
      brought_both (λ m. first_named c cs h) (λ m. later_named c) named_two (pattern_brings (k ∷ []) c.pattern ls) r
  named_more y k c cs false h r = brought_so (λ m. later_named c) r

  named_bring : (y : Option (List ℕ)) (k : ℕ) (cs : List Component) (ls : List Leaf) → Brought (InNamed y k cs) ls (with_named_elements x y k cs ls)
  unfolding with_named_elements
  named_bring y k [] ls = none_brought
  named_bring y k (c ∷ cs) ls =
      named_more y k c cs (same_component_name y c.name) refl
      (named_bring y (k + 1) cs (if same_component_name y c.name then with_elements x (k ∷ []) c.pattern ls else ls))

-- ---- those of definitions

abbrev InDefinition : Schema → Definition → Leaf → Type 0
InDefinition s d m = InNamed d.place d.name 0 (components_at s d.place) m

record InOneOf (s : Schema) (ds : List Definition) (m : Leaf) : Type 0 where
  definition : Definition
  among : Contains ds definition
  inside : InDefinition s definition m

same_names : (y z w : Option (List ℕ)) → same_component_name y w ≡ true → same_component_name z w ≡ true → same_component_name y z ≡ true
same_names None None w e f = refl
same_names None (Some b) None e f = f
same_names None (Some b) (Some c) e f = e
same_names (Some a) None None e f = e
same_names (Some a) None (Some c) e f = f
same_names (Some a) (Some b) None e f = absurd (true≢false (sym e))
same_names (Some a) (Some b) (Some c) e f = (bytes_eq-Decides a b).1 ((bytes_eq-Decides a c).0 e ∙ sym ((bytes_eq-Decides b c).0 f))

-- definitions with a common element are equal
one_definition : (s : Schema) (d e : Definition) (l m : Leaf) → InDefinition s d l → InDefinition s e m → l.place ≡ m.place → l.position ≡ m.position
    → same_definition d e ≡ true
one_definition s d e l m a b p q =
    let places : d.place ≡ e.place = sym a.place ∙ p ∙ b.place in
    let index : 0 + a.index ≡ 0 + b.index = one_child a.front b.front [] (0 + a.index) (0 + b.index) (sym a.position ∙ q ∙ b.position) in
    let there : slice_get (components_at s d.place) a.index ≡ Some b.component =
    ap (λ z. slice_get (components_at s z) a.index) places ∙ ap (slice_get (components_at s e.place)) (omega (arith, index)) ∙ b.there in
    let component : a.component ≡ b.component = one_value a.there there in
    let names = same_names d.name e.name b.component.name (ap (λ c. same_component_name d.name c.name) (sym component) ∙ a.named) b.named in
    rw ((bytes_eq-Decides d.place e.place).1 places, names) refl

definitions_two : (s : Schema) (d : Definition) (ds : List Definition) → ArePairwiseApart same_definition (d ∷ ds) → (l m : Leaf) → InDefinition s d l
    → InOneOf s ds m → AreTwo l m
definitions_two s d ds apart l m a b p q =
    let at = found_contained ds b.definition b.among in
    let zero_is : 0 ≡ suc at.0 = apart 0 (suc at.0) d b.definition refl at.1 (one_definition s d b.definition l m a b.inside p q) in
    omega (arith, zero_is)

rest_apart : (d : Definition) (ds : List Definition) → ArePairwiseApart same_definition (d ∷ ds) → ArePairwiseApart same_definition ds
rest_apart d ds apart i j x y e f q = let h : suc i ≡ suc j = apart (suc i) (suc j) x y e f q in omega (arith, h)

definitions_bring : (s : Schema) (ds : List Definition) (ls : List Leaf) → ArePairwiseApart same_definition ds
    → Brought (InOneOf s ds) ls (fold (with_elements_of s) ls ds)
definitions_bring s [] ls apart = none_brought
definitions_bring s (d ∷ ds) ls apart =
    brought_both (λ m i. record { definition = d; among = in_first d ds; inside = i })
    (λ m i. record { definition = i.definition; among = Contains-append_right (d ∷ []) ds i.definition i.among; inside = i.inside })
    (definitions_two s d ds apart) (named_bring d.place d.name 0 (components_at s d.place) ls)
    (definitions_bring s ds (with_elements_of s ls d) (rest_apart d ds apart))

pub elements_apart : (s : Schema) (ds : List Definition) → ArePairwiseApart same_definition ds → ArePairwiseApart same_leaf (elements_of s ds)
elements_apart s ds apart =
    let b = definitions_bring s ds [] apart in
    subst (ArePairwiseApart same_leaf) (sym b.is) (leaves_apart b.more b.apart)
