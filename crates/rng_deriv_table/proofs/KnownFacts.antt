-- What is known of a pattern, from what is known of its parts.
use Rattle.std.proofs.Common.{◌≡◌, ℕ, ◌+◌, ◌<◌, ◌≤◌, All, length, take, get_or, arith, subst, refl, ap, ap₂, sym, ◌∙◌, Bool, true, false, ◌&&◌, ◌||◌, List}
use Rattle.std.proofs.Common.{◌^◌, max, [], ◌∷◌, ◌++◌, map, Option, Some, None, inl, inr}
use Rattle.std.specs.List.{list_all, list_any}
use Rattle.std.proofs.lemmas.List.{get_or-map, length-map, take_all, take_more}
use Rattle.std.proofs.lemmas.List.Folds.{list_all_more, list_any_more}
use Rattle.std.proofs.Math.Bool.{and-true}
use Rattle.rng_model.specs.simple.Tree as tree
use Rattle.rng_model.specs.simple.Table.{Table}
use Rattle.rng_model.specs.declared.simple.Simple.{Simple}
use Rattle.rng_model.specs.declared.simple.Simple.TheVariants as simple
use Rattle.rng_deriv_laws.specs.plain.Derivatives.{has_data, is_nullable}
use Rattle.rng_deriv_table.specs.plain.Facts.{HasElement, IsWithin, depth_of, elements_of, has_subsequences, joined_spans, members_of, no_span, one_span}
use Rattle.rng_deriv_table.specs.views.PatternTable.{facts_of}
use Rattle.rng_deriv_table.specs.plain.Reduced.{has_attribute}
use Rattle.rng_deriv_table.specs.views.Trees.{attribute_found, data_found, choice_over}
use Rattle.rng_deriv_table.specs.declared.pattern.Span.{Span}
use Rattle.rng_deriv_table.specs.declared.pattern.Facts.{Facts}
use Rattle.rng_deriv_table.specs.declared.pattern.PatternNumber.{PatternNumber}

or_none : (b : Bool) → (b || false) ≡ b
or_none true = refl
or_none false = refl

pub choice_nullable : (f : ℕ → tree.Simple ℕ) (ms : List PatternNumber)
    → list_any (λ m. is_nullable (f m.0)) ms ≡ is_nullable (choice_over f (map (λ m. m.0) ms))
choice_nullable f [] = refl
choice_nullable f (m ∷ []) = or_none (is_nullable (f m.0))
choice_nullable f (m ∷ n ∷ ms) = ap (λ b. is_nullable (f m.0) || b) (choice_nullable f (n ∷ ms))

pub choice_attributes : (f : ℕ → tree.Simple ℕ) (ms : List PatternNumber)
    → list_any (λ m. has_attribute (f m.0)) ms ≡ has_attribute (choice_over f (map (λ m. m.0) ms))
choice_attributes f [] = refl
choice_attributes f (m ∷ []) = or_none (has_attribute (f m.0))
choice_attributes f (m ∷ n ∷ ms) = ap (λ b. has_attribute (f m.0) || b) (choice_attributes f (n ∷ ms))

pub choice_data : (f : ℕ → tree.Simple ℕ) (ms : List PatternNumber)
    → list_any (λ m. has_data (f m.0)) ms ≡ has_data (choice_over f (map (λ m. m.0) ms))
choice_data f [] = refl
choice_data f (m ∷ []) = or_none (has_data (f m.0))
choice_data f (m ∷ n ∷ ms) = ap (λ b. has_data (f m.0) || b) (choice_data f (n ∷ ms))

pub choice_subsequences : (f : ℕ → tree.Simple ℕ) (ms : List PatternNumber)
    → list_all (λ m. has_subsequences (f m.0)) ms ≡ has_subsequences (choice_over f (map (λ m. m.0) ms))
choice_subsequences f [] = refl
choice_subsequences f (m ∷ []) = and-true (has_subsequences (f m.0))
choice_subsequences f (m ∷ n ∷ ms) = ap (λ b. has_subsequences (f m.0) && b) (choice_subsequences f (n ∷ ms))

-- one more member
pub member_more : (test : PatternNumber → Bool) (ms : List PatternNumber) (i : ℕ) (d : PatternNumber) (known fact : Bool) → i < length ms
    → known ≡ list_any test (take i ms) → fact ≡ test (get_or ms i d) → (known || fact) ≡ list_any test (take (i + 1) ms)
member_more test ms i d known fact inside e f = ap₂ (λ a b. a || b) e f ∙ sym (list_any_more test ms i d inside)

pub all_more : (test : PatternNumber → Bool) (ms : List PatternNumber) (i : ℕ) (d : PatternNumber) (known fact : Bool) → i < length ms
    → known ≡ list_all test (take i ms) → fact ≡ test (get_or ms i d) → (known && fact) ≡ list_all test (take (i + 1) ms)
all_more test ms i d known fact inside e f = ap₂ (λ a b. a && b) e f ∙ sym (list_all_more test ms i d inside)

-- the elements of the members
abbrev pub elements_among : (ℕ → tree.Simple ℕ) → List PatternNumber → Span
elements_among f [] = no_span
elements_among f (m ∷ ms) = joined_spans (elements_of (f m.0)) (elements_among f ms)

joined_none : (e : Span) → e.least < 2 ^ 32 → joined_spans e no_span ≡ e
joined_none e low = ap₂ (λ a b. record { least = a; greatest = b }) (omega (arith, low)) (omega arith)

joined_either : (a b : Span) → joined_spans a b ≡ joined_spans b a
joined_either a b = ap₂ (λ x y. record { least = x; greatest = y }) (omega arith) (omega arith)

joined_associative : (a b c : Span) → joined_spans (joined_spans a b) c ≡ joined_spans a (joined_spans b c)
joined_associative a b c = ap₂ (λ x y. record { least = x; greatest = y }) (omega arith) (omega arith)

-- numbers have 32 bits
elements_low : (p : tree.Simple ℕ) → (elements_of p).least < 2 ^ 32
elements_low tree.s_not_allowed = omega arith
elements_low tree.s_empty = omega arith
elements_low tree.s_text = omega arith
elements_low (tree.s_leaf k) = omega arith
elements_low (tree.s_attribute c p) = omega arith
elements_low (tree.s_list p) = omega arith
elements_low (tree.s_data d) = omega arith
elements_low (tree.s_data_except d p) = omega arith
elements_low (tree.s_value d v) = omega arith
elements_low (tree.s_one_or_more p) = elements_low p
elements_low (tree.s_joined c p q) = let a = elements_low p in omega (arith, a)

choice_elements : (f : ℕ → tree.Simple ℕ) (ms : List PatternNumber) → elements_among f ms ≡ elements_of (choice_over f (map (λ m. m.0) ms))
choice_elements f [] = refl
choice_elements f (m ∷ []) = joined_none (elements_of (f m.0)) (elements_low (f m.0))
choice_elements f (m ∷ n ∷ ms) = ap (joined_spans (elements_of (f m.0))) (choice_elements f (n ∷ ms))

elements_pushed : (f : ℕ → tree.Simple ℕ) (ms : List PatternNumber) (m : PatternNumber)
    → elements_among f (ms ++ m ∷ []) ≡ joined_spans (elements_among f ms) (elements_of (f m.0))
elements_pushed f [] m = joined_either (elements_of (f m.0)) no_span
elements_pushed f (n ∷ ms) m =
    ap (joined_spans (elements_of (f n.0))) (elements_pushed f ms m) ∙ sym (joined_associative (elements_of (f n.0)) _ _)

pub elements_more : (f : ℕ → tree.Simple ℕ) (ms : List PatternNumber) (i : ℕ) (d : PatternNumber) (known fact : Span) → i < length ms
    → known ≡ elements_among f (take i ms) → fact ≡ elements_of (f (get_or ms i d).0)
    → joined_spans known fact ≡ elements_among f (take (i + 1) ms)
elements_more f ms i d known fact inside e g =
    ap₂ joined_spans e g ∙ sym (ap (elements_among f) (take_more ms i d inside) ∙ elements_pushed f (take i ms) (get_or ms i d))

-- the greatest depth of the members
abbrev pub depth_among : (ℕ → tree.Simple ℕ) → List PatternNumber → ℕ
depth_among f [] = 0
depth_among f (m ∷ ms) = max (depth_of (f m.0)) (depth_among f ms)

choice_depth : (f : ℕ → tree.Simple ℕ) (ms : List PatternNumber) → depth_among f ms ≡ depth_of (choice_over f (map (λ m. m.0) ms))
choice_depth f [] = refl
choice_depth f (m ∷ []) = omega arith
choice_depth f (m ∷ n ∷ ms) = ap (max (depth_of (f m.0))) (choice_depth f (n ∷ ms))

depth_pushed : (f : ℕ → tree.Simple ℕ) (ms : List PatternNumber) (m : PatternNumber)
    → depth_among f (ms ++ m ∷ []) ≡ max (depth_among f ms) (depth_of (f m.0))
depth_pushed f [] m = omega arith
depth_pushed f (n ∷ ms) m = let more = depth_pushed f ms m in omega (arith, more)

pub depth_more : (f : ℕ → tree.Simple ℕ) (ms : List PatternNumber) (i : ℕ) (d : PatternNumber) (known fact : ℕ) → i < length ms
    → known ≡ depth_among f (take i ms) → fact ≡ depth_of (f (get_or ms i d).0) → max known fact ≡ depth_among f (take (i + 1) ms)
depth_more f ms i d known fact inside e g =
    ap₂ max e g ∙ sym (ap (depth_among f) (take_more ms i d inside) ∙ depth_pushed f (take i ms) (get_or ms i d))

-- a choice is not an interleave
choice_members : (f : ℕ → tree.Simple ℕ) (ms : List PatternNumber) → 2 ≤ length ms → members_of (choice_over f (map (λ m. m.0) ms)) ≡ 1
choice_members f [] two = absurd (omega (arith, two))
choice_members f (m ∷ []) two = absurd (omega (arith, two))
choice_members f (m ∷ n ∷ ms) two = refl

-- all members
pub all_members : (f : ℕ → tree.Simple ℕ) (ms : List PatternNumber) (i : ℕ) (known : Facts) → 2 ≤ length ms → length ms ≤ i
    → known.nullable ≡ list_any (λ m. is_nullable (f m.0)) (take i ms) → known.attributes ≡ list_any (λ m. has_attribute (f m.0)) (take i ms)
    → known.tests_strings ≡ list_any (λ m. has_data (f m.0)) (take i ms)
    → known.subsequences ≡ list_all (λ m. has_subsequences (f m.0)) (take i ms) → known.elements ≡ elements_among f (take i ms) → known.members ≡ 1
    → known.depth ≡ depth_among f (take i ms) → known ≡ facts_of (choice_over f (map (λ m. m.0) ms))
all_members f ms i known two over n a d s e o h =
    let all = take_all i ms over in
    same_facts known _ (n ∙ ap (list_any (λ m. is_nullable (f m.0))) all ∙ choice_nullable f ms)
    (a ∙ ap (list_any (λ m. has_attribute (f m.0))) all ∙ choice_attributes f ms)
    (d ∙ ap (list_any (λ m. has_data (f m.0))) all ∙ choice_data f ms)
    (s ∙ ap (list_all (λ m. has_subsequences (f m.0))) all ∙ choice_subsequences f ms)
    (e ∙ ap (elements_among f) all ∙ choice_elements f ms) (o ∙ sym (choice_members f ms two))
    (h ∙ ap (depth_among f) all ∙ choice_depth f ms)
  where
    same_facts : (a b : Facts) → a.nullable ≡ b.nullable → a.attributes ≡ b.attributes → a.tests_strings ≡ b.tests_strings → a.subsequences ≡ b.subsequences
        → a.elements ≡ b.elements → a.members ≡ b.members → a.depth ≡ b.depth → a ≡ b
    same_facts a b n o d s e m h =
        ap₂ (λ x y. record { nullable = x; attributes = y; tests_strings = a.tests_strings; subsequences = a.subsequences; elements = a.elements; members = a.members; depth = a.depth }) n o
        ∙ ap₂ (λ x y. record { nullable = b.nullable; attributes = b.attributes; tests_strings = x; subsequences = y; elements = a.elements; members = a.members; depth = a.depth }) d s
        ∙ ap₂ (λ x y. record { nullable = b.nullable; attributes = b.attributes; tests_strings = b.tests_strings; subsequences = b.subsequences; elements = x; members = y; depth = a.depth }) e m
        ∙ ap (λ x. record { nullable = b.nullable; attributes = b.attributes; tests_strings = b.tests_strings; subsequences = b.subsequences; elements = b.elements; members = b.members; depth = x }) h

-- an element in the tree is within the known range
pub one_within : (k : ℕ) → IsWithin (one_span k) k
one_within k = (omega arith, omega arith)

pub joined_first : (a b : Span) (k : ℕ) → IsWithin a k → IsWithin (joined_spans a b) k
joined_first a b k h = let low = h.0 in let high = h.1 in (omega (arith, low), omega (arith, high))

pub joined_second : (a b : Span) (k : ℕ) → IsWithin b k → IsWithin (joined_spans a b) k
joined_second a b k h = let low = h.0 in let high = h.1 in (omega (arith, low), omega (arith, high))

pub elements_within : (p : tree.Simple ℕ) (k : ℕ) → HasElement k p → IsWithin (elements_of p) k
elements_within tree.s_not_allowed k h = absurd h
elements_within tree.s_empty k h = absurd h
elements_within tree.s_text k h = absurd h
elements_within (tree.s_leaf e) k h = subst (IsWithin (one_span e)) (sym h) (one_within e)
elements_within (tree.s_attribute c p) k h = absurd h
elements_within (tree.s_list p) k h = absurd h
elements_within (tree.s_data d) k h = absurd h
elements_within (tree.s_data_except d p) k h = absurd h
elements_within (tree.s_value d v) k h = absurd h
elements_within (tree.s_one_or_more p) k h = elements_within p k h
elements_within (tree.s_joined c p q) k (inl h) = joined_first (elements_of p) (elements_of q) k (elements_within p k h)
elements_within (tree.s_joined c p q) k (inr h) = joined_second (elements_of p) (elements_of q) k (elements_within q k h)

-- what holds for the numbers of the members
pub of_members : (P : ℕ → Type 0) (ms : List PatternNumber) → All P (map (λ (m : PatternNumber). m.0) ms) → All (λ m. P m.0) ms
of_members P ms all k d inside =
    subst P (get_or-map (λ (m : PatternNumber). m.0) ms k d d.0 inside) (all k d.0 (omega (arith, length-map ms (λ (m : PatternNumber). m.0))))

-- the grammar's attribute is an attribute with some class
pub attribute_known : (t : Table) (o : Option Simple) → facts_of (attribute_found t o) ≡ record {
  nullable = false;
  attributes = true;
  tests_strings = false;
  subsequences = true;
  elements = no_span;
  members = 1;
  depth = 0;
}
attribute_known t None = refl
attribute_known t (Some simple.NotAllowed) = refl
attribute_known t (Some simple.Empty) = refl
attribute_known t (Some simple.Text) = refl
attribute_known t (Some (simple.Element e)) = refl
attribute_known t (Some (simple.Attribute class body)) = refl
attribute_known t (Some (simple.List body)) = refl
attribute_known t (Some (simple.Data datatype)) = refl
attribute_known t (Some (simple.DataExcept datatype except)) = refl
attribute_known t (Some (simple.Value value)) = refl
attribute_known t (Some (simple.OneOrMore body)) = refl
attribute_known t (Some (simple.Group a b)) = refl
attribute_known t (Some (simple.Interleave a b)) = refl
attribute_known t (Some (simple.Choice a b)) = refl

pub data_known : (t : Table) (o : Option Simple) → facts_of (data_found t o) ≡ record {
  nullable = false;
  attributes = false;
  tests_strings = true;
  subsequences = true;
  elements = no_span;
  members = 1;
  depth = 0;
}
data_known t None = refl
data_known t (Some simple.NotAllowed) = refl
data_known t (Some simple.Empty) = refl
data_known t (Some simple.Text) = refl
data_known t (Some (simple.Element e)) = refl
data_known t (Some (simple.Attribute class body)) = refl
data_known t (Some (simple.List body)) = refl
data_known t (Some (simple.Data datatype)) = refl
data_known t (Some (simple.DataExcept datatype except)) = refl
data_known t (Some (simple.Value value)) = refl
data_known t (Some (simple.OneOrMore body)) = refl
data_known t (Some (simple.Group a b)) = refl
data_known t (Some (simple.Interleave a b)) = refl
data_known t (Some (simple.Choice a b)) = refl
