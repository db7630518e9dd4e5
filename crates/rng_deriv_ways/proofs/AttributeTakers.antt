-- An attribute is taken by an attribute pattern in the pattern that may have its name; the ranges of the attributes of
-- a grammar.
use Rattle.std.proofs.Common.{◌≡◌, ◌∙◌, ◌+◌, ◌<◌, ℕ, zero, suc, ◌⊎◌, inl, inr, ⊎_elim, List, [], ◌∷◌, ◌++◌, length, map, slice_get, Some, None, Option}
use Rattle.std.proofs.Common.{subst, sym, refl, ap, true, arith, get_or, take}
use Rattle.std.proofs.lemmas.List.{map-append, take_more}
use Rattle.std.proofs.lemmas.Option.{slice_get_cases}
use Rattle.rng_names.specs.plain.Keys.{Keys, key_of}
use Rattle.rng_model.specs.names.Names.{Name}
use Rattle.rng_model.specs.simple.Table.{Table}
use Rattle.rng_model.specs.simple.Tree.{Simple, s_joined}
use Rattle.rng_model.specs.matching.Document.{Attribute, Item, Interleaves}
use Rattle.rng_model.specs.matching.Document as document
use Rattle.rng_model.specs.names.NameViews.{class_of, name_of}
use Rattle.rng_model.specs.declared.simple.Simple as row
use Rattle.rng_model.specs.declared.simple.Simple.TheVariants as simple
use Rattle.rng_names.specs.plain.Holding.{holds}
use Rattle.rng_model.specs.matching.GrammarMatching.{Reading, reading_of}
use Rattle.rng_deriv_laws.specs.plain.Taking.{Takes}
use Rattle.rng_deriv_laws.specs.plain.Taking as t
use Rattle.rng_deriv_table.specs.plain.Facts.{IsWithin, joined_spans}
use Rattle.rng_deriv_table.specs.views.Node.{Node, node_of}
use Rattle.rng_deriv_table.specs.views.PatternTable.{Longer}
use Rattle.rng_deriv_table.specs.views.Trees.{attribute_found, choice_from, choice_over, tree_of, tree_over}
use Rattle.rng_deriv_table.specs.declared.pattern.Pattern.{Pattern}
use Rattle.rng_deriv_table.specs.declared.pattern.Pattern.TheVariants as pattern
use Rattle.rng_deriv_table.specs.declared.pattern.PatternNumber.{PatternNumber}
use Rattle.rng_deriv_table.specs.declared.pattern.Span.{Span}
use Rattle.rng_deriv_table.proofs.KnownFacts.{joined_first, joined_second}
use Rattle.rng_deriv_table.proofs.MemberSkips.{skips_longer}
use Rattle.rng_deriv_table.proofs.Trees.{Longer-length, tree_stays}
use Rattle.rng_deriv_ways.proofs.PatternNodes.{IsStringLeaf, a_datatype, a_list, a_value, an_except, found_string}
use Rattle.rng_deriv_ways.specs.plain.Takers.{AreAttributes, AreAttributesTold, AreCandidates, AreSpansOf, HasAttribute, IsAttributeAt, IsSpanOf, IsTold}
use Rattle.rng_deriv_ways.specs.plain.Ways.{AreWaysOf}
use Rattle.rng_deriv_ways.specs.declared.takers.Takers.{Takers}
use Rattle.rng_deriv_ways.specs.declared.way.Candidates.{Candidates}
use Rattle.rng_deriv_ways.specs.declared.way.Candidates.TheVariants as candidates
use Rattle.rng_deriv_ways.specs.declared.way.Kind.{Kind}
use Rattle.rng_deriv_ways.specs.declared.way.Kind.TheVariants as kinds

module _ (q : Name) where
  -- some attribute has this name
  HasOne : List Attribute → Type 0
  HasOne [] = ⊥
  HasOne (a ∷ xs) = (a.name ≡ q) ⊎ HasOne xs

  in_any_order : {xs ys zs : List Attribute} → Interleaves xs ys zs → HasOne zs → HasOne xs ⊎ HasOne ys
  unfolding HasOne
  in_any_order document.done h = absurd h
  in_any_order (document.left i) (inl h) = inl (inl h)
  in_any_order (document.left i) (inr h) = ⊎_elim (λ a. inl (inr a)) (λ b. inr b) (in_any_order i h)
  in_any_order (document.right i) (inl h) = inr (inl h)
  in_any_order (document.right i) (inr h) = ⊎_elim (λ a. inl a) (λ b. inr (inr b)) (in_any_order i h)

  module _ (g : Reading) where
    stands : {p : Simple ℕ} {xs : List Attribute} {ns : List Item} → Takes g p xs ns → HasOne xs → HasAttribute q p
    unfolding HasOne
    stands t.empty_is h = absurd h
    stands (t.text_is all) h = absurd h
    stands (t.first d) h = inl (stands d h)
    stands (t.second d) h = inr (stands d h)
    stands (t.grouped d e i c) h = ⊎_elim (λ a. inl (stands d a)) (λ b. inr (stands e b)) (in_any_order i h)
    stands (t.interleaved d e i j) h = ⊎_elim (λ a. inl (stands d a)) (λ b. inr (stands e b)) (in_any_order i h)
    stands (t.once d) h = stands d h
    stands (t.again d e apart i c) h = ⊎_elim (λ a. stands d a) (λ b. stands e b) (in_any_order i h)
    stands (t.attribute_is {c = c} i w) (inl h) = subst (λ n. holds c n ≡ true) h i
    stands (t.attribute_is i w) (inr h) = absurd h
    stands (t.element_is i w padded) h = absurd h
    stands (t.data_is e) h = absurd h
    stands (t.data_but e f) h = absurd h
    stands (t.value_is e) h = absurd h
    stands (t.list_is e d) h = absurd h

    first_stands : (p : Simple ℕ) (a : Attribute) (xs : List Attribute) (ns : List Item) → a.name ≡ q → Takes g p (a ∷ xs) ns → HasAttribute q p
    unfolding HasOne
    first_stands p a xs ns named d = stands d (inl named)

module _ (t : Table) (ns : List Node) (p : Simple ℕ) where
  -- a pattern that contains none of the attributes has no ways
  pub idle_attributes : (kind : Kind) (takers span : Span) → AreAttributes t kind takers → IsSpanOf t p span
      → ((k : ℕ) → IsWithin takers k → IsWithin span k → ⊥) → AreWaysOf t ns kind p []
  idle_attributes (kinds.Element q) takers span among within apart = absurd among
  idle_attributes (kinds.Attribute q) takers span among within apart = record {
    inside = λ i d h. absurd (omega (arith, h));
    law = λ well. record {
      to = λ a xs ms named d.
          let at = within (name_of q.now) (first_stands (name_of q.now) (reading_of t) p a xs ms named d) in
          absurd (apart at.0 (among at.0 at.2) at.1);
      back = λ a xs ms distinct h. absurd h;
    };
    kept = λ place o. tt;
  }
  idle_attributes kinds.Text takers span among within apart = absurd among

-- nothing is known of the patterns
pub no_spans : (t : Table) (ns : List Node) (spans : List Span) → spans ≡ [] → AreSpansOf t ns spans
no_spans t ns spans none n span at = absurd (none_at (subst (λ (xs : List Span). slice_get xs n ≡ Some span) none at))
  where
    none_at : slice_get [] n ≡ Some span → ⊥
    none_at e = cc

-- ---- longer tables

module _ (t : Table) (old new : List Node) (longer : Longer old new) where
  pub spans_longer : (spans : List Span) → AreSpansOf t old spans → AreSpansOf t new spans
  spans_longer spans all = λ n span at.
      let h = all n span at in
      let inside = h.0 in
      let long = Longer-length old new longer in
      (omega (arith, inside, long), subst (λ p. IsSpanOf t p span) (sym (tree_stays t old new n longer inside)) h.1)

  pub candidates_longer : (kind : Kind) (c : Candidates) → AreCandidates t old kind c → AreCandidates t new kind c
  candidates_longer kind candidates.Any h = h
  candidates_longer kind (candidates.Elements takers alike skips) h = (h.0, h.1, skips_longer old new longer skips.now h.2)
  candidates_longer kind (candidates.Attributes takers spans) h = (h.0, spans_longer spans.now h.1)

-- ---- spans of wholes

module _ (t : Table) where
  pub span_of_both : (k : _) (p q : Simple ℕ) (a b : Span) → IsSpanOf t p a → IsSpanOf t q b → IsSpanOf t (s_joined k p q) (joined_spans a b)
  span_of_both k p q a b h i = λ name has. ⊎_elim
      (λ one. let at = h name one in (at.0, joined_first a b at.0 at.1, at.2))
      (λ other. let at = i name other in (at.0, joined_second a b at.0 at.1, at.2)) has

module _ (q : Name) (f : ℕ → Simple ℕ) where
  from_pushed : (m : ℕ) (ms : List ℕ) (n : ℕ) → HasAttribute q (choice_from f m (ms ++ n ∷ [])) → HasAttribute q (choice_from f m ms) ⊎ HasAttribute q (f n)
  from_pushed m [] n h = h
  from_pushed m (k ∷ ms) n (inl h) = inl (inl h)
  from_pushed m (k ∷ ms) n (inr h) = ⊎_elim (λ a. inl (inr a)) (λ b. inr b) (from_pushed k ms n h)

  choice_pushed : (ms : List ℕ) (n : ℕ) → HasAttribute q (choice_over f (ms ++ n ∷ [])) → HasAttribute q (choice_over f ms) ⊎ HasAttribute q (f n)
  choice_pushed [] n h = inr h
  choice_pushed (m ∷ ms) n h = from_pushed m ms n h

numbers_more : (ms : List PatternNumber) (i : ℕ) (d : PatternNumber) → i < length ms
    → map (λ (m : PatternNumber). m.0) (take (i + 1) ms) ≡ map (λ (m : PatternNumber). m.0) (take i ms) ++ (get_or ms i d).0 ∷ []
numbers_more ms i d inside =
    ap (map (λ (m : PatternNumber). m.0)) (take_more ms i d inside) ∙ map-append (λ (m : PatternNumber). m.0) (take i ms) (get_or ms i d ∷ [])

pub span_of_more : (t : Table) (f : ℕ → Simple ℕ) (ms : List PatternNumber) (i : ℕ) (d : PatternNumber) (all own : Span) → i < length ms
    → IsSpanOf t (choice_over f (map (λ (m : PatternNumber). m.0) (take i ms))) all → IsSpanOf t (f (get_or ms i d).0) own
    → IsSpanOf t (choice_over f (map (λ (m : PatternNumber). m.0) (take (i + 1) ms))) (joined_spans all own)
span_of_more t f ms i d all own inside h one = λ q has. ⊎_elim
    (λ before. let at = h q before in (at.0, joined_first all own at.0 at.1, at.2))
    (λ last. let at = one q last in (at.0, joined_second all own at.0 at.1, at.2))
    (choice_pushed q f (map (λ (m : PatternNumber). m.0) (take i ms)) (get_or ms i d).0
    (subst (λ numbers. HasAttribute q (choice_over f numbers)) (numbers_more ms i d inside) has))

-- a pattern of a kind that contains no attribute
string_none : {p : Simple ℕ} → IsStringLeaf p → (q : Name) → HasAttribute q p → ⊥
string_none a_list q h = h
string_none a_datatype q h = h
string_none an_except q h = h
string_none a_value q h = h

pub other_none : (t : Table) (f : ℕ → Simple ℕ) (p : Pattern) → ((ms : _) → p ≡ pattern.Choice ms → ⊥) → ((a b : _) → p ≡ pattern.Group a b → ⊥)
    → ((a b : _) → p ≡ pattern.Interleave a b → ⊥) → ((a : _) → p ≡ pattern.OneOrMore a → ⊥) → ((a : _) → p ≡ pattern.Attribute a → ⊥) → (q : Name)
    → HasAttribute q (tree_over t f (node_of p)) → ⊥
other_none t f pattern.NotAllowed h i j k l q has = has
other_none t f pattern.Empty h i j k l q has = has
other_none t f pattern.Text h i j k l q has = has
other_none t f (pattern.Choice ms) h i j k l q has = h ms refl
other_none t f (pattern.Group a b) h i j k l q has = i a b refl
other_none t f (pattern.Interleave a b) h i j k l q has = j a b refl
other_none t f (pattern.OneOrMore a) h i j k l q has = k a refl
other_none t f (pattern.Element e) h i j k l q has = has
other_none t f (pattern.Attribute a) h i j k l q has = l a refl
other_none t f (pattern.Data d) h i j k l q has = string_none (found_string t (slice_get t.patterns d.0)) q has

-- the elements of a list with one more at the end
pub pushed_cases : {A : Type 0} (xs : List A) (x : A) (k : ℕ) (s : A) → slice_get (xs ++ x ∷ []) k ≡ Some s
    → (slice_get xs k ≡ Some s) ⊎ ((k ≡ length xs) × (x ≡ s))
pushed_cases [] x zero s at = inr (refl, cc)
pushed_cases [] x (suc k) s at = absurd (cc)
pushed_cases (y ∷ xs) x zero s at = inl at
pushed_cases (y ∷ xs) x (suc k) s at = ⊎_elim (λ a. inl a) (λ b. inr (ap suc b.0, b.1)) (pushed_cases xs x k s at)

-- one more span
pub span_added : (t : Table) (ns : List Node) (spans : List Span) (n : ℕ) (span : Span) → n < length ns → n ≡ length spans
    → AreSpansOf t ns spans → IsSpanOf t (tree_of t ns n) span → AreSpansOf t ns (spans ++ span ∷ [])
span_added t ns spans n span inside last all own = λ k s at. ⊎_elim
    (λ before. all k s before)
    (λ new. (
      subst (λ i. i < length ns) (last ∙ sym new.0) inside,
      subst (λ (x : Span). IsSpanOf t (tree_of t ns k) x) new.1 (subst (λ i. IsSpanOf t (tree_of t ns i) span) (last ∙ sym new.0) own),
    ))
    (pushed_cases spans span k s at)

-- ---- by key

pub less_or_same : (e n : ℕ) → e < n + 1 → (e < n) ⊎ (e ≡ n)
less_or_same zero zero h = inr refl
less_or_same zero (suc n) h = inl (omega arith)
less_or_same (suc e) zero h = absurd (omega (arith, h))
less_or_same (suc e) (suc n) h = ⊎_elim (λ a. inl (omega (arith, a))) (λ b. inr (ap suc b)) (less_or_same e n (omega (arith, h)))

-- all attributes before this position are among the takers
abbrev pub AreToldBefore : Table → Keys → Takers → ℕ → Type 0
AreToldBefore t keys takers n = (k : ℕ) (q : Name) → k < n → IsAttributeAt t q k → IsTold takers (key_of keys q) k

module _ (t : Table) (keys : Keys) (old new : Takers) (n : ℕ) where
  pub one_more_attribute : ((k m : ℕ) → IsTold old k m → IsTold new k m) → ((q : Name) → IsAttributeAt t q n → IsTold new (key_of keys q) n)
      → AreToldBefore t keys old n → AreToldBefore t keys new (n + 1)
  one_more_attribute stays told before k q below has = ⊎_elim (λ less. stays (key_of keys q) k (before k q less has))
      (λ same. subst (IsTold new (key_of keys q)) (sym same) (told q (subst (IsAttributeAt t q) same has))) (less_or_same k n below)

-- the class of a row that is an attribute
pub class_at : (t : Table) (q : Name) (n : ℕ) (class : _) (body : _) → Some (simple.Attribute class body) ≡ slice_get t.patterns n → IsAttributeAt t q n
    → holds (class_of class.value) q ≡ true
class_at t q n class body found has = subst (λ o. HasAttribute q (attribute_found t o)) (sym found) has

no_name_is_held : (t : Table) (q : Name) (o : Option row.Simple) → ((class : _) (body : _) → o ≡ Some (simple.Attribute class body) → ⊥)
    → HasAttribute q (attribute_found t o) → ⊥
no_name_is_held t q None not h = none_held q h
  where
    none_held : (q : Name) → HasAttribute q (attribute_found t None) → ⊥
    none_held q h = cc
no_name_is_held t q (Some simple.NotAllowed) not h = cc
no_name_is_held t q (Some simple.Empty) not h = cc
no_name_is_held t q (Some simple.Text) not h = cc
no_name_is_held t q (Some (simple.Element e)) not h = cc
no_name_is_held t q (Some (simple.Attribute class body)) not h = not class body refl
no_name_is_held t q (Some (simple.List body)) not h = cc
no_name_is_held t q (Some (simple.Data datatype)) not h = cc
no_name_is_held t q (Some (simple.DataExcept datatype except)) not h = cc
no_name_is_held t q (Some (simple.Value value)) not h = cc
no_name_is_held t q (Some (simple.OneOrMore body)) not h = cc
no_name_is_held t q (Some (simple.Group a b)) not h = cc
no_name_is_held t q (Some (simple.Interleave a b)) not h = cc
no_name_is_held t q (Some (simple.Choice a b)) not h = cc

-- another row is not an attribute
pub no_class_at : (t : Table) (q : Name) (n : ℕ) (p : row.Simple) → Some p ≡ slice_get t.patterns n
    → ((class : _) (body : _) → p ≡ simple.Attribute class body → ⊥) → IsAttributeAt t q n → ⊥
no_class_at t q n p found not has = no_name_is_held t q (Some p) (λ class body e. not class body (cc))
    (subst (λ o. HasAttribute q (attribute_found t o)) (sym found) has)

pub all_attributes_told : (t : Table) (keys : Keys) (takers : Takers) (n : ℕ) → slice_get t.patterns n ≡ None → AreToldBefore t keys takers n
    → AreAttributesTold t keys takers
all_attributes_told t keys takers n none before k q has = elim (slice_get_cases t.patterns n).1 [
  | inl there ↦ let at = there.2 in absurd (cc)
  | inr past ↦ elim (slice_get_cases t.patterns k).1 [
    | inl there ↦ let inside = there.1 in let over = past.0 in before k q (omega (arith, over, inside)) has
    | inr beyond ↦ absurd (no_name_is_held t q None (λ class body e. cc) (subst (λ o. HasAttribute q (attribute_found t o)) beyond.1 has))
  ]
]
