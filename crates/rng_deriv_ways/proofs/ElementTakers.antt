-- An element is taken by a ref in the pattern to an element with its name; the elements of a grammar that may have a
-- name.
use Rattle.std.proofs.Common.{◌≡◌, ◌∙◌, ◌+◌, ◌<◌, ℕ, zero, suc, ◌⊎◌, inl, inr, ⊎_elim, List, [], ◌∷◌, ◌++◌, slice_get, slice_set, Some, None}
use Rattle.std.proofs.Common.{subst, sym, refl, true, false, arith}
use Rattle.std.proofs.lemmas.Option.{slice_get_cases, same_Some}
use Rattle.rng_names.specs.plain.Keys.{Keys, key_of}
use Rattle.rng_model.specs.names.Names.{Name}
use Rattle.rng_model.specs.simple.Table.{Table}
use Rattle.rng_model.specs.datatypes.Texts.{is_blank}
use Rattle.rng_model.specs.simple.Tree.{Simple}
use Rattle.rng_model.specs.matching.Document.{Attribute, Item, Items, an_element, AllTexts, no_texts, text_and, Interleaves, Padded}
use Rattle.rng_model.specs.matching.Document as document
use Rattle.rng_model.specs.names.NameViews.{class_of, name_of}
use Rattle.rng_model.specs.declared.name.NameClass.{NameClass}
use Rattle.rng_model.specs.declared.simple.PatternId.{PatternId}
use Rattle.rng_names.specs.plain.Holding.{holds}
use Rattle.rng_model.specs.matching.GrammarMatching.{Reading, reading_of}
use Rattle.rng_deriv_laws.specs.plain.Reading.{has_name}
use Rattle.rng_deriv_laws.specs.plain.Taking.{Takes}
use Rattle.rng_deriv_laws.specs.plain.Taking as t
use Rattle.rng_deriv_table.specs.plain.Facts.{HasElement, IsWithin, joined_spans, one_span}
use Rattle.rng_deriv_table.specs.views.Node.{Node}
use Rattle.rng_deriv_table.specs.declared.pattern.Span.{Span}
use Rattle.rng_deriv_table.proofs.KnownFacts.{joined_first, joined_second, one_within}
use Rattle.rng_deriv_ways.specs.plain.Kinds.{IsElementNamed}
use Rattle.rng_deriv_ways.specs.views.KnownWays.{IsElementKind}
use Rattle.rng_deriv_ways.specs.plain.Takers.{AreAllTold, AreElements, AreOfKey, IsTold}
use Rattle.rng_deriv_ways.specs.plain.Ways.{AreWaysOf}
use Rattle.rng_deriv_ways.specs.declared.takers.Takers.{Takers}
use Rattle.rng_deriv_ways.specs.declared.way.Kind.{Kind}
use Rattle.rng_deriv_ways.specs.declared.way.Kind.TheVariants as kinds
use Rattle.rng_deriv_ways.proofs.AttributeTakers.{less_or_same}
use Rattle.rng_deriv_ways.proofs.GrammarRows.{class_there, no_class_there}

module _ (q : Name) where
  -- some item is an element with this name
  HasOne : List Item → Type 0
  HasOne [] = ⊥
  HasOne (n ∷ ns) = IsElementNamed q n ⊎ HasOne ns

  no_text_is : {ns : List Item} → AllTexts ns → HasOne ns → ⊥
  unfolding HasOne
  no_text_is no_texts h = h
  no_text_is (text_and all) (inl h) = h
  no_text_is (text_and all) (inr h) = no_text_is all h

  in_order : (ms os : List Item) → HasOne (ms ++ os) → HasOne ms ⊎ HasOne os
  unfolding HasOne
  in_order [] os h = inr h
  in_order (m ∷ ms) os (inl h) = inl (inl h)
  in_order (m ∷ ms) os (inr h) = ⊎_elim (λ a. inl (inr a)) (λ b. inr b) (in_order ms os h)

  in_any_order : {ms os ns : List Item} → Interleaves ms os ns → HasOne ns → HasOne ms ⊎ HasOne os
  unfolding HasOne
  in_any_order document.done h = absurd h
  in_any_order (document.left i) (inl h) = inl (inl h)
  in_any_order (document.left i) (inr h) = ⊎_elim (λ a. inl (inr a)) (λ b. inr b) (in_any_order i h)
  in_any_order (document.right i) (inl h) = inr (inl h)
  in_any_order (document.right i) (inr h) = ⊎_elim (λ a. inl a) (λ b. inr (inr b)) (in_any_order i h)

  -- blank strings may be beside an element
  padded_is : {r : Name} {xs : List Attribute} {kids : Items} {os : List Item} → Padded is_blank (an_element r xs kids) os → HasOne os → r ≡ q
  unfolding HasOne
  padded_is document.alone (inl h) = h
  padded_is document.alone (inr h) = absurd h
  padded_is (document.before b) (inl h) = absurd h
  padded_is (document.before b) (inr (inl h)) = h
  padded_is (document.before b) (inr (inr h)) = absurd h
  padded_is (document.after b) (inl h) = h
  padded_is (document.after b) (inr (inl h)) = absurd h
  padded_is (document.after b) (inr (inr h)) = absurd h
  padded_is (document.both_sides b c) (inl h) = absurd h
  padded_is (document.both_sides b c) (inr (inl h)) = h
  padded_is (document.both_sides b c) (inr (inr (inl h))) = absurd h
  padded_is (document.both_sides b c) (inr (inr (inr h))) = absurd h

  module _ (g : Reading) where
    -- the pattern contains an element with this name
    pub record Stands (p : Simple ℕ) : Type 0 where
      pub element : ℕ
      pub stands : HasElement element p
      pub named : has_name g element q ≡ true

    stands : {p : Simple ℕ} {xs : List Attribute} {ns : List Item} → Takes g p xs ns → HasOne ns → Stands p
    unfolding HasOne
    stands t.empty_is h = absurd h
    stands (t.text_is all) h = absurd (no_text_is all h)
    stands (t.first d) h = let s = stands d h in record { element = s.element; stands = inl s.stands; named = s.named }
    stands (t.second d) h = let s = stands d h in record { element = s.element; stands = inr s.stands; named = s.named }
    stands (t.grouped {ms = ms} {ns = os} d e i c) h = elim (in_order ms os (subst HasOne (sym c) h)) [
      | inl a ↦ let s = stands d a in record { element = s.element; stands = inl s.stands; named = s.named }
      | inr b ↦ let s = stands e b in record { element = s.element; stands = inr s.stands; named = s.named }
    ]
    stands (t.interleaved d e i j) h = elim (in_any_order j h) [
      | inl a ↦ let s = stands d a in record { element = s.element; stands = inl s.stands; named = s.named }
      | inr b ↦ let s = stands e b in record { element = s.element; stands = inr s.stands; named = s.named }
    ]
    stands (t.once d) h = let s = stands d h in record { element = s.element; stands = s.stands; named = s.named }
    stands (t.again {ms = ms} {ns = os} d e a i c) h = elim (in_order ms os (subst HasOne (sym c) h)) [
      | inl a ↦ let s = stands d a in record { element = s.element; stands = s.stands; named = s.named }
      | inr b ↦ stands e b
    ]
    stands (t.attribute_is i w) h = absurd h
    stands (t.element_is {k = k} i w padded) h =
        record { element = k; stands = refl; named = subst (λ r. has_name g k r ≡ true) (padded_is padded h) i }
    stands (t.data_is e) (inl h) = absurd h
    stands (t.data_is e) (inr h) = absurd h
    stands (t.data_but e f) (inl h) = absurd h
    stands (t.data_but e f) (inr h) = absurd h
    stands (t.value_is e) (inl h) = absurd h
    stands (t.value_is e) (inr h) = absurd h
    stands (t.list_is e d) (inl h) = absurd h
    stands (t.list_is e d) (inr h) = absurd h

    -- the first of the items is such an element
    pub first_stands : (p : Simple ℕ) (n : Item) (ns : List Item) → IsElementNamed q n → Takes g p [] (n ∷ ns) → Stands p
    unfolding HasOne
    first_stands p n ns named d = stands d (inl named)

module _ (t : Table) (ns : List Node) (p : Simple ℕ) where
  -- a pattern that contains none of the elements has no ways
  pub idle_elements : (kind : Kind) (takers : Span) → AreElements t kind takers → ((e : ℕ) → HasElement e p → IsWithin takers e → ⊥)
      → AreWaysOf t ns kind p []
  idle_elements (kinds.Element q) takers among idle = record {
    inside = λ i d h. absurd (omega (arith, h));
    law = record {
      to = λ n ms named bare d.
          let s = first_stands (name_of q.now) (reading_of t) p n ms named d in
          absurd (idle s.element s.stands (among.within s.element s.named));
      back = λ n ms h. absurd h;
    };
    kept = λ place o. tt;
  }
  idle_elements (kinds.Attribute q) takers among idle = absurd among.element
  idle_elements kinds.Text takers among idle = absurd among.element

-- ---- by key

module _ (t : Table) (keys : Keys) (k : ℕ) (q : Name) (own : key_of keys q ≡ k) where
  pub element_takers : (kind : Kind) (takers : Span) → IsElementKind q kind → AreOfKey t keys k takers → AreElements t kind takers
  element_takers (kinds.Element r) takers named h =
      record { element = tt; within = λ e has. h e q own (subst (λ q. has_name (reading_of t) e q ≡ true) named has) }
  element_takers (kinds.Attribute r) takers named h = absurd named
  element_takers kinds.Text takers named h = absurd named

set_same : {A : Type 0} (xs : List A) (k : ℕ) (y m : A) → slice_get (slice_set xs k y) k ≡ Some m → m ≡ y
set_same [] k y m e = absurd (cc)
set_same (x ∷ xs) zero y m e = sym (same_Some _ _ e)
set_same (x ∷ xs) (suc k) y m e = set_same xs k y m e

-- the claim of `IsTold` about the lists
abbrev pub Tells : List Span → Span → ℕ → ℕ → Type 0
Tells all others k e = (m : Span) → slice_get all k ≡ Some m → IsWithin (joined_spans m others) e

module _ (all : List Span) (others : Span) where
  -- the element of this number has one name, with this key
  pub named_told : (k : ℕ) (m : Span) (e : ℕ) → Tells (slice_set all k (joined_spans m (one_span e))) others k e
  named_told k m e = λ n at. subst (λ n. IsWithin (joined_spans n others) e) (sym (set_same all k (joined_spans m (one_span e)) n at))
      (joined_first (joined_spans m (one_span e)) others e (joined_second m (one_span e) e (one_within e)))

pub wider_still : (m others own : Span) (n : ℕ) → IsWithin (joined_spans m others) n → IsWithin (joined_spans m (joined_spans others own)) n
wider_still m others own n h = let low = h.0 in let high = h.1 in (omega (arith, low), omega (arith, high))

-- all elements below this number are among the takers
abbrev pub AreToldBelow : Table → Keys → Takers → ℕ → Type 0
AreToldBelow t keys takers n = (e : ℕ) (q : Name) → e < n → has_name (reading_of t) e q ≡ true → IsTold takers (key_of keys q) e

module _ (t : Table) (keys : Keys) (old new : Takers) (n : ℕ) where
  pub one_more_told : (row : NameClass × PatternId) → slice_get t.elements n ≡ Some row → ((k e : ℕ) → IsTold old k e → IsTold new k e)
      → ((q : Name) → holds (class_of row.0) q ≡ true → IsTold new (key_of keys q) n) → AreToldBelow t keys old n → AreToldBelow t keys new (n + 1)
  one_more_told row found stays told before e q below named = ⊎_elim (λ less. stays (key_of keys q) e (before e q less named))
      (λ same. subst (IsTold new (key_of keys q)) (sym same)
      (told q (sym (class_there t n row q found) ∙ subst (λ e. has_name (reading_of t) e q ≡ true) same named)))
      (less_or_same e n below)

module _ (t : Table) (keys : Keys) (takers : Takers) where
  pub all_told : (n : ℕ) → slice_get t.elements n ≡ None → AreToldBelow t keys takers n → AreAllTold t keys takers
  all_told n none before e q named = elim (slice_get_cases t.elements n).1 [
    | inl there ↦ let at = there.2 in absurd (cc)
    | inr past ↦ elim (slice_get_cases t.elements e).1 [
      | inl there ↦ let inside = there.1 in let over = past.0 in before e q (omega (arith, over, inside)) named
      | inr beyond ↦ let no = no_class_there t e q beyond.1 in let both : true ≡ false = sym named ∙ no in absurd (cc)
    ]
  ]
