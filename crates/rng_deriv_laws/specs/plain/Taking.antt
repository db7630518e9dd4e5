-- Which attributes with which items a pattern takes: the rules of matching (RELAX NG Specification, section 6.2) for
-- the trees of the simple syntax, with tests for names and texts. `proofs/TakesAndMatches` proves that a pattern takes
-- exactly what it matches by the one definition of matching. The rule for an element uses that definition for its body.
use Rattle.std.specs.Prelude.{◌≡◌, ℕ, List, [], ◌∷◌, ◌++◌, map, true}
use Rattle.rng_model.specs.names.Names.{Name, NameClass, In}
use Rattle.rng_model.specs.simple.Tree.{Simple, Datatype, choice, group, interleave, as_tree, s_empty, s_text, s_leaf, s_attribute, s_list, s_data}
use Rattle.rng_model.specs.simple.Tree.{s_data_except}
use Rattle.rng_model.specs.simple.Tree.{s_value, s_one_or_more, s_joined}
use Rattle.rng_model.specs.matching.Document.{Attribute, Item, a_text, an_element, Items, list_of, Interleaves, AllTexts, SharesName, Padded}
use Rattle.rng_model.specs.matching.Matching as matching
use Rattle.rng_model.specs.matching.Matching.{HasText}
use Rattle.rng_model.specs.datatypes.Texts.{is_blank, texts_of}
use Rattle.rng_names.specs.plain.Holding.{holds}
use Rattle.rng_model.specs.matching.GrammarMatching.{Reading}
use Rattle.rng_deriv_laws.specs.plain.Reading.{body_of, has_name, leaves_of}

module _ (g : Reading) where
  -- by the one definition: a tree of the grammar matches, and weakly matches
  abbrev pub Matches : Simple ℕ → List Attribute → List Item → Type 0
  Matches p xs ns = matching.Matches (leaves_of g) In (texts_of g.tests) tt (as_tree p) xs ns

  abbrev pub WeaklyMatches : Simple ℕ → List Attribute → List Item → Type 0
  WeaklyMatches p xs ns = matching.Weakly (leaves_of g) In (texts_of g.tests) tt (as_tree p) xs ns

  mutual
    pub data Takes : Simple ℕ → List Attribute → List Item → Type 0 where
      empty_is : Takes s_empty [] []
      text_is : {ns : List Item} → AllTexts ns → Takes s_text [] ns
      first : {p q : Simple ℕ} {xs : List Attribute} {ns : List Item} → Takes p xs ns → Takes (s_joined choice p q) xs ns
      second : {p q : Simple ℕ} {xs : List Attribute} {ns : List Item} → Takes q xs ns → Takes (s_joined choice p q) xs ns
      grouped : {p q : Simple ℕ} {xs ys zs : List Attribute} {ms ns os : List Item} →
          Takes p xs ms → Takes q ys ns → Interleaves xs ys zs → ms ++ ns ≡ os → Takes (s_joined group p q) zs os
      interleaved : {p q : Simple ℕ} {xs ys zs : List Attribute} {ms ns os : List Item} →
          Takes p xs ms → Takes q ys ns → Interleaves xs ys zs → Interleaves ms ns os → Takes (s_joined interleave p q) zs os
      once : {p : Simple ℕ} {xs : List Attribute} {ns : List Item} → Takes p xs ns → Takes (s_one_or_more p) xs ns
      again : {p : Simple ℕ} {xs ys zs : List Attribute} {ms ns os : List Item} →
          Takes p xs ms → Takes (s_one_or_more p) ys ns → (SharesName xs ys → ⊥) → Interleaves xs ys zs → ms ++ ns ≡ os → Takes (s_one_or_more p) zs os
      attribute_is : {c : NameClass} {p : Simple ℕ} {v : Attribute} → holds c v.name ≡ true → WeaklyTakes p [] (a_text v.content ∷ [])
          → Takes (s_attribute c p) (v ∷ []) []
      element_is : {k : ℕ} {q : Name} {xs : List Attribute} {kids : Items} {os : List Item} →
          has_name g k q ≡ true → WeaklyMatches (body_of g k) xs (list_of kids) → Padded is_blank (an_element q xs kids) os → Takes (s_leaf k) [] os
      data_is : {d : Datatype} {w : List ℕ} → g.tests.allows d w ≡ true → Takes (s_data d) [] (a_text w ∷ [])
      data_but : {d : Datatype} {p : Simple ℕ} {w : List ℕ} → g.tests.allows d w ≡ true → (HasText (texts_of g.tests) (as_tree p) w → ⊥)
          → Takes (s_data_except d p) [] (a_text w ∷ [])
      value_is : {d : Datatype} {v w : List ℕ} → g.tests.equals d v w ≡ true → Takes (s_value d v) [] (a_text w ∷ [])
      list_is : {p : Simple ℕ} {w : List ℕ} {ns : List Item} → ns ≡ map a_text (g.tests.pieces w) → Takes p [] ns → Takes (s_list p) [] (a_text w ∷ [])

    -- the weak rules (section 6.2.7)
    pub data WeaklyTakes : Simple ℕ → List Attribute → List Item → Type 0 where
      as_is : {p : Simple ℕ} {xs : List Attribute} {ns : List Item} → Takes p xs ns → WeaklyTakes p xs ns
      blank_text : {p : Simple ℕ} {xs : List Attribute} {s : List ℕ} → Takes p xs [] → is_blank s ≡ true → WeaklyTakes p xs (a_text s ∷ [])
      nothing_there : {p : Simple ℕ} {xs : List Attribute} → Takes p xs (a_text [] ∷ []) → WeaklyTakes p xs []

  -- the two patterns take the same
  pub record Same (p q : Simple ℕ) : Type 0 where
    pub to : (xs : List Attribute) (ns : List Item) → Takes p xs ns → Takes q xs ns
    pub back : (xs : List Attribute) (ns : List Item) → Takes q xs ns → Takes p xs ns
