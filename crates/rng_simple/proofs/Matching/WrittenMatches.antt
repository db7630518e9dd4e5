-- A pattern as it is written matches what its unfolded tree matches, if an element of the tree is read by the tree of
-- its body, or by the simple form of that tree. What matches is not notAllowed, so a leaf that takes part in a match is
-- also one of the simple form. So only the elements that are reached through simple forms need trees.
use Rattle.std.proofs.Common.{◌≡◌, refl, sym, ap, subst, List, [], ℕ, ◌∷◌, Option, Some, None, inl, inr}
use Rattle.rng_model.specs.names.Names.{NameClass, In}
use Rattle.rng_model.specs.simple.Tree.{Connector, choice, Tree, not_allowed, leaf, Trees}
use Rattle.rng_model.specs.matching.Document.{Attribute, Item}
use Rattle.rng_model.specs.datatypes.Texts.{Texts}
use Rattle.rng_model.specs.matching.Matching.{Leaves, Matches, MatchesOne, MatchesAll, Weakly, HasText}
use Rattle.rng_model.specs.matching.Matching as m
use Rattle.rng_model.specs.matching.GrammarMatching.{Nothing}
use Rattle.rng_model.specs.schema.Patterns.{Place, Point, an_element, a_ref, a_parent_ref, a_grammar}
use Rattle.rng_model.specs.schema.Schema.{Schema, Definition, body}
use Rattle.rng_model.specs.schema.Unfolding.{Leaf, content_of, to_element, to_definition, outside, aim, Unfolds, UnfoldAll, IsBodyOf}
use Rattle.rng_model.specs.schema.Unfolding as u
use Rattle.rng_model.specs.simple.Simplification.{AnyStep, IsSimpleFormOf, IsSimpleClassOf}
use Rattle.rng_model.specs.matching.SchemaMatching.{IsFound, is_found, IsWrittenElement, is_written, schema_leaves}
use Rattle.rng_model.proofs.Unfolding.{one_element, one_definition, not_both, moved, one_tree}
use Rattle.rng_simple.proofs.Trees.SimpleClass.{has_simple_class}
use Rattle.rng_simple.proofs.Trees.SimpleForms.{has_simple_form}
use Rattle.rng_simple.proofs.Matching.StepLex as lexes
use Rattle.rng_simple.proofs.Matching.StepMatches.{weakly, steps_in, steps_out}
use Rattle.rng_simple.proofs.Matching.NestedNames.{class_in, class_out, nested_in}
use Rattle.rng_simple.proofs.Leaves.KeptLeaves.{IsAllowed, AreAllowed, IsOneAllowed, FormHas, OneFormHas}
use Rattle.rng_simple.proofs.Leaves.KeptLeaves as kept

-- ---- elements as leaves of trees

-- an element has its class, and the tree of its body
pub data HasTree (s : Schema) : Unit {0} → Leaf → NameClass → Unit {0} → Tree Leaf → Type 0 where
  has_tree : {x y : Unit {0}} {l : Leaf} {c : NameClass} {t : Tree Leaf} → c ≡ l.class → IsBodyOf s l t → HasTree s x l c y t

-- an element has the simple form of its class, and that of the tree of its body
pub data HasSimpleForm (s : Schema) : Unit {0} → Leaf → NameClass → Unit {0} → Tree Leaf → Type 0 where
  has_form : {x y : Unit {0}} {l : Leaf} {c : NameClass} {t b : Tree Leaf} → IsSimpleClassOf l.class c → IsBodyOf s l t → IsSimpleFormOf t b
      → HasSimpleForm s x l c y b

-- ---- points

-- what is looked up in the grammar around is no element
no_outside : (y : List ℕ) (o : Option Place) {m : Leaf} → outside y o ≡ to_element m → ⊥
no_outside y None e = cc
no_outside y (Some z) e = cc

-- an element that is found at a point is written there
written_element : (s : Schema) (x : Place) (p : Point) {m : Leaf} → aim s x p ≡ to_element m → IsWrittenElement s x p m.class m.place (content_of m)
written_element s x (an_element n c q) e =
    subst (λ k. IsWrittenElement s x (an_element n c q) k.class k.place (content_of k)) (one_element refl e) (is_written refl)
written_element s x (a_ref y) e = absurd (not_both e refl)
written_element s x (a_parent_ref y) e = absurd (no_outside y (s.outer x) e)
written_element s x (a_grammar z) e = absurd (not_both e refl)

-- no definition is looked up at the pattern itself
abbrev pub IsRoot : Schema → Place → Tree Point → Type 0
IsRoot s x (leaf p) = (d : Definition) → aim s x p ≡ to_definition d → ⊥
IsRoot s x _ = Unit {0}

module _ (s : Schema) (texts : Texts) where
  abbrev pub tree_leaves : Leaves (Unit {0}) Leaf
  tree_leaves = record { StandsFor = Nothing (Unit {0}) Leaf; IsElement = HasTree s; Excepts = λ x a w. HasText texts a w }

  abbrev pub form_leaves : Leaves (Unit {0}) Leaf
  form_leaves = record { StandsFor = Nothing (Unit {0}) Leaf; IsElement = HasSimpleForm s; Excepts = λ x a w. HasText texts a w }

  abbrev Written : Place → Tree Point → List Attribute → List Item → Type 0
  Written = Matches (schema_leaves s texts) In texts

  abbrev Unfolded : Unit {0} → Tree Leaf → List Attribute → List Item → Type 0
  Unfolded = Matches tree_leaves In texts

  abbrev Simplified : Unit {0} → Tree Leaf → List Attribute → List Item → Type 0
  Simplified = Matches form_leaves In texts

  -- ---- from the tree to the pattern

  -- through what is looked up, to where the tree begins
  pub via : {x : Place} {a : Tree Point} {t : Tree Leaf} {xs : List Attribute} {ns : List Item} → Unfolds s x a t
      → ((y : Place) (b : Tree Point) → IsRoot s y b → Unfolds s y b t → Written y b xs ns) → Written x a xs ns
  via (u.element_is e) f = f _ _ (λ d g. not_both e g) (u.element_is e)
  via (u.found e b v) f = m.stands_for (is_found e b refl) (via v f)
  via u.not_allowed_is f = f _ _ tt u.not_allowed_is
  via u.empty_is f = f _ _ tt u.empty_is
  via u.text_is f = f _ _ tt u.text_is
  via (u.attribute_is v) f = f _ _ tt (u.attribute_is v)
  via (u.list_is v) f = f _ _ tt (u.list_is v)
  via u.data_is f = f _ _ tt u.data_is
  via (u.except_is v) f = f _ _ tt (u.except_is v)
  via u.value_is f = f _ _ tt u.value_is
  via (u.mixed_is v) f = f _ _ tt (u.mixed_is v)
  via (u.optional_is v) f = f _ _ tt (u.optional_is v)
  via (u.zero_or_more_is v) f = f _ _ tt (u.zero_or_more_is v)
  via (u.one_or_more_is v) f = f _ _ tt (u.one_or_more_is v)
  via (u.joined_is v w vs) f = f _ _ tt (u.joined_is v w vs)

  mutual
    pub from_root : {o : Unit {0}} {t : Tree Leaf} {xs : List Attribute} {ns : List Item} → Unfolded o t xs ns → (x : Place) (a : Tree Point) → IsRoot s x a
        → Unfolds s x a t → Written x a xs ns
    from_root m.empty_is x a q u.empty_is = m.empty_is
    from_root m.empty_is x a q (u.found e b v) = absurd (q _ e)
    from_root (m.text_is h) x a q u.text_is = m.text_is h
    from_root (m.text_is h) x a q (u.found e b v) = absurd (q _ e)
    from_root (m.first d) x a q (u.joined_is v w vs) = m.first (via v (from_root d))
    from_root (m.first d) x a q (u.found e b v) = absurd (q _ e)
    from_root (m.second d) x a q (u.joined_is v w vs) = m.second (via w (from_root d))
    from_root (m.second d) x a q (u.found e b v) = absurd (q _ e)
    from_root (m.another d) x a q (u.joined_is v w vs) = m.another (from_one d vs)
    from_root (m.another d) x a q (u.found e b v) = absurd (q _ e)
    from_root (m.all d ds i h) x a q (u.joined_is v w vs) = m.all (via v (from_root d)) (from_all ds (u.more_are w vs)) i h
    from_root (m.all d ds i h) x a q (u.found e b v) = absurd (q _ e)
    from_root m.absent x a q (u.optional_is v) = m.absent
    from_root m.absent x a q (u.found e b v) = absurd (q _ e)
    from_root (m.present d) x a q (u.optional_is v) = m.present (via v (from_root d))
    from_root (m.present d) x a q (u.found e b v) = absurd (q _ e)
    from_root (m.once d) x a q (u.one_or_more_is v) = m.once (via v (from_root d))
    from_root (m.once d) x a q (u.found e b v) = absurd (q _ e)
    from_root (m.more d ds n i c) x a q (u.one_or_more_is v) = m.more (via v (from_root d)) (from_root ds _ _ tt (u.one_or_more_is v)) n i c
    from_root (m.more d ds n i c) x a q (u.found e b v) = absurd (q _ e)
    from_root m.no_times x a q (u.zero_or_more_is v) = m.no_times
    from_root m.no_times x a q (u.found e b v) = absurd (q _ e)
    from_root (m.some_times d) x a q (u.zero_or_more_is v) = m.some_times (from_root d _ _ tt (u.one_or_more_is v))
    from_root (m.some_times d) x a q (u.found e b v) = absurd (q _ e)
    from_root (m.mixed_with d h i) x a q (u.mixed_is v) = m.mixed_with (via v (from_root d)) h i
    from_root (m.mixed_with d h i) x a q (u.found e b v) = absurd (q _ e)
    from_root (m.attribute_is i w) x a q (u.attribute_is v) = m.attribute_is i (from_weakly w v)
    from_root (m.attribute_is i w) x a q (u.found e b v) = absurd (q _ e)
    from_root (m.element_is {q = n} (has_tree c t) i k w h) x (leaf p) q (u.element_is e) =
        m.element_is (written_element s x p e) (subst (λ d. In d n) c i) k (from_weakly w t) h
    from_root (m.element_is t i k w h) x a q (u.found e b v) = absurd (q _ e)
    from_root (m.data_is h) x a q u.data_is = m.data_is h
    from_root (m.data_is h) x a q (u.found e b v) = absurd (q _ e)
    from_root (m.data_but {w = text} h n) x a q (u.except_is v) = m.data_but h (λ z. n (subst (λ t. HasText texts t text) (one_tree s z.1 v) z.2))
    from_root (m.data_but h n) x a q (u.found e b v) = absurd (q _ e)
    from_root (m.value_is h) x a q u.value_is = m.value_is h
    from_root (m.value_is h) x a q (u.found e b v) = absurd (q _ e)
    from_root (m.list_is h d) x a q (u.list_is v) = m.list_is h (via v (from_root d))
    from_root (m.list_is h d) x a q (u.found e b v) = absurd (q _ e)
    from_root (m.stands_for f d) x a q v = elim f [ ]

    from_one : {o : Unit {0}} {us : Trees Leaf} {xs : List Attribute} {ns : List Item} → MatchesOne tree_leaves In texts o us xs ns
        → {x : Place} {ts : Trees Point} → UnfoldAll s x ts us → MatchesOne (schema_leaves s texts) In texts x ts xs ns
    from_one (m.this d) (u.more_are v vs) = m.this (via v (from_root d))
    from_one (m.later d) (u.more_are v vs) = m.later (from_one d vs)

    from_all : {o : Unit {0}} {k : Connector} {us : Trees Leaf} {xs : List Attribute} {ns : List Item} → MatchesAll tree_leaves In texts o k us xs ns
        → {x : Place} {ts : Trees Point} → UnfoldAll s x ts us → MatchesAll (schema_leaves s texts) In texts x k ts xs ns
    from_all m.none u.none_is = m.none
    from_all (m.and d ds i h) (u.more_are v vs) = m.and (via v (from_root d)) (from_all ds vs) i h

    from_weakly : {o : Unit {0}} {t : Tree Leaf} {xs : List Attribute} {ns : List Item} → Weakly tree_leaves In texts o t xs ns → {x : Place} {a : Tree Point}
        → Unfolds s x a t → Weakly (schema_leaves s texts) In texts x a xs ns
    from_weakly (m.as_is d) v = m.as_is (via v (from_root d))
    from_weakly (m.blank_text d h) v = m.blank_text (via v (from_root d)) h
    from_weakly (m.nothing_there d) v = m.nothing_there (via v (from_root d))

  -- the pattern matches what the tree matches
  pub to_written : {o : Unit {0}} {x : Place} {a : Tree Point} {t : Tree Leaf} {xs : List Attribute} {ns : List Item} → Unfolded o t xs ns → Unfolds s x a t
      → Written x a xs ns
  to_written d v = via v (from_root d)

  -- ---- from the pattern to the tree

  -- what is looked up is found only once, at its place
  found_again : {x z : Place} {p : Point} {a : Tree Point} {d : Definition} {b : Tree Point} {t : Tree Leaf} → IsFound s x p z a → aim s x p ≡ to_definition d
      → body s d ≡ Some b → Unfolds s d.place b t → Unfolds s z a t
  found_again {a = a} {t = t} (is_found e f g) h b v = subst (λ z. Unfolds s z a t) (sym g) (moved s (one_definition h e) b f v)

  no_element : {x y : Place} {p : Point} {b : Tree Point} {c : NameClass} {d : Definition} → IsWrittenElement s x p c y b → aim s x p ≡ to_definition d → ⊥
  no_element (is_written e) f = not_both refl f

  not_found : {x z : Place} {p : Point} {a : Tree Point} {l : Leaf} → IsFound s x p z a → aim s x p ≡ to_element l → ⊥
  not_found (is_found e f g) h = not_both h e

  -- if a tree matches something, its simple form is not notAllowed
  mutual
    allowed : {x : Place} {a : Tree Point} {xs : List Attribute} {ns : List Item} → Written x a xs ns → (t : Tree Leaf) → Unfolds s x a t → IsAllowed t
    allowed m.empty_is t u.empty_is = kept.empty_allowed
    allowed (m.text_is h) t u.text_is = kept.text_allowed
    allowed (m.first d) t (u.joined_is v w vs) = kept.first_allowed _ _ _ (allowed d _ v)
    allowed (m.second d) t (u.joined_is v w vs) = kept.second_allowed _ _ _ (allowed d _ w)
    allowed (m.another d) t (u.joined_is v w vs) = kept.another_allowed _ _ _ (one_allowed d _ vs)
    allowed (m.all d (m.and e ds j g) i h) t (u.joined_is {k = k} v w vs) =
        kept.all_allowed k _ _ _ (allowed d _ v) (allowed e _ w) (all_allowed ds _ vs)
    allowed m.absent t (u.optional_is v) = kept.optional_allowed _
    allowed (m.present d) t (u.optional_is v) = kept.optional_allowed _
    allowed (m.once d) t (u.one_or_more_is v) = kept.one_or_more_allowed _ (allowed d _ v)
    allowed (m.more d ds n i c) t (u.one_or_more_is v) = kept.one_or_more_allowed _ (allowed d _ v)
    allowed m.no_times t (u.zero_or_more_is v) = kept.zero_or_more_allowed _
    allowed (m.some_times d) t (u.zero_or_more_is v) = kept.zero_or_more_allowed _
    allowed (m.mixed_with d h i) t (u.mixed_is v) = kept.mixed_allowed _ (allowed d _ v)
    allowed (m.attribute_is i w) t (u.attribute_is v) = kept.attribute_allowed _ _ (weakly_allowed w _ v)
    allowed (m.element_is e i k w h) t (u.element_is v) = kept.leaf_allowed _
    allowed (m.element_is e i k w h) t (u.found f b v) = absurd (no_element e f)
    allowed (m.data_is h) t u.data_is = kept.data_allowed _
    allowed (m.data_but h n) t (u.except_is v) = kept.except_allowed _ _
    allowed (m.value_is h) t u.value_is = kept.value_allowed _ _
    allowed (m.list_is h d) t (u.list_is v) = kept.list_allowed _ (allowed d _ v)
    allowed (m.stands_for f d) t (u.element_is e) = absurd (not_found f e)
    allowed (m.stands_for f d) t (u.found e b v) = allowed d t (found_again f e b v)

    one_allowed : {x : Place} {ts : Trees Point} {xs : List Attribute} {ns : List Item} → MatchesOne (schema_leaves s texts) In texts x ts xs ns
        → (us : Trees Leaf) → UnfoldAll s x ts us → IsOneAllowed us
    one_allowed (m.this d) us (u.more_are v vs) = inl (allowed d _ v)
    one_allowed (m.later d) us (u.more_are v vs) = inr (one_allowed d _ vs)

    all_allowed : {x : Place} {k : Connector} {ts : Trees Point} {xs : List Attribute} {ns : List Item}
        → MatchesAll (schema_leaves s texts) In texts x k ts xs ns → (us : Trees Leaf) → UnfoldAll s x ts us → AreAllowed us
    all_allowed m.none us u.none_is = tt
    all_allowed (m.and d ds i h) us (u.more_are v vs) = (allowed d _ v, all_allowed ds _ vs)

    weakly_allowed : {x : Place} {a : Tree Point} {xs : List Attribute} {ns : List Item} → Weakly (schema_leaves s texts) In texts x a xs ns
        → (t : Tree Leaf) → Unfolds s x a t → IsAllowed t
    weakly_allowed (m.as_is d) t v = allowed d t v
    weakly_allowed (m.blank_text d h) t v = allowed d t v
    weakly_allowed (m.nothing_there d) t v = allowed d t v

  -- ---- between a tree and its simple form

  excepts_in : (x : Unit {0}) (a b : Tree Leaf) → AnyStep a b → (w : List ℕ) → HasText texts a w → HasText texts b w
  excepts_in x a b t w = lexes.lex_in Leaf texts t.1 (w ∷ [])

  excepts_out : (x : Unit {0}) (a b : Tree Leaf) → AnyStep a b → (w : List ℕ) → HasText texts b w → HasText texts a w
  excepts_out x a b t w = lexes.lex_out Leaf texts t.1 (w ∷ [])

  no_text : (x : Unit {0}) (w : List ℕ) → HasText {L = Leaf} texts not_allowed w → ⊥
  no_text x w h = h

  pub simplified : {t b : Tree Leaf} → IsSimpleFormOf t b → (xs : List Attribute) (ns : List Item) → Simplified tt t xs ns → Simplified tt b xs ns
  simplified f = steps_in form_leaves In texts class_in class_out excepts_in excepts_out no_text tt f.reached

  pub unsimplified : {t b : Tree Leaf} → IsSimpleFormOf t b → (xs : List Attribute) (ns : List Item) → Unfolded tt b xs ns → Unfolded tt t xs ns
  unsimplified f = steps_out tree_leaves In texts class_in class_out excepts_in excepts_out no_text tt f.reached

  -- ---- from the pattern to the tree, by the simple forms of bodies

  -- what is written of an element is what its leaf has
  class_is : {x y : Place} {p : Point} {c : NameClass} {a : Tree Point} {l : Leaf} → IsWrittenElement s x p c y a → aim s x p ≡ to_element l → c ≡ l.class
  class_is (is_written g) e = ap (λ k. k.class) (one_element refl e)

  body_is : {x y : Place} {p : Point} {c : NameClass} {a : Tree Point} {l : Leaf} {t : Tree Leaf} → IsWrittenElement s x p c y a → aim s x p ≡ to_element l
      → IsBodyOf s l t → Unfolds s y a t
  body_is {t = t} (is_written {x} g) e v = subst (λ b. Unfolds s x b t) (sym g) (subst (λ k. IsBodyOf s k t) (sym (one_element refl e)) v)

  -- The tree matches what the pattern matches. R holds for the leaves of its simple form, and each element with R has a
  -- tree whose simple form has only leaves with R.
  module _ (R : Leaf → Type 0) (tree_at : (l : Leaf) → R l → (t : Tree Leaf) × IsBodyOf s l t × ((k : Leaf) → FormHas k t → R k)) where
    mutual
      pub to_tree : {x : Place} {a : Tree Point} {xs : List Attribute} {ns : List Item} → Written x a xs ns → (t : Tree Leaf) → Unfolds s x a t
          → ((l : Leaf) → FormHas l t → R l) → Simplified tt t xs ns
      to_tree m.empty_is t u.empty_is n = m.empty_is
      to_tree (m.text_is h) t u.text_is n = m.text_is h
      to_tree (m.first d) t (u.joined_is v w vs) n =
          m.first (to_tree d _ v (λ l i. n l (kept.of_first choice _ _ _ (λ o. absurd (o refl)) (λ o. absurd (o refl)) i)))
      to_tree (m.second d) t (u.joined_is v w vs) n =
          m.second (to_tree d _ w (λ l i. n l (kept.of_second choice _ _ _ (λ o. absurd (o refl)) (λ o. absurd (o refl)) i)))
      to_tree (m.another d) t (u.joined_is v w vs) n =
          m.another (to_one d _ vs (λ l i. n l (kept.of_others choice _ _ _ (λ o. absurd (o refl)) (λ o. absurd (o refl)) i)))
      to_tree (m.all d (m.and e ds j g) i h) t (u.joined_is {k = k} v w vs) n =
          let p = allowed d _ v in
          let q = allowed e _ w in
          let r = all_allowed ds _ vs in
          m.all (to_tree d _ v (λ l o. n l (kept.of_first k _ _ _ (λ z. q) (λ z. r) o)))
          (m.and (to_tree e _ w (λ l o. n l (kept.of_second k _ _ _ (λ z. p) (λ z. r) o)))
          (to_all ds _ vs (λ l o. n l (kept.of_others k _ _ _ (λ z. (p, q)) (λ z. r) o))) j g) i h
      to_tree m.absent t (u.optional_is v) n = m.absent
      to_tree (m.present d) t (u.optional_is v) n = m.present (to_tree d _ v (λ l i. n l (kept.of_optional _ i)))
      to_tree (m.once d) t (u.one_or_more_is v) n = m.once (to_tree d _ v (λ l i. n l (kept.of_one_or_more _ i)))
      to_tree (m.more d ds k i c) t (u.one_or_more_is v) n =
          m.more (to_tree d _ v (λ l i. n l (kept.of_one_or_more _ i))) (to_tree ds _ (u.one_or_more_is v) n) k i c
      to_tree m.no_times t (u.zero_or_more_is v) n = m.no_times
      to_tree (m.some_times d) t (u.zero_or_more_is v) n = m.some_times (to_tree d _ (u.one_or_more_is v) (λ l i. n l (kept.of_zero_or_more _ i)))
      to_tree (m.mixed_with d h i) t (u.mixed_is v) n = m.mixed_with (to_tree d _ v (λ l i. n l (kept.of_mixed _ i))) h i
      to_tree (m.attribute_is i w) t (u.attribute_is v) n = m.attribute_is i (to_weakly w _ v (λ l i. n l (kept.of_attribute _ _ i)))
      to_tree (m.element_is {q = q} f i k w h) t (u.element_is {m = l} e) n =
          let b = tree_at l (n l kept.of_itself) in
          m.element_is (has_form (has_simple_class l.class) b.1 (has_simple_form b.0)) (nested_in l.class q (subst (λ d. In d q) (class_is f e) i)) k
          (weakly form_leaves In texts (simplified (has_simple_form b.0)) (to_weakly w b.0 (body_is f e b.1) b.2)) h
      to_tree (m.element_is f i k w h) t (u.found e b v) n = absurd (no_element f e)
      to_tree (m.data_is h) t u.data_is n = m.data_is h
      to_tree (m.data_but h k) t (u.except_is v) n = m.data_but h (λ z. k (_, v, z))
      to_tree (m.value_is h) t u.value_is n = m.value_is h
      to_tree (m.list_is h d) t (u.list_is v) n = m.list_is h (to_tree d _ v (λ l i. n l (kept.of_list _ i)))
      to_tree (m.stands_for f d) t (u.element_is e) n = absurd (not_found f e)
      to_tree (m.stands_for f d) t (u.found e b v) n = to_tree d t (found_again f e b v) n

      to_one : {x : Place} {ts : Trees Point} {xs : List Attribute} {ns : List Item} → MatchesOne (schema_leaves s texts) In texts x ts xs ns
          → (us : Trees Leaf) → UnfoldAll s x ts us → ((l : Leaf) → OneFormHas l us → R l) → MatchesOne form_leaves In texts tt us xs ns
      to_one (m.this d) us (u.more_are v vs) n = m.this (to_tree d _ v (λ l i. n l (inl i)))
      to_one (m.later d) us (u.more_are v vs) n = m.later (to_one d _ vs (λ l i. n l (inr i)))

      to_all : {x : Place} {k : Connector} {ts : Trees Point} {xs : List Attribute} {ns : List Item} → MatchesAll (schema_leaves s texts) In texts x k ts xs ns
          → (us : Trees Leaf) → UnfoldAll s x ts us → ((l : Leaf) → OneFormHas l us → R l) → MatchesAll form_leaves In texts tt k us xs ns
      to_all m.none us u.none_is n = m.none
      to_all (m.and d ds i h) us (u.more_are v vs) n = m.and (to_tree d _ v (λ l i. n l (inl i))) (to_all ds _ vs (λ l i. n l (inr i))) i h

      to_weakly : {x : Place} {a : Tree Point} {xs : List Attribute} {ns : List Item} → Weakly (schema_leaves s texts) In texts x a xs ns → (t : Tree Leaf)
          → Unfolds s x a t → ((l : Leaf) → FormHas l t → R l) → Weakly form_leaves In texts tt t xs ns
      to_weakly (m.as_is d) t v n = m.as_is (to_tree d t v n)
      to_weakly (m.blank_text d h) t v n = m.blank_text (to_tree d t v n) h
      to_weakly (m.nothing_there d) t v n = m.nothing_there (to_tree d t v n)
