-- What is left after the attributes of a tag, one by one, and after the tag is closed.
use Rattle.std.proofs.Common.{◌≡◌, ℕ, List, [], ◌∷◌, refl, subst, Bool, true, cond, inl, inr}
use Rattle.std.proofs.lemmas.Bool.{and_from, and_parts}
use Rattle.rng_model.specs.simple.Tree.{Simple, choice, group, interleave, s_not_allowed, s_empty, s_text, s_leaf, s_attribute, s_list, s_data, s_data_except}
use Rattle.rng_model.specs.simple.Tree.{s_value, s_one_or_more, s_joined}
use Rattle.rng_model.specs.matching.Document.{Attribute, Item, Interleaves, Distinct, one_more}
use Rattle.rng_model.specs.matching.Document as document
use Rattle.rng_model.proofs.OneSidedInterleavings.{left_is_none, right_is_none}
use Rattle.rng_names.specs.plain.Holding.{holds}
use Rattle.rng_model.specs.matching.GrammarMatching.{Reading}
use Rattle.rng_deriv_laws.specs.plain.Taking.{Takes, WeaklyTakes}
use Rattle.rng_deriv_laws.specs.plain.Taking as t
use Rattle.rng_deriv_laws.specs.plain.Restricted.{IsRestricted}
use Rattle.rng_deriv_laws.specs.plain.Derivatives.{Way, attribute_ways, rests_of, has_text, takes_attribute, after_attribute, after_attributes, closed}
use Rattle.rng_deriv_laws.specs.plain.Ways.{TakesAttribute, EachWay, IsAttributeLeaf}
use Rattle.rng_deriv_laws.proofs.ListFacts.{nothing_apart}
use Rattle.rng_deriv_laws.proofs.Nullable.{under_in, under_out}
use Rattle.rng_deriv_laws.proofs.SamePatterns.{choice_of-same, group_of-same, interleave_of-same, repeat_of-same}
use Rattle.rng_deriv_laws.proofs.AttributeWays.{attribute_ways-are}
use Rattle.rng_deriv_laws.proofs.KeptRestrictions.{IsRestricted-hereditary, attribute_ways-keep, rests_of-keeps}
use Rattle.rng_deriv_laws.proofs.Texts.{alone_in, alone_out}

module _ (g : Reading) where
  -- ---- a leaf with an attribute

  pub leaf_attribute_in : (a : Attribute) (l : Simple ℕ) → IsAttributeLeaf l × IsRestricted l → Takes g l (a ∷ []) [] → takes_attribute g a l ≡ true
  leaf_attribute_in a s_not_allowed o d = absurd o.0
  leaf_attribute_in a s_empty o d = absurd o.0
  leaf_attribute_in a s_text o d = absurd o.0
  leaf_attribute_in a (s_leaf k) o d = absurd o.0
  leaf_attribute_in a (s_attribute c p) o (t.attribute_is i w) = and_from _ _ i (alone_in g p o.1.texts a.content w)
  leaf_attribute_in a (s_list p) o d = absurd o.0
  leaf_attribute_in a (s_data d) o e = absurd o.0
  leaf_attribute_in a (s_data_except d p) o e = absurd o.0
  leaf_attribute_in a (s_value d v) o e = absurd o.0
  leaf_attribute_in a (s_one_or_more p) o d = absurd o.0
  leaf_attribute_in a (s_joined k p q) o d = absurd o.0

  pub leaf_attribute_out : (a : Attribute) (l : Simple ℕ) → IsAttributeLeaf l × IsRestricted l → takes_attribute g a l ≡ true → Takes g l (a ∷ []) []
  leaf_attribute_out a s_not_allowed o e = absurd o.0
  leaf_attribute_out a s_empty o e = absurd o.0
  leaf_attribute_out a s_text o e = absurd o.0
  leaf_attribute_out a (s_leaf k) o e = absurd o.0
  leaf_attribute_out a (s_attribute c p) o e =
      let r = and_parts (holds c a.name) (has_text g p a.content) e in t.attribute_is r.0 (alone_out g p o.1.texts a.content r.1)
  leaf_attribute_out a (s_list p) o e = absurd o.0
  leaf_attribute_out a (s_data d) o e = absurd o.0
  leaf_attribute_out a (s_data_except d p) o e = absurd o.0
  leaf_attribute_out a (s_value d v) o e = absurd o.0
  leaf_attribute_out a (s_one_or_more p) o e = absurd o.0
  leaf_attribute_out a (s_joined k p q) o e = absurd o.0

  -- ---- what is left after the leaves that take an attribute

  module _ (P Q : Simple ℕ → Type 0) (takes : Simple ℕ → Bool) (a : Attribute) where
    pub attribute_rests_in : ((l : Simple ℕ) → P l → Takes g l (a ∷ []) [] → takes l ≡ true) → (ws : List Way) → EachWay P Q ws →
        (xs : List Attribute) (ns : List Item) → TakesAttribute g ws a xs ns → Takes g (rests_of takes ws) xs ns
    attribute_rests_in exact [] each xs ns h = absurd h
    attribute_rests_in exact (w ∷ ws) each xs ns (inl h) =
        (choice_of-same g _ (rests_of takes ws)).back xs ns (t.first (under_in g (takes w.leaf) w.rest xs ns (exact w.leaf each.0.0 h.0) h.1))
    attribute_rests_in exact (w ∷ ws) each xs ns (inr h) =
        (choice_of-same g _ (rests_of takes ws)).back xs ns (t.second (attribute_rests_in exact ws each.1 xs ns h))

    out_by : ((l : Simple ℕ) → P l → takes l ≡ true → Takes g l (a ∷ []) []) → (w : Way) (ws : List Way) → P w.leaf → (xs : List Attribute) (ns : List Item) →
        (Takes g (rests_of takes ws) xs ns → TakesAttribute g ws a xs ns) →
        Takes g (s_joined choice (cond (takes w.leaf) w.rest s_not_allowed) (rests_of takes ws)) xs ns → TakesAttribute g (w ∷ ws) a xs ns
    out_by exact w ws p xs ns later (t.first d) = let r = under_out g (takes w.leaf) w.rest xs ns d in inl (exact w.leaf p r.0, r.1)
    out_by exact w ws p xs ns later (t.second d) = inr (later d)

    pub attribute_rests_out : ((l : Simple ℕ) → P l → takes l ≡ true → Takes g l (a ∷ []) []) → (ws : List Way) → EachWay P Q ws →
        (xs : List Attribute) (ns : List Item) → Takes g (rests_of takes ws) xs ns → TakesAttribute g ws a xs ns
    attribute_rests_out exact [] each xs ns d = elim d [ ]
    attribute_rests_out exact (w ∷ ws) each xs ns d =
        out_by exact w ws each.0.0 xs ns (attribute_rests_out exact ws each.1 xs ns) ((choice_of-same g _ (rests_of takes ws)).to xs ns d)

  -- ---- after an attribute

  pub attribute_in : (p : Simple ℕ) → IsRestricted p → (a : Attribute) (xs : List Attribute) (ns : List Item) → Takes g p (a ∷ xs) ns
      → Takes g (after_attribute g p a) xs ns
  attribute_in p o a xs ns d =
      attribute_rests_in (λ l. IsAttributeLeaf l × IsRestricted l) IsRestricted (takes_attribute g a) a (leaf_attribute_in a) (attribute_ways p)
      (attribute_ways-keep IsRestricted IsRestricted-hereditary p o) xs ns ((attribute_ways-are g (λ a. Unit {0}) p o.repeats).to a xs ns tt d)

  pub attribute_out : (p : Simple ℕ) → IsRestricted p → (a : Attribute) (xs : List Attribute) (ns : List Item) → Distinct (a ∷ xs)
      → Takes g (after_attribute g p a) xs ns → Takes g p (a ∷ xs) ns
  attribute_out p o a xs ns u d =
      (attribute_ways-are g (λ a. Unit {0}) p o.repeats).back a xs ns u
      (attribute_rests_out (λ l. IsAttributeLeaf l × IsRestricted l) IsRestricted (takes_attribute g a) a (leaf_attribute_out a) (attribute_ways p)
      (attribute_ways-keep IsRestricted IsRestricted-hereditary p o) xs ns d)

  pub attribute_keeps : (p : Simple ℕ) → IsRestricted p → (a : Attribute) → IsRestricted (after_attribute g p a)
  attribute_keeps p o a =
      rests_of-keeps IsRestricted IsRestricted-hereditary (λ l. IsAttributeLeaf l × IsRestricted l) (takes_attribute g a) (attribute_ways p)
      (attribute_ways-keep IsRestricted IsRestricted-hereditary p o)

  -- ---- after all attributes of a tag

  pub attributes_keep : (p : Simple ℕ) (xs : List Attribute) → IsRestricted p → IsRestricted (after_attributes g p xs)
  attributes_keep p [] o = o
  attributes_keep p (a ∷ xs) o = attributes_keep (after_attribute g p a) xs (attribute_keeps p o a)

  pub attributes_in : (p : Simple ℕ) → IsRestricted p → (xs : List Attribute) (ns : List Item) → Takes g p xs ns → Takes g (after_attributes g p xs) [] ns
  attributes_in p o [] ns d = d
  attributes_in p o (a ∷ xs) ns d = attributes_in (after_attribute g p a) (attribute_keeps p o a) xs ns (attribute_in p o a xs ns d)

  pub attributes_out : (p : Simple ℕ) → IsRestricted p → (xs : List Attribute) (ns : List Item) → Distinct xs → Takes g (after_attributes g p xs) [] ns
      → Takes g p xs ns
  attributes_out p o [] ns u d = d
  attributes_out p o (a ∷ xs) ns (one_more f u) d =
      attribute_out p o a xs ns (one_more f u) (attributes_out (after_attribute g p a) (attribute_keeps p o a) xs ns u d)

  -- the same for the weak rules
  pub weakly_in : (p : Simple ℕ) → IsRestricted p → (xs : List Attribute) (ns : List Item) → WeaklyTakes g p xs ns
      → WeaklyTakes g (after_attributes g p xs) [] ns
  weakly_in p o xs ns (t.as_is d) = t.as_is (attributes_in p o xs ns d)
  weakly_in p o xs ns (t.blank_text d b) = t.blank_text (attributes_in p o xs [] d) b
  weakly_in p o xs ns (t.nothing_there d) = t.nothing_there (attributes_in p o xs _ d)

  pub weakly_out : (p : Simple ℕ) → IsRestricted p → (xs : List Attribute) (ns : List Item) → Distinct xs → WeaklyTakes g (after_attributes g p xs) [] ns
      → WeaklyTakes g p xs ns
  weakly_out p o xs ns u (t.as_is d) = t.as_is (attributes_out p o xs ns u d)
  weakly_out p o xs ns u (t.blank_text d b) = t.blank_text (attributes_out p o xs [] u d) b
  weakly_out p o xs ns u (t.nothing_there d) = t.nothing_there (attributes_out p o xs _ u d)

  -- ---- the closed tag: p takes the same without attributes

  -- two sides without attributes
  group_sides : (p q : Simple ℕ) (ns : List Item) → Takes g (s_joined group p q) [] ns →
      ((ms : List Item) → Takes g p [] ms → Takes g (closed p) [] ms) → ((ms : List Item) → Takes g q [] ms → Takes g (closed q) [] ms) →
      Takes g (s_joined group (closed p) (closed q)) [] ns
  group_sides p q ns (t.grouped d e document.done c) f h = t.grouped (f _ d) (h _ e) document.done c

  group_sides_back : (p q : Simple ℕ) (ns : List Item) → Takes g (s_joined group (closed p) (closed q)) [] ns →
      ((ms : List Item) → Takes g (closed p) [] ms → Takes g p [] ms) → ((ms : List Item) → Takes g (closed q) [] ms → Takes g q [] ms) →
      Takes g (s_joined group p q) [] ns
  group_sides_back p q ns (t.grouped d e document.done c) f h = t.grouped (f _ d) (h _ e) document.done c

  interleave_sides : (p q : Simple ℕ) (ns : List Item) → Takes g (s_joined interleave p q) [] ns →
      ((ms : List Item) → Takes g p [] ms → Takes g (closed p) [] ms) → ((ms : List Item) → Takes g q [] ms → Takes g (closed q) [] ms) →
      Takes g (s_joined interleave (closed p) (closed q)) [] ns
  interleave_sides p q ns (t.interleaved d e document.done c) f h = t.interleaved (f _ d) (h _ e) document.done c

  interleave_sides_back : (p q : Simple ℕ) (ns : List Item) → Takes g (s_joined interleave (closed p) (closed q)) [] ns →
      ((ms : List Item) → Takes g (closed p) [] ms → Takes g p [] ms) → ((ms : List Item) → Takes g (closed q) [] ms → Takes g q [] ms) →
      Takes g (s_joined interleave p q) [] ns
  interleave_sides_back p q ns (t.interleaved d e document.done c) f h = t.interleaved (f _ d) (h _ e) document.done c

  choice_sides_back : (p q : Simple ℕ) (ns : List Item) → Takes g (s_joined choice (closed p) (closed q)) [] ns →
      ((ms : List Item) → Takes g (closed p) [] ms → Takes g p [] ms) → ((ms : List Item) → Takes g (closed q) [] ms → Takes g q [] ms) →
      Takes g (s_joined choice p q) [] ns
  choice_sides_back p q ns (t.first d) f h = t.first (f ns d)
  choice_sides_back p q ns (t.second d) f h = t.second (h ns d)

  -- copies without attributes
  copies : (p q : Simple ℕ) → ((ms : List Item) → Takes g p [] ms → Takes g q [] ms) → (xs : List Attribute) (ns : List Item) → xs ≡ []
      → Takes g (s_one_or_more p) xs ns → Takes g (s_one_or_more q) [] ns
  copies p q f xs ns e (t.once d) = t.once (f ns (subst (λ l. Takes g p l ns) e d))
  copies p q f xs ns e (t.again {xs = ys} {ys = zs} {ms = ms} d more apart i c) =
      let shared : Interleaves ys zs [] = subst (λ l. Interleaves ys zs l) e i in
      t.again (f ms (subst (λ l. Takes g p l ms) (left_is_none shared) d)) (copies p q f zs _ (right_is_none shared) more) nothing_apart document.done c

  pub closed_in : (p : Simple ℕ) (ns : List Item) → Takes g p [] ns → Takes g (closed p) [] ns
  closed_in s_not_allowed ns d = d
  closed_in s_empty ns d = d
  closed_in s_text ns d = d
  closed_in (s_leaf k) ns d = d
  closed_in (s_attribute c p) ns d = elim d [ ]
  closed_in (s_list p) ns d = d
  closed_in (s_data d) ns e = e
  closed_in (s_data_except d p) ns e = e
  closed_in (s_value d v) ns e = e
  closed_in (s_one_or_more p) ns d = (repeat_of-same g (closed p)).back [] ns (copies p (closed p) (closed_in p) [] ns refl d)
  closed_in (s_joined choice p q) ns (t.first d) = (choice_of-same g (closed p) (closed q)).back [] ns (t.first (closed_in p ns d))
  closed_in (s_joined choice p q) ns (t.second d) = (choice_of-same g (closed p) (closed q)).back [] ns (t.second (closed_in q ns d))
  closed_in (s_joined group p q) ns d = (group_of-same g (closed p) (closed q)).back [] ns (group_sides p q ns d (closed_in p) (closed_in q))
  closed_in (s_joined interleave p q) ns d = (interleave_of-same g (closed p) (closed q)).back [] ns (interleave_sides p q ns d (closed_in p) (closed_in q))

  pub closed_out : (p : Simple ℕ) (ns : List Item) → Takes g (closed p) [] ns → Takes g p [] ns
  closed_out s_not_allowed ns d = d
  closed_out s_empty ns d = d
  closed_out s_text ns d = d
  closed_out (s_leaf k) ns d = d
  closed_out (s_attribute c p) ns d = elim d [ ]
  closed_out (s_list p) ns d = d
  closed_out (s_data d) ns e = e
  closed_out (s_data_except d p) ns e = e
  closed_out (s_value d v) ns e = e
  closed_out (s_one_or_more p) ns d = copies (closed p) p (closed_out p) [] ns refl ((repeat_of-same g (closed p)).to [] ns d)
  closed_out (s_joined choice p q) ns d = choice_sides_back p q ns ((choice_of-same g (closed p) (closed q)).to [] ns d) (closed_out p) (closed_out q)
  closed_out (s_joined group p q) ns d = group_sides_back p q ns ((group_of-same g (closed p) (closed q)).to [] ns d) (closed_out p) (closed_out q)
  closed_out (s_joined interleave p q) ns d =
      interleave_sides_back p q ns ((interleave_of-same g (closed p) (closed q)).to [] ns d) (closed_out p) (closed_out q)
