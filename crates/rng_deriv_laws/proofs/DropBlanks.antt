-- If section 7.2 is obeyed and the items have an element, a pattern also takes them without blank strings.
use Rattle.std.proofs.Common.{◌≡◌, ℕ, List, [], ◌∷◌, ◌++◌, refl, sym, ap, ◌∙◌, subst, Bool, true, false, cond, Option, Some, None, ◌⊎◌, inl, inr}
use Rattle.std.proofs.lemmas.List.{append-nil}
use Rattle.rng_model.specs.names.Names.{Name}
use Rattle.rng_model.specs.simple.Tree.{Simple, choice, group, interleave, s_not_allowed, s_empty, s_text, s_leaf, s_attribute, s_list, s_data, s_data_except}
use Rattle.rng_model.specs.simple.Tree.{s_value, s_one_or_more, s_joined}
use Rattle.rng_model.specs.matching.Document.{Attribute, Item, a_text, an_element, Items, Interleaves, AllTexts, no_texts, text_and, Padded}
use Rattle.rng_model.specs.matching.Document as document
use Rattle.rng_model.specs.restrictions.Contents.{ContentType, empty_content, complex_content, simple_content}
use Rattle.rng_model.specs.datatypes.Texts.{is_blank}
use Rattle.rng_model.proofs.OneSidedInterleavings.{left_alone, right_alone, left_is_all, right_is_all}
use Rattle.rng_model.specs.matching.GrammarMatching.{Reading}
use Rattle.rng_deriv_laws.specs.plain.Taking.{Takes}
use Rattle.rng_deriv_laws.specs.plain.Taking as t
use Rattle.rng_deriv_laws.specs.plain.Restricted.{type_of_choice, type_of_both, content_type, IsTyped}
use Rattle.rng_deriv_laws.specs.plain.Blanks.{has_element, without_blanks}

-- ---- types of sides

choice_empty : (a b : Option ContentType) → type_of_choice a b ≡ Some empty_content → (a ≡ Some empty_content) × (b ≡ Some empty_content)
choice_empty None b e = absurd (cc)
choice_empty (Some s) None e = absurd (cc)
choice_empty (Some empty_content) (Some u) e = (refl, e)
choice_empty (Some complex_content) (Some empty_content) e = absurd (cc)
choice_empty (Some complex_content) (Some complex_content) e = absurd (cc)
choice_empty (Some complex_content) (Some simple_content) e = absurd (cc)
choice_empty (Some simple_content) (Some u) e = absurd (cc)

both_empty : (a b : Option ContentType) → type_of_both a b ≡ Some empty_content → (a ≡ Some empty_content) × (b ≡ Some empty_content)
both_empty None b e = absurd (cc)
both_empty (Some s) None e = absurd (cc)
both_empty (Some empty_content) (Some u) e = (refl, e)
both_empty (Some complex_content) (Some empty_content) e = absurd (cc)
both_empty (Some complex_content) (Some complex_content) e = absurd (cc)
both_empty (Some complex_content) (Some simple_content) e = absurd (cc)
both_empty (Some simple_content) (Some empty_content) e = absurd (cc)
both_empty (Some simple_content) (Some complex_content) e = absurd (cc)
both_empty (Some simple_content) (Some simple_content) e = absurd (cc)

-- a type that is not simple
IsPlain : Option ContentType → Type 0
IsPlain a = (a ≡ Some empty_content) ⊎ (a ≡ Some complex_content)

choice_plain : (a b : Option ContentType) → IsPlain (type_of_choice a b) → IsPlain a × IsPlain b
unfolding IsPlain
choice_plain None b (inl e) = absurd (cc)
choice_plain None b (inr e) = absurd (cc)
choice_plain (Some s) None (inl e) = absurd (cc)
choice_plain (Some s) None (inr e) = absurd (cc)
choice_plain (Some empty_content) (Some u) h = (inl refl, h)
choice_plain (Some complex_content) (Some empty_content) h = (inr refl, inl refl)
choice_plain (Some complex_content) (Some complex_content) h = (inr refl, inr refl)
choice_plain (Some complex_content) (Some simple_content) (inl e) = absurd (cc)
choice_plain (Some complex_content) (Some simple_content) (inr e) = absurd (cc)
choice_plain (Some simple_content) (Some u) (inl e) = absurd (cc)
choice_plain (Some simple_content) (Some u) (inr e) = absurd (cc)

-- how the types of two sides combine
data Sides (a b : Option ContentType) (u : ContentType) : Type 0 where
  second_alone : a ≡ Some empty_content → b ≡ Some u → Sides a b u
  first_alone : a ≡ Some u → b ≡ Some empty_content → Sides a b u
  both_complex : a ≡ Some complex_content → b ≡ Some complex_content → Sides a b u

sides : (a b : Option ContentType) (u : ContentType) → type_of_both a b ≡ Some u → Sides a b u
sides None b u e = absurd (cc)
sides (Some s) None u e = absurd (cc)
sides (Some empty_content) (Some v) u e = second_alone refl e
sides (Some complex_content) (Some empty_content) u e = first_alone e refl
sides (Some complex_content) (Some complex_content) u e = both_complex refl refl
sides (Some complex_content) (Some simple_content) u e = absurd (cc)
sides (Some simple_content) (Some empty_content) u e = first_alone e refl
sides (Some simple_content) (Some complex_content) u e = absurd (cc)
sides (Some simple_content) (Some simple_content) u e = absurd (cc)

sides_plain : (a b : Option ContentType) (u : ContentType) → IsPlain (Some u) → Sides a b u → IsPlain a × IsPlain b
unfolding IsPlain
sides_plain a b u (inl e) (second_alone d f) = (inl d, inl (f ∙ e))
sides_plain a b u (inr e) (second_alone d f) = (inl d, inr (f ∙ e))
sides_plain a b u (inl e) (first_alone d f) = (inl (d ∙ e), inl f)
sides_plain a b u (inr e) (first_alone d f) = (inr (d ∙ e), inl f)
sides_plain a b u e (both_complex d f) = (inr d, inr f)

both_plain : (a b : Option ContentType) → IsPlain (type_of_both a b) → IsPlain a × IsPlain b
unfolding IsPlain
both_plain a b (inl e) = sides_plain a b empty_content (inl refl) (sides a b empty_content e)
both_plain a b (inr e) = sides_plain a b complex_content (inr refl) (sides a b complex_content e)

pub both_typed : (a b : Option ContentType) (u : ContentType) → type_of_choice a b ≡ Some u →
    ((s : ContentType) × (a ≡ Some s)) × ((s : ContentType) × (b ≡ Some s))
both_typed None b u e = absurd (cc)
both_typed (Some s) None u e = absurd (cc)
both_typed (Some s) (Some v) u e = ((s, refl), (v, refl))

-- the copies of a oneOrMore do not have the simple type
repeated_plain : (a : Option ContentType) (u : ContentType) → type_of_both a a ≡ Some u → IsPlain a
unfolding IsPlain
repeated_plain None u e = absurd (cc)
repeated_plain (Some empty_content) u e = inl refl
repeated_plain (Some complex_content) u e = inr refl
repeated_plain (Some simple_content) u e = absurd (cc)

-- ---- lists without their blank strings

kept_front : (b : Bool) (n : Item) (ms os ns : List Item) → ns ≡ ms ++ os → cond b ns (n ∷ ns) ≡ cond b ms (n ∷ ms) ++ os
kept_front true n ms os ns e = e
kept_front false n ms os ns e = ap (λ l. n ∷ l) e

without_append : (ms os : List Item) → without_blanks (ms ++ os) ≡ without_blanks ms ++ without_blanks os
without_append [] os = refl
without_append (a_text s ∷ ms) os =
    kept_front (is_blank s) (a_text s) (without_blanks ms) (without_blanks os) (without_blanks (ms ++ os)) (without_append ms os)
without_append (an_element q xs kids ∷ ms) os = ap (λ l. an_element q xs kids ∷ l) (without_append ms os)

kept_left : (b : Bool) (n : Item) (ms os ns : List Item) → Interleaves ms os ns → Interleaves (cond b ms (n ∷ ms)) os (cond b ns (n ∷ ns))
kept_left true n ms os ns i = i
kept_left false n ms os ns i = document.left i

kept_right : (b : Bool) (n : Item) (ms os ns : List Item) → Interleaves ms os ns → Interleaves ms (cond b os (n ∷ os)) (cond b ns (n ∷ ns))
kept_right true n ms os ns i = i
kept_right false n ms os ns i = document.right i

without_split : {ms os ns : List Item} → Interleaves ms os ns → Interleaves (without_blanks ms) (without_blanks os) (without_blanks ns)
without_split document.done = document.done
without_split (document.left {x = a_text s} i) = kept_left (is_blank s) (a_text s) _ _ _ (without_split i)
without_split (document.left {x = an_element q xs kids} i) = document.left (without_split i)
without_split (document.right {y = a_text s} i) = kept_right (is_blank s) (a_text s) _ _ _ (without_split i)
without_split (document.right {y = an_element q xs kids} i) = document.right (without_split i)

kept_texts : (b : Bool) (s : List ℕ) (ns : List Item) → AllTexts ns → AllTexts (cond b ns (a_text s ∷ ns))
kept_texts true s ns all = all
kept_texts false s ns all = text_and all

without_texts : (ns : List Item) → AllTexts ns → AllTexts (without_blanks ns)
without_texts [] all = no_texts
without_texts (a_text s ∷ ns) (text_and all) = kept_texts (is_blank s) s _ (without_texts ns all)
without_texts (an_element q xs kids ∷ ns) all = elim all [ ]

unpadded : (q : Name) (xs : List Attribute) (kids : Items) (os : List Item) → Padded is_blank (an_element q xs kids) os
    → Padded is_blank (an_element q xs kids) (without_blanks os)
unpadded q xs kids os document.alone = document.alone
unpadded q xs kids os (document.before b) = rw b document.alone
unpadded q xs kids os (document.after b) = rw b document.alone
unpadded q xs kids os (document.both_sides b d) = rw (b, d) document.alone

module _ (g : Reading) where
  -- ---- a pattern of the empty type takes no items

  no_items_repeated : (p : Simple ℕ) → ((xs : List Attribute) (ns : List Item) → Takes g p xs ns → ns ≡ []) → (xs : List Attribute) (ns : List Item)
      → Takes g (s_one_or_more p) xs ns → ns ≡ []
  no_items_repeated p inside xs ns (t.once d) = inside xs ns d
  no_items_repeated p inside xs ns (t.again d e a i c) = sym c ∙ rw (inside _ _ d, no_items_repeated p inside _ _ e) refl

  no_items : (p : Simple ℕ) → content_type p ≡ Some empty_content → (xs : List Attribute) (ns : List Item) → Takes g p xs ns → ns ≡ []
  no_items s_not_allowed u xs ns d = elim d [ ]
  no_items s_empty u xs ns t.empty_is = refl
  no_items s_text u xs ns d = absurd (cc)
  no_items (s_leaf k) u xs ns d = absurd (cc)
  no_items (s_attribute c p) u xs ns (t.attribute_is i w) = refl
  no_items (s_list p) u xs ns d = absurd (cc)
  no_items (s_data d) u xs ns e = absurd (cc)
  no_items (s_data_except d p) u xs ns e = absurd (cc)
  no_items (s_value d v) u xs ns e = absurd (cc)
  no_items (s_one_or_more p) u xs ns d = no_items_repeated p (no_items p (both_empty (content_type p) (content_type p) u).0) xs ns d
  no_items (s_joined choice p q) u xs ns (t.first d) = no_items p (choice_empty (content_type p) (content_type q) u).0 xs ns d
  no_items (s_joined choice p q) u xs ns (t.second d) = no_items q (choice_empty (content_type p) (content_type q) u).1 xs ns d
  no_items (s_joined group p q) u xs ns (t.grouped d e i c) =
      let v = both_empty (content_type p) (content_type q) u in sym c ∙ rw (no_items p v.0 _ _ d, no_items q v.1 _ _ e) refl
  no_items (s_joined interleave p q) u xs ns (t.interleaved {ns = os} d e i c) =
      let v = both_empty (content_type p) (content_type q) u in
      sym (right_is_all (subst (λ l. Interleaves l os ns) (no_items p v.0 _ _ d) c)) ∙ no_items q v.1 _ _ e

  -- ---- a pattern with a type that is not simple: any items

  plain_repeated : (p : Simple ℕ) → ((xs : List Attribute) (ns : List Item) → Takes g p xs ns → Takes g p xs (without_blanks ns)) →
      (xs : List Attribute) (ns : List Item) → Takes g (s_one_or_more p) xs ns → Takes g (s_one_or_more p) xs (without_blanks ns)
  plain_repeated p inside xs ns (t.once d) = t.once (inside xs ns d)
  plain_repeated p inside xs ns (t.again {ms = ms} {ns = os} d e a i c) =
      t.again (inside _ _ d) (plain_repeated p inside _ _ e) a i (sym (without_append ms os) ∙ ap without_blanks c)

  dropped_plain : (p : Simple ℕ) → IsPlain (content_type p) → (xs : List Attribute) (ns : List Item) → Takes g p xs ns → Takes g p xs (without_blanks ns)
  unfolding IsPlain
  dropped_plain s_not_allowed u xs ns d = elim d [ ]
  dropped_plain s_empty u xs ns t.empty_is = t.empty_is
  dropped_plain s_text u xs ns (t.text_is all) = t.text_is (without_texts ns all)
  dropped_plain (s_leaf k) u xs ns (t.element_is i w pad) = t.element_is i w (unpadded _ _ _ ns pad)
  dropped_plain (s_attribute c p) u xs ns (t.attribute_is h w) = t.attribute_is h w
  dropped_plain (s_list p) (inl u) xs ns d = absurd (cc)
  dropped_plain (s_list p) (inr u) xs ns d = absurd (cc)
  dropped_plain (s_data d) (inl u) xs ns e = absurd (cc)
  dropped_plain (s_data d) (inr u) xs ns e = absurd (cc)
  dropped_plain (s_data_except d p) (inl u) xs ns e = absurd (cc)
  dropped_plain (s_data_except d p) (inr u) xs ns e = absurd (cc)
  dropped_plain (s_value d v) (inl u) xs ns e = absurd (cc)
  dropped_plain (s_value d v) (inr u) xs ns e = absurd (cc)
  dropped_plain (s_one_or_more p) u xs ns d = plain_repeated p (dropped_plain p (both_plain (content_type p) (content_type p) u).0) xs ns d
  dropped_plain (s_joined choice p q) u xs ns (t.first d) = t.first (dropped_plain p (choice_plain (content_type p) (content_type q) u).0 xs ns d)
  dropped_plain (s_joined choice p q) u xs ns (t.second d) = t.second (dropped_plain q (choice_plain (content_type p) (content_type q) u).1 xs ns d)
  dropped_plain (s_joined group p q) u xs ns (t.grouped {ms = ms} {ns = os} d e i c) =
      let v = both_plain (content_type p) (content_type q) u in
      t.grouped (dropped_plain p v.0 _ ms d) (dropped_plain q v.1 _ os e) i (sym (without_append ms os) ∙ ap without_blanks c)
  dropped_plain (s_joined interleave p q) u xs ns (t.interleaved d e i c) =
      let v = both_plain (content_type p) (content_type q) u in
      t.interleaved (dropped_plain p v.0 _ _ d) (dropped_plain q v.1 _ _ e) i (without_split c)

  -- ---- any type, if the items have an element: one side takes nothing, or both are complex

  abbrev Drops : Simple ℕ → Type 0
  Drops p = (u : ContentType) → content_type p ≡ Some u → (xs : List Attribute) (ns : List Item) → has_element ns ≡ true → Takes g p xs ns
      → Takes g p xs (without_blanks ns)

  dropped_group : (p q : Simple ℕ) (u : ContentType) → Sides (content_type p) (content_type q) u → Drops p → Drops q →
      (xs ys zs : List Attribute) (ms os ns : List Item) → has_element ns ≡ true → Takes g p xs ms → Takes g q ys os → Interleaves xs ys zs → ms ++ os ≡ ns
      → Takes g (s_joined group p q) zs (without_blanks ns)
  unfolding IsPlain
  dropped_group p q u (second_alone a b) inside beside xs ys zs ms os ns h d e i c =
      let n = no_items p a xs ms d in
      let f : os ≡ ns = subst (λ l. l ++ os ≡ ns) n c in
      t.grouped (subst (λ l. Takes g p xs l) n d) (beside u b ys ns h (subst (λ l. Takes g q ys l) f e)) i refl
  dropped_group p q u (first_alone a b) inside beside xs ys zs ms os ns h d e i c =
      let n = no_items q b ys os e in
      let f : ms ≡ ns = sym (append-nil ms) ∙ subst (λ l. ms ++ l ≡ ns) n c in
      t.grouped (inside u a xs ns h (subst (λ l. Takes g p xs l) f d)) (subst (λ l. Takes g q ys l) n e) i (append-nil (without_blanks ns))
  dropped_group p q u (both_complex a b) inside beside xs ys zs ms os ns h d e i c =
      t.grouped (dropped_plain p (inr a) xs ms d) (dropped_plain q (inr b) ys os e) i (sym (without_append ms os) ∙ ap without_blanks c)

  dropped_interleave : (p q : Simple ℕ) (u : ContentType) → Sides (content_type p) (content_type q) u → Drops p → Drops q →
      (xs ys zs : List Attribute) (ms os ns : List Item) → has_element ns ≡ true → Takes g p xs ms → Takes g q ys os → Interleaves xs ys zs
      → Interleaves ms os ns → Takes g (s_joined interleave p q) zs (without_blanks ns)
  unfolding IsPlain
  dropped_interleave p q u (second_alone a b) inside beside xs ys zs ms os ns h d e i c =
      let n = no_items p a xs ms d in
      let f : os ≡ ns = right_is_all (subst (λ l. Interleaves l os ns) n c) in
      t.interleaved (subst (λ l. Takes g p xs l) n d) (beside u b ys ns h (subst (λ l. Takes g q ys l) f e)) i (right_alone (without_blanks ns))
  dropped_interleave p q u (first_alone a b) inside beside xs ys zs ms os ns h d e i c =
      let n = no_items q b ys os e in
      let f : ms ≡ ns = left_is_all (subst (λ l. Interleaves ms l ns) n c) in
      t.interleaved (inside u a xs ns h (subst (λ l. Takes g p xs l) f d)) (subst (λ l. Takes g q ys l) n e) i (left_alone (without_blanks ns))
  dropped_interleave p q u (both_complex a b) inside beside xs ys zs ms os ns h d e i c =
      t.interleaved (dropped_plain p (inr a) xs ms d) (dropped_plain q (inr b) ys os e) i (without_split c)

  dropped : (p : Simple ℕ) → Drops p
  unfolding IsPlain
  dropped s_not_allowed u v xs ns h d = elim d [ ]
  dropped s_empty u v xs ns h d = dropped_plain s_empty (inl refl) xs ns d
  dropped s_text u v xs ns h d = dropped_plain s_text (inr refl) xs ns d
  dropped (s_leaf k) u v xs ns h d = dropped_plain (s_leaf k) (inr refl) xs ns d
  dropped (s_attribute c p) u v xs ns h (t.attribute_is i w) = t.attribute_is i w
  dropped (s_list p) u v xs ns h (t.list_is e d) = absurd (cc)
  dropped (s_data d) u v xs ns h (t.data_is e) = absurd (cc)
  dropped (s_data_except d p) u v xs ns h (t.data_but e f) = absurd (cc)
  dropped (s_value d w) u v xs ns h (t.value_is e) = absurd (cc)
  dropped (s_one_or_more p) u v xs ns h d = plain_repeated p (dropped_plain p (repeated_plain (content_type p) u v)) xs ns d
  dropped (s_joined choice p q) u v xs ns h (t.first d) =
      let w = both_typed (content_type p) (content_type q) u v in t.first (dropped p w.0.0 w.0.1 xs ns h d)
  dropped (s_joined choice p q) u v xs ns h (t.second d) =
      let w = both_typed (content_type p) (content_type q) u v in t.second (dropped q w.1.0 w.1.1 xs ns h d)
  dropped (s_joined group p q) u v xs ns h (t.grouped d e i c) =
      dropped_group p q u (sides (content_type p) (content_type q) u v) (dropped p) (dropped q) _ _ xs _ _ ns h d e i c
  dropped (s_joined interleave p q) u v xs ns h (t.interleaved d e i c) =
      dropped_interleave p q u (sides (content_type p) (content_type q) u v) (dropped p) (dropped q) _ _ xs _ _ ns h d e i c

  pub drop_blanks : (p : Simple ℕ) → IsTyped p → (xs : List Attribute) (ns : List Item) → has_element ns ≡ true → Takes g p xs ns
      → Takes g p xs (without_blanks ns)
  drop_blanks p (inl u) xs ns h d = dropped p u.0 u.1 xs ns h d
  drop_blanks p (inr e) xs ns h d = elim (subst (λ p. Takes g p xs ns) e d) [ ]
