-- Strings, for patterns that obey sections 7.1.3 and 7.1.4: what is left after one, the pieces of a list, and a string
-- alone (RELAX NG Specification, sections 6.2.7, 6.2.8 and 6.2.10).
use Rattle.std.proofs.Common.{◌≡◌, ℕ, List, [], ◌∷◌, map, refl, subst, Bool, true, ◌&&◌, cond, inl, inr}
use Rattle.std.proofs.lemmas.Bool.{and_from, or_left, or_right, and_parts, or_cases}
use Rattle.rng_model.specs.simple.Tree.{Simple, choice, group, interleave, s_not_allowed, s_empty, s_text, s_leaf, s_attribute, s_list, s_data, s_data_except}
use Rattle.rng_model.specs.simple.Tree.{s_value, s_one_or_more, s_joined}
use Rattle.rng_model.specs.matching.Document.{Item, a_text, AllTexts, no_texts, text_and}
use Rattle.rng_model.specs.datatypes.Texts.{is_blank}
use Rattle.rng_model.specs.matching.GrammarMatching.{Reading}
use Rattle.rng_deriv_laws.specs.plain.Taking.{Takes, WeaklyTakes}
use Rattle.rng_deriv_laws.specs.plain.Taking as t
use Rattle.rng_deriv_laws.specs.plain.Restricted.{MayBeListed, HasTexts}
use Rattle.rng_deriv_laws.specs.plain.Blanks.{IsBare, strings_alone}
use Rattle.rng_deriv_laws.specs.plain.Derivatives.{is_nullable, Way, item_ways, rests_of, in_turn, takes_text, after_string, no_list, after_piece, list_has}
use Rattle.rng_deriv_laws.specs.plain.Derivatives.{after_text}
use Rattle.rng_deriv_laws.specs.plain.Derivatives.{has_text}
use Rattle.rng_deriv_laws.specs.plain.Ways.{TakesItem, EachWay, IsItemLeaf}
use Rattle.rng_deriv_laws.proofs.Nullable.{null_in, null_out, under_in, under_out}
use Rattle.rng_deriv_laws.proofs.SamePatterns.{choice_of-same}
use Rattle.rng_deriv_laws.proofs.Excepts.{excepted_in, excepted_out}
use Rattle.rng_deriv_laws.proofs.ItemWays.{item_ways-are}
use Rattle.rng_deriv_laws.proofs.KeptRestrictions.{HasTexts-hereditary, item_ways-keep, rests_of-keeps}

-- ---- what is left after the leaves that take an item

module _ (g : Reading) (P Q : Simple ℕ → Type 0) (takes : Simple ℕ → Bool) (n : Item) where
  pub rests_in : ((l : Simple ℕ) → P l → Takes g l [] (n ∷ []) → takes l ≡ true) → (ws : List Way) → EachWay P Q ws → (ns : List Item)
      → TakesItem g ws n ns → Takes g (rests_of takes ws) [] ns
  rests_in exact [] each ns h = absurd h
  rests_in exact (w ∷ ws) each ns (inl h) =
      (choice_of-same g _ (rests_of takes ws)).back [] ns (t.first (under_in g (takes w.leaf) w.rest [] ns (exact w.leaf each.0.0 h.0) h.1))
  rests_in exact (w ∷ ws) each ns (inr h) = (choice_of-same g _ (rests_of takes ws)).back [] ns (t.second (rests_in exact ws each.1 ns h))

  rests_out_by : ((l : Simple ℕ) → P l → takes l ≡ true → Takes g l [] (n ∷ [])) → (w : Way) (ws : List Way) → P w.leaf → (ns : List Item)
      → (Takes g (rests_of takes ws) [] ns → TakesItem g ws n ns)
      → Takes g (s_joined choice (cond (takes w.leaf) w.rest s_not_allowed) (rests_of takes ws)) [] ns → TakesItem g (w ∷ ws) n ns
  rests_out_by exact w ws p ns later (t.first d) = let r = under_out g (takes w.leaf) w.rest [] ns d in inl (exact w.leaf p r.0, r.1)
  rests_out_by exact w ws p ns later (t.second d) = inr (later d)

  pub rests_out : ((l : Simple ℕ) → P l → takes l ≡ true → Takes g l [] (n ∷ [])) → (ws : List Way) → EachWay P Q ws → (ns : List Item)
      → Takes g (rests_of takes ws) [] ns → TakesItem g ws n ns
  rests_out exact [] each ns d = elim d [ ]
  rests_out exact (w ∷ ws) each ns d =
      rests_out_by exact w ws each.0.0 ns (rests_out exact ws each.1 ns) ((choice_of-same g _ (rests_of takes ws)).to [] ns d)

-- ---- the first item is a string

module _ (g : Reading) (Ok : Simple ℕ → Type 0) (lists : Simple ℕ → List ℕ → Bool)
    (lists_in : (p : Simple ℕ) (s : List ℕ) → Ok p → Takes g p [] (map a_text (g.tests.pieces s)) → lists p s ≡ true)
    (lists_out : (p : Simple ℕ) (s : List ℕ) → Ok p → lists p s ≡ true → Takes g p [] (map a_text (g.tests.pieces s)))
  where
    leaf_in : (s : List ℕ) (l : Simple ℕ) → IsItemLeaf l × HasTexts Ok l → Takes g l [] (a_text s ∷ []) → takes_text g lists s l ≡ true
    leaf_in s s_not_allowed o d = absurd o.0
    leaf_in s s_empty o d = absurd o.0
    leaf_in s s_text o d = refl
    leaf_in s (s_leaf k) o (t.element_is i w pad) = elim pad [ ]
    leaf_in s (s_attribute c p) o d = absurd o.0
    leaf_in s (s_list p) o (t.list_is e d) = lists_in p s o.1 (subst (λ l. Takes g p [] l) e d)
    leaf_in s (s_data d) o (t.data_is e) = e
    leaf_in s (s_data_except d p) o (t.data_but e f) = excepted_in g d p s o.1 e f
    leaf_in s (s_value d v) o (t.value_is e) = e
    leaf_in s (s_one_or_more p) o d = absurd o.0
    leaf_in s (s_joined k p q) o d = absurd o.0

    leaf_out : (s : List ℕ) (l : Simple ℕ) → IsItemLeaf l × HasTexts Ok l → takes_text g lists s l ≡ true → Takes g l [] (a_text s ∷ [])
    leaf_out s s_not_allowed o e = absurd o.0
    leaf_out s s_empty o e = absurd o.0
    leaf_out s s_text o e = t.text_is (text_and no_texts)
    leaf_out s (s_leaf k) o e = absurd (cc)
    leaf_out s (s_attribute c p) o e = absurd o.0
    leaf_out s (s_list p) o e = t.list_is refl (lists_out p s o.1 e)
    leaf_out s (s_data d) o e = t.data_is e
    leaf_out s (s_data_except d p) o e = let r = excepted_out g d p s o.1 e in t.data_but r.0 r.1
    leaf_out s (s_value d v) o e = t.value_is e
    leaf_out s (s_one_or_more p) o e = absurd o.0
    leaf_out s (s_joined k p q) o e = absurd o.0

    string_in : (p : Simple ℕ) → HasTexts Ok p → (s : List ℕ) (ns : List Item) → IsBare (a_text s ∷ ns) → Takes g p [] (a_text s ∷ ns)
        → Takes g (after_string g lists p s) [] ns
    string_in p o s ns bare d =
        rests_in g (λ l. IsItemLeaf l × HasTexts Ok l) (HasTexts Ok) (takes_text g lists s) (a_text s) (leaf_in s) (item_ways p)
        (item_ways-keep (HasTexts Ok) (HasTexts-hereditary Ok) p o) ns ((item_ways-are g (λ n. Unit {0}) p).to (a_text s) ns tt bare d)

    string_out : (p : Simple ℕ) → HasTexts Ok p → (s : List ℕ) (ns : List Item) → Takes g (after_string g lists p s) [] ns → Takes g p [] (a_text s ∷ ns)
    string_out p o s ns d =
        (item_ways-are g (λ n. Unit {0}) p).back (a_text s) ns
        (rests_out g (λ l. IsItemLeaf l × HasTexts Ok l) (HasTexts Ok) (takes_text g lists s) (a_text s) (leaf_out s) (item_ways p)
        (item_ways-keep (HasTexts Ok) (HasTexts-hereditary Ok) p o) ns d)

    string_keeps : (p : Simple ℕ) → HasTexts Ok p → (s : List ℕ) → HasTexts Ok (after_string g lists p s)
    string_keeps p o s =
        rests_of-keeps (HasTexts Ok) (HasTexts-hereditary Ok) (λ l. IsItemLeaf l × HasTexts Ok l) (takes_text g lists s) (item_ways p)
        (item_ways-keep (HasTexts Ok) (HasTexts-hereditary Ok) p o)

-- ---- the pieces of a list

pub no_lists : (p : Simple ℕ) → MayBeListed p → HasTexts (λ p. ⊥) p
no_lists s_not_allowed o = tt
no_lists s_empty o = tt
no_lists s_text o = tt
no_lists (s_leaf k) o = tt
no_lists (s_attribute c p) o = absurd o
no_lists (s_list p) o = o
no_lists (s_data d) o = tt
no_lists (s_data_except d p) o = o
no_lists (s_value d v) o = tt
no_lists (s_one_or_more p) o = no_lists p o
no_lists (s_joined choice p q) o = (no_lists p o.0, no_lists q o.1)
no_lists (s_joined group p q) o = (no_lists p o.0, no_lists q o.1)
no_lists (s_joined interleave p q) o = absurd o

pub all_texts : (ss : List (List ℕ)) → AllTexts (map a_text ss)
all_texts [] = no_texts
all_texts (s ∷ ss) = text_and (all_texts ss)

module _ (g : Reading) where
  none_in : (p : Simple ℕ) (s : List ℕ) → ⊥ → Takes g p [] (map a_text (g.tests.pieces s)) → no_list g p s ≡ true
  none_in p s o d = absurd o

  none_out : (p : Simple ℕ) (s : List ℕ) → ⊥ → no_list g p s ≡ true → Takes g p [] (map a_text (g.tests.pieces s))
  none_out p s o d = absurd o

  pieces_in : (ss : List (List ℕ)) (p : Simple ℕ) → HasTexts (λ p. ⊥) p → Takes g p [] (map a_text ss) → is_nullable (in_turn (after_piece g) p ss) ≡ true
  pieces_in [] p o d = null_in g p d
  pieces_in (s ∷ ss) p o d =
      pieces_in ss (after_piece g p s) (string_keeps g (λ p. ⊥) (no_list g) none_in none_out p o s)
      (string_in g (λ p. ⊥) (no_list g) none_in none_out p o s (map a_text ss) (strings_alone (all_texts (s ∷ ss))) d)

  pieces_out : (ss : List (List ℕ)) (p : Simple ℕ) → HasTexts (λ p. ⊥) p → is_nullable (in_turn (after_piece g) p ss) ≡ true → Takes g p [] (map a_text ss)
  pieces_out [] p o e = null_out g p e
  pieces_out (s ∷ ss) p o e =
      string_out g (λ p. ⊥) (no_list g) none_in none_out p o s (map a_text ss)
      (pieces_out ss (after_piece g p s) (string_keeps g (λ p. ⊥) (no_list g) none_in none_out p o s) e)

  pub list_in : (p : Simple ℕ) (s : List ℕ) → MayBeListed p → Takes g p [] (map a_text (g.tests.pieces s)) → list_has g p s ≡ true
  list_in p s o d = pieces_in (g.tests.pieces s) p (no_lists p o) d

  pub list_out : (p : Simple ℕ) (s : List ℕ) → MayBeListed p → list_has g p s ≡ true → Takes g p [] (map a_text (g.tests.pieces s))
  list_out p s o e = pieces_out (g.tests.pieces s) p (no_lists p o) e

  -- ---- a leaf with a string

  pub leaf_text_in : (s : List ℕ) (l : Simple ℕ) → IsItemLeaf l × HasTexts MayBeListed l → Takes g l [] (a_text s ∷ []) → takes_text g (list_has g) s l ≡ true
  leaf_text_in s l o d = leaf_in g MayBeListed (list_has g) list_in list_out s l o d

  pub leaf_text_out : (s : List ℕ) (l : Simple ℕ) → IsItemLeaf l × HasTexts MayBeListed l → takes_text g (list_has g) s l ≡ true → Takes g l [] (a_text s ∷ [])
  leaf_text_out s l o e = leaf_out g MayBeListed (list_has g) list_in list_out s l o e

  -- ---- after a string

  pub text_in : (p : Simple ℕ) → HasTexts MayBeListed p → (s : List ℕ) (ns : List Item) → IsBare (a_text s ∷ ns) → Takes g p [] (a_text s ∷ ns)
      → Takes g (after_text g p s) [] ns
  text_in p o s ns bare d = string_in g MayBeListed (list_has g) list_in list_out p o s ns bare d

  pub text_out : (p : Simple ℕ) → HasTexts MayBeListed p → (s : List ℕ) (ns : List Item) → Takes g (after_text g p s) [] ns → Takes g p [] (a_text s ∷ ns)
  text_out p o s ns d = string_out g MayBeListed (list_has g) list_in list_out p o s ns d

  -- ---- a string alone, by the weak rules

  pub alone_in : (p : Simple ℕ) → HasTexts MayBeListed p → (s : List ℕ) → WeaklyTakes g p [] (a_text s ∷ []) → has_text g p s ≡ true
  alone_in p o s (t.as_is d) =
      or_left _ _ (null_in g (after_text g p s) (text_in p o s [] (strings_alone (text_and no_texts)) d))
  alone_in p o s (t.blank_text d b) = or_right _ _ (and_from _ _ (null_in g p d) b)

  pub alone_out : (p : Simple ℕ) → HasTexts MayBeListed p → (s : List ℕ) → has_text g p s ≡ true → WeaklyTakes g p [] (a_text s ∷ [])
  alone_out p o s e = elim (or_cases (is_nullable (after_text g p s)) (is_nullable p && is_blank s) e) [
    | inl a ↦ t.as_is (text_out p o s [] (null_out g (after_text g p s) a))
    | inr b ↦ let c = and_parts (is_nullable p) (is_blank s) b in t.blank_text (null_out g p c.0) c.1
  ]
