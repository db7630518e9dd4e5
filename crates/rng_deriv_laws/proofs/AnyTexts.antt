-- What is left after a string of a pattern that contains no data, no value and no list: the same for each string.
use Rattle.std.proofs.Common.{◌≡◌, ℕ, List, [], ◌∷◌, Bool, true, false, ◌||◌, refl, inl, inr}
use Rattle.std.proofs.lemmas.Bool.{or_from}
use Rattle.rng_model.specs.simple.Tree.{Simple, s_not_allowed, s_empty, s_text, s_leaf, s_attribute, s_list, s_data, s_data_except}
use Rattle.rng_model.specs.simple.Tree.{s_value, s_one_or_more, s_joined}
use Rattle.rng_model.specs.matching.Document.{Item, a_text, no_texts, text_and}
use Rattle.rng_model.specs.datatypes.Texts.{is_blank}
use Rattle.rng_model.specs.matching.GrammarMatching.{Reading}
use Rattle.rng_deriv_laws.specs.plain.Taking.{Takes}
use Rattle.rng_deriv_laws.specs.plain.Taking as t
use Rattle.rng_deriv_laws.specs.plain.Blanks.{IsBare, cons, strings_alone, no_blanks}
use Rattle.rng_deriv_laws.specs.plain.Derivatives.{Way, has_data, item_ways}
use Rattle.rng_deriv_laws.specs.plain.LevelStates.{IsAfterText}
use Rattle.rng_deriv_laws.specs.plain.Ways.{TakesItem, EachWay, IsItemLeaf}
use Rattle.rng_deriv_laws.proofs.ItemWays.{item_ways-are}
use Rattle.rng_deriv_laws.proofs.KeptRestrictions.{IsHereditary, item_ways-keep}

abbrev HasNoData : Simple ℕ → Type 0
HasNoData p = has_data p ≡ false

pub not_first : (a b : Bool) → (a || b) ≡ false → a ≡ false
not_first false b e = refl
not_first true b e = e

pub not_second : (a b : Bool) → (a || b) ≡ false → b ≡ false
not_second false b e = e
not_second true b e = absurd (cc)

no_data-hereditary : IsHereditary HasNoData
no_data-hereditary = record {
  of_not_allowed = refl;
  of_empty = refl;
  of_text = refl;
  of_both = λ k p q h i. or_from (has_data p) (has_data q) h i;
  sides = λ k p q h. (not_first (has_data p) (has_data q) h, not_second (has_data p) (has_data q) h);
  copy = λ p h. h;
}

module _ (g : Reading) (s r : List ℕ) where
  leaf_takes : (l : Simple ℕ) → IsItemLeaf l × HasNoData l → Takes g l [] (a_text s ∷ []) → Takes g l [] (a_text r ∷ [])
  leaf_takes s_not_allowed o d = absurd o.0
  leaf_takes s_empty o d = absurd o.0
  leaf_takes s_text o d = t.text_is (text_and no_texts)
  leaf_takes (s_leaf k) o (t.element_is i w pad) = elim pad [ ]
  leaf_takes (s_attribute c p) o d = absurd o.0
  leaf_takes (s_list p) o d = let e = o.1 in absurd (cc)
  leaf_takes (s_data v) o d = let e = o.1 in absurd (cc)
  leaf_takes (s_data_except v p) o d = let e = o.1 in absurd (cc)
  leaf_takes (s_value v w) o d = let e = o.1 in absurd (cc)
  leaf_takes (s_one_or_more p) o d = absurd o.0
  leaf_takes (s_joined k p q) o d = absurd o.0

  ways_take : (ws : List Way) → EachWay (λ l. IsItemLeaf l × HasNoData l) HasNoData ws → (ns : List Item) → TakesItem g ws (a_text s) ns
      → TakesItem g ws (a_text r) ns
  ways_take [] each ns h = h
  ways_take (w ∷ ws) each ns (inl h) = inl (leaf_takes w.leaf each.0.0 h.0, h.1)
  ways_take (w ∷ ws) each ns (inr h) = inr (ways_take ws each.1 ns h)

  any_text : (p : Simple ℕ) → HasNoData p → (ns : List Item) → IsBare (a_text s ∷ ns) → Takes g p [] (a_text s ∷ ns) → Takes g p [] (a_text r ∷ ns)
  any_text p none ns bare d =
      let ways = item_ways-are g (λ n. Unit {0}) p in
      ways.back (a_text r) ns (ways_take (item_ways p) (item_ways-keep HasNoData no_data-hereditary p none) ns (ways.to (a_text s) ns tt bare d))

-- a string that is not blank may be in place of any other
bare_with : (s r : List ℕ) → is_blank s ≡ false → (ns : List Item) → IsBare (a_text r ∷ ns) → IsBare (a_text s ∷ ns)
bare_with s r full ns (strings_alone (text_and all)) = strings_alone (text_and all)
bare_with s r full ns (no_blanks (cons b all)) = no_blanks (cons full all)

-- what is left after a string that is not blank is left after every string
pub after_any_text : (g : Reading) (s r : List ℕ) → is_blank s ≡ false → (p q : Simple ℕ) → has_data p ≡ false → IsAfterText g s p q → IsAfterText g r p q
after_any_text g s r full p q none after = λ ns bare.
    let other = bare_with s r full ns bare in
    let law = after ns other in
    (λ d. any_text g s r p none ns other (law.0 d), λ d. law.1 (any_text g r s p none ns bare d))
