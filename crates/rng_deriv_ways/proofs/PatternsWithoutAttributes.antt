-- Patterns without attributes, and what is left after all attributes of a tag are taken.
use Rattle.std.proofs.Common.{◌≡◌, ℕ, ◌<◌, ◌↔◌, ⊎_elim, List, [], ◌∷◌, ◌++◌, length, map, get_or, zero, suc, sym, subst, arith, false}
use Rattle.std.proofs.lemmas.List.Elements.{Contains-get_or, Contains-append_left, Contains-append_right, Contains-append_cases}
use Rattle.rng_deriv_laws.proofs.AnyTexts.{not_first, not_second}
use Rattle.rng_model.specs.matching.Document.{Attribute, Item}
use Rattle.rng_model.specs.simple.Tree.{Simple, choice, group, interleave, s_not_allowed, s_empty, s_text, s_leaf, s_attribute, s_list, s_data, s_data_except}
use Rattle.rng_model.specs.simple.Tree.{s_value, s_one_or_more, s_joined}
use Rattle.rng_model.specs.matching.GrammarMatching.{Reading}
use Rattle.rng_deriv_laws.specs.plain.Taking.{Takes, Same}
use Rattle.rng_deriv_laws.specs.plain.Taking as t
use Rattle.rng_deriv_laws.specs.plain.Restricted.{HasNoAttribute, HasTexts, MayBeExcepted, MayBeListed}
use Rattle.rng_deriv_laws.specs.plain.Derivatives.{closed, joined_of, repeat_of}
use Rattle.rng_deriv_laws.proofs.SameWays.{choice_all}
use Rattle.rng_deriv_laws.proofs.KeptRestrictions.{IsHereditary}
use Rattle.rng_deriv_laws.proofs.SamePatterns.{choice_of-same, group_of-same, interleave_of-same, or_not_allowed, repeat_of-same, same, same_back, same_choice}
use Rattle.rng_deriv_laws.proofs.SamePatterns.{same_group}
use Rattle.rng_deriv_laws.proofs.SamePatterns.{same_interleave, same_repeat, same_through}
use Rattle.rng_deriv_table.specs.views.Choices.{SomeTakes}
use Rattle.rng_deriv_table.specs.plain.Reduced.{has_attribute}
use Rattle.rng_deriv_table.specs.views.Trees.{choice_from, choice_over}
use Rattle.rng_deriv_table.specs.declared.pattern.PatternNumber.{PatternNumber}
use Rattle.rng_deriv_table.proofs.Choices.{only_one}
use Rattle.rng_deriv_ways.specs.plain.Closing.{IsBareOfAttributes}

-- ---- a pattern without attributes requires none

module _ (g : Reading) where
  pub closed_same : (p : Simple ℕ) → has_attribute p ≡ false → Same g p (closed p)
  closed_same s_not_allowed e = same g s_not_allowed
  closed_same s_empty e = same g s_empty
  closed_same s_text e = same g s_text
  closed_same (s_leaf k) e = same g (s_leaf k)
  closed_same (s_attribute c p) e = absurd (cc)
  closed_same (s_list p) e = same g (s_list p)
  closed_same (s_data d) e = same g (s_data d)
  closed_same (s_data_except d p) e = same g (s_data_except d p)
  closed_same (s_value d v) e = same g (s_value d v)
  closed_same (s_one_or_more p) e =
      same_through g (same_repeat g (closed_same p e)) (same_back g (repeat_of-same g (closed p)))
  closed_same (s_joined choice p q) e =
      same_through g (same_choice g (closed_same p (not_first (has_attribute p) (has_attribute q) e))
      (closed_same q (not_second (has_attribute p) (has_attribute q) e)))
      (same_back g (choice_of-same g (closed p) (closed q)))
  closed_same (s_joined group p q) e =
      same_through g (same_group g (closed_same p (not_first (has_attribute p) (has_attribute q) e))
      (closed_same q (not_second (has_attribute p) (has_attribute q) e)))
      (same_back g (group_of-same g (closed p) (closed q)))
  closed_same (s_joined interleave p q) e =
      same_through g (same_interleave g (closed_same p (not_first (has_attribute p) (has_attribute q) e))
      (closed_same q (not_second (has_attribute p) (has_attribute q) e)))
      (same_back g (interleave_of-same g (closed p) (closed q)))

  -- ---- parts

  pub closed_group : (a b p q : Simple ℕ) → Same g a (closed p) → Same g b (closed q) → Same g (joined_of group a b) (closed (s_joined group p q))
  closed_group a b p q h k =
      same_through g (group_of-same g a b) (same_through g (same_group g h k) (same_back g (group_of-same g (closed p) (closed q))))

  pub closed_interleave : (a b p q : Simple ℕ) → Same g a (closed p) → Same g b (closed q)
      → Same g (joined_of interleave a b) (closed (s_joined interleave p q))
  closed_interleave a b p q h k =
      same_through g (interleave_of-same g a b) (same_through g (same_interleave g h k) (same_back g (interleave_of-same g (closed p) (closed q))))

  pub closed_repeat : (a p : Simple ℕ) → Same g a (closed p) → Same g (repeat_of a) (closed (s_one_or_more p))
  closed_repeat a p h = same_through g (repeat_of-same g a) (same_through g (same_repeat g h) (same_back g (repeat_of-same g (closed p))))

  -- the members of a choice
  pub closed_over : (f : ℕ → Simple ℕ) (ms : List ℕ) → Same g (choice_all (map (λ m. closed (f m)) ms)) (closed (choice_over f ms))
  closed_over f [] = same g s_not_allowed
  closed_over f (m ∷ ms) = from m ms where
    from : (m : ℕ) (ms : List ℕ) → Same g (choice_all (map (λ m. closed (f m)) (m ∷ ms))) (closed (choice_from f m ms))
    from m [] = same_back g (or_not_allowed g (closed (f m)))
    from m (n ∷ ms) = same_through g (same_choice g (same g (closed (f m))) (from n ms))
        (same_back g (choice_of-same g (closed (f m)) (closed (choice_from f n ms))))

  -- one more member
  pub some_more : (f : ℕ → Simple ℕ) (ms : List PatternNumber) (m : PatternNumber) (ps : List (Simple ℕ)) (p : Simple ℕ) (xs : List Attribute) (ns : List Item)
      → (SomeTakes g f ms xs ns ↔ Takes g (choice_all ps) xs ns) → Same g (f m.0) p
      → SomeTakes g f (ms ++ m ∷ []) xs ns ↔ Takes g (choice_all (ps ++ p ∷ [])) xs ns
  some_more f ms m ps p xs ns was own = (to, back) where
    in_front : (ps : List (Simple ℕ)) → Takes g (choice_all ps) xs ns → Takes g (choice_all (ps ++ p ∷ [])) xs ns
    in_front [] d = elim d [ ]
    in_front (q ∷ ps) (t.first d) = t.first d
    in_front (q ∷ ps) (t.second d) = t.second (in_front ps d)

    at_end : (ps : List (Simple ℕ)) → Takes g p xs ns → Takes g (choice_all (ps ++ p ∷ [])) xs ns
    at_end [] d = t.first d
    at_end (q ∷ ps) d = t.second (at_end ps d)

    parted : (ps : List (Simple ℕ)) {A : Type 0} → (Takes g (choice_all ps) xs ns → A) → (Takes g p xs ns → A)
        → Takes g (choice_all (ps ++ p ∷ [])) xs ns → A
    parted [] f h (t.first d) = h d
    parted [] f h (t.second d) = elim d [ ]
    parted (q ∷ ps) f h (t.first d) = f (t.first d)
    parted (q ∷ ps) f h (t.second d) = parted ps (λ d. f (t.second d)) h d

    to : SomeTakes g f (ms ++ m ∷ []) xs ns → Takes g (choice_all (ps ++ p ∷ [])) xs ns
    to h = ⊎_elim (λ c. in_front ps (was.0 (h.0, c, h.2)))
        (λ c. let At : PatternNumber → Type 0 = λ k. Takes g (f k.0) xs ns in at_end ps (own.to xs ns (subst At (sym (only_one m h.0 c)) h.2)))
        (Contains-append_cases ms (m ∷ []) h.0 h.1)

    back : Takes g (choice_all (ps ++ p ∷ [])) xs ns → SomeTakes g f (ms ++ m ∷ []) xs ns
    back d = parted ps
        (λ d. let h = was.1 d in (h.0, Contains-append_left ms (m ∷ []) h.0 h.1, h.2))
        (λ d. (m, Contains-append_right ms (m ∷ []) m (Contains-get_or (m ∷ []) 0 m (omega arith)), own.back xs ns d)) d

-- ---- no attribute is left

excepted_none : (p : Simple ℕ) → MayBeExcepted p → HasNoAttribute p
excepted_none s_not_allowed o = tt
excepted_none s_empty o = absurd o
excepted_none s_text o = absurd o
excepted_none (s_leaf k) o = absurd o
excepted_none (s_attribute c p) o = absurd o
excepted_none (s_list p) o = absurd o
excepted_none (s_data d) o = tt
excepted_none (s_data_except d p) o = excepted_none p o
excepted_none (s_value d v) o = tt
excepted_none (s_one_or_more p) o = absurd o
excepted_none (s_joined choice p q) o = (excepted_none p o.0, excepted_none q o.1)
excepted_none (s_joined group p q) o = absurd o
excepted_none (s_joined interleave p q) o = absurd o

listed_none : (p : Simple ℕ) → MayBeListed p → HasNoAttribute p
listed_none s_not_allowed o = tt
listed_none s_empty o = tt
listed_none s_text o = absurd o
listed_none (s_leaf k) o = absurd o
listed_none (s_attribute c p) o = absurd o
listed_none (s_list p) o = absurd o
listed_none (s_data d) o = tt
listed_none (s_data_except d p) o = excepted_none p o
listed_none (s_value d v) o = tt
listed_none (s_one_or_more p) o = listed_none p o
listed_none (s_joined choice p q) o = (listed_none p o.0, listed_none q o.1)
listed_none (s_joined group p q) o = (listed_none p o.0, listed_none q o.1)
listed_none (s_joined interleave p q) o = absurd o

none_there : (p : Simple ℕ) → has_attribute p ≡ false → HasTexts MayBeListed p → HasNoAttribute p
none_there s_not_allowed e o = tt
none_there s_empty e o = tt
none_there s_text e o = tt
none_there (s_leaf k) e o = tt
none_there (s_attribute c p) e o = absurd (cc)
none_there (s_list p) e o = listed_none p o
none_there (s_data d) e o = tt
none_there (s_data_except d p) e o = excepted_none p o
none_there (s_value d v) e o = tt
none_there (s_one_or_more p) e o = none_there p e o
none_there (s_joined k p q) e o = (
  none_there p (not_first (has_attribute p) (has_attribute q) e) o.0,
  none_there q
      (not_second (has_attribute p) (has_attribute q) e) o.1,
)

pub bare_there : (p : Simple ℕ) → has_attribute p ≡ false → HasTexts MayBeListed p → IsBareOfAttributes p
bare_there p e o = record { none = none_there p e o; texts = o }

pub bare_hereditary : IsHereditary IsBareOfAttributes
bare_hereditary = record {
  of_not_allowed = record { none = tt; texts = tt };
  of_empty = record { none = tt; texts = tt };
  of_text = record { none = tt; texts = tt };
  of_both = λ k p q h i. record { none = (h.none, i.none); texts = (h.texts, i.texts) };
  sides = λ k p q h. (record { none = h.none.0; texts = h.texts.0 }, record { none = h.none.1; texts = h.texts.1 });
  copy = λ p h. record { none = h.none; texts = h.texts };
}

pub bare_repeat : (p : Simple ℕ) → IsBareOfAttributes p → IsBareOfAttributes (repeat_of p)
bare_repeat s_not_allowed h = h
bare_repeat s_empty h = h
bare_repeat s_text h = record { none = h.none; texts = h.texts }
bare_repeat (s_leaf k) h = record { none = h.none; texts = h.texts }
bare_repeat (s_attribute c p) h = record { none = h.none; texts = h.texts }
bare_repeat (s_list p) h = record { none = h.none; texts = h.texts }
bare_repeat (s_data d) h = record { none = h.none; texts = h.texts }
bare_repeat (s_data_except d p) h = record { none = h.none; texts = h.texts }
bare_repeat (s_value d v) h = record { none = h.none; texts = h.texts }
bare_repeat (s_one_or_more p) h = record { none = h.none; texts = h.texts }
bare_repeat (s_joined k p q) h = record { none = h.none; texts = h.texts }

-- each member has the property of a choice over numbers
pub member_has : (Q : Simple ℕ → Type 0) → IsHereditary Q → (f : ℕ → Simple ℕ) (ms : List ℕ) → Q (choice_over f ms) → (i d : ℕ) → i < length ms → Q
    (f (get_or ms i d))
member_has Q hereditary f [] h i d l = absurd (omega (arith, l))
member_has Q hereditary f (m ∷ ms) h i d l = from m ms h i l where
  from : (m : ℕ) (ms : List ℕ) → Q (choice_from f m ms) → (i : ℕ) → i < length (m ∷ ms) → Q (f (get_or (m ∷ ms) i d))
  from m [] h (zero) l = h
  from m [] h (suc i) l = absurd (omega (arith, l))
  from m (n ∷ ms) h (zero) l = (hereditary.sides choice (f m) (choice_from f n ms) h).0
  from m (n ∷ ms) h (suc i) l = from n ms (hereditary.sides choice (f m) (choice_from f n ms) h).1 i (omega (arith, l))
