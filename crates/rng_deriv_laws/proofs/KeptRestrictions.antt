-- All that derivatives build keeps the restrictions, in whatever order it is joined.
use Rattle.std.proofs.Common.{ℕ, List, [], ◌∷◌, ◌++◌, Bool, true, false, cond}
use Rattle.rng_model.specs.simple.Tree.{Simple, Connector, choice, group, interleave, s_not_allowed, s_empty, s_text, s_leaf, s_attribute, s_list, s_data}
use Rattle.rng_model.specs.simple.Tree.{s_data_except, s_value, s_one_or_more, s_joined}
use Rattle.rng_deriv_laws.specs.plain.Restricted.{HasNoAttribute, HasNoneGrouped, RepeatsWell, HasTexts, IsRestricted}
use Rattle.rng_deriv_laws.specs.plain.Derivatives.{is_nullable, is_not_allowed, is_empty, choice_of, group_of, interleave_of, repeat_of, more_of, Way, behind}
use Rattle.rng_deriv_laws.specs.plain.Derivatives.{group_before}
use Rattle.rng_deriv_laws.specs.plain.Derivatives.{interleave_before, item_ways, attribute_ways, rests_of, closed}
use Rattle.rng_deriv_laws.specs.plain.Ways.{EachWay, IsItemLeaf, IsAttributeLeaf}

-- Q holds of a joined pattern exactly if it holds of its sides
pub record IsHereditary (Q : Simple ℕ → Type 0) : Type 0 where
  pub of_not_allowed : Q s_not_allowed
  pub of_empty : Q s_empty
  pub of_text : Q s_text
  pub of_both : (k : Connector) (p q : Simple ℕ) → Q p → Q q → Q (s_joined k p q)
  pub sides : (k : Connector) (p q : Simple ℕ) → Q (s_joined k p q) → Q p × Q q
  pub copy : (p : Simple ℕ) → Q (s_one_or_more p) → Q p

pub either_one : {A : Type 0} (Q : A → Type 0) (b : Bool) (p q : A) → Q p → Q q → Q (cond b p q)
either_one Q true p q h k = h
either_one Q false p q h k = k

module _ (Q : Simple ℕ → Type 0) (hereditary : IsHereditary Q) where
  pub choice_of-keeps : (p q : Simple ℕ) → Q p → Q q → Q (choice_of p q)
  choice_of-keeps p q h k =
      either_one Q (is_not_allowed p) q _ k (either_one Q (is_not_allowed q) p _ h (hereditary.of_both choice p q h k))

  pub group_of-keeps : (p q : Simple ℕ) → Q p → Q q → Q (group_of p q)
  group_of-keeps p q h k =
      either_one Q (is_not_allowed p) _ _ hereditary.of_not_allowed (either_one Q (is_not_allowed q) _ _ hereditary.of_not_allowed
      (either_one Q (is_empty p) q _ k (either_one Q (is_empty q) p _ h (hereditary.of_both group p q h k))))

  pub interleave_of-keeps : (p q : Simple ℕ) → Q p → Q q → Q (interleave_of p q)
  interleave_of-keeps p q h k =
      either_one Q (is_not_allowed p) _ _ hereditary.of_not_allowed (either_one Q (is_not_allowed q) _ _ hereditary.of_not_allowed
      (either_one Q (is_empty p) q _ k (either_one Q (is_empty q) p _ h (hereditary.of_both interleave p q h k))))

  more_of-keeps : (p : Simple ℕ) → Q (s_one_or_more p) → Q (more_of p)
  more_of-keeps p h = hereditary.of_both choice (s_one_or_more p) s_empty h hereditary.of_empty

  -- ---- ways

  pub each_append : (P : Simple ℕ → Type 0) (ws vs : List Way) → EachWay P Q ws → EachWay P Q vs → EachWay P Q (ws ++ vs)
  each_append P [] vs h k = k
  each_append P (w ∷ ws) vs h k = (h.0, each_append P ws vs h.1 k)

  pub each_behind : (P : Simple ℕ → Type 0) (f : Simple ℕ → Simple ℕ) → ((r : Simple ℕ) → Q r → Q (f r)) → (ws : List Way) → EachWay P Q ws
      → EachWay P Q (behind f ws)
  each_behind P f on [] h = tt
  each_behind P f on (w ∷ ws) h = ((h.0.0, on w.rest h.0.1), each_behind P f on ws h.1)

  each_under : (P : Simple ℕ → Type 0) (b : Bool) (ws : List Way) → EachWay P Q ws → EachWay P Q (cond b ws [])
  each_under P true ws h = h
  each_under P false ws h = tt

  pub item_ways-keep : (p : Simple ℕ) → Q p → EachWay (λ l. IsItemLeaf l × Q l) Q (item_ways p)
  item_ways-keep s_not_allowed h = tt
  item_ways-keep s_empty h = tt
  item_ways-keep s_text h = (((tt, h), h), tt)
  item_ways-keep (s_leaf k) h = (((tt, h), hereditary.of_empty), tt)
  item_ways-keep (s_attribute c p) h = tt
  item_ways-keep (s_list p) h = (((tt, h), hereditary.of_empty), tt)
  item_ways-keep (s_data d) h = (((tt, h), hereditary.of_empty), tt)
  item_ways-keep (s_data_except d p) h = (((tt, h), hereditary.of_empty), tt)
  item_ways-keep (s_value d v) h = (((tt, h), hereditary.of_empty), tt)
  item_ways-keep (s_one_or_more p) h =
      each_behind _ (group_before (more_of p)) (λ r k. group_of-keeps r (more_of p) k (more_of-keeps p h)) (item_ways p)
      (item_ways-keep p (hereditary.copy p h))
  item_ways-keep (s_joined choice p q) h =
      let s = hereditary.sides choice p q h in each_append _ (item_ways p) (item_ways q) (item_ways-keep p s.0) (item_ways-keep q s.1)
  item_ways-keep (s_joined group p q) h =
      let s = hereditary.sides group p q h in
      each_append _ (behind (group_before q) (item_ways p)) _
      (each_behind _ (group_before q) (λ r k. group_of-keeps r q k s.1) (item_ways p) (item_ways-keep p s.0))
      (each_under _ (is_nullable p) (item_ways q) (item_ways-keep q s.1))
  item_ways-keep (s_joined interleave p q) h =
      let s = hereditary.sides interleave p q h in
      each_append _ (behind (interleave_before q) (item_ways p)) _
      (each_behind _ (interleave_before q) (λ r k. interleave_of-keeps r q k s.1) (item_ways p) (item_ways-keep p s.0))
      (each_behind _ (interleave_of p) (λ r k. interleave_of-keeps p r s.0 k) (item_ways q) (item_ways-keep q s.1))

  pub attribute_ways-keep : (p : Simple ℕ) → Q p → EachWay (λ l. IsAttributeLeaf l × Q l) Q (attribute_ways p)
  attribute_ways-keep s_not_allowed h = tt
  attribute_ways-keep s_empty h = tt
  attribute_ways-keep s_text h = tt
  attribute_ways-keep (s_leaf k) h = tt
  attribute_ways-keep (s_attribute c p) h = (((tt, h), hereditary.of_empty), tt)
  attribute_ways-keep (s_list p) h = tt
  attribute_ways-keep (s_data d) h = tt
  attribute_ways-keep (s_data_except d p) h = tt
  attribute_ways-keep (s_value d v) h = tt
  attribute_ways-keep (s_one_or_more p) h =
      each_behind _ (group_before (more_of p)) (λ r k. group_of-keeps r (more_of p) k (more_of-keeps p h)) (attribute_ways p)
      (attribute_ways-keep p (hereditary.copy p h))
  attribute_ways-keep (s_joined choice p q) h =
      let s = hereditary.sides choice p q h in each_append _ (attribute_ways p) (attribute_ways q) (attribute_ways-keep p s.0) (attribute_ways-keep q s.1)
  attribute_ways-keep (s_joined group p q) h =
      let s = hereditary.sides group p q h in
      each_append _ (behind (group_before q) (attribute_ways p)) _
      (each_behind _ (group_before q) (λ r k. group_of-keeps r q k s.1) (attribute_ways p) (attribute_ways-keep p s.0))
      (each_behind _ (group_of p) (λ r k. group_of-keeps p r s.0 k) (attribute_ways q) (attribute_ways-keep q s.1))
  attribute_ways-keep (s_joined interleave p q) h =
      let s = hereditary.sides interleave p q h in
      each_append _ (behind (interleave_before q) (attribute_ways p)) _
      (each_behind _ (interleave_before q) (λ r k. interleave_of-keeps r q k s.1) (attribute_ways p) (attribute_ways-keep p s.0))
      (each_behind _ (interleave_of p) (λ r k. interleave_of-keeps p r s.0 k) (attribute_ways q) (attribute_ways-keep q s.1))

  pub rests_of-keeps : (P : Simple ℕ → Type 0) (takes : Simple ℕ → Bool) (ws : List Way) → EachWay P Q ws → Q (rests_of takes ws)
  rests_of-keeps P takes [] h = hereditary.of_not_allowed
  rests_of-keeps P takes (w ∷ ws) h =
      choice_of-keeps (cond (takes w.leaf) w.rest s_not_allowed) (rests_of takes ws)
      (either_one Q (takes w.leaf) w.rest s_not_allowed h.0.1 hereditary.of_not_allowed) (rests_of-keeps P takes ws h.1)

-- ---- the restrictions are hereditary

pub RepeatsWell-hereditary : IsHereditary RepeatsWell
RepeatsWell-hereditary = record {
  of_not_allowed = tt;
  of_empty = tt;
  of_text = tt;
  of_both = λ k p q h i. (h, i);
  sides = λ k p q h. h;
  copy = λ p h. h.1;
}

pub HasTexts-hereditary : (Ok : Simple ℕ → Type 0) → IsHereditary (HasTexts Ok)
HasTexts-hereditary Ok = record {
  of_not_allowed = tt;
  of_empty = tt;
  of_text = tt;
  of_both = λ k p q h i. (h, i);
  sides = λ k p q h. h;
  copy = λ p h. h;
}

pub IsRestricted-hereditary : IsHereditary IsRestricted
IsRestricted-hereditary = record {
  of_not_allowed = record { repeats = tt; texts = tt };
  of_empty = record { repeats = tt; texts = tt };
  of_text = record { repeats = tt; texts = tt };
  of_both = λ k p q h i. record { repeats = (h.repeats, i.repeats); texts = (h.texts, i.texts) };
  sides = λ k p q h. (record { repeats = h.repeats.0; texts = h.texts.0 }, record { repeats = h.repeats.1; texts = h.texts.1 });
  copy = λ p h. record { repeats = h.repeats.1; texts = h.texts };
}

-- ---- after all attributes are taken

pub repeat_of-keeps : (Q : Simple ℕ → Type 0) (p : Simple ℕ) → Q s_not_allowed → Q s_empty → Q (s_one_or_more p) → Q (repeat_of p)
repeat_of-keeps Q p n e h = either_one Q (is_not_allowed p) s_not_allowed _ n (either_one Q (is_empty p) s_empty (s_one_or_more p) e h)

none_hereditary : IsHereditary HasNoAttribute
none_hereditary = record {
  of_not_allowed = tt;
  of_empty = tt;
  of_text = tt;
  of_both = λ k p q h i. (h, i);
  sides = λ k p q h. h;
  copy = λ p h. h;
}

closed_has_none : (p : Simple ℕ) → HasNoAttribute p → HasNoAttribute (closed p)
closed_has_none s_not_allowed o = tt
closed_has_none s_empty o = tt
closed_has_none s_text o = tt
closed_has_none (s_leaf k) o = tt
closed_has_none (s_attribute c p) o = tt
closed_has_none (s_list p) o = o
closed_has_none (s_data d) o = tt
closed_has_none (s_data_except d p) o = o
closed_has_none (s_value d v) o = tt
closed_has_none (s_one_or_more p) o = repeat_of-keeps HasNoAttribute (closed p) tt tt (closed_has_none p o)
closed_has_none (s_joined choice p q) o =
    choice_of-keeps HasNoAttribute none_hereditary (closed p) (closed q) (closed_has_none p o.0) (closed_has_none q o.1)
closed_has_none (s_joined group p q) o = group_of-keeps HasNoAttribute none_hereditary (closed p) (closed q) (closed_has_none p o.0) (closed_has_none q o.1)
closed_has_none (s_joined interleave p q) o =
    interleave_of-keeps HasNoAttribute none_hereditary (closed p) (closed q) (closed_has_none p o.0) (closed_has_none q o.1)

pub none_is_ungrouped : (p : Simple ℕ) → HasNoAttribute p → HasNoneGrouped p
none_is_ungrouped s_not_allowed o = tt
none_is_ungrouped s_empty o = tt
none_is_ungrouped s_text o = tt
none_is_ungrouped (s_leaf k) o = tt
none_is_ungrouped (s_attribute c p) o = absurd o
none_is_ungrouped (s_list p) o = none_is_ungrouped p o
none_is_ungrouped (s_data d) o = tt
none_is_ungrouped (s_data_except d p) o = none_is_ungrouped p o
none_is_ungrouped (s_value d v) o = tt
none_is_ungrouped (s_one_or_more p) o = none_is_ungrouped p o
none_is_ungrouped (s_joined choice p q) o = (none_is_ungrouped p o.0, none_is_ungrouped q o.1)
none_is_ungrouped (s_joined group p q) o = o
none_is_ungrouped (s_joined interleave p q) o = o

closed_is_ungrouped : (p : Simple ℕ) → HasNoneGrouped p → HasNoneGrouped (closed p)
closed_is_ungrouped s_not_allowed o = tt
closed_is_ungrouped s_empty o = tt
closed_is_ungrouped s_text o = tt
closed_is_ungrouped (s_leaf k) o = tt
closed_is_ungrouped (s_attribute c p) o = tt
closed_is_ungrouped (s_list p) o = o
closed_is_ungrouped (s_data d) o = tt
closed_is_ungrouped (s_data_except d p) o = o
closed_is_ungrouped (s_value d v) o = tt
closed_is_ungrouped (s_one_or_more p) o = repeat_of-keeps HasNoneGrouped (closed p) tt tt (closed_is_ungrouped p o)
closed_is_ungrouped (s_joined choice p q) o =
    let h = closed_is_ungrouped p o.0 in
    let k = closed_is_ungrouped q o.1 in
    either_one HasNoneGrouped (is_not_allowed (closed p)) (closed q) (cond (is_not_allowed (closed q)) (closed p) (s_joined choice (closed p) (closed q))) k
    (either_one HasNoneGrouped (is_not_allowed (closed q)) (closed p) (s_joined choice (closed p) (closed q)) h (h, k))
closed_is_ungrouped (s_joined group p q) o = none_is_ungrouped (closed (s_joined group p q)) (closed_has_none (s_joined group p q) o)
closed_is_ungrouped (s_joined interleave p q) o = none_is_ungrouped (closed (s_joined interleave p q)) (closed_has_none (s_joined interleave p q) o)

pub closed-restricted : (p : Simple ℕ) → IsRestricted p → IsRestricted (closed p)
closed-restricted s_not_allowed o = o
closed-restricted s_empty o = o
closed-restricted s_text o = o
closed-restricted (s_leaf k) o = o
closed-restricted (s_attribute c p) o = record { repeats = tt; texts = tt }
closed-restricted (s_list p) o = o
closed-restricted (s_data d) o = o
closed-restricted (s_data_except d p) o = o
closed-restricted (s_value d v) o = o
closed-restricted (s_one_or_more p) o =
    let h = closed-restricted p (record { repeats = o.repeats.1; texts = o.texts }) in
    repeat_of-keeps IsRestricted (closed p) (record { repeats = tt; texts = tt }) (record { repeats = tt; texts = tt })
    (record { repeats = (closed_is_ungrouped p o.repeats.0, h.repeats); texts = h.texts })
closed-restricted (s_joined choice p q) o =
    choice_of-keeps IsRestricted IsRestricted-hereditary (closed p) (closed q) (closed-restricted p (record { repeats = o.repeats.0; texts = o.texts.0 }))
    (closed-restricted q (record { repeats = o.repeats.1; texts = o.texts.1 }))
closed-restricted (s_joined group p q) o =
    group_of-keeps IsRestricted IsRestricted-hereditary (closed p) (closed q) (closed-restricted p (record { repeats = o.repeats.0; texts = o.texts.0 }))
    (closed-restricted q (record { repeats = o.repeats.1; texts = o.texts.1 }))
closed-restricted (s_joined interleave p q) o =
    interleave_of-keeps IsRestricted IsRestricted-hereditary (closed p) (closed q) (closed-restricted p (record { repeats = o.repeats.0; texts = o.texts.0 }))
    (closed-restricted q (record { repeats = o.repeats.1; texts = o.texts.1 }))
