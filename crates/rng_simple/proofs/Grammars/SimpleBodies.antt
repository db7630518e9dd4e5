-- What may be a body kind by kind is what may be one by the definition.
use Rattle.std.proofs.Common.{◌↔◌, inl, inr, refl, sym, subst}
use Rattle.rng_model.specs.simple.Tree.{Simple, s_not_allowed, s_empty, s_text, s_leaf, s_attribute, s_list, s_data, s_data_except, s_value, s_one_or_more}
use Rattle.rng_model.specs.simple.Tree.{s_joined}
use Rattle.rng_model.specs.simple.Grammar.{StandsIn, itself, below, of_attribute, of_list, of_except, of_one_or_more, of_left, of_right}
use Rattle.rng_model.specs.simple.SimplifiedSchema.{IsSimpleBody}
use Rattle.rng_model.proofs.Inside.{in_attribute, in_list, in_except, in_one_or_more, in_left, in_right}
use Rattle.rng_simple.specs.plain.SimpleBodies.{LacksNotAllowed, IsPlainBody}

module _ {L : Type 0} where
  has_none : {s : Simple L} → LacksNotAllowed s → StandsIn s_not_allowed s → ⊥
  has_none h itself = h
  has_none h (below _ of_attribute w) = has_none h w
  has_none h (below _ of_list w) = has_none h w
  has_none h (below _ of_except w) = has_none h w
  has_none h (below _ of_one_or_more w) = has_none h w
  has_none h (below _ of_left w) = has_none h.0 w
  has_none h (below _ of_right w) = has_none h.1 w

  lacks : (s : Simple L) → (StandsIn s_not_allowed s → ⊥) → LacksNotAllowed s
  lacks s_not_allowed h = h itself
  lacks s_empty h = tt
  lacks s_text h = tt
  lacks (s_leaf l) h = tt
  lacks (s_attribute c s) h = lacks s (λ w. h (in_attribute w))
  lacks (s_list s) h = lacks s (λ w. h (in_list w))
  lacks (s_data d) h = tt
  lacks (s_data_except d s) h = lacks s (λ w. h (in_except w))
  lacks (s_value d v) h = tt
  lacks (s_one_or_more s) h = lacks s (λ w. h (in_one_or_more w))
  lacks (s_joined k s u) h = (lacks s (λ w. h (in_left w)), lacks u (λ w. h (in_right w)))

  pub is_body : (s : Simple L) → IsPlainBody s → IsSimpleBody s
  is_body s_not_allowed h = inl refl
  is_body s_empty h = inr (has_none {s = s_empty} tt)
  is_body s_text h = inr (has_none {s = s_text} tt)
  is_body (s_leaf l) h = inr (has_none {s = s_leaf l} tt)
  is_body (s_attribute c s) h = inr (has_none {s = s_attribute c s} h)
  is_body (s_list s) h = inr (has_none {s = s_list s} h)
  is_body (s_data d) h = inr (has_none {s = s_data d} tt)
  is_body (s_data_except d s) h = inr (has_none {s = s_data_except d s} h)
  is_body (s_value d v) h = inr (has_none {s = s_value d v} tt)
  is_body (s_one_or_more s) h = inr (has_none {s = s_one_or_more s} h)
  is_body (s_joined k s u) h = inr (has_none {s = s_joined k s u} h)

  from_lacks : (s : Simple L) → LacksNotAllowed s → IsPlainBody s
  from_lacks s_not_allowed h = tt
  from_lacks s_empty h = tt
  from_lacks s_text h = tt
  from_lacks (s_leaf l) h = tt
  from_lacks (s_attribute c s) h = h
  from_lacks (s_list s) h = h
  from_lacks (s_data d) h = tt
  from_lacks (s_data_except d s) h = h
  from_lacks (s_value d v) h = tt
  from_lacks (s_one_or_more s) h = h
  from_lacks (s_joined k s u) h = h

  from_body : (s : Simple L) → IsSimpleBody s → IsPlainBody s
  from_body s (inl e) = subst IsPlainBody (sym e) tt
  from_body s (inr h) = from_lacks s (lacks s h)

  pub same_bodies : (s : Simple L) → IsPlainBody s ↔ IsSimpleBody s
  same_bodies s = (is_body s, from_body s)
