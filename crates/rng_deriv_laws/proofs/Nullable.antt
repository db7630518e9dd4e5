-- A pattern is nullable exactly if it takes no attributes and no items.
use Rattle.std.proofs.Common.{◌≡◌, ◌↔◌, IsTrue, ℕ, List, [], refl, sym, ◌∙◌, subst, Bool, true, false, cond, inl, inr}
use Rattle.std.proofs.lemmas.Bool.{and_from, or_left, or_right, and_parts, or_cases}
use Rattle.rng_model.specs.simple.Tree.{Simple, choice, group, interleave, s_not_allowed, s_empty, s_text, s_leaf, s_attribute, s_list, s_data, s_data_except}
use Rattle.rng_model.specs.simple.Tree.{s_value, s_one_or_more, s_joined}
use Rattle.rng_model.specs.matching.Document.{Attribute, Item, no_texts}
use Rattle.rng_model.specs.matching.Document as document
use Rattle.rng_model.specs.matching.GrammarMatching.{Reading}
use Rattle.rng_deriv_laws.specs.plain.Taking.{Takes}
use Rattle.rng_deriv_laws.specs.plain.Taking as t
use Rattle.rng_deriv_laws.specs.plain.Derivatives.{is_nullable}
use Rattle.rng_deriv_laws.proofs.ListFacts.{nil_parts}

module _ (g : Reading) where
  pub null_in : (p : Simple ℕ) → Takes g p [] [] → is_nullable p ≡ true
  null_in s_not_allowed d = elim d [ ]
  null_in s_empty d = refl
  null_in s_text d = refl
  null_in (s_leaf k) (t.element_is i w pad) = elim pad [ ]
  null_in (s_attribute c p) d = elim d [ ]
  null_in (s_list p) d = elim d [ ]
  null_in (s_data e) d = elim d [ ]
  null_in (s_data_except e p) d = elim d [ ]
  null_in (s_value e v) d = elim d [ ]
  null_in (s_one_or_more p) (t.once d) = null_in p d
  null_in (s_one_or_more p) (t.again {ms = ms} {ns = ns} d r a document.done c) = null_in p (subst (λ l. Takes g p [] l) (nil_parts ms ns c).0 d)
  null_in (s_joined choice p q) (t.first d) = or_left _ _ (null_in p d)
  null_in (s_joined choice p q) (t.second d) = or_right _ _ (null_in q d)
  null_in (s_joined group p q) (t.grouped {ms = ms} {ns = ns} d e document.done c) =
      let n = nil_parts ms ns c in
      and_from _ _ (null_in p (subst (λ l. Takes g p [] l) n.0 d)) (null_in q (subst (λ l. Takes g q [] l) n.1 e))
  null_in (s_joined interleave p q) (t.interleaved d e document.done document.done) = and_from _ _ (null_in p d) (null_in q e)

  pub null_out : (p : Simple ℕ) → is_nullable p ≡ true → Takes g p [] []
  null_out s_not_allowed e = absurd (cc)
  null_out s_empty e = t.empty_is
  null_out s_text e = t.text_is no_texts
  null_out (s_leaf k) e = absurd (cc)
  null_out (s_attribute c p) e = absurd (cc)
  null_out (s_list p) e = absurd (cc)
  null_out (s_data d) e = absurd (cc)
  null_out (s_data_except d p) e = absurd (cc)
  null_out (s_value d v) e = absurd (cc)
  null_out (s_one_or_more p) e = t.once (null_out p e)
  null_out (s_joined choice p q) e = elim (or_cases (is_nullable p) (is_nullable q) e) [
    | inl a ↦ t.first (null_out p a)
    | inr b ↦ t.second (null_out q b)
  ]
  null_out (s_joined group p q) e = let a = and_parts (is_nullable p) (is_nullable q) e in t.grouped (null_out p a.0) (null_out q a.1) document.done refl
  null_out (s_joined interleave p q) e =
      let a = and_parts (is_nullable p) (is_nullable q) e in t.interleaved (null_out p a.0) (null_out q a.1) document.done document.done

  pub nullable_exact : (p : Simple ℕ) (known : Bool) → known ≡ is_nullable p → IsTrue known ↔ Takes g p [] []
  nullable_exact p known e = (λ h. null_out p (sym e ∙ h), λ d. e ∙ null_in p d)

  -- a pattern under a test
  pub under_in : (b : Bool) (p : Simple ℕ) (xs : List Attribute) (ns : List Item) → b ≡ true → Takes g p xs ns → Takes g (cond b p s_not_allowed) xs ns
  under_in b p xs ns e d = rw e d

  pub under_out : (b : Bool) (p : Simple ℕ) (xs : List Attribute) (ns : List Item) → Takes g (cond b p s_not_allowed) xs ns → (b ≡ true) × Takes g p xs ns
  under_out true p xs ns d = (refl, d)
  under_out false p xs ns d = elim d [ ]
