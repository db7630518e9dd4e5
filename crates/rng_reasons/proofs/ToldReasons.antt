-- Why a start or an end leaves nothing, case by case.
use Rattle.std.proofs.Math.Dec.{eqb-suc-zero}
use Rattle.rng_model.proofs.Truths.{no_truth}
use Rattle.std.proofs.Common.{◌≡◌, ◌∙◌, ℕ, List, [], ◌∷◌, Bool, true, false, Option, Some, None, is_none, Contains, arith, inl, inr, length, map, ◌==◌, ◌<◌, refl, subst, sym}
use Rattle.rng_model.specs.names.Names.{Name, NameClass}
use Rattle.rng_model.specs.simple.Tree.{Simple}
use Rattle.rng_model.specs.matching.Document.{Attribute}
use Rattle.rng_model.specs.matching.GrammarMatching.{Reading}
use Rattle.rng_expected.specs.Expectations.{IsExpected, Next}
use Rattle.rng_reasons.specs.Reasons.{Alternatives, IsStartReason, IsTextFaulty, MayBeElement, MayBeText}
use Rattle.rng_reasons.specs.TagReasons.{IsTagFaultOf}
use Rattle.rng_reasons.specs.views.Left.{reason_of}
use Rattle.rng_reasons.specs.declared.tag_faults.TagFault.{TagFault}

-- ---- what is expected

module _ (g : Reading) (now : List (Simple ℕ)) (next : Next) (is : IsExpected g.grammar now next) where
  pub text_may_come : next.text ≡ true → MayBeText now
  text_may_come told = is.text.0 told

  pub no_text_may_come : next.text ≡ false → ¬ (MayBeText now)
  no_text_may_come told may = let on : next.text ≡ true = is.text.1 may in absurd (cc)

  pub element_may_come : (c : NameClass) → Contains next.elements c → MayBeElement g now
  element_may_come c there = (c, (is.elements c).0 there)

  pub no_element_may_come : next.elements ≡ [] → ¬ (MayBeElement g now)
  no_element_may_come none may = nothing (subst (λ cs. Contains cs may.0) none ((is.elements may.0).1 may.1)) where
    nothing : Contains [] may.0 → ⊥
    nothing there = let below : there.0 < 0 = there.1 in absurd (omega (arith, below))

-- a list that is mapped has no items, or a first one
pub mapped_none : {A : Type 0} (f : A → NameClass) (xs : List A) → (length xs == 0) ≡ true → map f xs ≡ []
mapped_none f [] e = refl
mapped_none f (x ∷ xs) e = no_truth (sym (eqb-suc-zero (length xs)) ∙ e)

pub mapped_some : {A : Type 0} (f : A → NameClass) (xs : List A) → (length xs == 0) ≡ false → (c : NameClass) × Contains (map f xs) c
mapped_some f [] e = absurd (cc)
mapped_some f (x ∷ xs) e = (f x, (0, omega arith, refl))

-- ---- a text before a start

module _ (g : Reading) (trees : List (Simple ℕ)) (q : Name) (xs : List Attribute) where
  pub text_by_fault : (now : List (Simple ℕ)) → MayBeText now → (fault : Option TagFault) → IsTagFaultOf g trees now q xs fault
      → IsTextFaulty g trees q xs now (is_none fault)
  text_by_fault now may None f = inr f
  text_by_fault now may (Some fault) f = (may, (fault, f))

  -- ---- a start

  pub without_text : (left : Alternatives) → left.has_text ≡ false → (fault : Option TagFault) → IsTagFaultOf g trees left.behind q xs fault
      → IsStartReason g trees q xs left (reason_of fault false)
  without_text left none None f = f
  without_text left none (Some fault) f = (inl none, f)

  pub behind_text : (left : Alternatives) → left.has_text ≡ true → (wrong : Bool) → IsTextFaulty g trees q xs left.in_place wrong → (fault : Option TagFault)
      → IsTagFaultOf g trees left.behind q xs fault → IsStartReason g trees q xs left (reason_of fault wrong)
  behind_text left some wrong w None f = f
  behind_text left some true w (Some fault) f = (some, w, (fault, f))
  behind_text left some false w (Some fault) f = (inr w, f)
