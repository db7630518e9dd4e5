-- The except of a data (RELAX NG Specification, sections 6.2.8 and 7.1.4): the test agrees with the definition.
use Rattle.std.proofs.Common.{◌≡◌, ℕ, List, refl, sym, subst, Bool, true, false, ◌&&◌, not, inl, inr}
use Rattle.std.proofs.lemmas.Bool.{and_from, or_left, or_right, and_parts, or_cases}
use Rattle.rng_model.specs.simple.Tree.{Simple, Datatype, choice, group, interleave, as_tree, s_not_allowed, s_empty, s_text, s_leaf, s_attribute, s_list}
use Rattle.rng_model.specs.simple.Tree.{s_data, s_data_except, s_value, s_one_or_more, s_joined}
use Rattle.rng_model.specs.matching.Matching.{HasText}
use Rattle.rng_model.specs.datatypes.Texts.{texts_of}
use Rattle.rng_model.specs.matching.GrammarMatching.{Reading}
use Rattle.rng_deriv_laws.specs.plain.Restricted.{MayBeExcepted}
use Rattle.rng_deriv_laws.specs.plain.Derivatives.{is_excepted}

not_true : (b : Bool) → (b ≡ true → ⊥) → not b ≡ true
not_true true f = absurd (f refl)
not_true false f = refl

true_not : (b : Bool) → not b ≡ true → b ≡ true → ⊥
true_not true d e = cc
true_not false d e = cc

module _ (g : Reading) where
  -- the pattern, as an except, has the text
  abbrev Has : Simple ℕ → List ℕ → Type 0
  Has p s = HasText (texts_of g.tests) (as_tree p) s

  mutual
    except_in : (p : Simple ℕ) → MayBeExcepted p → (s : List ℕ) → Has p s → is_excepted g p s ≡ true
    except_in s_not_allowed o s h = absurd h
    except_in s_empty o s h = absurd o
    except_in s_text o s h = absurd o
    except_in (s_leaf k) o s h = absurd h
    except_in (s_attribute c p) o s h = absurd h
    except_in (s_list p) o s h = absurd o
    except_in (s_data d) o s (w, e, a) = let u : w ≡ s = cc in subst (λ w. g.tests.allows d w ≡ true) u a
    except_in (s_data_except d p) o s (w, e, a, n) =
        let u : w ≡ s = cc in
        and_from _ _ (subst (λ w. g.tests.allows d w ≡ true) u a)
        (not_true (is_excepted g p s) (λ b. n (subst (λ w. Has p w) (sym u) (except_out p o s b))))
    except_in (s_value d v) o s (w, e, a) = let u : w ≡ s = cc in subst (λ w. g.tests.equals d v w ≡ true) u a
    except_in (s_one_or_more p) o s h = absurd o
    except_in (s_joined choice p q) o s (inl h) = or_left _ _ (except_in p o.0 s h)
    except_in (s_joined choice p q) o s (inr (inl h)) = or_right _ _ (except_in q o.1 s h)
    except_in (s_joined choice p q) o s (inr (inr h)) = absurd h
    except_in (s_joined group p q) o s h = absurd o
    except_in (s_joined interleave p q) o s h = absurd o

    except_out : (p : Simple ℕ) → MayBeExcepted p → (s : List ℕ) → is_excepted g p s ≡ true → Has p s
    except_out s_not_allowed o s e = absurd (cc)
    except_out s_empty o s e = absurd o
    except_out s_text o s e = absurd o
    except_out (s_leaf k) o s e = absurd o
    except_out (s_attribute c p) o s e = absurd o
    except_out (s_list p) o s e = absurd o
    except_out (s_data d) o s e = (s, refl, e)
    except_out (s_data_except d p) o s e =
        let a = and_parts (g.tests.allows d s) (not (is_excepted g p s)) e in (s, refl, a.0, λ h. true_not _ a.1 (except_in p o s h))
    except_out (s_value d v) o s e = (s, refl, e)
    except_out (s_one_or_more p) o s e = absurd o
    except_out (s_joined choice p q) o s e = elim (or_cases (is_excepted g p s) (is_excepted g q s) e) [
      | inl a ↦ inl (except_out p o.0 s a)
      | inr b ↦ inr (inl (except_out q o.1 s b))
    ]
    except_out (s_joined group p q) o s e = absurd o
    except_out (s_joined interleave p q) o s e = absurd o

  -- a text that the datatype allows and the except does not have
  pub excepted_in : (d : Datatype) (p : Simple ℕ) (s : List ℕ) → MayBeExcepted p → g.tests.allows d s ≡ true → (Has p s → ⊥)
      → g.tests.allows d s && not (is_excepted g p s) ≡ true
  excepted_in d p s o a n = and_from _ _ a (not_true (is_excepted g p s) (λ b. n (except_out p o s b)))

  pub excepted_out : (d : Datatype) (p : Simple ℕ) (s : List ℕ) → MayBeExcepted p → g.tests.allows d s && not (is_excepted g p s) ≡ true
      → (g.tests.allows d s ≡ true) × (Has p s → ⊥)
  excepted_out d p s o e = let a = and_parts (g.tests.allows d s) (not (is_excepted g p s)) e in (a.0, λ h. true_not _ a.1 (except_in p o s h))
