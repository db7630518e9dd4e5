-- Grammars that are the same up to numbering have the same number of elements, and are simple forms of the same
-- schemas.
use Rattle.std.proofs.Common.{◌≡◌, ◌∙◌, ℕ, zero, suc, ◌<◌, ◌≤◌, Bool, true, false, cond, [], ◌∷◌, length, refl, sym, ap, subst, arith}
use Rattle.std.specs.Prelude.{Contains}
use Rattle.std.proofs.Math.Dec.{ltb}
use Rattle.std.proofs.lemmas.Bool.{ltb-true, ltb-false}
use Rattle.std.proofs.lemmas.Option.{slice_get-get_or, slice_get_within}
use Rattle.rng_model.specs.names.Names.{any_name}
use Rattle.rng_model.specs.simple.Leaves.{renamed}
use Rattle.rng_model.specs.schema.Schema.{Schema}
use Rattle.rng_model.specs.simple.SchemaForm.{SimpleForm, IsSameUpToNumbering, IsSimpleGrammarOf}
use Rattle.rng_model.specs.simple.Grammar.{Grammar}
use Rattle.rng_model.specs.simple.Tree.{Simple, s_not_allowed, s_empty, as_tree}
use Rattle.rng_model.specs.schema.Unfolding.{Leaf}
use Rattle.rnc_print.specs.plain.Renumbered.{renumbered, AreSameUpToNumbering}
use Rattle.rnc_print.proofs.TreeShapes.{renamed_renumbered}

-- ---- the same number of elements

-- if numbers below n are mapped to different numbers below m, n is at most m
module _ (n m : ℕ) (f : ℕ → ℕ) (inside : (k : ℕ) → k < suc n → f k < suc m)
    (one_to_one : (i j : ℕ) → i < suc n → j < suc n → f i ≡ f j → i ≡ j) where
  -- the last one is mapped to the value of the one that is mapped to m
  abbrev spared : ℕ → ℕ
  spared k = cond (ltb (f k) m) (f k) (f n)

  at_last : (k : ℕ) → k < n → ltb (f k) m ≡ false → f k ≡ m
  at_last k l e = omega (arith, ltb-false (f k) m e, inside k (omega (arith, l)))

  not_last : (k : ℕ) → k < n → f k ≡ f n → ⊥
  not_last k l e = let same = one_to_one k n (omega (arith, l)) (omega arith) e in omega (arith, same, l)

  last_inside : (k : ℕ) → k < n → f k ≡ m → f n < m
  last_inside k l e =
      let other : f n ≡ m → ⊥ = λ q. not_last k l (e ∙ sym q) in
      omega (arith, other, inside n (omega arith))

  spared_inside : (k : ℕ) → k < n → spared k < m
  spared_inside k l = by (ltb (f k) m) refl where
    by : (b : Bool) → ltb (f k) m ≡ b → cond b (f k) (f n) < m
    by true e = ltb-true (f k) m e
    by false e = last_inside k l (at_last k l e)

  spared_one_to_one : (i j : ℕ) → i < n → j < n → spared i ≡ spared j → i ≡ j
  spared_one_to_one i j a b = by (ltb (f i) m) (ltb (f j) m) refl refl where
    by : (c d : Bool) → ltb (f i) m ≡ c → ltb (f j) m ≡ d → cond c (f i) (f n) ≡ cond d (f j) (f n) → i ≡ j
    by true true c d e = one_to_one i j (omega (arith, a)) (omega (arith, b)) e
    by true false c d e = absurd (not_last i a e)
    by false true c d e = absurd (not_last j b (sym e))
    by false false c d e = one_to_one i j (omega (arith, a)) (omega (arith, b)) (at_last i a c ∙ sym (at_last j b d))

no_more : (n m : ℕ) (f : ℕ → ℕ) → ((k : ℕ) → k < n → f k < m) → ((i j : ℕ) → i < n → j < n → f i ≡ f j → i ≡ j) → n ≤ m
no_more zero m f inside one_to_one = omega arith
no_more (suc n) zero f inside one_to_one = absurd (let l = inside 0 (omega arith) in omega (arith, l))
no_more (suc n) (suc m) f inside one_to_one =
    let rest = no_more n m (spared n m f inside one_to_one) (spared_inside n m f inside one_to_one) (spared_one_to_one n m f inside one_to_one) in
    omega (arith, rest)

module _ (g h : Grammar) (s : AreSameUpToNumbering g h) where
  abbrev pub turned : AreSameUpToNumbering h g
  turned = record { pairing = s.back; back = s.pairing; there = s.back_again; back_again = s.there }

  pub paired : (k : ℕ) → k < length g.elements → s.pairing k < length h.elements
  paired k l =
      slice_get_within h.elements (s.pairing k) _ (s.there.elements k _ _ (slice_get-get_or g.elements k (any_name, s_not_allowed) l)).0

  pairing_differs : (j k : ℕ) → j < length g.elements → k < length g.elements → s.pairing j ≡ s.pairing k → j ≡ k
  pairing_differs j k a b e = sym (s.there.leads_back j a) ∙ ap s.back e ∙ s.there.leads_back k b

  pub no_more_elements : length g.elements ≤ length h.elements
  no_more_elements = no_more (length g.elements) (length h.elements) s.pairing paired pairing_differs

pub as_many : (g h : Grammar) → AreSameUpToNumbering g h → length g.elements ≡ length h.elements
as_many g h s = omega (arith, no_more_elements g h s, no_more_elements h g (turned g h s))

-- an element that is not reached is paired too: with one more element, a grammar is not the same
one_more_element : AreSameUpToNumbering (record { start = s_empty; elements = [] }) (record { start = s_empty; elements = (any_name, s_empty) ∷ [] }) → ⊥
one_more_element s = let same = as_many _ _ s in omega (arith, same)

-- ---- simple forms

module _ (g h : Grammar) (s : AreSameUpToNumbering g h) (f : SimpleForm) (is : IsSameUpToNumbering g f) where
  abbrev name : ℕ → Leaf
  name j = is.element (s.back j)

  abbrev paired_back : (j : ℕ) → j < length h.elements → s.back j < length g.elements
  paired_back = paired h g (turned g h s)

  abbrev named : (p : Simple ℕ) → renamed is.element (as_tree (renumbered s.back p)) ≡ renamed name (as_tree p)
  named = renamed_renumbered s.back is.element

  pub is_numbered : IsSameUpToNumbering h f
  is_numbered = record {
    element = name;
    one_to_one = λ i j a b e.
        let same = is.one_to_one (s.back i) (s.back j) (paired_back i a) (paired_back j b) e in
        sym (s.back_again.leads_back i a) ∙ ap s.pairing same ∙ s.back_again.leads_back j b;
    all = λ k d l.
        let x = is.all k d l in
        (s.pairing x.0, paired g h s x.0 x.1, ap is.element (s.there.leads_back x.0 x.1) ∙ x.2);
    start = is.start ∙ ap (λ a. renamed is.element (as_tree a)) s.back_again.start ∙ named h.start;
    start_below = s.back_again.start_below;
    bodies = λ j c p e.
        let old = s.back_again.elements j c p e in
        let b = is.bodies (s.back j) c (renumbered s.back p) old.0 in
        (subst (λ t. Contains f.elements (record { name = name j; class = c; body = t })) (named p) b.0, old.1);
  }

-- a grammar that is the same as a simple form of a schema is one too
pub is_form_too : (g h : Grammar) → AreSameUpToNumbering g h → (s : Schema) → IsSimpleGrammarOf s g → IsSimpleGrammarOf s h
is_form_too g h same s is = (is.0, is.1, is_numbered g h same is.0 is.2)
