-- The characters of a text with escapes: reading agrees with the definition.
use Rattle.std.proofs.Common.{◌≡◌, ℕ, Bool, true, false, cond, eqb, List, [], ◌∷◌, Option, Some, None, refl, sym, subst, ◌∙◌}
use Rattle.std.proofs.lemmas.Bool.{eqb-true}
use Rattle.std.proofs.lemmas.Option.{none-some}
use Rattle.rng_model.specs.documents.PyxLines.{StandsFor, at_end, itself, line_feed, tab, backslash, StandsForNothing}
use Rattle.pyx.specs.plain.Escapes.{unescaped, escaped, in_front}
use Rattle.pyx.proofs.Lines.NamesInLines.{not_equal, differs}

pub value_is : {t v : List ℕ} → StandsFor t v → unescaped t ≡ Some v
unfolding unescaped
value_is at_end = refl
value_is (itself {c} n d) = rw (not_equal c 92 n, value_is d) refl
value_is (line_feed d) = rw (value_is d) refl
value_is (tab d) = rw (value_is d) refl
value_is (backslash d) = rw (value_is d) refl

front_value : (k : ℕ) (whole cs : List ℕ) (o : Option (List ℕ)) (v : List ℕ) → ((w : List ℕ) → o ≡ Some w → StandsFor cs w)
    → ((w : List ℕ) → StandsFor cs w → StandsFor whole (k ∷ w)) → in_front (k ∷ []) o ≡ Some v → StandsFor whole v
front_value k whole cs None v more make e = absurd (none-some v e)
front_value k whole cs (Some w) v more make e = let p : k ∷ w ≡ v = cc in subst (StandsFor whole) p (make w (more w refl))

value_by : (b : Bool) (c : ℕ) (cs v : List ℕ) → eqb c 92 ≡ b → cond b (escaped cs) (in_front (c ∷ []) (unescaped cs)) ≡ Some v
    → ((w : List ℕ) → unescaped cs ≡ Some w → StandsFor cs w) → ((w : List ℕ) → escaped cs ≡ Some w → StandsFor (92 ∷ cs) w) → StandsFor (c ∷ cs) v
value_by true c cs v q e more esc = subst (λ (x : ℕ). StandsFor (x ∷ cs) v) (sym (eqb-true c 92 q)) (esc v e)
value_by false c cs v q e more esc = front_value c (c ∷ cs) cs (unescaped cs) v more (λ w d. itself (differs c 92 q) d) e

escape_by : (x y z : Bool) (d : ℕ) (cs v : List ℕ) → eqb d 110 ≡ x → eqb d 116 ≡ y → eqb d 92 ≡ z →
    cond x (in_front (10 ∷ []) (unescaped cs)) (cond y (in_front (9 ∷ []) (unescaped cs)) (cond z (in_front (92 ∷ []) (unescaped cs)) None)) ≡ Some v
    → ((w : List ℕ) → unescaped cs ≡ Some w → StandsFor cs w) → StandsFor (92 ∷ d ∷ cs) v
escape_by true y z d cs v p q r e more = subst (λ (x : ℕ). StandsFor (92 ∷ x ∷ cs) v) (sym (eqb-true d 110 p))
    (front_value 10 (92 ∷ 110 ∷ cs) cs (unescaped cs) v more (λ w k. line_feed k) e)
escape_by false true z d cs v p q r e more = subst (λ (x : ℕ). StandsFor (92 ∷ x ∷ cs) v) (sym (eqb-true d 116 q))
    (front_value 9 (92 ∷ 116 ∷ cs) cs (unescaped cs) v more (λ w k. tab k) e)
escape_by false false true d cs v p q r e more = subst (λ (x : ℕ). StandsFor (92 ∷ x ∷ cs) v) (sym (eqb-true d 92 r))
    (front_value 92 (92 ∷ 92 ∷ cs) cs (unescaped cs) v more (λ w k. backslash k) e)
escape_by false false false d cs v p q r e more = absurd (none-some v e)

unescaped_cons : (c : ℕ) (cs : List ℕ) → unescaped (c ∷ cs) ≡ cond (eqb c 92) (escaped cs) (in_front (c ∷ []) (unescaped cs))
unfolding unescaped
unescaped_cons c cs = refl

escaped_cons : (d : ℕ) (cs : List ℕ) → escaped (d ∷ cs) ≡ cond (eqb d 110) (in_front (10 ∷ []) (unescaped cs))
    (cond (eqb d 116) (in_front (9 ∷ []) (unescaped cs))
    (cond (eqb d 92) (in_front (92 ∷ []) (unescaped cs)) None))
unfolding unescaped
escaped_cons d cs = refl

no_text : (v : List ℕ) → unescaped [] ≡ Some v → StandsFor [] v
unfolding unescaped
no_text v e = let p : [] ≡ v = cc in subst (StandsFor []) p at_end

no_escape : (v : List ℕ) → escaped [] ≡ Some v → ⊥
unfolding unescaped
no_escape v e = cc

mutual
  pub value_of : (t v : List ℕ) → unescaped t ≡ Some v → StandsFor t v
  value_of [] v e = no_text v e
  value_of (c ∷ cs) v e = value_by (eqb c 92) c cs v refl (sym (unescaped_cons c cs) ∙ e) (value_of cs) (escaped_value cs)

  escaped_value : (cs v : List ℕ) → escaped cs ≡ Some v → StandsFor (92 ∷ cs) v
  escaped_value [] v e = absurd (no_escape v e)
  escaped_value (d ∷ cs) v e = escape_by (eqb d 110) (eqb d 116) (eqb d 92) d cs v refl refl refl (sym (escaped_cons d cs) ∙ e) (value_of cs)

pub no_value : (t : List ℕ) → StandsForNothing t → unescaped t ≡ None
no_value t n = go (unescaped t) refl where
  go : (o : Option (List ℕ)) → unescaped t ≡ o → unescaped t ≡ None
  go None e = e
  go (Some v) e = absurd (n v (value_of t v e))

pub none_stands : (t : List ℕ) → unescaped t ≡ None → StandsForNothing t
none_stands t e = λ v d. none-some v (sym e ∙ value_is d)
