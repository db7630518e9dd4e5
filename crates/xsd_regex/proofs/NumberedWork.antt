-- The forms of an expression step by step, with states by their numbers: what is done and what is left stay the same in
-- all.
use Rattle.std.proofs.Common.{◌≡◌, ◌∙◌, ℕ, ◌<◌, ◌-◌, List, [], ◌∷◌, ◌++◌, length, map, Bool, true, false, cond, Option, refl, sym, ap}
use Rattle.std.specs.List.{AllByRecursion}
use Rattle.std.proofs.lemmas.List.{append_assoc, map-append}
use Rattle.rng_model.specs.regexes.Expressions.{Class, Regex, nothing_more, one_of, both, either, times}
use Rattle.rng_model.specs.regexes.plain.LinearForms.{RegexState, Form, is_nullable, one_less, is_none_left, forms_of}
use Rattle.xsd_regex.specs.plain.FormSteps.{Work, forms_left}
use Rattle.xsd_regex.specs.plain.StateTable.{state_at, forms_at}
use Rattle.xsd_regex.proofs.TableRows.{state_stays, forms_stay}

abbrev pub works_at : List RegexState → List (Regex × ℕ) → List Work
works_at states ws = map (λ w. (w.0, state_at states w.1)) ws

-- the forms of the arcs that are there, and of the work that is left
abbrev pub all_forms : List RegexState → List (Class × ℕ) → List (Regex × ℕ) → List Form
all_forms states arcs ws = forms_at states arcs ++ forms_left (works_at states ws)

module _ (states : List RegexState) (arcs : List (Class × ℕ)) (ws : List (Regex × ℕ)) where
  abbrev left : List Form
  left = forms_left (works_at states ws)

  pub nothing_done : (k : ℕ) → all_forms states arcs ((nothing_more, k) ∷ ws) ≡ all_forms states arcs ws
  unfolding forms_of
  nothing_done k = refl

  pub one_done : (c : Class) (k : ℕ) → all_forms states arcs ((one_of c, k) ∷ ws) ≡ all_forms states (arcs ++ (c, k) ∷ []) ws
  unfolding forms_of
  one_done c k =
      sym (append_assoc (forms_at states arcs) ((c, state_at states k) ∷ []) left)
      ∙ ap (λ l. l ++ left) (sym (map-append (λ a. (a.0, state_at states a.1)) arcs ((c, k) ∷ [])))

  pub either_done : (a b : Regex) (k : ℕ) → all_forms states arcs ((either a b, k) ∷ ws) ≡ all_forms states arcs ((a, k) ∷ (b, k) ∷ ws)
  unfolding forms_of
  either_done a b k = ap (λ l. forms_at states arcs ++ l) (append_assoc (forms_of a (state_at states k)) (forms_of b (state_at states k)) left)

  second_left : (b : Bool) (q : Regex) (k : ℕ) → cond b (forms_of q (state_at states k)) [] ++ left ≡ forms_left (works_at states (cond b ((q, k) ∷ ws) ws))
  second_left true q k = refl
  second_left false q k = refl

  -- n is the number of the state with the second part before the others
  pub both_done : (a b : Regex) (k n : ℕ) → state_at states n ≡ b ∷ state_at states k
      → all_forms states arcs ((both a b, k) ∷ ws) ≡ all_forms states arcs ((a, n) ∷ cond (is_nullable a) ((b, k) ∷ ws) ws)
  unfolding forms_of
  both_done a b k n e =
      ap (λ l. forms_at states arcs ++ l)
      (append_assoc (forms_of a (b ∷ state_at states k)) (cond (is_nullable a) (forms_of b (state_at states k)) []) left
      ∙ ap (λ l. forms_of a (b ∷ state_at states k) ++ l) (second_left (is_nullable a) b k)
      ∙ ap (λ q. forms_of a q ++ forms_left (works_at states (cond (is_nullable a) ((b, k) ∷ ws) ws))) (sym e))

  pub none_left_done : (n : ℕ) (m : Option ℕ) (a : Regex) (k : ℕ) → is_none_left m ≡ true
      → all_forms states arcs ((times n m a, k) ∷ ws) ≡ all_forms states arcs ws
  unfolding forms_of
  none_left_done n m a k e =
      ap (λ b. forms_at states arcs ++ (cond b [] (forms_of a (times (n - 1) (one_less m) a ∷ state_at states k)) ++ left)) e

  -- i is the number of the state with one time less before the others
  pub times_done : (n : ℕ) (m : Option ℕ) (a : Regex) (k i : ℕ) → is_none_left m ≡ false
      → state_at states i ≡ times (n - 1) (one_less m) a ∷ state_at states k
      → all_forms states arcs ((times n m a, k) ∷ ws) ≡ all_forms states arcs ((a, i) ∷ ws)
  unfolding forms_of
  times_done n m a k i e same =
      ap (λ b. forms_at states arcs ++ (cond b [] (forms_of a (times (n - 1) (one_less m) a ∷ state_at states k)) ++ left)) e
      ∙ ap (λ q. forms_at states arcs ++ (forms_of a q ++ left)) (sym same)

-- ---- more states

module _ (states more : List RegexState) where
  pub works_stay : (ws : List (Regex × ℕ)) → AllByRecursion (λ w. w.1 < length states) ws → works_at (states ++ more) ws ≡ works_at states ws
  works_stay [] h = refl
  works_stay (w ∷ ws) h =
      ap (λ q. (w.0, q) ∷ works_at (states ++ more) ws) (state_stays states more w.1 h.0)
      ∙ ap (λ l. (w.0, state_at states w.1) ∷ l) (works_stay ws h.1)

  pub all_forms_stay : (arcs : List (Class × ℕ)) (ws : List (Regex × ℕ)) → AllByRecursion (λ a. a.1 < length states) arcs
      → AllByRecursion (λ w. w.1 < length states) ws → all_forms (states ++ more) arcs ws ≡ all_forms states arcs ws
  all_forms_stay arcs ws h g =
      ap (λ l. l ++ forms_left (works_at (states ++ more) ws)) (forms_stay states more arcs h)
      ∙ ap (λ l. forms_at states arcs ++ forms_left l) (works_stay ws g)
