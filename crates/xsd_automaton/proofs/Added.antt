-- Numbers that are added to a list which has each once.
use Rattle.std.proofs.Common.{◌≡◌, ◌∙◌, ◌⊎◌, ◌==◌, ℕ, List, [], ◌∷◌, ◌++◌, Bool, true, false, cond, refl, sym, ap, subst, inl, inr}
use Rattle.std.proofs.Common.{eq-eqb, eqb-true}
use Rattle.std.proofs.lemmas.List.{append_assoc, append-nil}
use Rattle.std.proofs.lemmas.List.Sums.{fold-append}
use Rattle.xsd_regex.specs.plain.Positions.{Position, position_at}
use Rattle.xsd_regex.specs.plain.StateTable.{Has}
use Rattle.xsd_regex.proofs.OneOf.{in_first, in_second, of_both, one_to, one_test_if, one_test_then}
use Rattle.xsd_automaton.specs.plain.Closures.{no_position, part_edges, edges_of, edges, has_number, with_new, with_all}

pub has_if : (is : List ℕ) (i : ℕ) → Has is i → has_number is i ≡ true
has_if is i h = one_test_if (λ j. i == j) is (one_to (λ j. i ≡ j) (λ j. (i == j) ≡ true) is (λ j e. eq-eqb i j e) h)

pub has_then : (is : List ℕ) (i : ℕ) → has_number is i ≡ true → Has is i
has_then is i e = one_to (λ j. (i == j) ≡ true) (λ j. i ≡ j) is (λ j h. eqb-true i j h) (one_test_then (λ j. i == j) is e)

-- ---- one number

module _ (is : List ℕ) (n : ℕ) where
  new_keeps : (i : ℕ) → Has is i → Has (with_new is n) i
  new_keeps i h = by (has_number is n) where
    by : (b : Bool) → Has (cond b is (is ++ n ∷ [])) i
    by true = h
    by false = in_first (λ j. i ≡ j) is (n ∷ []) h

  new_has : Has (with_new is n) n
  new_has = by (has_number is n) refl where
    by : (b : Bool) → has_number is n ≡ b → Has (cond b is (is ++ n ∷ [])) n
    by true e = has_then is n e
    by false e = in_second (λ j. n ≡ j) is (n ∷ []) (inl refl)

  new_only : (i : ℕ) → Has (with_new is n) i → Has is i ⊎ Has (n ∷ []) i
  new_only i = by (has_number is n) where
    by : (b : Bool) → Has (cond b is (is ++ n ∷ [])) i → Has is i ⊎ Has (n ∷ []) i
    by true h = inl h
    by false h = of_both (λ j. i ≡ j) is (n ∷ []) h

  new_extends : (more : List ℕ) × (with_new is n ≡ is ++ more)
  new_extends = by (has_number is n) where
    by : (b : Bool) → (more : List ℕ) × (cond b is (is ++ n ∷ []) ≡ is ++ more)
    by true = ([], sym (append-nil is))
    by false = (n ∷ [], refl)

-- ---- all numbers of a list

pub all_keep : (is js : List ℕ) (i : ℕ) → Has is i → Has (with_all is js) i
all_keep is [] i h = h
all_keep is (j ∷ js) i h = all_keep (with_new is j) js i (new_keeps is j i h)

pub all_have : (is js : List ℕ) (i : ℕ) → Has js i → Has (with_all is js) i
all_have is [] i h = absurd h
all_have is (j ∷ js) i (inl e) = all_keep (with_new is j) js i (subst (Has (with_new is j)) (sym e) (new_has is j))
all_have is (j ∷ js) i (inr h) = all_have (with_new is j) js i h

pub all_only : (is js : List ℕ) (i : ℕ) → Has (with_all is js) i → Has is i ⊎ Has js i
all_only is [] i h = inl h
all_only is (j ∷ js) i h =
    elim (all_only (with_new is j) js i h) [ inl a ↦ one (new_only is j i a) | inr b ↦ inr (inr b) ]
  where
    one : Has is i ⊎ Has (j ∷ []) i → Has is i ⊎ Has (j ∷ js) i
    one (inl a) = inl a
    one (inr (inl e)) = inr (inl e)
    one (inr (inr h)) = absurd h

pub all_extend : (is js : List ℕ) → (more : List ℕ) × (with_all is js ≡ is ++ more)
all_extend is [] = ([], sym (append-nil is))
all_extend is (j ∷ js) =
    let one = new_extends is j in
    let rest = all_extend (with_new is j) js in
    (one.0 ++ rest.0, rest.1 ∙ ap (λ l. l ++ rest.0) one.1 ∙ append_assoc is one.0 rest.0)

-- ---- the edges of a position

module _ (ps : List Position) (n : ℕ) (p : Position) (at : position_at ps n ≡ p) (is js : List ℕ) (parts : js ≡ with_all is (part_edges ps n p.part)) where
  both_added : with_all is (edges ps n) ≡ with_all js (cond p.is_nullable (p.next ∷ []) [])
  both_added =
      ap (λ q. with_all is (edges_of ps n q)) at ∙ fold-append with_new is (part_edges ps n p.part) (cond p.is_nullable (p.next ∷ []) [])
      ∙ ap (λ l. with_all l (cond p.is_nullable (p.next ∷ []) [])) (sym parts)

  pub next_added : (ks : List ℕ) → p.is_nullable ≡ true → ks ≡ with_new js p.next → ks ≡ with_all is (edges ps n)
  next_added ks e f = f ∙ sym (both_added ∙ ap (λ b. with_all js (cond b (p.next ∷ []) [])) e)

  pub parts_added : p.is_nullable ≡ false → js ≡ with_all is (edges ps n)
  parts_added e = sym (both_added ∙ ap (λ b. with_all js (cond b (p.next ∷ []) [])) e)

pub none_added : (ps : List Position) (n : ℕ) (is : List ℕ) → position_at ps n ≡ no_position → is ≡ with_all is (edges ps n)
none_added ps n is at = sym (ap (λ q. with_all is (edges_of ps n q)) at)
