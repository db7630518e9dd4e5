-- Runs of quotes, and the first three quotes.
use Rattle.std.proofs.Common.{◌≡◌, ℕ, ◌≤◌, eqb, inl, inr, List, [], ◌∷◌, ◌++◌, length, Option, Some, None, refl, sym, ap, subst, ◌∙◌, append_assoc, arith}
use Rattle.std.proofs.lemmas.Bool.{eqb-true}
use Rattle.std.proofs.lemmas.List.{length-append}
use Rattle.std.proofs.lemmas.Option.{none-some, same_Some, some_pair_parts}
use Rattle.rng_model.proofs.Truths.{chosen, number_itself}
use Rattle.rnc_model.specs.tokens.Tokens.{three, IsUpToThree}
use Rattle.rnc_text.specs.plain.CutSteps.{behind, behind_two, behind_three, then_behind, here_or, with_first, until_three}
use Rattle.rnc_model.specs.declared.character.Character.{Character}
use Rattle.rnc_model.specs.declared.character.Character.TheVariants.{LineEnd, Ordinary}

pub behind_is : (n : ℕ) (cs : List Character) → behind n (Ordinary n ∷ cs) ≡ Some cs
behind_is n cs = rw (number_itself n) refl

pub behind_parts : (n : ℕ) (cs rest : List Character) → behind n cs ≡ Some rest → cs ≡ Ordinary n ∷ rest
behind_parts n [] rest e = absurd (none-some _ e)
behind_parts n (LineEnd ∷ cs) rest e = absurd (none-some _ e)
behind_parts n (Ordinary c ∷ cs) rest e =
    elim (chosen (eqb c n) _ _ _ e) [
      | inl h ↦ let a = eqb-true c n h.0 in let b = same_Some _ _ h.1 in cc
      | inr h ↦ absurd (none-some _ h.1)
    ]

then_parts : (n : ℕ) (o : Option (List Character)) (rest : List Character) → then_behind n o ≡ Some rest
    → (mid : List Character) × (o ≡ Some mid) × (mid ≡ Ordinary n ∷ rest)
then_parts n None rest e = absurd (none-some _ e)
then_parts n (Some mid) rest e = (mid, refl, behind_parts n mid rest e)

pub two_parts : (n : ℕ) (cs rest : List Character) → behind_two n cs ≡ Some rest → cs ≡ Ordinary n ∷ Ordinary n ∷ rest
two_parts n cs rest e = let p = then_parts n (behind n cs) rest e in behind_parts n cs p.0 p.1 ∙ ap (λ (x : List Character). Ordinary n ∷ x) p.2

pub three_parts : (n : ℕ) (cs rest : List Character) → behind_three n cs ≡ Some rest → cs ≡ three n rest
three_parts n cs rest e = let p = then_parts n (behind_two n cs) rest e in two_parts n cs p.0 p.1 ∙ ap (λ (x : List Character). Ordinary n ∷ Ordinary n ∷ x) p.2

pub two_is : (n : ℕ) (rest : List Character) → behind_two n (Ordinary n ∷ Ordinary n ∷ rest) ≡ Some rest
two_is n rest = rw (number_itself n, number_itself n) refl

pub three_is : (n : ℕ) (rest : List Character) → behind_three n (three n rest) ≡ Some rest
three_is n rest = rw (number_itself n, number_itself n, number_itself n) refl

-- ---- the first three quotes

pub until_at : (n : ℕ) (c : Character) (cs : List Character) → until_three n (c ∷ cs) ≡ here_or (behind_three n (c ∷ cs)) (with_first c (until_three n cs))
unfolding until_three
until_at n c cs = refl

pub until_none : (n : ℕ) → until_three n [] ≡ None
unfolding until_three
until_none n = refl

-- what is found is the content, up to the first three quotes
pub record UpTo (n : ℕ) (cs content rest : List Character) : Type 0 where
  pub is : cs ≡ content ++ three n rest
  pub first : IsUpToThree n content

-- three quotes alone are found at once
none_before : (n : ℕ) → IsUpToThree n []
none_before n front rest e = no_more rest (omega (arith, ap length e, length-append front (three n rest)))
  where
    no_more : (rest : List Character) → length rest ≤ 0 → rest ≡ []
    no_more [] le = refl
    no_more (c ∷ rest) le = absurd (omega (arith, le))

starts_three : (n : ℕ) (cs content rest : List Character) → cs ≡ three n rest → IsUpToThree n content → (tail : List Character) → cs ≡ content ++ three n tail
    → content ≡ []
starts_three n cs [] rest is first tail parts = refl
starts_three n cs (c ∷ []) rest is first tail parts = absurd (omega (arith, ap length (first [] (Ordinary n ∷ []) (let e = parts in cc))))
starts_three n cs (c ∷ d ∷ []) rest is first tail parts = absurd (omega (arith, ap length (first [] (Ordinary n ∷ Ordinary n ∷ []) (let e = parts in cc))))
starts_three n cs (c ∷ d ∷ e ∷ content) rest is first tail parts =
    absurd (omega (arith, ap length (first [] (content ++ three n []) (let f = parts in cc)), length-append content (three n [])))

first_tail : (n : ℕ) (c : Character) (content : List Character) → IsUpToThree n (c ∷ content) → IsUpToThree n content
first_tail n c content first front rest e = first (c ∷ front) rest (ap (λ (x : List Character). c ∷ x) e)

-- up to three quotes after a character that does not begin three
first_more : (n : ℕ) (c : Character) (content rest : List Character) → behind_three n (c ∷ (content ++ three n rest)) ≡ None → IsUpToThree n content
    → IsUpToThree n (c ∷ content)
first_more n c content rest none first [] more e =
    let f : c ∷ (content ++ three n rest) ≡ three n (more ++ rest) = joined content e in
    absurd (none-some _ (sym none ∙ ap (behind_three n) f ∙ three_is n (more ++ rest)))
  where
    joined : (content : List Character) → c ∷ (content ++ three n []) ≡ three n more → c ∷ (content ++ three n rest) ≡ three n (more ++ rest)
    joined content e =
        let a : (c ∷ (content ++ three n [])) ++ rest ≡ c ∷ (content ++ three n rest) =
        ap (λ (x : List Character). c ∷ x) (append_assoc content (three n []) rest) in
        sym a ∙ ap (λ (x : List Character). x ++ rest) e
first_more n c content rest none first (d ∷ front) more e = first front more (cc)

pub until_found : (n : ℕ) (cs content rest : List Character) → until_three n cs ≡ Some (content, rest) → UpTo n cs content rest
until_found n [] content rest e = absurd (none-some _ (sym (until_none n) ∙ e))
until_found n (c ∷ cs) content rest e = here (behind_three n (c ∷ cs)) refl (sym (until_at n c cs) ∙ e) (until_three n cs) refl (λ x. until_found n cs x rest)
  where
    here : (o : Option (List Character)) → behind_three n (c ∷ cs) ≡ o → here_or o (with_first c (until_three n cs)) ≡ Some (content, rest)
        → (p : Option (List Character × List Character)) → until_three n cs ≡ p → ((x : List Character) → until_three n cs ≡ Some (x, rest) → UpTo n cs x rest)
        → UpTo n (c ∷ cs) content rest
    here (Some end) b e p q more =
        let s = some_pair_parts _ _ _ _ e in
        subst (λ (x : List Character). UpTo n (c ∷ cs) x rest) s.0 (record { is = three_parts n (c ∷ cs) end b ∙ ap (three n) s.1; first = none_before n })
    here None b e None q more = absurd (none-some _ (rw q at e))
    here None b e (Some x) q more =
        let s = some_pair_parts _ _ _ _ (rw q at e) in
        let u = more x.0 (q ∙ ap (λ (r : List Character). Some (x.0, r)) s.1) in
        subst (λ (x : List Character). UpTo n (c ∷ cs) x rest) s.0
        (record {
          is = ap (λ (x : List Character). c ∷ x) u.is;
          first = first_more n c x.0 rest (ap (λ (y : List Character). behind_three n (c ∷ y)) (sym u.is) ∙ b) u.first;
        })

pub until_is : (n : ℕ) (content rest : List Character) → IsUpToThree n content → until_three n (content ++ three n rest) ≡ Some (content, rest)
until_is n [] rest first = until_at n (Ordinary n) (Ordinary n ∷ Ordinary n ∷ rest) ∙ rw (number_itself n, number_itself n, number_itself n) refl
until_is n (c ∷ content) rest first =
    until_at n c (content ++ three n rest) ∙ go (behind_three n (c ∷ (content ++ three n rest))) refl (until_is n content rest (first_tail n c content first))
  where
    go : (o : Option (List Character)) → behind_three n (c ∷ (content ++ three n rest)) ≡ o → until_three n (content ++ three n rest) ≡ Some (content, rest)
        → here_or o (with_first c (until_three n (content ++ three n rest))) ≡ Some (c ∷ content, rest)
    go None b h = rw h refl
    go (Some end) b h =
        absurd (omega (arith, ap length (starts_three n (c ∷ (content ++ three n rest)) (c ∷ content) end (three_parts n _ end b) first rest refl)))
