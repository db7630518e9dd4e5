-- What the notation of the RFC matches: one character, many, some, and one or none; and what holds of each text that is matched, if
-- it holds of all its parts.
use Rattle.std.proofs.Common.{◌≡◌, ◌≤◌, ◌⊎◌, ℕ, zero, suc, List, [], ◌∷◌, ◌++◌, true, false, Option, ◌&&◌, ◌||◌}
use Rattle.std.proofs.Common.{refl, sym, ap, subst, arith, ◌∙◌, inl, inr, le-leb, leb-true}
use Rattle.std.specs.Prelude.{nat_le}
use Rattle.std.proofs.lemmas.Bool.{and_from, and_parts, or_cases, or_left}
use Rattle.std.proofs.lemmas.List.{append-nil}
use Rattle.rng_model.specs.regexes.Expressions.{Regex, nothing_more, one_of, both, either, times, no_char}
use Rattle.rng_model.specs.regexes.Expressions.{Denotes, nothing_is, one_is, both_are, first_is, second_is, so_often, AreCopies, no_copy, copy_and}
use Rattle.rng_model.specs.xsd.UriCharacters.{many, some, optional, the}

-- ---- one character

pub no_char_is : {X : Type 0} (s : List ℕ) → Denotes (one_of no_char) s → X
no_char_is s (one_is h) = absurd (cc)

same_char : (c d : ℕ) → ((nat_le c d && nat_le d c) || false) ≡ true → d ≡ c
same_char c d h =
    elim (or_cases (nat_le c d && nat_le d c) false h) [
      | inl e ↦ let p = and_parts (nat_le c d) (nat_le d c) e in omega (arith, leb-true c d p.0, leb-true d c p.1)
      | inr e ↦ absurd (cc)
    ]

pub the_is : (c : ℕ) (s : List ℕ) → Denotes (the c) s → s ≡ c ∷ []
the_is c s (one_is {c = d} h) = ap (λ x. x ∷ []) (same_char c d h)

pub the_from : (c : ℕ) → Denotes (the c) (c ∷ [])
the_from c = one_is (or_left _ _ (and_from _ _ (le-leb c c (omega arith)) (le-leb c c (omega arith))))

-- the character and what is behind it
pub record Behind (c : ℕ) (r : Regex) (s : List ℕ) : Type 0 where
  pub rest : List ℕ
  pub matched : Denotes r rest
  pub whole : s ≡ c ∷ rest

pub the_before : (c : ℕ) (r : Regex) (s : List ℕ) → Denotes (both (the c) r) s → Behind c r s
the_before c r s (both_are {s = u} {t} p q e) = record { rest = t; matched = q; whole = e ∙ ap (λ x. x ++ t) (the_is c u p) }

pub before_the : (c : ℕ) (r : Regex) (s : List ℕ) → Denotes r s → Denotes (both (the c) r) (c ∷ s)
before_the c r s m = both_are (the_from c) m refl

-- ---- the last one of several

pub last_is : (r : Regex) (s : List ℕ) → Denotes (both r nothing_more) s → Denotes r s
last_is r s (both_are {s = u} {t} p q e) = subst (Denotes r) (sym (e ∙ ap (λ x. u ++ x) (empty t q) ∙ append-nil u)) p where
  empty : (t : List ℕ) → Denotes nothing_more t → t ≡ []
  empty _ nothing_is = refl

pub last_from : (r : Regex) (s : List ℕ) → Denotes r s → Denotes (both r nothing_more) s
last_from r s m = both_are m nothing_is (sym (append-nil s))

pub only_is : (r : Regex) (s : List ℕ) → Denotes (either r (one_of no_char)) s → Denotes r s
only_is r s (first_is p) = p
only_is r s (second_is q) = no_char_is s q

-- ---- counts

pub many_none : (r : Regex) → Denotes (many r) []
many_none r = so_often 0 no_copy (omega arith) tt

pub many_more : (r : Regex) (u s : List ℕ) → Denotes r u → Denotes (many r) s → Denotes (many r) (u ++ s)
many_more r u s m (so_often n copies least most) = so_often (suc n) (copy_and m copies refl) (omega arith) tt

pub some_from : (r : Regex) (u s : List ℕ) → Denotes r u → Denotes (many r) s → Denotes (some r) (u ++ s)
some_from r u s m (so_often n copies least most) = so_often (suc n) (copy_and m copies refl) (omega arith) tt

pub optional_none : (r : Regex) → Denotes (optional r) []
optional_none r = so_often 0 no_copy (omega arith) (omega arith)

pub optional_one : (r : Regex) (s : List ℕ) → Denotes r s → Denotes (optional r) s
optional_one r s m = so_often 1 (copy_and m no_copy (sym (append-nil s))) (omega arith) (omega arith)

pub optional_is : (r : Regex) (s : List ℕ) → Denotes (optional r) s → (s ≡ []) ⊎ Denotes r s
optional_is r s (so_often n copies least most) = by n copies most where
  none_left : {u : List ℕ} → AreCopies r 0 u → u ≡ []
  none_left no_copy = refl

  by : (n : ℕ) {u : List ℕ} → AreCopies r n u → n ≤ 1 → (u ≡ []) ⊎ Denotes r u
  by zero no_copy l = inl refl
  by (suc zero) (copy_and {s = u} {t} m others e) l = inr (subst (Denotes r) (sym (e ∙ ap (λ x. u ++ x) (none_left others) ∙ append-nil u)) m)
  by (suc (suc n)) c l = absurd (omega arith)

-- ---- what holds of all parts

module _ (Q : List ℕ → Type 0) (empty : Q []) (join : (s t : List ℕ) → Q s → Q t → Q (s ++ t)) where
  pub copies_keep : {r : Regex} → ((s : List ℕ) → Denotes r s → Q s) → {n : ℕ} {s : List ℕ} → AreCopies r n s → Q s
  copies_keep inside no_copy = empty
  copies_keep inside (copy_and {s = u} {t} m others e) = subst Q (sym e) (join u t (inside u m) (copies_keep inside others))

  pub times_keep : (n : ℕ) (o : Option ℕ) (r : Regex) → ((s : List ℕ) → Denotes r s → Q s) → (s : List ℕ) → Denotes (times n o r) s → Q s
  times_keep n o r inside s (so_often k copies least most) = copies_keep inside copies

  pub both_keep : (a b : Regex) → ((s : List ℕ) → Denotes a s → Q s) → ((s : List ℕ) → Denotes b s → Q s) → (s : List ℕ) → Denotes (both a b) s → Q s
  both_keep a b f g s (both_are {s = u} {t} p q e) = subst Q (sym e) (join u t (f u p) (g t q))

  pub either_keep : (a b : Regex) → ((s : List ℕ) → Denotes a s → Q s) → ((s : List ℕ) → Denotes b s → Q s) → (s : List ℕ) → Denotes (either a b) s → Q s
  either_keep a b f g s (first_is p) = f s p
  either_keep a b f g s (second_is q) = g s q

  pub nothing_keep : (s : List ℕ) → Denotes nothing_more s → Q s
  nothing_keep _ nothing_is = empty

  pub none_keep : (s : List ℕ) → Denotes (one_of no_char) s → Q s
  none_keep s m = no_char_is s m
