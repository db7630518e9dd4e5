-- Where the first `::` of a text is.
use Rattle.std.proofs.Common.{◌≡◌, ℕ, List, [], ◌∷◌, ◌++◌, Bool, true, false, not, ◌&&◌, ◌||◌, Some, None}
use Rattle.std.proofs.Common.{refl, sym, ap, ◌∙◌, inl, inr}
use Rattle.std.proofs.lemmas.Bool.{and_from, and_parts, and_left, and_right, or_cases, or_left, or_right, not-true, false≢true, cond-true, cond-false, eqb-true}
use Rattle.xsd_uris.specs.plain.UriShapes.{is, none, is_nothing, begins_with, before_double, behind_double, without_first}
use Rattle.xsd_uris.proofs.Sequences.{Seq, last, more, IsGroup, group_no_colon}

-- the text is not empty, and begins with no colon
abbrev pub starts : List ℕ → Bool
starts [] = false
starts (c ∷ s) = not (is 0x3A c)

-- a text behind each colon, and it begins with no colon
abbrev pub is_single : List ℕ → Bool
is_single [] = true
is_single (c ∷ s) = (not (is 0x3A c) || starts s) && is_single s

pub none_single : (s : List ℕ) → none (is 0x3A) s ≡ true → is_single s ≡ true
none_single [] h = refl
none_single (c ∷ s) h =
    let f = and_parts (not (is 0x3A c)) (none (is 0x3A) s) h in and_from _ _ (or_left _ _ f.0) (none_single s f.1)

pub single_join : (g t : List ℕ) → none (is 0x3A) g ≡ true → starts t ≡ true → is_single t ≡ true → is_single (g ++ 0x3A ∷ t) ≡ true
single_join [] t h a b = and_from (not (is 0x3A 0x3A) || starts t) (is_single t) (or_right (not (is 0x3A 0x3A)) (starts t) a) b
single_join (c ∷ g) t h a b =
    let f = and_parts (not (is 0x3A c)) (none (is 0x3A) g) h in and_from _ _ (or_left _ _ f.0) (single_join g t f.1 a b)

pub starts_in_front : (g t : List ℕ) → none (is 0x3A) g ≡ true → is_nothing g ≡ false → starts (g ++ t) ≡ true
starts_in_front [] t h n = absurd (false≢true (sym n))
starts_in_front (c ∷ g) t h n = (and_parts (not (is 0x3A c)) (none (is 0x3A) g) h).0

module _ (P : List ℕ → Type 0) (clear : (s : List ℕ) → P s → none (is 0x3A) s ≡ true) (some : (s : List ℕ) → P s → is_nothing s ≡ false) where
  pub seq_starts : {s : List ℕ} → Seq P s → starts s ≡ true
  seq_starts {s} (last h) = by s (clear s h) (some s h) where
    by : (s : List ℕ) → none (is 0x3A) s ≡ true → is_nothing s ≡ false → starts s ≡ true
    by [] a b = absurd (false≢true (sym b))
    by (c ∷ s) a b = (and_parts (not (is 0x3A c)) (none (is 0x3A) s) a).0
  seq_starts (more g t h rest e) = ap starts e ∙ starts_in_front g (0x3A ∷ t) (group_no_colon g h) (some_group g h) where
    some_group : (g : List ℕ) → IsGroup g → is_nothing g ≡ false
    some_group [] h = absurd (false≢true h)
    some_group (c ∷ g) h = refl

  pub seq_single : {s : List ℕ} → Seq P s → is_single s ≡ true
  seq_single {s} (last h) = none_single s (clear s h)
  seq_single (more g t h rest e) = ap is_single e ∙ single_join g t (group_no_colon g h) (seq_starts rest) (seq_single rest)

-- ---- no `::`, and the first one

no_colon_next : (s : List ℕ) → starts s ≡ true → begins_with 0x3A s ≡ false
no_colon_next [] h = absurd (false≢true h)
no_colon_next (c ∷ s) h = not-true _ h

not_here : (c : ℕ) (s : List ℕ) → (not (is 0x3A c) || starts s) ≡ true → (is 0x3A c && begins_with 0x3A s) ≡ false
not_here c s h = elim (or_cases (not (is 0x3A c)) (starts s) h) [
  | inl a ↦ and_left _ _ (not-true _ a)
  | inr a ↦ and_right _ _ (no_colon_next s a)
]

not_here_in : (c : ℕ) (s t : List ℕ) → (not (is 0x3A c) || starts s) ≡ true → (is 0x3A c && begins_with 0x3A (s ++ t)) ≡ false
not_here_in c [] t h = elim (or_cases (not (is 0x3A c)) false h) [ inl a ↦ and_left _ _ (not-true _ a) | inr a ↦ absurd (false≢true a) ]
not_here_in c (d ∷ s) t h = not_here c (d ∷ s) h

pub before_single : (s : List ℕ) → is_single s ≡ true → before_double s ≡ s
before_single [] h = refl
before_single (c ∷ s) h =
    let f = and_parts (not (is 0x3A c) || starts s) (is_single s) h in
    cond-false (is 0x3A c && begins_with 0x3A s) [] (c ∷ before_double s) (not_here c s f.0) ∙ ap (λ x. c ∷ x) (before_single s f.1)

pub behind_single : (s : List ℕ) → is_single s ≡ true → behind_double s ≡ None
behind_single [] h = refl
behind_single (c ∷ s) h =
    let f = and_parts (not (is 0x3A c) || starts s) (is_single s) h in
    cond-false (is 0x3A c && begins_with 0x3A s) (Some (without_first s)) (behind_double s) (not_here c s f.0) ∙ behind_single s f.1

pub before_first : (s t : List ℕ) → is_single s ≡ true → before_double (s ++ 0x3A ∷ 0x3A ∷ t) ≡ s
before_first [] t h = refl
before_first (c ∷ s) t h =
    let f = and_parts (not (is 0x3A c) || starts s) (is_single s) h in
    cond-false (is 0x3A c && begins_with 0x3A (s ++ 0x3A ∷ 0x3A ∷ t)) [] (c ∷ before_double (s ++ 0x3A ∷ 0x3A ∷ t)) (not_here_in c s _ f.0)
    ∙ ap (λ x. c ∷ x) (before_first s t f.1)

pub behind_first : (s t : List ℕ) → is_single s ≡ true → behind_double (s ++ 0x3A ∷ 0x3A ∷ t) ≡ Some t
behind_first [] t h = refl
behind_first (c ∷ s) t h =
    let f = and_parts (not (is 0x3A c) || starts s) (is_single s) h in
    cond-false (is 0x3A c && begins_with 0x3A (s ++ 0x3A ∷ 0x3A ∷ t)) (Some (without_first (s ++ 0x3A ∷ 0x3A ∷ t))) (behind_double (s ++ 0x3A ∷ 0x3A ∷ t))
    (not_here_in c s _ f.0)
    ∙ behind_first s t f.1

pub data Double (s : List ℕ) : Type 0 where
  single : before_double s ≡ s → behind_double s ≡ None → Double s
  double : (front back : List ℕ) → before_double s ≡ front → behind_double s ≡ Some back → s ≡ front ++ 0x3A ∷ 0x3A ∷ back → Double s

begins : (s : List ℕ) → begins_with 0x3A s ≡ true → s ≡ 0x3A ∷ without_first s
begins [] h = absurd (false≢true h)
begins (c ∷ s) h = ap (λ x. x ∷ s) (eqb-true c 0x3A h)

pub double_of : (s : List ℕ) → Double s
double_of [] = single refl refl
double_of (c ∷ s) = by (is 0x3A c && begins_with 0x3A s) refl (double_of s) where
  by : (b : Bool) → (is 0x3A c && begins_with 0x3A s) ≡ b → Double s → Double (c ∷ s)
  by true e d =
      let f = and_parts (is 0x3A c) (begins_with 0x3A s) e in
      double [] (without_first s) (cond-true _ [] (c ∷ before_double s) e) (cond-true _ (Some (without_first s)) (behind_double s) e)
      (ap (λ x. x ∷ s) (eqb-true c 0x3A f.0) ∙ ap (λ x. 0x3A ∷ x) (begins s f.1))
  by false e (single a b) =
      single (cond-false _ [] (c ∷ before_double s) e ∙ ap (λ x. c ∷ x) a) (cond-false _ (Some (without_first s)) (behind_double s) e ∙ b)
  by false e (double front back a b w) =
      double (c ∷ front) back (cond-false _ [] (c ∷ before_double s) e ∙ ap (λ x. c ∷ x) a)
      (cond-false _ (Some (without_first s)) (behind_double s) e ∙ b) (ap (λ x. c ∷ x) w)
