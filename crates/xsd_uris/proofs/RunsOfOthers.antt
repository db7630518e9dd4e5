-- A text with one space for each run of blanks and of characters that are not in ASCII.
use Rattle.std.proofs.Common.{◌≡◌, ℕ, List, [], ◌∷◌, Bool, true, false, not, ◌&&◌, ◌||◌, nat_le, if◌then◌else◌, refl, ap, ap₂, sym, ◌∙◌}
use Rattle.std.specs.List.{list_all}
use Rattle.std.proofs.lemmas.Bool.{and_parts, not-true, false≢true}
use Rattle.rng_model.specs.datatypes.Texts.{is_blank_byte}
use Rattle.xsd_uris.specs.plain.UriShapes.{before, from, none, is_nothing}

-- a blank, or not in ASCII
abbrev pub is_other : ℕ → Bool
is_other c = is_blank_byte c || nat_le 0x80 c

-- one more of these in front
abbrev pub onto_run : List ℕ → List ℕ
onto_run [] = 0x20 ∷ []
onto_run (c ∷ s) = if is_other c then c ∷ s else 0x20 ∷ c ∷ s

abbrev pub runs : List ℕ → List ℕ
runs [] = []
runs (c ∷ s) = if is_other c then onto_run (runs s) else c ∷ runs s

pub runs-other : (c : ℕ) (s : List ℕ) → is_other c ≡ true → runs (c ∷ s) ≡ onto_run (runs s)
runs-other c s e = rw e refl

pub runs-kept : (c : ℕ) (s : List ℕ) → is_other c ≡ false → runs (c ∷ s) ≡ c ∷ runs s
runs-kept c s e = rw e refl

pub onto_run-twice : (s : List ℕ) → onto_run (onto_run s) ≡ onto_run s
onto_run-twice [] = refl
onto_run-twice (c ∷ s) = by_char (is_other c) refl where
  by_char : (b : Bool) → is_other c ≡ b → onto_run (onto_run (c ∷ s)) ≡ onto_run (c ∷ s)
  by_char true e = rw e (rw e refl)
  by_char false e = rw e refl

-- a text without others stays as it is
pub runs-none : (s : List ℕ) → none is_other s ≡ true → runs s ≡ s
runs-none [] e = refl
runs-none (c ∷ s) e =
    let both = and_parts (not (is_other c)) (none is_other s) e in
    runs-kept c s (not-true (is_other c) both.0) ∙ ap (λ t. c ∷ t) (runs-none s both.1)

-- ---- functions that tell no other from a space

-- what gives one value for each text that begins with one of them
module _ {A : Type 0} (f : List ℕ → A) (d : A) (first : (c : ℕ) (s : List ℕ) → is_other c ≡ true → f (c ∷ s) ≡ d) where
  pub onto_first_run : (s : List ℕ) → f (onto_run s) ≡ d
  onto_first_run [] = first 0x20 [] refl
  onto_first_run (c ∷ s) = by_char (is_other c) refl where
    by_char : (b : Bool) → is_other c ≡ b → f (onto_run (c ∷ s)) ≡ d
    by_char true e = rw e (first c s e)
    by_char false e = rw e (first 0x20 (c ∷ s) refl)

  pub by_first : ((c : ℕ) (s : List ℕ) → is_other c ≡ false → f (c ∷ runs s) ≡ f (c ∷ s)) → (s : List ℕ) → f (runs s) ≡ f s
  by_first kept [] = refl
  by_first kept (c ∷ s) = by_char (is_other c) refl where
    by_char : (b : Bool) → is_other c ≡ b → f (runs (c ∷ s)) ≡ f (c ∷ s)
    by_char true e = ap f (runs-other c s e) ∙ onto_first_run (runs s) ∙ sym (first c s e)
    by_char false e = ap f (runs-kept c s e) ∙ kept c s e

pub runs-is_nothing : (s : List ℕ) → is_nothing (runs s) ≡ is_nothing s
runs-is_nothing s = by_first is_nothing false (λ c s e. refl) (λ c s e. refl) s

-- ---- tests that all of them pass, or none

abbrev pub IsAlike : Bool → (ℕ → Bool) → Type 0
IsAlike b p = (c : ℕ) → is_other c ≡ true → p c ≡ b

module _ (b : Bool) (p : ℕ → Bool) (alike : IsAlike b p) where
  all_onto : (s : List ℕ) → list_all p (onto_run s) ≡ (b && list_all p s)
  all_onto [] = rw (alike 0x20 refl) refl
  all_onto (c ∷ s) = by_char (is_other c) refl where
    again : (x y : Bool) → (x && y) ≡ (x && (x && y))
    again true y = refl
    again false y = refl

    by_char : (x : Bool) → is_other c ≡ x → list_all p (onto_run (c ∷ s)) ≡ (b && list_all p (c ∷ s))
    by_char true e = rw (e, alike c e) (again b (list_all p s))
    by_char false e = rw (e, alike 0x20 refl) refl

  pub runs-list_all : (s : List ℕ) → list_all p (runs s) ≡ list_all p s
  runs-list_all [] = refl
  runs-list_all (c ∷ s) = by_char (is_other c) refl (runs-list_all s) where
    by_char : (x : Bool) → is_other c ≡ x → list_all p (runs s) ≡ list_all p s → list_all p (runs (c ∷ s)) ≡ list_all p (c ∷ s)
    by_char true e h = ap (list_all p) (runs-other c s e) ∙ all_onto (runs s) ∙ ap₂ ◌&&◌ (sym (alike c e)) h
    by_char false e h = ap (list_all p) (runs-kept c s e) ∙ ap (λ t. p c && t) h

module _ (p : ℕ → Bool) (none_passes : IsAlike false p) where
  not_alike : IsAlike true (λ c. not (p c))
  not_alike c e = ap not (none_passes c e)

  pub runs-none_pass : (s : List ℕ) → none p (runs s) ≡ none p s
  runs-none_pass s = runs-list_all true (λ c. not (p c)) not_alike s

  before_onto : (s : List ℕ) → before p (onto_run s) ≡ onto_run (before p s)
  before_onto [] = rw (none_passes 0x20 refl) refl
  before_onto (c ∷ s) = by_char (is_other c) (p c) refl refl where
    by_char : (x y : Bool) → is_other c ≡ x → p c ≡ y → before p (onto_run (c ∷ s)) ≡ onto_run (before p (c ∷ s))
    by_char true true e y = absurd (false≢true (sym (none_passes c e) ∙ y))
    by_char true false e y = rw (e, y) (rw e refl)
    by_char false true e y = rw (e, none_passes 0x20 refl, y) refl
    by_char false false e y = rw (e, none_passes 0x20 refl, y) (rw e refl)

  pub runs-before : (s : List ℕ) → before p (runs s) ≡ runs (before p s)
  runs-before [] = refl
  runs-before (c ∷ s) = by_char (is_other c) (p c) refl refl (runs-before s) where
    by_char : (x y : Bool) → is_other c ≡ x → p c ≡ y → before p (runs s) ≡ runs (before p s) → before p (runs (c ∷ s)) ≡ runs (before p (c ∷ s))
    by_char true true e y h = absurd (false≢true (sym (none_passes c e) ∙ y))
    by_char true false e y h =
        let cut : before p (c ∷ s) ≡ c ∷ before p s = rw y refl in
        ap (before p) (runs-other c s e) ∙ before_onto (runs s) ∙ ap onto_run h ∙ sym (runs-other c (before p s) e) ∙ ap runs (sym cut)
    by_char false true e y h = ap (before p) (runs-kept c s e) ∙ rw y refl
    by_char false false e y h =
        let cut : before p (c ∷ s) ≡ c ∷ before p s = rw y refl in
        let cut_runs : before p (c ∷ runs s) ≡ c ∷ before p (runs s) = rw y refl in
        ap (before p) (runs-kept c s e) ∙ cut_runs ∙ ap (λ t. c ∷ t) h ∙ sym (runs-kept c (before p s) e) ∙ ap runs (sym cut)

  from_past : (c : ℕ) (s : List ℕ) → p c ≡ false → from p (c ∷ s) ≡ from p s
  from_past c s e = rw e refl

  from_onto : (s : List ℕ) → from p (onto_run s) ≡ from p s
  from_onto [] = from_past 0x20 [] (none_passes 0x20 refl)
  from_onto (c ∷ s) = by_char (is_other c) refl where
    by_char : (x : Bool) → is_other c ≡ x → from p (onto_run (c ∷ s)) ≡ from p (c ∷ s)
    by_char true e = rw e refl
    by_char false e = rw (e, none_passes 0x20 refl) refl

  -- what begins with the character that passes
  pub runs-behind : {A : Type 0} (f : List ℕ → A) → ((c : ℕ) (s : List ℕ) → is_other c ≡ false → f (c ∷ runs s) ≡ f (c ∷ s))
      → (s : List ℕ) → f (from p (runs s)) ≡ f (from p s)
  runs-behind f kept [] = refl
  runs-behind f kept (c ∷ s) = by_char (is_other c) (p c) refl refl (runs-behind f kept s) where
    by_char : (x y : Bool) → is_other c ≡ x → p c ≡ y → f (from p (runs s)) ≡ f (from p s) → f (from p (runs (c ∷ s))) ≡ f (from p (c ∷ s))
    by_char true true e y h = absurd (false≢true (sym (none_passes c e) ∙ y))
    by_char true false e y h =
        ap (λ t. f (from p t)) (runs-other c s e) ∙ ap f (from_onto (runs s)) ∙ h ∙ ap f (sym (from_past c s y))
    by_char false true e y h =
        let here : from p (c ∷ s) ≡ c ∷ s = rw y refl in
        let here_runs : from p (c ∷ runs s) ≡ c ∷ runs s = rw y refl in
        ap (λ t. f (from p t)) (runs-kept c s e) ∙ ap f here_runs ∙ kept c s e ∙ ap f (sym here)
    by_char false false e y h =
        ap (λ t. f (from p t)) (runs-kept c s e) ∙ ap f (from_past c (runs s) y) ∙ h ∙ ap f (sym (from_past c s y))

-- where all of them pass, the rest begins at the first
module _ (p : ℕ → Bool) (all_pass : IsAlike true p) where
  from_first : (c : ℕ) (s : List ℕ) → is_other c ≡ true → from p (c ∷ s) ≡ c ∷ s
  from_first c s e = rw (all_pass c e) refl

  from_onto_all : (s : List ℕ) → from p (onto_run s) ≡ onto_run s
  from_onto_all [] = from_first 0x20 [] refl
  from_onto_all (c ∷ s) = by_char (is_other c) refl where
    by_char : (x : Bool) → is_other c ≡ x → from p (onto_run (c ∷ s)) ≡ onto_run (c ∷ s)
    by_char true e = rw e (from_first c s e)
    by_char false e = rw e (from_first 0x20 (c ∷ s) refl)

  pub runs-from : (s : List ℕ) → from p (runs s) ≡ runs (from p s)
  runs-from [] = refl
  runs-from (c ∷ s) = by_char (is_other c) (p c) refl refl (runs-from s) where
    by_char : (x y : Bool) → is_other c ≡ x → p c ≡ y → from p (runs s) ≡ runs (from p s) → from p (runs (c ∷ s)) ≡ runs (from p (c ∷ s))
    by_char true y e _ h =
        ap (from p) (runs-other c s e) ∙ from_onto_all (runs s) ∙ sym (runs-other c s e) ∙ ap runs (sym (from_first c s e))
    by_char false true e y h =
        let here : from p (c ∷ s) ≡ c ∷ s = rw y refl in
        let here_runs : from p (c ∷ runs s) ≡ c ∷ runs s = rw y refl in
        ap (from p) (runs-kept c s e) ∙ here_runs ∙ sym (runs-kept c s e) ∙ ap runs (sym here)
    by_char false false e y h =
        let past : from p (c ∷ s) ≡ from p s = rw y refl in
        let past_runs : from p (c ∷ runs s) ≡ from p (runs s) = rw y refl in
        ap (from p) (runs-kept c s e) ∙ past_runs ∙ h ∙ ap runs (sym past)
