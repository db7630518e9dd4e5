-- The state with its text, given the state that is kept.
use Rattle.std.proofs.Common.{◌≡◌, ℕ, ◌==◌, ◌∙◌, Bool, true, false, cond, ◌&&◌, List, [], ◌∷◌, ◌++◌, Option, Some, None, ◌⊎◌, inl, inr, refl, sym, ap}
use Rattle.std.proofs.Common.{subst, append_assoc}
use Rattle.std.specs.Prelude.{length, IfSome}
use Rattle.std.proofs.lemmas.List.{append-nil}
use Rattle.std.proofs.Math.Dec.{eqb-suc-zero}
use Rattle.rng_model.proofs.Truths.{no_truth}
use Rattle.std.proofs.lemmas.List.Folds.{list_all-append}
use Rattle.rng_model.specs.datatypes.Texts.{is_blank, is_blank_byte}
use Rattle.rng_model.specs.documents.PyxTrees.{EventKind, a_start, a_string, an_end}
use Rattle.rng_model.specs.documents.Telling.{events_at, string_at, text_told}
use Rattle.element_events.specs.plain.Calls.{State, after}
use Rattle.element_events.specs.views.Kept.{IsPassed, IsWhole, passed_after, passes}

-- ---- a state that is kept whole

pub whole_itself : (s : State) → IsWhole None s s
whole_itself s = record { depth = refl; root = refl; behind = []; text = sym (append-nil s.text); is_passed = refl; alone = tt }

-- there is a text of each kind
pub some_passed : (p : Option Bool) → (text : List ℕ) × IsPassed p text
some_passed None = ([], refl)
some_passed (Some true) = (32 ∷ [], ((λ e. cc), refl))
some_passed (Some false) = (120 ∷ [], ((λ e. cc), refl))

-- ---- the start or the end behind it

abbrev pub IsTag : EventKind → Type 0
IsTag (a_start q xs) = Unit {0}
IsTag (a_string s) = ⊥
IsTag an_end = Unit {0}

pub after_tag : (k : EventKind) (s t : State) → IsTag k → t.depth ≡ s.depth → t.root ≡ s.root → after k t ≡ after k s
after_tag (a_start q xs) s t tag d r = rw d refl
after_tag (a_string x) s t tag d r = absurd tag
after_tag an_end s t tag d r = rw (d, r) refl

-- one of both is empty
events_parted : (n : ℕ) (k : EventKind) (b s : List ℕ) → IsTag k → (b ≡ []) ⊎ (s ≡ []) → events_at n k (s ++ b) ≡ string_at n b ++ events_at n k s
events_parted n k b s tag (inl e) = rw (e, append-nil) refl
events_parted n (a_start q xs) b s tag (inr e) = rw e refl
events_parted n (a_string x) b s tag (inr e) = absurd tag
events_parted n an_end b s tag (inr e) = rw e refl

one_empty : (p : Option Bool) (b s : List ℕ) → IsPassed p b → IfSome p (λ _. s ≡ []) → (b ≡ []) ⊎ (s ≡ [])
one_empty None b s is alone = inl is
one_empty (Some blank) b s is alone = inr alone

pub events_of_tag : {p : Option Bool} {s t : State} (w : IsWhole p s t) (n : ℕ) (k : EventKind) → IsTag k
    → events_at n k t.text ≡ string_at n w.behind ++ events_at n k s.text
events_of_tag {p} {s} {t} w n k tag = rw w.text (events_parted n k w.behind s.text tag (one_empty p w.behind s.text w.is_passed w.alone))

-- ---- one more text

-- outside the root it is nothing
pub text_outside : (p : Option Bool) (s t : State) (x : List ℕ) → (s.depth == 0) ≡ true → is_blank x ≡ true → IsWhole p s t → IsWhole p s (after (a_string x) t)
text_outside p s t x out blank w = record {
  depth = w.depth;
  root = w.root;
  behind = w.behind;
  text = ap (λ d. t.text ++ cond (d == 0 && is_blank x) [] x) w.depth ∙ rw (out, blank, append-nil) w.text;
  is_passed = w.is_passed;
  alone = w.alone;
}

inside_told : (d : ℕ) (x : List ℕ) → (d == 0) ≡ false → text_told d x ≡ x
inside_told d x in_element = rw in_element refl

text_inside : (p : Option Bool) (s t : State) (x : List ℕ) → (s.depth == 0) ≡ false → (w : IsWhole p s t) → t.text ++ text_told t.depth x ≡ s.text ++ (w.behind ++ x)
text_inside p s t x within w =
    ap (λ y. t.text ++ y) (inside_told t.depth x (ap (λ d. d == 0) w.depth ∙ within)) ∙ ap (λ y. y ++ x) w.text ∙ append_assoc s.text w.behind x

-- nothing was passed over, or it was no string that is kept
kept_alone : (keeps : Bool) (p : Option Bool) (text : List ℕ) → passes keeps p text ≡ false → p ≡ None
kept_alone keeps None text e = refl
kept_alone keeps (Some blank) text e = absurd (cc)

pub text_kept : (keeps : Bool) (p : Option Bool) (s u t : State) (x : List ℕ) → (s.depth == 0) ≡ false → passes keeps p s.text ≡ false
    → u ≡ record { depth = s.depth; root = s.root; text = s.text ++ x } → IsWhole p s t → IsWhole p u (after (a_string x) t)
text_kept keeps p s u t x within kept is w =
    let none = kept_alone keeps p s.text kept in
    let empty : w.behind ≡ [] = subst (λ p. IsPassed p w.behind) none w.is_passed in
    rw is (record {
      depth = w.depth;
      root = w.root;
      behind = [];
      text = text_inside p s t x within w ∙ rw (empty, append-nil) refl;
      is_passed = subst (λ p. IsPassed p []) (sym none) refl;
      alone = subst (λ p. IfSome p (λ _. s.text ++ x ≡ [])) (sym none) tt;
    })

-- ---- a text that is passed over

not_empty : (b : List ℕ) (c : ℕ) (cs : List ℕ) → b ++ c ∷ cs ≡ [] → ⊥
not_empty [] c cs e = cc
not_empty (x ∷ b) c cs e = cc

-- what was passed over, and one more text
passed_more : (p : Option Bool) (behind x : List ℕ) → IsPassed p behind → IsPassed (passed_after x p) (behind ++ x)
passed_more p behind [] is = subst (IsPassed p) (sym (append-nil behind)) is
passed_more None behind (c ∷ cs) is = rw is ((λ e. not_empty [] c cs e), refl)
passed_more (Some blank) behind (c ∷ cs) is = (
  (λ e. not_empty behind c cs e),
  list_all-append is_blank_byte behind (c ∷ cs) ∙ ap (λ b. b && is_blank (c ∷ cs)) is.1,
)

-- no text is kept where one is passed over
none_kept : (keeps : Bool) (p : Option Bool) (text : List ℕ) → passes keeps p text ≡ true → IfSome p (λ _. text ≡ []) → text ≡ []
none_kept keeps (Some blank) text e alone = alone
none_kept keeps None [] e alone = refl
none_kept true None (c ∷ cs) e alone = absurd (cc)
none_kept false None (c ∷ cs) e alone = no_truth (sym (eqb-suc-zero (length cs)) ∙ e)

still_alone : (p : Option Bool) (x text : List ℕ) → text ≡ [] → IfSome (passed_after x p) (λ _. text ≡ [])
still_alone None [] text e = tt
still_alone (Some blank) [] text e = e
still_alone p (c ∷ cs) text e = e

pub text_passed : (keeps : Bool) (p : Option Bool) (s t : State) (x : List ℕ) → (s.depth == 0) ≡ false → passes keeps p s.text ≡ true
    → IsWhole p s t → IsWhole (passed_after x p) s (after (a_string x) t)
text_passed keeps p s t x within passed w = record {
  depth = w.depth;
  root = w.root;
  behind = w.behind ++ x;
  text = text_inside p s t x within w;
  is_passed = passed_more p w.behind x w.is_passed;
  alone = still_alone p x s.text (none_kept keeps p s.text passed w.alone);
}
