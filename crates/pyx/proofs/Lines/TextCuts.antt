-- The cuts of a text.
use Rattle.std.proofs.Common.{◌≡◌, ℕ, ◌<◌, ◌+◌, List, [], ◌∷◌, length, drop, Option, Some, None, refl, cond, eqb, ap, sym, arith, suc, one-add}
use Rattle.std.proofs.Common.{Bool, true, false, add-one}
use Rattle.std.specs.Prelude.{◌≢◌, MatchOption}
use Rattle.std.specs.List.{position_or_len, before_first, after_first}
use Rattle.std.proofs.lemmas.Bool.{eqb-true, false_from_ne_true}
use Rattle.std.proofs.lemmas.Str.Pattern.{strip_prefix_char}
use Rattle.std.specs.Option.{option_map}
use Rattle.std.specs.Str.Pattern.{FindsCharPrefix}
use Rattle.pyx.specs.plain.Cuts.{behind, at_byte, at_front}
use Rattle.std.proofs.Common.{take, get_or, ◌∙◌, subst}
use Rattle.std.proofs.lemmas.List.Sums.{position_or_len_is}
use Rattle.rng_model.proofs.Truths.{number_itself}
use Rattle.memchr.specs.Find.{Nowhere, NoneBefore, Passes, is_byte}
use denote.Ref.{Bor}

behind_here : (k : ℕ) (bs rest : List ℕ) → bs ≡ k ∷ rest → behind k bs ≡ Some rest
behind_here k bs rest e = rw (e, number_itself k) refl

behind_not : (k : ℕ) (bs : List ℕ) → ((rest : List ℕ) → bs ≢ k ∷ rest) → behind k bs ≡ None
behind_not k [] never = refl
behind_not k (c ∷ cs) never = go (eqb c k) refl where
  go : (b : Bool) → eqb c k ≡ b → cond b (Some cs) None ≡ None
  go true e = absurd (never cs (ap (λ x. x ∷ cs) (eqb-true c k e)))
  go false e = refl

behind_cases : (k : ℕ) (bs : List ℕ) (r : Option (Bor (List ℕ))) → MatchOption r ((rest : List ℕ) → bs ≢ k ∷ rest) (λ x. bs ≡ k ∷ x.now)
    → option_map (λ x. x.now) r ≡ behind k bs
behind_cases k bs None h = sym (behind_not k bs h)
behind_cases k bs (Some x) h = sym (behind_here k bs x.now h)

pub behind_is : (k : ℕ) (bs : List ℕ) (r : Option (Bor (List ℕ))) → MatchOption r (FindsCharPrefix k bs None)
    (λ x. (n : ℕ) × FindsCharPrefix k bs (Some n) × (x.now ≡ drop n bs) × (length x.now + n ≡ length bs)) → k < 128 → option_map (λ x. x.now) r ≡ behind k bs
behind_is k bs r h small = behind_cases k bs r (strip_prefix_char k bs r h small)

-- ---- the first of a byte

first_at : (b : Bool) (k c : ℕ) (cs : List ℕ) → eqb c k ≡ b → position_or_len (λ x. eqb x k) (c ∷ cs) ≡ cond b 0 (suc (position_or_len (λ x. eqb x k) cs))
first_at true k c cs e = rw e refl
first_at false k c cs e = rw e (one-add _)

at_here : (b : Bool) (k c : ℕ) (cs : List ℕ) → eqb c k ≡ b → at_byte k (c ∷ cs) ≡ cond b (Some ([], cs)) (at_front c (at_byte k cs))
unfolding at_byte
at_here b k c cs e = rw e refl

at_nothing : (k : ℕ) → at_byte k [] ≡ None
unfolding at_byte
at_nothing k = refl

at_byte_none : (k : ℕ) (bs : List ℕ) → position_or_len (λ x. eqb x k) bs ≡ length bs → at_byte k bs ≡ None
at_byte_none k [] h = at_nothing k
at_byte_none k (c ∷ cs) h = go (eqb c k) refl (at_byte_none k cs) where
  go : (b : Bool) → eqb c k ≡ b → (position_or_len (λ x. eqb x k) cs ≡ length cs → at_byte k cs ≡ None) → at_byte k (c ∷ cs) ≡ None
  go true e more = absurd (omega (arith, h, first_at true k c cs e))
  go false e more = let n : position_or_len (λ x. eqb x k) cs ≡ length cs = omega (arith, h, first_at false k c cs e) in
      rw (at_here false k c cs e, more n) refl

at_byte_some : (k : ℕ) (bs : List ℕ) → position_or_len (λ x. eqb x k) bs < length bs
    → at_byte k bs ≡ Some (before_first (λ x. eqb x k) bs, after_first (λ x. eqb x k) bs)
at_byte_some k [] h = absurd (omega arith)
at_byte_some k (c ∷ cs) h = go (eqb c k) refl (at_byte_some k cs) where
  go : (b : Bool) → eqb c k ≡ b → (position_or_len (λ x. eqb x k) cs < length cs → at_byte k cs ≡ Some
      (before_first (λ x. eqb x k) cs, after_first (λ x. eqb x k) cs)) → at_byte k (c ∷ cs) ≡ Some
      (before_first (λ x. eqb x k) (c ∷ cs), after_first (λ x. eqb x k) (c ∷ cs))
  go true e more = rw (at_here true k c cs e, first_at true k c cs e) refl
  go false e more = let n : position_or_len (λ x. eqb x k) cs < length cs = omega (arith, h, first_at false k c cs e) in
      rw (at_here false k c cs e, more n, first_at false k c cs e, add-one, add-one) refl

at_byte_cases : (k : ℕ) (bs : List ℕ) (r : Option (Bor (List ℕ) × Bor (List ℕ))) → MatchOption r (position_or_len (λ b. eqb b k) bs ≡ length bs)
    (λ x. (position_or_len (λ b. eqb b k) bs < length bs) × (x.0.now ≡ before_first (λ b. eqb b k) bs) × (x.1.now ≡ after_first (λ b. eqb b k) bs))
    → option_map (λ x. (x.0.now, x.1.now)) r ≡ at_byte k bs
at_byte_cases k bs None h = sym (at_byte_none k bs h)
at_byte_cases k bs (Some x) h = rw (at_byte_some k bs h.0, h.1, h.2) refl

found_mark : (k : ℕ) (bs : List ℕ) (i : ℕ) → NoneBefore (Passes (is_byte k) bs) 0 (length bs) i → Passes (is_byte k) bs i
    → at_byte k bs ≡ Some (take i bs, drop (i + 1) bs)
found_mark k bs i none here =
    let e : position_or_len (λ x. eqb x k) bs ≡ i = position_or_len_is (is_byte k) bs i 0 (omega (arith, none.high))
    (λ j l. false_from_ne_true _ (none.before j (omega arith) l)) (λ l. here) in
    at_byte_some k bs (omega (arith, e, none.high)) ∙ rw e refl

no_mark : (k : ℕ) (bs : List ℕ) → Nowhere (Passes (is_byte k) bs) 0 (length bs) → at_byte k bs ≡ None
no_mark k bs none = at_byte_none k bs (position_or_len_is (is_byte k) bs (length bs) 0 (omega arith)
    (λ j l. false_from_ne_true _ (none j (omega arith) l)) (λ l. absurd (omega (arith, l))))

-- in the form of the code: in the bytes of the text
pub cut_here : (k : ℕ) (bs text front after : List ℕ) (i : ℕ) → bs ≡ text → NoneBefore (Passes (is_byte k) bs) 0 (length bs) i → Passes (is_byte k) bs i
    → front ≡ take i text → after ≡ drop (i + 1) text → Some (front, after) ≡ at_byte k text
cut_here k bs text front after i e none here f g =
    rw (f, g) (sym (subst (λ b. at_byte k b ≡ Some (take i b, drop (i + 1) b)) e (found_mark k bs i none here)))

pub cut_nowhere : (k : ℕ) (bs text : List ℕ) → bs ≡ text → Nowhere (Passes (is_byte k) bs) 0 (length bs) → None ≡ at_byte k text
cut_nowhere k bs text e none = sym (subst (λ b. at_byte k b ≡ None) e (no_mark k bs none))

mark_is : (k x : ℕ) → eqb x k ≡ true → k < 128 → x < 128
mark_is k x e h = subst (λ y. y < 128) (sym (eqb-true x k e)) h

pub mark_low : (k : ℕ) (bs text : List ℕ) (i : ℕ) → bs ≡ text → Passes (is_byte k) bs i → k < 128 → get_or text i 0 < 128
mark_low k bs text i e here h = subst (λ b. get_or b i 0 < 128) e (mark_is k (get_or bs i 0) here h)
