-- A queue that is done contains exactly what is reached.
use Rattle.std.proofs.Common.{◌≡◌, ◌⊎◌, ◌↔◌, inl, inr, ap, sym, ◌∙◌, subst, ℕ, ◌+◌, ◌<◌, ◌≤◌, List, [], ◌∷◌, ◌++◌, length, slice_get, Some, All, Contains}
use Rattle.std.proofs.Common.{append_assoc, append-nil, length-append, arith}
use Rattle.std.proofs.lemmas.Bool.{cases_lt}
use Rattle.std.proofs.lemmas.List.Elements.{All-append, All-contains, All-same, Contains-append_left, Contains-append_right, Contains-append_cases}
use Rattle.std.proofs.lemmas.List.Elements.{Contains-push}
use Rattle.std.proofs.lemmas.Option.{slice_get_within, get_or_from_slice_get}
use Rattle.rng_model.proofs.Options.{one_value}
use Rattle.rng_model.proofs.Members.{one_only, all_from_members}
use Rattle.rng_model.proofs.Places.{front_at, some_at}
use Rattle.rng_labels.specs.plain.Queues.{IsReachedBy, at_start, onward, IsQueue, Adds}

module _ {A : Type 0} (next : A → List A) (start : List A) where
  all_collected : (xs : List A) → IsQueue next start xs (length xs) → {x : A} → IsReachedBy next start x → Contains xs x
  all_collected xs q (at_start {x} c) = q.begun x c
  all_collected xs q (onward {x} {y} r c) = let k = some_at xs x (all_collected xs q r) in q.done k.0 x y k.1 k.2 c

  collected : (xs : List A) → IsQueue next start xs (length xs) → (x : A) → IsReachedBy next start x ↔ Contains xs x
  collected xs q x = (all_collected xs q, All-contains (IsReachedBy next start) xs x q.reached)

  begins : (xs : List A) → ((x : A) → Contains xs x → Contains start x) → ((x : A) → Contains start x → Contains xs x) → IsQueue next start xs 0
  begins xs f g = record {
    within = omega arith;
    reached = all_from_members (IsReachedBy next start) xs (λ x c. at_start (f x c));
    begun = g;
    done = λ k x y h e c. absurd (omega arith);
  }

  done_more : (xs more : List A) (n : ℕ) (x : A) → IsQueue next start xs n → slice_get xs n ≡ Some x
      → ((y : A) → Contains (next x) y → Contains (xs ++ more) y) →
      (k : ℕ) (z y : A) → slice_get (xs ++ more) k ≡ Some z → Contains (next z) y → k < n + 1 → (k < n) ⊎ (n ≤ k) → Contains (xs ++ more) y
  done_more xs more n x q e g k z y i c h (inl l) = Contains-append_left xs more y (q.done k z y l (front_at xs more k z i (omega (arith, l, q.within))) c)
  done_more xs more n x q e g k z y i c h (inr l) =
      let same : k ≡ n = omega arith in
      let at : slice_get xs n ≡ Some z = front_at xs more n z (ap (slice_get (xs ++ more)) (sym same) ∙ i) (slice_get_within xs n x e) in
      g y (subst (λ w. Contains (next w) y) (one_value at e) c)

  -- the head is done once everything next to it is in the queue
  goes_on : (xs more : List A) (n : ℕ) (x : A) → IsQueue next start xs n → slice_get xs n ≡ Some x → ((y : A) → Contains more y → Contains (next x) y)
      → ((y : A) → Contains (next x) y → Contains (xs ++ more) y) → IsQueue next start (xs ++ more) (n + 1)
  goes_on xs more n x q e f g = record {
    within = omega (arith, length-append xs more, slice_get_within xs n x e);
    reached = All-append (IsReachedBy next start) xs more q.reached
        (all_from_members (IsReachedBy next start) more (λ y c. onward
        (All-contains (IsReachedBy next start) xs x q.reached (n, slice_get_within xs n x e, get_or_from_slice_get xs n x x e)) (f y c)));
    begun = λ y c. Contains-append_left xs more y (q.begun y c);
    done = λ k z y h i c. done_more xs more n x q e g k z y i c h (cases_lt k n);
  }

-- ---- what is added

pub adds_none : (old : List ℕ) → Adds old [] old
adds_none old = record { more = []; is = sym (append-nil old); from = λ k c. c; all = λ k c. absurd (let h = c.1 in omega arith) }

pub adds_then : (a xs b ys c : List ℕ) → Adds a xs b → Adds b ys c → Adds a (xs ++ ys) c
adds_then a xs b ys c f g = record {
  more = f.more ++ g.more;
  is = g.is ∙ ap (λ zs. zs ++ g.more) f.is ∙ append_assoc a f.more g.more;
  from = λ k h. elim (Contains-append_cases f.more g.more k h)
      [ inl i ↦ Contains-append_left xs ys k (f.from k i) | inr i ↦ Contains-append_right xs ys k (g.from k i) ];
  all = λ k h. elim (Contains-append_cases xs ys k h) [
    | inl i ↦
        subst (λ zs. Contains zs k) (sym g.is) (Contains-append_left b g.more k (f.all k i))
    | inr i ↦ g.all k i
  ];
}

pub adds_there : (old : List ℕ) (k : ℕ) → Contains old k → Adds old (k ∷ []) old
adds_there old k c = record {
  more = [];
  is = sym (append-nil old);
  from = λ j h. absurd (let l = h.1 in omega arith);
  all = λ j h. subst (Contains old) (one_only k j h) c;
}

pub adds_new : (old new : List ℕ) (k : ℕ) → new ≡ old ++ k ∷ [] → Adds old (k ∷ []) new
adds_new old new k e = record {
  more = k ∷ [];
  is = e;
  from = λ j h. h;
  all = λ j h. subst (λ xs. Contains xs j) (sym e) (subst (Contains (old ++ k ∷ [])) (one_only k j h) (Contains-push old k));
}

-- ---- a queue of numbers

pub queue_begins : (next : ℕ → List ℕ) (start seen : List ℕ) → Adds [] start seen → IsQueue next start seen 0
queue_begins next start seen a = begins next start seen (λ k c. a.from k (subst (λ xs. Contains xs k) a.is c)) a.all

pub queue_goes : (next : ℕ → List ℕ) (start seen new : List ℕ) (i k : ℕ) → IsQueue next start seen i → slice_get seen i ≡ Some k → Adds seen (next k) new
    → IsQueue next start new (i + 1)
queue_goes next start seen new i k q e a =
    subst (λ xs. IsQueue next start xs (i + 1)) (sym a.is) (goes_on next start seen a.more i k q e a.from (λ y c. subst (λ xs. Contains xs y) a.is (a.all y c)))

pub below_more : (n : ℕ) (seen numbers new : List ℕ) → All (λ k. k < n) seen → All (λ k. k < n) numbers → Adds seen numbers new → All (λ k. k < n) new
below_more n seen numbers new f g a = All-same (λ k. k < n) new (seen ++ a.more) a.is
    (All-append (λ k. k < n) seen a.more f (all_from_members (λ k. k < n) a.more (λ k c. All-contains (λ k. k < n) numbers k g (a.from k c))))

pub queue_is_done : (next : ℕ → List ℕ) (start seen : List ℕ) (i : ℕ) → IsQueue next start seen i → length seen ≤ i → (k : ℕ)
    → IsReachedBy next start k ↔ Contains seen k
queue_is_done next start seen i q h k =
    let e : i ≡ length seen = omega (arith, q.within) in
    collected next start seen (subst (IsQueue next start seen) e q) k
