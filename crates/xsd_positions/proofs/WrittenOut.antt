-- An expression with its counts written out matches the same texts.
use Rattle.std.proofs.Common.{◌≡◌, ◌≤◌, ◌↔◌, ◌∙◌, ℕ, zero, suc, ◌+◌, ◌-◌, List, [], ◌++◌, Bool, true, false, cond}
use Rattle.std.proofs.Common.{Option, Some, None, refl, sym, ap, subst, arith, le-leb, leb-true}
use Rattle.std.specs.Prelude.{nat_le}
use Rattle.std.proofs.lemmas.List.{append_assoc}
use Rattle.rng_model.specs.regexes.Expressions.{no_char, Regex, nothing_more, one_of, both, either, times}
use Rattle.rng_model.specs.regexes.Expressions.{Denotes, nothing_is, one_is, both_are, first_is, second_is, so_often, AreCopies, no_copy, copy_and}
use Rattle.xsd_positions.specs.plain.WrittenOut.{copies_then, at_most, counted, written_out}

-- ---- copies

copies_join : {a : Regex} {n : ℕ} {s : List ℕ} → AreCopies a n s → (m k : ℕ) (t all : List ℕ) → AreCopies a m t → k ≡ n + m → all ≡ s ++ t → AreCopies a k all
copies_join {a} no_copy m k t all c e p =
    let same : m ≡ k = omega arith in subst (λ i. AreCopies a i all) same (subst (AreCopies a m) (sym p) c)
copies_join {a} (copy_and {n} {s = u} {t = v} first others parts) m k t all c e p =
    let one_more : suc (n + m) ≡ k = omega arith in
    subst (λ i. AreCopies a i all) one_more
    (copy_and first (copies_join others m (n + m) t (v ++ t) c refl refl) (p ∙ ap (λ l. l ++ t) parts ∙ append_assoc u v t))

record Apart (a : Regex) (n m : ℕ) (all : List ℕ) : Type 0 where
  front : List ℕ
  back : List ℕ
  first : AreCopies a n front
  second : AreCopies a m back
  parts : all ≡ front ++ back

copies_apart : {a : Regex} {k : ℕ} {all : List ℕ} → AreCopies a k all → (n m : ℕ) → k ≡ n + m → Apart a n m all
copies_apart {a} {k} {all} c zero m e =
    let same : k ≡ m = omega arith in
    record { front = []; back = all; first = no_copy; second = subst (λ i. AreCopies a i all) same c; parts = refl }
copies_apart no_copy (suc n) m e = absurd (omega arith)
copies_apart (copy_and {n = k} {s = u} first others parts) (suc n) m e =
    let r = copies_apart others n m (omega arith) in
    record {
      front = u ++ r.front;
      back = r.back;
      first = copy_and first r.first refl;
      second = r.second;
      parts = parts ∙ ap (λ l. u ++ l) r.parts ∙ sym (append_assoc u r.front r.back);
    }

module _ (a b : Regex) (to : (s : List ℕ) → Denotes a s → Denotes b s) where
  copies_to : {n : ℕ} {s : List ℕ} → AreCopies a n s → AreCopies b n s
  copies_to no_copy = no_copy
  copies_to (copy_and {s = u} first others parts) = copy_and (to u first) (copies_to others) parts

-- ---- copies that are written out

then_in : {a : Regex} {n : ℕ} {front : List ℕ} (rest : Regex) (back s : List ℕ) → AreCopies a n front → Denotes rest back → s ≡ front ++ back
    → Denotes (copies_then n a rest) s
unfolding copies_then
then_in rest back s no_copy m e = subst (Denotes rest) (sym e) m
then_in rest back s (copy_and {s = u} {t = v} first others parts) m e =
    both_are first (then_in rest back (v ++ back) others m refl) (e ∙ ap (λ l. l ++ back) parts ∙ append_assoc u v back)

record CopiesThen (a : Regex) (n : ℕ) (rest : Regex) (s : List ℕ) : Type 0 where
  front : List ℕ
  back : List ℕ
  copies : AreCopies a n front
  then : Denotes rest back
  parts : s ≡ front ++ back

then_out : (n : ℕ) (a rest : Regex) (s : List ℕ) → Denotes (copies_then n a rest) s → CopiesThen a n rest s
unfolding copies_then
then_out zero a rest s m = record { front = []; back = s; copies = no_copy; then = m; parts = refl }
then_out (suc n) a rest s (both_are {s = u} {t = v} p q e) =
    let r = then_out n a rest v q in
    record {
      front = u ++ r.front;
      back = r.back;
      copies = copy_and p r.copies refl;
      then = r.then;
      parts = e ∙ ap (λ l. u ++ l) r.parts ∙ sym (append_assoc u r.front r.back);
    }

most_in : (k : ℕ) {a : Regex} {j : ℕ} {s : List ℕ} → AreCopies a j s → j ≤ k → Denotes (at_most k a) s
unfolding at_most
most_in zero no_copy l = nothing_is
most_in zero (copy_and first others parts) l = absurd (omega arith)
most_in (suc k) no_copy l = first_is nothing_is
most_in (suc k) (copy_and first others parts) l = second_is (both_are first (most_in k others (omega arith)) parts)

record CopiesUpTo (a : Regex) (k : ℕ) (s : List ℕ) : Type 0 where
  number : ℕ
  copies : AreCopies a number s
  within : number ≤ k

most_out : (k : ℕ) (a : Regex) (s : List ℕ) → Denotes (at_most k a) s → CopiesUpTo a k s
unfolding at_most
most_out zero a _ nothing_is = record { number = 0; copies = no_copy; within = omega arith }
most_out (suc k) a _ (first_is nothing_is) = record { number = 0; copies = no_copy; within = omega arith }
most_out (suc k) a s (second_is (both_are {t = v} p q e)) =
    let r = most_out k a v q in
    record { number = suc r.number; copies = copy_and p r.copies e; within = let w = r.within in omega arith }

-- ---- counts

counted_in : (n : ℕ) (m : Option ℕ) (a : Regex) (s : List ℕ) → Denotes (times n m a) s → Denotes (counted n m a) s
counted_in n None a s (so_often j copies least most) =
    let parts : Apart a n (j - n) s = copies_apart copies n (j - n) (omega arith) in
    then_in (times 0 None a) parts.back s parts.first (so_often (j - n) parts.second (omega arith) tt) parts.parts
counted_in n (Some m) a s (so_often j copies least most) =
    let fits : n ≤ m = omega arith in
    let parts : Apart a n (j - n) s = copies_apart copies n (j - n) (omega arith) in
    rw (le-leb n m fits) (then_in (at_most (m - n) a) parts.back s parts.first (most_in (m - n) parts.second (omega arith)) parts.parts)

no_char_matches : (s : List ℕ) → Denotes (one_of no_char) s → ⊥
no_char_matches s (one_is h) = absurd (cc)

up_to_back : (n m : ℕ) (a : Regex) (s : List ℕ) (b : Bool) → nat_le n m ≡ b
    → Denotes (cond b (copies_then n a (at_most (m - n) a)) (one_of no_char)) s → Denotes (times n (Some m) a) s
up_to_back n m a s false e h = absurd (no_char_matches s h)
up_to_back n m a s true e h =
    let fits : n ≤ m = leb-true n m e in
    let r = then_out n a (at_most (m - n) a) s h in
    let q = most_out (m - n) a r.back r.then in
    let w : q.number ≤ m - n = q.within in
    so_often (n + q.number) (copies_join r.copies q.number (n + q.number) r.back s q.copies refl r.parts) (omega arith) (omega arith)

from_back : (n : ℕ) (a : Regex) (front back s : List ℕ) → AreCopies a n front → Denotes (times 0 None a) back → s ≡ front ++ back
    → Denotes (times n None a) s
from_back n a front back s copies (so_often j more least most) e =
    so_often (n + j) (copies_join copies j (n + j) back s more refl e) (omega arith) tt

counted_back : (n : ℕ) (m : Option ℕ) (a : Regex) (s : List ℕ) → Denotes (counted n m a) s → Denotes (times n m a) s
counted_back n None a s h = let r = then_out n a (times 0 None a) s h in from_back n a r.front r.back s r.copies r.then r.parts
counted_back n (Some m) a s h = up_to_back n m a s (nat_le n m) refl h

part_back : (n : ℕ) (m : Option ℕ) (a b : Regex) → ((s : List ℕ) → Denotes a s → Denotes b s) → (s : List ℕ) → Denotes (times n m a) s → Denotes (times n m b) s
part_back n m a b to s (so_often j copies least most) = so_often j (copies_to a b to copies) least most

-- ---- expressions

pub written_if : (r : Regex) (s : List ℕ) → Denotes r s → Denotes (written_out r) s
unfolding written_out
written_if nothing_more s m = m
written_if (one_of k) s m = m
written_if (both a b) s (both_are {s = u} {t = v} p q e) = both_are (written_if a u p) (written_if b v q) e
written_if (either a b) s (first_is p) = first_is (written_if a s p)
written_if (either a b) s (second_is q) = second_is (written_if b s q)
written_if (times n m a) s h = counted_in n m (written_out a) s (part_back n m a (written_out a) (written_if a) s h)

pub written_then : (r : Regex) (s : List ℕ) → Denotes (written_out r) s → Denotes r s
unfolding written_out
written_then nothing_more s m = m
written_then (one_of k) s m = m
written_then (both a b) s (both_are {s = u} {t = v} p q e) = both_are (written_then a u p) (written_then b v q) e
written_then (either a b) s (first_is p) = first_is (written_then a s p)
written_then (either a b) s (second_is q) = second_is (written_then b s q)
written_then (times n m a) s h = part_back n m (written_out a) a (written_then a) s (counted_back n m (written_out a) s h)

pub written_matches : (r : Regex) (s : List ℕ) → Denotes r s ↔ Denotes (written_out r) s
written_matches r s = (written_if r s, written_then r s)
