-- Reading bytes one by one is reading them line by line.
use Rattle.std.proofs.Common.{◌≡◌, ℕ, suc, ◌+◌, ◌-◌, ◌≤◌, ◌<◌, Bool, true, false, cond, eqb, List, [], ◌∷◌, ◌++◌, length, take, Option, Some, None, Result, Ok}
use Rattle.std.proofs.Common.{Err, refl, ap, sym, ◌∙◌, arith, append_assoc, rules, ◌⊎◌, inl, inr}
use Rattle.std.proofs.lemmas.List.{append-nil, length-append}
use Rattle.std.proofs.lemmas.Bool.{cases_lt, lt-leb, le-leb}
use Rattle.rng_model.specs.documents.Lines.{Line, line_limit, Fault}
use Rattle.rng_model.specs.documents.PyxTrees.{Event}
use Rattle.pyx.specs.plain.Cuts.{at_byte, at_front}
use Rattle.pyx.specs.plain.LineReader.{said_of}
use Rattle.pyx.specs.plain.DocumentReader.{State, Turn, silent, go_on, followed, tag_ended, line_read}
use Rattle.pyx.specs.plain.Pieces.{Progress, with_begun, ended_line, open_line, byte_read, read, overlong, line_taken, rest_taken}

-- ---- a line that is too long

pub said_of_long : (l : Line) → line_limit < length l.bytes → said_of l ≡ Err 10
unfolding said_of
said_of_long l h = rw (lt-leb (length l.bytes) line_limit h) refl

pub record Fails {A : Type 0} (turn : Turn A) : Type 0 where
  pub fault : Fault
  pub is : turn.0 ≡ Err fault

go_fails : {A : Type 0} (r : Result State Fault) (es : List Event) (f : State → Turn A) → ((s : State) → Fails (f s)) → Fails (go_on r es f)
go_fails (Ok s) es f h = record { fault = (h s).fault; is = (h s).is }
go_fails (Err e) es f h = record { fault = e; is = refl }

pub long_fails : (l : Line) (s : State) → line_limit < length l.bytes → Fails (line_read l s)
unfolding line_read
long_fails l s h = go_fails (tag_ended l.bytes s).0 (tag_ended l.bytes s).1 _ (λ t. record
    { fault = record { clause = 10; line = t.count + 1 }; is = rw (said_of_long l h) refl })

pub fails_first : {A B : Type 0} (turn : Turn A) (f : A → Turn B) → Fails turn → Fails (followed turn f)
fails_first turn f h = record { fault = h.fault; is = rw (h.is) refl }

stops : {A B : Type 0} (turn : Turn A) (f : A → Turn B) (g : B → Turn B) → Fails turn → followed (followed turn f) g ≡ followed turn f
stops turn f g h = rw (h.is) refl

-- a line with these bytes that is not complete
abbrev pub with_open : Progress → List ℕ → Turn Progress
with_open p all = followed (line_read (open_line all) p.state) (λ s. silent (with_begun all s))

pub open_stops : (p : Progress) (all : List ℕ) (g : Progress → Turn Progress) → line_limit < length all → followed (with_open p all) g ≡ with_open p all
open_stops p all g h = stops (line_read (open_line all) p.state) (λ s. silent (with_begun all s)) g (long_fails (open_line all) p.state h)

abbrev pub grown : ℕ → Progress → Progress
grown c p = record p { begun = p.begun ++ c ∷ [] }

pub length-push : (xs : List ℕ) (c : ℕ) → length (xs ++ c ∷ []) ≡ length xs + 1
length-push xs c = length-append xs (c ∷ [])

bytes_more : (b front : List ℕ) (c i j : ℕ) → i ≡ suc j → (b ++ c ∷ []) ++ take j front ≡ b ++ take i (c ∷ front)
bytes_more b front c i j e = rw (e, append_assoc b (c ∷ []) (take j front)) refl

overlong_is : (more : List ℕ) (p : Progress) → overlong more p ≡ with_open p (p.begun ++ take (line_limit + 1 - length p.begun) more)
unfolding overlong
overlong_is more p = refl

overlong_more : (c : ℕ) (front : List ℕ) (p : Progress) → length p.begun ≤ line_limit → overlong front (grown c p) ≡ overlong (c ∷ front) p
overlong_more c front p h = overlong_is front (grown c p) ∙ ap (with_open p) (bytes_more p.begun front c (line_limit + 1 - length p.begun)
    (line_limit + 1 - length (p.begun ++ c ∷ [])) (omega (arith, h, length-push p.begun c))) ∙ sym (overlong_is (c ∷ front) p)

overlong_one : (c : ℕ) (front : List ℕ) (p : Progress) → length p.begun ≤ line_limit → line_limit ≤ length p.begun
    → overlong (c ∷ front) p ≡ with_open p (p.begun ++ c ∷ [])
overlong_one c front p h k = overlong_is (c ∷ front) p ∙ ap (λ n. with_open p (p.begun ++ take n (c ∷ front))) one where
  one : line_limit + 1 - length p.begun ≡ 1
  one = omega (arith, h, k)

line_more : (c : ℕ) (front : List ℕ) (p : Progress) → length p.begun ≤ line_limit → line_taken front (grown c p) ≡ line_taken (c ∷ front) p
unfolding line_taken
line_more c front p h =
    let n : length (p.begun ++ c ∷ []) + length front ≡ length p.begun + length (c ∷ front) = omega (arith, length-push p.begun c) in
    rw (n, append_assoc p.begun (c ∷ []) front, overlong_more c front p h) refl

rest_more : (c : ℕ) (rest : List ℕ) (p : Progress) → length p.begun ≤ line_limit → rest_taken rest (grown c p) ≡ rest_taken (c ∷ rest) p
unfolding rest_taken
rest_more c rest p h =
    let n : length (p.begun ++ c ∷ []) + length rest ≡ length p.begun + length (c ∷ rest) = omega (arith, length-push p.begun c) in
    rw (n, append_assoc p.begun (c ∷ []) rest, overlong_more c rest p h) refl

line_full : (c : ℕ) (front : List ℕ) (p : Progress) → length p.begun ≤ line_limit → line_limit ≤ length p.begun
    → line_taken (c ∷ front) p ≡ with_open p (p.begun ++ c ∷ [])
unfolding line_taken
line_full c front p h k = rw (lt-leb (length p.begun + length (c ∷ front)) line_limit (omega (arith, k))) (overlong_one c front p h k)

rest_full : (c : ℕ) (rest : List ℕ) (p : Progress) → length p.begun ≤ line_limit → line_limit ≤ length p.begun
    → rest_taken (c ∷ rest) p ≡ with_open p (p.begun ++ c ∷ [])
unfolding rest_taken
rest_full c rest p h k = rw (lt-leb (length p.begun + length (c ∷ rest)) line_limit (omega (arith, k))) (overlong_one c rest p h k)

pub read_cons : (c : ℕ) (cs : List ℕ) (p : Progress) → read (c ∷ cs) p ≡ followed (byte_read c p) (read cs)
unfolding read
read_cons c cs p = refl

pub byte_full : (c : ℕ) (p : Progress) → eqb c 10 ≡ false → line_limit ≤ length p.begun → byte_read c p ≡ with_open p (p.begun ++ c ∷ [])
unfolding byte_read
byte_full c p e h = rw (e, le-leb line_limit (length p.begun) h) refl

pub byte_within : (c : ℕ) (p : Progress) → eqb c 10 ≡ false → length p.begun < line_limit → byte_read c p ≡ silent (grown c p)
unfolding byte_read
byte_within c p e h = rw (e, lt-leb line_limit (length p.begun) h) refl

pub byte_feed : (c : ℕ) (p : Progress) → eqb c 10 ≡ true → byte_read c p ≡ followed (line_read (ended_line p.begun) p.state) (λ s. silent (with_begun [] s))
unfolding byte_read
byte_feed c p e = rw e refl

line_none : (p : Progress) → length p.begun ≤ line_limit → line_taken [] p ≡ followed (line_read (ended_line p.begun) p.state) (λ s. silent (with_begun [] s))
unfolding line_taken
line_none p h =
    let n : length p.begun + 0 ≡ length p.begun = omega arith in
    rw (n, le-leb (length p.begun) line_limit h, append-nil p.begun) refl

rest_none : (p : Progress) → length p.begun ≤ line_limit → rest_taken [] p ≡ silent p
unfolding rest_taken
rest_none p h =
    let n : length p.begun + 0 ≡ length p.begun = omega arith in
    rw (n, le-leb (length p.begun) line_limit h, append-nil p.begun) refl

pub at_nil : at_byte 10 [] ≡ None
unfolding at_byte
at_nil = refl

pub read_nil : (p : Progress) → read [] p ≡ silent p
unfolding read
read_nil p = refl

pub at_cons : (c : ℕ) (cs : List ℕ) → at_byte 10 (c ∷ cs) ≡ cond (eqb c 10) (Some ([], cs)) (at_front c (at_byte 10 cs))
unfolding at_byte
at_cons c cs = refl

pub some_pair : {A B : Type 0} (a : A) (b : B) (c : A) (d : B) → ◌≡◌ {A = Option (A × B)} (Some (a, b)) (Some (c, d)) → (a ≡ c) × (b ≡ d)
some_pair {A = A} {B = B} a b c d e = let q : ◌≡◌ {A = A × B} (a, b) (c, d) = cc in (ap (λ (p : A × B). p.0) q, ap (λ (p : A × B). p.1) q)

silent_first : {A B : Type 0} (a : A) (f : A → Turn B) → followed (silent a) f ≡ f a
silent_first a f = refl

-- a byte that does not end a line, and then the rest
pub read_other : (c : ℕ) (cs : List ℕ) (p : Progress) (r : Turn Progress) → eqb c 10 ≡ false → length p.begun ≤ line_limit →
    (length p.begun < line_limit → read cs (grown c p) ≡ r) → (line_limit ≤ length p.begun → with_open p (p.begun ++ c ∷ []) ≡ r) → read (c ∷ cs) p ≡ r
read_other c cs p r e h more full = go (cases_lt (length p.begun) line_limit) where
  go : (length p.begun < line_limit) ⊎ (line_limit ≤ length p.begun) → read (c ∷ cs) p ≡ r
  go (inl k) = read_cons c cs p ∙ ap (λ (t : Turn Progress). followed t (read cs)) (byte_within c p e k) ∙ more k
  go (inr k) = read_cons c cs p ∙ ap (λ (t : Turn Progress). followed t (read cs)) (byte_full c p e k)
      ∙ open_stops p (p.begun ++ c ∷ []) (read cs) (omega (arith, k, length-push p.begun c)) ∙ full k

-- up to the first line feed
pub read_line : (bytes front after : List ℕ) (p : Progress) → Some (front, after) ≡ at_byte 10 bytes → length p.begun ≤ line_limit
    → read bytes p ≡ followed (line_taken front p) (read after)
read_line [] front after p e h = absurd (nothing (e ∙ at_nil)) where
  nothing : ◌≡◌ {A = Option (List ℕ × List ℕ)} (Some (front, after)) None → ⊥
  nothing q = cc
read_line (c ∷ cs) front after p e h = go (eqb c 10) (at_byte 10 cs) refl refl (e ∙ at_cons c cs) (λ front after. read_line cs front after (grown c p)) where
  go : (b : Bool) (o : Option (List ℕ × List ℕ)) → eqb c 10 ≡ b → at_byte 10 cs ≡ o → Some (front, after) ≡ cond b (Some ([], cs)) (at_front c o)
      → ((front after : List ℕ) → Some (front, after) ≡ at_byte 10 cs → length (p.begun ++ c ∷ []) ≤ line_limit
      → read cs (grown c p) ≡ followed (line_taken front (grown c p)) (read after))
      → read (c ∷ cs) p ≡ followed (line_taken front p) (read after)
  go true o q u k more =
      let w = some_pair front after [] cs k in
      rw (w.0, w.1) (read_cons c cs p ∙ ap (λ (t : Turn Progress). followed t (read cs)) (byte_feed c p q ∙ sym (line_none p h)))
  go false None q u k more = absurd cc
  go false (Some x) q u k more =
      let w = some_pair front after (c ∷ x.0) x.1 k in
      rw (w.0, w.1) (read_other c cs p (followed (line_taken (c ∷ x.0) p) (read x.1)) q h
      (λ small. more x.0 x.1 (sym u) (omega (arith, small, length-push p.begun c)) ∙
      ap (λ (t : Turn Progress). followed t (read x.1)) (line_more c x.0 p h))
      (λ full. sym (ap (λ (t : Turn Progress). followed t (read x.1)) (line_full c x.0 p h full) ∙
      open_stops p (p.begun ++ c ∷ []) (read x.1) (omega (arith, full, length-push p.begun c)))))

-- if there is none
pub read_rest : (bytes : List ℕ) (p : Progress) → None ≡ at_byte 10 bytes → length p.begun ≤ line_limit → read bytes p ≡ rest_taken bytes p
read_rest [] p e h = read_nil p ∙ sym (rest_none p h)
read_rest (c ∷ cs) p e h = go (eqb c 10) (at_byte 10 cs) refl refl (e ∙ at_cons c cs) (read_rest cs (grown c p)) where
  go : (b : Bool) (o : Option (List ℕ × List ℕ)) → eqb c 10 ≡ b → at_byte 10 cs ≡ o → None ≡ cond b (Some ([], cs)) (at_front c o)
      → (None ≡ at_byte 10 cs → length (p.begun ++ c ∷ []) ≤ line_limit → read cs (grown c p) ≡ rest_taken cs (grown c p))
      → read (c ∷ cs) p ≡ rest_taken (c ∷ cs) p
  go true o q u k more = absurd cc
  go false (Some x) q u k more = absurd cc
  go false None q u k more = read_other c cs p (rest_taken (c ∷ cs) p) q h
      (λ small. more (sym u) (omega (arith, small, length-push p.begun c)) ∙ rest_more c cs p h)
      (λ full. sym (rest_full c cs p h full))

length-take_of : (n : ℕ) (xs : List ℕ) → n ≤ length xs → length (take n xs) ≡ n
length-take_of n xs h = search (rules, h)

pub overlong_fails : (more : List ℕ) (p : Progress) → length p.begun ≤ line_limit → line_limit < length p.begun + length more → Fails (overlong more p)
unfolding overlong
overlong_fails more p h k =
    let n : line_limit + 1 - length p.begun ≤ length more = omega (arith, h, k) in
    fails_first _ _ (long_fails _ p.state (omega (
      arith,
      h,
      length-append p.begun (take (line_limit + 1 - length p.begun) more),
      length-take_of (line_limit + 1 - length p.begun) more n,
    )))
