-- Names in lines: they are cut at their first colon, and contain no space.
use Rattle.std.proofs.Common.{◌≡◌, ℕ, suc, ◌+◌, ◌<◌, Bool, true, false, cond, not, ◌&&◌, eqb, List, [], ◌∷◌, ◌++◌, length, drop, get_or, Option, Some, None}
use Rattle.std.proofs.Common.{refl, sym, ap, subst, ◌∙◌, arith, add-one, lit<, rules}
use Rattle.std.specs.Prelude.{◌≢◌}
use Rattle.std.specs.List.{list_all, AllByRecursion}
use Rattle.std.specs.Str.{IsUtf8, chars}
use Rattle.std.proofs.Math.Seq.{take-append_seam}
use Rattle.std.proofs.lemmas.Bool.{eqb-true, and_parts}
use Rattle.std.proofs.lemmas.List.{length-append}
use Rattle.std.proofs.lemmas.Str.{encode_ascii, IsUtf8-take, IsUtf8-drop, IsUtf8-append, IsUtf8-from_ascii, IsCharBoundary-before_ascii}
use Rattle.std.proofs.lemmas.Str.{IsCharBoundary-after_ascii, chars-append, chars_past_char}
use Rattle.std.proofs.lemmas.Str.Ascii.{IsAscii-nil, IsAscii-cons}
use Rattle.std.proofs.Math.Bool.{and-false}
use Rattle.rng_model.proofs.Truths.{number_itself}
use Rattle.rng_model.specs.names.Names.{is_ncname, is_name_start, is_name_char, is_colon}
use Rattle.rng_model.specs.documents.PyxLines.{QName, IsNcnameText, IsName, alone, prefixed}
use Rattle.pyx.specs.plain.Cuts.{at_byte, at_front}
use Rattle.pyx.specs.plain.WrittenNames.{written_of, cut_name}
use Rattle.pyx.specs.plain.LineReader.{is_name, are_ncnames}

-- ---- cuts

pub not_equal : (a b : ℕ) → a ≢ b → eqb a b ≡ false
not_equal a b n = go (eqb a b) refl where
  go : (x : Bool) → eqb a b ≡ x → eqb a b ≡ false
  go true e = absurd (n (eqb-true a b e))
  go false e = e

pub differs : (a b : ℕ) → eqb a b ≡ false → a ≢ b
differs a b q p = absurd (true_false (sym (number_itself b) ∙ subst (λ (x : ℕ). eqb x b ≡ false) p q)) where
  true_false : true ≡ false → ⊥
  true_false e = cc

-- where a byte is first, or that it is nowhere
abbrev pub Found : ℕ → List ℕ → Option (List ℕ × List ℕ) → Type 0
Found k bytes None = AllByRecursion (λ c. c ≢ k) bytes
Found k bytes (Some p) = (bytes ≡ p.0 ++ k ∷ p.1) × AllByRecursion (λ c. c ≢ k) p.0

found_front : (k c : ℕ) (cs : List ℕ) (o : Option (List ℕ × List ℕ)) → c ≢ k → Found k cs o → Found k (c ∷ cs) (at_front c o)
found_front k c cs None n f = (n, f)
found_front k c cs (Some p) n f = (ap (λ (x : List ℕ). c ∷ x) f.0, (n, f.1))

found_by : (k : ℕ) (b : Bool) (c : ℕ) (cs : List ℕ) (o : Option (List ℕ × List ℕ)) → eqb c k ≡ b → Found k cs o
    → Found k (c ∷ cs) (cond b (Some ([], cs)) (at_front c o))
found_by k true c cs o e f = (ap (λ (x : ℕ). x ∷ cs) (eqb-true c k e), tt)
found_by k false c cs o e f = found_front k c cs o (differs c k e) f

pub found : (k : ℕ) (bytes : List ℕ) → Found k bytes (at_byte k bytes)
unfolding at_byte
found k [] = tt
found k (c ∷ cs) = found_by k (eqb c k) c cs (at_byte k cs) refl (found k cs)

pub at_none : (k : ℕ) (bytes : List ℕ) → AllByRecursion (λ c. c ≢ k) bytes → at_byte k bytes ≡ None
unfolding at_byte
at_none k [] h = refl
at_none k (c ∷ bytes) h = rw (not_equal c k h.0, at_none k bytes h.1) refl

pub at_seam : (k : ℕ) (front rest : List ℕ) → AllByRecursion (λ c. c ≢ k) front → at_byte k (front ++ k ∷ rest) ≡ Some (front, rest)
unfolding at_byte
at_seam k [] rest h = let e : eqb k k ≡ true = search rules in rw e refl
at_seam k (c ∷ front) rest h = rw (not_equal c k h.0, at_seam k front rest h.1) refl

pub all_append : (k : ℕ) (xs ys : List ℕ) → AllByRecursion (λ c. c ≢ k) xs → AllByRecursion (λ c. c ≢ k) ys → AllByRecursion (λ c. c ≢ k) (xs ++ ys)
all_append k [] ys h i = i
all_append k (x ∷ xs) ys h i = (h.0, all_append k xs ys h.1 i)

-- ---- the parts of a text on both sides of an ASCII byte

at_length : (a b : List ℕ) (k : ℕ) → get_or (a ++ k ∷ b) (length a) 0 ≡ k
at_length [] b k = refl
at_length (c ∷ a) b k = at_length a b k

behind_seam : (a b : List ℕ) (k : ℕ) → drop (suc (length a)) (a ++ k ∷ b) ≡ b
behind_seam [] b k = refl
behind_seam (c ∷ a) b k = behind_seam a b k

pub utf8_parts : (a b : List ℕ) (k : ℕ) → k < 128 → IsUtf8 (a ++ k ∷ b) → IsUtf8 a × IsUtf8 b
utf8_parts a b k small u =
    let inside : length a < length (a ++ k ∷ b) = omega (arith, length-append a (k ∷ b)) in
    let ascii : get_or (a ++ k ∷ b) (length a) 0 < 128 = rw (at_length a b k) small in (
      subst IsUtf8 (take-append_seam a (k ∷ b)) (IsUtf8-take (a ++ k ∷ b) (length a) u (IsCharBoundary-before_ascii (a ++ k ∷ b) (length a) inside ascii)),
      subst IsUtf8 (ap (λ n. drop n (a ++ k ∷ b)) (add-one (length a)) ∙ behind_seam a b k)
          (IsUtf8-drop (a ++ k ∷ b) (length a + 1) u (IsCharBoundary-after_ascii (a ++ k ∷ b) (length a) u inside ascii)),
    )

pub ascii_first : (k : ℕ) (b : List ℕ) → k < 128 → IsUtf8 b → IsUtf8 (k ∷ b)
ascii_first k b small u = IsUtf8-append (k ∷ []) b (IsUtf8-from_ascii (k ∷ []) (IsAscii-cons k [] small IsAscii-nil)) u

-- an ASCII character at the front
pub char_first : (k : ℕ) (b : List ℕ) → k < 128 → IsUtf8 b → chars (k ∷ b) ≡ k ∷ chars b
char_first k b small u = chars_past_char (k ∷ b) b k (ascii_first k b small u) (sym (ap (λ x. x ++ b) (encode_ascii k small)))

chars_seam : (a b : List ℕ) (k : ℕ) → k < 128 → IsUtf8 (a ++ k ∷ b) → chars (a ++ k ∷ b) ≡ chars a ++ k ∷ chars b
chars_seam a b k small u =
    let p = utf8_parts a b k small u in
    chars-append a (k ∷ b) p.0 ∙ ap (λ x. chars a ++ x) (chars_past_char (k ∷ b) b k (ascii_first k b small p.1)
    (sym (ap (λ x. x ++ b) (encode_ascii k small))))

-- ---- NCNames

abbrev InName : ℕ → Bool
InName d = is_name_char d && not (is_colon d)

all_fails : (f : ℕ → Bool) (xs ys : List ℕ) (k : ℕ) → f k ≡ false → list_all f (xs ++ k ∷ ys) ≡ false
all_fails f [] ys k e = rw e refl
all_fails f (x ∷ xs) ys k e = rw (all_fails f xs ys k e) (and-false (f x))

-- no NCName contains this character
ncname_fails : (xs ys : List ℕ) (k : ℕ) → (is_name_start k && not (is_colon k)) ≡ false → InName k ≡ false → is_ncname (xs ++ k ∷ ys) ≡ false
ncname_fails [] ys k e f = rw e refl
ncname_fails (x ∷ xs) ys k e f = rw (all_fails InName xs ys k f) (and-false (is_name_start x && not (is_colon x)))

true_false : true ≡ false → ⊥
true_false e = cc

pub ncname_without : (k : ℕ) (bytes : List ℕ) → k < 128 → (is_name_start k && not (is_colon k)) ≡ false → InName k ≡ false → IsNcnameText bytes
    → AllByRecursion (λ c. c ≢ k) bytes
ncname_without k bytes small e f n = go (at_byte k bytes) (found k bytes) where
  go : (o : Option (List ℕ × List ℕ)) → Found k bytes o → AllByRecursion (λ c. c ≢ k) bytes
  go None h = h
  go (Some p) h = absurd (true_false (sym n.ncname ∙ ap (λ x. is_ncname (chars x)) h.0 ∙ ap is_ncname (chars_seam p.0 p.1 k small (subst IsUtf8 h.0 n.utf8))
      ∙ ncname_fails (chars p.0) (chars p.1) k e f))

no_colon : (bytes : List ℕ) → IsNcnameText bytes → AllByRecursion (λ c. c ≢ 58) bytes
no_colon bytes n = ncname_without 58 bytes (lit< tt) refl refl n

no_space_in : (bytes : List ℕ) → IsNcnameText bytes → AllByRecursion (λ c. c ≢ 32) bytes
no_space_in bytes n = ncname_without 32 bytes (lit< tt) refl refl n

-- ---- names

pub name_is : {bytes : List ℕ} {name : QName} → IsName bytes name → (is_name bytes ≡ true) × (written_of bytes ≡ name)
unfolding is_name written_of
name_is (alone {local} n) = rw (at_none 58 local (no_colon local n), n.ncname) (refl, refl)
name_is (prefixed {text = bytes} {prefix = p} {local} m n e) = rw (e, at_seam 58 p local (no_colon p m), m.ncname, n.ncname) (refl, refl)

pub name_has_no_space : {bytes : List ℕ} {name : QName} → IsName bytes name → AllByRecursion (λ c. c ≢ 32) bytes
name_has_no_space (alone {local} n) = no_space_in local n
name_has_no_space (prefixed {text = bytes} {prefix = p} {local} m n e) = subst (AllByRecursion (λ c. c ≢ 32)) (sym e)
    (all_append 32 p (58 ∷ local) (no_space_in p m) (differs 58 32 refl, no_space_in local n))

name_by : (bytes : List ℕ) (o : Option (List ℕ × List ℕ)) → IsUtf8 bytes → Found 58 bytes o → are_ncnames o bytes ≡ true → IsName bytes (cut_name o bytes)
name_by bytes None u f e = alone (record { utf8 = u; ncname = e })
name_by bytes (Some p) u f e =
    let parts = utf8_parts p.0 p.1 58 (lit< tt) (subst IsUtf8 f.0 u) in
    let good = and_parts (is_ncname (chars p.0)) (is_ncname (chars p.1)) e in
    prefixed (record { utf8 = parts.0; ncname = good.0 }) (record { utf8 = parts.1; ncname = good.1 }) f.0

pub good_name : (bytes : List ℕ) → IsUtf8 bytes → is_name bytes ≡ true → IsName bytes (written_of bytes)
unfolding is_name written_of
good_name bytes u e = name_by bytes (at_byte 58 bytes) u (found 58 bytes) e
