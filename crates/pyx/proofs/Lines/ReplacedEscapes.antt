-- Replacing escapes from one backslash to the next.
use Rattle.std.proofs.Common.{◌≡◌, ℕ, ◌<◌, suc, List, [], ◌∷◌, ◌++◌, length, Option, Some, None, refl, cond, eqb, ap, sym, arith, Bool, true, false}
use Rattle.std.proofs.Common.{append_assoc, lit<}
use Rattle.pyx.proofs.Input.LinesOfPieces.{some_pair}
use Rattle.pyx.specs.plain.Cuts.{at_byte, at_front, behind}
use Rattle.pyx.specs.plain.Escapes.{escape_of, unescaped, escaped, in_front}

pub in_front_twice : (a b : List ℕ) (o : Option (List ℕ)) → in_front a (in_front b o) ≡ in_front (a ++ b) o
in_front_twice a b None = refl
in_front_twice a b (Some x) = ap Some (sym (append_assoc a b x))

-- without a backslash the text is unchanged
pub unescaped_plain : (bs : List ℕ) → at_byte 92 bs ≡ None → unescaped bs ≡ Some bs
unfolding unescaped at_byte
unescaped_plain [] e = refl
unescaped_plain (c ∷ cs) e = go (eqb c 92) (at_byte 92 cs) e (unescaped_plain cs) where
  go : (b : Bool) (o : Option (List ℕ × List ℕ)) → cond b (Some ([], cs)) (at_front c o) ≡ None → (o ≡ None → unescaped cs ≡ Some cs)
      → cond b (escaped cs) (in_front (c ∷ []) (unescaped cs)) ≡ Some (c ∷ cs)
  go true o e more = absurd cc
  go false None e more = rw (more refl) refl
  go false (Some p) e more = absurd cc

nothing_in_front : (o : Option (List ℕ)) → in_front [] o ≡ o
nothing_in_front None = refl
nothing_in_front (Some x) = refl

-- up to the first backslash
pub unescaped_front : (bs front after : List ℕ) → at_byte 92 bs ≡ Some (front, after)
    → (unescaped bs ≡ in_front front (escaped after)) × (length after < length bs)
unfolding unescaped at_byte
unescaped_front [] front after e = absurd cc
unescaped_front (c ∷ cs) front after e = go (eqb c 92) (at_byte 92 cs) e (unescaped_front cs) where
  go : (b : Bool) (o : Option (List ℕ × List ℕ)) → cond b (Some ([], cs)) (at_front c o) ≡ Some (front, after)
      → ((front after : List ℕ) → o ≡ Some (front, after) → (unescaped cs ≡ in_front front (escaped after)) × (length after < length cs))
      → (cond b (escaped cs) (in_front (c ∷ []) (unescaped cs)) ≡ in_front front (escaped after)) × (length after < suc (length cs))
  go true o e more = let r = some_pair [] cs front after e in let p = r.0 in let q = r.1 in
      (rw (← p, ← q) (sym (nothing_in_front (escaped cs))), rw (← q) (omega arith))
  go false None e more = absurd cc
  go false (Some p) e more = let k = more p.0 p.1 refl in let q = some_pair (c ∷ p.0) p.1 front after e in let x = q.0 in let y = q.1 in
      (rw (k.0, ← x, ← y) (in_front_twice (c ∷ []) p.0 (escaped p.1)), rw (← y) (omega (arith, k.1)))

abbrev escaped_as : Option (ℕ × List ℕ) → Option (List ℕ)
escaped_as None = None
escaped_as (Some p) = in_front (p.0 ∷ []) (unescaped p.1)

escaped_by : (bs : List ℕ) → escaped bs ≡ escaped_as (escape_of bs)
unfolding unescaped
escaped_by [] = refl
escaped_by (c ∷ cs) = go (eqb c 110) (eqb c 116) (eqb c 92) where
  go : (x y z : Bool) → cond x (in_front (10 ∷ []) (unescaped cs)) (cond y (in_front (9 ∷ []) (unescaped cs))
      (cond z (in_front (92 ∷ []) (unescaped cs)) None)) ≡ escaped_as (cond {A = Option (ℕ × List ℕ)} x (Some (10, cs))
      (cond {A = Option (ℕ × List ℕ)} y (Some (9, cs)) (cond {A = Option (ℕ × List ℕ)} z (Some (92, cs)) None)))
  go true y z = refl
  go false true z = refl
  go false false true = refl
  go false false false = refl

pub escape_small : (bs : List ℕ) (c : ℕ) (rest : List ℕ) → escape_of bs ≡ Some (c, rest) → (c < 128) × (length rest < length bs)
escape_small [] c rest e = absurd cc
escape_small (d ∷ cs) c rest e = go (eqb d 110) (eqb d 116) (eqb d 92) e where
  end : (k : ℕ) → k < 128 → ◌≡◌ {A = Option (ℕ × List ℕ)} (Some (k, cs)) (Some (c, rest)) → (c < 128) × (length rest < suc (length cs))
  end k small e = let q = some_pair k cs c rest e in (rw (← q.0) small, rw (← q.1) (omega arith))

  go : (x y z : Bool) → cond {A = Option (ℕ × List ℕ)} x (Some (10, cs)) (cond {A = Option (ℕ × List ℕ)} y (Some (9, cs))
      (cond {A = Option (ℕ × List ℕ)} z (Some (92, cs)) None)) ≡ Some (c, rest) → (c < 128) × (length rest < suc (length cs))
  go true y z e = end 10 (lit< tt) e
  go false true z e = end 9 (lit< tt) e
  go false false true e = end 92 (lit< tt) e
  go false false false e = absurd cc

-- one escape, and the next
pub unescape_step : (value rest front after next : List ℕ) (c : ℕ) → Some (front, after) ≡ at_byte 92 rest → Some (c, next) ≡ escape_of after
    → in_front value (unescaped rest) ≡ in_front ((value ++ front) ++ c ∷ []) (unescaped next)
unescape_step value rest front after next c e f =
    let k = unescaped_front rest front after (sym e) in
    rw (k.0, escaped_by after, ← f, in_front_twice, in_front_twice, append_assoc) refl

pub unescape_stuck : (rest front after : List ℕ) → Some (front, after) ≡ at_byte 92 rest → None ≡ escape_of after → unescaped rest ≡ None
unescape_stuck rest front after e f =
    let k = unescaped_front rest front after (sym e) in
    rw (k.0, escaped_by after, ← f) refl

pub unescape_shortens : (rest front after next : List ℕ) (c : ℕ) → Some (front, after) ≡ at_byte 92 rest → Some (c, next) ≡ escape_of after
    → length next < length rest
unescape_shortens rest front after next c e f =
    let k = unescaped_front rest front after (sym e) in
    let n = escape_small after c next (sym f) in omega (arith, k.1, n.1)

pub unescape_ends : (value rest : List ℕ) → None ≡ at_byte 92 rest → in_front value (unescaped rest) ≡ Some (value ++ rest)
unescape_ends value rest e = rw (unescaped_plain rest (sym e)) refl

some_is : {A : Type 0} {x y : A} → Some x ≡ Some y → y ≡ x
some_is e = cc

-- ---- parts of a text without a backslash

pub literal_behind : (k : ℕ) (line rest : List ℕ) → Some rest ≡ behind k line → at_byte 92 line ≡ None → at_byte 92 rest ≡ None
unfolding at_byte
literal_behind k [] rest e h = absurd cc
literal_behind k (c ∷ cs) rest e h = go (eqb c k) (eqb c 92) (at_byte 92 cs) refl e h where
  go : (x y : Bool) (o : Option (List ℕ × List ℕ)) → at_byte 92 cs ≡ o → Some rest ≡ cond x (Some cs) None → cond y (Some ([], cs)) (at_front c o) ≡ None
      → at_byte 92 rest ≡ None
  go false y o q e h = absurd cc
  go true true o q e h = absurd cc
  go true false (Some p) q e h = absurd cc
  go true false None q e h = let same : cs ≡ rest = some_is e in rw (← same) q

pub literal_after : (k : ℕ) (bytes front after : List ℕ) → Some (front, after) ≡ at_byte k bytes → at_byte 92 bytes ≡ None → at_byte 92 after ≡ None
unfolding at_byte
literal_after k [] front after e h = absurd cc
literal_after k (c ∷ cs) front after e h = go (eqb c k) (eqb c 92) (at_byte k cs) (at_byte 92 cs) refl e h (literal_after k cs) where
  go : (x y : Bool) (o p : Option (List ℕ × List ℕ)) → at_byte 92 cs ≡ p → Some (front, after) ≡ cond x (Some ([], cs)) (at_front c o)
      → cond y (Some ([], cs)) (at_front c p) ≡ None
      → ((front after : List ℕ) → Some (front, after) ≡ o → at_byte 92 cs ≡ None → at_byte 92 after ≡ None) → at_byte 92 after ≡ None
  go x true o p q e h more = absurd cc
  go x false o (Some r) q e h more = absurd cc
  go true false o None q e h more = let same = (some_pair [] cs front after (sym e)).1 in rw (← same) q
  go false false None None q e h more = absurd cc
  go false false (Some r) None q e h more =
      let same = (some_pair (c ∷ r.0) r.1 front after (sym e)).1 in rw (← same) (more r.0 r.1 refl q)
