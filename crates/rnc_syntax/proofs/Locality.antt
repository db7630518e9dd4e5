-- The result of a reader depends only on the tokens it read and on the next one: the steps of which readers consist.
pub mod Fronts
pub mod Items
pub mod Annotations
pub mod Literals
pub mod Classes
pub mod Primaries
pub mod Patterns
pub mod Components
pub mod Files
use Rattle.std.proofs.Common.{◌≡◌, Bool, true, false, List, [], ◌∷◌, ◌++◌, length, Option, None, Ok, Err, refl, sym, ap, subst, ◌∙◌, append_assoc}
use Rattle.rnc_model.specs.declared.token.Sign.{Sign}
use Rattle.rnc_syntax.specs.declared.fault.Stop.TheVariants.{Unexpected, TooDeep}
use Rattle.rnc_model.specs.tokens.Cut.{Lexeme, keyword, identifier, cname, ns_name, segment, sign}
use Rattle.rnc_syntax.specs.plain.Combinators.{Outcome, ◌>>=◌, unexpected, same_sign, after, word_at, identifier_at, segment_at, either_way}

-- both are empty, or have the same first token
abbrev pub SameHead : List Lexeme → List Lexeme → Type 0
SameHead [] [] = Unit {0}
SameHead (x ∷ xs) (y ∷ ys) = x ≡ y
SameHead _ _ = ⊥

pub SameHead-refl : (ts : List Lexeme) → SameHead ts ts
SameHead-refl [] = tt
SameHead-refl (x ∷ xs) = refl

pub SameHead-behind : (front a b : List Lexeme) → SameHead a b → SameHead (front ++ a) (front ++ b)
SameHead-behind [] a b h = h
SameHead-behind (x ∷ xs) a b h = refl

-- What `read` returns for `ts`, `deeper` returns wherever the tokens that were read come before the same token: the
-- same value, or the same stuck token. If `read` finds the tokens too deep, nothing is claimed.
pub data LocalAt {A : Type 0} (read deeper : List Lexeme → Outcome A) (ts : List Lexeme) : Type 0 where
  reads : (x : A) (front rest : List Lexeme) → ts ≡ front ++ rest → read ts ≡ Ok (x, rest)
      → ((other : List Lexeme) → SameHead rest other → deeper (front ++ other) ≡ Ok (x, other)) → LocalAt read deeper ts
  stuck : (front rest : List Lexeme) → ts ≡ front ++ rest → read ts ≡ Err (Unexpected (length rest))
      → ((other : List Lexeme) → SameHead rest other → deeper (front ++ other) ≡ Err (Unexpected (length other))) → LocalAt read deeper ts
  deep : read ts ≡ Err TooDeep → LocalAt read deeper ts

abbrev pub IsLocal : {A : Type 0} → (List Lexeme → Outcome A) → (List Lexeme → Outcome A) → Type 0
IsLocal read deeper = (ts : List Lexeme) → LocalAt read deeper ts

pub ok_local : {A : Type 0} (x : A) → IsLocal (λ ts. Ok (x, ts)) (λ ts. Ok (x, ts))
ok_local x ts = reads x [] ts refl refl (λ other h. refl)

pub deep_local : {A : Type 0} (deeper : List Lexeme → Outcome A) → IsLocal (λ ts. Err TooDeep) deeper
deep_local deeper ts = deep refl

module _ {A : Type 0} (read deeper : List Lexeme → Outcome A) where
  pub stuck_end : read [] ≡ unexpected [] → deeper [] ≡ unexpected [] → LocalAt read deeper []
  stuck_end e f = stuck [] [] refl e the_end where
    the_end : (other : List Lexeme) → SameHead [] other → deeper other ≡ Err (Unexpected (length other))
    the_end [] h = f
    the_end (y ∷ ys) h = absurd h

  pub stuck_front : (t : Lexeme) (ts : List Lexeme) → ((us : List Lexeme) → read (t ∷ us) ≡ unexpected (t ∷ us))
      → ((us : List Lexeme) → deeper (t ∷ us) ≡ unexpected (t ∷ us)) → LocalAt read deeper (t ∷ ts)
  stuck_front t ts e f = stuck [] (t ∷ ts) refl (e ts) the_front where
    the_front : (other : List Lexeme) → SameHead (t ∷ ts) other → deeper other ≡ Err (Unexpected (length other))
    the_front [] h = absurd h
    the_front (y ∷ ys) h = subst (λ (y : Lexeme). deeper (y ∷ ys) ≡ Err (Unexpected (length (y ∷ ys)))) h (f ys)

  -- after a token that is read
  pub cons_local : (then then_deeper : List Lexeme → Outcome A) (t : Lexeme) (ts : List Lexeme) → ((us : List Lexeme) → read (t ∷ us) ≡ then us)
      → ((us : List Lexeme) → deeper (t ∷ us) ≡ then_deeper us) → LocalAt then then_deeper ts → LocalAt read deeper (t ∷ ts)
  cons_local then then_deeper t ts e f (reads x front rest parts is same) = reads x (t ∷ front) rest (ap (λ (r : List Lexeme). t ∷ r) parts) (e ts ∙ is)
      (λ other h. f (front ++ other) ∙ same other h)
  cons_local then then_deeper t ts e f (stuck front rest parts is same) = stuck (t ∷ front) rest (ap (λ (r : List Lexeme). t ∷ r) parts) (e ts ∙ is)
      (λ other h. f (front ++ other) ∙ same other h)
  cons_local then then_deeper t ts e f (deep is) = deep (e ts ∙ is)

-- one step, and then the next
module _ {A B : Type 0} (read deeper : List Lexeme → Outcome A) (f g : A → List Lexeme → Outcome B) (ts : List Lexeme) where
  abbrev both : List Lexeme → Outcome B
  both us = read us >>= λ p. f p.0 p.1

  abbrev both_deeper : List Lexeme → Outcome B
  both_deeper us = deeper us >>= λ p. g p.0 p.1

  second_parts : (front rest a b : List Lexeme) → ts ≡ front ++ rest → rest ≡ a ++ b → ts ≡ (front ++ a) ++ b
  second_parts front rest a b e h = e ∙ ap (λ (r : List Lexeme). front ++ r) h ∙ sym (append_assoc front a b)

  second_same : (x : A) (front rest a b other : List Lexeme) (y : Outcome B) → rest ≡ a ++ b
      → ((other : List Lexeme) → SameHead rest other → deeper (front ++ other) ≡ Ok (x, other)) → SameHead b other → g x (a ++ other) ≡ y
      → both_deeper ((front ++ a) ++ other) ≡ y
  second_same x front rest a b other y e same h is =
      let s : SameHead rest (a ++ other) = subst (λ (r : List Lexeme). SameHead r (a ++ other)) (sym e) (SameHead-behind a b other h) in
      ap both_deeper (append_assoc front a other) ∙ ap (λ (r : Outcome A). r >>= λ p. g p.0 p.1) (same (a ++ other) s) ∙ is

  then_local : (x : A) (front rest : List Lexeme) → ts ≡ front ++ rest → read ts ≡ Ok (x, rest)
      → ((other : List Lexeme) → SameHead rest other → deeper (front ++ other) ≡ Ok (x, other)) → LocalAt (f x) (g x) rest → LocalAt both both_deeper ts
  then_local x front rest parts is same (reads y a b e then h) = reads y (front ++ a) b (second_parts front rest a b parts e)
      (ap (λ (r : Outcome A). r >>= λ p. f p.0 p.1) is ∙ then) (λ other s. second_same x front rest a b other (Ok (y, other)) e same s (h other s))
  then_local x front rest parts is same (stuck a b e then h) = stuck (front ++ a) b (second_parts front rest a b parts e)
      (ap (λ (r : Outcome A). r >>= λ p. f p.0 p.1) is ∙ then) (λ other s. second_same x front rest a b other (Err (Unexpected (length other))) e same s
      (h other s))
  then_local x front rest parts is same (deep then) = deep (ap (λ (r : Outcome A). r >>= λ p. f p.0 p.1) is ∙ then)

  pub bind_local : LocalAt read deeper ts → ((x : A) (rest : List Lexeme) → read ts ≡ Ok (x, rest) → LocalAt (f x) (g x) rest) → LocalAt both both_deeper ts
  bind_local (reads x front rest parts is same) second = then_local x front rest parts is same (second x rest is)
  bind_local (stuck front rest parts is same) second = stuck front rest parts (ap (λ (r : Outcome A). r >>= λ p. f p.0 p.1) is)
      (λ other h. ap (λ (r : Outcome A). r >>= λ p. g p.0 p.1) (same other h))
  bind_local (deep is) second = deep (ap (λ (r : Outcome A). r >>= λ p. f p.0 p.1) is)

-- ---- single tokens

sign_local : (s r : Sign) (ts : List Lexeme) (b : Bool) → same_sign r s ≡ b → LocalAt (after s) (after s) (sign r ∷ ts)
unfolding after
sign_local s r ts true e = cons_local (after s) (after s) (λ us. Ok (tt, us)) (λ us. Ok (tt, us)) (sign r) ts (λ us. rw e refl) (λ us. rw e refl)
    (ok_local tt ts)
sign_local s r ts false e = stuck_front (after s) (after s) (sign r) ts (λ us. rw e refl) (λ us. rw e refl)

pub after_local : (s : Sign) → IsLocal (after s) (after s)
unfolding after
after_local s [] = stuck_end (after s) (after s) refl refl
after_local s (sign r ∷ ts) = sign_local s r ts (same_sign r s) refl
after_local s (keyword k w ∷ ts) = stuck_front (after s) (after s) (keyword k w) ts (λ us. refl) (λ us. refl)
after_local s (identifier w ∷ ts) = stuck_front (after s) (after s) (identifier w) ts (λ us. refl) (λ us. refl)
after_local s (cname p l ∷ ts) = stuck_front (after s) (after s) (cname p l) ts (λ us. refl) (λ us. refl)
after_local s (ns_name p ∷ ts) = stuck_front (after s) (after s) (ns_name p) ts (λ us. refl) (λ us. refl)
after_local s (segment w ∷ ts) = stuck_front (after s) (after s) (segment w) ts (λ us. refl) (λ us. refl)

pub word_local : IsLocal word_at word_at
unfolding word_at
word_local [] = stuck_end word_at word_at refl refl
word_local (identifier w ∷ ts) = cons_local word_at word_at (λ us. Ok (w, us)) (λ us. Ok (w, us)) (identifier w) ts (λ us. refl) (λ us. refl) (ok_local w ts)
word_local (keyword k s ∷ ts) = cons_local word_at word_at (λ us. Ok (s.text, us)) (λ us. Ok (s.text, us)) (keyword k s) ts (λ us. refl) (λ us. refl)
    (ok_local s.text ts)
word_local (cname p l ∷ ts) = stuck_front word_at word_at (cname p l) ts (λ us. refl) (λ us. refl)
word_local (ns_name p ∷ ts) = stuck_front word_at word_at (ns_name p) ts (λ us. refl) (λ us. refl)
word_local (segment w ∷ ts) = stuck_front word_at word_at (segment w) ts (λ us. refl) (λ us. refl)
word_local (sign s ∷ ts) = stuck_front word_at word_at (sign s) ts (λ us. refl) (λ us. refl)

pub identifier_local : IsLocal identifier_at identifier_at
unfolding identifier_at
identifier_local [] = stuck_end identifier_at identifier_at refl refl
identifier_local (identifier w ∷ ts) = cons_local identifier_at identifier_at (λ us. Ok (w, us)) (λ us. Ok (w, us)) (identifier w) ts (λ us. refl) (λ us. refl)
    (ok_local w ts)
identifier_local (t ∷ ts) = stuck_front identifier_at identifier_at t ts (λ us. refl) (λ us. refl)

pub segment_local : IsLocal segment_at segment_at
unfolding segment_at
segment_local [] = stuck_end segment_at segment_at refl refl
segment_local (segment w ∷ ts) = cons_local segment_at segment_at (λ us. Ok (w, us)) (λ us. Ok (w, us)) (segment w) ts (λ us. refl) (λ us. refl) (ok_local w ts)
segment_local (t ∷ ts) = stuck_front segment_at segment_at t ts (λ us. refl) (λ us. refl)

-- ---- a test of the first token

module _ {A X : Type 0} (next : List Lexeme → Option X) (heads : (a b : List Lexeme) → SameHead a b → next a ≡ None → next b ≡ None) (read deeper : List Lexeme
    → Outcome A) (f g : X → Outcome A) (ts : List Lexeme) (none : next ts ≡ None) where
  abbrev tested : List Lexeme → Outcome A
  tested us = either_way (next us) (read us) f

  abbrev tested_deeper : List Lexeme → Outcome A
  tested_deeper us = either_way (next us) (deeper us) g

  still : (front rest other : List Lexeme) → ts ≡ front ++ rest → SameHead rest other → next (front ++ other) ≡ None
  still front rest other e h = heads (front ++ rest) (front ++ other) (SameHead-behind front rest other h) (ap next (sym e) ∙ none)

  here : tested ts ≡ read ts
  here = rw none refl

  there : (front rest other : List Lexeme) → ts ≡ front ++ rest → SameHead rest other → tested_deeper (front ++ other) ≡ deeper (front ++ other)
  there front rest other e h = rw (still front rest other e h) refl

  -- what is read if the test fails
  pub none_local : LocalAt read deeper ts → LocalAt tested tested_deeper ts
  none_local (reads x front rest parts is same) = reads x front rest parts (here ∙ is) (λ other h. there front rest other parts h ∙ same other h)
  none_local (stuck front rest parts is same) = stuck front rest parts (here ∙ is) (λ other h. there front rest other parts h ∙ same other h)
  none_local (deep is) = deep (here ∙ is)
