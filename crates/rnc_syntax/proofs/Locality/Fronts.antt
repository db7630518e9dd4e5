-- The result of a reader depends only on the tokens it read and on the next one: tests of the first token.
use Rattle.std.proofs.Common.{◌≡◌, ◌≤◌, Bool, true, false, List, [], ◌∷◌, ◌++◌, length, Option, Some, None, Ok, refl, sym, ap, subst, ◌∙◌, arith, if◌then◌else◌}
use Rattle.std.proofs.lemmas.List.{length-append}
use Rattle.rnc_model.specs.declared.token.Keyword.{Keyword}
use Rattle.rnc_model.specs.declared.token.Sign.{Sign}
use Rattle.rnc_model.specs.tokens.Cut.{Lexeme, keyword, sign}
use Rattle.rnc_syntax.specs.plain.Combinators.{Outcome, same_sign, follow, same_keyword, follow_keyword, either_way}
use Rattle.rnc_syntax.proofs.Locality.{SameHead, SameHead-behind, LocalAt, reads, stuck, deep, IsLocal, ok_local, cons_local, none_local}

module _ {A : Type 0} (read deeper by deeper_by : List Lexeme → Outcome A) (ts : List Lexeme) where
  moved : (front rest other : List Lexeme) → ((other : List Lexeme) → SameHead ts other → deeper other ≡ deeper_by other) → ts ≡ front ++ rest
      → SameHead rest other → deeper (front ++ other) ≡ deeper_by (front ++ other)
  moved front rest other f parts h = f (front ++ other) (subst (λ (r : List Lexeme). SameHead r (front ++ other)) (sym parts)
      (SameHead-behind front rest other h))

  -- a reader that equals another one wherever the same token is first
  pub same_local : read ts ≡ by ts → ((other : List Lexeme) → SameHead ts other → deeper other ≡ deeper_by other) → LocalAt by deeper_by ts
      → LocalAt read deeper ts
  same_local e f (reads x front rest parts is same) = reads x front rest parts (e ∙ is) (λ other h. moved front rest other f parts h ∙ same other h)
  same_local e f (stuck front rest parts is same) = stuck front rest parts (e ∙ is) (λ other h. moved front rest other f parts h ∙ same other h)
  same_local e f (deep is) = deep (e ∙ is)

-- a reader that equals another one if no token is left
pub end_local : {A : Type 0} (read deeper by deeper_by : List Lexeme → Outcome A) → read [] ≡ by [] → deeper [] ≡ deeper_by [] → LocalAt by deeper_by []
    → LocalAt read deeper []
end_local read deeper by deeper_by e f = same_local read deeper by deeper_by [] e (λ other h. at_end other h) where
  at_end : (other : List Lexeme) → SameHead [] other → deeper other ≡ deeper_by other
  at_end [] h = f
  at_end (y ∷ ys) h = absurd h

module _ {A : Type 0} (read deeper by deeper_by : List Lexeme → Outcome A) (t : Lexeme) (ts : List Lexeme) where
  -- a reader that equals another one wherever this token is first
  pub token_local : ((us : List Lexeme) → read (t ∷ us) ≡ by (t ∷ us)) → ((us : List Lexeme) → deeper (t ∷ us) ≡ deeper_by (t ∷ us))
      → LocalAt by deeper_by (t ∷ ts) → LocalAt read deeper (t ∷ ts)
  token_local e f = same_local read deeper by deeper_by (t ∷ ts) (e ts) (λ other h. by_token other h) where
    by_token : (other : List Lexeme) → SameHead (t ∷ ts) other → deeper other ≡ deeper_by other
    by_token [] h = absurd h
    by_token (y ∷ ys) h = subst (λ (y : Lexeme). deeper (y ∷ ys) ≡ deeper_by (y ∷ ys)) h (f ys)

ok_rest : {A : Type 0} (x : A) (rest : List Lexeme) (y : A × List Lexeme) → ◌≡◌ {A = Outcome A} (Ok (x, rest)) (Ok y) → length rest ≡ length y.1
ok_rest x rest y e = cc

-- a reader leaves no more than it got
pub shortens : {A : Type 0} (read deeper : List Lexeme → Outcome A) (ts : List Lexeme) (x : A × List Lexeme) → LocalAt read deeper ts → read ts ≡ Ok x
    → length x.1 ≤ length ts
shortens read deeper ts x (reads y front rest parts is same) e = omega (arith, ok_rest y rest x (sym is ∙ e), ap length parts, length-append front rest)
shortens read deeper ts x (stuck front rest parts is same) e = absurd cc
shortens read deeper ts x (deep is) e = absurd cc

-- ---- a test of the first token

module _ {A : Type 0} (test : List Lexeme → Bool) (heads : (a b : List Lexeme) → SameHead a b → test a ≡ test b)
    (yes_read no_read yes_deeper no_deeper : List Lexeme → Outcome A) (ts : List Lexeme) where
  by_test : (b : Bool) → test ts ≡ b → LocalAt yes_read yes_deeper ts → LocalAt no_read no_deeper ts
      → LocalAt (λ ts. if test ts then yes_read ts else no_read ts) (λ ts. if test ts then yes_deeper ts else no_deeper ts) ts
  by_test true e yes_local no_local = same_local (λ ts. if test ts then yes_read ts else no_read ts) (λ ts. if test ts then yes_deeper ts else no_deeper ts)
      yes_read yes_deeper ts (rw e refl) (λ other h. rw (sym (heads ts other h) ∙ e) refl) yes_local
  by_test false e yes_local no_local = same_local (λ ts. if test ts then yes_read ts else no_read ts) (λ ts. if test ts then yes_deeper ts else no_deeper ts)
      no_read no_deeper ts (rw e refl) (λ other h. rw (sym (heads ts other h) ∙ e) refl) no_local

  -- one reader or the other
  pub if_local : LocalAt yes_read yes_deeper ts → LocalAt no_read no_deeper ts → LocalAt (λ ts. if test ts then yes_read ts else no_read ts)
      (λ ts. if test ts then yes_deeper ts else no_deeper ts) ts
  if_local yes_local no_local = by_test (test ts) refl yes_local no_local

-- what a test of the first token returns for lists with equal beginnings
pub test_heads : {X : Type 0} (test : List Lexeme → X) → ((t : Lexeme) (us vs : List Lexeme) → test (t ∷ us) ≡ test (t ∷ vs)) → (a b : List Lexeme)
    → SameHead a b → test a ≡ test b
test_heads test same [] [] h = refl
test_heads test same [] (y ∷ b) h = absurd h
test_heads test same (x ∷ a) [] h = absurd h
test_heads test same (x ∷ a) (y ∷ b) h = subst (λ (y : Lexeme). test (x ∷ a) ≡ test (y ∷ b)) h (same x a b)

SameHead-sym : (a b : List Lexeme) → SameHead a b → SameHead b a
SameHead-sym [] [] h = tt
SameHead-sym (x ∷ xs) (y ∷ ys) h = sym h
SameHead-sym [] (y ∷ ys) h = absurd h
SameHead-sym (x ∷ xs) [] h = absurd h

some_way : {A X : Type 0} (o : Option X) (b c : A) → (o ≡ None → ⊥) → either_way o b (λ x. c) ≡ c
some_way None b c is = absurd (is refl)
some_way (Some x) b c is = refl

module _ {A X : Type 0} (next : List Lexeme → Option X) (heads : (a b : List Lexeme) → SameHead a b → next a ≡ None → next b ≡ None)
    (read deeper other deeper_other : List Lexeme → Outcome A) (ts : List Lexeme) where
  abbrev kept : List Lexeme → Outcome A
  kept us = either_way (next us) (read us) (λ x. other us)

  abbrev kept_deeper : List Lexeme → Outcome A
  kept_deeper us = either_way (next us) (deeper us) (λ x. deeper_other us)

  not_none : (o : Option X) (x : X) → o ≡ Some x → o ≡ None → ⊥
  not_none o x e f = absurd cc

  by_option : (o : Option X) → next ts ≡ o → LocalAt read deeper ts → LocalAt other deeper_other ts → LocalAt kept kept_deeper ts
  by_option None e l k = same_local kept kept_deeper read deeper ts (rw e refl) (λ us h. rw (heads ts us h e) refl) l
  by_option (Some x) e l k =
      same_local kept kept_deeper other deeper_other ts (some_way (next ts) (read ts) (other ts) (not_none (next ts) x e))
      (λ us h. some_way (next us) (deeper us) (deeper_other us) (λ none. not_none (next ts) x e (heads us ts (SameHead-sym ts us h) none))) k

  -- one reader or the other, where both read the token that is tested
  pub kept_local : LocalAt read deeper ts → LocalAt other deeper_other ts → LocalAt kept kept_deeper ts
  kept_local l k = by_option (next ts) refl l k

-- with this first token a test fails, or returns what is made of the tokens after it, which are read alike
pub data FrontAt {A X : Type 0} (next : List Lexeme → Option X) (f g : X → Outcome A) (t : Lexeme) : Type 0 where
  closes : ((us : List Lexeme) → next (t ∷ us) ≡ None) → FrontAt next f g t
  opens : (part : List Lexeme → X) → ((us : List Lexeme) → next (t ∷ us) ≡ Some (part us)) → IsLocal (λ us. f (part us)) (λ us. g (part us))
      → FrontAt next f g t

module _ {A X : Type 0} (next : List Lexeme → Option X) (nothing : next [] ≡ None) (f g : X → Outcome A) (fronts : (t : Lexeme) → FrontAt next f g t) where
  closed_at : (t : Lexeme) (us vs : List Lexeme) → FrontAt next f g t → next (t ∷ us) ≡ None → next (t ∷ vs) ≡ None
  closed_at t us vs (closes e) is = e vs
  closed_at t us vs (opens part e l) is = absurd (let q = e us in cc)

  pub heads_closed : (a b : List Lexeme) → SameHead a b → next a ≡ None → next b ≡ None
  heads_closed [] [] h is = nothing
  heads_closed [] (y ∷ b) h is = absurd h
  heads_closed (x ∷ a) [] h is = absurd h
  heads_closed (x ∷ a) (y ∷ b) h is = subst (λ (y : Lexeme). next (y ∷ b) ≡ None) h (closed_at x a b (fronts x) is)

  module _ (read deeper : List Lexeme → Outcome A) where
    front_local : (t : Lexeme) (ts : List Lexeme) → FrontAt next f g t → LocalAt read deeper (t ∷ ts) → LocalAt (λ ts. either_way (next ts) (read ts) f)
        (λ ts. either_way (next ts) (deeper ts) g) (t ∷ ts)
    front_local t ts (closes e) l = none_local next heads_closed read deeper f g (t ∷ ts) (e ts) l
    front_local t ts (opens part e l) other = cons_local (λ ts. either_way (next ts) (read ts) f) (λ ts. either_way (next ts) (deeper ts) g) (λ us. f (part us))
        (λ us. g (part us)) t ts (λ us. rw (e us) refl) (λ us. rw (e us) refl) (l ts)

    -- what is read if the test fails, or the function of what it returns
    pub either_local : (ts : List Lexeme) → LocalAt read deeper ts → LocalAt (λ ts. either_way (next ts) (read ts) f) (λ ts. either_way (next ts) (deeper ts) g)
        ts
    either_local [] l = none_local next heads_closed read deeper f g [] nothing l
    either_local (t ∷ ts) l = front_local t ts (fronts t) l

-- ---- a sign or a keyword at the front

module _ {A : Type 0} (f g : List Lexeme → Outcome A) (l : IsLocal f g) where
  sign_front : (s r : Sign) (b : Bool) → same_sign r s ≡ b → FrontAt (follow s) f g (sign r)
  sign_front s r true e = opens (λ us. us) (λ us. rw e refl) l
  sign_front s r false e = closes (λ us. rw e refl)

  pub follow_front : (s : Sign) (t : Lexeme) → FrontAt (follow s) f g t
  follow_front s (sign r) = sign_front s r (same_sign r s) refl
  follow_front s t = closes (λ us. refl)

  keyword_front : (k j : Keyword) (b : Bool) → same_keyword j k ≡ b → (s : _) → FrontAt (follow_keyword k) f g (keyword j s)
  keyword_front k j true e s = opens (λ us. us) (λ us. rw e refl) l
  keyword_front k j false e s = closes (λ us. rw e refl)

  pub follow_keyword_front : (k : Keyword) (t : Lexeme) → FrontAt (follow_keyword k) f g t
  follow_keyword_front k (keyword j s) = keyword_front k j (same_keyword j k) refl s
  follow_keyword_front k t = closes (λ us. refl)

-- a sign is first in both of two lists with equal beginnings, or in neither
pub follow_heads : (s : Sign) (a b : List Lexeme) → SameHead a b → follow s a ≡ None → follow s b ≡ None
follow_heads s = heads_closed (follow s) refl (λ us. Ok (true, us)) (λ us. Ok (true, us))
    (follow_front (λ us. Ok (true, us)) (λ us. Ok (true, us)) (ok_local true) s)
