-- Sequences of steps and of items: the invariant of a loop over them.
use Rattle.std.proofs.Common.{◌≡◌, ℕ, zero, suc, ◌≤◌, ◌<◌, List, [], ◌∷◌, ◌++◌, length, Option, Some, None, Result, Ok, Err, refl, sym, ap, ◌∙◌, append_assoc}
use Rattle.std.proofs.Common.{arith}
use Rattle.rnc_syntax.specs.declared.fault.Stop.{Stop}
use Rattle.rnc_syntax.specs.declared.fault.ReadFault.{ReadFault}
use Rattle.rnc_syntax.specs.declared.fault.ReadFault.TheVariants as read_faults
use Rattle.rnc_model.specs.tokens.Cut.{Lexeme}
use Rattle.rnc_syntax.specs.plain.Combinators.{Outcome, ◌>>=◌, many_with, many, with_front}
use Rattle.rng_model.specs.plain.Answers.{Refuses}
use Rattle.rnc_syntax.specs.views.Fault.{stop_of}

-- steps are associative
pub bind_bind : {A B C : Type 0} (r : Result A Stop) (f : A → Result B Stop) (g : B → Result C Stop) → ((r >>= f) >>= g) ≡ (r >>= λ x. f x >>= g)
bind_bind (Ok x) f g = refl
bind_bind (Err e) f g = refl

-- nothing before
pub nothing_before : {A : Type 0} (r : Outcome (List A)) → with_front [] r ≡ r
nothing_before (Ok x) = refl
nothing_before (Err e) = refl

module _ {A : Type 0} (next : List Lexeme → Option (List Lexeme)) (item : List Lexeme → Outcome A) where
  pub opened : (k : ℕ) (ts us : List Lexeme) → next ts ≡ Some us → many_with next item (suc k) ts ≡ (item us >>= λ x. many_with next item k x.1
      >>= λ rest. Ok (x.0 ∷ rest.0, rest.1))
  unfolding many_with
  opened k ts us is = rw is refl

  pub closed : (k : ℕ) (ts : List Lexeme) → next ts ≡ None → many_with next item k ts ≡ Ok ([], ts)
  unfolding many_with
  closed zero ts is = refl
  closed (suc k) ts is = rw is refl

-- The items before and those that are read from these tokens are `total`; enough steps are left for all tokens.
pub record Goes {A : Type 0} (next : List Lexeme → Option (List Lexeme)) (item : List Lexeme → Outcome A) (front : List A) (ts : List Lexeme)
    (total : Outcome (List A)) : Type 0 where
  pub most : ℕ
  pub enough : length ts ≤ most
  pub whole : with_front front (many_with next item most ts) ≡ total

module _ {A : Type 0} (next : List Lexeme → Option (List Lexeme)) (item : List Lexeme → Outcome A) where
  pub begins : (ts : List Lexeme) → Goes next item [] ts (many next item ts)
  begins ts = record { most = length ts; enough = omega arith; whole = nothing_before (many_with next item (length ts) ts) }

  pub begins_with : (front : List A) (ts : List Lexeme) → Goes next item front ts (with_front front (many next item ts))
  begins_with front ts = record { most = length ts; enough = omega arith; whole = refl }

  one_more : (front : List A) (a : A) (r : Outcome (List A)) → with_front front (r >>= λ rest. Ok (a ∷ rest.0, rest.1)) ≡ with_front (front ++ a ∷ []) r
  one_more front a (Ok x) = rw (append_assoc front (a ∷ []) x.0) refl
  one_more front a (Err e) = refl

  goes_on_at : (k : ℕ) (front : List A) (ts us rest : List Lexeme) (a : A) (total : Outcome (List A)) → next ts ≡ Some us → item us ≡ Ok (a, rest)
      → length rest < length ts → length ts ≤ suc k → with_front front (many_with next item (suc k) ts) ≡ total → Goes next item (front ++ a ∷ []) rest total
  goes_on_at k front ts us rest a total is read less enough whole = record {
    most = k;
    enough = omega (arith, less, enough);
    whole = sym (one_more front a (many_with next item k rest))
        ∙ ap (with_front front) (sym (opened next item k ts us is ∙ ap (λ (r : Outcome A). r >>= λ x. many_with next item k x.1
        >>= λ rest. Ok (x.0 ∷ rest.0, rest.1)) read)) ∙ whole;
  }

  goes_on_with : (most : ℕ) (front : List A) (ts us rest : List Lexeme) (a : A) (total : Outcome (List A)) → next ts ≡ Some us → item us ≡ Ok (a, rest)
      → length rest < length ts → length ts ≤ most → with_front front (many_with next item most ts) ≡ total → Goes next item (front ++ a ∷ []) rest total
  goes_on_with zero front ts us rest a total is read less enough whole = absurd (omega (arith, less, enough))
  goes_on_with (suc k) front ts us rest a total is read less enough whole = goes_on_at k front ts us rest a total is read less enough whole

  -- one item more
  pub goes_on : (front : List A) (ts us rest : List Lexeme) (a : A) (total : Outcome (List A)) → next ts ≡ Some us → item us ≡ Ok (a, rest)
      → length rest < length ts → Goes next item front ts total → Goes next item (front ++ a ∷ []) rest total
  goes_on front ts us rest a total is read less goes = goes_on_with goes.most front ts us rest a total is read less goes.enough goes.whole

  ends_at : (most : ℕ) (front : List A) (ts us : List Lexeme) (e : Stop) (total : Outcome (List A)) → next ts ≡ Some us → item us ≡ Err e → 0 < length ts
      → length ts ≤ most → with_front front (many_with next item most ts) ≡ total → total ≡ Err e
  ends_at zero front ts us e total is read some enough whole = absurd (omega (arith, some, enough))
  ends_at (suc k) front ts us e total is read some enough whole = sym whole
      ∙ ap (with_front front) (opened next item k ts us is ∙ ap (λ (r : Outcome A). r >>= λ x. many_with next item k x.1 >>= λ rest. Ok (x.0 ∷ rest.0, rest.1))
      read)

  -- an item that cannot be read
  pub ends : (front : List A) (ts us : List Lexeme) (e : Stop) (total : Outcome (List A)) → next ts ≡ Some us → item us ≡ Err e → 0 < length ts
      → Goes next item front ts total → total ≡ Err e
  ends front ts us e total is read some goes = ends_at goes.most front ts us e total is read some goes.enough goes.whole

  not_at_end : (ts us : List Lexeme) → next [] ≡ None → next ts ≡ Some us → 0 < length ts
  not_at_end [] us none is = absurd cc
  not_at_end (x ∷ ts) us none is = omega arith

  -- the same for the fault of the code
  pub stops : (front : List A) (ts us : List Lexeme) (e : ReadFault) (total : Outcome (List A)) → next ts ≡ Some us → Refuses (stop_of e) (item us)
      → next [] ≡ None → Goes next item front ts total → Refuses (stop_of e) total
  stops front ts us read_faults.Memory total is read none goes = tt
  stops front ts us (read_faults.Stop e) total is read none goes = ends front ts us e total is read (not_at_end ts us none is) goes

  append-nil : (xs : List A) → xs ++ [] ≡ xs
  append-nil [] = refl
  append-nil (x ∷ xs) = ap (λ (ys : List A). x ∷ ys) (append-nil xs)

  -- no more items
  pub is_done : (front : List A) (ts : List Lexeme) (total : Outcome (List A)) → next ts ≡ None → Goes next item front ts total → total ≡ Ok (front, ts)
  is_done front ts total is goes = sym goes.whole ∙ ap (with_front front) (closed next item goes.most ts is)
      ∙ ap (λ (xs : List A). Ok (xs, ts)) (append-nil front)
