-- The result for a list of items depends only on the tokens read and on the next one, if this is so for each item.
use Rattle.std.proofs.Common.{◌≡◌, ℕ, zero, suc, ◌<◌, ◌≤◌, List, [], ◌∷◌, length, Option, Some, None, Result, Ok, Err, refl, sym, ap, ◌∙◌, arith}
use Rattle.rnc_syntax.specs.declared.fault.Stop.{Stop}
use Rattle.rnc_model.specs.tokens.Cut.{Lexeme}
use Rattle.rnc_syntax.specs.plain.Combinators.{Outcome, ◌>>=◌, many_with, many}
use Rattle.rnc_syntax.proofs.ReadItems.{opened, closed}
use Rattle.rnc_syntax.proofs.Locality.{LocalAt, reads, IsLocal, ok_local, cons_local, bind_local}
use Rattle.rnc_syntax.proofs.Locality.Fronts.{same_local, shortens, FrontAt, closes, opens, heads_closed}

bind_same : {A B : Type 0} (r : Result A Stop) (f g : A → Result B Stop) → ((x : A) → r ≡ Ok x → f x ≡ g x) → (r >>= f) ≡ (r >>= g)
bind_same (Ok x) f g h = h x refl
bind_same (Err e) f g h = refl

module _ {A : Type 0} (next : List Lexeme → Option (List Lexeme)) (item : List Lexeme → Outcome A) (nothing : next [] ≡ None)
    (takes : (ts us : List Lexeme) (x : A × List Lexeme) → next ts ≡ Some us → item us ≡ Ok x → length x.1 < length ts) where
  abbrev others : ℕ → A × List Lexeme → Outcome (List A)
  others k x = many_with next item k x.1 >>= λ rest. Ok (x.0 ∷ rest.0, rest.1)

  enough_step : (k l : ℕ) → ((ts : List Lexeme) → length ts ≤ k → length ts ≤ l → many_with next item k ts ≡ many_with next item l ts) → (ts : List Lexeme)
      → length ts ≤ suc k → length ts ≤ suc l → (o : Option (List Lexeme)) → next ts ≡ o → many_with next item (suc k) ts ≡ many_with next item (suc l) ts
  enough_step k l same ts a b None is = closed next item (suc k) ts is ∙ sym (closed next item (suc l) ts is)
  enough_step k l same ts a b (Some us) is =
      opened next item k ts us is ∙ bind_same (item us) (others k) (others l) (λ x e. let t = takes ts us x is e in
      ap (λ (r : Outcome (List A)). r >>= λ rest. Ok (x.0 ∷ rest.0, rest.1)) (same x.1 (omega (arith, a, t)) (omega (arith, b, t))))
      ∙ sym (opened next item l ts us is)

  -- enough steps give one result
  enough : (k l : ℕ) (ts : List Lexeme) → length ts ≤ k → length ts ≤ l → many_with next item k ts ≡ many_with next item l ts
  enough zero l [] a b = closed next item zero [] nothing ∙ sym (closed next item l [] nothing)
  enough zero l (t ∷ ts) a b = absurd (omega (arith, a))
  enough (suc k) zero [] a b = closed next item (suc k) [] nothing ∙ sym (closed next item zero [] nothing)
  enough (suc k) zero (t ∷ ts) a b = absurd (omega (arith, b))
  enough (suc k) (suc l) ts a b = enough_step k l (enough k l) ts a b (next ts) refl

  -- the first item, and then the others
  pub unrolled : (ts us : List Lexeme) → next ts ≡ Some us → many next item ts ≡ (item us >>= λ x. many next item x.1 >>= λ rest. Ok (x.0 ∷ rest.0, rest.1))
  unrolled [] us is = absurd cc
  unrolled (t ∷ ts) us is =
      opened next item (length ts) (t ∷ ts) us is ∙ bind_same (item us) (others (length ts)) (λ x. many next item x.1 >>= λ rest. Ok (x.0 ∷ rest.0, rest.1))
      (λ x e. let s = takes (t ∷ ts) us x is e in ap (λ (r : Outcome (List A)). r >>= λ rest. Ok (x.0 ∷ rest.0, rest.1))
      (enough (length ts) (length x.1) x.1 (omega (arith, s)) (omega arith)))

module _ {A : Type 0} (next : List Lexeme → Option (List Lexeme)) (nothing : next [] ≡ None) (item deeper : List Lexeme → Outcome A) (fronts : (t : Lexeme)
    → FrontAt next item deeper t) where
  takes_behind : (t : Lexeme) (ts us : List Lexeme) (x : A × List Lexeme) → FrontAt next item deeper t → next (t ∷ ts) ≡ Some us → item us ≡ Ok x
      → length x.1 < length (t ∷ ts)
  takes_behind t ts us x (closes e) is read = absurd (let q = e ts in cc)
  takes_behind t ts us x (opens part e l) is read =
      let same : us ≡ part ts = (let q = e ts in cc) in
      let short = shortens (λ us. item (part us)) (λ us. deeper (part us)) ts x (l ts) (ap item (sym same) ∙ read) in
      omega (arith, short)

  -- an item reads at least one token
  pub takes : (ts us : List Lexeme) (x : A × List Lexeme) → next ts ≡ Some us → item us ≡ Ok x → length x.1 < length ts
  takes [] us x is read = absurd cc
  takes (t ∷ ts) us x is read = takes_behind t ts us x (fronts t) is read

module _ {A : Type 0} (next : List Lexeme → Option (List Lexeme)) (nothing : next [] ≡ None) (item deeper : List Lexeme → Outcome A) (fronts : (t : Lexeme)
    → FrontAt next item deeper t) (selves : (t : Lexeme) → FrontAt next deeper deeper t) where
  -- the first item, and then the others
  abbrev one_more : (List Lexeme → Outcome A) → List Lexeme → Outcome (List A)
  one_more reader us = reader us >>= λ x. many next item x.1 >>= λ rest. Ok (x.0 ∷ rest.0, rest.1)

  abbrev one_deeper : (List Lexeme → Outcome A) → List Lexeme → Outcome (List A)
  one_deeper reader us = reader us >>= λ x. many next deeper x.1 >>= λ rest. Ok (x.0 ∷ rest.0, rest.1)

  first_local : (n : ℕ) → ((ts : List Lexeme) → length ts ≤ n → LocalAt (many next item) (many next deeper) ts) → (ts : List Lexeme) → length ts ≤ n
      → (read deep_read : List Lexeme → Outcome A) → LocalAt read deep_read ts
      → LocalAt (one_more read) (one_deeper deep_read) ts
  first_local n others ts le read deep_read l =
      bind_local read deep_read (λ x us. many next item us >>= λ rest. Ok (x ∷ rest.0, rest.1)) (λ x us. many next deeper us
      >>= λ rest. Ok (x ∷ rest.0, rest.1)) ts l
      (λ x rest e.
      let short = shortens read deep_read ts (x, rest) l e in
      bind_local (many next item) (many next deeper) (λ xs us. Ok (x ∷ xs, us)) (λ xs us. Ok (x ∷ xs, us)) rest (others rest (omega (arith, short, le)))
      (λ xs end is. ok_local (x ∷ xs) end))

  behind : (n : ℕ) → ((ts : List Lexeme) → length ts ≤ n → LocalAt (many next item) (many next deeper) ts) → (t : Lexeme) (ts : List Lexeme) → length ts ≤ n
      → (part : List Lexeme → List Lexeme) → ((us : List Lexeme) → next (t ∷ us) ≡ Some (part us)) → IsLocal (λ us. item (part us)) (λ us. deeper (part us))
      → LocalAt (λ us. many next item (t ∷ us)) (λ us. many next deeper (t ∷ us)) ts
  behind n others t ts le part e l =
      same_local (λ us. many next item (t ∷ us)) (λ us. many next deeper (t ∷ us)) (one_more (λ us. item (part us))) (one_deeper (λ us. deeper (part us))) ts
      (unrolled next item nothing (takes next nothing item deeper fronts) (t ∷ ts) (part ts) (e ts))
      (λ other h. unrolled next deeper nothing (takes next nothing deeper deeper selves) (t ∷ other) (part other) (e other))
      (first_local n others ts le (λ us. item (part us)) (λ us. deeper (part us)) (l ts))

  none_here : (ts : List Lexeme) → next ts ≡ None → LocalAt (many next item) (many next deeper) ts
  none_here ts is = reads [] [] ts refl (closed next item (length ts) ts is)
      (λ other h. closed next deeper (length other) other
      (heads_closed next nothing item deeper fronts ts other h is))

  by_front : (n : ℕ) → ((ts : List Lexeme) → length ts ≤ n → LocalAt (many next item) (many next deeper) ts) → (t : Lexeme) (ts : List Lexeme) → length ts ≤ n
      → FrontAt next item deeper t
      → LocalAt (many next item) (many next deeper) (t ∷ ts)
  by_front n others t ts le (closes e) = none_here (t ∷ ts) (e ts)
  by_front n others t ts le (opens part e l) =
      cons_local (many next item) (many next deeper) (λ us. many next item (t ∷ us)) (λ us. many next deeper (t ∷ us)) t ts (λ us. refl) (λ us. refl)
      (behind n others t ts le part e l)

  many_within : (n : ℕ) (ts : List Lexeme) → length ts ≤ n → LocalAt (many next item) (many next deeper) ts
  many_within n [] le = none_here [] nothing
  many_within zero (t ∷ ts) le = absurd (omega (arith, le))
  many_within (suc n) (t ∷ ts) le = by_front n (many_within n) t ts (omega (arith, le)) (fronts t)

  -- items are local if each is
  pub many_local : IsLocal (many next item) (many next deeper)
  many_local ts = many_within (length ts) ts (omega arith)

  -- the same after the token with which the first one begins
  pub many_behind : (t : Lexeme) (part : List Lexeme → List Lexeme) → ((us : List Lexeme) → next (t ∷ us) ≡ Some (part us))
      → IsLocal (λ us. item (part us)) (λ us. deeper (part us))
      → IsLocal (λ us. many next item (t ∷ us)) (λ us. many next deeper (t ∷ us))
  many_behind t part e l ts = behind (length ts) (λ us le. many_local us) t ts (omega arith) part e l
