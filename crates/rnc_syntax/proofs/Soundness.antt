-- Whatever is read is in the grammar: steps of reading, and lists of items.
pub mod Annotations
pub mod Literals
pub mod Classes
pub mod Patterns
pub mod Files
use Rattle.std.proofs.Common.{◌≡◌, ℕ, zero, suc, true, List, [], ◌∷◌, ◌++◌, length, Option, Some, None, Result, Ok, Err, refl, sym, ap}
use Rattle.std.proofs.Common.{subst, ◌∙◌, append_assoc, inl, inr}
use Rattle.rng_model.proofs.Truths.{chosen}
use Rattle.rnc_model.specs.declared.token.Keyword.{Keyword}
use Rattle.rnc_model.specs.declared.token.Keyword.TheVariants as keywords
use Rattle.rnc_model.specs.declared.token.Sign.{Sign}
use Rattle.rnc_model.specs.declared.token.Sign.TheVariants.{Equal, BarEqual, AndEqual, Comma, Bar, And, Question, Star, Plus, Minus, OpenBrace, CloseBrace}
use Rattle.rnc_model.specs.declared.token.Sign.TheVariants.{OpenParenthesis, CloseParenthesis, OpenBracket, CloseBracket, Tilde}
use Rattle.rnc_syntax.specs.declared.fault.Stop.{Stop}
use Rattle.rnc_model.specs.tokens.Cut.{Lexeme, Spelling, keyword, identifier, cname, ns_name, segment, sign}
use Rattle.rnc_model.specs.grammar.NameClasses.{word_of}
use Rattle.rnc_syntax.specs.plain.Combinators.{Outcome, ◌>>=◌, same_sign, same_keyword, follow, follow_keyword, sign_read, after, after_keyword, word_at}
use Rattle.rnc_syntax.specs.plain.Combinators.{identifier_at, segment_at, either_way, many_with, many}
use Rattle.rnc_syntax.specs.plain.Productions.{in_braces_at}

-- the value of a step that did not fail
pub bind_ok : {A B : Type 0} (r : Result A Stop) (f : A → Result B Stop) (y : B) → (r >>= f) ≡ Ok y → (x : A) × (r ≡ Ok x) × (f x ≡ Ok y)
bind_ok (Ok x) f y e = (x, refl, e)
bind_ok (Err d) f y e = absurd cc

-- the values of which a front is made
pub front_some : {A B : Type 0} (o : Option A) (f : A → Option B) (y : B) → either_way o None f ≡ Some y → (x : A) × (o ≡ Some x) × (f x ≡ Some y)
front_some None f y e = absurd cc
front_some (Some x) f y e = (x, refl, e)

abbrev done : {A : Type 0} → A → Result A Stop
done x = Ok x

pub ok_is : {A : Type 0} (x y : A) → done x ≡ done y → x ≡ y
ok_is x y e = cc

pub same_sign_true : (r s : Sign) → same_sign r s ≡ true → r ≡ s
same_sign_true Equal Equal e = refl
same_sign_true BarEqual BarEqual e = refl
same_sign_true AndEqual AndEqual e = refl
same_sign_true Comma Comma e = refl
same_sign_true Bar Bar e = refl
same_sign_true And And e = refl
same_sign_true Question Question e = refl
same_sign_true Star Star e = refl
same_sign_true Plus Plus e = refl
same_sign_true Minus Minus e = refl
same_sign_true OpenBrace OpenBrace e = refl
same_sign_true CloseBrace CloseBrace e = refl
same_sign_true OpenParenthesis OpenParenthesis e = refl
same_sign_true CloseParenthesis CloseParenthesis e = refl
same_sign_true OpenBracket OpenBracket e = refl
same_sign_true CloseBracket CloseBracket e = refl
same_sign_true Tilde Tilde e = refl
same_sign_true _ _ e = absurd cc

pub same_inherit : (k : Keyword) → same_keyword k keywords.Inherit ≡ true → k ≡ keywords.Inherit
same_inherit keywords.Inherit e = refl
same_inherit _ e = absurd cc

pub same_namespace : (k : Keyword) → same_keyword k keywords.Namespace ≡ true → k ≡ keywords.Namespace
same_namespace keywords.Namespace e = refl
same_namespace _ e = absurd cc

pub follow_is : (s : Sign) (ts us : List Lexeme) → follow s ts ≡ Some us → ts ≡ sign s ∷ us
follow_is s [] us e = absurd cc
follow_is s (keyword k w ∷ ts) us e = absurd cc
follow_is s (identifier w ∷ ts) us e = absurd cc
follow_is s (cname p l ∷ ts) us e = absurd cc
follow_is s (ns_name p ∷ ts) us e = absurd cc
follow_is s (segment w ∷ ts) us e = absurd cc
follow_is s (sign r ∷ ts) us e =
    elim (chosen (same_sign r s) (Some ts) None (Some us) e) [
      | inl h ↦ let q : r ≡ s = same_sign_true r s h.0 in let o : ts ≡ us = cc in cc
      | inr h ↦ absurd cc
    ]

read_is : (ts : List Lexeme) (o : Option (List Lexeme)) (x : Unit {0} × List Lexeme) → sign_read ts o ≡ Ok x → o ≡ Some x.1
read_is ts None x e = absurd cc
read_is ts (Some us) x e = ap (λ (x : Unit {0} × List Lexeme). Some x.1) (ok_is (tt, us) x e)

pub after_is : (s : Sign) (ts : List Lexeme) (x : Unit {0} × List Lexeme) → after s ts ≡ Ok x → ts ≡ sign s ∷ x.1
unfolding after
after_is s ts x e = follow_is s ts x.1 (read_is ts (follow s ts) x e)

module _ (k : Keyword) (same : (j : Keyword) → same_keyword j k ≡ true → j ≡ k) where
  pub keyword_follows : (ts us : List Lexeme) → follow_keyword k ts ≡ Some us → (s : Spelling) × (ts ≡ keyword k s ∷ us)
  keyword_follows [] us e = absurd cc
  keyword_follows (identifier w ∷ ts) us e = absurd cc
  keyword_follows (cname p l ∷ ts) us e = absurd cc
  keyword_follows (ns_name p ∷ ts) us e = absurd cc
  keyword_follows (segment w ∷ ts) us e = absurd cc
  keyword_follows (sign r ∷ ts) us e = absurd cc
  keyword_follows (keyword j s ∷ ts) us e =
      elim (chosen (same_keyword j k) (Some ts) None (Some us) e) [
        | inl h ↦ (s, let q : j ≡ k = same j h.0 in let o : ts ≡ us = cc in cc)
        | inr h ↦ absurd cc
      ]

  pub after_keyword_is : (ts : List Lexeme) (x : Unit {0} × List Lexeme) → after_keyword k ts ≡ Ok x → (s : Spelling) × (ts ≡ keyword k s ∷ x.1)
  unfolding after_keyword
  after_keyword_is ts x e = keyword_follows ts x.1 (read_is ts (follow_keyword k ts) x e)

-- ---- what was read

-- the front that was read, and the tokens left
pub record TakesFront {A : Type 0} (P : List Lexeme → A → Type 0) (ts : List Lexeme) (x : A × List Lexeme) : Type 0 where
  pub front : List Lexeme
  pub is : P front x.0
  pub parts : ts ≡ front ++ x.1

abbrev pub Sound : {A : Type 0} → (List Lexeme → Outcome A) → (List Lexeme → A → Type 0) → Type 0
Sound {A} read P = (ts : List Lexeme) (x : A × List Lexeme) → read ts ≡ Ok x → TakesFront P ts x

-- a word alone
pub record IsWord (ts : List Lexeme) (w : List ℕ) : Type 0 where
  pub token : Lexeme
  pub word : word_of token ≡ Some w
  pub parts : ts ≡ token ∷ []

pub word_sound : Sound word_at IsWord
unfolding word_at
word_sound [] x e = absurd cc
word_sound (identifier w ∷ ts) x e = subst (TakesFront IsWord (identifier w ∷ ts)) (ok_is (w, ts) x e)
    (record { front = identifier w ∷ []; is = record { token = identifier w; word = refl; parts = refl }; parts = refl })
word_sound (keyword k s ∷ ts) x e = subst (TakesFront IsWord (keyword k s ∷ ts)) (ok_is (s.text, ts) x e)
    (record { front = keyword k s ∷ []; is = record { token = keyword k s; word = refl; parts = refl }; parts = refl })
word_sound (cname p l ∷ ts) x e = absurd cc
word_sound (ns_name p ∷ ts) x e = absurd cc
word_sound (segment w ∷ ts) x e = absurd cc
word_sound (sign r ∷ ts) x e = absurd cc

pub identifier_is : (ts : List Lexeme) (x : List ℕ × List Lexeme) → identifier_at ts ≡ Ok x → ts ≡ identifier x.0 ∷ x.1
unfolding identifier_at
identifier_is [] x e = absurd cc
identifier_is (identifier w ∷ ts) x e = subst (λ (x : List ℕ × List Lexeme). identifier w ∷ ts ≡ identifier x.0 ∷ x.1) (ok_is (w, ts) x e) refl
identifier_is (_ ∷ ts) x e = absurd cc

abbrev pub IsSegment : List Lexeme → List ℕ → Type 0
IsSegment ts w = ts ≡ segment w ∷ []

pub segment_sound : Sound segment_at IsSegment
unfolding segment_at
segment_sound [] x e = absurd cc
segment_sound (segment w ∷ ts) x e = subst (TakesFront IsSegment (segment w ∷ ts)) (ok_is (w, ts) x e)
    (record { front = segment w ∷ []; is = refl; parts = refl })
segment_sound (_ ∷ ts) x e = absurd cc

-- ---- what a sign closes or begins

pub record Closed {A : Type 0} (P : List Lexeme → A → Type 0) (s : Sign) (ts : List Lexeme) (x : A) : Type 0 where
  pub front : List Lexeme
  pub is : P front x
  pub parts : ts ≡ front ++ sign s ∷ []

pub record Preceded {A : Type 0} (P : List Lexeme → A → Type 0) (s : Sign) (ts : List Lexeme) (x : A) : Type 0 where
  pub rest : List Lexeme
  pub is : P rest x
  pub parts : ts ≡ sign s ∷ rest

pub closed_reads : {A : Type 0} (P : List Lexeme → A → Type 0) (s : Sign) (ts us rest front : List Lexeme) (x : A) → P front x → ts ≡ front ++ us
    → us ≡ sign s ∷ rest → TakesFront (Closed P s) ts (x, rest)
closed_reads P s ts us rest front x is parts closes = record {
  front = front ++ sign s ∷ [];
  is = record { front = front; is = is; parts = refl };
  parts = let r = append_assoc front (sign s ∷ []) rest in cc;
}

pub closes_sound : {A : Type 0} (P : List Lexeme → A → Type 0) (s : Sign) (read : List Lexeme → Outcome A) → Sound read P
    → Sound (λ ts. read ts >>= λ body. after s body.1 >>= λ end. Ok (body.0, end.1)) (Closed P s)
closes_sound P s read sound ts x e =
    let a = bind_ok (read ts) _ x e in
    let b = bind_ok (after s a.0.1) _ x a.2 in
    let p = sound ts a.0 a.1 in
    subst (TakesFront (Closed P s) ts) (ok_is (a.0.0, b.0.1) x b.2) (closed_reads P s ts a.0.1 b.0.1 p.front a.0.0 p.is p.parts (after_is s a.0.1 b.0 b.1))

pub in_braces_sound : {A : Type 0} (P : List Lexeme → A → Type 0) (read : List Lexeme → Outcome A) → Sound read P
    → Sound (in_braces_at read) (Closed P CloseBrace)
unfolding in_braces_at
in_braces_sound P read sound ts x e = closes_sound P CloseBrace read sound ts x e

-- ---- items one after another

pub data Each {A : Type 0} (P : List Lexeme → A → Type 0) : List Lexeme → List A → Type 0 where
  no_items : {ts : List Lexeme} → ts ≡ [] → Each P ts []
  and_item : {ts : List Lexeme} {xs : List A} {a b : List Lexeme} {x : A} → P a x → Each P b xs → ts ≡ a ++ b → Each P ts (x ∷ xs)

module _ {A : Type 0} (P : List Lexeme → A → Type 0) (next : List Lexeme → Option (List Lexeme)) (item : List Lexeme → Outcome A) where
  -- an item, with what begins it
  abbrev pub ItemSound : Type 0
  ItemSound = (ts us : List Lexeme) (x : A × List Lexeme) → next ts ≡ Some us → item us ≡ Ok x → TakesFront P ts x

  more_reads : (ts rest front : List Lexeme) (a : A) (x : List A × List Lexeme) → P front a → ts ≡ front ++ rest → TakesFront (Each P) rest x
      → TakesFront (Each P) ts (a ∷ x.0, x.1)
  more_reads ts rest front a x one parts others = record {
    front = front ++ others.front;
    is = and_item one others.is refl;
    parts = let r = append_assoc front others.front x.1 in let p = others.parts in cc;
  }

  many_step : ItemSound → (k : ℕ) → Sound (many_with next item k) (Each P) → (ts : List Lexeme) (x : List A × List Lexeme) (o : Option (List Lexeme))
      → next ts ≡ o
      → either_way o (Ok ([], ts)) (λ us. item us >>= λ x. many_with next item k x.1 >>= λ rest. Ok (x.0 ∷ rest.0, rest.1)) ≡ Ok x → TakesFront (Each P) ts x
  many_step items k others ts x None is e = subst (TakesFront (Each P) ts) (ok_is ([], ts) x e) (record { front = []; is = no_items refl; parts = refl })
  many_step items k others ts x (Some us) is e =
      let a = bind_ok (item us) _ x e in
      let b = bind_ok (many_with next item k a.0.1) _ x a.2 in
      let p = items ts us a.0 is a.1 in
      subst (TakesFront (Each P) ts) (ok_is (a.0.0 ∷ b.0.0, b.0.1) x b.2) (more_reads ts a.0.1 p.front a.0.0 b.0 p.is p.parts (others a.0.1 b.0 b.1))

  pub many_with_sound : ItemSound → (k : ℕ) → Sound (many_with next item k) (Each P)
  unfolding many_with
  many_with_sound items zero ts x e = subst (TakesFront (Each P) ts) (ok_is ([], ts) x e) (record { front = []; is = no_items refl; parts = refl })
  many_with_sound items (suc k) ts x e = many_step items k (many_with_sound items k) ts x (next ts) refl e

  pub many_sound : ItemSound → Sound (many next item) (Each P)
  many_sound items ts x e = many_with_sound items (length ts) ts x e

  -- if one begins, there is one
  some_with : (k : ℕ) (ts us : List Lexeme) (x : List A × List Lexeme) → next ts ≡ Some us → many_with next item (suc k) ts ≡ Ok x → (y : A) × (ys : List A)
      × (y ∷ ys ≡ x.0)
  unfolding many_with
  some_with k ts us x is e =
      let m : (item us >>= λ x. many_with next item k x.1 >>= λ rest. Ok (x.0 ∷ rest.0, rest.1)) ≡ Ok x =
      sym (ap (λ (o : Option (List Lexeme)). either_way o (Ok ([], ts)) (λ us. item us >>= λ x. many_with next item k x.1
      >>= λ rest. Ok (x.0 ∷ rest.0, rest.1))) is) ∙ e in
      let a = bind_ok (item us) _ x m in
      let b = bind_ok (many_with next item k a.0.1) _ x a.2 in
      (a.0.0, b.0.0, ap (λ (x : List A × List Lexeme). x.0) (ok_is (a.0.0 ∷ b.0.0, b.0.1) x b.2))

  pub some_is_read : next [] ≡ None → (ts us : List Lexeme) (x : List A × List Lexeme) → next ts ≡ Some us → many next item ts ≡ Ok x → (y : A) × (ys : List A)
      × (y ∷ ys ≡ x.0)
  some_is_read nothing [] us x is e = absurd cc
  some_is_read nothing (t ∷ ts) us x is e = some_with (length ts) (t ∷ ts) us x is e

-- items, each with the sign before it
pub preceded_sound : {A : Type 0} (P : List Lexeme → A → Type 0) (s : Sign) (item : List Lexeme → Outcome A) → Sound item P
    → (ts us : List Lexeme) (x : A × List Lexeme) → follow s ts ≡ Some us → item us ≡ Ok x → TakesFront (Preceded P s) ts x
preceded_sound P s item sound ts us x is e =
    let p = sound us x e in
    record {
      front = sign s ∷ p.front;
      is = record { rest = p.front; is = p.is; parts = refl };
      parts = let q = p.parts in let f = follow_is s ts us is in cc;
    }

-- a list without items has no tokens
pub nothing_left : {A : Type 0} {P : List Lexeme → A → Type 0} {ts : List Lexeme} → Each P ts [] → ts ≡ []
nothing_left (no_items e) = e

-- ---- steps one after another

-- after a token that is first
abbrev pub Behind : {A : Type 0} → Lexeme → (List Lexeme → A → Type 0) → List Lexeme → A → Type 0
Behind t P ts x = P (t ∷ ts) x

pub behind : {A : Type 0} (P : List Lexeme → A → Type 0) (t : Lexeme) (ts : List Lexeme) (x : A × List Lexeme) → TakesFront (Behind t P) ts x
    → TakesFront P (t ∷ ts) x
behind P t ts x r = record { front = t ∷ r.front; is = r.is; parts = ap (λ (ts : List Lexeme). t ∷ ts) r.parts }

pub mapped_sound : {A B : Type 0} (P : List Lexeme → A → Type 0) (Q : List Lexeme → B → Type 0) (f : A → B) (read : List Lexeme → Outcome A) → Sound read P
    → ((ts : List Lexeme) (a : A) → P ts a → Q ts (f a)) → Sound (λ ts. read ts >>= λ x. Ok (f x.0, x.1)) Q
mapped_sound P Q f read sound maps ts x e =
    let a = bind_ok (read ts) _ x e in
    let p = sound ts a.0 a.1 in
    subst (TakesFront Q ts) (ok_is (f a.0.0, a.0.1) x a.2) (record { front = p.front; is = maps p.front a.0.0 p.is; parts = p.parts })

pub both_reads : {A B C : Type 0} (P : List Lexeme → A → Type 0) (Q : List Lexeme → B → Type 0) (R : List Lexeme → C → Type 0) (f : A → B → C)
    → ((first second : List Lexeme) (a : A) (b : B) → P first a → Q second b → R (first ++ second) (f a b))
    → (ts : List Lexeme) (x : A × List Lexeme) (y : B × List Lexeme) → TakesFront P ts x → TakesFront Q x.1 y → TakesFront R ts (f x.0 y.0, y.1)
both_reads P Q R f joins ts x y p q = record {
  front = p.front ++ q.front;
  is = joins p.front q.front x.0 y.0 p.is q.is;
  parts = p.parts ∙ ap (λ (r : List Lexeme). p.front ++ r) q.parts ∙ sym (append_assoc p.front q.front y.1);
}

pub both_sound : {A B C : Type 0} (P : List Lexeme → A → Type 0) (Q : List Lexeme → B → Type 0) (R : List Lexeme → C → Type 0) (f : A → B → C)
    (read : List Lexeme → Outcome A) (then_read : List Lexeme → Outcome B) → Sound read P → Sound then_read Q
    → ((first second : List Lexeme) (a : A) (b : B) → P first a → Q second b → R (first ++ second) (f a b))
    → Sound (λ ts. read ts >>= λ x. then_read x.1 >>= λ y. Ok (f x.0 y.0, y.1)) R
both_sound P Q R f read then_read first second joins ts x e =
    let a = bind_ok (read ts) _ x e in
    let b = bind_ok (then_read a.0.1) _ x a.2 in
    subst (TakesFront R ts) (ok_is (f a.0.0 b.0.0, b.0.1) x b.2) (both_reads P Q R f joins ts a.0 b.0 (first ts a.0 a.1) (second a.0.1 b.0 b.1))

-- a sign, and then a reader
pub open_sound : {A : Type 0} (P : List Lexeme → A → Type 0) (s : Sign) (read : List Lexeme → Outcome A) → Sound read P
    → Sound (λ ts. after s ts >>= λ x. read x.1) (Preceded P s)
open_sound P s read sound ts x e =
    let a = bind_ok (after s ts) _ x e in
    let p = sound a.0.1 x a.2 in
    let f = after_is s ts a.0 a.1 in
    record { front = sign s ∷ p.front; is = record { rest = p.front; is = p.is; parts = refl }; parts = f ∙ ap (λ (r : List Lexeme). sign s ∷ r) p.parts }

pub record Bracketed {A : Type 0} (P : List Lexeme → A → Type 0) (r s : Sign) (ts : List Lexeme) (x : A) : Type 0 where
  pub inner : List Lexeme
  pub is : P inner x
  pub parts : ts ≡ sign r ∷ (inner ++ sign s ∷ [])

pub bracketed : {A : Type 0} (P : List Lexeme → A → Type 0) (r s : Sign) (ts : List Lexeme) (x : A) → Preceded (Closed P s) r ts x → Bracketed P r s ts x
bracketed P r s ts x p = record { inner = p.is.front; is = p.is.is; parts = p.parts ∙ ap (λ (ts : List Lexeme). sign r ∷ ts) p.is.parts }

-- a word, `=` and a value
pub record IsSetting {A : Type 0} (P : List Lexeme → A → Type 0) (ts : List Lexeme) (x : List ℕ × A) : Type 0 where
  pub token : Lexeme
  pub word : word_of token ≡ Some x.0
  pub value : List Lexeme
  pub is : P value x.1
  pub parts : ts ≡ token ∷ sign Equal ∷ value

pub setting_sound : {A : Type 0} (P : List Lexeme → A → Type 0) (read : List Lexeme → Outcome A) → Sound read P
    → Sound (λ ts. word_at ts >>= λ name. after Equal name.1 >>= λ equal. read equal.1 >>= λ value. Ok ((name.0, value.0), value.1)) (IsSetting P)
setting_sound {A} P read sound ts x e =
    let a = bind_ok (word_at ts) _ x e in
    let b = bind_ok (after Equal a.0.1) _ x a.2 in
    let c = bind_ok (read b.0.1) _ x b.2 in
    subst (TakesFront (IsSetting P) ts) (ok_is ((a.0.0, c.0.0), c.0.1) x c.2) (made a.0.0 a.0.1 b.0.1 c.0 (word_sound ts a.0 a.1) (after_is Equal a.0.1 b.0 b.1)
    (sound b.0.1 c.0 c.1)) where
      made : (w : List ℕ) (us vs : List Lexeme) (y : A × List Lexeme) → TakesFront IsWord ts (w, us) → us ≡ sign Equal ∷ vs → TakesFront P vs y
          → TakesFront (IsSetting P) ts ((w, y.0), y.1)
      made w us vs y p f q = record {
        front = p.is.token ∷ sign Equal ∷ q.front;
        is = record { token = p.is.token; word = p.is.word; value = q.front; is = q.is; parts = refl };
        parts = p.parts ∙ ap (λ (r : List Lexeme). r ++ us) p.is.parts ∙ ap (λ (r : List Lexeme). p.is.token ∷ r)
            (f ∙ ap (λ (r : List Lexeme). sign Equal ∷ r) q.parts);
      }
