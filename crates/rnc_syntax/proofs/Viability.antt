-- The tokens read before reading stops can be completed: the steps of which readers consist, and lists of items.
pub mod Annotations
pub mod Literals
pub mod Classes
pub mod Primaries
pub mod Patterns
pub mod Components
pub mod Files
use Rattle.std.proofs.Common.{◌≡◌, ℕ, zero, suc, List, [], ◌∷◌, ◌++◌, length, Option, Some, None, Result, Ok, Err, refl, sym, ap, subst, ◌∙◌, append_assoc, ◌⊎◌}
use Rattle.std.proofs.Common.{inl, inr}
use Rattle.std.proofs.lemmas.List.{append-nil}
use Rattle.rnc_model.specs.declared.token.Sign.{Sign}
use Rattle.rnc_model.specs.declared.token.Sign.TheVariants.{CloseBrace}
use Rattle.rnc_syntax.specs.declared.fault.Stop.{Stop}
use Rattle.rnc_syntax.specs.declared.fault.Stop.TheVariants.{Unexpected}
use Rattle.rnc_model.specs.tokens.Cut.{Lexeme, sign}
use Rattle.rnc_syntax.specs.plain.Combinators.{Outcome, ◌>>=◌, unexpected, follow, sign_read, after, either_way, many_with, many}
use Rattle.rnc_syntax.specs.plain.Productions.{in_braces_at}
use Rattle.rnc_syntax.proofs.Soundness.{follow_is, after_is, TakesFront, Sound, Closed, Preceded, Each, no_items, and_item, Behind}

-- either the first step stopped, or the next one
pub bind_err : {A B : Type 0} (r : Result A Stop) (f : A → Result B Stop) (s : Stop) → (r >>= f) ≡ Err s → (r ≡ Err s) ⊎ ((x : A) × (r ≡ Ok x) × (f x ≡ Err s))
bind_err (Ok x) f s e = inr (x, refl, e)
bind_err (Err d) f s e = inl (let q : d ≡ s = cc in ap (λ (d : Stop). Err d) q)

-- the first step stopped if the next one cannot
pub first_stopped : {A B : Type 0} (r : Result A Stop) (g : A → B) (s : Stop) → (r >>= λ x. Ok (g x)) ≡ Err s → r ≡ Err s
first_stopped (Ok x) g s e = absurd cc
first_stopped (Err d) g s e = let q : d ≡ s = cc in ap (λ (d : Stop). Err d) q

-- some member of P begins with these tokens
pub record Begins {A : Type 0} (P : List Lexeme → A → Type 0) (front : List Lexeme) : Type 0 where
  pub behind : List Lexeme
  pub value : A
  pub is : P (front ++ behind) value

-- the tokens without the last `left` ones begin some member of P
pub record Viable {A : Type 0} (P : List Lexeme → A → Type 0) (ts : List Lexeme) (left : ℕ) : Type 0 where
  pub front : List Lexeme
  pub rest : List Lexeme
  pub parts : ts ≡ front ++ rest
  pub count : left ≡ length rest
  pub begins : Begins P front

abbrev pub IsViable : {A : Type 0} → (List Lexeme → Outcome A) → (List Lexeme → A → Type 0) → Type 0
IsViable read P = (ts : List Lexeme) (left : ℕ) → read ts ≡ Err (Unexpected left) → Viable P ts left

-- each member of P begins a member of Q
abbrev pub Completes : {A B : Type 0} → (List Lexeme → A → Type 0) → (List Lexeme → B → Type 0) → Type 0
Completes {A} P Q = (ts : List Lexeme) (a : A) → P ts a → Begins Q ts

-- after tokens that are first
abbrev pub Behinds : {A : Type 0} → List Lexeme → (List Lexeme → A → Type 0) → List Lexeme → A → Type 0
Behinds front P ts x = P (front ++ ts) x

pub exactly : {A : Type 0} (P : List Lexeme → A → Type 0) (ts : List Lexeme) (a : A) → P ts a → Begins P ts
exactly P ts a p = record { behind = []; value = a; is = subst (λ (r : List Lexeme). P r a) (sym (append-nil ts)) p }

module _ {A : Type 0} (P : List Lexeme → A → Type 0) where
  pub nothing_taken : (ts : List Lexeme) (left : ℕ) → left ≡ length ts → Begins P [] → Viable P ts left
  nothing_taken ts left count begins = record { front = []; rest = ts; parts = refl; count = count; begins = begins }

  pub moved : (ts us : List Lexeme) (left : ℕ) → ts ≡ us → Viable P us left → Viable P ts left
  moved ts us left e v = subst (λ (r : List Lexeme). Viable P r left) (sym e) v

  -- after a token that was read
  pub behind_token : (t : Lexeme) (ts : List Lexeme) (left : ℕ) → Viable (Behind t P) ts left → Viable P (t ∷ ts) left
  behind_token t ts left v = record {
    front = t ∷ v.front;
    rest = v.rest;
    parts = ap (λ (r : List Lexeme). t ∷ r) v.parts;
    count = v.count;
    begins = record { behind = v.begins.behind; value = v.begins.value; is = v.begins.is };
  }

  -- after tokens that were read
  pub behind_tokens : (front ts rest : List Lexeme) (left : ℕ) → ts ≡ front ++ rest → Viable (Behinds front P) rest left → Viable P ts left
  behind_tokens front ts rest left e v = record {
    front = front ++ v.front;
    rest = v.rest;
    parts = e ∙ ap (λ (r : List Lexeme). front ++ r) v.parts ∙ sym (append_assoc front v.front v.rest);
    count = v.count;
    begins = record {
      behind = v.begins.behind;
      value = v.begins.value;
      is = subst (λ (r : List Lexeme). P r v.begins.value)
          (sym (append_assoc front v.front v.begins.behind)) v.begins.is;
    };
  }

module _ {A B : Type 0} (P : List Lexeme → A → Type 0) (Q : List Lexeme → B → Type 0) where
  begun : (front : List Lexeme) → Completes P Q → Begins P front → Begins Q front
  begun front completes b =
      let c = completes (front ++ b.behind) b.value b.is in
      record { behind = b.behind ++ c.behind; value = c.value; is = subst (λ (r : List Lexeme). Q r c.value) (append_assoc front b.behind c.behind) c.is }

  pub completed : (ts : List Lexeme) (left : ℕ) → Completes P Q → Viable P ts left → Viable Q ts left
  completed ts left completes v = record { front = v.front; rest = v.rest; parts = v.parts; count = v.count; begins = begun v.front completes v.begins }

  -- what is made of a value
  pub made_viable : (read : List Lexeme → Outcome A) (f : A → B) → IsViable read P → Completes P Q → IsViable (λ ts. read ts >>= λ x. Ok (f x.0, x.1)) Q
  made_viable read f viable completes ts left e =
      completed ts left completes (viable ts left (first_stopped {B = B × List Lexeme} (read ts) (λ x. (f x.0, x.1)) (Unexpected left) e))

  -- one step, and then the next
  pub then_viable : (read : List Lexeme → Outcome A) (f : A × List Lexeme → Outcome B) → Sound read P → IsViable read P → Completes P Q
      → ((front : List Lexeme) (x : A × List Lexeme) (left : ℕ) → P front x.0 → f x ≡ Err (Unexpected left) → Viable (Behinds front Q) x.1 left)
      → IsViable (λ ts. read ts >>= f) Q
  then_viable read f sound viable completes second ts left e =
      elim (bind_err (read ts) f (Unexpected left) e) [
        | inl h ↦ completed ts left completes (viable ts left h)
        | inr h ↦ let p = sound ts h.0 h.1 in behind_tokens Q p.front ts h.0.1 left p.parts (second p.front h.0 left p.is h.2)
      ]

-- two steps, and what is made of their values
pub both_viable : {A B C : Type 0} (P : List Lexeme → A → Type 0) (Q : List Lexeme → B → Type 0) (R : List Lexeme → C → Type 0) (f : A → B → C)
    (read : List Lexeme → Outcome A) (then_read : List Lexeme → Outcome B) → Sound read P → IsViable read P → IsViable then_read Q
    → Begins Q [] → ((first second : List Lexeme) (a : A) (b : B) → P first a → Q second b → R (first ++ second) (f a b))
    → IsViable (λ ts. read ts >>= λ a. then_read a.1 >>= λ b. Ok (f a.0 b.0, b.1)) R
both_viable P Q R f read then_read sound first second some joins =
    then_viable P R read (λ a. then_read a.1 >>= λ b. Ok (f a.0 b.0, b.1)) sound first
    (λ ts a p. record { behind = some.behind; value = f a some.value; is = joins ts some.behind a some.value p some.is })
    (λ front x left p e. made_viable Q (Behinds front R) then_read (f x.0) second (λ ts b q. exactly (Behinds front R) ts (f x.0 b) (joins front ts x.0 b p q))
    x.1 left e)

-- ---- tokens that are required here

pub left_is : {A : Type 0} (ts : List Lexeme) (left : ℕ) → unexpected {A = A} ts ≡ Err (Unexpected left) → left ≡ length ts
left_is ts left e = cc

pub sign_left : (ts : List Lexeme) (o : Option (List Lexeme)) (left : ℕ) → sign_read ts o ≡ Err (Unexpected left) → left ≡ length ts
sign_left ts None left e = cc
sign_left ts (Some us) left e = absurd cc

abbrev pub IsSign : Sign → List Lexeme → Unit {0} → Type 0
IsSign s ts u = ts ≡ sign s ∷ []

after_left : (s : Sign) (ts : List Lexeme) (left : ℕ) → after s ts ≡ Err (Unexpected left) → left ≡ length ts
unfolding after
after_left s ts left e = sign_left ts (follow s ts) left e

after_viable : (s : Sign) → IsViable (after s) (IsSign s)
after_viable s ts left e = nothing_taken (IsSign s) ts left (after_left s ts left e) (record { behind = sign s ∷ []; value = tt; is = refl })

-- a reader, and then a closing sign
pub closes_viable : {A : Type 0} (P : List Lexeme → A → Type 0) (s : Sign) (read : List Lexeme → Outcome A) → Sound read P → IsViable read P
    → IsViable (λ ts. read ts >>= λ body. after s body.1 >>= λ end. Ok (body.0, end.1)) (Closed P s)
closes_viable P s read sound viable =
    both_viable P (IsSign s) (Closed P s) (λ a u. a) read (after s) sound viable (after_viable s) (record { behind = sign s ∷ []; value = tt; is = refl })
    (λ first second a u p q. record { front = first; is = p; parts = ap (λ (r : List Lexeme). first ++ r) q })

pub in_braces_viable : {A : Type 0} (P : List Lexeme → A → Type 0) (read : List Lexeme → Outcome A) → Sound read P → IsViable read P
    → IsViable (in_braces_at read) (Closed P CloseBrace)
unfolding in_braces_at
in_braces_viable P read sound viable = closes_viable P CloseBrace read sound viable

module _ {A : Type 0} (P : List Lexeme → A → Type 0) (s : Sign) where
  preceded_some : Begins P [] → Begins (Preceded P s) []
  preceded_some some = record { behind = sign s ∷ some.behind; value = some.value; is = record { rest = some.behind; is = some.is; parts = refl } }

  preceded_viable : (ts : List Lexeme) (left : ℕ) → Viable P ts left → Viable (Preceded P s) (sign s ∷ ts) left
  preceded_viable ts left v = behind_token (Preceded P s) (sign s) ts left
      (completed P (Behind (sign s) (Preceded P s)) ts left
      (λ us a p. exactly (Behind (sign s) (Preceded P s)) us a (record { rest = us; is = p; parts = refl })) v)

  -- a sign, and then a reader
  pub open_viable : (read : List Lexeme → Outcome A) → IsViable read P → Begins P [] → IsViable (λ ts. after s ts >>= λ x. read x.1) (Preceded P s)
  open_viable read viable some ts left e =
      elim (bind_err (after s ts) (λ x. read x.1) (Unexpected left) e) [
        | inl h ↦ nothing_taken (Preceded P s) ts left (after_left s ts left h) (preceded_some some)
        | inr h ↦ moved (Preceded P s) ts (sign s ∷ h.0.1) left (after_is s ts h.0 h.1) (preceded_viable h.0.1 left (viable h.0.1 left h.2))
      ]

  -- an item, with the sign before it
  pub preceded_item : (item : List Lexeme → Outcome A) → IsViable item P → (ts us : List Lexeme) (left : ℕ) → follow s ts ≡ Some us
      → item us ≡ Err (Unexpected left) → Viable (Preceded P s) ts left
  preceded_item item viable ts us left is e = moved (Preceded P s) ts (sign s ∷ us) left (follow_is s ts us is) (preceded_viable us left (viable us left e))

-- ---- items one after another

module _ {A : Type 0} (P : List Lexeme → A → Type 0) (next : List Lexeme → Option (List Lexeme)) (item : List Lexeme → Outcome A) where
  abbrev pub ItemsSound : Type 0
  ItemsSound = (ts us : List Lexeme) (x : A × List Lexeme) → next ts ≡ Some us → item us ≡ Ok x → TakesFront P ts x

  abbrev pub ItemsViable : Type 0
  ItemsViable = (ts us : List Lexeme) (left : ℕ) → next ts ≡ Some us → item us ≡ Err (Unexpected left) → Viable P ts left

  one_item : Completes P (Each P)
  one_item ts a p = exactly (Each P) ts (a ∷ []) (and_item p (no_items refl) (sym (append-nil ts)))

  more_items : (front : List Lexeme) (a : A) → P front a → Completes (Each P) (Behinds front (Each P))
  more_items front a p ts xs q = exactly (Behinds front (Each P)) ts (a ∷ xs) (and_item p q refl)

  items_step : ItemsSound → ItemsViable → (k : ℕ) → IsViable (many_with next item k) (Each P) → (ts : List Lexeme) (left : ℕ) (o : Option (List Lexeme))
      → next ts ≡ o
      → either_way {B = Outcome (List A)} o (Ok ([], ts)) (λ us. item us >>= λ x. many_with next item k x.1 >>= λ rest. Ok (x.0 ∷ rest.0, rest.1)) ≡ Err
      (Unexpected left) → Viable (Each P) ts left
  items_step sound viable k others ts left None is e = absurd cc
  items_step sound viable k others ts left (Some us) is e =
      elim (bind_err (item us) _ (Unexpected left) e) [
        | inl h ↦ completed P (Each P) ts left one_item (viable ts us left is h)
        | inr h ↦
            let p = sound ts us h.0 is h.1 in
            behind_tokens (Each P) p.front ts h.0.1 left p.parts (made_viable (Each P) (Behinds p.front (Each P)) (many_with next item k) (λ xs. h.0.0 ∷ xs)
            others (more_items p.front h.0.0 p.is) h.0.1 left h.2)
      ]

  many_with_viable : ItemsSound → ItemsViable → (k : ℕ) → IsViable (many_with next item k) (Each P)
  unfolding many_with
  many_with_viable sound viable zero ts left e = absurd cc
  many_with_viable sound viable (suc k) ts left e = items_step sound viable k (many_with_viable sound viable k) ts left (next ts) refl e

  pub many_viable : ItemsSound → ItemsViable → IsViable (many next item) (Each P)
  many_viable sound viable ts left e = many_with_viable sound viable (length ts) ts left e
