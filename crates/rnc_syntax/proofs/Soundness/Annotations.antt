-- Whatever is read is in the grammar: annotations, and what is read after them.
use Rattle.std.proofs.Common.{◌≡◌, ℕ, zero, suc, false, List, [], ◌∷◌, ◌++◌, Option, Some, None, Ok, refl, sym, ap, subst, ◌∙◌, append_assoc}
use Rattle.rnc_model.specs.declared.token.Sign.TheVariants.{OpenBracket, CloseBracket, OpenBrace, CloseBrace, OpenParenthesis, CloseParenthesis}
use Rattle.rnc_syntax.specs.declared.annotations.Role.{Role}
use Rattle.rnc_syntax.specs.declared.annotations.Role.TheVariants as roles
use Rattle.rnc_model.specs.tokens.Cut.{Lexeme, sign}
use Rattle.rnc_model.specs.grammar.NameClasses as grammar
use Rattle.rnc_model.specs.grammar.NameClasses.{is_bracket, IsAnnotationContent, MayBeAnnotation}
use Rattle.rnc_syntax.specs.plain.Combinators.{Outcome, ◌>>=◌, follow, either_way}
use Rattle.rnc_syntax.specs.plain.Productions.{role_of, annotation_end, annotation_at, annotated}
use Rattle.rnc_syntax.proofs.AnnotationSteps.{onwards}
use Rattle.rnc_syntax.proofs.Soundness.{bind_ok, ok_is, follow_is, TakesFront, Sound}

-- ---- the role of a token

pub opens_is : (x : Lexeme) → role_of x ≡ roles.Opens → x ≡ sign OpenBracket
opens_is (sign OpenBracket) e = refl
opens_is _ e = absurd cc

pub closes_is : (x : Lexeme) → role_of x ≡ roles.Closes → x ≡ sign CloseBracket
closes_is (sign CloseBracket) e = refl
closes_is _ e = absurd cc

pub content_is : (x : Lexeme) → role_of x ≡ roles.Content → is_bracket x ≡ false
content_is (sign OpenBracket) e = absurd cc
content_is (sign CloseBracket) e = absurd cc
content_is (sign OpenBrace) e = absurd cc
content_is (sign CloseBrace) e = absurd cc
content_is (sign OpenParenthesis) e = absurd cc
content_is (sign CloseParenthesis) e = absurd cc
content_is _ e = refl

pub no_bracket_is : (x : Lexeme) → is_bracket x ≡ false → role_of x ≡ roles.Content
no_bracket_is (sign OpenBracket) e = absurd cc
no_bracket_is (sign CloseBracket) e = absurd cc
no_bracket_is (sign OpenBrace) e = absurd cc
no_bracket_is (sign CloseBrace) e = absurd cc
no_bracket_is (sign OpenParenthesis) e = absurd cc
no_bracket_is (sign CloseParenthesis) e = absurd cc
no_bracket_is _ e = refl

-- ---- the rest of an annotation

-- what closes an annotation inside which n others are open
pub data Ends : ℕ → List Lexeme → Type 0 where
  ends_last : {n : ℕ} {ts : List Lexeme} {a : List Lexeme} → n ≡ zero → IsAnnotationContent a → ts ≡ a ++ sign CloseBracket ∷ [] → Ends n ts
  ends_inner : {n : ℕ} {ts : List Lexeme} {m : ℕ} {a b : List Lexeme} → n ≡ suc m → IsAnnotationContent a → Ends m b → ts ≡ a ++ sign CloseBracket ∷ b
      → Ends n ts

-- content before that
before_end : {n : ℕ} {ts : List Lexeme} (f : List Lexeme → List Lexeme) → ((a : List Lexeme) → IsAnnotationContent a → IsAnnotationContent (f a))
    → ((a b : List Lexeme) → f (a ++ b) ≡ f a ++ b) → Ends n ts → Ends n (f ts)
before_end f is joins (ends_last {a = a} none p e) = ends_last none (is a p) (ap f e ∙ joins a (sign CloseBracket ∷ []))
before_end f is joins (ends_inner {a = a} {b = b} some p q e) = ends_inner some (is a p) q (ap f e ∙ joins a (sign CloseBracket ∷ b))

pub token_before : {n : ℕ} {ts : List Lexeme} (x : Lexeme) → is_bracket x ≡ false → Ends n ts → Ends n (x ∷ ts)
token_before x is q = before_end (λ (r : List Lexeme). x ∷ r) (λ a p. grammar.and_token is p refl) (λ a b. refl) q

annotation_before : {n : ℕ} {ts : List Lexeme} (a : List Lexeme) → IsAnnotationContent a → Ends n ts
    → Ends n (sign OpenBracket ∷ (a ++ sign CloseBracket ∷ ts))
annotation_before a p q = before_end (λ (r : List Lexeme). sign OpenBracket ∷ (a ++ sign CloseBracket ∷ r)) (λ b q. grammar.and_annotation p q refl)
    (λ b c. ap (λ (r : List Lexeme). sign OpenBracket ∷ r) (sym (append_assoc a (sign CloseBracket ∷ b) c))) q

-- an annotation that opens is one more open annotation
pub opened_before : {n : ℕ} {ts : List Lexeme} → Ends (suc n) ts → Ends n (sign OpenBracket ∷ ts)
opened_before (ends_last none p e) = absurd cc
opened_before {n} (ends_inner {m = m} {a = a} {b = b} some p q e) =
    let same : m ≡ n = cc in
    subst (λ (ts : List Lexeme). Ends n (sign OpenBracket ∷ ts)) (sym e)
    (annotation_before a p (subst (λ (k : ℕ). Ends k b) same q))

abbrev pub IsEnd : ℕ → List Lexeme → Unit {0} → Type 0
IsEnd n ts u = Ends n ts

-- after a token
token_taken : (n m : ℕ) (x : Lexeme) (ts : List Lexeme) (r : Unit {0} × List Lexeme) → ((front : List Lexeme) → Ends m front → Ends n (x ∷ front))
    → TakesFront (IsEnd m) ts r → TakesFront (IsEnd n) (x ∷ ts) r
token_taken n m x ts r goes p = record { front = x ∷ p.front; is = goes p.front p.is; parts = ap (λ (r : List Lexeme). x ∷ r) p.parts }

pub closed_at : (x : Lexeme) (n : ℕ) → role_of x ≡ roles.Closes → (front : List Lexeme) → Ends n front → Ends (suc n) (x ∷ front)
closed_at x n e front p = ends_inner refl (grammar.no_content refl) p (ap (λ (x : Lexeme). x ∷ front) (closes_is x e))

pub opened_at : (x : Lexeme) (n : ℕ) → role_of x ≡ roles.Opens → (front : List Lexeme) → Ends (suc n) front → Ends n (x ∷ front)
opened_at x n e front p = subst (λ (x : Lexeme). Ends n (x ∷ front)) (sym (opens_is x e)) (opened_before p)

last_at : (x : Lexeme) (ts : List Lexeme) → role_of x ≡ roles.Closes → TakesFront (IsEnd zero) (x ∷ ts) (tt, ts)
last_at x ts e = record {
  front = x ∷ [];
  is = ends_last refl (grammar.no_content refl) (ap (λ (x : Lexeme). x ∷ []) (closes_is x e));
  parts = refl;
}

pub content_at : (x : Lexeme) (n : ℕ) → role_of x ≡ roles.Content → (front : List Lexeme) → Ends n front → Ends n (x ∷ front)
content_at x n e front p = token_before x (content_is x e) p

module _ (t : Lexeme) (ts : List Lexeme) (others : (n : ℕ) (x : Unit {0} × List Lexeme) → annotation_end n ts ≡ Ok x → TakesFront (IsEnd n) ts x) where
  end_by : (r : Role) (n : ℕ) (x : Unit {0} × List Lexeme) → role_of t ≡ r → onwards r n (t ∷ ts) ts ≡ Ok x → TakesFront (IsEnd n) (t ∷ ts) x
  end_by roles.Opens n x is e = token_taken n (suc n) t ts x (opened_at t n is) (others (suc n) x e)
  end_by roles.Closes zero x is e = subst (TakesFront (IsEnd zero) (t ∷ ts)) (ok_is (tt, ts) x e) (last_at t ts is)
  end_by roles.Closes (suc n) x is e = token_taken (suc n) n t ts x (closed_at t n is) (others n x e)
  end_by roles.Content n x is e = token_taken n n t ts x (content_at t n is) (others n x e)
  end_by roles.Foreign n x is e = absurd cc

pub end_sound : (n : ℕ) → Sound (annotation_end n) (IsEnd n)
unfolding annotation_end
end_sound n [] x e = absurd cc
end_sound n (t ∷ ts) x e = end_by t ts (λ m y f. end_sound m ts y f) (role_of t) n x refl e

-- ---- an annotation, if there is one

abbrev pub IsSkipped : List Lexeme → Unit {0} → Type 0
IsSkipped ts u = MayBeAnnotation ts

pub whole_annotation : {n : ℕ} {ts : List Lexeme} → n ≡ zero → Ends n ts → MayBeAnnotation (sign OpenBracket ∷ ts)
whole_annotation none (ends_last e p parts) = grammar.with_annotation p (ap (λ (r : List Lexeme). sign OpenBracket ∷ r) parts)
whole_annotation none (ends_inner e p q parts) = absurd cc

annotation_step : (ts : List Lexeme) (x : Unit {0} × List Lexeme) (o : Option (List Lexeme)) → follow OpenBracket ts ≡ o
    → either_way o (Ok (tt, ts)) (annotation_end 0) ≡ Ok x → TakesFront IsSkipped ts x
annotation_step ts x None is e = subst (TakesFront IsSkipped ts) (ok_is (tt, ts) x e)
    (record { front = []; is = grammar.without_annotation refl; parts = refl })
annotation_step ts x (Some us) is e =
    let p = end_sound 0 us x e in
    record {
      front = sign OpenBracket ∷ p.front;
      is = whole_annotation refl p.is;
      parts = follow_is OpenBracket ts us is ∙ ap (λ (r : List Lexeme). sign OpenBracket ∷ r) p.parts;
    }

pub annotation_sound : Sound annotation_at IsSkipped
unfolding annotation_at
annotation_sound ts x e = annotation_step ts x (follow OpenBracket ts) refl e

-- after any annotation, or none
abbrev pub SoundBehind : {A : Type 0} → (List Lexeme → Outcome A) → (List Lexeme → A → Type 0) → Type 0
SoundBehind {A} read P = (n : List Lexeme) → MayBeAnnotation n → (ts : List Lexeme) (x : A × List Lexeme) → read ts ≡ Ok x → TakesFront P (n ++ ts) x

module _ {A : Type 0} (P : List Lexeme → A → Type 0) (read : List Lexeme → Outcome A) where
  pub annotated_sound : SoundBehind read P → Sound (annotated read) P
  annotated_sound sound ts x e =
      let a = bind_ok (annotation_at ts) _ x e in
      let n = annotation_sound ts a.0 a.1 in
      subst (λ (ts : List Lexeme). TakesFront P ts x) (sym n.parts) (sound n.front n.is a.0.1 x a.2)

  pub taken_behind : (n ts : List Lexeme) (x : A × List Lexeme) → TakesFront (λ ts x. P (n ++ ts) x) ts x → TakesFront P (n ++ ts) x
  taken_behind n ts x p = record {
    front = n ++ p.front;
    is = p.is;
    parts = ap (λ (r : List Lexeme). n ++ r) p.parts ∙ sym (append_assoc n p.front x.1);
  }

  -- what is read after an annotation is, with the annotation, the whole
  pub bare_sound : (Q : List Lexeme → A → Type 0) → Sound read Q → ((n ts : List Lexeme) (x : A) → MayBeAnnotation n → Q ts x → P (n ++ ts) x)
      → SoundBehind read P
  bare_sound Q sound makes n is ts x e =
      let p = sound ts x e in
      taken_behind n ts x (record { front = p.front; is = makes n p.front x.0 is p.is; parts = p.parts })

  -- the same, if an annotation must be first
  pub opened_sound : SoundBehind read P → (ts us : List Lexeme) (x : A × List Lexeme) → follow OpenBracket ts ≡ Some us
      → (annotation_end 0 us >>= λ x. read x.1) ≡ Ok x → TakesFront P ts x
  opened_sound sound ts us x is e =
      let a = bind_ok (annotation_end 0 us) _ x e in
      let n = end_sound 0 us a.0 a.1 in
      subst (λ (ts : List Lexeme). TakesFront P ts x) (sym (follow_is OpenBracket ts us is ∙ ap (λ (r : List Lexeme). sign OpenBracket ∷ r) n.parts))
      (sound (sign OpenBracket ∷ n.front) (whole_annotation refl n.is) a.0.1 x a.2)
