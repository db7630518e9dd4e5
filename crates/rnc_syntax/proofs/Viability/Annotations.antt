-- The tokens read before reading stops can be completed: annotations, and what is read after them.
use Rattle.std.proofs.Common.{◌≡◌, ℕ, zero, suc, List, [], ◌∷◌, ◌++◌, Option, Some, None, Ok, Err, refl, ap, inl, inr}
use Rattle.rnc_model.specs.declared.token.Sign.TheVariants.{OpenBracket, CloseBracket}
use Rattle.rnc_syntax.specs.declared.annotations.Role.{Role}
use Rattle.rnc_syntax.specs.declared.annotations.Role.TheVariants as roles
use Rattle.rnc_syntax.specs.declared.fault.Stop.TheVariants.{Unexpected}
use Rattle.rnc_model.specs.tokens.Cut.{Lexeme, sign}
use Rattle.rnc_model.specs.grammar.NameClasses as grammar
use Rattle.rnc_model.specs.grammar.NameClasses.{MayBeAnnotation}
use Rattle.rnc_syntax.specs.plain.Combinators.{Outcome, ◌>>=◌, follow, either_way}
use Rattle.rnc_syntax.specs.plain.Productions.{role_of, annotation_end, annotation_at, annotated}
use Rattle.rnc_syntax.proofs.AnnotationSteps.{onwards}
use Rattle.rnc_syntax.proofs.Soundness.{follow_is, Behind}
use Rattle.rnc_syntax.proofs.Soundness.Annotations.{Ends, ends_last, ends_inner, IsEnd, opened_at, closed_at, content_at, end_sound, IsSkipped}
use Rattle.rnc_syntax.proofs.Soundness.Annotations.{whole_annotation}
use Rattle.rnc_syntax.proofs.Soundness.Annotations.{annotation_sound}
use Rattle.rnc_syntax.proofs.Viability.{bind_err, Begins, Viable, IsViable, Completes, Behinds, exactly, nothing_taken, moved, behind_token, behind_tokens}
use Rattle.rnc_syntax.proofs.Viability.{completed, left_is}

-- ---- the rest of an annotation

end_some : (n : ℕ) → Begins (IsEnd n) []
end_some zero = record { behind = sign CloseBracket ∷ []; value = tt; is = ends_last refl (grammar.no_content refl) refl }
end_some (suc n) =
    let b = end_some n in
    record { behind = sign CloseBracket ∷ b.behind; value = tt; is = ends_inner refl (grammar.no_content refl) b.is refl }

-- after a token
token_viable : (n m : ℕ) (t : Lexeme) (ts : List Lexeme) (left : ℕ) → ((front : List Lexeme) → Ends m front → Ends n (t ∷ front)) → Viable (IsEnd m) ts left
    → Viable (IsEnd n) (t ∷ ts) left
token_viable n m t ts left goes v = behind_token (IsEnd n) t ts left
    (completed (IsEnd m) (Behind t (IsEnd n)) ts left (λ us u p. exactly (Behind t (IsEnd n)) us u (goes us p)) v)

module _ (t : Lexeme) (ts : List Lexeme) (others : (n left : ℕ) → annotation_end n ts ≡ Err (Unexpected left) → Viable (IsEnd n) ts left) where
  end_by : (r : Role) (n left : ℕ) → role_of t ≡ r → onwards r n (t ∷ ts) ts ≡ Err (Unexpected left) → Viable (IsEnd n) (t ∷ ts) left
  end_by roles.Opens n left is e = token_viable n (suc n) t ts left (opened_at t n is) (others (suc n) left e)
  end_by roles.Closes zero left is e = absurd cc
  end_by roles.Closes (suc n) left is e = token_viable (suc n) n t ts left (closed_at t n is) (others n left e)
  end_by roles.Content n left is e = token_viable n n t ts left (content_at t n is) (others n left e)
  end_by roles.Foreign n left is e = nothing_taken (IsEnd n) (t ∷ ts) left (left_is (t ∷ ts) left e) (end_some n)

end_viable : (n : ℕ) → IsViable (annotation_end n) (IsEnd n)
unfolding annotation_end
end_viable n [] left e = nothing_taken (IsEnd n) [] left (left_is [] left e) (end_some n)
end_viable n (t ∷ ts) left e = end_by t ts (λ m k f. end_viable m ts k f) (role_of t) n left refl e

-- ---- an annotation, if there is one

annotation_step : (ts : List Lexeme) (left : ℕ) (o : Option (List Lexeme)) → follow OpenBracket ts ≡ o
    → either_way {B = Outcome (Unit {0})} o (Ok (tt, ts)) (annotation_end 0) ≡ Err (Unexpected left) → Viable IsSkipped ts left
annotation_step ts left None is e = absurd cc
annotation_step ts left (Some us) is e =
    let t = sign OpenBracket in
    moved IsSkipped ts (t ∷ us) left (follow_is OpenBracket ts us is) (behind_token IsSkipped t us left
    (completed (IsEnd 0) (Behind t IsSkipped) us left (λ vs u p. exactly (Behind t IsSkipped) vs u (whole_annotation refl p)) (end_viable 0 us left e)))

annotation_viable : IsViable annotation_at IsSkipped
unfolding annotation_at
annotation_viable ts left e = annotation_step ts left (follow OpenBracket ts) refl e

-- after any annotation, or none
abbrev pub ViableBehind : {A : Type 0} → (List Lexeme → Outcome A) → (List Lexeme → A → Type 0) → Type 0
ViableBehind read P = (n : List Lexeme) → MayBeAnnotation n → (ts : List Lexeme) (left : ℕ) → read ts ≡ Err (Unexpected left) → Viable P (n ++ ts) left

-- some member of P begins with any given annotation
abbrev pub BeginsBehind : {A : Type 0} → (List Lexeme → A → Type 0) → Type 0
BeginsBehind P = (n : List Lexeme) → MayBeAnnotation n → Begins P n

module _ {A : Type 0} (P : List Lexeme → A → Type 0) (read : List Lexeme → Outcome A) (begins : BeginsBehind P) (viable : ViableBehind read P) where
  pub annotated_viable : IsViable (annotated read) P
  annotated_viable ts left e =
      elim (bind_err (annotation_at ts) (λ x. read x.1) (Unexpected left) e) [
        | inl h ↦ completed IsSkipped P ts left (λ n u may. begins n may) (annotation_viable ts left h)
        | inr h ↦ let p = annotation_sound ts h.0 h.1 in moved P ts (p.front ++ h.0.1) left p.parts (viable p.front p.is h.0.1 left h.2)
      ]

  opening_begins : Completes (IsEnd 0) (Behind (sign OpenBracket) P)
  opening_begins ts u p =
      let b = begins (sign OpenBracket ∷ ts) (whole_annotation refl p) in
      record { behind = b.behind; value = b.value; is = b.is }

  -- the same, if an annotation must be first
  pub opened_viable : (ts us : List Lexeme) (left : ℕ) → follow OpenBracket ts ≡ Some us → (annotation_end 0 us >>= λ x. read x.1) ≡ Err (Unexpected left)
      → Viable P ts left
  opened_viable ts us left is e =
      let t = sign OpenBracket in
      moved P ts (t ∷ us) left (follow_is OpenBracket ts us is)
      (elim (bind_err (annotation_end 0 us) (λ x. read x.1) (Unexpected left) e) [
        | inl h ↦ behind_token P t us left (completed (IsEnd 0) (Behind t P) us left opening_begins (end_viable 0 us left h))
        | inr h ↦
            let p = end_sound 0 us h.0 h.1 in
            moved P (t ∷ us) ((t ∷ p.front) ++ h.0.1) left (ap (λ (r : List Lexeme). t ∷ r) p.parts)
            (viable (t ∷ p.front) (whole_annotation refl p.is) h.0.1 left h.2)
      ])

-- what is read after an annotation is, with the annotation, the whole
module _ {A : Type 0} (P Q : List Lexeme → A → Type 0) (makes : (n ts : List Lexeme) (x : A) → MayBeAnnotation n → Q ts x → P (n ++ ts) x) where
  pub bare_begins : Begins Q [] → BeginsBehind P
  bare_begins some n may = record { behind = some.behind; value = some.value; is = makes n some.behind some.value may some.is }

  pub bare_viable : (read : List Lexeme → Outcome A) → IsViable read Q → ViableBehind read P
  bare_viable read viable n may ts left e = behind_tokens P n (n ++ ts) ts left refl
      (completed Q (Behinds n P) ts left (λ us a p. exactly (Behinds n P) us a (makes n us a may p)) (viable ts left e))
