-- Whatever is in the grammar is read, independent of what follows: annotations, and what is read after them.
use Rattle.std.proofs.Common.{◌≡◌, ℕ, suc, List, [], ◌∷◌, ◌++◌, None, Ok, refl, ap, ◌∙◌, append_assoc}
use Rattle.rnc_model.specs.declared.token.Sign.TheVariants.{OpenBracket, CloseBracket}
use Rattle.rnc_syntax.specs.declared.annotations.Role.TheVariants as roles
use Rattle.rnc_model.specs.tokens.Cut.{Lexeme, sign}
use Rattle.rnc_model.specs.grammar.NameClasses as grammar
use Rattle.rnc_model.specs.grammar.NameClasses.{IsAnnotationContent, MayBeAnnotation}
use Rattle.rnc_syntax.specs.plain.Combinators.{Outcome, ◌>>=◌, follow}
use Rattle.rnc_syntax.specs.plain.Productions.{annotation_end, annotation_at, annotated}
use Rattle.rnc_syntax.proofs.AnnotationSteps.{by_front}
use Rattle.rnc_syntax.proofs.Soundness.Annotations.{no_bracket_is}

-- content does not change the number of open annotations
content_passed : {ts : List Lexeme} → IsAnnotationContent ts → (n : ℕ) (rest : List Lexeme) → annotation_end n (ts ++ rest) ≡ annotation_end n rest
content_passed (grammar.no_content e) n rest = rw e refl
content_passed (grammar.and_token {a = a} {x = x} is p e) n rest = ap (λ (ts : List Lexeme). annotation_end n (ts ++ rest)) e
    ∙ by_front roles.Content n x (a ++ rest) (no_bracket_is x is) ∙ content_passed p n rest
content_passed (grammar.and_annotation {a = a} {b = b} p q e) n rest = ap (λ (ts : List Lexeme). annotation_end n (ts ++ rest)) e
    ∙ by_front roles.Opens n (sign OpenBracket) ((a ++ sign CloseBracket ∷ b) ++ rest) refl
    ∙ ap (annotation_end (suc n)) (append_assoc a (sign CloseBracket ∷ b) rest) ∙ content_passed p (suc n) (sign CloseBracket ∷ (b ++ rest))
    ∙ by_front roles.Closes (suc n) (sign CloseBracket) (b ++ rest) refl ∙ content_passed q n rest

-- the rest of an annotation is read
pub end_read : {a : List Lexeme} → IsAnnotationContent a → (rest : List Lexeme) → annotation_end 0 ((a ++ sign CloseBracket ∷ []) ++ rest) ≡ Ok (tt, rest)
end_read {a} p rest = ap (annotation_end 0) (append_assoc a (sign CloseBracket ∷ []) rest) ∙ content_passed p 0 (sign CloseBracket ∷ rest)
    ∙ by_front roles.Closes 0 (sign CloseBracket) rest refl

pub annotation_read : {note : List Lexeme} → MayBeAnnotation note → (rest : List Lexeme) → follow OpenBracket rest ≡ None
    → annotation_at (note ++ rest) ≡ Ok (tt, rest)
unfolding annotation_at
annotation_read (grammar.without_annotation e) rest is = rw (e, is) refl
annotation_read (grammar.with_annotation p e) rest is = rw e (end_read p rest)

-- what is read does not begin with an annotation
abbrev pub StandsAlone : {A : Type 0} → (List Lexeme → Outcome A) → Type 0
StandsAlone {A} read = (us : List Lexeme) (x : A × List Lexeme) → read (sign OpenBracket ∷ us) ≡ Ok x → ⊥

pub no_bracket : {A : Type 0} (read : List Lexeme → Outcome A) → StandsAlone read → (ts : List Lexeme) (x : A × List Lexeme) → read ts ≡ Ok x
    → follow OpenBracket ts ≡ None
no_bracket read alone [] x e = refl
no_bracket read alone (sign OpenBracket ∷ ts) x e = absurd (alone ts x e)
no_bracket read alone (_ ∷ ts) x e = refl

pub annotated_parts : (ts note a rest : List Lexeme) → ts ≡ note ++ a → ts ++ rest ≡ note ++ (a ++ rest)
annotated_parts ts note a rest e = ap (λ (ts : List Lexeme). ts ++ rest) e ∙ append_assoc note a rest

module _ {A : Type 0} (read : List Lexeme → Outcome A) where
  pub annotated_is : {note : List Lexeme} → MayBeAnnotation note → (us : List Lexeme) → follow OpenBracket us ≡ None → annotated read (note ++ us) ≡ read us
  annotated_is may us is = ap (λ (r : Outcome (Unit {0})). r >>= λ x. read x.1) (annotation_read may us is)

  module _ (alone : StandsAlone read) where
    pub annotated_behind : {note : List Lexeme} → MayBeAnnotation note → (us : List Lexeme) (x : A × List Lexeme) → read us ≡ Ok x
        → annotated read (note ++ us) ≡ Ok x
    annotated_behind may us x e = annotated_is may us (no_bracket read alone us x e) ∙ e

    pub annotated_read : {note : List Lexeme} → MayBeAnnotation note → (ts a rest : List Lexeme) (x : A) → ts ≡ note ++ a → read (a ++ rest) ≡ Ok (x, rest)
        → annotated read (ts ++ rest) ≡ Ok (x, rest)
    annotated_read {note} may ts a rest x e one = ap (annotated read) (annotated_parts ts note a rest e) ∙ annotated_behind may (a ++ rest) (x, rest) one
