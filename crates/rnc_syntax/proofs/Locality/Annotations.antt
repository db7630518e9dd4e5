-- The result of a reader depends only on the tokens it read and on the next one: annotations, and what is read after
-- them.
use Rattle.std.proofs.Common.{◌≡◌, ℕ, zero, suc, List, [], ◌∷◌, Ok, refl}
use Rattle.rnc_model.specs.declared.token.Sign.TheVariants.{OpenBracket}
use Rattle.rnc_syntax.specs.declared.annotations.Role.{Role}
use Rattle.rnc_syntax.specs.declared.annotations.Role.TheVariants as roles
use Rattle.rnc_model.specs.tokens.Cut.{Lexeme}
use Rattle.rnc_syntax.specs.plain.Combinators.{Outcome, ◌>>=◌, follow}
use Rattle.rnc_syntax.specs.plain.Productions.{role_of, annotation_end, annotation_at, annotated}
use Rattle.rnc_syntax.proofs.AnnotationSteps.{by_front}
use Rattle.rnc_syntax.proofs.Locality.{LocalAt, IsLocal, ok_local, stuck_end, stuck_front, cons_local, bind_local}
use Rattle.rnc_syntax.proofs.Locality.Fronts.{either_local, follow_front}

module _ (t : Lexeme) (ts : List Lexeme) (others : (n : ℕ) → LocalAt (annotation_end n) (annotation_end n) ts) where
  end_by : (r : Role) (n : ℕ) → role_of t ≡ r → LocalAt (annotation_end n) (annotation_end n) (t ∷ ts)
  end_by roles.Opens n is = cons_local (annotation_end n) (annotation_end n) (annotation_end (suc n)) (annotation_end (suc n)) t ts
      (λ us. by_front roles.Opens n t us is) (λ us. by_front roles.Opens n t us is) (others (suc n))
  end_by roles.Closes zero is = cons_local (annotation_end zero) (annotation_end zero) (λ us. Ok (tt, us)) (λ us. Ok (tt, us)) t ts
      (λ us. by_front roles.Closes zero t us is) (λ us. by_front roles.Closes zero t us is) (ok_local tt ts)
  end_by roles.Closes (suc n) is = cons_local (annotation_end (suc n)) (annotation_end (suc n)) (annotation_end n) (annotation_end n) t ts
      (λ us. by_front roles.Closes (suc n) t us is) (λ us. by_front roles.Closes (suc n) t us is) (others n)
  end_by roles.Content n is = cons_local (annotation_end n) (annotation_end n) (annotation_end n) (annotation_end n) t ts
      (λ us. by_front roles.Content n t us is) (λ us. by_front roles.Content n t us is) (others n)
  end_by roles.Foreign n is = stuck_front (annotation_end n) (annotation_end n) t ts (λ us. by_front roles.Foreign n t us is)
      (λ us. by_front roles.Foreign n t us is)

end_local : (n : ℕ) → IsLocal (annotation_end n) (annotation_end n)
unfolding annotation_end
end_local n [] = stuck_end (annotation_end n) (annotation_end n) refl refl
end_local n (t ∷ ts) = end_by t ts (λ m. end_local m ts) (role_of t) n refl

annotation_local : IsLocal annotation_at annotation_at
unfolding annotation_at
annotation_local ts = either_local (follow OpenBracket) refl (annotation_end 0) (annotation_end 0)
    (follow_front (annotation_end 0) (annotation_end 0) (end_local 0) OpenBracket) (λ us. Ok (tt, us)) (λ us. Ok (tt, us)) ts (ok_local tt ts)

module _ {A : Type 0} (read deeper : List Lexeme → Outcome A) (l : IsLocal read deeper) where
  pub annotated_local : IsLocal (annotated read) (annotated deeper)
  annotated_local ts = bind_local annotation_at annotation_at (λ x us. read us) (λ x us. deeper us) ts (annotation_local ts) (λ x rest e. l rest)

  -- after the sign that opens the annotation
  pub opened_local : IsLocal (λ us. annotation_end 0 us >>= λ x. read x.1) (λ us. annotation_end 0 us >>= λ x. deeper x.1)
  opened_local ts = bind_local (annotation_end 0) (annotation_end 0) (λ x us. read us) (λ x us. deeper us) ts (end_local 0 ts) (λ x rest e. l rest)
