-- The steps of reading an annotation, by the role of the first token.
use Rattle.std.proofs.Common.{◌≡◌, ℕ, zero, suc, ◌+◌, ◌-◌, List, [], ◌∷◌, length, Some, None, Ok, refl, sym, ap, ◌∙◌, add-one, sub-one}
use Rattle.std.proofs.lemmas.Option.{same_Some}
use Rattle.rnc_syntax.specs.declared.annotations.Role.{Role}
use Rattle.rnc_syntax.specs.declared.annotations.Role.TheVariants as roles
use Rattle.rnc_syntax.specs.declared.fault.ReadFault.{ReadFault}
use Rattle.rnc_syntax.specs.declared.fault.ReadFault.TheVariants as read_faults
use Rattle.rnc_syntax.specs.declared.fault.Stop.TheVariants.{Unexpected}
use Rattle.rnc_model.specs.tokens.Cut.{Lexeme}
use Rattle.rnc_syntax.specs.plain.Combinators.{Outcome, unexpected}
use Rattle.rng_model.specs.plain.Answers.{Refuses}
use Rattle.rnc_syntax.specs.views.Fault.{stop_of}
use Rattle.rnc_syntax.specs.plain.Productions.{role_of, role_front, by_role, one_less, annotation_end}

-- what follows a token of this role, with n annotations open
abbrev pub onwards : Role → ℕ → List Lexeme → List Lexeme → Outcome (Unit {0})
onwards r n ts us = by_role r (annotation_end (suc n) us) (one_less n (Ok (tt, us)) (λ m. annotation_end m us)) (annotation_end n us) (unexpected ts)

pub by_front : (r : Role) (n : ℕ) (x : Lexeme) (ts : List Lexeme) → role_of x ≡ r → annotation_end n (x ∷ ts) ≡ onwards r n (x ∷ ts) ts
unfolding annotation_end
by_front r n x ts e = ap (λ (r : Role). onwards r n (x ∷ ts) ts) e

module _ (n : ℕ) (r : Role) where
  goes_on : (ts us : List Lexeme) → Some (r, us) ≡ role_front ts → annotation_end n ts ≡ onwards r n ts us
  goes_on [] us e = absurd cc
  goes_on (x ∷ ts) us e =
      let p = same_Some (r, us) (role_of x, ts) e in
      by_front (role_of x) n x ts refl ∙ sym (ap (λ (y : Role × List Lexeme). onwards y.0 n (x ∷ ts) y.1) p)

  module _ (ts us : List Lexeme) (front : Some (r, us) ≡ role_front ts) where
    in_role : (s : Role) → r ≡ s → annotation_end n ts ≡ onwards s n ts us
    in_role s e = goes_on ts us front ∙ ap (λ (r : Role). onwards r n ts us) e

    pub opens : r ≡ roles.Opens → annotation_end (n + 1) us ≡ annotation_end n ts
    opens e = rw add-one (sym (in_role roles.Opens e))

    pub stays : r ≡ roles.Content → annotation_end n us ≡ annotation_end n ts
    stays e = sym (in_role roles.Content e)

    pub closes_last : r ≡ roles.Closes → n ≡ 0 → annotation_end n ts ≡ Ok (tt, us)
    closes_last e none = in_role roles.Closes e ∙ ap (λ (k : ℕ). one_less k (Ok (tt, us)) (λ m. annotation_end m us)) none

    pub closes_inner : r ≡ roles.Closes → (n ≡ 0 → ⊥) → annotation_end (n - 1) us ≡ annotation_end n ts
    closes_inner e some = sym (in_role roles.Closes e ∙ inner n some) where
      inner : (k : ℕ) → (k ≡ 0 → ⊥) → one_less k (Ok (tt, us)) (λ m. annotation_end m us) ≡ annotation_end (k - 1) us
      inner zero some = absurd (some refl)
      inner (suc k) some = rw sub-one refl

    pub is_foreign : r ≡ roles.Foreign → annotation_end n ts ≡ unexpected ts
    is_foreign e = in_role roles.Foreign e

pub ends : (n : ℕ) (ts : List Lexeme) → None ≡ role_front ts → annotation_end n ts ≡ unexpected ts
unfolding annotation_end
ends n [] e = refl
ends n (x ∷ ts) e = absurd cc

-- the fault of the code is that of stuck tokens
pub stuck : (fault : ReadFault) (ts : List Lexeme) (r : Outcome (Unit {0})) → fault ≡ read_faults.Stop (Unexpected (length ts)) → r ≡ unexpected ts
    → Refuses (stop_of fault) r
stuck fault ts r e f = rw (e, f) refl
