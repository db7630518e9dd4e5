-- The result of a reader depends only on the tokens it read and on the next one: name classes.
use Rattle.std.proofs.Common.{ℕ, List, [], ◌∷◌, Option, Some, None, Ok, refl}
use Rattle.rnc_model.specs.declared.token.Sign.TheVariants.{Bar, Star, Minus, OpenParenthesis, CloseParenthesis}
use Rattle.rnc_model.specs.tokens.Cut.{Lexeme, keyword, identifier, cname, ns_name, sign}
use Rattle.rnc_model.specs.grammar.Syntax as syntax
use Rattle.rnc_model.specs.grammar.Syntax.{written, NameClassAt}
use Rattle.rnc_syntax.specs.plain.Combinators.{Outcome, ◌>>=◌, follow, either_way, many}
use Rattle.rnc_syntax.specs.plain.Productions.{class_in_parens, bare_basic_with, basic_with, choice_with, excepted, bare_class_with, class_with}
use Rattle.rnc_syntax.proofs.Locality.{IsLocal, ok_local, stuck_end, stuck_front, cons_local, bind_local}
use Rattle.rnc_syntax.proofs.Locality.Fronts.{token_local, kept_local, FrontAt, closes, opens, either_local, follow_front, follow_heads}
use Rattle.rnc_syntax.proofs.Locality.Items.{many_local}
use Rattle.rnc_syntax.proofs.Locality.Annotations.{annotated_local}
use Rattle.rnc_syntax.proofs.Locality.Literals.{made_local, ended_local}

-- `-` at the front, and a value with the tokens after it
abbrev minus_after : Option (List ℕ) → List Lexeme → Option (Option (List ℕ) × List Lexeme)
minus_after p us = either_way (follow Minus us) None (λ vs. Some (p, vs))

minus_front : {A : Type 0} (p : Option (List ℕ)) (f g : Option (List ℕ) × List Lexeme → Outcome A) (t : Lexeme) → FrontAt (follow Minus) (λ us. f (p, us))
    (λ us. g (p, us)) t → FrontAt (minus_after p) f g t
minus_front p f g t (closes e) = closes (λ us. rw (e us) refl)
minus_front p f g t (opens part e l) = opens (λ us. (p, part us)) (λ us. rw (e us) refl) l

parens_local : (class deeper : List Lexeme → Outcome (NameClassAt written)) → IsLocal class deeper → IsLocal (class_in_parens class) (class_in_parens deeper)
unfolding class_in_parens
parens_local class deeper l = ended_local CloseParenthesis class deeper l

bare_basic_local : (class deeper : List Lexeme → Outcome (NameClassAt written)) → IsLocal class deeper → IsLocal (bare_basic_with class) (bare_basic_with deeper)
unfolding bare_basic_with
bare_basic_local class deeper l [] = stuck_end (bare_basic_with class) (bare_basic_with deeper) refl refl
bare_basic_local class deeper l (sign OpenParenthesis ∷ ts) = cons_local (bare_basic_with class) (bare_basic_with deeper) (class_in_parens class)
    (class_in_parens deeper) (sign OpenParenthesis) ts (λ us. refl) (λ us. refl) (parens_local class deeper l ts)
bare_basic_local class deeper l (sign Star ∷ ts) = cons_local (bare_basic_with class) (bare_basic_with deeper) (λ us. Ok (syntax.any_name, us))
    (λ us. Ok (syntax.any_name, us)) (sign Star) ts (λ us. refl) (λ us. refl) (ok_local syntax.any_name ts)
bare_basic_local class deeper l (identifier w ∷ ts) =
    let c = syntax.name_is (syntax.unprefixed w) in
    cons_local (bare_basic_with class) (bare_basic_with deeper) (λ us. Ok (c, us)) (λ us. Ok (c, us)) (identifier w) ts (λ us. refl) (λ us. refl)
    (ok_local c ts)
bare_basic_local class deeper l (keyword k s ∷ ts) =
    let c = syntax.name_is (syntax.unprefixed s.text) in
    cons_local (bare_basic_with class) (bare_basic_with deeper) (λ us. Ok (c, us)) (λ us. Ok (c, us)) (keyword k s) ts (λ us. refl) (λ us. refl) (ok_local c ts)
bare_basic_local class deeper l (cname p w ∷ ts) =
    let c = syntax.name_is (syntax.prefixed p w) in
    cons_local (bare_basic_with class) (bare_basic_with deeper) (λ us. Ok (c, us)) (λ us. Ok (c, us)) (cname p w) ts (λ us. refl) (λ us. refl) (ok_local c ts)
bare_basic_local class deeper l (ns_name p ∷ ts) = cons_local (bare_basic_with class) (bare_basic_with deeper) (λ us. Ok (syntax.ns_name p, us))
    (λ us. Ok (syntax.ns_name p, us)) (ns_name p) ts (λ us. refl) (λ us. refl) (ok_local (syntax.ns_name p) ts)
bare_basic_local class deeper l (t ∷ ts) = stuck_front (bare_basic_with class) (bare_basic_with deeper) t ts (λ us. refl) (λ us. refl)

pub basic_local : (class deeper : List Lexeme → Outcome (NameClassAt written)) → IsLocal class deeper → IsLocal (basic_with class) (basic_with deeper)
unfolding basic_with
basic_local class deeper l = annotated_local (bare_basic_with class) (bare_basic_with deeper) (bare_basic_local class deeper l)

-- ---- classes with `|` between them

module _ (basic deeper : List Lexeme → Outcome (NameClassAt written)) (l : IsLocal basic deeper) (self : IsLocal deeper deeper) where
  choice_local : (c : NameClassAt written) → IsLocal (choice_with basic c) (choice_with deeper c)
  unfolding choice_with
  choice_local c ts =
      let others = many_local (follow Bar) refl basic deeper (follow_front basic deeper l Bar) (follow_front deeper deeper self Bar) in
      kept_local (follow Bar) (follow_heads Bar) (λ us. Ok (c, us)) (λ us. Ok (c, us)) (λ us. many (follow Bar) basic us
      >>= λ x. Ok (syntax.choice_of (c ∷ x.0), x.1)) (λ us. many (follow Bar) deeper us >>= λ x. Ok (syntax.choice_of (c ∷ x.0), x.1)) ts
      (ok_local c ts) (made_local (many (follow Bar) basic) (many (follow Bar) deeper) (λ cs. syntax.choice_of (c ∷ cs)) others ts)

  -- what is excluded from `*` or `p:*`
  left_out : (p : Option (List ℕ)) → IsLocal (λ us. basic us >>= λ c. Ok (excepted p c.0, c.1)) (λ us. deeper us >>= λ c. Ok (excepted p c.0, c.1))
  left_out p = made_local basic deeper (excepted p) l

  -- after `*` or `p:*`
  wide_local : (p : Option (List ℕ)) (c : NameClassAt written)
      → IsLocal (λ us. either_way (minus_after p us) (choice_with basic c us) (λ x. basic x.1 >>= λ c. Ok (excepted x.0 c.0, c.1)))
      (λ us. either_way (minus_after p us) (choice_with deeper c us) (λ x. deeper x.1 >>= λ c. Ok (excepted x.0 c.0, c.1)))
  wide_local p c ts =
      let f = λ (x : Option (List ℕ) × List Lexeme). basic x.1 >>= λ c. Ok (excepted x.0 c.0, c.1) in
      let g = λ (x : Option (List ℕ) × List Lexeme). deeper x.1 >>= λ c. Ok (excepted x.0 c.0, c.1) in
      either_local (minus_after p) refl f g (λ t. minus_front p f g t (follow_front (λ us. f (p, us)) (λ us. g (p, us)) (left_out p) Minus t))
      (choice_with basic c) (choice_with deeper c) ts (choice_local c ts)

  many_classes : (first deeper_first : List Lexeme → Outcome (NameClassAt written)) → IsLocal first deeper_first
      → IsLocal (λ us. first us >>= λ c. choice_with basic c.0 c.1) (λ us. deeper_first us >>= λ c. choice_with deeper c.0 c.1)
  many_classes first deeper_first m ts = bind_local first deeper_first (choice_with basic) (choice_with deeper) ts (m ts) (λ c rest e. choice_local c rest)

module _ (class deeper : List Lexeme → Outcome (NameClassAt written)) (l : IsLocal class deeper) (self : IsLocal deeper deeper) where
  bare_class_local : IsLocal (bare_class_with class) (bare_class_with deeper)
  unfolding bare_class_with bare_basic_with
  bare_class_local [] = stuck_end (bare_class_with class) (bare_class_with deeper) refl refl
  bare_class_local (sign Star ∷ ts) =
      cons_local (bare_class_with class) (bare_class_with deeper) _ _ (sign Star) ts (λ us. refl) (λ us. refl)
      (wide_local (basic_with class) (basic_with deeper) (basic_local class deeper l) (basic_local deeper deeper self) None syntax.any_name ts)
  bare_class_local (ns_name p ∷ ts) =
      cons_local (bare_class_with class) (bare_class_with deeper) _ _ (ns_name p) ts (λ us. refl) (λ us. refl)
      (wide_local (basic_with class) (basic_with deeper) (basic_local class deeper l) (basic_local deeper deeper self) (Some p) (syntax.ns_name p) ts)
  bare_class_local (t ∷ ts) =
      token_local (bare_class_with class) (bare_class_with deeper) _ _ t ts (λ us. refl) (λ us. refl)
      (many_classes (basic_with class) (basic_with deeper) (basic_local class deeper l) (basic_local deeper deeper self) (bare_basic_with class)
      (bare_basic_with deeper) (bare_basic_local class deeper l) (t ∷ ts))

  pub class_local : IsLocal (class_with class) (class_with deeper)
  unfolding class_with
  class_local = annotated_local (bare_class_with class) (bare_class_with deeper) bare_class_local
