-- Tokens that nest within a limit are not too deep for the reader.
use Rattle.std.proofs.Common.{◌≡◌, ℕ, zero, suc, ◌+◌, ◌<◌, ◌≤◌, Bool, true, false, cond, List, [], ◌∷◌, length, take, Option, Some, None, Result, Ok, Err, refl}
use Rattle.std.proofs.Common.{sym, ap, subst, ◌∙◌, arith}
use Rattle.std.proofs.lemmas.List.Sums.{sum_by-cons}
use Rattle.rnc_model.specs.declared.token.Keyword.{Keyword}
use Rattle.rnc_model.specs.declared.token.Keyword.TheVariants as keywords
use Rattle.rnc_model.specs.declared.token.Sign.{Sign}
use Rattle.rnc_model.specs.declared.token.Sign.TheVariants.{Equal, BarEqual, AndEqual, Comma, Bar, And, Question, Star, Plus, Minus, OpenBrace, CloseBrace}
use Rattle.rnc_model.specs.declared.token.Sign.TheVariants.{OpenParenthesis, CloseParenthesis, OpenBracket, Tilde}
use Rattle.rnc_syntax.specs.declared.annotations.Role.{Role}
use Rattle.rnc_syntax.specs.declared.annotations.Role.TheVariants as roles
use Rattle.rng_model.specs.declared.method.Method.{Method}
use Rattle.rnc_syntax.specs.declared.fault.Stop.{Stop}
use Rattle.rnc_syntax.specs.declared.fault.Stop.TheVariants.{Unexpected, TooDeep}
use Rattle.rnc_model.specs.tokens.Cut.{Lexeme, Spelling, keyword, identifier, cname, ns_name, segment, sign}
use Rattle.rnc_model.specs.grammar.Syntax as syntax
use Rattle.rnc_model.specs.grammar.Syntax.{written, NameClassAt, DatatypeName, PatternAt}
use Rattle.rnc_model.specs.grammar.NameClasses as grammar
use Rattle.rnc_model.specs.grammar.Grammar.{Setting, content, override, IsParticle, IsComponent, IsDeclaration, IsPrimary}
use Rattle.rnc_model.specs.grammar.NameClasses.{IsBasic, method_of, MayBeParameters, MayBeAnnotation, IsClass}
use Rattle.rnc_syntax.specs.plain.Combinators.{Outcome, ◌>>=◌, follow, follow_keyword, sign_read, after, after_keyword, word_at, identifier_at, segment_at}
use Rattle.rnc_syntax.specs.plain.Combinators.{either_way, many_with, many}
use Rattle.rnc_syntax.specs.plain.Productions.{role_of, annotation_end, annotation_at, annotated, literal_at, parameter_at, parameter_front}
use Rattle.rnc_syntax.specs.plain.Productions.{annotated_parameter_at}
use Rattle.rnc_syntax.specs.plain.Productions.{in_braces_at, parameters_at, word_after_equal, inherit_at, mention_at}
use Rattle.rnc_syntax.specs.plain.Productions.{class_in_parens, bare_basic_with, basic_with, choice_with, except_front, bare_class_with, class_with}
use Rattle.rnc_syntax.specs.plain.Productions.{braced_with}
use Rattle.rnc_syntax.specs.plain.Productions.{contents_with, named_with}
use Rattle.rnc_syntax.specs.plain.Productions.{begins_segment, typed_at, other_at, atom_at, parens_with, opened_with, bare_primary_with, primary_with, repeated}
use Rattle.rnc_syntax.specs.plain.Productions.{particle_with, separator_of, rest_with, pattern_from, data_front, data_with, bare_pattern_with, pattern_with}
use Rattle.rnc_syntax.specs.plain.Productions.{method_at, overrides_with, component_front, bare_component_with}
use Rattle.rnc_syntax.specs.plain.Productions.{assigned_at, assigned, component_with, components_with, inside_at, uri_at, prefix_at, default_at, declaration_at}
use Rattle.rnc_syntax.specs.plain.Productions.{declaration_front, is_grammar_body, pattern_body_with, bare_body_with, annotated_body_with, body_with, if_ended}
use Rattle.rnc_syntax.specs.plain.Productions.{declarations_at, file_with}
use Rattle.rnc_model.specs.grammar.Sentence.{is_opening, is_closing, openings, closings, NestsWithin}
use Rattle.rnc_syntax.proofs.Balance.{Balanced, Plain, plain, plain_type, join_even, declarations_even, second_within, behind_within, basic_even, class_even}
use Rattle.rnc_syntax.proofs.Balance.{annotation_even, particle_even, primary_even, component_even, may_parameters_even, literal_even, may_inherit_even}
use Rattle.rnc_syntax.proofs.AnnotationSteps.{onwards}
use Rattle.rnc_syntax.proofs.Soundness.Annotations.{end_sound, whole_annotation, IsSkipped, annotation_sound}
use Rattle.rnc_syntax.proofs.Soundness.{TakesFront, many_sound, follow_is, after_is}
use Rattle.rnc_syntax.proofs.Soundness.Literals.{parameters_sound, IsMention, mention_sound}
use Rattle.rnc_syntax.proofs.Soundness.Classes.{bare_basic_behind, basic_sound, except_tokens, except_is, class_sound}
use Rattle.rnc_syntax.proofs.Soundness.Patterns.{IsMethod, method_sound, data_front_is, component_front_is, assignment_with, assignment_is, inside_sound}
use Rattle.rnc_syntax.proofs.Soundness.Patterns.{bare_primary_behind, particle_sound, bare_component_behind, component_item}
use Rattle.rnc_syntax.proofs.Soundness.Files.{declaration_item, declarations_are}

abbrev pub NotDeep : {A : Type 0} → Result A Stop → Type 0
NotDeep {A} r = r ≡ Err TooDeep → ⊥

bind_calm : {A B : Type 0} (r : Result A Stop) (f : A → Result B Stop) → NotDeep r → ((x : A) → r ≡ Ok x → NotDeep (f x)) → NotDeep (r >>= f)
bind_calm (Ok x) f first second e = second x refl e
bind_calm (Err (Unexpected n)) f first second e = absurd cc
bind_calm (Err TooDeep) f first second e = first refl

ok_calm : {A : Type 0} (x : A) → NotDeep (Ok x)
ok_calm x e = absurd cc

sign_read_calm : (ts : List Lexeme) (o : Option (List Lexeme)) → NotDeep (sign_read ts o)
sign_read_calm ts None e = absurd cc
sign_read_calm ts (Some us) e = absurd cc

after_calm : (s : Sign) (ts : List Lexeme) → NotDeep (after s ts)
unfolding after
after_calm s ts = sign_read_calm ts (follow s ts)

after_keyword_calm : (k : Keyword) (ts : List Lexeme) → NotDeep (after_keyword k ts)
unfolding after_keyword
after_keyword_calm k ts = sign_read_calm ts (follow_keyword k ts)

word_calm : (ts : List Lexeme) → NotDeep (word_at ts)
unfolding word_at
word_calm [] e = absurd cc
word_calm (keyword k s ∷ ts) e = absurd cc
word_calm (identifier w ∷ ts) e = absurd cc
word_calm (cname p l ∷ ts) e = absurd cc
word_calm (ns_name p ∷ ts) e = absurd cc
word_calm (segment w ∷ ts) e = absurd cc
word_calm (sign s ∷ ts) e = absurd cc

identifier_calm : (ts : List Lexeme) → NotDeep (identifier_at ts)
unfolding identifier_at
identifier_calm [] e = absurd cc
identifier_calm (identifier w ∷ ts) e = absurd cc
identifier_calm (_ ∷ ts) e = absurd cc

segment_calm : (ts : List Lexeme) → NotDeep (segment_at ts)
unfolding segment_at
segment_calm [] e = absurd cc
segment_calm (segment w ∷ ts) e = absurd cc
segment_calm (_ ∷ ts) e = absurd cc

method_calm : (ts : List Lexeme) → NotDeep (method_at ts)
unfolding method_at
method_calm [] e = absurd cc
method_calm (sign s ∷ ts) e = the_sign s ts e where
  the_sign : (s : Sign) (ts : List Lexeme) → NotDeep (method_at (sign s ∷ ts))
  the_sign Equal ts e = absurd cc
  the_sign BarEqual ts e = absurd cc
  the_sign AndEqual ts e = absurd cc
  the_sign _ ts e = absurd cc
method_calm (_ ∷ ts) e = absurd cc

either_calm : {A B : Type 0} (o : Option A) (b : Result B Stop) (f : A → Result B Stop) → (o ≡ None → NotDeep b) → ((a : A) → o ≡ Some a → NotDeep (f a))
    → NotDeep (either_way o b f)
either_calm None b f first second = first refl
either_calm (Some a) b f first second = second a refl

if_calm : {A : Type 0} (b : Bool) (r s : Result A Stop) → NotDeep r → NotDeep s → NotDeep (cond b r s)
if_calm true r s f g = f
if_calm false r s f g = g

module _ {A : Type 0} (Q : List Lexeme → Type 0) (next : List Lexeme → Option (List Lexeme)) (item : List Lexeme → Outcome A)
    (items : (ts us : List Lexeme) → Q ts → next ts ≡ Some us → NotDeep (item us)) (keeps : (ts us : List Lexeme) (x : A × List Lexeme) → Q ts
    → next ts ≡ Some us → item us ≡ Ok x → Q x.1) where
  many_with_calm : (k : ℕ) (ts : List Lexeme) → Q ts → NotDeep (many_with next item k ts)
  unfolding many_with
  many_with_calm zero ts q = ok_calm ([], ts)
  many_with_calm (suc k) ts q =
      either_calm (next ts) (Ok ([], ts)) (λ us. item us >>= λ x. many_with next item k x.1 >>= λ rest. Ok (x.0 ∷ rest.0, rest.1)) (λ _. ok_calm ([], ts))
      (λ us is. bind_calm (item us) (λ x. many_with next item k x.1 >>= λ rest. Ok (x.0 ∷ rest.0, rest.1)) (items ts us q is)
      (λ x e. bind_calm (many_with next item k x.1) (λ rest. Ok (x.0 ∷ rest.0, rest.1)) (many_with_calm k x.1 (keeps ts us x q is e))
      (λ y _. ok_calm (x.0 ∷ y.0, y.1))))

  many_calm : (ts : List Lexeme) → Q ts → NotDeep (many next item ts)
  many_calm ts q = many_with_calm (length ts) ts q

abbrev Any : List Lexeme → Type 0
Any ts = Unit {0}

end_by : (r : Role) (n : ℕ) (t : Lexeme) (ts : List Lexeme) → ((n : ℕ) → NotDeep (annotation_end n ts)) → NotDeep (onwards r n (t ∷ ts) ts)
end_by roles.Opens n t ts others e = others (suc n) e
end_by roles.Closes zero t ts others e = absurd cc
end_by roles.Closes (suc n) t ts others e = others n e
end_by roles.Content n t ts others e = others n e
end_by roles.Foreign n t ts others e = absurd cc

end_calm : (n : ℕ) (ts : List Lexeme) → NotDeep (annotation_end n ts)
unfolding annotation_end
end_calm n [] e = absurd cc
end_calm n (t ∷ ts) e = end_by (role_of t) n t ts (λ m. end_calm m ts) e

annotation_calm : (ts : List Lexeme) → NotDeep (annotation_at ts)
unfolding annotation_at
annotation_calm ts = either_calm (follow OpenBracket ts) (Ok (tt, ts)) (annotation_end 0) (λ _. ok_calm (tt, ts)) (λ us _. end_calm 0 us)

literal_calm : (ts : List Lexeme) → NotDeep (literal_at ts)
unfolding literal_at
literal_calm ts = bind_calm (segment_at ts) _ (segment_calm ts)
    (λ x _. bind_calm (many (follow Tilde) segment_at x.1) _ (many_calm Any (follow Tilde) segment_at (λ ts us _ _. segment_calm us) (λ ts us x _ _ _. tt) x.1
    tt) (λ y _. ok_calm _))

parameter_calm : (ts : List Lexeme) → NotDeep (parameter_at ts)
unfolding parameter_at
parameter_calm ts = bind_calm (word_at ts) _ (word_calm ts) (λ x _. bind_calm (after Equal x.1) _ (after_calm Equal x.1)
    (λ y _. bind_calm (literal_at y.1) _ (literal_calm y.1) (λ z _. ok_calm _)))

annotated_parameter_calm : (ts : List Lexeme) → NotDeep (annotated_parameter_at ts)
unfolding annotated_parameter_at
annotated_parameter_calm ts = bind_calm (annotation_at ts) _ (annotation_calm ts) (λ x _. parameter_calm x.1)

in_braces_calm : {A : Type 0} (read : List Lexeme → Outcome A) (ts : List Lexeme) → NotDeep (read ts) → NotDeep (in_braces_at read ts)
unfolding in_braces_at
in_braces_calm read ts calm = bind_calm (read ts) _ calm (λ x _. bind_calm (after CloseBrace x.1) _ (after_calm CloseBrace x.1) (λ y _. ok_calm _))

parameters_calm : (ts : List Lexeme) → NotDeep (parameters_at ts)
unfolding parameters_at
parameters_calm ts = either_calm (follow OpenBrace ts) (Ok ([], ts)) (in_braces_at (many parameter_front annotated_parameter_at)) (λ _. ok_calm _)
    (λ us _. in_braces_calm (many parameter_front annotated_parameter_at) us
    (many_calm Any parameter_front annotated_parameter_at (λ ts us _ _. annotated_parameter_calm us) (λ ts us x _ _ _. tt) us tt))

inherit_calm : (ts : List Lexeme) → NotDeep (inherit_at ts)
unfolding inherit_at word_after_equal
inherit_calm ts = either_calm (follow_keyword keywords.Inherit ts) (Ok (None, ts)) word_after_equal (λ _. ok_calm _)
    (λ us _. bind_calm (after Equal us) _ (after_calm Equal us) (λ x _. bind_calm (word_at x.1) _ (word_calm x.1) (λ y _. ok_calm _)))

mention_calm : (number : ℕ) (ts : List Lexeme) → NotDeep (mention_at number ts)
unfolding mention_at
mention_calm number ts = bind_calm (literal_at ts) _ (literal_calm ts) (λ x _. bind_calm (inherit_at x.1) _ (inherit_calm x.1) (λ y _. ok_calm _))

-- ---- with brackets

-- no annotation
none : MayBeAnnotation []
none = grammar.without_annotation refl

-- fewer than n brackets are open at each token
abbrev NestsBelow : ℕ → List Lexeme → Type 0
NestsBelow n ts = (k : ℕ) → openings (take k ts) < closings (take k ts) + n

weight : Bool → ℕ
weight b = cond b 1 0

below_open : (n : ℕ) (ts : List Lexeme) (x : Lexeme) (us : List Lexeme) → is_opening x ≡ true → is_closing x ≡ false → ts ≡ x ∷ us → NestsWithin n ts
    → NestsBelow n us
unfolding weight
below_open n ts x us o c e h k =
    let q : openings (x ∷ take k us) ≤ closings (x ∷ take k us) + n = subst (NestsWithin n) e h (suc k) in
    omega (
      arith,
      q,
      sum_by-cons (λ (x : Lexeme). cond (is_opening x) 1 0) x (take k us),
      sum_by-cons (λ (x : Lexeme). cond (is_closing x) 1 0) x (take k us),
      ap weight o,
      ap weight c,
    )

within_below : (n : ℕ) (ts : List Lexeme) → NestsBelow (suc n) ts → NestsWithin n ts
within_below n ts h k = let q = h k in omega (arith, q)

none_below : (ts : List Lexeme) → NestsBelow 0 ts → ⊥
none_below ts h = let q = h 0 in omega (arith, q)

after_reads : {A : Type 0} (n : ℕ) (P : List Lexeme → A → Type 0) (ts : List Lexeme) (x : A × List Lexeme) → TakesFront P ts x
    → ((front : List Lexeme) (a : A) → P front a → Balanced front) → NestsWithin n ts → NestsWithin n x.1
after_reads n P ts x r even nest = second_within n ts r.front x.1 r.parts (even r.front x.0 r.is) nest

-- after an annotation
annotated_calm : {A : Type 0} (n : ℕ) (read : List Lexeme → Outcome A) → ((ts : List Lexeme) → NestsWithin n ts → NotDeep (read ts)) → (ts : List Lexeme)
    → NestsWithin n ts → NotDeep (annotated read ts)
annotated_calm n read calm ts nest = bind_calm (annotation_at ts) _ (annotation_calm ts)
    (λ x e. calm x.1 (after_reads n IsSkipped ts x (annotation_sound ts x e) (λ front u p. annotation_even p) nest))

-- the inside of brackets is not too deep
record InsideCalm (n : ℕ) : Type 0 where
  pub class : (ts : List Lexeme) → NestsBelow n ts → NotDeep ((inside_at n).class ts)
  pub pattern : (ts : List Lexeme) → NestsBelow n ts → NotDeep ((inside_at n).pattern ts)
  pub components : (w : Setting) (ts : List Lexeme) → NestsBelow n ts → NotDeep ((inside_at n).components w ts)

plain_sign : (n : ℕ) (ts us : List Lexeme) (s : Sign) → is_opening (sign s) ≡ false → is_closing (sign s) ≡ false → ts ≡ sign s ∷ us → NestsWithin n ts
    → NestsWithin n us
plain_sign n ts us s o c e nest = behind_within n ts (sign s) us e (plain (sign s) o c) nest

module _ (n : ℕ) (inner : InsideCalm n) where
  basics : List Lexeme → Outcome (NameClassAt written)
  basics = basic_with (inside_at n).class

  bare_basic_calm : (ts : List Lexeme) → NestsWithin n ts → NotDeep (bare_basic_with (inside_at n).class ts)
  unfolding bare_basic_with class_in_parens
  bare_basic_calm [] nest e = absurd cc
  bare_basic_calm (identifier w ∷ ts) nest e = absurd cc
  bare_basic_calm (keyword k s ∷ ts) nest e = absurd cc
  bare_basic_calm (cname p l ∷ ts) nest e = absurd cc
  bare_basic_calm (ns_name p ∷ ts) nest e = absurd cc
  bare_basic_calm (segment w ∷ ts) nest e = absurd cc
  bare_basic_calm (sign Star ∷ ts) nest e = absurd cc
  bare_basic_calm (sign OpenParenthesis ∷ ts) nest e =
      bind_calm ((inside_at n).class ts) (λ body. after CloseParenthesis body.1 >>= λ end. Ok (body.0, end.1))
      (inner.class ts (below_open n (sign OpenParenthesis ∷ ts) (sign OpenParenthesis) ts refl refl refl nest))
      (λ x _. bind_calm (after CloseParenthesis x.1) _ (after_calm CloseParenthesis x.1) (λ y _. ok_calm _)) e
  bare_basic_calm (sign _ ∷ ts) nest e = absurd cc

  basic_calm : (ts : List Lexeme) → NestsWithin n ts → NotDeep (basic_with (inside_at n).class ts)
  unfolding basic_with
  basic_calm = annotated_calm n (bare_basic_with (inside_at n).class) bare_basic_calm

  behind_basic : (ts : List Lexeme) (x : NameClassAt written × List Lexeme) → NestsWithin n ts → basic_with (inside_at n).class ts ≡ Ok x → NestsWithin n x.1
  behind_basic ts x nest e = after_reads n IsBasic ts x (basic_sound (inside_at n).class (inside_sound n).class ts x e) (λ front a p. basic_even p) nest

  behind_bare_basic : (ts : List Lexeme) (x : NameClassAt written × List Lexeme) → NestsWithin n ts → bare_basic_with (inside_at n).class ts ≡ Ok x
      → NestsWithin n x.1
  behind_bare_basic ts x nest e = after_reads n IsBasic ts x (bare_basic_behind (inside_at n).class (inside_sound n).class [] none ts x e)
      (λ front a p. basic_even p) nest

  choice_calm : (c : NameClassAt written) (ts : List Lexeme) → NestsWithin n ts → NotDeep (choice_with (basic_with (inside_at n).class) c ts)
  unfolding choice_with
  choice_calm c ts nest = either_calm (follow Bar ts) _ _ (λ _. ok_calm _)
      (λ us _. bind_calm (many (follow Bar) (basic_with (inside_at n).class) ts) _
      (many_calm (NestsWithin n) (follow Bar) (basic_with (inside_at n).class)
      (λ ts us nest is. basic_calm us (plain_sign n ts us Bar refl refl (follow_is Bar ts us is) nest))
      (λ ts us x nest is e. behind_basic us x (plain_sign n ts us Bar refl refl (follow_is Bar ts us is) nest) e) ts nest)
      (λ y _. ok_calm _))

  tokens_within : (o : Option (List ℕ)) (ts : List Lexeme) → NestsWithin n (except_tokens o ts) → NestsWithin n ts
  tokens_within None ts nest = plain_sign n (sign Minus ∷ ts) ts Minus refl refl refl (plain_sign n (sign Star ∷ sign Minus ∷ ts) (sign Minus ∷ ts) Star refl
      refl refl nest)
  tokens_within (Some p) ts nest = plain_sign n (sign Minus ∷ ts) ts Minus refl refl refl
      (behind_within n (ns_name p ∷ sign Minus ∷ ts) (ns_name p) (sign Minus ∷ ts) refl (plain (ns_name p) refl refl) nest)

  except_within : (ts : List Lexeme) (y : Option (List ℕ) × List Lexeme) → except_front ts ≡ Some y → NestsWithin n ts → NestsWithin n y.1
  except_within ts y e nest = tokens_within y.0 y.1 (subst (NestsWithin n) (except_is ts y e) nest)

  bare_class_calm : (ts : List Lexeme) → NestsWithin n ts → NotDeep (bare_class_with (inside_at n).class ts)
  unfolding bare_class_with
  bare_class_calm ts nest = either_calm (except_front ts) _ _
      (λ _. bind_calm (bare_basic_with (inside_at n).class ts) _ (bare_basic_calm ts nest) (λ x e. choice_calm x.0 x.1 (behind_bare_basic ts x nest e)))
      (λ y is. bind_calm (basic_with (inside_at n).class y.1) _ (basic_calm y.1 (except_within ts y is nest)) (λ x e. ok_calm _))

  class_calm : (ts : List Lexeme) → NestsWithin n ts → NotDeep (class_with (inside_at n).class ts)
  unfolding class_with
  class_calm = annotated_calm n (bare_class_with (inside_at n).class) bare_class_calm

  braced_calm : (ts : List Lexeme) → NestsWithin n ts → NotDeep (braced_with (inside_at n) ts)
  unfolding braced_with
  braced_calm ts nest = bind_calm (after OpenBrace ts) _ (after_calm OpenBrace ts)
      (λ x e. in_braces_calm (inside_at n).pattern x.1 (inner.pattern x.1 (below_open n ts (sign OpenBrace) x.1 refl refl (after_is OpenBrace ts x e) nest)))

  contents_calm : (w : Setting) (ts : List Lexeme) → NestsWithin n ts → NotDeep (contents_with (inside_at n) w ts)
  unfolding contents_with
  contents_calm w ts nest = bind_calm (after OpenBrace ts) _ (after_calm OpenBrace ts)
      (λ x e. in_braces_calm ((inside_at n).components w) x.1
      (inner.components w x.1 (below_open n ts (sign OpenBrace) x.1 refl refl (after_is OpenBrace ts x e) nest)))

  named_calm : (make : NameClassAt written → PatternAt written → PatternAt written) (ts : List Lexeme) → NestsWithin n ts → NotDeep (named_with (inside_at n) make ts)
  unfolding named_with
  named_calm make ts nest = bind_calm (class_with (inside_at n).class ts) _ (class_calm ts nest)
      (λ x e. bind_calm (braced_with (inside_at n) x.1) _
      (braced_calm x.1 (after_reads n IsClass ts x (class_sound (inside_at n).class (inside_sound n).class ts x e) (λ front a p. class_even p) nest))
      (λ y _. ok_calm _))

  typed_calm : (d : DatatypeName written) (ts : List Lexeme) → NotDeep (typed_at d ts)
  unfolding typed_at
  typed_calm d ts = if_calm (begins_segment ts) _ _ (bind_calm (literal_at ts) _ (literal_calm ts) (λ y _. ok_calm _))
      (bind_calm (parameters_at ts) _ (parameters_calm ts) (λ y _. ok_calm _))

  keyword_within : (k : Keyword) (s : Spelling) (ts : List Lexeme) → NestsWithin n (keyword k s ∷ ts) → NestsWithin n ts
  keyword_within k s ts nest = behind_within n (keyword k s ∷ ts) (keyword k s) ts refl (plain (keyword k s) refl refl) nest

  bare_primary_calm : (ts : List Lexeme) → NestsWithin n ts → NotDeep (bare_primary_with (inside_at n) ts)
  unfolding bare_primary_with atom_at other_at opened_with parens_with
  bare_primary_calm (keyword keywords.Element s ∷ ts) nest = named_calm syntax.element ts (keyword_within keywords.Element s ts nest)
  bare_primary_calm (keyword keywords.Attribute s ∷ ts) nest = named_calm syntax.attribute ts (keyword_within keywords.Attribute s ts nest)
  bare_primary_calm (keyword keywords.List s ∷ ts) nest = bind_calm (braced_with (inside_at n) ts) _ (braced_calm ts (keyword_within keywords.List s ts nest))
      (λ y _. ok_calm _)
  bare_primary_calm (keyword keywords.Mixed s ∷ ts) nest = bind_calm (braced_with (inside_at n) ts) _ (braced_calm ts (keyword_within keywords.Mixed s ts nest))
      (λ y _. ok_calm _)
  bare_primary_calm (keyword keywords.Parent s ∷ ts) nest = bind_calm (identifier_at ts) _ (identifier_calm ts) (λ y _. ok_calm _)
  bare_primary_calm (keyword keywords.String s ∷ ts) nest = typed_calm syntax.string_type ts
  bare_primary_calm (keyword keywords.Token s ∷ ts) nest = typed_calm syntax.token_type ts
  bare_primary_calm (keyword keywords.External s ∷ ts) nest = bind_calm (mention_at s.number ts) _ (mention_calm s.number ts) (λ y _. ok_calm _)
  bare_primary_calm (keyword keywords.Grammar s ∷ ts) nest = bind_calm (contents_with (inside_at n) content ts) _
      (contents_calm content ts (keyword_within keywords.Grammar s ts nest)) (λ y _. ok_calm _)
  bare_primary_calm (cname p l ∷ ts) nest = typed_calm (syntax.prefixed_type p l) ts
  bare_primary_calm (segment w ∷ ts) nest = bind_calm (literal_at (segment w ∷ ts)) (λ v. Ok (syntax.value syntax.token_type v.0, v.1))
      (literal_calm (segment w ∷ ts)) (λ y _. ok_calm _)
  bare_primary_calm (sign OpenParenthesis ∷ ts) nest =
      bind_calm ((inside_at n).pattern ts) (λ body. after CloseParenthesis body.1 >>= λ end. Ok (body.0, end.1))
      (inner.pattern ts (below_open n (sign OpenParenthesis ∷ ts) (sign OpenParenthesis) ts refl refl refl nest))
      (λ x _. bind_calm (after CloseParenthesis x.1) _ (after_calm CloseParenthesis x.1) (λ y _. ok_calm _))
  bare_primary_calm _ nest = λ e. absurd cc

  primary_calm : (ts : List Lexeme) → NestsWithin n ts → NotDeep (primary_with (inside_at n) ts)
  unfolding primary_with
  primary_calm = annotated_calm n (bare_primary_with (inside_at n)) bare_primary_calm

  particle_calm : (ts : List Lexeme) → NestsWithin n ts → NotDeep (particle_with (inside_at n) ts)
  unfolding particle_with
  particle_calm ts nest = bind_calm (primary_with (inside_at n) ts) _ (primary_calm ts nest) (λ y _. ok_calm _)

  separator_plain : (s : Sign) (ts : List Lexeme) → separator_of ts ≡ Some s → Plain (sign s)
  separator_plain s (sign Comma ∷ ts) e = let q : Comma ≡ s = cc in subst (λ (s : Sign). Plain (sign s)) q (plain (sign Comma) refl refl)
  separator_plain s (sign And ∷ ts) e = let q : And ≡ s = cc in subst (λ (s : Sign). Plain (sign s)) q (plain (sign And) refl refl)
  separator_plain s (sign Bar ∷ ts) e = let q : Bar ≡ s = cc in subst (λ (s : Sign). Plain (sign s)) q (plain (sign Bar) refl refl)
  separator_plain s _ e = absurd cc

  behind_particle : (ts : List Lexeme) (x : PatternAt written × List Lexeme) → NestsWithin n ts → particle_with (inside_at n) ts ≡ Ok x → NestsWithin n x.1
  behind_particle ts x nest e = after_reads n IsParticle ts x (particle_sound (inside_at n) (inside_sound n) ts x e) (λ front a p. particle_even p) nest

  behind_sign : (s : Sign) (ts us : List Lexeme) → Plain (sign s) → follow s ts ≡ Some us → NestsWithin n ts → NestsWithin n us
  behind_sign s ts us is e nest = behind_within n ts (sign s) us (follow_is s ts us e) is nest

  rest_calm : (t : PatternAt written) (o : Option Sign) (ts : List Lexeme) → separator_of ts ≡ o → NestsWithin n ts → NotDeep (rest_with (inside_at n) t o ts)
  unfolding rest_with
  rest_calm t None ts is nest = ok_calm _
  rest_calm t (Some s) ts is nest = bind_calm (many (follow s) (particle_with (inside_at n)) ts) _
      (many_calm (NestsWithin n) (follow s) (particle_with (inside_at n))
      (λ us vs nest e. particle_calm vs (behind_sign s us vs (separator_plain s ts is) e nest))
      (λ us vs x nest e f. behind_particle vs x (behind_sign s us vs (separator_plain s ts is) e nest) f) ts nest)
      (λ y _. ok_calm _)

  repeated_within : (t : PatternAt written) (ts : List Lexeme) → NestsWithin n ts → NestsWithin n (repeated t ts).1
  repeated_within t (sign Question ∷ ts) nest = plain_sign n (sign Question ∷ ts) ts Question refl refl refl nest
  repeated_within t (sign Star ∷ ts) nest = plain_sign n (sign Star ∷ ts) ts Star refl refl refl nest
  repeated_within t (sign Plus ∷ ts) nest = plain_sign n (sign Plus ∷ ts) ts Plus refl refl refl nest
  repeated_within t _ nest = nest

  pattern_from_calm : (t : PatternAt written) (ts : List Lexeme) → NestsWithin n ts → NotDeep (pattern_from (inside_at n) t ts)
  pattern_from_calm t ts nest = rest_calm (repeated t ts).0 (separator_of (repeated t ts).1) (repeated t ts).1 refl (repeated_within t ts nest)

  data_calm : (d : DatatypeName written) (ps : List (List ℕ × List ℕ)) (ts : List Lexeme) → NestsWithin n ts → NotDeep (data_with (inside_at n) d ps ts)
  unfolding data_with
  data_calm d ps ts nest = either_calm (follow Minus ts) _ _ (λ _. pattern_from_calm (syntax.data_of d ps) ts nest)
      (λ us is. bind_calm (primary_with (inside_at n) us) _ (primary_calm us (plain_sign n ts us Minus refl refl (follow_is Minus ts us is) nest))
      (λ y _. ok_calm _))

  front_within : (ts : List Lexeme) (d : DatatypeName written × List Lexeme) → data_front ts ≡ Some d → NestsWithin n ts → NestsWithin n d.1
  front_within ts d is nest = let f = data_front_is ts d is in behind_within n ts f.0 d.1 f.2 (plain_type f.0 d.0 f.1) nest

  bare_pattern_calm : (ts : List Lexeme) → NestsWithin n ts → NotDeep (bare_pattern_with (inside_at n) ts)
  unfolding bare_pattern_with
  bare_pattern_calm ts nest = either_calm (data_front ts) _ _
      (λ _. bind_calm (bare_primary_with (inside_at n) ts) _ (bare_primary_calm ts nest)
      (λ x e. pattern_from_calm x.0 x.1 (after_reads n IsPrimary ts x (bare_primary_behind (inside_at n) (inside_sound n) [] none ts x e)
      (λ front a p. primary_even p) nest)))
      (λ d is. bind_calm (parameters_at d.1) _ (parameters_calm d.1)
      (λ x e. data_calm d.0 x.0 x.1 (after_reads n MayBeParameters d.1 x (parameters_sound d.1 x e) (λ front a p. may_parameters_even p)
      (front_within ts d is nest))))

  pattern_calm : (ts : List Lexeme) → NestsWithin n ts → NotDeep (pattern_with (inside_at n) ts)
  unfolding pattern_with
  pattern_calm = annotated_calm n (bare_pattern_with (inside_at n)) bare_pattern_calm

  method_even : (front : List Lexeme) (m : Method) → IsMethod front m → Balanced front
  method_even front m p = let e = p.parts in subst Balanced (sym e) (method_alone p.token m p.method) where
    method_alone : (x : Lexeme) (m : Method) → method_of x ≡ Some m → Balanced (x ∷ [])
    method_alone (sign Equal) m e = refl
    method_alone (sign BarEqual) m e = refl
    method_alone (sign AndEqual) m e = refl
    method_alone _ m e = absurd cc

  -- a method and a pattern, after the name or `start`
  assigned_calm : (o : Option (List ℕ)) (ts : List Lexeme) → NestsWithin n ts → NotDeep (assignment_with (inside_at n) o ts)
  assigned_calm o ts nest e =
      bind_calm (method_at ts) (λ m. pattern_with (inside_at n) m.1 >>= λ t. Ok (assigned o m.0 t.0, t.1)) (method_calm ts)
      (λ x f. bind_calm (pattern_with (inside_at n) x.1) (λ t. Ok (assigned o x.0 t.0, t.1))
      (pattern_calm x.1 (after_reads n IsMethod ts x (method_sound ts x f) method_even nest)) (λ y _. ok_calm _))
      (assignment_is (inside_at n) o ts ∙ e)

  overrides_calm : (ts : List Lexeme) → NestsWithin n ts → NotDeep (overrides_with (inside_at n) ts)
  unfolding overrides_with
  overrides_calm ts nest = either_calm (follow OpenBrace ts) _ _ (λ _. ok_calm _) (λ us _. contents_calm override ts nest)

  bare_component_calm : (w : Setting) (ts : List Lexeme) → NestsWithin n ts → NotDeep (bare_component_with (inside_at n) w ts)
  unfolding bare_component_with assigned_at
  bare_component_calm w (identifier x ∷ ts) nest =
      assigned_calm (Some x) ts (behind_within n (identifier x ∷ ts) (identifier x) ts refl (plain (identifier x) refl refl) nest)
  bare_component_calm w (keyword keywords.Start s ∷ ts) nest = assigned_calm None ts (keyword_within keywords.Start s ts nest)
  bare_component_calm w (keyword keywords.Div s ∷ ts) nest = bind_calm (contents_with (inside_at n) w ts) _
      (contents_calm w ts (keyword_within keywords.Div s ts nest)) (λ y _. ok_calm _)
  bare_component_calm content (keyword keywords.Include s ∷ ts) nest =
      let inner = keyword_within keywords.Include s ts nest in
      bind_calm (mention_at s.number ts) _ (mention_calm s.number ts)
      (λ x e. bind_calm (overrides_with (inside_at n) x.1) _
      (overrides_calm x.1 (after_reads n (IsMention s.number) ts x (mention_sound s.number ts x e)
      (λ front m p. join_even p.first p.second front p.parts (literal_even p.literal) (may_inherit_even p.inherits)) inner)) (λ y _. ok_calm _))
  bare_component_calm w _ nest = λ e. absurd cc

  component_calm : (w : Setting) (ts : List Lexeme) → NestsWithin n ts → NotDeep (component_with (inside_at n) w ts)
  unfolding component_with
  component_calm w = annotated_calm n (bare_component_with (inside_at n) w) (bare_component_calm w)

  components_calm : (w : Setting) (ts : List Lexeme) → NestsWithin n ts → NotDeep (components_with (inside_at n) w ts)
  unfolding components_with
  components_calm w ts nest = many_calm (NestsWithin n) (component_front w) (component_with (inside_at n) w)
      (λ us vs nest is. component_calm w vs (subst (NestsWithin n) (component_front_is w us vs is) nest))
      (λ us vs x nest is e. after_reads n (IsComponent w) us x (component_item (inside_at n) (inside_sound n) w us vs x is e) (λ front a p. component_even p)
      nest) ts nest

inside_calm : (n : ℕ) → InsideCalm n
unfolding inside_at
inside_calm zero = record {
  class = λ ts h e. absurd (none_below ts h);
  pattern = λ ts h e. absurd (none_below ts h);
  components = λ w ts h e. absurd (none_below ts h);
}
inside_calm (suc n) =
    let c = inside_calm n in
    record {
      class = λ ts h. class_calm n c ts (within_below n ts h);
      pattern = λ ts h. pattern_calm n c ts (within_below n ts h);
      components = λ w ts h. components_calm n c w ts (within_below n ts h);
    }

-- ---- files

uri_calm : (ts : List Lexeme) → NotDeep (uri_at ts)
unfolding uri_at
uri_calm ts = either_calm (follow_keyword keywords.Inherit ts) _ _ (λ _. bind_calm (literal_at ts) _ (literal_calm ts) (λ y _. ok_calm _)) (λ us _. ok_calm _)

prefix_calm : (ts : List Lexeme) → NotDeep (prefix_at ts)
unfolding prefix_at
prefix_calm ts = bind_calm (word_at ts) _ (word_calm ts) (λ x _. bind_calm (after Equal x.1) _ (after_calm Equal x.1)
    (λ y _. bind_calm (uri_at y.1) _ (uri_calm y.1) (λ z _. ok_calm _)))

default_calm : (ts : List Lexeme) → NotDeep (default_at ts)
unfolding default_at
default_calm ts =
    either_calm (follow Equal ts) _ _ (λ _. bind_calm (prefix_at ts) _ (prefix_calm ts) (λ y _. ok_calm _))
    (λ us _. bind_calm (uri_at us) _ (uri_calm us) (λ y _. ok_calm _))

declaration_calm : (ts : List Lexeme) → NotDeep (declaration_at ts)
unfolding declaration_at
declaration_calm (keyword keywords.Namespace s ∷ ts) = bind_calm (prefix_at ts) _ (prefix_calm ts) (λ y _. ok_calm _)
declaration_calm (keyword keywords.Default s ∷ ts) = bind_calm (after_keyword keywords.Namespace ts) _ (after_keyword_calm keywords.Namespace ts)
    (λ x _. default_calm x.1)
declaration_calm (keyword keywords.Datatypes s ∷ ts) = bind_calm (parameter_at ts) _ (parameter_calm ts) (λ y _. ok_calm _)
declaration_calm _ = λ e. absurd cc

pattern_body_calm : (n : ℕ) (ts : List Lexeme) → NestsWithin n ts → NotDeep (pattern_body_with (inside_at n) ts)
pattern_body_calm n ts nest = bind_calm (bare_pattern_with (inside_at n) ts) _ (bare_pattern_calm n (inside_calm n) ts nest) (λ y _. ok_calm _)

bare_body_calm : (n : ℕ) (ts : List Lexeme) → NestsWithin n ts → NotDeep (bare_body_with (inside_at n) ts)
unfolding bare_body_with
bare_body_calm n ts nest = if_calm (is_grammar_body true ts) _ _
    (bind_calm (components_with (inside_at n) content ts) _ (components_calm n (inside_calm n) content ts nest) (λ y _. ok_calm _))
    (pattern_body_calm n ts nest)

annotated_body_calm : (n : ℕ) (ts : List Lexeme) → NestsWithin n ts → NotDeep (annotated_body_with (inside_at n) ts)
unfolding annotated_body_with
annotated_body_calm n ts nest = if_calm (is_grammar_body false ts) _ _
    (bind_calm (bare_component_with (inside_at n) content ts) _ (bare_component_calm n (inside_calm n) content ts nest)
    (λ x e. bind_calm (components_with (inside_at n) content x.1) _ (components_calm n (inside_calm n) content x.1
    (after_reads n (IsComponent content) ts x (bare_component_behind (inside_at n) (inside_sound n) content [] none ts x e)
    (λ front a p. component_even p) nest))
    (λ y _. ok_calm _)))
    (pattern_body_calm n ts nest)

-- after the sign that opens an annotation
opened_within : (n : ℕ) (ts us : List Lexeme) (x : Unit {0} × List Lexeme) → follow OpenBracket ts ≡ Some us → annotation_end 0 us ≡ Ok x → NestsWithin n ts
    → NestsWithin n x.1
opened_within n ts us x is e nest =
    let p = end_sound 0 us x e in
    second_within n ts (sign OpenBracket ∷ p.front) x.1 (follow_is OpenBracket ts us is ∙ ap (λ (r : List Lexeme). sign OpenBracket ∷ r) p.parts)
    (annotation_even (whole_annotation refl p.is)) nest

body_calm : (n : ℕ) (ts : List Lexeme) → NestsWithin n ts → NotDeep (body_with (inside_at n) ts)
unfolding body_with
body_calm n ts nest = either_calm (follow OpenBracket ts) _ _ (λ _. bare_body_calm n ts nest)
    (λ us is. bind_calm (annotation_end 0 us) _ (end_calm 0 us) (λ x e. annotated_body_calm n x.1 (opened_within n ts us x is e nest)))

ended_calm : {A : Type 0} (a : A) (ts : List Lexeme) → NotDeep (if_ended a ts)
ended_calm a [] e = absurd cc
ended_calm a (x ∷ ts) e = absurd cc

-- tokens that nest within a limit are not too deep
pub file_not_deep : (n : ℕ) (ts : List Lexeme) → NestsWithin n ts → file_with (inside_at n) ts ≡ Err TooDeep → ⊥
unfolding file_with declarations_at
file_not_deep n ts nest = bind_calm (many declaration_front declaration_at ts) _
    (many_calm Any declaration_front declaration_at (λ ts us _ _. declaration_calm us) (λ ts us x _ _ _. tt) ts tt)
    (λ x e.
    let p = many_sound IsDeclaration declaration_front declaration_at declaration_item ts x e in
    bind_calm (body_with (inside_at n) x.1) _ (body_calm n x.1 (second_within n ts p.front x.1 p.parts (declarations_even (declarations_are p.is)) nest))
    (λ y _. ended_calm _ y.1))
