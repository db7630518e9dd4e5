-- Whatever is read is in the grammar: literals, parameters, and what mentions inherit.
use Rattle.std.proofs.Common.{◌≡◌, ℕ, List, [], ◌∷◌, ◌++◌, Option, Some, None, Ok, refl, sym, ap, subst, ◌∙◌, append_assoc}
use Rattle.std.proofs.lemmas.List.{append-nil}
use Rattle.std.proofs.lemmas.Option.{same_Some}
use Rattle.rnc_model.specs.declared.token.Keyword.TheVariants as keywords
use Rattle.rnc_model.specs.declared.token.Sign.TheVariants.{Equal, OpenBrace, CloseBrace, OpenBracket, Tilde}
use Rattle.rnc_model.specs.tokens.Cut.{Lexeme, Spelling, keyword, identifier, segment, sign}
use Rattle.rnc_model.specs.grammar.Syntax.{written, Mention}
use Rattle.rnc_model.specs.grammar.SyntaxTrees.{joined_text}
use Rattle.rnc_model.specs.grammar.NameClasses as grammar
use Rattle.rnc_model.specs.grammar.NameClasses.{MayBeAnnotation, IsLiteral, AreParameters, MayBeParameters, MayInherit}
use Rattle.rnc_syntax.specs.plain.Combinators.{follow, follow_keyword, after, word_at, segment_at, either_way, many}
use Rattle.rnc_syntax.specs.plain.Productions.{literal_at, parameter_at, parameter_front, annotated_parameter_at, in_braces_at, parameters_at, word_after_equal}
use Rattle.rnc_syntax.specs.plain.Productions.{inherit_at, mention_at}
use Rattle.rnc_syntax.proofs.Soundness.{bind_ok, ok_is, same_inherit, keyword_follows, after_is, TakesFront, Sound, IsWord, word_sound, IsSegment}
use Rattle.rnc_syntax.proofs.Soundness.{segment_sound, Closed, Preceded, in_braces_sound, Each, no_items, and_item, many_sound, preceded_sound, both_sound}
use Rattle.rnc_syntax.proofs.Soundness.{bracketed, IsSetting, setting_sound}
use Rattle.rnc_syntax.proofs.Soundness.Annotations.{annotated_sound, bare_sound}

segments : (w x : List ℕ) (ts a b r : List Lexeme) → ts ≡ a ++ b → a ≡ sign Tilde ∷ r → r ≡ segment x ∷ []
    → segment w ∷ ts ≡ segment w ∷ sign Tilde ∷ (segment x ∷ b)
segments w x ts a b r e f g = ap (λ (ts : List Lexeme). segment w ∷ ts) (e ∙ ap (λ (a : List Lexeme). a ++ b) (f ∙ ap (λ (r : List Lexeme). sign Tilde ∷ r) g))

pub literal_is : (w : List ℕ) {ts : List Lexeme} {ws : List (List ℕ)} → Each (Preceded IsSegment Tilde) ts ws
    → IsLiteral (segment w ∷ ts) (joined_text (w ∷ ws))
literal_is w {ts} (no_items parts) = subst (IsLiteral (segment w ∷ ts)) (sym (append-nil w))
    (grammar.one_segment (ap (λ (ts : List Lexeme). segment w ∷ ts) parts))
literal_is w {ts} (and_item {a = a} {b = b} {x = x} p q parts) = grammar.more_segments (literal_is x q) (segments w x ts a b p.rest parts p.parts p.is) refl

literal_reads : (ts rest : List Lexeme) (w : List ℕ) (x : List (List ℕ) × List Lexeme) → TakesFront IsSegment ts (w, rest)
    → TakesFront (Each (Preceded IsSegment Tilde)) rest x → TakesFront IsLiteral ts (joined_text (w ∷ x.0), x.1)
literal_reads ts rest w x p q = record {
  front = segment w ∷ q.front;
  is = literal_is w q.is;
  parts = p.parts ∙ ap (λ (f : List Lexeme). f ++ rest) p.is ∙ ap (λ (r : List Lexeme). segment w ∷ r) q.parts;
}

pub literal_sound : Sound literal_at IsLiteral
unfolding literal_at
literal_sound ts x e =
    let a = bind_ok (segment_at ts) _ x e in
    let b = bind_ok (many (follow Tilde) segment_at a.0.1) _ x a.2 in
    subst (TakesFront IsLiteral ts) (ok_is (joined_text (a.0.0 ∷ b.0.0), b.0.1) x b.2)
    (literal_reads ts a.0.1 a.0.0 b.0 (segment_sound ts a.0 a.1) (many_sound (Preceded IsSegment Tilde) (follow Tilde) segment_at
    (preceded_sound IsSegment Tilde segment_at segment_sound) a.0.1 b.0 b.1))

pub parameter_sound : Sound parameter_at (IsSetting IsLiteral)
unfolding parameter_at
parameter_sound ts x e = setting_sound IsLiteral literal_at literal_sound ts x e

-- a parameter with its annotation
pub record IsParameter (ts : List Lexeme) (x : List ℕ × List ℕ) : Type 0 where
  pub annotation : List Lexeme
  pub may : MayBeAnnotation annotation
  pub setting : List Lexeme
  pub is : IsSetting IsLiteral setting x
  pub parts : ts ≡ annotation ++ setting

pub parameter_is : (n ts : List Lexeme) (x : List ℕ × List ℕ) → MayBeAnnotation n → IsSetting IsLiteral ts x → IsParameter (n ++ ts) x
parameter_is n ts x may is = record { annotation = n; may = may; setting = ts; is = is; parts = refl }

annotated_parameter_sound : Sound annotated_parameter_at IsParameter
unfolding annotated_parameter_at
annotated_parameter_sound = annotated_sound IsParameter parameter_at (bare_sound IsParameter parameter_at (IsSetting IsLiteral) parameter_sound parameter_is)

parameter_parts : (t : Lexeme) (ts a b n r v : List Lexeme) → ts ≡ a ++ b → a ≡ n ++ r → r ≡ t ∷ sign Equal ∷ v → ts ≡ n ++ t ∷ sign Equal ∷ (v ++ b)
parameter_parts t ts a b n r v e f g = e ∙ ap (λ (a : List Lexeme). a ++ b) f ∙ append_assoc n r b ∙ ap (λ (r : List Lexeme). n ++ (r ++ b)) g

pub parameters_are : {ts : List Lexeme} {xs : List (List ℕ × List ℕ)} → Each IsParameter ts xs → AreParameters ts xs
parameters_are (no_items e) = grammar.no_parameters e
parameters_are {ts} (and_item {a = a} {b = b} {x = x} p q parts) = grammar.and_parameter p.is.token p.may p.is.word p.is.is (parameters_are q)
    (parameter_parts p.is.token ts a b p.annotation p.setting p.is.value parts p.parts p.is.parts)

pub parameter_front_is : (ts us : List Lexeme) → parameter_front ts ≡ Some us → ts ≡ us
parameter_front_is [] us e = absurd cc
parameter_front_is (identifier w ∷ ts) us e = same_Some _ us e
parameter_front_is (keyword k s ∷ ts) us e = same_Some _ us e
parameter_front_is (sign OpenBracket ∷ ts) us e = same_Some _ us e
parameter_front_is (_ ∷ ts) us e = absurd cc

pub parameter_item : (ts us : List Lexeme) (x : (List ℕ × List ℕ) × List Lexeme) → parameter_front ts ≡ Some us → annotated_parameter_at us ≡ Ok x
    → TakesFront IsParameter ts x
parameter_item ts us x is e = annotated_parameter_sound ts x (ap annotated_parameter_at (parameter_front_is ts us is) ∙ e)

parameters_step : (ts : List Lexeme) (x : List (List ℕ × List ℕ) × List Lexeme) (o : Option (List Lexeme)) → follow OpenBrace ts ≡ o
    → either_way o (Ok ([], ts)) (in_braces_at (many parameter_front annotated_parameter_at)) ≡ Ok x → TakesFront MayBeParameters ts x
parameters_step ts x None is e = subst (TakesFront MayBeParameters ts) (ok_is ([], ts) x e)
    (record { front = []; is = grammar.without_parameters refl; parts = refl })
parameters_step ts x (Some us) is e =
    let Q = Each IsParameter in
    let all = many parameter_front annotated_parameter_at in
    let each = many_sound IsParameter parameter_front annotated_parameter_at parameter_item in
    let p = preceded_sound (Closed Q CloseBrace) OpenBrace (in_braces_at all) (in_braces_sound Q all each) ts us x is e in
    let q = bracketed Q OpenBrace CloseBrace p.front x.0 p.is in
    record { front = p.front; is = grammar.with_parameters (parameters_are q.is) q.parts; parts = p.parts }

pub parameters_sound : Sound parameters_at MayBeParameters
unfolding parameters_at
parameters_sound ts x e = parameters_step ts x (follow OpenBrace ts) refl e

inherit_step : (ts : List Lexeme) (x : Option (List ℕ) × List Lexeme) (o : Option (List Lexeme)) → follow_keyword keywords.Inherit ts ≡ o
    → either_way o (Ok (None, ts)) word_after_equal ≡ Ok x → TakesFront MayInherit ts x
unfolding word_after_equal
inherit_step ts x None is e = subst (TakesFront MayInherit ts) (ok_is (None, ts) x e) (record { front = []; is = grammar.without_inherit refl; parts = refl })
inherit_step ts x (Some us) is e =
    let k = keyword_follows keywords.Inherit same_inherit ts us is in
    let a = bind_ok (after Equal us) _ x e in
    let b = bind_ok (word_at a.0.1) _ x a.2 in
    subst (TakesFront MayInherit ts) (ok_is (Some b.0.0, b.0.1) x b.2) (made k.0 us a.0.1 b.0 k.1 (after_is Equal us a.0 a.1) (word_sound a.0.1 b.0 b.1)) where
      made : (s : Spelling) (us vs : List Lexeme) (y : List ℕ × List Lexeme) → ts ≡ keyword keywords.Inherit s ∷ us → us ≡ sign Equal ∷ vs
          → TakesFront IsWord vs y → TakesFront MayInherit ts (Some y.0, y.1)
      made s us vs y e f p = record {
        front = keyword keywords.Inherit s ∷ sign Equal ∷ p.is.token ∷ [];
        is = grammar.with_inherit p.is.word refl;
        parts = e ∙ ap (λ (r : List Lexeme). keyword keywords.Inherit s ∷ r)
            (f ∙ ap (λ (r : List Lexeme). sign Equal ∷ r) (p.parts ∙ ap (λ (r : List Lexeme). r ++ y.1) p.is.parts));
      }

pub inherit_sound : Sound inherit_at MayInherit
unfolding inherit_at
inherit_sound ts x e = inherit_step ts x (follow_keyword keywords.Inherit ts) refl e

-- a literal, and the prefix that is inherited
pub record IsMention (number : ℕ) (ts : List Lexeme) (m : Mention written) : Type 0 where
  pub first : List Lexeme
  pub second : List Lexeme
  pub literal : IsLiteral first m.href
  pub inherits : MayInherit second m.inherit
  pub standing : m ≡ record { href = m.href; inherit = m.inherit; token = number }
  pub parts : ts ≡ first ++ second

pub mention_sound : (number : ℕ) → Sound (mention_at number) (IsMention number)
unfolding mention_at
mention_sound number ts x e =
    both_sound IsLiteral MayInherit (IsMention number) (λ href prefix. record { href = href; inherit = prefix; token = number }) literal_at inherit_at
    literal_sound inherit_sound
    (λ first second a b p q. record { first = first; second = second; literal = p; inherits = q; standing = refl; parts = refl }) ts x e
