-- Whatever is read is in the grammar: files.
use Rattle.std.proofs.Common.{◌≡◌, ℕ, true, false, List, [], ◌∷◌, ◌++◌, Option, Some, None, Ok, refl, ap, subst, ◌∙◌, inl, inr}
use Rattle.std.proofs.lemmas.List.{append-nil}
use Rattle.std.proofs.lemmas.Option.{same_Some}
use Rattle.rng_model.proofs.Truths.{chosen}
use Rattle.rnc_model.specs.declared.token.Keyword.TheVariants as keywords
use Rattle.rnc_model.specs.declared.token.Sign.TheVariants.{Equal, OpenBracket}
use Rattle.rnc_model.specs.tokens.Cut.{Lexeme, Spelling, keyword, sign}
use Rattle.rnc_model.specs.grammar.Syntax as syntax
use Rattle.rnc_model.specs.grammar.Syntax.{written, ComponentAt, Uri, Declaration, Body, File}
use Rattle.rnc_model.specs.grammar.Grammar as grammar
use Rattle.rnc_model.specs.grammar.NameClasses as name_classes
use Rattle.rnc_model.specs.grammar.Grammar.{content, AreComponents, IsComponent, IsUri, IsDeclaration, AreDeclarations, IsBody, IsFile}
use Rattle.rnc_model.specs.grammar.NameClasses.{IsLiteral}
use Rattle.rnc_syntax.specs.plain.Combinators.{Outcome, ◌>>=◌, follow, after_keyword, either_way, many}
use Rattle.rnc_syntax.specs.plain.Productions.{annotation_end, literal_at, parameter_at, Inside, bare_pattern_with, bare_component_with, components_with}
use Rattle.rnc_syntax.specs.plain.Productions.{inside_at}
use Rattle.rnc_syntax.specs.plain.Productions.{uri_at, prefix_at, default_at}
use Rattle.rnc_syntax.specs.plain.Productions.{declaration_at, begins_declaration, declaration_front, is_grammar_body, pattern_body_with, bare_body_with}
use Rattle.rnc_syntax.specs.plain.Productions.{annotated_body_with, body_with, if_ended, declarations_at}
use Rattle.rnc_syntax.specs.plain.Productions.{file_with}
use Rattle.rnc_syntax.proofs.Soundness.{bind_ok, ok_is, same_namespace, after_keyword_is, TakesFront, Sound, Each, no_items, and_item}
use Rattle.rnc_syntax.proofs.Soundness.{many_sound, Behind, behind, mapped_sound, both_reads, IsSetting, setting_sound}
use Rattle.rnc_syntax.proofs.Soundness.Annotations.{SoundBehind, opened_sound}
use Rattle.rnc_syntax.proofs.Soundness.Literals.{literal_sound, parameter_sound}
use Rattle.rnc_syntax.proofs.Soundness.Patterns.{InsideSound, bare_pattern_behind, bare_component_behind, components_sound, inside_sound}

literal_uri : (ts : List Lexeme) (x : Uri × List Lexeme) → (literal_at ts >>= λ v. Ok (syntax.literal v.0, v.1)) ≡ Ok x → TakesFront IsUri ts x
literal_uri ts x e = mapped_sound IsLiteral IsUri syntax.literal literal_at literal_sound (λ ts v p. grammar.literal p) ts x e

uri_sound : Sound uri_at IsUri
unfolding uri_at
uri_sound (keyword keywords.Inherit s ∷ ts) x e = subst (TakesFront IsUri (keyword keywords.Inherit s ∷ ts)) (ok_is (syntax.inherit, ts) x e)
    (record { front = keyword keywords.Inherit s ∷ []; is = grammar.inherit refl; parts = refl })
uri_sound ts x e = literal_uri ts x e

prefix_sound : Sound prefix_at (IsSetting IsUri)
unfolding prefix_at
prefix_sound ts x e = setting_sound IsUri uri_at uri_sound ts x e

-- after `default namespace`
abbrev pub IsDefault : List Lexeme → Declaration → Type 0
IsDefault ts d = (r s : Spelling) → IsDeclaration (keyword keywords.Default r ∷ keyword keywords.Namespace s ∷ ts) d

prefixed_default : (ts : List Lexeme) (x : Declaration × List Lexeme) → (prefix_at ts >>= λ x. Ok (syntax.default_namespace (Some x.0.0) x.0.1, x.1)) ≡ Ok x
    → TakesFront IsDefault ts x
prefixed_default ts x e = mapped_sound (IsSetting IsUri) IsDefault (λ (x : List ℕ × Uri). syntax.default_namespace (Some x.0) x.1) prefix_at prefix_sound
    (λ ts a p r s. grammar.default_with_prefix p.word p.is (ap (λ (ts : List Lexeme). keyword keywords.Default r ∷ keyword keywords.Namespace s ∷ ts) p.parts))
    ts x e

default_sound : Sound default_at IsDefault
unfolding default_at
default_sound (sign Equal ∷ ts) x e = behind IsDefault (sign Equal) ts x (mapped_sound IsUri (Behind (sign Equal) IsDefault) (syntax.default_namespace None)
    uri_at uri_sound (λ ts a p r s. grammar.default_alone p refl) ts x e)
default_sound ts x e = prefixed_default ts x e

default_reads : (r s : Spelling) (ts us : List Lexeme) (x : Declaration × List Lexeme) → ts ≡ keyword keywords.Namespace s ∷ us → TakesFront IsDefault us x
    → TakesFront IsDeclaration (keyword keywords.Default r ∷ ts) x
default_reads r s ts us x e p = record {
  front = keyword keywords.Default r ∷ keyword keywords.Namespace s ∷ p.front;
  is = p.is r s;
  parts = ap (λ (ts : List Lexeme). keyword keywords.Default r ∷ ts) (e ∙ ap (λ (ts : List Lexeme). keyword keywords.Namespace s ∷ ts) p.parts);
}

declaration_sound : Sound declaration_at IsDeclaration
unfolding declaration_at
declaration_sound (keyword keywords.Namespace s ∷ ts) x e = behind IsDeclaration (keyword keywords.Namespace s) ts x
    (mapped_sound (IsSetting IsUri) (Behind (keyword keywords.Namespace s) IsDeclaration) (λ (x : List ℕ × Uri). syntax.namespace x.0 x.1) prefix_at
    prefix_sound
    (λ ts a p. grammar.namespace p.word p.is (ap (λ (ts : List Lexeme). keyword keywords.Namespace s ∷ ts) p.parts)) ts x e)
declaration_sound (keyword keywords.Datatypes s ∷ ts) x e = behind IsDeclaration (keyword keywords.Datatypes s) ts x
    (mapped_sound (IsSetting IsLiteral) (Behind (keyword keywords.Datatypes s) IsDeclaration) (λ (x : List ℕ × List ℕ). syntax.datatypes x.0 x.1) parameter_at
    parameter_sound
    (λ ts a p. grammar.datatypes p.word p.is (ap (λ (ts : List Lexeme). keyword keywords.Datatypes s ∷ ts) p.parts)) ts x e)
declaration_sound (keyword keywords.Default s ∷ ts) x e =
    let a = bind_ok (after_keyword keywords.Namespace ts) _ x e in
    let k = after_keyword_is keywords.Namespace same_namespace ts a.0 a.1 in
    default_reads s k.0 ts a.0.1 x k.1 (default_sound a.0.1 x a.2)
declaration_sound _ x e = absurd cc

pub declaration_front_is : (ts us : List Lexeme) → declaration_front ts ≡ Some us → ts ≡ us
declaration_front_is ts us e =
    elim (chosen (begins_declaration ts) (Some ts) None (Some us) e) [
      | inl h ↦ same_Some ts us h.1
      | inr h ↦ absurd (let q = h.1 in cc)
    ]

pub declaration_item : (ts us : List Lexeme) (x : Declaration × List Lexeme) → declaration_front ts ≡ Some us → declaration_at us ≡ Ok x
    → TakesFront IsDeclaration ts x
declaration_item ts us x is e = declaration_sound ts x (ap declaration_at (declaration_front_is ts us is) ∙ e)

pub declarations_are : {ts : List Lexeme} {ds : List Declaration} → Each IsDeclaration ts ds → AreDeclarations ts ds
declarations_are (no_items e) = grammar.no_declarations e
declarations_are (and_item p q parts) = grammar.and_declaration p (declarations_are q) parts

module _ (inside : Inside) (sound : InsideSound inside) where
  pattern_body_behind : SoundBehind (pattern_body_with inside) IsBody
  pattern_body_behind n may ts x e =
      let a = bind_ok (bare_pattern_with inside ts) _ x e in
      let p = bare_pattern_behind inside sound n may ts a.0 a.1 in
      subst (TakesFront IsBody (n ++ ts)) (ok_is (syntax.pattern_body a.0.0, a.0.1) x a.2)
      (record { front = p.front; is = grammar.pattern_body p.is; parts = p.parts })

  bare_body_sound : Sound (bare_body_with inside) IsBody
  unfolding bare_body_with
  bare_body_sound ts x e =
      elim (chosen (is_grammar_body true ts) (components_with inside content ts >>= λ cs. Ok (syntax.grammar_body (syntax.components_of cs.0), cs.1))
      (pattern_body_with inside ts) (Ok x) e) [
        | inl h ↦ mapped_sound (AreComponents content) IsBody (λ (cs : List (ComponentAt written)). syntax.grammar_body (syntax.components_of cs))
            (components_with inside content) (components_sound inside sound content) (λ ts a p. grammar.grammar_body p refl) ts x h.1
        | inr h ↦ pattern_body_behind [] (name_classes.without_annotation refl) ts x h.1
      ]

  -- a component, and those after it
  abbrev grammar_read : List Lexeme → Outcome Body
  grammar_read ts = bare_component_with inside content ts >>= λ c. components_with inside content c.1
      >>= λ cs. Ok (syntax.grammar_body (syntax.components_of (c.0 ∷ cs.0)), cs.1)

  grammar_behind : SoundBehind grammar_read IsBody
  grammar_behind n may ts x e =
      let a = bind_ok (bare_component_with inside content ts) _ x e in
      let b = bind_ok (components_with inside content a.0.1) _ x a.2 in
      subst (TakesFront IsBody (n ++ ts)) (ok_is (syntax.grammar_body (syntax.components_of (a.0.0 ∷ b.0.0)), b.0.1) x b.2)
      (both_reads (IsComponent content) (AreComponents content) IsBody (λ c cs. syntax.grammar_body (syntax.components_of (c ∷ cs)))
      (λ first second c cs p q. grammar.grammar_body (grammar.and_component p q refl) refl) (n ++ ts) a.0 b.0
      (bare_component_behind inside sound content n may ts a.0 a.1) (components_sound inside sound content a.0.1 b.0 b.1))

  annotated_body_behind : SoundBehind (annotated_body_with inside) IsBody
  unfolding annotated_body_with
  annotated_body_behind n may ts x e =
      elim (chosen (is_grammar_body false ts) (grammar_read ts) (pattern_body_with inside ts) (Ok x) e) [
        | inl h ↦ grammar_behind n may ts x h.1
        | inr h ↦ pattern_body_behind n may ts x h.1
      ]

  body_step : (ts : List Lexeme) (x : Body × List Lexeme) (o : Option (List Lexeme)) → follow OpenBracket ts ≡ o
      → either_way o (bare_body_with inside ts) (λ us. annotation_end 0 us >>= λ x. annotated_body_with inside x.1) ≡ Ok x → TakesFront IsBody ts x
  body_step ts x None is e = bare_body_sound ts x e
  body_step ts x (Some us) is e = opened_sound IsBody (annotated_body_with inside) annotated_body_behind ts us x is e

  pub body_sound : Sound (body_with inside) IsBody
  unfolding body_with
  body_sound ts x e = body_step ts x (follow OpenBracket ts) refl e

  ended_is : (f g : File) (ts : List Lexeme) → if_ended f ts ≡ Ok g → (ts ≡ []) × (f ≡ g)
  ended_is f g [] e = (refl, cc)
  ended_is f g (t ∷ ts) e = absurd cc

  file_made : (ts rest : List Lexeme) (ds : List Declaration) (b : Body) (left : List Lexeme) → TakesFront (Each IsDeclaration) ts (ds, rest)
      → TakesFront IsBody rest (b, left) → left ≡ [] → IsFile ts (record { declarations = ds; body = b })
  file_made ts rest ds b left p q e =
      grammar.file (declarations_are p.is) q.is (p.parts ∙ ap (λ (r : List Lexeme). p.front ++ r) (q.parts ∙ ap (λ (r : List Lexeme). q.front ++ r) e
      ∙ append-nil q.front))

  file_sound_at : (ts : List Lexeme) (f : File) → file_with inside ts ≡ Ok f → IsFile ts f
  unfolding file_with declarations_at
  file_sound_at ts f e =
      let a = bind_ok (many declaration_front declaration_at ts) _ f e in
      let b = bind_ok (body_with inside a.0.1) _ f a.2 in
      let c = ended_is (record { declarations = a.0.0; body = b.0.0 }) f b.0.1 b.2 in
      subst (IsFile ts) c.1 (file_made ts a.0.1 a.0.0 b.0.0 b.0.1 (many_sound IsDeclaration declaration_front declaration_at declaration_item ts a.0 a.1)
      (body_sound a.0.1 b.0 b.1) c.0)

-- what is read to the end is a sentence, and this is its tree
pub file_sound : (n : ℕ) (ts : List Lexeme) (f : File) → file_with (inside_at n) ts ≡ Ok f → IsFile ts f
file_sound n ts f e = file_sound_at (inside_at n) (inside_sound n) ts f e
