-- The tokens read before reading stops can be completed: declarations and files.
use Rattle.std.proofs.Common.{◌≡◌, ℕ, ◌-◌, true, false, List, [], ◌∷◌, ◌++◌, length, take, Option, Some, None, Ok, Err, refl, sym, ap, ◌∙◌, append_assoc}
use Rattle.std.proofs.Common.{inl, inr, arith}
use Rattle.std.proofs.lemmas.List.{append-nil, length-append}
use Rattle.rng_model.proofs.Truths.{chosen}
use Rattle.rnc_model.specs.declared.token.Keyword.TheVariants as keywords
use Rattle.rnc_model.specs.declared.token.Sign.TheVariants.{Equal, OpenBracket}
use Rattle.rnc_syntax.specs.declared.fault.Stop.TheVariants.{Unexpected}
use Rattle.rnc_model.specs.tokens.Cut.{Lexeme, Spelling, keyword, sign}
use Rattle.rnc_model.specs.grammar.Syntax as syntax
use Rattle.rnc_model.specs.grammar.Syntax.{written, ComponentAt, Uri, Declaration, Body, File}
use Rattle.rnc_model.specs.grammar.Grammar as grammar
use Rattle.rnc_model.specs.grammar.NameClasses as name_classes
use Rattle.rnc_model.specs.grammar.Grammar.{content, IsPattern, AreComponents, IsComponent, IsUri, IsDeclaration, IsBody, IsFile}
use Rattle.rnc_model.specs.grammar.NameClasses.{IsLiteral}
use Rattle.rnc_model.specs.grammar.Sentence.{IsSentence}
use Rattle.rnc_syntax.specs.plain.Combinators.{Outcome, ◌>>=◌, follow, follow_keyword, after_keyword, either_way, many}
use Rattle.rnc_syntax.specs.plain.Productions.{annotation_end, literal_at, parameter_at, Inside, bare_pattern_with, bare_component_with, components_with}
use Rattle.rnc_syntax.specs.plain.Productions.{inside_at}
use Rattle.rnc_syntax.specs.plain.Productions.{uri_at, prefix_at, default_at, declaration_at, declaration_front, is_grammar_body, pattern_body_with}
use Rattle.rnc_syntax.specs.plain.Productions.{bare_body_with, annotated_body_with, body_with, if_ended, declarations_at, file_with}
use Rattle.rnc_syntax.proofs.Soundness.{same_namespace, after_keyword_is, TakesFront, Each, many_sound, Behind, IsSetting}
use Rattle.rnc_syntax.proofs.Soundness.Patterns.{InsideSound, bare_component_behind, inside_sound}
use Rattle.rnc_syntax.proofs.Soundness.Files.{IsDefault, declaration_front_is, declaration_item, declarations_are, body_sound}
use Rattle.rnc_syntax.proofs.Viability.{bind_err, Begins, Viable, IsViable, Completes, Behinds, exactly, nothing_taken, moved, behind_token, behind_tokens}
use Rattle.rnc_syntax.proofs.Viability.{completed, first_stopped, made_viable, left_is, sign_left, many_viable}
use Rattle.rnc_syntax.proofs.Viability.Annotations.{ViableBehind, BeginsBehind, opened_viable}
use Rattle.rnc_syntax.proofs.Viability.Literals.{literal_some, literal_viable, setting_viable, parameter_viable}
use Rattle.rnc_syntax.proofs.Viability.Primaries.{InsideViable, primary_some, pattern_is}
use Rattle.rnc_syntax.proofs.Viability.Patterns.{bare_pattern_stuck}
use Rattle.rnc_syntax.proofs.Viability.Components.{bare_component_stuck, components_viable, inside_viable}

-- ---- declarations

uri_some : Begins IsUri []
uri_some = record { behind = literal_some.behind; value = syntax.literal literal_some.value; is = grammar.literal literal_some.is }

literal_uri : (ts : List Lexeme) (left : ℕ) → ◌≡◌ {A = Outcome Uri} (literal_at ts >>= λ v. Ok (syntax.literal v.0, v.1)) (Err (Unexpected left))
    → Viable IsUri ts left
literal_uri ts left e = made_viable IsLiteral IsUri literal_at syntax.literal literal_viable (λ us v p. exactly IsUri us (syntax.literal v) (grammar.literal p))
    ts left e

uri_viable : IsViable uri_at IsUri
unfolding uri_at
uri_viable (keyword keywords.Inherit s ∷ ts) left e = absurd cc
uri_viable ts left e = literal_uri ts left e

prefix_viable : IsViable prefix_at (IsSetting IsUri)
unfolding prefix_at
prefix_viable = setting_viable IsUri uri_at uri_viable uri_some

prefixed_default : (ts : List Lexeme) (left : ℕ) → ◌≡◌ {A = Outcome Declaration} (prefix_at ts >>= λ x. Ok (syntax.default_namespace (Some x.0.0) x.0.1, x.1))
    (Err (Unexpected left)) → Viable IsDefault ts left
prefixed_default ts left e =
    made_viable (IsSetting IsUri) IsDefault prefix_at (λ (x : List ℕ × Uri). syntax.default_namespace (Some x.0) x.1) prefix_viable
    (λ us a p. exactly IsDefault us (syntax.default_namespace (Some a.0) a.1)
    (λ r s. grammar.default_with_prefix p.word p.is (ap (λ (ts : List Lexeme). keyword keywords.Default r ∷ keyword keywords.Namespace s ∷ ts) p.parts))) ts
    left e

default_viable : IsViable default_at IsDefault
unfolding default_at
default_viable (sign Equal ∷ ts) left e =
    behind_token IsDefault (sign Equal) ts left (made_viable IsUri (Behind (sign Equal) IsDefault) uri_at (syntax.default_namespace None) uri_viable
    (λ us a p. exactly (Behind (sign Equal) IsDefault) us (syntax.default_namespace None a) (λ r s. grammar.default_alone p refl)) ts left e)
default_viable ts left e = prefixed_default ts left e

-- after a token, what is made of a value
module _ {A : Type 0} (P : List Lexeme → A → Type 0) (t : Lexeme) (f : A → Declaration) (read : List Lexeme → Outcome A) (viable : IsViable read P)
    (maps : (ts : List Lexeme) (a : A) → P ts a → IsDeclaration (t ∷ ts) (f a)) where
  declaration_behind : (ts : List Lexeme) (left : ℕ) → ◌≡◌ {A = Outcome Declaration} (read ts >>= λ x. Ok (f x.0, x.1)) (Err (Unexpected left))
      → Viable IsDeclaration (t ∷ ts) left
  declaration_behind ts left e = behind_token IsDeclaration t ts left
      (made_viable P (Behind t IsDeclaration) read f viable (λ us a p. exactly (Behind t IsDeclaration) us (f a) (maps us a p)) ts left e)

-- a spelling
abbrev plain : Spelling
plain = record { text = []; number = 0 }

-- after `default`
defaults_some : (r : Spelling) → Begins (Behind (keyword keywords.Default r) IsDeclaration) []
defaults_some r = record {
  behind = keyword keywords.Namespace plain ∷ sign Equal ∷ uri_some.behind;
  value = syntax.default_namespace None uri_some.value;
  is = grammar.default_alone uri_some.is refl;
}

behind_namespace : (r s : Spelling) (ts us : List Lexeme) (left : ℕ) → ts ≡ keyword keywords.Namespace s ∷ us → Viable IsDefault us left
    → Viable IsDeclaration (keyword keywords.Default r ∷ ts) left
behind_namespace r s ts us left e v =
    let t = keyword keywords.Default r in
    let n = keyword keywords.Namespace s in
    behind_token IsDeclaration t ts left (moved (Behind t IsDeclaration) ts (n ∷ us) left e (behind_token (Behind t IsDeclaration) n us left
    (completed IsDefault (Behind n (Behind t IsDeclaration)) us left (λ vs d p. exactly (Behind n (Behind t IsDeclaration)) vs d (p r s)) v)))

defaults_viable : (r : Spelling) (ts : List Lexeme) (left : ℕ) → (after_keyword keywords.Namespace ts >>= λ x. default_at x.1) ≡ Err (Unexpected left)
    → Viable IsDeclaration (keyword keywords.Default r ∷ ts) left
unfolding after_keyword
defaults_viable r ts left e =
    elim (bind_err (after_keyword keywords.Namespace ts) (λ x. default_at x.1) (Unexpected left) e) [
      | inl h ↦ behind_token IsDeclaration (keyword keywords.Default r) ts left (nothing_taken (Behind (keyword keywords.Default r) IsDeclaration) ts left
          (sign_left ts (follow_keyword keywords.Namespace ts) left h) (defaults_some r))
      | inr h ↦ let k = after_keyword_is keywords.Namespace same_namespace ts h.0 h.1 in behind_namespace r k.0 ts h.0.1 left k.1
          (default_viable h.0.1 left h.2)
    ]

declaration_some : Begins IsDeclaration []
declaration_some = record {
  behind = keyword keywords.Default plain ∷ (defaults_some plain).behind;
  value = (defaults_some plain).value;
  is = (defaults_some plain).is;
}

declaration_viable : IsViable declaration_at IsDeclaration
unfolding declaration_at
declaration_viable (keyword keywords.Namespace s ∷ ts) left e =
    let t = keyword keywords.Namespace s in
    declaration_behind (IsSetting IsUri) t (λ (x : List ℕ × Uri). syntax.namespace x.0 x.1) prefix_at prefix_viable
    (λ us a p. grammar.namespace p.word p.is (ap (λ (r : List Lexeme). t ∷ r) p.parts)) ts left e
declaration_viable (keyword keywords.Datatypes s ∷ ts) left e =
    let t = keyword keywords.Datatypes s in
    declaration_behind (IsSetting IsLiteral) t (λ (x : List ℕ × List ℕ). syntax.datatypes x.0 x.1) parameter_at parameter_viable
    (λ us a p. grammar.datatypes p.word p.is (ap (λ (r : List Lexeme). t ∷ r) p.parts)) ts left e
declaration_viable (keyword keywords.Default s ∷ ts) left e = defaults_viable s ts left e
declaration_viable ts left e = nothing_taken IsDeclaration ts left (left_is ts left e) declaration_some

declaration_stuck : (ts us : List Lexeme) (left : ℕ) → declaration_front ts ≡ Some us → declaration_at us ≡ Err (Unexpected left) → Viable IsDeclaration ts left
declaration_stuck ts us left is e = declaration_viable ts left (ap declaration_at (declaration_front_is ts us is) ∙ e)

declarations_viable : IsViable (many declaration_front declaration_at) (Each IsDeclaration)
declarations_viable = many_viable IsDeclaration declaration_front declaration_at declaration_item declaration_stuck

-- ---- files

abbrev pub file_of : List Declaration → Body → File
file_of ds b = record { declarations = ds; body = b }

-- declarations alone
alone : Completes (Each IsDeclaration) IsFile
alone ts ds p = exactly IsFile ts (file_of ds (syntax.grammar_body (syntax.components_of [])))
    (grammar.file (declarations_are p) (grammar.grammar_body (grammar.no_components refl) refl) (sym (append-nil ts)))

-- a body after declarations
body_begins : (front : List Lexeme) (ds : List Declaration) → Each IsDeclaration front ds → Completes IsBody (Behinds front IsFile)
body_begins front ds p ts b q = exactly (Behinds front IsFile) ts (file_of ds b) (grammar.file (declarations_are p) q refl)

ended_left : {A : Type 0} (a : A) (ts : List Lexeme) (left : ℕ) → if_ended a ts ≡ Err (Unexpected left) → left ≡ length ts
ended_left a [] left e = absurd cc
ended_left a (t ∷ ts) left e = cc

-- a whole file that leaves tokens unread
surplus : (ts rest : List Lexeme) (ds : List Declaration) (b : Body) (over : List Lexeme) (left : ℕ) → TakesFront (Each IsDeclaration) ts (ds, rest)
    → TakesFront IsBody rest (b, over) → left ≡ length over → Viable IsFile ts left
surplus ts rest ds b over left p q count = record {
  front = p.front ++ q.front;
  rest = over;
  parts = p.parts ∙ ap (λ (r : List Lexeme). p.front ++ r) q.parts ∙ sym (append_assoc p.front q.front over);
  count = count;
  begins = exactly IsFile (p.front ++ q.front) (file_of ds b) (grammar.file (declarations_are p.is) q.is refl);
}

module _ (inside : Inside) (sound : InsideSound inside) (viable : InsideViable inside) where
  pattern_body_stuck : ViableBehind (pattern_body_with inside) IsBody
  pattern_body_stuck n may ts left e =
      completed IsPattern IsBody (n ++ ts) left (λ us t p. exactly IsBody us (syntax.pattern_body t) (grammar.pattern_body p))
      (bare_pattern_stuck inside sound viable n may ts left
      (first_stopped {B = Body × List Lexeme} (bare_pattern_with inside ts) (λ t. (syntax.pattern_body t.0, t.1)) (Unexpected left) e))

  bare_body_viable : IsViable (bare_body_with inside) IsBody
  unfolding bare_body_with
  bare_body_viable ts left e =
      elim (chosen {A = Outcome Body} (is_grammar_body true ts) (components_with inside content ts >>= λ cs. Ok (
        syntax.grammar_body (syntax.components_of cs.0),
        cs.1,
      )) (pattern_body_with inside ts) (Err (Unexpected left)) e) [
        | inl h ↦ made_viable (AreComponents content) IsBody (components_with inside content)
            (λ (cs : List (ComponentAt written)). syntax.grammar_body (syntax.components_of cs)) (components_viable inside sound viable content)
            (λ us cs p. exactly IsBody us (syntax.grammar_body (syntax.components_of cs)) (grammar.grammar_body p refl)) ts left h.1
        | inr h ↦ pattern_body_stuck [] (name_classes.without_annotation refl) ts left h.1
      ]

  one_component : Completes (IsComponent content) IsBody
  one_component ts c p = exactly IsBody ts (syntax.grammar_body (syntax.components_of (c ∷ [])))
      (grammar.grammar_body (grammar.and_component p (grammar.no_components refl) (sym (append-nil ts))) refl)

  -- a component, and those after it
  abbrev grammar_read : List Lexeme → Outcome Body
  grammar_read ts = bare_component_with inside content ts >>= λ c. components_with inside content c.1
      >>= λ cs. Ok (syntax.grammar_body (syntax.components_of (c.0 ∷ cs.0)), cs.1)

  others_viable : (front : List Lexeme) (c : ComponentAt written) → IsComponent content front c → (ts : List Lexeme) (left : ℕ)
      → ◌≡◌ {A = Outcome Body} (components_with inside content ts >>= λ cs. Ok (syntax.grammar_body (syntax.components_of (c ∷ cs.0)), cs.1))
      (Err (Unexpected left)) → Viable (Behinds front IsBody) ts left
  others_viable front c p ts left e =
      made_viable (AreComponents content) (Behinds front IsBody) (components_with inside content)
      (λ (cs : List (ComponentAt written)). syntax.grammar_body (syntax.components_of (c ∷ cs))) (components_viable inside sound viable content)
      (λ us cs q. exactly (Behinds front IsBody) us (syntax.grammar_body (syntax.components_of (c ∷ cs)))
      (grammar.grammar_body (grammar.and_component p q refl) refl)) ts left e

  grammar_stuck : ViableBehind grammar_read IsBody
  grammar_stuck n may ts left e =
      elim (bind_err (bare_component_with inside content ts) _ (Unexpected left) e) [
        | inl h ↦ completed (IsComponent content) IsBody (n ++ ts) left one_component (bare_component_stuck inside sound viable content n may ts left h)
        | inr h ↦
            let p = bare_component_behind inside sound content n may ts h.0 h.1 in
            behind_tokens IsBody p.front (n ++ ts) h.0.1 left p.parts (others_viable p.front h.0.0 p.is h.0.1 left h.2)
      ]

  annotated_body_stuck : ViableBehind (annotated_body_with inside) IsBody
  unfolding annotated_body_with
  annotated_body_stuck n may ts left e =
      elim (chosen {A = Outcome Body} (is_grammar_body false ts) (grammar_read ts) (pattern_body_with inside ts) (Err (Unexpected left)) e) [
        | inl h ↦ grammar_stuck n may ts left h.1
        | inr h ↦ pattern_body_stuck n may ts left h.1
      ]

  annotation_begins : BeginsBehind IsBody
  annotation_begins n may = record {
    behind = primary_some.behind;
    value = syntax.pattern_body primary_some.value;
    is = grammar.pattern_body (pattern_is n primary_some.behind primary_some.value may primary_some.is);
  }

  body_step : (ts : List Lexeme) (left : ℕ) (o : Option (List Lexeme)) → follow OpenBracket ts ≡ o
      → either_way o (bare_body_with inside ts) (λ us. annotation_end 0 us >>= λ x. annotated_body_with inside x.1) ≡ Err (Unexpected left) → Viable IsBody ts
      left
  body_step ts left None is e = bare_body_viable ts left e
  body_step ts left (Some us) is e = opened_viable IsBody (annotated_body_with inside) annotation_begins annotated_body_stuck ts us left is e

  body_viable : IsViable (body_with inside) IsBody
  unfolding body_with
  body_viable ts left e = body_step ts left (follow OpenBracket ts) refl e

  -- after declarations
  file_behind : (ts rest : List Lexeme) (ds : List Declaration) (left : ℕ) → TakesFront (Each IsDeclaration) ts (ds, rest)
      → (body_with inside rest >>= λ body. if_ended (file_of ds body.0) body.1) ≡ Err (Unexpected left) → Viable IsFile ts left
  file_behind ts rest ds left p e =
      elim (bind_err (body_with inside rest) (λ body. if_ended (file_of ds body.0) body.1) (Unexpected left) e) [
        | inl h ↦ behind_tokens IsFile p.front ts rest left p.parts (completed IsBody (Behinds p.front IsFile) rest left (body_begins p.front ds p.is)
            (body_viable rest left h))
        | inr h ↦ surplus ts rest ds h.0.0 h.0.1 left p (body_sound inside sound rest h.0 h.1) (ended_left (file_of ds h.0.0) h.0.1 left h.2)
      ]

  file_viable : (ts : List Lexeme) (left : ℕ) → file_with inside ts ≡ Err (Unexpected left) → Viable IsFile ts left
  unfolding file_with declarations_at
  file_viable ts left e =
      elim (bind_err (many declaration_front declaration_at ts) _ (Unexpected left) e) [
        | inl h ↦ completed (Each IsDeclaration) IsFile ts left alone (declarations_viable ts left h)
        | inr h ↦ file_behind ts h.0.1 h.0.0 left (many_sound IsDeclaration declaration_front declaration_at declaration_item ts h.0 h.1) h.2
      ]

-- ---- the tokens before the one where the reading stops

take_front : (front rest : List Lexeme) → take (length front) (front ++ rest) ≡ front
take_front [] rest = refl
take_front (x ∷ xs) rest = ap (λ (r : List Lexeme). x ∷ r) (take_front xs rest)

same_tokens : (k : ℕ) (front rest other ts : List Lexeme) → k ≡ length front → ts ≡ front ++ rest → take k (front ++ other) ≡ take k ts
same_tokens k front rest other ts e parts =
    ap (λ (k : ℕ). take k (front ++ other)) e ∙ take_front front other ∙ sym (ap (λ (k : ℕ). take k ts) e ∙ ap (take (length front)) parts
    ∙ take_front front rest)

begins_sentence : (ts : List Lexeme) (left : ℕ) → Viable IsFile ts left → (us : List Lexeme) × (take (length ts - left) us ≡ take (length ts - left) ts)
    × IsSentence us
begins_sentence ts left v =
    let k : length ts - left ≡ length v.front = omega (arith, v.count, ap length v.parts, length-append v.front v.rest) in
    (v.front ++ v.begins.behind, same_tokens (length ts - left) v.front v.rest v.begins.behind ts k v.parts, (v.begins.value, v.begins.is))

-- some sentence begins with the tokens before the one where the reading stops
pub viable : (n : ℕ) (ts : List Lexeme) (left : ℕ) → file_with (inside_at n) ts ≡ Err (Unexpected left) → (us : List Lexeme)
    × (take (length ts - left) us ≡ take (length ts - left) ts) × IsSentence us
viable n ts left e = begins_sentence ts left (file_viable (inside_at n) (inside_sound n) (inside_viable n) ts left e)
