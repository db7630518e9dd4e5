-- Whatever is read is in the grammar: patterns and components.
use Rattle.std.proofs.Common.{◌≡◌, ℕ, zero, suc, List, [], ◌∷◌, ◌++◌, Option, Some, None, Ok, refl, sym, ap, subst, ◌∙◌, append_assoc, inl, inr, if◌then◌else◌}
use Rattle.std.proofs.lemmas.List.{append-nil}
use Rattle.std.proofs.lemmas.Option.{same_Some}
use Rattle.rng_model.proofs.Truths.{chosen}
use Rattle.rng_model.specs.simple.Tree.{Connector, choice, group, interleave}
use Rattle.rnc_model.specs.declared.token.Keyword.TheVariants as keywords
use Rattle.rnc_model.specs.declared.token.Sign.{Sign}
use Rattle.rnc_model.specs.declared.token.Sign.TheVariants.{Equal, BarEqual, AndEqual, Comma, Bar, And, Question, Star, Plus, Minus, OpenBrace, CloseBrace}
use Rattle.rnc_model.specs.declared.token.Sign.TheVariants.{OpenParenthesis, CloseParenthesis}
use Rattle.rng_model.specs.declared.method.Method.{Method}
use Rattle.rng_model.specs.declared.method.Method.TheVariants as methods
use Rattle.rnc_model.specs.tokens.Cut.{Lexeme, Spelling, keyword, identifier, cname, segment, sign}
use Rattle.rnc_model.specs.grammar.Syntax as syntax
use Rattle.rnc_model.specs.grammar.Syntax.{written, NameClassAt, DatatypeName, Mention, PatternAt, ComponentAt}
use Rattle.rnc_model.specs.grammar.Grammar as grammar
use Rattle.rnc_model.specs.grammar.Grammar.{Setting, content, override, IsPattern}
use Rattle.rnc_model.specs.grammar.NameClasses.{type_of, method_of, connector_of, IsLiteral, MayBeParameters, IsClass, MayBeAnnotation}
use Rattle.rnc_model.specs.grammar.Grammar.{AreMore, IsParticle, IsPrimary, IsBarePrimary, IsBraced, AreComponents, IsComponent, IsBareComponent, MayOverride}
use Rattle.rnc_syntax.specs.plain.Combinators.{Outcome, ◌>>=◌, follow, identifier_at, either_way, many}
use Rattle.rnc_syntax.specs.plain.Productions.{in_braces_at, literal_at, parameters_at, mention_at, class_with, Inside, braced_with, contents_with}
use Rattle.rnc_syntax.specs.plain.Productions.{named_with, begins_segment, typed_at, type_front, other_at, atom_at, parens_with, opened_with, bare_primary_with}
use Rattle.rnc_syntax.specs.plain.Productions.{repeated, primary_with, particle_with, separator_of, joined, rest_with, pattern_from, data_front, data_with}
use Rattle.rnc_syntax.specs.plain.Productions.{bare_pattern_with, pattern_with, method_at}
use Rattle.rnc_syntax.specs.plain.Productions.{overrides_with, begins_component, component_front, assigned_at, assigned, bare_component_with, component_with}
use Rattle.rnc_syntax.specs.plain.Productions.{components_with, inside_at}
use Rattle.rnc_syntax.proofs.ReadItems.{bind_bind}
use Rattle.rnc_syntax.proofs.Soundness.{bind_ok, front_some, ok_is, follow_is, identifier_is, TakesFront, Sound, Closed, Preceded}
use Rattle.rnc_syntax.proofs.Soundness.{closes_sound, in_braces_sound, Each, no_items, and_item, many_sound, some_is_read, preceded_sound, nothing_left, Behind}
use Rattle.rnc_syntax.proofs.Soundness.{behind, mapped_sound, both_sound, open_sound, Bracketed, bracketed}
use Rattle.rnc_syntax.proofs.Soundness.Annotations.{SoundBehind, annotated_sound, bare_sound, taken_behind}
use Rattle.rnc_syntax.proofs.Soundness.Literals.{literal_sound, parameters_sound, IsMention, mention_sound}
use Rattle.rnc_syntax.proofs.Soundness.Classes.{class_sound}

-- what is read inside brackets is in the grammar
pub record InsideSound (inside : Inside) : Type 0 where
  pub class : Sound inside.class IsClass
  pub pattern : Sound inside.pattern IsPattern
  pub components : (w : Setting) → Sound (inside.components w) (AreComponents w)

pub record IsMethod (ts : List Lexeme) (m : Method) : Type 0 where
  pub token : Lexeme
  pub method : method_of token ≡ Some m
  pub parts : ts ≡ token ∷ []

pub method_sound : Sound method_at IsMethod
unfolding method_at
method_sound (sign Equal ∷ ts) x e = subst (TakesFront IsMethod (sign Equal ∷ ts)) (ok_is (methods.Plain, ts) x e)
    (record { front = sign Equal ∷ []; is = record { token = sign Equal; method = refl; parts = refl }; parts = refl })
method_sound (sign BarEqual ∷ ts) x e = subst (TakesFront IsMethod (sign BarEqual ∷ ts)) (ok_is (methods.Choice, ts) x e)
    (record { front = sign BarEqual ∷ []; is = record { token = sign BarEqual; method = refl; parts = refl }; parts = refl })
method_sound (sign AndEqual ∷ ts) x e = subst (TakesFront IsMethod (sign AndEqual ∷ ts)) (ok_is (methods.Interleave, ts) x e)
    (record { front = sign AndEqual ∷ []; is = record { token = sign AndEqual; method = refl; parts = refl }; parts = refl })
method_sound _ x e = absurd cc

type_front_is : (ts : List Lexeme) (d : DatatypeName written × List Lexeme) → type_front ts ≡ Some d → (t : Lexeme) × (type_of t ≡ Some d.0) × (ts ≡ t ∷ d.1)
type_front_is (cname p l ∷ ts) d e =
    let q = same_Some (syntax.prefixed_type p l, ts) d e in
    (cname p l, ap (λ (d : DatatypeName written × List Lexeme). Some d.0) q, ap (λ (d : DatatypeName written × List Lexeme). cname p l ∷ d.1) q)
type_front_is (keyword keywords.String s ∷ ts) d e =
    let q = same_Some (syntax.string_type, ts) d e in (
      keyword keywords.String s,
      ap (λ (d : DatatypeName written × List Lexeme). Some d.0) q,
      ap (λ (d : DatatypeName written × List Lexeme). keyword keywords.String s ∷ d.1) q,
    )
type_front_is (keyword keywords.Token s ∷ ts) d e =
    let q = same_Some (syntax.token_type, ts) d e in (
      keyword keywords.Token s,
      ap (λ (d : DatatypeName written × List Lexeme). Some d.0) q,
      ap (λ (d : DatatypeName written × List Lexeme). keyword keywords.Token s ∷ d.1) q,
    )
type_front_is _ d e = absurd cc

no_segment_front : (x d : DatatypeName written × List Lexeme) → (if begins_segment x.1 then None else Some x) ≡ Some d → x ≡ d
no_segment_front x d e =
    elim (chosen (begins_segment x.1) None (Some x) (Some d) e) [
      | inl h ↦ absurd (let q = h.1 in cc)
      | inr h ↦ same_Some x d h.1
    ]

-- if the name of a datatype is first
pub data_front_is : (ts : List Lexeme) (d : DatatypeName written × List Lexeme) → data_front ts ≡ Some d
    → (t : Lexeme) × (type_of t ≡ Some d.0) × (ts ≡ t ∷ d.1)
data_front_is ts d e =
    let f = front_some (type_front ts) (λ x. if begins_segment x.1 then None else Some x) d e in
    type_front_is ts d (f.1 ∙ ap (λ (d : DatatypeName written × List Lexeme). Some d) (no_segment_front f.0 d f.2))

typed_sound : (d : DatatypeName written) (t : Lexeme) (ts : List Lexeme) (x : PatternAt written × List Lexeme) → type_of t ≡ Some d → typed_at d ts ≡ Ok x
    → TakesFront IsBarePrimary (t ∷ ts) x
unfolding typed_at
typed_sound d t ts x is e =
    elim (chosen (begins_segment ts) (literal_at ts >>= λ v. Ok (syntax.value d v.0, v.1)) (parameters_at ts >>= λ ps. Ok (syntax.data_of d ps.0, ps.1)) (Ok x)
    e) [
      | inl h ↦ behind IsBarePrimary t ts x (mapped_sound IsLiteral (Behind t IsBarePrimary) (syntax.value d) literal_at literal_sound
          (λ ts v p. grammar.value is p refl) ts x h.1)
      | inr h ↦ behind IsBarePrimary t ts x (mapped_sound MayBeParameters (Behind t IsBarePrimary) (syntax.data_of d) parameters_at parameters_sound
          (λ ts ps p. grammar.data_of is p refl) ts x h.1)
    ]

pub separator_is : (s : Sign) (ts : List Lexeme) → separator_of ts ≡ Some s → (us : List Lexeme) × (follow s ts ≡ Some us) × (k : Connector)
    × (connector_of s ≡ Some k) × ((all : List (PatternAt written)) → joined s all ≡ syntax.members k all)
separator_is s (sign Comma ∷ ts) e = subst (λ (s : Sign). (us : List Lexeme) × (follow s (sign Comma ∷ ts) ≡ Some us) × (k : Connector)
    × (connector_of s ≡ Some k)
    × ((all : List (PatternAt written)) → joined s all ≡ syntax.members k all)) (same_Some Comma s e) (ts, refl, group, refl, λ all. refl)
separator_is s (sign And ∷ ts) e = subst (λ (s : Sign). (us : List Lexeme) × (follow s (sign And ∷ ts) ≡ Some us) × (k : Connector) × (connector_of s ≡ Some k)
    × ((all : List (PatternAt written)) → joined s all ≡ syntax.members k all)) (same_Some And s e) (ts, refl, interleave, refl, λ all. refl)
separator_is s (sign Bar ∷ ts) e = subst (λ (s : Sign). (us : List Lexeme) × (follow s (sign Bar ∷ ts) ≡ Some us) × (k : Connector) × (connector_of s ≡ Some k)
    × ((all : List (PatternAt written)) → joined s all ≡ syntax.members k all)) (same_Some Bar s e) (ts, refl, choice, refl, λ all. refl)
separator_is s _ e = absurd cc

repeated_by : (ts us rest front : List Lexeme) (r : Sign) (t u : PatternAt written) → ((a : List Lexeme) → IsPrimary a t → IsParticle (a ++ sign r ∷ []) u)
    → IsPrimary front t → ts ≡ front ++ us → us ≡ sign r ∷ rest → TakesFront IsParticle ts (u, rest)
repeated_by ts us rest front r t u makes one parts is = record {
  front = front ++ sign r ∷ [];
  is = makes front one;
  parts = let q = append_assoc front (sign r ∷ []) rest in cc;
}

-- a primary with the sign of repetition after it
pub repeated_reads : (ts rest front : List Lexeme) (t : PatternAt written) → IsPrimary front t → ts ≡ front ++ rest → TakesFront IsParticle ts (repeated t rest)
repeated_reads ts (sign Question ∷ us) front t one parts = repeated_by ts (sign Question ∷ us) us front Question t (syntax.optional t)
    (λ a p. grammar.optional p refl) one parts refl
repeated_reads ts (sign Star ∷ us) front t one parts = repeated_by ts (sign Star ∷ us) us front Star t (syntax.zero_or_more t)
    (λ a p. grammar.zero_or_more p refl) one parts refl
repeated_reads ts (sign Plus ∷ us) front t one parts = repeated_by ts (sign Plus ∷ us) us front Plus t (syntax.one_or_more t)
    (λ a p. grammar.one_or_more p refl) one parts refl
repeated_reads ts _ front t one parts = record { front = front; is = grammar.once one; parts = parts }

last_parts : (s : Sign) (ts a b r : List Lexeme) → ts ≡ a ++ b → a ≡ sign s ∷ r → b ≡ [] → ts ≡ sign s ∷ r
last_parts s ts a b r e f g = e ∙ ap (λ (b : List Lexeme). a ++ b) g ∙ append-nil a ∙ f

pub more_are : {s : Sign} {ts : List Lexeme} {us : List (PatternAt written)} → Each (Preceded IsParticle s) ts us
    → (y : PatternAt written) (ys : List (PatternAt written)) → y ∷ ys ≡ us → AreMore s ts us
more_are (no_items e) y ys ne = absurd cc
more_are {s} {ts} (and_item {xs = []} {a = a} {b = b} p q parts) y ys ne =
    grammar.last_particle p.is (last_parts s ts a b p.rest parts p.parts (nothing_left q))
more_are {s} {ts} (and_item {xs = z ∷ zs} {a = a} {b = b} p q parts) y ys ne = grammar.more_particles p.is (more_are q z zs refl)
    (parts ∙ ap (λ (a : List Lexeme). a ++ b) p.parts)

joined_reads : (ts rest front : List Lexeme) (s : Sign) (k : Connector) (t u : PatternAt written) (others : List (PatternAt written) × List Lexeme)
    (y : PatternAt written) (ys : List (PatternAt written)) → connector_of s ≡ Some k → IsParticle front t → ts ≡ front ++ rest → y ∷ ys ≡ others.0
    → u ≡ syntax.members k (t ∷ others.0) → TakesFront (Each (Preceded IsParticle s)) rest others → TakesFront IsPattern ts (u, others.1)
joined_reads ts rest front s k t u others y ys connects one parts ne tree q = record {
  front = front ++ q.front;
  is = grammar.particles connects one (more_are q.is y ys ne) refl tree;
  parts = parts ∙ ap (λ (r : List Lexeme). front ++ r) q.parts ∙ sym (append_assoc front q.front others.1);
}

pub components_are : (w : Setting) {ts : List Lexeme} {cs : List (ComponentAt written)} → Each (IsComponent w) ts cs → AreComponents w ts cs
components_are w (no_items e) = grammar.no_components e
components_are w (and_item p q parts) = grammar.and_component p (components_are w q) parts

pub component_front_is : (w : Setting) (ts us : List Lexeme) → component_front w ts ≡ Some us → ts ≡ us
component_front_is w ts us e =
    elim (chosen (begins_component w ts) (Some ts) None (Some us) e) [
      | inl h ↦ same_Some ts us h.1
      | inr h ↦ absurd (let q = h.1 in cc)
    ]

-- a method and a pattern, after the name or `start`
abbrev pub assignment_with : Inside → Option (List ℕ) → List Lexeme → Outcome (ComponentAt written)
assignment_with inside o ts = ◌>>=◌ {A = (Option (List ℕ) × Method) × List Lexeme} (method_at ts >>= λ m. Ok ((o, m.0), m.1)) (λ x. pattern_with inside x.1
    >>= λ t. Ok (assigned x.0.0 x.0.1 t.0, t.1))

-- the same, put together at once
pub assignment_is : (inside : Inside) (o : Option (List ℕ)) (ts : List Lexeme)
    → (method_at ts >>= λ m. pattern_with inside m.1 >>= λ t. Ok (assigned o m.0 t.0, t.1)) ≡ assignment_with inside o ts
assignment_is inside o ts = sym (bind_bind {B = (Option (List ℕ) × Method) × List Lexeme} (method_at ts) (λ m. Ok ((o, m.0), m.1)) (λ x. pattern_with inside x.1
    >>= λ t. Ok (assigned x.0.0 x.0.1 t.0, t.1)))

-- a mention, and the components that override what it mentions
pub include_is : (s : Spelling) (first second : List Lexeme) (m : Mention written) (cs : List (ComponentAt written)) → IsMention s.number first m
    → MayOverride second cs → IsBareComponent content (keyword keywords.Include s ∷ (first ++ second)) (syntax.include m (syntax.components_of cs))
include_is s first second m cs p q =
    grammar.include refl p.literal p.inherits q (ap (λ (r : List Lexeme). keyword keywords.Include s ∷ r) (ap (λ (r : List Lexeme). r ++ second) p.parts
    ∙ append_assoc p.first p.second second))
    (ap (λ (m : Mention written). syntax.include m (syntax.components_of cs)) p.standing)

-- a method and a pattern, after `start`
pub start_is : (w : Setting) (s : Spelling) (first second : List Lexeme) (m : Method) (t : PatternAt written) → IsMethod first m → IsPattern second t
    → IsBareComponent w (keyword keywords.Start s ∷ (first ++ second)) (syntax.start m t)
start_is w s first second m t p q = grammar.start p.method q (ap (λ (r : List Lexeme). keyword keywords.Start s ∷ (r ++ second)) p.parts)

-- a method and a pattern, after a name
pub define_is : (w : Setting) (n : List ℕ) (first second : List Lexeme) (m : Method) (t : PatternAt written) → IsMethod first m → IsPattern second t
    → IsBareComponent w (identifier n ∷ (first ++ second)) (syntax.define n m t)
define_is w n first second m t p q = grammar.define p.method q (ap (λ (r : List Lexeme). identifier n ∷ (r ++ second)) p.parts)

-- what follows an annotation is, with the annotation, the whole
pub primary_is : (n ts : List Lexeme) (t : PatternAt written) → MayBeAnnotation n → IsBarePrimary ts t → IsPrimary (n ++ ts) t
primary_is n ts t may is = grammar.annotated_primary may is refl

pub component_is : (w : Setting) (n ts : List Lexeme) (c : ComponentAt written) → MayBeAnnotation n → IsBareComponent w ts c → IsComponent w (n ++ ts) c
component_is w n ts c may is = grammar.annotated_component may is refl

module _ (inside : Inside) (sound : InsideSound inside) where
  braced_sound : Sound (braced_with inside) IsBraced
  unfolding braced_with
  braced_sound ts x e =
      let p = open_sound (Closed IsPattern CloseBrace) OpenBrace (in_braces_at inside.pattern) (in_braces_sound IsPattern inside.pattern sound.pattern) ts x e
      in
      let q = bracketed IsPattern OpenBrace CloseBrace p.front x.0 p.is in
      record { front = p.front; is = grammar.in_braces q.is q.parts; parts = p.parts }

  contents_sound : (w : Setting) → Sound (contents_with inside w) (Bracketed (AreComponents w) OpenBrace CloseBrace)
  unfolding contents_with
  contents_sound w ts x e =
      let p = open_sound (Closed (AreComponents w) CloseBrace) OpenBrace (in_braces_at (inside.components w))
      (in_braces_sound (AreComponents w) (inside.components w) (sound.components w)) ts x e in
      record { front = p.front; is = bracketed (AreComponents w) OpenBrace CloseBrace p.front x.0 p.is; parts = p.parts }

  -- a name class and a pattern in braces, after a token
  named_sound : (make : NameClassAt written → PatternAt written → PatternAt written) (t : Lexeme)
      → ((first second : List Lexeme) (c : NameClassAt written) (u : PatternAt written) → IsClass first c
      → IsBraced second u → IsBarePrimary (t ∷ (first ++ second)) (make c u))
      → (ts : List Lexeme) (x : PatternAt written × List Lexeme) → named_with inside make ts ≡ Ok x → TakesFront IsBarePrimary (t ∷ ts) x
  unfolding named_with
  named_sound make t makes ts x e =
      behind IsBarePrimary t ts x
      (both_sound IsClass IsBraced (Behind t IsBarePrimary) make (class_with inside.class) (braced_with inside) (class_sound inside.class sound.class)
      braced_sound makes ts x e)

  bare_primary_sound : Sound (bare_primary_with inside) IsBarePrimary
  unfolding bare_primary_with atom_at other_at opened_with parens_with
  bare_primary_sound (keyword keywords.Element s ∷ ts) x e = named_sound syntax.element (keyword keywords.Element s)
      (λ first second c u p q. grammar.element p q refl) ts x e
  bare_primary_sound (keyword keywords.Attribute s ∷ ts) x e = named_sound syntax.attribute (keyword keywords.Attribute s)
      (λ first second c u p q. grammar.attribute p q refl) ts x e
  bare_primary_sound (keyword keywords.List s ∷ ts) x e =
      behind IsBarePrimary (keyword keywords.List s) ts x (mapped_sound IsBraced (Behind (keyword keywords.List s) IsBarePrimary) syntax.list
      (braced_with inside) braced_sound (λ ts a p. grammar.list p refl) ts x e)
  bare_primary_sound (keyword keywords.Mixed s ∷ ts) x e =
      behind IsBarePrimary (keyword keywords.Mixed s) ts x (mapped_sound IsBraced (Behind (keyword keywords.Mixed s) IsBarePrimary) syntax.mixed
      (braced_with inside) braced_sound (λ ts a p. grammar.mixed p refl) ts x e)
  bare_primary_sound (keyword keywords.Parent s ∷ ts) x e =
      let a = bind_ok (identifier_at ts) _ x e in
      subst (TakesFront IsBarePrimary (keyword keywords.Parent s ∷ ts)) (ok_is (syntax.parent_ref a.0.0, a.0.1) x a.2)
      (record {
        front = keyword keywords.Parent s ∷ identifier a.0.0 ∷ [];
        is = grammar.parent_ref refl;
        parts = ap (λ (ts : List Lexeme). keyword keywords.Parent s ∷ ts) (identifier_is ts a.0 a.1);
      })
  bare_primary_sound (keyword keywords.Empty s ∷ ts) x e = subst (TakesFront IsBarePrimary (keyword keywords.Empty s ∷ ts)) (ok_is (syntax.empty, ts) x e)
      (record { front = keyword keywords.Empty s ∷ []; is = grammar.empty refl; parts = refl })
  bare_primary_sound (keyword keywords.Text s ∷ ts) x e = subst (TakesFront IsBarePrimary (keyword keywords.Text s ∷ ts)) (ok_is (syntax.text, ts) x e)
      (record { front = keyword keywords.Text s ∷ []; is = grammar.text refl; parts = refl })
  bare_primary_sound (keyword keywords.NotAllowed s ∷ ts) x e =
      subst (TakesFront IsBarePrimary (keyword keywords.NotAllowed s ∷ ts)) (ok_is (syntax.not_allowed, ts) x e)
      (record { front = keyword keywords.NotAllowed s ∷ []; is = grammar.not_allowed refl; parts = refl })
  bare_primary_sound (keyword keywords.String s ∷ ts) x e = typed_sound syntax.string_type (keyword keywords.String s) ts x refl e
  bare_primary_sound (keyword keywords.Token s ∷ ts) x e = typed_sound syntax.token_type (keyword keywords.Token s) ts x refl e
  bare_primary_sound (keyword keywords.External s ∷ ts) x e =
      behind IsBarePrimary (keyword keywords.External s) ts x (mapped_sound (IsMention s.number) (Behind (keyword keywords.External s) IsBarePrimary)
      syntax.external (mention_at s.number) (mention_sound s.number)
      (λ ts a p. grammar.external p.literal p.inherits (ap (λ (ts : List Lexeme). keyword keywords.External s ∷ ts) p.parts) (ap syntax.external p.standing)) ts
      x e)
  bare_primary_sound (keyword keywords.Grammar s ∷ ts) x e =
      behind IsBarePrimary (keyword keywords.Grammar s) ts x (mapped_sound (Bracketed (AreComponents content) OpenBrace CloseBrace)
      (Behind (keyword keywords.Grammar s) IsBarePrimary) (λ (cs : List (ComponentAt written)). syntax.grammar (syntax.components_of cs))
      (contents_with inside content)
      (contents_sound content)
      (λ ts a p. grammar.grammar p.is (ap (λ (ts : List Lexeme). keyword keywords.Grammar s ∷ ts) p.parts) refl) ts x e)
  bare_primary_sound (identifier n ∷ ts) x e = subst (TakesFront IsBarePrimary (identifier n ∷ ts)) (ok_is (syntax.ref n, ts) x e)
      (record { front = identifier n ∷ []; is = grammar.ref refl; parts = refl })
  bare_primary_sound (cname p l ∷ ts) x e = typed_sound (syntax.prefixed_type p l) (cname p l) ts x refl e
  bare_primary_sound (segment w ∷ ts) x e = mapped_sound IsLiteral IsBarePrimary (syntax.value syntax.token_type) literal_at literal_sound
      (λ ts v p. grammar.untyped_value p) (segment w ∷ ts) x e
  bare_primary_sound (sign OpenParenthesis ∷ ts) x e =
      let p = closes_sound IsPattern CloseParenthesis inside.pattern sound.pattern ts x e in
      record {
        front = sign OpenParenthesis ∷ p.front;
        is = grammar.in_parens p.is.is (ap (λ (r : List Lexeme). sign OpenParenthesis ∷ r) p.is.parts);
        parts = ap (λ (r : List Lexeme). sign OpenParenthesis ∷ r) p.parts;
      }
  bare_primary_sound _ x e = absurd cc

  pub bare_primary_behind : SoundBehind (bare_primary_with inside) IsPrimary
  bare_primary_behind = bare_sound IsPrimary (bare_primary_with inside) IsBarePrimary bare_primary_sound primary_is

  pub primary_sound : Sound (primary_with inside) IsPrimary
  unfolding primary_with
  primary_sound = annotated_sound IsPrimary (bare_primary_with inside) bare_primary_behind

  pub particle_sound : Sound (particle_with inside) IsParticle
  unfolding particle_with
  particle_sound ts x e =
      let a = bind_ok (primary_with inside ts) _ x e in
      let p = primary_sound ts a.0 a.1 in
      subst (TakesFront IsParticle ts) (ok_is (repeated a.0.0 a.0.1) x a.2) (repeated_reads ts a.0.1 p.front a.0.0 p.is p.parts)

  rest_sound : (ts : List Lexeme) (t x : PatternAt written × List Lexeme) (o : Option Sign) → TakesFront IsParticle ts t → separator_of t.1 ≡ o
      → rest_with inside t.0 o t.1 ≡ Ok x → TakesFront IsPattern ts x
  unfolding rest_with
  rest_sound ts t x None p is e = subst (TakesFront IsPattern ts) (ok_is t x e) (record { front = p.front; is = grammar.one_particle p.is; parts = p.parts })
  rest_sound ts t x (Some s) p is e =
      let o = separator_is s t.1 is in
      let a = bind_ok (many (follow s) (particle_with inside) t.1) _ x e in
      let some = some_is_read (Preceded IsParticle s) (follow s) (particle_with inside) refl t.1 o.0 a.0 o.1 a.1 in
      subst (TakesFront IsPattern ts) (ok_is (joined s (t.0 ∷ a.0.0), a.0.1) x a.2)
      (joined_reads ts t.1 p.front s o.2 t.0 (joined s (t.0 ∷ a.0.0)) a.0 some.0 some.1 o.3 p.is p.parts some.2 (o.4 (t.0 ∷ a.0.0))
      (many_sound (Preceded IsParticle s) (follow s) (particle_with inside) (preceded_sound IsParticle s (particle_with inside) particle_sound) t.1 a.0 a.1))

  pattern_from_sound : (ts : List Lexeme) (t x : PatternAt written × List Lexeme) → TakesFront IsPrimary ts t → pattern_from inside t.0 t.1 ≡ Ok x
      → TakesFront IsPattern ts x
  pattern_from_sound ts t x p e = rest_sound ts (repeated t.0 t.1) x (separator_of (repeated t.0 t.1).1) (repeated_reads ts t.1 p.front t.0 p.is p.parts) refl e

  -- after an annotation
  data_reads : (n : List Lexeme) (t : Lexeme) (d : DatatypeName written) (ts us vs front : List Lexeme) (ps : List (List ℕ × List ℕ))
      (x : PatternAt written × List Lexeme)
      → MayBeAnnotation n → type_of t ≡ Some d → MayBeParameters front ps → ts ≡ front ++ us → us ≡ sign Minus ∷ vs → TakesFront IsPrimary vs x
      → TakesFront IsPattern (n ++ t ∷ ts) (syntax.data_except d ps x.0, x.1)
  data_reads n t d ts us vs front ps x may is params parts minus p =
      taken_behind IsPattern (primary_with inside) n (t ∷ ts) (syntax.data_except d ps x.0, x.1)
      (record {
        front = t ∷ (front ++ sign Minus ∷ p.front);
        is = grammar.data_except t may is params p.is refl;
        parts = ap (λ (r : List Lexeme). t ∷ r) (parts ∙ ap (λ (r : List Lexeme). front ++ r) (minus ∙ ap (λ (r : List Lexeme). sign Minus ∷ r) p.parts)
            ∙ sym (append_assoc front (sign Minus ∷ p.front) x.1));
      })

  pub data_primary : (n : List Lexeme) (t : Lexeme) (d : DatatypeName written) (ts : List Lexeme) (ps : List (List ℕ × List ℕ) × List Lexeme)
      → MayBeAnnotation n → type_of t ≡ Some d → TakesFront MayBeParameters ts ps → TakesFront IsPrimary (n ++ t ∷ ts) (syntax.data_of d ps.0, ps.1)
  data_primary n t d ts ps may is p =
      taken_behind IsPrimary (primary_with inside) n (t ∷ ts) (syntax.data_of d ps.0, ps.1)
      (record {
        front = t ∷ p.front;
        is = grammar.annotated_primary may (grammar.data_of is p.is refl) refl;
        parts = ap (λ (r : List Lexeme). t ∷ r) p.parts;
      })

  data_step : (n : List Lexeme) (t : Lexeme) (d : DatatypeName written) (ts : List Lexeme) (ps : List (List ℕ × List ℕ) × List Lexeme)
      (x : PatternAt written × List Lexeme)
      (o : Option (List Lexeme)) → MayBeAnnotation n → type_of t ≡ Some d → TakesFront MayBeParameters ts ps → follow Minus ps.1 ≡ o
      → either_way o (pattern_from inside (syntax.data_of d ps.0) ps.1) (λ us. primary_with inside us >>= λ t. Ok (syntax.data_except d ps.0 t.0, t.1)) ≡ Ok x
      → TakesFront IsPattern (n ++ t ∷ ts) x
  data_step n t d ts ps x None may is p f e = pattern_from_sound (n ++ t ∷ ts) (syntax.data_of d ps.0, ps.1) x (data_primary n t d ts ps may is p) e
  data_step n t d ts ps x (Some us) may is p f e =
      let a = bind_ok (primary_with inside us) _ x e in
      subst (TakesFront IsPattern (n ++ t ∷ ts)) (ok_is (syntax.data_except d ps.0 a.0.0, a.0.1) x a.2)
      (data_reads n t d ts ps.1 us p.front ps.0 a.0 may is p.is p.parts (follow_is Minus ps.1 us f) (primary_sound us a.0 a.1))

  data_sound : (n : List Lexeme) (t : Lexeme) (d : DatatypeName written) (ts : List Lexeme) (ps : List (List ℕ × List ℕ) × List Lexeme)
      (x : PatternAt written × List Lexeme) → MayBeAnnotation n → type_of t ≡ Some d → TakesFront MayBeParameters ts ps → data_with inside d ps.0 ps.1 ≡ Ok x
      → TakesFront IsPattern (n ++ t ∷ ts) x
  unfolding data_with
  data_sound n t d ts ps x may is p e = data_step n t d ts ps x (follow Minus ps.1) may is p refl e

  pattern_step : (n ts : List Lexeme) (x : PatternAt written × List Lexeme) (o : Option (DatatypeName written × List Lexeme)) → MayBeAnnotation n
      → data_front ts ≡ o
      → either_way o (bare_primary_with inside ts >>= λ t. pattern_from inside t.0 t.1) (λ d. parameters_at d.1 >>= λ ps. data_with inside d.0 ps.0 ps.1) ≡ Ok x
      → TakesFront IsPattern (n ++ ts) x
  pattern_step n ts x None may is e =
      let a = bind_ok (bare_primary_with inside ts) _ x e in
      pattern_from_sound (n ++ ts) a.0 x (bare_primary_behind n may ts a.0 a.1) a.2
  pattern_step n ts x (Some d) may is e =
      let f = data_front_is ts d is in
      let a = bind_ok (parameters_at d.1) _ x e in
      subst (λ (ts : List Lexeme). TakesFront IsPattern (n ++ ts) x) (sym f.2)
      (data_sound n f.0 d.0 d.1 a.0 x may f.1 (parameters_sound d.1 a.0 a.1) a.2)

  pub bare_pattern_behind : SoundBehind (bare_pattern_with inside) IsPattern
  unfolding bare_pattern_with
  bare_pattern_behind n may ts x e = pattern_step n ts x (data_front ts) may refl e

  pub pattern_sound : Sound (pattern_with inside) IsPattern
  unfolding pattern_with
  pattern_sound = annotated_sound IsPattern (bare_pattern_with inside) bare_pattern_behind

  -- a method and a pattern, after the name or `start`
  assigned_sound : (w : Setting) (o : Option (List ℕ)) (t : Lexeme) → ((first second : List Lexeme) (m : Method) (u : PatternAt written) → IsMethod first m
      → IsPattern second u → IsBareComponent w (t ∷ (first ++ second)) (assigned o m u))
      → (ts : List Lexeme) (x : ComponentAt written × List Lexeme) → assignment_with inside o ts ≡ Ok x → TakesFront (IsBareComponent w) (t ∷ ts) x
  assigned_sound w o t makes ts x e =
      behind (IsBareComponent w) t ts x
      (both_sound IsMethod IsPattern (Behind t (IsBareComponent w)) (assigned o) method_at (pattern_with inside) method_sound pattern_sound makes ts x
      (assignment_is inside o ts ∙ e))

  overrides_step : (ts : List Lexeme) (x : List (ComponentAt written) × List Lexeme) (o : Option (List Lexeme))
      → either_way o (Ok ([], ts)) (λ us. contents_with inside override ts) ≡ Ok x → TakesFront MayOverride ts x
  overrides_step ts x None e = subst (TakesFront MayOverride ts) (ok_is ([], ts) x e) (record { front = []; is = grammar.without_overrides refl; parts = refl })
  overrides_step ts x (Some us) e =
      let p = contents_sound override ts x e in
      record { front = p.front; is = grammar.with_overrides p.is.is p.is.parts; parts = p.parts }

  overrides_sound : Sound (overrides_with inside) MayOverride
  unfolding overrides_with
  overrides_sound ts x e = overrides_step ts x (follow OpenBrace ts) e

  pub bare_component_sound : (w : Setting) → Sound (bare_component_with inside w) (IsBareComponent w)
  unfolding bare_component_with assigned_at
  bare_component_sound w (identifier n ∷ ts) x e = assigned_sound w (Some n) (identifier n) (define_is w n) ts x e
  bare_component_sound w (keyword keywords.Start s ∷ ts) x e = assigned_sound w None (keyword keywords.Start s) (start_is w s) ts x e
  bare_component_sound w (keyword keywords.Div s ∷ ts) x e =
      behind (IsBareComponent w) (keyword keywords.Div s) ts x
      (mapped_sound (Bracketed (AreComponents w) OpenBrace CloseBrace) (Behind (keyword keywords.Div s) (IsBareComponent w))
      (λ (cs : List (ComponentAt written)). syntax.div (syntax.components_of cs)) (contents_with inside w) (contents_sound w)
      (λ ts a p. grammar.div p.is (ap (λ (r : List Lexeme). keyword keywords.Div s ∷ r) p.parts) refl) ts x e)
  bare_component_sound content (keyword keywords.Include s ∷ ts) x e =
      behind (IsBareComponent content) (keyword keywords.Include s) ts x
      (both_sound (IsMention s.number) MayOverride (Behind (keyword keywords.Include s) (IsBareComponent content))
      (λ m cs. syntax.include m (syntax.components_of cs)) (mention_at s.number) (overrides_with inside) (mention_sound s.number) overrides_sound (include_is s)
      ts x e)
  bare_component_sound w _ x e = absurd cc

  pub bare_component_behind : (w : Setting) → SoundBehind (bare_component_with inside w) (IsComponent w)
  bare_component_behind w = bare_sound (IsComponent w) (bare_component_with inside w) (IsBareComponent w) (bare_component_sound w) (component_is w)

  component_sound : (w : Setting) → Sound (component_with inside w) (IsComponent w)
  unfolding component_with
  component_sound w = annotated_sound (IsComponent w) (bare_component_with inside w) (bare_component_behind w)

  pub component_item : (w : Setting) (ts us : List Lexeme) (x : ComponentAt written × List Lexeme) → component_front w ts ≡ Some us
      → component_with inside w us ≡ Ok x → TakesFront (IsComponent w) ts x
  component_item w ts us x is e = component_sound w ts x (ap (component_with inside w) (component_front_is w ts us is) ∙ e)

  pub components_sound : (w : Setting) → Sound (components_with inside w) (AreComponents w)
  unfolding components_with
  components_sound w ts x e =
      let p = many_sound (IsComponent w) (component_front w) (component_with inside w) (component_item w) ts x e in
      record { front = p.front; is = components_are w p.is; parts = p.parts }

pub inside_sound : (n : ℕ) → InsideSound (inside_at n)
unfolding inside_at
inside_sound zero = record { class = λ ts x e. absurd cc; pattern = λ ts x e. absurd cc; components = λ w ts x e. absurd cc }
inside_sound (suc n) =
    let s = inside_sound n in
    record {
      class = class_sound (inside_at n).class s.class;
      pattern = pattern_sound (inside_at n) s;
      components = components_sound (inside_at n) s;
    }
