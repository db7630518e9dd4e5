-- Whatever is in the grammar and nests within a limit is read, if what follows may follow it: patterns and components.
use Rattle.std.proofs.Common.{◌≡◌, ℕ, zero, suc, ◌<◌, Bool, true, false, List, [], ◌∷◌, ◌++◌, length, Some, None, Ok, refl, sym, ap, subst, ◌∙◌, append_assoc}
use Rattle.std.proofs.Common.{arith, ◌⊎◌, inl, inr}
use Rattle.std.proofs.lemmas.List.{length-append}
use Rattle.rng_model.specs.simple.Tree.{Connector, choice, group, interleave}
use Rattle.rnc_model.specs.declared.token.Keyword.TheVariants as keywords
use Rattle.rnc_model.specs.declared.token.Sign.{Sign}
use Rattle.rnc_model.specs.declared.token.Sign.TheVariants.{Equal, BarEqual, AndEqual, Comma, Bar, And, Question, Star, Plus, Minus, OpenBrace, CloseBrace}
use Rattle.rnc_model.specs.declared.token.Sign.TheVariants.{OpenParenthesis, CloseParenthesis, OpenBracket, CloseBracket, Tilde}
use Rattle.rng_model.specs.declared.method.Method.{Method}
use Rattle.rng_model.specs.declared.method.Method.TheVariants as methods
use Rattle.rnc_model.specs.tokens.Cut.{Lexeme, Spelling, keyword, identifier, cname, segment, sign}
use Rattle.rnc_model.specs.grammar.Syntax as syntax
use Rattle.rnc_model.specs.grammar.Syntax.{written, NameClassAt, DatatypeName, Mention, PatternAt, ComponentAt}
use Rattle.rnc_model.specs.grammar.Grammar as grammar
use Rattle.rnc_model.specs.grammar.NameClasses as name_classes
use Rattle.rnc_model.specs.grammar.Grammar.{Setting, content, override, IsPattern, AreMore}
use Rattle.rnc_model.specs.grammar.NameClasses.{type_of, method_of, connector_of, MayBeParameters, MayBeAnnotation}
use Rattle.rnc_model.specs.grammar.Grammar.{IsParticle, IsPrimary, IsBarePrimary, IsBraced, AreComponents, IsComponent, IsBareComponent, MayOverride}
use Rattle.rnc_syntax.specs.plain.Combinators.{follow, follow_keyword, after, identifier_at, many}
use Rattle.rnc_syntax.specs.plain.Productions.{literal_at, parameters_at, mention_at, braced_with, contents_with, named_with, begins_segment, typed_at}
use Rattle.rnc_syntax.specs.plain.Productions.{type_front}
use Rattle.rnc_syntax.specs.plain.Productions.{other_at, atom_at, parens_with, opened_with, bare_primary_with, primary_with, repeated, particle_with}
use Rattle.rnc_syntax.specs.plain.Productions.{separator_of}
use Rattle.rnc_syntax.specs.plain.Productions.{joined, rest_with}
use Rattle.rnc_syntax.specs.plain.Productions.{pattern_from, data_front, data_with, bare_pattern_with, pattern_with, method_at, overrides_with, component_front}
use Rattle.rnc_syntax.specs.plain.Productions.{assigned_at, bare_component_with, component_with, components_with, inside_at}
use Rattle.rnc_model.specs.grammar.Sentence.{NestsWithin}
use Rattle.rnc_syntax.proofs.Balance.{Plain, plain, braces, parens, first_within, second_within, behind_within, inside_within, none_within, plain_type}
use Rattle.rnc_syntax.proofs.Balance.{plain_method, plain_connector, annotation_even, literal_even, may_parameters_even, may_inherit_even, class_even}
use Rattle.rnc_syntax.proofs.Balance.{particle_even, component_even}
use Rattle.rnc_syntax.proofs.CompletenessAnnotations.{StandsAlone, no_bracket, annotated_parts, annotated_is, annotated_behind, annotated_read}
use Rattle.rnc_syntax.proofs.Completeness.{Manys, manys_end, manys_more, manys_read, literal_complete, literal_begins, parameters_complete, braces_read}
use Rattle.rnc_syntax.proofs.Completeness.{mention_complete}
use Rattle.rnc_syntax.proofs.CompletenessClasses.{classes, class_complete}

-- ---- what may follow

-- what may follow a primary
pub record FollowsPrimary (rest : List Lexeme) : Type 0 where
  pub tilde : follow Tilde rest ≡ None
  pub brace : follow OpenBrace rest ≡ None
  pub inherits : follow_keyword keywords.Inherit rest ≡ None
  pub no_segment : begins_segment rest ≡ false

-- what may follow a particle
pub record FollowsParticle (rest : List Lexeme) : Type 0 where
  pub primary : FollowsPrimary rest
  pub once : (t : PatternAt written) → repeated t rest ≡ (t, rest)
  pub minus : follow Minus rest ≡ None

-- what may follow a pattern
pub record FollowsPattern (rest : List Lexeme) : Type 0 where
  pub particle : FollowsParticle rest
  pub separator : separator_of rest ≡ None

-- what may follow components
pub data FollowsComponents : List Lexeme → Type 0 where
  ended : {rest : List Lexeme} → rest ≡ [] → FollowsComponents rest
  closed : {rest r : List Lexeme} → rest ≡ sign CloseBrace ∷ r → FollowsComponents rest

pub follows_closing : (s : Sign) (r : List Lexeme) → (s ≡ CloseBrace) ⊎ (s ≡ CloseParenthesis) → FollowsPattern (sign s ∷ r)
follows_closing CloseBrace r e = record {
  particle = record {
    primary = record { tilde = refl; brace = refl; inherits = refl; no_segment = refl };
    once = λ t. refl;
    minus = refl;
  };
  separator = refl;
}
follows_closing CloseParenthesis r e = record {
  particle = record {
    primary = record { tilde = refl; brace = refl; inherits = refl; no_segment = refl };
    once = λ t. refl;
    minus = refl;
  };
  separator = refl;
}
follows_closing _ r (inl e) = absurd cc
follows_closing _ r (inr e) = absurd cc

pub follows_end : FollowsPattern []
follows_end = record {
  particle = record {
    primary = record { tilde = refl; brace = refl; inherits = refl; no_segment = refl };
    once = λ t. refl;
    minus = refl;
  };
  separator = refl;
}

follows_connector : (s : Sign) (k : Connector) (r : List Lexeme) → connector_of s ≡ Some k → FollowsParticle (sign s ∷ r)
follows_connector Comma k r e = record { primary = record { tilde = refl; brace = refl; inherits = refl; no_segment = refl }; once = λ t. refl; minus = refl }
follows_connector And k r e = record { primary = record { tilde = refl; brace = refl; inherits = refl; no_segment = refl }; once = λ t. refl; minus = refl }
follows_connector Bar k r e = record { primary = record { tilde = refl; brace = refl; inherits = refl; no_segment = refl }; once = λ t. refl; minus = refl }
follows_connector _ k r e = absurd cc

follows_question : (r : List Lexeme) → FollowsPrimary (sign Question ∷ r)
follows_question r = record { tilde = refl; brace = refl; inherits = refl; no_segment = refl }

follows_star : (r : List Lexeme) → FollowsPrimary (sign Star ∷ r)
follows_star r = record { tilde = refl; brace = refl; inherits = refl; no_segment = refl }

follows_plus : (r : List Lexeme) → FollowsPrimary (sign Plus ∷ r)
follows_plus r = record { tilde = refl; brace = refl; inherits = refl; no_segment = refl }

-- the first token of a component may follow a pattern
abbrev starts_component : Lexeme → Bool
starts_component (identifier n) = true
starts_component (keyword keywords.Start s) = true
starts_component (keyword keywords.Div s) = true
starts_component (keyword keywords.Include s) = true
starts_component (sign OpenBracket) = true
starts_component _ = false

follows_start : (x : Lexeme) (r : List Lexeme) → starts_component x ≡ true → FollowsPattern (x ∷ r)
follows_start (identifier n) r e = record {
  particle = record {
    primary = record { tilde = refl; brace = refl; inherits = refl; no_segment = refl };
    once = λ t. refl;
    minus = refl;
  };
  separator = refl;
}
follows_start (keyword keywords.Start s) r e =
    record {
      particle = record { primary = record { tilde = refl; brace = refl; inherits = refl; no_segment = refl }; once = λ t. refl; minus = refl };
      separator = refl;
    }
follows_start (keyword keywords.Div s) r e =
    record {
      particle = record { primary = record { tilde = refl; brace = refl; inherits = refl; no_segment = refl }; once = λ t. refl; minus = refl };
      separator = refl;
    }
follows_start (keyword keywords.Include s) r e =
    record {
      particle = record { primary = record { tilde = refl; brace = refl; inherits = refl; no_segment = refl }; once = λ t. refl; minus = refl };
      separator = refl;
    }
follows_start (sign OpenBracket) r e =
    record {
      particle = record { primary = record { tilde = refl; brace = refl; inherits = refl; no_segment = refl }; once = λ t. refl; minus = refl };
      separator = refl;
    }
follows_start _ r e = absurd cc

-- a component begins with this token
abbrev Starts : List Lexeme → Type 0
Starts ts = (x : Lexeme) × (r : List Lexeme) × (ts ≡ x ∷ r) × (starts_component x ≡ true)

bare_component_starts : {w : Setting} {ts : List Lexeme} {c : ComponentAt written} → IsBareComponent w ts c → Starts ts
bare_component_starts (grammar.start {a = a} {x = x} {s = s} is p e) = (keyword keywords.Start s, x ∷ a, e, refl)
bare_component_starts (grammar.define {a = a} {x = x} {n = n} is p e) = (identifier n, x ∷ a, e, refl)
bare_component_starts (grammar.div {a = a} {s = s} p e f) = (keyword keywords.Div s, sign OpenBrace ∷ (a ++ sign CloseBrace ∷ []), e, refl)
bare_component_starts (grammar.include {a = a} {b = b} {o = o} {s = s} w-is p q r e f) = (keyword keywords.Include s, a ++ (b ++ o), e, refl)

starts_behind : {note : List Lexeme} → MayBeAnnotation note → (ts a : List Lexeme) → ts ≡ note ++ a → Starts a → Starts ts
starts_behind (name_classes.without_annotation f) ts a e s = (s.0, s.1, e ∙ ap (λ (n : List Lexeme). n ++ a) f ∙ s.2, s.3)
starts_behind (name_classes.with_annotation {a = c} p f) ts a e s =
    let rest = (c ++ sign CloseBracket ∷ []) ++ a in
    let parts : ts ≡ sign OpenBracket ∷ rest = e ∙ ap (λ (n : List Lexeme). n ++ a) f in
    (sign OpenBracket, rest, parts, refl)

component_starts : {w : Setting} {ts : List Lexeme} {c : ComponentAt written} → IsComponent w ts c → Starts ts
component_starts {w} {ts} (grammar.annotated_component {a = a} may p e) = starts_behind may ts a e (bare_component_starts p)

follows_components : {rest : List Lexeme} → FollowsComponents rest → FollowsPattern rest
follows_components (ended e) = rw e follows_end
follows_components (closed {r = r} e) = rw e (follows_closing CloseBrace r (inl refl))

follows_component_at : (a ts rest : List Lexeme) (x : Lexeme) (r : List Lexeme) → a ≡ x ∷ r → starts_component x ≡ true → FollowsPattern ((a ++ ts) ++ rest)
follows_component_at a ts rest x r e is = rw e (follows_start x ((r ++ ts) ++ rest) is)

-- more components, or what follows them
pub more_follow : {w : Setting} {b : List Lexeme} {cs : List (ComponentAt written)} → AreComponents w b cs → (rest : List Lexeme) → FollowsComponents rest
    → FollowsPattern (b ++ rest)
more_follow (grammar.no_components e) rest f = rw e (follows_components f)
more_follow (grammar.and_component {a = a} {b = b} p q e) rest f = let s = component_starts p in rw e (follows_component_at a b rest s.0 s.1 s.2 s.3)

no_front : (w : Setting) {rest : List Lexeme} → FollowsComponents rest → component_front w rest ≡ None
no_front content (ended e) = rw e refl
no_front content (closed e) = rw e refl
no_front override (ended e) = rw e refl
no_front override (closed e) = rw e refl

-- ---- steps

type_read : (d : DatatypeName written) (ts rest : List Lexeme) (ps : List (List ℕ × List ℕ)) → begins_segment ts ≡ false → parameters_at ts ≡ Ok (ps, rest)
    → typed_at d ts ≡ Ok (syntax.data_of d ps, rest)
unfolding typed_at
type_read d ts rest ps e p = rw (e, p) refl

value_read : (d : DatatypeName written) (w : List ℕ) (ts us rest : List Lexeme) (v : List ℕ) → ts ≡ segment w ∷ us → literal_at ts ≡ Ok (v, rest)
    → typed_at d ts ≡ Ok (syntax.value d v, rest)
unfolding typed_at
value_read d w ts us rest v e p =
    let q : literal_at (segment w ∷ us) ≡ Ok (v, rest) = subst (λ (ts : List Lexeme). literal_at ts ≡ Ok (v, rest)) e p in
    subst (λ (ts : List Lexeme). typed_at d ts ≡ Ok (syntax.value d v, rest)) (sym e) (rw q refl)

untyped_read : (n : ℕ) (w : List ℕ) (ts us rest : List Lexeme) (v : List ℕ) → ts ≡ segment w ∷ us → literal_at ts ≡ Ok (v, rest)
    → bare_primary_with (inside_at n) ts ≡ Ok (syntax.value syntax.token_type v, rest)
unfolding bare_primary_with atom_at other_at
untyped_read n w ts us rest v e p =
    let q : literal_at (segment w ∷ us) ≡ Ok (v, rest) = subst (λ (ts : List Lexeme). literal_at ts ≡ Ok (v, rest)) e p in
    subst (λ (ts : List Lexeme). bare_primary_with (inside_at n) ts ≡ Ok (syntax.value syntax.token_type v, rest)) (sym e) (rw q refl)

typed_read : (n : ℕ) (x : Lexeme) (d : DatatypeName written) (ts rest : List Lexeme) (t : PatternAt written) → type_of x ≡ Some d → typed_at d ts ≡ Ok (t, rest)
    → bare_primary_with (inside_at n) (x ∷ ts) ≡ Ok (t, rest)
unfolding bare_primary_with atom_at
typed_read n (cname p l) d ts rest t is e = let q : syntax.prefixed_type p l ≡ d = cc in ap (λ (d : DatatypeName written). typed_at d ts) q ∙ e
typed_read n (keyword keywords.String s) d ts rest t is e = let q : syntax.string_type ≡ d = cc in ap (λ (d : DatatypeName written). typed_at d ts) q ∙ e
typed_read n (keyword keywords.Token s) d ts rest t is e = let q : syntax.token_type ≡ d = cc in ap (λ (d : DatatypeName written). typed_at d ts) q ∙ e
typed_read n _ d ts rest t is e = absurd cc

-- the name of a datatype at the front
type_fronts : (x : Lexeme) (d : DatatypeName written) (ts : List Lexeme) → type_of x ≡ Some d → type_front (x ∷ ts) ≡ Some (d, ts)
type_fronts (cname p l) d ts is = let q : syntax.prefixed_type p l ≡ d = cc in ap (λ (d : DatatypeName written). Some (d, ts)) q
type_fronts (keyword keywords.String s) d ts is = let q : syntax.string_type ≡ d = cc in ap (λ (d : DatatypeName written). Some (d, ts)) q
type_fronts (keyword keywords.Token s) d ts is = let q : syntax.token_type ≡ d = cc in ap (λ (d : DatatypeName written). Some (d, ts)) q
type_fronts _ d ts is = absurd cc

front_typed : (x : Lexeme) (d : DatatypeName written) (ts : List Lexeme) → type_of x ≡ Some d → begins_segment ts ≡ false → data_front (x ∷ ts) ≡ Some (d, ts)
front_typed x d ts is e = rw (type_fronts x d ts is, e) refl

front_other : (x : Lexeme) (ts : List Lexeme) → type_of x ≡ None → data_front (x ∷ ts) ≡ None
front_other (cname p l) ts is = absurd cc
front_other (keyword keywords.String s) ts is = absurd cc
front_other (keyword keywords.Token s) ts is = absurd cc
front_other _ ts is = refl

other_front : (x : Lexeme) (ts a rest : List Lexeme) → ts ≡ x ∷ a → type_of x ≡ None → data_front (ts ++ rest) ≡ None
other_front x ts a rest e is = rw e (front_other x (a ++ rest) is)

front_value : (x : Lexeme) (d : DatatypeName written) (w : List ℕ) (ts us : List Lexeme) → type_of x ≡ Some d → ts ≡ segment w ∷ us → data_front (x ∷ ts) ≡ None
front_value x d w ts us is e = rw (type_fronts x d ts is, e) refl

front_segment : (w : List ℕ) (ts us : List Lexeme) → ts ≡ segment w ∷ us → data_front ts ≡ None
front_segment w ts us e = rw e (front_other (segment w) us refl)

-- these tokens are the name and the parameters of this datatype, and then `rest`
abbrev IsDataRead : PatternAt written → List Lexeme → List Lexeme → Type 0
IsDataRead t ts rest = (d : DatatypeName written) × (ps : List (List ℕ × List ℕ)) × (us : List Lexeme) × (data_front ts ≡ Some (d, us))
    × (parameters_at us ≡ Ok (ps, rest)) × (t ≡ syntax.data_of d ps)

may_no_segment : {a : List Lexeme} {ps : List (List ℕ × List ℕ)} → MayBeParameters a ps → (rest : List Lexeme) → begins_segment rest ≡ false
    → begins_segment (a ++ rest) ≡ false
may_no_segment (name_classes.without_parameters e) rest is = rw e is
may_no_segment (name_classes.with_parameters p e) rest is = rw e refl

data_is_read : (x : Lexeme) (d : DatatypeName written) (ts a rest : List Lexeme) (ps : List (List ℕ × List ℕ)) → ts ≡ x ∷ a → type_of x ≡ Some d
    → begins_segment (a ++ rest) ≡ false → parameters_at (a ++ rest) ≡ Ok (ps, rest) → IsDataRead (syntax.data_of d ps) (ts ++ rest) rest
data_is_read x d ts a rest ps e is s p = (d, ps, a ++ rest, ap (λ (ts : List Lexeme). data_front (ts ++ rest)) e ∙ front_typed x d (a ++ rest) is s, p, refl)

first_is : {ts : List Lexeme} {t : PatternAt written} → IsBarePrimary ts t → (rest : List Lexeme) → FollowsPrimary rest → (data_front (ts ++ rest) ≡ None)
    ⊎ IsDataRead t (ts ++ rest) rest
first_is (grammar.element p q e) rest f = inl (other_front _ _ _ rest e refl)
first_is (grammar.attribute p q e) rest f = inl (other_front _ _ _ rest e refl)
first_is (grammar.list p e) rest f = inl (other_front _ _ _ rest e refl)
first_is (grammar.mixed p e) rest f = inl (other_front _ _ _ rest e refl)
first_is (grammar.ref e) rest f = inl (other_front _ _ _ rest e refl)
first_is (grammar.parent_ref e) rest f = inl (other_front _ _ _ rest e refl)
first_is (grammar.empty e) rest f = inl (other_front _ _ _ rest e refl)
first_is (grammar.text e) rest f = inl (other_front _ _ _ rest e refl)
first_is (grammar.not_allowed e) rest f = inl (other_front _ _ _ rest e refl)
first_is {ts} (grammar.untyped_value p) rest f = let b = literal_begins p in
    inl (front_segment b.0 (ts ++ rest) (b.1 ++ rest) (ap (λ (ts : List Lexeme). ts ++ rest) b.2))
first_is (grammar.value {a = a} {x = x} {d = d} is p e) rest f = let b = literal_begins p in
    inl (rw e (front_value x d b.0 (a ++ rest) (b.1 ++ rest) is (ap (λ (ts : List Lexeme). ts ++ rest) b.2)))
first_is {ts} (grammar.data_of {a = a} {x = x} {d = d} {ps = ps} is p e) rest f =
    inr (data_is_read x d ts a rest ps e is (may_no_segment p rest f.no_segment) (parameters_complete p rest f.brace))
first_is (grammar.external p q e g) rest f = inl (other_front _ _ _ rest e refl)
first_is (grammar.grammar p e g) rest f = inl (other_front _ _ _ rest e refl)
first_is (grammar.in_parens p e) rest f = inl (other_front _ _ _ rest e refl)

first_from : (n : ℕ) (ts rest : List Lexeme) (t : PatternAt written) → data_front ts ≡ None → bare_primary_with (inside_at n) ts ≡ Ok (t, rest)
    → bare_pattern_with (inside_at n) ts ≡ pattern_from (inside_at n) t rest
unfolding bare_pattern_with
first_from n ts rest t none one = rw (none, one) refl

data_from : (n : ℕ) (ts us rest : List Lexeme) (d : DatatypeName written) (ps : List (List ℕ × List ℕ)) → data_front ts ≡ Some (d, us)
    → parameters_at us ≡ Ok (ps, rest) → follow Minus rest ≡ None → bare_pattern_with (inside_at n) ts ≡ pattern_from (inside_at n) (syntax.data_of d ps) rest
unfolding bare_pattern_with data_with
data_from n ts us rest d ps some params minus = rw (some, params, minus) refl

-- a pattern whose first primary is read
from_first : (n : ℕ) (ts rest : List Lexeme) (t : PatternAt written) → (data_front ts ≡ None) ⊎ IsDataRead t ts rest → follow Minus rest ≡ None
    → bare_primary_with (inside_at n) ts ≡ Ok (t, rest) → bare_pattern_with (inside_at n) ts ≡ pattern_from (inside_at n) t rest
from_first n ts rest t (inl none) minus one = first_from n ts rest t none one
from_first n ts rest t (inr (d, ps, us, front, params, is)) minus one = data_from n ts us rest d ps front params minus
    ∙ ap (λ (t : PatternAt written). pattern_from (inside_at n) t rest) (sym is)

from_once : (n : ℕ) (rest : List Lexeme) (t : PatternAt written) → repeated t rest ≡ (t, rest) → pattern_from (inside_at n) t rest ≡ rest_with (inside_at n) t
    (separator_of rest) rest
from_once n rest t e = ap (λ (x : PatternAt written × List Lexeme). rest_with (inside_at n) x.0 (separator_of x.1) x.1) e

except_read : (n : ℕ) (x : Lexeme) (d : DatatypeName written) (ts us rest : List Lexeme) (ps : List (List ℕ × List ℕ)) (t : PatternAt written)
    → data_front (x ∷ ts) ≡ Some (d, ts) → parameters_at ts ≡ Ok (ps, sign Minus ∷ us) → primary_with (inside_at n) us ≡ Ok (t, rest)
    → bare_pattern_with (inside_at n) (x ∷ ts) ≡ Ok (syntax.data_except d ps t, rest)
unfolding bare_pattern_with data_with
except_read n x d ts us rest ps t front params one = rw (front, params, one) refl

ended_read : (n : ℕ) (rest : List Lexeme) (t : PatternAt written) → separator_of rest ≡ None → rest_with (inside_at n) t (separator_of rest) rest ≡ Ok (t, rest)
unfolding rest_with
ended_read n rest t e = rw e refl

joined_is : (s : Sign) (k : Connector) (ts : List (PatternAt written)) → connector_of s ≡ Some k → joined s ts ≡ syntax.members k ts
joined_is Comma k ts e = let q : group ≡ k = cc in ap (λ (k : Connector). syntax.members k ts) q
joined_is And k ts e = let q : interleave ≡ k = cc in ap (λ (k : Connector). syntax.members k ts) q
joined_is Bar k ts e = let q : choice ≡ k = cc in ap (λ (k : Connector). syntax.members k ts) q
joined_is _ k ts e = absurd cc

separates : (s : Sign) (k : Connector) (b rest us : List Lexeme) → connector_of s ≡ Some k → b ≡ sign s ∷ us → separator_of (b ++ rest) ≡ Some s
separates Comma k b rest us e f = rw f refl
separates And k b rest us e f = rw f refl
separates Bar k b rest us e f = rw f refl
separates _ k b rest us e f = absurd cc

sign_follows : (s : Sign) (k : Connector) (us : List Lexeme) → connector_of s ≡ Some k → follow s (sign s ∷ us) ≡ Some us
sign_follows Comma k us e = refl
sign_follows And k us e = refl
sign_follows Bar k us e = refl
sign_follows _ k us e = absurd cc

no_sign : (s : Sign) (k : Connector) (rest : List Lexeme) → connector_of s ≡ Some k → separator_of rest ≡ None → follow s rest ≡ None
no_sign Comma k (sign Comma ∷ ts) e f = absurd cc
no_sign Comma k _ e f = refl
no_sign And k (sign And ∷ ts) e f = absurd cc
no_sign And k _ e f = refl
no_sign Bar k (sign Bar ∷ ts) e f = absurd cc
no_sign Bar k _ e f = refl
no_sign _ k rest e f = absurd cc

joined_read : (n : ℕ) (s : Sign) (k : Connector) (b rest : List Lexeme) (t : PatternAt written) (us : List (PatternAt written)) → connector_of s ≡ Some k
    → separator_of (b ++ rest) ≡ Some s → many (follow s) (particle_with (inside_at n)) (b ++ rest) ≡ Ok (us, rest)
    → rest_with (inside_at n) t (separator_of (b ++ rest)) (b ++ rest) ≡ Ok (syntax.members k (t ∷ us), rest)
unfolding rest_with
joined_read n s k b rest t us connects is others = rw (is, others, joined_is s k (t ∷ us) connects) refl

pub more_begin : {s : Sign} {ts : List Lexeme} {us : List (PatternAt written)} → AreMore s ts us → (c : List Lexeme) × (ts ≡ sign s ∷ c)
more_begin (grammar.last_particle {a = a} p e) = (a, e)
more_begin (grammar.more_particles {a = a} {b = b} p q e) = (a ++ b, e)

follows_more : (s : Sign) (k : Connector) (b rest c : List Lexeme) → connector_of s ≡ Some k → b ≡ sign s ∷ c → FollowsParticle (b ++ rest)
follows_more s k b rest c is e = rw e (follows_connector s k (c ++ rest) is)

particle_read : (n : ℕ) (ts rest : List Lexeme) (t : PatternAt written) (u : PatternAt written × List Lexeme) → primary_with (inside_at n) ts ≡ Ok (t, rest)
    → repeated t rest ≡ u → particle_with (inside_at n) ts ≡ Ok u
unfolding particle_with
particle_read n ts rest t u one is = rw (one, is) refl

more_read : (n : ℕ) (s : Sign) (k : Connector) (ts a b rest end : List Lexeme) (t : PatternAt written) (us : List (PatternAt written)) → connector_of s ≡ Some k
    → ts ≡ sign s ∷ (a ++ b) → particle_with (inside_at n) (a ++ (b ++ rest)) ≡ Ok (t, b ++ rest) → Manys (follow s) (particle_with (inside_at n)) (b ++ rest)
    us end
    → Manys (follow s) (particle_with (inside_at n)) (ts ++ rest) (t ∷ us) end
more_read n s k ts a b rest end t us is e one others =
    let parts : ts ++ rest ≡ sign s ∷ (a ++ (b ++ rest)) = ap (λ (ts : List Lexeme). ts ++ rest) e
    ∙ ap (λ (r : List Lexeme). sign s ∷ r) (append_assoc a b rest) in
    let shorter : length (b ++ rest) < length (sign s ∷ (a ++ (b ++ rest))) = omega (arith, length-append a (b ++ rest)) in
    subst (λ (ts : List Lexeme). Manys (follow s) (particle_with (inside_at n)) ts (t ∷ us) end) (sym parts)
    (manys_more (follow s) (particle_with (inside_at n)) (sign s ∷ (a ++ (b ++ rest))) (a ++ (b ++ rest)) (b ++ rest) end t us
    (sign_follows s k (a ++ (b ++ rest)) is) one shorter others)

last_read : (n : ℕ) (s : Sign) (k : Connector) (ts a rest : List Lexeme) (t : PatternAt written) → connector_of s ≡ Some k → ts ≡ sign s ∷ a
    → particle_with (inside_at n) (a ++ rest) ≡ Ok (t, rest) → follow s rest ≡ None → Manys (follow s) (particle_with (inside_at n)) (ts ++ rest) (t ∷ []) rest
last_read n s k ts a rest t is e one none =
    let shorter : length rest < length (sign s ∷ (a ++ rest)) = omega (arith, length-append a rest) in
    subst (λ (ts : List Lexeme). Manys (follow s) (particle_with (inside_at n)) (ts ++ rest) (t ∷ []) rest) (sym e)
    (manys_more (follow s) (particle_with (inside_at n)) (sign s ∷ (a ++ rest)) (a ++ rest) rest rest t [] (sign_follows s k (a ++ rest) is) one shorter
    (manys_end (follow s) (particle_with (inside_at n)) rest none))

element_read : (n : ℕ) (s : Spelling) (a b rest : List Lexeme) (c : NameClassAt written) (t : PatternAt written) → classes n (a ++ (b ++ rest)) ≡ Ok (c, b ++ rest)
    → braced_with (inside_at n) (b ++ rest) ≡ Ok (t, rest) → bare_primary_with (inside_at n) ((keyword keywords.Element s ∷ (a ++ b)) ++ rest) ≡ Ok
    (syntax.element c t, rest)
unfolding bare_primary_with opened_with named_with
element_read n s a b rest c t class body = rw (append_assoc a b rest, class, body) refl

attribute_read : (n : ℕ) (s : Spelling) (a b rest : List Lexeme) (c : NameClassAt written) (t : PatternAt written)
    → classes n (a ++ (b ++ rest)) ≡ Ok (c, b ++ rest)
    → braced_with (inside_at n) (b ++ rest) ≡ Ok (t, rest) → bare_primary_with (inside_at n) ((keyword keywords.Attribute s ∷ (a ++ b)) ++ rest) ≡ Ok
    (syntax.attribute c t, rest)
unfolding bare_primary_with opened_with named_with
attribute_read n s a b rest c t class body = rw (append_assoc a b rest, class, body) refl

list_read : (n : ℕ) (s : Spelling) (a rest : List Lexeme) (t : PatternAt written) → braced_with (inside_at n) (a ++ rest) ≡ Ok (t, rest)
    → bare_primary_with (inside_at n) ((keyword keywords.List s ∷ a) ++ rest) ≡ Ok (syntax.list t, rest)
unfolding bare_primary_with opened_with
list_read n s a rest t body = rw body refl

mixed_read : (n : ℕ) (s : Spelling) (a rest : List Lexeme) (t : PatternAt written) → braced_with (inside_at n) (a ++ rest) ≡ Ok (t, rest)
    → bare_primary_with (inside_at n) ((keyword keywords.Mixed s ∷ a) ++ rest) ≡ Ok (syntax.mixed t, rest)
unfolding bare_primary_with opened_with
mixed_read n s a rest t body = rw body refl

ref_read : (n : ℕ) (w : List ℕ) (rest : List Lexeme) → bare_primary_with (inside_at n) (identifier w ∷ rest) ≡ Ok (syntax.ref w, rest)
unfolding bare_primary_with atom_at
ref_read n w rest = refl

parent_read : (n : ℕ) (s : Spelling) (w : List ℕ) (rest : List Lexeme) → bare_primary_with (inside_at n) (keyword keywords.Parent s ∷ identifier w ∷ rest) ≡ Ok
    (syntax.parent_ref w, rest)
unfolding bare_primary_with atom_at other_at identifier_at
parent_read n s w rest = refl

empty_read : (n : ℕ) (s : Spelling) (rest : List Lexeme) → bare_primary_with (inside_at n) (keyword keywords.Empty s ∷ rest) ≡ Ok (syntax.empty, rest)
unfolding bare_primary_with atom_at
empty_read n s rest = refl

text_read : (n : ℕ) (s : Spelling) (rest : List Lexeme) → bare_primary_with (inside_at n) (keyword keywords.Text s ∷ rest) ≡ Ok (syntax.text, rest)
unfolding bare_primary_with atom_at
text_read n s rest = refl

not_allowed_read : (n : ℕ) (s : Spelling) (rest : List Lexeme) → bare_primary_with (inside_at n) (keyword keywords.NotAllowed s ∷ rest) ≡ Ok (
  syntax.not_allowed,
  rest,
)
unfolding bare_primary_with atom_at
not_allowed_read n s rest = refl

external_read : (n : ℕ) (s : Spelling) (a b rest : List Lexeme) (m : Mention written) → mention_at s.number (a ++ (b ++ rest)) ≡ Ok (m, rest)
    → bare_primary_with (inside_at n) ((keyword keywords.External s ∷ (a ++ b)) ++ rest) ≡ Ok (syntax.external m, rest)
unfolding bare_primary_with atom_at other_at
external_read n s a b rest m e = rw (append_assoc a b rest, e) refl

grammar_read : (n : ℕ) (s : Spelling) (a rest : List Lexeme) (cs : List (ComponentAt written))
    → contents_with (inside_at n) content ((sign OpenBrace ∷ (a ++ sign CloseBrace ∷ [])) ++ rest) ≡ Ok (cs, rest)
    → bare_primary_with (inside_at n) ((keyword keywords.Grammar s ∷ sign OpenBrace ∷ (a ++ sign CloseBrace ∷ [])) ++ rest) ≡ Ok
    (syntax.grammar (syntax.components_of cs), rest)
unfolding bare_primary_with opened_with
grammar_read n s a rest cs e = rw e refl

parens_read : (n : ℕ) (a rest : List Lexeme) (t : PatternAt written) → pattern_with (inside_at n) (a ++ (sign CloseParenthesis ∷ rest)) ≡ Ok
    (t, sign CloseParenthesis ∷ rest)
    → bare_primary_with (inside_at (suc n)) ((sign OpenParenthesis ∷ (a ++ sign CloseParenthesis ∷ [])) ++ rest) ≡ Ok (t, rest)
unfolding bare_primary_with opened_with parens_with inside_at after
parens_read n a rest t body = rw (append_assoc a (sign CloseParenthesis ∷ []) rest, body) refl

braced_read : (n : ℕ) (a rest : List Lexeme) (t : PatternAt written) → pattern_with (inside_at n) (a ++ (sign CloseBrace ∷ rest)) ≡ Ok (t, sign CloseBrace ∷ rest)
    → braced_with (inside_at (suc n)) ((sign OpenBrace ∷ (a ++ sign CloseBrace ∷ [])) ++ rest) ≡ Ok (t, rest)
unfolding braced_with inside_at after
braced_read n a rest t body = braces_read (pattern_with (inside_at n)) a rest t body

contents_read : (n : ℕ) (w : Setting) (a rest : List Lexeme) (cs : List (ComponentAt written))
    → components_with (inside_at n) w (a ++ (sign CloseBrace ∷ rest)) ≡ Ok
    (cs, sign CloseBrace ∷ rest) → contents_with (inside_at (suc n)) w ((sign OpenBrace ∷ (a ++ sign CloseBrace ∷ [])) ++ rest) ≡ Ok (cs, rest)
unfolding contents_with inside_at after
contents_read n w a rest cs body = braces_read (components_with (inside_at n) w) a rest cs body

overrides_read : (n : ℕ) (a rest : List Lexeme) (cs : List (ComponentAt written)) → components_with (inside_at n) override (a ++ (sign CloseBrace ∷ rest)) ≡ Ok
    (cs, sign CloseBrace ∷ rest) → overrides_with (inside_at (suc n)) ((sign OpenBrace ∷ (a ++ sign CloseBrace ∷ [])) ++ rest) ≡ Ok (cs, rest)
unfolding overrides_with
overrides_read n a rest cs body = contents_read n override a rest cs body

no_overrides_read : (n : ℕ) (rest : List Lexeme) → follow OpenBrace rest ≡ None → overrides_with (inside_at n) rest ≡ Ok ([], rest)
unfolding overrides_with
no_overrides_read n rest is = rw is refl

method_read : (x : Lexeme) (m : Method) (ts : List Lexeme) → method_of x ≡ Some m → method_at (x ∷ ts) ≡ Ok (m, ts)
unfolding method_at
method_read (sign Equal) m ts e = let q : methods.Plain ≡ m = cc in ap (λ (m : Method). Ok (m, ts)) q
method_read (sign BarEqual) m ts e = let q : methods.Choice ≡ m = cc in ap (λ (m : Method). Ok (m, ts)) q
method_read (sign AndEqual) m ts e = let q : methods.Interleave ≡ m = cc in ap (λ (m : Method). Ok (m, ts)) q
method_read _ m ts e = absurd cc

start_read : (n : ℕ) (w : Setting) (s : Spelling) (x : Lexeme) (m : Method) (ts rest : List Lexeme) (t : PatternAt written) → method_of x ≡ Some m
    → pattern_with (inside_at n) ts ≡ Ok (t, rest) → bare_component_with (inside_at n) w (keyword keywords.Start s ∷ x ∷ ts) ≡ Ok (syntax.start m t, rest)
unfolding bare_component_with assigned_at
start_read n w s x m ts rest t is body = rw (method_read x m ts is, body) refl

define_read : (n : ℕ) (w : Setting) (name : List ℕ) (x : Lexeme) (m : Method) (ts rest : List Lexeme) (t : PatternAt written) → method_of x ≡ Some m
    → pattern_with (inside_at n) ts ≡ Ok (t, rest) → bare_component_with (inside_at n) w (identifier name ∷ x ∷ ts) ≡ Ok (syntax.define name m t, rest)
unfolding bare_component_with assigned_at
define_read n w name x m ts rest t is body = rw (method_read x m ts is, body) refl

div_read : (n : ℕ) (w : Setting) (s : Spelling) (ts rest : List Lexeme) (cs : List (ComponentAt written)) → contents_with (inside_at n) w ts ≡ Ok (cs, rest)
    → bare_component_with (inside_at n) w (keyword keywords.Div s ∷ ts) ≡ Ok (syntax.div (syntax.components_of cs), rest)
unfolding bare_component_with
div_read n w s ts rest cs e = rw e refl

include_read : (n : ℕ) (s : Spelling) (a b o rest : List Lexeme) (m : Mention written) (cs : List (ComponentAt written))
    → mention_at s.number (a ++ (b ++ (o ++ rest))) ≡ Ok (m, o ++ rest) → overrides_with (inside_at n) (o ++ rest) ≡ Ok (cs, rest)
    → bare_component_with (inside_at n) content ((keyword keywords.Include s ∷ (a ++ (b ++ o))) ++ rest) ≡ Ok (syntax.include m (syntax.components_of cs), rest)
unfolding bare_component_with
include_read n s a b o rest m cs e f = rw (append_assoc a (b ++ o) rest, append_assoc b o rest, e, f) refl

bare_front_starts : (w : Setting) {ts : List Lexeme} {c : ComponentAt written} → IsBareComponent w ts c → (r : List Lexeme)
    → component_front w (ts ++ r) ≡ Some (ts ++ r)
bare_front_starts content (grammar.start is p e) r = rw e refl
bare_front_starts content (grammar.define is p e) r = rw e refl
bare_front_starts content (grammar.div p e f) r = rw e refl
bare_front_starts content (grammar.include is p q o e f) r = rw e refl
bare_front_starts override (grammar.start is p e) r = rw e refl
bare_front_starts override (grammar.define is p e) r = rw e refl
bare_front_starts override (grammar.div p e f) r = rw e refl
bare_front_starts override (grammar.include is p q o e f) r = absurd cc

front_behind : (w : Setting) {note : List Lexeme} → MayBeAnnotation note → (ts a r : List Lexeme) → ts ≡ note ++ a → component_front w (a ++ r) ≡ Some (a ++ r)
    → component_front w (ts ++ r) ≡ Some (ts ++ r)
front_behind w (name_classes.without_annotation f) ts a r e is = rw (e, f) is
front_behind w (name_classes.with_annotation p f) ts a r e is = rw (e, f) refl

front_starts : (w : Setting) {ts : List Lexeme} {c : ComponentAt written} → IsComponent w ts c → (r : List Lexeme) → component_front w (ts ++ r) ≡ Some (ts ++ r)
front_starts w {ts} (grammar.annotated_component {a = a} may p e) r = front_behind w may ts a r e (bare_front_starts w p r)

takes_some : (a : List Lexeme) (x : Lexeme) (c r : List Lexeme) → a ≡ x ∷ c → length r < length (a ++ r)
takes_some a x c r e = rw e (omega (arith, length-append c r))

component_more : (n : ℕ) (w : Setting) (ts a b rest end : List Lexeme) (c : ComponentAt written) (cs : List (ComponentAt written)) (x : Lexeme) (r : List Lexeme)
    → ts ≡ a ++ b
    → a ≡ x ∷ r → component_front w (a ++ (b ++ rest)) ≡ Some (a ++ (b ++ rest)) → component_with (inside_at n) w (a ++ (b ++ rest)) ≡ Ok (c, b ++ rest)
    → Manys (component_front w) (component_with (inside_at n) w) (b ++ rest) cs end → Manys (component_front w) (component_with (inside_at n) w) (ts ++ rest)
    (c ∷ cs) end
component_more n w ts a b rest end c cs x r e starts front one others =
    subst (λ (ts : List Lexeme). Manys (component_front w) (component_with (inside_at n) w) ts (c ∷ cs) end)
    (sym (ap (λ (ts : List Lexeme). ts ++ rest) e ∙ append_assoc a b rest))
    (manys_more (component_front w) (component_with (inside_at n) w) (a ++ (b ++ rest)) (a ++ (b ++ rest)) (b ++ rest) end c cs front one
    (takes_some a x r (b ++ rest) starts) others)

components_end : (n : ℕ) (w : Setting) (ts rest : List Lexeme) → ts ≡ [] → component_front w rest ≡ None
    → Manys (component_front w) (component_with (inside_at n) w) (ts ++ rest) [] rest
components_end n w ts rest e none = subst (λ (ts : List Lexeme). Manys (component_front w) (component_with (inside_at n) w) (ts ++ rest) [] rest) (sym e)
    (manys_end (component_front w) (component_with (inside_at n) w) rest none)

pub components_read : (n : ℕ) (w : Setting) (ts rest : List Lexeme) (cs : List (ComponentAt written))
    → Manys (component_front w) (component_with (inside_at n) w) ts cs
    rest → components_with (inside_at n) w ts ≡ Ok (cs, rest)
unfolding components_with
components_read n w ts rest cs m = manys_read (component_front w) (component_with (inside_at n) w) ts rest cs m

may_override_follows : {o : List Lexeme} {cs : List (ComponentAt written)} → MayOverride o cs → (rest : List Lexeme) → FollowsPrimary rest
    → (follow Tilde (o ++ rest) ≡ None) × (follow_keyword keywords.Inherit (o ++ rest) ≡ None)
may_override_follows (grammar.without_overrides e) rest f = (rw e f.tilde, rw e f.inherits)
may_override_follows (grammar.with_overrides p e) rest f = (rw e refl, rw e refl)

minus_parts : (note : List Lexeme) (x : Lexeme) (ts a b rest : List Lexeme) → ts ≡ note ++ x ∷ (a ++ sign Minus ∷ b)
    → ts ++ rest ≡ note ++ x ∷ (a ++ sign Minus ∷ (b ++ rest))
minus_parts note x ts a b rest e = annotated_parts ts note (x ∷ (a ++ sign Minus ∷ b)) rest e
    ∙ ap (λ (r : List Lexeme). note ++ x ∷ r) (append_assoc a (sign Minus ∷ b) rest)

sign_parts : (s : Sign) (ts a rest : List Lexeme) → ts ≡ a ++ sign s ∷ [] → ts ++ rest ≡ a ++ sign s ∷ rest
sign_parts s ts a rest e = ap (λ (ts : List Lexeme). ts ++ rest) e ∙ append_assoc a (sign s ∷ []) rest

-- a particle with a sign of repetition, first in a pattern
from_repeated : (n : ℕ) (ts us rest : List Lexeme) (t u : PatternAt written) → pattern_with (inside_at n) ts ≡ pattern_from (inside_at n) t us
    → repeated t us ≡ (u, rest) → pattern_with (inside_at n) ts ≡ rest_with (inside_at n) u (separator_of rest) rest
from_repeated n ts us rest t u first is = first ∙ ap (λ (x : PatternAt written × List Lexeme). rest_with (inside_at n) x.0 (separator_of x.1) x.1) is

primary_alone : (n : ℕ) → StandsAlone (bare_primary_with (inside_at n))
unfolding bare_primary_with atom_at other_at
primary_alone n us x e = absurd cc

pattern_alone : (n : ℕ) → StandsAlone (bare_pattern_with (inside_at n))
unfolding bare_pattern_with bare_primary_with atom_at other_at
pattern_alone n us x e = absurd cc

component_alone : (n : ℕ) (w : Setting) → StandsAlone (bare_component_with (inside_at n) w)
unfolding bare_component_with assigned_at
component_alone n w us x e = absurd cc

-- a pattern whose first primary has an annotation
behind_annotation : (n : ℕ) {note : List Lexeme} → MayBeAnnotation note → (ts a rest : List Lexeme) (t : PatternAt written) → ts ≡ note ++ a
    → bare_primary_with (inside_at n) (a ++ rest) ≡ Ok (t, rest) → bare_pattern_with (inside_at n) (a ++ rest) ≡ pattern_from (inside_at n) t rest
    → pattern_with (inside_at n) (ts ++ rest) ≡ pattern_from (inside_at n) t rest
unfolding pattern_with
behind_annotation n {note} may ts a rest t e one first =
    let bare = bare_pattern_with (inside_at n) in
    ap (pattern_with (inside_at n)) (annotated_parts ts note a rest e)
    ∙ annotated_is bare may (a ++ rest) (no_bracket (bare_primary_with (inside_at n)) (primary_alone n) (a ++ rest) (t, rest) one) ∙ first

braced_begins : {b : List Lexeme} {t : PatternAt written} → IsBraced b t → (c : List Lexeme) × (b ≡ sign OpenBrace ∷ c)
braced_begins (grammar.in_braces {a = a} p e) = (a ++ sign CloseBrace ∷ [], e)

brace_no_bar : (b rest c : List Lexeme) → b ≡ sign OpenBrace ∷ c → follow Bar (b ++ rest) ≡ None
brace_no_bar b rest c e = rw e refl

brace_no_minus : (b rest c : List Lexeme) → b ≡ sign OpenBrace ∷ c → follow Minus (b ++ rest) ≡ None
brace_no_minus b rest c e = rw e refl

abbrev in_braces : List Lexeme → List Lexeme
in_braces a = sign OpenBrace ∷ (a ++ sign CloseBrace ∷ [])

none_in_braces : (ts : List Lexeme) (x : Lexeme) (a : List Lexeme) → ts ≡ x ∷ in_braces a → Plain x → NestsWithin 0 ts → ⊥
none_in_braces ts x a e is nest = none_within (in_braces a) (sign OpenBrace) (a ++ sign CloseBrace ∷ []) refl refl refl
    (behind_within 0 ts x (in_braces a) e is nest)

within_braces : (n : ℕ) (ts : List Lexeme) (x : Lexeme) (a : List Lexeme) → ts ≡ x ∷ in_braces a → Plain x → NestsWithin (suc n) ts → NestsWithin n a
within_braces n ts x a e is nest = inside_within n (in_braces a) (sign OpenBrace) (sign CloseBrace) a braces refl
    (behind_within (suc n) ts x (in_braces a) e is nest)

contents_many : (n : ℕ) (w : Setting) (a rest : List Lexeme) (cs : List (ComponentAt written)) → Manys (component_front w) (component_with (inside_at n) w)
    (a ++ sign CloseBrace ∷ rest) cs (sign CloseBrace ∷ rest) → contents_with (inside_at (suc n)) w (in_braces a ++ rest) ≡ Ok (cs, rest)
contents_many n w a rest cs m = contents_read n w a rest cs (components_read n w (a ++ sign CloseBrace ∷ rest) (sign CloseBrace ∷ rest) cs m)

mutual
  unfolding pattern_with primary_with component_with

  pub pattern_complete : {ts : List Lexeme} {t : PatternAt written} → IsPattern ts t → (n : ℕ) → NestsWithin n ts → (rest : List Lexeme) → FollowsPattern rest
      → pattern_with (inside_at n) (ts ++ rest) ≡ Ok (t, rest)
  pattern_complete {ts} {t} (grammar.one_particle p) n nest rest f = first_complete p n nest rest f.particle ∙ ended_read n rest t f.separator
  pattern_complete {ts} (grammar.particles {u = u} {a = a} {b = b} {s = s} {k = k} {t = t} {us = us} is p q e g) n nest rest f =
      let c = more_begin q in
      let first = first_complete p n (first_within n ts a b e nest) (b ++ rest) (follows_more s k b rest c.0 is c.1) in
      let others = more_complete q k is n (second_within n ts a b e (particle_even p) nest) rest f in
      let whole = first ∙ joined_read n s k b rest t us is (separates s k b rest c.0 is c.1) (manys_read (follow s) (particle_with (inside_at n)) (b ++ rest)
      rest us others) in
      subst (λ (u : PatternAt written). pattern_with (inside_at n) (ts ++ rest) ≡ Ok (u, rest)) (sym g)
      (subst (λ (ts : List Lexeme). pattern_with (inside_at n) ts ≡ Ok (syntax.members k (t ∷ us), rest))
      (sym (ap (λ (ts : List Lexeme). ts ++ rest) e ∙ append_assoc a b rest)) whole)
  pattern_complete {ts} (grammar.data_except {n = note} {a = a} {b = b} {d = d} {ps = ps} {t = t} x may is p q e) n nest rest f =
      let inner = behind_within n (x ∷ (a ++ sign Minus ∷ b)) x (a ++ sign Minus ∷ b) refl (plain_type x d is)
      (second_within n ts note (x ∷ (a ++ sign Minus ∷ b)) e (annotation_even may) nest) in
      let last = behind_within n (sign Minus ∷ b) (sign Minus) b refl (plain _ refl refl) (second_within n (a ++ sign Minus ∷ b) a (sign Minus ∷ b) refl
      (may_parameters_even p) inner) in
      let behind = sign Minus ∷ (b ++ rest) in
      subst (λ (ts : List Lexeme). pattern_with (inside_at n) ts ≡ Ok (syntax.data_except d ps t, rest)) (sym (minus_parts note x ts a b rest e))
      (annotated_behind (bare_pattern_with (inside_at n)) (pattern_alone n) may (x ∷ (a ++ behind)) (syntax.data_except d ps t, rest)
      (except_read n x d (a ++ behind) (b ++ rest) rest ps t (front_typed x d (a ++ behind) is (may_no_segment p behind refl))
      (parameters_complete p behind refl) (primary_complete q n last rest f.particle.primary)))

  -- the first particle of a pattern
  first_complete : {ts : List Lexeme} {t : PatternAt written} → IsParticle ts t → (n : ℕ) → NestsWithin n ts → (rest : List Lexeme) → FollowsParticle rest
      → pattern_with (inside_at n) (ts ++ rest) ≡ rest_with (inside_at n) t (separator_of rest) rest
  first_complete {ts} {t} (grammar.once p) n nest rest f = from_repeated n (ts ++ rest) rest rest t t (primary_first p n nest rest f.primary f.minus) (f.once t)
  first_complete {ts} {t} (grammar.optional {a = a} {t = u} p e) n nest rest f =
      subst (λ (ts : List Lexeme). pattern_with (inside_at n) ts ≡ rest_with (inside_at n) t (separator_of rest) rest) (sym (sign_parts Question ts a rest e))
      (from_repeated n (a ++ sign Question ∷ rest) (sign Question ∷ rest) rest u t
      (primary_first p n (first_within n ts a (sign Question ∷ []) e nest) (sign Question ∷ rest) (follows_question rest) refl) refl)
  first_complete {ts} {t} (grammar.zero_or_more {a = a} {t = u} p e) n nest rest f =
      subst (λ (ts : List Lexeme). pattern_with (inside_at n) ts ≡ rest_with (inside_at n) t (separator_of rest) rest) (sym (sign_parts Star ts a rest e))
      (from_repeated n (a ++ sign Star ∷ rest) (sign Star ∷ rest) rest u t
      (primary_first p n (first_within n ts a (sign Star ∷ []) e nest) (sign Star ∷ rest) (follows_star rest) refl) refl)
  first_complete {ts} {t} (grammar.one_or_more {a = a} {t = u} p e) n nest rest f =
      subst (λ (ts : List Lexeme). pattern_with (inside_at n) ts ≡ rest_with (inside_at n) t (separator_of rest) rest) (sym (sign_parts Plus ts a rest e))
      (from_repeated n (a ++ sign Plus ∷ rest) (sign Plus ∷ rest) rest u t
      (primary_first p n (first_within n ts a (sign Plus ∷ []) e nest) (sign Plus ∷ rest) (follows_plus rest) refl) refl)

  -- the first primary of a pattern
  primary_first : {ts : List Lexeme} {t : PatternAt written} → IsPrimary ts t → (n : ℕ) → NestsWithin n ts → (rest : List Lexeme) → FollowsPrimary rest
      → follow Minus rest ≡ None → pattern_with (inside_at n) (ts ++ rest) ≡ pattern_from (inside_at n) t rest
  primary_first {ts} {t} (grammar.annotated_primary {n = note} {a = a} may p e) n nest rest f minus =
      let one = bare_primary_complete p n (second_within n ts note a e (annotation_even may) nest) rest f in
      behind_annotation n may ts a rest t e one (from_first n (a ++ rest) rest t (first_is p rest f) minus one)

  more_complete : {s : Sign} {ts : List Lexeme} {us : List (PatternAt written)} → AreMore s ts us → (k : Connector) → connector_of s ≡ Some k → (n : ℕ)
      → NestsWithin n ts → (rest : List Lexeme) → FollowsPattern rest → Manys (follow s) (particle_with (inside_at n)) (ts ++ rest) us rest
  more_complete {s} {ts} (grammar.last_particle {a = a} {t = t} p e) k is n nest rest f =
      last_read n s k ts a rest t is e (particle_complete p n (behind_within n ts (sign s) a e (plain_connector s k is) nest) rest f.particle)
      (no_sign s k rest is f.separator)
  more_complete {s} {ts} (grammar.more_particles {us = us} {a = a} {b = b} {t = t} p q e) k is n nest rest f =
      let inner = behind_within n ts (sign s) (a ++ b) e (plain_connector s k is) nest in
      let c = more_begin q in
      more_read n s k ts a b rest rest t us is e (particle_complete p n (first_within n (a ++ b) a b refl inner) (b ++ rest)
      (follows_more s k b rest c.0 is c.1)) (more_complete q k is n (second_within n (a ++ b) a b refl (particle_even p) inner) rest f)

  particle_complete : {ts : List Lexeme} {t : PatternAt written} → IsParticle ts t → (n : ℕ) → NestsWithin n ts → (rest : List Lexeme) → FollowsParticle rest
      → particle_with (inside_at n) (ts ++ rest) ≡ Ok (t, rest)
  particle_complete {ts} {t} (grammar.once p) n nest rest f = particle_read n (ts ++ rest) rest t (t, rest) (primary_complete p n nest rest f.primary)
      (f.once t)
  particle_complete {ts} (grammar.optional {a = a} {t = t} p e) n nest rest f =
      subst (λ (ts : List Lexeme). particle_with (inside_at n) ts ≡ Ok (syntax.optional t, rest)) (sym (sign_parts Question ts a rest e))
      (particle_read n (a ++ sign Question ∷ rest) (sign Question ∷ rest) t (syntax.optional t, rest)
      (primary_complete p n (first_within n ts a (sign Question ∷ []) e nest) (sign Question ∷ rest) (follows_question rest)) refl)
  particle_complete {ts} (grammar.zero_or_more {a = a} {t = t} p e) n nest rest f =
      subst (λ (ts : List Lexeme). particle_with (inside_at n) ts ≡ Ok (syntax.zero_or_more t, rest)) (sym (sign_parts Star ts a rest e))
      (particle_read n (a ++ sign Star ∷ rest) (sign Star ∷ rest) t (syntax.zero_or_more t, rest)
      (primary_complete p n (first_within n ts a (sign Star ∷ []) e nest) (sign Star ∷ rest) (follows_star rest)) refl)
  particle_complete {ts} (grammar.one_or_more {a = a} {t = t} p e) n nest rest f =
      subst (λ (ts : List Lexeme). particle_with (inside_at n) ts ≡ Ok (syntax.one_or_more t, rest)) (sym (sign_parts Plus ts a rest e))
      (particle_read n (a ++ sign Plus ∷ rest) (sign Plus ∷ rest) t (syntax.one_or_more t, rest)
      (primary_complete p n (first_within n ts a (sign Plus ∷ []) e nest) (sign Plus ∷ rest) (follows_plus rest)) refl)

  primary_complete : {ts : List Lexeme} {t : PatternAt written} → IsPrimary ts t → (n : ℕ) → NestsWithin n ts → (rest : List Lexeme) → FollowsPrimary rest
      → primary_with (inside_at n) (ts ++ rest) ≡ Ok (t, rest)
  primary_complete {ts} {t} (grammar.annotated_primary {n = note} {a = a} may p e) n nest rest f =
      annotated_read (bare_primary_with (inside_at n)) (primary_alone n) may ts a rest t e
      (bare_primary_complete p n (second_within n ts note a e (annotation_even may) nest) rest f)

  bare_primary_complete : {ts : List Lexeme} {t : PatternAt written} → IsBarePrimary ts t → (n : ℕ) → NestsWithin n ts → (rest : List Lexeme)
      → FollowsPrimary rest → bare_primary_with (inside_at n) (ts ++ rest) ≡ Ok (t, rest)
  bare_primary_complete {ts} (grammar.element {a = a} {b = b} {c = c} {t = t} {s = s} p q e) n nest rest f =
      let inner = behind_within n ts (keyword keywords.Element s) (a ++ b) e (plain _ refl refl) nest in
      let g = braced_begins q in
      rw e (element_read n s a b rest c t (class_complete p n (first_within n (a ++ b) a b refl inner) (b ++ rest) (brace_no_bar b rest g.0 g.1)
      (brace_no_minus b rest g.0 g.1)) (braced_complete q n (second_within n (a ++ b) a b refl (class_even p) inner) rest))
  bare_primary_complete {ts} (grammar.attribute {a = a} {b = b} {c = c} {t = t} {s = s} p q e) n nest rest f =
      let inner = behind_within n ts (keyword keywords.Attribute s) (a ++ b) e (plain _ refl refl) nest in
      let g = braced_begins q in
      rw e (attribute_read n s a b rest c t (class_complete p n (first_within n (a ++ b) a b refl inner) (b ++ rest) (brace_no_bar b rest g.0 g.1)
      (brace_no_minus b rest g.0 g.1)) (braced_complete q n (second_within n (a ++ b) a b refl (class_even p) inner) rest))
  bare_primary_complete {ts} (grammar.list {a = a} {t = t} {s = s} p e) n nest rest f =
      rw e (list_read n s a rest t (braced_complete p n (behind_within n ts (keyword keywords.List s) a e (plain _ refl refl) nest) rest))
  bare_primary_complete {ts} (grammar.mixed {a = a} {t = t} {s = s} p e) n nest rest f =
      rw e (mixed_read n s a rest t (braced_complete p n (behind_within n ts (keyword keywords.Mixed s) a e (plain _ refl refl) nest) rest))
  bare_primary_complete (grammar.ref {n = w} e) n nest rest f = rw e (ref_read n w rest)
  bare_primary_complete (grammar.parent_ref {n = w} {s = s} e) n nest rest f = rw e (parent_read n s w rest)
  bare_primary_complete (grammar.empty {s = s} e) n nest rest f = rw e (empty_read n s rest)
  bare_primary_complete (grammar.text {s = s} e) n nest rest f = rw e (text_read n s rest)
  bare_primary_complete (grammar.not_allowed {s = s} e) n nest rest f = rw e (not_allowed_read n s rest)
  bare_primary_complete {ts} (grammar.untyped_value {v = v} p) n nest rest f =
      let b = literal_begins p in
      untyped_read n b.0 (ts ++ rest) (b.1 ++ rest) rest v (ap (λ (ts : List Lexeme). ts ++ rest) b.2) (literal_complete p rest f.tilde)
  bare_primary_complete {ts} (grammar.value {a = a} {x = x} {d = d} {v = v} is p e) n nest rest f =
      let b = literal_begins p in
      rw e (typed_read n x d (a ++ rest) rest (syntax.value d v) is
      (value_read d b.0 (a ++ rest) (b.1 ++ rest) rest v (ap (λ (ts : List Lexeme). ts ++ rest) b.2) (literal_complete p rest f.tilde)))
  bare_primary_complete {ts} (grammar.data_of {a = a} {x = x} {d = d} {ps = ps} is p e) n nest rest f =
      rw e (typed_read n x d (a ++ rest) rest (syntax.data_of d ps) is (type_read d (a ++ rest) rest ps (may_no_segment p rest f.no_segment)
      (parameters_complete p rest f.brace)))
  bare_primary_complete {ts} (grammar.external {a = a} {b = b} {v = v} {p = x} {s = s} p q e g) n nest rest f =
      rw (g, e) (external_read n s a b rest (record { href = v; inherit = x; token = s.number }) (mention_complete s.number p q rest f.tilde f.inherits))
  bare_primary_complete {ts} (grammar.grammar {a = a} {s = s} p e g) zero nest rest f =
      absurd (none_in_braces ts (keyword keywords.Grammar s) a e (plain _ refl refl) nest)
  bare_primary_complete {ts} (grammar.grammar {a = a} {cs = cs} {s = s} p e g) (suc n) nest rest f =
      let inner = within_braces n ts (keyword keywords.Grammar s) a e (plain _ refl refl) nest in
      rw (g, e) (grammar_read (suc n) s a rest cs (contents_many n content a rest cs (components_complete p n inner (sign CloseBrace ∷ rest) (closed refl))))
  bare_primary_complete {ts} (grammar.in_parens {a = a} p e) zero nest rest f =
      absurd (none_within ts (sign OpenParenthesis) (a ++ sign CloseParenthesis ∷ []) refl refl e nest)
  bare_primary_complete {ts} {t} (grammar.in_parens {a = a} p e) (suc n) nest rest f =
      rw e (parens_read n a rest t (pattern_complete p n (inside_within n ts (sign OpenParenthesis) (sign CloseParenthesis) a parens e nest)
      (sign CloseParenthesis ∷ rest) (follows_closing CloseParenthesis rest (inr refl))))

  braced_complete : {ts : List Lexeme} {t : PatternAt written} → IsBraced ts t → (n : ℕ) → NestsWithin n ts → (rest : List Lexeme)
      → braced_with (inside_at n) (ts ++ rest) ≡ Ok (t, rest)
  braced_complete {ts} (grammar.in_braces {a = a} p e) zero nest rest = absurd (none_within ts (sign OpenBrace) (a ++ sign CloseBrace ∷ []) refl refl e nest)
  braced_complete {ts} {t} (grammar.in_braces {a = a} p e) (suc n) nest rest =
      rw e (braced_read n a rest t (pattern_complete p n (inside_within n ts (sign OpenBrace) (sign CloseBrace) a braces e nest) (sign CloseBrace ∷ rest)
      (follows_closing CloseBrace rest (inl refl))))

  pub components_complete : {w : Setting} {ts : List Lexeme} {cs : List (ComponentAt written)} → AreComponents w ts cs → (n : ℕ) → NestsWithin n ts
      → (rest : List Lexeme) → FollowsComponents rest → Manys (component_front w) (component_with (inside_at n) w) (ts ++ rest) cs rest
  components_complete {w} {ts} (grammar.no_components e) n nest rest f = components_end n w ts rest e (no_front w f)
  components_complete {w} {ts} (grammar.and_component {cs = cs} {a = a} {b = b} {c = c} p q e) n nest rest f =
      let s = component_starts p in
      component_more n w ts a b rest rest c cs s.0 s.1 e s.2 (front_starts w p (b ++ rest)) (component_complete p n (first_within n ts a b e nest) (b ++ rest)
      (more_follow q rest f)) (components_complete q n (second_within n ts a b e (component_even p) nest) rest f)

  component_complete : {w : Setting} {ts : List Lexeme} {c : ComponentAt written} → IsComponent w ts c → (n : ℕ) → NestsWithin n ts → (rest : List Lexeme)
      → FollowsPattern rest → component_with (inside_at n) w (ts ++ rest) ≡ Ok (c, rest)
  component_complete {w} {ts} {c} (grammar.annotated_component {n = note} {a = a} may p e) n nest rest f =
      annotated_read (bare_component_with (inside_at n) w) (component_alone n w) may ts a rest c e
      (bare_component_complete p n (second_within n ts note a e (annotation_even may) nest) rest f)

  pub bare_component_complete : {w : Setting} {ts : List Lexeme} {c : ComponentAt written} → IsBareComponent w ts c → (n : ℕ) → NestsWithin n ts
      → (rest : List Lexeme) → FollowsPattern rest → bare_component_with (inside_at n) w (ts ++ rest) ≡ Ok (c, rest)
  bare_component_complete {w} {ts} (grammar.start {a = a} {x = x} {m = m} {t = t} {s = s} is p e) n nest rest f =
      let inner = behind_within n (x ∷ a) x a refl (plain_method x m is) (behind_within n ts (keyword keywords.Start s) (x ∷ a) e (plain _ refl refl) nest) in
      rw e (start_read n w s x m (a ++ rest) rest t is (pattern_complete p n inner rest f))
  bare_component_complete {w} {ts} (grammar.define {a = a} {x = x} {n = name} {m = m} {t = t} is p e) n nest rest f =
      let inner = behind_within n (x ∷ a) x a refl (plain_method x m is) (behind_within n ts (identifier name) (x ∷ a) e (plain _ refl refl) nest) in
      rw e (define_read n w name x m (a ++ rest) rest t is (pattern_complete p n inner rest f))
  bare_component_complete {w} {ts} (grammar.div {a = a} {s = s} p e g) zero nest rest f =
      absurd (none_in_braces ts (keyword keywords.Div s) a e (plain _ refl refl) nest)
  bare_component_complete {w} {ts} (grammar.div {a = a} {cs = cs} {s = s} p e g) (suc n) nest rest f =
      let inner = within_braces n ts (keyword keywords.Div s) a e (plain _ refl refl) nest in
      rw (g, e) (div_read (suc n) w s (in_braces a ++ rest) rest cs
      (contents_many n w a rest cs (components_complete p n inner (sign CloseBrace ∷ rest) (closed refl))))
  bare_component_complete {w} {ts} (grammar.include {a = a} {b = b} {o = o} {v = v} {p = x} {cs = cs} {s = s} w-is p q r e g) n nest rest f =
      let inner = behind_within n ts (keyword keywords.Include s) (a ++ (b ++ o)) e (plain _ refl refl) nest in
      let last = second_within n (b ++ o) b o refl (may_inherit_even q) (second_within n (a ++ (b ++ o)) a (b ++ o) refl (literal_even p) inner) in
      let h = may_override_follows r rest f.particle.primary in
      rw (w-is, g, e) (include_read n s a b o rest (record { href = v; inherit = x; token = s.number }) cs (mention_complete s.number p q (o ++ rest) h.0 h.1)
      (overrides_complete r n last rest f.particle.primary.brace))

  overrides_complete : {ts : List Lexeme} {cs : List (ComponentAt written)} → MayOverride ts cs → (n : ℕ) → NestsWithin n ts → (rest : List Lexeme)
      → follow OpenBrace rest ≡ None → overrides_with (inside_at n) (ts ++ rest) ≡ Ok (cs, rest)
  overrides_complete (grammar.without_overrides e) n nest rest is = rw e (no_overrides_read n rest is)
  overrides_complete {ts} (grammar.with_overrides {a = a} p e) zero nest rest is =
      absurd (none_within ts (sign OpenBrace) (a ++ sign CloseBrace ∷ []) refl refl e nest)
  overrides_complete {ts} {cs} (grammar.with_overrides {a = a} p e) (suc n) nest rest is =
      rw e (overrides_read n a rest cs (components_read n override (a ++ sign CloseBrace ∷ rest) (sign CloseBrace ∷ rest) cs
      (components_complete p n (inside_within n ts (sign OpenBrace) (sign CloseBrace) a braces e nest) (sign CloseBrace ∷ rest) (closed refl))))
