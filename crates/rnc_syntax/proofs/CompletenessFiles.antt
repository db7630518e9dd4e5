-- Each sentence that nests within a limit is read. So it has one tree.
use Rattle.std.proofs.Common.{◌≡◌, ℕ, ◌<◌, Bool, true, false, List, [], ◌∷◌, ◌++◌, length, Option, Some, None, Result, Ok, refl, sym, ap, subst, ◌∙◌}
use Rattle.std.proofs.Common.{append_assoc, arith}
use Rattle.std.proofs.lemmas.List.{length-append, append-nil}
use Rattle.rnc_model.specs.declared.token.Keyword.TheVariants as keywords
use Rattle.rng_model.specs.declared.method.Method.{Method}
use Rattle.rnc_model.specs.declared.token.Sign.TheVariants.{Equal, BarEqual, AndEqual, Question, Star, Plus, Minus, OpenBracket, CloseBracket}
use Rattle.rnc_model.specs.declared.token.Sign.TheVariants.{Tilde}
use Rattle.rnc_syntax.specs.declared.fault.Stop.{Stop}
use Rattle.rnc_model.specs.tokens.Cut.{Lexeme, Spelling, keyword, identifier, cname, segment, sign}
use Rattle.rnc_model.specs.grammar.Syntax as syntax
use Rattle.rnc_model.specs.grammar.Syntax.{written, DatatypeName, PatternAt, ComponentAt, Uri, Declaration, Body, File}
use Rattle.rnc_model.specs.grammar.Grammar as grammar
use Rattle.rnc_model.specs.grammar.NameClasses as name_classes
use Rattle.rnc_model.specs.grammar.Grammar.{content, IsPattern, IsParticle, IsPrimary}
use Rattle.rnc_model.specs.grammar.NameClasses.{word_of, type_of, method_of, MayBeAnnotation}
use Rattle.rnc_model.specs.grammar.Grammar.{IsBarePrimary, AreComponents, IsBareComponent}
use Rattle.rnc_model.specs.grammar.Grammar.{IsComponent, IsUri, IsDeclaration, AreDeclarations, IsBody, IsFile}
use Rattle.rnc_syntax.specs.plain.Combinators.{Outcome, ◌>>=◌, follow, after, after_keyword, many}
use Rattle.rnc_syntax.specs.plain.Productions.{annotation_end, annotation_at, literal_at, parameter_at, bare_primary_with, atom_at, other_at, rest_with}
use Rattle.rnc_syntax.specs.plain.Productions.{bare_pattern_with, pattern_with, bare_component_with, components_with, inside_at, uri_at, prefix_at, default_at}
use Rattle.rnc_syntax.specs.plain.Productions.{declaration_at, bare_body_with, annotated_body_with}
use Rattle.rnc_syntax.specs.plain.Productions.{declaration_front, is_grammar_body, body_with, declarations_at, file_with}
use Rattle.rnc_model.specs.grammar.Sentence.{NestsWithin}
use Rattle.rnc_syntax.proofs.Balance.{first_within, second_within, annotation_even, component_even, declarations_even, length_within}
use Rattle.rnc_syntax.proofs.Soundness.{bind_ok, ok_is}
use Rattle.rnc_syntax.proofs.CompletenessAnnotations.{end_read, annotated_is}
use Rattle.rnc_syntax.proofs.CompletenessClasses.{two_parts}
use Rattle.rnc_syntax.proofs.Completeness.{Manys, manys_end, manys_more, manys_read, word_read, literal_complete, literal_begins, parameter_read}
use Rattle.rnc_syntax.proofs.CompletenessPatterns.{follows_end, ended, more_follow, pattern_complete, components_complete, bare_component_complete}
use Rattle.rnc_syntax.proofs.CompletenessPatterns.{components_read}

-- ---- declarations

literal_uri : (w : List ℕ) (ts us rest : List Lexeme) (v : List ℕ) → ts ≡ segment w ∷ us → literal_at ts ≡ Ok (v, rest)
    → uri_at ts ≡ Ok (syntax.literal v, rest)
unfolding uri_at
literal_uri w ts us rest v e p =
    let q : literal_at (segment w ∷ us) ≡ Ok (v, rest) = subst (λ (ts : List Lexeme). literal_at ts ≡ Ok (v, rest)) e p in
    subst (λ (ts : List Lexeme). uri_at ts ≡ Ok (syntax.literal v, rest)) (sym e) (rw q refl)

inherit_uri : (s : Spelling) (rest : List Lexeme) → uri_at (keyword keywords.Inherit s ∷ rest) ≡ Ok (syntax.inherit, rest)
unfolding uri_at
inherit_uri s rest = refl

uri_complete : {ts : List Lexeme} {u : Uri} → IsUri ts u → (rest : List Lexeme) → follow Tilde rest ≡ None → uri_at (ts ++ rest) ≡ Ok (u, rest)
uri_complete (grammar.inherit {s = s} e) rest is = rw e (inherit_uri s rest)
uri_complete {ts} (grammar.literal {v = v} p) rest is =
    let b = literal_begins p in
    literal_uri b.0 (ts ++ rest) (b.1 ++ rest) rest v (ap (λ (ts : List Lexeme). ts ++ rest) b.2) (literal_complete p rest is)

prefix_read : (x : Lexeme) (w : List ℕ) (ts rest : List Lexeme) (u : Uri) → word_of x ≡ Some w → uri_at ts ≡ Ok (u, rest)
    → prefix_at (x ∷ sign Equal ∷ ts) ≡ Ok ((w, u), rest)
unfolding prefix_at after
prefix_read x w ts rest u is e = rw (word_read x w (sign Equal ∷ ts) is, e) refl

namespace_read : (s : Spelling) (ts rest : List Lexeme) (w : List ℕ) (u : Uri) → prefix_at ts ≡ Ok ((w, u), rest)
    → declaration_at (keyword keywords.Namespace s ∷ ts) ≡ Ok (syntax.namespace w u, rest)
unfolding declaration_at
namespace_read s ts rest w u e = rw e refl

datatypes_read : (s : Spelling) (ts rest : List Lexeme) (w v : List ℕ) → parameter_at ts ≡ Ok ((w, v), rest)
    → declaration_at (keyword keywords.Datatypes s ∷ ts) ≡ Ok (syntax.datatypes w v, rest)
unfolding declaration_at
datatypes_read s ts rest w v e = rw e refl

default_read : (r s : Spelling) (ts rest : List Lexeme) (d : Declaration) → default_at ts ≡ Ok (d, rest)
    → declaration_at (keyword keywords.Default r ∷ keyword keywords.Namespace s ∷ ts) ≡ Ok (d, rest)
unfolding declaration_at after_keyword
default_read r s ts rest d e = rw e refl

alone_read : (ts rest : List Lexeme) (u : Uri) → uri_at ts ≡ Ok (u, rest) → default_at (sign Equal ∷ ts) ≡ Ok (syntax.default_namespace None u, rest)
unfolding default_at
alone_read ts rest u e = rw e refl

with_prefix_read : (x : Lexeme) (w : List ℕ) (ts rest : List Lexeme) (u : Uri) → word_of x ≡ Some w → prefix_at (x ∷ ts) ≡ Ok ((w, u), rest)
    → default_at (x ∷ ts) ≡ Ok (syntax.default_namespace (Some w) u, rest)
unfolding default_at
with_prefix_read (identifier v) w ts rest u is e = rw e refl
with_prefix_read (keyword k s) w ts rest u is e = rw e refl
with_prefix_read _ w ts rest u is e = absurd cc

declaration_complete : {ts : List Lexeme} {d : Declaration} → IsDeclaration ts d → (rest : List Lexeme) → follow Tilde rest ≡ None
    → declaration_at (ts ++ rest) ≡ Ok (d, rest)
declaration_complete (grammar.namespace {a = a} {x = x} {p = w} {u = u} {s = s} is p e) rest f =
    rw e (namespace_read s (x ∷ sign Equal ∷ (a ++ rest)) rest w u (prefix_read x w (a ++ rest) rest u is (uri_complete p rest f)))
declaration_complete (grammar.default_alone {a = a} {u = u} {r = r} {s = s} p e) rest f =
    rw e (default_read r s (sign Equal ∷ (a ++ rest)) rest (syntax.default_namespace None u) (alone_read (a ++ rest) rest u (uri_complete p rest f)))
declaration_complete (grammar.default_with_prefix {a = a} {x = x} {p = w} {u = u} {r = r} {s = s} is p e) rest f =
    rw e (default_read r s (x ∷ sign Equal ∷ (a ++ rest)) rest (syntax.default_namespace (Some w) u)
    (with_prefix_read x w (sign Equal ∷ (a ++ rest)) rest u is (prefix_read x w (a ++ rest) rest u is (uri_complete p rest f))))
declaration_complete (grammar.datatypes {a = a} {x = x} {p = w} {v = v} {s = s} is p e) rest f =
    rw e (datatypes_read s (x ∷ sign Equal ∷ (a ++ rest)) rest w v (parameter_read x w v a rest is (literal_complete p rest f)))

record Begins (ts : List Lexeme) : Type 0 where
  pub first : Lexeme
  pub behind : List Lexeme
  pub parts : ts ≡ first ∷ behind
  pub no_tilde : (r : List Lexeme) → follow Tilde (first ∷ r) ≡ None
  pub fronts : (r : List Lexeme) → declaration_front (first ∷ r) ≡ Some (first ∷ r)

declaration_begins : {ts : List Lexeme} {d : Declaration} → IsDeclaration ts d → Begins ts
declaration_begins (grammar.namespace {a = a} {x = x} {s = s} is p e) = record {
  first = keyword keywords.Namespace s;
  behind = x ∷ sign Equal ∷ a;
  parts = e;
  no_tilde = λ r. refl;
  fronts = λ r. refl;
}
declaration_begins (grammar.default_alone {a = a} {r = r} {s = s} p e) =
    record { first = keyword keywords.Default r; behind = keyword keywords.Namespace s ∷ sign Equal ∷ a; parts = e; no_tilde = λ r. refl; fronts = λ r. refl }
declaration_begins (grammar.default_with_prefix {a = a} {x = x} {r = r} {s = s} is p e) =
    record {
      first = keyword keywords.Default r;
      behind = keyword keywords.Namespace s ∷ x ∷ sign Equal ∷ a;
      parts = e;
      no_tilde = λ r. refl;
      fronts = λ r. refl;
    }
declaration_begins (grammar.datatypes {a = a} {x = x} {s = s} is p e) = record {
  first = keyword keywords.Datatypes s;
  behind = x ∷ sign Equal ∷ a;
  parts = e;
  no_tilde = λ r. refl;
  fronts = λ r. refl;
}

begins_no_tilde : (ts us rest : List Lexeme) → Begins ts → follow Tilde ((ts ++ us) ++ rest) ≡ None
begins_no_tilde ts us rest b = let e = b.parts in rw e (b.no_tilde ((b.behind ++ us) ++ rest))

begins_fronts : (ts rest : List Lexeme) → Begins ts → declaration_front (ts ++ rest) ≡ Some (ts ++ rest)
begins_fronts ts rest b = let e = b.parts in rw e (b.fronts (b.behind ++ rest))

begins_takes : (ts rest : List Lexeme) → Begins ts → length rest < length (ts ++ rest)
begins_takes ts rest b = let e = b.parts in rw e (omega (arith, length-append b.behind rest))

pub declarations_no_tilde : {ts : List Lexeme} {ds : List Declaration} → AreDeclarations ts ds → (rest : List Lexeme) → follow Tilde rest ≡ None
    → follow Tilde (ts ++ rest) ≡ None
declarations_no_tilde (grammar.no_declarations e) rest f = rw e f
declarations_no_tilde (grammar.and_declaration {a = a} {b = b} p q e) rest f = rw e (begins_no_tilde a b rest (declaration_begins p))

declarations_end : (ts rest : List Lexeme) → ts ≡ [] → declaration_front rest ≡ None → Manys declaration_front declaration_at (ts ++ rest) [] rest
declarations_end ts rest e none = subst (λ (ts : List Lexeme). Manys declaration_front declaration_at (ts ++ rest) [] rest) (sym e)
    (manys_end declaration_front declaration_at rest none)

declarations_more : (ts a b rest end : List Lexeme) (d : Declaration) (ds : List Declaration) → ts ≡ a ++ b → Begins a → declaration_at (a ++ (b ++ rest)) ≡ Ok
    (d, b ++ rest) → Manys declaration_front declaration_at (b ++ rest) ds end → Manys declaration_front declaration_at (ts ++ rest) (d ∷ ds) end
declarations_more ts a b rest end d ds e begins one others =
    subst (λ (ts : List Lexeme). Manys declaration_front declaration_at ts (d ∷ ds) end) (sym (ap (λ (ts : List Lexeme). ts ++ rest) e ∙ append_assoc a b rest))
    (manys_more declaration_front declaration_at (a ++ (b ++ rest)) (a ++ (b ++ rest)) (b ++ rest) end d ds (begins_fronts a (b ++ rest) begins) one
    (begins_takes a (b ++ rest) begins) others)

declarations_complete : {ts : List Lexeme} {ds : List Declaration} → AreDeclarations ts ds → (rest : List Lexeme) → follow Tilde rest ≡ None
    → declaration_front rest ≡ None → Manys declaration_front declaration_at (ts ++ rest) ds rest
declarations_complete {ts} (grammar.no_declarations e) rest f none = declarations_end ts rest e none
declarations_complete {ts} (grammar.and_declaration {ds = ds} {a = a} {b = b} {d = d} p q e) rest f none =
    declarations_more ts a b rest rest d ds e (declaration_begins p) (declaration_complete p (b ++ rest) (declarations_no_tilde q rest f))
    (declarations_complete q rest f none)

-- ---- bodies

-- how a body begins: not with a declaration
pub record NoDeclaration (ts : List Lexeme) : Type 0 where
  pub no_tilde : follow Tilde ts ≡ None
  pub none : declaration_front ts ≡ None

typed_body : (x : Lexeme) (d : DatatypeName written) (r : List Lexeme) → type_of x ≡ Some d → NoDeclaration (x ∷ r)
typed_body (cname p l) d r e = record { no_tilde = refl; none = refl }
typed_body (keyword keywords.String s) d r e = record { no_tilde = refl; none = refl }
typed_body (keyword keywords.Token s) d r e = record { no_tilde = refl; none = refl }
typed_body _ d r e = absurd cc

segment_body : (w : List ℕ) (us ts r : List Lexeme) → ts ≡ segment w ∷ us → NoDeclaration (ts ++ r)
segment_body w us ts r e = rw e (record { no_tilde = refl; none = refl })

bare_primary_body : {ts : List Lexeme} {t : PatternAt written} → IsBarePrimary ts t → (r : List Lexeme) → NoDeclaration (ts ++ r)
bare_primary_body (grammar.element p q e) r = rw e (record { no_tilde = refl; none = refl })
bare_primary_body (grammar.attribute p q e) r = rw e (record { no_tilde = refl; none = refl })
bare_primary_body (grammar.list p e) r = rw e (record { no_tilde = refl; none = refl })
bare_primary_body (grammar.mixed p e) r = rw e (record { no_tilde = refl; none = refl })
bare_primary_body (grammar.ref e) r = rw e (record { no_tilde = refl; none = refl })
bare_primary_body (grammar.parent_ref e) r = rw e (record { no_tilde = refl; none = refl })
bare_primary_body (grammar.empty e) r = rw e (record { no_tilde = refl; none = refl })
bare_primary_body (grammar.text e) r = rw e (record { no_tilde = refl; none = refl })
bare_primary_body (grammar.not_allowed e) r = rw e (record { no_tilde = refl; none = refl })
bare_primary_body {ts} (grammar.untyped_value p) r = let b = literal_begins p in segment_body b.0 b.1 ts r b.2
bare_primary_body (grammar.value {a = a} {x = x} {d = d} is p e) r = rw e (typed_body x d (a ++ r) is)
bare_primary_body (grammar.data_of {a = a} {x = x} {d = d} is p e) r = rw e (typed_body x d (a ++ r) is)
bare_primary_body (grammar.external p q e g) r = rw e (record { no_tilde = refl; none = refl })
bare_primary_body (grammar.grammar p e g) r = rw e (record { no_tilde = refl; none = refl })
bare_primary_body (grammar.in_parens p e) r = rw e (record { no_tilde = refl; none = refl })

annotation_body : {note : List Lexeme} → MayBeAnnotation note → (ts a r : List Lexeme) → ts ≡ note ++ a → NoDeclaration (a ++ r) → NoDeclaration (ts ++ r)
annotation_body (name_classes.without_annotation f) ts a r e b = rw (e, f) b
annotation_body (name_classes.with_annotation p f) ts a r e b = rw (e, f) (record { no_tilde = refl; none = refl })

primary_body : {ts : List Lexeme} {t : PatternAt written} → IsPrimary ts t → (r : List Lexeme) → NoDeclaration (ts ++ r)
primary_body {ts} (grammar.annotated_primary {a = a} may p e) r = annotation_body may ts a r e (bare_primary_body p r)

particle_body : {ts : List Lexeme} {t : PatternAt written} → IsParticle ts t → (r : List Lexeme) → NoDeclaration (ts ++ r)
particle_body (grammar.once p) r = primary_body p r
particle_body (grammar.optional {a = a} p e) r = rw (e, append_assoc a (sign Question ∷ []) r) (primary_body p (sign Question ∷ r))
particle_body (grammar.zero_or_more {a = a} p e) r = rw (e, append_assoc a (sign Star ∷ []) r) (primary_body p (sign Star ∷ r))
particle_body (grammar.one_or_more {a = a} p e) r = rw (e, append_assoc a (sign Plus ∷ []) r) (primary_body p (sign Plus ∷ r))

pattern_body : {ts : List Lexeme} {t : PatternAt written} → IsPattern ts t → NoDeclaration (ts ++ [])
pattern_body (grammar.one_particle p) = particle_body p []
pattern_body (grammar.particles {a = a} {b = b} is p q e g) = rw (e, append_assoc a b []) (particle_body p (b ++ []))
pattern_body {ts} (grammar.data_except {a = a} {b = b} {d = d} x may is p q e) =
    annotation_body may ts (x ∷ (a ++ sign Minus ∷ b)) [] e (typed_body x d ((a ++ sign Minus ∷ b) ++ []) is)

bare_component_body : {ts : List Lexeme} {c : ComponentAt written} → IsBareComponent content ts c → (r : List Lexeme) → NoDeclaration (ts ++ r)
bare_component_body (grammar.start is p e) r = rw e (record { no_tilde = refl; none = refl })
bare_component_body (grammar.define is p e) r = rw e (record { no_tilde = refl; none = refl })
bare_component_body (grammar.div p e g) r = rw e (record { no_tilde = refl; none = refl })
bare_component_body (grammar.include is p q o e g) r = rw e (record { no_tilde = refl; none = refl })

component_body : {ts : List Lexeme} {c : ComponentAt written} → IsComponent content ts c → (r : List Lexeme) → NoDeclaration (ts ++ r)
component_body {ts} (grammar.annotated_component {a = a} may p e) r = annotation_body may ts a r e (bare_component_body p r)

components_body : {ts : List Lexeme} {cs : List (ComponentAt written)} → AreComponents content ts cs → NoDeclaration (ts ++ [])
components_body (grammar.no_components e) = rw e (record { no_tilde = refl; none = refl })
components_body (grammar.and_component {a = a} {b = b} p q e) = rw (e, append_assoc a b []) (component_body p (b ++ []))

pub body_begins : {ts : List Lexeme} {b : Body} → IsBody ts b → NoDeclaration (ts ++ [])
body_begins (grammar.pattern_body p) = pattern_body p
body_begins (grammar.grammar_body p e) = components_body p

-- ---- a grammar or a pattern

left_over : (t u : PatternAt written) (x : Lexeme) (ts : List Lexeme) → ◌≡◌ {A = Outcome (PatternAt written)} (Ok (t, x ∷ ts)) (Ok (u, [])) → ⊥
left_over t u x ts e = let q : x ∷ ts ≡ [] = ap (λ (y : PatternAt written × List Lexeme). y.1) (ok_is (t, x ∷ ts) (u, []) e) in absurd cc

-- tokens that are read as one pattern to their end do not begin a grammar
pattern_no_grammar : (n : ℕ) (us : List Lexeme) (t : PatternAt written) (b : Bool) → bare_pattern_with (inside_at n) us ≡ Ok (t, [])
    → is_grammar_body b us ≡ false
unfolding bare_pattern_with bare_primary_with atom_at other_at rest_with
pattern_no_grammar n [] t b e = absurd cc
pattern_no_grammar n (keyword keywords.Start s ∷ us) t b e = absurd cc
pattern_no_grammar n (keyword keywords.Div s ∷ us) t b e = absurd cc
pattern_no_grammar n (keyword keywords.Include s ∷ us) t b e = absurd cc
pattern_no_grammar n (identifier w ∷ sign Equal ∷ us) t b e = absurd (left_over (syntax.ref w) t (sign Equal) us e)
pattern_no_grammar n (identifier w ∷ sign BarEqual ∷ us) t b e = absurd (left_over (syntax.ref w) t (sign BarEqual) us e)
pattern_no_grammar n (identifier w ∷ sign AndEqual ∷ us) t b e = absurd (left_over (syntax.ref w) t (sign AndEqual) us e)
pattern_no_grammar n (identifier w ∷ _) t b e = refl
pattern_no_grammar n (_ ∷ us) t b e = refl

name_is_grammar : (x : Lexeme) (m : Method) (n : List ℕ) (b : Bool) (r : List Lexeme) → method_of x ≡ Some m → is_grammar_body b (identifier n ∷ x ∷ r) ≡ true
name_is_grammar (sign Equal) m n b r e = refl
name_is_grammar (sign BarEqual) m n b r e = refl
name_is_grammar (sign AndEqual) m n b r e = refl
name_is_grammar _ m n b r e = absurd cc

component_is_grammar : {ts : List Lexeme} {c : ComponentAt written} → IsBareComponent content ts c → (b : Bool) (r : List Lexeme)
    → is_grammar_body b (ts ++ r) ≡ true
component_is_grammar (grammar.start is p e) b r = rw e refl
component_is_grammar (grammar.define {a = a} {x = x} {n = n} {m = m} is p e) b r = rw e (name_is_grammar x m n b (a ++ r) is)
component_is_grammar (grammar.div p e g) b r = rw e refl
component_is_grammar (grammar.include is p q o e g) b r = rw e refl

component_no_bracket : {ts : List Lexeme} {c : ComponentAt written} → IsBareComponent content ts c → (r : List Lexeme) → follow OpenBracket (ts ++ r) ≡ None
component_no_bracket (grammar.start is p e) r = rw e refl
component_no_bracket (grammar.define is p e) r = rw e refl
component_no_bracket (grammar.div p e g) r = rw e refl
component_no_bracket (grammar.include is p q o e g) r = rw e refl

module _ (n : ℕ) where
  bare_pattern_read : (us : List Lexeme) (t : PatternAt written) → bare_pattern_with (inside_at n) us ≡ Ok (t, [])
      → bare_body_with (inside_at n) us ≡ Ok (syntax.pattern_body t, [])
  unfolding bare_body_with
  bare_pattern_read us t e = let none = pattern_no_grammar n us t true e in rw (none, e) refl

  annotated_pattern_read : (us : List Lexeme) (t : PatternAt written) → bare_pattern_with (inside_at n) us ≡ Ok (t, [])
      → annotated_body_with (inside_at n) us ≡ Ok (syntax.pattern_body t, [])
  unfolding annotated_body_with
  annotated_pattern_read us t e = let none = pattern_no_grammar n us t false e in rw (none, e) refl

  bare_grammar_read : (us : List Lexeme) (cs : List (ComponentAt written)) → is_grammar_body true us ≡ true
      → components_with (inside_at n) content us ≡ Ok (cs, []) → bare_body_with (inside_at n) us ≡ Ok (syntax.grammar_body (syntax.components_of cs), [])
  unfolding bare_body_with
  bare_grammar_read us cs is e = rw (is, e) refl

  annotated_grammar_read : (us vs : List Lexeme) (c : ComponentAt written) (cs : List (ComponentAt written)) → is_grammar_body false us ≡ true
      → bare_component_with (inside_at n) content us ≡ Ok (c, vs) → components_with (inside_at n) content vs ≡ Ok (cs, [])
      → annotated_body_with (inside_at n) us ≡ Ok (syntax.grammar_body (syntax.components_of (c ∷ cs)), [])
  unfolding annotated_body_with
  annotated_grammar_read us vs c cs is one others = rw (is, one, others) refl

  -- a body without an annotation at the front, and one with it
  alone_body_read : (us : List Lexeme) (b : Body) → follow OpenBracket us ≡ None → bare_body_with (inside_at n) us ≡ Ok (b, [])
      → body_with (inside_at n) us ≡ Ok (b, [])
  unfolding body_with
  alone_body_read us b none e = rw none e

  opened_body_read : (us vs ws : List Lexeme) (b : Body) → follow OpenBracket us ≡ Some vs → annotation_end 0 vs ≡ Ok (tt, ws)
      → annotated_body_with (inside_at n) ws ≡ Ok (b, []) → body_with (inside_at n) us ≡ Ok (b, [])
  unfolding body_with
  opened_body_read us vs ws b some end e = rw (some, end) e

  annotation_opened : (us vs : List Lexeme) → follow OpenBracket us ≡ Some vs → annotation_at us ≡ annotation_end 0 vs
  unfolding annotation_at
  annotation_opened us vs some = rw some refl

  pattern_body_by : (us : List Lexeme) (t : PatternAt written) (o : Option (List Lexeme)) → follow OpenBracket us ≡ o → pattern_with (inside_at n) us ≡ Ok (t, [])
      → body_with (inside_at n) us ≡ Ok (syntax.pattern_body t, [])
  unfolding pattern_with
  pattern_body_by us t None is e =
      let bare = bare_pattern_with (inside_at n) in
      alone_body_read us (syntax.pattern_body t) is (bare_pattern_read us t (sym (annotated_is bare (name_classes.without_annotation refl) us is) ∙ e))
  pattern_body_by us t (Some vs) is e =
      let bare = bare_pattern_with (inside_at n) in
      let whole = sym (ap (λ (r : Outcome (Unit {0})). r >>= λ x. bare x.1) (annotation_opened us vs is)) ∙ e in
      let a = bind_ok (annotation_end 0 vs) (λ x. bare x.1) (t, []) whole in
      opened_body_read us vs a.0.1 (syntax.pattern_body t) is a.1 (annotated_pattern_read a.0.1 t a.2)

  pattern_body_read : (us : List Lexeme) (t : PatternAt written) → pattern_with (inside_at n) us ≡ Ok (t, [])
      → body_with (inside_at n) us ≡ Ok (syntax.pattern_body t, [])
  pattern_body_read us t e = pattern_body_by us t (follow OpenBracket us) refl e

  empty_body_read : (ts : List Lexeme) → ts ≡ [] → components_with (inside_at n) content (ts ++ []) ≡ Ok ([], [])
      → body_with (inside_at n) (ts ++ []) ≡ Ok (syntax.grammar_body (syntax.components_of []), [])
  empty_body_read ts e others = alone_body_read (ts ++ []) (syntax.grammar_body (syntax.components_of [])) (rw e refl)
      (bare_grammar_read (ts ++ []) [] (rw e refl) others)

  -- the first component with or without an annotation
  grammar_body_read : {note : List Lexeme} → MayBeAnnotation note → (us vs : List Lexeme) (c : ComponentAt written) (cs : List (ComponentAt written))
      → ((b : Bool) → is_grammar_body b us ≡ true) → follow OpenBracket us ≡ None → components_with (inside_at n) content (note ++ us) ≡ Ok (c ∷ cs, [])
      → bare_component_with (inside_at n) content us ≡ Ok (c, vs) → components_with (inside_at n) content vs ≡ Ok (cs, [])
      → body_with (inside_at n) (note ++ us) ≡ Ok (syntax.grammar_body (syntax.components_of (c ∷ cs)), [])
  grammar_body_read {note} (name_classes.without_annotation f) us vs c cs is none whole one others =
      let w = subst (λ (note : List Lexeme). components_with (inside_at n) content (note ++ us) ≡ Ok (c ∷ cs, [])) f whole in
      rw f (alone_body_read us (syntax.grammar_body (syntax.components_of (c ∷ cs))) none (bare_grammar_read us (c ∷ cs) (is true) w))
  grammar_body_read {note} (name_classes.with_annotation {a = a} p f) us vs c cs is none whole one others =
      opened_body_read (note ++ us) ((a ++ sign CloseBracket ∷ []) ++ us) us (syntax.grammar_body (syntax.components_of (c ∷ cs))) (rw f refl) (end_read p us)
      (annotated_grammar_read us vs c cs (is false) one others)

body_complete : {ts : List Lexeme} {b : Body} → IsBody ts b → (n : ℕ) → NestsWithin n ts → body_with (inside_at n) (ts ++ []) ≡ Ok (b, [])
body_complete {ts} (grammar.pattern_body {t = t} p) n nest = pattern_body_read n (ts ++ []) t (pattern_complete p n nest [] follows_end)
body_complete {ts} (grammar.grammar_body (grammar.no_components e) f) n nest =
    let none = components_complete {w = content} (grammar.no_components e) n nest [] (ended refl) in
    rw f (empty_body_read n ts e (components_read n content (ts ++ []) [] [] none))
body_complete {ts} (grammar.grammar_body (grammar.and_component {cs = cs} {a = a} {b = b} {c = c}
    (grammar.annotated_component {n = note} {a = x} may p g) q e) f) n nest =
    let whole = components_read n content (ts ++ []) [] (c ∷ cs)
    (components_complete (grammar.and_component (grammar.annotated_component may p g) q e) n nest [] (ended refl)) in
    let parts = two_parts ts note a b x [] e g in
    let nest_a = first_within n ts a b e nest in
    let nest_b = second_within n ts a b e (component_even (grammar.annotated_component may p g)) nest in
    let one = bare_component_complete p n (second_within n a note x g (annotation_even may) nest_a) (b ++ []) (more_follow q [] (ended refl)) in
    let others = components_read n content (b ++ []) [] cs (components_complete q n nest_b [] (ended refl)) in
    rw f (subst (λ (us : List Lexeme). body_with (inside_at n) us ≡ Ok (syntax.grammar_body (syntax.components_of (c ∷ cs)), [])) (sym parts)
    (grammar_body_read n may (x ++ (b ++ [])) (b ++ []) c cs (λ k. component_is_grammar p k (b ++ [])) (component_no_bracket p (b ++ []))
    (subst (λ (us : List Lexeme). components_with (inside_at n) content us ≡ Ok (c ∷ cs, [])) parts whole) one others))

-- ---- files

file_read : (n : ℕ) (ts rest : List Lexeme) (ds : List Declaration) (b : Body) → many declaration_front declaration_at ts ≡ Ok (ds, rest)
    → body_with (inside_at n) rest ≡ Ok (b, []) → file_with (inside_at n) ts ≡ Ok (record { declarations = ds; body = b })
unfolding file_with declarations_at
file_read n ts rest ds b e g = rw (e, g) refl

-- each sentence that nests within a limit is read with this tree
pub file_complete : (n : ℕ) {ts : List Lexeme} {f : File} → IsFile ts f → NestsWithin n ts → file_with (inside_at n) ts ≡ Ok f
file_complete n {ts} {f} (grammar.file {a = a} {b = b} p q e) nest =
    let none = body_begins q in
    let whole : ts ≡ a ++ (b ++ []) = e ∙ ap (λ (b : List Lexeme). a ++ b) (sym (append-nil b)) in
    let ds = manys_read declaration_front declaration_at (a ++ (b ++ [])) (b ++ []) f.declarations (declarations_complete p (b ++ []) none.no_tilde none.none)
    in
    subst (λ (ts : List Lexeme). file_with (inside_at n) ts ≡ Ok f) (sym whole)
    (file_read n (a ++ (b ++ [])) (b ++ []) f.declarations f.body ds (body_complete q n (second_within n ts a b e (declarations_even p) nest)))

abbrev done : File → Result File Stop
done f = Ok f

the_file : (f g : File) → done f ≡ done g → f ≡ g
the_file f g e = cc

-- a sentence has one tree
pub unique : (ts : List Lexeme) (f g : File) → IsFile ts f → IsFile ts g → f ≡ g
unique ts f g p q = the_file f g (sym (file_complete (length ts) p (length_within ts)) ∙ file_complete (length ts) q (length_within ts))
