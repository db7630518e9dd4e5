-- The result of a reader depends only on the tokens it read and on the next one: declarations and files.
use Rattle.std.proofs.Common.{◌≡◌, ℕ, List, [], ◌∷◌, Some, None, Ok, refl, if◌then◌else◌}
use Rattle.rnc_model.specs.declared.token.Keyword.TheVariants as keywords
use Rattle.rnc_model.specs.declared.token.Sign.TheVariants.{Equal, BarEqual, AndEqual, OpenBracket}
use Rattle.rnc_model.specs.tokens.Cut.{Lexeme, keyword, identifier, sign}
use Rattle.rnc_model.specs.grammar.Syntax as syntax
use Rattle.rnc_model.specs.grammar.Syntax.{written, ComponentAt, Uri, Body}
use Rattle.rnc_model.specs.grammar.Grammar.{content}
use Rattle.rnc_syntax.specs.plain.Combinators.{Outcome, ◌>>=◌, follow, follow_keyword, after, after_keyword, word_at}
use Rattle.rnc_syntax.specs.plain.Productions.{annotation_end, literal_at, parameter_at, Inside, bare_pattern_with, bare_component_with, components_with}
use Rattle.rnc_syntax.specs.plain.Productions.{uri_at}
use Rattle.rnc_syntax.specs.plain.Productions.{prefix_at, default_at, declaration_at, declaration_front, begins_method, pattern_body_with, bare_body_with}
use Rattle.rnc_syntax.specs.plain.Productions.{annotated_body_with, body_with, declarations_at}
use Rattle.rnc_syntax.proofs.Locality.{IsLocal, ok_local, stuck_end, stuck_front, cons_local, bind_local, after_local, word_local}
use Rattle.rnc_syntax.proofs.Locality.Fronts.{end_local, token_local, test_heads, if_local, FrontAt, closes, opens, either_local, follow_front}
use Rattle.rnc_syntax.proofs.Locality.Fronts.{follow_keyword_front}
use Rattle.rnc_syntax.proofs.Locality.Items.{many_local}
use Rattle.rnc_syntax.proofs.Locality.Literals.{made_local, literal_local, parameter_local}
use Rattle.rnc_syntax.proofs.Locality.Primaries.{Locals}
use Rattle.rnc_syntax.proofs.Locality.Annotations.{opened_local}
use Rattle.rnc_syntax.proofs.Locality.Patterns.{bare_pattern_local, pattern_behind}
use Rattle.rnc_syntax.proofs.Locality.Components.{bare_component_local, bare_component_named, components_local, components_behind}

-- ---- declarations

uri_local : IsLocal uri_at uri_at
unfolding uri_at
uri_local ts =
    let inherited = λ (us : List Lexeme). Ok (syntax.inherit, us) in
    either_local (follow_keyword keywords.Inherit) refl inherited inherited (follow_keyword_front inherited inherited (ok_local syntax.inherit)
    keywords.Inherit) (λ us. literal_at us >>= λ v. Ok (syntax.literal v.0, v.1)) (λ us. literal_at us >>= λ v. Ok (syntax.literal v.0, v.1)) ts
    (made_local literal_at literal_at syntax.literal literal_local ts)

equal_uri_local : (prefix : List ℕ) → IsLocal {A = List ℕ × Uri} (λ us. after Equal us >>= λ equal. uri_at equal.1 >>= λ uri. Ok ((prefix, uri.0), uri.1))
    (λ us. after Equal us >>= λ equal. uri_at equal.1 >>= λ uri. Ok ((prefix, uri.0), uri.1))
equal_uri_local prefix ts =
    let f = λ (x : Unit {0}) (us : List Lexeme). uri_at us >>= λ uri. Ok ((prefix, uri.0), uri.1) in
    bind_local (after Equal) (after Equal) f f ts (after_local Equal ts) (λ x rest e. made_local uri_at uri_at (λ uri. (prefix, uri)) uri_local rest)

prefix_local : IsLocal prefix_at prefix_at
unfolding prefix_at
prefix_local ts =
    let f = λ (prefix : List ℕ) (us : List Lexeme). after Equal us >>= λ equal. uri_at equal.1 >>= λ uri. Ok ((prefix, uri.0), uri.1) in
    bind_local word_at word_at f f ts (word_local ts) (λ prefix rest e. equal_uri_local prefix rest)

default_local : IsLocal default_at default_at
unfolding default_at
default_local ts =
    let alone = λ (us : List Lexeme). uri_at us >>= λ u. Ok (syntax.default_namespace None u.0, u.1) in
    let prefixed = λ (us : List Lexeme). prefix_at us >>= λ x. Ok (syntax.default_namespace (Some x.0.0) x.0.1, x.1) in
    either_local (follow Equal) refl alone alone (follow_front alone alone (made_local uri_at uri_at (syntax.default_namespace None) uri_local) Equal) prefixed
    prefixed ts (made_local prefix_at prefix_at (λ x. syntax.default_namespace (Some x.0) x.1) prefix_local ts)

namespace_local : IsLocal (after_keyword keywords.Namespace) (after_keyword keywords.Namespace)
unfolding after_keyword
namespace_local [] = stuck_end (after_keyword keywords.Namespace) (after_keyword keywords.Namespace) refl refl
namespace_local (keyword keywords.Namespace s ∷ ts) = cons_local (after_keyword keywords.Namespace) (after_keyword keywords.Namespace) _ _
    (keyword keywords.Namespace s) ts (λ us. refl) (λ us. refl) (ok_local tt ts)
namespace_local (t ∷ ts) = stuck_front (after_keyword keywords.Namespace) (after_keyword keywords.Namespace) t ts (λ us. refl) (λ us. refl)

prefixed_local : IsLocal (λ us. prefix_at us >>= λ x. Ok (syntax.namespace x.0.0 x.0.1, x.1))
    (λ us. prefix_at us >>= λ x. Ok (syntax.namespace x.0.0 x.0.1, x.1))
prefixed_local = made_local prefix_at prefix_at (λ x. syntax.namespace x.0 x.1) prefix_local

defaults_local : IsLocal (λ us. after_keyword keywords.Namespace us >>= λ x. default_at x.1) (λ us. after_keyword keywords.Namespace us >>= λ x. default_at x.1)
defaults_local ts = bind_local (after_keyword keywords.Namespace) (after_keyword keywords.Namespace) (λ x us. default_at us) (λ x us. default_at us) ts
    (namespace_local ts) (λ x rest e. default_local rest)

datatypes_local : IsLocal (λ us. parameter_at us >>= λ x. Ok (syntax.datatypes x.0.0 x.0.1, x.1)) (λ us. parameter_at us
    >>= λ x. Ok (syntax.datatypes x.0.0 x.0.1, x.1))
datatypes_local = made_local parameter_at parameter_at (λ x. syntax.datatypes x.0 x.1) parameter_local

pub declaration_part : (t : Lexeme) → FrontAt declaration_front declaration_at declaration_at t
unfolding declaration_at
declaration_part (keyword keywords.Namespace s) = opens (λ us. keyword keywords.Namespace s ∷ us) (λ us. refl) prefixed_local
declaration_part (keyword keywords.Default s) = opens (λ us. keyword keywords.Default s ∷ us) (λ us. refl) defaults_local
declaration_part (keyword keywords.Datatypes s) = opens (λ us. keyword keywords.Datatypes s ∷ us) (λ us. refl) datatypes_local
declaration_part t = closes (λ us. refl)

pub declarations_local : IsLocal declarations_at declarations_at
unfolding declarations_at
declarations_local = many_local declaration_front refl declaration_at declaration_at declaration_part declaration_part

-- ---- files

same_method : (t : Lexeme) (us vs : List Lexeme) → begins_method (t ∷ us) ≡ begins_method (t ∷ vs)
same_method (sign Equal) us vs = refl
same_method (sign BarEqual) us vs = refl
same_method (sign AndEqual) us vs = refl
same_method t us vs = refl

module _ (inside deeper : Inside) (l : Locals inside deeper) (self : Locals deeper deeper) where
  abbrev grammar_read : Inside → List Lexeme → Outcome Body
  grammar_read inner us = components_with inner content us >>= λ cs. Ok (syntax.grammar_body (syntax.components_of cs.0), cs.1)

  -- a component that has an annotation, and those after it
  abbrev first_read : Inside → List Lexeme → Outcome Body
  first_read inner us = bare_component_with inner content us >>= λ c. components_with inner content c.1
      >>= λ cs. Ok (syntax.grammar_body (syntax.components_of (c.0 ∷ cs.0)), cs.1)

  abbrev others_read : Inside → ComponentAt written → List Lexeme → Outcome Body
  others_read inner c us = components_with inner content us >>= λ cs. Ok (syntax.grammar_body (syntax.components_of (c ∷ cs.0)), cs.1)

  grammar_local : IsLocal (grammar_read inside) (grammar_read deeper)
  grammar_local = made_local (components_with inside content) (components_with deeper content) (λ cs. syntax.grammar_body (syntax.components_of cs))
      (components_local inside deeper l self content)

  others_local : (c : ComponentAt written) → IsLocal (others_read inside c) (others_read deeper c)
  others_local c = made_local (components_with inside content) (components_with deeper content) (λ cs. syntax.grammar_body (syntax.components_of (c ∷ cs)))
      (components_local inside deeper l self content)

  first_local : IsLocal (first_read inside) (first_read deeper)
  first_local ts = bind_local (bare_component_with inside content) (bare_component_with deeper content) (others_read inside) (others_read deeper) ts
      (bare_component_local inside deeper l self content ts) (λ c rest e. others_local c rest)

  -- the same after an identifier
  first_named : (n : List ℕ) → IsLocal (λ us. first_read inside (identifier n ∷ us)) (λ us. first_read deeper (identifier n ∷ us))
  first_named n ts =
      bind_local (λ us. bare_component_with inside content (identifier n ∷ us)) (λ us. bare_component_with deeper content (identifier n ∷ us))
      (others_read inside) (others_read deeper) ts (bare_component_named inside deeper l self content n ts) (λ c rest e. others_local c rest)

  one_pattern_local : IsLocal (pattern_body_with inside) (pattern_body_with deeper)
  one_pattern_local = made_local (bare_pattern_with inside) (bare_pattern_with deeper) syntax.pattern_body (bare_pattern_local inside deeper l self)

  -- after an identifier
  abbrev named_read : (Inside → List Lexeme → Outcome Body) → Inside → List ℕ → List Lexeme → Outcome Body
  named_read read inner n us = if begins_method us then read inner (identifier n ∷ us) else pattern_body_with inner (identifier n ∷ us)

  named_local : (read : Inside → List Lexeme → Outcome Body) (n : List ℕ) → IsLocal (λ us. read inside (identifier n ∷ us))
      (λ us. read deeper (identifier n ∷ us))
      → IsLocal (named_read read inside n) (named_read read deeper n)
  named_local read n m ts =
      if_local begins_method (test_heads begins_method same_method) (λ us. read inside (identifier n ∷ us)) (λ us. pattern_body_with inside (identifier n ∷ us))
      (λ us. read deeper (identifier n ∷ us)) (λ us. pattern_body_with deeper (identifier n ∷ us)) ts (m ts)
      (made_local (λ us. bare_pattern_with inside (identifier n ∷ us)) (λ us. bare_pattern_with deeper (identifier n ∷ us)) syntax.pattern_body
      (pattern_behind inside deeper l self n) ts)

  bare_body_local : IsLocal (bare_body_with inside) (bare_body_with deeper)
  unfolding bare_body_with
  bare_body_local [] = end_local (bare_body_with inside) (bare_body_with deeper) (grammar_read inside) (grammar_read deeper) refl refl (grammar_local [])
  bare_body_local (identifier n ∷ ts) = cons_local (bare_body_with inside) (bare_body_with deeper) (named_read grammar_read inside n)
      (named_read grammar_read deeper n) (identifier n) ts (λ us. refl) (λ us. refl) (named_local grammar_read n
      (made_local (λ us. components_with inside content (identifier n ∷ us)) (λ us. components_with deeper content (identifier n ∷ us))
      (λ cs. syntax.grammar_body (syntax.components_of cs)) (components_behind inside deeper l self content n)) ts)
  bare_body_local (keyword keywords.Start s ∷ ts) = token_local (bare_body_with inside) (bare_body_with deeper) (grammar_read inside) (grammar_read deeper)
      (keyword keywords.Start s) ts (λ us. refl) (λ us. refl) (grammar_local (keyword keywords.Start s ∷ ts))
  bare_body_local (keyword keywords.Div s ∷ ts) = token_local (bare_body_with inside) (bare_body_with deeper) (grammar_read inside) (grammar_read deeper)
      (keyword keywords.Div s) ts (λ us. refl) (λ us. refl) (grammar_local (keyword keywords.Div s ∷ ts))
  bare_body_local (keyword keywords.Include s ∷ ts) = token_local (bare_body_with inside) (bare_body_with deeper) (grammar_read inside) (grammar_read deeper)
      (keyword keywords.Include s) ts (λ us. refl) (λ us. refl) (grammar_local (keyword keywords.Include s ∷ ts))
  bare_body_local (t ∷ ts) = token_local (bare_body_with inside) (bare_body_with deeper) (pattern_body_with inside) (pattern_body_with deeper) t ts (λ us. refl)
      (λ us. refl) (one_pattern_local (t ∷ ts))

  annotated_body_local : IsLocal (annotated_body_with inside) (annotated_body_with deeper)
  unfolding annotated_body_with
  annotated_body_local [] = end_local (annotated_body_with inside) (annotated_body_with deeper) (pattern_body_with inside) (pattern_body_with deeper) refl refl
      (one_pattern_local [])
  annotated_body_local (identifier n ∷ ts) = cons_local (annotated_body_with inside) (annotated_body_with deeper) (named_read first_read inside n)
      (named_read first_read deeper n) (identifier n) ts (λ us. refl) (λ us. refl) (named_local first_read n (first_named n) ts)
  annotated_body_local (keyword keywords.Start s ∷ ts) = token_local (annotated_body_with inside) (annotated_body_with deeper) (first_read inside)
      (first_read deeper) (keyword keywords.Start s) ts (λ us. refl) (λ us. refl) (first_local (keyword keywords.Start s ∷ ts))
  annotated_body_local (keyword keywords.Div s ∷ ts) = token_local (annotated_body_with inside) (annotated_body_with deeper) (first_read inside)
      (first_read deeper) (keyword keywords.Div s) ts (λ us. refl) (λ us. refl) (first_local (keyword keywords.Div s ∷ ts))
  annotated_body_local (keyword keywords.Include s ∷ ts) = token_local (annotated_body_with inside) (annotated_body_with deeper) (first_read inside)
      (first_read deeper) (keyword keywords.Include s) ts (λ us. refl) (λ us. refl) (first_local (keyword keywords.Include s ∷ ts))
  annotated_body_local (t ∷ ts) = token_local (annotated_body_with inside) (annotated_body_with deeper) (pattern_body_with inside) (pattern_body_with deeper) t
      ts (λ us. refl) (λ us. refl) (one_pattern_local (t ∷ ts))

  pub body_local : IsLocal (body_with inside) (body_with deeper)
  unfolding body_with
  body_local ts =
      let read = λ (us : List Lexeme). annotation_end 0 us >>= λ x. annotated_body_with inside x.1 in
      let deeper_read = λ (us : List Lexeme). annotation_end 0 us >>= λ x. annotated_body_with deeper x.1 in
      either_local (follow OpenBracket) refl read deeper_read
      (follow_front read deeper_read (opened_local (annotated_body_with inside) (annotated_body_with deeper) annotated_body_local) OpenBracket)
      (bare_body_with inside) (bare_body_with deeper) ts (bare_body_local ts)
