-- The productions as functions that read tokens from left to right to a syntax tree.
use Rattle.std.specs.Prelude.{ℕ, zero, suc, List, [], ◌∷◌, Bool, true, false, Option, Some, None, Result, Ok, Err, if◌then◌else◌}
use Rattle.rng_model.specs.simple.Tree.{group, interleave, choice}
use Rattle.rnc_model.specs.declared.token.Keyword.TheVariants as keywords
use Rattle.rnc_model.specs.declared.token.Sign.{Sign}
use Rattle.rnc_model.specs.declared.token.Sign.TheVariants.{Equal, BarEqual, AndEqual, Comma, Bar, And, Question, Star, Plus, Minus, OpenBrace, CloseBrace}
use Rattle.rnc_model.specs.declared.token.Sign.TheVariants.{OpenParenthesis, CloseParenthesis, OpenBracket, CloseBracket, Tilde}
use Rattle.rnc_syntax.specs.declared.fault.Stop.{Stop}
use Rattle.rnc_syntax.specs.declared.fault.Stop.TheVariants.{TooDeep}
use Rattle.rnc_syntax.specs.declared.annotations.Role.{Role}
use Rattle.rnc_syntax.specs.declared.annotations.Role.TheVariants as roles
use Rattle.rnc_syntax.specs.declared.atoms.Opening.{Opening}
use Rattle.rnc_syntax.specs.declared.atoms.Opening.TheVariants as openings
use Rattle.rnc_syntax.specs.declared.atoms.Repetition.{Repetition}
use Rattle.rnc_syntax.specs.declared.atoms.Repetition.TheVariants as repetitions
use Rattle.rng_model.specs.declared.method.Method.{Method}
use Rattle.rng_model.specs.declared.method.Method.TheVariants as methods
use Rattle.rnc_model.specs.tokens.Cut.{Lexeme, keyword, identifier, cname, ns_name, segment, sign}
use Rattle.rnc_model.specs.grammar.Syntax as syntax
use Rattle.rnc_model.specs.grammar.Syntax.{written, NameClassAt, DatatypeName, Mention, PatternAt, ComponentAt, Uri, Declaration, Body, File}
use Rattle.rnc_model.specs.grammar.SyntaxTrees.{joined_text}
use Rattle.rnc_model.specs.grammar.Grammar.{Setting, content, override}
use Rattle.rnc_syntax.specs.plain.Combinators.{Outcome, ◌>>=◌, unexpected, follow, follow_keyword, after, after_keyword, word_at, identifier_at, segment_at}
use Rattle.rnc_syntax.specs.plain.Combinators.{either_way, many}

-- ---- annotations

-- the role of a token in an annotation
abbrev pub role_of : Lexeme → Role
role_of (sign OpenBracket) = roles.Opens
role_of (sign CloseBracket) = roles.Closes
role_of (sign OpenBrace) = roles.Foreign
role_of (sign CloseBrace) = roles.Foreign
role_of (sign OpenParenthesis) = roles.Foreign
role_of (sign CloseParenthesis) = roles.Foreign
role_of _ = roles.Content

-- the first token with its role, and the tokens after it
abbrev pub role_front : List Lexeme → Option (Role × List Lexeme)
role_front [] = None
role_front (x ∷ ts) = Some (role_of x, ts)

-- one of four values, by the role
abbrev pub by_role : {A : Type 0} → Role → A → A → A → A → A
by_role roles.Opens a b c d = a
by_role roles.Closes a b c d = b
by_role roles.Content a b c d = c
by_role roles.Foreign a b c d = d

-- a value at zero, or the function of one less
abbrev pub one_less : {A : Type 0} → ℕ → A → (ℕ → A) → A
one_less zero a f = a
one_less (suc n) a f = f n

-- the rest of an annotation inside which n others are open
unfoldable pub annotation_end : ℕ → List Lexeme → Outcome (Unit {0})
annotation_end n [] = unexpected []
annotation_end n (x ∷ ts) = by_role (role_of x) (annotation_end (suc n) ts) (one_less n (Ok (tt, ts)) (λ m. annotation_end m ts)) (annotation_end n ts)
    (unexpected (x ∷ ts))

-- an annotation, if there is one
unfoldable pub annotation_at : List Lexeme → Outcome (Unit {0})
annotation_at ts = either_way (follow OpenBracket ts) (Ok (tt, ts)) (annotation_end 0)

-- an annotation, if there is one, and what is read after it
abbrev pub annotated : {A : Type 0} → (List Lexeme → Outcome A) → List Lexeme → Outcome A
annotated read ts = annotation_at ts >>= λ x. read x.1

-- ---- literals, parameters, and what mentions inherit

unfoldable pub literal_at : List Lexeme → Outcome (List ℕ)
literal_at ts = do
  first ← segment_at ts
  others ← many (follow Tilde) segment_at first.1
  Ok (joined_text (first.0 ∷ others.0), others.1)

unfoldable pub parameter_at : List Lexeme → Outcome (List ℕ × List ℕ)
parameter_at ts = do
  name ← word_at ts
  equal ← after Equal name.1
  value ← literal_at equal.1
  Ok ((name.0, value.0), value.1)

-- the same tokens, if a word or an annotation is first
abbrev pub parameter_front : List Lexeme → Option (List Lexeme)
parameter_front (identifier w ∷ ts) = Some (identifier w ∷ ts)
parameter_front (keyword k s ∷ ts) = Some (keyword k s ∷ ts)
parameter_front (sign OpenBracket ∷ ts) = Some (sign OpenBracket ∷ ts)
parameter_front _ = None

unfoldable pub annotated_parameter_at : List Lexeme → Outcome (List ℕ × List ℕ)
annotated_parameter_at ts = annotated parameter_at ts

unfoldable pub in_braces_at : {A : Type 0} → (List Lexeme → Outcome A) → List Lexeme → Outcome A
in_braces_at inner ts = do
  body ← inner ts
  end ← after CloseBrace body.1
  Ok (body.0, end.1)

unfoldable pub parameters_at : List Lexeme → Outcome (List (List ℕ × List ℕ))
parameters_at ts = either_way (follow OpenBrace ts) (Ok ([], ts)) (in_braces_at (many parameter_front annotated_parameter_at))

-- a word after `=`
unfoldable pub word_after_equal : List Lexeme → Outcome (Option (List ℕ))
word_after_equal ts = do
  equal ← after Equal ts
  word ← word_at equal.1
  Ok (Some word.0, word.1)

unfoldable pub inherit_at : List Lexeme → Outcome (Option (List ℕ))
inherit_at ts = either_way (follow_keyword keywords.Inherit ts) (Ok (None, ts)) word_after_equal

-- a mention whose keyword has this number
unfoldable pub mention_at : ℕ → List Lexeme → Outcome (Mention written)
mention_at number ts = do
  href ← literal_at ts
  prefix ← inherit_at href.1
  Ok (record { href = href.0; inherit = prefix.0; token = number }, prefix.1)

-- ---- name classes

-- a class in parentheses
unfoldable pub class_in_parens : (List Lexeme → Outcome (NameClassAt written)) → List Lexeme → Outcome (NameClassAt written)
class_in_parens class ts = do
  body ← class ts
  end ← after CloseParenthesis body.1
  Ok (body.0, end.1)

unfoldable pub bare_basic_with : (List Lexeme → Outcome (NameClassAt written)) → List Lexeme → Outcome (NameClassAt written)
bare_basic_with class (identifier w ∷ ts) = Ok (syntax.name_is (syntax.unprefixed w), ts)
bare_basic_with class (keyword k s ∷ ts) = Ok (syntax.name_is (syntax.unprefixed s.text), ts)
bare_basic_with class (cname p l ∷ ts) = Ok (syntax.name_is (syntax.prefixed p l), ts)
bare_basic_with class (ns_name p ∷ ts) = Ok (syntax.ns_name p, ts)
bare_basic_with class (sign Star ∷ ts) = Ok (syntax.any_name, ts)
bare_basic_with class (sign OpenParenthesis ∷ ts) = class_in_parens class ts
bare_basic_with class ts = unexpected ts

unfoldable pub basic_with : (List Lexeme → Outcome (NameClassAt written)) → List Lexeme → Outcome (NameClassAt written)
basic_with class ts = annotated (bare_basic_with class) ts

-- classes after the first one, each with `|` before it
unfoldable pub choice_with : (List Lexeme → Outcome (NameClassAt written)) → NameClassAt written → List Lexeme → Outcome (NameClassAt written)
choice_with basic c ts = either_way (follow Bar ts) (Ok (c, ts)) (λ us. many (follow Bar) basic ts >>= λ others. Ok (syntax.choice_of (c ∷ others.0), others.1))

-- `*` or `p:*` at the front, and the tokens after it
abbrev pub wide_front : List Lexeme → Option (Option (List ℕ) × List Lexeme)
wide_front (sign Star ∷ ts) = Some (None, ts)
wide_front (ns_name p ∷ ts) = Some (Some p, ts)
wide_front _ = None

-- `*` or `p:*` and then `-` at the front, and the tokens after them
abbrev pub except_front : List Lexeme → Option (Option (List ℕ) × List Lexeme)
except_front ts = either_way (wide_front ts) None (λ x. either_way (follow Minus x.1) None (λ us. Some (x.0, us)))

-- all names, or those of a prefix, except those of a class
abbrev pub excepted : Option (List ℕ) → NameClassAt written → NameClassAt written
excepted None c = syntax.any_except c
excepted (Some p) c = syntax.ns_except p c

-- a class after an annotation
unfoldable pub bare_class_with : (List Lexeme → Outcome (NameClassAt written)) → List Lexeme → Outcome (NameClassAt written)
bare_class_with class ts = either_way (except_front ts) (bare_basic_with class ts >>= λ c. choice_with (basic_with class) c.0 c.1) (λ x. basic_with class x.1
    >>= λ c. Ok (excepted x.0 c.0, c.1))

unfoldable pub class_with : (List Lexeme → Outcome (NameClassAt written)) → List Lexeme → Outcome (NameClassAt written)
class_with class ts = annotated (bare_class_with class) ts

-- ---- patterns and components

-- how patterns and components inside brackets are read
pub record Inside : Type 0 where
  pub class : List Lexeme → Outcome (NameClassAt written)
  pub pattern : List Lexeme → Outcome (PatternAt written)
  pub components : Setting → List Lexeme → Outcome (List (ComponentAt written))

-- a pattern in braces
unfoldable pub braced_with : Inside → List Lexeme → Outcome (PatternAt written)
braced_with inside ts = after OpenBrace ts >>= λ x. in_braces_at inside.pattern x.1

-- components in braces
unfoldable pub contents_with : Inside → Setting → List Lexeme → Outcome (List (ComponentAt written))
contents_with inside w ts = after OpenBrace ts >>= λ x. in_braces_at (inside.components w) x.1

-- a name class and a pattern in braces
unfoldable pub named_with : Inside → (NameClassAt written → PatternAt written → PatternAt written) → List Lexeme → Outcome (PatternAt written)
named_with inside make ts = do
  class ← class_with inside.class ts
  body ← braced_with inside class.1
  Ok (make class.0 body.0, body.1)

-- the first token is a segment
abbrev pub begins_segment : List Lexeme → Bool
begins_segment (segment w ∷ ts) = true
begins_segment _ = false

-- a value or a datatype after its name
unfoldable pub typed_at : DatatypeName written → List Lexeme → Outcome (PatternAt written)
typed_at d ts = if begins_segment ts then (literal_at ts >>= λ v. Ok (syntax.value d v.0, v.1)) else
    (parameters_at ts >>= λ ps. Ok (syntax.data_of d ps.0, ps.1))

-- the name of a datatype at the front, and the tokens after it
abbrev pub type_front : List Lexeme → Option (DatatypeName written × List Lexeme)
type_front (cname p l ∷ ts) = Some (syntax.prefixed_type p l, ts)
type_front (keyword keywords.String s ∷ ts) = Some (syntax.string_type, ts)
type_front (keyword keywords.Token s ∷ ts) = Some (syntax.token_type, ts)
type_front _ = None

-- a pattern that is a single keyword
abbrev pub lone_front : List Lexeme → Option (PatternAt written × List Lexeme)
lone_front (keyword keywords.Empty s ∷ ts) = Some (syntax.empty, ts)
lone_front (keyword keywords.Text s ∷ ts) = Some (syntax.text, ts)
lone_front (keyword keywords.NotAllowed s ∷ ts) = Some (syntax.not_allowed, ts)
lone_front (identifier n ∷ ts) = Some (syntax.ref n, ts)
lone_front _ = None

-- a primary that begins in another way and contains no other pattern
unfoldable pub other_at : List Lexeme → Outcome (PatternAt written)
other_at (keyword keywords.Parent s ∷ ts) = identifier_at ts >>= λ x. Ok (syntax.parent_ref x.0, x.1)
other_at (keyword keywords.External s ∷ ts) = mention_at s.number ts >>= λ m. Ok (syntax.external m.0, m.1)
other_at (segment w ∷ ts) = literal_at (segment w ∷ ts) >>= λ v. Ok (syntax.value syntax.token_type v.0, v.1)
other_at ts = unexpected ts

-- a primary that contains no other pattern
unfoldable pub atom_at : List Lexeme → Outcome (PatternAt written)
atom_at ts = either_way (type_front ts) (either_way (lone_front ts) (other_at ts) (λ x. Ok x)) (λ d. typed_at d.0 d.1)

unfoldable pub parens_with : Inside → List Lexeme → Outcome (PatternAt written)
parens_with inside ts = do
  body ← inside.pattern ts
  end ← after CloseParenthesis body.1
  Ok (body.0, end.1)

-- the keyword or the parenthesis of a primary that contains other patterns, and the tokens after it
abbrev pub opening_front : List Lexeme → Option (Opening × List Lexeme)
opening_front (keyword keywords.Element s ∷ ts) = Some (openings.Element, ts)
opening_front (keyword keywords.Attribute s ∷ ts) = Some (openings.Attribute, ts)
opening_front (keyword keywords.List s ∷ ts) = Some (openings.List, ts)
opening_front (keyword keywords.Mixed s ∷ ts) = Some (openings.Mixed, ts)
opening_front (keyword keywords.Grammar s ∷ ts) = Some (openings.Grammar, ts)
opening_front (sign OpenParenthesis ∷ ts) = Some (openings.Parenthesis, ts)
opening_front _ = None

-- a primary that contains other patterns, after its keyword or its parenthesis
unfoldable pub opened_with : Inside → Opening → List Lexeme → Outcome (PatternAt written)
opened_with inside openings.Element ts = named_with inside syntax.element ts
opened_with inside openings.Attribute ts = named_with inside syntax.attribute ts
opened_with inside openings.List ts = braced_with inside ts >>= λ x. Ok (syntax.list x.0, x.1)
opened_with inside openings.Mixed ts = braced_with inside ts >>= λ x. Ok (syntax.mixed x.0, x.1)
opened_with inside openings.Grammar ts = contents_with inside content ts >>= λ cs. Ok (syntax.grammar (syntax.components_of cs.0), cs.1)
opened_with inside openings.Parenthesis ts = parens_with inside ts

unfoldable pub bare_primary_with : Inside → List Lexeme → Outcome (PatternAt written)
bare_primary_with inside ts = either_way (opening_front ts) (atom_at ts) (λ x. opened_with inside x.0 x.1)

unfoldable pub primary_with : Inside → List Lexeme → Outcome (PatternAt written)
primary_with inside ts = annotated (bare_primary_with inside) ts

-- the sign of repetition at the front, and the tokens after it
abbrev pub repetition_front : List Lexeme → Option (Repetition × List Lexeme)
repetition_front (sign Question ∷ ts) = Some (repetitions.Optional, ts)
repetition_front (sign Star ∷ ts) = Some (repetitions.ZeroOrMore, ts)
repetition_front (sign Plus ∷ ts) = Some (repetitions.OneOrMore, ts)
repetition_front _ = None

-- a pattern that may occur so often
abbrev pub repeated_by : Repetition → PatternAt written → PatternAt written
repeated_by repetitions.Optional t = syntax.optional t
repeated_by repetitions.ZeroOrMore t = syntax.zero_or_more t
repeated_by repetitions.OneOrMore t = syntax.one_or_more t

-- a primary with the sign of repetition after it, if there is one
abbrev pub repeated : PatternAt written → List Lexeme → PatternAt written × List Lexeme
repeated t (sign Question ∷ ts) = (syntax.optional t, ts)
repeated t (sign Star ∷ ts) = (syntax.zero_or_more t, ts)
repeated t (sign Plus ∷ ts) = (syntax.one_or_more t, ts)
repeated t ts = (t, ts)

unfoldable pub particle_with : Inside → List Lexeme → Outcome (PatternAt written)
particle_with inside ts = primary_with inside ts >>= λ t. Ok (repeated t.0 t.1)

-- the connector that is first
abbrev pub separator_of : List Lexeme → Option Sign
separator_of (sign Comma ∷ ts) = Some Comma
separator_of (sign And ∷ ts) = Some And
separator_of (sign Bar ∷ ts) = Some Bar
separator_of _ = None

-- particles with a connector between them
abbrev pub joined : Sign → List (PatternAt written) → PatternAt written
joined Comma ts = syntax.members group ts
joined And ts = syntax.members interleave ts
joined _ ts = syntax.members choice ts

-- the rest of a pattern after its first particle
unfoldable pub rest_with : Inside → PatternAt written → Option Sign → List Lexeme → Outcome (PatternAt written)
rest_with inside t None ts = Ok (t, ts)
rest_with inside t (Some s) ts = many (follow s) (particle_with inside) ts >>= λ others. Ok (joined s (t ∷ others.0), others.1)

-- the rest of a pattern after its first primary
abbrev pub pattern_from : Inside → PatternAt written → List Lexeme → Outcome (PatternAt written)
pattern_from inside t ts = Ok (repeated t ts) >>= λ x. rest_with inside x.0 (separator_of x.1) x.1

-- the name of a datatype at the front, and the tokens after it, unless a segment follows
abbrev pub data_front : List Lexeme → Option (DatatypeName written × List Lexeme)
data_front ts = either_way (type_front ts) None (λ x. if begins_segment x.1 then None else Some x)

-- a datatype after its parameters
unfoldable pub data_with : Inside → DatatypeName written → List (List ℕ × List ℕ) → List Lexeme → Outcome (PatternAt written)
data_with inside d ps ts = either_way (follow Minus ts) (pattern_from inside (syntax.data_of d ps) ts) (λ us. primary_with inside us
    >>= λ t. Ok (syntax.data_except d ps t.0, t.1))

-- a datatype after its name, with its parameters
abbrev pub named_data_with : Inside → DatatypeName written → List Lexeme → Outcome (PatternAt written)
named_data_with inside d ts = parameters_at ts >>= λ ps. data_with inside d ps.0 ps.1

-- a pattern after an annotation
unfoldable pub bare_pattern_with : Inside → List Lexeme → Outcome (PatternAt written)
bare_pattern_with inside ts = either_way (data_front ts) (bare_primary_with inside ts >>= λ t. pattern_from inside t.0 t.1) (λ d. parameters_at d.1
    >>= λ ps. data_with inside d.0 ps.0 ps.1)

unfoldable pub pattern_with : Inside → List Lexeme → Outcome (PatternAt written)
pattern_with inside ts = annotated (bare_pattern_with inside) ts

unfoldable pub method_at : List Lexeme → Outcome Method
method_at (sign Equal ∷ ts) = Ok (methods.Plain, ts)
method_at (sign BarEqual ∷ ts) = Ok (methods.Choice, ts)
method_at (sign AndEqual ∷ ts) = Ok (methods.Interleave, ts)
method_at ts = unexpected ts

-- what is allowed in a grammar but not in the braces of an include
abbrev pub in_content : {A : Type 0} → Setting → Option A → Option A
in_content content o = o
in_content override o = None

-- the number of `include`, if it is first and allowed here, and the tokens after it
abbrev pub include_front : Setting → List Lexeme → Option (ℕ × List Lexeme)
include_front w (keyword keywords.Include s ∷ ts) = in_content w (Some (s.number, ts))
include_front w _ = None

unfoldable pub overrides_with : Inside → List Lexeme → Outcome (List (ComponentAt written))
overrides_with inside ts = either_way (follow OpenBrace ts) (Ok ([], ts)) (λ us. contents_with inside override ts)

-- a component or its annotation begins here
abbrev pub begins_component : Setting → List Lexeme → Bool
begins_component w (identifier n ∷ ts) = true
begins_component w (keyword keywords.Start s ∷ ts) = true
begins_component w (keyword keywords.Div s ∷ ts) = true
begins_component content (keyword keywords.Include s ∷ ts) = true
begins_component w (sign OpenBracket ∷ ts) = true
begins_component w _ = false

-- the same tokens, if a component begins here
abbrev pub component_front : Setting → List Lexeme → Option (List Lexeme)
component_front w ts = if begins_component w ts then Some ts else None

-- a start or a define at the front, with its method, and the tokens after that
unfoldable pub assigned_at : List Lexeme → Outcome (Option (List ℕ) × Method)
assigned_at (identifier n ∷ ts) = method_at ts >>= λ m. Ok ((Some n, m.0), m.1)
assigned_at (keyword keywords.Start s ∷ ts) = method_at ts >>= λ m. Ok ((None, m.0), m.1)
assigned_at ts = unexpected ts

-- a define of the name, or a start if there is no name
abbrev pub assigned : Option (List ℕ) → Method → PatternAt written → ComponentAt written
assigned None m t = syntax.start m t
assigned (Some n) m t = syntax.define n m t

unfoldable pub bare_component_with : Inside → Setting → List Lexeme → Outcome (ComponentAt written)
bare_component_with inside w ts = either_way (follow_keyword keywords.Div ts)
    (either_way (include_front w ts)
    (assigned_at ts >>= λ x. pattern_with inside x.1 >>= λ t. Ok (assigned x.0.0 x.0.1 t.0, t.1))
    (λ x. mention_at x.0 x.1 >>= λ m. overrides_with inside m.1 >>= λ cs. Ok (syntax.include m.0 (syntax.components_of cs.0), cs.1)))
    (λ us. contents_with inside w us >>= λ cs. Ok (syntax.div (syntax.components_of cs.0), cs.1))

unfoldable pub component_with : Inside → Setting → List Lexeme → Outcome (ComponentAt written)
component_with inside w ts = annotated (bare_component_with inside w) ts

unfoldable pub components_with : Inside → Setting → List Lexeme → Outcome (List (ComponentAt written))
components_with inside w ts = many (component_front w) (component_with inside w) ts

-- how patterns and components inside brackets are read, if n brackets may be open, including these
unfoldable pub inside_at : ℕ → Inside
inside_at zero = record { class = λ ts. Err TooDeep; pattern = λ ts. Err TooDeep; components = λ w ts. Err TooDeep }
inside_at (suc n) = record {
  class = class_with (inside_at n).class;
  pattern = pattern_with (inside_at n);
  components = components_with (inside_at n);
}

-- ---- files

unfoldable pub uri_at : List Lexeme → Outcome Uri
uri_at ts = either_way (follow_keyword keywords.Inherit ts) (literal_at ts >>= λ v. Ok (syntax.literal v.0, v.1)) (λ us. Ok (syntax.inherit, us))

-- a word, `=` and a uri
unfoldable pub prefix_at : List Lexeme → Outcome (List ℕ × Uri)
prefix_at ts = do
  prefix ← word_at ts
  equal ← after Equal prefix.1
  uri ← uri_at equal.1
  Ok ((prefix.0, uri.0), uri.1)

-- what follows `default namespace`
unfoldable pub default_at : List Lexeme → Outcome Declaration
default_at ts = either_way (follow Equal ts) (prefix_at ts >>= λ x. Ok (syntax.default_namespace (Some x.0.0) x.0.1, x.1))
    (λ us. uri_at us >>= λ u. Ok (syntax.default_namespace None u.0, u.1))

unfoldable pub declaration_at : List Lexeme → Outcome Declaration
declaration_at (keyword keywords.Namespace s ∷ ts) = prefix_at ts >>= λ x. Ok (syntax.namespace x.0.0 x.0.1, x.1)
declaration_at (keyword keywords.Default s ∷ ts) = after_keyword keywords.Namespace ts >>= λ x. default_at x.1
declaration_at (keyword keywords.Datatypes s ∷ ts) = parameter_at ts >>= λ x. Ok (syntax.datatypes x.0.0 x.0.1, x.1)
declaration_at ts = unexpected ts

-- a declaration begins here
abbrev pub begins_declaration : List Lexeme → Bool
begins_declaration (keyword keywords.Namespace s ∷ ts) = true
begins_declaration (keyword keywords.Default s ∷ ts) = true
begins_declaration (keyword keywords.Datatypes s ∷ ts) = true
begins_declaration _ = false

-- the same tokens, if a declaration begins here
abbrev pub declaration_front : List Lexeme → Option (List Lexeme)
declaration_front ts = if begins_declaration ts then Some ts else None

-- the first token is a method
abbrev pub begins_method : List Lexeme → Bool
begins_method (sign Equal ∷ ts) = true
begins_method (sign BarEqual ∷ ts) = true
begins_method (sign AndEqual ∷ ts) = true
begins_method _ = false

-- The body is a grammar: it begins with a component's keyword, or with an identifier and a method, or it has no tokens
-- where that is allowed.
abbrev pub is_grammar_body : Bool → List Lexeme → Bool
is_grammar_body may_be_empty [] = may_be_empty
is_grammar_body may_be_empty (keyword keywords.Start s ∷ ts) = true
is_grammar_body may_be_empty (keyword keywords.Div s ∷ ts) = true
is_grammar_body may_be_empty (keyword keywords.Include s ∷ ts) = true
is_grammar_body may_be_empty (identifier n ∷ ts) = begins_method ts
is_grammar_body may_be_empty _ = false

-- a body that is a pattern, after an annotation
abbrev pub pattern_body_with : Inside → List Lexeme → Outcome Body
pattern_body_with inside ts = bare_pattern_with inside ts >>= λ t. Ok (syntax.pattern_body t.0, t.1)

-- a body without an annotation in front
unfoldable pub bare_body_with : Inside → List Lexeme → Outcome Body
bare_body_with inside ts = if is_grammar_body true ts then (components_with inside content ts
    >>= λ cs. Ok (syntax.grammar_body (syntax.components_of cs.0), cs.1)) else pattern_body_with inside ts

-- a body after the annotation of its pattern or of its first component
unfoldable pub annotated_body_with : Inside → List Lexeme → Outcome Body
annotated_body_with inside ts = if is_grammar_body false ts then (bare_component_with inside content ts >>= λ c. components_with inside content c.1
    >>= λ cs. Ok (syntax.grammar_body (syntax.components_of (c.0 ∷ cs.0)), cs.1)) else pattern_body_with inside ts

unfoldable pub body_with : Inside → List Lexeme → Outcome Body
body_with inside ts = either_way (follow OpenBracket ts) (bare_body_with inside ts) (λ us. annotation_end 0 us >>= λ x. annotated_body_with inside x.1)

-- the value, if no tokens are left
abbrev pub if_ended : {A : Type 0} → A → List Lexeme → Result A Stop
if_ended a [] = Ok a
if_ended a (x ∷ ts) = unexpected (x ∷ ts)

unfoldable pub declarations_at : List Lexeme → Outcome (List Declaration)
declarations_at ts = many declaration_front declaration_at ts

unfoldable pub file_with : Inside → List Lexeme → Result File Stop
file_with inside ts = do
  declarations ← declarations_at ts
  body ← body_with inside declarations.1
  if_ended (record { declarations = declarations.0; body = body.0 }) body.1
