-- Sentences of the grammar of the compact syntax (RELAX NG Compact Syntax, "Syntax").
use Rattle.std.proofs.Common.{◌≡◌, ℕ, suc, List, [], ◌∷◌, ◌++◌, length, take, drop, codes, refl, sym, ap, ◌∙◌, subst, arith, Option, Some, None}
use Rattle.std.proofs.lemmas.List.{append-nil, append_assoc, take-append-drop}
use Rattle.rng_model.specs.simple.Tree.{Connector, choice, group}
use Rattle.rng_model.specs.declared.method.Method.{Method}
use Rattle.rnc_model.specs.declared.token.Keyword.{Keyword}
use Rattle.rnc_model.specs.declared.token.Keyword.TheVariants as keywords
use Rattle.rnc_model.specs.declared.token.Sign.{Sign}
use Rattle.rnc_model.specs.declared.token.Sign.TheVariants.{Bar, Comma, OpenBrace, CloseBrace, Question, Star, Plus}
use Rattle.rnc_model.specs.tokens.Cut.{Lexeme, Spelling, keyword, identifier, segment, sign}
use Rattle.rnc_model.specs.grammar.Syntax as syntax
use Rattle.rnc_model.specs.grammar.Syntax.{written, PatternAt, ComponentAt, DatatypeName}
use Rattle.rnc_model.specs.grammar.Grammar as g
use Rattle.rnc_model.specs.grammar.NameClasses as name_classes
use Rattle.rnc_model.specs.grammar.Grammar.{IsPattern, AreMore, IsParticle, IsPrimary, IsBarePrimary, AreComponents}
use Rattle.rnc_model.specs.grammar.NameClasses.{IsLiteral, MayBeAnnotation, type_of, connector_of, method_of}
use Rattle.rnc_model.specs.grammar.Grammar.{IsBareComponent, AreDeclarations, IsDeclaration, IsBody, IsFile}
use Rattle.rnc_model.specs.grammar.Sentence.{IsSentence, IsStuckAt}

-- ---- a file of one line

-- the tokens of `element a { empty }`
abbrev one_line : List Lexeme
one_line = keyword keywords.Element (record { text = codes "element"; number = 1 }) ∷ identifier (codes "a") ∷ sign OpenBrace ∷
    keyword keywords.Empty (record { text = codes "empty"; number = 4 }) ∷ sign CloseBrace ∷ []

abbrev braces : List Lexeme
braces = sign OpenBrace ∷ keyword keywords.Empty (record { text = codes "empty"; number = 4 }) ∷ sign CloseBrace ∷ []

primary_alone : (ts : List Lexeme) (t : PatternAt written) → IsBarePrimary ts t → IsPattern ts t
primary_alone ts t p = g.one_particle (g.once (g.annotated_primary {n = []} {a = ts} (name_classes.without_annotation refl) p refl))

-- they are an element with the name `a` and the body `empty` ("Syntax")
one_line_is : IsFile one_line (record {
  declarations = [];
  body = syntax.pattern_body (syntax.element (syntax.name_is (syntax.unprefixed (codes "a"))) syntax.empty);
})
one_line_is = g.file {a = []} {b = one_line} (g.no_declarations refl) (g.pattern_body (primary_alone one_line _
    (g.element {a = identifier (codes "a") ∷ []} {b = braces}
    (name_classes.basic_class (name_classes.annotated_basic {n = []} {a = identifier (codes "a") ∷ []} (name_classes.without_annotation refl) (name_classes.word_class refl refl) refl))
    (g.in_braces {a = keyword keywords.Empty (record { text = codes "empty"; number = 4 }) ∷ []} (primary_alone _ _ (g.empty refl)) refl) refl))) refl

-- ---- connectors that are mixed

abbrev foo : Lexeme
foo = identifier (codes "foo")

abbrev bar : Lexeme
bar = identifier (codes "bar")

abbrev baz : Lexeme
baz = identifier (codes "baz")

-- `foo | bar, baz`
abbrev mixed : List Lexeme
mixed = foo ∷ sign Bar ∷ bar ∷ sign Comma ∷ baz ∷ []

one_word : (w : List ℕ) → IsParticle (identifier w ∷ []) (syntax.ref w)
one_word w = g.once (g.annotated_primary {n = []} {a = identifier w ∷ []} (name_classes.without_annotation refl) (g.ref refl) refl)

-- `foo | bar` is a sentence: a choice of two refs ("Syntax")
foo_or_bar : IsSentence (foo ∷ sign Bar ∷ bar ∷ [])
foo_or_bar = (
  record { declarations = []; body = syntax.pattern_body (syntax.members choice (syntax.ref (codes "foo") ∷ syntax.ref (codes "bar") ∷ [])) },
  g.file {a = []} {b = foo ∷ sign Bar ∷ bar ∷ []} (g.no_declarations refl) (g.pattern_body
      (g.particles {a = foo ∷ []} {b = sign Bar ∷ bar ∷ []} {s = Bar} {k = choice} {us = syntax.ref (codes "bar") ∷ []} refl
      (one_word (codes "foo")) (g.last_particle (one_word (codes "bar")) refl) refl refl)) refl,
)

-- ---- what begins with an identifier

abbrev first : List Lexeme → Lexeme
first [] = sign Comma
first (x ∷ xs) = x

abbrev behind : List Lexeme → List Lexeme
behind [] = []
behind (x ∷ xs) = xs

heads : {ts : List Lexeme} {x y : Lexeme} (a more rest : List Lexeme) → ts ≡ x ∷ a → ts ++ more ≡ y ∷ rest → x ≡ y
heads a more rest e parts = sym (ap (λ l. first (l ++ more)) e) ∙ ap first parts

tails : {ts : List Lexeme} {x y : Lexeme} (a more rest : List Lexeme) → ts ≡ x ∷ a → ts ++ more ≡ y ∷ rest → a ++ more ≡ rest
tails a more rest e parts = sym (ap (λ l. behind (l ++ more)) e) ∙ ap behind parts

no_keyword : {k : Keyword} {s : Spelling} {w : List ℕ} → ¬ (keyword k s ≡ identifier w)
no_keyword e = cc

no_segment : {v w : List ℕ} → ¬ (segment v ≡ identifier w)
no_segment e = cc

no_sign : {s : Sign} {w : List ℕ} → ¬ (sign s ≡ identifier w)
no_sign e = cc

no_type_given : {d : DatatypeName written} → ¬ (◌≡◌ {A = Option (DatatypeName written)} None (Some d))
no_type_given e = cc

-- an identifier names no datatype
no_type : {x : Lexeme} {w : List ℕ} {d : DatatypeName written} → x ≡ identifier w → ¬ (type_of x ≡ Some d)
no_type {d = d} e is = no_type_given (subst (λ x. type_of x ≡ Some d) e is)

module _ (w : List ℕ) (rest : List Lexeme) where
  no_annotation : {n a ts : List Lexeme} (more : List Lexeme) → MayBeAnnotation n → ts ≡ n ++ a → ts ++ more ≡ identifier w ∷ rest → ts ≡ a
  no_annotation {a = a} more (name_classes.without_annotation e) parts begins = parts ∙ ap (λ n. n ++ a) e
  no_annotation {a = a} more (name_classes.with_annotation {a = b} content e) parts begins =
      absurd (no_sign (heads _ more rest (parts ∙ ap (λ n. n ++ a) e) begins))

  literal_is_none : {ts : List Lexeme} {v : List ℕ} (more : List Lexeme) → IsLiteral ts v → ¬ (ts ++ more ≡ identifier w ∷ rest)
  literal_is_none more (name_classes.one_segment e) begins = no_segment (heads _ more rest e begins)
  literal_is_none more (name_classes.more_segments l e v) begins = no_segment (heads _ more rest e begins)

  -- a primary that begins with an identifier is only the identifier
  bare_is_word : {ts : List Lexeme} {t : PatternAt written} (more : List Lexeme) → IsBarePrimary ts t → ts ++ more ≡ identifier w ∷ rest
      → ts ≡ identifier w ∷ []
  bare_is_word more (g.element c b e) begins = absurd (no_keyword (heads _ more rest e begins))
  bare_is_word more (g.attribute c b e) begins = absurd (no_keyword (heads _ more rest e begins))
  bare_is_word more (g.list b e) begins = absurd (no_keyword (heads _ more rest e begins))
  bare_is_word more (g.mixed b e) begins = absurd (no_keyword (heads _ more rest e begins))
  bare_is_word more (g.ref e) begins = e ∙ ap (λ x. x ∷ []) (heads _ more rest e begins)
  bare_is_word more (g.parent_ref e) begins = absurd (no_keyword (heads _ more rest e begins))
  bare_is_word more (g.empty e) begins = absurd (no_keyword (heads _ more rest e begins))
  bare_is_word more (g.text e) begins = absurd (no_keyword (heads _ more rest e begins))
  bare_is_word more (g.not_allowed e) begins = absurd (no_keyword (heads _ more rest e begins))
  bare_is_word more (g.untyped_value l) begins = absurd (literal_is_none more l begins)
  bare_is_word more (g.value d l e) begins = absurd (no_type (heads _ more rest e begins) d)
  bare_is_word more (g.data_of d p e) begins = absurd (no_type (heads _ more rest e begins) d)
  bare_is_word more (g.external l i e t) begins = absurd (no_keyword (heads _ more rest e begins))
  bare_is_word more (g.grammar c e t) begins = absurd (no_keyword (heads _ more rest e begins))
  bare_is_word more (g.in_parens p e) begins = absurd (no_sign (heads _ more rest e begins))

  primary_is_word : {ts : List Lexeme} {t : PatternAt written} (more : List Lexeme) → IsPrimary ts t → ts ++ more ≡ identifier w ∷ rest
      → ts ≡ identifier w ∷ []
  primary_is_word more (g.annotated_primary n p e) begins =
      let same = no_annotation more n e begins in
      same ∙ bare_is_word more p (ap (λ l. l ++ more) (sym same) ∙ begins)

no_connector : {k : Connector} → ¬ (◌≡◌ {A = Option Connector} None (Some k))
no_connector e = cc

-- signs that are no connectors
other_sign : {s : Sign} {k : Connector} (r : Sign) → connector_of r ≡ None → sign r ≡ sign s → ¬ (connector_of s ≡ Some k)
other_sign {k = k} r none e is = no_connector (sym none ∙ ap connector_at e ∙ is) where
  connector_at : Lexeme → Option Connector
  connector_at (sign s) = connector_of s
  connector_at x = None

module _ (w : List ℕ) (s : Sign) (k : Connector) (connects : connector_of s ≡ Some k) (rest : List Lexeme) where
  -- no `?`, `*` or `+` is behind the identifier
  no_suffix : {ts a : List Lexeme} {t : PatternAt written} (more : List Lexeme) (r : Sign) → connector_of r ≡ None → IsPrimary a t → ts ≡ a ++ sign r ∷ []
      → ¬ (ts ++ more ≡ identifier w ∷ sign s ∷ rest)
  no_suffix {ts = ts} {a = a} more r none p e begins =
      let apart : ts ++ more ≡ a ++ sign r ∷ more = ap (λ l. l ++ more) e ∙ append_assoc a (sign r ∷ []) more in
      let word : a ≡ identifier w ∷ [] = primary_is_word w (sign s ∷ rest) (sign r ∷ more) p (sym apart ∙ begins) in
      let same : sign r ≡ sign s = ap first (tails [] (sign r ∷ more) (sign s ∷ rest) word (sym apart ∙ begins)) in
      other_sign r none same connects

  particle_is_word : {ts : List Lexeme} {t : PatternAt written} (more : List Lexeme) → IsParticle ts t → ts ++ more ≡ identifier w ∷ sign s ∷ rest
      → ts ≡ identifier w ∷ []
  particle_is_word more (g.once p) begins = primary_is_word w (sign s ∷ rest) more p begins
  particle_is_word more (g.optional p e) begins = absurd (no_suffix more Question refl p e begins)
  particle_is_word more (g.zero_or_more p e) begins = absurd (no_suffix more Star refl p e begins)
  particle_is_word more (g.one_or_more p e) begins = absurd (no_suffix more Plus refl p e begins)

-- more particles begin with their connector
begins_with_connector : {s : Sign} {ts : List Lexeme} {us : List (PatternAt written)} {x : Lexeme} {rest : List Lexeme} → AreMore s ts us → ts ≡ x ∷ rest
    → sign s ≡ x
begins_with_connector (g.last_particle p e) begins = ap first (sym e ∙ begins)
begins_with_connector (g.more_particles p m e) begins = ap first (sym e ∙ begins)

bar_is_not_comma : ¬ (sign Bar ≡ sign Comma)
bar_is_not_comma e = cc

-- ---- what begins with `foo | bar,`

module _ (rest : List Lexeme) where
  abbrev from_bar : List Lexeme
  from_bar = sign Bar ∷ bar ∷ sign Comma ∷ rest

  -- behind `|` and `bar` no comma can be
  no_more : {s : Sign} {ts : List Lexeme} {us : List (PatternAt written)} → AreMore s ts us → ¬ (ts ≡ from_bar)
  no_more (g.last_particle {a = a} p e) begins =
      let a_is : a ≡ bar ∷ sign Comma ∷ rest = ap behind (sym e ∙ begins) in
      let word : a ≡ bar ∷ [] = particle_is_word (codes "bar") Comma group refl rest [] p (append-nil a ∙ a_is) in
      let none : sign Comma ∷ rest ≡ [] = ap behind (sym a_is ∙ word) in
      let n : suc (length rest) ≡ 0 = ap length none in
      omega (arith, n)
  no_more (g.more_particles {s = s} {a = a} {b = b} p m e) begins =
      let a_is : a ++ b ≡ bar ∷ sign Comma ∷ rest = ap behind (sym e ∙ begins) in
      let word : a ≡ bar ∷ [] = particle_is_word (codes "bar") Comma group refl rest b p a_is in
      let b_is : b ≡ sign Comma ∷ rest = tails [] b (sign Comma ∷ rest) word a_is in
      let comma : sign s ≡ sign Comma = begins_with_connector m b_is in
      let is_bar : sign s ≡ sign Bar = ap first (sym e ∙ begins) in
      bar_is_not_comma (sym is_bar ∙ comma)

  no_pattern : {ts : List Lexeme} {t : PatternAt written} → IsPattern ts t → ¬ (ts ≡ foo ∷ from_bar)
  no_pattern (g.one_particle {ts = ts} p) begins =
      let word : ts ≡ foo ∷ [] = particle_is_word (codes "foo") Bar choice refl (bar ∷ sign Comma ∷ rest) [] p (append-nil ts ∙ begins) in
      let none : from_bar ≡ [] = ap behind (sym begins ∙ word) in
      let n : suc (suc (suc (length rest))) ≡ 0 = ap length none in
      omega (arith, n)
  no_pattern (g.particles {a = a} {b = b} k p m e u) begins =
      let word : a ≡ foo ∷ [] = particle_is_word (codes "foo") Bar choice refl (bar ∷ sign Comma ∷ rest) b p (sym e ∙ begins) in
      no_more m (tails [] b from_bar word (sym e ∙ begins))
  no_pattern (g.data_except {ts = ts} x n d ps p e) begins =
      let same = no_annotation (codes "foo") from_bar [] n e (append-nil ts ∙ begins) in
      no_type (ap first (sym same ∙ begins)) d

  no_method : {m : Method} → ¬ (◌≡◌ {A = Option Method} None (Some m))
  no_method e = cc

  no_bare_component : {v : g.Setting} {ts : List Lexeme} {c : ComponentAt written} (more : List Lexeme) → IsBareComponent v ts c → ¬ (ts ++ more ≡ foo ∷ from_bar)
  no_bare_component more (g.start m p e) begins = no_keyword (heads _ more from_bar e begins)
  no_bare_component more (g.define {x = x} {m = m} has p e) begins =
      let is_bar : x ≡ sign Bar = ap first (tails _ more from_bar e begins) in
      no_method (subst (λ x. method_of x ≡ Some m) is_bar has)
  no_bare_component more (g.div a e c) begins = no_keyword (heads _ more from_bar e begins)
  no_bare_component more (g.include v l i o e c) begins = no_keyword (heads _ more from_bar e begins)

  no_components : {v : g.Setting} {ts : List Lexeme} {cs : List (ComponentAt written)} → AreComponents v ts cs → ¬ (ts ≡ foo ∷ from_bar)
  no_components (g.no_components e) begins =
      let n : 0 ≡ suc (length from_bar) = ap length (sym e ∙ begins) in
      omega (arith, n)
  no_components (g.and_component {b = b} (g.annotated_component n c e) cs parts) begins =
      let same = no_annotation (codes "foo") from_bar b n e (sym parts ∙ begins) in
      no_bare_component b c (ap (λ l. l ++ b) (sym same) ∙ sym parts ∙ begins)

  no_declaration : {ts : List Lexeme} {d : syntax.Declaration} (more : List Lexeme) → IsDeclaration ts d → ¬ (ts ++ more ≡ foo ∷ from_bar)
  no_declaration more (g.namespace p u e) begins = no_keyword (heads _ more from_bar e begins)
  no_declaration more (g.default_alone u e) begins = no_keyword (heads _ more from_bar e begins)
  no_declaration more (g.default_with_prefix p u e) begins = no_keyword (heads _ more from_bar e begins)
  no_declaration more (g.datatypes p l e) begins = no_keyword (heads _ more from_bar e begins)

  no_body : {ts : List Lexeme} {b : syntax.Body} → IsBody ts b → ¬ (ts ≡ foo ∷ from_bar)
  no_body (g.pattern_body p) begins = no_pattern p begins
  no_body (g.grammar_body cs e) begins = no_components cs begins

  no_file : {a b : List Lexeme} {ds : List syntax.Declaration} {body : syntax.Body} → AreDeclarations a ds → IsBody b body
      → ¬ (a ++ b ≡ foo ∷ from_bar)
  no_file {b = b} (g.no_declarations e) body begins = no_body body (ap (λ l. l ++ b) (sym e) ∙ begins)
  no_file {b = b} (g.and_declaration {a = a} {b = c} d ds e) body begins =
      no_declaration (c ++ b) d (sym (append_assoc a c b) ∙ ap (λ l. l ++ b) (sym e) ∙ begins)

  no_sentence : ¬ (IsSentence (foo ∷ from_bar))
  no_sentence (f, g.file ds body e) = no_file ds body (sym e)

-- `foo | bar, baz` is no sentence, and its fourth token, the comma, is the first that no sentence has there: connectors
-- have no precedence ("Syntax")
stuck_at_the_comma : IsStuckAt mixed 4
stuck_at_the_comma = record {
  positive = omega arith;
  within = omega arith;
  begins = (foo ∷ sign Bar ∷ bar ∷ [], refl, foo_or_bar);
  stuck = λ us alike sentence.
      let front : take 4 us ≡ foo ∷ sign Bar ∷ bar ∷ sign Comma ∷ [] = alike.0 (omega arith) in
      let whole : us ≡ foo ∷ sign Bar ∷ bar ∷ sign Comma ∷ drop 4 us = sym (take-append-drop 4 us) ∙ ap (λ l. l ++ drop 4 us) front in
      no_sentence (drop 4 us) (subst IsSentence whole sentence);
}
