-- The tokens of the printed lines are a sentence of the grammar, with the syntax tree of the lines.
use Rattle.std.proofs.Common.{◌≡◌, ◌∙◌, ◌⊎◌, inl, inr, ℕ, suc, Bool, true, false, List, [], ◌∷◌, ◌++◌, map, flat_map, refl, sym, ap, subst, Option, Some, None}
use Rattle.std.proofs.Common.{append_assoc, codes}
use Rattle.std.specs.Prelude.{◌||◌, ◌==◌, cond}
use Rattle.std.specs.List.{AllByRecursion}
use Rattle.std.proofs.lemmas.List.{append-nil}
use Rattle.rng_model.specs.names.Names as names
use Rattle.rng_model.specs.simple.Tree.{Datatype, Connector, choice, group, interleave, Simple, s_not_allowed, s_empty, s_text, s_leaf, s_attribute, s_list}
use Rattle.rng_model.specs.simple.Tree.{s_data}
use Rattle.rng_model.specs.simple.Tree.{s_data_except, s_value, s_one_or_more, s_joined}
use Rattle.rng_model.specs.simple.Grammar.{Grammar}
use Rattle.rnc_model.specs.tokens.Tokens.{keyword_of, keyword_or_identifier}
use Rattle.rnc_model.specs.declared.token.Keyword.{Keyword}
use Rattle.rnc_model.specs.declared.token.Sign.TheVariants as signs
use Rattle.rng_model.specs.declared.method.Method.TheVariants as methods
use Rattle.rnc_model.specs.tokens.Cut.{Lexeme, lexeme_at, identifier}
use Rattle.rnc_model.specs.tokens.Cut as lexeme
use Rattle.rnc_model.specs.grammar.Syntax as syntax
use Rattle.rnc_model.specs.grammar.Syntax.{written, NameClassAt, PatternAt, ComponentAt, string_type, token_type}
use Rattle.rnc_model.specs.grammar.Syntax.{choice_of, classes_of}
use Rattle.rnc_model.specs.grammar.NameClasses.{word_of, type_of, IsLiteral, one_segment, more_segments, AreParameters, no_parameters}
use Rattle.rnc_model.specs.grammar.NameClasses.{and_parameter, MayBeParameters, without_parameters, with_parameters, IsClass, basic_class, choice_class}
use Rattle.rnc_model.specs.grammar.NameClasses.{AreMoreClasses, last_class, more_classes, IsBasic, annotated_basic, MayBeAnnotation, without_annotation}
use Rattle.rnc_model.specs.grammar.NameClasses.{IsBareBasic, word_class, cname_class, ns_class, any_class, class_in_parens}
use Rattle.rnc_model.specs.grammar.Grammar.{IsBarePrimary}
use Rattle.rnc_model.specs.grammar.Grammar.{annotated_primary, IsBareComponent, annotated_component}
use Rattle.rnc_model.specs.grammar.Grammar.{content, IsPattern, one_particle, particles, last_particle, once, IsPrimary, IsBraced}
use Rattle.rnc_model.specs.grammar.Grammar.{in_braces}
use Rattle.rnc_model.specs.grammar.Grammar.{AreComponents, no_components, and_component, IsComponent, IsDeclaration, AreDeclarations, no_declarations}
use Rattle.rnc_model.specs.grammar.Grammar.{and_declaration, grammar_body, IsFile}
use Rattle.rnc_model.specs.grammar.NameClasses as name_classes
use Rattle.rnc_model.specs.grammar.Grammar as grammar
use Rattle.rncv_model.specs.printed.Items.{PrintedItem, element, pattern, element_at}
use Rattle.rncv_model.specs.printed.PrintedText.{item_name}
use Rattle.rncv_model.specs.printed.Words.{prefix_of, runs_of, with_character, delimiter, is_choice, is_except}
use Rattle.rnc_text.specs.plain.Marks.{Mark, space, line_end, word, cname, segment, sign}
use Rattle.rnc_text.specs.plain.Marks as marks
use Rattle.rnc_print_laws.specs.plain.MarkLexemes.{word_at, lexemes_from, place_behind}
use Rattle.rnc_print_laws.specs.plain.PrintedMarks.{joined_run_marks, literal_marks, in_parentheses_if, name_mark, class_marks, classes_marks, type_mark}
use Rattle.rnc_print_laws.specs.plain.PrintedMarks.{parameter_marks, parameters_marks, datatype_marks, reference_marks, connector_marks, braced_marks}
use Rattle.rnc_print_laws.specs.plain.PrintedMarks.{pattern_marks}
use Rattle.rnc_print_laws.specs.plain.PrintedMarks.{item_marks, line_marks, namespace_marks, item_line_marks, lines_marks}
use Rattle.rnc_print_laws.specs.plain.Printable.{CanBeNamed}
use Rattle.rnc_print_laws.specs.plain.LinesSyntax.{list_of, members_in, written_name, class_of, reference_of, pattern_of, item_pattern, components}
use Rattle.rnc_print_laws.specs.plain.LinesSyntax.{file}
use Rattle.rnc_print_laws.specs.plain.LinesSyntax as lines

-- ---- marks one after the other

pub lexemes_append : (n : ℕ) (ms ns : List Mark) → lexemes_from n (ms ++ ns) ≡ lexemes_from n ms ++ lexemes_from (place_behind n ms) ns
lexemes_append n [] ns = refl
lexemes_append n (space ∷ ms) ns = lexemes_append n ms ns
lexemes_append n (line_end ∷ ms) ns = lexemes_append n ms ns
lexemes_append n (word w ∷ ms) ns = ap (λ (x : List Lexeme). word_at w n ∷ x) (lexemes_append (suc n) ms ns)
lexemes_append n (cname p l ∷ ms) ns = ap (λ (x : List Lexeme). lexeme.cname p l ∷ x) (lexemes_append (suc n) ms ns)
lexemes_append n (marks.ns_name p ∷ ms) ns = ap (λ (x : List Lexeme). lexeme.ns_name p ∷ x) (lexemes_append (suc n) ms ns)
lexemes_append n (segment q w ∷ ms) ns = ap (λ (x : List Lexeme). lexeme.segment w ∷ x) (lexemes_append (suc n) ms ns)
lexemes_append n (sign s ∷ ms) ns = ap (λ (x : List Lexeme). lexeme.sign s ∷ x) (lexemes_append (suc n) ms ns)

-- a space or a line end at the end is no token
lexemes_space : (n : ℕ) (ms : List Mark) → lexemes_from n (ms ++ space ∷ []) ≡ lexemes_from n ms
lexemes_space n ms = lexemes_append n ms (space ∷ []) ∙ append-nil (lexemes_from n ms)

lexemes_line : (n : ℕ) (ms : List Mark) → lexemes_from n (ms ++ line_end ∷ []) ≡ lexemes_from n ms
lexemes_line n ms = lexemes_append n ms (line_end ∷ []) ∙ append-nil (lexemes_from n ms)

-- ---- words

word_is : (w : List ℕ) (n : ℕ) → word_of (word_at w n) ≡ Some w
word_is w n = at_kind (keyword_of w)
  where
    at_kind : (k : Option Keyword) → word_of (lexeme_at (keyword_or_identifier k) w n) ≡ Some w
    at_kind None = refl
    at_kind (Some k) = refl

identifier_is : (w : List ℕ) (n : ℕ) → keyword_of w ≡ None → word_at w n ≡ identifier w
identifier_is w n e = ap (λ (k : Option Keyword). lexeme_at (keyword_or_identifier k) w n) e

-- ---- literals

abbrev run_texts : List (ℕ × List ℕ) → List ℕ
run_texts runs = flat_map (λ run. run.1) runs

literal_of_runs : (run : ℕ × List ℕ) (runs : List (ℕ × List ℕ)) (n : ℕ) → IsLiteral (lexemes_from n (joined_run_marks (run ∷ runs))) (run_texts (run ∷ runs))
literal_of_runs run [] n = one_segment (ap (λ (x : List ℕ). lexeme.segment x ∷ []) (sym (append-nil run.1)))
literal_of_runs run (r ∷ runs) n = more_segments (literal_of_runs r runs (suc (suc n))) refl refl

front_text : (c : ℕ) (runs : List (ℕ × List ℕ)) → run_texts (with_character c runs) ≡ c ∷ run_texts runs
front_text c [] = refl
front_text c (run ∷ runs) = at_test (delimiter c == run.0)
  where
    at_test : (b : Bool) → run_texts (cond b ((run.0, c ∷ run.1) ∷ runs) ((delimiter c, c ∷ []) ∷ run ∷ runs)) ≡ c ∷ (run.1 ++ run_texts runs)
    at_test true = refl
    at_test false = refl

runs_text : (w : List ℕ) → run_texts (runs_of w) ≡ w
runs_text [] = refl
runs_text (c ∷ w) = front_text c (runs_of w) ∙ ap (λ (x : List ℕ). c ∷ x) (runs_text w)

literal_at : (runs : List (ℕ × List ℕ)) (n : ℕ) → IsLiteral (lexemes_from n (joined_run_marks runs)) (run_texts runs)
literal_at [] n = one_segment refl
literal_at (run ∷ runs) n = literal_of_runs run runs n

pub is_literal : (w : List ℕ) (n : ℕ) → IsLiteral (lexemes_from n (literal_marks w)) w
is_literal w n = subst (λ (x : List ℕ). IsLiteral (lexemes_from n (literal_marks w)) x) (runs_text w) (literal_at (runs_of w) n)

-- ---- name classes

listed : (cs : List (NameClassAt written)) → list_of (classes_of cs) ≡ cs
listed [] = refl
listed (c ∷ cs) = ap (λ (x : List (NameClassAt written)). c ∷ x) (listed cs)

unannotated : MayBeAnnotation []
unannotated = without_annotation refl

bare : {ts : List Lexeme} {c : NameClassAt written} → IsBareBasic ts c → IsBasic ts c
bare b = annotated_basic unannotated b refl

in_parentheses : (n : ℕ) (ms : List Mark) (t : NameClassAt written) → IsClass (lexemes_from (suc n) ms) t → IsBasic (lexemes_from n (in_parentheses_if true ms)) t
in_parentheses n ms t c =
    bare (class_in_parens c (ap (λ (x : List Lexeme). lexeme.sign signs.OpenParenthesis ∷ x) (lexemes_append (suc n) ms (sign signs.CloseParenthesis ∷ []))))

name_basic : (ns : List (List ℕ)) (u l : List ℕ) (n : ℕ) → IsBasic (lexemes_from n (name_mark ns u l ∷ [])) (syntax.name_is (written_name ns u l))
name_basic ns [] l n = bare (word_class (word_is l n) refl)
name_basic ns (c ∷ u) l n = bare (cname_class refl)

-- a member and those after it
and_more : (n : ℕ) (ms ks : List Mark) (t : NameClassAt written) (b : List Lexeme) (ts : List (NameClassAt written)) → IsBasic (lexemes_from (suc n) ms) t
    → AreMoreClasses b ts
    → lexemes_from (place_behind (suc n) ms) ks ≡ b → AreMoreClasses (lexemes_from n (space ∷ sign signs.Bar ∷ space ∷ (ms ++ ks))) (t ∷ ts)
and_more n ms ks t b ts basic more e =
    more_classes basic more
    (ap (λ (x : List Lexeme). lexeme.sign signs.Bar ∷ x) (lexemes_append (suc n) ms ks ∙ ap (λ (x : List Lexeme). lexemes_from (suc n) ms ++ x) e))

-- the last member
and_last : (n : ℕ) (ms : List Mark) (t : NameClassAt written) → IsBasic (lexemes_from (suc n) ms) t
    → AreMoreClasses (lexemes_from n (space ∷ sign signs.Bar ∷ space ∷ (ms ++ []))) (t ∷ [])
and_last n ms t basic = last_class basic (ap (λ (x : List Mark). lexeme.sign signs.Bar ∷ lexemes_from (suc n) x) (append-nil ms))

-- the tokens of a member, and the tokens of a first member followed by more
abbrev Basic : List (List ℕ) → names.NameClass → Type 0
Basic ns c = (n : ℕ) → IsBasic (lexemes_from n (in_parentheses_if (is_choice c || is_except c) (class_marks ns c))) (class_of ns c)

abbrev First : List (List ℕ) → names.NameClass → Type 0
First ns c =
    (n : ℕ) (b : List Lexeme) (ts : List (NameClassAt written)) → AreMoreClasses b ts
    → IsClass (lexemes_from n (in_parentheses_if (is_except c) (class_marks ns c)) ++ b) (choice_of (members_in (class_of ns c) ++ ts))

-- the first member of a choice is a choice, whose members become members
first_choice : (n : ℕ) (left right : List Mark) (t : List (NameClassAt written)) (us : List (NameClassAt written)) (b : List Lexeme) (ts : List (NameClassAt written))
    → ((b : List Lexeme) (ts : List (NameClassAt written)) → AreMoreClasses b ts → IsClass (lexemes_from n left ++ b) (choice_of (t ++ ts)))
    → AreMoreClasses (lexemes_from (place_behind n left) right ++ b) (us ++ ts)
    → IsClass (lexemes_from n (left ++ right) ++ b) (choice_of (members_in (choice_of (t ++ us)) ++ ts))
first_choice n left right t us b ts first more =
    rw (lexemes_append n left right, append_assoc (lexemes_from n left) (lexemes_from (place_behind n left) right) b, listed (t ++ us), append_assoc t us ts)
    (first (lexemes_from (place_behind n left) right ++ b) (us ++ ts) more)

-- more members after members
more_behind : {a : List Lexeme} {us : List (NameClassAt written)} → AreMoreClasses a us → (b : List Lexeme) (ts : List (NameClassAt written)) → AreMoreClasses b ts
    → AreMoreClasses (a ++ b) (us ++ ts)
more_behind (last_class {ts = a} {a = x} {c} basic e) b ts more = more_classes basic more (ap (λ (y : List Lexeme). y ++ b) e)
more_behind (more_classes {ts = a} {cs} {a = x} {b = y} {c} basic rest e) b ts more =
    more_classes basic (more_behind rest b ts more)
    (ap (λ (z : List Lexeme). z ++ b) e ∙ ap (λ (z : List Lexeme). lexeme.sign signs.Bar ∷ z) (append_assoc x y b))

mutual
  pub is_class : (ns : List (List ℕ)) (c : names.NameClass) (n : ℕ) → IsClass (lexemes_from n (class_marks ns c)) (class_of ns c)
  is_class ns names.any_name n = basic_class (bare (any_class refl))
  is_class ns (names.any_except c) n = name_classes.any_except unannotated (is_basic ns c (suc (suc n))) refl
  is_class ns (names.ns_name u) n = basic_class (bare (ns_class refl))
  is_class ns (names.ns_except u c) n = name_classes.ns_except unannotated (is_basic ns c (suc (suc n))) refl
  is_class ns (names.name_is k) n = basic_class (name_basic ns k.ns k.local n)
  is_class ns (names.one_of c d cs) n =
      let left = in_parentheses_if (is_except c) (class_marks ns c) in
      subst (λ (x : List Lexeme). IsClass x (class_of ns (names.one_of c d cs))) (sym (lexemes_append n left _))
      (is_first ns c n _ _ (are_more ns d (is_basic ns d) cs (place_behind n left)))

  is_basic : (ns : List (List ℕ)) (c : names.NameClass) → Basic ns c
  is_basic ns names.any_name n = bare (any_class refl)
  is_basic ns (names.any_except c) n =
      in_parentheses n (class_marks ns (names.any_except c)) _ (name_classes.any_except unannotated (is_basic ns c (suc (suc (suc n)))) refl)
  is_basic ns (names.ns_name u) n = bare (ns_class refl)
  is_basic ns (names.ns_except u c) n =
      in_parentheses n (class_marks ns (names.ns_except u c)) _ (name_classes.ns_except unannotated (is_basic ns c (suc (suc (suc n)))) refl)
  is_basic ns (names.name_is k) n = name_basic ns k.ns k.local n
  is_basic ns (names.one_of c d cs) n =
      let left = in_parentheses_if (is_except c) (class_marks ns c) in
      in_parentheses n (class_marks ns (names.one_of c d cs)) _
      (subst (λ (x : List Lexeme). IsClass x (class_of ns (names.one_of c d cs))) (sym (lexemes_append (suc n) left _))
      (is_first ns c (suc n) _ _ (are_more ns d (is_basic ns d) cs (place_behind (suc n) left))))

  is_first : (ns : List (List ℕ)) (c : names.NameClass) → First ns c
  is_first ns names.any_name n b ts more = choice_class (bare (any_class refl)) more refl refl
  is_first ns (names.any_except c) n b ts more =
      choice_class
      (in_parentheses n (class_marks ns (names.any_except c)) _ (name_classes.any_except unannotated (is_basic ns c (suc (suc (suc n)))) refl)) more refl refl
  is_first ns (names.ns_name u) n b ts more = choice_class (bare (ns_class refl)) more refl refl
  is_first ns (names.ns_except u c) n b ts more =
      choice_class
      (in_parentheses n (class_marks ns (names.ns_except u c)) _ (name_classes.ns_except unannotated (is_basic ns c (suc (suc (suc n)))) refl)) more refl refl
  is_first ns (names.name_is k) n b ts more = choice_class (name_basic ns k.ns k.local n) more refl refl
  is_first ns (names.one_of c d cs) n b ts more =
      let left = in_parentheses_if (is_except c) (class_marks ns c) in
      first_choice n left _ (members_in (class_of ns c)) _ b ts (is_first ns c n)
      (more_behind (are_more ns d (is_basic ns d) cs (place_behind n left)) b ts more)

  are_more : (ns : List (List ℕ)) (d : names.NameClass) → Basic ns d → (cs : names.NameClasses) (n : ℕ)
      → AreMoreClasses
      (lexemes_from n (space ∷ sign signs.Bar ∷ space ∷ (in_parentheses_if (is_choice d || is_except d) (class_marks ns d) ++ classes_marks ns cs)))
      (class_of ns d ∷ lines.classes_of ns cs)
  are_more ns d basic names.no_classes n = and_last n (in_parentheses_if (is_choice d || is_except d) (class_marks ns d)) _ (basic (suc n))
  are_more ns d basic (names.class_and c cs) n =
      and_more n (in_parentheses_if (is_choice d || is_except d) (class_marks ns d)) _ _ _ _ (basic (suc n))
      (are_more ns c (is_basic ns c) cs (place_behind (suc n) (in_parentheses_if (is_choice d || is_except d) (class_marks ns d)))) refl

-- ---- datatypes

-- the token of the name of a datatype, in front of others
record TypeToken (n : ℕ) (d : Datatype) : Type 0 where
  token : Lexeme
  is : type_of token ≡ Some (lines.type_of d.library d.name)
  behind : (ms : List Mark) → lexemes_from n (type_mark d ∷ ms) ≡ token ∷ lexemes_from (suc n) ms

string_word : (n : ℕ) → type_of (word_at (codes "string") n) ≡ Some string_type
unfolding keyword_of
string_word n = refl

token_word : (n : ℕ) → type_of (word_at (codes "token") n) ≡ Some token_type
unfolding keyword_of
token_word n = refl

type_token : (n : ℕ) (library name : List ℕ) (ps : List (List ℕ × List ℕ)) → CanBeNamed library name
    → TypeToken n (record { library = library; name = name; parameters = ps })
type_token n library name ps (inl k) = subst (λ (x : List ℕ). TypeToken n (record { library = x; name = name; parameters = ps })) (sym k.0) (named k.1)
  where
    named : (name ≡ codes "string") ⊎ (name ≡ codes "token") → TypeToken n (record { library = []; name = name; parameters = ps })
    named (inl e) =
        subst (λ (x : List ℕ). TypeToken n (record { library = []; name = x; parameters = ps })) (sym e)
        (record { token = word_at (codes "string") n; is = string_word n; behind = λ ms. refl })
    named (inr e) =
        subst (λ (x : List ℕ). TypeToken n (record { library = []; name = x; parameters = ps })) (sym e)
        (record { token = word_at (codes "token") n; is = token_word n; behind = λ ms. refl })
type_token n library name ps (inr k) =
    subst (λ (x : List ℕ). TypeToken n (record { library = x; name = name; parameters = ps })) (sym k.0)
    (record { token = lexeme.cname (codes "xsd") name; is = refl; behind = λ ms. refl })

are_parameters : (ps : List (List ℕ × List ℕ)) (n : ℕ) → AreParameters (lexemes_from n (flat_map parameter_marks ps)) ps
are_parameters [] n = no_parameters refl
are_parameters (p ∷ ps) n =
    and_parameter (word_at p.0 n) unannotated (word_is p.0 n) (is_literal p.1 (suc (suc n)))
    (are_parameters ps (place_behind (suc (suc n)) (literal_marks p.1 ++ space ∷ [])))
    (ap (λ (x : List Lexeme). word_at p.0 n ∷ lexeme.sign signs.Equal ∷ x)
    (lexemes_append (suc (suc n)) (literal_marks p.1 ++ space ∷ []) (flat_map parameter_marks ps)
    ∙ ap (λ (x : List Lexeme). x ++ lexemes_from (place_behind (suc (suc n)) (literal_marks p.1 ++ space ∷ [])) (flat_map parameter_marks ps))
    (lexemes_space (suc (suc n)) (literal_marks p.1))))

may_be_parameters : (ps : List (List ℕ × List ℕ)) (n : ℕ) → MayBeParameters (lexemes_from n (parameters_marks ps)) ps
may_be_parameters [] n = without_parameters refl
may_be_parameters (p ∷ ps) n =
    with_parameters (are_parameters (p ∷ ps) (suc n))
    (ap (λ (x : List Lexeme). lexeme.sign signs.OpenBrace ∷ x) (lexemes_append (suc n) (flat_map parameter_marks (p ∷ ps)) (sign signs.CloseBrace ∷ [])))

-- ---- patterns

-- no name of an item is a keyword
abbrev pub AreIdentifiers : List PrintedItem → Type 0
AreIdentifiers items = (i : PrintedItem) → keyword_of (item_name items i) ≡ None

bare_primary : {ts : List Lexeme} {t : PatternAt written} → IsBarePrimary ts t → IsPrimary ts t
bare_primary p = annotated_primary unannotated p refl

name_primary : (items : List PrintedItem) → AreIdentifiers items → (i : PrintedItem) (n : ℕ)
    → IsPrimary (lexemes_from n (word (item_name items i) ∷ [])) (syntax.ref (item_name items i))
name_primary items ids i n = bare_primary (grammar.ref (ap (λ (x : Lexeme). x ∷ []) (identifier_is (item_name items i) n (ids i))))

-- the datatypes in the tree itself are known
abbrev pub KnowsType : Simple ℕ → Type 0
KnowsType (s_data d) = CanBeNamed d.library d.name
KnowsType (s_value d v) = CanBeNamed d.library d.name
KnowsType _ = Unit {0}

data_primary : (d : Datatype) (n : ℕ) → CanBeNamed d.library d.name
    → IsPrimary (lexemes_from n (datatype_marks d)) (syntax.data_of (lines.type_of d.library d.name) d.parameters)
data_primary d n k = let t = type_token n d.library d.name d.parameters k in
    bare_primary (grammar.data_of t.is (may_be_parameters d.parameters (suc n)) (t.behind (parameters_marks d.parameters)))

value_primary : (d : Datatype) (v : List ℕ) (n : ℕ) → CanBeNamed d.library d.name
    → IsPrimary (lexemes_from n (type_mark d ∷ space ∷ literal_marks v)) (syntax.value (lines.type_of d.library d.name) v)
value_primary d v n k = let t = type_token n d.library d.name d.parameters k in
    bare_primary (grammar.value t.is (is_literal v (suc n)) (t.behind (space ∷ literal_marks v)))

reference_primary : (items : List PrintedItem) → AreIdentifiers items → (s : Simple ℕ) (n : ℕ) → KnowsType s
    → IsPrimary (lexemes_from n (reference_marks items s)) (reference_of items s)
unfolding keyword_of
reference_primary items ids s_not_allowed n k = bare_primary (grammar.not_allowed refl)
reference_primary items ids s_empty n k = bare_primary (grammar.empty refl)
reference_primary items ids s_text n k = bare_primary (grammar.text refl)
reference_primary items ids (s_leaf e) n k = name_primary items ids (element e) n
reference_primary items ids (s_data d) n k = data_primary d n k
reference_primary items ids (s_value d v) n k = value_primary d v n k
reference_primary items ids (s_attribute c a) n k = name_primary items ids (pattern (s_attribute c a)) n
reference_primary items ids (s_list a) n k = name_primary items ids (pattern (s_list a)) n
reference_primary items ids (s_data_except d a) n k = name_primary items ids (pattern (s_data_except d a)) n
reference_primary items ids (s_one_or_more a) n k = name_primary items ids (pattern (s_one_or_more a)) n
reference_primary items ids (s_joined j a b) n k = name_primary items ids (pattern (s_joined j a b)) n

reference_pattern : (items : List PrintedItem) → AreIdentifiers items → (s : Simple ℕ) (n : ℕ) → KnowsType s
    → IsPattern (lexemes_from n (reference_marks items s)) (reference_of items s)
reference_pattern items ids s n k = one_particle (once (reference_primary items ids s n k))

braced : (n : ℕ) (ms : List Mark) (t : PatternAt written) → IsPattern (lexemes_from (suc n) ms) t → IsBraced (lexemes_from n (braced_marks ms)) t
braced n ms t p = in_braces p (ap (λ (x : List Lexeme). lexeme.sign signs.OpenBrace ∷ x) (lexemes_append (suc n) ms (space ∷ sign signs.CloseBrace ∷ [])))

-- members on both sides of a connector
two_members : (items : List PrintedItem) (k : Connector) (a b : List Mark) (t u : PatternAt written) (n : ℕ) → IsPrimary (lexemes_from n a) t
    → ((n : ℕ) → IsPrimary (lexemes_from n b) u) → IsPattern (lexemes_from n (a ++ (connector_marks k ++ b))) (syntax.members k (t ∷ u ∷ []))
two_members items choice a b t u n p q =
    particles {s = signs.Bar} refl (once p) (last_particle (once (q (suc (place_behind n a)))) refl) (lexemes_append n a (connector_marks choice ++ b)) refl
two_members items group a b t u n p q =
    particles {s = signs.Comma} refl (once p) (last_particle (once (q (suc (place_behind n a)))) refl) (lexemes_append n a (connector_marks group ++ b)) refl
two_members items interleave a b t u n p q =
    particles {s = signs.And} refl (once p) (last_particle (once (q (suc (place_behind n a)))) refl) (lexemes_append n a (connector_marks interleave ++ b)) refl

-- the datatypes that a line writes are known
abbrev pub KnowsTypes : Simple ℕ → Type 0
KnowsTypes (s_joined k a b) = KnowsType a × KnowsType b
KnowsTypes (s_one_or_more a) = KnowsType a
KnowsTypes (s_list a) = KnowsType a
KnowsTypes (s_attribute c a) = KnowsType a
KnowsTypes (s_data_except d a) = CanBeNamed d.library d.name × KnowsType a
KnowsTypes s = KnowsType s

-- a class and a body in braces
classed : (ns : List (List ℕ)) (items : List PrintedItem) (c : names.NameClass) (a : Simple ℕ) (n : ℕ)
    → lexemes_from n (class_marks ns c ++ space ∷ braced_marks (reference_marks items a))
    ≡ lexemes_from n (class_marks ns c) ++ lexemes_from (place_behind n (class_marks ns c)) (braced_marks (reference_marks items a))
classed ns items c a n = lexemes_append n (class_marks ns c) (space ∷ braced_marks (reference_marks items a))

list_word : (n : ℕ) (ts : List Lexeme) (t : PatternAt written) → IsBraced ts t → IsPrimary (word_at (codes "list") n ∷ ts) (syntax.list t)
unfolding keyword_of
list_word n ts t b = bare_primary (grammar.list b refl)

attribute_word : (n : ℕ) (ts a b : List Lexeme) (c : NameClassAt written) (t : PatternAt written) → IsClass a c → IsBraced b t → ts ≡ a ++ b
    → IsPrimary (word_at (codes "attribute") n ∷ ts) (syntax.attribute c t)
unfolding keyword_of
attribute_word n ts a b c t p q e = bare_primary (grammar.attribute p q (ap (λ (x : List Lexeme). word_at (codes "attribute") n ∷ x) e))

element_word : (n : ℕ) (ts a b : List Lexeme) (c : NameClassAt written) (t : PatternAt written) → IsClass a c → IsBraced b t → ts ≡ a ++ b
    → IsPrimary (word_at (codes "element") n ∷ ts) (syntax.element c t)
unfolding keyword_of
element_word n ts a b c t p q e = bare_primary (grammar.element p q (ap (λ (x : List Lexeme). word_at (codes "element") n ∷ x) e))

pattern_sentence : (ns : List (List ℕ)) (items : List PrintedItem) → AreIdentifiers items → (s : Simple ℕ) (n : ℕ) → KnowsTypes s
    → IsPattern (lexemes_from n (pattern_marks ns items s)) (pattern_of ns items s)
pattern_sentence ns items ids (s_joined j a b) n k =
    two_members items j (reference_marks items a) (reference_marks items b) _ _ n (reference_primary items ids a n k.0)
    (λ n. reference_primary items ids b n k.1)
pattern_sentence ns items ids (s_one_or_more a) n k =
    one_particle (grammar.one_or_more (reference_primary items ids a n k) (lexemes_append n (reference_marks items a) (sign signs.Plus ∷ [])))
pattern_sentence ns items ids (s_list a) n k =
    one_particle (once (list_word n _ _ (braced (suc n) (reference_marks items a) _ (reference_pattern items ids a (suc (suc n)) k))))
pattern_sentence ns items ids (s_attribute c a) n k =
    one_particle
    (once (attribute_word n _ _ _ _ _ (is_class ns c (suc n))
    (braced (place_behind (suc n) (class_marks ns c)) (reference_marks items a) _ (reference_pattern items ids a _ k)) (classed ns items c a (suc n))))
pattern_sentence ns items ids (s_data_except d a) n k =
    let t = type_token n d.library d.name d.parameters k.0 in
    grammar.data_except t.token unannotated t.is (may_be_parameters d.parameters (suc n)) (reference_primary items ids a _ k.1)
    (t.behind (parameters_marks d.parameters ++ space ∷ sign signs.Minus ∷ space ∷ reference_marks items a)
    ∙ ap (λ (x : List Lexeme). t.token ∷ x)
    (lexemes_append (suc n) (parameters_marks d.parameters) (space ∷ sign signs.Minus ∷ space ∷ reference_marks items a)))
pattern_sentence ns items ids s_not_allowed n k = reference_pattern items ids s_not_allowed n k
pattern_sentence ns items ids s_empty n k = reference_pattern items ids s_empty n k
pattern_sentence ns items ids s_text n k = reference_pattern items ids s_text n k
pattern_sentence ns items ids (s_leaf e) n k = reference_pattern items ids (s_leaf e) n k
pattern_sentence ns items ids (s_data d) n k = reference_pattern items ids (s_data d) n k
pattern_sentence ns items ids (s_value d v) n k = reference_pattern items ids (s_value d v) n k

-- ---- lines

abbrev pub KnowsItem : Grammar → PrintedItem → Type 0
KnowsItem g (element k) = KnowsType (element_at g k).1
KnowsItem g (pattern s) = KnowsTypes s

item_sentence : (g : Grammar) (ns : List (List ℕ)) (items : List PrintedItem) → AreIdentifiers items → (i : PrintedItem) (n : ℕ) → KnowsItem g i
    → IsPattern (lexemes_from n (item_marks g ns items i)) (item_pattern g ns items i)
item_sentence g ns items ids (element e) n k =
    let c = (element_at g e).0 in
    let a = (element_at g e).1 in
    one_particle
    (once (element_word n _ _ _ _ _ (is_class ns c (suc n))
    (braced (place_behind (suc n) (class_marks ns c)) (reference_marks items a) _ (reference_pattern items ids a _ k)) (classed ns items c a (suc n))))
item_sentence g ns items ids (pattern s) n k = pattern_sentence ns items ids s n k

bare_component : {ts : List Lexeme} {c : ComponentAt written} → IsBareComponent content ts c → IsComponent content ts c
bare_component b = annotated_component unannotated b refl

define_line : (name : List ℕ) (ms : List Mark) (t : PatternAt written) (n : ℕ) → keyword_of name ≡ None → IsPattern (lexemes_from (suc (suc n)) ms) t
    → IsComponent content (lexemes_from n (line_marks name ms)) (syntax.define name methods.Plain t)
define_line name ms t n e p =
    bare_component (grammar.define {x = lexeme.sign signs.Equal} refl p
    (ap (λ (x : Lexeme). x ∷ lexeme.sign signs.Equal ∷ lexemes_from (suc (suc n)) (ms ++ line_end ∷ [])) (identifier_is name n e)
    ∙ ap (λ (x : List Lexeme). identifier name ∷ lexeme.sign signs.Equal ∷ x) (lexemes_line (suc (suc n)) ms)))

start_line : (ms : List Mark) (t : PatternAt written) (n : ℕ) → IsPattern (lexemes_from (suc (suc n)) ms) t
    → IsComponent content (lexemes_from n (line_marks (codes "start") ms)) (syntax.start methods.Plain t)
unfolding keyword_of
start_line ms t n p =
    bare_component (grammar.start {x = lexeme.sign signs.Equal} refl p
    (ap (λ (x : List Lexeme). word_at (codes "start") n ∷ lexeme.sign signs.Equal ∷ x) (lexemes_line (suc (suc n)) ms)))

item_lines : (g : Grammar) (ns : List (List ℕ)) (items : List PrintedItem) → AreIdentifiers items → (some : List PrintedItem) → AllByRecursion (KnowsItem g) some → (n : ℕ)
    → AreComponents content (lexemes_from n (flat_map (item_line_marks g ns items) some))
    (map (λ i. syntax.define (item_name items i) methods.Plain (item_pattern g ns items i)) some)
item_lines g ns items ids [] k n = no_components refl
item_lines g ns items ids (i ∷ some) k n =
    and_component (define_line (item_name items i) (item_marks g ns items i) _ n (ids i) (item_sentence g ns items ids i (suc (suc n)) k.0))
    (item_lines g ns items ids some k.1 (place_behind n (item_line_marks g ns items i)))
    (lexemes_append n (item_line_marks g ns items i) (flat_map (item_line_marks g ns items) some))

all_components : (g : Grammar) (ns : List (List ℕ)) (items : List PrintedItem) → AreIdentifiers items → KnowsType g.start → AllByRecursion (KnowsItem g) items
    → (n : ℕ)
    → AreComponents content (lexemes_from n (line_marks (codes "start") (reference_marks items g.start) ++ flat_map (item_line_marks g ns items) items))
    (components g ns items)
all_components g ns items ids s k n =
    and_component (start_line (reference_marks items g.start) _ n (reference_pattern items ids g.start (suc (suc n)) s))
    (item_lines g ns items ids items k (place_behind n (line_marks (codes "start") (reference_marks items g.start))))
    (lexemes_append n (line_marks (codes "start") (reference_marks items g.start)) (flat_map (item_line_marks g ns items) items))

-- ---- declarations

namespace_sentence : (ns : List (List ℕ)) (u : List ℕ) (n : ℕ)
    → IsDeclaration (lexemes_from n (namespace_marks ns u)) (syntax.namespace (prefix_of ns u) (syntax.literal u))
unfolding keyword_of
namespace_sentence ns u n =
    grammar.namespace (word_is (prefix_of ns u) (suc n)) (grammar.literal (is_literal u (suc (suc (suc n)))))
    (ap (λ (x : List Lexeme). word_at (codes "namespace") n ∷ word_at (prefix_of ns u) (suc n) ∷ lexeme.sign signs.Equal ∷ x)
    (lexemes_line (suc (suc (suc n))) (literal_marks u)))

all_declarations : (ns us : List (List ℕ)) (n : ℕ)
    → AreDeclarations (lexemes_from n (flat_map (namespace_marks ns) us)) (map (λ u. syntax.namespace (prefix_of ns u) (syntax.literal u)) us)
all_declarations ns [] n = no_declarations refl
all_declarations ns (u ∷ us) n =
    and_declaration (namespace_sentence ns u n) (all_declarations ns us (place_behind n (namespace_marks ns u)))
    (lexemes_append n (namespace_marks ns u) (flat_map (namespace_marks ns) us))

-- the tokens of the printed lines are a sentence, with this syntax tree
pub lines_sentence : (g : Grammar) (ns : List (List ℕ)) (items : List PrintedItem) → AreIdentifiers items → KnowsType g.start → AllByRecursion (KnowsItem g) items
    → (n : ℕ) → IsFile (lexemes_from n (lines_marks g ns items)) (file g ns items)
lines_sentence g ns items ids s k n =
    let front = flat_map (namespace_marks ns) ns in
    grammar.file (all_declarations ns ns n) (grammar_body (all_components g ns items ids s k (place_behind n front)) refl)
    (lexemes_append n front (line_marks (codes "start") (reference_marks items g.start) ++ flat_map (item_line_marks g ns items) items))
