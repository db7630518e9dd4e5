-- The mentions of a file are in the order of their tokens. The mentions of a syntax tree have the numbers of keywords
-- among its tokens, in order, and a file tree has the mentions of its syntax tree.
use Rattle.std.proofs.Common.{◌≡◌, ◌∙◌, ap₂, refl, ℕ, List, [], ◌∷◌, ◌++◌, map, Option, Some, None}
use Rattle.std.proofs.lemmas.List.{append-nil, map-append}
use Rattle.std.specs.List.Sorted.{IsStrictlyIncreasing}
use Rattle.rnc_model.specs.grammar.Grammar as grammar
use Rattle.rnc_model.specs.grammar.Grammar.{IsPattern, AreMore, IsParticle, IsPrimary, IsBarePrimary, IsBraced, AreComponents, IsComponent, IsBareComponent}
use Rattle.rnc_model.specs.grammar.Grammar.{MayOverride, IsBody, IsFile, Setting}
use Rattle.rnc_model.specs.tokens.Cut.{Lexeme, lexemes, Token}
use Rattle.rnc_model.specs.grammar.Syntax as syntax
use Rattle.rnc_model.specs.grammar.Syntax.{applied, written, given}
use Rattle.rnc_model.specs.declarations.FileTree as tree
use Rattle.rnc_model.specs.declared.token.Sign.{Sign}
use Rattle.rnc_model.specs.declarations.Declarations.{◌>>=◌, Scope, class_in, type_in, default_of, handed_on, mention_in, pattern_in, patterns_in, component_in}
use Rattle.rnc_model.specs.declarations.Declarations.{components_in, body_in, declare_all, nothing_declared, file_tree}
use Rattle.rnc_model.specs.loading.Mentions.{MentionedFile, mention_of, mentions_of, mentions_of_pattern, mentions_of_patterns, mentions_of_component}
use Rattle.rnc_model.specs.loading.Mentions.{mentions_of_components}
use Rattle.rnc_model.specs.loading.SchemaFile.{IsFileTree}
use Rattle.rnc_grammar.proofs.AppliedTrees.{made_where_applied}
use Rattle.rnc_grammar.proofs.KeywordNumbers.{AreNumbersIn, no_numbers, number_here, numbers_later, numbers_after, numbers_before, numbers_of_both}
use Rattle.rnc_grammar.proofs.KeywordNumbers.{numbers_increase}

-- ---- the tokens of the mentions in a syntax tree

abbrev mutual
  tokens_in : syntax.PatternAt written → List ℕ
  tokens_in (syntax.element c p) = tokens_in p
  tokens_in (syntax.attribute c p) = tokens_in p
  tokens_in (syntax.list p) = tokens_in p
  tokens_in (syntax.mixed p) = tokens_in p
  tokens_in (syntax.optional p) = tokens_in p
  tokens_in (syntax.zero_or_more p) = tokens_in p
  tokens_in (syntax.one_or_more p) = tokens_in p
  tokens_in (syntax.ref n) = []
  tokens_in (syntax.parent_ref n) = []
  tokens_in syntax.empty = []
  tokens_in syntax.text = []
  tokens_in syntax.not_allowed = []
  tokens_in (syntax.value d v) = []
  tokens_in (syntax.data_of d ps) = []
  tokens_in (syntax.data_except d ps p) = tokens_in p
  tokens_in (syntax.external m) = m.token ∷ []
  tokens_in (syntax.grammar cs) = tokens_in_components cs
  tokens_in (syntax.joined k ps) = tokens_in_patterns ps

  tokens_in_patterns : syntax.PatternsAt written → List ℕ
  tokens_in_patterns syntax.no_patterns = []
  tokens_in_patterns (syntax.pattern_and p ps) = tokens_in p ++ tokens_in_patterns ps

  tokens_in_component : syntax.ComponentAt written → List ℕ
  tokens_in_component (syntax.start m p) = tokens_in p
  tokens_in_component (syntax.define n m p) = tokens_in p
  tokens_in_component (syntax.div cs) = tokens_in_components cs
  tokens_in_component (syntax.include m cs) = m.token ∷ tokens_in_components cs

  tokens_in_components : syntax.ComponentsAt written → List ℕ
  tokens_in_components syntax.no_components = []
  tokens_in_components (syntax.component_and c cs) = tokens_in_component c ++ tokens_in_components cs

abbrev tokens_in_body : syntax.Body → List ℕ
tokens_in_body (syntax.pattern_body p) = tokens_in p
tokens_in_body (syntax.grammar_body cs) = tokens_in_components cs

-- ---- they are numbers of keywords, in order

mutual
  pattern_within : {ts : List Lexeme} {p : syntax.PatternAt written} → IsPattern ts p → AreNumbersIn (tokens_in p) ts
  pattern_within (grammar.one_particle q) = particle_within q
  pattern_within (grammar.particles k q more parts is) = rw (parts, is) (numbers_of_both (particle_within q) (more_within more))
  pattern_within (grammar.data_except x n type ps q parts) = rw parts (numbers_after _ (numbers_later (numbers_after _ (numbers_later (primary_within q)))))

  more_within : {s : Sign} {ts : List Lexeme} {ps : List (syntax.PatternAt written)} → AreMore s ts ps
      → AreNumbersIn (tokens_in_patterns (syntax.patterns_of ps)) ts
  more_within (grammar.last_particle q parts) = rw (parts, append-nil) (numbers_later (particle_within q))
  more_within (grammar.more_particles q more parts) = rw parts (numbers_later (numbers_of_both (particle_within q) (more_within more)))

  particle_within : {ts : List Lexeme} {p : syntax.PatternAt written} → IsParticle ts p → AreNumbersIn (tokens_in p) ts
  particle_within (grammar.once q) = primary_within q
  particle_within (grammar.optional q parts) = rw parts (numbers_before _ (primary_within q))
  particle_within (grammar.zero_or_more q parts) = rw parts (numbers_before _ (primary_within q))
  particle_within (grammar.one_or_more q parts) = rw parts (numbers_before _ (primary_within q))

  primary_within : {ts : List Lexeme} {p : syntax.PatternAt written} → IsPrimary ts p → AreNumbersIn (tokens_in p) ts
  primary_within (grammar.annotated_primary n q parts) = rw parts (numbers_after _ (bare_primary_within q))

  bare_primary_within : {ts : List Lexeme} {p : syntax.PatternAt written} → IsBarePrimary ts p → AreNumbersIn (tokens_in p) ts
  bare_primary_within (grammar.element c q parts) = rw parts (numbers_later (numbers_after _ (braced_within q)))
  bare_primary_within (grammar.attribute c q parts) = rw parts (numbers_later (numbers_after _ (braced_within q)))
  bare_primary_within (grammar.list q parts) = rw parts (numbers_later (braced_within q))
  bare_primary_within (grammar.mixed q parts) = rw parts (numbers_later (braced_within q))
  bare_primary_within (grammar.ref parts) = no_numbers
  bare_primary_within (grammar.parent_ref parts) = no_numbers
  bare_primary_within (grammar.empty parts) = no_numbers
  bare_primary_within (grammar.text parts) = no_numbers
  bare_primary_within (grammar.not_allowed parts) = no_numbers
  bare_primary_within (grammar.untyped_value v) = no_numbers
  bare_primary_within (grammar.value type v parts) = no_numbers
  bare_primary_within (grammar.data_of type ps parts) = no_numbers
  bare_primary_within (grammar.external v p parts is) = rw (parts, is) (number_here refl no_numbers)
  bare_primary_within (grammar.grammar cs parts is) = rw (parts, is) (numbers_later (numbers_later (numbers_before _ (components_within cs))))
  bare_primary_within (grammar.in_parens q parts) = rw parts (numbers_later (numbers_before _ (pattern_within q)))

  braced_within : {ts : List Lexeme} {p : syntax.PatternAt written} → IsBraced ts p → AreNumbersIn (tokens_in p) ts
  braced_within (grammar.in_braces q parts) = rw parts (numbers_later (numbers_before _ (pattern_within q)))

  components_within : {w : Setting} {ts : List Lexeme} {cs : List (syntax.ComponentAt written)} → AreComponents w ts cs
      → AreNumbersIn (tokens_in_components (syntax.components_of cs)) ts
  components_within (grammar.no_components parts) = no_numbers
  components_within (grammar.and_component c cs parts) = rw parts (numbers_of_both (component_within c) (components_within cs))

  component_within : {w : Setting} {ts : List Lexeme} {c : syntax.ComponentAt written} → IsComponent w ts c → AreNumbersIn (tokens_in_component c) ts
  component_within (grammar.annotated_component n c parts) = rw parts (numbers_after _ (bare_component_within c))

  bare_component_within : {w : Setting} {ts : List Lexeme} {c : syntax.ComponentAt written} → IsBareComponent w ts c → AreNumbersIn (tokens_in_component c) ts
  bare_component_within (grammar.start m q parts) = rw parts (numbers_later (numbers_later (pattern_within q)))
  bare_component_within (grammar.define m q parts) = rw parts (numbers_later (numbers_later (pattern_within q)))
  bare_component_within (grammar.div cs parts is) = rw (parts, is) (numbers_later (numbers_later (numbers_before _ (components_within cs))))
  bare_component_within (grammar.include setting v p over parts is) =
      rw (parts, is) (number_here refl (numbers_after _ (numbers_after _ (overrides_within over))))

  overrides_within : {ts : List Lexeme} {cs : List (syntax.ComponentAt written)} → MayOverride ts cs
      → AreNumbersIn (tokens_in_components (syntax.components_of cs)) ts
  overrides_within (grammar.without_overrides parts) = no_numbers
  overrides_within (grammar.with_overrides cs parts) = rw parts (numbers_later (numbers_before _ (components_within cs)))

body_within : {ts : List Lexeme} {b : syntax.Body} → IsBody ts b → AreNumbersIn (tokens_in_body b) ts
body_within (grammar.pattern_body q) = pattern_within q
body_within (grammar.grammar_body cs is) = rw is (components_within cs)

file_within : {ts : List Lexeme} {f : syntax.File} → IsFile ts f → AreNumbersIn (tokens_in_body f.body) ts
file_within (grammar.file ds b parts) = rw parts (numbers_after _ (body_within b))

-- ---- a file tree has the mentions of its syntax tree

abbrev tokens_of : List MentionedFile → List ℕ
tokens_of ms = map (λ m. (mention_of m).token) ms

-- the value has these tokens, if there is one
data Has {A : Type 0} (tokens : A → List ℕ) : Option A → List ℕ → Type 0 where
  is_none : {ns : List ℕ} → Has tokens None ns
  has_these : {x : A} {ns : List ℕ} → tokens x ≡ ns → Has tokens (Some x) ns

-- what is made of one part has the tokens of this part
one : {A B : Type 0} {tokens : A → List ℕ} {all : B → List ℕ} {ns : List ℕ} (o : Option A) (f : A → B) → ((x : A) → all (f x) ≡ tokens x)
    → Has tokens o ns → Has all (o >>= λ x. Some (f x)) ns
one None f same has = is_none
one (Some x) f same (has_these has) = has_these (same x ∙ has)

-- what follows a part without tokens
then : {A B : Type 0} {all : B → List ℕ} {ns : List ℕ} (o : Option A) (f : A → Option B) → ((x : A) → Has all (f x) ns) → Has all (o >>= f) ns
then None f has = is_none
then (Some x) f has = has x

-- what is made of two parts has the tokens of both
two : {A B C : Type 0} {first : A → List ℕ} {second : B → List ℕ} {all : C → List ℕ} {ns ms : List ℕ} (o : Option A) (q : Option B) (f : A → B → C)
    → ((x : A) (y : B) → all (f x y) ≡ first x ++ second y) → Has first o ns → Has second q ms → Has all (o >>= λ x. q >>= λ y. Some (f x y)) (ns ++ ms)
two None q f same has more = is_none
two (Some x) None f same has more = is_none
two (Some x) (Some y) f same (has_these has) (has_these more) = has_these (same x y ∙ ap₂ (λ ns ms. ns ++ ms) has more)

abbrev tokens_of_pattern : syntax.PatternAt applied → List ℕ
tokens_of_pattern p = tokens_of (mentions_of_pattern p)

abbrev tokens_of_patterns : syntax.PatternsAt applied → List ℕ
tokens_of_patterns ps = tokens_of (mentions_of_patterns ps)

abbrev tokens_of_component : syntax.ComponentAt applied → List ℕ
tokens_of_component c = tokens_of (mentions_of_component c)

abbrev tokens_of_components : syntax.ComponentsAt applied → List ℕ
tokens_of_components cs = tokens_of (mentions_of_components cs)

abbrev token_of_mention : syntax.Mention applied → List ℕ
token_of_mention m = m.token ∷ []

mention_has : (s : Scope) (m : syntax.Mention written) → Has token_of_mention (mention_in s m) (m.token ∷ [])
mention_has s m = then (handed_on s m.inherit) _ (λ u. has_these refl)

mutual
  pattern_has : (s : Scope) (p : syntax.PatternAt written) → Has tokens_of_pattern (pattern_in s p) (tokens_in p)
  pattern_has s (syntax.element c p) = then (class_in s (default_of s) c) _ (λ c. one (pattern_in s p) (syntax.element c) (λ p. refl) (pattern_has s p))
  pattern_has s (syntax.attribute c p) = then (class_in s (given []) c) _ (λ c. one (pattern_in s p) (syntax.attribute c) (λ p. refl) (pattern_has s p))
  pattern_has s (syntax.list p) = one (pattern_in s p) syntax.list (λ p. refl) (pattern_has s p)
  pattern_has s (syntax.mixed p) = one (pattern_in s p) syntax.mixed (λ p. refl) (pattern_has s p)
  pattern_has s (syntax.optional p) = one (pattern_in s p) syntax.optional (λ p. refl) (pattern_has s p)
  pattern_has s (syntax.zero_or_more p) = one (pattern_in s p) syntax.zero_or_more (λ p. refl) (pattern_has s p)
  pattern_has s (syntax.one_or_more p) = one (pattern_in s p) syntax.one_or_more (λ p. refl) (pattern_has s p)
  pattern_has s (syntax.ref n) = has_these refl
  pattern_has s (syntax.parent_ref n) = has_these refl
  pattern_has s syntax.empty = has_these refl
  pattern_has s syntax.text = has_these refl
  pattern_has s syntax.not_allowed = has_these refl
  pattern_has s (syntax.value d v) = then (type_in s d) _ (λ d. has_these refl)
  pattern_has s (syntax.data_of d ps) = then (type_in s d) _ (λ d. has_these refl)
  pattern_has s (syntax.data_except d ps p) = then (type_in s d) _ (λ d. one (pattern_in s p) (syntax.data_except d ps) (λ p. refl) (pattern_has s p))
  pattern_has s (syntax.external m) = one (mention_in s m) syntax.external (λ m. refl) (mention_has s m)
  pattern_has s (syntax.grammar cs) = one (components_in s cs) syntax.grammar (λ cs. refl) (components_have s cs)
  pattern_has s (syntax.joined k ps) = one (patterns_in s ps) (syntax.joined k) (λ ps. refl) (patterns_have s ps)

  patterns_have : (s : Scope) (ps : syntax.PatternsAt written) → Has tokens_of_patterns (patterns_in s ps) (tokens_in_patterns ps)
  patterns_have s syntax.no_patterns = has_these refl
  patterns_have s (syntax.pattern_and p ps) =
      two (pattern_in s p) (patterns_in s ps) syntax.pattern_and (λ p ps. map-append _ (mentions_of_pattern p) (mentions_of_patterns ps)) (pattern_has s p)
      (patterns_have s ps)

  component_has : (s : Scope) (c : syntax.ComponentAt written) → Has tokens_of_component (component_in s c) (tokens_in_component c)
  component_has s (syntax.start m p) = one (pattern_in s p) (syntax.start m) (λ p. refl) (pattern_has s p)
  component_has s (syntax.define n m p) = one (pattern_in s p) (syntax.define n m) (λ p. refl) (pattern_has s p)
  component_has s (syntax.div cs) = one (components_in s cs) syntax.div (λ cs. refl) (components_have s cs)
  component_has s (syntax.include m cs) =
      two (mention_in s m) (components_in s cs) syntax.include (λ m cs. refl) (mention_has s m) (components_have s cs)

  components_have : (s : Scope) (cs : syntax.ComponentsAt written) → Has tokens_of_components (components_in s cs) (tokens_in_components cs)
  components_have s syntax.no_components = has_these refl
  components_have s (syntax.component_and c cs) =
      two (component_in s c) (components_in s cs) syntax.component_and (λ c cs. map-append _ (mentions_of_component c) (mentions_of_components cs))
      (component_has s c) (components_have s cs)

abbrev tokens_of_file : tree.FileTree → List ℕ
tokens_of_file t = tokens_of (mentions_of t)

body_has : (s : Scope) (b : syntax.Body) → Has tokens_of_file (body_in s b) (tokens_in_body b)
body_has s (syntax.pattern_body p) = one (pattern_in s p) tree.pattern_file (λ p. refl) (pattern_has s p)
body_has s (syntax.grammar_body cs) = one (components_in s cs) tree.grammar_file (λ cs. refl) (components_have s cs)

file_has : (f : syntax.File) → Has tokens_of_file (file_tree f) (tokens_in_body f.body)
unfolding file_tree
file_has f = then (declare_all nothing_declared f.declarations) _ (λ s. body_has s f.body)

-- ---- so they are in the order of their tokens

found : {A : Type 0} {tokens : A → List ℕ} {ns : List ℕ} (x : A) → Has tokens (Some x) ns → tokens x ≡ ns
found x (has_these has) = has

pub mentions_in_order : (ts : List Token) (t : tree.FileTree) → IsFileTree (lexemes ts) t
    → IsStrictlyIncreasing (map (λ m. (mention_of m).token) (mentions_of t))
mentions_in_order ts t is =
    let same : tokens_of_file t ≡ tokens_in_body is.file.body = found t (rw (made_where_applied is.file t is.kept is.tree) at (file_has is.file)) in
    rw same (numbers_increase ts (tokens_in_body is.file.body) (file_within is.sentence))
