-- A body has a file tree exactly if each prefix in it is declared.
use Rattle.std.proofs.Common.{◌≡◌, ◌∙◌, ap, ap₂, sym, refl, ℕ, List, [], ◌∷◌, ◌++◌, Bool, true, false, ◌&&◌, Option, Some, None, is_some, inl, inr}
use Rattle.std.proofs.lemmas.Bool.{and_cases, and_left, and_right, true≢false}
use Rattle.std.proofs.lemmas.List.Folds.{list_all-append}
use Rattle.std.proofs.Math.Bool.{and-true}
use Rattle.std.specs.List.{list_all}
use Rattle.rng_model.specs.names.Lists.{Among, here, there}
use Rattle.rnc_model.specs.grammar.Syntax as syntax
use Rattle.rnc_model.specs.grammar.Syntax.{written, Namespace, given}
use Rattle.rnc_model.specs.declarations.FileTree as tree
use Rattle.rnc_model.specs.declarations.Declarations.{◌>>=◌, Scope, namespace_in, library_in, default_of, name_in, class_in, classes_in, type_in, handed_on, mention_in}
use Rattle.rnc_model.specs.declarations.Declarations.{pattern_in, patterns_in, component_in, components_in, body_in}
use Rattle.rnc_model.specs.declarations.DeclarationRules.{Declarable, namespace_prefix, datatype_prefix, default_namespace, IsPrefixIn}
use Rattle.rnc_model.specs.declarations.DeclarationRules.{prefixes_of_name, prefixes_of_class, prefixes_of_classes, prefixes_of_type, prefixes_of_inherit}
use Rattle.rnc_model.specs.declarations.DeclarationRules.{prefixes_of_pattern, prefixes_of_patterns, prefixes_of_component, prefixes_of_components, prefixes_of_body}

-- ---- optional parts

one : {A B : Type 0} (o : Option A) (f : A → B) → is_some (o >>= λ x. Some (f x)) ≡ is_some o
one None f = refl
one (Some x) f = refl

two : {A B C : Type 0} (o : Option A) (q : Option B) (f : A → B → C) → is_some (o >>= λ x. q >>= λ y. Some (f x y)) ≡ (is_some o && is_some q)
two None q f = refl
two (Some x) q f = one q (f x)

-- ---- each prefix is declared

-- it is declared or predeclared
abbrev pub is_known : Scope → Declarable → Bool
is_known s (namespace_prefix p) = is_some (namespace_in s p)
is_known s (datatype_prefix p) = is_some (library_in s p)
is_known s default_namespace = true

abbrev are_known : Scope → List Declarable → Bool
are_known s xs = list_all (is_known s) xs

joined : {A B C : Type 0} (s : Scope) (xs ys : List Declarable) (o : Option A) (q : Option B) (f : A → B → C) → is_some o ≡ are_known s xs
    → is_some q ≡ are_known s ys → is_some (o >>= λ x. q >>= λ y. Some (f x y)) ≡ are_known s (xs ++ ys)
joined s xs ys o q f d e = two o q f ∙ ap₂ (λ a b. a && b) d e ∙ sym (list_all-append (is_known s) xs ys)

name_known : (s : Scope) (ns : Namespace) (n : syntax.NameAt written) → is_some (name_in s ns n) ≡ are_known s (prefixes_of_name n)
name_known s ns (syntax.unprefixed l) = refl
name_known s ns (syntax.prefixed p l) = one (namespace_in s p) _ ∙ sym (and-true _)

mutual
  class_known : (s : Scope) (ns : Namespace) (c : syntax.NameClassAt written) → is_some (class_in s ns c) ≡ are_known s (prefixes_of_class c)
  class_known s ns syntax.any_name = refl
  class_known s ns (syntax.any_except c) = one (class_in s ns c) syntax.any_except ∙ class_known s ns c
  class_known s ns (syntax.ns_name p) = one (namespace_in s p) syntax.ns_name ∙ sym (and-true _)
  class_known s ns (syntax.ns_except p c) =
      joined s (namespace_prefix p ∷ []) (prefixes_of_class c) (namespace_in s p) (class_in s ns c) syntax.ns_except (sym (and-true _)) (class_known s ns c)
  class_known s ns (syntax.name_is n) = one (name_in s ns n) syntax.name_is ∙ name_known s ns n
  class_known s ns (syntax.one_of cs) = one (classes_in s ns cs) syntax.one_of ∙ classes_known s ns cs

  classes_known : (s : Scope) (ns : Namespace) (cs : syntax.NameClassesAt written) → is_some (classes_in s ns cs) ≡ are_known s (prefixes_of_classes cs)
  classes_known s ns syntax.no_classes = refl
  classes_known s ns (syntax.class_and c cs) =
      joined s (prefixes_of_class c) (prefixes_of_classes cs) (class_in s ns c) (classes_in s ns cs) syntax.class_and (class_known s ns c)
      (classes_known s ns cs)

type_known : (s : Scope) (d : syntax.DatatypeName written) → is_some (type_in s d) ≡ are_known s (prefixes_of_type d)
type_known s syntax.string_type = refl
type_known s syntax.token_type = refl
type_known s (syntax.prefixed_type p l) = one (library_in s p) _ ∙ sym (and-true _)

inherit_known : (s : Scope) (p : Option (List ℕ)) → is_some (handed_on s p) ≡ are_known s (prefixes_of_inherit p)
inherit_known s None = refl
inherit_known s (Some p) = sym (and-true _)

mention_known : (s : Scope) (m : syntax.Mention written) → is_some (mention_in s m) ≡ are_known s (prefixes_of_inherit m.inherit)
mention_known s m = one (handed_on s m.inherit) _ ∙ inherit_known s m.inherit

mutual
  pattern_known : (s : Scope) (p : syntax.PatternAt written) → is_some (pattern_in s p) ≡ are_known s (prefixes_of_pattern p)
  pattern_known s (syntax.element c p) =
      joined s (prefixes_of_class c) (prefixes_of_pattern p) (class_in s (default_of s) c) (pattern_in s p) syntax.element (class_known s _ c)
      (pattern_known s p)
  pattern_known s (syntax.attribute c p) =
      joined s (prefixes_of_class c) (prefixes_of_pattern p) (class_in s (given []) c) (pattern_in s p) syntax.attribute (class_known s _ c) (pattern_known s p)
  pattern_known s (syntax.list p) = one (pattern_in s p) syntax.list ∙ pattern_known s p
  pattern_known s (syntax.mixed p) = one (pattern_in s p) syntax.mixed ∙ pattern_known s p
  pattern_known s (syntax.optional p) = one (pattern_in s p) syntax.optional ∙ pattern_known s p
  pattern_known s (syntax.zero_or_more p) = one (pattern_in s p) syntax.zero_or_more ∙ pattern_known s p
  pattern_known s (syntax.one_or_more p) = one (pattern_in s p) syntax.one_or_more ∙ pattern_known s p
  pattern_known s (syntax.ref n) = refl
  pattern_known s (syntax.parent_ref n) = refl
  pattern_known s syntax.empty = refl
  pattern_known s syntax.text = refl
  pattern_known s syntax.not_allowed = refl
  pattern_known s (syntax.value d v) = one (type_in s d) (λ d. syntax.value d v) ∙ type_known s d
  pattern_known s (syntax.data_of d ps) = one (type_in s d) (λ d. syntax.data_of d ps) ∙ type_known s d
  pattern_known s (syntax.data_except d ps p) =
      joined s (prefixes_of_type d) (prefixes_of_pattern p) (type_in s d) (pattern_in s p) (λ d p. syntax.data_except d ps p) (type_known s d)
      (pattern_known s p)
  pattern_known s (syntax.external m) = one (mention_in s m) syntax.external ∙ mention_known s m
  pattern_known s (syntax.grammar cs) = one (components_in s cs) syntax.grammar ∙ components_known s cs
  pattern_known s (syntax.joined k ps) = one (patterns_in s ps) (syntax.joined k) ∙ patterns_known s ps

  patterns_known : (s : Scope) (ps : syntax.PatternsAt written) → is_some (patterns_in s ps) ≡ are_known s (prefixes_of_patterns ps)
  patterns_known s syntax.no_patterns = refl
  patterns_known s (syntax.pattern_and p ps) =
      joined s (prefixes_of_pattern p) (prefixes_of_patterns ps) (pattern_in s p) (patterns_in s ps) syntax.pattern_and (pattern_known s p)
      (patterns_known s ps)

  component_known : (s : Scope) (c : syntax.ComponentAt written) → is_some (component_in s c) ≡ are_known s (prefixes_of_component c)
  component_known s (syntax.start m p) = one (pattern_in s p) (syntax.start m) ∙ pattern_known s p
  component_known s (syntax.define n m p) = one (pattern_in s p) (syntax.define n m) ∙ pattern_known s p
  component_known s (syntax.div cs) = one (components_in s cs) syntax.div ∙ components_known s cs
  component_known s (syntax.include m cs) =
      joined s (prefixes_of_inherit m.inherit) (prefixes_of_components cs) (mention_in s m) (components_in s cs) syntax.include (mention_known s m)
      (components_known s cs)

  components_known : (s : Scope) (cs : syntax.ComponentsAt written) → is_some (components_in s cs) ≡ are_known s (prefixes_of_components cs)
  components_known s syntax.no_components = refl
  components_known s (syntax.component_and c cs) =
      joined s (prefixes_of_component c) (prefixes_of_components cs) (component_in s c) (components_in s cs) syntax.component_and (component_known s c)
      (components_known s cs)

body_known : (s : Scope) (b : syntax.Body) → is_some (body_in s b) ≡ are_known s (prefixes_of_body b)
body_known s (syntax.pattern_body p) = one (pattern_in s p) tree.pattern_file ∙ pattern_known s p
body_known s (syntax.grammar_body cs) = one (components_in s cs) tree.grammar_file ∙ components_known s cs

-- ---- one of them is not

one_fails : {A : Type 0} (k : A → Bool) (x : A) (xs : List A) → Among x xs → k x ≡ false → list_all k xs ≡ false
one_fails k x [] a e = elim a [ ]
one_fails k x (y ∷ xs) here e = and_left (k x) (list_all k xs) e
one_fails k x (y ∷ xs) (there a) e = and_right (k y) (list_all k xs) (one_fails k x xs a e)

fails_at : {A : Type 0} (k : A → Bool) (xs : List A) → list_all k xs ≡ false → (x : A) × Among x xs × (k x ≡ false)
fails_at k [] e = absurd (true≢false e)
fails_at k (x ∷ xs) e = elim (and_cases (k x) (list_all k xs) e) [
  | inl e ↦ (x, here, e)
  | inr e ↦ let found = fails_at k xs e in (found.0, there found.1, found.2)
]

none_is : {A : Type 0} (o : Option A) → is_some o ≡ false → o ≡ None
none_is None e = refl
none_is (Some x) e = absurd (true≢false e)

-- a body with a prefix that is not declared has no tree
pub no_body : (s : Scope) (b : syntax.Body) (x : Declarable) → IsPrefixIn x b → is_known s x ≡ false → body_in s b ≡ None
no_body s b x a e = none_is (body_in s b) (body_known s b ∙ one_fails (is_known s) x (prefixes_of_body b) a e)

-- a body without a tree has such a prefix
pub stands_unknown : (s : Scope) (b : syntax.Body) → body_in s b ≡ None → (x : Declarable) × IsPrefixIn x b × (is_known s x ≡ false)
stands_unknown s b e = fails_at (is_known s) (prefixes_of_body b) (sym (body_known s b) ∙ ap is_some e)
