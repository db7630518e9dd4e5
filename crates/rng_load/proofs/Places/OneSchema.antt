-- A set of files has at most one schema.
use Rattle.std.proofs.Common.{◌≡◌, refl, sym, subst, ap, ap₂, ◌∙◌, ℕ, List, [], ◌∷◌, ◌++◌, Option, Some, None, map, filter, not}
use Rattle.rng_model.specs.schema.Patterns.{Place, Pattern, joined_members}
use Rattle.rng_model.specs.schema.Patterns as pattern
use Rattle.rng_model.specs.schema.Schema.{Schema, Component}
use Rattle.rnc_model.specs.grammar.Syntax as tree
use Rattle.rnc_model.specs.grammar.Syntax.{applied}
use Rattle.rnc_model.specs.declarations.FileTree.{FileTree, grammar_file, pattern_file, grammar_components}
use Rattle.rnc_model.specs.loading.Places.{TreePath, Nested, Gathered, is_overridden, uri_in, class_in, datatype_in}
use Rattle.rnc_model.specs.loading.LoadedSchema.{HasGrammar, IsSchemaOf, Gathers, nothing, a_start, a_define, a_div, an_include}
use Rattle.rnc_model.specs.loading.Places.{Reads, element_is, attribute_is, list_is, mixed_is, optional_is, zero_or_more_is, one_or_more_is, ref_is}
use Rattle.rnc_model.specs.loading.Places.{parent_ref_is}
use Rattle.rnc_model.specs.loading.Places.{empty_is, text_is, not_allowed_is, value_is, data_is, except_is, grammar_is, pattern_file_is, grammar_file_is}
use Rattle.rnc_model.specs.loading.Places.{joined_is}
use Rattle.rnc_model.specs.loading.Places.{ReadAll, none_are, more_are}

same_content : {o : Option FileTree} {a b : tree.PatternAt applied} → o ≡ Some (pattern_file a) → o ≡ Some (pattern_file b) → b ≡ a
same_content e f = cc

same_components : {o : Option FileTree} {a b : tree.ComponentsAt applied} → o ≡ Some (grammar_file a) → o ≡ Some (grammar_file b) → a ≡ b
same_components e f = cc

not_both : {o : Option FileTree} {a : tree.PatternAt applied} {b : tree.ComponentsAt applied} → o ≡ Some (pattern_file a) → o ≡ Some (grammar_file b) → ⊥
not_both e f = cc

same_included : {o : Option FileTree} {f g : FileTree} {a b : tree.ComponentsAt applied} → o ≡ Some f → o ≡ Some g → grammar_components f ≡ Some a → grammar_components g ≡ Some b
    → b ≡ a
same_included e f i j = cc

module _ (files : List ℕ → Option FileTree) where
  mutual
    -- a pattern is read in only one way
    pub one_pattern : {u : List ℕ} {x : TreePath} {a : tree.PatternAt applied} {p q : Pattern} {gs hs : List Nested} → Reads files u x a p gs
        → Reads files u x a q hs → (p ≡ q) × (gs ≡ hs)
    one_pattern (element_is d) (element_is {u} {c = c} e) = let i = one_pattern d e in (ap (pattern.element (class_in u c)) i.0, i.1)
    one_pattern (attribute_is d) (attribute_is {u} {c = c} e) = let i = one_pattern d e in (ap (pattern.attribute (class_in u c)) i.0, i.1)
    one_pattern (list_is d) (list_is e) = let i = one_pattern d e in (ap pattern.list i.0, i.1)
    one_pattern (mixed_is d) (mixed_is e) = let i = one_pattern d e in (ap pattern.mixed i.0, i.1)
    one_pattern (optional_is d) (optional_is e) = let i = one_pattern d e in (ap pattern.optional i.0, i.1)
    one_pattern (zero_or_more_is d) (zero_or_more_is e) = let i = one_pattern d e in (ap pattern.zero_or_more i.0, i.1)
    one_pattern (one_or_more_is d) (one_or_more_is e) = let i = one_pattern d e in (ap pattern.one_or_more i.0, i.1)
    one_pattern ref_is ref_is = (refl, refl)
    one_pattern parent_ref_is parent_ref_is = (refl, refl)
    one_pattern empty_is empty_is = (refl, refl)
    one_pattern text_is text_is = (refl, refl)
    one_pattern not_allowed_is not_allowed_is = (refl, refl)
    one_pattern value_is value_is = (refl, refl)
    one_pattern data_is data_is = (refl, refl)
    one_pattern (except_is d) (except_is {d = t} {ps} e) = let i = one_pattern d e in (ap (pattern.data_except (datatype_in t ps)) i.0, i.1)
    one_pattern grammar_is grammar_is = (refl, refl)
    one_pattern (pattern_file_is {u} {x} {m} {p = p} {gs} f d) (pattern_file_is {p = q} {gs = hs} g e) =
        let i = one_pattern d (subst (λ b. Reads files (uri_in u m.inherit) (0 ∷ x) b q hs) (same_content f g) e) in
        (ap pattern.external i.0, i.1)
    one_pattern (pattern_file_is f d) (grammar_file_is g) = absurd (not_both f g)
    one_pattern (grammar_file_is f) (pattern_file_is g e) = absurd (not_both g f)
    one_pattern (grammar_file_is {u} {x} {m} f) (grammar_file_is g) =
        (refl, ap (λ cs. record { place = x; uri = uri_in u m.inherit; components = cs } ∷ []) (same_components f g))
    one_pattern (joined_is d) (joined_is {k = k} e) = let i = all_one d e in (ap (joined_members k) i.0, i.1)

    -- patterns are read in only one way
    pub all_one : {u : List ℕ} {x : TreePath} {n : ℕ} {all : tree.PatternsAt applied} {ps qs : List Pattern} {gs hs : List Nested} → ReadAll files u x n all ps gs
        → ReadAll files u x n all qs hs → (ps ≡ qs) × (gs ≡ hs)
    all_one none_are none_are = (refl, refl)
    all_one (more_are d ds p) (more_are e es q) =
        let i = one_pattern d e in
        let j = all_one ds es in
        (ap₂ (λ p ps. p ∷ ps) i.0 j.0, p ∙ ap₂ (λ a b. a ++ b) i.1 j.1 ∙ sym q)

  -- components are gathered in only one way
  pub one_gathering : {u : List ℕ} {x : TreePath} {n : ℕ} {cs : tree.ComponentsAt applied} {all more : List Gathered} → Gathers files u x n cs all
      → Gathers files u x n cs more → all ≡ more
  one_gathering nothing nothing = refl
  one_gathering (a_start d ds) (a_start {m = m} e es) =
      let i = one_pattern d e in
      let j = one_gathering ds es in
      ap₂ (λ g rest. g ∷ rest) (ap₂ (λ p gs. record { component = record { name = None; method = m; pattern = p }; nested = gs }) i.0 i.1) j
  one_gathering (a_define d ds) (a_define {y = y} {m} e es) =
      let i = one_pattern d e in
      let j = one_gathering ds es in
      ap₂ (λ g rest. g ∷ rest) (ap₂ (λ p gs. record { component = record { name = Some y; method = m; pattern = p }; nested = gs }) i.0 i.1) j
  one_gathering (a_div d ds p) (a_div e es q) = p ∙ ap₂ (λ a b. a ++ b) (one_gathering d e) (one_gathering ds es) ∙ sym q
  one_gathering (an_include {u} {x} {n} {m} f i d o r p) (an_include {included = included} g j e v s q) =
      let c = one_gathering d (subst (λ is. Gathers files (uri_in u m.inherit) (0 ∷ n ∷ x) 0 is included) (same_included f g i j) e) in
      let k = ap₂ (λ included over. filter (λ g. not (is_overridden over g)) included ++ over) c (one_gathering o v) in
      p ∙ ap₂ (λ a b. a ++ b) k (one_gathering r s) ∙ sym q

  module _ (main : FileTree) where
    at_grammar : (s t : Schema) → IsSchemaOf files main s → IsSchemaOf files main t → (x : Place) (o : Option Place) (u : List ℕ) (cs : tree.ComponentsAt applied)
        → HasGrammar files main x o u cs → (s.components x ≡ t.components x) × (s.outer x ≡ t.outer x)
    at_grammar s t a b x o u cs h =
        let i = a.there x o u cs h in
        let j = b.there x o u cs h in
        (i.2 ∙ ap (λ gathered. Some (map (λ g. g.component) gathered)) (one_gathering i.1 j.1) ∙ sym j.2, i.3 ∙ sym j.3)

    at_place : (s t : Schema) → IsSchemaOf files main s → IsSchemaOf files main t → (x : Place) (c d : Option (List Component)) → s.components x ≡ c
        → t.components x ≡ d → (s.components x ≡ t.components x) × (s.outer x ≡ t.outer x)
    at_place s t a b x (Some all) d e f = let h = a.only_there x all e in at_grammar s t a b x h.0 h.1 h.2 h.3
    at_place s t a b x None (Some all) e f = let h = b.only_there x all f in at_grammar s t a b x h.0 h.1 h.2 h.3
    at_place s t a b x None None e f = (e ∙ sym f, a.none_around x e ∙ sym (b.none_around x f))

    -- a set of files has at most one schema
    pub one_schema : (s t : Schema) → IsSchemaOf files main s → IsSchemaOf files main t
        → (s.main ≡ t.main) × ((x : Place) → (s.components x ≡ t.components x) × (s.outer x ≡ t.outer x))
    one_schema s t a b = (a.main_place ∙ sym b.main_place, λ x. at_place s t a b x (s.components x) (t.components x) refl refl)
