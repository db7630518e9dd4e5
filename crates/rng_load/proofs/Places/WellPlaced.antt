-- The grammars of the schema of a set of files are in their places.
use Rattle.std.proofs.Common.{◌≡◌, inl, inr, refl, sym, subst, ap, ◌∙◌, ℕ, Bool, true, false, cond, not, List, [], ◌∷◌, ◌++◌, filter, map}
use Rattle.std.proofs.Common.{Option, Some}
use Rattle.rng_model.specs.names.Lists.{Among, here, there}
use Rattle.rng_model.specs.simple.Tree.{Connector, choice, group, interleave}
use Rattle.rng_model.specs.schema.Patterns.{Place, Pattern, Patterns, grammar, joined, pattern_and, pattern_list, joined_members, IsWrittenIn, itself}
use Rattle.rng_model.specs.schema.Patterns.{in_element, in_attribute, in_list, in_except, in_mixed, in_optional, in_zero_or_more, in_one_or_more, in_first}
use Rattle.rng_model.specs.schema.Patterns.{in_second, in_another, in_external, IsWrittenAmong, in_this, in_later}
use Rattle.rng_model.specs.schema.Schema.{Schema, Component, IsWrittenAt}
use Rattle.rng_model.specs.plain.WellPlaced.{IsWellPlaced}
use Rattle.rng_model.proofs.Options.{one_value}
use Rattle.rnc_model.specs.grammar.Syntax as tree
use Rattle.rnc_model.specs.grammar.Syntax.{applied}
use Rattle.rnc_model.specs.declarations.FileTree.{FileTree}
use Rattle.rnc_model.specs.loading.Places.{TreePath, Nested, Gathered, is_overridden}
use Rattle.rnc_model.specs.loading.LoadedSchema.{HasGrammar, main_is, nested_is, IsSchemaOf, Gathers, nothing, a_start, a_define, a_div, an_include}
use Rattle.rnc_model.specs.loading.Places.{Reads, element_is, attribute_is, list_is, mixed_is, optional_is, zero_or_more_is, one_or_more_is, ref_is}
use Rattle.rnc_model.specs.loading.Places.{parent_ref_is}
use Rattle.rnc_model.specs.loading.Places.{empty_is, text_is, not_allowed_is, value_is, data_is, except_is, grammar_is, pattern_file_is, grammar_file_is}
use Rattle.rnc_model.specs.loading.Places.{joined_is}
use Rattle.rnc_model.specs.loading.Places.{ReadAll, none_are, more_are}
use Rattle.rng_load.proofs.NameLists as names
use Rattle.rng_load.proofs.NameLists.{in_none, in_cons, in_either, in_left, in_right, from_map}

-- ---- a grammar that is written in members

module _ {z : Place} where
  among_joined : {k : Connector} {p r : Pattern} {ps : Patterns} → IsWrittenIn (grammar z) (joined k p r ps)
      → IsWrittenAmong (grammar z) (pattern_and p (pattern_and r ps))
  among_joined (in_first w) = in_this w
  among_joined (in_second w) = in_later (in_this w)
  among_joined (in_another w) = in_later (in_later w)

  among_members : (k : Connector) (ps : List Pattern) → IsWrittenIn (grammar z) (joined_members k ps) → IsWrittenAmong (grammar z) (pattern_list ps)
  among_members choice [] w = elim w [ ]
  among_members group [] w = elim w [ ]
  among_members interleave [] w = elim w [ ]
  among_members choice (p ∷ []) w = in_this w
  among_members group (p ∷ []) w = in_this w
  among_members interleave (p ∷ []) w = in_this w
  among_members choice (p ∷ (r ∷ ps)) w = among_joined w
  among_members group (p ∷ (r ∷ ps)) w = among_joined w
  among_members interleave (p ∷ (r ∷ ps)) w = among_joined w

-- a member of a filtered list is a member of the list
among_filter : {A : Type 0} {x : A} (test : A → Bool) (xs : List A) → Among x (filter test xs) → Among x xs
among_filter test [] i = i
among_filter {x = x} test (y ∷ ys) i = kept (test y) (among_filter test ys) i
  where
    kept : (b : Bool) → (Among x (filter test ys) → Among x ys) → Among x (cond b (y ∷ filter test ys) (filter test ys)) → Among x (y ∷ ys)
    kept true rest i = elim (in_cons i) [ inl e ↦ names.in_first ys e | inr j ↦ there (rest j) ]
    kept false rest i = there (rest i)

-- one of these grammars is at the place
abbrev IsNestedAt : Place → List Nested → Type 0
IsNestedAt z gs = (n : Nested) × Among n gs × (z ≡ n.place)

module _ (files : List ℕ → Option FileTree) {z : Place} where
  -- ---- a grammar that is written in a pattern is nested there

  mutual
    nested_read : {u : List ℕ} {x : TreePath} {a : tree.PatternAt applied} {p : Pattern} {gs : List Nested} → Reads files u x a p gs → IsWrittenIn (grammar z) p
        → IsNestedAt z gs
    nested_read (element_is d) (in_element w) = nested_read d w
    nested_read (attribute_is d) (in_attribute w) = nested_read d w
    nested_read (list_is d) (in_list w) = nested_read d w
    nested_read (mixed_is d) (in_mixed w) = nested_read d w
    nested_read (optional_is d) (in_optional w) = nested_read d w
    nested_read (zero_or_more_is d) (in_zero_or_more w) = nested_read d w
    nested_read (one_or_more_is d) (in_one_or_more w) = nested_read d w
    nested_read ref_is w = elim w [ ]
    nested_read parent_ref_is w = elim w [ ]
    nested_read empty_is w = elim w [ ]
    nested_read text_is w = elim w [ ]
    nested_read not_allowed_is w = elim w [ ]
    nested_read value_is w = elim w [ ]
    nested_read data_is w = elim w [ ]
    nested_read (except_is d) (in_except w) = nested_read d w
    nested_read grammar_is itself = (_, here, refl)
    nested_read (pattern_file_is f d) (in_external w) = nested_read d w
    nested_read (grammar_file_is f) (in_external itself) = (_, here, refl)
    nested_read (joined_is {k = k} {ps = ps} d) w = nested_among d (among_members k ps w)

    nested_among : {u : List ℕ} {x : TreePath} {n : ℕ} {all : tree.PatternsAt applied} {ps : List Pattern} {gs : List Nested} → ReadAll files u x n all ps gs
        → IsWrittenAmong (grammar z) (pattern_list ps) → IsNestedAt z gs
    nested_among none_are w = elim w [ ]
    nested_among (more_are {gs = gs} {hs} d ds e) (in_this w) = let i = nested_read d w in (i.0, subst (Among i.0) (sym e) (in_left i.1 hs), i.2)
    nested_among (more_are {gs = gs} {hs} d ds e) (in_later w) = let i = nested_among ds w in (i.0, subst (Among i.0) (sym e) (in_right gs i.1), i.2)

  -- so is a grammar that is written in a component
  nested_gathered : {u : List ℕ} {x : TreePath} {n : ℕ} {cs : tree.ComponentsAt applied} {all : List Gathered} {g : Gathered} → Gathers files u x n cs all
      → Among g all → IsWrittenIn (grammar z) g.component.pattern → IsNestedAt z g.nested
  nested_gathered nothing i w = absurd (in_none i)
  nested_gathered (a_start d ds) here w = nested_read d w
  nested_gathered (a_start d ds) (there i) w = nested_gathered ds i w
  nested_gathered (a_define d ds) here w = nested_read d w
  nested_gathered (a_define d ds) (there i) w = nested_gathered ds i w
  nested_gathered (a_div {inner = inner} d ds e) i w = elim (in_either inner (subst (Among _) e i)) [
    | inl j ↦ nested_gathered d j w
    | inr j ↦ nested_gathered ds j w
  ]
  nested_gathered (an_include {included = included} {overriding} f is d o r e) i w =
      let test : Gathered → Bool = λ g. not (is_overridden overriding g) in
      elim (in_either (filter test included ++ overriding) (subst (Among _) e i)) [
        | inl j ↦ elim (in_either (filter test included) j) [
          | inl k ↦ nested_gathered d (among_filter test included k) w
          | inr k ↦ nested_gathered o k w
        ]
        | inr j ↦ nested_gathered r j w
      ]

-- ---- the schema

module _ (files : List ℕ → Option FileTree) (main : FileTree) (s : Schema) (is : IsSchemaOf files main s) where
  -- there is a grammar at this place, and the grammar around it is at the other place
  abbrev IsNestedIn : Place → Place → Type 0
  IsNestedIn x z = (cs : List Component) × (s.components z ≡ Some cs) × (s.outer z ≡ Some x)

  nested_at : (x z : Place) (o : Option Place) (u : List ℕ) (cs : tree.ComponentsAt applied) (all : List Gathered) (g : Gathered) → HasGrammar files main x o u cs
      → Gathers files u x 0 cs all → Among g all → IsNestedAt z g.nested → IsNestedIn x z
  nested_at x z o u cs all g h d i n =
      let t = is.there n.0.place (Some x) n.0.uri n.0.components (nested_is h d i n.1) in
      (map (λ g. g.component) t.0, ap s.components n.2 ∙ t.2, ap s.outer n.2 ∙ t.3)

  written_nested : (x z : Place) → IsWrittenAt s x (grammar z) → IsNestedIn x z
  written_nested x z w =
      let h = is.only_there x w.there.components w.there.there in
      let t = is.there x h.0 h.1 h.2 h.3 in
      let c = from_map (λ g. g.component) t.0 (subst (Among w.component) (one_value w.there.there t.2) w.there.among) in
      nested_at x z h.0 h.1 h.2 t.0 c.0 h.3 t.1 c.1 (nested_gathered files t.1 c.1 (subst (λ d. IsWrittenIn (grammar z) d.pattern) c.2 w.written))

  pub well_placed : IsWellPlaced s
  well_placed =
      let t = is.there _ _ _ _ (main_is refl) in record {
        components = map (λ g. g.component) t.0;
        main = ap s.components is.main_place ∙ t.2;
        outermost = ap s.outer is.main_place ∙ t.3;
        nested = written_nested;
      }
