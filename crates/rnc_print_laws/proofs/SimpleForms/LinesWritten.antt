-- What is written in the lines of a printed grammar.
use Rattle.std.proofs.Common.{◌≡◌, ◌∙◌, refl, sym, ap, subst, ℕ, ◌<◌, ◌^◌, List, [], ◌∷◌, ◌++◌, length, map, Option, Some, None}
use Rattle.rng_model.proofs.Members.{among_mapped}
use Rattle.rng_model.specs.names.Lists.{Among, here, there, HasTwo, first_and, both_later}
use Rattle.rng_model.specs.names.Names.{NameClass}
use Rattle.rng_model.specs.datatypes.Datatypes.{IsAllowed}
use Rattle.rng_model.specs.simple.Tree.{Simple, s_not_allowed, s_empty, s_text, s_leaf, s_attribute, s_list, s_data, s_data_except, s_value, s_one_or_more}
use Rattle.rng_model.specs.simple.Tree.{s_joined}
use Rattle.rng_model.specs.simple.Grammar.{Grammar}
use Rattle.rng_model.specs.schema.Patterns as written
use Rattle.rng_model.specs.schema.Patterns.{Place, Pattern, IsWrittenIn, without_parameters}
use Rattle.rng_model.specs.schema.Schema.{Schema, Component, HasComponent, IsWrittenAt}
use Rattle.rng_model.specs.schema.SchemaClauses as clause
use Rattle.rng_model.specs.schema.SchemaClauses.{BreaksNameClass, BreaksDatatype, BreaksCombination, HasNoStart, BreaksRef}
use Rattle.rng_model.specs.declared.method.Method.TheVariants as methods
use Rattle.rncv_model.specs.printed.Items.{PrintedItem, element, pattern, named_item, element_at, parts_of, mentions, IsItemsOf}
use Rattle.rncv_model.specs.printed.PrintedText.{item_name}
use Rattle.rnc_print_laws.specs.plain.LinesSchema.{flattened, reference_pattern, item_pattern, start_line, item_line, lines_components, IsSchemaOfLines}
use Rattle.rnc_print_laws.proofs.SimpleForms.ClassParts.{IsGoodClass, IsFreeOfDeclarations, good_nested, good_from_nested, free_from_nested}
use Rattle.rnc_print_laws.proofs.SimpleForms.FlattenedClasses.{nested_flattened}
use Rattle.rnc_print_laws.proofs.SimpleForms.GoodGrammars.{IsGoodData, IsGoodTree, IsGoodGrammar}
use Rattle.rnc_print_laws.proofs.Lines.ItemNames.{names_apart}
use Rattle.rnc_print_laws.proofs.Lines.LinesFound.{AreItemsNew, not_again}
use Rattle.rnc_print_laws.proofs.SimpleForms.LineTrees.{plain_datatype}
use Rattle.rnc_print_laws.proofs.Lines.ListedLines.{AreAmong, among_left, start_among, line_among, each_once, each_item}
use Rattle.rng_load.proofs.NameLists.{in_right}

among_map : {A B : Type 0} (f : A → B) (xs : List A) (y : B) → Among y (map f xs) → (x : A) × Among x xs × (y ≡ f x)
among_map f [] y a = elim a [ ]
among_map f (x ∷ xs) y here = (x, here, refl)
among_map f (x ∷ xs) y (there a) = let r = among_map f xs y a in (r.0, there r.1, r.2)

some_same : {A : Type 0} {x y : A} → ◌≡◌ (Some x) (Some y) → x ≡ y
some_same e = cc

-- a pattern with parts, or the except of a data
abbrev IsWhole : Simple ℕ → Type 0
IsWhole s_not_allowed = ⊥
IsWhole s_empty = ⊥
IsWhole s_text = ⊥
IsWhole (s_leaf k) = ⊥
IsWhole (s_attribute c a) = Unit {0}
IsWhole (s_list a) = Unit {0}
IsWhole (s_data d) = ⊥
IsWhole (s_data_except d a) = Unit {0}
IsWhole (s_value d v) = ⊥
IsWhole (s_one_or_more a) = Unit {0}
IsWhole (s_joined k a b) = Unit {0}

module _ (g : Grammar) (items : List PrintedItem) (good : IsGoodGrammar g) (numbered : IsItemsOf g items) where
  abbrev n : ℕ
  n = length g.elements

  abbrev IsGoodItem : PrintedItem → Type 0
  IsGoodItem (element k) = k < n
  IsGoodItem (pattern a) = IsWhole a × IsGoodTree n a

  tree_items : (a : Simple ℕ) → IsGoodTree n a → (i : PrintedItem) → Among i (named_item a) → IsGoodItem i
  tree_items s_not_allowed h i m = elim m [ ]
  tree_items s_empty h i m = elim m [ ]
  tree_items s_text h i m = elim m [ ]
  tree_items (s_leaf k) h i here = h
  tree_items (s_leaf k) h i (there m) = elim m [ ]
  tree_items (s_attribute c a) h i here = (tt, h)
  tree_items (s_attribute c a) h i (there m) = elim m [ ]
  tree_items (s_list a) h i here = (tt, h)
  tree_items (s_list a) h i (there m) = elim m [ ]
  tree_items (s_data d) h i m = elim m [ ]
  tree_items (s_data_except d a) h i here = (tt, h)
  tree_items (s_data_except d a) h i (there m) = elim m [ ]
  tree_items (s_value d v) h i m = elim m [ ]
  tree_items (s_one_or_more a) h i here = (tt, h)
  tree_items (s_one_or_more a) h i (there m) = elim m [ ]
  tree_items (s_joined k a b) h i here = (tt, h)
  tree_items (s_joined k a b) h i (there m) = elim m [ ]

  either_items : (xs ys : List PrintedItem) → ((i : PrintedItem) → Among i xs → IsGoodItem i) → ((i : PrintedItem) → Among i ys → IsGoodItem i) → (i : PrintedItem) → Among i (xs ++ ys)
      → IsGoodItem i
  either_items [] ys f h i m = h i m
  either_items (x ∷ xs) ys f h i here = f x here
  either_items (x ∷ xs) ys f h i (there m) = either_items xs ys (λ j a. f j (there a)) h i m

  part_items : (a : Simple ℕ) → IsGoodTree n a → (i : PrintedItem) → Among i (parts_of a) → IsGoodItem i
  part_items s_not_allowed h i m = elim m [ ]
  part_items s_empty h i m = elim m [ ]
  part_items s_text h i m = elim m [ ]
  part_items (s_leaf k) h i m = elim m [ ]
  part_items (s_attribute c a) h i m = tree_items a h.1 i m
  part_items (s_list a) h i m = tree_items a h i m
  part_items (s_data d) h i m = elim m [ ]
  part_items (s_data_except d a) h i m = tree_items a h.1 i m
  part_items (s_value d v) h i m = elim m [ ]
  part_items (s_one_or_more a) h i m = tree_items a h i m
  part_items (s_joined k a b) h i m = either_items (named_item a) (named_item b) (tree_items a h.0) (tree_items b h.1.0) i m

  mention_items : (j : PrintedItem) → IsGoodItem j → (i : PrintedItem) → Among i (mentions g j) → IsGoodItem i
  mention_items (element k) l = tree_items (element_at g k).1 (good.elements k l).body.good
  mention_items (pattern a) h = part_items a h.1

  good_item : (i : PrintedItem) → Among i items → IsGoodItem i
  good_item = each_item g items numbered IsGoodItem (tree_items g.start good.start.good) mention_items

  -- ---- the conditions of the clauses on a pattern

  abbrev Asked : Pattern → Type 0
  Asked written.not_allowed = Unit {0}
  Asked written.empty = Unit {0}
  Asked written.text = Unit {0}
  Asked (written.element c p) = IsGoodClass c
  Asked (written.attribute c p) = IsGoodClass c × IsFreeOfDeclarations c
  Asked (written.list p) = Unit {0}
  Asked (written.data_of d) = IsGoodData d
  Asked (written.data_except d p) = IsGoodData d
  Asked (written.value library name v) = ¬ (¬ (IsAllowed (without_parameters library name) v))
  Asked (written.mixed p) = Unit {0}
  Asked (written.optional p) = Unit {0}
  Asked (written.zero_or_more p) = Unit {0}
  Asked (written.one_or_more p) = Unit {0}
  Asked (written.joined k p q ps) = Unit {0}
  Asked (written.ref y) = (i : PrintedItem) × Among i items × (y ≡ item_name items i)
  Asked (written.parent_ref y) = ⊥
  Asked (written.grammar z) = ⊥
  Asked (written.external p) = Unit {0}

  in_reference : (a : Simple ℕ) → IsGoodTree n a → AreAmong items (named_item a) → (q : Pattern) → IsWrittenIn q (reference_pattern items a) → Asked q
  in_reference s_not_allowed h m q written.itself = tt
  in_reference s_empty h m q written.itself = tt
  in_reference s_text h m q written.itself = tt
  in_reference (s_leaf k) h m q written.itself = (element k, m (element k) here, refl)
  in_reference (s_attribute c a) h m q written.itself = (pattern (s_attribute c a), m (pattern (s_attribute c a)) here, refl)
  in_reference (s_list a) h m q written.itself = (pattern (s_list a), m (pattern (s_list a)) here, refl)
  in_reference (s_data d) h m q written.itself = h
  in_reference (s_data_except d a) h m q written.itself = (pattern (s_data_except d a), m (pattern (s_data_except d a)) here, refl)
  in_reference (s_value d v) h m q written.itself = λ no. h.1 (λ yes. no (subst (λ e. IsAllowed e v) (sym (plain_datatype d h.0)) yes))
  in_reference (s_one_or_more a) h m q written.itself = (pattern (s_one_or_more a), m (pattern (s_one_or_more a)) here, refl)
  in_reference (s_joined k a b) h m q written.itself = (pattern (s_joined k a b), m (pattern (s_joined k a b)) here, refl)

  good_flattened : (c : NameClass) → IsGoodClass c → IsGoodClass (flattened c)
  good_flattened c h = good_from_nested (flattened c) (subst IsGoodClass (sym (nested_flattened c)) (good_nested c h))

  in_tree_line : (a : Simple ℕ) → IsWhole a → IsGoodTree n a → AreAmong items (parts_of a) → (q : Pattern)
      → IsWrittenIn q (item_pattern g items (pattern a)) → Asked q
  in_tree_line s_not_allowed w h m q i = absurd w
  in_tree_line s_empty w h m q i = absurd w
  in_tree_line s_text w h m q i = absurd w
  in_tree_line (s_leaf k) w h m q i = absurd w
  in_tree_line (s_attribute c a) w h m q written.itself = (
    good_from_nested (flattened c) (subst IsGoodClass (sym (nested_flattened c)) h.0.0),
    free_from_nested (flattened c) (subst IsFreeOfDeclarations (sym (nested_flattened c)) h.0.1),
  )
  in_tree_line (s_attribute c a) w h m q (written.in_attribute i) = in_reference a h.1 m q i
  in_tree_line (s_list a) w h m q written.itself = tt
  in_tree_line (s_list a) w h m q (written.in_list i) = in_reference a h m q i
  in_tree_line (s_data d) w h m q i = absurd w
  in_tree_line (s_data_except d a) w h m q written.itself = h.0
  in_tree_line (s_data_except d a) w h m q (written.in_except i) = in_reference a h.1 m q i
  in_tree_line (s_value d v) w h m q i = absurd w
  in_tree_line (s_one_or_more a) w h m q written.itself = tt
  in_tree_line (s_one_or_more a) w h m q (written.in_one_or_more i) = in_reference a h m q i
  in_tree_line (s_joined k a b) w h m q written.itself = tt
  in_tree_line (s_joined k a b) w h m q (written.in_first i) = in_reference a h.0 (λ j c. m j (among_left (named_item b) c)) q i
  in_tree_line (s_joined k a b) w h m q (written.in_second i) = in_reference b h.1.0 (λ j c. m j (in_right (named_item a) c)) q i
  in_tree_line (s_joined k a b) w h m q (written.in_another i) = elim i [ ]

  in_element_line : (k : ℕ) → k < n → AreAmong items (mentions g (element k)) → (q : Pattern) → IsWrittenIn q (item_pattern g items (element k)) → Asked q
  in_element_line k l m q written.itself = good_flattened (element_at g k).0 (good.elements k l).class
  in_element_line k l m q (written.in_element i) = in_reference (element_at g k).1 (good.elements k l).body.good m q i

  in_line : (i : PrintedItem) → IsGoodItem i → AreAmong items (mentions g i) → (q : Pattern) → IsWrittenIn q (item_pattern g items i) → Asked q
  in_line (element k) h m q w = in_element_line k h m q w
  in_line (pattern a) h m q w = in_tree_line a h.0 h.1 m q w

  -- ---- the clauses of what is written

  in_components : (c : Component) → Among c (lines_components g items) → (q : Pattern) → IsWrittenIn q c.pattern → Asked q
  in_components c here q w = in_reference g.start good.start.good (start_among g items numbered) q w
  in_components c (there a) q w =
      let x = among_map (item_line g items) items c a in
      in_line x.0 (good_item x.0 x.1) (line_among g items numbered x.0 x.1) q (subst (λ (d : Component). IsWrittenIn q d.pattern) x.2 w)

  module _ (r : Schema) (lines : IsSchemaOfLines g items r) where
    at_lines : (x : Place) (cs : List Component) → r.components x ≡ Some cs → cs ≡ lines_components g items
    at_lines x cs e = some_same (sym e ∙ ap r.components (lines.only x cs e) ∙ lines.components)

    component_among : (x : Place) (c : Component) → HasComponent r x c → Among c (lines_components g items)
    component_among x c h = subst (Among c) (at_lines x h.components h.there) h.among

    written_asked : (x : Place) (q : Pattern) → IsWrittenAt r x q → Asked q
    written_asked x q w = in_components w.component (component_among x w.component w.there) q w.written

    pub no_name_class : ¬ (BreaksNameClass r)
    no_name_class (clause.of_element {x} {c} {p} w b) = written_asked x (written.element c p) w b
    no_name_class (clause.of_attribute {x} {c} {p} w b) = (written_asked x (written.attribute c p) w).0 b
    no_name_class (clause.of_declaration {x} {c} {d} {p} w i o) = (written_asked x (written.attribute c p) w).1 d i o

    pub no_datatype : ¬ (BreaksDatatype r)
    no_datatype (clause.of_data {x} {d} w k) = written_asked x (written.data_of d) w k
    no_datatype (clause.of_data_except {x} {d} {p} w k) = written_asked x (written.data_except d p) w k
    no_datatype (clause.of_value {x} {library} {name} {v} w k) = written_asked x (written.value library name v) w k

    -- ---- each name is that of one line, which is plain

    all_plain : (c : Component) → Among c (lines_components g items) → c.method ≡ methods.Plain
    all_plain c here = refl
    all_plain c (there a) = let x = among_map (item_line g items) items c a in ap (λ (d : Component). d.method) x.2

    abbrev AreTwo : Component → Component → Type 0
    AreTwo c d = (c.name ≡ d.name) × (c.method ≡ methods.Plain) × (d.method ≡ methods.Plain)

    module _ (few : length items < 2 ^ 64) where
      no_two : (w js : List PrintedItem) → AreItemsNew w js → AreAmong items js → HasTwo AreTwo (map (item_line g items) js) → ⊥
      no_two w [] new inside t = elim t [ ]
      no_two w (j ∷ js) new inside (first_and {y = c} a p) =
          let x = among_map (item_line g items) js c a in
          let name : item_name items j ≡ item_name items x.0 = some_same (p.0 ∙ ap (λ (d : Component). d.name) x.2) in
          let same = names_apart items few j x.0 (inside j here) (inside x.0 (there x.1)) name in
          not_again w js j new.1 (subst (λ i. Among i js) (sym same) x.1)
      no_two w (j ∷ js) new inside (both_later t) = no_two (w ++ j ∷ []) js new.1 (λ i a. inside i (there a)) t

      none_is_some : (y : List ℕ) → ◌≡◌ {A = Option (List ℕ)} None (Some y) → ⊥
      none_is_some y e = cc

      none_twice : HasTwo AreTwo (lines_components g items) → ⊥
      none_twice (first_and {y = c} a p) =
          let x = among_map (item_line g items) items c a in
          none_is_some (item_name items x.0) (p.0 ∙ ap (λ (d : Component). d.name) x.2)
      none_twice (both_later t) = no_two [] items (each_once g items numbered) (λ i a. a) t

      pub no_combination : ¬ (BreaksCombination r)
      no_combination (clause.two_plain {x} {cs} e t) = none_twice (subst (HasTwo AreTwo) (at_lines x cs e) t)
      no_combination (clause.both_methods {x} {c} {d} h i e m p) = not_choice (sym m ∙ all_plain c (component_among x c h))
        where
          not_choice : methods.Choice ≡ methods.Plain → ⊥
          not_choice e = cc

    pub has_start : ¬ (HasNoStart r)
    has_start h = h.none (start_line g items) (subst (Among (start_line g items)) (sym (at_lines h.place h.components h.there)) here) refl

    named_line : (x : Place) (cs : List Component) → r.components x ≡ Some cs → (i : PrintedItem) → Among i items → HasComponent r x (item_line g items i)
    named_line x cs e i a = record {
      components = lines_components g items;
      there = ap r.components (lines.only x cs e) ∙ lines.components;
      among = there (among_mapped (item_line g items) a);
    }

    pub no_ref : ¬ (BreaksRef r)
    no_ref (clause.of_ref {x} {y} w not) =
        let i = written_asked x (written.ref y) w in
        not (item_line g items i.0, named_line x w.there.components w.there.there i.0 i.1, ap Some (sym i.2))
    no_ref (clause.of_parent_ref {x} {y} w not) = written_asked x (written.parent_ref y) w
