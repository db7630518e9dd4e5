-- The start and the end of the reader of a schema.
use Rattle.std.proofs.Common.{◌≡◌, refl, sym, subst, ap, ap₂, ◌∙◌, ℕ, List, [], ◌∷◌, ◌++◌, Option, None, Some, map, option_map}
use Rattle.std.proofs.Common.{Result, Ok, Err, OnOk, append_assoc}
use Rattle.std.proofs.lemmas.List.{map-append}
use Rattle.indexmap.specs.IndexMap.{insert_entry}
use Rattle.rng_model.specs.names.Lists.{here}
use Rattle.rng_model.specs.schema.Patterns.{Place}
use Rattle.rng_model.specs.views.SchemaView.{place_eq, place_of, schema_component_of}
use Rattle.rng_model.specs.declared.method.Method.TheVariants as methods
use Rattle.rng_model.specs.declared.place.Place as declared
use Rattle.rnc_model.specs.grammar.Syntax as tree
use Rattle.rnc_model.specs.grammar.Syntax.{applied}
use Rattle.rnc_model.specs.declarations.FileTree.{FileTree}
use Rattle.rng_load.specs.plain.FoundGrammars.{AreFound, AreLeft, CanBeRead, HasGathered, IsPut, gathered_at, grammar_with, left_by, nested_in}
use Rattle.rng_load.specs.plain.FoundGrammars.{pending_in, places_left}
use Rattle.rnc_model.specs.loading.Mentions.{path_limit}
use Rattle.rng_load.specs.views.PendingGrammars.{Pending}
use Rattle.rng_load.specs.views.PlacedGrammars.{PlacedGrammars, grammar_of, schema_with}
use Rattle.rnc_model.specs.loading.Places.{Gathered, Nested, main_grammar}
use Rattle.rnc_model.specs.loading.LoadedSchema.{IsSchemaOf}
use Rattle.rng_load.specs.plain.PlainReading.{gather_one_with, gather_with, gathered_as, read_at}
use Rattle.rng_load.specs.declared.schema.Grammar.{Grammar}
use Rattle.rng_load.proofs.Places.FoundGrammars.{Entries, goes_on, is_put, is_schema, left_last, left_there, main_left, view}
use Rattle.rng_load.proofs.NameLists.{in_left, in_none, in_right}
use Rattle.rng_load.proofs.Places.OneGrammar.{main_there}

module _ (files : List ℕ → Option FileTree) where
  -- a main file that is no grammar has one component
  pub only_start : (p : tree.PatternAt applied) → gathered_at files [] [] (tree.component_and (tree.start methods.Plain p) tree.no_components)
      ≡ gathered_as None methods.Plain (read_at files path_limit [] (0 ∷ []) p) ∷ []
  unfolding gather_with gather_one_with
  only_start p = refl

  module _ (main : FileTree) where
    -- the main grammar is at the empty place
    pub main_gathered : (all : List Gathered) → all ≡ gathered_at files [] [] (main_grammar main) → HasGathered files main [] None all
    main_gathered all i = record { uri = []; components = main_grammar main; there = main_there files main; are = i }

    module _ (readable : CanBeRead files main) where
      -- what is found and left once one more grammar is put
      one_more : {gs next : PlacedGrammars} {x : Place} {o : Option Place} {all : List Gathered} (rest : List Pending)
          → AreFound files main gs (places_left rest ++ x ∷ []) → AreLeft files main rest → HasGathered files main x o all
          → IsPut gs next x (grammar_with o all) → AreFound files main next (places_left (rest ++ left_by x (nested_in all)))
          × AreLeft files main (rest ++ left_by x (nested_in all))
      one_more {next = next} {x} {all = all} rest a l has put = (
        subst (AreFound files main next) (sym (map-append (λ p. p.nested.place) rest (left_by x (nested_in all))))
            (goes_on files main (places_left rest) a has put),
        left_there files main readable rest l has,
      )

      -- the main grammar is put
      pub first_put_at : {old next : PlacedGrammars} {before left : List Pending} {x : Place} {all : List Gathered} → old ≡ [] → before ≡ [] → x ≡ []
          → HasGathered files main [] None all → IsPut old next x (grammar_with None all) → left ≡ before ++ left_by x (nested_in all)
          → AreFound files main next (places_left left) × AreLeft files main left
      first_put_at {old} {next} {all = all} none empty e has put l =
          let at_first = subst (λ x. IsPut old next x (grammar_with None all)) e put in
          let from_none = subst (λ gs. IsPut gs next [] (grammar_with None all)) none at_first in
          let left = l ∙ ap₂ (λ ps x. ps ++ left_by x (nested_in all)) empty e in
          subst (λ ps. AreFound files main next (places_left ps) × AreLeft files main ps) (sym left)
          (one_more [] (main_left files main) (λ p i. absurd (in_none i)) has from_none)

      -- the last grammar that is left is put
      pub next_put_at : {gs next : PlacedGrammars} {before left : List Pending} {all : List Gathered} (rest : List Pending) (p : Pending)
          → before ≡ rest ++ p ∷ [] → AreFound files main gs (places_left before) × AreLeft files main before
          → all ≡ gathered_at files p.nested.uri p.nested.place p.nested.components → IsPut gs next p.nested.place (grammar_with (Some p.outer) all)
          → left ≡ rest ++ left_by p.nested.place (nested_in all) → AreFound files main next (places_left left) × AreLeft files main left
      next_put_at {gs} {next} {all = all} rest p e a are put l =
          let there_are = subst (λ ps. AreFound files main gs (places_left ps) × AreLeft files main ps) e a in
          let found = subst (AreFound files main gs) (map-append (λ p. p.nested.place) rest (p ∷ [])) there_are.0 in
          let has : HasGathered files main p.nested.place (Some p.outer) all =
          record { uri = p.nested.uri; components = p.nested.components; there = there_are.1 p (in_right rest here); are = are } in
          subst (λ ps. AreFound files main next (places_left ps) × AreLeft files main ps) (sym l)
          (one_more rest found (λ q i. there_are.1 q (in_left i (p ∷ []))) has put)

    -- all grammars are found
    pub whole : CanBeRead files main → (x : Place) (gs : PlacedGrammars) → x ≡ [] → AreFound files main gs [] → IsSchemaOf files main (schema_with x gs)
    whole readable x gs e found = subst (λ y. IsSchemaOf files main (schema_with y gs)) (sym e) (is_schema files main readable gs found)

-- a grammar is put at this place, if memory suffices
pub put_at : {A E : Type 0} (r : Result A E) (es same new : Entries) (k : declared.Place) (g : Grammar) {o : Option Place} (all : List Gathered)
    → same ≡ es → OnOk r (new ≡ insert_entry place_eq same k g) → option_map place_of g.outer ≡ o
    → map schema_component_of g.components.items ≡ map (λ c. c.component) all → OnOk r (IsPut (view es) (view new) (place_of k) (grammar_with o all))
put_at (Ok x) es same new k g all e i o are =
    let put = subst (λ ds. IsPut (view same) (view ds) (place_of k) (grammar_of g)) (sym i) (is_put k g same) in
    let put = subst (λ ds. IsPut (view ds) (view new) (place_of k) (grammar_of g)) e put in
    subst (IsPut (view es) (view new) (place_of k)) (ap₂ (λ cs o. record { components = cs; outer = o }) are o) put
put_at (Err f) es same new k g all e i o are = tt

-- the last of those that are nested moves to those that are left
pub nested_moves : (left : List Pending) (x : Place) (ns : List Nested) (n : Nested)
    → (left ++ pending_in x n ∷ []) ++ left_by x ns ≡ left ++ left_by x (ns ++ n ∷ [])
nested_moves left x ns n = append_assoc left (pending_in x n ∷ []) (left_by x ns) ∙ ap (λ ps. left ++ ps) (sym (left_last x ns n))
