-- Parts of a grammar that are moved on as they are gathered.
use Rattle.std.proofs.Common.{◌≡◌, ◌∙◌, ap, sym, List, [], ◌++◌, map, drop, append_assoc}
use Rattle.std.proofs.lemmas.List.{map-append}
use Rattle.rng_model.specs.views.SchemaView.{schema_component_of}
use Rattle.rnc_model.specs.loading.Places.{Gathered, TreePath}
use Rattle.rng_load.specs.declared.gathering.GrammarParts.{GrammarParts}
use Rattle.rng_load.specs.plain.FoundGrammars.{nested_in}
use Rattle.rng_load.specs.plain.OpenComponents.{Files, IsLast, OpenList, after_end, components_at, gathered_at_end}
use Rattle.rng_load.specs.views.GrammarParts.{AreJoined, AreParts}
use Rattle.rng_load.specs.views.ReadPatterns.{nested_of}
use Rattle.rng_load.proofs.Places.PlacesApart.{nested_in_both}

-- no parts yet
pub none_joined : (parts : GrammarParts) (all : List Gathered) → parts.components.items ≡ [] → parts.nested.items ≡ [] → AreJoined parts all all
none_joined parts all none empty = record {
  components = ap (λ cs. map schema_component_of cs ++ map (λ g. g.component) all) none;
  nested = ap (λ ns. map nested_of ns ++ nested_in all) empty;
}

module _ (old new : GrammarParts) (moved : List Gathered)
    (components : map schema_component_of new.components.items ≡ map schema_component_of old.components.items ++ map (λ g. g.component) moved)
    (nested : map nested_of new.nested.items ≡ map nested_of old.nested.items ++ nested_in moved) where
  -- the first of those that are not in the parts are appended
  pub moved_on : (rest all : List Gathered) → AreJoined old (moved ++ rest) all → AreJoined new rest all
  moved_on rest all j = record {
    components = ap (λ cs. cs ++ map (λ g. g.component) rest) components
        ∙ append_assoc (map schema_component_of old.components.items) (map (λ g. g.component) moved) (map (λ g. g.component) rest)
        ∙ ap (λ cs. map schema_component_of old.components.items ++ cs) (sym (map-append (λ g. g.component) moved rest)) ∙ j.components;
    nested = ap (λ ns. ns ++ nested_in rest) nested
        ∙ append_assoc (map nested_of old.nested.items) (nested_in moved) (nested_in rest)
        ∙ ap (λ ns. map nested_of old.nested.items ++ ns) (sym (nested_in_both moved rest)) ∙ j.nested;
  }

  -- all of these are appended
  pub all_moved : (all : List Gathered) → AreJoined old moved all → AreParts new all
  all_moved all j = record { components = components ∙ j.components; nested = nested ∙ j.nested }

-- what is gathered comes before what the last open list adds
module _ (files : Files) where
  pub gathered_first : (os : List OpenList) (x : TreePath) (s : List Gathered) → IsLast os
      → (gathered_at_end files os (s, x)).0 ≡ s ++ (gathered_at_end files os ([], x)).0
  unfolding gathered_at_end
  gathered_first os x s last =
      let left = components_at files (drop 1 x) last.list in
      let added : (t : List Gathered) → (gathered_at_end files os (t, x)).0 ≡ t ++ left =
      λ t. ap (λ os. (gathered_at_end files os (t, x)).0) last.alone ∙ ap (λ e. (after_end files e (t ++ left, drop 1 x)).0) last.ends in
      added s ∙ ap (λ r. s ++ r) (sym (added []))
