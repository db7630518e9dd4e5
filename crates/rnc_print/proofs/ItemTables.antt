-- What the tables contain for the items of a grammar.
use Rattle.std.proofs.Common.{◌≡◌, ◌∙◌, ℕ, ◌<◌, length, map, sym, ap, Option, Some, None}
use Rattle.std.specs.Prelude.{slice_get, option_map}
use Rattle.std.specs.Option.{unwrap_or}
use Rattle.std.proofs.lemmas.Option.{slice_get-map, unwrap_or-slice_get}
use Rattle.rng_model.proofs.Places.{all_at}
use Rattle.rng_model.specs.names.Names as names
use Rattle.rng_model.specs.names.Names.{any_name}
use Rattle.rng_model.specs.simple.Tree as tree
use Rattle.rng_model.specs.names.NameViews.{class_of}
use Rattle.rng_model.specs.simple.Table.{Table, grammar_of, tree_at}
use Rattle.rng_model.specs.simple.TableRules.{IsTable, IsLeafListed, IsPaired, IsClassPaired}
use Rattle.rng_model.specs.declared.name.NameClass.{NameClass}
use Rattle.rng_model.specs.declared.simple.PatternId.{PatternId}
use Rattle.rng_model.specs.declared.simple.Simple.{Simple}
use Rattle.rncv_model.specs.printed.Items.{element_at}

module _ (t : Table) (h : IsTable t) where
  pub leaf_listed : (k : ℕ) (p : Simple) → slice_get t.patterns k ≡ Some p → IsLeafListed (length t.elements) p
  leaf_listed k p e = all_at (IsLeafListed (length t.elements)) t.patterns k p h.listed e

  pub class_paired : (k : ℕ) (p : Simple) → slice_get t.patterns k ≡ Some p → IsClassPaired p
  class_paired k p e = all_at IsClassPaired t.patterns k p h.paired e

  pub body_inside : (k : ℕ) (e : NameClass × PatternId) → slice_get t.elements k ≡ Some e → e.1.0 < length t.patterns
  body_inside k e is = all_at (λ e. e.1.0 < length t.patterns) t.elements k e h.bodies is

  pub element_paired : (k : ℕ) (e : NameClass × PatternId) → slice_get t.elements k ≡ Some e → IsPaired e.0
  element_paired k e is = all_at (λ e. IsPaired e.0) t.elements k e h.paired_elements is

  pub start_inside : t.start.0 < length t.patterns
  start_inside = h.start

abbrev seen : Table → NameClass × PatternId → names.NameClass × tree.Simple ℕ
seen t e = (class_of e.0, tree_at t.patterns e.1)

element_by : (t : Table) (k : ℕ) (o : Option (NameClass × PatternId)) → slice_get t.elements k ≡ o
    → element_at (grammar_of t) k ≡ unwrap_or (option_map (seen t) o) (any_name, tree.s_not_allowed)
element_by t k o e =
    sym (unwrap_or-slice_get (map (seen t) t.elements) k (any_name, tree.s_not_allowed))
    ∙ ap (λ o. unwrap_or o (any_name, tree.s_not_allowed)) (slice_get-map (seen t) t.elements k ∙ ap (option_map (seen t)) e)

pub element_is : (t : Table) (k : ℕ) (e : NameClass × PatternId) → slice_get t.elements k ≡ Some e
    → element_at (grammar_of t) k ≡ (class_of e.0, tree_at t.patterns e.1)
element_is t k e is = element_by t k (Some e) is

pub element_none : (t : Table) (k : ℕ) → slice_get t.elements k ≡ None → element_at (grammar_of t) k ≡ (any_name, tree.s_not_allowed)
element_none t k is = element_by t k None is
