-- The reading of a grammar, in terms of its rows.
use Rattle.std.proofs.Common.{◌≡◌, ℕ, ap, ◌∙◌, false, slice_get, Some, None}
use Rattle.std.specs.Option.{option_map}
use Rattle.std.proofs.lemmas.Option.{slice_get-map}
use Rattle.rng_model.specs.names.Names.{Name}
use Rattle.rng_model.specs.names.Names as names
use Rattle.rng_model.specs.simple.Tree.{Simple}
use Rattle.rng_model.specs.simple.Table.{Table, tree_at}
use Rattle.rng_model.specs.names.NameViews.{class_of}
use Rattle.rng_model.specs.declared.name.NameClass.{NameClass}
use Rattle.rng_model.specs.declared.simple.PatternId.{PatternId}
use Rattle.rng_names.specs.plain.Holding.{holds}
use Rattle.rng_deriv_laws.specs.plain.Reading.{body_in, body_of, has_name, named_in}
use Rattle.rng_model.specs.matching.GrammarMatching.{reading_of}

module _ (t : Table) (k : ℕ) where
  seen : NameClass × PatternId → names.NameClass × Simple ℕ
  seen e = (class_of e.0, tree_at t.patterns e.1)

  pub class_there : (e : NameClass × PatternId) (q : Name) → slice_get t.elements k ≡ Some e → has_name (reading_of t) k q ≡ holds (class_of e.0) q
  unfolding seen
  class_there e q found = ap (λ o. named_in o q) (slice_get-map seen t.elements k ∙ ap (option_map seen) found)

  pub no_class_there : (q : Name) → slice_get t.elements k ≡ None → has_name (reading_of t) k q ≡ false
  unfolding seen
  no_class_there q none = ap (λ o. named_in o q) (slice_get-map seen t.elements k ∙ ap (option_map seen) none)

  pub body_there : (e : NameClass × PatternId) → slice_get t.elements k ≡ Some e → body_of (reading_of t) k ≡ tree_at t.patterns e.1
  unfolding seen
  body_there e found = ap body_in (slice_get-map seen t.elements k ∙ ap (option_map seen) found)
