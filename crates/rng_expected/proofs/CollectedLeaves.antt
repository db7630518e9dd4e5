-- What may come next, as leaves are collected.
use Rattle.std.proofs.Common.{◌≡◌, ◌∙◌, ℕ, List, [], ◌∷◌, ◌++◌, sym, ap, Some, slice_get}
use Rattle.std.specs.Option.{option_map}
use Rattle.std.proofs.lemmas.List.Sums.{fold-append}
use Rattle.std.proofs.lemmas.Option.{slice_get-map}
use Rattle.rng_model.specs.names.Names as names
use Rattle.rng_model.specs.names.NameViews.{class_of}
use Rattle.rng_model.specs.simple.Grammar.{Grammar}
use Rattle.rng_model.specs.simple.Table.{Table, grammar_of, tree_at}
use Rattle.rng_model.specs.simple.Tree.{Simple, s_leaf}
use Rattle.rng_model.specs.declared.name.NameClass.{NameClass}
use Rattle.rng_model.specs.declared.simple.PatternId.{PatternId}
use Rattle.rng_expected.specs.Expectations.{Next, nothing}
use Rattle.rng_expected.specs.plain.Nexts.{with_class, with_leaf, with_leaves}

module _ (t : Table) where
  -- the class of an element is added
  pub class_pushed : (k : ℕ) (e : NameClass × PatternId) (old : Next) (elements : List names.NameClass) → slice_get t.elements k ≡ Some e
      → elements ≡ old.elements ++ class_of e.0 ∷ []
      → record { elements = elements; text = old.text; values = old.values; datatypes = old.datatypes }
      ≡ with_leaf (grammar_of t) old (s_leaf k)
  class_pushed k e old elements found is =
      ap (λ cs. record { elements = cs; text = old.text; values = old.values; datatypes = old.datatypes }) is
      ∙ ap (λ o. with_class o old) (sym
      (slice_get-map (λ (e : NameClass × PatternId). (class_of e.0, tree_at t.patterns e.1)) t.elements k
      ∙ ap (option_map (λ (e : NameClass × PatternId). (class_of e.0, tree_at t.patterns e.1))) found))

pub one_more_leaf : (g : Grammar) (ls : List (Simple ℕ)) (l : Simple ℕ) (old new : Next) (more : List (Simple ℕ)) → more ≡ ls ++ l ∷ []
    → old ≡ with_leaves g ls → new ≡ with_leaf g old l → new ≡ with_leaves g more
one_more_leaf g ls l old new more are before is =
    is ∙ ap (λ n. with_leaf g n l) before ∙ sym (ap (with_leaves g) are ∙ fold-append (with_leaf g) nothing ls (l ∷ []))
