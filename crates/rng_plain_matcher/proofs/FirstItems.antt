-- What a pattern and a state are after the first attribute or way of a list, and after the others.
use Rattle.std.proofs.Common.{◌≡◌, ◌∙◌, ℕ, Bool, true, ◌&&◌, List, ◌∷◌, map, sym, ap}
use Rattle.rng_model.specs.declared.document.Attr.{Attr}
use Rattle.rng_model.specs.documents.EventViews.{attribute_of}
use Rattle.rng_model.specs.matching.Document.{Attribute}
use Rattle.rng_model.specs.matching.GrammarMatching.{Reading}
use Rattle.rng_model.specs.names.Names.{NameClass}
use Rattle.rng_model.specs.simple.Tree.{Simple, s_attribute}
use Rattle.rng_names.specs.plain.Holding.{holds}
use Rattle.rng_deriv_laws.specs.plain.Derivatives.{after_attribute, after_attributes, has_text, takes_attribute}

module _ (g : Reading) where
  -- the first attribute, and then the others
  pub one_attribute : (attrs others : List Attr) (a : Attr) (p next left : Simple ℕ) → a ∷ others ≡ attrs → next ≡ after_attribute g p (attribute_of a)
      → left ≡ after_attributes g next (map attribute_of others) → left ≡ after_attributes g p (map attribute_of attrs)
  one_attribute attrs others a p next left whole step is =
      is
      ∙ ap (λ n. after_attributes g n (map attribute_of others)) step
      ∙ ap (λ l. after_attributes g p (map attribute_of l)) whole

  -- a leaf that is an attribute with a class that has the name
  pub attribute_taken : (a : Attribute) (c : NameClass) (leaf p body : Simple ℕ) (s : List ℕ) (has : Bool) → leaf ≡ s_attribute c p → body ≡ p
      → s ≡ a.content → holds c a.name ≡ true → has ≡ has_text g body s → has ≡ takes_attribute g a leaf
  attribute_taken a c leaf p body s has leaf_is body_is text named is =
      is
      ∙ ap (λ q. has_text g q s) body_is
      ∙ ap (λ t. has_text g p t) text
      ∙ sym (ap (λ b. b && has_text g p a.content) named)
      ∙ sym (ap (λ l. takes_attribute g a l) leaf_is)
