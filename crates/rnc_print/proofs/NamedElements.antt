-- The elements of a grammar with names for their numbers.
use Rattle.std.proofs.Common.{◌≡◌, ◌∙◌, ℕ, zero, suc, ◌+◌, ◌<◌, List, [], ◌∷◌, length, get_or, Some, refl, sym, ap, subst, arith}
use Rattle.std.specs.Prelude.{Contains, slice_get}
use Rattle.std.proofs.lemmas.Option.{slice_get-get_or}
use Rattle.rng_model.specs.names.Names.{NameClass, any_name}
use Rattle.rng_model.specs.simple.Leaves.{renamed}
use Rattle.rng_model.specs.simple.SchemaForm.{Element}
use Rattle.rng_model.specs.simple.Grammar.{Grammar}
use Rattle.rng_model.specs.simple.Tree.{Simple, s_not_allowed, as_tree}
use Rattle.rng_model.specs.schema.Unfolding.{Leaf}
use Rattle.rncv_model.specs.printed.Items.{element_at}

abbrev pub Row : Type 0
Row = NameClass × Simple ℕ

module _ (name : ℕ → Leaf) where
  abbrev pub named : ℕ → Row → Element
  named k e = record { name = name k; class = e.0; body = renamed name (as_tree e.1) }

  -- these elements, of which the first has this number
  abbrev pub named_from : ℕ → List Row → List Element
  named_from k [] = []
  named_from k (e ∷ es) = named k e ∷ named_from (1 + k) es

  pub as_many : (k : ℕ) (es : List Row) → length (named_from k es) ≡ length es
  as_many k [] = refl
  as_many k (e ∷ es) = ap (λ (n : ℕ). suc n) (as_many (1 + k) es)

  named_at : (k : ℕ) (es : List Row) (i : ℕ) (d : Element) (e : Row) → i < length es → get_or (named_from k es) i d ≡ named (k + i) (get_or es i e)
  named_at k [] i d e l = absurd (omega (arith, l))
  named_at k (x ∷ es) zero d e l = let same : k ≡ k + 0 = omega arith in ap (λ n. named n x) same
  named_at k (x ∷ es) (suc i) d e l =
      let same : (1 + k) + i ≡ k + suc i = omega arith in
      named_at (1 + k) es i d e (omega (arith, l)) ∙ ap (λ n. named n (get_or es i e)) same

  module _ (g : Grammar) where
    pub row_at : (k : ℕ) (d : Element) → k < length g.elements → get_or (named_from 0 g.elements) k d ≡ named k (element_at g k)
    row_at k d l =
        let none : 0 + k ≡ k = omega arith in
        named_at 0 g.elements k d (any_name, s_not_allowed) l ∙ ap (λ i. named i (element_at g k)) none

    pub in_rows : (k : ℕ) → k < length g.elements → Contains (named_from 0 g.elements) (named k (element_at g k))
    in_rows k l = (k, subst (λ x. k < x) (sym (as_many 0 g.elements)) l, row_at k (named k (element_at g k)) l)

-- without names
pub listed : (g : Grammar) (k : ℕ) → k < length g.elements → slice_get g.elements k ≡ Some (element_at g k)
listed g k l = slice_get-get_or g.elements k (any_name, s_not_allowed) l
