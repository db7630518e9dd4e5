-- Elements with the same name and the same body take the same.
use Rattle.std.proofs.Common.{◌≡◌, ◌∙◌, ⊎_elim, ℕ, List, [], ◌∷◌, ◌++◌, length, refl, sym, ap, subst, slice_get, Some}
use Rattle.rng_model.specs.names.Names as names
use Rattle.rng_model.specs.simple.Table.{Table}
use Rattle.rng_model.specs.names.NameViews.{class_of, name_of}
use Rattle.rng_model.specs.declared.name.Name as declared
use Rattle.rng_model.specs.declared.name.NameClass.TheVariants as classes
use Rattle.rng_model.specs.declared.simple.ElementId.{ElementId}
use Rattle.rng_model.specs.declared.simple.PatternId.{PatternId}
use Rattle.rng_names.specs.plain.Holding.{holds}
use Rattle.rng_names.proofs.NameViews.{name_class_is}
use Rattle.rng_deriv_ways.specs.plain.Alike.{AreAlike, IsAlike}
use Rattle.rng_deriv_ways.proofs.AttributeTakers.{pushed_cases}
use Rattle.rng_deriv_ways.proofs.GrammarRows.{body_there, class_there}

pub named_alike : (t : Table) (e f : ℕ) (n m : declared.Name) (b : PatternId) → slice_get t.elements e ≡ Some (classes.Name n, b)
    → slice_get t.elements f ≡ Some (classes.Name m, b) → name_of n ≡ name_of m → IsAlike t e f
named_alike t e f n m b first second same = record {
  names = λ q. class_there t e (classes.Name n, b) q first ∙ ap (λ c. holds c q) (is same) ∙ sym (class_there t f (classes.Name m, b) q second);
  bodies = body_there t e (classes.Name n, b) first ∙ sym (body_there t f (classes.Name m, b) second);
}
  where
    is : name_of n ≡ name_of m → class_of (classes.Name n) ≡ class_of (classes.Name m)
    is e = name_class_is (classes.Name n) n refl ∙ ap names.name_is e ∙ sym (name_class_is (classes.Name m) m refl)

pub alike_itself : (t : Table) (e : ℕ) → IsAlike t e e
alike_itself t e = record { names = λ q. refl; bodies = refl }

-- one more element, with the one to which it is alike
pub alike_more : (t : Table) (all : List ElementId) (n : ℕ) (first : ElementId) → length all ≡ n → AreAlike t all → IsAlike t n first.0
    → AreAlike t (all ++ first ∷ [])
alike_more t all n first count alike own e f h = ⊎_elim (λ a. alike e f a)
    (λ b. subst (λ k. IsAlike t k f.0) (sym (b.0 ∙ count)) (subst (λ (g : ElementId). IsAlike t n g.0) b.1 own)) (pushed_cases all first e f h)
