-- Attributes are expanded one after the other.
use Rattle.std.proofs.Common.{◌≡◌, ℕ, List, [], ◌∷◌, ◌++◌, Option, Some, None, Result, Ok, Err, refl, sym, ap, ◌∙◌}
use Rattle.rng_model.specs.plain.Answers.{Refuses}
use Rattle.rng_model.specs.matching.Document.{Attribute}
use Rattle.rng_model.specs.names.Names.{Name}
use Rattle.rng_model.specs.documents.PyxNamespaces.{WrittenAttribute}
use Rattle.pyx.specs.declared.fault.LineFault.{LineFault}
use Rattle.pyx.specs.declared.fault.LineFault.TheVariants as faults
use Rattle.pyx.specs.plain.Declarations.{Declared}
use Rattle.pyx.specs.plain.TagReader.{attribute_name, expanded, and_more}
use Rattle.pyx.specs.views.ElementView.{clause_of, resolved}

abbrev with_attributes : List Attribute → Option (List Attribute) → Option (List Attribute)
with_attributes front None = None
with_attributes front (Some rest) = Some (front ++ rest)

first_and : (name : Name) (content : List ℕ) (attrs : List Attribute) (o : Option (List Attribute)) →
    and_more (Some name) content (with_attributes attrs o) ≡ with_attributes (record { name = name; content = content } ∷ attrs) o
first_and name content attrs None = refl
first_and name content attrs (Some rest) = refl

first_behind : (name : Option Name) (content : List ℕ) (rest more ys : Option (List Attribute)) (attrs : List Attribute)
    → and_more name content rest ≡ Some attrs →
    ((front : List Attribute) → rest ≡ Some front → more ≡ with_attributes front ys) → and_more name content more ≡ with_attributes attrs ys
first_behind None content rest more ys attrs e h = absurd cc
first_behind (Some name) content None more ys attrs e h = absurd cc
first_behind (Some name) content (Some front) more ys attrs e h =
    let q : attrs ≡ record { name = name; content = content } ∷ front = cc in
    ap (and_more (Some name) content) (h front refl) ∙ first_and name content front ys ∙ ap (λ a. with_attributes a ys) (sym q)

-- what comes after attributes that are expanded
pub expanded_behind : (scope : Declared) (xs ys : List WrittenAttribute) (attrs : List Attribute) → expanded scope xs ≡ Some attrs
    → expanded scope (xs ++ ys) ≡ with_attributes attrs (expanded scope ys)
unfolding expanded
expanded_behind scope [] ys attrs e = start attrs (expanded scope ys) e where
  start : (attrs : List Attribute) (o : Option (List Attribute)) → ◌≡◌ {A = Option (List Attribute)} (Some []) (Some attrs) → o ≡ with_attributes attrs o
  start [] None e = refl
  start [] (Some rest) e = refl
  start (x ∷ xs) o e = absurd cc
expanded_behind scope (a ∷ xs) ys attrs e = first_behind (attribute_name scope a.name) a.content (expanded scope xs) (expanded scope (xs ++ ys))
    (expanded scope ys) attrs e (λ front f. expanded_behind scope xs ys front f)

pub one_more : (scope : Declared) (xs : List WrittenAttribute) (a : WrittenAttribute) (attrs : List Attribute) (name : Name) → expanded scope xs ≡ Some attrs
    → attribute_name scope a.name ≡ Some name → expanded scope (xs ++ a ∷ []) ≡ Some (attrs ++ record { name = name; content = a.content } ∷ [])
unfolding expanded
one_more scope xs a attrs name e f = expanded_behind scope xs (a ∷ []) attrs e ∙ rw f refl

pub is_stuck : (scope : Declared) (xs ys : List WrittenAttribute) (a : WrittenAttribute) (attrs : List Attribute) → expanded scope xs ≡ Some attrs
    → attribute_name scope a.name ≡ None → expanded scope (xs ++ a ∷ ys) ≡ None
unfolding expanded
is_stuck scope xs ys a attrs e f = expanded_behind scope xs (a ∷ ys) attrs e ∙ rw f refl

pub resolved_some : {A : Type 0} (o : Option A) (x : A) → resolved o ≡ Ok x → o ≡ Some x
resolved_some None x e = absurd cc
resolved_some (Some y) x e = cc

no_name : {A : Type 0} (k : ℕ) → ◌≡◌ {A = Result A ℕ} (resolved None) (Err k) → k ≡ 11
no_name k r = cc

some_name : {A : Type 0} (x : A) (k : ℕ) → ◌≡◌ {A = Result A ℕ} (resolved (Some x)) (Err k) → ⊥
some_name x k r = cc

-- a fault of one name is a fault of all
pub refuses_all : {A B : Type 0} (one : Option A) (all : Option B) (e : LineFault) → (one ≡ None → all ≡ None) → Refuses (clause_of e) (resolved one)
    → Refuses (clause_of e) (resolved all)
refuses_all one all faults.Memory h r = tt
refuses_all None all (faults.Clause k) h r = rw (h refl, no_name k r) refl
refuses_all (Some x) all (faults.Clause k) h r = absurd (some_name x k r)
