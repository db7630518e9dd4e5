-- The declarations of the open elements in one list give a prefix the namespace that the elements give it.
use Rattle.std.proofs.Common.{◌≡◌, ◌∙◌, ℕ, Bool, true, false, cond, List, [], ◌∷◌, ◌++◌, Option, Some, None, ap, sym, refl}
use Rattle.rng_model.specs.documents.PyxLines.{QName}
use Rattle.rng_model.specs.documents.PyxNamespaces.{WrittenAttribute}
use Rattle.pyx.specs.plain.DocumentReader.{Open, declared_in}
use Rattle.pyx.specs.plain.Declarations.{Declared, beforehand, declared_by, declares, found_in, namespace_of, or_else}
use Rattle.pyx.specs.plain.TagReader.{element_name, in_namespace}
use Rattle.pyx.specs.views.ElementView.{all_declared}

found_in_both : (p : Option (List ℕ)) (es ds : List WrittenAttribute) → found_in p (es ++ ds) ≡ or_else (found_in p es) (found_in p ds)
unfolding found_in
found_in_both p [] ds = refl
found_in_both p (e ∷ es) ds = go (declares (declared_by e.name) p) (found_in_both p es ds) where
  go : (b : Bool) → found_in p (es ++ ds) ≡ or_else (found_in p es) (found_in p ds)
      → cond b (Some e.content) (found_in p (es ++ ds)) ≡ or_else (cond b (Some e.content) (found_in p es)) (found_in p ds)
  go true h = refl
  go false h = h

or_else_assoc : {A : Type 0} (a b c : Option A) → or_else (or_else a b) c ≡ or_else a (or_else b c)
or_else_assoc None b c = refl
or_else_assoc (Some x) b c = refl

in_one_list : (stack : List Open) (p : Option (List ℕ)) → namespace_of (all_declared stack ∷ []) p ≡ namespace_of (declared_in stack) p
unfolding namespace_of found_in
in_one_list [] p = refl
in_one_list (o ∷ outer) p =
    ap (λ (x : Option (List ℕ)). or_else x (beforehand p)) (found_in_both p o.declared (all_declared outer))
    ∙ or_else_assoc (found_in p o.declared) (found_in p (all_declared outer)) (beforehand p)
    ∙ ap (or_else (found_in p o.declared)) (in_one_list outer p)

pub namespace_within : (stack : List Open) (ds : List WrittenAttribute) (p : Option (List ℕ)) → all_declared stack ≡ ds
    → namespace_of (ds ∷ []) p ≡ namespace_of (declared_in stack) p
namespace_within stack ds p whole = ap (λ (x : List WrittenAttribute). namespace_of (x ∷ []) p) (sym whole) ∙ in_one_list stack p

pub name_within : (stack : List Open) (ds : List WrittenAttribute) (name : QName) → all_declared stack ≡ ds
    → element_name (ds ∷ []) name ≡ element_name (declared_in stack) name
unfolding element_name
name_within stack ds name whole = ap (in_namespace name.local) (namespace_within stack ds name.prefix whole)

-- a tag without declarations changes nothing
pub name_within_none : (scope : Declared) (name : QName) → element_name ([] ∷ scope) name ≡ element_name scope name
unfolding element_name namespace_of found_in
name_within_none scope name = refl
