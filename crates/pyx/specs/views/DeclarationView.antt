-- The view of the declarations of open elements, and the place of the innermost one of each prefix.
use Rattle.std.specs.Prelude.{◌≡◌, ℕ, Bool, true, List, [], ◌∷◌, length, Option, Some, None, if◌then◌else◌, string_bytes}
use Rattle.std.specs.BTreeMap.{get_by_text}
use Rattle.rng_model.specs.documents.PyxNamespaces.{WrittenAttribute}
use Rattle.rng_model.specs.names.NameViews.{namespace_bytes}
use Rattle.pyx.specs.declared.namespaces.places.Declaration.{Declaration}
use Rattle.pyx.specs.declared.namespaces.places.Places.{Places}
use Rattle.pyx.specs.plain.Declarations.{declared_by, declares}
use Rattle.pyx.specs.plain.WrittenNames.{written_of}

abbrev pub declaration_of : Declaration → WrittenAttribute
declaration_of d = record { name = written_of (string_bytes d.name); content = namespace_bytes d.namespace }

-- the place that is kept for a prefix, or for the default namespace
abbrev pub place_in : Places → Option (List ℕ) → Option ℕ
place_in places None = places.unprefixed
place_in places (Some p) = get_by_text places.prefixes p

-- whether this declares the prefix, or the default namespace
abbrev pub is_of : Option (List ℕ) → Declaration → Bool
is_of p d = declares (declared_by (declaration_of d).name) p

-- The place of the innermost declaration of a prefix. The innermost is first in the list, and a place is the number of
-- declarations around it.
abbrev pub innermost_place : Option (List ℕ) → List Declaration → Option ℕ
innermost_place p [] = None
innermost_place p (d ∷ outer) = if is_of p d then Some (length outer) else innermost_place p outer

-- each declaration has the place of the one that it hides
abbrev pub AreHidden : List Declaration → Type 0
AreHidden [] = Unit {0}
AreHidden (d ∷ outer) = ((p : Option (List ℕ)) → is_of p d ≡ true → d.hidden ≡ innermost_place p outer) × AreHidden outer

-- for each prefix the place of its innermost declaration is kept
pub record AreFound (places : Places) (list : List Declaration) : Type 0 where
  pub found : (p : Option (List ℕ)) → place_in places p ≡ innermost_place p list
  pub hidden : AreHidden list
