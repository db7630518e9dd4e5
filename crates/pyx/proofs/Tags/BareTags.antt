-- A tag without attributes and declarations.
use Rattle.std.proofs.Common.{◌≡◌, ℕ, List, [], ◌∷◌, Option, Some, None, Result, Ok, Err, ap, refl, subst}
use Rattle.rng_model.specs.names.Names.{Name}
use Rattle.rng_model.specs.plain.Answers.{Gives}
use Rattle.rng_model.specs.declared.document.Attr.{Attr}
use Rattle.rng_model.specs.documents.PyxLines.{QName}
use Rattle.rng_model.specs.documents.PyxNamespaces.{WrittenAttribute}
use Rattle.pyx.specs.plain.Declarations.{Declared, any_forbidden, is_written_twice}
use Rattle.pyx.specs.declared.fault.LineFault.{LineFault}
use Rattle.pyx.specs.declared.fault.LineFault.TheVariants as faults
use Rattle.pyx.specs.plain.TagReader.{Element, element_name, expanded, is_named_twice, tag_read, with_name}
use Rattle.pyx.specs.views.ElementView.{clause_of, element_at, name_at, resolved}

-- its element has the name that is resolved
abbrev bare_element : Option Name → Result Element ℕ
bare_element None = Err 11
bare_element (Some name) = Ok (record { name = name; attrs = [] })

bare_read : (outer : Declared) (name : QName) → tag_read outer name [] [] ≡ bare_element (element_name ([] ∷ outer) name)
unfolding tag_read any_forbidden expanded is_named_twice is_written_twice
bare_read outer name = go (element_name ([] ∷ outer) name) where
  go : (o : Option Name) → with_name o [] (Some []) ≡ bare_element o
  go None = refl
  go (Some n) = refl

bare_gives : (names : List Name) (result : Result ℕ LineFault) (o : Option Name) → Gives clause_of (λ at. name_at names at) result (resolved o)
    → Gives clause_of (element_at names []) result (bare_element o)
bare_gives names (Ok at) None given = absurd cc
bare_gives names (Ok at) (Some n) given = let same : n ≡ name_at names at = cc in ap (λ (m : Name). Ok (record { name = m; attrs = [] })) same
bare_gives names (Err faults.Memory) o given = given
bare_gives names (Err (faults.Clause k)) None given = let same : 11 ≡ k = cc in ap (λ (x : ℕ). Err x) same
bare_gives names (Err (faults.Clause k)) (Some n) given = absurd cc

-- in the form of the code
pub gives_bare : (names : List Name) (attrs : List Attr) (result : Result ℕ LineFault) (outer : Declared) (name : QName)
    (declared others : List WrittenAttribute) → declared ≡ [] → others ≡ [] → attrs ≡ []
    → Gives clause_of (λ at. name_at names at) result (resolved (element_name (declared ∷ outer) name))
    → Gives clause_of (element_at names attrs) result (tag_read outer name declared others)
gives_bare names attrs result outer name declared others d o a given =
    rw (d, o, a, bare_read outer name) (bare_gives names result (element_name ([] ∷ outer) name)
    (subst (λ (ds : List WrittenAttribute). Gives clause_of (λ at. name_at names at) result (resolved (element_name (ds ∷ outer) name))) d given))
