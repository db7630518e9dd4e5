-- The result of reading a tag: its element, or a clause that it breaks.
use Rattle.std.proofs.Common.{◌≡◌, ℕ, Bool, true, false, cond, ◌||◌, List, [], ◌∷◌, map, Option, Some, None, Result, Ok, Err, refl, sym, ◌∙◌, ◌⊎◌, inl, inr}
use Rattle.std.specs.Prelude.{is_some}
use Rattle.std.specs.List.{AllByRecursion}
use Rattle.rng_model.specs.matching.Document.{Attribute, Distinct}
use Rattle.rng_model.specs.names.Lists.{Among, here, there}
use Rattle.rng_model.specs.names.Names.{Name}
use Rattle.rng_model.specs.documents.PyxLines.{QName}
use Rattle.rng_model.specs.documents.PyxNamespaces.{WrittenAttribute, NamespaceDeclaration, IsForbidden, NamesElement, AreExpanded, none_left, expanded_and}
use Rattle.rng_model.specs.documents.PyxClauses.{BreaksTagNamespaces, forbidden, element_prefix, attribute_prefix, RepeatsName, written_twice, expanded_twice}
use Rattle.pyx.specs.plain.TagReader as read
use Rattle.pyx.specs.plain.Declarations.{Declared, declared_by, forbidden_by, is_forbidden, any_forbidden, is_written_twice}
use Rattle.pyx.specs.plain.TagReader.{Element, attribute_name, expanded, and_more}
use Rattle.pyx.specs.plain.TagReader.{is_named_twice, with_attributes, with_name, tag_read}
use Rattle.pyx.proofs.Tags.Declarations.{declaration_of, prefix_of, AreDeclared, forbidden_is, is_forbidden_by}
use Rattle.pyx.proofs.Tags.Namespaces.{scope_in, AllDeclared, UndeclaredPrefix, NameTells, element_tells, AttributeTells, attribute_tells}
use Rattle.pyx.proofs.Tags.Parts.{IsSplit, split_parted, split_declared, twice_all}
use Rattle.pyx.proofs.Tags.Repeats.{twice_written, all_distinct, not_distinct}

false_true : false ≡ true → ⊥
false_true e = cc

-- ---- forbidden declarations

abbrev Allowed : List WrittenAttribute → Type 0
Allowed ds = AllByRecursion (λ d. IsForbidden d → ⊥) (map declaration_of ds)

record OneForbidden (ds : List WrittenAttribute) : Type 0 where
  one : NamespaceDeclaration
  among : Among one (map declaration_of ds)
  is : IsForbidden one

one_forbidden : (a : WrittenAttribute) → is_forbidden a ≡ true → IsForbidden (declaration_of a)
one_forbidden a e = go (declared_by a.name) e where
  go : (o : Option (Option (List ℕ))) → forbidden_by o a.content ≡ true → IsForbidden (record { prefix = prefix_of o; uri = a.content })
  go None e = absurd (false_true e)
  go (Some p) e = forbidden_is p a.content e

one_allowed : (a : WrittenAttribute) → is_some (declared_by a.name) ≡ true → is_forbidden a ≡ false → IsForbidden (declaration_of a) → ⊥
one_allowed a s e f = go (declared_by a.name) s e f where
  go : (o : Option (Option (List ℕ))) → is_some o ≡ true → forbidden_by o a.content ≡ false → IsForbidden (record { prefix = prefix_of o; uri = a.content }) → ⊥
  go None s e f = false_true s
  go (Some p) s e f = false_true (sym e ∙ is_forbidden_by f)

abbrev ForbiddenTells : List WrittenAttribute → Bool → Type 0
ForbiddenTells ds true = OneForbidden ds
ForbiddenTells ds false = Allowed ds

forbidden_tells : (ds : List WrittenAttribute) → AreDeclared ds → ForbiddenTells ds (any_forbidden ds)
unfolding any_forbidden
forbidden_tells [] all = tt
forbidden_tells (a ∷ more) all = go (is_forbidden a) (any_forbidden more) refl (forbidden_tells more all.1) where
  go : (b c : Bool) → is_forbidden a ≡ b → ForbiddenTells more c → ForbiddenTells (a ∷ more) (b || c)
  go true c e t = record { one = declaration_of a; among = here; is = one_forbidden a e }
  go false true e t = record { one = t.one; among = there t.among; is = t.is }
  go false false e t = (one_allowed a all.0 e, t)

-- ---- attributes

record OneUndeclared (scope : Declared) (others : List WrittenAttribute) : Type 0 where
  one : WrittenAttribute
  among : Among one others
  is : UndeclaredPrefix scope one.name

abbrev ExpandedTells : Declared → List WrittenAttribute → Option (List Attribute) → Type 0
ExpandedTells scope others None = OneUndeclared scope others
ExpandedTells scope others (Some attrs) = AreExpanded (scope_in scope) others attrs

expanded_tells : (scope : Declared) (others : List WrittenAttribute) → AllDeclared scope → ExpandedTells scope others (expanded scope others)
unfolding expanded
expanded_tells scope [] all = none_left
expanded_tells scope (a ∷ more) all = go (attribute_name scope a.name) (expanded scope more) (attribute_tells scope a.name all)
    (expanded_tells scope more all) where
      go : (o : Option Name) (r : Option (List Attribute)) → AttributeTells scope a.name o → ExpandedTells scope more r
          → ExpandedTells scope (a ∷ more) (and_more o a.content r)
      go None r t u = record { one = a; among = here; is = t }
      go (Some q) None t u = record { one = u.one; among = there u.among; is = u.is }
      go (Some q) (Some attrs) t u = expanded_and t u

-- ---- the tag

-- the tag breaks no rule about namespaces, and these are its names
pub record HasNames (outer : Declared) (name : QName) (declared others : List WrittenAttribute) (q : Name) (attrs : List Attribute) : Type 0 where
  pub allowed : AllByRecursion (λ d. IsForbidden d → ⊥) (map declaration_of declared)
  pub is_named : NamesElement (scope_in (declared ∷ outer)) name q
  pub are_expanded : AreExpanded (scope_in (declared ∷ outer)) others attrs
  pub is_expanded : expanded (declared ∷ outer) others ≡ Some attrs

-- the element that is read from a tag
pub record IsRead (outer : Declared) (name : QName) (declared others : List WrittenAttribute) (e : Element) : Type 0 where
  pub names : HasNames outer name declared others e.name e.attrs
  pub distinct : Distinct e.attrs
  pub once : is_written_twice declared ≡ false

-- a name occurs twice in the tag, which has names
pub record Repeats (outer : Declared) (name : QName) (written declared others : List WrittenAttribute) : Type 0 where
  pub q : Name
  pub attrs : List Attribute
  pub names : HasNames outer name declared others q attrs
  pub twice : RepeatsName (scope_in outer) written

-- P11, or P12
abbrev pub TagTells : Declared → QName → List WrittenAttribute → List WrittenAttribute → List WrittenAttribute → Result Element ℕ → Type 0
TagTells outer name written declared others (Ok e) = IsRead outer name declared others e
TagTells outer name written declared others (Err k) = ((k ≡ 11) × BreaksTagNamespaces (scope_in outer) name written) ⊎
    ((k ≡ 12) × Repeats outer name written declared others)

module _ (outer : Declared) (name : QName) (written declared others : List WrittenAttribute) (split : IsSplit written declared others) where
  repeats_tell : (q : Name) (attrs : List Attribute) → HasNames outer name declared others q attrs
      → TagTells outer name written declared others (with_attributes q declared (Some attrs))
  repeats_tell q attrs n = go (is_written_twice declared) (is_named_twice attrs) refl refl where
    twice : RepeatsName (scope_in outer) written → Repeats outer name written declared others
    twice r = record { q = q; attrs = attrs; names = n; twice = r }

    go : (b c : Bool) → is_written_twice declared ≡ b → is_named_twice attrs ≡ c
        → TagTells outer name written declared others (cond (b || c) (Err 12) (Ok (record { name = q; attrs = attrs })))
    go true c e g = inr (refl, twice (written_twice (twice_all split (twice_written declared e) refl)))
    go false true e g = inr (refl, twice (expanded_twice (split_parted split) n.are_expanded (not_distinct attrs g)))
    go false false e g = record { names = n; distinct = all_distinct attrs g; once = e }

  pub tag_tells : AllDeclared outer → TagTells outer name written declared others (tag_read outer name declared others)
  unfolding tag_read
  tag_tells all = go (any_forbidden declared) (read.element_name (declared ∷ outer) name) (expanded (declared ∷ outer) others)
      (forbidden_tells declared (split_declared split))
      (element_tells (declared ∷ outer) name (split_declared split, all)) (expanded_tells (declared ∷ outer) others (split_declared split, all)) refl where
        go : (b : Bool) (o : Option Name) (r : Option (List Attribute)) → ForbiddenTells declared b → NameTells (declared ∷ outer) name o
            → ExpandedTells (declared ∷ outer) others r → expanded (declared ∷ outer) others ≡ r
            → TagTells outer name written declared others (cond b (Err 11) (with_name o declared r))
        go true o r f n x e = inl (refl, forbidden (split_parted split) f.among f.is)
        go false None r f n x e = inl (refl, element_prefix (split_parted split) n.is n.undeclared)
        go false (Some q) None f n x e = inl (refl, attribute_prefix (split_parted split) x.among x.is.is x.is.undeclared)
        go false (Some q) (Some attrs) f n x e = repeats_tell q attrs (record { allowed = f; is_named = n; are_expanded = x; is_expanded = e })
