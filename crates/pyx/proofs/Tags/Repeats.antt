-- Names that occur twice in a tag: the search agrees with the definition.
use Rattle.std.proofs.Common.{◌≡◌, ℕ, Bool, true, false, ◌||◌, List, [], ◌∷◌, map, refl, sym, ap, subst, ◌∙◌, ◌⊎◌, inl, inr}
use Rattle.std.specs.Str.{bytes_eq}
use Rattle.std.proofs.lemmas.Bool.{or_cases, and_parts}
use Rattle.rng_model.proofs.Texts.{bytes_same, bytes_itself}
use Rattle.rng_model.specs.matching.Document.{Attribute, HasNoName, nothing_named, another_name, Distinct, none, one_more}
use Rattle.rng_model.specs.names.Lists.{Among, here, there, HasTwice, at_first, later}
use Rattle.rng_model.specs.names.Names.{Name}
use Rattle.rng_model.specs.documents.PyxLines.{QName}
use Rattle.rng_model.specs.documents.PyxNamespaces.{WrittenAttribute}
use Rattle.pyx.specs.plain.Declarations.{same_written, is_written_in, is_written_twice}
use Rattle.pyx.specs.plain.TagReader.{same_name, is_named_in, is_named_twice}
use Rattle.pyx.proofs.Lines.WrittenNames.{written_same}

pub true_false : true ≡ false → ⊥
true_false e = cc

-- ---- names as they are written

abbrev pub names_of : List WrittenAttribute → List QName
names_of all = map (λ a. a.name) all

written_first : (name : QName) (a : WrittenAttribute) (more : List WrittenAttribute) → same_written a.name name ≡ true → Among name (names_of (a ∷ more))
written_first name a more e = subst (λ (x : QName). Among name (x ∷ names_of more)) (sym (written_same a.name name e)) here

pub among_written : (name : QName) (all : List WrittenAttribute) → is_written_in name all ≡ true → Among name (names_of all)
unfolding is_written_in
among_written name [] e = absurd cc
among_written name (a ∷ more) e = go (or_cases (same_written a.name name) (is_written_in name more) e) (among_written name more) where
  go : (same_written a.name name ≡ true) ⊎ (is_written_in name more ≡ true) → (is_written_in name more ≡ true → Among name (names_of more))
      → Among name (names_of (a ∷ more))
  go (inl k) f = written_first name a more k
  go (inr k) f = there (f k)

pub twice_written : (all : List WrittenAttribute) → is_written_twice all ≡ true → HasTwice (names_of all)
unfolding is_written_twice
twice_written [] e = absurd cc
twice_written (a ∷ more) e = go (or_cases (is_written_in a.name more) (is_written_twice more) e) (twice_written more) where
  go : (is_written_in a.name more ≡ true) ⊎ (is_written_twice more ≡ true) → (is_written_twice more ≡ true → HasTwice (names_of more))
      → HasTwice (names_of (a ∷ more))
  go (inl k) f = at_first (among_written a.name more k)
  go (inr k) f = later (f k)

-- ---- expanded names

pub names_same : (a b : Name) → same_name a b ≡ true → a ≡ b
names_same a b e = let p = and_parts (bytes_eq a.local b.local) (bytes_eq a.ns b.ns) e in
    join a.ns b.ns a.local b.local (bytes_same a.ns b.ns p.1) (bytes_same a.local b.local p.0) where
      join : (p q x y : List ℕ) → p ≡ q → x ≡ y → ◌≡◌ {A = Name} (record { ns = p; local = x }) (record { ns = q; local = y })
      join p q x y e f = rw (e, f) refl

pub name_itself : (a : Name) → same_name a a ≡ true
name_itself a = rw (bytes_itself a.local, bytes_itself a.ns) refl

-- the result of the search
pub named_nowhere : (name : Name) (all : List Attribute) → is_named_in name all ≡ false → HasNoName name all
unfolding is_named_in
named_nowhere name [] e = nothing_named
named_nowhere name (a ∷ more) e = go (same_name a.name name) refl e (named_nowhere name more) where
  go : (b : Bool) → same_name a.name name ≡ b → (b || is_named_in name more) ≡ false → (is_named_in name more ≡ false → HasNoName name more)
      → HasNoName name (a ∷ more)
  go true k e f = absurd cc
  go false k e f = another_name (λ p. true_false (sym (name_itself name) ∙ ap (λ (x : Name). same_name x name) (sym p) ∙ k)) (f e)

pub all_distinct : (all : List Attribute) → is_named_twice all ≡ false → Distinct all
unfolding is_named_twice
all_distinct [] e = none
all_distinct (a ∷ more) e = go (is_named_in a.name more) refl e (all_distinct more) where
  go : (b : Bool) → is_named_in a.name more ≡ b → (b || is_named_twice more) ≡ false → (is_named_twice more ≡ false → Distinct more) → Distinct (a ∷ more)
  go true k e f = absurd cc
  go false k e f = one_more (named_nowhere a.name more k) (f e)

pub nowhere_named : {name : Name} {all : List Attribute} → HasNoName name all → is_named_in name all ≡ false
unfolding is_named_in
nowhere_named nothing_named = refl
nowhere_named {name} (another_name {a} {attrs} n h) = go (same_name a.name name) refl (nowhere_named h) where
  go : (b : Bool) → same_name a.name name ≡ b → is_named_in name attrs ≡ false → (b || is_named_in name attrs) ≡ false
  go true k f = absurd (n (names_same a.name name k))
  go false k f = f

pub distinct_all : {all : List Attribute} → Distinct all → is_named_twice all ≡ false
unfolding is_named_twice
distinct_all none = refl
distinct_all (one_more {a} {attrs} h d) = rw (nowhere_named h) (distinct_all d)

-- if a name occurs twice, the names are not distinct
pub not_distinct : (all : List Attribute) → is_named_twice all ≡ true → Distinct all → ⊥
not_distinct all e d = true_false (sym e ∙ distinct_all d)
