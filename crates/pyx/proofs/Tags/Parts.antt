-- The `A` lines of a tag, split into declarations and others.
use Rattle.std.proofs.Common.{◌≡◌, ℕ, List, [], ◌∷◌, ◌++◌, map, Option, Some, None, sym, ap, subst}
use Rattle.std.specs.Prelude.{is_some}
use Rattle.rng_model.specs.names.Lists.{Among, here, there, HasTwice, at_first, later}
use Rattle.rng_model.specs.documents.PyxLines.{QName}
use Rattle.rng_model.specs.documents.PyxNamespaces.{WrittenAttribute, AreParted, nothing, declaration, other}
use Rattle.pyx.specs.plain.Declarations.{declared_by}
use Rattle.pyx.proofs.Tags.Declarations.{declaration_of, prefix_of, AreDeclared, declares_it, declares_nothing}
use Rattle.pyx.proofs.Tags.Repeats.{names_of}

-- which of all lines declare, and which do not, each in order
pub data IsSplit : List WrittenAttribute → List WrittenAttribute → List WrittenAttribute → Type 0 where
  no_lines : IsSplit [] [] []
  declares : {a : WrittenAttribute} {p : Option (List ℕ)} {all ds os : List WrittenAttribute} → declared_by a.name ≡ Some p → IsSplit all ds os
      → IsSplit (a ∷ all) (a ∷ ds) os
  declares_none : {a : WrittenAttribute} {all ds os : List WrittenAttribute} → declared_by a.name ≡ None → IsSplit all ds os → IsSplit (a ∷ all) ds (a ∷ os)

pub split_parted : {all ds os : List WrittenAttribute} → IsSplit all ds os → AreParted all (map declaration_of ds) os
split_parted no_lines = nothing
split_parted (declares {a} {p} {all} {ds} {os} e s) = subst (λ (q : Option (List ℕ)). AreParted (a ∷ all)
    (record { prefix = q; uri = a.content } ∷ map declaration_of ds) os)
    (sym (ap prefix_of e)) (declaration (declares_it a.name p e) (split_parted s))
split_parted (declares_none {a} e s) = other (declares_nothing a.name e) (split_parted s)

pub split_declared : {all ds os : List WrittenAttribute} → IsSplit all ds os → AreDeclared ds
split_declared no_lines = tt
split_declared (declares e s) = (ap is_some e, split_declared s)
split_declared (declares_none e s) = split_declared s

-- one more line
pub split_declaration : {all ds os : List WrittenAttribute} → IsSplit all ds os → (a : WrittenAttribute) (p : Option (List ℕ)) → declared_by a.name ≡ Some p
    → IsSplit (all ++ a ∷ []) (ds ++ a ∷ []) os
split_declaration no_lines a p e = declares e no_lines
split_declaration (declares d s) a p e = declares d (split_declaration s a p e)
split_declaration (declares_none d s) a p e = declares_none d (split_declaration s a p e)

pub split_other : {all ds os : List WrittenAttribute} → IsSplit all ds os → (a : WrittenAttribute) → declared_by a.name ≡ None
    → IsSplit (all ++ a ∷ []) ds (os ++ a ∷ [])
split_other no_lines a e = declares_none e no_lines
split_other (declares d s) a e = declares d (split_other s a e)
split_other (declares_none d s) a e = declares_none d (split_other s a e)

-- what is among the declarations is among all lines
among_all : {all ds os : List WrittenAttribute} {name : QName} {names : List QName} → IsSplit all ds os → Among name names → names ≡ names_of ds
    → Among name (names_of all)
among_all no_lines m e = absurd (nowhere m e) where
  nowhere : {x : QName} {xs : List QName} → Among x xs → xs ≡ [] → ⊥
  nowhere here e = cc
  nowhere (there m) e = cc
among_all {name = name} (declares {a} {p} {all} {ds} d s) here e = subst (λ (x : QName). Among x (names_of (a ∷ all))) (sym (first e)) here where
  first : {xs : List QName} {x : QName} → x ∷ xs ≡ a.name ∷ names_of ds → x ≡ a.name
  first e = cc
among_all (declares {a} {p} {all} {ds} d s) (there m) e = there (among_all s m (rest e)) where
  rest : {xs : List QName} {x : QName} → x ∷ xs ≡ a.name ∷ names_of ds → xs ≡ names_of ds
  rest e = cc
among_all (declares_none d s) m e = there (among_all s m e)

pub twice_all : {all ds os : List WrittenAttribute} {names : List QName} → IsSplit all ds os → HasTwice names → names ≡ names_of ds
    → HasTwice (names_of all)
twice_all no_lines (at_first m) e = absurd cc
twice_all no_lines (later t) e = absurd cc
twice_all (declares {a} {p} {all} {ds} d s) (at_first {x} {xs} m) e = at_first (among_all s (subst (λ (y : QName). Among y xs) (first e) m) (rest e))
  where
    first : x ∷ xs ≡ a.name ∷ names_of ds → x ≡ a.name
    first e = cc

    rest : x ∷ xs ≡ a.name ∷ names_of ds → xs ≡ names_of ds
    rest e = cc
twice_all (declares {a} {p} {all} {ds} d s) (later {x} {xs} t) e = later (twice_all s t (rest e)) where
  rest : x ∷ xs ≡ a.name ∷ names_of ds → xs ≡ names_of ds
  rest e = cc
twice_all (declares_none d s) t e = later (twice_all s t e)
