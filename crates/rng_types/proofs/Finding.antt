-- The result for a datatype: its values, or the fault that it has.
use Rattle.std.proofs.Common.{◌≡◌, ◌↔◌, ◌∙◌, ℕ, List, Bool, true, false, Option, Some, None, is_some, IsTrue, Result, Ok, Err, refl, sym, ap, subst}
use Rattle.std.specs.Option.{option_and_then}
use Rattle.std.proofs.lemmas.Bool.{true≢false}
use Rattle.std.proofs.lemmas.Option.{none-some, same_Some}
use Rattle.rng_model.specs.simple.Tree.{Datatype}
use Rattle.rng_model.specs.datatypes.Facets.{Parameter, named}
use Rattle.rng_model.specs.datatypes.Datatypes.{Meaning, Maker, libraries, type_named, meaning_of}
use Rattle.rng_types.specs.declared.builtin.TypeFault.{TypeFault}
use Rattle.rng_types.specs.declared.builtin.TypeFault.TheVariants as faults
use Rattle.rng_types.specs.views.View.{seen}
use Rattle.rng_types.specs.views.Fault.{HasFault}
use Rattle.rng_types.specs.views.Finding.{or_bad, chosen, chosen_in, find_type}

not_true : {A : Type 0} → IsTrue false → A
not_true e = absurd (true≢false (sym e))

same_ok : {A : Type 0} (x y : A) → ◌≡◌ {A = Result A TypeFault} (Ok x) (Ok y) → x ≡ y
same_ok x y e = cc

no_ok : {A B : Type 0} {x : A} {f : TypeFault} → ◌≡◌ {A = Result A TypeFault} (Err f) (Ok x) → B
no_ok e = absurd (impossible e)
  where
    impossible : {A : Type 0} {x : A} {f : TypeFault} → ◌≡◌ {A = Result A TypeFault} (Err f) (Ok x) → ⊥
    impossible e = cc

-- ---- the values

made : (o : Option Meaning) (meaning : Meaning) → (or_bad o ≡ Ok meaning) ↔ (o ≡ Some meaning)
made None meaning = (λ e. no_ok e, λ e. absurd (none-some meaning e))
made (Some m) meaning = (λ e. ap Some (same_ok m meaning e), λ e. ap Ok (same_Some m meaning e))

chosen_is : (o : Option Maker) (ps : List Parameter) (meaning : Meaning)
    → (chosen o ps ≡ Ok meaning) ↔ (option_and_then (λ make. make ps) o ≡ Some meaning)
chosen_is None ps meaning = (λ e. no_ok e, λ e. absurd (none-some meaning e))
chosen_is (Some make) ps meaning = made (make ps) meaning

found_is : (o : Option (List (List ℕ × Maker))) (name : List ℕ) (ps : List Parameter) (meaning : Meaning)
    → (chosen_in o name ps ≡ Ok meaning) ↔ (option_and_then (λ make. make ps) (option_and_then (named name) o) ≡ Some meaning)
found_is None name ps meaning = (λ e. no_ok e, λ e. absurd (none-some meaning e))
found_is (Some types) name ps meaning = chosen_is (named name types) ps meaning

pub type_found : (d : Datatype) (r : Result Meaning TypeFault) → r ≡ find_type d.library d.name d.parameters → (meaning : Meaning)
    → (r ≡ Ok meaning) ↔ (meaning_of d ≡ Some meaning)
unfolding find_type type_named
type_found d r is meaning =
    let found = found_is (named d.library libraries) d.name d.parameters meaning in (λ e. found.0 (sym is ∙ e), λ e. is ∙ found.1 e)

-- ---- the faults

-- what each fault says, by what there is: the library, the type, and the datatype
abbrev Says : TypeFault → Bool → Bool → Bool → Type 0
Says faults.UnknownLibrary library type known = ¬ (IsTrue library)
Says faults.UnknownType library type known = IsTrue library × ¬ (IsTrue type)
Says faults.BadParameter library type known = IsTrue type × ¬ (IsTrue known)

same_fault : {A : Type 0} (f g : TypeFault) → ◌≡◌ {A = Result A TypeFault} (Err f) (Err g) → f ≡ g
same_fault f g e = cc

-- the fault that there is, if the other two are none
only : {A : Type 0} (f g : TypeFault) (P : TypeFault → Type 0) → P f → (P g → g ≡ f) → (◌≡◌ {A = Result A TypeFault} (Err f) (Err g)) ↔ P g
only f g P holds one = (λ e. subst P (same_fault f g e) holds, λ p. ap Err (sym (one p)))

not_false : ¬ (IsTrue false)
not_false e = not_true e

no_library : (g : TypeFault) → Says g false false false → g ≡ faults.UnknownLibrary
no_library faults.UnknownLibrary p = refl
no_library faults.UnknownType p = not_true p.0
no_library faults.BadParameter p = not_true p.0

no_type : (g : TypeFault) → Says g true false false → g ≡ faults.UnknownType
no_type faults.UnknownLibrary p = absurd (p refl)
no_type faults.UnknownType p = refl
no_type faults.BadParameter p = not_true p.0

not_made : (g : TypeFault) → Says g true true false → g ≡ faults.BadParameter
not_made faults.UnknownLibrary p = absurd (p refl)
not_made faults.UnknownType p = absurd (p.1 refl)
not_made faults.BadParameter p = refl

no_fault : (g : TypeFault) → Says g true true true → ⊥
no_fault faults.UnknownLibrary p = p refl
no_fault faults.UnknownType p = p.1 refl
no_fault faults.BadParameter p = p.1 refl

made_fault : (o : Option Meaning) (g : TypeFault) → (or_bad o ≡ Err g) ↔ Says g true true (is_some o)
made_fault None g = only faults.BadParameter g (λ f. Says f true true false) (refl, not_false) (not_made g)
made_fault (Some m) g = (λ e. no_ok (sym e), λ p. absurd (no_fault g p))

chosen_fault : (o : Option Maker) (ps : List Parameter) (g : TypeFault)
    → (chosen o ps ≡ Err g) ↔ Says g true (is_some o) (is_some (option_and_then (λ make. make ps) o))
chosen_fault None ps g = only faults.UnknownType g (λ f. Says f true false false) (refl, not_false) (no_type g)
chosen_fault (Some make) ps g = made_fault (make ps) g

found_fault : (o : Option (List (List ℕ × Maker))) (name : List ℕ) (ps : List Parameter) (g : TypeFault)
    → (chosen_in o name ps ≡ Err g)
    ↔ Says g (is_some o) (is_some (option_and_then (named name) o)) (is_some (option_and_then (λ make. make ps) (option_and_then (named name) o)))
found_fault None name ps g = only faults.UnknownLibrary g (λ f. Says f false false false) not_false (no_library g)
found_fault (Some types) name ps g = chosen_fault (named name types) ps g

said : (g : TypeFault) (d : Datatype)
    → Says g (is_some (named d.library libraries)) (is_some (option_and_then (named d.name) (named d.library libraries))) (is_some (meaning_of d))
    ↔ HasFault g d
unfolding type_named
said faults.UnknownLibrary d = (λ p. p, λ p. p)
said faults.UnknownType d = (λ p. p, λ p. p)
said faults.BadParameter d = (λ p. p, λ p. p)

seen_fault : {X Y : Type 0} (view : X → Y) (r : Result X TypeFault) (f : TypeFault) → seen view r ≡ Err f → r ≡ Err f
seen_fault view (Ok x) f e = cc
seen_fault view (Err g) f e = cc

pub fault_found : {X : Type 0} (view : X → Meaning) (d : Datatype) (r : Result X TypeFault)
    → seen view r ≡ find_type d.library d.name d.parameters → (f : TypeFault) → (r ≡ Err f) ↔ HasFault f d
unfolding find_type type_named
fault_found view d r is f =
    let fault = found_fault (named d.library libraries) d.name d.parameters f in
    (λ e. (said f d).0 (fault.0 (sym is ∙ ap (seen view) e)), λ p. seen_fault view r f (is ∙ fault.1 ((said f d).1 p)))
