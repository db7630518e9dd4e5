-- What the search for a datatype returns, as other crates cite it.
use Rattle.std.proofs.Common.{◌≡◌, ◌↔◌, Option, Some, None, Result, Ok, Err, refl}
use Rattle.rng_model.specs.simple.Tree.{Datatype}
use Rattle.rng_model.specs.datatypes.Datatypes.{Meaning, meaning_of}
use Rattle.rng_types.specs.views.View.{meaning_by, seen}
use Rattle.rng_types.specs.declared.builtin.Builtin.{Builtin}
use Rattle.rng_types.specs.declared.builtin.TypeFault.{TypeFault}

-- the result of a search for the datatype
abbrev pub IsFound : Datatype → Result Builtin TypeFault → Type 0
IsFound d r = (meaning : Meaning) → (seen meaning_by r ≡ Ok meaning) ↔ (meaning_of d ≡ Some meaning)

module _ (d : Datatype) where
  pub meaning_is : (b : Builtin) → IsFound d (Ok b) → meaning_of d ≡ Some (meaning_by b)
  meaning_is b found = (found (meaning_by b)).0 refl

  -- a datatype of which a fault is found is not known
  pub no_meaning : (f : TypeFault) → IsFound d (Err f) → meaning_of d ≡ None
  no_meaning f found = by_meaning (meaning_of d) refl where
    by_meaning : (o : Option Meaning) → meaning_of d ≡ o → meaning_of d ≡ None
    by_meaning None e = e
    by_meaning (Some meaning) e = let k = (found meaning).1 e in absurd (cc)
