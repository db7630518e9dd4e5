-- A datatype that is found is known.
use Rattle.std.proofs.Common.{◌≡◌, Bool, true, false, is_some, Result, Ok, Err, ap, subst}
use Rattle.std.specs.Bool.{OnTrue}
use Rattle.std.specs.Prelude.{is_ok}
use Rattle.rng_model.specs.simple.Tree.{Datatype}
use Rattle.rng_model.specs.datatypes.Datatypes.{IsKnownDatatype}
use Rattle.rng_types.specs.declared.builtin.Builtin.{Builtin}
use Rattle.rng_types.specs.declared.builtin.TypeFault.{TypeFault}
use Rattle.rng_types.proofs.FoundDatatypes.{IsFound, meaning_is}

module _ (d : Datatype) where
  known : (r : Result Builtin TypeFault) → IsFound d r → true ≡ is_ok r → IsKnownDatatype d
  known (Ok b) found e = ap is_some (meaning_is d b found)
  known (Err f) found e = absurd cc

  pub known_if_found : (r : Result Builtin TypeFault) → IsFound d r → (b : Bool) → b ≡ is_ok r → OnTrue b (IsKnownDatatype d)
  known_if_found r found true e = known r found e
  known_if_found r found false e = tt

-- the same of an equal datatype
pub known_as : (d e : Datatype) (b : Bool) → d ≡ e → OnTrue b (IsKnownDatatype d) → OnTrue b (IsKnownDatatype e)
known_as d e b same known = subst (λ d. OnTrue b (IsKnownDatatype d)) same known
