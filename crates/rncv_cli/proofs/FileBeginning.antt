-- Reading the beginning of a reader.
use Rattle.std.proofs.Common.{arith, ◌∙◌, ap, ◌≡◌, ℕ, List, [], ◌++◌, take, Option, Some, None, option_map, IfSome}
use Rattle.std.proofs.lemmas.List.{take-take}
use Rattle.std.specs.Io.Take.{take_limit, take_inner, take_remaining}
use Rattle.std.specs.declared.io.Take.{Take}

-- a list that was empty holds the known bytes, up to a limit
filled : (n : ℕ) (known : Option (List ℕ)) (old new : List ℕ) → old ≡ [] → IfSome (option_map (take n) known) (λ xs. new ≡ old ++ xs) →
    IfSome known (λ all. new ≡ take n all)
filled n None old new e h = h
filled n (Some all) old new e h = rw e at h

-- the same for a reader with a limit, if all of it is read
pub beginning_is_read : {R : Type 0} (n : ℕ) (remaining : R → Option (List ℕ)) (reader : R) (limited : Take R) (old new : List ℕ) → take_limit limited ≡ n →
    take_inner limited ≡ reader → old ≡ [] → IfSome (take_remaining remaining limited) (λ xs. new ≡ old ++ xs) →
    IfSome (remaining reader) (λ all. new ≡ take n all)
beginning_is_read n remaining reader limited old new limit inner empty h =
    rw (← limit, ← inner) (filled limited.limit (remaining limited.inner) old new empty h)

-- a beginning that is cut at its own end stays the same
pub beginning_is_kept : (n : ℕ) (known : Option (List ℕ)) (old new : List ℕ) → new ≡ take n old → IfSome known (λ all. old ≡ take n all) →
    IfSome known (λ all. new ≡ take n all)
beginning_is_kept n None old new e h = h
beginning_is_kept n (Some all) old new e h = e ∙ ap (take n) h ∙ take-take n n all (omega arith)
