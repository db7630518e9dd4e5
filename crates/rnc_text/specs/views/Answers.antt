-- What calls return, unless they run out of memory.
use Rattle.std.specs.Prelude.{◌≡◌, ℕ, Result, Ok, Err}
use Rattle.rnc_text.specs.declared.fault.TextFault.{TextFault}
use Rattle.rnc_text.specs.declared.fault.TextFault.TheVariants.{At, Memory}

-- the call returns this value, as the view sees it
abbrev pub GivesOk : {X Y : Type 0} → (X → Y) → Result X TextFault → Y → Type 0
GivesOk view (Ok x) y = view x ≡ y
GivesOk view (Err Memory) y = Unit {0}
GivesOk view (Err (At clause offset)) y = ⊥

-- the call reports this clause at this offset
abbrev pub GivesFault : {X : Type 0} → Result X TextFault → ℕ → ℕ → Type 0
GivesFault (Ok x) c o = ⊥
GivesFault (Err Memory) c o = Unit {0}
GivesFault (Err (At clause offset)) c o = (clause ≡ c) × (offset ≡ o)

-- a fault reports a clause that is broken at its offset
abbrev pub IfBroken : (ℕ → ℕ → Type 0) → TextFault → Type 0
IfBroken Breaks Memory = Unit {0}
IfBroken Breaks (At clause offset) = Breaks clause offset
