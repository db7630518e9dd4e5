-- What a call returns that may run out of memory, compared with what it has to return.
use Rattle.std.specs.Prelude.{⊤, ◌≡◌, Result, Ok, Err, Option, Some, None}

-- this is the fault that the call has to return; no fault means out of memory, which claims nothing
abbrev pub Refuses : {Y F : Type 0} → Option F → Result Y F → Type 0
Refuses (Some f) given = given ≡ Err f
Refuses None given = ⊤

-- The result of the call, seen by the views, is the result that it has to return. A fault without a view is out of
-- memory, which claims nothing.
abbrev pub Gives : {X Y E F : Type 0} → (E → Option F) → (X → Y) → Result X E → Result Y F → Type 0
Gives fault view (Ok x) given = given ≡ Ok (view x)
Gives fault view (Err e) given = Refuses (fault e) given
