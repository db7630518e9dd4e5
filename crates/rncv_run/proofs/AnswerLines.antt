-- Lines of answers, as they are written.
use Rattle.std.proofs.Common.{◌≡◌, ℕ, List, IfOk, Result, Ok, Err, ◌∙◌}

-- the same text, written with other brackets
pub same_text : {T E : Type 0} (text : T → List ℕ) (r : Result T E) (bs cs : List ℕ) → IfOk r (λ s. text s ≡ bs) → bs ≡ cs → IfOk r (λ s. text s ≡ cs)
same_text text (Ok s) bs cs h e = h ∙ e
same_text text (Err x) bs cs h e = tt
