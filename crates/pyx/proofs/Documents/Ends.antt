-- How a document ends.
use Rattle.std.proofs.Common.{◌≡◌, List, [], ◌++◌, Option, Some, None, Result, Ok, Err, refl, ap, sym, ◌∙◌, subst, length, true, false}
use Rattle.std.specs.Prelude.{◌==◌}
use Rattle.std.proofs.lemmas.List.{append-nil}
use Rattle.rng_model.specs.documents.Lines.{Fault}
use Rattle.rng_model.specs.documents.PyxTrees.{Event}
use Rattle.rng_model.specs.declared.pyx_fault.PyxFault.{PyxFault}
use Rattle.rng_model.specs.declared.pyx_fault.PyxFault.TheVariants as pyx
use Rattle.pyx.specs.plain.DocumentReader.{State, Turn, followed, at_end, at_last, all_ended, silent, line_read}
use Rattle.pyx.specs.plain.Pieces.{Progress, open_line, finished}
use Rattle.pyx.specs.views.View.{Concludes, EndsBy, Takes}

pub last_sends : (o : Option Fault) (s : State) → (at_last o s).1 ≡ []
last_sends None s = refl
last_sends (Some f) s = refl

pub all_sends : (s : State) → (all_ended s).1 ≡ []
unfolding all_ended
all_sends s = last_sends (at_end s) s

ends_well : (s : State) → at_end s ≡ None → (all_ended s).0 ≡ Ok s
unfolding all_ended
ends_well s e = rw e refl

pub ends_badly : (s : State) (f : Fault) → at_end s ≡ Some f → (all_ended s).0 ≡ Err f
unfolding all_ended
ends_badly s f e = rw e refl

-- a turn without a fault, and then the end
pub concludes : (A : Type 0) (handed : List Event → Type 0) (r : Result A PyxFault) (turn : Turn State) (s : State) → turn.0 ≡ Ok s → handed turn.1
    → EndsBy r (at_end s) → Concludes r handed (followed turn all_ended)
concludes A handed (Ok x) turn s e h n = rw e ((s, ends_well s n), subst handed (sym (ap (λ es. turn.1 ++ es) (all_sends s) ∙ append-nil turn.1)) h)
concludes A handed (Err pyx.Memory) turn s e h n = tt
concludes A handed (Err (pyx.At clause line)) turn s e h n =
    rw e (ends_badly s _ n, subst handed (sym (ap (λ es. turn.1 ++ es) (all_sends s) ∙ append-nil turn.1)) h)

-- a turn with a fault
pub refused : (A : Type 0) (handed : List Event → Type 0) (e : PyxFault) (new : State) (turn : Turn State) → Takes {A = A} (Err e) new handed turn
    → Concludes {A = A} (Err e) handed (followed turn all_ended)
refused A handed pyx.Memory new turn t = tt
refused A handed (pyx.At clause line) new turn t = rw t.0 (refl, t.1)

pub finished_none : (p : Progress) → true ≡ (length p.begun == 0) → finished p ≡ followed (silent p.state) all_ended
unfolding finished
finished_none p e = rw (← e) refl

pub finished_some : (p : Progress) → false ≡ (length p.begun == 0) → finished p ≡ followed (line_read (open_line p.begun) p.state) all_ended
unfolding finished
finished_some p e = rw (← e) refl
