-- What a start answers that is refused, since a part of it is no text or there was no memory.
use Rattle.std.proofs.Common.{◌≡◌, ℕ, List, [], ◌∷◌, ◌++◌, Option, Some, None, Result, Err, IfSome, ap, subst, sym, unwrap_or}
use Rattle.rng_model.specs.documents.PyxTrees.{Event}
use Rattle.rng_deriv_events.specs.views.Positions.{StaysInMode}
use Rattle.element_events.specs.views.Told.{UnlessOutOfMemory}
use Rattle.element_events.specs.declared.fault.EventFault.{EventFault}
use Rattle.element_events.specs.declared.fault.EventFault.TheVariants as faults
use Rattle.rncv_events.specs.Answers.{IsResult}
use Rattle.rncv_events.specs.views.Documents.{IsStuck, failed_since}
use Rattle.rncv_events.specs.views.Told.{HasTaken, Judging, Takes}
use Rattle.rncv_c_handles.specs.views.Events.{HasAnswered}

-- the answer of a call that fails so
abbrev failed : EventFault → Result (Unit {0}) EventFault
failed f = Err f

unless_memory : (answer : EventFault) (P : Type 0) → P → UnlessOutOfMemory (failed answer) P
unless_memory faults.Memory P p = tt
unless_memory faults.NotWellFormed P p = p

since_is : (answer : EventFault) (o n : Option ℕ) → n ≡ o → IfSome o (λ place. UnlessOutOfMemory (failed answer) (n ≡ Some place))
since_is answer None n is = tt
since_is answer (Some place) n is = unless_memory answer (n ≡ Some place) is

module _ (AreTexts : Type 0) (c : Event) (old new : Judging) (fault : EventFault) (none : fault ≡ faults.NotWellFormed → ¬ AreTexts) where
  taken_by : (o : Option EventFault) (answer : EventFault) → answer ≡ unwrap_or o fault → IfSome o (λ _. new ≡ old) → IfSome o (IsStuck old) → AreTexts
      → UnlessOutOfMemory (failed answer) (Takes old new c)
  taken_by o faults.Memory is same stuck texts = tt
  taken_by None faults.NotWellFormed is same stuck texts = absurd (none (sym is) texts)
  taken_by (Some faults.NotWellFormed) faults.NotWellFormed is same stuck texts = λ calls taken.
      subst (λ (d : Judging). HasTaken d (calls ++ c ∷ [])) (sym same) (stuck calls c taken).1
  taken_by (Some faults.Memory) faults.NotWellFormed is same stuck texts = absurd (cc)

  result_by : (o : Option EventFault) (answer : EventFault) → answer ≡ unwrap_or o fault → IfSome o (IsStuck old) → AreTexts → (calls : List Event)
      → HasTaken old calls → IsResult (failed answer) (calls ++ c ∷ [])
  result_by o faults.Memory is stuck texts calls taken = tt
  result_by None faults.NotWellFormed is stuck texts calls taken = absurd (none (sym is) texts)
  result_by (Some faults.NotWellFormed) faults.NotWellFormed is stuck texts calls taken = (stuck calls c taken).0
  result_by (Some faults.Memory) faults.NotWellFormed is stuck texts calls taken = absurd (cc)

  sticky_by : (o : Option EventFault) (answer : EventFault) → answer ≡ unwrap_or o fault → IfSome o (λ _. new ≡ old)
      → IfSome o (λ f. (failed answer ≡ failed f) × (new ≡ old))
  sticky_by None answer is same = tt
  sticky_by (Some f) answer is same = (ap failed is, same)

  pub refused_answer : (answer : EventFault) → new.grammar ≡ old.grammar → answer ≡ unwrap_or old.fault fault → new.fault ≡ Some answer
      → IfSome old.fault (λ _. new ≡ old) → IfSome old.fault (IsStuck old) → failed_since new ≡ failed_since old
      → StaysInMode old.matching.progress new.matching.progress → HasAnswered AreTexts c (failed answer) old new
  refused_answer answer grammar is kept same stuck since mode = record {
    grammar = grammar;
    taken = taken_by old.fault answer is same stuck;
    result_is = result_by old.fault answer is stuck;
    texts = tt;
    fault = kept;
    working = tt;
    sticky = sticky_by old.fault answer is same;
    since = since_is answer (failed_since old) (failed_since new) since;
    mode = unless_memory answer (StaysInMode old.matching.progress new.matching.progress) mode;
  }
