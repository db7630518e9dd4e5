use Rattle.std.proofs.Common.{◌≡◌, ◌∙◌, ℕ, List, [], Option, take, subst, rules, arith}
use Rattle.std.specs.Io.KnownBytes.{Consumes}
use Rattle.rncv_run.proofs.FedInput.{nothing_read, piece_read, piece_refused, whole_read}
use Rattle.rncv_run.proofs.document_input.feed_whole.Goals as goal

nothing_more : (old new : Option (List ℕ)) (bytes : List ℕ) (n : ℕ) → n ≡ 0 → Consumes old new (take n bytes) → Consumes old new []
nothing_more old new bytes n e read = subst (λ m. Consumes old new (take m bytes)) e read

pub pieces-init : goal.pieces-init
pieces-init g c = record {
  begun = nothing_read _ _ c.requires.begun;
  room = search rules;
  grammar = search rules;
  calm = search rules;
}

pub returns-in_default-clause-read : goal.returns-in_default-clause-read
returns-in_default-clause-read g c = λ e. omega (arith, c.in_default.ensures.failures, c.pieces.invariant.calm)

pub returns-then-n-eq0-clause-fed : goal.returns-then-n-eq0-clause-fed
returns-then-n-eq0-clause-fed g c = whole_read c.pieces.document _ _ _ c.pieces.invariant.begun
    (nothing_more _ _ _ _ c.if-n-eq0.true c.in-Ok.ensures.bytes.0) (c.in-Ok.ensures.bytes.1 c.if-n-eq0.true (search rules))

pub returns-in-Err-clause-fault : goal.returns-in-Err-clause-fault
returns-in-Err-clause-fault g c = piece_refused c.pieces.document c.feed.new.self _ _ _ c.pieces.invariant.begun _ c.in-Ok.ensures.bytes.0 (Unit {0})
    c.in-Err.fault c.in-Err.ensures.fed c.in-Err.ensures.fault.1

pub pieces-preserved : goal.pieces-preserved
pieces-preserved g c = record {
  begun = piece_read c.pieces.document c.feed.new.self _ _ _ c.pieces.invariant.begun _ c.in-Ok.ensures.bytes.0 c.in_default-feed.ensures.fed;
  room = search rules;
  grammar = c.in_default-feed.ensures.grammar ∙ c.pieces.invariant.grammar;
  calm = search rules;
}
