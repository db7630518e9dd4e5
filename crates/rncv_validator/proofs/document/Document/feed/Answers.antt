use Rattle.std.proofs.Common.{Some, Err, refl, rules, subst}
use Rattle.pyx.specs.views.Calls.{Extends}
use Rattle.rncv_validator.specs.declared.fault.DocumentFault.{DocumentFault}
use Rattle.rncv_validator.specs.declared.fault.DocumentFault.TheVariants as faults
use Rattle.rng_model.specs.documents.EventViews.{Hands}
use Rattle.rng_deriv.specs.views.Matchers.{HasGoneOn}
use Rattle.rncv_validator.specs.views.Documents.{UnlessMemory}
use Rattle.rncv_validator.specs.views.FedDocuments.{HasNotRunOut, IsFaultOfReader, Judging, matching_of}
use Rattle.rncv_validator.proofs.FedDocuments.{fault_of_fed, fault_put, fault_there, gone, grammar_put, kept_put, known_put, none_kept, piece_fed, resumed}
use Rattle.rncv_validator.proofs.FedDocuments.{since_kept, state_put, state_there, stays_in_mode, stuck_fed}
use Rattle.rncv_validator.proofs.document.Document.feed.Goals as goal

pub returns-in-Some-clause-fed : goal.returns-in-Some-clause-fed
returns-in-Some-clause-fed c =
    let d = c.self.inside in
    stuck_fed c.args.self.now c.in-Some.fault
    (subst (λ (e : Judging). IsFaultOfReader e.reader c.in-Some.fault) c.self.view_is (fault_there d.reader d.state d.fault c.in-Some.fault c.in-Some.is c.self.invariant.2))
    c.args.piece.now

pub returns-in-Some-clause-fault : goal.returns-in-Some-clause-fault
returns-in-Some-clause-fault c =
    let d = c.self.inside in (
      search rules,
      fault_of_fed c.args.self.now c.in-Some.fault
          (subst (λ (e : Judging). IsFaultOfReader e.reader c.in-Some.fault) c.self.view_is
          (fault_there d.reader d.state d.fault c.in-Some.fault c.in-Some.is c.self.invariant.2)),
    )

pub invariant_of-self : goal.invariant_of-self
invariant_of-self c =
    let d = c.self.inside in
    let g = d.grammar.value in
    let old = c.resume-matcher.result in
    let new = c.read_piece.new.matcher in
    let longer = c.in-Ok.ensures.extends in
    let on = (gone old new longer.0 longer.1).grammar in
    let s = c.in-Some-take.state in
    let kept = c.into_state.result in
    let place = c.put_back.new.place in (
      c.self.invariant.0,
      state_put g c.deref.result.now s kept old new c.deref.ensures c.resume-matcher.ensures on place c.put_back.ensures c.into_state.ensures.state,
      fault_put g c.deref.result.now s kept old new c.deref.ensures c.resume-matcher.ensures on place c.put_back.ensures c.read_piece.new.reader _
          (none_kept c.read_piece.new.reader d.fault (search rules) c.in-Ok.ensures.working),
      kept_put g c.deref.result.now s kept old new c.deref.ensures c.resume-matcher.ensures on place c.put_back.ensures c.into_state.ensures.same
          (gone old new longer.0 longer.1).kept (state_there d.state s (HasNotRunOut g) (search rules) c.self.invariant.3),
    )

pub returns-in-Ok-clause-fed : goal.returns-in-Ok-clause-fed
returns-in-Ok-clause-fed c =
    let d = c.self.inside in
    let g = d.grammar.value in
    let old = c.resume-matcher.result in
    let new = c.read_piece.new.matcher in
    let longer = c.in-Ok.ensures.extends in
    let on = (gone old new longer.0 longer.1).grammar in
    let s = c.in-Some-take.state in
    let kept = c.into_state.result in
    let place = c.put_back.new.place in
    piece_fed c.args.self.now (record { grammar = g; reader = c.read_piece.new.reader; matching = matching_of g place; fault = d.fault }) old new
    (resumed g c.deref.result.now d.state s old d.reader d.fault c.args.self.now c.self.view_is (search rules) c.deref.ensures c.resume-matcher.ensures)
    (known_put g c.deref.result.now s kept old new c.deref.ensures c.resume-matcher.ensures on place c.put_back.ensures c.into_state.ensures.same)
    (grammar_put g c.deref.result.now s kept old new c.deref.ensures c.resume-matcher.ensures on place c.put_back.ensures)
    c.args.piece.now
    (subst (λ (j : Judging). Extends (Hands HasGoneOn old new) j.reader c.read_piece.new.reader c.args.piece.now) c.self.view_is longer)

pub returns-in-Ok-clause-since : goal.returns-in-Ok-clause-since
returns-in-Ok-clause-since c =
    let d = c.self.inside in
    let g = d.grammar.value in
    let old = c.resume-matcher.result in
    let new = c.read_piece.new.matcher in
    let longer = c.in-Ok.ensures.extends in
    let on = (gone old new longer.0 longer.1).grammar in
    let s = c.in-Some-take.state in
    let kept = c.into_state.result in
    let place = c.put_back.new.place in
    since_kept c.args.self.now (record { grammar = g; reader = c.read_piece.new.reader; matching = matching_of g place; fault = d.fault }) old new
    (resumed g c.deref.result.now d.state s old d.reader d.fault c.args.self.now c.self.view_is (search rules) c.deref.ensures c.resume-matcher.ensures)
    (known_put g c.deref.result.now s kept old new c.deref.ensures c.resume-matcher.ensures on place c.put_back.ensures c.into_state.ensures.same)
    (grammar_put g c.deref.result.now s kept old new c.deref.ensures c.resume-matcher.ensures on place c.put_back.ensures)
    c.args.piece.now
    (subst (λ (j : Judging). Extends (Hands HasGoneOn old new) j.reader c.read_piece.new.reader c.args.piece.now) c.self.view_is longer)

pub returns-in-Ok-clause-mode : goal.returns-in-Ok-clause-mode
returns-in-Ok-clause-mode c =
    let d = c.self.inside in
    let g = d.grammar.value in
    let old = c.resume-matcher.result in
    let new = c.read_piece.new.matcher in
    let longer = c.in-Ok.ensures.extends in
    let on = (gone old new longer.0 longer.1).grammar in
    let s = c.in-Some-take.state in
    let kept = c.into_state.result in
    let place = c.put_back.new.place in
    stays_in_mode c.args.self.now (record { grammar = g; reader = c.read_piece.new.reader; matching = matching_of g place; fault = d.fault }) old new
    (resumed g c.deref.result.now d.state s old d.reader d.fault c.args.self.now c.self.view_is (search rules) c.deref.ensures c.resume-matcher.ensures)
    (known_put g c.deref.result.now s kept old new c.deref.ensures c.resume-matcher.ensures on place c.put_back.ensures c.into_state.ensures.same)
    (grammar_put g c.deref.result.now s kept old new c.deref.ensures c.resume-matcher.ensures on place c.put_back.ensures)
    c.args.piece.now
    (subst (λ (j : Judging). Extends (Hands HasGoneOn old new) j.reader c.read_piece.new.reader c.args.piece.now) c.self.view_is longer)

pub invariant_of-self-in-Err-Malformed : goal.invariant_of-self-in-Err-Malformed
invariant_of-self-in-Err-Malformed c =
    let d = c.self.inside in
    let g = d.grammar.value in
    let old = c.resume-matcher.result in
    let new = c.read_piece.new.matcher in
    let longer = subst (λ (f : DocumentFault). UnlessMemory {A = Unit {0}} (Err f) (Extends (Hands HasGoneOn old new) d.reader c.read_piece.new.reader c.args.piece.now))
    c.in-Err-Malformed.field-0-is c.in-Err-Malformed.ensures.extends in
    let on = (gone old new longer.0 longer.1).grammar in
    let s = c.in-Some-take.state in
    let kept = c.into_state-in-Err-Malformed.result in
    let place = c.put_back-in-Err-Malformed.new.place in (
      c.self.invariant.0,
      state_put g c.deref.result.now s kept old new c.deref.ensures c.resume-matcher.ensures on place c.put_back-in-Err-Malformed.ensures c.into_state-in-Err-Malformed.ensures.state,
      fault_put g c.deref.result.now s kept old new c.deref.ensures c.resume-matcher.ensures on place c.put_back-in-Err-Malformed.ensures c.read_piece.new.reader _
          (subst (IsFaultOfReader c.read_piece.new.reader) c.in-Err-Malformed.field-0-is c.in-Err-Malformed.ensures.fault),
      kept_put g c.deref.result.now s kept old new c.deref.ensures c.resume-matcher.ensures on place c.put_back-in-Err-Malformed.ensures c.into_state-in-Err-Malformed.ensures.same
          (gone old new longer.0 longer.1).kept (state_there d.state s (HasNotRunOut g) (search rules) c.self.invariant.3),
    )

pub returns-in-Err-Malformed-clause-fed : goal.returns-in-Err-Malformed-clause-fed
returns-in-Err-Malformed-clause-fed c =
    let d = c.self.inside in
    let g = d.grammar.value in
    let old = c.resume-matcher.result in
    let new = c.read_piece.new.matcher in
    let longer = subst (λ (f : DocumentFault). UnlessMemory {A = Unit {0}} (Err f) (Extends (Hands HasGoneOn old new) d.reader c.read_piece.new.reader c.args.piece.now))
    c.in-Err-Malformed.field-0-is c.in-Err-Malformed.ensures.extends in
    let on = (gone old new longer.0 longer.1).grammar in
    let s = c.in-Some-take.state in
    let kept = c.into_state-in-Err-Malformed.result in
    let place = c.put_back-in-Err-Malformed.new.place in
    piece_fed c.args.self.now (record { grammar = g; reader = c.read_piece.new.reader; matching = matching_of g place; fault = Some (faults.Malformed c.in-Err-Malformed.clause c.in-Err-Malformed.line) }) old new
    (resumed g c.deref.result.now d.state s old d.reader d.fault c.args.self.now c.self.view_is (search rules) c.deref.ensures c.resume-matcher.ensures)
    (known_put g c.deref.result.now s kept old new c.deref.ensures c.resume-matcher.ensures on place c.put_back-in-Err-Malformed.ensures c.into_state-in-Err-Malformed.ensures.same)
    (grammar_put g c.deref.result.now s kept old new c.deref.ensures c.resume-matcher.ensures on place c.put_back-in-Err-Malformed.ensures)
    c.args.piece.now
    (subst (λ (j : Judging). Extends (Hands HasGoneOn old new) j.reader c.read_piece.new.reader c.args.piece.now) c.self.view_is longer)

pub returns-in-Err-Malformed-clause-since : goal.returns-in-Err-Malformed-clause-since
returns-in-Err-Malformed-clause-since c =
    let d = c.self.inside in
    let g = d.grammar.value in
    let old = c.resume-matcher.result in
    let new = c.read_piece.new.matcher in
    let longer = subst (λ (f : DocumentFault). UnlessMemory {A = Unit {0}} (Err f) (Extends (Hands HasGoneOn old new) d.reader c.read_piece.new.reader c.args.piece.now))
    c.in-Err-Malformed.field-0-is c.in-Err-Malformed.ensures.extends in
    let on = (gone old new longer.0 longer.1).grammar in
    let s = c.in-Some-take.state in
    let kept = c.into_state-in-Err-Malformed.result in
    let place = c.put_back-in-Err-Malformed.new.place in
    since_kept c.args.self.now (record { grammar = g; reader = c.read_piece.new.reader; matching = matching_of g place; fault = Some (faults.Malformed c.in-Err-Malformed.clause c.in-Err-Malformed.line) }) old new
    (resumed g c.deref.result.now d.state s old d.reader d.fault c.args.self.now c.self.view_is (search rules) c.deref.ensures c.resume-matcher.ensures)
    (known_put g c.deref.result.now s kept old new c.deref.ensures c.resume-matcher.ensures on place c.put_back-in-Err-Malformed.ensures c.into_state-in-Err-Malformed.ensures.same)
    (grammar_put g c.deref.result.now s kept old new c.deref.ensures c.resume-matcher.ensures on place c.put_back-in-Err-Malformed.ensures)
    c.args.piece.now
    (subst (λ (j : Judging). Extends (Hands HasGoneOn old new) j.reader c.read_piece.new.reader c.args.piece.now) c.self.view_is longer)

pub returns-in-Err-Malformed-clause-mode : goal.returns-in-Err-Malformed-clause-mode
returns-in-Err-Malformed-clause-mode c =
    let d = c.self.inside in
    let g = d.grammar.value in
    let old = c.resume-matcher.result in
    let new = c.read_piece.new.matcher in
    let longer = subst (λ (f : DocumentFault). UnlessMemory {A = Unit {0}} (Err f) (Extends (Hands HasGoneOn old new) d.reader c.read_piece.new.reader c.args.piece.now))
    c.in-Err-Malformed.field-0-is c.in-Err-Malformed.ensures.extends in
    let on = (gone old new longer.0 longer.1).grammar in
    let s = c.in-Some-take.state in
    let kept = c.into_state-in-Err-Malformed.result in
    let place = c.put_back-in-Err-Malformed.new.place in
    stays_in_mode c.args.self.now (record { grammar = g; reader = c.read_piece.new.reader; matching = matching_of g place; fault = Some (faults.Malformed c.in-Err-Malformed.clause c.in-Err-Malformed.line) }) old new
    (resumed g c.deref.result.now d.state s old d.reader d.fault c.args.self.now c.self.view_is (search rules) c.deref.ensures c.resume-matcher.ensures)
    (known_put g c.deref.result.now s kept old new c.deref.ensures c.resume-matcher.ensures on place c.put_back-in-Err-Malformed.ensures c.into_state-in-Err-Malformed.ensures.same)
    (grammar_put g c.deref.result.now s kept old new c.deref.ensures c.resume-matcher.ensures on place c.put_back-in-Err-Malformed.ensures)
    c.args.piece.now
    (subst (λ (j : Judging). Extends (Hands HasGoneOn old new) j.reader c.read_piece.new.reader c.args.piece.now) c.self.view_is longer)

pub returns-in-Err-Malformed-clause-fault : goal.returns-in-Err-Malformed-clause-fault
returns-in-Err-Malformed-clause-fault c =
    let told = faults.Malformed c.in-Err-Malformed.clause c.in-Err-Malformed.line in
    let g = c.self.inside.grammar.value in
    let after : Judging = record { grammar = g; reader = c.read_piece.new.reader; matching = matching_of g c.put_back-in-Err-Malformed.new.place; fault = Some told } in
    (refl, fault_of_fed after told (subst (IsFaultOfReader c.read_piece.new.reader) c.in-Err-Malformed.field-0-is c.in-Err-Malformed.ensures.fault))
