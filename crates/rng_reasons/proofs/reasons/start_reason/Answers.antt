use Rattle.std.proofs.Common.{map, subst, sym}
use Rattle.rng_model.specs.documents.EventViews.{attribute_of}
use Rattle.rng_model.specs.matching.GrammarMatching.{reading_of}
use Rattle.rng_model.specs.names.NameViews.{name_of}
use Rattle.rng_deriv_table.specs.views.Trees.{trees}
use Rattle.rng_deriv_ways.proofs.StartBodies.{bodies_longer, ready_longer}
use Rattle.rng_reasons.specs.Reasons.{IsStartReason}
use Rattle.rng_reasons.specs.TagReasons.{IsTagFaultOf}
use Rattle.rng_reasons.specs.views.Left.{alternatives_in}
use Rattle.rng_reasons.proofs.StayingFaults.{text_stays, trees_same}
use Rattle.rng_reasons.proofs.ToldReasons.{behind_text, without_text}
use Rattle.rng_reasons.proofs.reasons.start_reason.Goals as goal

pub fault_of-requires-2-clause-restricted : goal.fault_of-requires-2-clause-restricted
fault_of-requires-2-clause-restricted c =
    bodies_longer c.args.context.now.grammar.now c.args.table.now c.is_text_wrong.new.table c.args.context.now.numbers.now c.in_ok-is_wrong.ensures.longer
    c.requires.ready c.requires.restricted

pub fault_of-requires-2-clause-ready : goal.fault_of-requires-2-clause-ready
fault_of-requires-2-clause-ready c =
    ready_longer c.args.context.now.grammar.now c.args.table.now c.is_text_wrong.new.table c.args.context.now.numbers.now c.in_ok-is_wrong.ensures.longer
    c.requires.ready

pub returns-then-not-left-clause-reason : goal.returns-then-not-left-clause-reason
returns-then-not-left-clause-reason c =
    let t = c.args.context.now.grammar.now in
    let q = name_of c.args.tag.now.name.now in
    let xs = map attribute_of c.args.tag.now.attrs.now in
    let g = reading_of t in
    let left = alternatives_in t c.args.table.now c.args.left.now in
    let new = trees t c.fault_of.new.table in
    subst (IsStartReason g new q xs left) (sym c.reason_of.ensures)
    (without_text g new q xs left c.if-not-left.true c.in_ok-fault.fault c.in_ok-fault.ensures.fault)

pub returns-clause-reason : goal.returns-clause-reason
returns-clause-reason c =
    let t = c.args.context.now.grammar.now in
    let g = reading_of t in
    let here = c.args.left.now in
    let left = alternatives_in t c.args.table.now here in
    let q = name_of c.args.tag.now.name.now in
    let xs = map attribute_of c.args.tag.now.attrs.now in
    let mid = c.is_text_wrong.new.table in
    let new = c.fault_of-2.new.table in
    let wrong = text_stays t mid new c.in_ok-fault-2.ensures.longer left.in_place q xs c.in_ok-is_wrong.is_wrong c.in_ok-is_wrong.ensures.wrong in
    let fault = c.in_ok-fault-2.fault in
    subst (IsStartReason g (trees t new) q xs left) (sym c.reason_of-2.ensures)
    (behind_text g (trees t new) q xs left c.if-not-left.false c.in_ok-is_wrong.is_wrong wrong fault
    (subst (λ now. IsTagFaultOf g (trees t new) now q xs fault)
    (trees_same t c.args.table.now mid c.in_ok-is_wrong.ensures.longer here.behind.now c.requires.inside.behind) c.in_ok-fault-2.ensures.fault))
