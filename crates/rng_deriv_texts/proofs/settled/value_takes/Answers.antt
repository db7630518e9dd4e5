use Rattle.std.proofs.Common.{refl}
use Rattle.rng_model.specs.datatypes.Texts.{is_blank}
use Rattle.rng_model.specs.matching.GrammarMatching.{reading_of}
use Rattle.rng_deriv_texts.proofs.ListPieces.{either_blank, either_none, either_true, value_known}
use Rattle.rng_deriv_texts.proofs.settled.value_takes.Goals as goal

pub returns-then-taken : goal.returns-then-taken
returns-then-taken c =
    let t0 = c.args.context.now.grammar.now in
    λ asked. value_known t0 c.args.table.now c.args.context.now.numbers.now c.args.body c.number_at-body.result c.args.value
    c.in_ok-taken.taken c.facts-empty.result.nullable (is_blank c.args.value.now) _ c.requires.ready c.requires.inside asked c.number_at-body.ensures
    c.in_ok-taken.ensures (c.facts-empty.ensures.nullable t0 (reading_of t0)) refl (either_true _ _ c.if-taken.true)

pub returns-then-empty : goal.returns-then-empty
returns-then-empty c =
    let t0 = c.args.context.now.grammar.now in
    λ asked. value_known t0 c.args.table.now c.args.context.now.numbers.now c.args.body c.number_at-body.result c.args.value
    c.in_ok-taken.taken c.facts-empty.result.nullable c.is_blank.result _ c.requires.ready c.requires.inside asked c.number_at-body.ensures
    c.in_ok-taken.ensures (c.facts-empty.ensures.nullable t0 (reading_of t0)) c.is_blank.ensures (either_blank _ _ _ c.if-taken.false c.if-empty.true)

pub returns-else-empty : goal.returns-else-empty
returns-else-empty c =
    let t0 = c.args.context.now.grammar.now in
    λ asked. value_known t0 c.args.table.now c.args.context.now.numbers.now c.args.body c.number_at-body.result c.args.value
    c.in_ok-taken.taken c.facts-empty.result.nullable (is_blank c.args.value.now) _ c.requires.ready c.requires.inside asked c.number_at-body.ensures
    c.in_ok-taken.ensures (c.facts-empty.ensures.nullable t0 (reading_of t0)) refl (either_none _ _ _ c.if-taken.false c.if-empty.false)
