use Rattle.std.proofs.Common.{subst}
use Rattle.rng_model.specs.matching.GrammarMatching.{reading_of}
use Rattle.rng_deriv_table.specs.views.Trees.{tree_of}
use Rattle.rng_deriv_texts.specs.plain.Settling.{IsRestInside, IsSettled}
use Rattle.rng_deriv_texts.proofs.SettledRests.{nothing_left, only_left, two_left}
use Rattle.rng_deriv_texts.proofs.after.told_by.Goals as goal

pub returns-in_ok-not_allowed-in-Nothing-clause-left : goal.returns-in_ok-not_allowed-in-Nothing-clause-left
returns-in_ok-not_allowed-in-Nothing-clause-left c = λ first number settled.
    let t0 = c.args.context.now.grammar.now in
    let old = c.args.table.now in
    let made = c.in_ok-not_allowed-in-Nothing.ensures.tree in
    nothing_left t0 old first number c.not_allowed.new.self c.in_ok-not_allowed-in-Nothing.field-0
    (subst (IsSettled t0 old first (tree_of t0 old number.0)) c.in-Nothing.is settled) made.inside (made.is t0)

pub returns-in-Only-clause-left : goal.returns-in-Only-clause-left
returns-in-Only-clause-left c = λ first number settled.
    let t0 = c.args.context.now.grammar.now in
    let old = c.args.table.now in
    only_left t0 old first number c.in-Only.rest (subst (IsSettled t0 old first (tree_of t0 old number.0)) c.in-Only.is settled)

pub choice-requires : goal.choice-requires
choice-requires c = subst (IsRestInside c.args.table.now) c.in-Two.is c.requires.inside

pub returns-in_ok-choice-in-Two-clause-left : goal.returns-in_ok-choice-in-Two-clause-left
returns-in_ok-choice-in-Two-clause-left c = λ first number settled.
    let t0 = c.args.context.now.grammar.now in
    let old = c.args.table.now in
    let made = c.in_ok-choice-in-Two.ensures in
    two_left t0 old first number c.choice.new.self c.in-Two.first c.in-Two.second c.in_ok-choice-in-Two.field-0
    (subst (IsSettled t0 old first (tree_of t0 old number.0)) c.in-Two.is settled) made.inside (made.alternatives t0) (made.matches t0 (reading_of t0))
