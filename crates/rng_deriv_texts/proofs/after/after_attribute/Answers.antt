use Rattle.std.proofs.lemmas.Result.{IfOk-weaker as if_ok}
use Rattle.rng_model.specs.matching.GrammarMatching.{reading_of}
use Rattle.rng_deriv_ways.proofs.ClosedTags.{both_ok}
use Rattle.rng_deriv_ways.proofs.KnownWays.{all_longer}
use Rattle.rng_deriv_table.proofs.Trees.{Longer-trans}
use Rattle.rng_deriv_texts.proofs.JoinedRests.{left_joined}
use Rattle.rng_deriv_texts.proofs.after.after_attribute.Goals as goal

pub returns-clause-longer : goal.returns-clause-longer
returns-clause-longer c =
    if_ok c.with_sides_joined-2.result _ _ (λ n longer. Longer-trans c.args.table.now c.after.new.table c.with_sides_joined-2.new.table
    c.in_ok-rest.ensures.longer longer) c.with_sides_joined-2.ensures.longer

pub returns-clause-known : goal.returns-clause-known
returns-clause-known c =
    if_ok c.with_sides_joined-2.result _ _ (λ n longer. all_longer c.args.context.now.grammar.now c.args.context.now.keys.now c.after.new.table
    c.with_sides_joined-2.new.table longer c.after.new.known c.in_ok-rest.ensures.known) c.with_sides_joined-2.ensures.longer

pub returns-clause-left : goal.returns-clause-left
returns-clause-left c =
    let t = c.args.context.now.grammar.now in
    let made = c.with_sides_joined-2.ensures in
    if_ok c.with_sides_joined-2.result _ _ (λ n h. left_joined t c.args.table.now c.after.new.table c.with_sides_joined-2.new.table c.args.attr c.args.number
    c.in_ok-rest.rest n c.in_ok-rest.ensures.left h.0 (h.1.0 t (reading_of t)) (h.1.1 t))
    (both_ok c.with_sides_joined-2.result _ _ made.inside (both_ok c.with_sides_joined-2.result _ _ made.same made.restricted))

pub returns-in-Some-clause-known : goal.returns-in-Some-clause-known
returns-in-Some-clause-known c =
    if_ok c.with_sides_joined.result _ _ (λ n longer. all_longer c.args.context.now.grammar.now c.args.context.now.keys.now c.args.table.now
    c.with_sides_joined.new.table longer c.args.known.now c.requires.known) c.with_sides_joined.ensures.longer

pub returns-in-Some-clause-left : goal.returns-in-Some-clause-left
returns-in-Some-clause-left c =
    let t = c.args.context.now.grammar.now in
    let made = c.with_sides_joined.ensures in
    if_ok c.with_sides_joined.result _ _ (λ n h. left_joined t c.args.table.now c.args.table.now c.with_sides_joined.new.table c.args.attr c.args.number
    c.in-Some.rest n c.in-Some.ensures h.0 (h.1.0 t (reading_of t)) (h.1.1 t))
    (both_ok c.with_sides_joined.result _ _ made.inside (both_ok c.with_sides_joined.result _ _ made.same made.restricted))
