use Rattle.std.proofs.Common.{◌+◌, List, get_or, take, arith}
use Rattle.std.proofs.lemmas.Bool.{not-false, not-true}
use Rattle.std.proofs.lemmas.List.{take_all, take_more}
use Rattle.std.proofs.lemmas.List.Elements.{Contains-get_or}
use Rattle.rng_model.specs.matching.GrammarMatching.{reading_of}
use Rattle.rng_deriv_ways.specs.declared.way.LeafWay.{LeafWay}
use Rattle.rng_deriv_ways.specs.declared.way.Place.TheVariants as places
use Rattle.rng_deriv_texts.proofs.WholeStrings.{leaf_not_whole, none_first, none_more, none_whole, one_whole, rest_not_nullable}
use Rattle.rng_deriv_texts.proofs.settled.taken_by_some.Goals as goal

pub ways-init : goal.ways-init
ways-init c = none_first c.args.context.now.grammar.now c.args.table.now c.args.text.now c.args.ways.now

pub facts-requires : goal.facts-requires
facts-requires c =
    let d : LeafWay = record { leaf = record { 0 = 0 }; rest = record { 0 = 0 } } in
    (c.requires.inside c.ways.way-index d c.ways-test.true).1

pub text_leaf_takes-requires-clause-inside : goal.text_leaf_takes-requires-clause-inside
text_leaf_takes-requires-clause-inside c =
    let d : LeafWay = record { leaf = record { 0 = 0 }; rest = record { 0 = 0 } } in
    (c.requires.inside c.ways.way-index d c.ways-test.true).0

pub ways-preserved-then-not-facts : goal.ways-preserved-then-not-facts
ways-preserved-then-not-facts c =
    let t0 = c.args.context.now.grammar.now in
    let ns = c.args.table.now in
    let ws : List LeafWay = c.args.ways.now in
    let i = c.ways.way-index in
    let d : LeafWay = record { leaf = record { 0 = 0 }; rest = record { 0 = 0 } } in
    none_more t0 ns c.args.text.now ws (take i ws) (take (i + 1) ws) (get_or ws i d) (take_more ws i d c.ways-test.true) c.ways.invariant
    (rest_not_nullable t0 ns c.args.text.now ws (get_or ws i d) c.facts.result.nullable (not-true _ c.if-not-facts.true) (c.facts.ensures.nullable t0 (reading_of t0)))

pub ways-preserved : goal.ways-preserved
ways-preserved c =
    let t0 = c.args.context.now.grammar.now in
    let ns = c.args.table.now in
    let ws : List LeafWay = c.args.ways.now in
    let i = c.ways.way-index in
    let d : LeafWay = record { leaf = record { 0 = 0 }; rest = record { 0 = 0 } } in
    none_more t0 ns c.args.text.now ws (take i ws) (take (i + 1) ws) (get_or ws i d) (take_more ws i d c.ways-test.true) c.ways.invariant
    (leaf_not_whole t0 ns c.args.text ws (get_or ws i d) c.in_ok-taken.taken c.if-taken.false (Contains-get_or ws i d c.ways-test.true)
    (c.in_ok-taken.ensures places.Content))

pub returns-then-taken : goal.returns-then-taken
returns-then-taken c =
    let t0 = c.args.context.now.grammar.now in
    let ns = c.args.table.now in
    let ws : List LeafWay = c.args.ways.now in
    let i = c.ways.way-index in
    let d : LeafWay = record { leaf = record { 0 = 0 }; rest = record { 0 = 0 } } in
    one_whole t0 ns c.args.text ws (get_or ws i d) c.facts.result.nullable c.in_ok-taken.taken (not-false _ c.if-not-facts.false) c.if-taken.true
    (Contains-get_or ws i d c.ways-test.true) (c.facts.ensures.nullable t0 (reading_of t0)) (c.in_ok-taken.ensures places.Content)

pub returns : goal.returns
returns c =
    let ws : List LeafWay = c.args.ways.now in
    none_whole c.args.context.now.grammar.now c.args.table.now c.args.text ws (take c.ways.way-index ws)
    (take_all c.ways.way-index ws (omega (arith, c.ways-test.false))) c.ways.invariant
