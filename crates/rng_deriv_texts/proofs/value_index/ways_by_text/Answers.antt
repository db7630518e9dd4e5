use Rattle.std.proofs.Common.{◌≡◌, ◌++◌, [], rules, sym}
use Rattle.rng_deriv_texts.proofs.NarrowedWays.{narrowed}
use Rattle.rng_deriv_texts.proofs.value_index.ways_by_text.Goals as goal

pub returns-in-Some : goal.returns-in-Some
returns-in-Some c = λ t ns ws right.
    let few : c.extend_from_slice.new.self.items ≡ c.args.index.now.others.items ++ c.in-Some.own.now.items = search rules in
    narrowed t ns ws c.args.index.now c.args.text.now c.as_str.result.now c.in_ok-text.text _ c.extend_from_slice.new.self.items c.as_str.ensures.value
    c.in_ok-text.ensures (sym c.in-Some.ensures.value) few right

pub returns : goal.returns
returns c = λ t ns ws right.
    let few : c.in_ok-ways.ways.items ≡ c.args.index.now.others.items ++ [] = search rules in
    narrowed t ns ws c.args.index.now c.args.text.now c.as_str.result.now c.in_ok-text.text _ c.in_ok-ways.ways.items c.as_str.ensures.value
    c.in_ok-text.ensures (sym c.in_default.ensures.value) few right
