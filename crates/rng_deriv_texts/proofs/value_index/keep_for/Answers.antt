use Rattle.std.proofs.Common.{◌≡◌, ◌∙◌, ◌++◌, ◌∷◌, [], ap, rules}
use Rattle.std.specs.Prelude.{unwrap_or}
use Rattle.rng_deriv_texts.proofs.NarrowedWays.{kept_own, kept_still, kept_within}
use Rattle.rng_deriv_texts.proofs.value_index.keep_for.Goals as goal

pub returns-clause-within : goal.returns-clause-within
returns-clause-within c =
    let base = c.unwrap_or-ways.ensures ∙ ap (λ o. unwrap_or o c.new.result) c.remove.ensures.value in
    let more : c.push.new.self.items ≡ c.unwrap_or-ways.result.items ++ c.args.way ∷ [] = search rules in
    λ q w h. kept_within c.args.by_text.now c.remove.new.self c.insert.new.self c.as_str.result.now c.args.text c.args.way c.new.result
    c.unwrap_or-ways.result c.push.new.self c.as_str.ensures.value c.new.ensures.items base more (λ q. c.remove.ensures.updates.0 q)
    (λ q. c.in_ok-insert.ensures.updates.0 q) q w h

pub returns-clause-stay : goal.returns-clause-stay
returns-clause-stay c =
    let base = c.unwrap_or-ways.ensures ∙ ap (λ o. unwrap_or o c.new.result) c.remove.ensures.value in
    let more : c.push.new.self.items ≡ c.unwrap_or-ways.result.items ++ c.args.way ∷ [] = search rules in
    λ q w h. kept_still c.args.by_text.now c.remove.new.self c.insert.new.self c.as_str.result.now c.args.text c.args.way c.new.result
    c.unwrap_or-ways.result c.push.new.self c.as_str.ensures.value c.new.ensures.items base more (λ q. c.remove.ensures.updates.0 q)
    (λ q. c.in_ok-insert.ensures.updates.0 q) q w h

pub returns-clause-own : goal.returns-clause-own
returns-clause-own c =
    let base = c.unwrap_or-ways.ensures ∙ ap (λ o. unwrap_or o c.new.result) c.remove.ensures.value in
    let more : c.push.new.self.items ≡ c.unwrap_or-ways.result.items ++ c.args.way ∷ [] = search rules in
    kept_own c.args.by_text.now c.remove.new.self c.insert.new.self c.as_str.result.now c.args.text c.args.way c.new.result
    c.unwrap_or-ways.result c.push.new.self c.as_str.ensures.value c.new.ensures.items base more (λ q. c.remove.ensures.updates.0 q)
    (λ q. c.in_ok-insert.ensures.updates.0 q)
