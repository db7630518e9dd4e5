use Rattle.std.proofs.Common.{◌≡◌, ℕ, map, take}
use Rattle.rng_model.specs.simple.Tree.{Simple}
use Rattle.rng_model.specs.declared.simple.PatternId.{PatternId}
use Rattle.rng_rules.specs.plain.Broken.{parts_broken}
use Rattle.rng_rules.specs.plain.Facts.{HasFacts, facts_of}
use Rattle.rng_rules.proofs.broken.broken_by_parts.Given as goal

abbrev pub invariant-bodies : goal.invariant-bodies
invariant-bodies l = (of : PatternId → Simple ℕ) → HasFacts of l.facts
    → l.broken ≡ parts_broken (facts_of (of l.fn.start)) (map (λ body. facts_of (of body)) (take l.body-index l.bodies))
