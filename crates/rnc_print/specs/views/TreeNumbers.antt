-- Numbers of the patterns of a table that distinguish their trees.
use Rattle.std.specs.Prelude.{◌≡◌, ◌↔◌, ℕ, ◌<◌, List, length}
use Rattle.rng_model.specs.simple.Table.{Table, tree_at}
use Rattle.rng_model.specs.declared.simple.PatternId.{PatternId}
use Rattle.rnc_print.specs.plain.PatternCodes.{number_at}

-- two patterns have the same number exactly if their trees are equal
abbrev pub AreTreeNumbers : Table → List ℕ → Type 0
AreTreeNumbers t numbers = (p q : PatternId) → p.0 < length t.patterns → q.0 < length t.patterns
    → (number_at numbers p ≡ number_at numbers q) ↔ (tree_at t.patterns p ≡ tree_at t.patterns q)
