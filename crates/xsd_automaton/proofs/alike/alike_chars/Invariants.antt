use Rattle.std.proofs.Common.{◌≡◌, ◌-◌, ◌<◌, ℕ, true, false, get_or}
use Rattle.rng_model.specs.regexes.Expressions.{holds}
use Rattle.xsd_positions.specs.views.Positions.{class_at}
use Rattle.xsd_automaton.specs.views.Classes.{classes_of}
use Rattle.xsd_automaton.proofs.alike.alike_chars.Given as goal

abbrev pub invariant-loop-class : goal.invariant-loop-class
invariant-loop-class l = (c : ℕ) → get_or l.alike c false ≡ true → (n : ℕ) → n < l.class-index
    → holds (class_at (classes_of l.positions) n) c ≡ holds (class_at (classes_of l.positions) n) (c - 1)
