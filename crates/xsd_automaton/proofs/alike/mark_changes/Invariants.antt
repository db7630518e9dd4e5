use Rattle.std.proofs.Common.{◌≡◌, ◌-◌, ℕ, ◌<◌, length, true, false, get_or}
use Rattle.rng_model.specs.regexes.Expressions.{holds}
use Rattle.xsd_regex.specs.views.Classes.{class_of}
use Rattle.xsd_automaton.proofs.alike.mark_changes.Given as goal

abbrev pub invariant-loop-c : goal.invariant-loop-c
invariant-loop-c l = record {
  as_many : length l.alike ≡ 128;
  before : (j : ℕ) → get_or l.alike j false ≡ true → get_or l.fn.alike j false ≡ true;
  marked : (j : ℕ) → j < l.c → get_or l.alike j false ≡ true → holds (class_of l.class) j ≡ holds (class_of l.class) (j - 1);
  last : l.before ≡ holds (class_of l.class) (l.c - 1);
}
