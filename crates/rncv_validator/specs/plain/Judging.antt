-- Which names a grammar does not know, and which verdict an outcome is.
use Rattle.std.specs.Prelude.{ℕ}
use Rattle.rng_model.specs.names.Names.{In, Name, NameClass}
use Rattle.rng_model.specs.restrictions.Restrictions.{ClassIn}
use Rattle.rng_model.specs.simple.Grammar.{Grammar}
use Rattle.rng_model.specs.declared.outcome.Outcome.{Outcome}
use Rattle.rng_model.specs.declared.outcome.Outcome.TheVariants as outcome
use Rattle.rncv_model.specs.declared.verdict.Verdict.{Verdict}
use Rattle.rncv_model.specs.declared.verdict.Verdict.TheVariants.{Valid, Invalid}

-- no element of the grammar may have this name
abbrev pub IsUnknownTo : Grammar → Name → Type 0
IsUnknownTo g name = (k : ℕ) (c : NameClass) → ClassIn g k c → ¬ (In c name)

abbrev pub verdict_of : Outcome → Verdict
verdict_of outcome.Valid = Valid
verdict_of (outcome.Invalid line) = Invalid line
