use Rattle.std.proofs.Common.{◌∙◌, ap, sym, true}
use Rattle.rng_deriv_events.specs.plain.Bits.{bits_of}
use Rattle.rng_deriv_events.proofs.LevelTests.{ends_both, ends_none_after, ends_none_before}
use Rattle.rng_deriv_events.proofs.leaving.blank_bits.Goals as goal

pub returns-then-now-eq0 : goal.returns-then-now-eq0
returns-then-now-eq0 c = λ ns rs e n r. ap bits_of (ends_none_before true ns rs e (n ∙ c.if-now-eq0.true)) ∙ r

pub returns-then-now-after : goal.returns-then-now-after
returns-then-now-after c = λ ns rs e n r. ap bits_of (ends_both true ns rs e (n ∙ c.if-now-after.true ∙ sym r)) ∙ r

pub returns-then-after-eq0 : goal.returns-then-after-eq0
returns-then-after-eq0 c = λ ns rs e n r. ap bits_of (ends_none_after ns rs e (r ∙ c.if-after-eq0.true)) ∙ n
