use Rattle.std.proofs.Common.{◌≡◌, ◌∙◌, List, Bool, ap, length, subst, sym}
use Rattle.std.specs.Option.{IfSome}
use Rattle.rng_deriv_events.specs.plain.Bits.{bits_of}
use Rattle.rng_deriv_events.specs.views.KeptLevels.{ends_by}
use Rattle.rng_deriv_events.proofs.LevelTests.{ends_not_blank}
use Rattle.rng_deriv_events.proofs.leaving.either_bits.Goals as goal

pub returns-then-blank : goal.returns-then-blank
returns-then-blank c =
    subst (λ b. IfSome c.blank_bits.result (λ bits. (ns rs : List Bool) → length ns ≡ length rs → bits_of ns ≡ c.args.now → bits_of rs ≡ c.args.after
    → bits_of (ends_by b ns rs) ≡ bits)) (sym c.if-blank.true) c.blank_bits.ensures

pub returns : goal.returns
returns c = λ ns rs e n r. ap (λ b. bits_of (ends_by b ns rs)) c.if-blank.false ∙ ap bits_of (ends_not_blank ns rs e) ∙ r
