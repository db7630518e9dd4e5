use Rattle.std.proofs.Common.{◌≡◌, ◌∙◌, subst}
use Rattle.std.specs.Option.{IfSome}
use Rattle.rng_deriv_events.specs.plain.Bits.{bits_of}
use Rattle.rng_deriv_events.proofs.numbering.nullable_bits.Goals as goal

pub returns : goal.returns
returns g c =
    subst (λ ts. IfSome c.bits_of.result (λ bits. bits ≡ bits_of ts)) (c.as_slice.ensures ∙ c.in_ok-tests.ensures) c.bits_of.ensures
