use Rattle.std.proofs.Common.{arith, w64, ⊎_elim, subst, ◌≡◌, ◌<◌}
use Rattle.std.specs.Int.{bit_at}
use lib.Count.{count_trailing_zeros}
use Rattle.std.proofs.lemmas.Bool.{cases_lt}
use Rattle.std.proofs.lemmas.Nat.Bits.{bit_at-trailing_zeros, bit_at-zero}
use Rattle.pyx.proofs.marks.lowest.Goals as goal

pub returns-clause-below : goal.returns-clause-below
returns-clause-below c = ⊎_elim (λ up. (bit_at-trailing_zeros w64 c.args.mask up c.ranges.mask.fits).2)
    (λ none. λ k l. subst (λ m. bit_at m k ≡ 0) (omega (arith, none)) (bit_at-zero k)) (cases_lt 0 c.args.mask)

pub returns-clause-set : goal.returns-clause-set
unfolding count_trailing_zeros
returns-clause-set c = ⊎_elim (λ up. λ l. (bit_at-trailing_zeros w64 c.args.mask up c.ranges.mask.fits).1)
    (λ none. λ l. let nothing : c.args.mask ≡ 0 = omega (arith, none) in
    let full : 64 < 64 = subst (λ m. count_trailing_zeros 64 m < 64) nothing l in absurd (omega (arith, full))) (cases_lt 0 c.args.mask)
