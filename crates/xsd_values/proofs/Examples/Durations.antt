-- Worked cases of duration, which the checker computes.
use Rattle.std.proofs.Common.{codes, ◌≡◌, [], ◌∷◌, refl, true, is_some, is_none}
use Rattle.std.specs.List.{list_all}
use Rattle.rng_model.specs.xsd.primitives.Durations.{duration_of}

-- ---- texts: the examples of section 3.2.6.1

are_durations : list_all (λ s. is_some (duration_of s)) (
    codes "P1Y2M3DT10H30M" ∷
    codes "-P120D" ∷
    codes "P0Y1347M0D" ∷
    codes "P1347Y" ∷
    codes "P1Y2MT2H" ∷
    codes "PT0.5S" ∷
    codes "P1234567890D" ∷  -- eighteen digits may be written
    codes "P0999999999999999999Y" ∷  -- and zeros in front of them
    codes "P000000000000000000000000000000Y" ∷
    []) ≡ true
unfolding duration_of
are_durations = refl

are_none : list_all (λ s. is_none (duration_of s)) (
    codes "P-1347M" ∷  -- a minus inside
    codes "P1Y2MT" ∷  -- no time behind T
    codes "P" ∷  -- no number
    codes "PT" ∷
    codes "PT.5S" ∷  -- no digit before the point
    codes "PT5.S" ∷  -- and none behind it
    codes "P1.5D" ∷  -- a fraction of a day
    codes "P1M1Y" ∷  -- out of order
    codes "PT1H1D" ∷
    codes "+P1D" ∷
    codes "p1y" ∷
    codes "P1000000000000000000Y" ∷  -- more than eighteen digits
    codes "PT1000000000000000000.5S" ∷
    []) ≡ true
unfolding duration_of
are_none = refl
