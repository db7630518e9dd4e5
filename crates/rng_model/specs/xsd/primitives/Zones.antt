-- Moments, which of two comes first, and time zones (XML Schema Part 2, Second Edition, section 3.2.7).
use Rattle.std.specs.Prelude.{ℕ, ◌+◌, ◌-◌, ◌*◌, List, [], ◌∷◌, length, Bool, true, false, ◌&&◌, ◌||◌, ◌==◌, nat_le, nat_lt, if◌then◌else◌, Option, Some, None}
use Rattle.std.specs.Bool.{beq}
use Rattle.std.specs.Option.{option_map}
use Rattle.rng_model.specs.datatypes.Texts.{collapse}
use Rattle.rng_model.specs.xsd.Limits.{Ordered}
use Rattle.rng_model.specs.xsd.primitives.Calendar.{minute, hour}
use Rattle.rng_model.specs.xsd.primitives.Fronts.{Front, ◌>>=◌, after, two_digits}

-- ---- moments

-- A point of the timeline. It is in Coordinated Universal Time if the time zone is known (section 3.2.7.3).
pub record Moment : Type 0 where
  pub zoned : Bool
  pub at : ℕ

abbrev pub same_moment : Moment → Moment → Bool
same_moment a b = beq a.zoned b.zoned && (a.at == b.at)

-- The first is before the second, whichever time zone from +14:00 to -14:00 one without a zone is in (section 3.2.7.4).
abbrev pub is_before : Moment → Moment → Bool
is_before a b = if beq a.zoned b.zoned then nat_lt a.at b.at else nat_lt (a.at + 14 * hour) b.at

abbrev pub ordered_by : (List ℕ → Option Moment) → Ordered Moment
ordered_by moment_of = record {
  value_of = λ s. moment_of (collapse s);
  has = λ m. true;
  is_at_most = λ a b. same_moment a b || is_before a b;
  is_less = is_before;
}

-- ---- time zones: none, or the minutes by which its clocks are ahead of Coordinated Universal Time, or behind it

pub data Zone : Type 0 where
  unknown : Zone
  ahead behind : ℕ → Zone

-- the moment at which the clocks of the zone show this
abbrev pub in_zone : Zone → ℕ → Moment
in_zone unknown n = record { zoned = false; at = n }
in_zone (ahead minutes) n = record { zoned = true; at = n - minutes * minute }
in_zone (behind minutes) n = record { zoned = true; at = n + minutes * minute }

-- hours and minutes, 14:00 at most, to the end of the text (section 3.2.7.3)
abbrev pub offset_of : List ℕ → Option ℕ
offset_of s = do
  hours ← two_digits 0 14 s
  colon ← after 0x3A hours.1
  minutes ← two_digits 0 59 colon
  if nat_le (hours.0 * 60 + minutes.0) 840 && (length minutes.1 == 0) then Some (hours.0 * 60 + minutes.0) else None

-- nothing, `Z`, or an offset with its sign
abbrev pub zone_of : List ℕ → Option Zone
zone_of [] = Some unknown
zone_of (c ∷ rest) =
    if c == 0x2B then option_map ahead (offset_of rest) else
    if c == 0x2D then option_map behind (offset_of rest) else
    if (c == 0x5A) && (length rest == 0) then Some (ahead 0) else None

-- the moment that a front writes, with the time zone that ends the text
abbrev pub with_zone : Front → Option Moment
with_zone f = option_map (λ z. in_zone z f.0) (zone_of f.1)
