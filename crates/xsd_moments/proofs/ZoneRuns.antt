-- A text that begins no zone.
use Rattle.std.proofs.Common.{◌≡◌, ◌≢◌, ◌≤◌, ℕ, List, [], ◌∷◌, length, get_or, Bool, true, false, cond, ◌==◌, Option, Some, None, refl, sym, ap, ◌∙◌, rules, tests, arith}
use Rattle.rng_model.specs.datatypes.Texts.{is_blank_byte, is_blank, collapse}
use Rattle.rng_types.specs.plain.Runs.{from_run}
use Rattle.rng_model.specs.xsd.primitives.Zones.{Zone, unknown, zone_of}
use Rattle.xsd_moments.proofs.FrontRuns.{spaced, from_run-blank, from_run-front}

abbrev unknown_if : List ℕ → Option Zone
unknown_if s = cond (length s == 0) (Some unknown) None

after_blank : (s : List ℕ) → unknown_if (spaced s) ≡ zone_of (spaced s)
after_blank s = by_blank (is_blank s)
  where
    by_blank : (c : Bool) → ◌≡◌ {A = Option Zone} (cond (length (cond c [] (32 ∷ collapse s)) == 0) (Some unknown) None) (zone_of (cond c [] (32 ∷ collapse s)))
    by_blank true = refl
    by_blank false = search (rules, tests, arith)

no_sign : (b : ℕ) (s : List ℕ) → b ≢ 43 → b ≢ 45 → b ≢ 90 → unknown_if (b ∷ s) ≡ zone_of (b ∷ s)
no_sign b s plus minus utc =
    let one : (b == 43) ≡ false = search (rules, tests, arith) in
    let two : (b == 45) ≡ false = search (rules, tests, arith) in
    let three : (b == 90) ≡ false = search (rules, tests, arith) in
    rw (one, two, three) (search (rules, tests, arith))

pub other_zone : (s : List ℕ) → 1 ≤ length s → get_or s 0 0 ≢ 43 → get_or s 0 0 ≢ 45 → get_or s 0 0 ≢ 90
    → cond (length (from_run s) == 0) (Some unknown) None ≡ zone_of (from_run s)
other_zone [] some plus minus utc = absurd (omega (arith, some))
other_zone (b ∷ s) some plus minus utc = by_blank (is_blank_byte b) refl
  where
    by_blank : (c : Bool) → is_blank_byte b ≡ c → unknown_if (from_run (b ∷ s)) ≡ zone_of (from_run (b ∷ s))
    by_blank true c = ap unknown_if (from_run-blank b s c) ∙ (after_blank s ∙ ap zone_of (sym (from_run-blank b s c)))
    by_blank false c = ap unknown_if (from_run-front b s c) ∙ (no_sign b (from_run s) plus minus utc ∙ ap zone_of (sym (from_run-front b s c)))
