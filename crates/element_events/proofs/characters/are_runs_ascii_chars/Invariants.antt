use Rattle.std.proofs.Common.{◌≡◌, ◌≤◌, length, true}
use Rattle.std.specs.List.{list_all}
use Rattle.element_events.specs.plain.AsciiChars.{is_ascii_char}
use Rattle.element_events.proofs.characters.are_runs_ascii_chars.Given as goal

-- if the rest is characters, all are
abbrev pub invariant-runs : goal.invariant-runs
invariant-runs l = (16 ≤ length l.rest) × (list_all is_ascii_char l.rest ≡ true → list_all is_ascii_char l.bytes ≡ true)

abbrev pub decreases-runs : goal.decreases-runs
decreases-runs l = length l.rest
