use Rattle.std.proofs.Common.{◌≡◌, ◌++◌, string_bytes}
use Rattle.rng_model.specs.names.NameViews.{class_of}
use Rattle.expected_text.specs.plain.Parts.{left_text, left_weight, text_at}
use Rattle.expected_text.proofs.class_parts.write_at.Given as goal

-- what is written so far, and what must still be written
abbrev pub invariant-parts : goal.invariant-parts
invariant-parts l = string_bytes l.text ++ left_text l.left.items ≡ string_bytes l.fn.text ++ text_at l.fn.place (class_of l.class)

abbrev pub decreases-parts : goal.decreases-parts
decreases-parts l = left_weight l.left.items
