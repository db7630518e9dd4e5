-- Where a reader of base64Binary is, and what it reads from there.
use Rattle.std.specs.Prelude.{ℕ, List, [], ◌∷◌, Bool, true, false, ◌&&◌, if◌then◌else◌, Option, Some, None}
use Rattle.rng_model.specs.xsd.primitives.Octets.{is_b64, is_b16, is_b04, is_padding}
use Rattle.xsd_octets.specs.declared.base64_binary.Place.{Place}
use Rattle.xsd_octets.specs.declared.base64_binary.Place.TheVariants.{First, Second, Third, Fourth, Padding, End}

-- the place behind a character
abbrev pub after : Place → ℕ → Option Place
after First c = if is_b64 c then Some Second else None
after Second c = if is_b64 c then Some (Third (is_b04 c)) else None
after (Third may_end) c = if is_b64 c then Some (Fourth (is_b16 c)) else (if may_end && is_padding c then Some Padding else None)
after (Fourth may_end) c = if is_b64 c then Some First else (if may_end && is_padding c then Some End else None)
after Padding c = if is_padding c then Some End else None
after End c = None

abbrev pub is_end : Place → Bool
is_end First = true
is_end Second = false
is_end (Third may_end) = false
is_end (Fourth may_end) = false
is_end Padding = false
is_end End = true

abbrev pub passes_at : (Place → Bool) → Option Place → Bool
passes_at test None = false
passes_at test (Some place) = test place

-- the characters that follow end a text
abbrev pub are_groups_from : Place → List ℕ → Bool
are_groups_from place [] = is_end place
are_groups_from place (c ∷ cs) = passes_at (λ next. are_groups_from next cs) (after place c)
