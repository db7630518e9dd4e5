-- The `::` that a text begins with.
use Rattle.std.specs.Prelude.{ℕ, List, [], ◌∷◌, ◌&&◌, Option, Some, None, if◌then◌else◌}
use Rattle.xsd_uris.specs.plain.UriShapes.{is, begins_with, without_first}

-- what is behind it
abbrev pub after_double : List ℕ → Option (List ℕ)
after_double [] = None
after_double (c ∷ s) = if is 0x3A c && begins_with 0x3A s then Some (without_first s) else None
