-- Parts of lines.
use Rattle.std.specs.Prelude.{ℕ, List, ◌++◌, codes}

-- a text in braces, after what it belongs to
abbrev pub braced_text : List ℕ → List ℕ
braced_text w = codes " { " ++ (w ++ codes " }")
