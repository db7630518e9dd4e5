-- Tokens of the code, and their order.
use Rattle.std.specs.Prelude.{⊤, ◌<◌, ◌≤◌, ℕ, List, [], ◌∷◌, map}
use Rattle.rnc_model.specs.declared.token.Token as declared
use Rattle.rnc_model.specs.tokens.Cut.{Token}

-- a token of the code, without its place in memory
abbrev pub token_of : declared.Token → Token
token_of t = record { kind = t.kind; text = t.text.now; starts = t.start; ends = t.end }

abbrev pub tokens_of : List declared.Token → List Token
tokens_of ts = map token_of ts

-- each token starts at or after the end of the one before it, and is not empty
abbrev pub AreInOrder : ℕ → List Token → Type 0
AreInOrder start [] = ⊤
AreInOrder start (t ∷ ts) = (start ≤ t.starts) × (t.starts < t.ends) × AreInOrder t.ends ts
