-- How deep derivatives call one another: those by an attribute ask for its value, and those by a string for the pieces of a list.
use Rattle.std.proofs.Common.{ℕ}
use Rattle.rng_plain_matcher.specs.declared.first.First.{First}
use Rattle.rng_plain_matcher.specs.declared.first.First.TheVariants as firsts

abbrev pub rank : First → ℕ
rank (firsts.Piece s) = 0
rank (firsts.Text s) = 5
rank (firsts.Attribute a) = 10
