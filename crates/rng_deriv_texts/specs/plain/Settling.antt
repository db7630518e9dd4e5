-- What is left of a pattern, as far as its known ways tell.
use Rattle.std.specs.Prelude.{◌≡◌, ◌↔◌, ◌⊎◌, ℕ, ◌<◌, All, List, [], ◌∷◌, length, Bool, true, false, Option, Some, None}
use Rattle.rng_model.specs.simple.Tree.{Simple}
use Rattle.rng_model.specs.simple.Table.{Table}
use Rattle.rng_model.specs.matching.GrammarMatching.{reading_of}
use Rattle.rng_deriv_table.specs.views.Node.{Node}
use Rattle.rng_deriv_table.specs.views.Trees.{tree_of}
use Rattle.rng_deriv_table.specs.declared.pattern.PatternNumber.{PatternNumber}
use Rattle.rng_deriv_ways.specs.plain.Ways.{Offers, ways_by}
use Rattle.rng_deriv_ways.specs.declared.way.LeafWay.{LeafWay}
use Rattle.rng_deriv_texts.specs.plain.After.{AreFor, AreRests, AreWaysFor, attributes_of, items_of}
use Rattle.rng_deriv_texts.specs.declared.first.First.{First}
use Rattle.rng_deriv_texts.specs.declared.settled.Rest.{Rest}
use Rattle.rng_deriv_texts.specs.declared.settled.Rest.TheVariants as rest_kinds

-- the way changes nothing of what is left, whether its leaf takes what comes first or not
abbrev pub IsCovered : Rest → LeafWay → Type 0
IsCovered rest_kinds.Unknown w = Unit {0}
IsCovered rest_kinds.Nothing w = ⊥
IsCovered (rest_kinds.Only r) w = r ≡ w.rest
IsCovered (rest_kinds.Two r q) w = (r ≡ w.rest) ⊎ (q ≡ w.rest)

-- what is left by one more way, where it was told or not whether its leaf takes what comes first
abbrev pub with_told : Option Bool → Rest → LeafWay → Rest
with_told None r w = rest_kinds.Unknown
with_told (Some false) r w = r
with_told (Some true) rest_kinds.Unknown w = rest_kinds.Unknown
with_told (Some true) rest_kinds.Nothing w = rest_kinds.Only w.rest
with_told (Some true) (rest_kinds.Only r) w = rest_kinds.Two r w.rest
with_told (Some true) (rest_kinds.Two r q) w = rest_kinds.Unknown

-- the rests are patterns of the table
abbrev pub IsRestInside : List Node → Rest → Type 0
IsRestInside ns rest_kinds.Unknown = Unit {0}
IsRestInside ns rest_kinds.Nothing = Unit {0}
IsRestInside ns (rest_kinds.Only r) = r.0 < length ns
IsRestInside ns (rest_kinds.Two r q) = All (λ (m : PatternNumber). m.0 < length ns) (r ∷ q ∷ [])

-- what is left by these ways
abbrev pub AreLeft : Table → List Node → First → List LeafWay → Rest → Type 0
AreLeft t ns first ws rest_kinds.Unknown = Unit {0}
AreLeft t ns first ws rest_kinds.Nothing = AreRests t ns ns first ws []
AreLeft t ns first ws (rest_kinds.Only r) = AreRests t ns ns first ws (r ∷ [])
AreLeft t ns first ws (rest_kinds.Two r q) = AreRests t ns ns first ws (r ∷ q ∷ [])

-- what is left of a pattern by all its ways
abbrev pub IsSettled : Table → List Node → First → Simple ℕ → Rest → Type 0
IsSettled t ns first p rest_kinds.Unknown = Unit {0}
IsSettled t ns first p rest_kinds.Nothing = (ws : List LeafWay) × AreWaysFor t ns first p ws × AreRests t ns ns first ws []
IsSettled t ns first p (rest_kinds.Only r) = (ws : List LeafWay) × AreWaysFor t ns first p ws × AreRests t ns ns first ws (r ∷ [])
IsSettled t ns first p (rest_kinds.Two r q) = (ws : List LeafWay) × AreWaysFor t ns first p ws × AreRests t ns ns first ws (r ∷ q ∷ [])

-- the test is whether by one of these ways a leaf takes what comes first and its rest takes nothing
abbrev pub TellsWhole : Table → List Node → First → List LeafWay → Bool → Type 0
TellsWhole t ns first ws b = AreFor first (ways_by (tree_of t ns) ws)
    → (b ≡ true) ↔ Offers (reading_of t) (ways_by (tree_of t ns) ws) (attributes_of first) (items_of first) [] []
