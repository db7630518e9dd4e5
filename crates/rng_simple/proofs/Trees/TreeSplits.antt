-- Cases of a simple tree, by what the rules need to know of it.
use Rattle.std.proofs.Common.{◌≡◌, refl}
use Rattle.rng_model.specs.simple.Tree.{not_allowed, empty}
use Rattle.rng_model.specs.simple.Tree.{Simple, s_not_allowed, s_empty, as_tree}
use Rattle.rng_simple.specs.plain.SimpleOf.{Sort, nothing, blank, proper, sort_of}

pub data Sorted {L : Type 0} : Simple L → Sort → Type 0 where
  is_nothing : Sorted s_not_allowed nothing
  is_blank : Sorted s_empty blank
  is_proper : {s : Simple L} → sort_of s ≡ proper → Sorted s proper

pub sorted : {L : Type 0} (s : Simple L) → Sorted s (sort_of s)
sorted s_not_allowed = is_nothing
sorted s_empty = is_blank
sorted _ = is_proper refl

pub proper_is_allowed : {L : Type 0} (s : Simple L) → sort_of s ≡ proper → as_tree s ≡ not_allowed → ⊥
proper_is_allowed s_not_allowed p e = cc
proper_is_allowed _ p e = cc

pub proper_is_not_empty : {L : Type 0} (s : Simple L) → sort_of s ≡ proper → as_tree s ≡ empty → ⊥
proper_is_not_empty s_empty p e = cc
proper_is_not_empty _ p e = cc
