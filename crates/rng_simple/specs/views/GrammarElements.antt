-- The elements of a grammar that is made of rows, and the grammar with these elements.
use Rattle.std.specs.Prelude.{◌≡◌, ℕ, List, length, slice_get, Some}
use Rattle.rng_model.specs.names.Names as names
use Rattle.rng_model.specs.simple.TableRules.{IsPaired}
use Rattle.rng_model.specs.names.NameViews.{class_of}
use Rattle.rng_model.specs.declared.name.NameClass.{NameClass}
use Rattle.rng_model.specs.declared.simple.PatternId.{PatternId}
use Rattle.rng_simple.specs.plain.InTwos.{nested}
use Rattle.rng_simple.specs.plain.Copying.{place_of}
use Rattle.rng_simple.specs.plain.RowReach.{content_of}

-- a copy of the element with this number in the graph, with the pattern of its body
pub record IsElementCopy (classes : List names.NameClass) (contents places : List ℕ) (k : ℕ) (e : NameClass × PatternId) : Type 0 where
  pub class : (c : names.NameClass) → slice_get classes k ≡ Some c → class_of e.0 ≡ nested c
  pub paired : IsPaired e.0
  pub body : e.1.0 ≡ place_of places (content_of contents k)

-- the elements are these, in this order
pub record AreElementCopies (classes : List names.NameClass) (contents places listed : List ℕ) (es : List (NameClass × PatternId)) : Type 0 where
  pub count : length es ≡ length listed
  pub each : (n k : ℕ) (e : NameClass × PatternId) → slice_get listed n ≡ Some k → slice_get es n ≡ Some e → IsElementCopy classes contents places k e
