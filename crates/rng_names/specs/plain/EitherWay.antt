-- The result for two classes, in either order.
use Rattle.std.specs.Prelude.{Bool, IsTrue, IsFalse}
use Rattle.rng_model.specs.names.Names.{NameClass, Overlap}
use Rattle.rng_model.specs.plain.ClassesApart.{AreApart}

-- the result says whether some name is in both classes
pub record TellsOverlap (c : NameClass) (d : NameClass) (yes : Bool) : Type 0 where
  pub common : IsTrue yes → Overlap c d
  pub apart : IsFalse yes → AreApart c d
