use Rattle.std.proofs.Common.{All, map, take}
use Rattle.rng_model.specs.names.NameViews.{class_of}
use Rattle.rng_model.specs.simple.TableRules.{IsPaired}
use Rattle.rng_expected.specs.plain.TagLeaves.{AreClassesOf}
use Rattle.rng_expected.proofs.tags.classes_of.Given as goal

abbrev pub invariant-attributes : goal.invariant-attributes
invariant-attributes l = record {
  paired : All (λ c. IsPaired c.now) l.classes.items;
  classes : AreClassesOf l.grammar l.table (take l.leaf-index l.attributes) (map (λ c. class_of c.now) l.classes.items);
}
