use Rattle.std.proofs.Common.{◌≡◌, map, drop}
use Rattle.rng_model.specs.names.Names.{class_list, some_of}
use Rattle.rng_model.specs.simple.TableRules.{IsPaired}
use Rattle.rng_model.specs.names.NameViews.{class_of}
use Rattle.rng_simple.specs.plain.InTwos.{nested as nested_tree, nested_after}
use Rattle.rng_simple.proofs.name_class.+classes.Given as goal

abbrev pub invariant-nested_members-loop-member : goal.invariant-nested_members-loop-member
invariant-nested_members-loop-member l = record {
  paired : IsPaired l.joined;
  nested : nested_after (class_of l.joined) (class_list (map class_of (drop l.member-index l.rest))) ≡ nested_tree (some_of (map class_of l.members));
}
