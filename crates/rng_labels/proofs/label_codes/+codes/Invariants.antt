use Rattle.std.proofs.Common.{◌≡◌, ◌++◌, [], map, drop}
use Rattle.rng_model.specs.names.Names.{class_list, some_of}
use Rattle.rng_model.specs.names.NameViews.{class_of}
use Rattle.rng_labels.specs.plain.LabelCodes.{class_code, more_code, part_of}
use Rattle.rng_labels.proofs.label_codes.+codes.Given as goal

abbrev pub invariant-put_members-loop-member : goal.invariant-put_members-loop-member
invariant-put_members-loop-member l =
    map part_of l.code.items ++ more_code (class_list (map class_of (drop l.member-index l.rest))) []
    ≡ map part_of l.fn.code.items ++ class_code (some_of (map class_of l.members)) []
