use Rattle.std.proofs.Common.{◌≡◌, map, drop, false}
use Rattle.xsd_regex.specs.views.Classes.{mark_of}
use Rattle.xsd_regex.specs.plain.Groups.{holds_with}
use Rattle.xsd_regex.proofs.Groups.{flipped}
use Rattle.xsd_regex.proofs.class.groups_hold.Given as goal

abbrev pub invariant-loop-member : goal.invariant-loop-member
invariant-loop-member l =
    flipped l.is_subtracted (holds_with l.is_held (drop l.member-index (map mark_of l.members)) l.c)
    ≡ holds_with false (map mark_of l.members) l.c
