use Rattle.std.proofs.Common.{◌≡◌, take}
use Rattle.std.specs.List.{list_all}
use Rattle.pyx.specs.plain.PlainBytes.{flaw, is_plain}
use Rattle.pyx.proofs.plain.all_plain.Given as goal

abbrev pub invariant-bytes : goal.invariant-bytes
invariant-bytes l = l.flaws ≡ flaw (list_all is_plain (take l.byte-index l.fn.bytes))
