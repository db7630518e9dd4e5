use Rattle.std.proofs.Common.{◌≡◌, take, fold}
use Rattle.pyx.specs.plain.NamespacesSlots.{hashed}
use Rattle.pyx.proofs.namespaces.slots.hash_of.Given as goal

abbrev pub invariant-bytes : goal.invariant-bytes
invariant-bytes l = l.sum ≡ fold hashed 0 (take l.byte-index l.fn.text)
