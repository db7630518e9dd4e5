use Rattle.std.proofs.Common.{◌≡◌, ◌++◌, map, length}
use Rattle.pyx.specs.views.WrittenAttributes.{written_attribute}
use Rattle.pyx.proofs.namespaces.declarations.Declarations.add_tag.Given as goal

abbrev pub invariant-declarations : goal.invariant-declarations
invariant-declarations l = map written_attribute l.tag.items ++ l.self ≡ map written_attribute l.fn.tag.items ++ l.fn.self

abbrev pub decreases-declarations : goal.decreases-declarations
decreases-declarations l = length l.tag.items
