use Rattle.std.proofs.Common.{◌+◌, ◌*◌, max}
use Rattle.schema_cases.proofs.patterns.+patterns.Given as goal

abbrev pub decreases-print_pattern : goal.decreases-print_pattern
decreases-print_pattern g l = 2 * l.id.0

abbrev pub decreases-print_pair : goal.decreases-print_pair
decreases-print_pair g l = 2 * max l.a.0 l.b.0 + 1

abbrev pub decreases-print_in_braces : goal.decreases-print_in_braces
decreases-print_in_braces g l = 2 * l.id.0 + 1
