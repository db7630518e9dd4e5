use Rattle.std.proofs.Common.{rules, arith}
use Rattle.xsd_types.proofs.Tags.{language-tags}
use Rattle.xsd_types.proofs.languages.is_language.Goals as goal

pub bytes-init : goal.bytes-init
bytes-init c = record { same = language-tags c.args.bytes.now; few = search (rules, arith) }
