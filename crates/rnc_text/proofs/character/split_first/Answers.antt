use Rattle.std.proofs.Common.{rules}
use Rattle.rnc_text.proofs.Characters.{first_of_some}
use Rattle.rnc_text.proofs.character.split_first.Goals as goal

pub returns-clause-chars : goal.returns-clause-chars
returns-clause-chars c = first_of_some c.args.text.now c.as_str.result.now c.in_ok-first.first c.utf8.text (search rules)
