-- Bytes that are all ASCII are a text.
use Rattle.std.proofs.Common.{rules}
use Rattle.std.proofs.lemmas.Str.{IsUtf8-from_ascii}
use Rattle.rncv_c_values.proofs.attributes.is_text.Goals as goal

pub returns-then-is_ascii-clause-text : goal.returns-then-is_ascii-clause-text
returns-then-is_ascii-clause-text c = λ _. IsUtf8-from_ascii _ (search rules)
