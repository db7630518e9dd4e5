use Rattle.std.proofs.Common.{◌≡◌, ◌++◌, drop}
use Rattle.rncv_model.specs.printed.Words.{literal}
use Rattle.rnc_print.specs.plain.Literals.{open_text}
use Rattle.rnc_print.proofs.literal.write_literal.Given as goal

-- what is written so far, and what must still be written for the other bytes
abbrev pub invariant-bytes : goal.invariant-bytes
invariant-bytes l = l.text.items ++ open_text l.quote (drop l.byte-index l.bytes) ≡ l.fn.text.items ++ literal l.bytes
