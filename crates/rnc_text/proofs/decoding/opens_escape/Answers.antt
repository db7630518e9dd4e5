use Rattle.std.proofs.Common.{rules}
use Rattle.rnc_text.proofs.Escapes.{opens_brace, opens_x, opens_other, opens_end}
use Rattle.rnc_text.proofs.decoding.opens_escape.Goals as goal

pub returns-in-123 : goal.returns-in-123
returns-in-123 c = opens_brace _ _ _ _ _ c.in-Some.ensures.chars c.in-123.is c.letters.invariant.same

pub returns-in_default-character : goal.returns-in_default-character
returns-in_default-character c = opens_other _ _ _ _ _ c.in-Some.ensures.chars (search rules) (search rules) c.letters.invariant.same

pub letters-preserved : goal.letters-preserved
letters-preserved c = record { text = search rules; same = opens_x _ _ _ _ _ c.in-Some.ensures.chars c.in-x.is c.letters.invariant.same }

pub returns : goal.returns
returns c = opens_end _ _ _ c.in_default.ensures.chars c.letters.invariant.same
