use Rattle.rnc_print.proofs.Literals.{literal_begun}
use Rattle.rnc_print.proofs.literal.write_literal.Goals as goal

pub bytes-init : goal.bytes-init
bytes-init c = literal_begun _ _ _ _ c.in-len1-up.len_at_least c.delimiter-quote.ensures c.in_ok-push.ensures.items
