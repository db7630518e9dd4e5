use Rattle.std.proofs.Common.{◌∙◌, ap, take}
use Rattle.std.proofs.lemmas.Str.{utf8_valid_len-IsValidUpTo}
use Rattle.rnc_text.proofs.placing.valid_front.Goals as goal

pub returns-in-Ok-from_utf8-clause-front : goal.returns-in-Ok-from_utf8-clause-front
returns-in-Ok-from_utf8-clause-front c = λ offset broken valid.
    c.in-Ok-from_utf8.ensures.cases.0 ∙ c.split_at.ensures.front
    ∙ ap (λ n. take n c.args.bytes.now) (c.valid_up_to.ensures ∙ c.in-Err.ensures.valid_len ∙ utf8_valid_len-IsValidUpTo c.args.bytes.now offset valid)
