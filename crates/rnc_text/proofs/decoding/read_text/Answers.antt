use Rattle.std.proofs.Common.{rules, inl, refl}
use Rattle.rnc_text.proofs.OneDecoding.{gives_text, gives_fault, fault_one, decoded_one}
use Rattle.rnc_text.proofs.decoding.read_text.Goals as goal

pub returns-in-Ok-clause-only : goal.returns-in-Ok-clause-only
returns-in-Ok-clause-only c = gives_text _ _ (search rules) (search rules)

pub returns-in-Ok-clause-broken : goal.returns-in-Ok-clause-broken
returns-in-Ok-clause-broken c = gives_fault _ _ (search rules) (search rules)

pub returns-in-Err-clause-broken : goal.returns-in-Err-clause-broken
returns-in-Err-clause-broken c =
    λ clause offset broken. rw c.valid_up_to.ensures (fault_one c.args.bytes.now 3 _ clause offset (inl (refl, c.in-Err.ensures.cases)) broken)

pub returns-in-Ok-clause-one : goal.returns-in-Ok-clause-one
returns-in-Ok-clause-one c = λ cs ds p q. decoded_one _ cs ds p q

pub returns-in-Err-clause-one : goal.returns-in-Err-clause-one
returns-in-Err-clause-one c = λ cs ds p q. decoded_one _ cs ds p q
