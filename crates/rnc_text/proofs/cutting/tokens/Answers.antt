use Rattle.rnc_model.specs.tokens.CutTokens.{tokens_of}
use Rattle.rnc_text.proofs.OneCut.{in_order, gives_tokens, gives_five, whole_cut}
use Rattle.rnc_text.proofs.cutting.tokens.Goals as goal

pub returns-clause-only : goal.returns-clause-only
returns-clause-only c = gives_tokens _ _ _ c.cut.ensures.found c.cut.ensures.fault

pub returns-clause-one : goal.returns-clause-one
returns-clause-one c = λ pieces others p q. whole_cut _ pieces others p q

pub returns-clause-broken : goal.returns-clause-broken
returns-clause-broken c = gives_five _ _ _ c.cut.ensures.found c.cut.ensures.fault

pub returns-clause-order : goal.returns-clause-order
returns-clause-order c = in_order (λ v. tokens_of v.items) _ _ c.cut.ensures.found
