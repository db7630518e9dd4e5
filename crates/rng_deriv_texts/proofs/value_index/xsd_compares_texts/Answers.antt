use Rattle.xsd_types.specs.views.View.{plain_meaning}
use Rattle.xsd_types.proofs.Restricted.{equal_without}
use Rattle.rng_deriv_texts.proofs.value_index.xsd_compares_texts.Goals as goal

pub returns : goal.returns
returns c = λ e v w same.
    c.plain_compares_texts.ensures e v w (equal_without c.args.datatype.now.patterns (plain_meaning c.args.datatype.now.plain) v w same)
