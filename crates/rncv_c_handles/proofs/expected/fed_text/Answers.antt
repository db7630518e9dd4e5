use Rattle.rng_expected.specs.views.Next.{next_of}
use Rattle.rncv_c_handles.proofs.expected.fed_text.Goals as goal

pub returns : goal.returns
returns c = record { next = next_of c.in_ok-expected.expected; follows = c.in_ok-expected.ensures; text_is = c.in_ok-text.ensures }
