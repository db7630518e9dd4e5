use Rattle.rng_expected.specs.views.Next.{tag_of}
use Rattle.rncv_c_handles.proofs.expected.tag_text_told.Goals as goal

pub returns : goal.returns
returns c = record { tag = tag_of c.in_ok-tag.tag; may = c.in_ok-tag.ensures; text_is = c.in_ok-text.ensures }
