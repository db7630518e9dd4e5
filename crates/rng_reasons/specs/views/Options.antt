-- What a tag may have, without its place in memory.
use Rattle.rng_expected.specs.views.Next.{next_of, tag_of}
use Rattle.rng_reasons.specs.TagOptions.{Options}
use Rattle.rng_reasons.specs.declared.options.TagOptions.{TagOptions}

abbrev pub options_of : TagOptions → Options
options_of o = record { tag = tag_of o.tag; value = next_of o.value }
