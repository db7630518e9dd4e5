use Rattle.std.proofs.Common.{◌≡◌, ◌≤◌, length}
use Rattle.rng_model.specs.xsd.Names.{is_language}
use Rattle.xsd_types.specs.plain.Tags.{rest_of_tags}
use Rattle.xsd_types.proofs.languages.is_language.Given as goal

abbrev pub invariant-bytes : goal.invariant-bytes
invariant-bytes l = record {
  same : rest_of_tags l.first l.count l.rest ≡ is_language l.bytes;
  few : l.count ≤ 8;
}

abbrev pub decreases-bytes : goal.decreases-bytes
decreases-bytes l = length l.rest
