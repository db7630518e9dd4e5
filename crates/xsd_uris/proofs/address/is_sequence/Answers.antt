use Rattle.std.proofs.Common.{◌≡◌, ◌&&◌, true, false, ap, sym, ◌∙◌, rules}
use Rattle.xsd_uris.specs.plain.UriShapes.{is_group, is_sequence}
use Rattle.xsd_uris.proofs.CutAddresses.{sequence_more}
use Rattle.xsd_uris.proofs.address.is_sequence.Goals as goal

pub groups-preserved : goal.groups-preserved
groups-preserved c =
    let after = c.in-Some.after.now in
    let group : is_group c.in-Some.group.now ≡ true = search rules in
    let more : is_sequence c.groups.rest.now ≡ (is_group c.in-Some.group.now && is_sequence after) =
    sequence_more c.groups.rest.now c.in-Some.group.now after c.in-Some.ensures.0 in
    sym (more ∙ ap (λ b. b && is_sequence after) group) ∙ c.groups.invariant

pub returns-then-not-is_group : goal.returns-then-not-is_group
returns-then-not-is_group c =
    let after = c.in-Some.after.now in
    let group : is_group c.in-Some.group.now ≡ false = search rules in
    let more : is_sequence c.groups.rest.now ≡ (is_group c.in-Some.group.now && is_sequence after) =
    sequence_more c.groups.rest.now c.in-Some.group.now after c.in-Some.ensures.0 in
    sym (sym c.groups.invariant ∙ more ∙ ap (λ b. b && is_sequence after) group)
