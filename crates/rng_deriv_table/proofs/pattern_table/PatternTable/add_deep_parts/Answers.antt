use Rattle.std.proofs.Common.{◌<◌, [], ◌∷◌, All, List, ap, length, map, refl, subst, sym}
use Rattle.rng_deriv_table.specs.views.Node.{node_of}
use Rattle.rng_deriv_table.specs.plain.Selecting.{parts_of}
use Rattle.rng_deriv_table.specs.declared.pattern.PatternNumber.{PatternNumber}
use Rattle.rng_deriv_table.proofs.KnownFacts.{of_members}
use Rattle.rng_deriv_table.proofs.MarkedNumbers.{parts_inside, parts_of_two}
use Rattle.rng_deriv_table.proofs.pattern_table.PatternTable.add_deep_parts.Goals as goal

pub add_deep-requires : goal.add_deep-requires
add_deep-requires c =
    let l = length c.args.self.now in
    let Below : List PatternNumber → Type 0 = λ ms. All (λ n. n.0 < l) ms in
    subst Below (sym c.as_slice.ensures.value)
    (of_members (λ m. m < l) c.in-Choice.members.items
    (parts_inside c.args.self.now c.args.number.0 c.pattern.result.now (map (λ n. n.0) c.in-Choice.members.items) c.pattern.ensures.found
    (ap (λ p. parts_of (node_of p)) c.in-Choice.is) c.pattern.ensures.table l refl c.requires))

pub add_deep-requires-in-OneOrMore : goal.add_deep-requires-in-OneOrMore
add_deep-requires-in-OneOrMore c =
    let l = length c.args.self.now in
    of_members (λ m. m < l) (c.in-OneOrMore.body ∷ [])
    (parts_inside c.args.self.now c.args.number.0 c.pattern.result.now (c.in-OneOrMore.body.0 ∷ []) c.pattern.ensures.found
    (ap (λ p. parts_of (node_of p)) c.in-OneOrMore.is) c.pattern.ensures.table l refl c.requires)

pub add_deep-requires-in-Group : goal.add_deep-requires-in-Group
add_deep-requires-in-Group c =
    let l = length c.args.self.now in
    of_members (λ m. m < l) (c.in-Group.first ∷ c.in-Group.second ∷ [])
    (parts_inside c.args.self.now c.args.number.0 c.pattern.result.now (c.in-Group.first.0 ∷ c.in-Group.second.0 ∷ []) c.pattern.ensures.found
    (parts_of_two c.pattern.result.now c.in-Group.first c.in-Group.second c.in-Group.is) c.pattern.ensures.table l refl c.requires)
