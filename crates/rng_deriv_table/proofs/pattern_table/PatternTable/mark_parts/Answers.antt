use Rattle.std.proofs.Common.{◌<◌, [], ◌∷◌, All, List, ap, length, map, subst, sym}
use Rattle.rng_deriv_table.specs.views.Node.{node_of}
use Rattle.rng_deriv_table.specs.plain.Selecting.{Marks, parts_of}
use Rattle.rng_deriv_table.specs.declared.pattern.PatternNumber.{PatternNumber}
use Rattle.rng_deriv_table.proofs.KnownFacts.{of_members}
use Rattle.rng_deriv_table.proofs.MarkedNumbers.{no_parts, nothing_marked, parts_inside, parts_marked, parts_of_two}
use Rattle.rng_deriv_table.proofs.pattern_table.PatternTable.mark_parts.Goals as goal

pub mark_all-requires : goal.mark_all-requires
mark_all-requires c =
    let l = length c.args.marks.now.items in
    let Below : List PatternNumber → Type 0 = λ ms. All (λ n. n.0 < l) ms in
    subst Below (sym c.as_slice.ensures.value)
    (of_members (λ m. m < l) c.in-Choice.members.items
    (parts_inside c.args.self.now c.args.number.0 c.pattern.result.now (map (λ n. n.0) c.in-Choice.members.items) c.pattern.ensures.found
    (ap (λ p. parts_of (node_of p)) c.in-Choice.is) c.pattern.ensures.table l c.requires.long c.requires.inside))

pub mark_all-requires-in-OneOrMore : goal.mark_all-requires-in-OneOrMore
mark_all-requires-in-OneOrMore c =
    let l = length c.args.marks.now.items in
    of_members (λ m. m < l) (c.in-OneOrMore.body ∷ [])
    (parts_inside c.args.self.now c.args.number.0 c.pattern.result.now (c.in-OneOrMore.body.0 ∷ []) c.pattern.ensures.found
    (ap (λ p. parts_of (node_of p)) c.in-OneOrMore.is) c.pattern.ensures.table l c.requires.long c.requires.inside)

pub mark_all-requires-in-Group : goal.mark_all-requires-in-Group
mark_all-requires-in-Group c =
    let l = length c.args.marks.now.items in
    of_members (λ m. m < l) (c.in-Group.first ∷ c.in-Group.second ∷ [])
    (parts_inside c.args.self.now c.args.number.0 c.pattern.result.now (c.in-Group.first.0 ∷ c.in-Group.second.0 ∷ []) c.pattern.ensures.found
    (parts_of_two c.pattern.result.now c.in-Group.first c.in-Group.second c.in-Group.is) c.pattern.ensures.table l c.requires.long c.requires.inside)

pub returns-in-Choice-clause-marked : goal.returns-in-Choice-clause-marked
returns-in-Choice-clause-marked c =
    let old = c.args.marks.now.items in
    let new = c.mark_all.new.marks.items in
    let Members : List PatternNumber → Type 0 = λ ms. Marks old new (map (λ n. n.0) ms) in
    parts_marked c.args.self.now c.args.number.0 c.pattern.result.now (map (λ n. n.0) c.in-Choice.members.items) c.pattern.ensures.found
    (ap (λ p. parts_of (node_of p)) c.in-Choice.is) old new (subst Members c.as_slice.ensures.value c.mark_all.ensures)

pub returns-in-OneOrMore-clause-marked : goal.returns-in-OneOrMore-clause-marked
returns-in-OneOrMore-clause-marked c =
    parts_marked c.args.self.now c.args.number.0 c.pattern.result.now (c.in-OneOrMore.body.0 ∷ []) c.pattern.ensures.found
    (ap (λ p. parts_of (node_of p)) c.in-OneOrMore.is) c.args.marks.now.items c.mark_all-in-OneOrMore.new.marks.items c.mark_all-in-OneOrMore.ensures

pub returns-in-Group-clause-marked : goal.returns-in-Group-clause-marked
returns-in-Group-clause-marked c =
    parts_marked c.args.self.now c.args.number.0 c.pattern.result.now (c.in-Group.first.0 ∷ c.in-Group.second.0 ∷ []) c.pattern.ensures.found
    (parts_of_two c.pattern.result.now c.in-Group.first c.in-Group.second c.in-Group.is) c.args.marks.now.items c.mark_all-in-Group.new.marks.items
    c.mark_all-in-Group.ensures

pub returns-in_default-clause-marked : goal.returns-in_default-clause-marked
returns-in_default-clause-marked c =
    parts_marked c.args.self.now c.args.number.0 c.pattern.result.now [] c.pattern.ensures.found
    (no_parts c.pattern.result.now c.in_default.not-Choice c.in_default.not-Group c.in_default.not-Interleave c.in_default.not-OneOrMore)
    c.args.marks.now.items c.args.marks.now.items (nothing_marked c.args.marks.now.items)
