use Rattle.std.proofs.Common.{◌<◌, All, List, length, map, subst, sym, arith}
use Rattle.std.proofs.lemmas.List.Elements.{All-weaker}
use Rattle.rng_deriv_table.specs.views.Node.{Node}
use Rattle.rng_deriv_table.specs.declared.pattern.Pattern.TheVariants as pattern
use Rattle.rng_deriv_table.specs.declared.pattern.PatternNumber.{PatternNumber}
use Rattle.rng_deriv_table.proofs.KnownFacts.{of_members}
use Rattle.rng_deriv_ways.proofs.PatternNodes.{parts_there}
use Rattle.rng_expected.specs.plain.Leaves.{AddsMarks, nullable_in, parts_where}
use Rattle.rng_expected.proofs.FoundLeaves.{node_is, no_parts_there}
use Rattle.rng_expected.proofs.Marks.{no_marks}
use Rattle.rng_expected.proofs.leaves.mark_parts.Goals as goal

pub mark_all-requires : goal.mark_all-requires
mark_all-requires c =
    let ns = c.args.table.now in
    let i = c.args.number.0 in
    let l = length c.args.marks.now.items in
    let members = c.in-Choice.members.items in
    let Below : List PatternNumber → Type 0 = λ ms. All (λ n. n.0 < l) ms in
    let parts = parts_there ns i c.pattern.result.now (pattern.Choice c.in-Choice.members) c.pattern.ensures.table c.pattern.ensures.found c.in-Choice.is in
    subst Below (sym c.as_slice.ensures.value)
    (of_members (λ m. m < l) members
    (All-weaker (λ m. m < i) (λ m. m < l) (λ m h. omega (arith, h, c.requires.long, c.requires.inside)) (map (λ n. n.0) members) parts.1))

pub mark_group-requires-clause-first : goal.mark_group-requires-clause-first
mark_group-requires-clause-first c =
    let parts = parts_there c.args.table.now c.args.number.0 c.pattern.result.now (pattern.Group c.in-Group.first c.in-Group.second) c.pattern.ensures.table
    c.pattern.ensures.found c.in-Group.is in
    omega (arith, parts.0, c.requires.inside)

pub mark_group-requires-clause-second : goal.mark_group-requires-clause-second
mark_group-requires-clause-second c =
    let parts = parts_there c.args.table.now c.args.number.0 c.pattern.result.now (pattern.Group c.in-Group.first c.in-Group.second) c.pattern.ensures.table
    c.pattern.ensures.found c.in-Group.is in
    omega (arith, parts.1, c.requires.inside)

pub mark_interleave-requires-clause-first : goal.mark_interleave-requires-clause-first
mark_interleave-requires-clause-first c =
    let parts = parts_there c.args.table.now c.args.number.0 c.pattern.result.now (pattern.Interleave c.in-Interleave.first c.in-Interleave.second)
    c.pattern.ensures.table c.pattern.ensures.found c.in-Interleave.is in
    omega (arith, parts.0, c.requires.inside)

pub mark_interleave-requires-clause-second : goal.mark_interleave-requires-clause-second
mark_interleave-requires-clause-second c =
    let parts = parts_there c.args.table.now c.args.number.0 c.pattern.result.now (pattern.Interleave c.in-Interleave.first c.in-Interleave.second)
    c.pattern.ensures.table c.pattern.ensures.found c.in-Interleave.is in
    omega (arith, parts.1, c.requires.inside)

pub mark_if-requires : goal.mark_if-requires
mark_if-requires c =
    let below = parts_there c.args.table.now c.args.number.0 c.pattern.result.now (pattern.OneOrMore c.in-OneOrMore.body) c.pattern.ensures.table
    c.pattern.ensures.found c.in-OneOrMore.is in
    omega (arith, below, c.requires.inside, c.requires.long)

pub returns-in-Choice-clause-marks : goal.returns-in-Choice-clause-marks
returns-in-Choice-clause-marks c = λ t.
    let ns = c.args.table.now in
    let s = c.args.standing in
    let old = c.args.marks.now.items in
    let new = c.mark_all.new.marks.items in
    let Members : List PatternNumber → Type 0 = λ ms. AddsMarks old new (map (λ n. n.0) ms) in
    subst (λ (n : Node). AddsMarks old new (parts_where s (nullable_in t ns) n))
    (sym (node_is ns c.args.number.0 c.pattern.result.now (pattern.Choice c.in-Choice.members) c.pattern.ensures.found c.in-Choice.is))
    (subst Members c.as_slice.ensures.value c.mark_all.ensures)

pub returns-in-Group-clause-marks : goal.returns-in-Group-clause-marks
returns-in-Group-clause-marks c = λ t.
    let ns = c.args.table.now in
    let s = c.args.standing in
    subst (λ (n : Node). AddsMarks c.args.marks.now.items c.mark_group.new.marks.items (parts_where s (nullable_in t ns) n))
    (sym (node_is ns c.args.number.0 c.pattern.result.now (pattern.Group c.in-Group.first c.in-Group.second) c.pattern.ensures.found c.in-Group.is))
    (c.mark_group.ensures t)

pub returns-in-Interleave-clause-marks : goal.returns-in-Interleave-clause-marks
returns-in-Interleave-clause-marks c = λ t.
    let ns = c.args.table.now in
    let s = c.args.standing in
    subst (λ (n : Node). AddsMarks c.args.marks.now.items c.mark_interleave.new.marks.items (parts_where s (nullable_in t ns) n))
    (sym (node_is ns c.args.number.0 c.pattern.result.now (pattern.Interleave c.in-Interleave.first c.in-Interleave.second) c.pattern.ensures.found
    c.in-Interleave.is))
    (c.mark_interleave.ensures t)

pub returns-in-OneOrMore-clause-marks : goal.returns-in-OneOrMore-clause-marks
returns-in-OneOrMore-clause-marks c = λ t.
    let ns = c.args.table.now in
    let s = c.args.standing in
    subst (λ (n : Node). AddsMarks c.args.marks.now.items c.mark_if.new.marks.items (parts_where s (nullable_in t ns) n))
    (sym (node_is ns c.args.number.0 c.pattern.result.now (pattern.OneOrMore c.in-OneOrMore.body) c.pattern.ensures.found c.in-OneOrMore.is))
    c.mark_if.ensures

pub returns-in_default-clause-marks : goal.returns-in_default-clause-marks
returns-in_default-clause-marks c = λ t.
    let ns = c.args.table.now in
    let s = c.args.standing in
    let marks = c.args.marks.now.items in
    subst (λ ms. AddsMarks marks marks ms)
    (sym (no_parts_there s (nullable_in t ns) ns c.args.number.0 c.pattern.result.now c.pattern.ensures.found c.in_default.not-Choice
    c.in_default.not-Group c.in_default.not-Interleave c.in_default.not-OneOrMore))
    (no_marks marks)
