use Rattle.std.proofs.Common.{◌≡◌, [], ◌∷◌, refl, sym, subst, inl, arith}
use Rattle.xsd_regex.specs.plain.StateTable.{Has}
use Rattle.xsd_regex.proofs.OneOf.{in_first, in_second, under_in}
use Rattle.xsd_automaton.specs.plain.Closures.{part_edges, edges_of}
use Rattle.xsd_positions.specs.views.Positions.{part_of, position_of, positions_of}
use Rattle.xsd_automaton.specs.views.Classes.{classes_of}
use Rattle.xsd_automaton.proofs.FoundPositions.{position_found, position_missing}
use Rattle.xsd_automaton.proofs.Added.{next_added, parts_added, none_added}
use Rattle.xsd_automaton.proofs.closing.add_edges.Goals as goal

pub add_parts-requires : goal.add_parts-requires
add_parts-requires c j h =
    let at = position_found c.args.positions.now c.args.number c.in-Some.position.now (sym c.in-Some.ensures) in
    let most = c.requires.within.edge c.args.number j
    (subst (λ p. Has (edges_of (positions_of c.args.positions.now) c.args.number p) j) (sym at)
    (in_first (λ i. j ≡ i)
    (part_edges (positions_of c.args.positions.now) c.args.number (part_of (classes_of c.args.positions.now) c.in-Some.position.now.part)) _ h)) in
    let room = c.requires.room in omega (arith, most, room)

pub add-requires : goal.add-requires
add-requires c =
    let at = position_found c.args.positions.now c.args.number c.in-Some.position.now (sym c.in-Some.ensures) in
    let next = c.in-Some.position.now.next in
    let most = c.requires.within.edge c.args.number next
    (subst (λ p. Has (edges_of (positions_of c.args.positions.now) c.args.number p) next) (sym at)
    (in_second (λ i. next ≡ i)
    (part_edges (positions_of c.args.positions.now) c.args.number (part_of (classes_of c.args.positions.now) c.in-Some.position.now.part)) _
    (under_in (λ i. next ≡ i) c.in-Some.position.now.is_nullable (next ∷ []) c.if-position.true (inl refl)))) in
    let room = c.requires.room in omega (arith, most, room)

pub returns-in_default : goal.returns-in_default
returns-in_default c =
    none_added (positions_of c.args.positions.now) c.args.number c.args.reached.now
    (position_missing c.args.positions.now c.args.number c.in_default.ensures)

pub returns-then-position : goal.returns-then-position
returns-then-position c =
    next_added (positions_of c.args.positions.now) c.args.number (position_of (classes_of c.args.positions.now) c.in-Some.position.now)
    (position_found c.args.positions.now c.args.number c.in-Some.position.now (sym c.in-Some.ensures))
    c.args.reached.now c.add_parts.new.reached c.add_parts.ensures c.add.new.self c.if-position.true c.add.ensures

pub returns-else-position : goal.returns-else-position
returns-else-position c =
    parts_added (positions_of c.args.positions.now) c.args.number (position_of (classes_of c.args.positions.now) c.in-Some.position.now)
    (position_found c.args.positions.now c.args.number c.in-Some.position.now (sym c.in-Some.ensures))
    c.args.reached.now c.add_parts.new.reached c.add_parts.ensures c.if-position.false
