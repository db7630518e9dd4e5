use Rattle.xsd_positions.specs.views.Positions.{positions_of}
use Rattle.xsd_automaton.specs.views.Sets.{sets_of}
use Rattle.xsd_automaton.proofs.MadeRows.{made_row}
use Rattle.xsd_automaton.proofs.found_sets.FoundSets.row.Goals as goal

pub returns-clause-row : goal.returns-clause-row
returns-clause-row c =
    made_row (positions_of c.args.positions.now) (sets_of c.args.self.now) (sets_of c.ascii_targets.new.self) (sets_of c.past_target.new.self) c.args.set
    c.in_ok-past.past c.in_ok-ascii.ascii c.new.result.targets c.in_ok-ascii.ensures.longer c.in_ok-past.ensures.longer c.requires.set
    c.in_ok-ascii.ensures.long c.new.ensures.long c.in_ok-ascii.ensures.targets c.in_ok-past.ensures.target c.new.ensures.front c.new.ensures.back
