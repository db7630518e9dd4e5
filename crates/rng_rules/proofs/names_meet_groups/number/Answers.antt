use Rattle.rng_rules.proofs.NamesMeetGroups.{numbered}
use Rattle.rng_rules.proofs.names_meet_groups.number.Goals as goal

pub returns-clause-apart : goal.returns-clause-apart
returns-clause-apart c =
    let s = c.in_ok-number.ensures.stored in
    (numbered c.args.name s.0 c.args.known.now.keys c.insert_full.new.self.keys c.in_ok-number.number c.in_ok-number.ensures.keys s.1 s.2).apart

pub returns-clause-there : goal.returns-clause-there
returns-clause-there c =
    let s = c.in_ok-number.ensures.stored in
    (numbered c.args.name s.0 c.args.known.now.keys c.insert_full.new.self.keys c.in_ok-number.number c.in_ok-number.ensures.keys s.1 s.2).there

pub returns-clause-kept : goal.returns-clause-kept
returns-clause-kept c =
    let s = c.in_ok-number.ensures.stored in
    (numbered c.args.name s.0 c.args.known.now.keys c.insert_full.new.self.keys c.in_ok-number.number c.in_ok-number.ensures.keys s.1 s.2).kept

pub returns-clause-old : goal.returns-clause-old
returns-clause-old c =
    let s = c.in_ok-number.ensures.stored in
    (numbered c.args.name s.0 c.args.known.now.keys c.insert_full.new.self.keys c.in_ok-number.number c.in_ok-number.ensures.keys s.1 s.2).old

pub returns-clause-one : goal.returns-clause-one
returns-clause-one c =
    let s = c.in_ok-number.ensures.stored in
    (numbered c.args.name s.0 c.args.known.now.keys c.insert_full.new.self.keys c.in_ok-number.number c.in_ok-number.ensures.keys s.1 s.2).one
