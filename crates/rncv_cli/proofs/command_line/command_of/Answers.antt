use Rattle.std.proofs.Common.{rules, codes}
use Rattle.clap.specs.Words.{found_of}
use Rattle.rncv_cli.proofs.ClapMatches.{first_is_value}
use Rattle.rncv_cli.proofs.command_line.command_of.Goals as goal

pub returns-in_err-get_str : goal.returns-in_err-get_str
returns-in_err-get_str c =
    let first = first_is_value (codes "command") (found_of c.args.matches.now) in
    rw (first, ← c.get_str.ensures) (search rules)

pub returns-in-valid : goal.returns-in-valid
returns-in-valid c =
    let first = first_is_value (codes "command") (found_of c.args.matches.now) in
    rw (first, ← c.get_str.ensures) (search rules)

pub returns-in-check : goal.returns-in-check
returns-in-check c =
    let first = first_is_value (codes "command") (found_of c.args.matches.now) in
    rw (first, ← c.get_str.ensures) (search rules)

pub returns-in-simple : goal.returns-in-simple
returns-in-simple c =
    let first = first_is_value (codes "command") (found_of c.args.matches.now) in
    rw (first, ← c.get_str.ensures) (search rules)

pub returns-in_default : goal.returns-in_default
returns-in_default c =
    let first = first_is_value (codes "command") (found_of c.args.matches.now) in
    rw (first, ← c.get_str.ensures) (search rules)
