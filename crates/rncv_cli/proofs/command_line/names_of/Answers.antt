use Rattle.std.proofs.Common.{◌∙◌, sym, codes}
use Rattle.clap.specs.Words.{found_of}
use Rattle.rncv_cli.proofs.ClapMatches.{all_is_raw}
use Rattle.rncv_cli.proofs.command_line.names_of.Goals as goal

pub returns : goal.returns
returns c = c.get_strs.ensures ∙ sym (all_is_raw (codes "files") (found_of c.args.matches.now))
