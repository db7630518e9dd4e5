-- The form by which clap reads a command line, and what clap finds by it.
use Rattle.std.specs.Prelude.{List, Option, Some, None, codes, true, option_and_then, if◌then◌else◌}
use Rattle.std.specs.Str.{bytes_eq}
use Rattle.clap.specs.Lexer.{usize_max}
use Rattle.clap.specs.Words.{App, Row, Rule, Text, all_of, first_of, new_app, new_rule, with_rule}
use Rattle.clap.specs.Simple.{on_top}
use Rattle.clap.specs.declared.builder.action.ArgAction.TheVariants.{Set}
use Rattle.rncv_model.specs.declared.command.Command.{Command}
use Rattle.rncv_model.specs.declared.command.Command.TheVariants.{Valid, Check, Simple}
use Rattle.rncv_cli.specs.plain.CommandLine.{name_of}

-- the first argument
abbrev pub command_rule : Rule
command_rule = record (new_rule (codes "command")) { required = true; action = Some Set }

-- the arguments after it, one or more
abbrev pub files_rule : Rule
files_rule = record (new_rule (codes "files")) { required = true; range = Some (record { start_inclusive = 1; end_inclusive = usize_max }) }

-- the program without its arguments: it has no name, and no option for help
abbrev pub bare_form : App
bare_form = on_top (λ s. record s { no_binary_name = true; disable_help_flag = true }) (new_app (codes "rncv"))

-- the form of a command line
abbrev pub form : App
form = with_rule (with_rule bare_form command_rule) files_rule

-- the command of this name
abbrev pub command_named : Text → Option Command
command_named name =
    if bytes_eq name (name_of Valid) then Some Valid else (
    if bytes_eq name (name_of Check) then Some Check else (
    if bytes_eq name (name_of Simple) then Some Simple else None))

-- the command that was found
abbrev pub command_in : List Row → Option Command
command_in rows = option_and_then command_named (first_of (codes "command") rows)

-- the names of the files that were found
abbrev pub files_in : List Row → Option (List Text)
files_in rows = all_of (codes "files") rows
