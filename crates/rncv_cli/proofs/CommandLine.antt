-- What clap finds in the words, compared with the command lines.
use Rattle.std.proofs.Common.{◌≡◌, ◌∙◌, ◌<◌, ◌≤◌, Bool, true, false, List, [], ◌∷◌, length, map, Some, None, String, string_bytes}
use Rattle.std.proofs.Common.{ap, refl, sym, subst}
use Rattle.std.specs.Prelude.{if◌then◌else◌, option_and_then}
use Rattle.std.specs.List.{AllByRecursion}
use Rattle.std.specs.Str.{IsUtf8, bytes_eq}
use Rattle.std.proofs.lemmas.Slice.Eq.{bytes_eq-Decides}
use Rattle.std.proofs.lemmas.Str.{IsUtf8-string_bytes}
use Rattle.std.proofs.lemmas.Option.{same_Some}
use Rattle.clap.specs.Lexer.{usize_max}
use Rattle.clap.specs.Words.{fault_of, matches_of}
use Rattle.rncv_model.specs.declared.command.Command.{Command}
use Rattle.rncv_model.specs.declared.command.Command.TheVariants.{Valid, Check, Simple}
use Rattle.rncv_cli.specs.plain.CommandLine.{IsCommandLine, Text, WithoutDashes, name_of}
use Rattle.rncv_cli.specs.plain.CommandLineForm.{command_in, command_named, files_in, form}
use Rattle.rncv_cli.proofs.ClapWalk.{are_found, is_read}

pub all_utf8 : {Z : Type 0} (texts : List (String Z)) → AllByRecursion IsUtf8 (map string_bytes texts)
all_utf8 [] = tt
all_utf8 (text ∷ texts) = (IsUtf8-string_bytes text, all_utf8 texts)

-- the command found by a name is the one with that name
named_by : (name : Text) (command : Command) (valid check simple : Bool) → bytes_eq name (name_of Valid) ≡ valid → bytes_eq name (name_of Check) ≡ check
    → bytes_eq name (name_of Simple) ≡ simple
    → (if valid then Some Valid else (if check then Some Check else (if simple then Some Simple else None))) ≡ Some command → name ≡ name_of command
named_by name command true check simple v c s is =
    let same : Valid ≡ command = cc in
    (bytes_eq-Decides name (name_of Valid)).0 v ∙ ap name_of same
named_by name command false true simple v c s is =
    let same : Check ≡ command = cc in
    (bytes_eq-Decides name (name_of Check)).0 c ∙ ap name_of same
named_by name command false false true v c s is =
    let same : Simple ≡ command = cc in
    (bytes_eq-Decides name (name_of Simple)).0 s ∙ ap name_of same
named_by name command false false false v c s is = cc

is_name : (name : Text) (command : Command) → command_named name ≡ Some command → name ≡ name_of command
is_name name command is = named_by name command _ _ _ refl refl refl is

has_name : (command : Command) → command_named (name_of command) ≡ Some command
has_name Valid = refl
has_name Check = refl
has_name Simple = refl

-- what clap finds in words that it accepts is their command line
pub is_command_line : (words : List Text) → AllByRecursion IsUtf8 words → fault_of form words ≡ [] → (command : Command) (files : List Text)
    → command_in (matches_of form words) ≡ Some command → files_in (matches_of form words) ≡ Some files → IsCommandLine words command files
is_command_line words utf8 fits command files command_is files_is =
    let found = are_found words utf8 fits in
    let named = is_name found.command command (sym (ap (option_and_then command_named) found.finds.command_is) ∙ command_is) in
    let same = same_Some found.files files (sym found.finds.files_are ∙ files_is) in
    record {
      arguments = subst (λ (all : List Text). WithoutDashes words (name_of command ∷ all)) same
          (subst (λ (name : Text). WithoutDashes words (name ∷ found.files)) named found.parts);
      some = subst (λ (all : List Text). 0 < length all) same found.some;
    }

-- clap accepts a command line, and finds its command and its files
pub record IsAccepted (words : List Text) (command : Command) (files : List Text) : Type 0 where
  pub fits : fault_of form words ≡ []
  pub command_is : command_in (matches_of form words) ≡ Some command
  pub files_are : files_in (matches_of form words) ≡ Some files

pub is_accepted : (words : List Text) (command : Command) (files : List Text) → length words ≤ usize_max → IsCommandLine words command files
    → IsAccepted words command files
is_accepted words command files few line =
    let read = is_read words (name_of command) files line.arguments line.some few in
    record {
      fits = read.fits;
      command_is = ap (option_and_then command_named) read.finds.command_is ∙ has_name command;
      files_are = read.finds.files_are;
    }
