use Rattle.std.proofs.Common.{rules, ◌≡◌, ◌≤◌, ◌∙◌, sym, length, map, string_bytes, Some, None, Err, Result, []}
use Rattle.std.proofs.lemmas.List.{length-map}
use Rattle.std.proofs.lemmas.Option.{none-some}
use Rattle.clap.specs.Lexer.{usize_max}
use Rattle.clap.specs.Words.{fault_of, matches_of}
use Rattle.rncv_cli.specs.plain.CommandLineForm.{command_in, files_in, form}
use Rattle.rncv_cli.specs.declared.fault.Fault.{Fault}
use Rattle.rncv_cli.specs.declared.fault.Fault.TheVariants.{Memory, Usage}
use Rattle.rncv_cli.proofs.CommandLine.{all_utf8, is_accepted, is_command_line}
use Rattle.rncv_cli.proofs.command_line.words.Goals as goal

no_usage : {T : Type 0} (result : Result T Fault) → result ≡ Err Memory → result ≡ Err Usage → ⊥
no_usage result memory usage = cc

pub returns-in_err-matches-clause-usage : goal.returns-in_err-matches-clause-usage
returns-in_err-matches-clause-usage c = λ usage command files line.
    let words = map string_bytes c.args.words.now in
    let few : length words ≤ usize_max = search (rules, length-map) in
    let fits = (is_accepted words command files few line).fits in
    let memory : c.from_residual.result ≡ Err Memory = search rules in
    no_usage c.from_residual.result memory usage

pub returns-in_default-clause-usage : goal.returns-in_default-clause-usage
returns-in_default-clause-usage c = λ usage command files line.
    let words = map string_bytes c.args.words.now in
    let few : length words ≤ usize_max = search (rules, length-map) in
    let none : command_in (matches_of form words) ≡ None = search rules in
    none-some command (sym none ∙ (is_accepted words command files few line).command_is)

pub returns-in_default-names_of-clause-usage : goal.returns-in_default-names_of-clause-usage
returns-in_default-names_of-clause-usage c = λ usage command files line.
    let words = map string_bytes c.args.words.now in
    let few : length words ≤ usize_max = search (rules, length-map) in
    let none : files_in (matches_of form words) ≡ None = search rules in
    none-some files (sym none ∙ (is_accepted words command files few line).files_are)

pub returns-clause-ok : goal.returns-clause-ok
returns-clause-ok c =
    let words = map string_bytes c.args.words.now in
    let fits : fault_of form words ≡ [] = search rules in
    let command_is : command_in (matches_of form words) ≡ Some c.in-Some.command = search rules in
    let files_are : files_in (matches_of form words) ≡ Some (map string_bytes c.in_ok-files.files.items) = search rules in
    is_command_line words (all_utf8 c.args.words.now) fits c.in-Some.command _ command_is files_are
