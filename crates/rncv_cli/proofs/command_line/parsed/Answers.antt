use Rattle.std.proofs.Common.{rules, ◌≡◌, ◌∙◌, ap, ap₂, subst, refl, true, map, string_bytes, Option, Some, None}
use Rattle.std.specs.Option.{IsSomeAnd}
use Rattle.std.proofs.lemmas.Result.{IfOk-weaker}
use Rattle.clap.specs.Lexer.{usize_max}
use Rattle.clap.specs.Words.{App, FailsBy, app_of, fault_of, is_simple, is_simple_and_free, matches_of, rule_of, with_rule}
use Rattle.clap.proofs.OnLiterals.{clap_on_literals}
use Rattle.rncv_cli.specs.plain.CommandLineForm.{bare_form, command_rule, files_rule, form}
use Rattle.rncv_cli.proofs.command_line.parsed.Goals as goal

is_simple_form : is_simple form ≡ true
unfolding clap_on_literals
is_simple_form = refl

is_free_form : is_simple_and_free form ≡ true
unfolding clap_on_literals
is_free_form = refl

some_is : {X : Type 0} (found : Option X) (x : X) → IsSomeAnd found (λ y. y ≡ x) → found ≡ Some x
some_is None x h = absurd h
some_is (Some y) x h = ap Some h

-- the command as it is built is the form
is_form : (c : goal.After-try_get_matches_from) → app_of c.in_ok-arg-2.field-0 ≡ form
is_form c =
    let command_is : rule_of c.action-command.result ≡ command_rule = search rules in
    let range_is : c.num_args-files.result.num_vals ≡ Some (record { start_inclusive = 1; end_inclusive = usize_max }) =
    some_is _ _ c.num_args-files.ensures.1 in
    let files_is : rule_of c.num_args-files.result ≡ files_rule = search rules in
    let bare_is : app_of c.disable_help_flag.result ≡ bare_form = search rules in
    c.in_ok-arg-2.ensures.shape (search rules) ∙ ap₂ with_rule (c.in_ok-arg.ensures.shape (search rules) ∙ ap₂ with_rule bare_is command_is) files_is

pub returns-clause-fails : goal.returns-clause-fails
returns-clause-fails c =
    let faults = c.try_get_matches_from.ensures.kinds (ap is_simple_and_free (is_form c) ∙ is_free_form) in
    subst (λ (a : App). FailsBy (fault_of a (map string_bytes c.args.words.now)) c.try_get_matches_from.result) (is_form c) faults

pub returns-clause-matches : goal.returns-clause-matches
returns-clause-matches c =
    let words = map string_bytes c.args.words.now in
    IfOk-weaker c.try_get_matches_from.result _ _ (λ m h. (h (ap is_simple (is_form c) ∙ is_simple_form)).0 ∙ ap (λ (a : App). matches_of a words)
    (is_form c)) c.try_get_matches_from.ensures.matches
