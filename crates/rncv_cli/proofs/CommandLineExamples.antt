-- Examples of words that are a command line, and of words that are none.
use Rattle.std.proofs.Common.{◌≡◌, ◌∙◌, ◌<◌, ◌≤◌, false, Bool, List, [], ◌∷◌, length, Some, None, codes, refl, sym, ap, arith, true≢false}
use Rattle.std.specs.Prelude.{◌==◌}
use Rattle.clap.specs.Lexer.{usize_max}
use Rattle.clap.specs.Kinds.{Kinds}
use Rattle.clap.specs.Words.{fault_of, matches_of}
use Rattle.clap.proofs.OnLiterals.{clap_on_literals}
use Rattle.rncv_model.specs.declared.command.Command.{Command}
use Rattle.rncv_model.specs.declared.command.Command.TheVariants.{Valid, Check, Simple}
use Rattle.rncv_cli.specs.plain.CommandLine.{IsCommandLine, IsOption, Text, WithoutDashes, none, dashes, plain, name_of}
use Rattle.rncv_cli.specs.plain.CommandLineForm.{command_in, form}
use Rattle.rncv_cli.proofs.CommandLine.{is_accepted}

-- ---- command lines

abbrev may_be_option : Text → Bool
may_be_option [] = false
may_be_option (b ∷ []) = false
may_be_option (b ∷ next ∷ rest) = b == 45

no_option : (word : Text) → may_be_option word ≡ false → IsOption word → ⊥
no_option word e option = true≢false (sym (ap may_be_option option.2) ∙ e)

name : (word : Text) {rest arguments : List Text} → may_be_option word ≡ false → WithoutDashes rest arguments → WithoutDashes (word ∷ rest) (word ∷ arguments)
name word e parts = plain (no_option word e) parts

line : {words : List Text} (command : Command) (first : Text) (more : List Text) → WithoutDashes words (name_of command ∷ first ∷ more)
    → IsCommandLine words command (first ∷ more)
line command first more parts = record { arguments = parts; some = omega arith }

valid_a : IsCommandLine (codes "valid" ∷ codes "a" ∷ []) Valid (codes "a" ∷ [])
valid_a = line Valid _ _ (name _ refl (name _ refl none))

check_a_b_a : IsCommandLine (codes "check" ∷ codes "a" ∷ codes "b" ∷ codes "a" ∷ []) Check (codes "a" ∷ codes "b" ∷ codes "a" ∷ [])
check_a_b_a = line Check _ _ (name _ refl (name _ refl (name _ refl (name _ refl none))))

simple_a : IsCommandLine (codes "simple" ∷ codes "a" ∷ []) Simple (codes "a" ∷ [])
simple_a = line Simple _ _ (name _ refl (name _ refl none))

dashes_first : IsCommandLine (codes "--" ∷ codes "valid" ∷ codes "a" ∷ []) Valid (codes "a" ∷ [])
dashes_first = line Valid _ _ (dashes refl)

second_dashes_stay : IsCommandLine (codes "valid" ∷ codes "a" ∷ codes "--" ∷ codes "--" ∷ codes "-x" ∷ []) Valid (codes "a" ∷ codes "--" ∷ codes "-x" ∷ [])
second_dashes_stay = line Valid _ _ (name _ refl (name _ refl (dashes refl)))

hyphen_is_name : IsCommandLine (codes "valid" ∷ codes "-" ∷ []) Valid (codes "-" ∷ [])
hyphen_is_name = line Valid _ _ (name _ refl (name _ refl none))

empty_is_name : IsCommandLine (codes "valid" ∷ [] ∷ []) Valid ([] ∷ [])
empty_is_name = line Valid _ _ (name _ refl (name _ refl none))

-- ---- words that are no command line

abbrev IsNone : List Text → Type 0
IsNone words = (command : Command) (files : List Text) → IsCommandLine words command files → ⊥

no_kinds : (kinds : Kinds) → (0 < length kinds) → kinds ≡ [] → ⊥
no_kinds [] some e = omega arith
no_kinds (k ∷ ks) some e = cc

refused : (words : List Text) → length words ≤ usize_max → 0 < length (fault_of form words) → IsNone words
refused words few some command files is = no_kinds (fault_of form words) some (is_accepted words command files few is).fits

no_command : (command : Command) → None ≡ Some command → ⊥
no_command command e = cc

unnamed : (words : List Text) → length words ≤ usize_max → command_in (matches_of form words) ≡ None → IsNone words
unnamed words few e command files is = no_command command (sym e ∙ (is_accepted words command files few is).command_is)

no_words : IsNone []
unfolding clap_on_literals
no_words = refused _ (omega arith) (omega arith)

no_file : IsNone (codes "valid" ∷ codes "--" ∷ [])
unfolding clap_on_literals
no_file = refused _ (omega arith) (omega arith)

option_first : IsNone (codes "--help" ∷ codes "valid" ∷ codes "a" ∷ [])
unfolding clap_on_literals
option_first = refused _ (omega arith) (omega arith)

option_after_file : IsNone (codes "valid" ∷ codes "a" ∷ codes "-1" ∷ [])
unfolding clap_on_literals
option_after_file = refused _ (omega arith) (omega arith)

help_is_none : IsNone (codes "help" ∷ codes "a" ∷ [])
unfolding clap_on_literals
help_is_none = unnamed _ (omega arith) refl

longer_is_none : IsNone (codes "checks" ∷ codes "a" ∷ [])
unfolding clap_on_literals
longer_is_none = unnamed _ (omega arith) refl
