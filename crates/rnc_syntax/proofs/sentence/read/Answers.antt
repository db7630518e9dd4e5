use Rattle.std.proofs.Common.{◌≡◌, ◌-◌, length, ap, ◌∙◌}
use Rattle.rnc_model.specs.grammar.Sentence.{nesting_limit}
use Rattle.rnc_model.specs.tokens.CutTokens.{tokens_of}
use Rattle.rnc_model.specs.tokens.Cut.{lexemes}
use Rattle.rnc_syntax.specs.plain.Productions.{file_with, inside_at}
use Rattle.rnc_syntax.specs.views.Fault.{told}
use Rattle.rnc_syntax.proofs.Lexemes.{all_lexemes, count_of_lexemes}
use Rattle.rnc_syntax.proofs.sentence.read.Goals as goal

pub returns-in-Ok : goal.returns-in-Ok
returns-in-Ok c = ap (told _) (ap (file_with (inside_at nesting_limit)) (all_lexemes c.args.tokens.now) ∙ c.in-Ok.ensures)

pub returns-in-Err-Stop-TooDeep : goal.returns-in-Err-Stop-TooDeep
returns-in-Err-Stop-TooDeep c =
    let e = rw (c.in-Err-Stop-TooDeep.field-0-is, c.in-Err-Stop-TooDeep.field-0-0-is) at c.in-Err-Stop-TooDeep.ensures in
    ap (told _) (ap (file_with (inside_at nesting_limit)) (all_lexemes c.args.tokens.now) ∙ e)

pub returns-in-Err-Stop-Unexpected : goal.returns-in-Err-Stop-Unexpected
returns-in-Err-Stop-Unexpected c =
    let n : c.saturating_sub.result ≡ length (lexemes (tokens_of c.args.tokens.now)) - c.in-Err-Stop-Unexpected.left =
    rw (count_of_lexemes c.args.tokens.now) c.saturating_sub.ensures in
    let e = rw (c.in-Err-Stop-Unexpected.field-0-is, c.in-Err-Stop-Unexpected.field-0-0-is) at c.in-Err-Stop-Unexpected.ensures in
    rw n (ap (told _) (ap (file_with (inside_at nesting_limit)) (all_lexemes c.args.tokens.now) ∙ e))
