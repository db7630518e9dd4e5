use Rattle.std.proofs.Common.{rules, sym}
use Rattle.std.specs.Str.{chars}
use Rattle.std.proofs.lemmas.Result.{err_from_is_err_and}
use Rattle.xsd_regex.specs.views.Steps.{kept_of}
use Rattle.xsd_regex.specs.views.Symbols.{symbol_of}
use Rattle.xsd_regex.proofs.Spelled.{symbol_shortens}
use Rattle.xsd_regex.proofs.Progress.{progress_start, progress_next}
use Rattle.xsd_regex.proofs.ReadRows.{refused, stuck, finished}
use Rattle.xsd_regex.proofs.expression.read_rows.Goals as goal

pub loop-rest-init : goal.loop-rest-init
loop-rest-init c =
    record { utf8 = c.utf8.text; progress = progress_start (chars c.args.text.now) (kept_of c.in_ok-reader.reader) c.in_ok-reader.ensures }

pub is_empty-requires-text-self : goal.is_empty-requires-text-self
is_empty-requires-text-self c = λ κ. c.loop-rest.invariant.utf8

pub returns-in_err-step-in-Some : goal.returns-in_err-step-in-Some
returns-in_err-step-in-Some c =
    let p = err_from_is_err_and c.from_residual-in_err-step-in-Some.result c.from_residual-in_err-step-in-Some.ensures.1 in
    rw (p.1, p.2)
    (refused (chars c.args.text.now) (chars c.loop-rest.rest.now) (chars c.in-Some.after.now) (symbol_of c.in-Some.symbol) (kept_of c.loop-rest.reader)
    c.in_err-step-in-Some.field-0.0 c.in-Some.ensures c.in_err-step-in-Some.ensures c.loop-rest.invariant.progress)

pub loop-rest-smaller : goal.loop-rest-smaller
loop-rest-smaller c = symbol_shortens (chars c.loop-rest.rest.now) (symbol_of c.in-Some.symbol) (chars c.in-Some.after.now) (sym c.in-Some.ensures)

pub loop-rest-preserved : goal.loop-rest-preserved
loop-rest-preserved c =
    record {
      utf8 = search rules;
      progress =
          progress_next (chars c.args.text.now) (chars c.loop-rest.rest.now) (chars c.in-Some.after.now) (symbol_of c.in-Some.symbol)
          (kept_of c.loop-rest.reader) (kept_of c.step.new.self) c.in-Some.ensures c.in_ok-step-in-Some.ensures c.loop-rest.invariant.progress;
    }

pub returns-in-None : goal.returns-in-None
returns-in-None c =
    stuck (chars c.args.text.now) c.loop-rest.rest.now (kept_of c.loop-rest.reader) c.loop-rest.invariant.utf8 (sym c.loop-rest-test.ensures)
    c.in-None.ensures c.loop-rest.invariant.progress

pub returns : goal.returns
returns c =
    finished (chars c.args.text.now) c.loop-rest.rest.now (kept_of c.loop-rest.reader) c.finish.result (sym c.loop-rest-test.ensures) c.finish.ensures
    c.loop-rest.invariant.progress
