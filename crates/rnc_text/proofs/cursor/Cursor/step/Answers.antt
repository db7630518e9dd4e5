use Rattle.std.proofs.Common.{rules, refl, sym, ap, ◌∙◌, ◌∷◌}
use Rattle.std.specs.Str.{IsUtf8, chars}
use Rattle.rnc_text.specs.views.Held.{marked}
use Rattle.rnc_model.specs.declared.character.Character.{Character}
use Rattle.rnc_model.specs.declared.character.Character.TheVariants.{Ordinary}
use Rattle.rnc_text.proofs.Cursors.{nothing_left, steps_marked, steps_plain, bytes_first}
use Rattle.rnc_text.proofs.Held.{number_unmarked}
use Rattle.rnc_text.proofs.cursor.Cursor.step.Goals as goal

pub returns-in_err-first : goal.returns-in_err-first
returns-in_err-first c = rw c.from_residual.ensures (nothing_left _ _ _ c.in_err-first.ensures.chars)

pub returns-in-Some : goal.returns-in-Some
returns-in-Some c =
    let u : IsUtf8 c.args.self.rest.now = search rules in
    record {
      rest = steps_marked _ _ _ _ _ _ u c.in_ok-first.ensures.chars c.in-Some.ensures;
      bytes = bytes_first _ c.in_ok-first.rest.now _ (Ordinary c.in_ok-first.first) refl c.in_ok-first.ensures.bytes;
      whole = refl;
    }

pub returns-in-None : goal.returns-in-None
returns-in-None c =
    let u : IsUtf8 c.args.self.rest.now = search rules in
    let e = c.unmarked.ensures in
    record {
      rest = steps_plain _ _ _ _ _ u c.in_ok-first.ensures.chars c.in-None.ensures
          ∙ ap (λ (d : Character). d ∷ marked c.args.self.length c.args.self.escaped.now (chars c.in_ok-first.rest.now)) (sym e);
      bytes = bytes_first _ c.in_ok-first.rest.now c.in_ok-first.first c.unmarked.result
          (rw e (number_unmarked c.in_ok-first.first)) c.in_ok-first.ensures.bytes;
      whole = refl;
    }
