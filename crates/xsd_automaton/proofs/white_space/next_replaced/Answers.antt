use Rattle.std.proofs.Common.{◌≡◌, ◌∙◌, ◌<◌, ◌==◌, true, false, length, sym, ap, subst, rules}
use Rattle.rng_model.specs.xsd.Names.{replaced}
use Rattle.std.specs.Str.{IsUtf8}
use Rattle.std.proofs.lemmas.Str.{IsUtf8-drop}
use Rattle.xsd_automaton.proofs.TreatedParts.{replaced_run, shorter, no_run, replaced_space, blank_boundary, is_utf8_space}
use Rattle.xsd_automaton.proofs.white_space.next_replaced.Goals as goal

pub returns-then-not-is_empty : goal.returns-then-not-is_empty
returns-then-not-is_empty c =
    let some : (length c.split_run.result.0.now == 0) ≡ false = search rules in (
      ap replaced c.split_run.ensures.parts ∙ replaced_run c.split_run.result.0.now c.split_run.result.1.now c.split_run.ensures.run,
      shorter c.args.rest.now c.split_run.result.0.now c.split_run.result.1.now c.split_run.ensures.parts some,
      c.split_run.ensures.texts.0,
      c.split_run.ensures.texts.1,
    )

pub split_at-requires : goal.split_at-requires
split_at-requires c =
    let some : (length c.split_run.result.1.now == 0) ≡ false = search rules in
    blank_boundary c.split_run.result.1.now c.split_run.ensures.ends some c.split_run.ensures.texts.1

pub returns : goal.returns
returns c =
    let none : (length c.split_run.result.0.now == 0) ≡ true = search rules in
    let same = no_run c.args.rest.now c.split_run.result.0.now c.split_run.result.1.now c.split_run.ensures.parts none in
    let some : (length c.split_run.result.1.now == 0) ≡ false = search rules in
    let space = replaced_space c.split_run.result.1.now c.split_at.result.1.now c.split_run.ensures.ends some c.split_at.ensures.back in (
      ap replaced same ∙ space.0,
      subst (λ t. length c.split_at.result.1.now < length t) (sym same) space.1,
      is_utf8_space,
      subst IsUtf8 (sym c.split_at.ensures.back)
          (IsUtf8-drop c.split_run.result.1.now 1 c.split_run.ensures.texts.1
          (blank_boundary c.split_run.result.1.now c.split_run.ensures.ends some c.split_run.ensures.texts.1)),
    )
