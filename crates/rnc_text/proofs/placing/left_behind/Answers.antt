use Rattle.std.proofs.Common.{rules, ap, sym, ◌∙◌, ◌-◌}
use Rattle.std.specs.Str.{IsUtf8}
use Rattle.rnc_text.proofs.FilePlaces.{leaves_next, left_is, no_left}
use Rattle.rnc_text.proofs.FrontCharacter.{front_begins}
use Rattle.rnc_text.proofs.OneDecoding.{front_shorter}
use Rattle.rnc_text.proofs.placing.left_behind.Goals as goal

pub rest-smaller : goal.rest-smaller
rest-smaller c =
    let u : IsUtf8 c.in-Some.after.now = search rules in
    front_shorter c.rest.rest.now c.in-Some.after.now c.in-Some.character c.rest.invariant.text u (front_begins _ _ _ (sym c.in-Some.ensures))

pub rest-preserved : goal.rest-preserved
rest-preserved c = record {
  text = search rules;
  leaves = leaves_next _ _ _ _ _ _ _ c.rest.invariant.leaves c.in-Some.ensures c.rest-test.true (c.saturating_sub-more.ensures ∙ ap (λ n. c.rest.more - n) c.decoded_length.ensures);
}

pub returns-after-rest : goal.returns-after-rest
returns-after-rest c = λ front after d size. left_is _ _ _ _ front after c.rest.invariant.text c.rest.invariant.leaves c.rest-test.false d size

pub returns-in_default : goal.returns-in_default
returns-in_default c = λ front after d size.
    absurd (no_left _ _ _ _ front after c.rest.invariant.leaves c.in_default.ensures c.rest-test.true d size)
