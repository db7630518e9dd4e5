use Rattle.std.proofs.Common.{rules, inl, inr}
use Rattle.std.specs.Str.{IsUtf8}
use Rattle.rnc_text.proofs.FilePlaces.{at_bad_byte, at_bad_character}
use Rattle.rnc_text.proofs.placing.place_at.Goals as goal

pub returns-clause-utf8 : goal.returns-clause-utf8
returns-clause-utf8 c = λ broken.
    let u : IsUtf8 c.valid_front-text.result.now = search rules in
    let is = at_bad_byte _ _ _ _ _ u (c.valid_front-text.ensures.front _) c.saturating_sub.ensures c.place_before.ensures broken in
    (is.front, is.spelling, is.is)

pub returns-clause-characters : goal.returns-clause-characters
returns-clause-characters c = λ broken.
    let u : IsUtf8 c.valid_front-text.result.now = search rules in
    let is = at_bad_character _ _ _ _ _ u c.valid_front-text.ensures.whole c.saturating_sub.ensures c.place_before.ensures broken in
    (is.front, is.is)

pub returns-clause-offset : goal.returns-clause-offset
returns-clause-offset c = λ broken.
    let u : IsUtf8 c.valid_front-text.result.now = search rules in
    elim broken [
      | inl b ↦ (at_bad_byte _ _ _ _ _ u (c.valid_front-text.ensures.front _) c.saturating_sub.ensures c.place_before.ensures b).offset_is
      | inr b ↦ (at_bad_character _ _ _ _ _ u c.valid_front-text.ensures.whole c.saturating_sub.ensures c.place_before.ensures b).offset_is
    ]
