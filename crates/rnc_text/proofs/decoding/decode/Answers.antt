use Rattle.std.proofs.Common.{rules, arith, sym, ◌∙◌, refl}
use Rattle.std.specs.Str.{chars, IsUtf8}
use Rattle.std.proofs.lemmas.Bool.{eqb-true}
use Rattle.rnc_model.specs.characters.Decoding.{Begins, here}
use Rattle.rnc_text.proofs.FrontCharacter.{front_begins, nothing_begins}
use Rattle.rnc_text.proofs.OneDecoding.{decodes_then, text_decoded, text_broken, some_chars, no_chars, front_shorter, not_empty}
use Rattle.rnc_text.proofs.decoding.decode.Goals as goal

pub rest-init : goal.rest-init
rest-init c =
    let u : IsUtf8 c.in_ok-rest.rest.now = search rules in
    record { text = u; within = c.in_ok-rest.ensures.within; decoded = c.in_ok-rest.ensures.decoded _ (rw c.new-decoded.ensures (here refl)) }

pub returns-in_default-clause-fault : goal.returns-in_default-clause-fault
returns-in_default-clause-fault c =
    let some = not_empty c.rest.rest.now (sym c.is_empty.ensures ∙ c.rest-test.true) in (
      refl,
      text_broken _ _ _ _ c.utf8.text c.rest.invariant.text c.rest.invariant.decoded (some_chars _ c.rest.invariant.text some)
          (nothing_begins _ c.in_default.ensures) (omega (arith, c.rest.invariant.within)),
    )

pub rest-smaller : goal.rest-smaller
rest-smaller c =
    let u : IsUtf8 c.in-Some.after.now = search rules in
    omega (
      arith,
      c.in_ok-rest-2.ensures.within,
      front_shorter c.rest.rest.now c.in-Some.after.now c.in-Some.character c.rest.invariant.text u (front_begins _ _ _ (sym c.in-Some.ensures)),
    )

pub rest-preserved : goal.rest-preserved
rest-preserved c =
    let u : IsUtf8 c.in-Some.after.now = search rules in
    let v : IsUtf8 c.in_ok-rest-2.rest.now = search rules in
    let b : Begins (chars c.rest.rest.now) c.in-Some.character (chars c.in-Some.after.now) = front_begins _ _ _ (sym c.in-Some.ensures) in
    record {
      text = v;
      within = omega (
        arith,
        c.rest.invariant.within,
        c.in_ok-rest-2.ensures.within,
        front_shorter c.rest.rest.now c.in-Some.after.now c.in-Some.character c.rest.invariant.text u b,
      );
      decoded = c.in_ok-rest-2.ensures.decoded _ (decodes_then c.rest.invariant.decoded _ _ _ b c.in_ok-push.ensures);
    }

pub returns-clause-found : goal.returns-clause-found
returns-clause-found c =
    text_decoded _ _ _ c.utf8.text c.rest.invariant.decoded (no_chars _ c.rest.invariant.text (eqb-true _ _ (sym c.is_empty.ensures ∙ c.rest-test.false)))
