use Rattle.std.proofs.Common.{rules, sym, subst, ◌≡◌, List, ℕ}
use Rattle.std.specs.Str.{chars, IsUtf8}
use Rattle.rnc_model.specs.characters.Decoding.{Decodes}
use Rattle.rnc_text.proofs.FilePlaces.{behind, spelled_by}
use Rattle.rnc_text.proofs.OneDecoding.{spelling_utf8}
use Rattle.rnc_text.proofs.placing.place_of_decoded.Goals as goal

pub returns : goal.returns
returns c = λ front numbers after spelling decoded size.
    let u : IsUtf8 c.valid_front-text.result.now = search rules in
    let whole = c.valid_front-text.ensures.whole in
    let e : chars c.valid_front-text.result.now ≡ numbers = spelled_by _ _ _ u spelling (whole (spelling_utf8 _ _ spelling)) in
    let d : Decodes (chars c.valid_front-text.result.now) front after = subst (λ (x : List ℕ). Decodes x front after) (sym e) decoded in
    behind _ _ numbers after front _ _ u whole c.place_before.ensures spelling decoded (sym (c.left_behind.ensures front after d size))
