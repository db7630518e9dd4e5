-- The last line of a tag is not too long.
use Rattle.std.proofs.Common.{◌≡◌, List, [], ◌∷◌, ◌++◌, length, Option, Some, None, ◌∙◌, refl, sym, ap, subst}
use Rattle.std.specs.Prelude.{◌≤◌}
use Rattle.rng_model.specs.documents.Lines.{Line, line_limit}
use Rattle.rng_model.specs.documents.PyxLines.{QName, Said, IsGoodLine, AreGoodLines, no_lines, line_and}
use Rattle.rng_model.specs.documents.PyxNamespaces.{WrittenAttribute, NamespaceScope}
use Rattle.rng_model.specs.documents.PyxClauses.{EndsWithTag}

last_of : List Line → Option Line
last_of [] = None
last_of (l ∷ []) = Some l
last_of (l ∷ m ∷ ls) = last_of (m ∷ ls)

same_last : (front : List Line) (l : Line) (ls : List Line) → last_of (front ++ l ∷ ls) ≡ last_of (l ∷ ls)
unfolding last_of
same_last [] l ls = refl
same_last (a ∷ []) l ls = refl
same_last (a ∷ b ∷ front) l ls = same_last (b ∷ front) l ls

IsWithin : Option Line → Type 0
IsWithin None = Unit {0}
IsWithin (Some l) = length l.bytes ≤ line_limit

last_is_within : {l : Line} {ls : List Line} {first : Said} {said : List Said} → IsGoodLine l first → AreGoodLines ls said → IsWithin (last_of (l ∷ ls))
unfolding last_of IsWithin
last_is_within good_line no_lines = good_line.within
last_is_within good_line (line_and next more) = last_is_within next more

-- so a line that ends a tag is not too long, if the lines of the tag have a meaning
pub tag_is_within : (before : List Line) (l : Line) {outer : NamespaceScope} {name : QName} {written : List WrittenAttribute} →
    EndsWithTag (before ++ l ∷ []) outer name written → length l.bytes ≤ line_limit
unfolding last_of IsWithin
tag_is_within before l tag =
    let same : last_of (before ++ l ∷ []) ≡ last_of (tag.ends.front ++ tag.ends.tag ∷ tag.ends.others) = ap last_of tag.ends.parts in
    let last : Some l ≡ last_of (tag.ends.tag ∷ tag.ends.others) = sym (same_last before l []) ∙ same ∙ same_last tag.ends.front tag.ends.tag tag.ends.others in
    subst IsWithin (sym last) (last_is_within tag.says.first tag.says.attributes)
