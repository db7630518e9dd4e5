-- Lines that break nothing by themselves are read as their content.
use Rattle.std.proofs.Common.{◌≡◌, ℕ, ◌+◌, Bool, true, false, cond, List, [], ◌∷◌, ◌++◌, length, Ok, refl, sym, ap, ◌∙◌}
use Rattle.std.specs.Prelude.{is_some}
use Rattle.rng_model.specs.documents.Lines.{Line}
use Rattle.rng_model.specs.documents.PyxLines as lines
use Rattle.rng_model.specs.documents.PyxLines.{Said, Says, says_start, says_attribute, says_text, says_end, says_instruction, IsGoodLine, AreGoodLines, no_lines}
use Rattle.rng_model.specs.documents.PyxLines.{line_and}
use Rattle.rng_model.specs.documents.PyxTrees.{Event}
use Rattle.pyx.specs.plain.Cuts.{behind}
use Rattle.pyx.specs.plain.DocumentReader.{State, Turn, silent, after_events, followed, close_tag, tag_ended, said_read, line_read, all_read}
use Rattle.pyx.proofs.Lines.LineClauses.{line_is}
use Rattle.pyx.proofs.Input.LineTurns.{followed_same, followed_twice}

abbrev pub is_attribute : Said → Bool
is_attribute (lines.start name) = false
is_attribute (lines.attribute name value) = true
is_attribute (lines.text value) = false
is_attribute (lines.end name) = false
is_attribute lines.instruction = false

-- a line of this many bytes with this content
unfoldable pub said_line : ℕ → Said → State → Turn State
said_line bytes x s = followed (cond (is_attribute x) (silent s) (close_tag s.tag s)) (λ s. said_read bytes x (record s { count = s.count + 1 }))

kind_said : {bytes : List ℕ} {x : Said} → Says bytes x → is_some (behind 65 bytes) ≡ is_attribute x
kind_said (says_start n) = refl
kind_said (says_attribute n d e) = rw e refl
kind_said (says_text d) = refl
kind_said (says_end n) = refl
kind_said says_instruction = refl

pub ended_said : {l : Line} {x : Said} → IsGoodLine l x → (s : State) → tag_ended l.bytes s ≡ cond (is_attribute x) (silent s) (close_tag s.tag s)
unfolding tag_ended
ended_said g s = rw (kind_said g.says) refl

pub line_said : {l : Line} {x : Said} → IsGoodLine l x → (s : State) → line_read l s ≡ said_line (length l.bytes) x s
unfolding line_read said_line
line_said g s = rw (line_is g, ended_said g s) refl

-- ---- several lines, with these lengths

abbrev pub first_of : List ℕ → ℕ
first_of [] = 0
first_of (b ∷ bs) = b

abbrev pub rest_of : List ℕ → List ℕ
rest_of [] = []
rest_of (b ∷ bs) = bs

unfoldable pub skip : List Said → List ℕ → List ℕ
skip [] bs = bs
skip (x ∷ xs) bs = skip xs (rest_of bs)

unfoldable pub said_lines : List ℕ → List Said → State → Turn State
said_lines bs [] s = silent s
said_lines bs (x ∷ xs) s = followed (said_line (first_of bs) x s) (said_lines (rest_of bs) xs)

pub said_append : (bs : List ℕ) (xs ys : List Said) (s : State) → said_lines bs (xs ++ ys) s ≡ followed (said_lines bs xs s) (said_lines (skip xs bs) ys)
unfolding said_lines skip
said_append bs [] ys s = refl
said_append bs (x ∷ xs) ys s = followed_same (said_line (first_of bs) x s) (said_lines (rest_of bs) (xs ++ ys))
    (λ t. followed (said_lines (rest_of bs) xs t) (said_lines (skip xs (rest_of bs)) ys)) (said_append (rest_of bs) xs ys)
    ∙ sym (followed_twice (said_line (first_of bs) x s) (said_lines (rest_of bs) xs) (said_lines (skip xs (rest_of bs)) ys))

unfoldable pub sizes : List Line → List ℕ
sizes [] = []
sizes (l ∷ ls) = length l.bytes ∷ sizes ls

pub lines_said : {ls : List Line} {xs : List Said} → AreGoodLines ls xs → (s : State) → all_read ls s ≡ said_lines (sizes ls) xs s
unfolding all_read said_lines sizes
lines_said no_lines s = refl
lines_said (line_and {l} {ls} {said} {more} g m) s = ap (λ (t : Turn State). followed t (all_read ls)) (line_said g s)
    ∙ followed_same (said_line (length l.bytes) said s) (all_read ls) (said_lines (sizes ls) more) (lines_said m)

-- ---- turns without a fault

abbrev pub good : State → List Event → Turn State
good s es = (Ok s, es)

pub cons_said : (bs : List ℕ) (x : Said) (xs : List Said) (s t : State) (es : List Event) → said_line (first_of bs) x s ≡ good t es
    → said_lines bs (x ∷ xs) s ≡ after_events es (said_lines (rest_of bs) xs t)
unfolding said_lines
cons_said bs x xs s t es e = rw e refl

pub append_said : (bs : List ℕ) (xs ys : List Said) (s t : State) (es : List Event) → said_lines bs xs s ≡ good t es
    → said_lines bs (xs ++ ys) s ≡ after_events es (said_lines (skip xs bs) ys t)
append_said bs xs ys s t es e = said_append bs xs ys s ∙ rw e refl

pub none_said : (bs : List ℕ) (s : State) → said_lines bs [] s ≡ good s []
unfolding said_lines
none_said bs s = refl
