-- The effect of one line in each state of a document: all cases.
use Rattle.std.proofs.Common.{◌≡◌, ℕ, ◌+◌, ◌≤◌, ◌<◌, Bool, true, false, ◌&&◌, List, [], ◌∷◌, ◌++◌, length, Result, Ok, Err, refl, sym, ap}
use Rattle.std.proofs.Common.{◌∙◌, rules}
use Rattle.std.specs.Prelude.{◌==◌, ◌≢◌, nat_le}
use Rattle.std.proofs.lemmas.Bool.{le-leb, lt-leb}
use Rattle.rng_model.specs.documents.Lines.{attribute_limit, open_limit, text_limit}
use Rattle.rng_model.specs.documents.PyxLines as lines
use Rattle.rng_model.specs.documents.PyxLines.{Said, QName}
use Rattle.pyx.specs.plain.TagReader.{Element, tag_read}
use Rattle.pyx.specs.plain.Declarations.{same_written}
use Rattle.pyx.specs.plain.DocumentReader.{State, Tag, Open, Turn, fault, after_events, declared_in, with_attribute, started, attributed, joined_by, ended, said_read}
use Rattle.pyx.proofs.Lines.WrittenNames.{written_itself, written_same}
use Rattle.pyx.proofs.Lines.SaidLines.{is_attribute, said_line, good}
use Rattle.pyx.proofs.States.StateSteps.{inside, in_tag, begun, open_of, text_event, end_event, start_event, not_zero, attribute_step}
use Rattle.pyx.proofs.States.StateSteps.{instruction_step}
use Rattle.pyx.proofs.States.StateSteps.{text_step, start_step, end_step, early}

-- outside a tag
pub data Move (w : List ℕ) (n : ℕ) (b : ℕ) : Bool → List Open → Said → Turn State → Type 0 where
  instruction_passes : {root : Bool} {os : List Open} {turn : Turn State} → turn ≡ good (inside os w (n + 1) root) []
      → Move w n b root os lines.instruction turn
  attribute_outside : {root : Bool} {os : List Open} {a : QName} {v : List ℕ} {turn : Turn State} → turn ≡ fault 7 (n + 1)
      → Move w n b root os (lines.attribute a v) turn
  text_joins : {root : Bool} {o : Open} {os : List Open} {v : List ℕ} {turn : Turn State} → length w + length v ≤ text_limit
      → turn ≡ good (inside (o ∷ os) (w ++ v) (n + 1) root) [] → Move w n b root (o ∷ os) (lines.text v) turn
  text_too_long : {root : Bool} {o : Open} {os : List Open} {v : List ℕ} {turn : Turn State} → text_limit < length w + length v → turn ≡ fault 10 (n + 1)
      → Move w n b root (o ∷ os) (lines.text v) turn
  text_outside : {root : Bool} {v : List ℕ} {turn : Turn State} → turn ≡ fault 9 (n + 1) → Move w n b root [] (lines.text v) turn
  start_begins : {root : Bool} {os : List Open} {name : QName} {turn : Turn State} → (root && length os == 0) ≡ false → length os < open_limit
      → turn ≡ good (in_tag os (begun b name) (n + 1)) (text_event (n + 1) w) → Move w n b root os (lines.start name) turn
  start_too_deep : {root : Bool} {os : List Open} {name : QName} {turn : Turn State} → open_limit ≤ length os → turn ≡ fault 10 (n + 1)
      → Move w n b root os (lines.start name) turn
  start_again : {name : QName} {turn : Turn State} → turn ≡ fault 9 (n + 1) → Move w n b true [] (lines.start name) turn
  end_closes : {root : Bool} {o : Open} {os : List Open} {name : QName} {turn : Turn State} → o.name ≡ name
      → turn ≡ good (inside os [] (n + 1) root) (text_event (n + 1) w ++ end_event (n + 1)) → Move w n b root (o ∷ os) (lines.end name) turn
  end_of_other : {root : Bool} {o : Open} {os : List Open} {name : QName} {turn : Turn State} → o.name ≢ name → turn ≡ fault 8 (n + 1)
      → Move w n b root (o ∷ os) (lines.end name) turn
  end_of_none : {root : Bool} {name : QName} {turn : Turn State} → turn ≡ fault 8 (n + 1) → Move w n b root [] (lines.end name) turn

attribute_refused : (os : List Open) (w : List ℕ) (n : ℕ) (root : Bool) (b : ℕ) (a : QName) (v : List ℕ)
    → said_line b (lines.attribute a v) (inside os w n root) ≡ fault 7 (n + 1)
unfolding said_line said_read attributed
attribute_refused os w n root b a v = refl

text_refused : (o : Open) (os : List Open) (w : List ℕ) (n : ℕ) (root : Bool) (b : ℕ) (v : List ℕ) → text_limit < length w + length v
    → said_line b (lines.text v) (inside (o ∷ os) w n root) ≡ fault 10 (n + 1)
unfolding said_line said_read joined_by
text_refused o os w n root b v h = rw (not_zero (length os), lt-leb (length w + length v) text_limit h) refl

text_first : (w : List ℕ) (n : ℕ) (root : Bool) (b : ℕ) (v : List ℕ) → said_line b (lines.text v) (inside [] w n root) ≡ fault 9 (n + 1)
unfolding said_line said_read joined_by
text_first w n root b v = refl

start_deep : (os : List Open) (w : List ℕ) (n : ℕ) (root : Bool) (b : ℕ) (name : QName) → (root && length os == 0) ≡ false
    → open_limit ≤ length os → said_line b (lines.start name) (inside os w n root) ≡ fault 10 (n + 1)
unfolding said_line said_read started
start_deep os w n root b name fits h = rw (fits, le-leb open_limit (length os) h) refl

start_second : (w : List ℕ) (n : ℕ) (b : ℕ) (name : QName) → said_line b (lines.start name) (inside [] w n true) ≡ fault 9 (n + 1)
unfolding said_line said_read started
start_second w n b name = refl

end_refused : (o : Open) (os : List Open) (w : List ℕ) (n : ℕ) (root : Bool) (b : ℕ) (name : QName) → same_written o.name name ≡ false
    → said_line b (lines.end name) (inside (o ∷ os) w n root) ≡ fault 8 (n + 1)
unfolding said_line said_read ended
end_refused o os w n root b name e = rw e refl

end_first : (w : List ℕ) (n : ℕ) (root : Bool) (b : ℕ) (name : QName) → said_line b (lines.end name) (inside [] w n root) ≡ fault 8 (n + 1)
unfolding said_line said_read ended
end_first w n root b name = refl

true_false : true ≡ false → ⊥
true_false e = cc

start_moves : (os : List Open) (w : List ℕ) (n b : ℕ) (root : Bool) (name : QName) → (root && length os == 0) ≡ false
    → Move w n b root os (lines.start name) (said_line b (lines.start name) (inside os w n root))
start_moves os w n b root name fits = go (nat_le open_limit (length os)) refl where
  go : (x : Bool) → nat_le open_limit (length os) ≡ x → Move w n b root os (lines.start name) (said_line b (lines.start name) (inside os w n root))
  go true e = let h : open_limit ≤ length os = search rules in start_too_deep h (start_deep os w n root b name fits h)
  go false e = let h : length os < open_limit = search rules in start_begins fits h (start_step os w n root b name fits h)

pub moves : (os : List Open) (w : List ℕ) (n b : ℕ) (root : Bool) (x : Said) → Move w n b root os x (said_line b x (inside os w n root))
moves os w n b root lines.instruction = instruction_passes (instruction_step os w n root b)
moves os w n b root (lines.attribute a v) = attribute_outside (attribute_refused os w n root b a v)
moves [] w n b root (lines.text v) = text_outside (text_first w n root b v)
moves (o ∷ os) w n b root (lines.text v) = go (nat_le (length w + length v) text_limit) refl where
  go : (x : Bool) → nat_le (length w + length v) text_limit ≡ x
      → Move w n b root (o ∷ os) (lines.text v) (said_line b (lines.text v) (inside (o ∷ os) w n root))
  go true e = let h : length w + length v ≤ text_limit = search rules in text_joins h (text_step o os w n root b v h)
  go false e = let h : text_limit < length w + length v = search rules in text_too_long h (text_refused o os w n root b v h)
moves [] w n b true (lines.start name) = start_again (start_second w n b name)
moves [] w n b false (lines.start name) = start_moves [] w n b false name refl
moves (o ∷ os) w n b true (lines.start name) = start_moves (o ∷ os) w n b true name (not_zero (length os))
moves (o ∷ os) w n b false (lines.start name) = start_moves (o ∷ os) w n b false name refl
moves [] w n b root (lines.end name) = end_of_none (end_first w n root b name)
moves (o ∷ os) w n b root (lines.end name) = go (same_written o.name name) refl where
  go : (x : Bool) → same_written o.name name ≡ x → Move w n b root (o ∷ os) (lines.end name) (said_line b (lines.end name) (inside (o ∷ os) w n root))
  go true e = let p = written_same o.name name e in end_closes p (end_step o os w n root b name p)
  go false e = end_of_other (λ p. true_false (sym (written_itself o.name) ∙ ap (same_written o.name) p ∙ e)) (end_refused o os w n root b name e)

-- in a tag
pub data TagMove (os : List Open) (t : Tag) (n : ℕ) (b : ℕ) : Said → Turn State → Type 0 where
  attribute_added : {a : QName} {v : List ℕ} {turn : Turn State} → length t.declared + length t.others < attribute_limit
      → turn ≡ good (in_tag os (with_attribute b (record { name = a; content = v }) t) (n + 1)) [] → TagMove os t n b (lines.attribute a v) turn
  attribute_too_many : {a : QName} {v : List ℕ} {turn : Turn State} → attribute_limit ≤ length t.declared + length t.others
      → turn ≡ fault 10 (n + 1) → TagMove os t n b (lines.attribute a v) turn
  tag_refused : {x : Said} {turn : Turn State} (clause : ℕ) → is_attribute x ≡ false
      → tag_read (declared_in os) t.name t.declared t.others ≡ Err clause → turn ≡ fault clause n → TagMove os t n b x turn
  tag_closes : {x : Said} {turn inner : Turn State} (e : Element) → is_attribute x ≡ false
      → tag_read (declared_in os) t.name t.declared t.others ≡ Ok e → Move [] n b true (open_of t ∷ os) x inner
      → turn ≡ after_events (start_event (n + 1) e) inner → TagMove os t n b x turn

attribute_full : (os : List Open) (t : Tag) (n b : ℕ) (a : QName) (v : List ℕ) → attribute_limit ≤ length t.declared + length t.others
    → said_line b (lines.attribute a v) (in_tag os t n) ≡ fault 10 (n + 1)
unfolding said_line said_read attributed
attribute_full os t n b a v h = rw (le-leb attribute_limit (length t.declared + length t.others) h) refl

refused : (os : List Open) (t : Tag) (n b : ℕ) (x : Said) (clause : ℕ) → is_attribute x ≡ false
    → tag_read (declared_in os) t.name t.declared t.others ≡ Err clause → said_line b x (in_tag os t n) ≡ fault clause n
unfolding said_line
refused os t n b x clause p e = rw (p, e) refl

closing_moves : (os : List Open) (t : Tag) (n b : ℕ) (x : Said) → is_attribute x ≡ false → TagMove os t n b x (said_line b x (in_tag os t n))
closing_moves os t n b x p = go (tag_read (declared_in os) t.name t.declared t.others) refl where
  go : (r : Result Element ℕ) → tag_read (declared_in os) t.name t.declared t.others ≡ r → TagMove os t n b x (said_line b x (in_tag os t n))
  go (Ok e) q = tag_closes e p q (moves (open_of t ∷ os) [] n b true x) (early os t e n b x q p)
  go (Err k) q = tag_refused k p q (refused os t n b x k p q)

pub tag_moves : (os : List Open) (t : Tag) (n b : ℕ) (x : Said) → TagMove os t n b x (said_line b x (in_tag os t n))
tag_moves os t n b (lines.attribute a v) = go (nat_le attribute_limit (length t.declared + length t.others)) refl where
  go : (x : Bool) → nat_le attribute_limit (length t.declared + length t.others) ≡ x
      → TagMove os t n b (lines.attribute a v) (said_line b (lines.attribute a v) (in_tag os t n))
  go true e = let h : attribute_limit ≤ length t.declared + length t.others = search rules in attribute_too_many h (attribute_full os t n b a v h)
  go false e = let h : length t.declared + length t.others < attribute_limit = search rules in attribute_added h (attribute_step os t n b a v h)
tag_moves os t n b (lines.start name) = closing_moves os t n b (lines.start name) refl
tag_moves os t n b (lines.text v) = closing_moves os t n b (lines.text v) refl
tag_moves os t n b (lines.end name) = closing_moves os t n b (lines.end name) refl
tag_moves os t n b lines.instruction = closing_moves os t n b lines.instruction refl
