-- No clause is broken before the fault that is returned.
use Rattle.std.proofs.Common.{◌≡◌, ℕ, ◌+◌, ◌≤◌, ◌<◌, Bool, true, false, cond, ◌&&◌, List, [], ◌∷◌, ◌++◌, length, Some, None, Result, Ok, Err}
use Rattle.std.proofs.Common.{refl, sym, ap, subst, ◌∙◌, arith, append_assoc, ◌⊎◌, inl, inr, lit≤, rules}
use Rattle.std.specs.Prelude.{◌==◌, ◌≢◌, nat_le}
use Rattle.std.proofs.lemmas.List.{length-append, append-nil}
use Rattle.pyx.proofs.Documents.Ends.{ends_badly}
use Rattle.rng_model.proofs.Options.{same_err, same_ok}
use Rattle.rng_model.proofs.Members.{same_rest, one_or_none}
use Rattle.rng_model.specs.documents.Lines.{Line, line_limit, attribute_limit, open_limit, text_limit, HasKind, Fault, EndsInTag, IsBefore}
use Rattle.rng_model.specs.documents.PyxLines as said
use Rattle.rng_model.specs.documents.PyxLines.{Said, QName, IsGoodLine}
use Rattle.rng_model.specs.documents.PyxNamespaces.{WrittenAttribute, NamespaceScope}
use Rattle.rng_model.specs.documents.PyxTrees.{Event}
use Rattle.rng_model.specs.documents.PyxClauses as clauses
use Rattle.rng_model.specs.documents.PyxClauses.{BeginsOtherwise, AreOpenTags, SaysTag, HasScope, EndsInText, BreaksTagNamespaces}
use Rattle.rng_model.specs.documents.PyxClauses.{RepeatsName}
use Rattle.rng_model.specs.documents.PyxClauses.{BreaksHere}
use Rattle.rng_model.specs.documents.PyxClauses.{Breaks, at_line, unfinished, rootless, IsFirstFault}
use Rattle.pyx.specs.plain.LineReader.{said_of}
use Rattle.pyx.specs.plain.WrittenNames.{written_of}
use Rattle.pyx.specs.plain.TagReader.{Element, tag_read}
use Rattle.pyx.specs.plain.DocumentReader as reader
use Rattle.pyx.specs.plain.DocumentReader.{State, Tag, Open, Turn, fault, go_on, followed, after_events, declared_in, line_read}
use Rattle.pyx.specs.plain.DocumentReader.{all_read}
use Rattle.pyx.specs.plain.DocumentReader.{nothing_read, at_end, all_ended, document_read}
use Rattle.pyx.proofs.Lines.LineClauses.{BreaksLine, good_line, broken_line, alone_most}
use Rattle.pyx.proofs.Lines.LineClauses as line_clauses
use Rattle.pyx.proofs.Lines.WrittenNames.{written_back, written_bytes}
use Rattle.pyx.proofs.Tags.Exact.{tag_namespaces, tag_repeats}
use Rattle.pyx.proofs.Input.LineTurns.{followed_same, followed_twice}
use Rattle.pyx.proofs.Lines.SaidLines.{is_attribute, line_said}
use Rattle.pyx.proofs.States.StateSteps.{inside, in_tag, open_of, not_zero}
use Rattle.pyx.proofs.States.LineCases.{Move, instruction_passes, attribute_outside, text_joins, text_too_long, text_outside, start_begins, start_too_deep}
use Rattle.pyx.proofs.States.LineCases.{start_again}
use Rattle.pyx.proofs.States.LineCases.{end_closes, end_of_other, end_of_none, moves, TagMove, attribute_added, attribute_too_many, tag_refused, tag_closes}
use Rattle.pyx.proofs.States.LineCases.{tag_moves}
use Rattle.pyx.proofs.States.OpenTags.{is_kind, kind_not, marks, Marks, open_marks, ends_marks, open_same, no_tag}
use Rattle.pyx.proofs.States.JoinedText.{start_line, end_line, says_a_start, says_an_attribute, says_a_text, says_an_end, joined_with, texts_more}
use Rattle.pyx.proofs.States.JoinedText.{good_line_more, text_within, has_root, root_in, root_not}
use Rattle.pyx.proofs.States.StateAfterLines.{AreMatched, none_matched, one_matched, scope_of, matched_scope, matched_declared, matched_once, matched_length}
use Rattle.pyx.proofs.States.StateAfterLines.{says_same}
use Rattle.pyx.proofs.States.StateAfterLines.{scope_same}
use Rattle.pyx.proofs.States.StateAfterLines.{Content, Within, Place, at_content, at_tag, place_first, closed}
use Rattle.pyx.proofs.Documents.Broken.{at, failed, TagBreaks, LineTells, goes_on, breaks_here, tag_breaks, tag_lines, alone_few, bad_line, ended_silent}
use Rattle.pyx.proofs.Documents.Broken.{ended_closes}
use Rattle.pyx.proofs.Documents.Broken.{no_tag_ended, line_tells, next_place, EndTells, ends_well, ends_open, tag_ends_badly, fault_tag, fault_open, end_tells}
use Rattle.pyx.proofs.Documents.Broken.{to_end}
use Rattle.pyx.proofs.Documents.Broken.{broken, ok_err}

-- a fault at this place or before is returned
pub record AtMost (g : Fault) {A : Type 0} (turn : Turn A) : Type 0 where
  pub answer : Fault
  pub is : turn.0 ≡ Err answer
  pub before : IsBefore answer g

same_answer : {A : Type 0} {g : Fault} {turn inner : Turn A} → turn.0 ≡ inner.0 → AtMost g inner → AtMost g turn
same_answer e m = record { answer = m.answer; is = e ∙ m.is; before = m.before }

followed_most : {A B : Type 0} {g : Fault} {turn : Turn A} (f : A → Turn B) → AtMost g turn → AtMost g (followed turn f)
followed_most {A = A} {B = B} {turn = turn} f m = record { answer = m.answer; is = go turn.0 turn.1 m.is; before = m.before } where
  go : (r : Result A Fault) (es : List Event) → ◌≡◌ {A = Result A Fault} r (Err m.answer) → ◌≡◌ {A = Result B Fault} (go_on r es f).0 (Err m.answer)
  go (Ok x) es e = absurd (ok_err e)
  go (Err x) es e = ap Err (same_err e)

first_tag : {x y : clauses.Tag} {xs ys : List clauses.Tag} → x ∷ xs ≡ y ∷ ys → x ≡ y
first_tag e = cc

true_false : true ≡ false → ⊥
true_false e = cc

no_elements : (os : List Open) → length os ≡ 0 → os ≡ []
no_elements [] e = refl
no_elements (o ∷ os) e = absurd (omega (arith, e))

outside_tag : {w : List ℕ} {n b : ℕ} {root : Bool} {os : List Open} {a : QName} {v : List ℕ} {turn : Turn State}
    → Move w n b root os (said.attribute a v) turn → turn ≡ fault 7 (n + 1)
outside_tag (attribute_outside e) = e

module _ (front : List Line) where
  refused_at : {turn : Turn State} {n : ℕ} (j k : ℕ) → turn ≡ fault j (n + 1) → n ≡ length front → j ≤ k → AtMost (at k (length front + 1)) turn
  refused_at j k e c h = record { answer = at j _; is = ap (λ (t : Turn State). t.0) e; before = inr (omega (arith, c), h) }

  refused_before : {turn : Turn State} {n : ℕ} (j k : ℕ) → turn.0 ≡ failed j n → n ≡ length front → AtMost (at k (length front + 1)) turn
  refused_before j k e c = record { answer = at j _; is = e; before = inl (omega (arith, c)) }

  -- ---- each clause, against each move

  no_open : {o : Open} {os : List Open} {tags : List clauses.Tag} → AreOpenTags front tags → AreMatched tags (o ∷ os) → AreOpenTags front [] → ⊥
  no_open d (one_matched s p n m) e = some_none (open_same d e) where
    some_none : {x : clauses.Tag} {xs : List clauses.Tag} → x ∷ xs ≡ [] → ⊥
    some_none e = cc

  none_to_end : {os : List Open} {w : List ℕ} {n b : ℕ} {root : Bool} {name : QName} {turn : Turn State} → Content front os w n root
      → Move w n b root os (said.end name) turn → AreOpenTags front [] → AtMost (at 8 (length front + 1)) turn
  none_to_end c (end_closes q e) d = absurd (no_open c.are_open c.matched d)
  none_to_end c (end_of_other q e) d = refused_at 8 8 e c.count (lit≤ tt)
  none_to_end c (end_of_none e) d = refused_at 8 8 e c.count (lit≤ tt)

  -- the name of the innermost tag, as it is written
  innermost : {o : Open} {os : List Open} {tags outer : List clauses.Tag} {tag : clauses.Tag} → AreOpenTags front tags → AreMatched tags (o ∷ os)
      → AreOpenTags front (tag ∷ outer) → (written : List ℕ) → tag.first.bytes ≡ 40 ∷ written → written_of written ≡ o.name
  innermost {o} {tag = tag} d (one_matched {tag = own} s p n m) e written q =
      let k = start_line s.first in
      let same : own ≡ tag = first_tag (open_same d e) in
      ap written_of (same_rest (sym q ∙ ap (λ (t : clauses.Tag). t.first.bytes) (sym same) ∙ k.1)) ∙ k.2

  other_name : {os : List Open} {w : List ℕ} {n b : ℕ} {root : Bool} {name : QName} {turn : Turn State} {tag : clauses.Tag}
      {outer : List clauses.Tag} (l : Line) (bytes opened : List ℕ) → Content front os w n root → Move w n b root os (said.end name) turn
      → IsGoodLine l (said.end name) → l.bytes ≡ 41 ∷ bytes → AreOpenTags front (tag ∷ outer) → tag.first.bytes ≡ 40 ∷ opened → bytes ≢ opened
      → AtMost (at 8 (length front + 1)) turn
  other_name l bytes opened c (end_closes q e) g is d f differs =
      let k = end_line g in
      let own : written_of bytes ≡ written_of opened =
      ap written_of (same_rest (sym is ∙ k.1)) ∙ k.2 ∙ sym q ∙ sym (innermost c.are_open c.matched d opened f) in
      absurd (differs (sym (written_back bytes) ∙ ap written_bytes own ∙ written_back opened))
  other_name l bytes opened c (end_of_other q e) g is d f differs = refused_at 8 8 e c.count (lit≤ tt)
  other_name l bytes opened c (end_of_none e) g is d f differs = refused_at 8 8 e c.count (lit≤ tt)

  text_is_outside : {os : List Open} {w : List ℕ} {n b : ℕ} {root : Bool} {v : List ℕ} {turn : Turn State} → Content front os w n root
      → Move w n b root os (said.text v) turn → AreOpenTags front [] → AtMost (at 9 (length front + 1)) turn
  text_is_outside c (text_joins h e) d = absurd (no_open c.are_open c.matched d)
  text_is_outside c (text_too_long h e) d = absurd (no_open c.are_open c.matched d)
  text_is_outside c (text_outside e) d = refused_at 9 9 e c.count (lit≤ tt)

  none_deep : {os : List Open} {w : List ℕ} {n : ℕ} {root : Bool} → Content front os w n root → AreOpenTags front [] → length os ≡ 0
  none_deep c d = omega (arith, matched_length c.matched, ap length (open_same c.are_open d))

  second_root : {os : List Open} {w : List ℕ} {n b : ℕ} {root : Bool} {name : QName} {turn : Turn State} → Content front os w n root
      → Move w n b root os (said.start name) turn → AreOpenTags front [] → has_root front ≡ true → AtMost (at 9 (length front + 1)) turn
  second_root {os} {root = root} c (start_begins fits h e) d r = absurd (outside os root (no_elements os (none_deep c d)) (sym c.rooted ∙ r) fits) where
    outside : (os : List Open) (root : Bool) → os ≡ [] → root ≡ true → (root && length os == 0) ≡ false → ⊥
    outside [] true e f g = true_false g
    outside [] false e f g = true_false (sym f)
    outside (o ∷ os) root e f g = absurd cc
  second_root c (start_too_deep h e) d r = absurd (omega (arith, h, none_deep c d))
  second_root c (start_again e) d r = refused_at 9 9 e c.count (lit≤ tt)

  too_deep : {os : List Open} {w : List ℕ} {n b : ℕ} {root : Bool} {name : QName} {turn : Turn State} {opened : List clauses.Tag}
      → Content front os w n root → Move w n b root os (said.start name) turn → AreOpenTags front opened → open_limit ≤ length opened
      → AtMost (at 10 (length front + 1)) turn
  too_deep c (start_begins fits h e) d few = absurd (omega (arith, h, few, matched_length c.matched, ap length (open_same c.are_open d)))
  too_deep c (start_too_deep h e) d few = refused_at 10 10 e c.count (lit≤ tt)
  too_deep c (start_again e) d few = refused_at 9 10 e c.count (lit≤ tt)

  joined_within : {os : List Open} {w : List ℕ} {n : ℕ} {root : Bool} {j : List ℕ} (l : Line) (x : Said) → Content front os w n root → IsGoodLine l x
      → EndsInText (front ++ l ∷ []) j → length j ≤ length (joined_with x w)
  joined_within {w = w} l x c g t =
      omega (arith, text_within (good_line_more c.good g) t, ap length (texts_more c.says x ∙ ap (joined_with x) c.joined))

  too_long : {os : List Open} {w : List ℕ} {n b : ℕ} {root : Bool} {turn : Turn State} {j : List ℕ} (l : Line) (x : Said) → Content front os w n root
      → Move w n b root os x turn → IsGoodLine l x → EndsInText (front ++ l ∷ []) j → text_limit < length j → AtMost (at 10 (length front + 1)) turn
  too_long l x c (instruction_passes e) g t h = absurd (omega (arith, h, joined_within l x c g t, c.within))
  too_long l x c (attribute_outside e) g t h = refused_at 7 10 e c.count (lit≤ tt)
  too_long {w = w} l x c (text_joins {v} k e) g t h = absurd (omega (arith, h, joined_within l x c g t, k, length-append w v))
  too_long l x c (text_too_long k e) g t h = refused_at 10 10 e c.count (lit≤ tt)
  too_long l x c (text_outside e) g t h = refused_at 9 10 e c.count (lit≤ tt)
  too_long l x c (start_begins fits k e) g t h = absurd (omega (arith, h, joined_within l x c g t))
  too_long l x c (start_too_deep k e) g t h = refused_at 10 10 e c.count (lit≤ tt)
  too_long l x c (start_again e) g t h = refused_at 9 10 e c.count (lit≤ tt)
  too_long l x c (end_closes q e) g t h = absurd (omega (arith, h, joined_within l x c g t))
  too_long l x c (end_of_other q e) g t h = refused_at 8 10 e c.count (lit≤ tt)
  too_long l x c (end_of_none e) g t h = refused_at 8 10 e c.count (lit≤ tt)

  -- ---- a good line, outside a tag or after it

  -- what holds for each content as which the lines can be read
  abbrev AtContent : ℕ → Said → Type 0
  AtContent k x = (os : List Open) (w : List ℕ) (n b : ℕ) (root : Bool) (turn : Turn State) → Content front os w n root → Move w n b root os x turn
      → AtMost (at k (length front + 1)) turn

  tag_case : {os : List Open} {t : Tag} {n b : ℕ} {turn : Turn State} (k : ℕ) (x : Said) → Within front os t n → TagMove os t n b x turn
      → AtContent k x → is_attribute x ≡ false → AtMost (at k (length front + 1)) turn
  tag_case k x c (attribute_added h e) f p = absurd (true_false p)
  tag_case k x c (attribute_too_many h e) f p = absurd (true_false p)
  tag_case k x c (tag_refused j q r e) f p = refused_before j k (ap (λ (t : Turn State). t.0) e) c.count
  tag_case {os} {t} {n} {b} k x c (tag_closes {inner} e q r m is) f p =
      same_answer (ap (λ (t : Turn State). t.0) is) (f (open_of t ∷ os) [] n b true inner (closed e c r) m)

  good_case : {s : State} (k : ℕ) (l : Line) (x : Said) → Place front s → IsGoodLine l x → AtContent k x → is_attribute x ≡ false
      → AtMost (at k (length front + 1)) (line_read l s)
  good_case k l x (at_content {os} {w} {n} {root} c u) g f p = same_answer (ap (λ (t : Turn State). t.0) (line_said g (inside os w n root)))
      (f os w n (length l.bytes) root _ c (moves os w n (length l.bytes) root x))
  good_case k l x (at_tag {os} {t} {n} c) g f p = same_answer (ap (λ (t : Turn State). t.0) (line_said g (in_tag os t n)))
      (tag_case k x c (tag_moves os t n (length l.bytes) x) f p)

  -- an `A` line
  no_tag_case : {s : State} (l : Line) (a : QName) (v : List ℕ) → Place front s → IsGoodLine l (said.attribute a v) → (EndsInTag front → ⊥)
      → AtMost (at 7 (length front + 1)) (line_read l s)
  no_tag_case l a v (at_content {os} {w} {n} {root} c u) g none = same_answer (ap (λ (t : Turn State). t.0) (line_said g (inside os w n root)))
      (refused_at 7 7 (outside_tag (moves os w n (length l.bytes) root (said.attribute a v))) c.count (lit≤ tt))
  no_tag_case l a v (at_tag c) g none = absurd (none c.ends)

  same_marks : (d e : EndsInTag front)
      → record { first = d.tag; attributes = d.others } ∷ (marks d.front).tags ≡ record { first = e.tag; attributes = e.others } ∷ (marks e.front).tags
  same_marks d e = ap (λ (m : Marks). m.tags) (sym (ends_marks d) ∙ ends_marks e)

  pub same_tag : (d e : EndsInTag front)
      → ◌≡◌ {A = clauses.Tag} (record { first = d.tag; attributes = d.others }) (record { first = e.tag; attributes = e.others })
  same_tag d e = first_tag (same_marks d e)

  many_case : {s : State} (l : Line) (a : QName) (v : List ℕ) → Place front s → IsGoodLine l (said.attribute a v) → (tag : EndsInTag front)
      → attribute_limit ≤ length tag.others → AtMost (at 10 (length front + 1)) (line_read l s)
  many_case l a v (at_content {os} {w} {n} {root} c u) g tag h = absurd (no_tag u tag)
  many_case l a v (at_tag {os} {t} {n} c) g tag h = same_answer (ap (λ (t : Turn State). t.0) (line_said g (in_tag os t n)))
      (go (tag_moves os t n (length l.bytes) (said.attribute a v))) where
        go : {turn : Turn State} → TagMove os t n (length l.bytes) (said.attribute a v) turn → AtMost (at 10 (length front + 1)) turn
        go (attribute_added k e) = absurd (omega (arith, k, h, tag_lines c, ap (λ (x : clauses.Tag). length x.attributes) (same_tag tag c.ends)))
        go (attribute_too_many k e) = refused_at 10 10 e c.count (lit≤ tt)
        go (tag_refused j p q e) = absurd (true_false p)
        go (tag_closes x p q m is) = absurd (true_false p)

  -- ---- any line

  bad_case : {s : State} (l : Line) (j k : ℕ) → Place front s → said_of l ≡ Err j → j ≤ k → AtMost (at k (length front + 1)) (line_read l s)
  bad_case l j k (at_content {os} {w} {n} {root} c u) e h = refused_at j k (bad_line l (inside os w n root) j e
      ∙ ap (λ (t : Turn State). followed t (λ t. fault j (t.count + 1))) (no_tag_ended l os w n root)) c.count h
  bad_case l j k (at_tag {os} {t} {n} c) e h = go (is_kind 65 l.bytes) (tag_read (declared_in os) t.name t.declared t.others) refl refl where
    closes : (r : Result Element ℕ) → tag_read (declared_in os) t.name t.declared t.others ≡ r → is_kind 65 l.bytes ≡ false
        → line_read l (in_tag os t n) ≡ followed (reader.tag_closed r t (in_tag os t n)) (λ t. fault j (t.count + 1))
    closes r q p = bad_line l (in_tag os t n) j e
        ∙ ap (λ (t : Turn State). followed t (λ t. fault j (t.count + 1))) (ended_closes l (in_tag os t n) p)
        ∙ ap (λ (x : Result Element ℕ). followed (reader.tag_closed x t (in_tag os t n)) (λ t. fault j (t.count + 1))) q

    go : (x : Bool) (r : Result Element ℕ) → is_kind 65 l.bytes ≡ x → tag_read (declared_in os) t.name t.declared t.others ≡ r
        → AtMost (at k (length front + 1)) (line_read l (in_tag os t n))
    go true r p q = refused_at j k (bad_line l (in_tag os t n) j e
        ∙ ap (λ (t : Turn State). followed t (λ t. fault j (t.count + 1))) (ended_silent l (in_tag os t n) p)) c.count h
    go false (Ok x) p q = record { answer = at j (n + 1); is = ap (λ (r : Turn State). r.0) (closes (Ok x) q p); before = inr (omega (arith, c.count), h) }
    go false (Err i) p q = refused_before i k (ap (λ (r : Turn State). r.0) (closes (Err i) q p)) c.count

  -- a clause that a good line breaks
  judged : {s : State} (l : Line) (k : ℕ) → Place front s → 7 ≤ k → (length l.bytes ≤ line_limit) ⊎ (10 ≤ k)
      → ((x : Said) → IsGoodLine l x → AtMost (at k (length front + 1)) (line_read l s)) → AtMost (at k (length front + 1)) (line_read l s)
  judged {s} l k p seven h f = go (said_of l) refl where
    few : {j : ℕ} → (j ≤ 6) ⊎ ((j ≡ 10) × (line_limit < length l.bytes)) → (length l.bytes ≤ line_limit) ⊎ (10 ≤ k) → j ≤ k
    few (inl m) h = omega (arith, m, seven)
    few (inr m) (inl h) = absurd (omega (arith, m.1, h))
    few (inr m) (inr h) = omega (arith, m.0, h)

    go : (r : Result Said ℕ) → said_of l ≡ r → AtMost (at k (length front + 1)) (line_read l s)
    go (Ok x) e = f x (good_line l x e)
    go (Err j) e = bad_case l j k p e (few (alone_few (broken_line l j e)) h)

  alone_case : {s : State} (l : Line) (k : ℕ) → Place front s → BreaksLine l k → AtMost (at k (length front + 1)) (line_read l s)
  alone_case l k p b = let m = alone_most b in bad_case l m.answer k p m.is m.le

-- the tag that ends at this line breaks the clause
pub record TagEnds (front : List Line) (l : Line) (behind : List Line) (clause : ℕ) : Type 0 where
  pub breaks : TagBreaks (front ++ l ∷ []) clause
  pub otherwise : BeginsOtherwise 65 behind

long_text : {front : List Line} {l : Line} {s : State} {j : List ℕ} (x : Said) → IsGoodLine l x → Place front s → EndsInText (front ++ l ∷ []) j
    → text_limit < length j → AtMost (at 10 (length front + 1)) (line_read l s)
long_text {front} {l} (said.attribute a v) g (at_content {os} {w} {n} {root} c u) t h = same_answer (ap (λ (t : Turn State). t.0) (line_said g
    (inside os w n root)))
    (too_long front l (said.attribute a v) c (moves os w n (length l.bytes) root (said.attribute a v)) g t h)
long_text (said.attribute a v) g (at_tag c) t h =
    absurd (omega (arith, h, text_within (good_line_more c.good g) t, ap length (texts_more c.says (said.attribute a v))))
long_text {front} {l} (said.start name) g q t h = good_case front 10 l (said.start name) q g (λ os w n b root turn c m. too_long front l
    (said.start name) c m g t h) refl
long_text {front} {l} (said.text v) g q t h = good_case front 10 l (said.text v) q g (λ os w n b root turn c m. too_long front l (said.text v) c m g t h) refl
long_text {front} {l} (said.end name) g q t h = good_case front 10 l (said.end name) q g (λ os w n b root turn c m. too_long front l
    (said.end name) c m g t h) refl
long_text {front} {l} said.instruction g q t h = good_case front 10 l said.instruction q g
    (λ os w n b root turn c m. too_long front l said.instruction c m g t h) refl

here_most : {front behind : List Line} {l : Line} {s : State} {k : ℕ} → Place front s → BreaksHere front l behind k
    → AtMost (at k (length front + 1)) (line_read l s) ⊎ TagEnds front l behind k
here_most {front} {l = l} p (clauses.too_long h) = inl (alone_case front l 10 p (line_clauses.too_long h))
here_most {front} {l = l} {k = k} p (clauses.within h (clauses.alone b)) = inl (alone_case front l k p (line_clauses.within h b))
here_most {front} {l = l} p (clauses.within h (clauses.no_tag kind none)) = inl (judged front l 7 p (lit≤ tt) (inl h) (λ x g. let a = says_an_attribute x g kind in
    no_tag_case front l a.0 a.1 p (subst (IsGoodLine l) a.2 g) none))
here_most {front} {l = l} p (clauses.within h (clauses.none_to_end kind d)) = inl (judged front l 8 p (lit≤ tt) (inl h) (λ x g. let a = says_an_end x g kind in
    good_case front 8 l (said.end a.0) p (subst (IsGoodLine l) a.1 g) (λ os w n b root turn c m. none_to_end front c m d) refl))
here_most {front} {l = l} p (clauses.within h (clauses.other_name {name} {opened_name} is d f differs)) =
    inl (judged front l 8 p (lit≤ tt) (inl h) (λ x g. let a = says_an_end x g (name, is) in let y = subst (IsGoodLine l) a.1 g in
    good_case front 8 l (said.end a.0) p y (λ os w n b root turn c m. other_name front l name opened_name c m y is d f differs) refl))
here_most {front} {l = l} p (clauses.within h (clauses.text_outside kind d)) = inl (judged front l 9 p (lit≤ tt) (inl h) (λ x g. let a = says_a_text x g kind in
    good_case front 9 l (said.text a.0) p (subst (IsGoodLine l) a.1 g) (λ os w n b root turn c m. text_is_outside front c m d) refl))
here_most {front} {l = l} p (clauses.within h (clauses.second_root before rest root kind d parts opens)) =
    let r : has_root front ≡ true = subst (λ (y : List Line). has_root y ≡ true) (sym parts) (root_in before root rest opens) in
    inl (judged front l 9 p (lit≤ tt) (inl h) (λ x g. let a = says_a_start x g kind in
    good_case front 9 l (said.start a.0) p (subst (IsGoodLine l) a.1 g) (λ os w n b root turn c m. second_root front c m d r) refl))
here_most {front} {l = l} p (clauses.within short (clauses.attributes kind tag few)) = inl (judged front l 10 p (lit≤ tt) (inr (lit≤ tt)) (λ x g. let a = says_an_attribute x g kind in
    many_case front l a.0 a.1 p (subst (IsGoodLine l) a.2 g) tag few))
here_most {front} {l = l} p (clauses.within short (clauses.elements kind d few)) = inl (judged front l 10 p (lit≤ tt) (inr (lit≤ tt)) (λ x g. let a = says_a_start x g kind in
    good_case front 10 l (said.start a.0) p (subst (IsGoodLine l) a.1 g) (λ os w n b root turn c m. too_deep front c m d few) refl))
here_most {front} {l = l} {s} p (clauses.within short (clauses.joined_text t h)) = inl (judged front l 10 p (lit≤ tt) (inr (lit≤ tt)) (λ x g. long_text x g p t h))
here_most {front} {l = l} p (clauses.within short (clauses.namespaces {outer} {name} {written} e n b)) =
    inr (record { breaks = record { outer = outer; name = name; written = written; ends = e; breaks = inl (refl, b) }; otherwise = n })
here_most {front} {l = l} p (clauses.within short (clauses.repeated_name {outer} {name} {written} e n b)) =
    inr (record { breaks = record { outer = outer; name = name; written = written; ends = e; breaks = inr (refl, b) }; otherwise = n })

-- ---- a tag that ends is judged at the next line

rest_tags : {x y : clauses.Tag} {xs ys : List clauses.Tag} → x ∷ xs ≡ y ∷ ys → xs ≡ ys
rest_tags e = cc

-- the clause that is returned for a tag
record Answered (os : List Open) (t : Tag) (k : ℕ) : Type 0 where
  clause : ℕ
  is : tag_read (declared_in os) t.name t.declared t.others ≡ Err clause
  le : clause ≤ k

tag_answered : {front : List Line} {os : List Open} {t : Tag} {n k : ℕ} → Within front os t n → TagBreaks front k → Answered os t k
tag_answered {front} {os} {t} {n} {k} c b = go b.breaks where
  says : SaysTag (record { first = c.ends.tag; attributes = c.ends.others }) b.name b.written
  says = subst (λ (x : clauses.Tag). SaysTag x b.name b.written) (same_tag front b.ends.ends c.ends) b.ends.says

  same : (b.name ≡ t.name) × (b.written ≡ c.written)
  same = says_same says c.says_tag

  around : b.ends.around ≡ c.tags
  around = sym (open_marks b.ends.are_open) ∙ rest_tags (ap (λ (m : Marks). m.tags) (sym (ends_marks b.ends.ends) ∙ ends_marks c.ends)) ∙ open_marks c.are_open

  outer : b.outer ≡ scope_of os
  outer = scope_same (subst (λ (x : List clauses.Tag). HasScope x b.outer) around b.ends.scope) (matched_scope c.matched)

  go : ((k ≡ 11) × BreaksTagNamespaces b.outer b.name b.written) ⊎ ((k ≡ 12) × RepeatsName b.outer b.written) → Answered os t k
  go (inl p) =
      let x : BreaksTagNamespaces (scope_of os) t.name c.written = subst (λ (y : QName). BreaksTagNamespaces (scope_of os) y c.written) same.0
      (subst (λ (y : List WrittenAttribute). BreaksTagNamespaces (scope_of os) b.name y) same.1
      (subst (λ (y : NamespaceScope). BreaksTagNamespaces y b.name b.written) outer p.1)) in
      record {
        clause = 11;
        is = tag_namespaces (declared_in os) t.name c.written t.declared t.others c.split (matched_declared c.matched) x;
        le = omega (arith, p.0);
      }
  go (inr p) =
      let x : RepeatsName (scope_of os) c.written = subst (λ (y : List WrittenAttribute). RepeatsName (scope_of os) y) same.1
      (subst (λ (y : NamespaceScope). RepeatsName y b.written) outer p.1) in
      by (tag_repeats (declared_in os) t.name c.written t.declared t.others c.split (matched_declared c.matched) (matched_once c.matched) x) where
        by : (tag_read (declared_in os) t.name t.declared t.others ≡ Err 11) ⊎ (tag_read (declared_in os) t.name t.declared t.others ≡ Err 12) → Answered os t k
        by (inl e) = record { clause = 11; is = e; le = omega (arith, p.0) }
        by (inr e) = record { clause = 12; is = e; le = omega (arith, p.0) }

pub all_nil : (s : State) → to_end [] s ≡ all_ended s
unfolding all_read
all_nil s = refl

pub all_cons : (l : Line) (ls : List Line) (s : State) → all_read (l ∷ ls) s ≡ followed (line_read l s) (all_read ls)
unfolding all_read
all_cons l ls s = refl

pub to_end_first : (l : Line) (ls : List Line) (s : State) → to_end (l ∷ ls) s ≡ followed (line_read l s) (to_end ls)
to_end_first l ls s = ap (λ (t : Turn State). followed t all_ended) (all_cons l ls s) ∙ followed_twice (line_read l s) (all_read ls) all_ended

line_closes : (l : Line) (os : List Open) (t : Tag) (n k : ℕ) → (HasKind 65 l → ⊥) → tag_read (declared_in os) t.name t.declared t.others ≡ Err k
    → (line_read l (in_tag os t n)).0 ≡ failed k n
unfolding line_read
line_closes l os t n k h e = rw (ended_closes l (in_tag os t n) (kind_not 65 l h), e) refl

tag_ends_most : {front : List Line} {s : State} {k : ℕ} (behind : List Line) → Place front s → TagBreaks front k → BeginsOtherwise 65 behind
    → AtMost (at k (length front)) (to_end behind s)
tag_ends_most behind (at_content c u) b n = absurd (no_tag u b.ends.ends)
tag_ends_most {front} {k = k} [] (at_tag {os} {t} {n} c) b m =
    let a = tag_answered c b in
    same_answer {inner = all_ended (in_tag os t n)} (ap (λ (t : Turn State). t.0) (all_nil (in_tag os t n))) (record {
      answer = at a.clause n;
      is = ends_badly (in_tag os t n) (at a.clause n) (fault_tag os t n ∙ ap (reader.unfinished n) a.is);
      before = inr (c.count, a.le);
    })
tag_ends_most {front} {k = k} (l ∷ ls) (at_tag {os} {t} {n} c) b m =
    let a = tag_answered c b in
    same_answer (ap (λ (t : Turn State). t.0) (to_end_first l ls (in_tag os t n))) (followed_most (to_end ls) (record {
      answer = at a.clause n;
      is = line_closes l os t n a.clause (m l ls refl) a.is;
      before = inr (c.count, a.le);
    }))

-- ---- all lines

abbrev reads : List Line → Turn State
reads ls = all_read ls nothing_read

pub all_append : (xs ys : List Line) (s : State) → all_read (xs ++ ys) s ≡ followed (all_read xs s) (all_read ys)
unfolding all_read
all_append [] ys s = refl
all_append (l ∷ xs) ys s = followed_same (line_read l s) (all_read (xs ++ ys)) (λ t. followed (all_read xs t) (all_read ys)) (all_append xs ys)
    ∙ sym (followed_twice (line_read l s) (all_read xs) (all_read ys))

-- how far the lines are read
pub data Reached (all : List Line) (turn : Turn State) : Type 0 where
  to_a_place : {s : State} → turn.0 ≡ Ok s → Place all s → Reached all turn
  to_a_fault : (f : Fault) → turn.0 ≡ Err f → f.line ≤ length all → f.clause ≤ 12 → Reached all turn

tag_clause : {front : List Line} {k : ℕ} → TagBreaks front k → k ≤ 12
tag_clause {k = k} b = go b.breaks where
  go : ((k ≡ 11) × BreaksTagNamespaces b.outer b.name b.written) ⊎ ((k ≡ 12) × RepeatsName b.outer b.written) → k ≤ 12
  go (inl p) = omega (arith, p.0)
  go (inr p) = omega (arith, p.0)

reached_from : (ls front : List Line) (s : State) → Place front s → Reached (front ++ ls) (all_read ls s)
unfolding all_read
reached_from [] front s p = to_a_place {s = s} refl (subst (λ (x : List Line). Place x s) (sym (append-nil front)) p)
reached_from (l ∷ ls) front s p = go (line_read l s).0 (line_read l s).1 refl (line_tells l p) (λ u. reached_from ls (front ++ l ∷ []) u) where
  size : length (front ++ l ∷ ls) ≡ length front + 1 + length ls
  size = omega (arith, length-append front (l ∷ ls))

  again : (u : State) (es : List Event) → Reached ((front ++ l ∷ []) ++ ls) (all_read ls u) → Reached (front ++ l ∷ ls) (after_events es (all_read ls u))
  again u es (to_a_place {s = t} e q) = to_a_place e (subst (λ (x : List Line). Place x t) (append_assoc front (l ∷ []) ls) q)
  again u es (to_a_fault f e h k) = to_a_fault f e (subst (λ (x : List Line). f.line ≤ length x) (append_assoc front (l ∷ []) ls) h) k

  go : (r : Result State Fault) (es : List Event) → (line_read l s).0 ≡ r → LineTells front l (line_read l s)
      → ((u : State) → Place (front ++ l ∷ []) u → Reached ((front ++ l ∷ []) ++ ls) (all_read ls u)) → Reached (front ++ l ∷ ls) (go_on r es (all_read ls))
  go (Ok u) es e t more = again u es (more u (next_place s t e))
  go (Err f) es e (goes_on q x) more = absurd (ok_err (sym q ∙ e))
  go (Err f) es e (breaks_here k q h b) more = let is = same_err (sym q ∙ e) in
      to_a_fault f refl (omega (arith, ap (λ (x : Fault). x.line) is, size)) (omega (arith, ap (λ (x : Fault). x.clause) is, h))
  go (Err f) es e (tag_breaks k q b n) more = let is = same_err (sym q ∙ e) in
      to_a_fault f refl (omega (arith, ap (λ (x : Fault). x.line) is, size)) (omega (arith, ap (λ (x : Fault). x.clause) is, tag_clause b))

pub reached : (all : List Line) → Reached all (reads all)
reached all = reached_from all [] nothing_read place_first

at_most_line : (f : Fault) (k n : ℕ) → f.line ≤ n → f.clause ≤ k → IsBefore f (at k n)
at_most_line f k n h c = go (nat_le n f.line) refl where
  go : (b : Bool) → nat_le n f.line ≡ b → IsBefore f (at k n)
  go true e = let g : n ≤ f.line = search rules in inr (omega (arith, h, g), c)
  go false e = let g : f.line < n = search rules in inl g

failed_most : {A B : Type 0} {g : Fault} (turn : Turn A) (f : A → Turn B) (x : Fault) → turn.0 ≡ Err x → IsBefore x g → AtMost g (followed turn f)
failed_most turn f x e b = followed_most f (record { answer = x; is = e; before = b })

-- after a line at which a tag ends that breaks a clause
tag_then : {front behind : List Line} {l : Line} {k : ℕ} (s : State) → LineTells front l (line_read l s) → TagEnds front l behind k
    → AtMost (at k (length front + 1)) (followed (line_read l s) (to_end behind))
tag_then {front} {behind} {l} {k} s (goes_on {u} e p) t = record { answer = m.answer; is = go (line_read l s).0 (line_read l s).1 e; before = m.before } where
  m : AtMost (at k (length front + 1)) (to_end behind u)
  m = subst (λ (n : ℕ). AtMost (at k n) (to_end behind u)) (length-append front (l ∷ [])) (tag_ends_most behind p t.breaks t.otherwise)

  go : (r : Result State Fault) (es : List Event) → r ≡ Ok u → (go_on r es (to_end behind)).0 ≡ Err m.answer
  go (Ok x) es e = ap (λ (y : State). (to_end behind y).0) (same_ok e) ∙ m.is
  go (Err x) es e = absurd (ok_err (sym e))
tag_then {front} {behind} {l} {k} s (breaks_here j e h b) t =
    failed_most (line_read l s) (to_end behind) (at j (length front + 1)) e (inr (refl, omega (arith, h, least))) where
      least : 11 ≤ k
      least = go t.breaks.breaks where
        go : {A B : Type 0} → ((k ≡ 11) × A) ⊎ ((k ≡ 12) × B) → 11 ≤ k
        go (inl p) = omega (arith, p.0)
        go (inr p) = omega (arith, p.0)
tag_then {front} {behind} {l} s (tag_breaks j e b n) t = failed_most (line_read l s) (to_end behind) (at j (length front)) e (inl (omega arith))

line_most : (front behind : List Line) (l : Line) (k : ℕ) → BreaksHere front l behind k
    → AtMost (at k (length front + 1)) (to_end (front ++ l ∷ behind) nothing_read)
line_most front behind l k b = same_answer (ap (λ (t : Turn State). t.0) (ap (λ (t : Turn State). followed t all_ended) (all_append front
    (l ∷ behind) nothing_read)
    ∙ followed_twice (reads front) (all_read (l ∷ behind)) all_ended)) (go (reached front)) where
      on : {s : State} → Place front s → AtMost (at k (length front + 1)) (line_read l s) ⊎ TagEnds front l behind k
          → AtMost (at k (length front + 1)) (followed (line_read l s) (to_end behind))
      on p (inl m) = followed_most (to_end behind) m
      on {s} p (inr t) = tag_then s (line_tells l p) t

      at_state : {s : State} → (reads front).0 ≡ Ok s → AtMost (at k (length front + 1)) (to_end (l ∷ behind) s)
          → AtMost (at k (length front + 1)) (followed (reads front) (to_end (l ∷ behind)))
      at_state {s} e m = record { answer = m.answer; is = by (reads front).0 (reads front).1 e; before = m.before } where
        by : (r : Result State Fault) (es : List Event) → r ≡ Ok s → (go_on r es (to_end (l ∷ behind))).0 ≡ Err m.answer
        by (Ok x) es e = ap (λ (y : State). (to_end (l ∷ behind) y).0) (same_ok e) ∙ m.is
        by (Err x) es e = absurd (ok_err (sym e))

      go : Reached front (reads front) → AtMost (at k (length front + 1)) (followed (reads front) (to_end (l ∷ behind)))
      go (to_a_fault f e h c) = failed_most (reads front) (to_end (l ∷ behind)) f e (inl (omega (arith, h)))
      go (to_a_place {s} e p) = at_state e (same_answer (ap (λ (t : Turn State). t.0) (to_end_first l behind s)) (on p (here_most p b)))

-- ---- the end

end_most : {all : List Line} {s : State} → Place all s → (at_end s ≡ None → ⊥) → AtMost (at 13 (length all)) (all_ended s)
end_most {all} {s} p n = go (end_tells p) where
  go : EndTells all (at_end s) → AtMost (at 13 (length all)) (all_ended s)
  go (ends_well e) = absurd (n e)
  go (ends_open e b) = record { answer = at 13 (length all); is = ends_badly s _ e; before = inr (refl, lit≤ tt) }
  go (tag_ends_badly k e b) = record { answer = at k (length all); is = ends_badly s _ e; before = inr (refl, omega (arith, tag_clause b)) }

all_most : (all : List Line) → ((s : State) → Place all s → at_end s ≡ None → ⊥) → AtMost (at 13 (length all)) (to_end all nothing_read)
all_most all n = go (reached all) where
  at_state : {s : State} → (reads all).0 ≡ Ok s → AtMost (at 13 (length all)) (all_ended s) → AtMost (at 13 (length all)) (followed (reads all) all_ended)
  at_state {s} e m = record { answer = m.answer; is = by (reads all).0 (reads all).1 e; before = m.before } where
    by : (r : Result State Fault) (es : List Event) → r ≡ Ok s → (go_on r es all_ended).0 ≡ Err m.answer
    by (Ok x) es e = ap (λ (y : State). (all_ended y).0) (same_ok e) ∙ m.is
    by (Err x) es e = absurd (ok_err (sym e))

  go : Reached all (reads all) → AtMost (at 13 (length all)) (to_end all nothing_read)
  go (to_a_fault f e h c) = failed_most (reads all) all_ended f e (at_most_line f 13 (length all) h (omega (arith, c)))
  go (to_a_place {s} e p) = at_state e (end_most p (n s p))

-- if the end breaks nothing, nothing is open and there was a root
end_none : {all : List Line} {s : State} → Place all s → at_end s ≡ None → AreOpenTags all [] × (has_root all ≡ true)
end_none {all} (at_content {os} {w} {n} {root} c u) e = go os root c (sym (fault_open os w n root) ∙ e) where
  go : (os : List Open) (root : Bool) → Content all os w n root → cond (root && (length os == 0)) None (Some (at 13 n)) ≡ None
      → AreOpenTags all [] × (has_root all ≡ true)
  go [] true c e = (none_of c.are_open c.matched, c.rooted) where
    none_of : {tags : List clauses.Tag} → AreOpenTags all tags → AreMatched tags [] → AreOpenTags all []
    none_of d none_matched = d
  go [] false c e = absurd cc
  go (x ∷ os) true c e = absurd (some_none (ap (λ (b : Bool). cond b None (Some (at 13 n))) (sym (not_zero (length os))) ∙ e)) where
    some_none : Some (at 13 n) ≡ None → ⊥
    some_none e = cc
  go (x ∷ os) false c e = absurd cc
end_none (at_tag {os} {t} {n} c) e = absurd (go (tag_read (declared_in os) t.name t.declared t.others) (sym (fault_tag os t n) ∙ e)) where
  go : (r : Result Element ℕ) → reader.unfinished n r ≡ None → ⊥
  go (Ok x) q = some_none q where
    some_none : Some (at 13 n) ≡ None → ⊥
    some_none e = cc
  go (Err k) q = some_none q where
    some_none : Some (at k n) ≡ None → ⊥
    some_none e = cc

pub at_most : {all : List Line} {g : Fault} → Breaks all g → AtMost g (to_end all nothing_read)
at_most {all} (at_line {before} {behind} {clause} {n} l parts q b) =
    subst (λ (m : ℕ). AtMost (at clause m) (to_end all nothing_read)) (sym q)
    (subst (λ (x : List Line). AtMost (at clause (length before + 1)) (to_end x nothing_read)) (sym parts) (line_most before behind l clause b))
at_most {all} (unfinished d) = all_most all (λ s p e. one_or_none (open_same d (end_none p e).0))
at_most {all} (rootless h) = all_most all (λ s p e. true_false (sym (end_none p e).1 ∙ root_not all h))

-- the fault that is returned is the least
pub first_fault : (all : List Line) (f : Fault) → (document_read all).0 ≡ Err f → IsFirstFault all f
unfolding document_read
first_fault all f e = record {
  broken = broken all f e;
  least = λ g b. let m = at_most b in subst (λ (x : Fault). IsBefore x g) (same_err (sym m.is
      ∙ e)) m.before;
}
