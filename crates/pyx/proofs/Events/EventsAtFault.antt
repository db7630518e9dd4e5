-- The events that are handed out before a fault are the first events of a document. This document begins with the
-- longest front that breaks nothing except P13.
use Rattle.std.proofs.Common.{◌≡◌, ℕ, ◌+◌, ◌≤◌, ◌<◌, Bool, true, false, List, [], ◌∷◌, ◌++◌, length, Some, None, Result, Ok, Err}
use Rattle.std.proofs.Common.{refl, sym, ap, subst, ◌∙◌, arith, append_assoc, ◌⊎◌, inl, inr, lit≤, rules}
use Rattle.std.specs.Prelude.{nat_le}
use Rattle.std.specs.List.{AllByRecursion}
use Rattle.std.proofs.lemmas.List.{length-append, append-nil}
use Rattle.std.proofs.lemmas.List.Elements.{All-from_recursion}
use Rattle.std.proofs.lemmas.Option.{same_Some, none-some}
use Rattle.pyx.proofs.Documents.Ends.{all_sends}
use Rattle.rng_model.proofs.Options.{same_err}
use Rattle.rng_model.proofs.Members.{same_first, same_rest}
use Rattle.rng_model.specs.documents.Lines.{Line, lines, Fault, IsBefore}
use Rattle.rng_model.specs.documents.PyxLines as said
use Rattle.rng_model.specs.documents.PyxLines.{Said, QName, IsGoodLine}
use Rattle.rng_model.specs.documents.PyxTrees.{Event}
use Rattle.rng_model.specs.documents.PyxClauses as clauses
use Rattle.rng_model.specs.documents.PyxClauses.{BreaksBetween, BreaksHere, Breaks, at_line, unfinished, rootless}
use Rattle.rng_model.specs.documents.Documents.{IsFront, HasLongestFront, BeginsDocument, AreEventsBefore}
use Rattle.pyx.specs.plain.Cuts.{at_byte}
use Rattle.pyx.specs.plain.LineReader.{said_of}
use Rattle.pyx.specs.plain.TagReader.{Element, tag_read}
use Rattle.pyx.specs.plain.DocumentReader as reader
use Rattle.pyx.specs.plain.DocumentReader.{State, Tag, Open, Turn, fault, go_on, followed, after_events, declared_in, tag_ended, line_read, all_read}
use Rattle.pyx.specs.plain.DocumentReader.{nothing_read}
use Rattle.pyx.specs.plain.DocumentReader.{at_end, all_ended, document_read}
use Rattle.pyx.proofs.Lines.LineClauses.{good_line}
use Rattle.pyx.proofs.Lines.SaidLines.{good, line_said}
use Rattle.pyx.proofs.States.StateSteps.{inside, in_tag, text_event, end_event, start_event}
use Rattle.pyx.proofs.States.LineCases.{Move, instruction_passes, attribute_outside, text_joins, text_too_long, text_outside, start_begins, start_too_deep}
use Rattle.pyx.proofs.States.LineCases.{start_again}
use Rattle.pyx.proofs.States.LineCases.{end_closes, end_of_other, end_of_none, moves, TagMove, attribute_added, attribute_too_many, tag_refused, tag_closes}
use Rattle.pyx.proofs.States.LineCases.{tag_moves}
use Rattle.pyx.proofs.States.OpenTags.{begins_none, is_kind, has_kind, marks, no_tag, untagged}
use Rattle.pyx.proofs.States.JoinedText.{says_a_start, says_an_attribute}
use Rattle.pyx.proofs.States.StateAfterLines.{Content, Within, Place, at_content, at_tag, content_first, marks_none, place_first}
use Rattle.pyx.proofs.Documents.Broken.{at, TagBreaks, LineTells, goes_on, breaks_here, tag_breaks, within_few, bad_line, ended_silent, ended_closes}
use Rattle.pyx.proofs.Documents.Broken.{bad_closes, no_tag_ended}
use Rattle.pyx.proofs.Documents.Broken.{not_kind, line_tells, next_place, EndTells, ends_well, ends_open, tag_ends_badly, fault_tag, end_tells, to_end}
use Rattle.pyx.proofs.Documents.Broken.{tag_breaks_all, tag_broken, broken, ok_err, ended_fails}
use Rattle.pyx.proofs.Documents.Least.{at_most, all_append, all_cons, all_nil, to_end_first}
use Rattle.pyx.proofs.Events.ClosingLines.{IsWhole, lines_without, good_whole, Finishes, finishes_content, finishes_within, begins_less, read_none}
use Rattle.pyx.proofs.Events.ClosingLines as closing

-- ---- fronts

between_bound : {before behind : List Line} {l : Line} {k : ℕ} → BreaksBetween before l behind k → k ≤ 12
between_bound (clauses.alone b) = let few = within_few b in omega (arith, few)
between_bound (clauses.no_tag k n) = lit≤ tt
between_bound (clauses.none_to_end k d) = lit≤ tt
between_bound (clauses.other_name e d f n) = lit≤ tt
between_bound (clauses.text_outside k d) = lit≤ tt
between_bound (clauses.second_root a b c k d e f) = lit≤ tt
between_bound (clauses.attributes k t h) = lit≤ tt
between_bound (clauses.elements k d h) = lit≤ tt
between_bound (clauses.joined_text t h) = lit≤ tt
between_bound (clauses.namespaces e n b) = lit≤ tt
between_bound (clauses.repeated_name e n b) = lit≤ tt

here_bound : {before behind : List Line} {l : Line} {k : ℕ} → BreaksHere before l behind k → k ≤ 12
here_bound (clauses.too_long h) = lit≤ tt
here_bound (clauses.within h b) = between_bound b

bounds : {all : List Line} {g : Fault} → Breaks all g → (g.line ≤ length all) × (g.clause ≤ 13)
bounds {all} (at_line {before} {behind} {clause} {n} l parts q b) =
    (omega (arith, q, ap length parts, length-append before (l ∷ behind)), omega (arith, here_bound b))
bounds (unfinished d) = (omega arith, lit≤ tt)
bounds (rootless h) = (omega arith, lit≤ tt)

clause_of : (f g : Fault) → IsBefore f g → (n : ℕ) → f.line ≡ n → f.clause ≡ 13 → g.line ≤ n → g.clause ≤ 13 → g.clause ≡ 13
clause_of f g (inl b) n e c h k = absurd (omega (arith, b, e, h))
clause_of f g (inr b) n e c h k = omega (arith, b.1, c, k)

-- lines are a front if the only fault that is returned is P13
front_by : {ls : List Line} → ((f : Fault) → (to_end ls nothing_read).0 ≡ Err f → f ≡ at 13 (length ls)) → IsFront ls
front_by {ls} h = λ g b.
    let m = at_most b in
    let e = h m.answer m.is in
    let k = bounds b in
    clause_of m.answer g m.before (length ls) (ap (λ (f : Fault). f.line) e) (ap (λ (f : Fault). f.clause) e) k.0 k.1

not_front : {ls : List Line} {f : Fault} → (document_read ls).0 ≡ Err f → f.clause ≤ 12 → IsFront ls → ⊥
not_front {ls} {f} e h i = absurd (omega (arith, h, i f (broken ls f e)))

-- the clauses that a tag breaks
one_of_tag : {A B : Type 0} {k : ℕ} → ((k ≡ 11) × A) ⊎ ((k ≡ 12) × B) → k ≤ 12
one_of_tag (inl p) = omega (arith, p.0)
one_of_tag (inr p) = omega (arith, p.0)

tag_not_front : {ls : List Line} {k : ℕ} → TagBreaks ls k → IsFront ls → ⊥
tag_not_front {ls} {k} b i = absurd (omega (arith, i (at k (length ls)) (tag_breaks_all b begins_none (sym (append-nil ls))), one_of_tag b.breaks))

-- a place where the end breaks nothing except P13
calm_front : {front : List Line} {s : State} {es : List Event} → all_read front nothing_read ≡ good s es
    → (at_end s ≡ None) ⊎ (at_end s ≡ Some (at 13 (length front))) → IsFront front
calm_front {front} {s} {es} r o = front_by (λ f e. go f o (ended_fails s f (ap (λ (t : Turn State). (followed t all_ended).0) (sym r) ∙ e))) where
  go : (f : Fault) → (at_end s ≡ None) ⊎ (at_end s ≡ Some (at 13 (length front))) → at_end s ≡ Some f → f ≡ at 13 (length front)
  go f (inl n) e = absurd (none-some _ (sym n ∙ e))
  go f (inr n) e = same_Some _ _ (sym e ∙ n)

-- ---- what a line hands out

-- these lines are a front, which can be continued so that these events come first
record Calm (front : List Line) (s : State) (pending : List Event) : Type 0 where
  is_front : IsFront front
  finishes : Finishes s pending

calm_content : {front : List Line} {os : List Open} {w : List ℕ} {n : ℕ} {root : Bool} {es : List Event} → Content front os w n root
    → (marks front).within ≡ false → all_read front nothing_read ≡ good (inside os w n root) es → Calm front (inside os w n root) (text_event (n + 1) w)
calm_content {front} {os} {w} {n} {root} c u r = record { is_front = calm_front r (go (end_tells (at_content c u))); finishes = finishes_content c } where
  go : EndTells front (at_end (inside os w n root)) → (at_end (inside os w n root) ≡ None) ⊎ (at_end (inside os w n root) ≡ Some (at 13 (length front)))
  go (ends_well e) = inl e
  go (ends_open e b) = inr e
  go (tag_ends_badly k e b) = absurd (no_tag u b.ends.ends)

calm_within : {front : List Line} {os : List Open} {t : Tag} {n : ℕ} {es : List Event} (e : Element) → Within front os t n
    → tag_read (declared_in os) t.name t.declared t.others ≡ Ok e → all_read front nothing_read ≡ good (in_tag os t n) es
    → Calm front (in_tag os t n) (start_event (n + 1) e)
calm_within {front} {os} {t} {n} e c q r = record {
  is_front = calm_front r (inr (fault_tag os t n ∙ ap (reader.unfinished n) q ∙ ap (λ (m : ℕ). Some (at 13 m)) c.count));
  finishes = finishes_within e c q;
}

-- at a fault: nothing, or the next events in any document
abbrev Handed : List Line → State → Fault → List Event → Type 0
Handed front s f es = (es ≡ []) ⊎ ((f.line ≡ length front + 1) × Calm front s es)

first_is : {turn : Turn State} {r : Result State Fault} {es : List Event} → turn ≡ (r, es) → turn.1 ≡ es
first_is e = ap (λ (t : Turn State). t.1) e

refused : {turn : Turn State} {s : State} {f : Fault} {es : List Event} → turn ≡ good s es → turn.0 ≡ Err f → ⊥
refused e g = ok_err (sym (ap (λ (t : Turn State). t.0) e) ∙ g)

-- a step that fails hands out nothing, and its fault is at its line
move_fails : {w : List ℕ} {n b : ℕ} {root : Bool} {os : List Open} {x : Said} {turn : Turn State} {f : Fault} → Move w n b root os x turn → turn.0 ≡ Err f
    → (turn.1 ≡ []) × (f.line ≡ n + 1)
move_fails (instruction_passes e) g = absurd (refused e g)
move_fails (attribute_outside e) g = (first_is e, ap (λ (f : Fault). f.line) (same_err (sym g ∙ ap (λ (t : Turn State). t.0) e)))
move_fails (text_joins h e) g = absurd (refused e g)
move_fails (text_too_long h e) g = (first_is e, ap (λ (f : Fault). f.line) (same_err (sym g ∙ ap (λ (t : Turn State). t.0) e)))
move_fails (text_outside e) g = (first_is e, ap (λ (f : Fault). f.line) (same_err (sym g ∙ ap (λ (t : Turn State). t.0) e)))
move_fails (start_begins fits h e) g = absurd (refused e g)
move_fails (start_too_deep h e) g = (first_is e, ap (λ (f : Fault). f.line) (same_err (sym g ∙ ap (λ (t : Turn State). t.0) e)))
move_fails (start_again e) g = (first_is e, ap (λ (f : Fault). f.line) (same_err (sym g ∙ ap (λ (t : Turn State). t.0) e)))
move_fails (end_closes q e) g = absurd (refused e g)
move_fails (end_of_other q e) g = (first_is e, ap (λ (f : Fault). f.line) (same_err (sym g ∙ ap (λ (t : Turn State). t.0) e)))
move_fails (end_of_none e) g = (first_is e, ap (λ (f : Fault). f.line) (same_err (sym g ∙ ap (λ (t : Turn State). t.0) e)))

tag_fails : {front : List Line} {os : List Open} {t : Tag} {n b : ℕ} {x : Said} {turn : Turn State} {es : List Event} {f : Fault} → Within front os t n
    → all_read front nothing_read ≡ good (in_tag os t n) es → TagMove os t n b x turn → turn.0 ≡ Err f → Handed front (in_tag os t n) f turn.1
tag_fails c r (attribute_added h e) g = absurd (refused e g)
tag_fails c r (attribute_too_many h e) g = inl (first_is e)
tag_fails c r (tag_refused k p q e) g = inl (first_is e)
tag_fails {front} {os} {t} {n} {f = f} c r (tag_closes {inner} e p q m is) g =
    let k = move_fails m (sym (ap (λ (t : Turn State). t.0) is) ∙ g) in
    let out : start_event (n + 1) e ≡ _ = sym (first_is is ∙ ap (λ (x : List Event). start_event (n + 1) e ++ x) k.0 ∙ append-nil (start_event (n + 1) e)) in
    inr (omega (arith, k.1, c.count), subst (Calm front (in_tag os t n)) out (calm_within e c q r))

bad_fails : {front : List Line} {s : State} {es : List Event} {f : Fault} (l : Line) (k : ℕ) → Place front s → all_read front nothing_read ≡ good s es
    → said_of l ≡ Err k → (line_read l s).0 ≡ Err f → Handed front s f (line_read l s).1
bad_fails l k (at_content {os} {w} {n} {root} c u) r e g = inl (first_is (bad_line l (inside os w n root) k e
    ∙ ap (λ (t : Turn State). followed t (λ t. fault k (t.count + 1))) (no_tag_ended l os w n root)))
bad_fails {front} {f = f} l k (at_tag {os} {t} {n} c) r e g = go (is_kind 65 l.bytes) (tag_read (declared_in os) t.name t.declared t.others) refl refl where
  go : (x : Bool) (y : Result Element ℕ) → is_kind 65 l.bytes ≡ x → tag_read (declared_in os) t.name t.declared t.others ≡ y
      → Handed front (in_tag os t n) f (line_read l (in_tag os t n)).1
  go true y p q = inl (first_is (bad_line l (in_tag os t n) k e
      ∙ ap (λ (t : Turn State). followed t (λ t. fault k (t.count + 1))) (ended_silent l (in_tag os t n) p)))
  go false (Ok x) p q =
      let z = bad_closes l os t n k e p (Ok x) q in
      inr (
        ap (λ (f : Fault). f.line) (same_err (sym g ∙ ap (λ (t : Turn State). t.0) z)) ∙ ap (λ (m : ℕ). m + 1) c.count,
        subst (Calm front (in_tag os t n)) (sym (first_is z)) (calm_within x c q r),
      )
  go false (Err j) p q = inl (first_is (bad_closes l os t n k e p (Err j) q))

line_fails : {front : List Line} {s : State} {es : List Event} {f : Fault} (l : Line) → Place front s → all_read front nothing_read ≡ good s es
    → (line_read l s).0 ≡ Err f → Handed front s f (line_read l s).1
line_fails {front} {s} {es} {f} l p r g = go (said_of l) refl p r g where
  good_fails : (x : Said) → IsGoodLine l x → {s : State} → Place front s → all_read front nothing_read ≡ good s es → (line_read l s).0 ≡ Err f
      → Handed front s f (line_read l s).1
  good_fails x d (at_content {os} {w} {n} {root} c u) r g =
      let z = line_said d (inside os w n root) in
      inl (ap (λ (t : Turn State). t.1) z ∙ (move_fails (moves os w n (length l.bytes) root x) (sym (ap (λ (t : Turn State). t.0) z) ∙ g)).0)
  good_fails x d (at_tag {os} {t} {n} c) r g =
      let z = line_said d (in_tag os t n) in
      subst (Handed front (in_tag os t n) f) (sym (ap (λ (t : Turn State). t.1) z))
      (tag_fails c r (tag_moves os t n (length l.bytes) x) (sym (ap (λ (t : Turn State). t.0) z) ∙ g))

  go : (y : Result Said ℕ) → said_of l ≡ y → {s : State} → Place front s → all_read front nothing_read ≡ good s es → (line_read l s).0 ≡ Err f
      → Handed front s f (line_read l s).1
  go (Ok x) e q r g = good_fails x (good_line l x e) q r g
  go (Err k) e q r g = bad_fails l k q r e g

-- ---- the lines of events

abbrev InTime : ℕ → List Event → Type 0
InTime n es = AllByRecursion (λ e. e.line ≤ n) es

in_time_both : (n : ℕ) (xs ys : List Event) → InTime n xs → InTime n ys → InTime n (xs ++ ys)
in_time_both n [] ys h k = k
in_time_both n (x ∷ xs) ys h k = (h.0, in_time_both n xs ys h.1 k)

in_time_later : {n m : ℕ} (es : List Event) → n ≤ m → InTime n es → InTime m es
in_time_later [] h k = tt
in_time_later (e ∷ es) h k = (omega (arith, h, k.0), in_time_later es h k.1)

text_in_time : (n : ℕ) (w : List ℕ) → InTime n (text_event n w)
text_in_time n [] = tt
text_in_time n (c ∷ w) = (omega arith, tt)

none_out : (n : ℕ) {turn : Turn State} {r : Result State Fault} → turn ≡ (r, []) → InTime n turn.1
none_out n e = subst (InTime n) (sym (first_is e)) tt

move_in_time : {w : List ℕ} {n b : ℕ} {root : Bool} {os : List Open} {x : Said} {turn : Turn State} → Move w n b root os x turn → InTime (n + 1) turn.1
move_in_time (instruction_passes e) = none_out _ e
move_in_time (attribute_outside e) = none_out _ e
move_in_time (text_joins h e) = none_out _ e
move_in_time (text_too_long h e) = none_out _ e
move_in_time (text_outside e) = none_out _ e
move_in_time {w} {n} (start_begins fits h e) = subst (InTime (n + 1)) (sym (first_is e)) (text_in_time (n + 1) w)
move_in_time (start_too_deep h e) = none_out _ e
move_in_time (start_again e) = none_out _ e
move_in_time {w} {n} (end_closes q e) = subst (InTime (n + 1)) (sym (first_is e))
    (in_time_both (n + 1) (text_event (n + 1) w) (end_event (n + 1)) (text_in_time (n + 1) w) (omega arith, tt))
move_in_time (end_of_other q e) = none_out _ e
move_in_time (end_of_none e) = none_out _ e

tag_in_time : {os : List Open} {t : Tag} {n b : ℕ} {x : Said} {turn : Turn State} → TagMove os t n b x turn → InTime (n + 1) turn.1
tag_in_time (attribute_added h e) = none_out _ e
tag_in_time (attribute_too_many h e) = none_out _ e
tag_in_time (tag_refused k p q e) = none_out _ e
tag_in_time {n = n} (tag_closes {inner} e p q m is) = subst (InTime (n + 1)) (sym (first_is is)) (omega arith, move_in_time m)

good_in_time : {front : List Line} {s : State} (l : Line) (x : Said) → Place front s → IsGoodLine l x → InTime (length front + 1) (line_read l s).1
good_in_time {front} l x (at_content {os} {w} {n} {root} c u) d =
    subst (λ (m : ℕ). InTime (m + 1) (line_read l (inside os w n root)).1) c.count
    (subst (λ (t : Turn State). InTime (n + 1) t.1) (sym (line_said d (inside os w n root))) (move_in_time (moves os w n (length l.bytes) root x)))
good_in_time {front} l x (at_tag {os} {t} {n} c) d =
    subst (λ (m : ℕ). InTime (m + 1) (line_read l (in_tag os t n)).1) c.count
    (subst (λ (t : Turn State). InTime (n + 1) t.1) (sym (line_said d (in_tag os t n))) (tag_in_time (tag_moves os t n (length l.bytes) x)))

bad_never : (l : Line) (s u : State) {k : ℕ} → said_of l ≡ Err k → (line_read l s).0 ≡ Ok u → ⊥
bad_never l s u {k} e g = go (tag_ended l.bytes s).0 (tag_ended l.bytes s).1 (sym (ap (λ (t : Turn State). t.0) (bad_line l s k e)) ∙ g) where
  go : (r : Result State Fault) (es : List Event) → (go_on r es (λ t. fault k (t.count + 1))).0 ≡ Ok u → ⊥
  go (Ok x) es q = ok_err (sym q)
  go (Err x) es q = ok_err (sym q)

fail_in_time : {front : List Line} {s : State} {es : List Event} {f : Fault} (l : Line) → Place front s → all_read front nothing_read ≡ good s es
    → (line_read l s).0 ≡ Err f → InTime (length front + 1) (line_read l s).1
fail_in_time {front} l (at_content {os} {w} {n} {root} c u) r g = go (said_of l) refl where
  go : (x : Result Said ℕ) → said_of l ≡ x → InTime (length front + 1) (line_read l (inside os w n root)).1
  go (Ok x) e = good_in_time l x (at_content c u) (good_line l x e)
  go (Err k) e = none_out _ (bad_line l (inside os w n root) k e
      ∙ ap (λ (t : Turn State). followed t (λ t. fault k (t.count + 1))) (no_tag_ended l os w n root))
fail_in_time {front} l (at_tag {os} {t} {n} c) r g = go (said_of l) refl where
  out : (k : ℕ) → said_of l ≡ Err k → (x : Result Element ℕ) → tag_read (declared_in os) t.name t.declared t.others ≡ x → (b : Bool) → is_kind 65 l.bytes ≡ b
      → InTime (n + 1) (line_read l (in_tag os t n)).1
  out k e x q true p = none_out _ (bad_line l (in_tag os t n) k e
      ∙ ap (λ (t : Turn State). followed t (λ t. fault k (t.count + 1))) (ended_silent l (in_tag os t n) p))
  out k e (Ok x) q false p = subst (InTime (n + 1)) (sym (first_is (bad_line l (in_tag os t n) k e
      ∙ ap (λ (t : Turn State). followed t (λ t. fault k (t.count + 1))) (ended_closes l (in_tag os t n) p)
      ∙ ap (λ (y : Result Element ℕ). followed (reader.tag_closed y t (in_tag os t n)) (λ t. fault k (t.count + 1))) q))) (omega arith, tt)
  out k e (Err j) q false p = none_out _ (bad_line l (in_tag os t n) k e
      ∙ ap (λ (t : Turn State). followed t (λ t. fault k (t.count + 1))) (ended_closes l (in_tag os t n) p)
      ∙ ap (λ (y : Result Element ℕ). followed (reader.tag_closed y t (in_tag os t n)) (λ t. fault k (t.count + 1))) q)

  go : (x : Result Said ℕ) → said_of l ≡ x → InTime (length front + 1) (line_read l (in_tag os t n)).1
  go (Ok x) e = good_in_time l x (at_tag c) (good_line l x e)
  go (Err k) e = subst (λ (m : ℕ). InTime (m + 1) (line_read l (in_tag os t n)).1) c.count
      (out k e (tag_read (declared_in os) t.name t.declared t.others) refl (is_kind 65 l.bytes) refl)

-- ---- a line that begins a tag

says_of : (l : Line) (s u : State) → (line_read l s).0 ≡ Ok u → (x : Said) × IsGoodLine l x
says_of l s u g = go (said_of l) refl where
  go : (r : Result Said ℕ) → said_of l ≡ r → (x : Said) × IsGoodLine l x
  go (Ok x) e = (x, good_line l x e)
  go (Err k) e = absurd (bad_never l s u e g)

never : {turn : Turn State} {u : State} {k n : ℕ} → turn ≡ fault k n → turn.0 ≡ Ok u → ⊥
never e g = ok_err (sym g ∙ ap (λ (t : Turn State). t.0) e)

start_move : {w : List ℕ} {n b : ℕ} {root : Bool} {os : List Open} {name : QName} {turn : Turn State} {u : State}
    → Move w n b root os (said.start name) turn → turn.0 ≡ Ok u → turn.1 ≡ text_event (n + 1) w
start_move (start_begins fits h e) g = first_is e
start_move (start_too_deep h e) g = absurd (never e g)
start_move (start_again e) g = absurd (never e g)

start_tag : {front : List Line} {os : List Open} {t : Tag} {n b : ℕ} {name : QName} {turn : Turn State} {es : List Event} {u : State}
    → Within front os t n → all_read front nothing_read ≡ good (in_tag os t n) es → TagMove os t n b (said.start name) turn → turn.0 ≡ Ok u
    → Calm front (in_tag os t n) turn.1
start_tag c r (tag_refused k p q e) g = absurd (never e g)
start_tag {front} {os} {t} {n} c r (tag_closes {inner} e p q m is) g =
    let k : inner.1 ≡ [] = start_move m (sym (ap (λ (t : Turn State). t.0) is) ∙ g) in
    subst (Calm front (in_tag os t n)) (sym (first_is is ∙ ap (λ (x : List Event). start_event (n + 1) e ++ x) k ∙ append-nil (start_event (n + 1) e)))
    (calm_within e c q r)

start_calm : {front : List Line} {s u : State} {es : List Event} {name : QName} (l : Line) → Place front s → all_read front nothing_read ≡ good s es
    → IsGoodLine l (said.start name) → (line_read l s).0 ≡ Ok u → Calm front s (line_read l s).1
start_calm {front} {name = name} l (at_content {os} {w} {n} {root} c u) r d g =
    let z = line_said d (inside os w n root) in
    subst (Calm front (inside os w n root)) (sym (ap (λ (t : Turn State). t.1) z
    ∙ start_move (moves os w n (length l.bytes) root (said.start name)) (sym (ap (λ (t : Turn State). t.0) z) ∙ g)))
    (calm_content c u r)
start_calm {front} {name = name} l (at_tag {os} {t} {n} c) r d g =
    let z = line_said d (in_tag os t n) in
    subst (Calm front (in_tag os t n)) (sym (ap (λ (t : Turn State). t.1) z))
    (start_tag c r (tag_moves os t n (length l.bytes) (said.start name)) (sym (ap (λ (t : Turn State). t.0) z) ∙ g))

-- an `A` line hands out nothing
attribute_move : {w : List ℕ} {n b : ℕ} {root : Bool} {os : List Open} {a : QName} {v : List ℕ} {turn : Turn State}
    → Move w n b root os (said.attribute a v) turn → turn.1 ≡ []
attribute_move (attribute_outside e) = first_is e

attribute_tag : {os : List Open} {t : Tag} {n b : ℕ} {a : QName} {v : List ℕ} {turn : Turn State} → TagMove os t n b (said.attribute a v) turn
    → turn.1 ≡ []
attribute_tag (attribute_added h e) = first_is e
attribute_tag (attribute_too_many h e) = first_is e
attribute_tag (tag_refused k p q e) = first_is e
attribute_tag (tag_closes e p q m is) = absurd cc

attribute_silent : {front : List Line} {s : State} {a : QName} {v : List ℕ} (l : Line) → Place front s → IsGoodLine l (said.attribute a v)
    → (line_read l s).1 ≡ []
attribute_silent {a = a} {v} l (at_content {os} {w} {n} {root} c u) d = ap (λ (t : Turn State). t.1) (line_said d (inside os w n root))
    ∙ attribute_move (moves os w n (length l.bytes) root (said.attribute a v))
attribute_silent {a = a} {v} l (at_tag {os} {t} {n} c) d = ap (λ (t : Turn State). t.1) (line_said d (in_tag os t n))
    ∙ attribute_tag (tag_moves os t n (length l.bytes) (said.attribute a v))

-- ---- fronts of lines

cons_same : {x y : Line} {xs ys : List Line} → x ≡ y → xs ≡ ys → x ∷ xs ≡ y ∷ ys
cons_same e f = cc

-- the longer of two fronts begins with the shorter
longer_front : (more others front behind : List Line) → more ++ others ≡ front ++ behind → length more ≤ length front → (x : List Line) × (front ≡ more ++ x)
longer_front [] others front behind e h = (front, refl)
longer_front (l ∷ more) others [] behind e h = absurd (omega (arith, h))
longer_front (l ∷ more) others (m ∷ front) behind e h =
    let k = longer_front more others front behind (same_rest e) (omega (arith, h)) in (k.0, cons_same (sym (same_first e)) k.1)

beyond : (more others front behind : List Line) (l : Line) → more ++ others ≡ front ++ l ∷ behind → length front < length more
    → (x : List Line) × (more ≡ front ++ l ∷ x)
beyond [] others front behind l e h = absurd (omega (arith, h))
beyond (m ∷ more) others [] behind l e h = (more, cons_same (same_first e) refl)
beyond (m ∷ more) others (k ∷ front) behind l e h =
    let r = beyond more others front behind l (same_rest e) (omega (arith, h)) in (r.0, cons_same (same_first e) r.1)

less_or : (n m : ℕ) → (n ≤ m) ⊎ (m < n)
less_or n m = go (nat_le n m) refl where
  go : (b : Bool) → nat_le n m ≡ b → (n ≤ m) ⊎ (m < n)
  go true e = inl (search rules)
  go false e = inr (search rules)

-- a longest front stays the longest one if no longer lines are a front
stays : {front m all : List Line} (behind : List Line) → HasLongestFront front m → all ≡ front ++ behind
    → ((more others : List Line) → all ≡ more ++ others → length front < length more → IsFront more → ⊥) → HasLongestFront all m
stays {front} {m} {all} behind h e none = record {
  rest = h.rest ++ behind;
  parts = e ∙ ap (λ (x : List Line). x ++ behind) h.parts ∙ append_assoc m h.rest behind;
  is_front = h.is_front;
  longest = λ more others p i. go more others p i (less_or (length more) (length front));
} where
  go : (more others : List Line) → all ≡ more ++ others → IsFront more → (length more ≤ length front) ⊎ (length front < length more) → length more ≤ length m
  go more others p i (inl k) = let x = longer_front more others front behind (sym p ∙ e) k in h.longest more x.0 x.1 i
  go more others p i (inr k) = absurd (none more others p k i)

-- lines that are a front themselves
itself : (ls : List Line) → IsFront ls → HasLongestFront ls ls
itself ls i = record {
  rest = [];
  parts = sym (append-nil ls);
  is_front = i;
  longest = λ more others p k. omega (arith, ap length p, length-append more others);
}

-- ---- line by line

-- the events handed out at these lines begin a document that begins with their longest front
record Sent (front : List Line) (sent : List Event) : Type 0 where
  longest_front : List Line
  longest : HasLongestFront front longest_front
  begins : BeginsDocument longest_front sent
  in_time : InTime (length front) sent

all_next : (front : List Line) (l : Line) (s u : State) (es fs : List Event) → all_read front nothing_read ≡ good s es → line_read l s ≡ good u fs
    → all_read (front ++ l ∷ []) nothing_read ≡ good u (es ++ fs)
all_next front l s u es fs e g = all_append front (l ∷ []) nothing_read ∙ ap (λ (t : Turn State). followed t (all_read (l ∷ []))) e
    ∙ ap (after_events es) (all_cons l [] s ∙ ap (λ (t : Turn State). followed t (all_read [])) g ∙ ap (after_events fs) (read_none u)
    ∙ rw (append-nil fs) refl)

no_more : (front more others : List Line) (l : Line) (x : List Line) → front ++ l ∷ [] ≡ more ++ others → more ≡ front ++ l ∷ x → more ≡ front ++ l ∷ []
no_more front more others l [] e f = f
no_more front more others l (m ∷ x) e f =
    absurd (omega (arith, ap length e, ap length f, length-append front (l ∷ []), length-append more others, length-append front (l ∷ m ∷ x)))

-- the lines are a front, or the tag at their end breaks something
next_by : {S : Type 0} {all : List Line} {t : State} {es : List Event} → Place all t → ((pending : List Event) → Calm all t pending → S)
    → ((k : ℕ) → TagBreaks all k → S) → all_read all nothing_read ≡ good t es → S
next_by (at_content {w} {n} c u) f g r = f (text_event (n + 1) w) (calm_content c u r)
next_by {S} {all} {es = es} (at_tag {os} {t} {n} c) f g r = go (tag_read (declared_in os) t.name t.declared t.others) refl where
  go : (x : Result Element ℕ) → tag_read (declared_in os) t.name t.declared t.others ≡ x → S
  go (Ok e) q = f (start_event (n + 1) e) (calm_within e c q r)
  go (Err k) q = g k (tag_broken c q)

-- one more line
module _ (front : List Line) (l : Line) (s u : State) (es fs : List Event) (place : Place front s) (reads : all_read front nothing_read ≡ good s es)
    (whole : AllByRecursion IsWhole (front ++ l ∷ [])) (sent : Sent front es) (line : line_read l s ≡ good u fs) where
  goes : (line_read l s).0 ≡ Ok u
  goes = ap (λ (t : Turn State). t.0) line

  size : length (front ++ l ∷ []) ≡ length front + 1
  size = length-append front (l ∷ [])

  times : InTime (length (front ++ l ∷ [])) (es ++ fs)
  times = let x = says_of l s u goes in
      in_time_both (length (front ++ l ∷ [])) es fs (in_time_later es (omega (arith, size)) sent.in_time)
      (in_time_later fs (omega (arith, size)) (subst (InTime (length front + 1)) (ap (λ (t : Turn State). t.1) line) (good_in_time l x.0 place x.1)))

  calm_sent : {pending : List Event} → Calm (front ++ l ∷ []) u pending → Sent (front ++ l ∷ []) (es ++ fs)
  calm_sent {pending} c = record {
    longest_front = front ++ l ∷ [];
    longest = itself (front ++ l ∷ []) c.is_front;
    begins = begins_less pending (closing.goes_on (front ++ l ∷ []) u (es ++ fs) pending whole (all_next front l s u es fs reads line) c.finishes);
    in_time = times;
  }

  none_longer : {k : ℕ} → TagBreaks (front ++ l ∷ []) k → (more others : List Line) → front ++ l ∷ [] ≡ more ++ others → length front < length more
      → IsFront more → ⊥
  none_longer b more others p h i =
      let x = beyond more others front [] l (sym p) h in
      tag_not_front b (subst IsFront (no_more front more others l x.0 p x.1) i)

  as_before : {k : ℕ} → TagBreaks (front ++ l ∷ []) k → fs ≡ [] → Sent (front ++ l ∷ []) (es ++ fs)
  as_before b e = record {
    longest_front = sent.longest_front;
    longest = stays (l ∷ []) sent.longest refl (none_longer b);
    begins = subst (BeginsDocument sent.longest_front) (sym (ap (λ (x : List Event). es ++ x) e ∙ append-nil es)) sent.begins;
    in_time = times;
  }

  at_front : {k : ℕ} → TagBreaks (front ++ l ∷ []) k → Calm front s fs → Sent (front ++ l ∷ []) (es ++ fs)
  at_front b c = record {
    longest_front = front;
    longest = stays (l ∷ []) (itself front c.is_front) refl (none_longer b);
    begins = closing.goes_on front s es fs (whole_front front (l ∷ []) whole) reads c.finishes;
    in_time = times;
  } where
    whole_front : (xs ys : List Line) → AllByRecursion IsWhole (xs ++ ys) → AllByRecursion IsWhole xs
    whole_front [] ys h = tt
    whole_front (x ∷ xs) ys h = (h.0, whole_front xs ys h.1)

  broken_sent : {k : ℕ} → TagBreaks (front ++ l ∷ []) k → Sent (front ++ l ∷ []) (es ++ fs)
  broken_sent {k} b = go (is_kind 40 l.bytes) (is_kind 65 l.bytes) refl refl where
    x : (x : Said) × IsGoodLine l x
    x = says_of l s u goes

    out : (line_read l s).1 ≡ fs
    out = ap (λ (t : Turn State). t.1) line

    go : (a c : Bool) → is_kind 40 l.bytes ≡ a → is_kind 65 l.bytes ≡ c → Sent (front ++ l ∷ []) (es ++ fs)
    go true c p q =
        let a = says_a_start x.0 x.1 (has_kind 40 l p) in
        at_front b (subst (Calm front s) out (start_calm l place reads (subst (IsGoodLine l) a.1 x.1) goes))
    go false true p q =
        let a = says_an_attribute x.0 x.1 (has_kind 65 l q) in
        as_before b (sym out ∙ attribute_silent l place (subst (IsGoodLine l) a.2 x.1))
    go false false p q = absurd (no_tag (untagged front l (not_kind 40 l p) (not_kind 65 l q)) b.ends.ends)

  next_sent : Place (front ++ l ∷ []) u → Sent (front ++ l ∷ []) (es ++ fs)
  next_sent p = next_by p (λ pending c. calm_sent c) (λ k b. broken_sent b) (all_next front l s u es fs reads line)

-- ---- a fault

tells_of : {front : List Line} {l : Line} {turn : Turn State} {f : Fault} → LineTells front l turn → turn.0 ≡ Err f → (f.clause ≤ 12) × (length front ≤ f.line)
tells_of (goes_on q p) e = absurd (ok_err (sym q ∙ e))
tells_of (breaks_here k q h b) e = let is = same_err (sym q ∙ e) in
    (omega (arith, ap (λ (x : Fault). x.clause) is, h), omega (arith, ap (λ (x : Fault). x.line) is))
tells_of (tag_breaks k q b n) e = let is = same_err (sym q ∙ e) in
    (omega (arith, ap (λ (x : Fault). x.clause) is, one_of_tag b.breaks), omega (arith, ap (λ (x : Fault). x.line) is))

-- a fault at this line
module _ (front : List Line) (l : Line) (s : State) (es : List Event) (f : Fault) (place : Place front s)
    (reads : all_read front nothing_read ≡ good s es) (fails : (line_read l s).0 ≡ Err f) where
  all_fails : (behind : List Line) → (document_read (front ++ l ∷ behind)).0 ≡ Err f
  unfolding document_read
  all_fails behind = ap (λ (t : Turn State). (followed t all_ended).0) (all_append front (l ∷ behind) nothing_read
      ∙ ap (λ (t : Turn State). followed t (all_read (l ∷ behind))) reads ∙ ap (after_events es) (all_cons l behind s))
      ∙ go (line_read l s).0 (line_read l s).1 fails where
        go : (r : Result State Fault) (fs : List Event) → r ≡ Err f → (followed (after_events es (go_on r fs (all_read behind))) all_ended).0 ≡ Err f
        go (Ok x) fs e = absurd (ok_err e)
        go (Err x) fs e = ap Err (same_err e)

  bound : (f.clause ≤ 12) × (length front ≤ f.line)
  bound = tells_of (line_tells l place) fails

  none_longer_then : (behind more others : List Line) → front ++ l ∷ behind ≡ more ++ others → length front < length more → IsFront more → ⊥
  none_longer_then behind more others p h i =
      let x = beyond more others front behind l (sym p) h in
      not_front (all_fails x.0) bound.0 (subst IsFront x.1 i)

  at_fault : (behind : List Line) → AllByRecursion IsWhole front → Sent front es → AreEventsBefore (front ++ l ∷ behind) f.line (es ++ (line_read l s).1)
  at_fault behind whole sent = go (line_fails l place reads fails) where
    go : Handed front s f (line_read l s).1 → AreEventsBefore (front ++ l ∷ behind) f.line (es ++ (line_read l s).1)
    go (inl e) = subst (AreEventsBefore (front ++ l ∷ behind) f.line) (sym (ap (λ (x : List Event). es ++ x) e ∙ append-nil es)) (record {
      in_time = All-from_recursion (λ e. e.line ≤ f.line) es (in_time_later es bound.1 sent.in_time);
      front = sent.longest_front;
      longest = stays (l ∷ behind) sent.longest refl (none_longer_then behind);
      begins = sent.begins;
    })
    go (inr c) = record {
      in_time = All-from_recursion (λ e. e.line ≤ f.line) (es ++ (line_read l s).1) (in_time_both f.line es (line_read l s).1
          (in_time_later es bound.1 sent.in_time) (subst (λ (n : ℕ). InTime n (line_read l s).1) (sym c.0) times));
      front = front;
      longest = stays (l ∷ behind) (itself front c.1.is_front) refl (none_longer_then behind);
      begins = closing.goes_on front s es (line_read l s).1 whole reads c.1.finishes;
    } where
      times : InTime (length front + 1) (line_read l s).1
      times = fail_in_time l place reads fails

-- ---- all lines

end_line : {all : List Line} {s : State} {f : Fault} → Place all s → (all_ended s).0 ≡ Err f → f.line ≡ length all
end_line {all} {s} {f} p e = go (end_tells p) (ended_fails s f e) where
  go : EndTells all (at_end s) → at_end s ≡ Some f → f.line ≡ length all
  go (ends_well q) k = absurd (none-some _ (sym q ∙ k))
  go (ends_open q b) k = ap (λ (x : Fault). x.line) (same_Some _ _ (sym k ∙ q))
  go (tag_ends_badly j q b) k = ap (λ (x : Fault). x.line) (same_Some _ _ (sym k ∙ q))

at_the_end : {all : List Line} {s : State} {es : List Event} {f : Fault} → Place all s → Sent all es → (all_ended s).0 ≡ Err f
    → AreEventsBefore all f.line (es ++ (all_ended s).1)
at_the_end {all} {s} {es} {f} p sent e =
    subst (AreEventsBefore all f.line) (sym (ap (λ (x : List Event). es ++ x) (all_sends s) ∙ append-nil es)) (record {
      in_time = All-from_recursion (λ e. e.line ≤ f.line) es (subst (λ (n : ℕ). InTime n es) (sym (end_line p e)) sent.in_time);
      front = sent.longest_front;
      longest = sent.longest;
      begins = sent.begins;
    })

abbrev HaveNoFeed : List Line → Type 0
HaveNoFeed ls = AllByRecursion (λ l. at_byte 10 l.bytes ≡ None) ls

place_whole : {front : List Line} {s : State} (behind : List Line) → Place front s → HaveNoFeed (front ++ behind)
    → AllByRecursion IsWhole front
place_whole {front} behind p h = go p where
  cut : (xs ys : List Line) → HaveNoFeed (xs ++ ys)
      → HaveNoFeed xs
  cut [] ys h = tt
  cut (x ∷ xs) ys h = (h.0, cut xs ys h.1)

  go : {s : State} → Place front s → AllByRecursion IsWhole front
  go (at_content c u) = good_whole c.good (cut front behind h)
  go (at_tag c) = good_whole c.good (cut front behind h)

walk : (ls front : List Line) (s : State) (es : List Event) (f : Fault) → Place front s → all_read front nothing_read ≡ good s es → Sent front es
    → HaveNoFeed (front ++ ls) → (to_end ls s).0 ≡ Err f
    → AreEventsBefore (front ++ ls) f.line (es ++ (to_end ls s).1)
walk [] front s es f p r sent h e =
    subst (λ (x : List Line). AreEventsBefore x f.line (es ++ (to_end [] s).1)) (sym (append-nil front))
    (subst (λ (t : Turn State). AreEventsBefore front f.line (es ++ t.1)) (sym (all_nil s))
    (at_the_end p sent (ap (λ (t : Turn State). t.0) (sym (all_nil s)) ∙ e)))
walk (l ∷ ls) front s es f p r sent h e =
    subst (λ (t : Turn State). AreEventsBefore (front ++ l ∷ ls) f.line (es ++ t.1)) (sym (to_end_first l ls s))
    (go (line_read l s).0 (line_read l s).1 refl (ap (λ (t : Turn State). t.0) (sym (to_end_first l ls s)) ∙ e)
    (λ u fs. walk ls (front ++ l ∷ []) u (es ++ fs) f)) where
      both : (front ++ l ∷ []) ++ ls ≡ front ++ l ∷ ls
      both = append_assoc front (l ∷ []) ls

      go : (x : Result State Fault) (fs : List Event) → line_read l s ≡ (x, fs) → (go_on x fs (to_end ls)).0 ≡ Err f
          → ((u : State) (fs : List Event) → Place (front ++ l ∷ []) u → all_read (front ++ l ∷ []) nothing_read ≡ good u (es ++ fs)
          → Sent (front ++ l ∷ []) (es ++ fs)
          → HaveNoFeed ((front ++ l ∷ []) ++ ls) → (to_end ls u).0 ≡ Err f
          → AreEventsBefore ((front ++ l ∷ []) ++ ls) f.line ((es ++ fs) ++ (to_end ls u).1))
          → AreEventsBefore (front ++ l ∷ ls) f.line (es ++ (go_on x fs (to_end ls)).1)
      go (Ok u) fs q g more =
          let q0 : (line_read l s).0 ≡ Ok u = ap (λ (t : Turn State). t.0) q in
          let next = next_place s (line_tells l p) q0 in
          let again = subst HaveNoFeed (sym both) h in
          subst (λ (x : List Event). AreEventsBefore (front ++ l ∷ ls) f.line x) (append_assoc es fs (to_end ls u).1)
          (subst (λ (x : List Line). AreEventsBefore x f.line ((es ++ fs) ++ (to_end ls u).1)) both
          (more u fs next (all_next front l s u es fs r q) (next_sent front l s u es fs p r (place_whole ls next again) sent q next) again g))
      go (Err x) fs q g more =
          let k : x ≡ f = same_err g in
          subst (λ (y : List Event). AreEventsBefore (front ++ l ∷ ls) f.line (es ++ y)) (ap (λ (t : Turn State). t.1) q)
          (at_fault front l s es f p r (ap (λ (t : Turn State). t.0) q ∙ ap Err k) ls (place_whole (l ∷ ls) p h) sent)

sent_none : Sent [] []
sent_none = record {
  longest_front = [];
  longest = itself [] calm.is_front;
  begins = begins_less (text_event 1 []) (closing.goes_on [] nothing_read [] (text_event 1 []) tt (read_none nothing_read) calm.finishes);
  in_time = tt;
} where
  calm : Calm [] nothing_read (text_event 1 [])
  calm = calm_content content_first marks_none (read_none nothing_read)

-- the events that are handed out if a fault is returned
pub events_at_fault : (bytes : List ℕ) (f : Fault) → (document_read (lines bytes)).0 ≡ Err f
    → AreEventsBefore (lines bytes) f.line (document_read (lines bytes)).1
unfolding document_read
events_at_fault bytes f e = walk (lines bytes) [] nothing_read [] f place_first (read_none nothing_read) sent_none (lines_without bytes) e
