-- Each fault that is returned is a clause that is broken at that line.
use Rattle.std.proofs.Common.{◌≡◌, ℕ, ◌+◌, ◌≤◌, ◌<◌, Bool, true, false, cond, ◌&&◌, List, [], ◌∷◌, ◌++◌, length, Option, Some, None, Result, Ok, Err}
use Rattle.std.proofs.Common.{refl, sym, ap, subst, ◌∙◌, arith, append_assoc, ◌⊎◌, inl, inr, lit≤}
use Rattle.std.specs.Prelude.{◌==◌, ◌≢◌, is_some}
use Rattle.std.proofs.lemmas.List.{length-append, append-nil}
use Rattle.std.proofs.lemmas.Option.{same_Some, none-some}
use Rattle.rng_model.proofs.Options.{same_err, same_ok}
use Rattle.rng_model.specs.documents.Lines.{Line, line_limit, HasKind, Fault, EndsInTag}
use Rattle.rng_model.specs.documents.PyxLines as said
use Rattle.rng_model.specs.documents.PyxLines.{Said, QName, IsGoodLine, BreaksAlone}
use Rattle.rng_model.specs.documents.PyxNamespaces.{WrittenAttribute, NamespaceScope}
use Rattle.rng_model.specs.documents.PyxTrees.{Event}
use Rattle.rng_model.specs.documents.PyxClauses as clauses
use Rattle.rng_model.specs.documents.PyxClauses.{BeginsOtherwise, AreOpenTags, EndsWithTag, EndsInText, BreaksTagNamespaces, RepeatsName, BreaksHere, Breaks}
use Rattle.rng_model.specs.documents.PyxClauses.{at_line}
use Rattle.rng_model.specs.documents.PyxClauses.{unfinished, rootless}
use Rattle.pyx.specs.plain.Cuts.{behind}
use Rattle.pyx.specs.plain.LineReader.{said_of}
use Rattle.pyx.specs.plain.WrittenNames.{written_of}
use Rattle.pyx.specs.plain.TagReader.{Element, tag_read}
use Rattle.pyx.specs.plain.DocumentReader as reader
use Rattle.pyx.specs.plain.DocumentReader.{State, Tag, Open, Turn, fault, silent, go_on, followed, declared_in, close_tag, tag_ended}
use Rattle.pyx.specs.plain.DocumentReader.{line_read}
use Rattle.pyx.specs.plain.DocumentReader.{all_read, nothing_read, at_end, at_last, all_ended, document_read}
use Rattle.rng_model.proofs.LastLines.{tag_is_within}
use Rattle.pyx.proofs.Lines.LineClauses.{BreaksLine, within, too_long, good_line, broken_line}
use Rattle.pyx.proofs.Tags.Answers.{TagTells, tag_tells}
use Rattle.pyx.proofs.Lines.SaidLines.{is_attribute, good, line_said}
use Rattle.pyx.proofs.States.StateSteps.{inside, in_tag, open_of, not_zero}
use Rattle.pyx.proofs.States.LineCases.{Move, instruction_passes, attribute_outside, text_joins, text_too_long, text_outside, start_begins, start_too_deep}
use Rattle.pyx.proofs.States.LineCases.{start_again}
use Rattle.pyx.proofs.States.LineCases.{end_closes, end_of_other, end_of_none, moves, TagMove, attribute_added, attribute_too_many, tag_refused, tag_closes}
use Rattle.pyx.proofs.States.LineCases.{tag_moves}
use Rattle.pyx.proofs.Documents.Complete.{split_length}
use Rattle.pyx.proofs.States.OpenTags.{other_kind, is_kind, kind_is, begins_line, begins_none, open_tag, no_tag}
use Rattle.pyx.proofs.States.JoinedText.{good_kind, good_length, start_line, end_line, text_more, ends_in_text, root_found, no_root}
use Rattle.pyx.proofs.States.StateAfterLines.{AreMatched, none_matched, one_matched, scope_of, matched_scope, matched_declared, matched_length, written_length}
use Rattle.pyx.proofs.States.StateAfterLines.{Content, Within}
use Rattle.pyx.proofs.States.StateAfterLines.{Place, at_content, at_tag, place_first, after_instruction, after_text, after_end, after_start, after_attribute}
use Rattle.pyx.proofs.States.StateAfterLines.{closed}

abbrev pub at : ℕ → ℕ → Fault
at clause line = record { clause = clause; line = line }

abbrev pub failed : {A : Type 0} → ℕ → ℕ → Result A Fault
failed clause line = Err (at clause line)

-- the tag at the end of these lines breaks this clause
pub record TagBreaks (front : List Line) (clause : ℕ) : Type 0 where
  pub outer : NamespaceScope
  pub name : QName
  pub written : List WrittenAttribute
  pub ends : EndsWithTag front outer name written
  pub breaks : ((clause ≡ 11) × BreaksTagNamespaces outer name written) ⊎ ((clause ≡ 12) × RepeatsName outer written)

-- the result of reading a line after these
pub data LineTells (front : List Line) (l : Line) (turn : Turn State) : Type 0 where
  goes_on : {u : State} → turn.0 ≡ Ok u → Place (front ++ l ∷ []) u → LineTells front l turn
  breaks_here : (clause : ℕ) → turn.0 ≡ failed clause (length front + 1) → clause ≤ 10 → ((behind : List Line) → BreaksHere front l behind clause)
      → LineTells front l turn
  tag_breaks : (clause : ℕ) → turn.0 ≡ failed clause (length front) → TagBreaks front clause → (HasKind 65 l → ⊥) → LineTells front l turn

retold : {front : List Line} {l : Line} {turn inner : Turn State} → turn.0 ≡ inner.0 → LineTells front l inner → LineTells front l turn
retold e (goes_on q p) = goes_on (e ∙ q) p
retold e (breaks_here k q h b) = breaks_here k (e ∙ q) h b
retold e (tag_breaks k q b n) = tag_breaks k (e ∙ q) b n

-- ---- open tags

none_open_by : {front : List Line} {tags : List clauses.Tag} → AreOpenTags front tags → AreMatched tags [] → AreOpenTags front []
none_open_by d none_matched = d

-- an end tag with another name
other_end : {front : List Line} {l : Line} {tags : List clauses.Tag} {o : Open} {os : List Open} {name : QName} → IsGoodLine l (said.end name)
    → AreOpenTags front tags → AreMatched tags (o ∷ os) → o.name ≢ name → (behind : List Line) → BreaksHere front l behind 8
other_end {front} {l} {o = o} {name = name} g d (one_matched {tag} s p n m) differs behind =
    let k = end_line g in
    let h = start_line s.first in
    clauses.within g.within (clauses.other_name k.1 d h.1 (λ e. differs (sym h.2 ∙ ap written_of (sym e) ∙ k.2)))

module _ (front : List Line) (l : Line) where
  here : {turn : Turn State} {n : ℕ} (clause : ℕ) → n ≡ length front → turn ≡ fault clause (n + 1) → clause ≤ 10
      → ((behind : List Line) → BreaksHere front l behind clause) → LineTells front l turn
  here clause c e h b = breaks_here clause (ap (λ (t : Turn State). t.0) e ∙ ap (λ (m : ℕ). failed clause (m + 1)) c) h b

  on : {turn : Turn State} {u : State} {es : List Event} → turn ≡ good u es → Place (front ++ l ∷ []) u → LineTells front l turn
  on e p = goes_on (ap (λ (t : Turn State). t.0) e) p

  content_tells : (os : List Open) (w : List ℕ) (n b : ℕ) (root : Bool) (x : Said) (turn : Turn State) → Content front os w n root
      → Move w n b root os x turn → IsGoodLine l x → (is_attribute x ≡ true → EndsInTag front → ⊥) → b ≡ length l.bytes → LineTells front l turn
  content_tells os w n b root x turn c (instruction_passes e) g u z = on e (after_instruction front l c g)
  content_tells os w n b root x turn c (attribute_outside e) g u z =
      here 7 c.count e (lit≤ tt) (λ behind. clauses.within g.within (clauses.no_tag (good_kind g) (u refl)))
  content_tells os w n b root x turn c (text_joins h e) g u z = on e (after_text front l c g h)
  content_tells os w n b root x turn c (text_too_long {v} h e) g u z =
      here 10 c.count e (lit≤ tt) (λ behind. clauses.within g.within (clauses.joined_text
      (text_more l (said.text v) (subst (EndsInText front) c.joined (ends_in_text c.good)) g) (omega (arith, h, length-append w v))))
  content_tells os w n b root x turn c (text_outside e) g u z =
      here 9 c.count e (lit≤ tt) (λ behind. clauses.within g.within (clauses.text_outside (good_kind g) (none_open_by c.are_open c.matched)))
  content_tells os w n b root x turn c (start_begins fits h e) g u z = on e (after_start front l c g h z)
  content_tells os w n b root x turn c (start_too_deep h e) g u z =
      here 10 c.count e (lit≤ tt) (λ behind. clauses.within g.within (clauses.elements (good_kind g) c.are_open (omega (arith, h, matched_length c.matched))))
  content_tells os w n b root x turn c (start_again e) g u z =
      let r = root_found front c.rooted in
      here 9 c.count e (lit≤ tt)
      (λ behind. clauses.within g.within (clauses.second_root r.front r.rest r.root (good_kind g) (none_open_by c.are_open c.matched) r.parts r.opens))
  content_tells os w n b root x turn c (end_closes q e) g u z = on e (after_end front l c g)
  content_tells os w n b root x turn c (end_of_other q e) g u z = here 8 c.count e (lit≤ tt) (other_end g c.are_open c.matched q)
  content_tells os w n b root x turn c (end_of_none e) g u z =
      here 8 c.count e (lit≤ tt) (λ behind. clauses.within g.within (clauses.none_to_end (good_kind g) (none_open_by c.are_open c.matched)))

-- ---- tags

pub tag_lines : {front : List Line} {os : List Open} {t : Tag} {n : ℕ} (c : Within front os t n) → length c.ends.others ≡ length t.declared + length t.others
tag_lines c = omega (arith, good_length c.says_tag.attributes, written_length c.says_tag.are_written, split_length c.split)

pub tag_broken : {front : List Line} {os : List Open} {t : Tag} {n clause : ℕ} (c : Within front os t n)
    → tag_read (declared_in os) t.name t.declared t.others ≡ Err clause → TagBreaks front clause
tag_broken {front} {os} {t} {n} {clause} c q = record {
  outer = scope_of os;
  name = t.name;
  written = c.written;
  ends = record { ends = c.ends; says = c.says_tag; around = c.tags; are_open = c.are_open; scope = matched_scope c.matched };
  breaks = go (subst (TagTells (declared_in os) t.name c.written t.declared t.others) q
      (tag_tells (declared_in os) t.name c.written t.declared t.others c.split (matched_declared c.matched)));
} where
  go : TagTells (declared_in os) t.name c.written t.declared t.others (Err clause)
      → ((clause ≡ 11) × BreaksTagNamespaces (scope_of os) t.name c.written) ⊎ ((clause ≡ 12) × RepeatsName (scope_of os) c.written)
  go (inl b) = inl b
  go (inr b) = inr (b.0, b.1.twice)

false_true : false ≡ true → ⊥
false_true e = cc

plain_not : (x : Said) (l : Line) → IsGoodLine l x → is_attribute x ≡ false → HasKind 65 l → ⊥
plain_not (said.attribute a v) l g e h = false_true (sym e)
plain_not (said.start name) l g e h = other_kind 40 65 l (λ q. absurd (omega (arith, q))) (good_kind g) h
plain_not (said.text v) l g e h = other_kind 45 65 l (λ q. absurd (omega (arith, q))) (good_kind g) h
plain_not (said.end name) l g e h = other_kind 41 65 l (λ q. absurd (omega (arith, q))) (good_kind g) h
plain_not said.instruction l g e h = other_kind 63 65 l (λ q. absurd (omega (arith, q))) (good_kind g) h

tag_line_tells : (front : List Line) (l : Line) (os : List Open) (t : Tag) (n b : ℕ) (x : Said) (turn : Turn State) → Within front os t n
    → TagMove os t n b x turn → IsGoodLine l x → b ≡ length l.bytes → LineTells front l turn
tag_line_tells front l os t n b x turn c (attribute_added {a} {v} h e) g z = on front l e (after_attribute front l b a v c g h z)
tag_line_tells front l os t n b x turn c (attribute_too_many h e) g z =
    here front l 10 c.count e (lit≤ tt) (λ behind. clauses.within g.within (clauses.attributes (good_kind g) c.ends (omega (arith, h, tag_lines c))))
tag_line_tells front l os t n b x turn c (tag_refused k p q e) g z =
    tag_breaks k (ap (λ (r : Turn State). r.0) e ∙ ap (failed k) c.count) (tag_broken c q) (plain_not x l g p)
tag_line_tells front l os t n b x turn c (tag_closes {inner} e p q m is) g z =
    retold (ap (λ (r : Turn State). r.0) is) (content_tells front l (open_of t ∷ os) [] n b true x inner (closed e c q) m g
    (λ k. absurd (false_true (sym p ∙ k))) z)

-- ---- lines that break something by themselves

pub within_few : {l : Line} {k : ℕ} → BreaksAlone l k → k ≤ 6
within_few (said.unended e) = lit≤ tt
within_few (said.no_utf8 n) = lit≤ tt
within_few (said.no_xml_char u n) = lit≤ tt
within_few (said.no_kind n) = lit≤ tt
within_few (said.bad_text e n) = lit≤ tt
within_few (said.bad_value e c n) = lit≤ tt
within_few (said.bad_start_name e n) = lit≤ tt
within_few (said.bad_end_name e n) = lit≤ tt
within_few (said.bad_attribute_name e c n) = lit≤ tt
within_few (said.no_space e n) = lit≤ tt

-- a clause that a line breaks by itself is at most 6, or the line is too long
pub alone_few : {l : Line} {k : ℕ} → BreaksLine l k → (k ≤ 6) ⊎ ((k ≡ 10) × (line_limit < length l.bytes))
alone_few (within h b) = inl (within_few b)
alone_few (too_long h) = inr (refl, h)

-- so it is broken wherever the line is
line_breaks : {before behind : List Line} {l : Line} {clause : ℕ} → BreaksLine l clause → BreaksHere before l behind clause
line_breaks (within h b) = clauses.within h (clauses.alone b)
line_breaks (too_long h) = clauses.too_long h

at_most_ten : {k : ℕ} {P : Type 0} → (k ≤ 6) ⊎ ((k ≡ 10) × P) → k ≤ 10
at_most_ten (inl h) = omega (arith, h)
at_most_ten (inr h) = omega (arith, h.0)

pub bad_line : (l : Line) (s : State) (k : ℕ) → said_of l ≡ Err k → line_read l s ≡ followed (tag_ended l.bytes s) (λ t. fault k (t.count + 1))
unfolding line_read
bad_line l s k e = rw e refl

some_if : (b : Bool) (cs : List ℕ) → is_some (cond b (Some cs) None) ≡ b
some_if true cs = refl
some_if false cs = refl

behind_kind : (k : ℕ) (bytes : List ℕ) → is_some (behind k bytes) ≡ is_kind k bytes
behind_kind k [] = refl
behind_kind k (c ∷ cs) = some_if (is_kind k (c ∷ cs)) cs

pub ended_silent : (l : Line) (s : State) → is_kind 65 l.bytes ≡ true → tag_ended l.bytes s ≡ silent s
unfolding tag_ended
ended_silent l s e = rw (behind_kind 65 l.bytes, e) refl

pub ended_closes : (l : Line) (s : State) → is_kind 65 l.bytes ≡ false → tag_ended l.bytes s ≡ close_tag s.tag s
unfolding tag_ended
ended_closes l s e = rw (behind_kind 65 l.bytes, e) refl

pub no_tag_ended : (l : Line) (os : List Open) (w : List ℕ) (n : ℕ) (root : Bool) → tag_ended l.bytes (inside os w n root) ≡ silent (inside os w n root)
no_tag_ended l os w n root = go (is_kind 65 l.bytes) refl where
  go : (b : Bool) → is_kind 65 l.bytes ≡ b → tag_ended l.bytes (inside os w n root) ≡ silent (inside os w n root)
  go true e = ended_silent l (inside os w n root) e
  go false e = ended_closes l (inside os w n root) e

pub not_kind : (k : ℕ) (l : Line) → is_kind k l.bytes ≡ false → HasKind k l → ⊥
not_kind k l e h = false_true (sym e ∙ kind_is k l h)

-- a line that breaks a clause, and no attribute, ends the start tag
pub bad_closes : (l : Line) (os : List Open) (t : Tag) (n k : ℕ) → said_of l ≡ Err k → is_kind 65 l.bytes ≡ false
    → (r : Result Element ℕ) → tag_read (declared_in os) t.name t.declared t.others ≡ r
    → line_read l (in_tag os t n) ≡ followed (reader.tag_closed r t (in_tag os t n)) (λ t. fault k (t.count + 1))
bad_closes l os t n k e p r q = bad_line l (in_tag os t n) k e
    ∙ ap (λ (t : Turn State). followed t (λ t. fault k (t.count + 1))) (ended_closes l (in_tag os t n) p)
    ∙ ap (λ (x : Result Element ℕ). followed (reader.tag_closed x t (in_tag os t n)) (λ t. fault k (t.count + 1))) q

bad_tells : {front : List Line} {s : State} (l : Line) (k : ℕ) → Place front s → said_of l ≡ Err k → LineTells front l (line_read l s)
bad_tells {front} l k (at_content {os} {w} {n} {root} c u) e =
    let b = broken_line l k e in
    here front l k c.count (bad_line l (inside os w n root) k e ∙ ap (λ (t : Turn State). followed t (λ t. fault k (t.count + 1))) (no_tag_ended l os w n root))
    (at_most_ten (alone_few b)) (λ behind. line_breaks b)
bad_tells {front} l k (at_tag {os} {t} {n} c) e = go (is_kind 65 l.bytes) (tag_read (declared_in os) t.name t.declared t.others) refl refl where
  b : BreaksLine l k
  b = broken_line l k e

  go : (x : Bool) (r : Result Element ℕ) → is_kind 65 l.bytes ≡ x → tag_read (declared_in os) t.name t.declared t.others ≡ r
      → LineTells front l (line_read l (in_tag os t n))
  go true r p q = here front l k c.count (bad_line l (in_tag os t n) k e
      ∙ ap (λ (t : Turn State). followed t (λ t. fault k (t.count + 1))) (ended_silent l (in_tag os t n) p))
      (at_most_ten (alone_few b)) (λ behind. line_breaks b)
  go false (Ok x) p q = breaks_here k (ap (λ (r : Turn State). r.0) (bad_closes l os t n k e p (Ok x) q)
      ∙ ap (λ (m : ℕ). failed k (m + 1)) c.count)
      (at_most_ten (alone_few b)) (λ behind. line_breaks b)
  go false (Err j) p q = tag_breaks j (ap (λ (r : Turn State). r.0) (bad_closes l os t n k e p (Err j) q) ∙ ap (failed j) c.count)
      (tag_broken c q) (not_kind 65 l p)

good_tells : {front : List Line} {s : State} (l : Line) (x : Said) → Place front s → IsGoodLine l x → LineTells front l (line_read l s)
good_tells {front} l x (at_content {os} {w} {n} {root} c u) g = retold (ap (λ (t : Turn State). t.0) (line_said g (inside os w n root)))
    (content_tells front l os w n (length l.bytes) root x _ c (moves os w n (length l.bytes) root x) g (λ e. no_tag u) refl)
good_tells {front} l x (at_tag {os} {t} {n} c) g = retold (ap (λ (t : Turn State). t.0) (line_said g (in_tag os t n)))
    (tag_line_tells front l os t n (length l.bytes) x _ c (tag_moves os t n (length l.bytes) x) g refl)

pub line_tells : {front : List Line} {s : State} (l : Line) → Place front s → LineTells front l (line_read l s)
line_tells {front} {s} l p = go (said_of l) refl where
  go : (r : Result Said ℕ) → said_of l ≡ r → LineTells front l (line_read l s)
  go (Ok x) e = good_tells l x p (good_line l x e)
  go (Err k) e = bad_tells l k p e

-- ---- all lines

record LastLine (ls : List Line) : Type 0 where
  front : List Line
  last : Line
  parts : ls ≡ front ++ last ∷ []

last_line : (l : Line) (ls : List Line) → LastLine (l ∷ ls)
last_line l [] = record { front = []; last = l; parts = refl }
last_line l (m ∷ ls) = let r = last_line m ls in record { front = l ∷ r.front; last = r.last; parts = ap (λ (x : List Line). l ∷ x) r.parts }

last_after : (front : List Line) (l : Line) (ls : List Line) → LastLine (front ++ l ∷ ls)
last_after front l ls = let r = last_line l ls in
    record { front = front ++ r.front; last = r.last; parts = rw (r.parts) (sym (append_assoc front r.front (r.last ∷ []))) }

last_of_tag : {front : List Line} → EndsInTag front → LastLine front
last_of_tag {front} e = subst LastLine (sym e.parts) (last_after e.front e.tag e.others)

tag_here : {before behind : List Line} {l : Line} {clause : ℕ} → TagBreaks (before ++ l ∷ []) clause → BeginsOtherwise 65 behind
    → BreaksHere before l behind clause
tag_here {before} {behind} {l} {clause} b n = go b.breaks where
  go : ((clause ≡ 11) × BreaksTagNamespaces b.outer b.name b.written) ⊎ ((clause ≡ 12) × RepeatsName b.outer b.written) → BreaksHere before l behind clause
  go (inl p) = subst (BreaksHere before l behind) (sym p.0) (clauses.within (tag_is_within before l b.ends) (clauses.namespaces b.ends n p.1))
  go (inr p) = subst (BreaksHere before l behind) (sym p.0) (clauses.within (tag_is_within before l b.ends) (clauses.repeated_name b.ends n p.1))

pub tag_breaks_all : {front behind all : List Line} {clause : ℕ} → TagBreaks front clause → BeginsOtherwise 65 behind → all ≡ front ++ behind
    → Breaks all (at clause (length front))
tag_breaks_all {front} {behind} {all} {clause} b n parts =
    let e = last_of_tag b.ends.ends in
    at_line {before = e.front} {behind = behind} e.last (parts ∙ ap (λ (x : List Line). x ++ behind) e.parts ∙ append_assoc e.front (e.last ∷ []) behind)
    (ap length e.parts ∙ length-append e.front (e.last ∷ []))
    (tag_here (subst (λ (x : List Line). TagBreaks x clause) e.parts b) n)

-- ---- the end

pub ok_err : {A : Type 0} {x : A} {f : Fault} → ◌≡◌ {A = Result A Fault} (Ok x) (Err f) → ⊥
ok_err e = cc

-- the result at the end
pub data EndTells (all : List Line) (o : Option Fault) : Type 0 where
  ends_well : o ≡ None → EndTells all o
  ends_open : o ≡ Some (at 13 (length all)) → Breaks all (at 13 (length all)) → EndTells all o
  tag_ends_badly : (clause : ℕ) → o ≡ Some (at clause (length all)) → TagBreaks all clause → EndTells all o

open_at_end : {all : List Line} {tags : List clauses.Tag} {o : Open} {os : List Open} → AreOpenTags all tags → AreMatched tags (o ∷ os)
    → Breaks all (at 13 (length all))
open_at_end d (one_matched s p n m) = unfinished d

pub fault_open : (os : List Open) (w : List ℕ) (n : ℕ) (root : Bool)
    → at_end (inside os w n root) ≡ cond (root && (length os == 0)) None (Some (at 13 n))
unfolding at_end
fault_open os w n root = refl

pub fault_tag : (os : List Open) (t : Tag) (n : ℕ)
    → at_end (in_tag os t n) ≡ reader.unfinished n (tag_read (declared_in os) t.name t.declared t.others)
unfolding at_end
fault_tag os t n = refl

pub end_tells : {all : List Line} {s : State} → Place all s → EndTells all (at_end s)
end_tells {all} (at_content {os} {w} {n} {root} c u) = go os root c (fault_open os w n root) where
  go : (os : List Open) (root : Bool) → Content all os w n root → {o : Option Fault} → o ≡ cond (root && (length os == 0)) None (Some (at 13 n))
      → EndTells all o
  go [] true c e = ends_well e
  go [] false c e = ends_open (e ∙ ap (λ (m : ℕ). Some (at 13 m)) c.count) (rootless (no_root all c.rooted))
  go (x ∷ os) true c e = ends_open (e ∙ ap (λ (b : Bool). cond b None (Some (at 13 n))) (not_zero (length os)) ∙ ap (λ (m : ℕ). Some (at 13 m)) c.count)
      (open_at_end c.are_open c.matched)
  go (x ∷ os) false c e = ends_open (e ∙ ap (λ (m : ℕ). Some (at 13 m)) c.count) (open_at_end c.are_open c.matched)
end_tells {all} (at_tag {os} {t} {n} c) = go (tag_read (declared_in os) t.name t.declared t.others) refl (fault_tag os t n) where
  go : (r : Result Element ℕ) → tag_read (declared_in os) t.name t.declared t.others ≡ r
      → at_end (in_tag os t n) ≡ reader.unfinished n (tag_read (declared_in os) t.name t.declared t.others) → EndTells all (at_end (in_tag os t n))
  go (Ok e) q p = ends_open (p ∙ ap (reader.unfinished n) q ∙ ap (λ (m : ℕ). Some (at 13 m)) c.count) (unfinished (open_tag c.ends c.are_open))
  go (Err k) q p = tag_ends_badly k (p ∙ ap (reader.unfinished n) q ∙ ap (λ (m : ℕ). Some (at k m)) c.count) (tag_broken c q)

last_fails : (o : Option Fault) (s : State) (f : Fault) → (at_last o s).0 ≡ Err f → o ≡ Some f
last_fails None s f e = absurd (ok_err e)
last_fails (Some g) s f e = ap Some (same_err e)

pub ended_fails : (s : State) (f : Fault) → (all_ended s).0 ≡ Err f → at_end s ≡ Some f
unfolding all_ended
ended_fails s f e = last_fails (at_end s) s f e

end_broken : {all : List Line} {s : State} {f : Fault} → Place all s → (all_ended s).0 ≡ Err f → Breaks all f
end_broken {all} {s} {f} p e = go (end_tells p) (ended_fails s f e) where
  go : EndTells all (at_end s) → at_end s ≡ Some f → Breaks all f
  go (ends_well q) k = absurd (none-some _ (sym q ∙ k))
  go (ends_open q b) k = subst (Breaks all) (same_Some _ _ (sym q ∙ k)) b
  go (tag_ends_badly j q b) k = subst (Breaks all) (same_Some _ _ (sym q ∙ k)) (tag_breaks_all b begins_none (sym (append-nil all)))

abbrev pub to_end : List Line → State → Turn State
to_end ls s = followed (all_read ls s) all_ended

to_end_nil : (s : State) (f : Fault) → (to_end [] s).0 ≡ Err f → (all_ended s).0 ≡ Err f
unfolding all_read
to_end_nil s f e = e

-- the first line fails, or the others do
pub first_or_rest : (r : Result State Fault) (es : List Event) (g h : State → Turn State) (f : Fault) → (followed (go_on r es g) h).0 ≡ Err f
    → (r ≡ Err f) ⊎ ((u : State) × (r ≡ Ok u) × ((followed (g u) h).0 ≡ Err f))
first_or_rest (Err x) es g h f e = inl e
first_or_rest (Ok u) es g h f e = inr (u, refl, inner (g u).0 (g u).1 (es ++ (g u).1) e) where
  inner : (r : Result State Fault) (es fs : List Event) → (go_on r fs h).0 ≡ Err f → (go_on r es h).0 ≡ Err f
  inner (Ok v) es fs e = e
  inner (Err v) es fs e = e

to_end_cons : (l : Line) (ls : List Line) (s : State) (f : Fault) → (to_end (l ∷ ls) s).0 ≡ Err f
    → ((line_read l s).0 ≡ Err f) ⊎ ((u : State) × ((line_read l s).0 ≡ Ok u) × ((to_end ls u).0 ≡ Err f))
unfolding all_read
to_end_cons l ls s f e = first_or_rest (line_read l s).0 (line_read l s).1 (all_read ls) all_ended f e

broken_first : {front : List Line} {l : Line} (ls : List Line) (s : State) {f : Fault} → LineTells front l (line_read l s) → (line_read l s).0 ≡ Err f
    → Breaks (front ++ l ∷ ls) f
broken_first ls s (goes_on q p) e = absurd (ok_err (sym q ∙ e))
broken_first {front} {l} ls s (breaks_here k q h b) e =
    subst (Breaks (front ++ l ∷ ls)) (same_err (sym q ∙ e)) (at_line {before = front} {behind = ls} l refl refl (b ls))
broken_first {front} {l} ls s (tag_breaks k q b n) e =
    subst (Breaks (front ++ l ∷ ls)) (same_err (sym q ∙ e)) (tag_breaks_all b (begins_line l ls n) refl)

pub next_place : {front : List Line} {l : Line} {u : State} (s : State) → LineTells front l (line_read l s) → (line_read l s).0 ≡ Ok u
    → Place (front ++ l ∷ []) u
next_place {front} {l} s (goes_on q p) e = subst (Place (front ++ l ∷ [])) (same_ok (sym q ∙ e)) p
next_place s (breaks_here k q h b) e = absurd (ok_err (sym e ∙ q))
next_place s (tag_breaks k q b n) e = absurd (ok_err (sym e ∙ q))

broken_from : (ls front : List Line) (s : State) (f : Fault) → Place front s → (to_end ls s).0 ≡ Err f → Breaks (front ++ ls) f
broken_from [] front s f p e = subst (λ (x : List Line). Breaks x f) (sym (append-nil front)) (end_broken p (to_end_nil s f e))
broken_from (l ∷ ls) front s f p e = go (to_end_cons l ls s f e) (λ u q. broken_from ls (front ++ l ∷ []) u f q) where
  go : ((line_read l s).0 ≡ Err f) ⊎ ((u : State) × ((line_read l s).0 ≡ Ok u) × ((to_end ls u).0 ≡ Err f))
      → ((u : State) → Place (front ++ l ∷ []) u → (to_end ls u).0 ≡ Err f → Breaks ((front ++ l ∷ []) ++ ls) f) → Breaks (front ++ l ∷ ls) f
  go (inl q) more = broken_first ls s (line_tells l p) q
  go (inr q) more = subst (λ (x : List Line). Breaks x f) (append_assoc front (l ∷ []) ls) (more q.0 (next_place s (line_tells l p) q.1) q.2)

-- the fault that is returned is broken
pub broken : (all : List Line) (f : Fault) → (document_read all).0 ≡ Err f → Breaks all f
unfolding document_read
broken all f e = broken_from all [] nothing_read f place_first e
