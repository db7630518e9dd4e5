-- Lines that break nothing except P13 can be continued to a document, by the end tags of the open elements.
use Rattle.std.proofs.Common.{◌≡◌, ℕ, ◌+◌, Bool, true, false, cond, eqb, List, [], ◌∷◌, ◌++◌, length, None, Ok}
use Rattle.std.proofs.Common.{refl, sym, ap, subst, ◌∙◌, arith, append_assoc, lit<, codes}
use Rattle.std.specs.List.{All, AllByRecursion}
use Rattle.std.specs.Str.{IsUtf8, is_utf8, chars}
use Rattle.std.proofs.lemmas.List.{append-nil}
use Rattle.std.proofs.lemmas.List.Elements.{All-from_recursion, recursion_from_All}
use Rattle.rng_model.specs.names.Names.{is_xml_char}
use Rattle.rng_model.specs.documents.Lines.{Line, lines, with_first}
use Rattle.rng_model.specs.documents.PyxLines as said
use Rattle.rng_model.specs.documents.PyxLines.{Said, QName, IsName, alone, prefixed, Says, says_start, says_end, IsGoodLine, AreGoodLines}
use Rattle.rng_model.specs.documents.PyxLines.{no_lines}
use Rattle.rng_model.specs.documents.PyxLines.{line_and}
use Rattle.rng_model.specs.documents.PyxTrees.{Placed, Event, events_of, IsPyxDocument}
use Rattle.rng_model.specs.documents.PyxClauses as clauses
use Rattle.rng_model.specs.documents.PyxClauses.{AreOpenTags, none_open, one_open}
use Rattle.rng_model.proofs.Examples.Pyx.{good as good_example, a_is_a_name}
use Rattle.pyx.specs.plain.Cuts.{at_byte}
use Rattle.pyx.specs.plain.TagReader.{Element, tag_read, element_name, expanded, is_named_twice}
use Rattle.pyx.specs.plain.Declarations.{namespace_of, found_in, any_forbidden, is_written_twice}
use Rattle.pyx.specs.plain.DocumentReader.{State, Tag, Open, Turn, followed, after_events, declared_in, line_read, all_read, nothing_read, at_end, all_ended}
use Rattle.pyx.specs.plain.DocumentReader.{document_read}
use Rattle.rng_model.specs.documents.Documents.{BeginsDocument}
use Rattle.pyx.proofs.Lines.NamesInLines.{at_none, all_append, differs, ncname_without, utf8_parts, ascii_first, char_first}
use Rattle.pyx.proofs.Input.LineTurns.{sent_before}
use Rattle.pyx.proofs.Input.WholeBytes.{cons_no_feed, lines_ended, lines_cons, lines_nil}
use Rattle.pyx.proofs.Lines.SaidLines.{good, line_said}
use Rattle.pyx.proofs.States.StateSteps.{inside, in_tag, begun, open_of, text_event, end_event, start_event, start_step, end_step, early}
use Rattle.pyx.proofs.Documents.Complete.{complete}
use Rattle.pyx.proofs.Documents.Sound.{sound}
use Rattle.pyx.proofs.States.JoinedText.{has_root, root_in}
use Rattle.pyx.proofs.States.StateAfterLines.{AreMatched, none_matched, one_matched, Content, Within, closed}
use Rattle.pyx.proofs.Documents.Least.{all_append as read_append, all_cons}

-- ---- bytes of lines

unfoldable unlines : List Line → List ℕ
unlines [] = []
unlines (l ∷ ls) = l.bytes ++ 10 ∷ unlines ls

-- the line is ended, and contains no line feed
pub record IsWhole (l : Line) : Type 0 where
  pub ended : l.ended ≡ true
  pub no_feed : at_byte 10 l.bytes ≡ None

whole_line : (l : Line) → l.ended ≡ true → record { bytes = l.bytes; ended = true } ≡ l
whole_line l e = ap (λ (b : Bool). let r : Line = record { bytes = l.bytes; ended = b } in r) (sym e)

lines_of : (ls : List Line) → AllByRecursion IsWhole ls → lines (unlines ls) ≡ ls
unfolding unlines
lines_of [] h = lines_nil
lines_of (l ∷ ls) h = lines_ended l.bytes 10 (unlines ls) h.0.no_feed refl ∙ rw (whole_line l h.0.ended, lines_of ls h.1) refl

abbrev HasNoFeed : Line → Type 0
HasNoFeed l = at_byte 10 l.bytes ≡ None

none_at : at_byte 10 [] ≡ None
unfolding at_byte
none_at = refl

first_without : (c : ℕ) (ls : List Line) → eqb c 10 ≡ false → AllByRecursion HasNoFeed ls → AllByRecursion HasNoFeed (with_first c ls)
first_without c [] e h = (cons_no_feed c [] e none_at, tt)
first_without c (l ∷ ls) e h = (cons_no_feed c l.bytes e h.0, h.1)

pub lines_without : (bytes : List ℕ) → AllByRecursion HasNoFeed (lines bytes)
lines_without [] = subst (AllByRecursion HasNoFeed) (sym lines_nil) tt
lines_without (c ∷ cs) = subst (AllByRecursion HasNoFeed) (sym (lines_cons c cs)) (go (eqb c 10) refl (lines_without cs)) where
  go : (b : Bool) → eqb c 10 ≡ b → AllByRecursion HasNoFeed (lines cs)
      → AllByRecursion HasNoFeed (cond b (record { bytes = []; ended = true } ∷ lines cs) (with_first c (lines cs)))
  go true e h = (none_at, h)
  go false e h = first_without c (lines cs) e h

pub good_whole : {ls : List Line} {xs : List Said} → AreGoodLines ls xs → AllByRecursion HasNoFeed ls → AllByRecursion IsWhole ls
good_whole no_lines h = tt
good_whole (line_and g m) h = (record { ended = g.ended; no_feed = h.0 }, good_whole m h.1)

whole_both : (xs ys : List Line) → AllByRecursion IsWhole xs → AllByRecursion IsWhole ys → AllByRecursion IsWhole (xs ++ ys)
whole_both [] ys h k = k
whole_both (x ∷ xs) ys h k = (h.0, whole_both xs ys h.1 k)

-- ---- the end tag of a start tag

name_without : {written : List ℕ} {name : QName} → IsName written name → at_byte 10 written ≡ None
name_without (alone {local} n) = at_none 10 local (ncname_without 10 local (lit< tt) refl refl n)
name_without (prefixed {prefix = p} {local} m n e) = ap (at_byte 10) e ∙ at_none 10 (p ++ 58 ∷ local)
    (all_append 10 p (58 ∷ local) (ncname_without 10 p (lit< tt) refl refl m) (differs 58 10 refl, ncname_without 10 local (lit< tt) refl refl n))

start_name : {bytes : List ℕ} {name : QName} → Says bytes (said.start name) → (written : List ℕ) × (bytes ≡ 40 ∷ written) × IsName written name
start_name (says_start {written} n) = (written, refl, n)

record EndOf (name : QName) : Type 0 where
  line : Line
  is : IsGoodLine line (said.end name)
  no_feed : at_byte 10 line.bytes ≡ None

end_for : {l : Line} {name : QName} → IsGoodLine l (said.start name) → EndOf name
end_for {l} {name} g =
    let k = start_name g.says in
    let u : IsUtf8 k.0 = (utf8_parts [] k.0 40 (lit< tt) (subst IsUtf8 k.1 g.utf8)).1 in
    let c : AllByRecursion (λ c. is_xml_char c ≡ true) (40 ∷ chars k.0) =
    recursion_from_All (λ c. is_xml_char c ≡ true) (40 ∷ chars k.0) (subst (All (λ c. is_xml_char c ≡ true))
    (ap chars k.1 ∙ char_first 40 k.0 (lit< tt) u) g.characters) in
    record {
      line = record { bytes = 41 ∷ k.0; ended = true };
      is = record {
        ended = refl;
        within = omega (arith, g.within, ap length k.1);
        utf8 = ascii_first 41 k.0 (lit< tt) u;
        characters = subst (All (λ c. is_xml_char c ≡ true)) (sym (char_first 41 k.0 (lit< tt) u))
            (All-from_recursion (λ c. is_xml_char c ≡ true) (41 ∷ chars k.0) (refl, c.1));
        says = says_end k.2;
      };
      no_feed = cons_no_feed 41 k.0 refl (name_without k.2);
    }

-- the end tags of open elements
data Closing : List Open → List Line → Type 0 where
  none_closed : Closing [] []
  one_closed : {o : Open} {os : List Open} {ls : List Line} (l : Line) → IsGoodLine l (said.end o.name) → at_byte 10 l.bytes ≡ None → Closing os ls
      → Closing (o ∷ os) (l ∷ ls)

closing : {tags : List clauses.Tag} {os : List Open} → AreMatched tags os → (ls : List Line) × Closing os ls
closing none_matched = ([], none_closed)
closing (one_matched s p n m) = let e = end_for s.first in let k = closing m in (e.line ∷ k.0, one_closed e.line e.is e.no_feed k.1)

closing_whole : {os : List Open} {ls : List Line} → Closing os ls → AllByRecursion IsWhole ls
closing_whole none_closed = tt
closing_whole (one_closed l g n c) = (record { ended = g.ended; no_feed = n }, closing_whole c)

-- ---- from a state to the end

-- these lines end the document, and hand out these events first
pub record Finishes (s : State) (pending : List Event) : Type 0 where
  pub behind : List Line
  pub whole : AllByRecursion IsWhole behind
  pub last : State
  pub sent : List Event
  pub reads : all_read behind s ≡ good last (pending ++ sent)
  pub ends : at_end last ≡ None

pub read_none : (s : State) → all_read [] s ≡ good s []
unfolding all_read
read_none s = refl

read_line : (l : Line) (ls : List Line) (s t : State) (es : List Event) → line_read l s ≡ good t es → all_read (l ∷ ls) s ≡ after_events es (all_read ls t)
read_line l ls s t es e = all_cons l ls s ∙ rw e refl

ends_here : (n : ℕ) → at_end (inside [] [] n true) ≡ None
unfolding at_end
ends_here n = refl

record Closes (ls : List Line) (os : List Open) (w : List ℕ) (n : ℕ) : Type 0 where
  last : ℕ
  sent : List Event
  reads : all_read ls (inside os w n true) ≡ good (inside [] [] last true) (text_event (n + 1) w ++ sent)

closes : {os : List Open} {ls : List Line} → Closing os ls → (w : List ℕ) (n : ℕ) → (os ≡ [] → w ≡ []) → Closes ls os w n
closes none_closed w n e = rw (e refl) (record { last = n; sent = []; reads = read_none (inside [] [] n true) })
closes (one_closed {o} {os} {ls} l g f c) w n e =
    let k = closes c [] (n + 1) (λ e. refl) in record {
      last = k.last;
      sent = end_event (n + 1) ++ k.sent;
      reads = read_line l ls (inside (o ∷ os) w n true) (inside os [] (n + 1) true) (text_event (n + 1) w ++ end_event (n + 1))
          (line_said g (inside (o ∷ os) w n true) ∙ end_step o os w n true (length l.bytes) o.name refl)
          ∙ ap (after_events (text_event (n + 1) w ++ end_event (n + 1))) k.reads ∙ rw (append_assoc (text_event (n + 1) w) (end_event (n + 1)) k.sent) refl;
    }

finishes_closing : {os : List Open} {ls : List Line} {w : List ℕ} {n : ℕ} → Closing os ls → Closes ls os w n
    → Finishes (inside os w n true) (text_event (n + 1) w)
finishes_closing {ls = ls} c k = record {
  behind = ls;
  whole = closing_whole c;
  last = inside [] [] k.last true;
  sent = k.sent;
  reads = k.reads;
  ends = ends_here k.last;
}

-- inside elements there is a root
opened_root : {front : List Line} {tag : clauses.Tag} {outer : List clauses.Tag} → AreOpenTags front (tag ∷ outer) → has_root front ≡ true
opened_root {front} {tag} {outer} d = go d refl where
  go : {tags : List clauses.Tag} → AreOpenTags front tags → tags ≡ tag ∷ outer → has_root front ≡ true
  go (none_open b) e = absurd cc
  go (one_open {front = before} {attributes} {rest} l o h each n b parts) e =
      subst (λ (x : List Line). has_root x ≡ true) (sym parts) (root_in before l (attributes ++ rest) h)

matched_root : {front : List Line} {tags : List clauses.Tag} {o : Open} {os : List Open} → AreOpenTags front tags → AreMatched tags (o ∷ os)
    → has_root front ≡ true
matched_root d (one_matched s p n m) = opened_root d

-- ---- without a root

abbrev a_name : QName
a_name = record { prefix = None; local = codes "a" }

abbrev start_a : Line
start_a = record { bytes = codes "(a"; ended = true }

start_a_is : IsGoodLine start_a (said.start a_name)
unfolding chars is_utf8 lib.Utf8.encode
start_a_is = good_example (codes "(a") refl refl refl (says_start a_is_a_name)

start_a_no_feed : at_byte 10 (codes "(a") ≡ None
unfolding at_byte
start_a_no_feed = refl

abbrev a_element : Element
a_element = record { name = record { ns = []; local = codes "a" }; attrs = [] }

a_read : tag_read [] a_name [] [] ≡ Ok a_element
unfolding tag_read element_name expanded namespace_of found_in any_forbidden is_written_twice is_named_twice
a_read = refl

-- ---- each state that breaks nothing except P13

finishes_tag : {os : List Open} {ls : List Line} (t : Tag) (n : ℕ) (e : Element) → tag_read (declared_in os) t.name t.declared t.others ≡ Ok e
    → Closing (open_of t ∷ os) ls → Finishes (in_tag os t n) (start_event (n + 1) e)
finishes_tag {os} t n e q (one_closed {ls} l g f c) = by (closes (one_closed {o = open_of t} l g f c) [] n (λ e. refl)) where
  first : line_read l (in_tag os t n) ≡ after_events (start_event (n + 1) e) (line_read l (inside (open_of t ∷ os) [] n true))
  first = line_said g (in_tag os t n) ∙ early os t e n (length l.bytes) (said.end t.name) q refl
      ∙ ap (after_events (start_event (n + 1) e)) (sym (line_said g (inside (open_of t ∷ os) [] n true)))

  all : all_read (l ∷ ls) (in_tag os t n) ≡ after_events (start_event (n + 1) e) (all_read (l ∷ ls) (inside (open_of t ∷ os) [] n true))
  all =
      let turn = line_read l (inside (open_of t ∷ os) [] n true) in
      all_cons l ls (in_tag os t n) ∙ ap (λ (x : Turn State). followed x (all_read ls)) first
      ∙ sent_before turn.0 turn.1 (start_event (n + 1) e) (all_read ls)
      ∙ ap (after_events (start_event (n + 1) e)) (sym (all_cons l ls (inside (open_of t ∷ os) [] n true)))

  by : Closes (l ∷ ls) (open_of t ∷ os) [] n → Finishes (in_tag os t n) (start_event (n + 1) e)
  by k = record {
    behind = l ∷ ls;
    whole = closing_whole (one_closed {o = open_of t} l g f c);
    last = inside [] [] k.last true;
    sent = k.sent;
    reads = all ∙ ap (after_events (start_event (n + 1) e)) k.reads;
    ends = ends_here k.last;
  }

-- one line in front
finishes_line : {s t : State} {es pending : List Event} (l : Line) → IsWhole l → line_read l s ≡ good t es → Finishes t pending → Finishes s es
finishes_line {s} {t} {es} {pending} l w e f = record {
  behind = l ∷ f.behind;
  whole = (w, f.whole);
  last = f.last;
  sent = pending ++ f.sent;
  reads = read_line l f.behind s t es e ∙ ap (after_events es) f.reads;
  ends = f.ends;
}

finishes_first : (w : List ℕ) (n : ℕ) → w ≡ [] → Finishes (inside [] w n false) (text_event (n + 1) w)
finishes_first w n e = rw e (finishes_line start_a (record { ended = refl; no_feed = start_a_no_feed })
    (line_said start_a_is (inside [] [] n false) ∙ start_step [] [] n false 2 a_name refl (lit< tt))
    (finishes_tag (begun 2 a_name) (n + 1) a_element a_read (one_closed {o = open_of (begun 2 a_name)} k.line k.is k.no_feed none_closed))) where
      k : EndOf a_name
      k = end_for start_a_is

pub finishes_content : {front : List Line} {os : List Open} {w : List ℕ} {n : ℕ} {root : Bool} → Content front os w n root
    → Finishes (inside os w n root) (text_event (n + 1) w)
finishes_content {front} {os} {w} {n} {root} c = go os root c where
  go : (os : List Open) (root : Bool) → Content front os w n root → Finishes (inside os w n root) (text_event (n + 1) w)
  go [] false c = finishes_first w n (c.outside refl)
  go [] true c = finishes_closing none_closed (closes none_closed w n c.outside)
  go (o ∷ os) root c =
      let k = closing c.matched in
      subst (λ (b : Bool). Finishes (inside (o ∷ os) w n b) (text_event (n + 1) w)) (sym (matched_root c.are_open c.matched) ∙ c.rooted)
      (finishes_closing k.1 (closes k.1 w n c.outside))

pub finishes_within : {front : List Line} {os : List Open} {t : Tag} {n : ℕ} (e : Element) → Within front os t n
    → tag_read (declared_in os) t.name t.declared t.others ≡ Ok e → Finishes (in_tag os t n) (start_event (n + 1) e)
finishes_within {t = t} {n} e c q = let k = closing (closed e c q).matched in finishes_tag t n e q k.1

-- ---- a document

all_last : (s : State) → at_end s ≡ None → all_ended s ≡ good s []
unfolding all_ended
all_last s e = rw e refl

whole_read : (ls : List Line) (last : State) (es : List Event) → all_read ls nothing_read ≡ good last es → at_end last ≡ None → document_read ls ≡ good last es
unfolding document_read
whole_read ls last es e n = ap (λ (t : Turn State). followed t all_ended) e ∙ ap (after_events es) (all_last last n) ∙ rw append-nil refl

events_same : {s t : State} {es fs : List Event} → good s es ≡ good t fs → es ≡ fs
events_same e = ap (λ (t : Turn State). t.1) e

front_read : (front : List Line) (s : State) (es pending : List Event) → all_read front nothing_read ≡ good s es → (f : Finishes s pending)
    → all_read (front ++ f.behind) nothing_read ≡ good f.last ((es ++ pending) ++ f.sent)
front_read front s es pending e f = read_append front f.behind nothing_read ∙ ap (λ (t : Turn State). followed t (all_read f.behind)) e
    ∙ ap (after_events es) f.reads ∙ rw (append_assoc es pending f.sent) refl

at_lines : (bytes : List ℕ) (ls : List Line) (last : State) (es : List Event) → lines bytes ≡ ls → document_read ls ≡ good last es
    → (tree : Placed) × IsPyxDocument bytes tree × (events_of tree ≡ es)
at_lines bytes ls last es e d =
    let q : document_read (lines bytes) ≡ good last es = ap document_read e ∙ d in
    let t = sound bytes last (ap (λ (t : Turn State). t.0) q) in
    let c = complete bytes t.0 t.1 in
    (t.0, t.1, events_same (sym c.is ∙ q))

-- lines that are read can be continued to a document
pub goes_on : (front : List Line) (s : State) (es pending : List Event) → AllByRecursion IsWhole front → all_read front nothing_read ≡ good s es
    → Finishes s pending → BeginsDocument front (es ++ pending)
goes_on front s es pending w e f =
    let k = lines_of (front ++ f.behind) (whole_both front f.behind w f.whole) in
    let d = at_lines (unlines (front ++ f.behind)) (front ++ f.behind) f.last ((es ++ pending) ++ f.sent) k
    (whole_read (front ++ f.behind) f.last ((es ++ pending) ++ f.sent) (front_read front s es pending e f) f.ends) in
    record { bytes = unlines (front ++ f.behind); behind = f.behind; parts = k; tree = d.0; document = d.1; more = f.sent; events = d.2 }

pub begins_less : {front : List Line} {es : List Event} (fs : List Event) → BeginsDocument front (es ++ fs) → BeginsDocument front es
begins_less {es = es} fs b = record {
  bytes = b.bytes;
  behind = b.behind;
  parts = b.parts;
  tree = b.tree;
  document = b.document;
  more = fs ++ b.more;
  events = b.events ∙ append_assoc es fs b.more;
}
