-- Each event is handed out at its line. The events up to a line depend only on the lines up to it.
use Rattle.std.proofs.Common.{◌≡◌, ℕ, suc, ◌+◌, ◌≤◌, ◌<◌, Bool, true, false, cond, ◌&&◌, List, [], ◌∷◌, ◌++◌, length, take, drop, Option, Some, None}
use Rattle.std.proofs.Common.{Result, Ok, Err}
use Rattle.std.proofs.Common.{refl, ap, sym, ◌∙◌, subst, arith, All, zero, append_assoc}
use Rattle.std.specs.Prelude.{◌==◌, nat_le, is_some}
use Rattle.std.specs.List.{AllByRecursion}
use Rattle.std.proofs.lemmas.List.{append-nil, length-append, length-take-le, take-append-drop}
use Rattle.std.proofs.lemmas.List.Elements.{All-from_recursion}
use Rattle.pyx.proofs.Documents.Ends.{last_sends}
use Rattle.rng_model.specs.documents.Lines.{Line, lines, attribute_limit, open_limit, text_limit, Fault}
use Rattle.rng_model.specs.documents.PyxLines as said
use Rattle.rng_model.specs.documents.PyxLines.{Said, QName}
use Rattle.rng_model.specs.documents.PyxNamespaces.{WrittenAttribute}
use Rattle.rng_model.specs.documents.PyxTrees.{Event, a_string, an_end, Placed, events_of, IsPyxDocument}
use Rattle.pyx.specs.plain.Cuts.{behind}
use Rattle.pyx.specs.plain.LineReader.{said_of}
use Rattle.pyx.specs.plain.TagReader.{Element, tag_read}
use Rattle.pyx.specs.plain.DocumentReader.{State, Tag, Open, Turn, silent, go_on, followed, tag_closed, close_tag, tag_ended, text_ended, begin_tag, is_outside}
use Rattle.pyx.specs.plain.DocumentReader.{started, add_attribute, attributed, joined_by, around, end_in, ended, said_read, judged, line_read, declared_in}
use Rattle.pyx.specs.plain.DocumentReader.{all_read, nothing_read, at_end, all_ended, document_read}
use Rattle.pyx.specs.plain.Declarations.{same_written}
use Rattle.pyx.proofs.Input.LineCounts.{tag_ended_keeps, text_within, line_keeps}
use Rattle.pyx.proofs.Documents.Least.{all_append}
use Rattle.pyx.proofs.Documents.Complete.{complete}

-- ---- the events of one line

abbrev AreAt : ℕ → List Event → Type 0
AreAt n es = AllByRecursion (λ e. e.line ≡ n) es

at_both : (n : ℕ) (xs ys : List Event) → AreAt n xs → AreAt n ys → AreAt n (xs ++ ys)
at_both n [] ys h k = k
at_both n (x ∷ xs) ys h k = (h.0, at_both n xs ys h.1 k)

go_at : (n : ℕ) (f : State → Turn State) (r : Result State Fault) (es : List Event) → AreAt n es → ((t : State) → r ≡ Ok t → AreAt n (f t).1)
    → AreAt n (go_on r es f).1
go_at n f (Ok s) es h k = at_both n es (f s).1 h (k s refl)
go_at n f (Err e) es h k = h

if_at : (n : ℕ) (b : Bool) (x y : Turn State) → AreAt n x.1 → AreAt n y.1 → AreAt n (cond b x y).1
if_at n true x y h k = h
if_at n false x y h k = k

closed_at : (r : Result Element ℕ) (t : Tag) (s : State) → AreAt (s.count + 1) (tag_closed r t s).1
closed_at (Ok e) t s = (refl, tt)
closed_at (Err k) t s = tt

tag_at : (o : Option Tag) (s : State) → AreAt (s.count + 1) (close_tag o s).1
tag_at None s = tt
tag_at (Some t) s = closed_at (tag_read (declared_in s.opened) t.name t.declared t.others) t s

ended_at : (bytes : List ℕ) (s : State) → AreAt (s.count + 1) (tag_ended bytes s).1
unfolding tag_ended
ended_at bytes s = if_at (s.count + 1) (is_some (behind 65 bytes)) (silent s) (close_tag s.tag s) tt (tag_at s.tag s)

text_at : (s : State) → AreAt s.count (text_ended s).1
unfolding text_ended
text_at s =
    if_at s.count (length s.joined == 0) (silent s) (Ok (record s { joined = [] }), record { line = s.count; kind = a_string s.joined } ∷ []) tt (refl, tt)

started_at : (bytes : ℕ) (name : QName) (s : State) → AreAt s.count (started bytes name s).1
unfolding started
started_at bytes name s =
    if_at s.count (s.root && is_outside s) _ _ tt
    (if_at s.count (nat_le open_limit (length s.opened)) _ _ tt
    (go_at s.count (λ s. silent (begin_tag bytes name s)) (text_ended s).0 (text_ended s).1 (text_at s) (λ t e. tt)))

attribute_at : (o : Option Tag) (bytes : ℕ) (a : WrittenAttribute) (s : State) → AreAt s.count (add_attribute o bytes a s).1
attribute_at None bytes a s = tt
attribute_at (Some t) bytes a s = if_at s.count (nat_le attribute_limit (length t.declared + length t.others)) _ _ tt tt

joined_at : (value : List ℕ) (s : State) → AreAt s.count (joined_by value s).1
unfolding joined_by
joined_at value s = if_at s.count (is_outside s) _ _ tt (if_at s.count (nat_le (length s.joined + length value) text_limit) _ _ tt tt)

end_at : (os : List Open) (name : QName) (s : State) → AreAt s.count (end_in os name s).1
end_at [] name s = tt
end_at (o ∷ outer) name s =
    if_at s.count (same_written o.name name) _ _
    (go_at s.count (λ s. (Ok (record s { opened = around s.opened }), record { line = s.count; kind = an_end } ∷ [])) (text_ended s).0 (text_ended s).1
    (text_at s) (λ t e. (((text_within s).at t e).0, tt))) tt

said_at : (bytes : ℕ) (x : Said) (s : State) → AreAt s.count (said_read bytes x s).1
unfolding said_read attributed ended
said_at bytes (said.start name) s = started_at bytes name s
said_at bytes (said.attribute name value) s = attribute_at s.tag bytes (record { name = name; content = value }) s
said_at bytes (said.text value) s = joined_at value s
said_at bytes (said.end name) s = end_at s.opened name s
said_at bytes said.instruction s = tt

judged_at : (bytes : ℕ) (r : Result Said ℕ) (s : State) → AreAt s.count (judged bytes r s).1
judged_at bytes (Ok x) s = said_at bytes x s
judged_at bytes (Err k) s = tt

line_at : (l : Line) (s : State) → AreAt (s.count + 1) (line_read l s).1
unfolding line_read
line_at l s =
    go_at (s.count + 1) (λ s. judged (length l.bytes) (said_of l) (record s { count = s.count + 1 })) (tag_ended l.bytes s).0 (tag_ended l.bytes s).1
    (ended_at l.bytes s) (λ t e.
    subst (λ n. AreAt (n + 1) (judged (length l.bytes) (said_of l) (record t { count = t.count + 1 })).1) (tag_ended_keeps l.bytes s t e).0
    (judged_at (length l.bytes) (said_of l) (record t { count = t.count + 1 })))

-- ---- the events of some lines

-- these events come after this many lines, at one of the next lines
abbrev AreBetween : ℕ → ℕ → List Event → Type 0
AreBetween n m es = AllByRecursion (λ e. (n < e.line) × (e.line ≤ m)) es

between_both : (n m : ℕ) (xs ys : List Event) → AreBetween n m xs → AreBetween n m ys → AreBetween n m (xs ++ ys)
between_both n m [] ys h k = k
between_both n m (x ∷ xs) ys h k = (h.0, between_both n m xs ys h.1 k)

between_wider : {n m k l : ℕ} (es : List Event) → k ≤ n → m ≤ l → AreBetween n m es → AreBetween k l es
between_wider [] p q h = tt
between_wider (e ∷ es) p q h = ((omega (arith, p, h.0.0), omega (arith, q, h.0.1)), between_wider es p q h.1)

next_between : (n m : ℕ) (es : List Event) → n + 1 ≤ m → AreAt (n + 1) es → AreBetween n m es
next_between n m [] p h = tt
next_between n m (e ∷ es) p h = ((omega (arith, h.0), omega (arith, h.0, p)), next_between n m es p h.1)

all_between : (ls : List Line) (s : State) → AreBetween s.count (s.count + length ls) (all_read ls s).1
unfolding all_read
all_between [] s = tt
all_between (l ∷ ls) s = go (line_read l s).0 (line_read l s).1 refl (line_at l s) (all_between ls) where
  go : (r : Result State Fault) (es : List Event) → (line_read l s).0 ≡ r → AreAt (s.count + 1) es
      → ((u : State) → AreBetween u.count (u.count + length ls) (all_read ls u).1) → AreBetween s.count (s.count + length (l ∷ ls)) (go_on r es (all_read ls)).1
  go (Ok u) es e at more =
      let next = (line_keeps l s u e).0 in
      between_both s.count (s.count + length (l ∷ ls)) es (all_read ls u).1 (next_between s.count (s.count + length (l ∷ ls)) es (omega arith) at)
      (between_wider (all_read ls u).1 (omega (arith, next)) (omega (arith, next)) (more u))
  go (Err f) es e at more = next_between s.count (s.count + length (l ∷ ls)) es (omega arith) at

all_counted : (ls : List Line) (s u : State) → (all_read ls s).0 ≡ Ok u → u.count ≡ s.count + length ls
unfolding all_read
all_counted [] s u e = let same : s ≡ u = cc in ap (λ t. t.count) (sym same) ∙ omega arith
all_counted (l ∷ ls) s u e = go (line_read l s).0 (line_read l s).1 refl e (λ t. all_counted ls t u) where
  go : (r : Result State Fault) (es : List Event) → (line_read l s).0 ≡ r → (go_on r es (all_read ls)).0 ≡ Ok u
      → ((t : State) → (all_read ls t).0 ≡ Ok u → u.count ≡ t.count + length ls) → u.count ≡ s.count + length (l ∷ ls)
  go (Ok t) es h e more = let next = (line_keeps l s t h).0 in let rest = more t e in omega (arith, next, rest)
  go (Err f) es h e more = absurd (cc)

-- ---- the events of a document, up to a line and after it

end_silent : (t : Turn State) → (followed t all_ended).1 ≡ t.1
unfolding all_ended
end_silent t = go t.0 t.1 where
  go : (r : Result State Fault) (es : List Event) → (go_on r es all_ended).1 ≡ es
  go (Ok s) es = ap (λ l. es ++ l) (last_sends (at_end s) s) ∙ append-nil es
  go (Err f) es = refl

long_enough : (n : ℕ) (ls : List Line) → n ≤ length ls → length (take n ls) ≡ n
long_enough n ls le = length-take-le n ls le

record AreCut (all : List Line) (n : ℕ) (events : List Event) : Type 0 where
  later : List Event
  parts : events ≡ (all_read (take n all) nothing_read).1 ++ later
  in_time : AreBetween 0 n (all_read (take n all) nothing_read).1
  behind : AreBetween n (length all) later

-- the events that are handed out when these lines are read
cut_read : (all : List Line) (n : ℕ) → n ≤ length all → AreCut all n (document_read all).1
unfolding document_read
cut_read all n le = subst (AreCut all n) (sym whole) (go (all_read (take n all) nothing_read).0 (all_read (take n all) nothing_read).1 refl) where
  long : length (take n all) ≡ n
  long = long_enough n all le

  whole : (followed (all_read all nothing_read) all_ended).1 ≡ (followed (all_read (take n all) nothing_read) (all_read (drop n all))).1
  whole = end_silent (all_read all nothing_read) ∙ ap (λ (t : Turn State). t.1) (ap (λ ls. all_read ls nothing_read) (sym (take-append-drop n all))
      ∙ all_append (take n all) (drop n all) nothing_read)

  in_time : AreBetween 0 n (all_read (take n all) nothing_read).1
  in_time = between_wider (all_read (take n all) nothing_read).1 (omega arith) (omega (arith, long)) (all_between (take n all) nothing_read)

  go : (r : Result State Fault) (es : List Event) → all_read (take n all) nothing_read ≡ (r, es) → AreCut all n (go_on r es (all_read (drop n all))).1
  go (Ok t) es is =
      let counted = all_counted (take n all) nothing_read t (ap (λ x. x.0) is) in
      let sizes = ap length (take-append-drop n all) in
      let both = length-append (take n all) (drop n all) in
      record {
        later = (all_read (drop n all) t).1;
        parts = ap (λ l. l ++ (all_read (drop n all) t).1) (sym (ap (λ x. x.1) is));
        in_time = in_time;
        behind = between_wider (all_read (drop n all) t).1 (omega (arith, counted, long)) (omega (arith, counted, long, sizes, both))
            (all_between (drop n all) t);
      }
  go (Err f) es is = record {
    later = [];
    parts = sym (ap (λ x. x.1) is) ∙ sym (append-nil (all_read (take n all) nothing_read).1);
    in_time = in_time;
    behind = tt;
  }

-- these are the events that are handed out when the bytes are read, whether or not they are a document
abbrev pub AreReported : List ℕ → List Event → Type 0
AreReported bytes events = (document_read (lines bytes)).1 ≡ events

pub reported_of : (bytes : List ℕ) (d : Placed) → IsPyxDocument bytes d → AreReported bytes (events_of d)
reported_of bytes d is = ap (λ (t : Turn State). t.1) (complete bytes d is).is

cut_at : (bytes : List ℕ) (events : List Event) (n : ℕ) → AreReported bytes events → n ≤ length (lines bytes) → AreCut (lines bytes) n events
cut_at bytes events n is le = subst (AreCut (lines bytes) n) is (cut_read (lines bytes) n le)

-- those of the first n lines, and the others, which come at later lines
pub record AreParted (bytes : List ℕ) (n : ℕ) (events : List Event) : Type 0 where
  pub later : List Event
  pub parts : events ≡ (all_read (take n (lines bytes)) nothing_read).1 ++ later
  pub behind : All (λ e. n < e.line) later

after : (n m : ℕ) (es : List Event) → AreBetween n m es → AllByRecursion (λ e. n < e.line) es
after n m [] h = tt
after n m (e ∷ es) h = (h.0.0, after n m es h.1)

pub parted_at : (bytes : List ℕ) (events : List Event) (n : ℕ) → AreReported bytes events → n ≤ length (lines bytes) → AreParted bytes n events
parted_at bytes events n is le =
    let cut = cut_at bytes events n is le in
    record {
      later = cut.later;
      parts = cut.parts;
      behind = All-from_recursion (λ e. n < e.line) cut.later (after n (length (lines bytes)) cut.later cut.behind);
    }

-- if the first n members are the same, and one list has at least n members, so has the other
pub as_long : (n : ℕ) (xs ys : List Line) → take n xs ≡ take n ys → n ≤ length ys → n ≤ length xs
as_long zero xs ys e le = omega arith
as_long (suc n) [] [] e le = le
as_long (suc n) [] (y ∷ ys) e le = absurd (cc)
as_long (suc n) (x ∷ xs) [] e le = absurd (omega (arith, le))
as_long (suc n) (x ∷ xs) (y ∷ ys) e le =
    let rest : take n xs ≡ take n ys = cc in
    let more = as_long n xs ys rest (omega (arith, le)) in
    omega (arith, more)

-- ---- one event of a document

there : (P : Event → Type 0) (xs ys : List Event) (e : Event) → AllByRecursion P (xs ++ e ∷ ys) → P e
there P [] ys e h = h.0
there P (x ∷ xs) ys e h = there P xs ys e h.1

behind_all : (P : Event → Type 0) (xs ys : List Event) (e : Event) → AllByRecursion P (xs ++ e ∷ ys) → AllByRecursion P ys
behind_all P [] ys e h = h.1
behind_all P (x ∷ xs) ys e h = behind_all P xs ys e h.1

not_behind : (n m : ℕ) (xs ys before : List Event) (e : Event) (behind : List Event) → xs ++ ys ≡ before ++ e ∷ behind → AreBetween n m ys → e.line ≤ n
    → (more : List Event) × (xs ≡ before ++ e ∷ more)
not_behind n m [] ys before e behind h all le =
    let late = (there (λ e. (n < e.line) × (e.line ≤ m)) before behind e (subst (AreBetween n m) h all)).0 in absurd (omega (arith, late, le))
not_behind n m (x ∷ xs) ys [] e behind h all le = let same : x ≡ e = cc in (xs, ap (λ y. y ∷ xs) same)
not_behind n m (x ∷ xs) ys (b ∷ before) e behind h all le =
    let same : x ≡ b = cc in
    let rest : xs ++ ys ≡ before ++ e ∷ behind = cc in
    let more = not_behind n m xs ys before e behind rest all le in
    (more.0, rw (same, more.1) refl)

not_before : (n : ℕ) (xs ys before : List Event) (e : Event) (behind : List Event) → xs ++ ys ≡ before ++ e ∷ behind → AreBetween 0 n xs → n < e.line
    → (mid : List Event) × (ys ≡ mid ++ e ∷ behind)
not_before n [] ys before e behind h all lt = (before, h)
not_before n (x ∷ xs) ys [] e behind h all lt = let same : x ≡ e = cc in let le = all.0.1 in let l = ap (λ y. y.line) same in absurd (omega (arith, le, l, lt))
not_before n (x ∷ xs) ys (b ∷ before) e behind h all lt = let rest : xs ++ ys ≡ before ++ e ∷ behind = cc in not_before n xs ys before e behind rest all.1 lt

-- no line before it, and all of them
all_cut : (bytes : List ℕ) (events : List Event) → AreReported bytes events → AreBetween 0 (length (lines bytes)) events
all_cut bytes events is = let cut = cut_at bytes events 0 is (omega arith) in
    subst (AreBetween 0 (length (lines bytes))) (sym cut.parts) (between_both 0 (length (lines bytes))
    (all_read (take 0 (lines bytes)) nothing_read).1 cut.later
    (between_wider (all_read (take 0 (lines bytes)) nothing_read).1 (omega arith) (omega arith) cut.in_time)
    cut.behind)

-- it comes at one of the lines
pub reported_line : (bytes : List ℕ) (events before : List Event) (e : Event) (after : List Event) → AreReported bytes events
    → events ≡ before ++ e ∷ after → (1 ≤ e.line) × (e.line ≤ length (lines bytes))
reported_line bytes events before e after is parts =
    let all = subst (AreBetween 0 (length (lines bytes))) parts (all_cut bytes events is) in
    let at = there (λ e. (0 < e.line) × (e.line ≤ length (lines bytes))) before after e all in
    let first = at.0 in
    (omega (arith, first), at.1)

pub event_line : (bytes : List ℕ) (d : Placed) (before : List Event) (e : Event) (after : List Event) → IsPyxDocument bytes d
    → events_of d ≡ before ++ e ∷ after → (1 ≤ e.line) × (e.line ≤ length (lines bytes))
event_line bytes d before e after is parts = reported_line bytes (events_of d) before e after (reported_of bytes d is) parts

late : (n m : ℕ) (es : List Event) → AreBetween n m es → AllByRecursion (λ u. n + 1 ≤ u.line) es
late n m [] h = tt
late n m (e ∷ es) h = let first = h.0.0 in (omega (arith, first), late n m es h.1)

one_more : (n : ℕ) → n + 1 ≡ suc n
one_more n = omega arith

-- the events after it do not come at a line before its own
pub lines_rise : (bytes : List ℕ) (d : Placed) (before : List Event) (e : Event) (after : List Event) → IsPyxDocument bytes d
    → events_of d ≡ before ++ e ∷ after → All (λ u. e.line ≤ u.line) after
lines_rise bytes d before e after is parts = go e.line refl where
  at : (1 ≤ e.line) × (e.line ≤ length (lines bytes))
  at = event_line bytes d before e after is parts

  go : (n : ℕ) → e.line ≡ n → All (λ u. e.line ≤ u.line) after
  go zero h = let first = at.0 in absurd (omega (arith, h, first))
  go (suc n) h =
      let last = at.1 in
      let cut = cut_at bytes (events_of d) n (reported_of bytes d is) (omega (arith, h, last)) in
      let mid = not_before n (all_read (take n (lines bytes)) nothing_read).1 cut.later before e after (sym cut.parts ∙ parts) cut.in_time (omega (arith, h)) in
      let all = subst (AreBetween n (length (lines bytes))) mid.1 cut.behind in
      All-from_recursion (λ u. e.line ≤ u.line) after
      (subst (λ k. AllByRecursion (λ u. k ≤ u.line) after) (one_more n ∙ sym h)
      (late n (length (lines bytes)) after (behind_all (λ u. (n < u.line) × (u.line ≤ length (lines bytes))) mid.0 after e all)))

-- a document with the same lines up to its line has the same events up to it
pub reported_front : (bytes bytes' : List ℕ) (events : List Event) (d' : Placed) (n : ℕ) (before : List Event) (e : Event) (after : List Event)
    → AreReported bytes events → IsPyxDocument bytes' d' → n ≤ length (lines bytes) → n ≤ length (lines bytes')
    → take n (lines bytes) ≡ take n (lines bytes') → events ≡ before ++ e ∷ after → e.line ≤ n
    → (more : List Event) × (events_of d' ≡ (before ++ e ∷ []) ++ more)
reported_front bytes bytes' events d' n before e after is is' le le' same parts at =
    let cut = cut_at bytes events n is le in
    let cut' = cut_at bytes' (events_of d') n (reported_of bytes' d' is') le' in
    let front = not_behind n (length (lines bytes)) (all_read (take n (lines bytes)) nothing_read).1 cut.later before e after
    (sym cut.parts ∙ parts) cut.behind at in (
      front.0 ++ cut'.later,
      cut'.parts ∙ ap (λ ls. (all_read ls nothing_read).1 ++ cut'.later) (sym same) ∙ ap (λ l. l ++ cut'.later) front.1
          ∙ append_assoc before (e ∷ front.0) cut'.later ∙ sym (append_assoc before (e ∷ []) (front.0 ++ cut'.later)),
    )

pub same_front : (bytes bytes' : List ℕ) (d d' : Placed) (n : ℕ) (before : List Event) (e : Event) (after : List Event) → IsPyxDocument bytes d
    → IsPyxDocument bytes' d' → n ≤ length (lines bytes) → n ≤ length (lines bytes') → take n (lines bytes) ≡ take n (lines bytes')
    → events_of d ≡ before ++ e ∷ after → e.line ≤ n → (more : List Event) × (events_of d' ≡ (before ++ e ∷ []) ++ more)
same_front bytes bytes' d d' n before e after is = reported_front bytes bytes' (events_of d) d' n before e after (reported_of bytes d is)
