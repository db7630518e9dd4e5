-- A line with a text and the line of an end tag behind it, read in one step.
use Rattle.std.proofs.Common.{◌≡◌, ◌∙◌, ◌+◌, ◌<◌, ◌≤◌, ℕ, eqb, Bool, true, false, cond, List, [], ◌∷◌, ◌++◌, length, Option, Some, None, Result, Ok, Err, ap}
use Rattle.std.proofs.Common.{arith, refl, rules, sym}
use Rattle.std.specs.Prelude.{nat_le}
use Rattle.std.specs.List.{list_all}
use Rattle.std.specs.Str.{IsUtf8}
use Rattle.std.proofs.lemmas.Bool.{eqb-true, le-leb}
use Rattle.std.proofs.lemmas.List.{append-nil, nil_from_length}
use Rattle.std.proofs.lemmas.Str.{IsUtf8-append, encode_ascii}
use Rattle.pyx.proofs.Documents.Sound.{goes_first}
use Rattle.rng_model.specs.documents.EventViews.{Hands}
use Rattle.rng_model.specs.documents.Lines.{line_limit, text_limit, Fault}
use Rattle.rng_model.specs.documents.PyxLines as lines
use Rattle.rng_model.specs.documents.PyxTrees.{Event}
use Rattle.rng_model.specs.declared.pyx_fault.PyxFault.{PyxFault}
use Rattle.rng_model.specs.declared.pyx_fault.PyxFault.TheVariants as pyx
use Rattle.pyx.specs.plain.Cuts.{at_byte, at_front, behind}
use Rattle.pyx.specs.plain.DocumentReader.{State, Tag, Turn, after_events, close_tag, declared_in, fault, followed, is_outside, joined_by, judged, line_read}
use Rattle.pyx.specs.plain.DocumentReader.{said_read}
use Rattle.pyx.specs.plain.DocumentReader.{silent, tag_bytes, tag_closed, tag_ended}
use Rattle.pyx.specs.plain.LineReader.{kind_of, named, said_of, text_of}
use Rattle.pyx.specs.plain.Pieces.{Progress, ended_line, line_taken, overlong, read, with_begun}
use Rattle.pyx.specs.plain.PlainBytes.{is_plain}
use Rattle.pyx.specs.plain.TagReader.{Element, tag_read}
use Rattle.pyx.specs.views.View.{Takes}
use Rattle.pyx.proofs.Lines.LineClauses.{said_ended}
use Rattle.pyx.proofs.Input.LineCounts.{line_keeps}
use Rattle.pyx.proofs.Input.LineTurns.{followed_err, followed_ok, followed_same, followed_twice, hands_more}
use Rattle.pyx.proofs.Input.LinesOfPieces.{read_line}
use Rattle.pyx.proofs.Lines.PlainTexts.{good_text, plain_text}
use Rattle.pyx.proofs.Lines.ReplacedEscapes.{unescaped_plain}

-- what a turn hands out comes behind what was handed out before it
pub takes_after : (A : Type 0) {S E : Type 0} (stands : E → E → List Event → Type 0) (a b d : E) (whole turn : Turn S) (es : List Event) (new : S)
    (r : Result A PyxFault) → whole ≡ after_events es turn → Hands stands a b es → Takes r new (Hands stands b d) turn
    → Takes r new (Hands stands a d) whole
takes_after A stands a b d whole turn es new (Ok x) is h t = rw is (t.0, hands_more stands a b d es turn.1 h t.1)
takes_after A stands a b d whole turn es new (Err pyx.Memory) is h t = tt
takes_after A stands a b d whole turn es new (Err (pyx.At clause line)) is h t = rw is (t.0, hands_more stands a b d es turn.1 h t.1)

-- ---- the end of a tag does not change the joined text

same_state : {s t : State} → ◌≡◌ {A = Result State Fault} (Ok s) (Ok t) → t.joined ≡ s.joined
same_state {s} {t} e = let p : s ≡ t = cc in ap (λ (x : State). x.joined) (sym p)

closed_joined : (r : Result Element ℕ) (tag : Tag) (s t : State) → (tag_closed r tag s).0 ≡ Ok t → t.joined ≡ s.joined
closed_joined (Ok x) tag s t e = same_state e
closed_joined (Err k) tag s t e = absurd cc

tag_joined : (bytes : List ℕ) (s t : State) → (tag_ended (45 ∷ bytes) s).0 ≡ Ok t → t.joined ≡ s.joined
unfolding tag_ended
tag_joined bytes s t e = go s.tag e where
  go : (o : Option Tag) → (close_tag o s).0 ≡ Ok t → t.joined ≡ s.joined
  go None e = same_state e
  go (Some tag) e = closed_joined (tag_read (declared_in s.opened) tag.name tag.declared tag.others) tag s t e

-- ---- the two lines

-- the number of bytes in the line of an end tag does not matter
pub end_alike : (n m : ℕ) (name : List ℕ) (s : State) → judged n (named (λ x. lines.end x) name) s ≡ judged m (named (λ x. lines.end x) name) s
unfolding named said_read
end_alike n m name s = search rules

is_text : (text : List ℕ) → at_byte 92 text ≡ None → kind_of (45 ∷ text) ≡ Ok (lines.text text)
unfolding kind_of text_of
is_text text literal = rw (unescaped_plain text literal) refl

-- a fault at the tag in front of the text
pub tag_fails : (A : Type 0) {E : Type 0} (stands : E → E → List Event → Type 0) (a b : E) (s new : State) (text name : List ℕ) (e : PyxFault)
    → Takes {A = A} (Err e) new (Hands stands a b) (tag_ended (45 ∷ []) s)
    → Takes {A = A} (Err e) new (Hands stands a b) (followed (line_read (ended_line (45 ∷ text)) s) (line_read (ended_line (41 ∷ name))))
unfolding line_read tag_ended
tag_fails A stands a b s new text name pyx.Memory t = tt
tag_fails A stands a b s new text name (pyx.At clause line) t =
    let x : Fault = record { clause = clause; line = line } in
    rw (followed_err (tag_ended (45 ∷ text) s) x _ t.0) (refl, t.1)

end_line : (name : List ℕ) (s : State) → s.tag ≡ None → said_of (ended_line (41 ∷ name)) ≡ kind_of (41 ∷ name)
    → line_read (ended_line (41 ∷ name)) s ≡ judged (length (41 ∷ name)) (named (λ x. lines.end x) name) (record s { count = s.count + 1 })
unfolding line_read tag_ended kind_of
end_line name s free good =
    ap (λ o. followed (close_tag o s) (λ s. judged (length (41 ∷ name)) (said_of (ended_line (41 ∷ name))) (record s { count = s.count + 1 }))) free
    ∙ ap (λ r. judged (length (41 ∷ name)) r (record s { count = s.count + 1 })) good

module _ (s u : State) (text name : List ℕ) (began : (tag_ended (45 ∷ []) s).0 ≡ Ok u) (free : u.tag ≡ None) (alone : length s.joined ≡ 0)
    (literal : at_byte 92 text ≡ None) (short : length text < 65536) (good_text : said_of (ended_line (45 ∷ text)) ≡ kind_of (45 ∷ text))
    (good_end : said_of (ended_line (41 ∷ name)) ≡ kind_of (41 ∷ name)) where
  abbrev pub es : List Event
  es = (tag_ended (45 ∷ []) s).1

  abbrev pub both : Turn State
  both = followed (line_read (ended_line (45 ∷ text)) s) (line_read (ended_line (41 ∷ name)))

  none : u.joined ≡ []
  none = nil_from_length u.joined (ap length (tag_joined [] s u began) ∙ alone)

  first : line_read (ended_line (45 ∷ text)) s ≡ after_events (tag_ended (45 ∷ []) s).1 (joined_by text (record u { count = u.count + 1 }))
  unfolding line_read tag_ended said_read
  first = followed_ok (tag_ended (45 ∷ text) s) u (λ (t : State). judged (length (45 ∷ text)) (said_of (ended_line (45 ∷ text))) (record t { count = t.count + 1 })) began
      ∙ ap (λ r. after_events (tag_ended (45 ∷ text) s).1 (judged (length (45 ∷ text)) r (record u { count = u.count + 1 }))) (good_text ∙ is_text text literal)

  pub outside : is_outside u ≡ true → both ≡ after_events es (fault 9 (u.count + 1))
  unfolding joined_by
  outside e =
      let w : joined_by text (record u { count = u.count + 1 }) ≡ fault 9 (u.count + 1) =
      ap (λ b. cond b (fault 9 (u.count + 1)) (cond (nat_le (length u.joined + length text) text_limit)
      (silent (record u { count = u.count + 1; joined = u.joined ++ text })) (fault 10 (u.count + 1)))) e in
      ap (λ (t : Turn State). followed t (line_read (ended_line (41 ∷ name)))) (first ∙ ap (after_events es) w)

  pub inside : (n : ℕ) → is_outside u ≡ false
      → both ≡ after_events es (judged n (named (λ x. lines.end x) name) (record u { joined = text; count = u.count + 1 + 1 }))
  unfolding joined_by
  inside n e =
      let next : State = record u { count = u.count + 1; joined = text } in
      let no : List ℕ = [] in
      let w : joined_by text (record u { count = u.count + 1 }) ≡ silent next =
      ap (λ b. cond b (fault 9 (u.count + 1)) (cond (nat_le (length u.joined + length text) text_limit)
      (silent (record u { count = u.count + 1; joined = u.joined ++ text })) (fault 10 (u.count + 1)))) e
      ∙ ap (λ (j : List ℕ). cond (nat_le (length j + length text) text_limit) (silent (record u { count = u.count + 1; joined = j ++ text }))
      (fault 10 (u.count + 1))) none
      ∙ ap (λ b. cond b (silent next) (fault 10 (u.count + 1))) (le-leb (length no + length text) text_limit (omega (arith, short))) in
      ap (λ (t : Turn State). followed t (line_read (ended_line (41 ∷ name)))) (first ∙ ap (after_events es) w)
      ∙ followed_ok (after_events es (silent next)) next (line_read (ended_line (41 ∷ name))) refl
      ∙ ap (λ (x : List Event). after_events x (line_read (ended_line (41 ∷ name)) next)) (append-nil es)
      ∙ ap (after_events es) (end_line name next free good_end ∙ end_alike (length (41 ∷ name)) n name (record next { count = next.count + 1 }))

-- ---- the bytes of the two lines

pub behind_is : (k : ℕ) (line rest : List ℕ) → Some rest ≡ behind k line → line ≡ k ∷ rest
behind_is k [] rest e = absurd cc
behind_is k (c ∷ cs) rest e = go (eqb c k) refl e where
  go : (b : Bool) → eqb c k ≡ b → Some rest ≡ cond b (Some cs) None → c ∷ cs ≡ k ∷ rest
  go true q e = let same = eqb-true c k q in let p : rest ≡ cs = cc in cc
  go false q e = absurd cc

pub end_behind : (after rest name left : List ℕ) → Some rest ≡ behind 41 after → Some (name, left) ≡ at_byte 10 rest
    → at_byte 10 after ≡ Some (41 ∷ name, left)
unfolding at_byte
end_behind after rest name left e f = ap (at_byte 10) (behind_is 41 after rest e) ∙ ap (at_front 41) (sym f)

plain_line : (k : ℕ) (text : List ℕ) → IsUtf8 (k ∷ []) → IsUtf8 text → list_all is_plain (k ∷ text) ≡ true → length text < 65536
    → said_of (ended_line (k ∷ text)) ≡ kind_of (k ∷ text)
plain_line k text mark u plain short =
    let whole : IsUtf8 (k ∷ text) = IsUtf8-append (k ∷ []) text mark u in
    said_ended (ended_line (k ∷ text)) (omega (arith, short)) refl ∙ good_text (k ∷ text) whole (plain_text (k ∷ text) whole plain)

pub plain_text_line : (text : List ℕ) → IsUtf8 text → list_all is_plain (45 ∷ text) ≡ true → length text < 65536
    → said_of (ended_line (45 ∷ text)) ≡ kind_of (45 ∷ text)
plain_text_line text = plain_line 45 text (45 ∷ [], (refl, ap (λ (b : List ℕ). b ++ []) (encode_ascii 45 (omega arith))))

pub plain_end_line : (name : List ℕ) → IsUtf8 name → list_all is_plain (41 ∷ name) ≡ true → length name < 65536
    → said_of (ended_line (41 ∷ name)) ≡ kind_of (41 ∷ name)
plain_end_line name = plain_line 41 name (41 ∷ [], (refl, ap (λ (b : List ℕ). b ++ []) (encode_ascii 41 (omega arith))))

-- ---- in a piece

-- the two lines at the front of the bytes, and what follows
module _ (p : Progress) (line end : List ℕ) where
  abbrev pub two : Turn State
  two = followed (line_read (ended_line line) p.state) (line_read (ended_line end))

  abbrev pub two_taken : Turn Progress
  two_taken = followed two (λ s. silent (with_begun [] s))

  one_taken : length p.begun ≡ 0 → length line ≤ line_limit
      → line_taken line p ≡ followed (line_read (ended_line line) p.state) (λ s. silent (with_begun [] s))
  unfolding line_taken
  one_taken empty short =
      let none : p.begun ≡ [] = nil_from_length p.begun empty in
      let no : List ℕ = [] in
      ap (λ (b : List ℕ). cond (nat_le (length b + length line) line_limit) (followed (line_read (ended_line (b ++ line)) p.state) (λ s. silent (with_begun [] s)))
      (overlong line p)) none
      ∙ ap (λ b. cond b (followed (line_read (ended_line line) p.state) (λ s. silent (with_begun [] s))) (overlong line p))
      (le-leb (length no + length line) line_limit (omega (arith, short)))

one_more : (line end behind : List ℕ) (s : State) → length end ≤ line_limit
    → followed (line_taken end (with_begun [] s)) (read behind)
    ≡ followed (line_read (ended_line end) s) (λ s. read behind (with_begun [] s))
one_more line end behind s short =
    ap (λ (t : Turn Progress). followed t (read behind)) (one_taken (with_begun [] s) end line (omega arith) short)
    ∙ followed_twice (line_read (ended_line end) s) (λ s. silent (with_begun [] s)) (read behind)
    ∙ followed_same (line_read (ended_line end) s) _ _ (λ s. refl)

-- in the form of the code
pub read_two : (bytes line after end behind : List ℕ) (p : Progress) → Some (line, after) ≡ at_byte 10 bytes → at_byte 10 after ≡ Some (end, behind)
    → length p.begun ≡ 0 → length line ≤ line_limit → length end ≤ line_limit → read bytes p ≡ followed (two_taken p line end) (read behind)
read_two bytes line after end behind p e f empty short tight =
    let first = line_read (ended_line line) p.state in
    let g : State → Turn Progress = λ s. silent (with_begun [] s) in
    read_line bytes line after p e (omega (arith, empty))
    ∙ ap (λ (t : Turn Progress). followed t (read after)) (one_taken p line end empty short)
    ∙ followed_twice first g (read after)
    ∙ followed_same first _ (λ s. followed (line_read (ended_line end) s) (λ s. read behind (with_begun [] s)))
    (λ s. read_line after end behind (with_begun [] s) (sym f) (omega arith) ∙ one_more line end behind s tight)
    ∙ sym (followed_twice (two p line end) g (read behind)
    ∙ followed_same (two p line end) _ (λ s. read behind (with_begun [] s)) (λ s. refl)
    ∙ followed_twice first (line_read (ended_line end)) (λ s. read behind (with_begun [] s)))

-- what the state takes, the reader of pieces takes
pub piece_takes : (A : Type 0) (handed : List Event → Type 0) (turn : Turn State) (begun : List ℕ) (new : State) (r : Result A PyxFault) → length begun ≡ 0
    → Takes r new handed turn → Takes r (with_begun begun new) handed (followed turn (λ s. silent (with_begun [] s)))
piece_takes A handed turn begun new (Ok x) empty t =
    rw (nil_from_length begun empty, followed_ok turn new (λ (s : State). silent (with_begun [] s)) t.0, append-nil turn.1) (refl, t.1)
piece_takes A handed turn begun new (Err pyx.Memory) empty t = tt
piece_takes A handed turn begun new (Err (pyx.At clause line)) empty t =
    let x : Fault = record { clause = clause; line = line } in
    rw (followed_err turn x (λ (s : State). silent (with_begun [] s)) t.0) (refl, t.1)

-- the counts after the two lines
pub two_keep : (p : Progress) (line end : List ℕ) (t : State) → (two p line end).0 ≡ Ok t
    → (t.count ≡ p.state.count + 2) × (tag_bytes t.tag ≤ tag_bytes p.state.tag + length line + length end)
two_keep p line end t e =
    let first = line_read (ended_line line) p.state in
    let w = goes_first first.0 first.1 (line_read (ended_line end)) t e in
    let k = line_keeps (ended_line line) p.state w.0 w.1 in
    let m = line_keeps (ended_line end) w.0 t w.2 in
    (omega (arith, k.0, m.0), omega (arith, k.1, m.1))
