-- The lines of bytes that were fed, and the documents with the same first lines.
use Rattle.std.proofs.Common.{◌≡◌, ℕ, zero, suc, ◌≤◌, ◌<◌, Bool, true, false, eqb, List, [], ◌∷◌, ◌++◌, All, length, take, None, Result, Ok, Err}
use Rattle.std.proofs.Common.{refl, ap, sym, ◌∙◌, subst, arith, append_assoc, ◌⊎◌, inl, inr}
use Rattle.std.proofs.lemmas.Bool.{cases_lt}
use Rattle.std.proofs.lemmas.List.{append-nil}
use Rattle.std.proofs.lemmas.List.Elements.{All-append, All-cons, All-head, All-nil, All-tail, All-weaker}
use Rattle.rng_model.proofs.Options.{ok_is_err}
use Rattle.rng_model.specs.documents.Lines.{Line, line_limit, lines, Fault}
use Rattle.rng_model.specs.documents.PyxTrees.{Event, Placed, IsPyxDocument, events_of}
use Rattle.pyx.specs.plain.DocumentReader.{State, Turn, document_read, all_read, followed, go_on, line_read, nothing_read, silent}
use Rattle.pyx.specs.plain.Pieces.{Progress, ended_line, finished, nothing_fed, open_line, read, with_begun}
use Rattle.pyx.specs.views.ReaderAfterPiece.{Kept, Stands}
use Rattle.pyx.proofs.Events.EventLines.{AreReported, as_long, parted_at, reported_front, reported_line, reported_of}
use Rattle.pyx.proofs.Input.LineTurns.{followed_twice, read_append}
use Rattle.pyx.proofs.Input.LinesOfPieces.{at_nil, byte_feed, byte_full, byte_within, fails_first, grown, length-push, long_fails, read_cons}
use Rattle.pyx.proofs.Input.ReaderAfterPiece.{at_fault}
use Rattle.pyx.proofs.Input.WholeBytes.{NoFeed, in_pieces, lines_ended, lines_nil, lines_open, push_no_feed}

-- ---- the events of all bytes that begin with those that were fed

-- what comes next adds to the events
followed_begins : {A B : Type 0} (t : Turn A) (f : A → Turn B) → (more : List Event) × ((followed t f).1 ≡ t.1 ++ more)
followed_begins {A = A} {B = B} t f = by_result t.0 t.1 where
  by_result : (r : Result A Fault) (es : List Event) → (more : List Event) × ((go_on r es f).1 ≡ es ++ more)
  by_result (Ok s) es = ((f s).1, refl)
  by_result (Err e) es = ([], sym (append-nil es))

reported_begin : (k : Kept) (bytes rest : List ℕ) (es : List Event) → Stands k bytes es → (more : List Event) × AreReported (bytes ++ rest) (es ++ more)
reported_begin k bytes rest es stands =
    let first = read bytes nothing_fed in
    let both = followed first (read rest) in
    let whole : document_read (lines (bytes ++ rest)) ≡ followed both finished = in_pieces (bytes ++ rest)
    ∙ ap (λ t. followed t finished) (read_append bytes rest nothing_fed) in
    let b = followed_begins first (read rest) in
    let c = followed_begins both finished in
    (b.0 ++ c.0, ap (λ t. t.1) whole ∙ c.1 ∙ ap (λ xs. xs ++ c.0) b.1 ∙ append_assoc first.1 b.0 c.0 ∙ ap (λ xs. xs ++ (b.0 ++ c.0)) stands.events)

module _ (k : Kept) (bytes : List ℕ) (es : List Event) (stands : Stands k bytes es) (before : List Event) (e : Event) (behind : List Event)
    (parts : es ≡ before ++ e ∷ behind) where
  parted : (more : List Event) → es ++ more ≡ before ++ e ∷ (behind ++ more)
  parted more = ap (λ (l : List Event). l ++ more) parts ∙ append_assoc before (e ∷ behind) more

  -- each of them comes at one of the lines
  pub fed_line : (1 ≤ e.line) × (e.line ≤ length (lines bytes))
  fed_line =
      let all = reported_begin k bytes [] es stands in
      reported_line bytes (es ++ all.0) before e (behind ++ all.0) (subst (λ b. AreReported b (es ++ all.0)) (append-nil bytes) all.1) (parted all.0)

  -- however the bytes go on, a document with the same lines up to the line of this event has the same events up to it
  pub fed_front : (rest other : List ℕ) (d : Placed) → IsPyxDocument other d → take e.line (lines other) ≡ take e.line (lines (bytes ++ rest))
      → (more : List Event) × (events_of d ≡ (before ++ e ∷ []) ++ more)
  fed_front rest other d is same =
      let all = reported_begin k bytes rest es stands in
      let at = reported_line (bytes ++ rest) (es ++ all.0) before e (behind ++ all.0) all.1 (parted all.0) in
      reported_front (bytes ++ rest) other (es ++ all.0) d e.line before e (behind ++ all.0) all.1 is at.1
      (as_long e.line (lines other) (lines (bytes ++ rest)) same at.1) (sym same) (parted all.0) (omega arith)

-- ---- the lines that a line feed ends

abbrev pub IsEnded : Line → Type 0
IsEnded l = l.ended ≡ true

-- if the first n of these lines are ended, the events of these are the first ones
abbrev Fronts : ℕ → List Line → State → List Event → Type 0
Fronts n ls s es = n ≤ length ls → All IsEnded (take n ls) → (more : List Event) × (es ≡ (all_read (take n ls) s).1 ++ more)

no_front : (ls : List Line) (s : State) (es : List Event) → Fronts zero ls s es
unfolding all_read
no_front ls s es = λ le ended. (es, refl)

no_ended : (b : List ℕ) (n : ℕ) → NoFeed b → suc n ≤ length (lines b) → All IsEnded (take (suc n) (lines b)) → ⊥
no_ended [] n f le ended = let none = ap length lines_nil in omega (arith, le, none)
no_ended (c ∷ b) n f le ended =
    let one = subst (λ ls. All IsEnded (take (suc n) ls)) (lines_open c b f) ended in
    not_ended (All-head IsEnded (open_line (c ∷ b)) (take n []) one)
  where
    not_ended : false ≡ true → ⊥
    not_ended e = cc

-- a line that is too long is a fault
full_fails : (c : ℕ) (cs : List ℕ) (p q : Progress) (es : List Event) → eqb c 10 ≡ false → line_limit ≤ length p.begun → read (c ∷ cs) p ≡ (Ok q, es) → ⊥
full_fails c cs p q es e full r =
    let big : line_limit < length (p.begun ++ c ∷ []) = omega (arith, full, length-push p.begun c) in
    let bad = fails_first _ (read cs) (fails_first _ (λ s. silent (with_begun (p.begun ++ c ∷ []) s))
    (long_fails (open_line (p.begun ++ c ∷ [])) p.state big)) in
    let is = read_cons c cs p ∙ ap (λ (t : Turn Progress). followed t (read cs)) (byte_full c p e full) in
    ok_is_err (sym (ap (λ (t : Turn Progress). t.0) (sym is ∙ r)) ∙ bad.is)

-- one line more
one_more : (n : ℕ) (first : Line) (ls : List Line) (s : State) (q : Progress) (es : List Event) (next : State → Turn Progress)
    → followed (line_read first s) next ≡ (Ok q, es) → ((t : State) (fs : List Event) → next t ≡ (Ok q, fs) → Fronts n ls t fs)
    → Fronts (suc n) (first ∷ ls) s es
unfolding all_read
one_more n first ls s q es next e more = λ le ended. go (line_read first s).0 (line_read first s).1 e (omega (arith, le))
    (All-tail IsEnded first (take n ls) ended) where
      go : (r : Result State Fault) (fs : List Event) → go_on r fs next ≡ (Ok q, es) → n ≤ length ls → All IsEnded (take n ls)
          → (more : List Event) × (es ≡ (go_on r fs (all_read (take n ls))).1 ++ more)
      go (Ok t) fs h le ended =
          let on = more t (next t).1 (ap (λ (x : Turn Progress). let y : Turn Progress = (x.0, (next t).1) in y) h) le ended in (
            on.0,
            sym (ap (λ (x : Turn Progress). x.1) h) ∙ ap (λ l. fs ++ l) on.1 ∙ sym (append_assoc fs (all_read (take n ls) t).1 on.0),
          )
      go (Err f) fs h le ended = absurd (ok_is_err (sym (ap (λ (x : Turn Progress). x.0) h)))

ended_front : (bytes : List ℕ) (p q : Progress) (es : List Event) → NoFeed p.begun → length p.begun ≤ line_limit → read bytes p ≡ (Ok q, es) → (n : ℕ)
    → Fronts n (lines (p.begun ++ bytes)) p.state es
ended_front bytes p q es f h e zero = no_front (lines (p.begun ++ bytes)) p.state es
ended_front [] p q es f h e (suc n) = λ le ended. absurd (no_ended (p.begun ++ []) n (subst NoFeed (sym (append-nil p.begun)) f) le ended)
ended_front (c ∷ cs) p q es f h e (suc n) = go (eqb c 10) refl (cases_lt (length p.begun) line_limit)
    (λ t fs r. ended_front cs (with_begun [] t) q fs at_nil (omega arith) r n) (ended_front cs (grown c p) q es) where
      go : (b : Bool) → eqb c 10 ≡ b → (length p.begun < line_limit) ⊎ (line_limit ≤ length p.begun)
          → ((t : State) (fs : List Event) → read cs (with_begun [] t) ≡ (Ok q, fs) → Fronts n (lines cs) t fs)
          → (NoFeed (p.begun ++ c ∷ []) → length (p.begun ++ c ∷ []) ≤ line_limit → read cs (grown c p) ≡ (Ok q, es) → (m : ℕ)
          → Fronts m (lines ((p.begun ++ c ∷ []) ++ cs)) p.state es)
          → Fronts (suc n) (lines (p.begun ++ c ∷ cs)) p.state es
      go true b d next more =
          let l = line_read (ended_line p.begun) p.state in
          let read_is : read (c ∷ cs) p ≡ followed l (λ s. read cs (with_begun [] s)) = read_cons c cs p
          ∙ ap (λ (t : Turn Progress). followed t (read cs)) (byte_feed c p b) ∙ followed_twice l (λ s. silent (with_begun [] s)) (read cs) in
          subst (λ ls. Fronts (suc n) ls p.state es) (sym (lines_ended p.begun c cs f b))
          (one_more n (ended_line p.begun) (lines cs) p.state q es (λ s. read cs (with_begun [] s)) (sym read_is ∙ e) next)
      go false b (inr full) next more = absurd (full_fails c cs p q es b full e)
      go false b (inl small) next more =
          let read_is : read (c ∷ cs) p ≡ read cs (grown c p) = read_cons c cs p
          ∙ ap (λ (t : Turn Progress). followed t (read cs)) (byte_within c p b small) in
          subst (λ bs. Fronts (suc n) (lines bs) p.state es) (append_assoc p.begun (c ∷ []) cs)
          (more (push_no_feed p.begun c f b) (omega (arith, small, length-push p.begun c)) (sym read_is ∙ e) (suc n))

all_front : (P : Event → Type 0) (xs ys : List Event) → All P (xs ++ ys) → All P xs
all_front P [] ys h = All-nil P
all_front P (x ∷ xs) ys h = All-cons P x xs (All-head P x (xs ++ ys) h) (all_front P xs ys (All-tail P x (xs ++ ys) h))

-- What holds of each event that was handed out, and of each at a later line than n, holds of each event of a document
-- with the same first n lines, if these have come to their ends.
pub ended_events : (k : Kept) (bytes : List ℕ) (es : List Event) → Stands k bytes es → k.fault ≡ None → (n : ℕ) → n ≤ length (lines bytes)
    → All IsEnded (take n (lines bytes)) → (other : List ℕ) (d : Placed) → IsPyxDocument other d → take n (lines other) ≡ take n (lines bytes)
    → (P : Event → Type 0) → All P es → ((e : Event) → n < e.line → P e) → All P (events_of d)
ended_events k bytes es stands none n le ended other d is same P holds late =
    let there : (read bytes nothing_fed).0 ≡ Ok k.progress = at_fault k None (read bytes nothing_fed).0 none stands.result in
    let front = ended_front bytes nothing_fed k.progress (read bytes nothing_fed).1 at_nil (omega arith)
    (ap (λ (r : Result Progress Fault). let t : Turn Progress = (r, (read bytes nothing_fed).1) in t) there) n le ended in
    let first : All P (all_read (take n (lines bytes)) nothing_read).1 = all_front P _ front.0
    (subst (All P) (sym stands.events ∙ front.1) holds) in
    let cut = parted_at other (events_of d) n (reported_of other d is) (as_long n (lines other) (lines bytes) same le) in
    subst (All P) (sym cut.parts) (All-append P _ cut.later (subst (λ ls. All P (all_read ls nothing_read).1) (sym same) first)
    (All-weaker (λ e. n < e.line) P late cut.later cut.behind))
