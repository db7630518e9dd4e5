-- Reading bytes, in any pieces, gives the result of reading their lines.
use Rattle.std.proofs.Common.{◌≡◌, ℕ, ◌+◌, ◌≤◌, ◌<◌, Bool, true, false, cond, eqb, List, [], ◌∷◌, ◌++◌, length, Option, Some, None, Err, refl, ap, sym}
use Rattle.std.proofs.Common.{◌∙◌, arith, append_assoc, ◌⊎◌, inl, inr}
use Rattle.std.specs.Prelude.{is_some, ◌==◌}
use Rattle.std.proofs.lemmas.Bool.{cases_lt}
use Rattle.std.proofs.lemmas.List.{append-nil, length-append}
use Rattle.rng_model.specs.documents.Lines.{Line, line_limit, lines, with_first}
use Rattle.pyx.specs.plain.Cuts.{at_byte, at_front, behind}
use Rattle.pyx.specs.plain.DocumentReader.{State, Turn, silent, fault, followed, close_tag, tag_ended, line_read, all_ended, document_read}
use Rattle.pyx.specs.plain.Pieces.{Progress, with_begun, ended_line, open_line, read, finished, nothing_fed}
use Rattle.pyx.proofs.Documents.Broken.{to_end}
use Rattle.pyx.proofs.Documents.Least.{all_nil, to_end_first}
use Rattle.pyx.proofs.States.StateSteps.{not_zero}
use Rattle.pyx.proofs.Input.LineTurns.{followed_same, followed_twice}
use Rattle.pyx.proofs.Input.LinesOfPieces.{Fails, with_open, grown, said_of_long, long_fails, length-push, read_cons, read_nil, byte_full, byte_within}
use Rattle.pyx.proofs.Input.LinesOfPieces.{byte_feed}
use Rattle.pyx.proofs.Input.LinesOfPieces.{at_cons, at_nil}

-- ---- lines

abbrev pub NoFeed : List ℕ → Type 0
NoFeed bytes = at_byte 10 bytes ≡ None

front_none : (c : ℕ) (o : Option (List ℕ × List ℕ)) → at_front c o ≡ None → o ≡ None
front_none c None e = refl
front_none c (Some x) e = absurd cc

pub no_feed_cons : (c : ℕ) (cs : List ℕ) → NoFeed (c ∷ cs) → (eqb c 10 ≡ false) × NoFeed cs
no_feed_cons c cs e = go (eqb c 10) refl (sym (at_cons c cs) ∙ e) where
  go : (b : Bool) → eqb c 10 ≡ b → cond b (Some ([], cs)) (at_front c (at_byte 10 cs)) ≡ None → (eqb c 10 ≡ false) × NoFeed cs
  go true q k = absurd cc
  go false q k = (q, front_none c (at_byte 10 cs) k)

pub cons_no_feed : (c : ℕ) (cs : List ℕ) → eqb c 10 ≡ false → NoFeed cs → NoFeed (c ∷ cs)
cons_no_feed c cs e f = at_cons c cs ∙ rw (e, f) refl

pub push_no_feed : (b : List ℕ) (c : ℕ) → NoFeed b → eqb c 10 ≡ false → NoFeed (b ++ c ∷ [])
push_no_feed [] c f e = cons_no_feed c [] e at_nil
push_no_feed (d ∷ b) c f e = let k = no_feed_cons d b f in cons_no_feed d (b ++ c ∷ []) k.0 (push_no_feed b c k.1 e)

pub lines_cons : (c : ℕ) (cs : List ℕ) → lines (c ∷ cs) ≡ cond (eqb c 10) (record { bytes = []; ended = true } ∷ lines cs) (with_first c (lines cs))
unfolding lines
lines_cons c cs = refl

pub lines_nil : lines [] ≡ []
unfolding lines
lines_nil = refl

lines_other : (c : ℕ) (cs : List ℕ) → eqb c 10 ≡ false → lines (c ∷ cs) ≡ with_first c (lines cs)
lines_other c cs e = lines_cons c cs ∙ rw e refl

lines_feed : (c : ℕ) (cs : List ℕ) → eqb c 10 ≡ true → lines (c ∷ cs) ≡ ended_line [] ∷ lines cs
lines_feed c cs e = lines_cons c cs ∙ rw e refl

-- up to a line feed
pub lines_ended : (b : List ℕ) (c : ℕ) (cs : List ℕ) → NoFeed b → eqb c 10 ≡ true → lines (b ++ c ∷ cs) ≡ ended_line b ∷ lines cs
lines_ended [] c cs f e = lines_feed c cs e
lines_ended (d ∷ b) c cs f e = let k = no_feed_cons d b f in lines_other d (b ++ c ∷ cs) k.0 ∙ ap (with_first d) (lines_ended b c cs k.1 e)

-- or to the end
pub lines_open : (c : ℕ) (b : List ℕ) → NoFeed (c ∷ b) → lines (c ∷ b) ≡ open_line (c ∷ b) ∷ []
lines_open c [] f = let k = no_feed_cons c [] f in lines_other c [] k.0 ∙ ap (with_first c) lines_nil
lines_open c (d ∷ b) f = let k = no_feed_cons c (d ∷ b) f in lines_other c (d ∷ b) k.0 ∙ ap (with_first c) (lines_open d b k.1)

-- the first line begins with these
record Begins (front : List ℕ) (all : List Line) : Type 0 where
  first : Line
  others : List Line
  more : List ℕ
  parts : all ≡ first ∷ others
  bytes : first.bytes ≡ front ++ more

begins_one : (c : ℕ) (ls : List Line) → Begins (c ∷ []) (with_first c ls)
begins_one c [] = record { first = record { bytes = c ∷ []; ended = false }; others = []; more = []; parts = refl; bytes = refl }
begins_one c (l ∷ ls) = record { first = record l { bytes = c ∷ l.bytes }; others = ls; more = l.bytes; parts = refl; bytes = refl }

begins_more : (c : ℕ) (front : List ℕ) (all : List Line) → Begins front all → Begins (c ∷ front) (with_first c all)
begins_more c front all b = record {
  first = record b.first { bytes = c ∷ b.first.bytes };
  others = b.others;
  more = b.more;
  parts = ap (with_first c) b.parts;
  bytes = ap (λ x. c ∷ x) b.bytes;
}

at_all : (front : List ℕ) (all same : List Line) → all ≡ same → Begins front same → Begins front all
at_all front all same e b = record { first = b.first; others = b.others; more = b.more; parts = e ∙ b.parts; bytes = b.bytes }

lines_begin : (b : List ℕ) (c : ℕ) (cs : List ℕ) → NoFeed b → eqb c 10 ≡ false → Begins (b ++ c ∷ []) (lines (b ++ c ∷ cs))
lines_begin [] c cs f e = at_all _ _ _ (lines_other c cs e) (begins_one c (lines cs))
lines_begin (d ∷ b) c cs f e = let k = no_feed_cons d b f in
    at_all _ _ _ (lines_other d (b ++ c ∷ cs) k.0) (begins_more d (b ++ c ∷ []) (lines (b ++ c ∷ cs)) (lines_begin b c cs k.1 e))

-- ---- a line that is too long, from its beginning

same_kind : (c : ℕ) (cs ds : List ℕ) → is_some (behind 65 (c ∷ cs)) ≡ is_some (behind 65 (c ∷ ds))
same_kind c cs ds = go (eqb c 65) where
  go : (b : Bool) → is_some (cond b (Some cs) None) ≡ is_some (cond b (Some ds) None)
  go true = refl
  go false = refl

ended_same : (xs more : List ℕ) (s : State) → 0 < length xs → tag_ended (xs ++ more) s ≡ tag_ended xs s
unfolding tag_ended
ended_same [] more s h = absurd (omega (arith, h))
ended_same (c ∷ xs) more s h = ap (λ (b : Bool). cond b (silent s) (close_tag s.tag s)) (same_kind c (xs ++ more) xs)

long_read : (l : Line) (s : State) → line_limit < length l.bytes → line_read l s ≡ followed (tag_ended l.bytes s) (λ s. fault 10 (s.count + 1))
unfolding line_read
long_read l s h = rw (said_of_long l h) refl

long_same : (l m : Line) (more : List ℕ) (s : State) → line_limit < length m.bytes → l.bytes ≡ m.bytes ++ more → line_read l s ≡ line_read m s
long_same l m more s h e =
    long_read l s (omega (arith, h, ap length e, length-append m.bytes more)) ∙
    ap (λ (t : Turn State). followed t (λ s. fault 10 (s.count + 1))) (ap (λ b. tag_ended b s) e ∙ ended_same m.bytes more s (omega (arith, h)))
    ∙ sym (long_read m s h)

followed_fails : {A B : Type 0} (turn : Turn A) (f : A → Turn B) (h : Fails turn) → followed turn f ≡ (Err h.fault, turn.1)
followed_fails turn f h = rw (h.is) refl

finished_is : (p : Progress) → finished p ≡ followed (cond (length p.begun == 0) (silent p.state) (line_read (open_line p.begun) p.state)) all_ended
unfolding finished
finished_is p = refl

at_last_line : (b : List ℕ) (s : State) → NoFeed b → finished (with_begun b s) ≡ to_end (lines b) s
at_last_line [] s f = finished_is (with_begun [] s) ∙ sym (ap (λ ls. to_end ls s) lines_nil ∙ all_nil s)
at_last_line (c ∷ b) s f = finished_is (with_begun (c ∷ b) s) ∙ some ∙ sym (ap (λ ls. to_end ls s) (lines_open c b f) ∙ to_end_first (open_line (c ∷ b)) [] s ∙
    followed_same (line_read (open_line (c ∷ b)) s) (to_end []) all_ended all_nil) where
      some : followed (cond (length (c ∷ b) == 0) (silent s) (line_read (open_line (c ∷ b)) s)) all_ended ≡ followed (line_read (open_line (c ∷ b)) s) all_ended
      some = rw (not_zero (length b)) refl

-- ---- all bytes

feed_case : (c : ℕ) (cs : List ℕ) (p : Progress) → eqb c 10 ≡ true → NoFeed p.begun
    → ((s : State) → followed (read cs (with_begun [] s)) finished ≡ to_end (lines cs) s)
    → followed (read (c ∷ cs) p) finished ≡ to_end (lines (p.begun ++ c ∷ cs)) p.state
feed_case c cs p e f more =
    let l = line_read (ended_line p.begun) p.state in
    ap (λ (t : Turn Progress). followed t finished) (read_cons c cs p ∙ ap (λ (t : Turn Progress). followed t (read cs)) (byte_feed c p e) ∙
    followed_twice l (λ s. silent (with_begun [] s)) (read cs)) ∙ followed_twice l (λ s. read cs (with_begun [] s)) finished ∙
    followed_same l (λ s. followed (read cs (with_begun [] s)) finished) (to_end (lines cs)) more ∙
    sym (ap (λ ls. to_end ls p.state) (lines_ended p.begun c cs f e) ∙ to_end_first (ended_line p.begun) (lines cs) p.state)

full_case : (c : ℕ) (cs : List ℕ) (p : Progress) → eqb c 10 ≡ false → NoFeed p.begun → line_limit ≤ length p.begun
    → followed (read (c ∷ cs) p) finished ≡ to_end (lines (p.begun ++ c ∷ cs)) p.state
full_case c cs p e f full =
    let all = p.begun ++ c ∷ [] in
    let big : line_limit < length all = omega (arith, full, length-push p.begun c) in
    let b = lines_begin p.begun c cs f e in
    let t = line_read (open_line all) p.state in
    let h = long_fails (open_line all) p.state big in
    let same : line_read b.first p.state ≡ t = long_same b.first (open_line all) b.more p.state big b.bytes in
    let left : read (c ∷ cs) p ≡ followed (with_open p all) (read cs) = read_cons c cs p
    ∙ ap (λ (t : Turn Progress). followed t (read cs)) (byte_full c p e full) in
    ap (λ (t : Turn Progress). followed t finished) (left ∙ followed_twice t _ (read cs)) ∙ followed_twice t _ finished ∙ followed_fails t _ h ∙
    sym (ap (λ ls. to_end ls p.state) b.parts ∙ to_end_first b.first b.others p.state ∙ ap (λ (t : Turn State). followed t (to_end b.others)) same
    ∙ followed_fails t _ h)

pub joined : (bytes : List ℕ) (p : Progress) → NoFeed p.begun → length p.begun ≤ line_limit
    → followed (read bytes p) finished ≡ to_end (lines (p.begun ++ bytes)) p.state
joined [] p f h = ap (λ (t : Turn Progress). followed t finished) (read_nil p) ∙ at_last_line p.begun p.state f
    ∙ ap (λ b. to_end (lines b) p.state) (sym (append-nil p.begun))
joined (c ∷ cs) p f h = go (eqb c 10) refl (cases_lt (length p.begun) line_limit) (λ s. joined cs (with_begun [] s) at_nil (omega arith))
    (joined cs (grown c p)) where
      go : (b : Bool) → eqb c 10 ≡ b → (length p.begun < line_limit) ⊎ (line_limit ≤ length p.begun) →
          ((s : State) → followed (read cs (with_begun [] s)) finished ≡ to_end (lines cs) s) →
          (NoFeed (p.begun ++ c ∷ []) → length (p.begun ++ c ∷ []) ≤ line_limit → followed (read cs (grown c p)) finished ≡ to_end
          (lines ((p.begun ++ c ∷ []) ++ cs)) p.state) →
          followed (read (c ∷ cs) p) finished ≡ to_end (lines (p.begun ++ c ∷ cs)) p.state
      go true e d new more = feed_case c cs p e f new
      go false e (inr full) new more = full_case c cs p e f full
      go false e (inl small) new more =
          ap (λ (t : Turn Progress). followed t finished) (read_cons c cs p ∙ ap (λ (t : Turn Progress). followed t (read cs)) (byte_within c p e small)) ∙
          more (push_no_feed p.begun c f e) (omega (arith, small, length-push p.begun c))
          ∙ ap (λ b. to_end (lines b) p.state) (append_assoc p.begun (c ∷ []) cs)

-- reading a document in pieces gives the same result as reading it at once
pub in_pieces : (bytes : List ℕ) → document_read (lines bytes) ≡ followed (read bytes nothing_fed) finished
unfolding document_read
in_pieces bytes = sym (joined bytes nothing_fed at_nil (omega arith))
