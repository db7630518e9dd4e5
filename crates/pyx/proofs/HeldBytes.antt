-- The count of kept bytes is the number of bytes that must be kept, and it is bounded.
use Rattle.std.proofs.Common.{◌≡◌, ℕ, ◌+◌, ◌*◌, ◌^◌, ◌≤◌, ◌<◌, Bool, true, false, eqb, List, [], ◌∷◌, ◌++◌, length, map, Option, Some, None}
use Rattle.std.proofs.Common.{Result, Ok, Err}
use Rattle.std.proofs.Common.{refl, sym, ap, subst, ◌∙◌, arith, append_assoc, ◌⊎◌, inl, inr}
use Rattle.std.specs.Prelude.{sum_by, is_some}
use Rattle.std.specs.List.{AllByRecursion}
use Rattle.std.proofs.lemmas.Bool.{cases_lt}
use Rattle.std.proofs.lemmas.List.{length-append, append-nil}
use Rattle.std.proofs.lemmas.List.Elements.{All-from_recursion}
use Rattle.std.proofs.lemmas.List.Sums.{sum_by-cons}
use Rattle.pyx.proofs.Documents.Sound.{goes_first}
use Rattle.rng_model.proofs.Options.{same_ok}
use Rattle.rng_model.specs.documents.Lines.{Line, lines, line_limit, HasKind, Fault}
use Rattle.rng_model.specs.documents.PyxLines as said
use Rattle.rng_model.specs.documents.PyxLines.{Said, QName, IsName, alone, prefixed, StandsFor, at_end, itself, line_feed, tab, backslash, Says}
use Rattle.rng_model.specs.documents.PyxLines.{says_start}
use Rattle.rng_model.specs.documents.PyxLines.{says_attribute, IsGoodLine, AreGoodLines, no_lines, line_and}
use Rattle.rng_model.specs.documents.PyxNamespaces.{WrittenAttribute, AreWritten, none_written, written_and, Declares, default_namespace, prefix_declared}
use Rattle.rng_model.specs.documents.PyxTrees.{Event, no_run}
use Rattle.rng_model.specs.documents.PyxClauses as clauses
use Rattle.rng_model.specs.documents.PyxHeld.{name_length, declared_length, declaration_length, KeptOfTags, of_none, of_tag, IsCutAtLine, JoinsText}
use Rattle.rng_model.specs.documents.PyxHeld.{KeptOf}
use Rattle.rng_model.specs.documents.PyxHeld.{in_tag, in_no_tag}
use Rattle.pyx.specs.plain.Declarations.{declared_by}
use Rattle.pyx.specs.plain.DocumentReader.{State, Open, Turn, silent, go_on, line_read, all_read, nothing_read, tag_bytes}
use Rattle.pyx.specs.plain.Pieces.{Progress, with_begun, ended_line, open_line, byte_read, read, nothing_fed}
use Rattle.pyx.specs.views.ReaderAfterPiece.{Kept}
use Rattle.pyx.specs.plain.Held.{plus, declarations_held}
use Rattle.pyx.specs.views.Held.{opened_held, held}
use Rattle.pyx.specs.views.HeldCalls.{held_limit, IsHeld}
use Rattle.pyx.proofs.Input.ReaderAfterPiece.{at_fault}
use Rattle.pyx.proofs.Tags.Declarations.{declaration_of, prefix_of, AreDeclared, declares_it}
use Rattle.pyx.proofs.Tags.Parts.{IsSplit, declares, declares_none, split_parted, split_declared}
use Rattle.pyx.proofs.Tags.Parts as split
use Rattle.pyx.proofs.Input.LinesOfPieces.{with_open, grown, long_fails, length-push, read_cons, read_nil, byte_full, byte_within, byte_feed}
use Rattle.pyx.proofs.Input.LinesOfPieces.{at_nil}
use Rattle.pyx.proofs.Input.LinesOfPieces.{fails_first}
use Rattle.pyx.proofs.Input.PieceCounts.{no_ok, read_counts}
use Rattle.pyx.proofs.Input.WholeBytes.{NoFeed, lines_ended, lines_open, lines_nil, push_no_feed}
use Rattle.pyx.proofs.States.OpenTags.{other_kind, no_tag}
use Rattle.pyx.proofs.States.JoinedText.{good_kind, good_length, joined_with, texts, text_more}
use Rattle.pyx.proofs.States.StateAfterLines.{AreMatched, none_matched, one_matched, written_length, Place, at_content, at_tag, place_first}
use Rattle.pyx.proofs.Documents.Broken.{line_tells, next_place}
use Rattle.pyx.proofs.Documents.Least.{all_cons}

-- ---- the lines so far, and what begins after them

record IsCut (all whole : List Line) (begun : List ℕ) : Type 0 where
  ended : AllByRecursion (λ l. l.ended ≡ true) whole
  parts : ((all ≡ whole) × (begun ≡ [])) ⊎ (all ≡ whole ++ open_line begun ∷ [])

record Came (bytes : List ℕ) (s : State) (q : Progress) : Type 0 where
  whole : List Line
  cut : IsCut (lines bytes) whole q.begun
  state : (all_read whole s).0 ≡ Ok q.state

nothing_more : (s : State) → (all_read [] s).0 ≡ Ok s
unfolding all_read
nothing_more s = refl

came_none : (p q : Progress) → NoFeed p.begun → p ≡ q → Came (p.begun ++ []) p.state q
came_none p q f e = subst (Came (p.begun ++ []) p.state) e (go p.begun f) where
  go : (b : List ℕ) → NoFeed b → Came (b ++ []) p.state (with_begun b p.state)
  go [] f = record { whole = []; cut = record { ended = tt; parts = inl (lines_nil, refl) }; state = nothing_more p.state }
  go (c ∷ b) f = record {
    whole = [];
    cut = record { ended = tt; parts = inr (ap lines (append-nil (c ∷ b)) ∙ lines_open c b f) };
    state = nothing_more p.state;
  }

first_state : (l : Line) (ls : List Line) (s u t : State) → (line_read l s).0 ≡ Ok u → (all_read ls u).0 ≡ Ok t → (all_read (l ∷ ls) s).0 ≡ Ok t
first_state l ls s u t e f = ap (λ (x : Turn State). x.0) (all_cons l ls s) ∙ go (line_read l s).0 (line_read l s).1 e where
  go : (r : Result State Fault) (es : List Event) → r ≡ Ok u → (go_on r es (all_read ls)).0 ≡ Ok t
  go (Ok x) es q = ap (λ (y : State). (all_read ls y).0) (same_ok q) ∙ f
  go (Err x) es q = absurd cc

came_line : (c : ℕ) (cs : List ℕ) (p q : Progress) (u : State) → eqb c 10 ≡ true → NoFeed p.begun → (line_read (ended_line p.begun) p.state).0 ≡ Ok u
    → Came cs u q → Came (p.begun ++ c ∷ cs) p.state q
came_line c cs p q u e f g k = record {
  whole = ended_line p.begun ∷ k.whole;
  cut = record { ended = (refl, k.cut.ended); parts = go k.cut.parts };
  state = first_state (ended_line p.begun) k.whole p.state u q.state g k.state;
} where
  all : lines (p.begun ++ c ∷ cs) ≡ ended_line p.begun ∷ lines cs
  all = lines_ended p.begun c cs f e

  go : ((lines cs ≡ k.whole) × (q.begun ≡ [])) ⊎ (lines cs ≡ k.whole ++ open_line q.begun ∷ [])
      → ((lines (p.begun ++ c ∷ cs) ≡ ended_line p.begun ∷ k.whole) × (q.begun ≡ []))
      ⊎ (lines (p.begun ++ c ∷ cs) ≡ (ended_line p.begun ∷ k.whole) ++ open_line q.begun ∷ [])
  go (inl x) = inl (all ∙ ap (λ (ls : List Line). ended_line p.begun ∷ ls) x.0, x.1)
  go (inr x) = inr (all ∙ ap (λ (ls : List Line). ended_line p.begun ∷ ls) x)

silent_ok : (r : Result State Fault) (es : List Event) (f : State → Progress) (a : Progress) → (go_on r es (λ s. silent (f s))).0 ≡ Ok a
    → (u : State) × (r ≡ Ok u) × (f u ≡ a)
silent_ok (Ok u) es f a e = (u, refl, same_ok e)
silent_ok (Err x) es f a e = absurd cc

came : (bytes : List ℕ) (p q : Progress) → NoFeed p.begun → length p.begun ≤ line_limit → (read bytes p).0 ≡ Ok q → Came (p.begun ++ bytes) p.state q
came [] p q f h e = came_none p q f (same_ok (ap (λ (t : Turn Progress). t.0) (sym (read_nil p)) ∙ e))
came (c ∷ cs) p q f h e = go (eqb c 10) refl (cases_lt (length p.begun) line_limit)
    (goes_first (byte_read c p).0 (byte_read c p).1 (read cs) q (ap (λ (t : Turn Progress). t.0) (sym (read_cons c cs p)) ∙ e))
    (λ u. came cs (with_begun [] u) q at_nil (omega arith)) (λ k j. came cs (grown c p) q k j) where
      go : (b : Bool) → eqb c 10 ≡ b → (length p.begun < line_limit) ⊎ (line_limit ≤ length p.begun)
          → (a : Progress) × ((byte_read c p).0 ≡ Ok a) × ((read cs a).0 ≡ Ok q)
          → ((u : State) → (read cs (with_begun [] u)).0 ≡ Ok q → Came cs u q)
          → (NoFeed (p.begun ++ c ∷ []) → length (p.begun ++ c ∷ []) ≤ line_limit → (read cs (grown c p)).0 ≡ Ok q → Came ((p.begun ++ c ∷ []) ++ cs) p.state q)
          → Came (p.begun ++ c ∷ cs) p.state q
      go true k d a new more =
          let t = line_read (ended_line p.begun) p.state in
          let w = silent_ok t.0 t.1 (with_begun []) a.0 (ap (λ (t : Turn Progress). t.0) (sym (byte_feed c p k)) ∙ a.1) in
          came_line c cs p q w.0 k f w.1 (new w.0 (ap (λ (x : Progress). (read cs x).0) w.2 ∙ a.2))
      go false k (inl small) a new more =
          let w : grown c p ≡ a.0 = same_ok (ap (λ (t : Turn Progress). t.0) (sym (byte_within c p k small)) ∙ a.1) in
          subst (λ (b : List ℕ). Came b p.state q) (append_assoc p.begun (c ∷ []) cs)
          (more (push_no_feed p.begun c f k) (omega (arith, small, length-push p.begun c)) (ap (λ (x : Progress). (read cs x).0) w ∙ a.2))
      go false k (inr full) a new more =
          absurd (no_ok (with_open p (p.begun ++ c ∷ [])) a.0
          (fails_first (line_read (open_line (p.begun ++ c ∷ [])) p.state) _ (long_fails (open_line (p.begun ++ c ∷ [])) p.state
          (omega (arith, full, length-push p.begun c))))
          (ap (λ (t : Turn Progress). t.0) (sym (byte_full c p k full)) ∙ a.1))

-- ---- a place after lines that are read

placed_from : (ls front : List Line) (s t : State) → Place front s → (all_read ls s).0 ≡ Ok t → Place (front ++ ls) t
placed_from [] front s t p e = subst (λ (x : List Line). Place x t) (sym (append-nil front)) (subst (Place front) (same_ok (sym (nothing_more s) ∙ e)) p)
placed_from (l ∷ ls) front s t p e =
    let w = first_of (line_read l s).0 (line_read l s).1 (ap (λ (x : Turn State). x.0) (sym (all_cons l ls s)) ∙ e) in
    subst (λ (x : List Line). Place x t) (append_assoc front (l ∷ []) ls)
    (placed_from ls (front ++ l ∷ []) w.0 t (next_place s (line_tells l p) w.1) w.2) where
      first_of : (r : Result State Fault) (es : List Event) → (go_on r es (all_read ls)).0 ≡ Ok t → (u : State) × (r ≡ Ok u) × ((all_read ls u).0 ≡ Ok t)
      first_of (Ok u) es q = (u, refl, q)
      first_of (Err x) es q = absurd cc

-- ---- the text that is joined at the end, from its first line

last_same : (xs ys : List Line) (x y : Line) → xs ++ x ∷ [] ≡ ys ++ y ∷ [] → x ≡ y
last_same [] [] x y e = cc
last_same [] (b ∷ []) x y e = absurd cc
last_same [] (b ∷ c ∷ ys) x y e = absurd cc
last_same (a ∷ []) [] x y e = absurd cc
last_same (a ∷ c ∷ xs) [] x y e = absurd cc
last_same (a ∷ xs) (b ∷ ys) x y e = last_same xs ys x y (rest e) where
  rest : {as_lines bs : List Line} → a ∷ as_lines ≡ b ∷ bs → as_lines ≡ bs
  rest e = cc

no_last : (ls : List Line) (l : Line) → [] ≡ ls ++ l ∷ [] → ⊥
no_last [] l e = cc
no_last (x ∷ ls) l e = cc

begins_at : (ls : List Line) (l : Line) (k : ℕ) → HasKind k l → (k ≡ 45 → ⊥) → (k ≡ 63 → ⊥) → JoinsText (ls ++ l ∷ []) []
begins_at ls l k h n m = record {
  ends = record { front = ls ++ l ∷ []; run = []; parts = sym (append-nil (ls ++ l ∷ [])); said = []; good = no_lines; is_run = no_run };
  no_text = λ x rest e g. other_kind k 45 l n h (subst (HasKind 45) (sym (last_same ls rest l x e)) g);
  no_instruction = λ x rest e g. other_kind k 63 l m h (subst (HasKind 63) (sym (last_same ls rest l x e)) g);
}

joins_more : {ls : List Line} {j : List ℕ} (l : Line) (x : Said) → JoinsText ls j → IsGoodLine l x → JoinsText (ls ++ l ∷ []) (joined_with x j)
joins_more {ls} l (said.start name) t g = begins_at ls l 40 (good_kind g) (λ q. absurd (omega (arith, q))) (λ q. absurd (omega (arith, q)))
joins_more {ls} l (said.attribute a v) t g = begins_at ls l 65 (good_kind g) (λ q. absurd (omega (arith, q))) (λ q. absurd (omega (arith, q)))
joins_more {ls} l (said.end name) t g = begins_at ls l 41 (good_kind g) (λ q. absurd (omega (arith, q))) (λ q. absurd (omega (arith, q)))
joins_more l (said.text v) t g = record { ends = text_more l (said.text v) t.ends g; no_text = t.no_text; no_instruction = t.no_instruction }
joins_more l said.instruction t g = record { ends = text_more l said.instruction t.ends g; no_text = t.no_text; no_instruction = t.no_instruction }

joins_from : (front behind : List Line) (w : List ℕ) (ys : List Said) → JoinsText front w → AreGoodLines behind ys → JoinsText (front ++ behind) (texts ys w)
unfolding texts
joins_from front behind w ys t no_lines = subst (λ (x : List Line). JoinsText x w) (sym (append-nil front)) t
joins_from front behind w ys t (line_and {l} {ls} {said = x} {more} g n) =
    subst (λ (y : List Line). JoinsText y (texts more (joined_with x w))) (append_assoc front (l ∷ []) ls)
    (joins_from (front ++ l ∷ []) ls (joined_with x w) more (joins_more l x t g) n)

joins_none : JoinsText [] []
joins_none = record {
  ends = record { front = []; run = []; parts = refl; said = []; good = no_lines; is_run = no_run };
  no_text = λ l rest e h. no_last rest l e;
  no_instruction = λ l rest e h. no_last rest l e;
}

joins : {ls : List Line} {xs : List Said} → AreGoodLines ls xs → JoinsText ls (texts xs [])
joins {ls} {xs} g = joins_from [] ls [] xs joins_none g

-- ---- sizes

unfoldable declarations_size : List WrittenAttribute → ℕ
declarations_size [] = 0
declarations_size (a ∷ more) = name_length a.name + length a.content + declarations_size more

unfoldable opened_size : List Open → ℕ
opened_size [] = 0
opened_size (o ∷ outer) = name_length o.name + declarations_size o.declared + opened_size outer

plus_is : (a b : ℕ) → a + b < 2 ^ 64 → plus a b ≡ a + b
plus_is a b h = omega (arith, h)

declarations_exact : (ds : List WrittenAttribute) → declarations_size ds < 2 ^ 64 → declarations_held ds ≡ declarations_size ds
unfolding declarations_held declarations_size
declarations_exact [] h = refl
declarations_exact (a ∷ more) h =
    let k = declarations_exact more (omega (arith, h)) in
    rw (k, plus_is (name_length a.name) (length a.content) (omega (arith, h))) (plus_is (name_length a.name + length a.content) (declarations_size more) h)

opened_exact : (os : List Open) → opened_size os < 2 ^ 64 → opened_held os ≡ opened_size os
unfolding opened_held opened_size
opened_exact [] h = refl
opened_exact (o ∷ outer) h =
    let k = opened_exact outer (omega (arith, h)) in
    let d = declarations_exact o.declared (omega (arith, h)) in
    rw (k, d, plus_is (name_length o.name) (declarations_size o.declared) (omega (arith, h)))
    (plus_is (name_length o.name + declarations_size o.declared) (opened_size outer) h)

-- ---- what must be kept

name_declared : {name : QName} {p : Option (List ℕ)} → Declares name p → name_length name ≡ declared_length p
name_declared default_namespace = refl
name_declared (prefix_declared {p}) = omega arith

declared_name : (a : WrittenAttribute) (o : Option (Option (List ℕ))) → declared_by a.name ≡ o → is_some o ≡ true
    → name_length a.name ≡ declared_length (prefix_of o)
declared_name a None e s = absurd cc
declared_name a (Some p) e s = name_declared (declares_it a.name p e)

declared_sum : (ds : List WrittenAttribute) → AreDeclared ds → declarations_size ds ≡ sum_by declaration_length (map declaration_of ds)
unfolding declarations_size
declared_sum [] h = refl
declared_sum (a ∷ more) h =
    omega (
      arith,
      sum_by-cons declaration_length (declaration_of a) (map declaration_of more),
      declared_sum more h.1,
      declared_name a (declared_by a.name) refl h.0,
    )

kept_tags : {tags : List clauses.Tag} {os : List Open} → AreMatched tags os → KeptOfTags tags (opened_size os)
unfolding opened_size
kept_tags none_matched = of_none
kept_tags (one_matched {o} {os} s p n m) = of_tag s (split_parted p) (kept_tags m) (omega (arith, declared_sum o.declared (split_declared p)))

abbrev state_size : State → ℕ
state_size s = tag_bytes s.tag + opened_size s.opened + length s.joined

kept_of : {bytes begun : List ℕ} {whole : List Line} {s : State} → IsCutAtLine bytes whole begun → Place whole s → KeptOf bytes (length begun + state_size s)
kept_of cut (at_tag c) = in_tag cut c.ends c.are_open (kept_tags c.matched) (omega (arith, c.bytes))
kept_of {whole = whole} cut (at_content {w} c u) =
    in_no_tag cut (no_tag u) c.are_open (kept_tags c.matched) (subst (JoinsText whole) c.joined (joins c.good)) (omega arith)

-- ---- bounds

stands_less : {written value : List ℕ} → StandsFor written value → length value ≤ length written
stands_less at_end = omega arith
stands_less (itself n d) = omega (arith, stands_less d)
stands_less (line_feed d) = omega (arith, stands_less d)
stands_less (tab d) = omega (arith, stands_less d)
stands_less (backslash d) = omega (arith, stands_less d)

name_size : {written : List ℕ} {name : QName} → IsName written name → name_length name ≡ length written
name_size (alone n) = omega arith
name_size (prefixed {prefix = p} {local} n m e) = omega (arith, ap length e, length-append p (58 ∷ local))

attribute_size : {bytes : List ℕ} {a : QName} {v : List ℕ} → Says bytes (said.attribute a v) → name_length a + length v ≤ length bytes
attribute_size (says_attribute {written_name} {written} n d e) =
    omega (arith, name_size n, stands_less d, ap length e, length-append written_name (32 ∷ written))

start_size : {bytes : List ℕ} {name : QName} → Says bytes (said.start name) → name_length name ≤ length bytes
start_size (says_start n) = omega (arith, name_size n)

-- the `A` lines of a tag
written_bound : {ls : List Line} {xs : List Said} {ws : List WrittenAttribute} → AreGoodLines ls xs → AreWritten xs ws
    → declarations_size ws ≤ 65536 * length ws
unfolding declarations_size
written_bound no_lines none_written = omega arith
written_bound (line_and g m) (written_and d) = omega (arith, attribute_size g.says, g.within, written_bound m d)

split_less : {all ds os : List WrittenAttribute} → IsSplit all ds os → declarations_size ds ≤ declarations_size all
unfolding declarations_size
split_less split.no_lines = omega arith
split_less (declares e s) = omega (arith, split_less s)
split_less (declares_none e s) = omega (arith, split_less s)

opened_bound : {tags : List clauses.Tag} {os : List Open} → AreMatched tags os → opened_size os ≤ 16842752 * length os
unfolding opened_size
opened_bound none_matched = omega arith
opened_bound (one_matched s p n m) =
    omega (arith, start_size s.first.says, s.first.within, split_less p, written_bound s.attributes s.are_written, n.few, opened_bound m)

lines_bound : {ls : List Line} {xs : List Said} → AreGoodLines ls xs → sum_by (λ l. length l.bytes) ls ≤ 65536 * length ls
lines_bound no_lines = omega arith
lines_bound (line_and {l} {ls} g m) = omega (arith, g.within, lines_bound m, sum_by-cons (λ l. length l.bytes) l ls)

state_bound : {whole : List Line} {s : State} → Place whole s → state_size s + 65536 ≤ held_limit
state_bound (at_content c u) = omega (arith, c.within, c.deep, opened_bound c.matched)
state_bound (at_tag c) = omega (
  arith,
  c.deep,
  opened_bound c.matched,
  c.bytes,
  c.says_tag.first.within,
  lines_bound c.says_tag.attributes,
  good_length c.says_tag.attributes,
  written_length c.says_tag.are_written,
  c.few,
)

held_exact : (p : Progress) → length p.begun + state_size p.state ≤ held_limit → held p ≡ length p.begun + state_size p.state
held_exact p h =
    let o = opened_exact p.state.opened (omega (arith, h)) in
    rw (
      o,
      plus_is (tag_bytes p.state.tag) (opened_size p.state.opened) (omega (arith, h)),
      plus_is (tag_bytes p.state.tag + opened_size p.state.opened) (length p.state.joined) (omega (arith, h)),
    )
    (plus_is (length p.begun) (state_size p.state) (omega (arith, h)))

-- ---- readers

cut_at_line : (bytes : List ℕ) (q : Progress) → (k : Came bytes nothing_read q) → IsCutAtLine bytes k.whole q.begun
cut_at_line bytes q k = record {
  ended = All-from_recursion (λ l. l.ended ≡ true) k.whole k.cut.ended;
  parts = k.cut.parts;
}

held_of : (bytes : List ℕ) (q : Progress) → (read bytes nothing_fed).0 ≡ Ok q → KeptOf bytes (held q) × (held q ≤ held_limit)
held_of bytes q e =
    let k = came bytes nothing_fed q at_nil (omega arith) e in
    let n = (read_counts bytes nothing_fed q e (omega arith)).0 in
    let p : Place k.whole q.state = placed_from k.whole [] nothing_read q.state place_first k.state in
    let b : length q.begun + state_size q.state ≤ held_limit = omega (arith, n, state_bound p) in
    let x = held_exact q b in
    (subst (KeptOf bytes) (sym x) (kept_of (cut_at_line bytes q k) p), omega (arith, x, b))

pub is_held : (k : Kept) (p : Progress) → p ≡ k.progress → k.fault ≡ None → IsHeld k (held p)
is_held k p e f = λ bytes sent st.
    let q : (read bytes nothing_fed).0 ≡ Ok p = at_fault k None (read bytes nothing_fed).0 f st.result ∙ ap (λ (x : Progress). Ok x) (sym e) in
    let h = held_of bytes p q in (λ g. h.0, h.1)

true_false : true ≡ false → ⊥
true_false e = cc

pub none_held : (k : Kept) → is_some k.fault ≡ true → IsHeld k 0
none_held k e = λ bytes sent st. (λ g. absurd (true_false (sym e ∙ ap is_some g)), omega arith)
