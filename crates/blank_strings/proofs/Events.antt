-- Without these texts, the calls tell the same events but some blank strings that are beside elements.
use Rattle.std.proofs.Common.{◌≡◌, ℕ, List, [], ◌∷◌, ◌++◌, ◌&&◌, ◌==◌, refl, Bool, true, false, append_assoc, if◌then◌else◌}
use Rattle.std.proofs.lemmas.List.Folds.{list_all-append}
use Rattle.std.specs.List.{AllByRecursion}
use Rattle.rng_model.specs.datatypes.Texts.{is_blank, is_blank_byte}
use Rattle.rng_model.specs.documents.PyxTrees.{Event, EventKind, a_start, a_string, an_end}
use Rattle.rng_model.specs.documents.Telling.{string_at, text_told, depth_after, text_after, events_behind}
use Rattle.element_events.specs.views.Told.{call}
use Rattle.blank_strings.specs.LeftOutCalls.{AreTexts, no_text, text_and, IsTag, IsBeside, is_end, LeaveOutTexts, last_texts, texts_stay, texts_out}

-- the first event is a tag, and a string before it is beside an element
abbrev pub BeginsBeside : Bool → List Event → Type 0
BeginsBeside b [] = ⊥
BeginsBeside b (e ∷ es) = IsBeside b e.kind

-- The second events are the first ones, where some blank strings that are beside an element are left out. The truth value
-- says whether an end is before the events.
pub data LeaveOutStrings : Bool → List Event → List Event → Type 0 where
  no_events : {b : Bool} → LeaveOutStrings b [] []
  stays : {b : Bool} {e : Event} {es fs : List Event} → LeaveOutStrings (is_end e.kind) es fs → LeaveOutStrings b (e ∷ es) (e ∷ fs)
  string_out : {b : Bool} {n : ℕ} {s : List ℕ} {es fs : List Event} → is_blank s ≡ true → BeginsBeside b es → LeaveOutStrings false es fs
      → LeaveOutStrings b (call n (a_string s) ∷ es) fs

all_stay : (b : Bool) (es : List Event) → LeaveOutStrings b es es
all_stay b [] = no_events
all_stay b (e ∷ es) = stays (all_stay (is_end e.kind) es)

-- ---- a run of texts

-- the text behind a run of texts
abbrev text_behind : ℕ → List ℕ → List Event → List ℕ
text_behind depth text [] = text
text_behind depth text (c ∷ more) = text_behind depth (text_after c.kind depth text) more

run_told : {P : List ℕ → Type 0} {run : List Event} → AreTexts P run → (depth : ℕ) (text : List ℕ) (more : List Event)
    → events_behind depth text (run ++ more) ≡ events_behind depth (text_behind depth text run) more
unfolding events_behind
run_told no_text depth text more = refl
run_told (text_and {s = s} p a) depth text more = run_told a depth (text ++ text_told depth s) more

if_blank : (b : Bool) (s : List ℕ) → is_blank s ≡ true → is_blank (if b then [] else s) ≡ true
if_blank true s e = refl
if_blank false s e = e

both_blank : (s t : List ℕ) → is_blank s ≡ true → is_blank t ≡ true → is_blank (s ++ t) ≡ true
both_blank s t d e = rw (list_all-append is_blank_byte s t, d, e) refl

blank_behind : {run : List Event} → AreTexts (λ s. is_blank s ≡ true) run → (depth : ℕ) (text : List ℕ) → is_blank text ≡ true
    → is_blank (text_behind depth text run) ≡ true
blank_behind no_text depth text e = e
blank_behind (text_and {s = s} p a) depth text e =
    blank_behind a depth (text ++ text_told depth s) (both_blank text (text_told depth s) e (if_blank (depth == 0 && is_blank s) s p))

-- ---- a run and a tag

tag_told : (k : EventKind) → IsTag k → (n depth : ℕ) (text : List ℕ) (more : List Event) → events_behind depth text (call n k ∷ more)
    ≡ string_at n text ++ call n k ∷ events_behind (depth_after k depth) [] more
unfolding events_behind
tag_told (a_start q xs) t n depth text more = append_assoc (string_at n text) _ _
tag_told (a_string s) t n depth text more = absurd t
tag_told an_end t n depth text more = append_assoc (string_at n text) _ _

is_tag : (b : Bool) (k : EventKind) → IsBeside b k → IsTag k
is_tag b (a_start q xs) i = tt
is_tag b (a_string s) i = i
is_tag b an_end i = tt

string_stays : {b : Bool} (k : EventKind) (n : ℕ) (text : List ℕ) (es fs : List Event) → LeaveOutStrings (is_end k) es fs →
    LeaveOutStrings b (string_at n text ++ call n k ∷ es) (string_at n text ++ call n k ∷ fs)
string_stays k n [] es fs o = stays o
string_stays k n (c ∷ cs) es fs o = stays (stays o)

blank_is_out : {b : Bool} (k : EventKind) (n : ℕ) (text : List ℕ) (es fs : List Event) → is_blank text ≡ true → IsBeside b k
    → LeaveOutStrings (is_end k) es fs → LeaveOutStrings b (string_at n text ++ call n k ∷ es) (call n k ∷ fs)
blank_is_out k n [] es fs e i o = stays o
blank_is_out k n (c ∷ cs) es fs e i o = string_out e i (stays o)

-- ---- all calls

pub left_out_strings : {b : Bool} {cs ds : List Event} → LeaveOutTexts b cs ds → (depth : ℕ)
    → LeaveOutStrings b (events_behind depth [] cs) (events_behind depth [] ds)
left_out_strings (last_texts {b} {run} a) depth = all_stay b (events_behind depth [] run)
left_out_strings (texts_stay {cs = cs} {ds = ds} run n k a t o) depth =
    let text = text_behind depth [] run in
    rw (run_told a depth [] (call n k ∷ cs), run_told a depth [] (call n k ∷ ds), tag_told k t n depth text cs, tag_told k t n depth text ds)
    (string_stays k n text _ _ (left_out_strings o (depth_after k depth)))
left_out_strings (texts_out {b = b} {cs = cs} {ds = ds} run n k a i o) depth =
    let text = text_behind depth [] run in
    let t = is_tag b k i in
    rw (run_told a depth [] (call n k ∷ cs), tag_told k t n depth text cs, tag_told k t n depth [] ds)
    (blank_is_out k n text _ _ (blank_behind a depth [] refl) i (left_out_strings o (depth_after k depth)))

-- ---- what holds of each call

module _ (P : Event → Type 0) where
  pub all_in_place : (run cs ds : List Event) → (AllByRecursion P cs → AllByRecursion P ds) → AllByRecursion P (run ++ cs) → AllByRecursion P (run ++ ds)
  all_in_place [] cs ds f g = f g
  all_in_place (c ∷ run) cs ds f g = (g.0, all_in_place run cs ds f g.1)

  all_without : (run cs ds : List Event) → (AllByRecursion P cs → AllByRecursion P ds) → AllByRecursion P (run ++ cs) → AllByRecursion P ds
  all_without [] cs ds f g = f g
  all_without (c ∷ run) cs ds f g = all_without run cs ds f g.1

  pub all_stay_so : {b : Bool} {cs ds : List Event} → LeaveOutTexts b cs ds → AllByRecursion P cs → AllByRecursion P ds
  all_stay_so (last_texts a) g = g
  all_stay_so (texts_stay {cs = cs} {ds = ds} run n k a t o) g = all_in_place run (call n k ∷ cs) (call n k ∷ ds) (λ g. (g.0, all_stay_so o g.1)) g
  all_stay_so (texts_out {cs = cs} {ds = ds} run n k a i o) g = all_without run (call n k ∷ cs) (call n k ∷ ds) (λ g. (g.0, all_stay_so o g.1)) g
