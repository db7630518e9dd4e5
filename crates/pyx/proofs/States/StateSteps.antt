-- The effect of one line in each state of a document.
use Rattle.std.proofs.Common.{◌≡◌, ℕ, suc, ◌+◌, ◌≤◌, ◌<◌, Bool, true, false, ◌&&◌, List, [], ◌∷◌, ◌++◌, length, Some, None, Ok, refl}
use Rattle.std.proofs.Common.{rules}
use Rattle.std.specs.Prelude.{◌==◌}
use Rattle.std.proofs.lemmas.Bool.{lt-leb, le-leb}
use Rattle.std.proofs.lemmas.List.{append-nil}
use Rattle.rng_model.specs.documents.Lines.{attribute_limit, open_limit, text_limit}
use Rattle.rng_model.specs.documents.PyxLines as lines
use Rattle.rng_model.specs.documents.PyxLines.{Said, QName}
use Rattle.rng_model.specs.documents.PyxTrees.{Event, a_start, a_string, an_end}
use Rattle.pyx.specs.plain.TagReader.{Element, tag_read}
use Rattle.pyx.specs.plain.Declarations.{same_written}
use Rattle.pyx.specs.plain.DocumentReader.{State, Tag, Open, after_events, declared_in, text_ended, started, with_attribute, attributed}
use Rattle.pyx.specs.plain.DocumentReader.{joined_by, ended, said_read}
use Rattle.pyx.proofs.Lines.WrittenNames.{written_itself}
use Rattle.pyx.proofs.Lines.SaidLines.{is_attribute, said_line, good}

-- inside these elements, with this text joined, after this many lines
abbrev pub inside : List Open → List ℕ → ℕ → Bool → State
inside os t n root = record { tag = None; opened = os; joined = t; root = root; count = n }

-- in this tag
abbrev pub in_tag : List Open → Tag → ℕ → State
in_tag os t n = record { tag = Some t; opened = os; joined = []; root = true; count = n }

abbrev pub begun : ℕ → QName → Tag
begun bytes name = record { name = name; declared = []; others = []; bytes = bytes }

abbrev pub open_of : Tag → Open
open_of t = record { name = t.name; declared = t.declared }

abbrev pub is_empty : List ℕ → Bool
is_empty t = length t == 0

abbrev pub text_event : ℕ → List ℕ → List Event
text_event n [] = []
text_event n (c ∷ t) = record { line = n; kind = a_string (c ∷ t) } ∷ []

abbrev pub end_event : ℕ → List Event
end_event n = record { line = n; kind = an_end } ∷ []

abbrev pub start_event : ℕ → Element → List Event
start_event n e = record { line = n; kind = a_start e.name e.attrs } ∷ []

pub not_zero : (n : ℕ) → (suc n == 0) ≡ false
not_zero n = search rules

-- a joined text ends here
pub text_out : (os : List Open) (t : List ℕ) (n : ℕ) (root : Bool) → text_ended (inside os t n root) ≡ good (inside os [] n root) (text_event n t)
unfolding text_ended
text_out os [] n root = refl
text_out os (c ∷ t) n root = rw (not_zero (length t)) refl

pub attribute_step : (os : List Open) (t : Tag) (n b : ℕ) (a : QName) (v : List ℕ) → length t.declared + length t.others < attribute_limit
    → said_line b (lines.attribute a v) (in_tag os t n) ≡ good (in_tag os (with_attribute b (record { name = a; content = v }) t) (n + 1)) []
unfolding said_line said_read attributed
attribute_step os t n b a v h = rw (lt-leb attribute_limit (length t.declared + length t.others) h) refl

pub instruction_step : (os : List Open) (t : List ℕ) (n : ℕ) (root : Bool) (b : ℕ)
    → said_line b lines.instruction (inside os t n root) ≡ good (inside os t (n + 1) root) []
unfolding said_line said_read
instruction_step os t n root b = refl

pub text_step : (o : Open) (os : List Open) (t : List ℕ) (n : ℕ) (root : Bool) (b : ℕ) (v : List ℕ) → length t + length v ≤ text_limit
    → said_line b (lines.text v) (inside (o ∷ os) t n root) ≡ good (inside (o ∷ os) (t ++ v) (n + 1) root) []
unfolding said_line said_read joined_by
text_step o os t n root b v h = rw (not_zero (length os), le-leb (length t + length v) text_limit h) refl

pub start_step : (os : List Open) (t : List ℕ) (n : ℕ) (root : Bool) (b : ℕ) (name : QName) → (root && length os == 0) ≡ false
    → length os < open_limit → said_line b (lines.start name) (inside os t n root) ≡ good (in_tag os (begun b name) (n + 1)) (text_event (n + 1) t)
unfolding said_line said_read started
start_step os t n root b name fits h = rw (fits, lt-leb open_limit (length os) h, text_out os t (n + 1) root, append-nil) refl

pub end_step : (o : Open) (os : List Open) (t : List ℕ) (n : ℕ) (root : Bool) (b : ℕ) (name : QName) → o.name ≡ name
    → said_line b (lines.end name) (inside (o ∷ os) t n root) ≡ good (inside os [] (n + 1) root) (text_event (n + 1) t ++ end_event (n + 1))
unfolding said_line said_read ended
end_step o os t n root b name e = rw (same, text_out (o ∷ os) t (n + 1) root) refl where
  same : same_written o.name name ≡ true
  same = rw e (written_itself name)

-- the start of a tag is handed out at the next line, whatever that is
pub early : (os : List Open) (t : Tag) (e : Element) (n b : ℕ) (x : Said) → tag_read (declared_in os) t.name t.declared t.others ≡ Ok e
    → is_attribute x ≡ false
    → said_line b x (in_tag os t n) ≡ after_events (start_event (n + 1) e) (said_line b x (inside (open_of t ∷ os) [] n true))
unfolding said_line
early os t e n b x u p = rw (p, u) refl
