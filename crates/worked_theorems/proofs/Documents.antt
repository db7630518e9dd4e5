-- Documents in PYX (docs/use/LANGUAGE.md, "Documents: PYX"): a document that some lines are, and lines that break a clause.
use Rattle.std.proofs.Common.{◌≡◌, ℕ, List, [], ◌∷◌, ◌++◌, codes, None, refl, true, ap, subst, sym, inl, inr, arith, true≢false}
use Rattle.std.specs.Prelude.{◌≤◌, All}
use Rattle.std.specs.Str.{is_utf8, chars, IsUtf8}
use Rattle.std.proofs.lemmas.Str.{IsUtf8-from_is_utf8}
use Rattle.std.proofs.lemmas.Bool.{leb-true}
use Rattle.std.proofs.lemmas.List.Elements.{All-nil, All-from_recursion}
use Rattle.rng_model.specs.names.Lists.{HasTwice}
use Rattle.rng_model.specs.names.Names.{Name, is_xml_char}
use Rattle.rng_model.specs.documents.Lines.{Line, lines, line_limit, Fault, HasKind, IsBefore}
use Rattle.rng_model.specs.matching.Document.{none}
use Rattle.rng_model.specs.documents.PyxLines as pyx
use Rattle.rng_model.specs.documents.PyxLines.{QName, StandsFor, at_end, itself, line_feed, backslash, start, text, end, says_start, says_text, says_end}
use Rattle.rng_model.specs.documents.PyxLines.{no_lines, line_and, StandsForNothing, BreaksAlone}
use Rattle.rng_model.specs.documents.PyxNamespaces.{none_written, nothing, declared_outside, no_default, element_name, none_left}
use Rattle.rng_model.specs.documents.Lines as faults
use Rattle.rng_model.specs.documents.PyxTrees as trees
use Rattle.rng_model.specs.documents.PyxTrees.{Placed, text_at, element_at, none_placed, placed_and, Event, a_start, a_string, an_end, events_of, IsPyxDocument}
use Rattle.rng_model.specs.documents.PyxClauses as clauses
use Rattle.rng_model.specs.documents.PyxClauses.{Breaks, at_line, BreaksBetween, BreaksHere, IsFirstFault}
use Rattle.rng_model.proofs.Examples.Pyx.{whole, good, a_is_a_name, first_of}

-- ---- a text with an escape

-- `x\ny`: a backslash and an `n` mean a line feed
abbrev x_newline_y : List ℕ
x_newline_y = 120 ∷ 92 ∷ 110 ∷ 121 ∷ []

means_a_line_feed : StandsFor x_newline_y (120 ∷ 10 ∷ 121 ∷ [])
means_a_line_feed = itself (λ e. omega (arith, e)) (line_feed (itself (λ e. omega (arith, e)) at_end))

-- `\\n`: two backslashes mean one, and the `n` means itself
means_a_backslash : StandsFor (92 ∷ 92 ∷ 110 ∷ []) (92 ∷ 110 ∷ [])
means_a_backslash = backslash (itself (λ e. omega (arith, e)) at_end)

-- `\q` means nothing
no_such_escape : StandsForNothing (92 ∷ 113 ∷ [])
no_such_escape value (itself differs more) = differs refl

-- ---- a document

abbrev name_a : QName
name_a = record { prefix = None; local = codes "a" }

abbrev expanded_a : Name
expanded_a = record { ns = []; local = codes "a" }

-- the three lines `(a`, `-x\ny` and `)a`
abbrev three_lines : List ℕ
three_lines = codes "(a" ++ 10 ∷ (45 ∷ x_newline_y ++ 10 ∷ (codes ")a" ++ 10 ∷ []))

abbrev the_document : Placed
the_document = element_at 2 expanded_a [] (placed_and (text_at 3 (120 ∷ 10 ∷ 121 ∷ [])) none_placed) 3

pub nothing_repeats : {A : Type 0} → ¬ (HasTwice {A = A} [])
nothing_repeats r = elim r [ ]

-- they are the element `a` with the text x, line feed, y (docs/use/LANGUAGE.md, "Documents: PYX")
three_lines_are : IsPyxDocument three_lines the_document
unfolding lines chars is_utf8 lib.Utf8.encode
three_lines_are = record {
  before = [];
  root = start name_a ∷ text (120 ∷ 10 ∷ 121 ∷ []) ∷ end name_a ∷ [];
  behind = [];
  good = line_and (good (codes "(a") refl refl refl (says_start a_is_a_name))
      (line_and (good (45 ∷ x_newline_y) refl refl refl (says_text means_a_line_feed))
      (line_and (good (codes ")a") refl refl refl (says_end a_is_a_name)) no_lines));
  instructions_before = trees.no_instructions;
  is_root = trees.element {attributes = []} {content = text (120 ∷ 10 ∷ 121 ∷ []) ∷ []} (record {
    written = [];
    are_written = none_written;
    within = omega arith;
    once = nothing_repeats;
    declarations = [];
    others = [];
    are_parted = nothing;
    allowed = All-nil _;
    scope_is = refl;
    is_named = element_name (declared_outside (All-nil _) no_default);
    are_expanded = none_left;
    distinct = none;
  }) (trees.last_run (trees.text_and trees.no_run refl) (omega arith) refl) refl refl;
  instructions_behind = trees.no_instructions;
}

abbrev event : ℕ → trees.EventKind → Event
event line kind = record { line = line; kind = kind }

-- The start comes at the first line after its tag. The text comes at the next `(` or `)` line, and the end at its own.
its_events : events_of the_document ≡ event 2 (a_start expanded_a []) ∷ event 3 (a_string (120 ∷ 10 ∷ 121 ∷ [])) ∷ event 3 an_end ∷ []
its_events = refl

-- ---- lines that break a clause

-- the second of the lines `(a`, `-\q` and `)a` breaks P5 (docs/use/LANGUAGE.md, P5)
bad_escape : Breaks (whole (codes "(a") ∷ whole (45 ∷ 92 ∷ 113 ∷ []) ∷ whole (codes ")a") ∷ []) (record { clause = 5; line = 2 })
bad_escape = at_line {before = whole (codes "(a") ∷ []} {behind = whole (codes ")a") ∷ []} (whole (45 ∷ 92 ∷ 113 ∷ [])) refl refl
    (clauses.within (leb-true 3 line_limit refl) (clauses.alone (pyx.bad_text refl no_such_escape)))

a_is_open : clauses.AreOpenTags (whole (codes "(a") ∷ []) (record { first = whole (codes "(a"); attributes = [] } ∷ [])
a_is_open = clauses.one_open {front = []} {attributes = []} {rest = []} (whole (codes "(a")) (clauses.none_open faults.nothing) (codes "a", refl)
    (All-nil _) (λ l rest e k. cc) faults.nothing refl

b_is_not_a : ¬ (codes "b" ≡ codes "a")
b_is_not_a e =
    let heads : ◌≡◌ {A = ℕ} 98 97 = ap first_of e in
    omega (arith, heads)

-- the second of the lines `(a` and `)b` breaks P8: the open element has another name (docs/use/LANGUAGE.md, P8)
other_name : Breaks (whole (codes "(a") ∷ whole (codes ")b") ∷ []) (record { clause = 8; line = 2 })
other_name = at_line {before = whole (codes "(a") ∷ []} {behind = []} (whole (codes ")b")) refl refl
    (clauses.within (leb-true 2 line_limit refl) (clauses.other_name {name = codes "b"} {opened_name = codes "a"} refl a_is_open refl b_is_not_a))

-- ---- XML is not PYX

abbrev xml_line : Line
xml_line = whole (codes "<a/>")

xml_has_kind_60 : (k : ℕ) → ¬ (k ≡ 60) → ¬ (HasKind k xml_line)
xml_has_kind_60 k differs kind = differs (sym (ap first_of kind.1))

xml_is_utf8 : IsUtf8 (codes "<a/>")
unfolding chars is_utf8 lib.Utf8.encode
xml_is_utf8 = IsUtf8-from_is_utf8 (codes "<a/>") refl

xml_has_xml_characters : All (λ c. is_xml_char c ≡ true) (chars (codes "<a/>"))
unfolding chars is_utf8 lib.Utf8.encode
xml_has_xml_characters = All-from_recursion (λ c. is_xml_char c ≡ true) (codes "<a/>") (refl, (refl, (refl, (refl, tt))))

abbrev IsLate : ℕ → Type 0
IsLate clause = 4 ≤ clause

late_alone : {clause : ℕ} → BreaksAlone xml_line clause → IsLate clause
unfolding chars
late_alone (pyx.unended e) = absurd (true≢false e)
late_alone (pyx.no_utf8 f) = absurd (f xml_is_utf8)
late_alone (pyx.no_xml_char u f) = absurd (f xml_has_xml_characters)
late_alone (pyx.no_kind k) = omega arith
late_alone (pyx.bad_text e f) = omega arith
late_alone (pyx.bad_value e c f) = omega arith
late_alone (pyx.bad_start_name e f) = omega arith
late_alone (pyx.bad_end_name e f) = omega arith
late_alone (pyx.bad_attribute_name e c f) = omega arith
late_alone (pyx.no_space e f) = omega arith

late_between : {behind : List Line} {clause : ℕ} → BreaksBetween [] xml_line behind clause → IsLate clause
late_between (clauses.alone b) = late_alone b
late_between (clauses.no_tag k f) = omega arith
late_between (clauses.none_to_end k o) = omega arith
late_between (clauses.other_name e o f d) = omega arith
late_between (clauses.text_outside k o) = omega arith
late_between (clauses.second_root front rest root k o e h) = omega arith
late_between (clauses.attributes k t m) = omega arith
late_between (clauses.elements k o m) = omega arith
late_between (clauses.joined_text t m) = omega arith
late_between (clauses.namespaces t o b) = omega arith
late_between (clauses.repeated_name t o b) = omega arith

late_here : {l : Line} {behind : List Line} {clause : ℕ} → l ≡ xml_line → BreaksHere [] l behind clause → IsLate clause
late_here e (clauses.too_long d) = omega arith
late_here {behind = behind} {clause = clause} e (clauses.within w b) = late_between (subst (λ m. BreaksBetween [] m behind clause) e b)

-- the line `<a/>` breaks P4 at line 1, and no clause of a lesser number (docs/use/LANGUAGE.md, P4)
xml_is_malformed : IsFirstFault (lines (codes "<a/>" ++ 10 ∷ [])) (record { clause = 4; line = 1 })
unfolding lines
xml_is_malformed = record { broken = is_broken; least = no_earlier } where
  is_broken : Breaks (xml_line ∷ []) (record { clause = 4; line = 1 })
  is_broken = at_line {before = []} {behind = []} xml_line refl refl (clauses.within (leb-true 4 line_limit refl) (clauses.alone (pyx.no_kind (record {
    no_start = xml_has_kind_60 40 (λ e. omega (arith, e));
    no_attribute = xml_has_kind_60 65 (λ e. omega (arith, e));
    no_text = xml_has_kind_60 45 (λ e. omega (arith, e));
    no_end = xml_has_kind_60 41 (λ e. omega (arith, e));
    no_instruction = xml_has_kind_60 63 (λ e. omega (arith, e));
  }))))

  no_earlier : (g : Fault) → Breaks (xml_line ∷ []) g → IsBefore (record { clause = 4; line = 1 }) g
  no_earlier g (at_line {before = []} l e n b) = let same : l ≡ xml_line = cc in inr (sym n, late_here same b)
  no_earlier g (at_line {before = m ∷ ms} l e n b) = inl (omega (arith, n))
  no_earlier g (clauses.unfinished o) = inr (refl, omega arith)
  no_earlier g (clauses.rootless n) = inr (refl, omega arith)
