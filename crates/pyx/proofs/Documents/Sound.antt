-- What is read to the end is a document. Its parts are found from its end: what is after a line comes first.
use Rattle.std.proofs.Common.{◌≡◌, ℕ, suc, ◌+◌, ◌≤◌, ◌<◌, Bool, true, false, cond, ◌&&◌, List, [], ◌∷◌, ◌++◌, length, Option, Some, None, Result, Ok, Err}
use Rattle.std.proofs.Common.{refl, sym, ap, subst, ◌∙◌, append_assoc, arith}
use Rattle.std.specs.Prelude.{◌==◌, ◌-◌}
use Rattle.std.proofs.lemmas.List.{append-nil, length-append}
use Rattle.rng_model.proofs.Options.{same_ok, err_is_ok}
use Rattle.rng_model.specs.documents.Lines.{Line, lines, attribute_limit, open_limit, text_limit, Fault}
use Rattle.rng_model.specs.documents.PyxLines as said
use Rattle.rng_model.specs.documents.PyxLines.{Said, QName, IsGoodLine, AreGoodLines, no_lines, line_and}
use Rattle.rng_model.specs.documents.PyxNamespaces.{WrittenAttribute, AreWritten, none_written, written_and, NamespaceScope}
use Rattle.rng_model.specs.documents.PyxTrees.{Placed, element_at, PlacedItems, none_placed, placed_and, Event, IsRun, no_run, text_and, instruction_and}
use Rattle.rng_model.specs.documents.PyxTrees.{AreInstructions, no_instructions, another_instruction, string_before, IsTag, IsElement, element, IsContent}
use Rattle.rng_model.specs.documents.PyxTrees.{last_run}
use Rattle.rng_model.specs.documents.PyxTrees.{run_and_element, IsPyxDocument}
use Rattle.pyx.specs.plain.LineReader.{said_of}
use Rattle.pyx.specs.plain.TagReader.{Element, tag_read}
use Rattle.pyx.specs.plain.DocumentReader.{State, Tag, Open, Turn, fault, go_on, declared_in, with_attribute, tag_ended, judged, line_read}
use Rattle.pyx.specs.plain.DocumentReader.{all_read, nothing_read, unfinished, at_end, at_last, all_ended, document_read}
use Rattle.pyx.proofs.Lines.LineClauses.{good_line}
use Rattle.pyx.proofs.Tags.Namespaces.{scope_in, AllDeclared}
use Rattle.pyx.proofs.Tags.Parts as split
use Rattle.pyx.proofs.Tags.Parts.{IsSplit, split_declared}
use Rattle.pyx.proofs.Tags.Exact.{is_tag}
use Rattle.pyx.proofs.Lines.SaidLines.{said_line, good, line_said}
use Rattle.pyx.proofs.States.StateSteps.{inside, in_tag, begun, open_of, not_zero}
use Rattle.pyx.proofs.States.LineCases.{Move, instruction_passes, attribute_outside, text_joins, text_too_long, text_outside, start_begins, start_too_deep}
use Rattle.pyx.proofs.States.LineCases.{start_again}
use Rattle.pyx.proofs.States.LineCases.{end_closes, end_of_other, end_of_none, moves, TagMove, attribute_added, attribute_too_many, tag_refused, tag_closes}
use Rattle.pyx.proofs.States.LineCases.{tag_moves}
use Rattle.pyx.proofs.Documents.Complete.{attribute_longer, split_length}

-- ---- results

some_none : {x : Fault} → Some x ≡ None → ⊥
some_none e = cc

pub goes_first : {A B : Type 0} (r : Result A Fault) (es : List Event) (f : A → Turn B) (b : B) → (go_on r es f).0 ≡ Ok b
    → (a : A) × (r ≡ Ok a) × ((f a).0 ≡ Ok b)
goes_first (Ok a) es f b e = (a, refl, e)
goes_first (Err x) es f b e = absurd (err_is_ok e)

-- a line that is read without a fault has a content
pub record LineGoes (l : Line) (s u : State) : Type 0 where
  pub says : Said
  pub is : IsGoodLine l says
  pub goes : (said_line (length l.bytes) says s).0 ≡ Ok u

pub line_goes : (l : Line) (s u : State) → (line_read l s).0 ≡ Ok u → LineGoes l s u
unfolding line_read
line_goes l s u e = go (said_of l) refl (goes_first (tag_ended l.bytes s).0 (tag_ended l.bytes s).1 _ u e) where
  go : (r : Result Said ℕ) → said_of l ≡ r
      → (t : State) × ((tag_ended l.bytes s).0 ≡ Ok t) × ((judged (length l.bytes) (said_of l) (record t { count = t.count + 1 })).0 ≡ Ok u) → LineGoes l s u
  go (Ok x) q p = let g = good_line l x q in record { says = x; is = g; goes = ap (λ (t : Turn State). t.0) (sym (line_said g s)) ∙ e }
  go (Err k) q p = absurd (err_is_ok (ap (λ (r : Result Said ℕ). (judged (length l.bytes) r (record p.0 { count = p.0.count + 1 })).0) (sym q) ∙ p.2))

-- ---- content after a text that is joined so far

data ContentAfter (room : ℕ) (scope : NamespaceScope) (n : ℕ) (w : List ℕ) (xs : List Said) (kids : PlacedItems) : Type 0 where
  only_text : {t : List ℕ} → IsRun xs t → length w + length t ≤ text_limit → kids ≡ string_before (n + length xs + 1) (w ++ t) none_placed
      → ContentAfter room scope n w xs kids
  and_element : {run inner more : List Said} {rest : PlacedItems} {t : List ℕ} {tree : Placed} → IsRun run t → length w + length t ≤ text_limit
      → IsElement room scope (n + length run) inner tree → IsContent room scope (n + length run + length inner) more rest
      → xs ≡ run ++ (inner ++ more) → kids ≡ string_before (n + length run + 1) (w ++ t) (placed_and tree rest) → ContentAfter room scope n w xs kids

whole_content : {room n : ℕ} {scope : NamespaceScope} {xs : List Said} {kids : PlacedItems} → ContentAfter room scope n [] xs kids → IsContent room scope n xs kids
whole_content (only_text r h e) = last_run r (omega (arith, h)) e
whole_content (and_element r h el c parts e) = run_and_element r (omega (arith, h)) el c parts e

-- one more line in front
next_count : (n : ℕ) (x : Said) (xs : List Said) (k : ℕ) → n + 1 + length xs + k ≡ n + length (x ∷ xs) + k
next_count n x xs k = omega arith

content_text : {room n : ℕ} {scope : NamespaceScope} {w v : List ℕ} {xs : List Said} {kids : PlacedItems} → ContentAfter room scope (n + 1) (w ++ v) xs kids
    → ContentAfter room scope n w (said.text v ∷ xs) kids
content_text {n = n} {w = w} {v = v} {xs = xs} (only_text {t} r h e) =
    only_text (text_and r refl) (omega (arith, h, length-append w v, length-append v t))
    (e ∙ rw (next_count n (said.text v) xs 1, append_assoc w v t) refl)
content_text {room} {n} {scope} {w} {v} {xs} (and_element {run} {inner} {more} {rest} {t} {tree} r h el c parts e) =
    let i : n + 1 + length run ≡ n + length (said.text v ∷ run) = omega arith in
    and_element {run = said.text v ∷ run} (text_and r refl) (omega (arith, h, length-append w v, length-append v t))
    (subst (λ (m : ℕ). IsElement room scope m inner tree) i el) (subst (λ (m : ℕ). IsContent room scope (m + length inner) more rest) i c)
    (ap (λ (ys : List Said). said.text v ∷ ys) parts) (e ∙ rw (i, append_assoc w v t) refl)

content_instruction : {room n : ℕ} {scope : NamespaceScope} {w : List ℕ} {xs : List Said} {kids : PlacedItems} → ContentAfter room scope (n + 1) w xs kids
    → ContentAfter room scope n w (said.instruction ∷ xs) kids
content_instruction {n = n} {xs = xs} (only_text {t} r h e) = only_text (instruction_and r) h (e ∙ rw (next_count n said.instruction xs 1) refl)
content_instruction {room} {n} {scope} {w} {xs} (and_element {run} {inner} {more} {rest} {t} {tree} r h el c parts e) =
    let i : n + 1 + length run ≡ n + length (said.instruction ∷ run) = omega arith in
    and_element {run = said.instruction ∷ run} (instruction_and r) h
    (subst (λ (m : ℕ). IsElement room scope m inner tree) i el) (subst (λ (m : ℕ). IsContent room scope (m + length inner) more rest) i c)
    (ap (λ (ys : List Said). said.instruction ∷ ys) parts) (e ∙ rw i refl)

-- ---- what is after a line

abbrev scope_of : List Open → NamespaceScope
scope_of os = scope_in (declared_in os)

-- after a line inside these elements, with this text joined, these lines come to the end
data Parse : ℕ → List ℕ → List Said → List Open → Bool → Type 0 where
  before_root : {n : ℕ} {w : List ℕ} {xs : List Said} (front root behind : List Said) (tree : Placed) → xs ≡ front ++ (root ++ behind)
      → AreInstructions front → IsElement open_limit [] (n + length front) root tree → AreInstructions behind → Parse n w xs [] false
  behind_root : {n : ℕ} {w : List ℕ} {xs : List Said} → AreInstructions xs → Parse n w xs [] true
  in_element : {n : ℕ} {w : List ℕ} {xs : List Said} {o : Open} {os : List Open} {room : ℕ} {content more : List Said} {kids : PlacedItems}
      → room + length (o ∷ os) ≡ open_limit → ContentAfter room (scope_of (o ∷ os)) n w content kids → Parse (n + length content + 1) [] more os true
      → xs ≡ content ++ said.end o.name ∷ more → Parse n w xs (o ∷ os) true

-- the same after a line of a tag
record TagParse (os : List Open) (t : Tag) (front : List WrittenAttribute) (n : ℕ) (xs : List Said) : Type 0 where
  attributes : List Said
  behind : List Said
  parts : xs ≡ attributes ++ behind
  written : List WrittenAttribute
  are_written : AreWritten attributes written
  few : length (front ++ written) ≤ attribute_limit
  tag : Tag
  name : tag.name ≡ t.name
  is_split : IsSplit (front ++ written) tag.declared tag.others
  e : Element
  is_read : tag_read (declared_in os) tag.name tag.declared tag.others ≡ Ok e
  parse : Parse (n + length attributes) [] behind (open_of tag ∷ os) true

parse_instruction : {n : ℕ} {w : List ℕ} {xs : List Said} {os : List Open} {root : Bool} → Parse (n + 1) w xs os root
    → Parse n w (said.instruction ∷ xs) os root
parse_instruction {n} {w} {xs} (before_root front root behind tree parts a el b) =
    before_root (said.instruction ∷ front) root behind tree (ap (λ (ys : List Said). said.instruction ∷ ys) parts) (another_instruction a)
    (subst (λ (m : ℕ). IsElement open_limit [] m root tree) (omega arith) el) b
parse_instruction (behind_root a) = behind_root (another_instruction a)
parse_instruction {n} (in_element {os} {content} {more} r c p parts) =
    in_element {content = said.instruction ∷ content} r (content_instruction c) (subst (λ (m : ℕ). Parse m [] more os true)
    (next_count n said.instruction content 1) p)
    (ap (λ (ys : List Said). said.instruction ∷ ys) parts)

parse_text : {n : ℕ} {w v : List ℕ} {xs : List Said} {o : Open} {os : List Open} {root : Bool} → Parse (n + 1) (w ++ v) xs (o ∷ os) root
    → Parse n w (said.text v ∷ xs) (o ∷ os) root
parse_text {n} {w} {v} {os = os} (in_element {content} {more} r c p parts) =
    in_element {content = said.text v ∷ content} r (content_text c) (subst (λ (m : ℕ). Parse m [] more os true) (next_count n (said.text v) content 1) p)
    (ap (λ (ys : List Said). said.text v ∷ ys) parts)

parse_end : {n : ℕ} {w : List ℕ} {xs : List Said} {o : Open} {os : List Open} (room : ℕ) (name : QName) → o.name ≡ name
    → room + length (o ∷ os) ≡ open_limit
    → length w ≤ text_limit → Parse (n + 1) [] xs os true → Parse n w (said.end name ∷ xs) (o ∷ os) true
parse_end {n} {w} {xs} {o} {os} room name e r h p =
    in_element {room = room} {content = []} r (only_text no_run (omega (arith, h)) refl) (subst (λ (m : ℕ). Parse m [] xs os true) (omega arith) p)
    (ap (λ (x : QName). said.end x ∷ xs) (sym e))

-- ---- a tag and its element

tag_attribute : {os : List Open} {t : Tag} {front : List WrittenAttribute} {n : ℕ} {xs : List Said} (a : QName) (v : List ℕ) (b : ℕ)
    → TagParse os (with_attribute b (record { name = a; content = v }) t) (front ++ record { name = a; content = v } ∷ []) (n + 1) xs
    → (with_attribute b (record { name = a; content = v }) t).name ≡ t.name → TagParse os t front n (said.attribute a v ∷ xs)
tag_attribute {os} {t} {front} {n} {xs} a v b p e =
    let w : WrittenAttribute = record { name = a; content = v } in
    let all : (front ++ w ∷ []) ++ p.written ≡ front ++ w ∷ p.written = append_assoc front (w ∷ []) p.written in record {
      attributes = said.attribute a v ∷ p.attributes;
      behind = p.behind;
      parts = ap (λ (ys : List Said). said.attribute a v ∷ ys) p.parts;
      written = w ∷ p.written;
      are_written = written_and p.are_written;
      few = subst (λ (x : List WrittenAttribute). length x ≤ attribute_limit) all p.few;
      tag = p.tag;
      name = p.name ∙ e;
      is_split = subst (λ (x : List WrittenAttribute). IsSplit x p.tag.declared p.tag.others) all p.is_split;
      e = p.e;
      is_read = p.is_read;
      parse = subst (λ (m : ℕ). Parse m [] p.behind (open_of p.tag ∷ os) true) (omega arith) p.parse;
    }

tag_ends : {os : List Open} {t : Tag} {front : List WrittenAttribute} {n : ℕ} {xs : List Said} (e : Element)
    → tag_read (declared_in os) t.name t.declared t.others ≡ Ok e → IsSplit front t.declared t.others → length front ≤ attribute_limit
    → Parse n [] xs (open_of t ∷ os) true → TagParse os t front n xs
tag_ends {os} {t} {front} {n} {xs} e q s h p = record {
  attributes = [];
  behind = xs;
  parts = refl;
  written = [];
  are_written = none_written;
  few = subst (λ (x : List WrittenAttribute). length x ≤ attribute_limit) (sym (append-nil front)) h;
  tag = t;
  name = refl;
  is_split = subst (λ (x : List WrittenAttribute). IsSplit x t.declared t.others) (sym (append-nil front)) s;
  e = e;
  is_read = q;
  parse = subst (λ (m : ℕ). Parse m [] xs (open_of t ∷ os) true) (omega arith) p;
}

-- an element, and what is after it
record Whole (os : List Open) (n : ℕ) (xs : List Said) : Type 0 where
  room : ℕ
  deep : room + length os ≡ open_limit
  all : List Said
  more : List Said
  tree : Placed
  parts : xs ≡ all ++ more
  is : IsElement room (scope_of os) n all tree
  behind : Parse (n + length all) [] more os true

whole_by : {os : List Open} {o : Open} {n m : ℕ} {name : QName} {attributes behind xs : List Said} {q : Element} → o.name ≡ name
    → IsTag (scope_of os) name attributes q.name q.attrs (scope_of (o ∷ os)) → xs ≡ attributes ++ behind → m ≡ n + 1 + length attributes
    → Parse m [] behind (o ∷ os) true → Whole os n (said.start name ∷ xs)
whole_by {os} {o} {n} {m} {name} {attributes} {behind} {xs} {q} e t parts at (in_element {room} {content} {more} {kids} r c p is) =
    let all = said.start name ∷ (attributes ++ (content ++ said.end name ∷ [])) in
    let size : length all ≡ 1 + length attributes + length content + 1 =
    omega (arith, length-append attributes (content ++ said.end name ∷ []), length-append content (said.end name ∷ [])) in record {
      room = suc room;
      deep = omega (arith, r);
      all = all;
      more = more;
      tree = element_at (n + 1 + length attributes + 1) q.name q.attrs kids (n + 1 + length attributes + length content + 1);
      parts = rw (parts, is, e) (ap (λ (ys : List Said). said.start name ∷ ys) (sym (append_assoc attributes (content ++ said.end name ∷ []) more
          ∙ ap (λ (ys : List Said). attributes ++ ys) (append_assoc content (said.end name ∷ []) more))));
      is = element t (subst (λ (k : ℕ). IsContent room (scope_of (o ∷ os)) k content kids) at (whole_content c)) refl refl;
      behind = subst (λ (k : ℕ). Parse k [] more os true) (omega (arith, at, size)) p;
    }

whole_tag : {os : List Open} {n b : ℕ} {name : QName} {xs : List Said} → AllDeclared (declared_in os) → TagParse os (begun b name) [] (n + 1) xs
    → Whole os n (said.start name ∷ xs)
whole_tag {os} {n} {b} {name} {xs} all p =
    whole_by {q = p.e} p.name (is_tag (declared_in os) name p.written p.tag.declared p.tag.others p.is_split all p.attributes p.e p.are_written p.few
    (ap (λ (x : QName). tag_read (declared_in os) x p.tag.declared p.tag.others) (sym p.name) ∙ p.is_read)) p.parts refl p.parse

-- an element inside its parent
parse_root : {n : ℕ} {w : List ℕ} {xs : List Said} → Whole [] n xs → Parse n w xs [] false
parse_root {n} {w} {xs} k = go k.behind where
  is : IsElement open_limit [] (n + 0) k.all k.tree
  is = let r : k.room ≡ open_limit = omega (arith, k.deep) in subst (λ (m : ℕ). IsElement open_limit [] m k.all k.tree) (omega arith)
      (subst (λ (m : ℕ). IsElement m [] n k.all k.tree) r k.is)

  go : Parse (n + length k.all) [] k.more [] true → Parse n w xs [] false
  go (behind_root a) = before_root [] k.all k.more k.tree k.parts no_instructions is a

parse_child : {n : ℕ} {w : List ℕ} {xs : List Said} {o : Open} {os : List Open} → length w ≤ text_limit → Whole (o ∷ os) n xs → Parse n w xs (o ∷ os) true
parse_child {n} {w} {xs} {o} {os} h k = go k.behind where
  go : Parse (n + length k.all) [] k.more (o ∷ os) true → Parse n w xs (o ∷ os) true
  go (in_element {room} {content} {more} {kids} r c p parts) =
      let same : k.room ≡ room = omega (arith, r, k.deep) in
      let size : length (k.all ++ content) ≡ length k.all + length content = length-append k.all content in
      in_element {content = k.all ++ content} r (and_element {run = []} {inner = k.all} {more = content} {rest = kids} {tree = k.tree} no_run (omega (arith, h))
      (subst (λ (m : ℕ). IsElement room (scope_of (o ∷ os)) m k.all k.tree) (omega arith)
      (subst (λ (m : ℕ). IsElement m (scope_of (o ∷ os)) n k.all k.tree) same k.is))
      (subst (λ (m : ℕ). IsContent room (scope_of (o ∷ os)) m content kids) (omega arith) (whole_content c)) refl refl)
      (subst (λ (m : ℕ). Parse m [] more os true) (omega (arith, size)) p)
      (k.parts ∙ ap (λ (ys : List Said). k.all ++ ys) parts ∙ sym (append_assoc k.all content (said.end o.name ∷ more)))

-- ---- all lines

-- from this state the lines are read to the end
record Reads (ls : List Line) (s : State) : Type 0 where
  last : State
  goes : (all_read ls s).0 ≡ Ok last
  ends : at_end last ≡ None

-- inside an element there is a root
abbrev IsRooted : List Open → Bool → Type 0
IsRooted [] root = Unit {0}
IsRooted (o ∷ os) root = root ≡ true

record Fits (os : List Open) (w : List ℕ) (root : Bool) : Type 0 where
  declared : AllDeclared (declared_in os)
  deep : length os ≤ open_limit
  within : length w ≤ text_limit
  rooted : IsRooted os root

record Parsed (ls : List Line) (os : List Open) (w : List ℕ) (n : ℕ) (root : Bool) : Type 0 where
  says : List Said
  good : AreGoodLines ls says
  parse : Parse n w says os root

record TagParsed (ls : List Line) (os : List Open) (t : Tag) (front : List WrittenAttribute) (n : ℕ) : Type 0 where
  says : List Said
  good : AreGoodLines ls says
  parse : TagParse os t front n says

-- each way to read the lines to the end
record Parses (ls : List Line) : Type 0 where
  outside : (os : List Open) (w : List ℕ) (n : ℕ) (root : Bool) → Fits os w root → Reads ls (inside os w n root) → Parsed ls os w n root
  in_tags : (os : List Open) (t : Tag) (front : List WrittenAttribute) (n : ℕ) → AllDeclared (declared_in os) → length os < open_limit
      → IsSplit front t.declared t.others → length front ≤ attribute_limit → Reads ls (in_tag os t n) → TagParsed ls os t front n

no_end : {s u : State} → (all_read [] s).0 ≡ Ok u → s ≡ u
unfolding all_read
no_end e = same_ok e

one_open : {P : Type 0} (o : Open) (os : List Open) (n : ℕ)
    → cond {A = Option Fault} (length (o ∷ os) == 0) None (Some (record { clause = 13; line = n })) ≡ None → P
one_open o os n e = absurd (some_none (sym k ∙ e)) where
  k : cond {A = Option Fault} (length (o ∷ os) == 0) None (Some (record { clause = 13; line = n })) ≡ Some (record { clause = 13; line = n })
  k = rw (not_zero (length os)) refl

end_outside : (os : List Open) (w : List ℕ) (n : ℕ) (root : Bool) → at_end (inside os w n root) ≡ None → (os ≡ []) × (root ≡ true)
unfolding at_end
end_outside [] w n true e = (refl, refl)
end_outside [] w n false e = absurd (some_none e)
end_outside (o ∷ os) w n true e = one_open o os n e
end_outside (o ∷ os) w n false e = absurd (some_none e)

end_tag : (os : List Open) (t : Tag) (n : ℕ) → at_end (in_tag os t n) ≡ None → ⊥
unfolding at_end
end_tag os t n e = go (tag_read (declared_in os) t.name t.declared t.others) e where
  go : (r : Result Element ℕ) → unfinished n r ≡ None → ⊥
  go (Ok x) q = some_none q
  go (Err k) q = some_none q

parses_nil : Parses []
parses_nil = record {
  outside = λ os w n root f r. let k = end_outside os w n root (subst (λ (s : State). at_end s ≡ None) (sym (no_end r.goes)) r.ends) in
      nothing os w n root k.0 k.1;
  in_tags = λ os t front n all h s few r. absurd (end_tag os t n (subst (λ (s : State). at_end s ≡ None) (sym (no_end r.goes)) r.ends));
} where
  nothing : (os : List Open) (w : List ℕ) (n : ℕ) (root : Bool) → os ≡ [] → root ≡ true → Parsed [] os w n root
  nothing os w n root e f = rw (e, f) (record { says = []; good = no_lines; parse = behind_root no_instructions })

-- the next line has this content
record Next (ls : List Line) (x : Said) (os : List Open) (w : List ℕ) (n : ℕ) (root : Bool) : Type 0 where
  says : List Said
  good : AreGoodLines ls says
  parse : Parse n w (x ∷ says) os root

rooted_outer : (os : List Open) (root : Bool) → root ≡ true → IsRooted os root
rooted_outer [] root e = tt
rooted_outer (o ∷ os) root e = e

start_parse : (os : List Open) (w : List ℕ) (n : ℕ) (root : Bool) (xs : List Said) → Fits os w root → (root && length os == 0) ≡ false → Whole os n xs
    → Parse n w xs os root
start_parse [] w n true xs f fits k = absurd cc
start_parse [] w n false xs f fits k = parse_root k
start_parse (o ∷ os) w n root xs f fits k = subst (λ (r : Bool). Parse n w xs (o ∷ os) r) (sym f.rooted) (parse_child f.within k)

module _ (l : Line) (ls : List Line) (more : Parses ls) where
  -- the lines after it are read to the end
  record Behind (turn : Turn State) : Type 0 where
    here : State
    goes : turn.0 ≡ Ok here
    last : State
    reads : (all_read ls here).0 ≡ Ok last
    ends : at_end last ≡ None

  rest : {turn : Turn State} {t : State} {es : List Event} → turn ≡ good t es → Behind turn → Reads ls t
  rest {t = t} e r = let k : t ≡ r.here = same_ok (sym (ap (λ (x : Turn State). x.0) e) ∙ r.goes) in
      record { last = r.last; goes = subst (λ (s : State). (all_read ls s).0 ≡ Ok r.last) (sym k) r.reads; ends = r.ends }

  refused : {turn : Turn State} {k n : ℕ} → turn ≡ fault k n → Behind turn → ⊥
  refused e r = err_is_ok (sym (ap (λ (x : Turn State). x.0) e) ∙ r.goes)

  next_outside : (b : ℕ) (os : List Open) (w : List ℕ) (n : ℕ) (root : Bool) (x : Said) (turn : Turn State) → Fits os w root → Move w n b root os x turn
      → Behind turn → Next ls x os w n root
  next_outside b os w n root x turn f (instruction_passes e) r =
      let p = more.outside os w (n + 1) root f (rest e r) in record { says = p.says; good = p.good; parse = parse_instruction p.parse }
  next_outside b os w n root x turn f (attribute_outside e) r = absurd (refused e r)
  next_outside b os w n root x turn f (text_joins {o} {os = outer} {v} h e) r =
      let g : Fits os (w ++ v) root = record { declared = f.declared; deep = f.deep; within = omega (arith, h, length-append w v); rooted = f.rooted } in
      let p = more.outside os (w ++ v) (n + 1) root g (rest e r) in record { says = p.says; good = p.good; parse = parse_text p.parse }
  next_outside b os w n root x turn f (text_too_long h e) r = absurd (refused e r)
  next_outside b os w n root x turn f (text_outside e) r = absurd (refused e r)
  next_outside b os w n root x turn f (start_begins {name} fits few e) r =
      let p = more.in_tags os (begun b name) [] (n + 1) f.declared few split.no_lines (omega arith) (rest e r) in
      record { says = p.says; good = p.good; parse = start_parse os w n root (said.start name ∷ p.says) f fits (whole_tag f.declared p.parse) }
  next_outside b os w n root x turn f (start_too_deep h e) r = absurd (refused e r)
  next_outside b os w n root x turn f (start_again e) r = absurd (refused e r)
  next_outside b os w n root x turn f (end_closes {o} {os = outer} {name} q e) r =
      let g : Fits outer [] root = record {
        declared = f.declared.1;
        deep = omega (arith, f.deep);
        within = omega arith;
        rooted = rooted_outer outer root f.rooted;
      } in
      let p = more.outside outer [] (n + 1) root g (rest e r) in
      record {
        says = p.says;
        good = p.good;
        parse = subst (λ (k : Bool). Parse n w (said.end name ∷ p.says) (o ∷ outer) k) (sym f.rooted)
            (parse_end (open_limit - length (o ∷ outer)) name q (omega (arith, f.deep)) f.within
            (subst (λ (k : Bool). Parse (n + 1) [] p.says outer k) f.rooted p.parse));
      }
  next_outside b os w n root x turn f (end_of_other q e) r = absurd (refused e r)
  next_outside b os w n root x turn f (end_of_none e) r = absurd (refused e r)

  next_in_tag : (b : ℕ) (os : List Open) (t : Tag) (front : List WrittenAttribute) (n : ℕ) (x : Said) (turn : Turn State) → AllDeclared (declared_in os)
      → length os < open_limit → IsSplit front t.declared t.others → length front ≤ attribute_limit → TagMove os t n b x turn → Behind turn
      → (says : List Said) × AreGoodLines ls says × TagParse os t front n (x ∷ says)
  next_in_tag b os t front n x turn all h s few (attribute_added {a} {v} q e) r =
      let w : WrittenAttribute = record { name = a; content = v } in
      let k = attribute_longer front w t b s in
      let p = more.in_tags os (with_attribute b w t) (front ++ w ∷ []) (n + 1) all h k.split
      (omega (arith, q, split_length s, length-append front (w ∷ []))) (rest e r) in
      (p.says, p.good, tag_attribute a v b p.parse k.name)
  next_in_tag b os t front n x turn all h s few (attribute_too_many q e) r = absurd (refused e r)
  next_in_tag b os t front n x turn all h s few (tag_refused k p q e) r = absurd (refused e r)
  next_in_tag b os t front n x turn all h s few (tag_closes {inner} e p q m is) r =
      let f : Fits (open_of t ∷ os) [] true = record { declared = (split_declared s, all); deep = omega (arith, h); within = omega arith; rooted = refl } in
      let k = next_outside b (open_of t ∷ os) [] n true x inner f m
      (record { here = r.here; goes = sym (ap (λ (y : Turn State). y.0) is) ∙ r.goes; last = r.last; reads = r.reads; ends = r.ends }) in
      (k.says, k.good, tag_ends e q s few k.parse)

  -- the content of the first line, and the result of reading what is after it
  record Begins (s : State) : Type 0 where
    says : Said
    is : IsGoodLine l says
    behind : Behind (said_line (length l.bytes) says s)

  begins : {s : State} → Reads (l ∷ ls) s → Begins s
  unfolding all_read
  begins {s} r =
      let p = goes_first (line_read l s).0 (line_read l s).1 (all_read ls) r.last r.goes in
      let k = line_goes l s p.0 p.1 in
      record { says = k.says; is = k.is; behind = record { here = p.0; goes = k.goes; last = r.last; reads = p.2; ends = r.ends } }

  parses_cons : Parses (l ∷ ls)
  parses_cons = record {
    outside = λ os w n root f r. let k = begins r in
        let p = next_outside (length l.bytes) os w n root k.says _ f (moves os w n (length l.bytes) root k.says) k.behind in
        record { says = k.says ∷ p.says; good = line_and k.is p.good; parse = p.parse };
    in_tags = λ os t front n all h s few r. let k = begins r in
        let p = next_in_tag (length l.bytes) os t front n k.says _ all h s few (tag_moves os t n (length l.bytes) k.says) k.behind in
        record { says = k.says ∷ p.0; good = line_and k.is p.1; parse = p.2 };
  }

parses : (ls : List Line) → Parses ls
parses [] = parses_nil
parses (l ∷ ls) = parses_cons l ls (parses ls)

-- ---- documents

-- the lines are those of a document
record IsRead (ls : List Line) : Type 0 where
  before : List Said
  root : List Said
  behind : List Said
  tree : Placed
  good : AreGoodLines ls (before ++ (root ++ behind))
  instructions_before : AreInstructions before
  is_root : IsElement open_limit [] (length before) root tree
  instructions_behind : AreInstructions behind

whole : {ls : List Line} → Reads ls nothing_read → IsRead ls
whole {ls} r =
    let first : Fits [] [] false = record { declared = tt; deep = omega arith; within = omega arith; rooted = tt } in
    let p = (parses ls).outside [] [] 0 false first r in go p.says p.good p.parse where
      go : (xs : List Said) → AreGoodLines ls xs → Parse 0 [] xs [] false → IsRead ls
      go xs g (before_root front root behind tree parts a el b) = record {
        before = front;
        root = root;
        behind = behind;
        tree = tree;
        good = subst (AreGoodLines ls) parts g;
        instructions_before = a;
        is_root = subst (λ (m : ℕ). IsElement open_limit [] m root tree) (omega arith) el;
        instructions_behind = b;
      }

reads_by : {ls : List Line} {s : State} → (document_read ls).0 ≡ Ok s → Reads ls nothing_read
unfolding document_read all_ended
reads_by {ls} {s} e = let p = goes_first (all_read ls nothing_read).0 (all_read ls nothing_read).1 all_ended s e in
    record { last = p.0; goes = p.1; ends = at_none p.0 (at_end p.0) refl p.2 } where
      at_none : (t : State) (o : Option Fault) → at_end t ≡ o → (at_last (at_end t) t).0 ≡ Ok s → at_end t ≡ None
      at_none t None q g = q
      at_none t (Some f) q g = absurd (err_is_ok (sym (ap (λ (x : Option Fault). (at_last x t).0) q) ∙ g))

pub sound : (bytes : List ℕ) (s : State) → (document_read (lines bytes)).0 ≡ Ok s → (tree : Placed) × IsPyxDocument bytes tree
sound bytes s e = let d = whole (reads_by e) in (
  d.tree,
  record {
    before = d.before;
    root = d.root;
    behind = d.behind;
    good = d.good;
    instructions_before = d.instructions_before;
    is_root = d.is_root;
    instructions_behind = d.instructions_behind;
  },
)
