-- Each document is read, and its events are handed out.
use Rattle.std.proofs.Common.{◌≡◌, ℕ, ◌+◌, ◌≤◌, ◌<◌, Bool, true, false, cond, ◌&&◌, List, [], ◌∷◌, ◌++◌, length, Option, Some, None, Ok, refl, sym, ap}
use Rattle.std.proofs.Common.{subst, ◌∙◌, append_assoc, arith}
use Rattle.std.specs.Prelude.{◌==◌, is_some}
use Rattle.std.proofs.lemmas.List.{append-nil, length-append}
use Rattle.rng_model.specs.matching.Document.{Attribute}
use Rattle.rng_model.specs.documents.Lines.{Line, lines, attribute_limit, open_limit, text_limit}
use Rattle.rng_model.specs.names.Names.{Name}
use Rattle.rng_model.specs.documents.PyxLines as said
use Rattle.rng_model.specs.documents.PyxLines.{Said, QName}
use Rattle.rng_model.specs.documents.PyxNamespaces.{WrittenAttribute, AreWritten, none_written, written_and, AreParted, NamespaceScope}
use Rattle.rng_model.specs.documents.PyxTrees.{Placed, element_at, PlacedItems, none_placed, placed_and, Event, events_of, events_in, IsRun, no_run, text_and}
use Rattle.rng_model.specs.documents.PyxTrees.{instruction_and}
use Rattle.rng_model.specs.documents.PyxTrees.{AreInstructions, no_instructions, another_instruction, string_before, IsTag, IsElement, element, IsContent, last_run}
use Rattle.rng_model.specs.documents.PyxTrees.{run_and_element, IsPyxDocument}
use Rattle.pyx.specs.plain.TagReader.{Element, tag_read}
use Rattle.pyx.specs.plain.Declarations.{declared_by}
use Rattle.pyx.specs.plain.DocumentReader.{State, Tag, Open, Turn, after_events, followed, declared_in, with_attribute, nothing_read, at_end, all_ended}
use Rattle.pyx.specs.plain.DocumentReader.{document_read}
use Rattle.pyx.proofs.Tags.Namespaces.{scope_in, AllDeclared}
use Rattle.pyx.proofs.Tags.Parts.{IsSplit, no_lines, declares, declares_none, split_parted, split_declared, split_declaration, split_other}
use Rattle.pyx.proofs.Tags.Unique.{IsScopeOnce, prefixes_of, parted_same}
use Rattle.pyx.proofs.Tags.Exact.{tag_is, once_declared}
use Rattle.pyx.proofs.Input.LineTurns.{sent_before}
use Rattle.pyx.proofs.Lines.SaidLines.{is_attribute, said_line, said_lines, skip, first_of, rest_of, good, cons_said, append_said, none_said, lines_said, sizes}
use Rattle.pyx.proofs.States.StateSteps.{inside, in_tag, begun, open_of, text_event, end_event, start_event, attribute_step, instruction_step, text_step}
use Rattle.pyx.proofs.States.StateSteps.{start_step}
use Rattle.pyx.proofs.States.StateSteps.{end_step, early, not_zero}

-- ---- the lines of a tag

pub split_length : {all ds os : List WrittenAttribute} → IsSplit all ds os → length ds + length os ≡ length all
split_length no_lines = refl
split_length (declares d s) = omega (arith, split_length s)
split_length (declares_none d s) = omega (arith, split_length s)

-- the tag that an `A` line makes
pub record Longer (front : List WrittenAttribute) (a : WrittenAttribute) (t new : Tag) : Type 0 where
  pub name : new.name ≡ t.name
  pub split : IsSplit (front ++ a ∷ []) new.declared new.others

pub attribute_longer : (front : List WrittenAttribute) (a : WrittenAttribute) (t : Tag) (b : ℕ) → IsSplit front t.declared t.others
    → Longer front a t (with_attribute b a t)
attribute_longer front a t b s = go (declared_by a.name) refl where
  go : (o : Option (Option (List ℕ))) → declared_by a.name ≡ o
      → Longer front a t (cond (is_some o) (record t { declared = t.declared ++ a ∷ []; bytes = t.bytes + b })
      (record t { others = t.others ++ a ∷ []; bytes = t.bytes + b }))
  go None e = record { name = refl; split = split_other s a e }
  go (Some p) e = record { name = refl; split = split_declaration s a p e }

-- the result of reading the lines of a tag
record Gathered (bs : List ℕ) (xs : List Said) (os : List Open) (t : Tag) (all : List WrittenAttribute) (n m : ℕ) : Type 0 where
  tag : Tag
  name : tag.name ≡ t.name
  split : IsSplit all tag.declared tag.others
  reads : said_lines bs xs (in_tag os t n) ≡ good (in_tag os tag m) []

gathered_more : (bs : List ℕ) (xs : List Said) (os : List Open) (a : QName) (v : List ℕ) (front ws : List WrittenAttribute) (t : Tag) (n m : ℕ)
    → IsSplit front t.declared t.others → length front < attribute_limit
    → Gathered (rest_of bs) xs os (with_attribute (first_of bs) (record { name = a; content = v }) t)
    ((front ++ record { name = a; content = v } ∷ []) ++ ws) (n + 1) m
    → Gathered bs (said.attribute a v ∷ xs) os t (front ++ record { name = a; content = v } ∷ ws) n m
gathered_more bs xs os a v front ws t n m s h g =
    let w : WrittenAttribute = record { name = a; content = v } in record {
      tag = g.tag;
      name = g.name ∙ (attribute_longer front w t (first_of bs) s).name;
      split = subst (λ (x : List WrittenAttribute). IsSplit x g.tag.declared g.tag.others) (append_assoc front (w ∷ []) ws) g.split;
      reads = cons_said bs (said.attribute a v) xs _ _ [] (attribute_step os t n (first_of bs) a v (omega (arith, h, split_length s)))
          ∙ ap (after_events []) g.reads;
    }

attributes_read : {xs : List Said} {ws : List WrittenAttribute} → AreWritten xs ws → (bs : List ℕ) (os : List Open) (front : List WrittenAttribute) (t : Tag)
    (n m : ℕ) → IsSplit front t.declared t.others → length front + length ws ≤ attribute_limit → m ≡ n + length xs
    → Gathered bs xs os t (front ++ ws) n m
attributes_read none_written bs os front t n m s h e =
    let p : n ≡ m = omega (arith, e) in record {
      tag = t;
      name = refl;
      split = subst (λ (x : List WrittenAttribute). IsSplit x t.declared t.others) (sym (append-nil front)) s;
      reads = rw (← p) (none_said bs _);
    }
attributes_read (written_and {name = a} {content = v} {lines = xs} {more = ws} d) bs os front t n m s h e =
    let w : WrittenAttribute = record { name = a; content = v } in
    let k = attribute_longer front w t (first_of bs) s in
    gathered_more bs xs os a v front ws t n m s (omega (arith, h))
    (attributes_read d (rest_of bs) os (front ++ w ∷ []) (with_attribute (first_of bs) w t) (n + 1) m k.split
    (omega (arith, h, length-append front (w ∷ []))) (omega (arith, e)))

-- ---- texts and instructions

run_read : {xs : List Said} {t : List ℕ} → IsRun xs t → (bs : List ℕ) (o : Open) (os : List Open) (w : List ℕ) (n m : ℕ) → length w + length t ≤ text_limit
    → m ≡ n + length xs → said_lines bs xs (inside (o ∷ os) w n true) ≡ good (inside (o ∷ os) (w ++ t) m true) []
run_read no_run bs o os w n m h e = let p : n ≡ m = omega (arith, e) in rw (append-nil w, ← p) (none_said bs _)
run_read (text_and {value = v} {joined = t} {all} {more = xs} d parts) bs o os w n m h e =
    let p : m ≡ n + 1 + length xs = omega (arith, e) in
    let q : length all ≡ length v + length t = ap length parts ∙ length-append v t in
    cons_said bs (said.text v) xs _ _ [] (text_step o os w n true (first_of bs) v (omega (arith, h, q)))
    ∙ ap (after_events []) (run_read d (rest_of bs) o os (w ++ v) (n + 1) m (omega (arith, h, q, length-append w v)) p)
    ∙ rw (parts, append_assoc w v t) refl
run_read (instruction_and {joined = t} {more = xs} d) bs o os w n m h e =
    let p : m ≡ n + 1 + length xs = omega (arith, e) in
    cons_said bs said.instruction xs _ _ [] (instruction_step (o ∷ os) w n true (first_of bs))
    ∙ ap (after_events []) (run_read d (rest_of bs) o os w (n + 1) m h p)

instructions_read : {xs : List Said} → AreInstructions xs → (bs : List ℕ) (n m : ℕ) (root : Bool) → m ≡ n + length xs
    → said_lines bs xs (inside [] [] n root) ≡ good (inside [] [] m root) []
instructions_read no_instructions bs n m root e = let p : n ≡ m = omega (arith, e) in rw (← p) (none_said bs _)
instructions_read (another_instruction {more = xs} d) bs n m root e =
    let p : m ≡ n + 1 + length xs = omega (arith, e) in
    cons_said bs said.instruction xs _ _ [] (instruction_step [] [] n root (first_of bs))
    ∙ ap (after_events []) (instructions_read d (rest_of bs) (n + 1) m root p)

-- ---- content

-- the state after content: a joined text, whose event comes at the line after it
record Inner (bs : List ℕ) (xs : List Said) (kids : PlacedItems) (o : Open) (os : List Open) (n m : ℕ) : Type 0 where
  joined : List ℕ
  sent : List Event
  reads : said_lines bs xs (inside (o ∷ os) [] n true) ≡ good (inside (o ∷ os) joined m true) sent
  events : events_in kids ≡ sent ++ text_event (m + 1) joined

string_events : (n : ℕ) (t : List ℕ) (rest : PlacedItems) → events_in (string_before n t rest) ≡ text_event n t ++ events_in rest
string_events n [] rest = refl
string_events n (c ∷ t) rest = refl

last_content : (bs : List ℕ) (xs : List Said) (t : List ℕ) (o : Open) (os : List Open) (n m k : ℕ) (kids : PlacedItems) → m ≡ n + length xs → IsRun xs t
    → length t ≤ text_limit → k ≡ m + 1 → kids ≡ string_before k t none_placed → Inner bs xs kids o os n m
last_content bs xs t o os n m k kids e d h p q = record {
  joined = t;
  sent = [];
  reads = run_read d bs o os [] n m (omega (arith, h)) e;
  events = rw (q, string_events k t none_placed, append-nil, p) refl;
}

more_content : (bs : List ℕ) (xs ys zs all : List Said) (t : List ℕ) (o : Open) (os : List Open) (n i j m k : ℕ) (tree : Placed) (more kids : PlacedItems)
    → i ≡ n + length xs → IsRun xs t → length t ≤ text_limit
    → said_lines (skip xs bs) ys (inside (o ∷ os) t i true) ≡ good (inside (o ∷ os) [] j true) (text_event (i + 1) t ++ events_of tree)
    → Inner (skip ys (skip xs bs)) zs more o os j m → all ≡ xs ++ (ys ++ zs) → k ≡ i + 1 → kids ≡ string_before k t (placed_and tree more)
    → Inner bs all kids o os n m
more_content bs xs ys zs all t o os n i j m k tree more kids e d h f g parts p q = record {
  joined = g.joined;
  sent = (text_event (i + 1) t ++ events_of tree) ++ g.sent;
  reads = ap (λ (x : List Said). said_lines bs x (inside (o ∷ os) [] n true)) parts
      ∙ append_said bs xs (ys ++ zs) _ _ [] (run_read d bs o os [] n i (omega (arith, h)) e)
      ∙ ap (after_events []) (append_said (skip xs bs) ys zs _ _ _ f ∙ ap (after_events (text_event (i + 1) t ++ events_of tree)) g.reads);
  events = rw (q, string_events k t (placed_and tree more), p, g.events, append_assoc, append_assoc) refl;
}

-- ---- what follows a tag does not begin with an attribute

abbrev BeginsPlain : List Said → Type 0
BeginsPlain [] = Unit {0}
BeginsPlain (x ∷ xs) = is_attribute x ≡ false

append_plain : (xs ys : List Said) → BeginsPlain xs → BeginsPlain ys → BeginsPlain (xs ++ ys)
append_plain [] ys p q = q
append_plain (x ∷ xs) ys p q = p

run_plain : {xs : List Said} {t : List ℕ} → IsRun xs t → BeginsPlain xs
run_plain no_run = tt
run_plain (text_and d e) = refl
run_plain (instruction_and d) = refl

element_plain : {room n : ℕ} {scope : NamespaceScope} {ys : List Said} {tree : Placed} → IsElement room scope n ys tree → BeginsPlain ys
element_plain (element t c parts e) = subst BeginsPlain (sym parts) refl

content_plain : {room n : ℕ} {scope : NamespaceScope} {xs : List Said} {kids : PlacedItems} → IsContent room scope n xs kids → BeginsPlain xs
content_plain (last_run d h e) = run_plain d
content_plain (run_and_element {run = xs} {inner = ys} {more = zs} d h el c parts e) =
    subst BeginsPlain (sym parts) (append_plain xs (ys ++ zs) (run_plain d) (append_plain ys zs (element_plain el) (content_plain c)))

early_all : (bs : List ℕ) (x : Said) (xs : List Said) (os : List Open) (t : Tag) (e : Element) (n : ℕ)
    → tag_read (declared_in os) t.name t.declared t.others ≡ Ok e → is_attribute x ≡ false
    → said_lines bs (x ∷ xs) (in_tag os t n) ≡ after_events (start_event (n + 1) e) (said_lines bs (x ∷ xs) (inside (open_of t ∷ os) [] n true))
unfolding said_lines
early_all bs x xs os t e n u p =
    let turn = said_line (first_of bs) x (inside (open_of t ∷ os) [] n true) in
    ap (λ (r : Turn State). followed r (said_lines (rest_of bs) xs)) (early os t e n (first_of bs) x u p)
    ∙ sent_before turn.0 turn.1 (start_event (n + 1) e) (said_lines (rest_of bs) xs)

early_list : (bs : List ℕ) (xs : List Said) (last : Said) (os : List Open) (t : Tag) (e : Element) (n : ℕ)
    → tag_read (declared_in os) t.name t.declared t.others ≡ Ok e → BeginsPlain xs → is_attribute last ≡ false → said_lines bs (xs ++ last ∷ []) (in_tag os t n)
    ≡ after_events (start_event (n + 1) e) (said_lines bs (xs ++ last ∷ []) (inside (open_of t ∷ os) [] n true))
early_list bs [] last os t e n u p q = early_all bs last [] os t e n u q
early_list bs (x ∷ xs) last os t e n u p q = early_all bs x (xs ++ last ∷ []) os t e n u p

-- ---- elements

-- the open elements declare this, each prefix once in a tag
pub record Declares (os : List Open) (scope : NamespaceScope) : Type 0 where
  pub is : scope ≡ scope_in (declared_in os)
  pub declared : AllDeclared (declared_in os)
  pub once : IsScopeOnce (scope_in (declared_in os))

end_all : (bs : List ℕ) (o : Open) (os : List Open) (t : List ℕ) (n : ℕ) (name : QName) → o.name ≡ name
    → said_lines bs (said.end name ∷ []) (inside (o ∷ os) t n true) ≡ good (inside os [] (n + 1) true) (text_event (n + 1) t ++ end_event (n + 1))
end_all bs o os t n name e = cons_said bs (said.end name) [] _ _ _ (end_step o os t n true (first_of bs) name e)
    ∙ ap (after_events (text_event (n + 1) t ++ end_event (n + 1))) (none_said (rest_of bs) _) ∙ rw append-nil refl

element_joins : (bs : List ℕ) (xs ys all : List Said) (name : QName) (q : Name) (attrs : List Attribute) (kids : PlacedItems) (os : List Open)
    (t : List ℕ) (root : Bool) (ws : List WrittenAttribute) (n i j m : ℕ) → (root && length os == 0) ≡ false → length os < open_limit
    → (g : Gathered (rest_of bs) xs os (begun (first_of bs) name) ws (n + 1) i)
    → tag_read (declared_in os) g.tag.name g.tag.declared g.tag.others ≡ Ok (record { name = q; attrs = attrs }) → BeginsPlain ys
    → Inner (skip xs (rest_of bs)) ys kids (open_of g.tag) os i j → m ≡ j + 1 → all ≡ said.start name ∷ (xs ++ (ys ++ said.end name ∷ []))
    → said_lines bs all (inside os t n root) ≡ good (inside os [] m true) (text_event (n + 1) t ++ events_of (element_at (i + 1) q attrs kids (j + 1)))
element_joins bs xs ys all name q attrs kids os t root ws n i j m fits h g u first inner p parts =
    let e : Element = record { name = q; attrs = attrs } in
    ap (λ (x : List Said). said_lines bs x (inside os t n root)) parts
    ∙ cons_said bs (said.start name) (xs ++ (ys ++ said.end name ∷ [])) _ _ _ (start_step os t n root (first_of bs) name fits h)
    ∙ ap (after_events (text_event (n + 1) t)) (append_said (rest_of bs) xs (ys ++ said.end name ∷ []) _ _ _ g.reads
    ∙ ap (after_events []) (early_list (skip xs (rest_of bs)) ys (said.end name) os g.tag e i u first refl
    ∙ ap (after_events (start_event (i + 1) e)) (append_said (skip xs (rest_of bs)) ys (said.end name ∷ []) _ _ _ inner.reads
    ∙ ap (after_events inner.sent) (end_all (skip ys (skip xs (rest_of bs))) (open_of g.tag) os inner.joined j name g.name))))
    ∙ rw (p, inner.events, append_assoc) refl

-- the declarations of a tag come before those around it
inner_scope : (os : List Open) (o : Open) (ws others : List WrittenAttribute) (outer scope : NamespaceScope) (name : QName) (xs : List Said) (q : Name)
    (attrs : List Attribute) → Declares os outer → (t : IsTag outer name xs q attrs scope) → IsSplit ws o.declared others → t.written ≡ ws
    → Declares (o ∷ os) scope
inner_scope os o ws others outer scope name xs q attrs d t s e =
    let k = parted_same (subst (λ (w : List WrittenAttribute). AreParted w t.declarations t.others) e t.are_parted) (split_parted s) in record {
      is = t.scope_is ∙ rw (k.0, d.is) refl;
      declared = (split_declared s, d.declared);
      once = (λ u. t.once (once_declared t.are_parted u (ap prefixes_of (sym k.0))), d.once);
    }

tag_element : (os : List Open) (g : Tag) (ws : List WrittenAttribute) (outer scope : NamespaceScope) (name : QName) (xs : List Said) (q : Name)
    (attrs : List Attribute) → Declares os outer → (t : IsTag outer name xs q attrs scope) → IsSplit ws g.declared g.others → t.written ≡ ws
    → g.name ≡ name → tag_read (declared_in os) g.name g.declared g.others ≡ Ok (record { name = q; attrs = attrs })
tag_element os g ws outer scope name xs q attrs d t s e f =
    ap (λ (x : QName). tag_read (declared_in os) x g.declared g.others) f
    ∙ subst (λ (x : NamespaceScope). (t : IsTag x name xs q attrs scope) → t.written ≡ ws
    → tag_read (declared_in os) name g.declared g.others ≡ Ok (record { name = q; attrs = attrs })) (sym d.is)
    (λ t e. tag_is (declared_in os) name ws g.declared g.others s t e d.declared d.once) t e

mutual
  element_reads : {room n : ℕ} {scope : NamespaceScope} {ys : List Said} {tree : Placed} → IsElement room scope n ys tree → (bs : List ℕ) (os : List Open)
      (t : List ℕ) (root : Bool) (m : ℕ) → Declares os scope → room + length os ≡ open_limit → (root && length os == 0) ≡ false → m ≡ n + length ys
      → said_lines bs ys (inside os t n root) ≡ good (inside os [] m true) (text_event (n + 1) t ++ events_of tree)
  element_reads (element {room} {n} {outer} {scope} {all} {attributes = xs} {content = ys} {tree} {name} {q} {attrs} {kids} tag c parts e) bs os t root m d r
      fits p =
      let g = attributes_read tag.are_written (rest_of bs) os [] (begun (first_of bs) name) (n + 1) (n + 1 + length xs) no_lines
      (omega (arith, tag.within)) refl in
      rw e (element_joins bs xs ys all name q attrs kids os t root tag.written n (n + 1 + length xs) (n + 1 + length xs + length ys) m fits
      (omega (arith, r)) g (tag_element os g.tag tag.written outer scope name xs q attrs d tag g.split refl g.name) (content_plain c)
      (content_reads c (skip xs (rest_of bs)) (open_of g.tag) os (n + 1 + length xs + length ys)
      (inner_scope os (open_of g.tag) tag.written g.tag.others outer scope name xs q attrs d tag g.split refl) (omega (arith, r)) refl)
      (omega (arith, p, ap length parts, length-append xs (ys ++ said.end name ∷ []), length-append ys (said.end name ∷ []))) parts)

  content_reads : {room n : ℕ} {scope : NamespaceScope} {xs : List Said} {kids : PlacedItems} → IsContent room scope n xs kids → (bs : List ℕ) (o : Open)
      (os : List Open) (m : ℕ) → Declares (o ∷ os) scope → room + length (o ∷ os) ≡ open_limit → m ≡ n + length xs → Inner bs xs kids o os n m
  content_reads (last_run {n = n} {run = xs} {kids} {joined = t} d h q) bs o os m s r e =
      last_content bs xs t o os n m (n + length xs + 1) kids e d h (omega (arith, e)) q
  content_reads (run_and_element {n = n} {all} {run = xs} {inner = ys} {more = zs} {kids} {rest} {joined = t} {tree} d h el c parts q) bs o os m s r e =
      more_content bs xs ys zs all t o os n (n + length xs) (n + length xs + length ys) m (n + length xs + 1) tree rest kids refl d h
      (element_reads el (skip xs bs) (o ∷ os) t true (n + length xs + length ys) s r (not_zero (length os)) refl)
      (content_reads c (skip ys (skip xs bs)) o os m s r (omega (arith, e, ap length parts, length-append xs (ys ++ zs), length-append ys zs))) parts refl q

-- ---- documents

no_elements : Declares [] []
no_elements = record { is = refl; declared = tt; once = tt }

whole_reads : (bs : List ℕ) (before root behind : List Said) (tree : Placed) → AreInstructions before → IsElement open_limit [] (length before) root tree
    → AreInstructions behind → said_lines bs (before ++ (root ++ behind)) nothing_read
    ≡ good (inside [] [] (length before + length root + length behind) true) (events_of tree)
whole_reads bs before root behind tree b el a =
    append_said bs before (root ++ behind) _ _ _ (instructions_read b bs 0 (length before) false (omega arith))
    ∙ ap (after_events []) (append_said (skip before bs) root behind _ _ _
    (element_reads el (skip before bs) [] [] false (length before + length root) no_elements (omega arith) refl refl)
    ∙ ap (after_events (events_of tree)) (instructions_read a (skip root (skip before bs)) (length before + length root)
    (length before + length root + length behind) true refl) ∙ rw append-nil refl)

ends_here : (n : ℕ) → all_ended (inside [] [] n true) ≡ good (inside [] [] n true) []
unfolding all_ended at_end
ends_here n = refl

-- the result of reading a whole document
pub record ReadsAll (ls : List Line) (events : List Event) : Type 0 where
  pub last : State
  pub is : document_read ls ≡ good last events

pub complete : (bytes : List ℕ) (tree : Placed) → IsPyxDocument bytes tree → ReadsAll (lines bytes) (events_of tree)
unfolding document_read
complete bytes tree d = record {
  last = inside [] [] (length d.before + length d.root + length d.behind) true;
  is = ap (λ (t : Turn State). followed t all_ended) (lines_said d.good nothing_read
      ∙ whole_reads (sizes (lines bytes)) d.before d.root d.behind tree d.instructions_before d.is_root d.instructions_behind)
      ∙ ap (after_events (events_of tree)) (ends_here (length d.before + length d.root + length d.behind)) ∙ rw append-nil refl;
}
