-- The marks of a printable grammar are read back.
use Rattle.std.proofs.Common.{◌≡◌, ◌∙◌, inl, inr, ℕ, ◌<◌, ◌^◌, Bool, true, false, cond, List, [], ◌∷◌, ◌++◌, length, map, flat_map, refl, sym, ap, subst}
use Rattle.std.proofs.Common.{append_assoc, arith, codes}
use Rattle.std.specs.Prelude.{◌||◌, ◌==◌, encode_utf8_all, chars}
use Rattle.std.specs.List.{AllByRecursion}
use Rattle.std.specs.Str.{bytes_eq}
use Rattle.std.proofs.lemmas.Bool.{or_cases, eqb-true, or_right}
use Rattle.std.proofs.lemmas.Str.{encodes-chars}
use Rattle.std.specs.Char.{encode_utf8}
use Rattle.rng_model.specs.names.Names.{is_ncname, NameClass, any_name, any_except, ns_name, ns_except, name_is, one_of, NameClasses, no_classes, class_and}
use Rattle.rng_model.specs.simple.Tree.{Datatype, Connector, choice, group, interleave, Simple, s_not_allowed, s_empty, s_text, s_leaf, s_attribute, s_list}
use Rattle.rng_model.specs.simple.Tree.{s_data}
use Rattle.rng_model.specs.simple.Tree.{s_data_except, s_value, s_one_or_more, s_joined}
use Rattle.rng_model.specs.simple.Grammar.{Grammar}
use Rattle.rnc_model.specs.declared.token.Sign.TheVariants as signs
use Rattle.rnc_model.specs.tokens.Tokens.{is_quote}
use Rattle.rncv_model.specs.printed.Items.{has, with_new, and_new, PrintedItem, element, pattern, element_at}
use Rattle.rncv_model.specs.printed.PrintedText.{item_name, namespace_if_any, namespaces_in, namespaces_among, namespaces_of, namespaces}
use Rattle.rncv_model.specs.printed.Words.{prefix_of, runs_of, is_choice, is_except}
use Rattle.rnc_print_laws.specs.plain.Printable.{IsText, IsName, HasNames, HaveNames, CanBeNamed, IsPrintableParameter, IsPrintableType, IsPrintableTree}
use Rattle.rnc_print_laws.specs.plain.Printable.{IsPrintable}
use Rattle.rnc_text.specs.plain.Marks.{Mark, space, line_end, word, cname, sign, IsMark, is_open, begins_apart}
use Rattle.rnc_print_laws.specs.plain.PrintedMarks.{run_mark, more_run_marks, joined_run_marks, literal_marks, in_parentheses_if, name_mark, class_marks}
use Rattle.rnc_print_laws.specs.plain.PrintedMarks.{classes_marks}
use Rattle.rnc_print_laws.specs.plain.PrintedMarks.{type_mark, parameter_marks, parameters_marks, datatype_marks, reference_marks, connector_marks}
use Rattle.rnc_print_laws.specs.plain.PrintedMarks.{braced_marks}
use Rattle.rnc_print_laws.specs.plain.PrintedMarks.{pattern_marks, item_marks, line_marks, namespace_marks, item_line_marks, marks_of}
use Rattle.rnc_print.proofs.Numberings.{all_append}
use Rattle.rnc_print_laws.proofs.ReadBack.NumberedNames.{item_ncname, prefix_ncname, item_bytes, prefix_bytes}
use Rattle.rnc_print_laws.proofs.Marks.EncodedMarks.{encoded_run, encoded_runs, IsRun, all_runs}
use Rattle.rnc_print_laws.proofs.ReadBack.LineConditions.{PrintableItem}
use Rattle.rnc_print_laws.proofs.Marks.SpelledMarks.{Spells, a_space, a_line_end, a_word, a_cname, an_ns_name, a_segment, a_sign, Read, both, then, nothing}

-- ---- literals

quote_low : (q : ℕ) → is_quote q ≡ true → q < 128
quote_low q h = elim (or_cases (q == 0x22) (q == 0x27) h) [
  | inl e ↦ (let a = eqb-true q 0x22 e in omega (arith, a))
  | inr e ↦ (let a = eqb-true q 0x27 e in omega (arith, a))
]

space_then : {ms : List Mark} → Read ms → Read (space ∷ ms)
space_then r = then a_space tt refl r

more_apart : (runs : List (ℕ × List ℕ)) → begins_apart (more_run_marks runs) ≡ true
more_apart [] = refl
more_apart (run ∷ runs) = refl

run_then : (run : ℕ × List ℕ) (ms : List Mark) → IsRun run → begins_apart ms ≡ true → Read ms → Read (run_mark (encoded_run run) ∷ ms)
run_then run ms h a r = then (a_segment (quote_low run.0 h.0) refl) h a r

more_read : (runs : List (ℕ × List ℕ)) → AllByRecursion IsRun runs → Read (more_run_marks (map encoded_run runs))
more_read [] h = nothing
more_read (run ∷ runs) h =
    space_then (then a_sign tt refl
    (space_then (run_then run (more_run_marks (map encoded_run runs)) h.0 (more_apart (map encoded_run runs)) (more_read runs h.1))))

joined_read : (runs : List (ℕ × List ℕ)) → AllByRecursion IsRun runs → Read (joined_run_marks (map encoded_run runs))
joined_read [] h = then (a_segment {n = []} (omega arith) refl) (refl, refl) refl nothing
joined_read (run ∷ runs) h = run_then run (more_run_marks (map encoded_run runs)) h.0 (more_apart (map encoded_run runs)) (more_read runs h.1)

literal_read : (w : List ℕ) → IsText w → Read (literal_marks w)
literal_read w h =
    subst (λ (x : List (ℕ × List ℕ)). Read (joined_run_marks x)) (sym (encoded_runs (chars w)) ∙ ap runs_of (encodes-chars w h.0))
    (joined_read (runs_of (chars w)) (all_runs (chars w) h.1))

-- ---- words

name_then : (w : List ℕ) (ms : List Mark) → IsName w → begins_apart ms ≡ true → Read ms → Read (word w ∷ ms)
name_then w ms h a r = then (a_word (encodes-chars w h.0)) h.1 a r

ascii_then : (w : List ℕ) (ms : List Mark) → encode_utf8_all w ≡ w → is_ncname w ≡ true → begins_apart ms ≡ true → Read ms → Read (word w ∷ ms)
ascii_then w ms e h a r = then (a_word e) h a r

-- there are few prefixes of namespaces
abbrev AreFew : List (List ℕ) → Type 0
AreFew ns = length ns < 2 ^ 64

-- ---- name classes

parentheses_read : (b : Bool) (ms : List Mark) → Read ms → Read (in_parentheses_if b ms)
parentheses_read false ms r = r
parentheses_read true ms r = then a_sign tt refl (both r refl (then a_sign tt refl nothing))

name_mark_read : (ns : List (List ℕ)) → AreFew ns → (u l : List ℕ) → IsName l → Read (name_mark ns u l ∷ [])
name_mark_read ns few [] l h = name_then l [] h refl nothing
name_mark_read ns few (c ∷ u) l h =
    then (a_cname {m = prefix_of ns (c ∷ u)} {n = chars l} (prefix_bytes ns few (c ∷ u)) (encodes-chars l h.0)) (prefix_ncname ns few (c ∷ u), h.1) refl nothing

classes_apart : (ns : List (List ℕ)) (cs : NameClasses) → begins_apart (classes_marks ns cs) ≡ true
classes_apart ns no_classes = refl
classes_apart ns (class_and c cs) = refl

except_read : {ms : List Mark} → Read ms → Read (space ∷ sign signs.Minus ∷ space ∷ ms)
except_read r = space_then (then a_sign tt refl (space_then r))

bar_read : {ms : List Mark} → Read ms → Read (space ∷ sign signs.Bar ∷ space ∷ ms)
bar_read r = space_then (then a_sign tt refl (space_then r))

mutual
  class_read : (ns : List (List ℕ)) → AreFew ns → (c : NameClass) → HasNames c → Read (class_marks ns c)
  class_read ns few any_name h = then a_sign tt refl nothing
  class_read ns few (any_except c) h =
      then a_sign tt refl (except_read (parentheses_read (is_choice c || is_except c) (class_marks ns c) (class_read ns few c h)))
  class_read ns few (ns_name u) h = then (an_ns_name {m = prefix_of ns u} (prefix_bytes ns few u)) (prefix_ncname ns few u) refl nothing
  class_read ns few (ns_except u c) h =
      then (an_ns_name {m = prefix_of ns u} (prefix_bytes ns few u)) (prefix_ncname ns few u) refl
      (except_read (parentheses_read (is_choice c || is_except c) (class_marks ns c) (class_read ns few c h.1)))
  class_read ns few (name_is n) h = name_mark_read ns few n.ns n.local h.1
  class_read ns few (one_of c d cs) h =
      both (parentheses_read (is_except c) (class_marks ns c) (class_read ns few c h.0)) refl
      (bar_read (both (parentheses_read (is_choice d || is_except d) (class_marks ns d) (class_read ns few d h.1)) (classes_apart ns cs)
      (classes_read ns few cs h.2)))

  classes_read : (ns : List (List ℕ)) → AreFew ns → (cs : NameClasses) → HaveNames cs → Read (classes_marks ns cs)
  classes_read ns few no_classes h = nothing
  classes_read ns few (class_and c cs) h =
      bar_read (both (parentheses_read (is_choice c || is_except c) (class_marks ns c) (class_read ns few c h.0)) (classes_apart ns cs)
      (classes_read ns few cs h.1))

-- ---- datatypes

record TypeMark (library name : List ℕ) : Type 0 where
  mark : Mark
  spells : Spells (cond (bytes_eq library []) (word name) (cname (codes "xsd") name)) mark
  is : IsMark mark

type_of : (library name : List ℕ) → CanBeNamed library name → TypeMark library name
unfolding encode_utf8
type_of library name (inl k) = subst (λ (x : List ℕ). TypeMark x name) (sym k.0) (elim k.1 [
  | inl e ↦ subst (λ (x : List ℕ). TypeMark [] x) (sym e) (record { mark = word (codes "string"); spells = a_word refl; is = refl })
  | inr e ↦ subst (λ (x : List ℕ). TypeMark [] x) (sym e) (record { mark = word (codes "token"); spells = a_word refl; is = refl })
])
type_of library name (inr k) =
    subst (λ (x : List ℕ). TypeMark x name) (sym k.0)
    (record { mark = cname (codes "xsd") (chars name); spells = a_cname refl (encodes-chars name k.1.0); is = (refl, k.1.1) })

type_then : (d : Datatype) (ms : List Mark) → CanBeNamed d.library d.name → begins_apart ms ≡ true → Read ms → Read (type_mark d ∷ ms)
type_then d ms k a r = let t = type_of d.library d.name k in then t.spells t.is (or_right (is_open (type_mark d)) (begins_apart ms) a) r

regroup : (a b c d : List Mark) → ((a ++ b) ++ c) ++ d ≡ a ++ (b ++ (c ++ d))
regroup a b c d = append_assoc (a ++ b) c d ∙ append_assoc a b (c ++ d)

parameters_then : (ps : List (List ℕ × List ℕ)) (rest : List Mark) → AllByRecursion IsPrintableParameter ps → Read rest
    → Read (flat_map parameter_marks ps ++ rest)
parameters_then [] rest h r = r
parameters_then (p ∷ ps) rest h r =
    name_then p.0 _ h.0.0 refl (space_then (then a_sign tt refl (space_then
    (subst (λ (x : List Mark). Read x) (sym (regroup (literal_marks p.1) (space ∷ []) (flat_map parameter_marks ps) rest))
    (both (literal_read p.1 h.0.1) refl (space_then (parameters_then ps rest h.1 r)))))))

parameters_read : (ps : List (List ℕ × List ℕ)) → AllByRecursion IsPrintableParameter ps → Read (parameters_marks ps)
parameters_read [] h = nothing
parameters_read (p ∷ ps) h =
    space_then (then a_sign tt refl (space_then (parameters_then (p ∷ ps) (sign signs.CloseBrace ∷ []) h (then a_sign tt refl nothing))))

parameters_apart : (ps : List (List ℕ × List ℕ)) → begins_apart (parameters_marks ps) ≡ true
parameters_apart [] = refl
parameters_apart (p ∷ ps) = refl

datatype_read : (d : Datatype) → IsPrintableType d → Read (datatype_marks d)
datatype_read d h = type_then d (parameters_marks d.parameters) h.0 (parameters_apart d.parameters) (parameters_read d.parameters h.1)

-- ---- patterns

item_read : (items : List PrintedItem) → length items < 2 ^ 64 → (i : PrintedItem) → Read (word (item_name items i) ∷ [])
item_read items lt i = ascii_then (item_name items i) [] (item_bytes items lt i) (item_ncname items lt i) refl nothing

-- words of the grammar
word_then : (ms : List Mark) → begins_apart ms ≡ true → Read ms → (w : List ℕ) → encode_utf8_all w ≡ w → is_ncname w ≡ true → Read (word w ∷ ms)
word_then ms a r w e h = ascii_then w ms e h a r

reference_read : (items : List PrintedItem) → length items < 2 ^ 64 → (s : Simple ℕ) → IsPrintableTree s → Read (reference_marks items s)
unfolding encode_utf8
reference_read items lt s_not_allowed h = word_then [] refl nothing (codes "notAllowed") refl refl
reference_read items lt s_empty h = word_then [] refl nothing (codes "empty") refl refl
reference_read items lt s_text h = word_then [] refl nothing (codes "text") refl refl
reference_read items lt (s_leaf k) h = item_read items lt (element k)
reference_read items lt (s_data d) h = datatype_read d h
reference_read items lt (s_value d v) h = type_then d (space ∷ literal_marks v) h.0.0 refl (space_then (literal_read v h.1))
reference_read items lt (s_attribute c a) h = item_read items lt (pattern (s_attribute c a))
reference_read items lt (s_list a) h = item_read items lt (pattern (s_list a))
reference_read items lt (s_data_except d a) h = item_read items lt (pattern (s_data_except d a))
reference_read items lt (s_one_or_more a) h = item_read items lt (pattern (s_one_or_more a))
reference_read items lt (s_joined j a b) h = item_read items lt (pattern (s_joined j a b))

braced_read : {ms : List Mark} → Read ms → Read (braced_marks ms)
braced_read r = then a_sign tt refl (space_then (both r refl (space_then (then a_sign tt refl nothing))))

connected_read : (k : Connector) (ms ns : List Mark) → Read ms → Read ns → Read (ms ++ (connector_marks k ++ ns))
connected_read choice ms ns r s = both r refl (space_then (then a_sign tt refl (space_then s)))
connected_read group ms ns r s = both r refl (then a_sign tt refl (space_then s))
connected_read interleave ms ns r s = both r refl (space_then (then a_sign tt refl (space_then s)))

pattern_read : (ns : List (List ℕ)) (items : List PrintedItem) → AreFew ns → length items < 2 ^ 64 → (s : Simple ℕ) → IsPrintableTree s
    → Read (pattern_marks ns items s)
unfolding encode_utf8
pattern_read ns items few lt (s_joined j a b) h =
    connected_read j (reference_marks items a) (reference_marks items b) (reference_read items lt a h.0) (reference_read items lt b h.1)
pattern_read ns items few lt (s_one_or_more a) h = both (reference_read items lt a h) refl (then a_sign tt refl nothing)
pattern_read ns items few lt (s_list a) h = word_then _ refl (space_then (braced_read (reference_read items lt a h))) (codes "list") refl refl
pattern_read ns items few lt (s_attribute c a) h =
    word_then _ refl (space_then (both (class_read ns few c h.0.0) refl (space_then (braced_read (reference_read items lt a h.1)))))
    (codes "attribute") refl refl
pattern_read ns items few lt (s_data_except d a) h = both (datatype_read d h.0) refl (except_read (reference_read items lt a h.1))
pattern_read ns items few lt s_not_allowed h = reference_read items lt s_not_allowed h
pattern_read ns items few lt s_empty h = reference_read items lt s_empty h
pattern_read ns items few lt s_text h = reference_read items lt s_text h
pattern_read ns items few lt (s_leaf k) h = reference_read items lt (s_leaf k) h
pattern_read ns items few lt (s_data d) h = reference_read items lt (s_data d) h
pattern_read ns items few lt (s_value d v) h = reference_read items lt (s_value d v) h

item_marks_read : (g : Grammar) (ns : List (List ℕ)) (items : List PrintedItem) → AreFew ns → length items < 2 ^ 64 → (i : PrintedItem) → PrintableItem g i
    → Read (item_marks g ns items i)
unfolding encode_utf8
item_marks_read g ns items few lt (element k) h =
    word_then _ refl
    (space_then (both (class_read ns few (element_at g k).0 h.0.0) refl (space_then (braced_read (reference_read items lt (element_at g k).1 h.1)))))
    (codes "element") refl refl
item_marks_read g ns items few lt (pattern s) h = pattern_read ns items few lt s h

-- ---- lines

line_then : (name : List ℕ) (ms rest : List Mark) → encode_utf8_all name ≡ name → is_ncname name ≡ true → Read ms → Read rest
    → Read (line_marks name ms ++ rest)
line_then name ms rest e h r more =
    ascii_then name _ e h refl (space_then (then a_sign tt refl (space_then
    (subst (λ (x : List Mark). Read x) (sym (append_assoc ms (line_end ∷ []) rest)) (both r refl (then a_line_end tt refl more))))))

items_read : (g : Grammar) (ns : List (List ℕ)) (items some : List PrintedItem) → AreFew ns → length items < 2 ^ 64 → AllByRecursion (PrintableItem g) some
    → Read (flat_map (item_line_marks g ns items) some)
items_read g ns items [] few lt h = nothing
items_read g ns items (i ∷ some) few lt h =
    line_then (item_name items i) (item_marks g ns items i) _ (item_bytes items lt i) (item_ncname items lt i) (item_marks_read g ns items few lt i h.0)
    (items_read g ns items some few lt h.1)

namespaces_then : (ns us : List (List ℕ)) (rest : List Mark) → AreFew ns → AllByRecursion IsText us → Read rest
    → Read (flat_map (namespace_marks ns) us ++ rest)
unfolding encode_utf8
namespaces_then ns [] rest few h r = r
namespaces_then ns (u ∷ us) rest few h r =
    subst (λ (x : List Mark). Read x) (sym (append_assoc (namespace_marks ns u) (flat_map (namespace_marks ns) us) rest))
    (word_then _ refl
    (space_then (line_then (prefix_of ns u) (literal_marks u) _ (prefix_bytes ns few u) (prefix_ncname ns few u) (literal_read u h.0)
    (namespaces_then ns us rest few h.1 r))) (codes "namespace") refl refl)

-- ---- the namespaces are texts

namespace_text : (u : List ℕ) → IsText u → AllByRecursion IsText (namespace_if_any u)
namespace_text [] h = tt
namespace_text (c ∷ u) h = (h, tt)

mutual
  class_texts : (c : NameClass) → HasNames c → AllByRecursion IsText (namespaces_in c)
  class_texts any_name h = tt
  class_texts (any_except c) h = class_texts c h
  class_texts (ns_name u) h = (h, tt)
  class_texts (ns_except u c) h = (h.0, class_texts c h.1)
  class_texts (name_is n) h = namespace_text n.ns h.0
  class_texts (one_of c d cs) h =
      all_append IsText (namespaces_in c) _ (class_texts c h.0)
      (all_append IsText (namespaces_in d) (namespaces_among cs) (class_texts d h.1) (classes_texts cs h.2))

  classes_texts : (cs : NameClasses) → HaveNames cs → AllByRecursion IsText (namespaces_among cs)
  classes_texts no_classes h = tt
  classes_texts (class_and c cs) h = all_append IsText (namespaces_in c) (namespaces_among cs) (class_texts c h.0) (classes_texts cs h.1)

item_texts : (g : Grammar) (i : PrintedItem) → PrintableItem g i → AllByRecursion IsText (namespaces_of g i)
item_texts g (element k) h = class_texts (element_at g k).0 h.0.0
item_texts g (pattern (s_attribute c a)) h = class_texts c h.0.0
item_texts g (pattern s_not_allowed) h = tt
item_texts g (pattern s_empty) h = tt
item_texts g (pattern s_text) h = tt
item_texts g (pattern (s_leaf e)) h = tt
item_texts g (pattern (s_list a)) h = tt
item_texts g (pattern (s_data d)) h = tt
item_texts g (pattern (s_data_except d a)) h = tt
item_texts g (pattern (s_value d v)) h = tt
item_texts g (pattern (s_one_or_more a)) h = tt
item_texts g (pattern (s_joined j a b)) h = tt

items_texts : (g : Grammar) (items : List PrintedItem) → AllByRecursion (PrintableItem g) items → AllByRecursion IsText (flat_map (namespaces_of g) items)
items_texts g [] h = tt
items_texts g (i ∷ items) h = all_append IsText (namespaces_of g i) (flat_map (namespaces_of g) items) (item_texts g i h.0) (items_texts g items h.1)

new_texts : (w us : List (List ℕ)) → AllByRecursion IsText w → AllByRecursion IsText us → AllByRecursion IsText (and_new bytes_eq w us)
new_texts w [] h i = h
new_texts w (u ∷ us) h i = new_texts (with_new bytes_eq w u) us (at_test (has bytes_eq w u)) i.1
  where
    at_test : (b : Bool) → AllByRecursion IsText (cond b w (w ++ u ∷ []))
    at_test true = h
    at_test false = all_append IsText w (u ∷ []) h (i.0, tt)

-- ---- all lines

pub marks_are_read : (g : Grammar) (items : List PrintedItem) → IsPrintable g → length items < 2 ^ 64 → length (namespaces g items) < 2 ^ 64
    → AllByRecursion (PrintableItem g) items → Read (marks_of g items)
unfolding encode_utf8
marks_are_read g items p lt few h =
    let ns = namespaces g items in
    namespaces_then ns ns _ few (new_texts [] (flat_map (namespaces_of g) items) tt (items_texts g items h))
    (line_then (codes "start") (reference_marks items g.start) _ refl refl (reference_read items lt g.start p.start) (items_read g ns items items few lt h))
