-- Good lines have one content; the text that is joined at their end; and whether there is a root.
use Rattle.std.proofs.Common.{◌≡◌, ℕ, ◌≤◌, Bool, true, false, ◌||◌, List, [], ◌∷◌, ◌++◌, length, refl, sym, ap, subst, ◌∙◌, append_assoc}
use Rattle.std.proofs.Common.{arith}
use Rattle.std.specs.List.{All, AllByRecursion}
use Rattle.std.proofs.lemmas.List.{append-nil, length-append}
use Rattle.std.proofs.lemmas.List.Elements.{All-from_recursion, recursion_from_All}
use Rattle.std.proofs.Math.Bool.{or-true}
use Rattle.rng_model.proofs.Options.{same_ok}
use Rattle.rng_model.proofs.Members.{same_first, same_rest}
use Rattle.rng_model.specs.documents.Lines.{Line, HasKind}
use Rattle.rng_model.specs.documents.PyxLines as said
use Rattle.rng_model.specs.documents.PyxLines.{Said, QName, Says, says_start, says_attribute, says_text, says_end, says_instruction, IsGoodLine}
use Rattle.rng_model.specs.documents.PyxLines.{AreGoodLines}
use Rattle.rng_model.specs.documents.PyxLines.{no_lines, line_and}
use Rattle.rng_model.specs.documents.PyxTrees.{IsRun, no_run, text_and, instruction_and}
use Rattle.rng_model.specs.documents.PyxClauses.{EndsInText}
use Rattle.pyx.specs.plain.WrittenNames.{written_of}
use Rattle.pyx.proofs.Lines.LineClauses.{line_is}
use Rattle.pyx.proofs.Lines.NamesInLines.{name_is}
use Rattle.pyx.proofs.States.OpenTags.{is_kind, kind_is, has_kind, other_kind}

-- ---- good lines

pub said_same : {l : Line} {x y : Said} → IsGoodLine l x → IsGoodLine l y → x ≡ y
said_same {x = x} {y = y} g h = same_ok (sym (line_is g) ∙ line_is h)

cons_same : {A : Type 0} {x y : A} {xs ys : List A} → x ≡ y → xs ≡ ys → x ∷ xs ≡ y ∷ ys
cons_same e f = cc

pub good_same : {ls : List Line} {xs ys : List Said} → AreGoodLines ls xs → AreGoodLines ls ys → xs ≡ ys
good_same no_lines no_lines = refl
good_same (line_and g m) (line_and h n) = cons_same (said_same g h) (good_same m n)

pub good_append : {as_lines ls : List Line} {xs ys : List Said} → AreGoodLines as_lines xs → AreGoodLines ls ys → AreGoodLines (as_lines ++ ls) (xs ++ ys)
good_append no_lines n = n
good_append (line_and g m) n = line_and g (good_append m n)

pub good_line_more : {ls : List Line} {xs : List Said} {l : Line} {x : Said} → AreGoodLines ls xs → IsGoodLine l x → AreGoodLines (ls ++ l ∷ []) (xs ++ x ∷ [])
good_line_more m g = good_append m (line_and g no_lines)

pub record Split (front behind : List Line) (all : List Said) : Type 0 where
  pub left : List Said
  pub right : List Said
  pub parts : all ≡ left ++ right
  pub are_left : AreGoodLines front left
  pub are_right : AreGoodLines behind right

split_first : {ls : List Line} {all : List Said} (l : Line) (front behind : List Line) → AreGoodLines ls all → ls ≡ l ∷ (front ++ behind)
    → ((xs : List Said) → AreGoodLines (front ++ behind) xs → Split front behind xs) → Split (l ∷ front) behind all
split_first l front behind no_lines e more = absurd cc
split_first l front behind (line_and {l = m} {ls} {said = x} {more = xs} g n) e more =
    let k = more xs (subst (λ (y : List Line). AreGoodLines y xs) (same_rest e) n) in record {
      left = x ∷ k.left;
      right = k.right;
      parts = ap (λ (y : List Said). x ∷ y) k.parts;
      are_left = line_and (subst (λ (y : Line). IsGoodLine y x) (same_first e) g) k.are_left;
      are_right = k.are_right;
    }

pub split_lines : (front behind : List Line) (all : List Said) → AreGoodLines (front ++ behind) all → Split front behind all
split_lines [] behind all g = record { left = []; right = all; parts = refl; are_left = no_lines; are_right = g }
split_lines (l ∷ front) behind all g = split_first l front behind g refl (split_lines front behind)

pub good_length : {ls : List Line} {xs : List Said} → AreGoodLines ls xs → length ls ≡ length xs
good_length no_lines = refl
good_length (line_and g m) = omega (arith, good_length m)

-- ---- kinds of good lines

start_says : {bytes : List ℕ} {name : QName} → Says bytes (said.start name) → (written : List ℕ) × (bytes ≡ 40 ∷ written) × (written_of written ≡ name)
start_says (says_start {written} n) = (written, refl, (name_is n).1)

end_says : {bytes : List ℕ} {name : QName} → Says bytes (said.end name) → (written : List ℕ) × (bytes ≡ 41 ∷ written) × (written_of written ≡ name)
end_says (says_end {written} n) = (written, refl, (name_is n).1)

pub start_line : {l : Line} {name : QName} → IsGoodLine l (said.start name)
    → (written : List ℕ) × (l.bytes ≡ 40 ∷ written) × (written_of written ≡ name)
start_line g = start_says g.says

pub end_line : {l : Line} {name : QName} → IsGoodLine l (said.end name)
    → (written : List ℕ) × (l.bytes ≡ 41 ∷ written) × (written_of written ≡ name)
end_line g = end_says g.says

abbrev pub kind_of : Said → ℕ
kind_of (said.start name) = 40
kind_of (said.attribute name value) = 65
kind_of (said.text value) = 45
kind_of (said.end name) = 41
kind_of said.instruction = 63

says_kind : {bytes : List ℕ} {x : Said} → Says bytes x → (rest : List ℕ) × (bytes ≡ kind_of x ∷ rest)
says_kind (says_start {written} n) = (written, refl)
says_kind (says_attribute {written_name} {written} n d e) = (written_name ++ 32 ∷ written, e)
says_kind (says_text {written} d) = (written, refl)
says_kind (says_end {written} n) = (written, refl)
says_kind (says_instruction {bytes}) = (bytes, refl)

pub good_kind : {l : Line} {x : Said} → IsGoodLine l x → HasKind (kind_of x) l
good_kind g = says_kind g.says

-- a good line of this kind has such a content
pub says_a_start : {l : Line} (x : Said) → IsGoodLine l x → HasKind 40 l → (name : QName) × (x ≡ said.start name)
says_a_start (said.start name) g h = (name, refl)
says_a_start {l} (said.attribute a v) g h = absurd (other_kind 65 40 l (λ q. absurd (omega (arith, q))) (good_kind g) h)
says_a_start {l} (said.text v) g h = absurd (other_kind 45 40 l (λ q. absurd (omega (arith, q))) (good_kind g) h)
says_a_start {l} (said.end name) g h = absurd (other_kind 41 40 l (λ q. absurd (omega (arith, q))) (good_kind g) h)
says_a_start {l} said.instruction g h = absurd (other_kind 63 40 l (λ q. absurd (omega (arith, q))) (good_kind g) h)

pub says_an_attribute : {l : Line} (x : Said) → IsGoodLine l x → HasKind 65 l → (a : QName) × (v : List ℕ) × (x ≡ said.attribute a v)
says_an_attribute (said.attribute a v) g h = (a, v, refl)
says_an_attribute {l} (said.start name) g h = absurd (other_kind 40 65 l (λ q. absurd (omega (arith, q))) (good_kind g) h)
says_an_attribute {l} (said.text v) g h = absurd (other_kind 45 65 l (λ q. absurd (omega (arith, q))) (good_kind g) h)
says_an_attribute {l} (said.end name) g h = absurd (other_kind 41 65 l (λ q. absurd (omega (arith, q))) (good_kind g) h)
says_an_attribute {l} said.instruction g h = absurd (other_kind 63 65 l (λ q. absurd (omega (arith, q))) (good_kind g) h)

pub says_a_text : {l : Line} (x : Said) → IsGoodLine l x → HasKind 45 l → (v : List ℕ) × (x ≡ said.text v)
says_a_text (said.text v) g h = (v, refl)
says_a_text {l} (said.start name) g h = absurd (other_kind 40 45 l (λ q. absurd (omega (arith, q))) (good_kind g) h)
says_a_text {l} (said.attribute a v) g h = absurd (other_kind 65 45 l (λ q. absurd (omega (arith, q))) (good_kind g) h)
says_a_text {l} (said.end name) g h = absurd (other_kind 41 45 l (λ q. absurd (omega (arith, q))) (good_kind g) h)
says_a_text {l} said.instruction g h = absurd (other_kind 63 45 l (λ q. absurd (omega (arith, q))) (good_kind g) h)

pub says_an_end : {l : Line} (x : Said) → IsGoodLine l x → HasKind 41 l → (name : QName) × (x ≡ said.end name)
says_an_end (said.end name) g h = (name, refl)
says_an_end {l} (said.start name) g h = absurd (other_kind 40 41 l (λ q. absurd (omega (arith, q))) (good_kind g) h)
says_an_end {l} (said.attribute a v) g h = absurd (other_kind 65 41 l (λ q. absurd (omega (arith, q))) (good_kind g) h)
says_an_end {l} (said.text v) g h = absurd (other_kind 45 41 l (λ q. absurd (omega (arith, q))) (good_kind g) h)
says_an_end {l} said.instruction g h = absurd (other_kind 63 41 l (λ q. absurd (omega (arith, q))) (good_kind g) h)

-- ---- the joined text at the end

abbrev pub joined_with : Said → List ℕ → List ℕ
joined_with (said.start name) w = []
joined_with (said.attribute a v) w = []
joined_with (said.text v) w = w ++ v
joined_with (said.end name) w = []
joined_with said.instruction w = w

unfoldable pub texts : List Said → List ℕ → List ℕ
texts [] w = w
texts (x ∷ xs) w = texts xs (joined_with x w)

texts_append : (xs ys : List Said) (w : List ℕ) → texts (xs ++ ys) w ≡ texts ys (texts xs w)
unfolding texts
texts_append [] ys w = refl
texts_append (x ∷ xs) ys w = texts_append xs ys (joined_with x w)

pub texts_nil : texts [] [] ≡ []
unfolding texts
texts_nil = refl

texts_one : (x : Said) (w : List ℕ) → texts (x ∷ []) w ≡ joined_with x w
unfolding texts
texts_one x w = refl

pub texts_more : (xs : List Said) (x : Said) → texts (xs ++ x ∷ []) [] ≡ joined_with x (texts xs [])
texts_more xs x = texts_append xs (x ∷ []) [] ∙ texts_one x (texts xs [])

run_texts : {xs : List Said} {t : List ℕ} → IsRun xs t → (w : List ℕ) → texts xs w ≡ w ++ t
unfolding texts
run_texts no_run w = sym (append-nil w)
run_texts (text_and {value} {joined} {all} d e) w = run_texts d (w ++ value) ∙ append_assoc w value joined ∙ ap (λ (x : List ℕ). w ++ x) (sym e)
run_texts (instruction_and d) w = run_texts d w

-- no text at the end is longer
pub text_within : {ls : List Line} {xs : List Said} {j : List ℕ} → AreGoodLines ls xs → EndsInText ls j → length j ≤ length (texts xs [])
text_within {ls} {xs} {j} g e =
    let s = split_lines e.front e.run xs (subst (λ (x : List Line). AreGoodLines x xs) e.parts g) in
    let p : texts xs [] ≡ texts s.left [] ++ j = ap (λ (x : List Said). texts x []) s.parts ∙ texts_append s.left s.right []
    ∙ run_texts (subst (λ (x : List Said). IsRun x j) (good_same e.good s.are_right) e.is_run) (texts s.left []) in
    omega (arith, ap length p, length-append (texts s.left []) j)

pub run_text : {xs : List Said} {t : List ℕ} (v : List ℕ) → IsRun xs t → IsRun (xs ++ said.text v ∷ []) (t ++ v)
run_text v no_run = text_and no_run (sym (append-nil v))
run_text v (text_and {value} {joined} d e) = text_and (run_text v d) (ap (λ (x : List ℕ). x ++ v) e ∙ append_assoc value joined v)
run_text v (instruction_and d) = instruction_and (run_text v d)

pub run_instruction : {xs : List Said} {t : List ℕ} → IsRun xs t → IsRun (xs ++ said.instruction ∷ []) t
run_instruction no_run = instruction_and no_run
run_instruction (text_and d e) = text_and (run_instruction d) e
run_instruction (instruction_and d) = instruction_and (run_instruction d)

abbrev no_text_yet : (ls : List Line) → EndsInText ls []
no_text_yet ls = record { front = ls; run = []; parts = sym (append-nil ls); said = []; good = no_lines; is_run = no_run }

abbrev longer_run : {ls : List Line} {j k : List ℕ} (e : EndsInText ls j) (l : Line) (x : Said) → IsGoodLine l x → IsRun (e.said ++ x ∷ []) k
    → EndsInText (ls ++ l ∷ []) k
longer_run {ls} e l x g r = record {
  front = e.front;
  run = e.run ++ l ∷ [];
  parts = rw (e.parts) (append_assoc e.front e.run (l ∷ []));
  said = e.said ++ x ∷ [];
  good = good_line_more e.good g;
  is_run = r;
}

abbrev pub text_more : {ls : List Line} {j : List ℕ} (l : Line) (x : Said) → EndsInText ls j → IsGoodLine l x → EndsInText (ls ++ l ∷ []) (joined_with x j)
text_more {ls} l (said.start name) e g = no_text_yet (ls ++ l ∷ [])
text_more {ls} l (said.attribute a v) e g = no_text_yet (ls ++ l ∷ [])
text_more {ls} l (said.text v) e g = longer_run e l (said.text v) g (run_text v e.is_run)
text_more {ls} l (said.end name) e g = no_text_yet (ls ++ l ∷ [])
text_more {ls} l said.instruction e g = longer_run e l said.instruction g (run_instruction e.is_run)

texts_from : (front behind : List Line) (w : List ℕ) (ys : List Said) → EndsInText front w → AreGoodLines behind ys → EndsInText (front ++ behind) (texts ys w)
unfolding texts
texts_from front behind w ys e no_lines = subst (λ (x : List Line). EndsInText x w) (sym (append-nil front)) e
texts_from front behind w ys e (line_and {l} {ls} {said = x} {more} g n) =
    subst (λ (y : List Line). EndsInText y (texts more (joined_with x w))) (append_assoc front (l ∷ []) ls)
    (texts_from (front ++ l ∷ []) ls (joined_with x w) more (text_more l x e g) n)

pub ends_in_text : {ls : List Line} {xs : List Said} → AreGoodLines ls xs → EndsInText ls (texts xs [])
ends_in_text {ls} {xs} g = texts_from [] ls [] xs (no_text_yet []) g

-- ---- a root

unfoldable pub has_root : List Line → Bool
has_root [] = false
has_root (l ∷ ls) = is_kind 40 l.bytes || has_root ls

pub root_stays : (ls ms : List Line) → has_root ls ≡ true → has_root (ls ++ ms) ≡ true
unfolding has_root
root_stays [] ms e = absurd cc
root_stays (l ∷ ls) ms e = go (is_kind 40 l.bytes) e (root_stays ls ms) where
  go : (b : Bool) → (b || has_root ls) ≡ true → (has_root ls ≡ true → has_root (ls ++ ms) ≡ true) → (b || has_root (ls ++ ms)) ≡ true
  go true e f = refl
  go false e f = f e

pub root_in : (front : List Line) (l : Line) (rest : List Line) → HasKind 40 l → has_root (front ++ l ∷ rest) ≡ true
unfolding has_root
root_in [] l rest h = rw (kind_is 40 l h) refl
root_in (m ∷ front) l rest h = rw (root_in front l rest h) (or-true (is_kind 40 m.bytes))

pub root_other : (ls : List Line) (l : Line) → is_kind 40 l.bytes ≡ false → has_root (ls ++ l ∷ []) ≡ has_root ls
unfolding has_root
root_other [] l e = rw e refl
root_other (m ∷ ls) l e = ap (λ (b : Bool). is_kind 40 m.bytes || b) (root_other ls l e)

pub record HasRoot (ls : List Line) : Type 0 where
  pub front : List Line
  pub root : Line
  pub rest : List Line
  pub parts : ls ≡ front ++ root ∷ rest
  pub opens : HasKind 40 root

pub root_found : (ls : List Line) → has_root ls ≡ true → HasRoot ls
unfolding has_root
root_found [] e = absurd cc
root_found (l ∷ ls) e = go (is_kind 40 l.bytes) refl e (root_found ls) where
  go : (b : Bool) → is_kind 40 l.bytes ≡ b → (b || has_root ls) ≡ true → (has_root ls ≡ true → HasRoot ls) → HasRoot (l ∷ ls)
  go true k e f = record { front = []; root = l; rest = ls; parts = refl; opens = has_kind 40 l k }
  go false k e f = let r = f e in
      record { front = l ∷ r.front; root = r.root; rest = r.rest; parts = ap (λ (x : List Line). l ∷ x) r.parts; opens = r.opens }

pub no_root_by : (ls : List Line) → has_root ls ≡ false → AllByRecursion (λ l. HasKind 40 l → ⊥) ls
unfolding has_root
no_root_by [] e = tt
no_root_by (l ∷ ls) e = go (is_kind 40 l.bytes) refl e (no_root_by ls) where
  go : (b : Bool) → is_kind 40 l.bytes ≡ b → (b || has_root ls) ≡ false → (has_root ls ≡ false → AllByRecursion (λ l. HasKind 40 l → ⊥) ls)
      → AllByRecursion (λ l. HasKind 40 l → ⊥) (l ∷ ls)
  go true k e f = absurd cc
  go false k e f = (λ h. true_false (sym (kind_is 40 l h) ∙ k), f e) where
    true_false : true ≡ false → ⊥
    true_false e = cc

pub no_root : (ls : List Line) → has_root ls ≡ false → All (λ l. HasKind 40 l → ⊥) ls
no_root ls e = All-from_recursion (λ l. HasKind 40 l → ⊥) ls (no_root_by ls e)

root_not_by : (ls : List Line) → AllByRecursion (λ l. HasKind 40 l → ⊥) ls → has_root ls ≡ false
unfolding has_root
root_not_by [] h = refl
root_not_by (l ∷ ls) h = go (is_kind 40 l.bytes) refl (root_not_by ls h.1) where
  go : (b : Bool) → is_kind 40 l.bytes ≡ b → has_root ls ≡ false → (b || has_root ls) ≡ false
  go true k f = absurd (h.0 (has_kind 40 l k))
  go false k f = f

pub root_not : (ls : List Line) → All (λ l. HasKind 40 l → ⊥) ls → has_root ls ≡ false
root_not ls h = root_not_by ls (recursion_from_All (λ l. HasKind 40 l → ⊥) ls h)
