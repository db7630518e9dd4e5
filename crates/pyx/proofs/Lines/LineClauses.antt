-- The content of a line, or the least clause that it breaks by itself.
use Rattle.std.proofs.Common.{◌≡◌, ℕ, ◌≤◌, ◌<◌, Bool, true, false, cond, eqb, List, [], ◌∷◌, ◌++◌, length, Option, Some, None, Ok, Err, refl, sym, ap}
use Rattle.std.proofs.Common.{subst, ◌∙◌, arith, rules, lit≤, lit<}
use Rattle.std.specs.Prelude.{nat_le, ◌≢◌}
use Rattle.std.specs.List.{All, AllByRecursion, list_all}
use Rattle.std.specs.Str.{IsUtf8, is_utf8, chars}
use Rattle.std.proofs.lemmas.Bool.{eqb-true, le-leb}
use Rattle.std.proofs.lemmas.List.Elements.{All-from_recursion, recursion_from_All}
use Rattle.std.proofs.lemmas.List.Sums.{AllPass-from_list_all, list_all-from_AllPass}
use Rattle.std.proofs.lemmas.Str.{is_utf8-from_IsUtf8, IsUtf8-from_is_utf8}
use Rattle.pyx.proofs.Lines.LineTexts.{read_when_utf8}
use Rattle.rng_model.specs.names.Names.{is_xml_char}
use Rattle.rng_model.specs.names.Lists.{IsLeast}
use Rattle.rng_model.specs.documents.Lines.{Line, line_limit, HasKind}
use Rattle.rng_model.specs.documents.PyxLines.{QName, IsName, IsNoName, Said, start, attribute, text, end, instruction, Says, says_start, says_attribute}
use Rattle.rng_model.specs.documents.PyxLines.{says_text}
use Rattle.rng_model.specs.documents.PyxLines.{says_end, says_instruction, IsGoodLine, HasNoKind, IsCutAtSpace, StandsForNothing, BreaksAlone, unended, no_utf8}
use Rattle.rng_model.specs.documents.PyxLines.{no_xml_char, no_kind, bad_text, bad_value, bad_start_name, bad_end_name, bad_attribute_name, no_space}
use Rattle.pyx.specs.plain.Cuts.{either_way, at_byte}
use Rattle.pyx.specs.plain.Escapes.{unescaped}
use Rattle.pyx.specs.plain.LineReader.{Read, is_name, named, text_of, attribute_of, kind_of, characters_of, bytes_of, said_of}
use Rattle.pyx.specs.plain.WrittenNames.{written_of}
use Rattle.pyx.proofs.Lines.EscapedTexts.{value_is, value_of, no_value, none_stands}
use Rattle.pyx.proofs.Lines.NamesInLines.{not_equal, differs, Found, found, at_none, at_seam, utf8_parts, name_is, name_has_no_space, good_name}
use Rattle.pyx.proofs.Input.LinesOfPieces.{said_of_long}

-- ---- results

err_same : (j k : ℕ) → ◌≡◌ {A = Read Said} (Err j) (Err k) → j ≡ k
err_same j k e = cc

ok_err : (x : Said) (k : ℕ) → ◌≡◌ {A = Read Said} (Ok x) (Err k) → ⊥
ok_err x k e = cc

false_true : false ≡ true → ⊥
false_true e = cc

-- ---- the results of the parts, and what they mean

-- the meaning of a result for this line
abbrev Tells : List ℕ → Read Said → Type 0
Tells bytes (Ok said) = Says bytes said
Tells bytes (Err k) = (l : Line) → l.bytes ≡ bytes → BreaksAlone l k

named_tells : (said : QName → Said) (name bytes : List ℕ) → IsUtf8 name → ((n : QName) → IsName name n → Says bytes (said n)) →
    (IsNoName name → (l : Line) → l.bytes ≡ bytes → BreaksAlone l 6) → Tells bytes (named said name)
unfolding named
named_tells said name bytes u says breaks = go (is_name name) refl where
  go : (b : Bool) → is_name name ≡ b → Tells bytes (cond b (Ok (said (written_of name))) (Err 6))
  go true e = says (written_of name) (good_name name u e)
  go false e = breaks (λ n d. false_true (sym e ∙ (name_is d).0))

text_tells : (written : List ℕ) → Tells (45 ∷ written) (text_of written)
unfolding text_of
text_tells written = go (unescaped written) refl where
  go : (o : Option (List ℕ)) → unescaped written ≡ o → Tells (45 ∷ written) (either_way o (Err 5) (λ value. Ok (text value)))
  go None e = λ l is. bad_text is (none_stands written e)
  go (Some v) e = says_text (value_of written v e)

cut_tells : (rest name written : List ℕ) → IsUtf8 name → IsCutAtSpace rest name written →
    Tells (65 ∷ rest) (either_way (unescaped written) (Err 5) (λ value. cond (is_name name) (Ok (attribute (written_of name) value)) (Err 6)))
cut_tells rest name written u cut = go (unescaped written) (is_name name) refl refl where
  go : (o : Option (List ℕ)) (b : Bool) → unescaped written ≡ o → is_name name ≡ b
      → Tells (65 ∷ rest) (either_way o (Err 5) (λ value. cond b (Ok (attribute (written_of name) value)) (Err 6)))
  go None b e f = λ l is. bad_value is cut (none_stands written e)
  go (Some v) true e f = says_attribute (good_name name u f) (value_of written v e) (ap (λ (x : List ℕ). 65 ∷ x) cut.parts)
  go (Some v) false e f = λ l is. bad_attribute_name is cut (λ n d. false_true (sym f ∙ (name_is d).0))

attribute_tells : (rest : List ℕ) → IsUtf8 rest → Tells (65 ∷ rest) (attribute_of rest)
unfolding attribute_of
attribute_tells rest u = go (at_byte 32 rest) (found 32 rest) where
  go : (o : Option (List ℕ × List ℕ)) → Found 32 rest o → Tells (65 ∷ rest) (either_way o (Err 6) (λ p. either_way (unescaped p.1) (Err 5)
      (λ value. cond (is_name p.0) (Ok (attribute (written_of p.0) value)) (Err 6))))
  go None f = λ l is. no_space is (All-from_recursion (λ c. c ≢ 32) rest f)
  go (Some p) f = cut_tells rest p.0 p.1 (utf8_parts p.0 p.1 32 (lit< tt) (subst IsUtf8 f.0 u)).0
      (record { parts = f.0; first = All-from_recursion (λ c. c ≢ 32) p.0 f.1 })

-- a line whose first byte is not one of the five
other_kind : (l : Line) (x : ℕ) (cs : List ℕ) (k : ℕ) → l.bytes ≡ x ∷ cs → x ≢ k → HasKind k l → ⊥
other_kind l x cs k is n h = n (same x k cs h.0 (sym is ∙ h.1)) where
  same : (x k : ℕ) (cs rest : List ℕ) → x ∷ cs ≡ k ∷ rest → x ≡ k
  same x k cs rest e = cc

empty_kind : (l : Line) (k : ℕ) → l.bytes ≡ [] → HasKind k l → ⊥
empty_kind l k is h = nothing k h.0 (sym is ∙ h.1) where
  nothing : (k : ℕ) (rest : List ℕ) → [] ≡ k ∷ rest → ⊥
  nothing k rest e = cc

abbrev chain : Bool → Bool → Bool → Bool → Bool → List ℕ → Read Said
chain a b c d e cs =
    either_way (cond a (Some cs) None) (
    either_way (cond b (Some cs) None) (
    either_way (cond c (Some cs) None) (
    either_way (cond d (Some cs) None) (
    either_way (cond e (Some cs) None) (Err 4) (λ rest. Ok instruction)) (named end)) text_of) attribute_of) (named start)

at_kind : (x k : ℕ) (cs : List ℕ) (r : Read Said) → eqb x k ≡ true → Tells (k ∷ cs) r → Tells (x ∷ cs) r
at_kind x k cs r e t = subst (λ (y : ℕ). Tells (y ∷ cs) r) (sym (eqb-true x k e)) t

chain_tells : (a b c d e : Bool) (x : ℕ) (cs : List ℕ) → (x < 128 → IsUtf8 cs) → eqb x 40 ≡ a → eqb x 65 ≡ b → eqb x 45 ≡ c → eqb x 41 ≡ d → eqb x 63 ≡ e
    → Tells (x ∷ cs) (chain a b c d e cs)
chain_tells true b c d e x cs u pa pb pc pd pe = at_kind x 40 cs (named start cs) pa
    (named_tells start cs (40 ∷ cs) (u (rw (eqb-true x 40 pa) (lit< tt))) (λ n h. says_start h) (λ h l is. bad_start_name is h))
chain_tells false true c d e x cs u pa pb pc pd pe = at_kind x 65 cs (attribute_of cs) pb (attribute_tells cs (u (rw (eqb-true x 65 pb) (lit< tt))))
chain_tells false false true d e x cs u pa pb pc pd pe = at_kind x 45 cs (text_of cs) pc (text_tells cs)
chain_tells false false false true e x cs u pa pb pc pd pe = at_kind x 41 cs (named end cs) pd
    (named_tells end cs (41 ∷ cs) (u (rw (eqb-true x 41 pd) (lit< tt))) (λ n h. says_end h) (λ h l is. bad_end_name is h))
chain_tells false false false false true x cs u pa pb pc pd pe = at_kind x 63 cs (Ok instruction) pe (says_instruction {bytes = cs})
chain_tells false false false false false x cs u pa pb pc pd pe = λ l is. no_kind (record {
  no_start = other_kind l x cs 40 is (differs x 40 pa);
  no_attribute = other_kind l x cs 65 is (differs x 65 pb);
  no_text = other_kind l x cs 45 is (differs x 45 pc);
  no_end = other_kind l x cs 41 is (differs x 41 pd);
  no_instruction = other_kind l x cs 63 is (differs x 63 pe);
})

kind_tells : (bytes : List ℕ) → IsUtf8 bytes → Tells bytes (kind_of bytes)
unfolding kind_of
kind_tells [] u = λ l is. no_kind (record {
  no_start = empty_kind l 40 is;
  no_attribute = empty_kind l 65 is;
  no_text = empty_kind l 45 is;
  no_end = empty_kind l 41 is;
  no_instruction = empty_kind l 63 is;
})
kind_tells (x ∷ cs) u = chain_tells (eqb x 40) (eqb x 65) (eqb x 45) (eqb x 41) (eqb x 63) x cs (λ small. (utf8_parts [] cs x small u).1) refl refl refl refl
    refl

-- ---- the line

-- the line breaks this clause by itself, or it is too long
pub data BreaksLine (l : Line) : ℕ → Type 0 where
  within : {clause : ℕ} → length l.bytes ≤ line_limit → BreaksAlone l clause → BreaksLine l clause
  too_long : line_limit < length l.bytes → BreaksLine l 10

-- the meaning of a result for a whole line
abbrev IsTold : Line → Read Said → Type 0
IsTold l (Ok said) = IsGoodLine l said
IsTold l (Err k) = BreaksLine l k

told_good : (l : Line) (r : Read Said) → l.ended ≡ true → length l.bytes ≤ line_limit → IsUtf8 l.bytes → All (λ c. is_xml_char c ≡ true) (chars l.bytes)
    → Tells l.bytes r → IsTold l r
told_good l (Ok said) e h u c t = record { ended = e; within = h; utf8 = u; characters = c; says = t }
told_good l (Err k) e h u c t = within h (t l refl)

characters_told : (l : Line) → l.ended ≡ true → length l.bytes ≤ line_limit → IsUtf8 l.bytes → IsTold l (characters_of l.bytes)
unfolding characters_of
characters_told l e h u = go (list_all is_xml_char (chars l.bytes)) refl where
  go : (b : Bool) → list_all is_xml_char (chars l.bytes) ≡ b → IsTold l (cond b (kind_of l.bytes) (Err 3))
  go true q = told_good l (kind_of l.bytes) e h u (AllPass-from_list_all is_xml_char (chars l.bytes) q) (kind_tells l.bytes u)
  go false q = within h (no_xml_char u (λ a. false_true (sym q ∙ list_all-from_AllPass is_xml_char (chars l.bytes) a)))

bytes_told : (l : Line) → l.ended ≡ true → length l.bytes ≤ line_limit → IsTold l (bytes_of l.bytes)
unfolding bytes_of
bytes_told l e h = go (is_utf8 l.bytes) refl where
  go : (b : Bool) → is_utf8 l.bytes ≡ b → IsTold l (cond b (characters_of l.bytes) (Err 2))
  go true q = characters_told l e h (IsUtf8-from_is_utf8 l.bytes q)
  go false q = within h (no_utf8 (λ u. false_true (sym q ∙ is_utf8-from_IsUtf8 l.bytes u)))

pub line_told : (l : Line) → IsTold l (said_of l)
unfolding said_of
line_told l = go (nat_le (length l.bytes) line_limit) l.ended refl refl where
  go : (b c : Bool) → nat_le (length l.bytes) line_limit ≡ b → l.ended ≡ c → IsTold l (cond b (cond c (bytes_of l.bytes) (Err 1)) (Err 10))
  go true true q e = bytes_told l e (search rules)
  go true false q e = within (search rules) (unended e)
  go false c q e = too_long (search rules)

-- what is read from a line is its content, or a clause that it breaks
pub good_line : (l : Line) (said : Said) → said_of l ≡ Ok said → IsGoodLine l said
good_line l said e = subst (IsTold l) e (line_told l)

pub broken_line : (l : Line) (k : ℕ) → said_of l ≡ Err k → BreaksLine l k
broken_line l k e = subst (IsTold l) e (line_told l)

-- ---- the fault of a line is at most each clause that it breaks

pub record AtMost (l : Line) (k : ℕ) : Type 0 where
  pub answer : ℕ
  pub is : said_of l ≡ Err answer
  pub le : answer ≤ k

said_unended : (l : Line) → length l.bytes ≤ line_limit → l.ended ≡ false → said_of l ≡ Err 1
unfolding said_of
said_unended l h e = rw (le-leb (length l.bytes) line_limit h, e) refl

pub said_ended : (l : Line) → length l.bytes ≤ line_limit → l.ended ≡ true → said_of l ≡ bytes_of l.bytes
unfolding said_of
said_ended l h e = rw (le-leb (length l.bytes) line_limit h, e) refl

-- the same for a line that is ended
ended_most : (l : Line) (k : ℕ) → length l.bytes ≤ line_limit → 1 ≤ k → (j : ℕ) → j ≤ k → (l.ended ≡ true → bytes_of l.bytes ≡ Err j) → AtMost l k
ended_most l k h one j le f = go l.ended refl where
  go : (b : Bool) → l.ended ≡ b → AtMost l k
  go true e = record { answer = j; is = said_ended l h e ∙ f e; le = le }
  go false e = record { answer = 1; is = said_unended l h e; le = one }

not_utf8 : (bytes : List ℕ) → (IsUtf8 bytes → ⊥) → bytes_of bytes ≡ Err 2
unfolding bytes_of
not_utf8 bytes n = go (is_utf8 bytes) refl where
  go : (b : Bool) → is_utf8 bytes ≡ b → cond b (characters_of bytes) (Err 2) ≡ Err 2
  go true e = absurd (n (IsUtf8-from_is_utf8 bytes e))
  go false e = refl

not_xml : (bytes : List ℕ) → (All (λ c. is_xml_char c ≡ true) (chars bytes) → ⊥) → characters_of bytes ≡ Err 3
unfolding characters_of
not_xml bytes n = go (list_all is_xml_char (chars bytes)) refl where
  go : (b : Bool) → list_all is_xml_char (chars bytes) ≡ b → cond b (kind_of bytes) (Err 3) ≡ Err 3
  go true e = absurd (n (AllPass-from_list_all is_xml_char (chars bytes) e))
  go false e = refl

is_xml : (bytes : List ℕ) → All (λ c. is_xml_char c ≡ true) (chars bytes) → characters_of bytes ≡ kind_of bytes
unfolding characters_of
is_xml bytes a = rw (list_all-from_AllPass is_xml_char (chars bytes) a) refl

-- the clause that is returned for these bytes is at most k
record Answers (bytes : List ℕ) (k : ℕ) : Type 0 where
  answer : ℕ
  is : bytes_of bytes ≡ Err answer
  le : answer ≤ k

kind_most : (bytes : List ℕ) (k j : ℕ) → 3 ≤ k → j ≤ k → kind_of bytes ≡ Err j → Answers bytes k
kind_most bytes k j three le e = go (is_utf8 bytes) (list_all is_xml_char (chars bytes)) refl refl where
  go : (b c : Bool) → is_utf8 bytes ≡ b → list_all is_xml_char (chars bytes) ≡ c → Answers bytes k
  go false c q r = record { answer = 2; is = not_utf8 bytes (λ u. false_true (sym q ∙ is_utf8-from_IsUtf8 bytes u)); le = omega (arith, three) }
  go true false q r = record {
    answer = 3;
    is = read_when_utf8 bytes (IsUtf8-from_is_utf8 bytes q)
        ∙ not_xml bytes (λ a. false_true (sym r ∙ list_all-from_AllPass is_xml_char (chars bytes) a));
    le = three;
  }
  go true true q r = record {
    answer = j;
    is = read_when_utf8 bytes (IsUtf8-from_is_utf8 bytes q) ∙ is_xml bytes (AllPass-from_list_all is_xml_char (chars bytes) r)
        ∙ e;
    le = le;
  }

line_most : (l : Line) (bytes : List ℕ) (k j : ℕ) → length l.bytes ≤ line_limit → l.bytes ≡ bytes → 3 ≤ k → j ≤ k → kind_of bytes ≡ Err j → AtMost l k
line_most l bytes k j h is three le e =
    let a = kind_most bytes k j three le e in
    ended_most l k h (omega (arith, three)) a.answer a.le (λ q. ap bytes_of is ∙ a.is)

bad_name : (name : List ℕ) → IsUtf8 name → IsNoName name → is_name name ≡ false
bad_name name u n = go (is_name name) refl where
  go : (b : Bool) → is_name name ≡ b → is_name name ≡ false
  go true e = absurd (n (written_of name) (good_name name u e))
  go false e = e

-- a line that is not UTF-8 may have a name that is read as good; then the result is 2
line_most_text : (l : Line) (bytes : List ℕ) (k : ℕ) → length l.bytes ≤ line_limit → l.bytes ≡ bytes → 3 ≤ k
    → (IsUtf8 bytes → (j : ℕ) × (j ≤ k) × (kind_of bytes ≡ Err j)) → AtMost l k
line_most_text l bytes k h is three f = go (is_utf8 bytes) refl where
  go : (b : Bool) → is_utf8 bytes ≡ b → AtMost l k
  go true q = let j = f (IsUtf8-from_is_utf8 bytes q) in line_most l bytes k j.0 h is three j.1 j.2
  go false q = ended_most l k h (omega (arith, three)) 2 (omega (arith, three)) (λ e. ap bytes_of is
      ∙ not_utf8 bytes (λ u. false_true (sym q ∙ is_utf8-from_IsUtf8 bytes u)))

kind_start : (name : List ℕ) → is_name name ≡ false → kind_of (40 ∷ name) ≡ Err 6
unfolding kind_of named
kind_start name e = rw e refl

kind_end : (name : List ℕ) → is_name name ≡ false → kind_of (41 ∷ name) ≡ Err 6
unfolding kind_of named
kind_end name e = rw e refl

kind_no_space : (rest : List ℕ) → AllByRecursion (λ c. c ≢ 32) rest → kind_of (65 ∷ rest) ≡ Err 6
unfolding kind_of attribute_of
kind_no_space rest h = rw (at_none 32 rest h) refl

kind_text : (t : List ℕ) → StandsForNothing t → kind_of (45 ∷ t) ≡ Err 5
unfolding kind_of text_of
kind_text t n = rw (no_value t n) refl

kind_value : (name rest : List ℕ) → AllByRecursion (λ c. c ≢ 32) name → StandsForNothing rest → kind_of (65 ∷ (name ++ 32 ∷ rest)) ≡ Err 5
unfolding kind_of attribute_of
kind_value name rest h n = rw (at_seam 32 name rest h, no_value rest n) refl

-- the value is judged before the name
kind_attribute : (name rest : List ℕ) → AllByRecursion (λ c. c ≢ 32) name → is_name name ≡ false
    → (j : ℕ) × (j ≤ 6) × (kind_of (65 ∷ (name ++ 32 ∷ rest)) ≡ Err j)
unfolding kind_of attribute_of
kind_attribute name rest h n = go (unescaped rest) refl where
  go : (o : Option (List ℕ)) → unescaped rest ≡ o → (j : ℕ) × (j ≤ 6) × (kind_of (65 ∷ (name ++ 32 ∷ rest)) ≡ Err j)
  go None e = (5, lit≤ tt, rw (at_seam 32 name rest h, e) refl)
  go (Some v) e = (6, lit≤ tt, rw (at_seam 32 name rest h, e, n) refl)

has_kind : (l : Line) (c k : ℕ) (cs : List ℕ) → l.bytes ≡ c ∷ cs → (HasKind k l → ⊥) → eqb c k ≡ false
has_kind l c k cs e n = not_equal c k (λ p. n (cs, e ∙ ap (λ x. x ∷ cs) p))

kind_none : (l : Line) (bytes : List ℕ) → l.bytes ≡ bytes → HasNoKind l → kind_of bytes ≡ Err 4
unfolding kind_of
kind_none l [] e n = refl
kind_none l (c ∷ cs) e n = rw (
  has_kind l c 40 cs e n.no_start,
  has_kind l c 65 cs e n.no_attribute,
  has_kind l c 45 cs e n.no_text,
  has_kind l c 41 cs e n.no_end,
  has_kind l c 63 cs e n.no_instruction,
) refl

name_in : (name rest : List ℕ) → IsUtf8 (65 ∷ (name ++ 32 ∷ rest)) → IsUtf8 name
name_in name rest u = (utf8_parts name rest 32 (lit< tt) (utf8_parts [] (name ++ 32 ∷ rest) 65 (lit< tt) u).1).0

within_most : {l : Line} {k : ℕ} → length l.bytes ≤ line_limit → BreaksAlone l k → AtMost l k
within_most {l} h (unended e) = record { answer = 1; is = said_unended l h e; le = lit≤ tt }
within_most {l} h (no_utf8 n) = ended_most l 2 h (lit≤ tt) 2 (lit≤ tt) (λ e. not_utf8 l.bytes n)
within_most {l} h (no_xml_char u n) = ended_most l 3 h (lit≤ tt) 3 (lit≤ tt) (λ e. read_when_utf8 l.bytes u ∙ not_xml l.bytes n)
within_most {l} h (no_kind n) = line_most l l.bytes 4 4 h refl (lit≤ tt) (lit≤ tt) (kind_none l l.bytes refl n)
within_most {l} h (bad_text {written} e n) = line_most l (45 ∷ written) 5 5 h e (lit≤ tt) (lit≤ tt) (kind_text written n)
within_most {l} h (bad_value {bytes = rest} {before} {written} e c n) = line_most l (65 ∷ (before ++ 32 ∷ written)) 5 5 h (e
    ∙ ap (λ (x : List ℕ). 65 ∷ x) c.parts) (lit≤ tt) (lit≤ tt)
    (kind_value before written (recursion_from_All (λ c. c ≢ 32) before c.first) n)
within_most {l} h (bad_start_name {written} e n) = line_most_text l (40 ∷ written) 6 h e (lit≤ tt)
    (λ u. (6, lit≤ tt, kind_start written (bad_name written (utf8_parts [] written 40 (lit< tt) u).1 n)))
within_most {l} h (bad_end_name {written} e n) = line_most_text l (41 ∷ written) 6 h e (lit≤ tt)
    (λ u. (6, lit≤ tt, kind_end written (bad_name written (utf8_parts [] written 41 (lit< tt) u).1 n)))
within_most {l} h (bad_attribute_name {bytes = rest} {written} {value} e c n) = line_most_text l (65 ∷ (written ++ 32 ∷ value)) 6 h (e
    ∙ ap (λ (x : List ℕ). 65 ∷ x) c.parts) (lit≤ tt)
    (λ u. kind_attribute written value (recursion_from_All (λ c. c ≢ 32) written c.first) (bad_name written (name_in written value u) n))
within_most {l} h (no_space {bytes = rest} e a) = line_most l (65 ∷ rest) 6 6 h e (lit≤ tt) (lit≤ tt)
    (kind_no_space rest (recursion_from_All (λ c. c ≢ 32) rest a))

pub alone_most : {l : Line} {k : ℕ} → BreaksLine l k → AtMost l k
alone_most (within h b) = within_most h b
alone_most {l} (too_long h) = record { answer = 10; is = said_of_long l h; le = lit≤ tt }

-- the clause that is returned is the least that the line breaks by itself
pub least_line : (l : Line) (k : ℕ) → said_of l ≡ Err k → IsLeast (BreaksLine l) k
least_line l k e = record {
  broken = broken_line l k e;
  least = λ other b. let a = alone_most b in let q : a.answer ≡ k = err_same a.answer k (sym a.is ∙ e) in rw (← q) a.le;
}

-- ---- a good line is read as its content

kind_is : {bytes : List ℕ} {said : Said} → Says bytes said → kind_of bytes ≡ Ok said
unfolding kind_of named text_of attribute_of
kind_is (says_start {written} {name} n) = let k = name_is n in rw (k.0, k.1) refl
kind_is (says_attribute {line} {written_name} {written} {value} {name} n d e) =
    let k = name_is n in rw (e, at_seam 32 written_name written (name_has_no_space n), value_is d, k.0, k.1) refl
kind_is (says_text d) = rw (value_is d) refl
kind_is (says_end {written} {name} n) = let k = name_is n in rw (k.0, k.1) refl
kind_is says_instruction = refl

pub line_is : {l : Line} {said : Said} → IsGoodLine l said → said_of l ≡ Ok said
line_is {l} g = said_ended l g.within g.ended ∙ read_when_utf8 l.bytes g.utf8 ∙ is_xml l.bytes g.characters ∙ kind_is g.says
