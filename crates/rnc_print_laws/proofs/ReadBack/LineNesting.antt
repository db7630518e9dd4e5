-- The printed lines nest as deep as their name classes, and at least two levels deep.
use Rattle.std.proofs.Common.{◌≡◌, ◌∙◌, ℕ, suc, zero, ◌+◌, ◌≤◌, Bool, true, false, List, [], ◌∷◌, ◌++◌, take, flat_map, refl, sym, ap, subst, arith, codes}
use Rattle.std.specs.Prelude.{◌||◌, max}
use Rattle.std.specs.List.{AllByRecursion}
use Rattle.rng_model.specs.names.Names as names
use Rattle.rng_model.specs.simple.Tree.{Datatype, Connector, choice, group, interleave, Simple, s_not_allowed, s_empty, s_text, s_leaf, s_attribute, s_list}
use Rattle.rng_model.specs.simple.Tree.{s_data}
use Rattle.rng_model.specs.simple.Tree.{s_data_except, s_value, s_one_or_more, s_joined}
use Rattle.rng_model.specs.simple.Grammar.{Grammar}
use Rattle.rnc_model.specs.declared.token.Sign.{Sign}
use Rattle.rnc_model.specs.declared.token.Sign.TheVariants as signs
use Rattle.rnc_model.specs.tokens.Cut.{Lexeme}
use Rattle.rnc_model.specs.tokens.Cut as lexeme
use Rattle.rnc_model.specs.grammar.Sentence.{is_opening, is_closing, openings, closings, NestsWithin}
use Rattle.rncv_model.specs.printed.Items.{PrintedItem, element, pattern, element_at}
use Rattle.rncv_model.specs.printed.PrintedText.{item_name}
use Rattle.rncv_model.specs.printed.Words.{prefix_of, is_choice, is_except, runs_of}
use Rattle.rnc_text.specs.plain.Marks.{Mark, space, line_end, word, cname, segment, sign}
use Rattle.rnc_text.specs.plain.Marks as marks
use Rattle.std.specs.Str.{bytes_eq}
use Rattle.std.proofs.Common.{Option, Some, None}
use Rattle.std.specs.Prelude.{cond}
use Rattle.rnc_model.specs.tokens.Tokens.{keyword_of, keyword_or_identifier}
use Rattle.rnc_model.specs.declared.token.Keyword.{Keyword}
use Rattle.rnc_print_laws.specs.plain.Printable.{one_more_if, parentheses, parentheses_among}
use Rattle.rnc_print_laws.specs.plain.PrintedMarks.{more_run_marks, joined_run_marks, literal_marks, in_parentheses_if, name_mark, class_marks, classes_marks}
use Rattle.rnc_print_laws.specs.plain.PrintedMarks.{type_mark}
use Rattle.rnc_print_laws.specs.plain.PrintedMarks.{parameter_marks, parameters_marks, datatype_marks, reference_marks, connector_marks, braced_marks}
use Rattle.rnc_print_laws.specs.plain.PrintedMarks.{pattern_marks}
use Rattle.rnc_print_laws.specs.plain.PrintedMarks.{item_marks, line_marks, namespace_marks, item_line_marks, lines_marks}
use Rattle.std.proofs.lemmas.Bool.{false≢true}
use Rattle.std.proofs.lemmas.List.Sums.{sum_by-cons}
use Rattle.rnc_print_laws.specs.plain.MarkLexemes.{word_at, lexemes_from}

-- ---- room for brackets

-- the effect of a token on the room that is left
pub data Turn : Type 0 where
  opens : Turn
  closes : Turn
  stays : Turn

abbrev pub turn : Mark → Turn
turn (sign signs.OpenBrace) = opens
turn (sign signs.OpenParenthesis) = opens
turn (sign signs.CloseBrace) = closes
turn (sign signs.CloseParenthesis) = closes
turn _ = stays

-- this much room before the marks leaves this much after them
pub data Fits : ℕ → List Mark → ℕ → Type 0 where
  none : {r : ℕ} → Fits r [] r
  open_one : {r : ℕ} {m : Mark} {ms : List Mark} {e : ℕ} → turn m ≡ opens → Fits r ms e → Fits (suc r) (m ∷ ms) e
  close_one : {r : ℕ} {m : Mark} {ms : List Mark} {e : ℕ} → turn m ≡ closes → Fits (suc r) ms e → Fits r (m ∷ ms) e
  stay : {r : ℕ} {m : Mark} {ms : List Mark} {e : ℕ} → turn m ≡ stays → Fits r ms e → Fits r (m ∷ ms) e

fits_append : {r e f : ℕ} {ms ns : List Mark} → Fits r ms e → Fits e ns f → Fits r (ms ++ ns) f
fits_append none g = g
fits_append (open_one t h) g = open_one t (fits_append h g)
fits_append (close_one t h) g = close_one t (fits_append h g)
fits_append (stay t h) g = stay t (fits_append h g)

-- with one more level of room everywhere
fits_more : {r e : ℕ} {ms : List Mark} → Fits r ms e → Fits (suc r) ms (suc e)
fits_more none = none
fits_more (open_one t h) = open_one t (fits_more h)
fits_more (close_one t h) = close_one t (fits_more h)
fits_more (stay t h) = stay t (fits_more h)

-- ---- room is nesting

-- the tokens nest within the room
abbrev Within : ℕ → List Lexeme → Type 0
Within r ts = NestsWithin r ts

none_within : (r : ℕ) → Within r []
none_within r zero = omega arith
none_within r (suc k) = omega arith

abbrev weight : Bool → ℕ
weight b = cond b 1 0

openings_first : (x : Lexeme) (ts : List Lexeme) → openings (x ∷ ts) ≡ weight (is_opening x) + openings ts
openings_first x ts = sum_by-cons (λ x. weight (is_opening x)) x ts

closings_first : (x : Lexeme) (ts : List Lexeme) → closings (x ∷ ts) ≡ weight (is_closing x) + closings ts
closings_first x ts = sum_by-cons (λ x. weight (is_closing x)) x ts

opens_within : (r : ℕ) (x : Lexeme) (ts : List Lexeme) → is_opening x ≡ true → is_closing x ≡ false → Within r ts → Within (suc r) (x ∷ ts)
opens_within r x ts o c h zero = omega arith
opens_within r x ts o c h (suc k) = omega (arith, h k, openings_first x (take k ts), closings_first x (take k ts), ap weight o, ap weight c)

closes_within : (r : ℕ) (x : Lexeme) (ts : List Lexeme) → is_opening x ≡ false → is_closing x ≡ true → Within (suc r) ts → Within r (x ∷ ts)
closes_within r x ts o c h zero = omega arith
closes_within r x ts o c h (suc k) = omega (arith, h k, openings_first x (take k ts), closings_first x (take k ts), ap weight o, ap weight c)

stays_within : (r : ℕ) (x : Lexeme) (ts : List Lexeme) → is_opening x ≡ false → is_closing x ≡ false → Within r ts → Within r (x ∷ ts)
stays_within r x ts o c h zero = omega arith
stays_within r x ts o c h (suc k) = omega (arith, h k, openings_first x (take k ts), closings_first x (take k ts), ap weight o, ap weight c)

abbrev opens_it : Turn → Bool
opens_it opens = true
opens_it closes = false
opens_it stays = false

abbrev closes_it : Turn → Bool
closes_it opens = false
closes_it closes = true
closes_it stays = false

-- a mark is either a gap or a token
data Shape (m : Mark) : Type 0 where
  gap : turn m ≡ stays → ((n : ℕ) (ms : List Mark) → lexemes_from n (m ∷ ms) ≡ lexemes_from n ms) → Shape m
  token : (x : ℕ → Lexeme) → ((n : ℕ) (ms : List Mark) → lexemes_from n (m ∷ ms) ≡ x n ∷ lexemes_from (suc n) ms)
      → ((n : ℕ) → is_opening (x n) ≡ opens_it (turn m)) → ((n : ℕ) → is_closing (x n) ≡ closes_it (turn m)) → Shape m

sign_opens : (s : Sign) → is_opening (lexeme.sign s) ≡ opens_it (turn (sign s))
sign_opens signs.Equal = refl
sign_opens signs.BarEqual = refl
sign_opens signs.AndEqual = refl
sign_opens signs.Comma = refl
sign_opens signs.Bar = refl
sign_opens signs.And = refl
sign_opens signs.Question = refl
sign_opens signs.Star = refl
sign_opens signs.Plus = refl
sign_opens signs.Minus = refl
sign_opens signs.OpenBrace = refl
sign_opens signs.CloseBrace = refl
sign_opens signs.OpenParenthesis = refl
sign_opens signs.CloseParenthesis = refl
sign_opens signs.OpenBracket = refl
sign_opens signs.CloseBracket = refl
sign_opens signs.Tilde = refl

sign_closes : (s : Sign) → is_closing (lexeme.sign s) ≡ closes_it (turn (sign s))
sign_closes signs.Equal = refl
sign_closes signs.BarEqual = refl
sign_closes signs.AndEqual = refl
sign_closes signs.Comma = refl
sign_closes signs.Bar = refl
sign_closes signs.And = refl
sign_closes signs.Question = refl
sign_closes signs.Star = refl
sign_closes signs.Plus = refl
sign_closes signs.Minus = refl
sign_closes signs.OpenBrace = refl
sign_closes signs.CloseBrace = refl
sign_closes signs.OpenParenthesis = refl
sign_closes signs.CloseParenthesis = refl
sign_closes signs.OpenBracket = refl
sign_closes signs.CloseBracket = refl
sign_closes signs.Tilde = refl

word_opens : (w : List ℕ) (n : ℕ) → is_opening (word_at w n) ≡ false
word_opens w n = at_kind (keyword_of w)
  where
    at_kind : (k : Option Keyword) → is_opening (lexeme.lexeme_at (keyword_or_identifier k) w n) ≡ false
    at_kind None = refl
    at_kind (Some k) = refl

word_closes : (w : List ℕ) (n : ℕ) → is_closing (word_at w n) ≡ false
word_closes w n = at_kind (keyword_of w)
  where
    at_kind : (k : Option Keyword) → is_closing (lexeme.lexeme_at (keyword_or_identifier k) w n) ≡ false
    at_kind None = refl
    at_kind (Some k) = refl

shape : (m : Mark) → Shape m
shape space = gap refl (λ n ms. refl)
shape line_end = gap refl (λ n ms. refl)
shape (word w) = token (λ n. word_at w n) (λ n ms. refl) (λ n. word_opens w n) (λ n. word_closes w n)
shape (cname p l) = token (λ n. lexeme.cname p l) (λ n ms. refl) (λ n. refl) (λ n. refl)
shape (marks.ns_name p) = token (λ n. lexeme.ns_name p) (λ n ms. refl) (λ n. refl) (λ n. refl)
shape (segment q w) = token (λ n. lexeme.segment w) (λ n ms. refl) (λ n. refl) (λ n. refl)
shape (sign s) = token (λ n. lexeme.sign s) (λ n ms. refl) (λ n. sign_opens s) (λ n. sign_closes s)

apart_turns : opens ≡ stays → ⊥
apart_turns e = false≢true (sym (ap opens_it e))

apart_closing : closes ≡ stays → ⊥
apart_closing e = false≢true (sym (ap closes_it e))

opens_step : (r n : ℕ) (m : Mark) (ms : List Mark) → turn m ≡ opens → Shape m → Within r (lexemes_from (suc n) ms) → Within (suc r) (lexemes_from n (m ∷ ms))
opens_step r n m ms t (gap s e) h = absurd (apart_turns (sym t ∙ s))
opens_step r n m ms t (token x e o c) h = subst (Within (suc r)) (sym (e n ms)) (opens_within r (x n) _ (o n ∙ ap opens_it t) (c n ∙ ap closes_it t) h)

closes_step : (r n : ℕ) (m : Mark) (ms : List Mark) → turn m ≡ closes → Shape m → Within (suc r) (lexemes_from (suc n) ms) → Within r (lexemes_from n (m ∷ ms))
closes_step r n m ms t (gap s e) h = absurd (apart_closing (sym t ∙ s))
closes_step r n m ms t (token x e o c) h = subst (Within r) (sym (e n ms)) (closes_within r (x n) _ (o n ∙ ap opens_it t) (c n ∙ ap closes_it t) h)

stays_step : (r n : ℕ) (m : Mark) (ms : List Mark) → turn m ≡ stays → Shape m → ((n : ℕ) → Within r (lexemes_from n ms)) → Within r (lexemes_from n (m ∷ ms))
stays_step r n m ms t (gap s e) h = subst (Within r) (sym (e n ms)) (h n)
stays_step r n m ms t (token x e o c) h = subst (Within r) (sym (e n ms)) (stays_within r (x n) _ (o n ∙ ap opens_it t) (c n ∙ ap closes_it t) (h (suc n)))

pub fits_nests : {r e : ℕ} {ms : List Mark} → Fits r ms e → (n : ℕ) → NestsWithin r (lexemes_from n ms)
fits_nests (none {r}) n = none_within r
fits_nests (open_one {r} {m} {ms} t h) n = opens_step r n m ms t (shape m) (fits_nests h (suc n))
fits_nests (close_one {r} {m} {ms} t h) n = closes_step r n m ms t (shape m) (fits_nests h (suc n))
fits_nests (stay {r} {m} {ms} t h) n = stays_step r n m ms t (shape m) (λ n. fits_nests h n)

-- ---- the printed text fits

-- flat marks need no room
abbrev Flat : List Mark → Type 0
Flat ms = (r : ℕ) → Fits r ms r

runs_fit : (runs : List (ℕ × List ℕ)) → Flat (more_run_marks runs)
runs_fit [] r = none
runs_fit (run ∷ runs) r = stay refl (stay refl (stay refl (stay refl (runs_fit runs r))))

joined_fit : (runs : List (ℕ × List ℕ)) → Flat (joined_run_marks runs)
joined_fit [] r = stay refl none
joined_fit (run ∷ runs) r = stay refl (runs_fit runs r)

literal_fits : (w : List ℕ) → Flat (literal_marks w)
literal_fits w r = joined_fit (runs_of w) r

-- any room from this depth on
abbrev FitsFrom : ℕ → List Mark → Type 0
FitsFrom d ms = (r : ℕ) → d ≤ r → Fits r ms r

parenthesized_fits : (b : Bool) (d : ℕ) (ms : List Mark) → FitsFrom d ms → FitsFrom (one_more_if b d) (in_parentheses_if b ms)
parenthesized_fits false d ms h r le = h r le
parenthesized_fits true d ms h zero le = absurd (omega (arith, le))
parenthesized_fits true d ms h (suc r) le = open_one refl (fits_append (h r (omega (arith, le))) (close_one refl none))

name_fits : (ns : List (List ℕ)) (u l : List ℕ) → Flat (name_mark ns u l ∷ [])
name_fits ns [] l r = stay refl none
name_fits ns (c ∷ u) l r = stay refl none

left_le : (a b r : ℕ) → max a b ≤ r → a ≤ r
left_le a b r h = omega (arith, h)

right_le : (a b r : ℕ) → max a b ≤ r → b ≤ r
right_le a b r h = omega (arith, h)

mutual
  class_fits : (ns : List (List ℕ)) (c : names.NameClass) → FitsFrom (parentheses c) (class_marks ns c)
  class_fits ns names.any_name r le = stay refl none
  class_fits ns (names.any_except c) r le =
      stay refl (stay refl (stay refl (stay refl (parenthesized_fits (is_choice c || is_except c) (parentheses c) (class_marks ns c) (class_fits ns c) r le))))
  class_fits ns (names.ns_name u) r le = stay refl none
  class_fits ns (names.ns_except u c) r le =
      stay refl (stay refl (stay refl (stay refl (parenthesized_fits (is_choice c || is_except c) (parentheses c) (class_marks ns c) (class_fits ns c) r le))))
  class_fits ns (names.name_is n) r le = name_fits ns n.ns n.local r
  class_fits ns (names.one_of c d cs) r le =
      let x = one_more_if (is_except c) (parentheses c) in
      let y = one_more_if (is_choice d || is_except d) (parentheses d) in
      let z = parentheses_among cs in
      fits_append (parenthesized_fits (is_except c) (parentheses c) (class_marks ns c) (class_fits ns c) r (left_le x (max y z) r le))
      (stay refl (stay refl
      (stay refl (fits_append
      (parenthesized_fits (is_choice d || is_except d) (parentheses d) (class_marks ns d) (class_fits ns d) r (left_le y z r (right_le x (max y z) r le)))
      (classes_fit ns cs r (right_le y z r (right_le x (max y z) r le)))))))

  classes_fit : (ns : List (List ℕ)) (cs : names.NameClasses) → FitsFrom (parentheses_among cs) (classes_marks ns cs)
  classes_fit ns names.no_classes r le = none
  classes_fit ns (names.class_and c cs) r le =
      let y = one_more_if (is_choice c || is_except c) (parentheses c) in
      let z = parentheses_among cs in
      stay refl (stay refl
      (stay refl (fits_append (parenthesized_fits (is_choice c || is_except c) (parentheses c) (class_marks ns c) (class_fits ns c) r (left_le y z r le))
      (classes_fit ns cs r (right_le y z r le)))))

parameters_fit : (ps : List (List ℕ × List ℕ)) → Flat (flat_map parameter_marks ps)
parameters_fit [] r = none
parameters_fit (p ∷ ps) r =
    stay refl (stay refl (stay refl (stay refl (fits_append (fits_append (literal_fits p.1 r) (stay refl none)) (parameters_fit ps r)))))

type_fits : (d : Datatype) (ms : List Mark) (r e : ℕ) → Fits r ms e → Fits r (type_mark d ∷ ms) e
type_fits d ms r e h = at_test (bytes_eq d.library [])
  where
    at_test : (b : Bool) → Fits r (cond b (word d.name) (cname (codes "xsd") d.name) ∷ ms) e
    at_test true = stay refl h
    at_test false = stay refl h

may_fit : (ps : List (List ℕ × List ℕ)) → FitsFrom 1 (parameters_marks ps)
may_fit [] r le = none
may_fit (p ∷ ps) zero le = absurd (omega (arith, le))
may_fit (p ∷ ps) (suc r) le = stay refl (open_one refl (stay refl (fits_append (parameters_fit (p ∷ ps) r) (close_one refl none))))

datatype_fits : (d : Datatype) → FitsFrom 1 (datatype_marks d)
datatype_fits d r le = type_fits d _ r r (may_fit d.parameters r le)

reference_fits : (items : List PrintedItem) (s : Simple ℕ) → FitsFrom 1 (reference_marks items s)
reference_fits items s_not_allowed r le = stay refl none
reference_fits items s_empty r le = stay refl none
reference_fits items s_text r le = stay refl none
reference_fits items (s_leaf e) r le = stay refl none
reference_fits items (s_data d) r le = datatype_fits d r le
reference_fits items (s_value d v) r le = type_fits d _ r r (stay refl (literal_fits v r))
reference_fits items (s_attribute c a) r le = stay refl none
reference_fits items (s_list a) r le = stay refl none
reference_fits items (s_data_except d a) r le = stay refl none
reference_fits items (s_one_or_more a) r le = stay refl none
reference_fits items (s_joined j a b) r le = stay refl none

braced_fits : (items : List PrintedItem) (a : Simple ℕ) → FitsFrom 2 (braced_marks (reference_marks items a))
braced_fits items a zero le = absurd (omega (arith, le))
braced_fits items a (suc r) le = open_one refl (stay refl (fits_append (reference_fits items a r (omega (arith, le))) (stay refl (close_one refl none))))

connector_fits : (k : Connector) → Flat (connector_marks k)
connector_fits choice r = stay refl (stay refl (stay refl none))
connector_fits group r = stay refl (stay refl none)
connector_fits interleave r = stay refl (stay refl (stay refl none))

-- the classes of a line nest no deeper than this
abbrev pub Shallow : ℕ → Simple ℕ → Type 0
Shallow r (s_attribute c a) = parentheses c ≤ r
Shallow r _ = Unit {0}

pattern_fits : (ns : List (List ℕ)) (items : List PrintedItem) (s : Simple ℕ) (r : ℕ) → 2 ≤ r → Shallow r s → Fits r (pattern_marks ns items s) r
pattern_fits ns items (s_joined j a b) r le h =
    fits_append (reference_fits items a r (omega (arith, le))) (fits_append (connector_fits j r) (reference_fits items b r (omega (arith, le))))
pattern_fits ns items (s_one_or_more a) r le h = fits_append (reference_fits items a r (omega (arith, le))) (stay refl none)
pattern_fits ns items (s_list a) r le h = stay refl (stay refl (braced_fits items a r le))
pattern_fits ns items (s_attribute c a) r le h = stay refl (stay refl (fits_append (class_fits ns c r h) (stay refl (braced_fits items a r le))))
pattern_fits ns items (s_data_except d a) r le h =
    fits_append (datatype_fits d r (omega (arith, le))) (stay refl (stay refl (stay refl (reference_fits items a r (omega (arith, le))))))
pattern_fits ns items s_not_allowed r le h = stay refl none
pattern_fits ns items s_empty r le h = stay refl none
pattern_fits ns items s_text r le h = stay refl none
pattern_fits ns items (s_leaf e) r le h = stay refl none
pattern_fits ns items (s_data d) r le h = datatype_fits d r (omega (arith, le))
pattern_fits ns items (s_value d v) r le h = reference_fits items (s_value d v) r (omega (arith, le))

abbrev pub ShallowItem : Grammar → ℕ → PrintedItem → Type 0
ShallowItem g r (element k) = parentheses (element_at g k).0 ≤ r
ShallowItem g r (pattern s) = Shallow r s

item_fits : (g : Grammar) (ns : List (List ℕ)) (items : List PrintedItem) (i : PrintedItem) (r : ℕ) → 2 ≤ r → ShallowItem g r i → Fits r (item_marks g ns items i) r
item_fits g ns items (element e) r le h =
    stay refl (stay refl (fits_append (class_fits ns (element_at g e).0 r h) (stay refl (braced_fits items (element_at g e).1 r le))))
item_fits g ns items (pattern s) r le h = pattern_fits ns items s r le h

line_fits : (name : List ℕ) (ms : List Mark) (r : ℕ) → Fits r ms r → Fits r (line_marks name ms) r
line_fits name ms r h = stay refl (stay refl (stay refl (stay refl (fits_append h (stay refl none)))))

items_fit : (g : Grammar) (ns : List (List ℕ)) (items some : List PrintedItem) (r : ℕ) → 2 ≤ r → AllByRecursion (ShallowItem g r) some
    → Fits r (flat_map (item_line_marks g ns items) some) r
items_fit g ns items [] r le h = none
items_fit g ns items (i ∷ some) r le h =
    fits_append (line_fits (item_name items i) (item_marks g ns items i) r (item_fits g ns items i r le h.0)) (items_fit g ns items some r le h.1)

namespaces_fit : (ns us : List (List ℕ)) (r : ℕ) → Fits r (flat_map (namespace_marks ns) us) r
namespaces_fit ns [] r = none
namespaces_fit ns (u ∷ us) r = fits_append (stay refl (stay refl (line_fits (prefix_of ns u) (literal_marks u) r (literal_fits u r)))) (namespaces_fit ns us r)

-- the tokens of the printed lines nest within the limit
pub lines_nest : (g : Grammar) (ns : List (List ℕ)) (items : List PrintedItem) (r : ℕ) → 2 ≤ r → AllByRecursion (ShallowItem g r) items → (n : ℕ)
    → NestsWithin r (lexemes_from n (lines_marks g ns items))
lines_nest g ns items r le h n =
    fits_nests (fits_append (namespaces_fit ns ns r)
    (fits_append (line_fits (codes "start") (reference_marks items g.start) r (reference_fits items g.start r (omega (arith, le))))
    (items_fit g ns items items r le h))) n
