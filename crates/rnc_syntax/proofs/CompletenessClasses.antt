-- Whatever is in the grammar and nests within a limit is read, independent of what follows: name classes.
use Rattle.std.proofs.Common.{◌≡◌, ℕ, zero, suc, ◌<◌, List, [], ◌∷◌, ◌++◌, length, Some, None, Ok, refl, sym, ap, subst, ◌∙◌, append_assoc, arith}
use Rattle.std.proofs.lemmas.List.{length-append}
use Rattle.rnc_model.specs.declared.token.Sign.TheVariants.{Bar, Star, Minus, OpenParenthesis, CloseParenthesis}
use Rattle.rnc_model.specs.tokens.Cut.{Lexeme, keyword, identifier, cname, ns_name, sign}
use Rattle.rnc_model.specs.grammar.Syntax as syntax
use Rattle.rnc_model.specs.grammar.Syntax.{written, NameClassAt}
use Rattle.rnc_model.specs.grammar.NameClasses as grammar
use Rattle.rnc_model.specs.grammar.NameClasses.{word_of, IsClass, AreMoreClasses, IsBasic, IsBareBasic}
use Rattle.rnc_syntax.specs.plain.Combinators.{Outcome, follow, after, many}
use Rattle.rnc_syntax.specs.plain.Productions.{class_in_parens, bare_basic_with, basic_with, choice_with, except_front, bare_class_with, class_with, inside_at}
use Rattle.rnc_model.specs.grammar.Sentence.{NestsWithin}
use Rattle.rnc_syntax.proofs.Balance.{plain, parens, first_within, second_within, behind_within, inside_within, none_within, annotation_even, basic_even}
use Rattle.rnc_syntax.proofs.CompletenessAnnotations.{StandsAlone, annotated_parts, annotated_behind, annotated_read}
use Rattle.rnc_syntax.proofs.Completeness.{Manys, manys_end, manys_more, manys_read}

abbrev bare_basics : ℕ → List Lexeme → Outcome (NameClassAt written)
bare_basics n = bare_basic_with (inside_at n).class

abbrev pub basics : ℕ → List Lexeme → Outcome (NameClassAt written)
basics n = basic_with (inside_at n).class

abbrev bare_classes : ℕ → List Lexeme → Outcome (NameClassAt written)
bare_classes n = bare_class_with (inside_at n).class

abbrev pub classes : ℕ → List Lexeme → Outcome (NameClassAt written)
classes n = class_with (inside_at n).class

basic_alone : (n : ℕ) → StandsAlone (bare_basics n)
unfolding bare_basic_with
basic_alone n us x e = absurd cc

class_alone : (n : ℕ) → StandsAlone (bare_classes n)
unfolding bare_class_with bare_basic_with
class_alone n us x e = absurd cc

word_basic : (n : ℕ) (x : Lexeme) (w : List ℕ) (rest : List Lexeme) → word_of x ≡ Some w
    → bare_basics n (x ∷ rest) ≡ Ok (syntax.name_is (syntax.unprefixed w), rest)
unfolding bare_basic_with
word_basic n (identifier v) w rest e = let q : v ≡ w = cc in ap (λ (w : List ℕ). Ok (syntax.name_is (syntax.unprefixed w), rest)) q
word_basic n (keyword k s) w rest e = let q : s.text ≡ w = cc in ap (λ (w : List ℕ). Ok (syntax.name_is (syntax.unprefixed w), rest)) q
word_basic n _ w rest e = absurd cc

cname_basic : (n : ℕ) (p l : List ℕ) (rest : List Lexeme) → bare_basics n (cname p l ∷ rest) ≡ Ok (syntax.name_is (syntax.prefixed p l), rest)
unfolding bare_basic_with
cname_basic n p l rest = refl

ns_basic : (n : ℕ) (p : List ℕ) (rest : List Lexeme) → bare_basics n (ns_name p ∷ rest) ≡ Ok (syntax.ns_name p, rest)
unfolding bare_basic_with
ns_basic n p rest = refl

any_basic : (n : ℕ) (rest : List Lexeme) → bare_basics n (sign Star ∷ rest) ≡ Ok (syntax.any_name, rest)
unfolding bare_basic_with
any_basic n rest = refl

parens_basic : (n : ℕ) (a rest : List Lexeme) (c : NameClassAt written) → classes n (a ++ (sign CloseParenthesis ∷ rest)) ≡ Ok (c, sign CloseParenthesis ∷ rest)
    → bare_basics (suc n) ((sign OpenParenthesis ∷ (a ++ sign CloseParenthesis ∷ [])) ++ rest) ≡ Ok (c, rest)
unfolding bare_basic_with class_in_parens inside_at after
parens_basic n a rest c body = rw (append_assoc a (sign CloseParenthesis ∷ []) rest, body) refl

word_no_except : (x : Lexeme) (w : List ℕ) (rest : List Lexeme) → word_of x ≡ Some w → except_front (x ∷ rest) ≡ None
word_no_except (identifier v) w rest e = refl
word_no_except (keyword k s) w rest e = refl
word_no_except _ w rest e = absurd cc

star_no_except : (rest : List Lexeme) → follow Minus rest ≡ None → except_front (sign Star ∷ rest) ≡ None
star_no_except rest e = rw e refl

ns_no_except : (p : List ℕ) (rest : List Lexeme) → follow Minus rest ≡ None → except_front (ns_name p ∷ rest) ≡ None
ns_no_except p rest e = rw e refl

no_except : {ts : List Lexeme} {c : NameClassAt written} → IsBareBasic ts c → (rest : List Lexeme) → follow Minus rest ≡ None → except_front (ts ++ rest) ≡ None
no_except (grammar.word_class {x = x} {w = w} is e) rest m = rw e (word_no_except x w rest is)
no_except (grammar.cname_class e) rest m = rw e refl
no_except (grammar.ns_class {p = p} e) rest m = rw e (ns_no_except p rest m)
no_except (grammar.any_class e) rest m = rw e (star_no_except rest m)
no_except (grammar.class_in_parens p e) rest m = rw e refl

begins : {ts : List Lexeme} {cs : List (NameClassAt written)} → AreMoreClasses ts cs → (us : List Lexeme) × (ts ≡ sign Bar ∷ us)
begins (grammar.last_class {a = a} p e) = (a, e)
begins (grammar.more_classes {a = a} {b = b} p q e) = (a ++ b, e)

alone_read : (n : ℕ) (ts rest : List Lexeme) (c : NameClassAt written) → except_front ts ≡ None → follow Bar rest ≡ None → bare_basics n ts ≡ Ok (c, rest)
    → bare_classes n ts ≡ Ok (c, rest)
unfolding bare_class_with choice_with
alone_read n ts rest c except bar one = rw (except, one, bar) refl

choice_read : (n : ℕ) (ts us vs rest : List Lexeme) (c : NameClassAt written) (cs : List (NameClassAt written)) → except_front ts ≡ None
    → bare_basics n ts ≡ Ok (c, us)
    → follow Bar us ≡ Some vs → many (follow Bar) (basics n) us ≡ Ok (cs, rest) → bare_classes n ts ≡ Ok (syntax.choice_of (c ∷ cs), rest)
unfolding bare_class_with choice_with
choice_read n ts us vs rest c cs except one bar others = rw (except, one, bar, others) refl

any_except_read : (n : ℕ) (ts rest : List Lexeme) (c : NameClassAt written) → basics n ts ≡ Ok (c, rest) → bare_classes n (sign Star ∷ sign Minus ∷ ts) ≡ Ok
    (syntax.any_except c, rest)
unfolding bare_class_with
any_except_read n ts rest c one = rw one refl

ns_except_read : (n : ℕ) (p : List ℕ) (ts rest : List Lexeme) (c : NameClassAt written) → basics n ts ≡ Ok (c, rest)
    → bare_classes n (ns_name p ∷ sign Minus ∷ ts) ≡ Ok
    (syntax.ns_except p c, rest)
unfolding bare_class_with
ns_except_read n p ts rest c one = rw one refl

more_read : (n : ℕ) (ts a b rest end : List Lexeme) (c : NameClassAt written) (cs : List (NameClassAt written)) → ts ≡ sign Bar ∷ (a ++ b)
    → basics n (a ++ (b ++ rest)) ≡ Ok (c, b ++ rest) → Manys (follow Bar) (basics n) (b ++ rest) cs end → Manys (follow Bar) (basics n) (ts ++ rest) (c ∷ cs)
    end
more_read n ts a b rest end c cs e one others =
    let parts : ts ++ rest ≡ sign Bar ∷ (a ++ (b ++ rest)) = ap (λ (ts : List Lexeme). ts ++ rest) e ∙ ap (λ (r : List Lexeme). sign Bar ∷ r)
    (append_assoc a b rest) in
    let shorter : length (b ++ rest) < length (sign Bar ∷ (a ++ (b ++ rest))) = omega (arith, length-append a (b ++ rest)) in
    subst (λ (us : List Lexeme). Manys (follow Bar) (basics n) us (c ∷ cs) end) (sym parts)
    (manys_more (follow Bar) (basics n) (sign Bar ∷ (a ++ (b ++ rest))) (a ++ (b ++ rest)) (b ++ rest) end c cs refl one shorter others)

last_read : (n : ℕ) (ts a rest : List Lexeme) (c : NameClassAt written) → ts ≡ sign Bar ∷ a → basics n (a ++ rest) ≡ Ok (c, rest) → follow Bar rest ≡ None
    → Manys (follow Bar) (basics n) (ts ++ rest) (c ∷ []) rest
last_read n ts a rest c e one bar =
    let shorter : length rest < length (sign Bar ∷ (a ++ rest)) = omega (arith, length-append a rest) in
    subst (λ (ts : List Lexeme). Manys (follow Bar) (basics n) (ts ++ rest) (c ∷ []) rest) (sym e)
    (manys_more (follow Bar) (basics n) (sign Bar ∷ (a ++ rest)) (a ++ rest) rest rest c [] refl one shorter (manys_end (follow Bar) (basics n) rest bar))

bar_follows : (b rest us : List Lexeme) → b ≡ sign Bar ∷ us → follow Bar (b ++ rest) ≡ Some (us ++ rest)
bar_follows b rest us e = rw e refl

no_minus : (b rest us : List Lexeme) → b ≡ sign Bar ∷ us → follow Minus (b ++ rest) ≡ None
no_minus b rest us e = rw e refl

-- an annotation, and then two parts
pub two_parts : (ts note a b c rest : List Lexeme) → ts ≡ a ++ b → a ≡ note ++ c → ts ++ rest ≡ note ++ (c ++ (b ++ rest))
two_parts ts note a b c rest e f = ap (λ (ts : List Lexeme). ts ++ rest) e ∙ append_assoc a b rest ∙ annotated_parts a note c (b ++ rest) f

mutual
  unfolding class_with basic_with

  pub class_complete : {ts : List Lexeme} {c : NameClassAt written} → IsClass ts c → (n : ℕ) → NestsWithin n ts → (rest : List Lexeme) → follow Bar rest ≡ None
      → follow Minus rest ≡ None → classes n (ts ++ rest) ≡ Ok (c, rest)
  class_complete {ts} {c} (grammar.basic_class (grammar.annotated_basic {n = note} {a = a} may p e)) n nest rest bar minus =
      annotated_read (bare_classes n) (class_alone n) may ts a rest c e (alone_read n (a ++ rest) rest c (no_except p rest minus) bar
      (bare_basic_complete p n (second_within n ts note a e (annotation_even may) nest) rest))
  class_complete {ts} (grammar.choice_class {d = d} {a = a} {b = b} {c = c} {cs = cs} (grammar.annotated_basic {n = note} {a = x} may p f) q e g) n nest rest
      bar minus =
      let h = begins q in
      let nest_a = first_within n ts a b e nest in
      let one = bare_basic_complete p n (second_within n a note x f (annotation_even may) nest_a) (b ++ rest) in
      let others = more_classes_complete q n (second_within n ts a b e (basic_even (grammar.annotated_basic may p f)) nest) rest bar in
      subst (λ (d : NameClassAt written). classes n (ts ++ rest) ≡ Ok (d, rest)) (sym g)
      (subst (λ (us : List Lexeme). classes n us ≡ Ok (syntax.choice_of (c ∷ cs), rest)) (sym (two_parts ts note a b x rest e f))
      (annotated_behind (bare_classes n) (class_alone n) may (x ++ (b ++ rest)) (syntax.choice_of (c ∷ cs), rest)
      (choice_read n (x ++ (b ++ rest)) (b ++ rest) (h.0 ++ rest) rest c cs (no_except p (b ++ rest) (no_minus b rest h.0 h.1)) one
      (bar_follows b rest h.0 h.1) (manys_read (follow Bar) (basics n) (b ++ rest) rest cs others))))
  class_complete {ts} (grammar.any_except {n = note} {a = a} {c = c} may p e) n nest rest bar minus =
      let behind = second_within n ts note (sign Star ∷ sign Minus ∷ a) e (annotation_even may) nest in
      let inner = behind_within n (sign Minus ∷ a) (sign Minus) a refl (plain _ refl refl)
      (behind_within n (sign Star ∷ sign Minus ∷ a) (sign Star) (sign Minus ∷ a) refl (plain _ refl refl) behind) in
      annotated_read (bare_classes n) (class_alone n) may ts (sign Star ∷ sign Minus ∷ a) rest (syntax.any_except c) e
      (any_except_read n (a ++ rest) rest c (basic_complete p n inner rest))
  class_complete {ts} (grammar.ns_except {n = note} {a = a} {p = x} {c = c} may p e) n nest rest bar minus =
      let behind = second_within n ts note (ns_name x ∷ sign Minus ∷ a) e (annotation_even may) nest in
      let inner = behind_within n (sign Minus ∷ a) (sign Minus) a refl (plain _ refl refl)
      (behind_within n (ns_name x ∷ sign Minus ∷ a) (ns_name x) (sign Minus ∷ a) refl (plain _ refl refl) behind) in
      annotated_read (bare_classes n) (class_alone n) may ts (ns_name x ∷ sign Minus ∷ a) rest (syntax.ns_except x c) e
      (ns_except_read n x (a ++ rest) rest c (basic_complete p n inner rest))

  more_classes_complete : {ts : List Lexeme} {cs : List (NameClassAt written)} → AreMoreClasses ts cs → (n : ℕ) → NestsWithin n ts → (rest : List Lexeme)
      → follow Bar rest ≡ None → Manys (follow Bar) (basics n) (ts ++ rest) cs rest
  more_classes_complete {ts} (grammar.last_class {a = a} {c = c} p e) n nest rest bar =
      last_read n ts a rest c e (basic_complete p n (behind_within n ts (sign Bar) a e (plain _ refl refl) nest) rest) bar
  more_classes_complete {ts} (grammar.more_classes {cs = cs} {a = a} {b = b} {c = c} p q e) n nest rest bar =
      let inner = behind_within n ts (sign Bar) (a ++ b) e (plain _ refl refl) nest in
      more_read n ts a b rest rest c cs e (basic_complete p n (first_within n (a ++ b) a b refl inner) (b ++ rest))
      (more_classes_complete q n (second_within n (a ++ b) a b refl (basic_even p) inner) rest bar)

  basic_complete : {ts : List Lexeme} {c : NameClassAt written} → IsBasic ts c → (n : ℕ) → NestsWithin n ts → (rest : List Lexeme)
      → basics n (ts ++ rest) ≡ Ok (c, rest)
  basic_complete {ts} {c} (grammar.annotated_basic {n = note} {a = a} may p e) n nest rest =
      annotated_read (bare_basics n) (basic_alone n) may ts a rest c e (bare_basic_complete p n (second_within n ts note a e (annotation_even may) nest) rest)

  bare_basic_complete : {ts : List Lexeme} {c : NameClassAt written} → IsBareBasic ts c → (n : ℕ) → NestsWithin n ts → (rest : List Lexeme)
      → bare_basics n (ts ++ rest) ≡ Ok (c, rest)
  bare_basic_complete (grammar.word_class {x = x} {w = w} is e) n nest rest = rw e (word_basic n x w rest is)
  bare_basic_complete (grammar.cname_class {p = p} {l = l} e) n nest rest = rw e (cname_basic n p l rest)
  bare_basic_complete (grammar.ns_class {p = p} e) n nest rest = rw e (ns_basic n p rest)
  bare_basic_complete (grammar.any_class e) n nest rest = rw e (any_basic n rest)
  bare_basic_complete {ts} (grammar.class_in_parens {a = a} p e) zero nest rest =
      absurd (none_within ts (sign OpenParenthesis) (a ++ sign CloseParenthesis ∷ []) refl refl e nest)
  bare_basic_complete {ts} {c} (grammar.class_in_parens {a = a} p e) (suc n) nest rest =
      rw e (parens_basic n a rest c (class_complete p n (inside_within n ts (sign OpenParenthesis) (sign CloseParenthesis) a parens e nest)
      (sign CloseParenthesis ∷ rest) refl refl))
