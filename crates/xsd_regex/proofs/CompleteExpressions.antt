-- Every expression is read as what it means.
use Rattle.std.proofs.Common.{◌≡◌, ◌∙◌, ◌≤◌, ◌+◌, ◌*◌, ℕ, List, [], ◌∷◌, ◌++◌, codes, Bool, true, false, not, ◌==◌, ◌||◌}
use Rattle.std.proofs.Common.{Option, Some, None, refl, sym, ap, subst, arith, le-leb, lt-ltb}
use Rattle.std.specs.List.{list_any}
use Rattle.std.specs.Char.{digit_value}
use Rattle.std.specs.Str.Parse.{AllDigits, IsNumeral, digits_value, digits_value_after}
use Rattle.std.proofs.lemmas.List.{append_assoc, append-nil}
use Rattle.rng_model.specs.declared.regex_mode.RegexMode.{RegexMode}
use Rattle.rng_model.specs.declared.regex_mode.RegexMode.TheVariants as mode
use Rattle.rng_model.specs.regexes.Expressions.{Class, no_char, only_char, Regex, nothing_more, one_of, both, times}
use Rattle.rng_model.specs.regexes.Symbols.{Symbol, char, escaped, class}
use Rattle.rng_model.specs.regexes.ExpressionGrammar.{chars_of, most_count, is_meta, wildcard, IsCount, count, IsQuantifier, optional, any_number}
use Rattle.rng_model.specs.regexes.ExpressionGrammar.{one_or_more, exactly, at_least, between}
use Rattle.rng_model.specs.regexes.ExpressionGrammar.{IsClassExpression, bracketed, IsExpression, branch, or_branch, IsBranch, no_piece, piece_and, IsPiece}
use Rattle.rng_model.specs.regexes.ExpressionGrammar.{once, quantified}
use Rattle.rng_model.specs.regexes.ExpressionGrammar.{IsAtom, normal, anything, single_escape, class_escape, class_group, grouped}
use Rattle.rng_model.specs.regexes.plain.ClassSteps.{State}
use Rattle.rng_model.specs.regexes.plain.Machine.{run, start, piece, sign, closed_in, behind_atom, quantifier, opens_quantifier, in_least, in_most}
use Rattle.rng_model.specs.regexes.plain.ClassSteps.{ended_at}
use Rattle.rng_model.specs.regexes.plain.Machine.{behind_least, behind_most, with_alternative, value_or_zero}
use Rattle.xsd_regex.proofs.CompleteClasses.{st, group_read}

-- outside of classes
abbrev pub top : List Regex → List Bool → Bool → RegexMode → State
top rs gs b m = st [] rs gs b 0 m

-- ---- what may follow an atom that has no quantifier

abbrev no_quantifier : List Symbol → Bool
no_quantifier [] = true
no_quantifier (char c ∷ us) = not (opens_quantifier c)
no_quantifier (escaped c ∷ us) = true
no_quantifier (class k ∷ us) = true

meta_known : (c : ℕ) → is_meta c ≡ false → opens_quantifier c ≡ false
meta_known c e =
    by (c == 0x2E) (c == 0x5C) (c == 0x3F) (c == 0x2A) (c == 0x2B) (c == 0x7B) (list_any (λ m. c == m) (codes "}()|[]")) e
  where
    by : (a b q s p o r : Bool) → (a || (b || (q || (s || (p || (o || r)))))) ≡ false → (q || (s || (p || (o || false)))) ≡ false
    by false false false false false false r e = refl
    by true b q s p o r e = cc
    by false true q s p o r e = cc
    by false false true s p o r e = cc
    by false false false true p o r e = cc
    by false false false false true o r e = cc
    by false false false false false true r e = cc

atom_no_quantifier : (us : List Symbol) (a : Regex) (rest : List Symbol) → IsAtom us a → no_quantifier (us ++ rest) ≡ true
atom_no_quantifier _ _ rest (normal {c} e) = rw (meta_known c e) refl
atom_no_quantifier _ _ rest anything = refl
atom_no_quantifier _ _ rest single_escape = refl
atom_no_quantifier _ _ rest class_escape = refl
atom_no_quantifier _ _ rest (class_group (bracketed is parts)) = rw parts refl
atom_no_quantifier _ _ rest (grouped is parts) = rw parts refl

piece_no_quantifier : (us : List Symbol) (a : Regex) (rest : List Symbol) → IsPiece us a → no_quantifier (us ++ rest) ≡ true
piece_no_quantifier us a rest (once is) = atom_no_quantifier us a rest is
piece_no_quantifier _ _ rest (quantified {us} {vs} {a} is q parts) = rw (parts, append_assoc us vs rest) (atom_no_quantifier us a (vs ++ rest) is)

-- ---- counts

-- digits do not make a number smaller
more_digits : (n : ℕ) (ds : List ℕ) → n ≤ digits_value_after 10 n ds
more_digits n [] = omega arith
more_digits n (c ∷ cs) = omega (arith, more_digits (n * 10 + digit_value c) cs)

-- the number that is read behind these digits
abbrev read_after : Option ℕ → List ℕ → Option ℕ
read_after o [] = o
read_after o (c ∷ cs) = read_after (Some (value_or_zero o * 10 + digit_value c)) cs

read_value : (o : Option ℕ) (ds : List ℕ) → value_or_zero (read_after o ds) ≡ digits_value_after 10 (value_or_zero o) ds
read_value o [] = refl
read_value o (c ∷ cs) = read_value (Some (value_or_zero o * 10 + digit_value c)) cs

read_some : (n : ℕ) (ds : List ℕ) → read_after (Some n) ds ≡ Some (digits_value_after 10 n ds)
read_some n [] = refl
read_some n (c ∷ cs) = read_some (n * 10 + digit_value c) cs

read_numeral : (ds : List ℕ) → IsNumeral 10 ds → read_after None ds ≡ Some (digits_value 10 ds)
read_numeral [] is = absurd (omega (arith, is.0))
read_numeral (c ∷ cs) is = read_some (0 * 10 + digit_value c) cs

module _ (rs : List Regex) (gs : List Bool) (b : Bool) where
  least_digits : (ds : List ℕ) (o : Option ℕ) (us : List Symbol) → AllDigits 10 ds → digits_value_after 10 (value_or_zero o) ds ≤ most_count
      → run (top rs gs b (mode.Least o)) (chars_of ds ++ us) ≡ run (top rs gs b (mode.Least (read_after o ds))) us
  unfolding run in_least
  least_digits [] o us all le = refl
  least_digits (c ∷ cs) o us all le =
      let small : value_or_zero o * 10 + digit_value c ≤ most_count = omega (arith, le, more_digits (value_or_zero o * 10 + digit_value c) cs) in
      rw (lt-ltb _ _ all.0, le-leb _ _ small) (least_digits cs (Some (value_or_zero o * 10 + digit_value c)) us all.1 le)

  most_digits : (n : ℕ) (ds : List ℕ) (o : Option ℕ) (us : List Symbol) → AllDigits 10 ds → digits_value_after 10 (value_or_zero o) ds ≤ most_count
      → run (top rs gs b (mode.Most n o)) (chars_of ds ++ us) ≡ run (top rs gs b (mode.Most n (read_after o ds))) us
  unfolding run in_most
  most_digits n [] o us all le = refl
  most_digits n (c ∷ cs) o us all le =
      let small : value_or_zero o * 10 + digit_value c ≤ most_count = omega (arith, le, more_digits (value_or_zero o * 10 + digit_value c) cs) in
      rw (lt-ltb _ _ all.0, le-leb _ _ small) (most_digits n cs (Some (value_or_zero o * 10 + digit_value c)) us all.1 le)

  least_read : (vs : List Symbol) (n : ℕ) (us : List Symbol) → IsCount vs n
      → run (top rs gs b (mode.Least None)) (vs ++ us) ≡ run (top rs gs b (mode.Least (Some n))) us
  least_read _ _ us (count {us = vs} {n} ds is parts value le) =
      ap (λ x. run (top rs gs b (mode.Least None)) (x ++ us)) parts ∙ least_digits ds None us is.1 (subst (λ x. x ≤ most_count) value le)
      ∙ ap (λ o. run (top rs gs b (mode.Least o)) us) (read_numeral ds is ∙ ap Some (sym value))

  most_read : (m : ℕ) (vs : List Symbol) (n : ℕ) (us : List Symbol) → IsCount vs n
      → run (top rs gs b (mode.Most m None)) (vs ++ us) ≡ run (top rs gs b (mode.Most m (Some n))) us
  most_read m _ _ us (count {us = vs} {n} ds is parts value le) =
      ap (λ x. run (top rs gs b (mode.Most m None)) (x ++ us)) parts ∙ most_digits m ds None us is.1 (subst (λ x. x ≤ most_count) value le)
      ∙ ap (λ o. run (top rs gs b (mode.Most m o)) us) (read_numeral ds is ∙ ap Some (sym value))

-- ---- quantifiers

module _ (rs : List Regex) (gs : List Bool) (b : Bool) (x a : Regex) where
  abbrev joined_times : ℕ → Option ℕ → List Symbol → Option Regex
  joined_times n m us = run (top (both a (times n m x) ∷ rs) gs b mode.Ready) us

  abbrev from_atom : List Symbol → Option Regex
  from_atom us = run (top (x ∷ a ∷ rs) gs b mode.Atom) us

  open_least : (us : List Symbol) → from_atom (char 0x7B ∷ us) ≡ run (top (x ∷ a ∷ rs) gs b (mode.Least None)) us
  unfolding run behind_atom quantifier
  open_least us = refl

  close_least : (n : ℕ) (us : List Symbol) → run (top (x ∷ a ∷ rs) gs b (mode.Least (Some n))) (char 0x7D ∷ us) ≡ joined_times n (Some n) us
  unfolding run in_least behind_least
  close_least n us = refl

  least_comma : (n : ℕ) (us : List Symbol)
      → run (top (x ∷ a ∷ rs) gs b (mode.Least (Some n))) (char 0x2C ∷ us) ≡ run (top (x ∷ a ∷ rs) gs b (mode.Most n None)) us
  unfolding run in_least behind_least
  least_comma n us = refl

  close_unlimited : (n : ℕ) (us : List Symbol) → run (top (x ∷ a ∷ rs) gs b (mode.Most n None)) (char 0x7D ∷ us) ≡ joined_times n None us
  unfolding run in_most behind_most
  close_unlimited n us = refl

  close_most : (n m : ℕ) (us : List Symbol) → n ≤ m → run (top (x ∷ a ∷ rs) gs b (mode.Most n (Some m))) (char 0x7D ∷ us) ≡ joined_times n (Some m) us
  unfolding run in_most behind_most
  close_most n m us le = rw (le-leb n m le) refl

  short_quantifiers : (us : List Symbol)
      → (from_atom (char 0x3F ∷ us) ≡ joined_times 0 (Some 1) us) × (from_atom (char 0x2A ∷ us) ≡ joined_times 0 None us)
      × (from_atom (char 0x2B ∷ us) ≡ joined_times 1 None us)
  unfolding run behind_atom quantifier
  short_quantifiers us = (refl, refl, refl)

  quantifier_read : (vs : List Symbol) (n : ℕ) (m : Option ℕ) (us : List Symbol) → IsQuantifier vs n m → from_atom (vs ++ us) ≡ joined_times n m us
  quantifier_read _ _ _ us optional = (short_quantifiers us).0
  quantifier_read _ _ _ us any_number = (short_quantifiers us).1
  quantifier_read _ _ _ us one_or_more = (short_quantifiers us).2
  quantifier_read _ _ _ us (exactly {us = vs} {n} is parts) =
      ap (λ l. from_atom (l ++ us)) parts ∙ ap (λ l. from_atom (char 0x7B ∷ l)) (append_assoc vs (char 0x7D ∷ []) us)
      ∙ open_least (vs ++ char 0x7D ∷ us) ∙ least_read (x ∷ a ∷ rs) gs b vs n (char 0x7D ∷ us) is ∙ close_least n us
  quantifier_read _ _ _ us (at_least {us = vs} {n} is parts) =
      ap (λ l. from_atom (l ++ us)) parts ∙ ap (λ l. from_atom (char 0x7B ∷ l)) (append_assoc vs (char 0x2C ∷ char 0x7D ∷ []) us)
      ∙ open_least (vs ++ char 0x2C ∷ char 0x7D ∷ us) ∙ least_read (x ∷ a ∷ rs) gs b vs n (char 0x2C ∷ char 0x7D ∷ us) is
      ∙ least_comma n (char 0x7D ∷ us) ∙ close_unlimited n us
  quantifier_read _ _ _ us (between {us = vs} {vs = ws} {n} {m} is most le parts) =
      ap (λ l. from_atom (l ++ us)) parts
      ∙ ap (λ l. from_atom (char 0x7B ∷ l)) (append_assoc vs (char 0x2C ∷ (ws ++ char 0x7D ∷ [])) us
      ∙ ap (λ l. vs ++ char 0x2C ∷ l) (append_assoc ws (char 0x7D ∷ []) us))
      ∙ open_least (vs ++ char 0x2C ∷ (ws ++ char 0x7D ∷ us)) ∙ least_read (x ∷ a ∷ rs) gs b vs n (char 0x2C ∷ (ws ++ char 0x7D ∷ us)) is
      ∙ least_comma n (ws ++ char 0x7D ∷ us) ∙ most_read (x ∷ a ∷ rs) gs b n ws m (char 0x7D ∷ us) most ∙ close_most n m us le

  -- an atom without one
  alone : (us : List Symbol) → no_quantifier us ≡ true → from_atom us ≡ run (top (both a x ∷ rs) gs b mode.Ready) us
  unfolding run behind_atom
  alone [] e = refl
  alone (char c ∷ us) e = by (opens_quantifier c) refl e
    where
      by : (q : Bool) → opens_quantifier c ≡ q → not q ≡ true → from_atom (char c ∷ us) ≡ run (top (both a x ∷ rs) gs b mode.Ready) (char c ∷ us)
      by true p h = cc
      by false p h = rw p refl
  alone (escaped c ∷ us) e = refl
  alone (class k ∷ us) e = refl

-- ---- atoms, pieces, branches and expressions

-- atoms of one symbol
data IsShort : List Symbol → Regex → Type 0 where
  any_short : IsShort (chars_of (codes ".")) (one_of wildcard)
  char_short : {c : ℕ} → IsShort (escaped c ∷ []) (one_of (only_char c))
  class_short : {k : Class} → IsShort (class k ∷ []) (one_of k)

module _ (rs : List Regex) (gs : List Bool) (b : Bool) where
  normal_read : (c : ℕ) (us : List Symbol) → is_meta c ≡ false
      → run (top rs gs b mode.Ready) (char c ∷ us) ≡ run (top (one_of (only_char c) ∷ rs) gs b mode.Atom) us
  unfolding run piece
  normal_read c us e = rw e refl

  short_atoms : (us : List Symbol) (a : List Symbol) (x : Regex) → IsShort a x → run (top rs gs b mode.Ready) (a ++ us) ≡ run (top (x ∷ rs) gs b mode.Atom) us
  unfolding run piece sign
  short_atoms us _ _ any_short = refl
  short_atoms us _ _ char_short = refl
  short_atoms us _ _ class_short = refl

  bracket_read : (us : List Symbol) → run (top rs gs b mode.Ready) (char 0x5B ∷ us) ≡ run (st (no_char ∷ []) rs gs b 0 mode.Open) us
  unfolding run piece sign
  bracket_read us = refl

  bracket_ended : (k : Class) (us : List Symbol) → run (ended_at 0 (st (k ∷ []) rs gs b 0 mode.Closed)) us ≡ run (top (one_of k ∷ rs) gs b mode.Atom) us
  unfolding ended_at
  bracket_ended k us = refl

  class_atom : (vs : List Symbol) (k : Class) (us : List Symbol) → IsClassExpression vs k
      → run (top rs gs b mode.Ready) (vs ++ us) ≡ run (top (one_of k ∷ rs) gs b mode.Atom) us
  class_atom _ _ us (bracketed {us = vs} {k} is parts) =
      ap (λ l. run (top rs gs b mode.Ready) (l ++ us)) parts
      ∙ ap (λ l. run (top rs gs b mode.Ready) (char 0x5B ∷ l)) (append_assoc vs (char 0x5D ∷ []) us)
      ∙ bracket_read (vs ++ char 0x5D ∷ us) ∙ group_read rs gs b 0 [] vs k us is ∙ bracket_ended k us

  open_read : (us : List Symbol) → run (top rs gs b mode.Ready) (char 0x28 ∷ us) ≡ run (top (nothing_more ∷ rs) (b ∷ gs) false mode.Ready) us
  unfolding run piece sign
  open_read us = refl

-- the state behind an expression: what is before `|`, if anything is, and the last branch
record Whole (rs : List Regex) (gs : List Bool) (vs : List Symbol) (x : Regex) (us : List Symbol) : Type 0 where
  pub alternative : Bool
  pub regexes : List Regex
  pub same : run (top (nothing_more ∷ rs) gs false mode.Ready) (vs ++ us) ≡ run (top regexes gs alternative mode.Ready) us
  pub whole : with_alternative (top regexes gs alternative mode.Ready) ≡ record { classes = []; regexes = x ∷ rs }

close_read : (rs qs : List Regex) (gs : List Bool) (b c : Bool) (x : Regex) (us : List Symbol)
    → with_alternative (top qs (b ∷ gs) c mode.Ready) ≡ record { classes = []; regexes = x ∷ rs }
    → run (top qs (b ∷ gs) c mode.Ready) (char 0x29 ∷ us) ≡ run (top (x ∷ rs) gs b mode.Atom) us
unfolding run piece sign closed_in
close_read rs qs gs b c x us e = rw e refl

bar_read : (rs qs : List Regex) (gs : List Bool) (c : Bool) (x : Regex) (us : List Symbol)
    → with_alternative (top qs gs c mode.Ready) ≡ record { classes = []; regexes = x ∷ rs }
    → run (top qs gs c mode.Ready) (char 0x7C ∷ us) ≡ run (top (nothing_more ∷ x ∷ rs) gs true mode.Ready) us
unfolding run piece sign
bar_read rs qs gs c x us e = rw e refl

mutual
  expression_read : (rs : List Regex) (gs : List Bool) (vs : List Symbol) (x : Regex) (us : List Symbol) → IsExpression vs x → no_quantifier us ≡ true
      → Whole rs gs vs x us
  expression_read rs gs vs x us (branch is) e =
      record { alternative = false; regexes = x ∷ rs; same = branch_read rs gs false vs x us is e; whole = refl }
  expression_read rs gs _ _ us (or_branch {us = vs} {vs = ws} {a = x} {b = y} more is parts) e =
      let w = expression_read rs gs vs x (char 0x7C ∷ (ws ++ us)) more refl in
      record {
        alternative = true;
        regexes = y ∷ x ∷ rs;
        same = ap (λ l. run (top (nothing_more ∷ rs) gs false mode.Ready) (l ++ us)) parts
            ∙ ap (run (top (nothing_more ∷ rs) gs false mode.Ready)) (append_assoc vs (char 0x7C ∷ ws) us)
            ∙ w.same ∙ bar_read rs w.regexes gs w.alternative x (ws ++ us) w.whole ∙ branch_read (x ∷ rs) gs true ws y us is e;
        whole = refl;
      }

  branch_read : (rs : List Regex) (gs : List Bool) (b : Bool) (vs : List Symbol) (x : Regex) (us : List Symbol) → IsBranch vs x → no_quantifier us ≡ true
      → run (top (nothing_more ∷ rs) gs b mode.Ready) (vs ++ us) ≡ run (top (x ∷ rs) gs b mode.Ready) us
  branch_read rs gs b _ _ us no_piece e = refl
  branch_read rs gs b _ _ us (piece_and {us = vs} {vs = ws} {a = x} {b = y} more is parts) e =
      ap (λ l. run (top (nothing_more ∷ rs) gs b mode.Ready) (l ++ us)) parts
      ∙ ap (run (top (nothing_more ∷ rs) gs b mode.Ready)) (append_assoc vs ws us)
      ∙ branch_read rs gs b vs x (ws ++ us) more (piece_no_quantifier ws y us is)
      ∙ piece_read rs gs b x ws y us is e

  piece_read : (rs : List Regex) (gs : List Bool) (b : Bool) (a : Regex) (vs : List Symbol) (x : Regex) (us : List Symbol) → IsPiece vs x
      → no_quantifier us ≡ true → run (top (a ∷ rs) gs b mode.Ready) (vs ++ us) ≡ run (top (both a x ∷ rs) gs b mode.Ready) us
  piece_read rs gs b a vs x us (once is) e = atom_read (a ∷ rs) gs b vs x us is ∙ alone rs gs b x a us e
  piece_read rs gs b a _ _ us (quantified {us = vs} {vs = ws} {a = x} {least = n} {most = m} is q parts) e =
      ap (λ l. run (top (a ∷ rs) gs b mode.Ready) (l ++ us)) parts
      ∙ ap (run (top (a ∷ rs) gs b mode.Ready)) (append_assoc vs ws us)
      ∙ atom_read (a ∷ rs) gs b vs x (ws ++ us) is
      ∙ quantifier_read rs gs b x a ws n m us q

  atom_read : (rs : List Regex) (gs : List Bool) (b : Bool) (vs : List Symbol) (x : Regex) (us : List Symbol) → IsAtom vs x
      → run (top rs gs b mode.Ready) (vs ++ us) ≡ run (top (x ∷ rs) gs b mode.Atom) us
  atom_read rs gs b _ _ us (normal {c} e) = normal_read rs gs b c us e
  atom_read rs gs b vs x us anything = short_atoms rs gs b us vs x any_short
  atom_read rs gs b vs x us single_escape = short_atoms rs gs b us vs x char_short
  atom_read rs gs b vs x us class_escape = short_atoms rs gs b us vs x class_short
  atom_read rs gs b vs _ us (class_group {k} is) = class_atom rs gs b vs k us is
  atom_read rs gs b _ _ us (grouped {us = vs} {a = x} is parts) =
      let w = expression_read rs (b ∷ gs) vs x (char 0x29 ∷ us) is refl in
      ap (λ l. run (top rs gs b mode.Ready) (l ++ us)) parts
      ∙ ap (λ l. run (top rs gs b mode.Ready) (char 0x28 ∷ l)) (append_assoc vs (char 0x29 ∷ []) us)
      ∙ open_read rs gs b (vs ++ char 0x29 ∷ us) ∙ w.same ∙ close_read rs w.regexes gs b w.alternative x us w.whole

end_read : (qs : List Regex) (c : Bool) (x : Regex) → with_alternative (top qs [] c mode.Ready) ≡ record { classes = []; regexes = x ∷ [] }
    → run (top qs [] c mode.Ready) [] ≡ Some x
unfolding run
end_read qs c x e = rw e refl

pub is_complete : (us : List Symbol) (r : Regex) → IsExpression us r → run start us ≡ Some r
is_complete us r is =
    let w = expression_read [] [] us r [] is refl in
    ap (run start) (sym (append-nil us)) ∙ w.same ∙ end_read w.regexes w.alternative r w.whole
