-- The symbol that begins a text, and the symbols of a text: one list at most.
use Rattle.std.proofs.Common.{◌≡◌, ◌≢◌, ◌∙◌, ℕ, ◌+◌, ◌<◌, List, [], ◌∷◌, ◌++◌, take, drop, length, Bool, true, false, cond, not, ◌==◌, Option}
use Rattle.std.proofs.Common.{Some, None, refl, sym, ap, arith, one-add, true≢false, eqb-true, ne_eqb, eq-eqb, subst}
use Rattle.std.proofs.Math.Seq.{take-append_seam, drop-append_seam}
use Rattle.std.specs.List.{list_all, prefix_len}
use Rattle.std.specs.Option.{option_map}
use Rattle.std.specs.Map.{lookup}
use Rattle.std.specs.Char.{encode_utf8}
use Rattle.std.specs.Str.{bytes_eq, chars, IsUtf8}
use Rattle.std.proofs.lemmas.Bool.{and_parts}
use Rattle.std.proofs.lemmas.Option.{none-some, same_Some}
use Rattle.std.proofs.lemmas.Str.{chars_past_char}
use Rattle.std.proofs.lemmas.List.{append_assoc, append-nil, take-append-drop, length-append}
use Rattle.rng_model.proofs.Texts.{bytes_same}
use Rattle.rng_model.specs.regexes.Expressions.{Class}
use Rattle.rng_model.specs.regexes.Properties.{category_names, block_names, property_named}
use Rattle.rng_model.specs.regexes.Symbols.{Symbol, char, class, short_escape, single_escapes, multi_escapes, IsSymbol, itself, short, has_property, has_not}
use Rattle.rng_model.specs.regexes.Symbols.{AreSymbols, no_symbols, symbol_and}
use Rattle.rng_model.specs.regexes.plain.Spelling.{Read, first_of, negated_if, is_in_name, behind_name, named_symbol, property_symbol, escape_symbol, next_symbol}
use Rattle.rng_model.specs.regexes.plain.Spelling.{HasNoSymbols}

same_pair : {u v : Symbol} {s t : List ℕ} → ◌≡◌ {A = Read} (Some (u, s)) (Some (v, t)) → (u ≡ v) × (s ≡ t)
same_pair e = let p = same_Some _ _ e in (ap (λ x. x.0) p, ap (λ x. x.1) p)

-- ---- what a search finds passes what all rows pass

pub record Found {K : Type 0} (test pass : K → Bool) : Type 0 where
  pub key : K
  pub tested : test key ≡ true
  pub passed : pass key ≡ true

found_passes : {K V : Type 0} (test pass : K → Bool) (rows : List (K × V)) (v : V) → list_all (λ r. pass r.0) rows ≡ true
    → lookup test rows ≡ Some v → Found test pass
found_passes test pass [] v all e = cc
found_passes {K} {V} test pass (r ∷ rows) v all e =
    let both = and_parts _ _ all in
    by (test r.0) refl both.0 (found_passes test pass rows v both.1) e
  where
    by : (b : Bool) → test r.0 ≡ b → pass r.0 ≡ true → (lookup test rows ≡ Some v → Found test pass)
        → cond b (Some r.1) (lookup test rows) ≡ Some v → Found test pass
    by true t p more e = record { key = r.0; tested = t; passed = p }
    by false t p more e = more e

-- no name of a property has a `}`
no_brace : list_all (λ r. list_all is_in_name r.0) (category_names ++ block_names) ≡ true
no_brace = refl

name_passes : (name : List ℕ) (k : Class) → property_named name ≡ Some k → list_all is_in_name name ≡ true
name_passes name k e =
    let f = found_passes (bytes_eq name) (list_all is_in_name) (category_names ++ block_names) k no_brace e in
    rw (bytes_same name f.key f.tested) f.passed

-- and no escape of one character is `\p` or `\P`
abbrev is_short : ℕ → Bool
is_short c = cond (c == 0x70) false (cond (c == 0x50) false true)

all_short : list_all (λ r. is_short r.0) (single_escapes ++ multi_escapes) ≡ true
all_short = refl

-- ---- the first character of a text

pub first_is : (bs rest : List ℕ) (c : ℕ) → IsUtf8 bs → bs ≡ encode_utf8 c ++ rest
    → ◌≡◌ {A = Option (ℕ × List ℕ)} (Some (c, chars rest)) (first_of (chars bs))
first_is bs rest c u e = rw (chars_past_char bs rest c u e) refl

pub first_there : (s t : List ℕ) (c : ℕ) → ◌≡◌ {A = Option (ℕ × List ℕ)} (Some (c, t)) (first_of s) → s ≡ c ∷ t
first_there [] t c e = cc
first_there (d ∷ s) t c e = let p = same_Some _ _ e in cc (ap (λ x. x.0) p, ap (λ x. x.1) p)

pub none_there : (s : List ℕ) → ◌≡◌ {A = Option (ℕ × List ℕ)} None (first_of s) → s ≡ []
none_there [] e = refl
none_there (d ∷ s) e = cc

-- ---- the name of a property

pub named_length : (name rest : List ℕ) → list_all is_in_name name ≡ true → prefix_len is_in_name (name ++ 0x7D ∷ rest) ≡ length name
named_length [] rest all = refl
named_length (c ∷ cs) rest all =
    let both = and_parts (is_in_name c) (list_all is_in_name cs) all in
    rw (both.0, named_length cs rest both.1) (one-add (length cs))

-- the first character behind the longest run of name characters is none
abbrev is_brace_first : List ℕ → Bool
is_brace_first [] = true
is_brace_first (c ∷ cs) = not (is_in_name c)

behind_run : (s : List ℕ) → is_brace_first (drop (prefix_len is_in_name s) s) ≡ true
behind_run [] = refl
behind_run (c ∷ cs) = by (is_in_name c) refl (behind_run cs)
  where
    by : (b : Bool) → is_in_name c ≡ b → is_brace_first (drop (prefix_len is_in_name cs) cs) ≡ true
        → is_brace_first (drop (cond b (1 + prefix_len is_in_name cs) 0) (c ∷ cs)) ≡ true
    by true e h = rw (one-add (prefix_len is_in_name cs)) h
    by false e h = rw e refl

-- the letter of the escape
abbrev letter : Bool → ℕ
letter true = 0x50
letter false = 0x70

named_is : (neg : Bool) (name : List ℕ) (k : Class) → property_named name ≡ Some k
    → IsSymbol (0x5C ∷ letter neg ∷ 0x7B ∷ (name ++ 0x7D ∷ [])) (class (negated_if neg k))
named_is true name k e = has_not name e refl
named_is false name k e = has_property name e refl

-- such an escape is read
named_read : (neg : Bool) (name : List ℕ) (k : Class) (rest : List ℕ) → property_named name ≡ Some k
    → named_symbol neg ((name ++ 0x7D ∷ []) ++ rest) ≡ Some (class (negated_if neg k), rest)
unfolding named_symbol behind_name
named_read neg name k rest e =
    rw (
      append_assoc name (0x7D ∷ []) rest,
      named_length name rest (name_passes name k e),
      take-append_seam name (0x7D ∷ rest),
      drop-append_seam name (0x7D ∷ rest),
      e,
    ) refl

-- ---- a symbol and what is behind it

pub symbol_read : (s : List ℕ) (u : Symbol) (rest : List ℕ) → IsSymbol s u → next_symbol (s ++ rest) ≡ Some (u, rest)
unfolding next_symbol escape_symbol property_symbol
symbol_read _ _ rest (itself {c} other) = rw (ne_eqb c 0x5C other) refl
symbol_read _ u rest (short {c} e) = by (c == 0x70) (c == 0x50) refl refl
  where
    passes : Found (λ n. n == c) is_short
    passes = found_passes (λ n. n == c) is_short (single_escapes ++ multi_escapes) u all_short e

    is : is_short c ≡ true
    is = rw (eqb-true _ _ passes.tested) at passes.passed

    by : (a b : Bool) → (c == 0x70) ≡ a → (c == 0x50) ≡ b → escape_symbol (c ∷ rest) ≡ Some (u, rest)
    by true b p q = absurd (true≢false (sym is ∙ rw p refl))
    by false true p q = absurd (true≢false (sym is ∙ rw (p, q) refl))
    by false false p q = rw (p, q, e) refl
symbol_read _ _ rest (has_property {all} {k} name e parts) = rw parts (named_read false name k rest e)
symbol_read _ _ rest (has_not {all} {k} name e parts) = rw parts (named_read true name k rest e)

pub record Begins (s : List ℕ) (u : Symbol) (rest : List ℕ) : Type 0 where
  pub front : List ℕ
  pub is : IsSymbol front u
  pub parts : s ≡ front ++ rest

record Named (neg : Bool) (name after : List ℕ) (u : Symbol) (rest : List ℕ) : Type 0 where
  pub sign : ℕ
  pub of : Class
  pub parts : after ≡ sign ∷ rest
  pub found : property_named name ≡ Some of
  pub is : u ≡ class (negated_if neg of)

named_parts : (neg : Bool) (name after : List ℕ) (u : Symbol) (rest : List ℕ) → behind_name neg name after ≡ Some (u, rest) → Named neg name after u rest
unfolding behind_name
named_parts neg name [] u rest e = cc
named_parts neg name (c ∷ s) u rest e = by (property_named name) refl e
  where
    by : (o : Option Class) → property_named name ≡ o
        → option_map {U = Symbol × List ℕ} (λ k. (class (negated_if neg k), s)) o ≡ Some (u, rest) → Named neg name (c ∷ s) u rest
    by None p q = cc
    by (Some k) p q =
        let same = same_pair q in
        record { sign = c; of = k; parts = ap (λ l. c ∷ l) same.1; found = p; is = sym same.0 }

property_begins : (neg : Bool) (s : List ℕ) (u : Symbol) (rest : List ℕ) → named_symbol neg s ≡ Some (u, rest)
    → Begins (0x5C ∷ letter neg ∷ 0x7B ∷ s) u rest
unfolding named_symbol
property_begins neg s u rest e =
    let name = take (prefix_len is_in_name s) s in
    let n = named_parts neg name (drop (prefix_len is_in_name s) s) u rest e in
    let first : not (is_in_name n.sign) ≡ true = subst (λ l. is_brace_first l ≡ true) n.parts (behind_run s) in
    let brace : n.sign ≡ 0x7D = eqb-true _ _ (double_not _ first) in
    let whole : s ≡ (name ++ 0x7D ∷ []) ++ rest =
    sym (take-append-drop (prefix_len is_in_name s) s) ∙ ap (λ l. name ++ l) (n.parts ∙ ap (λ c. c ∷ rest) brace)
    ∙ sym (append_assoc name (0x7D ∷ []) rest) in
    record {
      front = 0x5C ∷ letter neg ∷ 0x7B ∷ (name ++ 0x7D ∷ []);
      is = subst (IsSymbol _) (sym n.is) (named_is neg name n.of n.found);
      parts = ap (λ l. 0x5C ∷ letter neg ∷ 0x7B ∷ l) whole;
    }
  where
    double_not : (b : Bool) → not (not b) ≡ true → b ≡ true
    double_not true e = refl
    double_not false e = cc

braced_begins : (neg : Bool) (s : List ℕ) (u : Symbol) (rest : List ℕ) → property_symbol neg s ≡ Some (u, rest) → Begins (0x5C ∷ letter neg ∷ s) u rest
unfolding property_symbol
braced_begins neg [] u rest e = cc
braced_begins neg (c ∷ s) u rest e = by (c == 0x7B) refl e
  where
    by : (b : Bool) → (c == 0x7B) ≡ b → cond b (named_symbol neg s) None ≡ Some (u, rest) → Begins (0x5C ∷ letter neg ∷ c ∷ s) u rest
    by true p q = subst (λ x. Begins (0x5C ∷ letter neg ∷ x ∷ s) u rest) (sym (eqb-true _ _ p)) (property_begins neg s u rest q)
    by false p q = cc

escape_begins : (s : List ℕ) (u : Symbol) (rest : List ℕ) → escape_symbol s ≡ Some (u, rest) → Begins (0x5C ∷ s) u rest
unfolding escape_symbol
escape_begins [] u rest e = cc
escape_begins (c ∷ s) u rest e = by (c == 0x70) (c == 0x50) (short_escape c) refl refl refl e
  where
    by : (a b : Bool) (o : Option Symbol) → (c == 0x70) ≡ a → (c == 0x50) ≡ b → short_escape c ≡ o
        → cond a (property_symbol false s) (cond b (property_symbol true s) (option_map {U = Symbol × List ℕ} (λ v. (v, s)) o)) ≡ Some (u, rest)
        → Begins (0x5C ∷ c ∷ s) u rest
    by true b o p q r h = subst (λ x. Begins (0x5C ∷ x ∷ s) u rest) (sym (eqb-true _ _ p)) (braced_begins false s u rest h)
    by false true o p q r h = subst (λ x. Begins (0x5C ∷ x ∷ s) u rest) (sym (eqb-true _ _ q)) (braced_begins true s u rest h)
    by false false None p q r h = cc
    by false false (Some v) p q r h =
        let same = same_pair h in
        record { front = 0x5C ∷ c ∷ []; is = short (r ∙ ap Some same.0); parts = ap (λ l. 0x5C ∷ c ∷ l) same.1 }

pub symbol_begins : (s : List ℕ) (u : Symbol) (rest : List ℕ) → next_symbol s ≡ Some (u, rest) → Begins s u rest
unfolding next_symbol
symbol_begins [] u rest e = cc
symbol_begins (c ∷ s) u rest e = by (c == 0x5C) refl e
  where
    by : (b : Bool) → (c == 0x5C) ≡ b → cond b (escape_symbol s) (Some (char c, s)) ≡ Some (u, rest) → Begins (c ∷ s) u rest
    by true p q = subst (λ x. Begins (x ∷ s) u rest) (sym (eqb-true _ _ p)) (escape_begins s u rest q)
    by false p q =
        let same = same_pair q in
        record {
          front = c ∷ [];
          is = subst (IsSymbol (c ∷ [])) same.0 (itself (λ i. true≢false (sym (eq-eqb c 0x5C i) ∙ p)));
          parts = ap (λ l. c ∷ l) same.1;
        }

-- ---- the symbols of a text

nothing_begins : (u : Symbol) (rest : List ℕ) → next_symbol [] ≡ Some (u, rest) → ⊥
unfolding next_symbol
nothing_begins u rest e = cc

-- one symbol more in front
pub symbol_in_front : (s : List ℕ) (u : Symbol) (rest : List ℕ) (us : List Symbol) → next_symbol s ≡ Some (u, rest) → AreSymbols rest us → AreSymbols s (u ∷ us)
symbol_in_front s u rest us e more = let b = symbol_begins s u rest e in symbol_and b.is more b.parts

-- and what is behind the first one
pub record Behind (u : Symbol) (rest : List ℕ) (us : List Symbol) : Type 0 where
  pub more : List Symbol
  pub are : AreSymbols rest more
  pub parts : us ≡ u ∷ more

pub symbols_behind : (s : List ℕ) (u : Symbol) (rest : List ℕ) (us : List Symbol) → next_symbol s ≡ Some (u, rest) → AreSymbols s us → Behind u rest us
unfolding next_symbol
symbols_behind _ u rest _ e no_symbols = cc
symbols_behind s u rest _ e (symbol_and {s = front} {t} {u = v} {us = vs} is more parts) =
    let read = symbol_read front v t is in
    let same = same_pair (sym e ∙ ap next_symbol parts ∙ read) in
    record { more = vs; are = subst (λ l. AreSymbols l vs) (sym same.1) more; parts = ap (λ w. w ∷ vs) (sym same.0) }

pub no_symbols_of : (s : List ℕ) → s ≢ [] → next_symbol s ≡ None → (us : List Symbol) → AreSymbols s us → ⊥
no_symbols_of _ some e _ no_symbols = some refl
no_symbols_of s some e _ (symbol_and {s = front} {t} {u = v} {us = vs} is more parts) =
    none-some _ (sym e ∙ ap next_symbol parts ∙ symbol_read front v t is)

-- a text has one list of symbols at most
pub symbols_same : (s : List ℕ) (us vs : List Symbol) → AreSymbols s us → AreSymbols s vs → us ≡ vs
symbols_same _ _ vs no_symbols q = none_by [] vs refl q
  where
    none_by : (s : List ℕ) (vs : List Symbol) → s ≡ [] → AreSymbols s vs → [] ≡ vs
    none_by _ _ e no_symbols = refl
    none_by s _ e (symbol_and {s = front} {t} {u = v} is more parts) =
        let nothing : next_symbol [] ≡ Some (v, t) = ap next_symbol (sym e ∙ parts) ∙ symbol_read front v t is in absurd (nothing_begins v t nothing)
symbols_same s _ vs (symbol_and {s = front} {t} {u} {us} is more parts) q =
    let b = symbols_behind s u t vs (ap next_symbol parts ∙ symbol_read front u t is) q in
    ap (λ l. u ∷ l) (symbols_same t us b.more more b.are) ∙ sym b.parts

-- ---- the symbols of a text, one after the other

front_there : (s : List ℕ) (u : Symbol) → IsSymbol s u → 0 < length s
front_there _ _ (itself other) = omega arith
front_there _ _ (short e) = omega arith
front_there _ _ (has_property name e parts) = rw parts (omega arith)
front_there _ _ (has_not name e parts) = rw parts (omega arith)

pub symbol_shortens : (s : List ℕ) (u : Symbol) (rest : List ℕ) → next_symbol s ≡ Some (u, rest) → length rest < length s
symbol_shortens s u rest e =
    let b = symbol_begins s u rest e in
    omega (arith, front_there b.front u b.is, ap length b.parts, length-append b.front rest)

pub record Rest (before : List Symbol) (rest : List ℕ) (us : List Symbol) : Type 0 where
  pub more : List Symbol
  pub are : AreSymbols rest more
  pub parts : us ≡ before ++ more

-- these symbols are those of the text up to this rest
pub record Joined (text : List ℕ) (before : List Symbol) (rest : List ℕ) : Type 0 where
  pub goes : (us : List Symbol) → AreSymbols rest us → AreSymbols text (before ++ us)
  pub back : (us : List Symbol) → AreSymbols text us → Rest before rest us

pub joined_start : (text : List ℕ) → Joined text [] text
joined_start text = record { goes = λ us a. a; back = λ us a. record { more = us; are = a; parts = refl } }

pub joined_next : (text : List ℕ) (before : List Symbol) (rest : List ℕ) (u : Symbol) (after : List ℕ) → next_symbol rest ≡ Some (u, after)
    → Joined text before rest → Joined text (before ++ u ∷ []) after
joined_next text before rest u after e j =
    record {
      goes = λ us a. subst (AreSymbols text) (sym (append_assoc before (u ∷ []) us)) (j.goes (u ∷ us) (symbol_in_front rest u after us e a));
      back = λ us a.
          let r = j.back us a in
          let b = symbols_behind rest u after r.more e r.are in
          record { more = b.more; are = b.are; parts = r.parts ∙ ap (λ l. before ++ l) b.parts ∙ sym (append_assoc before (u ∷ []) b.more) };
    }

pub joined_end : (text : List ℕ) (before : List Symbol) (rest : List ℕ) → length rest ≡ 0 → Joined text before rest → AreSymbols text before
joined_end text before [] e j = subst (AreSymbols text) (append-nil before) (j.goes [] no_symbols)
joined_end text before (c ∷ rest) e j = absurd (omega (arith, e))

pub joined_stuck : (text : List ℕ) (before : List Symbol) (rest : List ℕ) → 0 < length rest → next_symbol rest ≡ None → Joined text before rest → HasNoSymbols text
joined_stuck text before [] some e j us a = absurd (omega (arith, some))
joined_stuck text before (c ∷ rest) some e j us a = let r = j.back us a in no_symbols_of (c ∷ rest) (λ n. cc) e r.more r.are
