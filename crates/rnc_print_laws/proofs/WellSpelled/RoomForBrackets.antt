-- Well spelled tokens, and the room for brackets that they leave: an opening bracket takes one place, a closing one
-- gives one back.
use Rattle.std.proofs.Common.{◌≡◌, ◌∙◌, refl, sym, subst, ap, ℕ, suc, ◌+◌, ◌-◌, ◌≤◌, arith, Bool, true, false, cond}
use Rattle.std.proofs.Common.{List, [], ◌∷◌, ◌++◌, Some}
use Rattle.std.specs.Prelude.{take}
use Rattle.std.specs.List.{AllByRecursion, count_by}
use Rattle.std.proofs.lemmas.List.Sums.{sum_by-cons}
use Rattle.std.proofs.lemmas.Option.{same_Some, none-some}
use Rattle.rng_model.proofs.Truths.{no_truth}
use Rattle.rng_model.specs.simple.Tree.{Connector}
use Rattle.rng_model.specs.declared.method.Method.{Method}
use Rattle.rnc_model.specs.declared.token.Keyword.{Keyword}
use Rattle.rnc_model.specs.declared.token.Keyword.TheVariants as keywords
use Rattle.rnc_model.specs.declared.token.Sign.{Sign}
use Rattle.rnc_model.specs.declared.token.Sign.TheVariants.{Equal, BarEqual, AndEqual, Comma, Bar, And, OpenBrace, CloseBrace}
use Rattle.rnc_model.specs.declared.token.Sign.TheVariants.{OpenParenthesis, CloseParenthesis}
use Rattle.rnc_model.specs.grammar.NameClasses.{word_of, type_of, method_of, connector_of, is_bracket}
use Rattle.rnc_model.specs.tokens.Cut.{Lexeme, Spelling, keyword, identifier, cname, ns_name, segment, sign}
use Rattle.rnc_model.specs.grammar.Sentence.{is_opening, is_closing, NestsWithin}
use Rattle.rnc_model.specs.grammar.Syntax.{written, DatatypeName, string_type, token_type, prefixed_type}
use Rattle.rnc_print_laws.specs.plain.Printable.{IsText, IsName}

-- the words of a token are NCNames, and its text is made of Chars
abbrev pub IsWellSpelled : Lexeme → Type 0
IsWellSpelled (keyword k s) = IsName s.text
IsWellSpelled (identifier w) = IsName w
IsWellSpelled (cname p l) = IsName p × IsName l
IsWellSpelled (ns_name p) = IsName p
IsWellSpelled (segment w) = IsText w
IsWellSpelled (sign s) = Unit {0}

-- the room after a token satisfies P
abbrev pub Behind : Lexeme → ℕ → (ℕ → Type 0) → Type 0
Behind (sign OpenBrace) r P = (m : ℕ) × (r ≡ suc m) × P m
Behind (sign OpenParenthesis) r P = (m : ℕ) × (r ≡ suc m) × P m
Behind (sign CloseBrace) r P = P (suc r)
Behind (sign CloseParenthesis) r P = P (suc r)
Behind _ r P = P r

-- well spelled tokens lead from one room to another
abbrev pub Leads : List Lexeme → ℕ → ℕ → Type 0
Leads [] r e = e ≡ r
Leads (x ∷ ts) r e = IsWellSpelled x × Behind x r (λ m. Leads ts m e)

-- the tokens keep the room, and P holds
pub record Keeps (ts : List Lexeme) (r : ℕ) (P : Type 0) : Type 0 where
  pub keeps : (e : ℕ) → Leads ts r e → (e ≡ r) × P

-- ---- parts

behind_parts : (x : Lexeme) (r : ℕ) (P R : ℕ → Type 0) (Q : ℕ → ℕ → Type 0) → ((m : ℕ) → P m → (k : ℕ) × Q m k × R k) → Behind x r P
    → (k : ℕ) × Behind x r (λ m. Q m k) × R k
behind_parts (sign OpenBrace) r P R Q f h = let a = f h.0 h.2 in (a.0, (h.0, h.1, a.1), a.2)
behind_parts (sign OpenParenthesis) r P R Q f h = let a = f h.0 h.2 in (a.0, (h.0, h.1, a.1), a.2)
behind_parts (sign CloseBrace) r P R Q f h = f (suc r) h
behind_parts (sign CloseParenthesis) r P R Q f h = f (suc r) h
behind_parts _ r P R Q f h = f r h

leads_parts : (xs ys : List Lexeme) (r e : ℕ) → Leads (xs ++ ys) r e → (m : ℕ) × Leads xs r m × Leads ys m e
leads_parts [] ys r e h = (r, refl, h)
leads_parts (x ∷ xs) ys r e h =
    let a = behind_parts x r (λ m. Leads (xs ++ ys) m e) (λ k. Leads ys k e) (λ m k. Leads xs m k) (λ m i. leads_parts xs ys m e i) h.1 in
    (a.0, (h.0, a.1), a.2)

pub both : {xs ys : List Lexeme} {r : ℕ} {P Q : Type 0} → Keeps xs r P → Keeps ys r Q → Keeps (xs ++ ys) r (P × Q)
both {xs} {ys} {r} f g = record {
  keeps = λ e h.
      let a = leads_parts xs ys r e h in
      let p = f.keeps a.0 a.1 in
      let q = g.keeps e (subst (λ (m : ℕ). Leads ys m e) p.0 a.2) in
      (q.0, (p.1, q.1));
}

pub in_braces : {xs : List Lexeme} {r : ℕ} {P : Type 0} → ((m : ℕ) → r ≡ suc m → Keeps xs m P) → Keeps (sign OpenBrace ∷ (xs ++ sign CloseBrace ∷ [])) r P
in_braces {xs} {r} f = record {
  keeps = λ e h.
      let a = leads_parts xs (sign CloseBrace ∷ []) h.1.0 e h.1.2 in
      let p = (f h.1.0 h.1.1).keeps a.0 a.1 in
      (a.2.1 ∙ ap (λ (n : ℕ). suc n) p.0 ∙ sym h.1.1, p.1);
}

pub in_parentheses : {xs : List Lexeme} {r : ℕ} {P : Type 0} → ((m : ℕ) → r ≡ suc m → Keeps xs m P)
    → Keeps (sign OpenParenthesis ∷ (xs ++ sign CloseParenthesis ∷ [])) r P
in_parentheses {xs} {r} f = record {
  keeps = λ e h.
      let a = leads_parts xs (sign CloseParenthesis ∷ []) h.1.0 e h.1.2 in
      let p = (f h.1.0 h.1.1).keeps a.0 a.1 in
      (a.2.1 ∙ ap (λ (n : ℕ). suc n) p.0 ∙ sym h.1.1, p.1);
}

pub at : {ts us : List Lexeme} {r : ℕ} {P : Type 0} → ts ≡ us → Keeps us r P → Keeps ts r P
at {ts} {us} {r} {P} e k = subst (λ (xs : List Lexeme). Keeps xs r P) (sym e) k

pub nothing : {r : ℕ} → Keeps [] r (Unit {0})
nothing = record { keeps = λ e h. (h, tt) }

pub so : {ts : List Lexeme} {r : ℕ} {P Q : Type 0} → (P → Q) → Keeps ts r P → Keeps ts r Q
so f k = record { keeps = λ e h. let p = k.keeps e h in (p.0, f p.1) }

-- ---- single tokens

pub past_keyword : {ts : List Lexeme} {r : ℕ} {P : Type 0} {k : Keyword} {s : Spelling} → Keeps ts r P → Keeps (keyword k s ∷ ts) r P
past_keyword f = record { keeps = λ e h. f.keeps e h.1 }

pub past_identifier : {ts : List Lexeme} {r : ℕ} {P : Type 0} {w : List ℕ} → Keeps ts r P → Keeps (identifier w ∷ ts) r (IsName w × P)
past_identifier f = record { keeps = λ e h. let p = f.keeps e h.1 in (p.0, (h.0, p.1)) }

pub past_name : {ts : List Lexeme} {r : ℕ} {P : Type 0} {p l : List ℕ} → Keeps ts r P → Keeps (cname p l ∷ ts) r (IsName l × P)
past_name f = record { keeps = λ e h. let q = f.keeps e h.1 in (q.0, (h.0.1, q.1)) }

pub past_ns : {ts : List Lexeme} {r : ℕ} {P : Type 0} {p : List ℕ} → Keeps ts r P → Keeps (ns_name p ∷ ts) r P
past_ns f = record { keeps = λ e h. f.keeps e h.1 }

pub past_segment : {ts : List Lexeme} {r : ℕ} {P : Type 0} {w : List ℕ} → Keeps ts r P → Keeps (segment w ∷ ts) r (IsText w × P)
past_segment f = record { keeps = λ e h. let p = f.keeps e h.1 in (p.0, (h.0, p.1)) }

pub past_word : {ts : List Lexeme} {r : ℕ} {P : Type 0} (x : Lexeme) {w : List ℕ} → word_of x ≡ Some w → Keeps ts r P → Keeps (x ∷ ts) r (IsName w × P)
past_word (keyword k s) i f = record { keeps = λ e h. let p = f.keeps e h.1 in (p.0, (subst IsName (same_Some _ _ i) h.0, p.1)) }
past_word (identifier v) i f = record { keeps = λ e h. let p = f.keeps e h.1 in (p.0, (subst IsName (same_Some _ _ i) h.0, p.1)) }
past_word (cname p l) i f = absurd (none-some _ i)
past_word (ns_name p) i f = absurd (none-some _ i)
past_word (segment v) i f = absurd (none-some _ i)
past_word (sign s) i f = absurd (none-some _ i)

-- the name of a datatype has an NCName after its prefix
abbrev pub IsWellSpelledName : DatatypeName written → Type 0
IsWellSpelledName string_type = Unit {0}
IsWellSpelledName token_type = Unit {0}
IsWellSpelledName (prefixed_type p l) = IsName l

pub past_type : {ts : List Lexeme} {r : ℕ} {P : Type 0} (x : Lexeme) {d : DatatypeName written} → type_of x ≡ Some d → Keeps ts r P
    → Keeps (x ∷ ts) r (IsWellSpelledName d × P)
past_type (cname p l) i f = record { keeps = λ e h. let q = f.keeps e h.1 in (q.0, (subst IsWellSpelledName (same_Some _ _ i) h.0.1, q.1)) }
past_type (keyword keywords.String s) i f = record { keeps = λ e h. let q = f.keeps e h.1 in (q.0, (subst IsWellSpelledName (same_Some _ _ i) tt, q.1)) }
past_type (keyword keywords.Token s) i f = record { keeps = λ e h. let q = f.keeps e h.1 in (q.0, (subst IsWellSpelledName (same_Some _ _ i) tt, q.1)) }
past_type _ i f = absurd (none-some _ i)

pub past_method : {ts : List Lexeme} {r : ℕ} {P : Type 0} (x : Lexeme) {m : Method} → method_of x ≡ Some m → Keeps ts r P → Keeps (x ∷ ts) r P
past_method (sign Equal) i f = record { keeps = λ e h. f.keeps e h.1 }
past_method (sign BarEqual) i f = record { keeps = λ e h. f.keeps e h.1 }
past_method (sign AndEqual) i f = record { keeps = λ e h. f.keeps e h.1 }
past_method _ i f = absurd (none-some _ i)

pub past_connector : {ts : List Lexeme} {r : ℕ} {P : Type 0} (s : Sign) {k : Connector} → connector_of s ≡ Some k → Keeps ts r P → Keeps (sign s ∷ ts) r P
past_connector Comma i f = record { keeps = λ e h. f.keeps e h.1 }
past_connector And i f = record { keeps = λ e h. f.keeps e h.1 }
past_connector Bar i f = record { keeps = λ e h. f.keeps e h.1 }
past_connector _ i f = absurd (none-some _ i)

-- a sign that is not a brace or a parenthesis
abbrev IsPlain : Sign → Type 0
IsPlain OpenBrace = ⊥
IsPlain CloseBrace = ⊥
IsPlain OpenParenthesis = ⊥
IsPlain CloseParenthesis = ⊥
IsPlain _ = Unit {0}

pub past_sign : {ts : List Lexeme} {r : ℕ} {P : Type 0} (s : Sign) → IsPlain s → Keeps ts r P → Keeps (sign s ∷ ts) r P
past_sign OpenBrace i f = absurd i
past_sign CloseBrace i f = absurd i
past_sign OpenParenthesis i f = absurd i
past_sign CloseParenthesis i f = absurd i
past_sign _ i f = record { keeps = λ e h. f.keeps e h.1 }

pub past_other : {ts : List Lexeme} {r : ℕ} {P : Type 0} (x : Lexeme) → is_bracket x ≡ false → Keeps ts r P → Keeps (x ∷ ts) r P
past_other (sign OpenBrace) i f = no_truth (sym i)
past_other (sign CloseBrace) i f = no_truth (sym i)
past_other (sign OpenParenthesis) i f = no_truth (sym i)
past_other (sign CloseParenthesis) i f = no_truth (sym i)
past_other _ i f = record { keeps = λ e h. f.keeps e h.1 }

-- ---- tokens that nest within a limit have that much room

counted : (p : Lexeme → Bool) (x : Lexeme) (xs : List Lexeme) → p x ≡ true → count_by p (x ∷ xs) ≡ 1 + count_by p xs
counted p x xs e = sum_by-cons (λ y. cond (p y) 1 0) x xs ∙ ap (λ (b : Bool). cond b 1 0 + count_by p xs) e

uncounted : (p : Lexeme → Bool) (x : Lexeme) (xs : List Lexeme) → p x ≡ false → count_by p (x ∷ xs) ≡ 0 + count_by p xs
uncounted p x xs e = sum_by-cons (λ y. cond (p y) 1 0) x xs ∙ ap (λ (b : Bool). cond b 1 0 + count_by p xs) e

one_less : (r : ℕ) → 1 ≤ r → r ≡ suc (r - 1)
one_less r h = omega (arith, h)

nests_opened : (x : Lexeme) (r : ℕ) (ts : List Lexeme) → is_opening x ≡ true → is_closing x ≡ false → NestsWithin r (x ∷ ts)
    → (m : ℕ) × (r ≡ suc m) × NestsWithin m ts
nests_opened x r ts o c n =
    let first : 1 ≤ r = (let h = n 1 in let a = counted is_opening x [] o in let b = uncounted is_closing x [] c in omega (arith, h, a, b)) in (
      r - 1,
      one_less r first,
      λ k.
          let h = n (suc k) in
          let a = counted is_opening x (take k ts) o in
          let b = uncounted is_closing x (take k ts) c in
          omega (arith, h, a, b, first),
    )

nests_closed : (x : Lexeme) (r : ℕ) (ts : List Lexeme) → is_opening x ≡ false → is_closing x ≡ true → NestsWithin r (x ∷ ts) → NestsWithin (suc r) ts
nests_closed x r ts o c n = λ k.
    let h = n (suc k) in
    let a = uncounted is_opening x (take k ts) o in
    let b = counted is_closing x (take k ts) c in
    omega (arith, h, a, b)

nests_past : (x : Lexeme) (r : ℕ) (ts : List Lexeme) → is_opening x ≡ false → is_closing x ≡ false → NestsWithin r (x ∷ ts) → NestsWithin r ts
nests_past x r ts o c n = λ k.
    let h = n (suc k) in
    let a = uncounted is_opening x (take k ts) o in
    let b = uncounted is_closing x (take k ts) c in
    omega (arith, h, a, b)

pub fits : (ts : List Lexeme) (r : ℕ) → AllByRecursion IsWellSpelled ts → NestsWithin r ts → (e : ℕ) × Leads ts r e
fits [] r h n = (r, refl)
fits (sign OpenBrace ∷ ts) r h n = let o = nests_opened (sign OpenBrace) r ts refl refl n in let f = fits ts o.0 h.1 o.2 in (f.0, (tt, (o.0, o.1, f.1)))
fits (sign OpenParenthesis ∷ ts) r h n =
    let o = nests_opened (sign OpenParenthesis) r ts refl refl n in let f = fits ts o.0 h.1 o.2 in (f.0, (tt, (o.0, o.1, f.1)))
fits (sign CloseBrace ∷ ts) r h n = let f = fits ts (suc r) h.1 (nests_closed (sign CloseBrace) r ts refl refl n) in (f.0, (tt, f.1))
fits (sign CloseParenthesis ∷ ts) r h n = let f = fits ts (suc r) h.1 (nests_closed (sign CloseParenthesis) r ts refl refl n) in (f.0, (tt, f.1))
fits (x ∷ ts) r h n = let f = fits ts r h.1 (nests_past x r ts refl refl n) in (f.0, (h.0, f.1))
