-- A piece at the front is no longer than what is found there, and is the same if it is as long.
use Rattle.std.proofs.Common.{◌≡◌, ℕ, ◌<◌, ◌≤◌, Bool, true, false, eqb, ◌⊎◌, inl, inr, List, [], ◌∷◌, ◌++◌, length, Option, Some, None, refl, sym, ap, subst}
use Rattle.std.proofs.Common.{◌∙◌, append_assoc, arith}
use Rattle.std.specs.Prelude.{not, ◌||◌}
use Rattle.std.specs.List.{list_all}
use Rattle.std.specs.Str.{bytes_eq}
use Rattle.std.proofs.lemmas.Bool.{eqb-true, eqb-false, ne_eqb, and_parts, or_parts, or_cases, cases_Bool, not-true, false≢true}
use Rattle.std.proofs.lemmas.List.{length-append, append-nil}
use Rattle.std.proofs.lemmas.Option.{none-some, same_Some, some_pair_parts}
use Rattle.rng_model.proofs.Truths.{chosen, number_itself}
use Rattle.rng_model.proofs.Texts.{bytes_same}
use Rattle.rnc_model.specs.declared.character.Character.{Character}
use Rattle.rnc_model.specs.declared.character.Character.TheVariants.{LineEnd, Ordinary}
use Rattle.rnc_text.specs.declared.scanning.Class.TheVariants as classes
use Rattle.rnc_model.specs.declared.token.Sign.{Sign}
use Rattle.rnc_model.specs.declared.token.TokenKind.{TokenKind}
use Rattle.rnc_model.specs.declared.token.TokenKind.TheVariants as kinds
use Rattle.rnc_model.specs.characters.Decoding.{number_of, numbers_of}
use Rattle.rnc_model.specs.tokens.Tokens as spec
use Rattle.rnc_model.specs.tokens.Tokens.{Piece, gap, token, characters_in, IsGapOrToken, IsNcname, IsUpToThree, is_blank_character}
use Rattle.rnc_model.specs.tokens.Tokens.{is_quote, word_kind}
use Rattle.rnc_model.specs.tokens.Tokens.{sign_of, sign_table, look_up, three}
use Rattle.rnc_text.specs.plain.CutSteps.{Found, is_in, front, after, first_of, behind, behind_two, until_three, begins_ncname, starts_ncname, local_at}
use Rattle.rnc_text.specs.plain.CutSteps.{star_at}
use Rattle.rnc_text.specs.plain.CutSteps.{colon_at, name_at, segment_at, triple_with, triple_in, triple_at, or_else, signed, long_sign, piece_of}
use Rattle.rnc_text.proofs.CharacterClasses.{AllIn, front_out, after_out, front_append, after_append, name_of, name_all, name_begins}
use Rattle.rnc_text.proofs.QuoteRuns.{behind_is, two_parts, until_is}
use Rattle.rnc_text.proofs.ScanResults.{IsOther, piece_line, piece_name, piece_blank, piece_hash, piece_backslash, piece_quote, piece_sign, name_colon}
use Rattle.rnc_text.proofs.ScanResults.{quoted_name}
use Rattle.rnc_text.proofs.ScanResults.{segment_some, triple_some, name_found}

-- the piece is shorter than what was found, or it is what was found
abbrev pub Covered : Piece → Found → Type 0
Covered q None = ⊥
Covered q (Some x) = (length (characters_in q) < length (characters_in x.0)) ⊎ (q ≡ x.0)

covered_by : (q : Piece) (a b : Found) → a ≡ b → Covered q b → Covered q a
covered_by q a b e h = subst (Covered q) (sym e) h

exact : (q : Piece) (rest : List Character) (found : Found) → found ≡ Some (q, rest) → Covered q found
exact q rest found e = covered_by q found (Some (q, rest)) e (inr refl)

shorter : (q p : Piece) (rest : List Character) (found : Found) → found ≡ Some (p, rest) → length (characters_in q) < length (characters_in p) → Covered q found
shorter q p rest found e lt = covered_by q found (Some (p, rest)) e (inl lt)

-- ---- names

-- a word before more name characters
word_more : (name more rest : List Character) (found : Found) → found ≡ Some (token (word_kind (name ++ more)) (name ++ more) (name ++ more), rest)
    → Covered (token (word_kind name) name name) found
word_more name [] rest found e = exact _ rest found (e ∙ ap (λ (x : List Character). Some (token (word_kind x) x x, rest)) (append-nil name))
word_more name (c ∷ more) rest found e = let all = name ++ c ∷ more in
    shorter (token (word_kind name) name name) (token (word_kind all) all all) rest found e (omega (arith, length-append name (c ∷ more)))

local_covers : (name more rest local : List Character) (found : Found) → found ≡ local_at (name ++ more) rest local
    → Covered (token (word_kind name) name name) found
local_covers name more rest local found e =
    elim (cases_Bool (begins_ncname local)) [
      | inl h ↦ let all = (name ++ more) ++ Ordinary 0x3A ∷ front classes.Ncname local in
          shorter (token (word_kind name) name name) (token kinds.CName all all) (after classes.Ncname local) found (e ∙ rw h refl)
          (omega (arith, length-append name more, length-append (name ++ more) (Ordinary 0x3A ∷ front classes.Ncname local)))
      | inr h ↦ word_more name more rest found (e ∙ rw h refl)
    ]

star_covers : (name more rest local : List Character) (o : Option (List Character)) (found : Found) → found ≡ star_at (name ++ more) rest local o
    → Covered (token (word_kind name) name name) found
star_covers name more rest local None found e = local_covers name more rest local found e
star_covers name more rest local (Some end) found e = let all = (name ++ more) ++ Ordinary 0x3A ∷ Ordinary 0x2A ∷ [] in
    shorter (token (word_kind name) name name) (token kinds.NsName all all) end found e
    (omega (arith, length-append name more, length-append (name ++ more) (Ordinary 0x3A ∷ Ordinary 0x2A ∷ [])))

colon_covers : (name more rest : List Character) (o : Option (List Character)) (found : Found) → found ≡ colon_at (name ++ more) rest o
    → Covered (token (word_kind name) name name) found
colon_covers name more rest None found e = word_more name more rest found e
colon_covers name more rest (Some local) found e = star_covers name more rest local (behind 0x2A local) found e

-- characters that begin with an NCName are a name
pub named : (name rest : List Character) → IsNcname name → piece_of (name ++ rest) ≡ name_at (name ++ rest)
named name rest h = let n = name_of name h in piece_name n.first (name ++ rest) (n.more ++ rest) (ap (λ (x : List Character). x ++ rest) n.is) n.starts

word_covers : (name rest : List Character) → IsNcname name → Covered (token (word_kind name) name name) (piece_of (name ++ rest))
word_covers name rest h =
    colon_covers name (front classes.Ncname rest) (after classes.Ncname (name ++ rest)) (behind 0x3A (after classes.Ncname (name ++ rest)))
    (piece_of (name ++ rest))
    (named name rest h ∙ name_found (name ++ rest)
    ∙ ap (λ (x : List Character). colon_at x (after classes.Ncname (name ++ rest)) (behind 0x3A (after classes.Ncname (name ++ rest))))
    (front_append classes.Ncname name rest (name_all name h)))

-- a name that a colon follows
pub prefixed : (name local : List Character) → IsNcname name
    → piece_of (name ++ Ordinary 0x3A ∷ local) ≡ star_at name (Ordinary 0x3A ∷ local) local (behind 0x2A local)
prefixed name local h =
    let tail = Ordinary 0x3A ∷ local in
    let a : after classes.Ncname (name ++ tail) ≡ tail = after_append classes.Ncname name tail (name_all name h)
    ∙ after_out classes.Ncname (Ordinary 0x3A) local refl in
    let f : front classes.Ncname (name ++ tail) ≡ name = front_append classes.Ncname name tail (name_all name h)
    ∙ ap (λ (x : List Character). name ++ x) (front_out classes.Ncname (Ordinary 0x3A) local refl) ∙ append-nil name in
    named name tail h ∙ name_colon (name ++ tail) tail local (sym a) refl ∙ ap (λ (x : List Character). star_at x tail local (behind 0x2A local)) f

cname_more : (name local more rest : List Character) (found : Found)
    → found ≡ Some (token kinds.CName (name ++ Ordinary 0x3A ∷ (local ++ more)) (name ++ Ordinary 0x3A ∷ (local ++ more)), rest)
    → Covered (token kinds.CName (name ++ Ordinary 0x3A ∷ local) (name ++ Ordinary 0x3A ∷ local)) found
cname_more name local [] rest found e =
    exact _ rest found
    (e ∙ ap (λ (x : List Character). Some (token kinds.CName (name ++ Ordinary 0x3A ∷ x) (name ++ Ordinary 0x3A ∷ x), rest)) (append-nil local))
cname_more name local (c ∷ more) rest found e = let all = name ++ Ordinary 0x3A ∷ local in let longer = name ++ Ordinary 0x3A ∷ (local ++ c ∷ more) in
    shorter (token kinds.CName all all) (token kinds.CName longer longer) rest found e
    (omega (arith, length-append name (Ordinary 0x3A ∷ local), length-append name (Ordinary 0x3A ∷ (local ++ c ∷ more)), length-append local (c ∷ more)))

pub no_star : (name rest : List Character) → IsNcname name → behind 0x2A (name ++ rest) ≡ None
no_star name rest h =
    let n = name_of name h in
    let e : eqb n.first 0x2A ≡ false = ne_eqb _ _ (λ e. false≢true (subst (λ (c : ℕ). starts_ncname c ≡ true) e n.starts)) in
    ap (λ (x : List Character). behind 0x2A (x ++ rest)) n.is ∙ rw e refl

cname_covers : (name local rest : List Character) → IsNcname name → IsNcname local
    → Covered (token kinds.CName (name ++ Ordinary 0x3A ∷ local) (name ++ Ordinary 0x3A ∷ local)) (piece_of (name ++ Ordinary 0x3A ∷ (local ++ rest)))
cname_covers name local rest h g =
    let all = local ++ rest in
    cname_more name local (front classes.Ncname rest) (after classes.Ncname all) _
    (prefixed name all h ∙ ap (star_at name (Ordinary 0x3A ∷ all) all) (no_star local rest g) ∙ begun (begins_ncname all) refl (name_begins local rest g)
    ∙ ap (λ (x : List Character). Some (token kinds.CName (name ++ Ordinary 0x3A ∷ x) (name ++ Ordinary 0x3A ∷ x), after classes.Ncname all))
    (front_append classes.Ncname local rest (name_all local g)))
  where
    begun : (b : Bool) → begins_ncname (local ++ rest) ≡ b → b ≡ true
        → local_at name (Ordinary 0x3A ∷ (local ++ rest)) (local ++ rest)
        ≡ Some (
          token kinds.CName (name ++ Ordinary 0x3A ∷ front classes.Ncname (local ++ rest))
              (name ++ Ordinary 0x3A ∷ front classes.Ncname (local ++ rest)),
          after classes.Ncname (local ++ rest),
        )
    begun b e f = rw (e ∙ f) refl

nsname_covers : (name rest : List Character) → IsNcname name
    → Covered (token kinds.NsName (name ++ Ordinary 0x3A ∷ Ordinary 0x2A ∷ []) (name ++ Ordinary 0x3A ∷ Ordinary 0x2A ∷ []))
    (piece_of (name ++ Ordinary 0x3A ∷ Ordinary 0x2A ∷ rest))
nsname_covers name rest h = exact _ rest _ (prefixed name (Ordinary 0x2A ∷ rest) h)

quoted_more : (name more rest : List Character) (found : Found)
    → found ≡ Some (token kinds.QuotedIdentifier (name ++ more) (Ordinary 0x5C ∷ (name ++ more)), rest)
    → Covered (token kinds.QuotedIdentifier name (Ordinary 0x5C ∷ name)) found
quoted_more name [] rest found e =
    exact _ rest found (e ∙ ap (λ (x : List Character). Some (token kinds.QuotedIdentifier x (Ordinary 0x5C ∷ x), rest)) (append-nil name))
quoted_more name (c ∷ more) rest found e = let all = name ++ c ∷ more in
    shorter (token kinds.QuotedIdentifier name (Ordinary 0x5C ∷ name)) (token kinds.QuotedIdentifier all (Ordinary 0x5C ∷ all)) rest found e
    (omega (arith, length-append name (c ∷ more)))

quoted_covers : (name rest : List Character) → IsNcname name
    → Covered (token kinds.QuotedIdentifier name (Ordinary 0x5C ∷ name)) (piece_of (Ordinary 0x5C ∷ (name ++ rest)))
quoted_covers name rest h =
    quoted_more name (front classes.Ncname rest) (after classes.Ncname (name ++ rest)) _
    (piece_backslash 0x5C _ (name ++ rest) refl refl ∙ quoted_name (name ++ rest) _ (name_begins name rest h) refl
    ∙ ap (λ (x : List Character). Some (token kinds.QuotedIdentifier x (Ordinary 0x5C ∷ x), after classes.Ncname (name ++ rest)))
    (front_append classes.Ncname name rest (name_all name h)))

-- ---- gaps

blank_covers : (c : Character) (rest : List Character) → is_blank_character c ≡ true → Covered (gap (c ∷ [])) (piece_of (c ∷ rest))
blank_covers LineEnd rest h = exact _ rest _ (piece_line _ rest refl)
blank_covers (Ordinary c) rest h = exact _ rest _ (piece_blank c _ rest refl (either (or_cases (eqb c 0x20) (eqb c 0x9) h)))
  where
    either : (eqb c 0x20 ≡ true) ⊎ (eqb c 0x9 ≡ true) → (c ≡ 0x9) ⊎ (c ≡ 0x20)
    either (inl e) = inr (eqb-true c 0x20 e)
    either (inr e) = inl (eqb-true c 0x9 e)

comment_more : (cs more rest : List Character) (found : Found) → found ≡ Some (gap (Ordinary 0x23 ∷ (cs ++ more)), rest)
    → Covered (gap (Ordinary 0x23 ∷ cs)) found
comment_more cs [] rest found e = exact _ rest found (e ∙ ap (λ (x : List Character). Some (gap (Ordinary 0x23 ∷ x), rest)) (append-nil cs))
comment_more cs (c ∷ more) rest found e =
    shorter (gap (Ordinary 0x23 ∷ cs)) (gap (Ordinary 0x23 ∷ (cs ++ c ∷ more))) rest found e (omega (arith, length-append cs (c ∷ more)))

comment_covers : (cs rest : List Character) → AllIn classes.Line cs → Covered (gap (Ordinary 0x23 ∷ cs)) (piece_of (Ordinary 0x23 ∷ (cs ++ rest)))
comment_covers cs rest h =
    comment_more cs (front classes.Line rest) (after classes.Line (cs ++ rest)) _
    (piece_hash 0x23 _ (cs ++ rest) refl refl
    ∙ ap (λ (x : List Character). Some (gap (Ordinary 0x23 ∷ x), after classes.Line (cs ++ rest))) (front_append classes.Line cs rest h))

-- ---- segments

pub quote_cases : (c : ℕ) → is_quote c ≡ true → (c ≡ 0x22) ⊎ (c ≡ 0x27)
quote_cases c h = elim (or_cases (eqb c 0x22) (eqb c 0x27) h) [ inl e ↦ inl (eqb-true c 0x22 e) | inr e ↦ inr (eqb-true c 0x27 e) ]

segment_found : (c : ℕ) (content rest : List Character) → AllIn (classes.Segment c) content
    → segment_at c (content ++ Ordinary c ∷ rest) ≡ Some (token kinds.Segment content (Ordinary c ∷ (content ++ Ordinary c ∷ [])), rest)
segment_found c content rest h =
    let tail = Ordinary c ∷ rest in
    let no : is_in (classes.Segment c) (Ordinary c) ≡ false = rw (number_itself c) refl in
    let a : after (classes.Segment c) (content ++ tail) ≡ tail = after_append (classes.Segment c) content tail h
    ∙ after_out (classes.Segment c) (Ordinary c) rest no in
    let f : front (classes.Segment c) (content ++ tail) ≡ content = front_append (classes.Segment c) content tail h
    ∙ ap (λ (x : List Character). content ++ x) (front_out (classes.Segment c) (Ordinary c) rest no) ∙ append-nil content in
    segment_some c (content ++ tail) tail rest (sym a) (behind_is c rest)
    ∙ ap (λ (x : List Character). Some (token kinds.Segment x (Ordinary c ∷ (x ++ Ordinary c ∷ [])), rest)) f

-- content before a quote, if the text begins with that quote, is empty
no_content : (c : ℕ) (content rest inside : List Character) → AllIn (classes.Segment c) content → content ++ Ordinary c ∷ rest ≡ Ordinary c ∷ inside
    → content ≡ []
no_content c [] rest inside h e = refl
no_content c (LineEnd ∷ content) rest inside h e = absurd (false≢true h)
no_content c (Ordinary d ∷ content) rest inside h e =
    let same : Ordinary d ≡ Ordinary c = cc in
    let d-is : d ≡ c = cc in
    let p = and_parts (is_in (classes.Segment c) (Ordinary d)) (list_all (is_in (classes.Segment c)) content) h in
    absurd (false≢true (sym (rw (number_itself c) refl) ∙ subst (λ (d : ℕ). not (eqb d c) ≡ true) d-is p.0))

-- a triple segment found after a quote begins with two more quotes and is long
record IsLong (c : ℕ) (cs : List Character) (x : Piece × List Character) : Type 0 where
  pub inside : List Character
  pub opened : cs ≡ Ordinary c ∷ inside
  pub long : 6 ≤ length (characters_in x.0)

long_with : (c : ℕ) (cs inside : List Character) (o : Option (List Character × List Character)) (x : Piece × List Character)
    → cs ≡ Ordinary c ∷ Ordinary c ∷ inside → triple_with c o ≡ Some x → IsLong c cs x
long_with c cs inside None x e f = absurd (none-some _ f)
long_with c cs inside (Some y) x e f =
    subst (λ (x : Piece × List Character). IsLong c cs x) (same_Some _ _ f)
    (record { inside = Ordinary c ∷ inside; opened = e; long = omega (arith, length-append y.0 (three c [])) })

long_in : (c : ℕ) (cs : List Character) (o : Option (List Character)) (x : Piece × List Character) → behind_two c cs ≡ o → triple_in c o ≡ Some x
    → IsLong c cs x
long_in c cs None x b f = absurd (none-some _ f)
long_in c cs (Some inside) x b f = long_with c cs inside (until_three c inside) x (two_parts c cs inside b) f

triple_long : (c : ℕ) (cs : List Character) (x : Piece × List Character) → triple_at c cs ≡ Some x → IsLong c cs x
unfolding triple_at
triple_long c cs x e = long_in c cs _ x refl e

segment_or : (c : ℕ) (content rest : List Character) (a : Found) → AllIn (classes.Segment c) content → triple_at c (content ++ Ordinary c ∷ rest) ≡ a
    → Covered (token kinds.Segment content (Ordinary c ∷ (content ++ Ordinary c ∷ []))) (or_else a (segment_at c (content ++ Ordinary c ∷ rest)))
segment_or c content rest None h e = exact _ rest _ (segment_found c content rest h)
segment_or c content rest (Some x) h e =
    let t = triple_long c (content ++ Ordinary c ∷ rest) x e in
    let none = no_content c content rest _ h t.opened in
    inl (omega (arith, ap length none, length-append content (Ordinary c ∷ []), t.long))

segment_covers : (c : ℕ) (content rest : List Character) → is_quote c ≡ true → AllIn (classes.Segment c) content
    → Covered (token kinds.Segment content (Ordinary c ∷ (content ++ Ordinary c ∷ []))) (piece_of (Ordinary c ∷ (content ++ Ordinary c ∷ rest)))
segment_covers c content rest q h =
    covered_by (token kinds.Segment content (Ordinary c ∷ (content ++ Ordinary c ∷ []))) _ _
    (piece_quote c _ (content ++ Ordinary c ∷ rest) refl (quote_cases c q)) (segment_or c content rest _ h refl)

triple_covers : (c : ℕ) (content rest : List Character) → is_quote c ≡ true → IsUpToThree c content
    → Covered (token kinds.TripleSegment content (three c (content ++ three c []))) (piece_of (three c (content ++ three c rest)))
triple_covers c content rest q h =
    exact _ rest _ (piece_quote c _ (Ordinary c ∷ Ordinary c ∷ (content ++ three c rest)) refl (quote_cases c q)
    ∙ ap (λ (a : Found). or_else a (segment_at c (Ordinary c ∷ Ordinary c ∷ (content ++ three c rest))))
    (triple_some c _ (Ordinary c ∷ (content ++ three c rest)) (content ++ three c rest) content rest (behind_is c _) (behind_is c _)
    (until_is c content rest h)))

-- ---- signs

-- a character that begins a sign
abbrev other_number : ℕ → Bool
other_number n = not (starts_ncname n || (eqb n 0x20 || (eqb n 0x9 || (eqb n 0x23 || (eqb n 0x5C || (eqb n 0x22 || (eqb n 0x27 || eqb n 0xA)))))))

record OtherNumber (n : ℕ) : Type 0 where
  pub other : IsOther n
  pub no_line : eqb n 0xA ≡ false

number_parts : (n : ℕ) → other_number n ≡ true → OtherNumber n
number_parts n e =
    let p1 = or_parts (starts_ncname n) _ (not-true _ e) in
    let p2 = or_parts (eqb n 0x20) _ p1.1 in
    let p3 = or_parts (eqb n 0x9) _ p2.1 in
    let p4 = or_parts (eqb n 0x23) _ p3.1 in
    let p5 = or_parts (eqb n 0x5C) _ p4.1 in
    let p6 = or_parts (eqb n 0x22) _ p5.1 in
    let p7 = or_parts (eqb n 0x27) _ p6.1 in
    record {
      other = record {
        no_name = p1.0;
        no_space = eqb-false n 0x20 p2.0;
        no_tab = eqb-false n 0x9 p3.0;
        no_hash = eqb-false n 0x23 p4.0;
        no_backslash = eqb-false n 0x5C p5.0;
        no_mark = eqb-false n 0x22 p6.0;
        no_apostrophe = eqb-false n 0x27 p7.0;
      };
      no_line = p7.1;
    }

-- the numbers of a sign: one or two; the first begins nothing else
abbrev is_sign_like : List ℕ → Bool
is_sign_like [] = false
is_sign_like (n ∷ []) = other_number n
is_sign_like (n ∷ m ∷ []) = other_number n
is_sign_like (n ∷ m ∷ k ∷ ns) = false

in_table : (ns : List ℕ) (rows : List (List ℕ × Sign)) (s : Sign) → list_all (λ r. is_sign_like r.0) rows ≡ true → look_up ns rows ≡ Some s
    → is_sign_like ns ≡ true
in_table ns [] s all e = absurd (none-some _ e)
in_table ns (row ∷ rows) s all e =
    let p = and_parts (is_sign_like row.0) (list_all (λ r. is_sign_like r.0) rows) all in
    elim (chosen (bytes_eq ns row.0) _ _ _ e) [
      | inl h ↦ subst (λ (x : List ℕ). is_sign_like x ≡ true) (sym (bytes_same ns row.0 h.0)) p.0
      | inr h ↦ in_table ns rows s p.1 h.1
    ]

sign_like : (ns : List ℕ) (s : Sign) → sign_of ns ≡ Some s → is_sign_like ns ≡ true
unfolding sign_of
sign_like ns s e = in_table ns sign_table s refl e

ordinary_first : (c : Character) → other_number (number_of c) ≡ true → (n : ℕ) × (c ≡ Ordinary n) × OtherNumber n
ordinary_first LineEnd e = absurd (false≢true e)
ordinary_first (Ordinary n) e = (n, refl, number_parts n e)

long_or : (n : ℕ) (s : Sign) (rest : List Character) (o : Found) → sign_of (n ∷ []) ≡ Some s
    → ((p : Piece) (r : List Character) → o ≡ Some (p, r) → 1 < length (characters_in p))
    → Covered (token (kinds.Sign s) (Ordinary n ∷ []) (Ordinary n ∷ [])) (or_else o (signed (sign_of (n ∷ [])) (Ordinary n ∷ []) rest))
long_or n s rest None h long = exact _ rest _ (ap (λ (o : Option Sign). signed o (Ordinary n ∷ []) rest) h)
long_or n s rest (Some x) h long = inl (long x.0 x.1 refl)

long_length : (c : Character) (cs : List Character) (p : Piece) (r : List Character) → long_sign c (first_of cs) ≡ Some (p, r) → 1 < length (characters_in p)
long_length c [] p r e = absurd (none-some _ e)
long_length c (d ∷ cs) p r e = go (sign_of (numbers_of (c ∷ d ∷ []))) e
  where
    go : (o : Option Sign) → signed o (c ∷ d ∷ []) cs ≡ Some (p, r) → 1 < length (characters_in p)
    go None e = absurd (none-some _ e)
    go (Some s) e = let s = some_pair_parts _ _ _ _ e in subst (λ (p : Piece). 1 < length (characters_in p)) s.0 (omega arith)

single_covers : (n : ℕ) (s : Sign) (rest : List Character) → OtherNumber n → sign_of (n ∷ []) ≡ Some s
    → Covered (token (kinds.Sign s) (Ordinary n ∷ []) (Ordinary n ∷ [])) (piece_of (Ordinary n ∷ rest))
single_covers n s rest o h =
    covered_by (token (kinds.Sign s) (Ordinary n ∷ []) (Ordinary n ∷ [])) _ _ (piece_sign n _ rest refl o.other)
    (long_or n s rest (long_sign (Ordinary n) (first_of rest)) h (λ p r e. long_length (Ordinary n) rest p r e))

double_covers : (n : ℕ) (d : Character) (s : Sign) (rest : List Character) → OtherNumber n → sign_of (n ∷ number_of d ∷ []) ≡ Some s
    → Covered (token (kinds.Sign s) (Ordinary n ∷ d ∷ []) (Ordinary n ∷ d ∷ [])) (piece_of (Ordinary n ∷ d ∷ rest))
double_covers n d s rest o h =
    let all = Ordinary n ∷ d ∷ [] in
    exact _ rest _
    (piece_sign n _ (d ∷ rest) refl o.other
    ∙ ap (λ (x : Option Sign). or_else (signed x all rest) (signed (sign_of (n ∷ [])) (Ordinary n ∷ []) (d ∷ rest))) h)

sign_covers : (all rest : List Character) (s : Sign) → sign_of (numbers_of all) ≡ Some s → Covered (token (kinds.Sign s) all all) (piece_of (all ++ rest))
sign_covers [] rest s e = absurd (false≢true (sign_like [] s e))
sign_covers (c ∷ []) rest s e =
    let o = ordinary_first c (sign_like (number_of c ∷ []) s e) in
    subst (λ (c : Character). Covered (token (kinds.Sign s) (c ∷ []) (c ∷ [])) (piece_of (c ∷ rest))) (sym o.1)
    (single_covers o.0 s rest o.2 (subst (λ (c : Character). sign_of (number_of c ∷ []) ≡ Some s) o.1 e))
sign_covers (c ∷ d ∷ []) rest s e =
    let o = ordinary_first c (sign_like (number_of c ∷ number_of d ∷ []) s e) in
    subst (λ (c : Character). Covered (token (kinds.Sign s) (c ∷ d ∷ []) (c ∷ d ∷ [])) (piece_of (c ∷ d ∷ rest))) (sym o.1)
    (double_covers o.0 d s rest o.2 (subst (λ (c : Character). sign_of (number_of c ∷ number_of d ∷ []) ≡ Some s) o.1 e))
sign_covers (c ∷ d ∷ f ∷ cs) rest s e = absurd (false≢true (sign_like (number_of c ∷ number_of d ∷ number_of f ∷ numbers_of cs) s e))

-- ---- each piece

at_piece : (q : Piece) (all cs rest : List Character) → cs ≡ characters_in q ++ rest → characters_in q ++ rest ≡ all → Covered q (piece_of all)
    → Covered q (piece_of cs)
at_piece q all cs rest e f h = covered_by q (piece_of cs) (piece_of all) (ap piece_of (e ∙ f)) h

pub covers : {q : Piece} → IsGapOrToken q → (cs rest : List Character) → cs ≡ characters_in q ++ rest → Covered q (piece_of cs)
covers (spec.blank {c} h) cs rest e = at_piece (gap (c ∷ [])) (c ∷ rest) cs rest e refl (blank_covers c rest h)
covers (spec.comment {all} {cs = w} h is) cs rest e =
    subst (λ (x : List Character). cs ≡ x ++ rest → Covered (gap x) (piece_of cs)) (sym is)
    (λ e. at_piece (gap (Ordinary 0x23 ∷ w)) (Ordinary 0x23 ∷ (w ++ rest)) cs rest e refl (comment_covers w rest h)) e
covers (spec.word {kind} {all} h k) cs rest e =
    subst (λ (k : TokenKind). Covered (token k all all) (piece_of cs)) (sym k)
    (at_piece (token (word_kind all) all all) (all ++ rest) cs rest e refl (word_covers all rest h))
covers (spec.quoted_identifier {name} {all} h is) cs rest e =
    subst (λ (x : List Character). cs ≡ x ++ rest → Covered (token kinds.QuotedIdentifier name x) (piece_of cs)) (sym is)
    (λ e. at_piece (token kinds.QuotedIdentifier name (Ordinary 0x5C ∷ name)) (Ordinary 0x5C ∷ (name ++ rest)) cs rest e refl (quoted_covers name rest h)) e
covers (spec.cname {all} prefix local h g is) cs rest e =
    let x = prefix ++ Ordinary 0x3A ∷ local in
    subst (λ (x : List Character). cs ≡ x ++ rest → Covered (token kinds.CName x x) (piece_of cs)) (sym is)
    (λ e. at_piece (token kinds.CName x x) (prefix ++ Ordinary 0x3A ∷ (local ++ rest)) cs rest e (append_assoc prefix (Ordinary 0x3A ∷ local) rest)
    (cname_covers prefix local rest h g)) e
covers (spec.nsname {all} prefix h is) cs rest e =
    let x = prefix ++ Ordinary 0x3A ∷ Ordinary 0x2A ∷ [] in
    subst (λ (x : List Character). cs ≡ x ++ rest → Covered (token kinds.NsName x x) (piece_of cs)) (sym is)
    (λ e. at_piece (token kinds.NsName x x) (prefix ++ Ordinary 0x3A ∷ Ordinary 0x2A ∷ rest) cs rest e
    (append_assoc prefix (Ordinary 0x3A ∷ Ordinary 0x2A ∷ []) rest) (nsname_covers prefix rest h)) e
covers (spec.segment {content} {all} quote q h is) cs rest e =
    let x = Ordinary quote ∷ (content ++ Ordinary quote ∷ []) in
    subst (λ (x : List Character). cs ≡ x ++ rest → Covered (token kinds.Segment content x) (piece_of cs)) (sym is)
    (λ e. at_piece (token kinds.Segment content x) (Ordinary quote ∷ (content ++ Ordinary quote ∷ rest)) cs rest e
    (ap (λ (x : List Character). Ordinary quote ∷ x) (append_assoc content (Ordinary quote ∷ []) rest)) (segment_covers quote content rest q h)) e
covers (spec.triple_segment {content} {all} quote q h is) cs rest e =
    let x = three quote (content ++ three quote []) in
    subst (λ (x : List Character). cs ≡ x ++ rest → Covered (token kinds.TripleSegment content x) (piece_of cs)) (sym is)
    (λ e. at_piece (token kinds.TripleSegment content x) (three quote (content ++ three quote rest)) cs rest e
    (ap (three quote) (append_assoc content (three quote []) rest)) (triple_covers quote content rest q h)) e
covers (spec.sign {all} {s} h) cs rest e = at_piece (token (kinds.Sign s) all all) (all ++ rest) cs rest e refl (sign_covers all rest s h)
