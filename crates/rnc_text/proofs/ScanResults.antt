-- What the scanning functions find, put together.
use Rattle.std.proofs.Common.{◌≡◌, ℕ, true, false, ◌⊎◌, inl, inr, List, [], ◌∷◌, ◌++◌, Option, Some, None, refl, sym, ap, subst, ◌∙◌, append_assoc}
use Rattle.std.proofs.lemmas.Bool.{ne_eqb}
use Rattle.std.proofs.lemmas.List.{append-nil}
use Rattle.rnc_model.specs.declared.character.Character.{Character}
use Rattle.rnc_model.specs.declared.character.Character.TheVariants.{LineEnd, Ordinary}
use Rattle.rnc_text.specs.declared.cursor.Cursor.{Cursor}
use Rattle.rnc_text.specs.declared.scanning.Class.{Class}
use Rattle.rnc_text.specs.declared.scanning.Class.TheVariants as classes
use Rattle.rnc_text.specs.declared.scanning.Part.{Part}
use Rattle.rnc_model.specs.declared.token.Sign.{Sign}
use Rattle.rnc_model.specs.declared.token.TokenKind.{TokenKind}
use Rattle.rnc_model.specs.declared.token.TokenKind.TheVariants as kinds
use Rattle.rnc_model.specs.characters.Decoding.{number_of, bytes_of}
use Rattle.rnc_model.specs.tokens.Tokens.{sign_of, Piece, gap, token, three, word_kind}
use Rattle.rnc_text.specs.plain.CutSteps.{Found, is_in, front, after, first_of, behind, behind_three, here_or, with_first, until_three, begins_ncname, star_at}
use Rattle.rnc_text.specs.plain.CutSteps.{colon_at, name_at, quoted_at, segment_at, triple_at, signed, long_sign, sign_at, starts_ncname, piece_by, piece_of}
use Rattle.rnc_text.specs.plain.CutSteps.{or_else}
use Rattle.rnc_text.specs.plain.Cursors.{remaining, IsPast, Walks, told, FindsPart, Finds, FindsThree}
use Rattle.rnc_text.proofs.Cursors.{past_none, past_then}
use Rattle.rnc_text.proofs.CharacterClasses.{front_in, front_out, after_in, after_out}
use Rattle.rnc_text.proofs.QuoteRuns.{until_at, until_none}

-- ---- the loop over a class

pub walks_none : (class : Class) (from : Cursor) → Walks class from from
walks_none class from = record { taken = []; past = past_none from; front = refl; after = refl }

pub walks_on : (class : Class) (from to next : Cursor) (c : Character) → Walks class from to → IsPast to (c ∷ []) next → is_in class c ≡ true
    → Walks class from next
walks_on class from to next c w p h = record {
  taken = w.taken ++ c ∷ [];
  past = past_then from to next w.taken (c ∷ []) w.past p;
  front = w.front ∙ ap (λ (x : List Character). w.taken ++ x) (ap (front class) p.rest ∙ front_in class c (remaining next) h)
      ∙ sym (append_assoc w.taken (c ∷ []) (front class (remaining next)));
  after = w.after ∙ ap (after class) p.rest ∙ after_in class c (remaining next) h;
}

-- the loop is past the front
pub record Passed (class : Class) (from to : Cursor) : Type 0 where
  pub past : IsPast from (front class (remaining from)) to
  pub rest : remaining to ≡ after class (remaining from)

passed : (class : Class) (from to : Cursor) → Walks class from to → front class (remaining to) ≡ [] → after class (remaining to) ≡ remaining to
    → Passed class from to
passed class from to w e f = record {
  past = subst (λ (x : List Character). IsPast from x to) (sym (w.front ∙ ap (λ (x : List Character). w.taken ++ x) e ∙ append-nil w.taken)) w.past;
  rest = sym (w.after ∙ f);
}

pub walks_out : (class : Class) (from to next : Cursor) (c : Character) → Walks class from to → IsPast to (c ∷ []) next → is_in class c ≡ false
    → Passed class from to
walks_out class from to next c w p h =
    passed class from to w (ap (front class) p.rest ∙ front_out class c (remaining next) h)
    (ap (after class) p.rest ∙ after_out class c (remaining next) h ∙ sym p.rest)

none_front : (class : Class) → front class [] ≡ []
unfolding front
none_front class = refl

none_after : (class : Class) → after class [] ≡ []
unfolding after
none_after class = refl

pub walks_end : (class : Class) (from to : Cursor) → Walks class from to → remaining to ≡ [] → Passed class from to
walks_end class from to w e = passed class from to w (ap (front class) e ∙ none_front class) (ap (after class) e ∙ none_after class ∙ sym e)

-- ---- the loop for three quotes

-- puts the characters before in front of the content
pub with_before : List Character → Option (List Character × List Character) → Option (List Character × List Character)
with_before xs None = None
with_before xs (Some x) = Some (xs ++ x.0, x.1)

pub record Looks (quote : ℕ) (from end : Cursor) : Type 0 where
  pub before : List Character
  pub past : IsPast from before end
  pub found : until_three quote (remaining from) ≡ with_before before (until_three quote (remaining end))

before_none : (o : Option (List Character × List Character)) → o ≡ with_before [] o
unfolding with_before
before_none None = refl
before_none (Some x) = refl

pub looks_none : (quote : ℕ) (from : Cursor) → Looks quote from from
looks_none quote from = record { before = []; past = past_none from; found = before_none _ }

before_more : (xs : List Character) (c : Character) (o : Option (List Character × List Character))
    → with_before xs (with_first c o) ≡ with_before (xs ++ c ∷ []) o
unfolding with_before
before_more xs c None = refl
before_more xs c (Some x) = ap (λ (y : List Character). Some (y, x.1)) (sym (append_assoc xs (c ∷ []) x.0))

pub looks_on : (quote : ℕ) (from end next : Cursor) (c : Character) → Looks quote from end → IsPast end (c ∷ []) next
    → behind_three quote (remaining end) ≡ None → Looks quote from next
looks_on quote from end next c w p h =
    let e : until_three quote (remaining end) ≡ with_first c (until_three quote (remaining next)) = ap (until_three quote) p.rest
    ∙ until_at quote c (remaining next)
    ∙ ap (λ (o : Option (List Character)). here_or o (with_first c (until_three quote (remaining next)))) (sym (ap (behind_three quote) p.rest) ∙ h) in
    record {
      before = w.before ++ c ∷ [];
      past = past_then from end next w.before (c ∷ []) w.past p;
      found = w.found ∙ ap (with_before w.before) e ∙ before_more w.before c (until_three quote (remaining next));
    }

before_here : (xs ys : List Character) → with_before xs (Some ([], ys)) ≡ Some (xs, ys)
unfolding with_before
before_here xs ys = ap (λ (x : List Character). Some (x, ys)) (append-nil xs)

pub looks_found : (quote : ℕ) (from end next to : Cursor) (c : Character) → Looks quote from end → IsPast end (c ∷ []) next
    → behind_three quote (remaining end) ≡ Some (remaining to) → IsPast end (three quote []) to
    → FindsThree from end to quote (until_three quote (remaining from))
looks_found quote from end next to c w p h q =
    let e : until_three quote (remaining end) ≡ Some ([], remaining to) = ap (until_three quote) p.rest ∙ until_at quote c (remaining next)
    ∙ ap (λ (o : Option (List Character)). here_or o (with_first c (until_three quote (remaining next)))) (sym (ap (behind_three quote) p.rest) ∙ h) in
    record { content = w.before; is = w.found ∙ ap (with_before w.before) e ∙ before_here w.before (remaining to); past = w.past; quotes = q }

before_nothing : (xs : List Character) → with_before xs None ≡ None
unfolding with_before
before_nothing xs = refl

pub looks_end : (quote : ℕ) (from end : Cursor) → Looks quote from end → remaining end ≡ [] → until_three quote (remaining from) ≡ None
looks_end quote from end w e = w.found ∙ ap (with_before w.before) (ap (until_three quote) e ∙ until_none quote) ∙ before_nothing w.before

-- ---- the pieces

-- a token with its text, between two cursors
pub finds_token : (from to : Cursor) (part : Part) (found : Found) (kind : TokenKind) (says all : List Character)
    → found ≡ Some (token kind says all, remaining to) → IsPast from all to → told part ≡ Some (kind, bytes_of says) → FindsPart from part to found
finds_token from to part found kind says all is past told = record { piece = token kind says all; is = is; past = past; says = told }

pub finds_gap : (from to : Cursor) (part : Part) (found : Found) (all : List Character) → found ≡ Some (gap all, remaining to) → IsPast from all to
    → told part ≡ None → FindsPart from part to found
finds_gap from to part found all is past told = record { piece = gap all; is = is; past = past; says = told }

-- the end of a piece, under an equal name
pub finds_at : (from to end : Cursor) (part : Part) (found : Found) → end ≡ to → FindsPart from part to found → FindsPart from part end found
finds_at from to end part found e f = subst (λ (x : Cursor). FindsPart from part x found) (sym e) f

pub name_found : (cs : List Character) → name_at cs ≡ colon_at (front classes.Ncname cs) (after classes.Ncname cs) (behind 0x3A (after classes.Ncname cs))
unfolding name_at
name_found cs = refl

pub name_colon : (cs rest local : List Character) → rest ≡ after classes.Ncname cs → behind 0x3A rest ≡ Some local
    → name_at cs ≡ star_at (front classes.Ncname cs) rest local (behind 0x2A local)
name_colon cs rest local e h = name_found cs ∙ ap (λ (x : List Character). colon_at (front classes.Ncname cs) x (behind 0x3A x)) (sym e)
    ∙ ap (colon_at (front classes.Ncname cs) rest) h

pub name_word : (cs rest : List Character) → rest ≡ after classes.Ncname cs → behind 0x3A rest ≡ None
    → name_at cs ≡ Some (token (word_kind (front classes.Ncname cs)) (front classes.Ncname cs) (front classes.Ncname cs), rest)
name_word cs rest e h = name_found cs ∙ ap (λ (x : List Character). colon_at (front classes.Ncname cs) x (behind 0x3A x)) (sym e)
    ∙ ap (colon_at (front classes.Ncname cs) rest) h

pub colon_past : (from end local : Cursor) (name : List Character) → IsPast from name end → IsPast end (Ordinary 0x3A ∷ []) local
    → (after : Cursor) (more : List Character) → IsPast local more after → IsPast from (name ++ Ordinary 0x3A ∷ more) after
colon_past from end local name p q after more r =
    past_then from end after name (Ordinary 0x3A ∷ more) p (past_then end local after (Ordinary 0x3A ∷ []) more q r)

pub quoted_name : (cs rest : List Character) → begins_ncname cs ≡ true → rest ≡ after classes.Ncname cs
    → quoted_at cs ≡ Some (token kinds.QuotedIdentifier (front classes.Ncname cs) (Ordinary 0x5C ∷ front classes.Ncname cs), rest)
unfolding quoted_at
quoted_name cs rest b e = rw (b, e) refl

pub quoted_none : (cs : List Character) → begins_ncname cs ≡ false → quoted_at cs ≡ None
unfolding quoted_at
quoted_none cs b = rw b refl

pub segment_some : (quote : ℕ) (cs rest end : List Character) → rest ≡ after (classes.Segment quote) cs → behind quote rest ≡ Some end
    → segment_at quote cs
    ≡ Some (token kinds.Segment (front (classes.Segment quote) cs) (Ordinary quote ∷ (front (classes.Segment quote) cs ++ Ordinary quote ∷ [])), end)
unfolding segment_at
segment_some quote cs rest end e h = rw (← e, h) refl

pub segment_none : (quote : ℕ) (cs rest : List Character) → rest ≡ after (classes.Segment quote) cs → behind quote rest ≡ None → segment_at quote cs ≡ None
unfolding segment_at
segment_none quote cs rest e h = rw (← e, h) refl

pub triple_some : (quote : ℕ) (cs third content all end : List Character) → behind quote cs ≡ Some third → behind quote third ≡ Some content
    → until_three quote content ≡ Some (all, end) → triple_at quote cs ≡ Some (token kinds.TripleSegment all (three quote (all ++ three quote [])), end)
unfolding triple_at
triple_some quote cs third content all end e f g = rw (e, f, g) refl

pub triple_no_second : (quote : ℕ) (cs : List Character) → behind quote cs ≡ None → triple_at quote cs ≡ None
unfolding triple_at
triple_no_second quote cs e = rw e refl

pub triple_no_third : (quote : ℕ) (cs third : List Character) → behind quote cs ≡ Some third → behind quote third ≡ None → triple_at quote cs ≡ None
unfolding triple_at
triple_no_third quote cs third e f = rw (e, f) refl

pub triple_no_end : (quote : ℕ) (cs third content : List Character) → behind quote cs ≡ Some third → behind quote third ≡ Some content
    → until_three quote content ≡ None → triple_at quote cs ≡ None
unfolding triple_at
triple_no_end quote cs third content e f g = rw (e, f, g) refl

pub token_told : (kind : TokenKind) (text : List ℕ) (says : List Character) → text ≡ bytes_of says
    → ◌≡◌ {A = Option (TokenKind × List ℕ)} (Some (kind, text)) (Some (kind, bytes_of says))
token_told kind text says e = ap (λ (x : List ℕ). Some (kind, x)) e

-- ---- signs

pub long_found : (c : ℕ) (d : Character) (s : Sign) (cs rest : List Character) → cs ≡ d ∷ rest → Some s ≡ sign_of (c ∷ number_of d ∷ [])
    → long_sign (Ordinary c) (first_of cs) ≡ Some (token (kinds.Sign s) (Ordinary c ∷ d ∷ []) (Ordinary c ∷ d ∷ []), rest)
long_found c d s cs rest e h = ap (λ (x : List Character). long_sign (Ordinary c) (first_of x)) e
    ∙ ap (λ (o : Option Sign). signed o (Ordinary c ∷ d ∷ []) rest) (sym h)

pub sign_found : (c : ℕ) (s : Sign) (cs : List Character) → long_sign (Ordinary c) (first_of cs) ≡ None → Some s ≡ sign_of (c ∷ [])
    → sign_at (Ordinary c) cs ≡ Some (token (kinds.Sign s) (Ordinary c ∷ []) (Ordinary c ∷ []), cs)
sign_found c s cs e h = rw (e, ← h) refl

-- ---- names

pub local_found : (name rest local end : List Character) → behind 0x2A local ≡ None → begins_ncname local ≡ true → end ≡ after classes.Ncname local
    → star_at name rest local (behind 0x2A local)
    ≡ Some (token kinds.CName (name ++ Ordinary 0x3A ∷ front classes.Ncname local) (name ++ Ordinary 0x3A ∷ front classes.Ncname local), end)
local_found name rest local end h b e = ap (star_at name rest local) h ∙ rw (b, e) refl

pub local_none : (name rest local : List Character) → behind 0x2A local ≡ None → begins_ncname local ≡ false
    → star_at name rest local (behind 0x2A local) ≡ Some (token (word_kind name) name name, rest)
local_none name rest local h b = ap (star_at name rest local) h ∙ rw b refl

-- ---- what begins, by the first character

pub piece_none : (cs : List Character) → cs ≡ [] → piece_of cs ≡ None
unfolding piece_of
piece_none cs e = rw e refl

pub piece_line : (cs rest : List Character) → cs ≡ LineEnd ∷ rest → piece_of cs ≡ Some (gap (LineEnd ∷ []), rest)
unfolding piece_of
piece_line cs rest e = rw e refl

piece_ordinary : (c : ℕ) (cs rest : List Character) → cs ≡ Ordinary c ∷ rest → piece_of cs ≡ piece_by c rest
unfolding piece_of
piece_ordinary c cs rest e = rw e refl

pub piece_name : (c : ℕ) (cs rest : List Character) → cs ≡ Ordinary c ∷ rest → starts_ncname c ≡ true → piece_of cs ≡ name_at cs
piece_name c cs rest e h = piece_ordinary c cs rest e ∙ by_name c rest h ∙ ap name_at (sym e)
  where
    by_name : (c : ℕ) (rest : List Character) → starts_ncname c ≡ true → piece_by c rest ≡ name_at (Ordinary c ∷ rest)
    by_name c rest h = rw h refl

pub piece_blank : (c : ℕ) (cs rest : List Character) → cs ≡ Ordinary c ∷ rest → (c ≡ 0x9) ⊎ (c ≡ 0x20) → piece_of cs ≡ Some (gap (Ordinary c ∷ []), rest)
piece_blank c cs rest e (inl h) = piece_ordinary c cs rest e ∙ subst (λ (c : ℕ). piece_by c rest ≡ Some (gap (Ordinary c ∷ []), rest)) (sym h) refl
piece_blank c cs rest e (inr h) = piece_ordinary c cs rest e ∙ subst (λ (c : ℕ). piece_by c rest ≡ Some (gap (Ordinary c ∷ []), rest)) (sym h) refl

pub piece_hash : (c : ℕ) (cs rest : List Character) → cs ≡ Ordinary c ∷ rest → c ≡ 0x23
    → piece_of cs ≡ Some (gap (Ordinary c ∷ front classes.Line rest), after classes.Line rest)
piece_hash c cs rest e h = piece_ordinary c cs rest e
    ∙ subst (λ (c : ℕ). piece_by c rest ≡ Some (gap (Ordinary c ∷ front classes.Line rest), after classes.Line rest)) (sym h) refl

pub piece_backslash : (c : ℕ) (cs rest : List Character) → cs ≡ Ordinary c ∷ rest → c ≡ 0x5C → piece_of cs ≡ quoted_at rest
piece_backslash c cs rest e h = piece_ordinary c cs rest e ∙ subst (λ (c : ℕ). piece_by c rest ≡ quoted_at rest) (sym h) refl

pub piece_quote : (c : ℕ) (cs rest : List Character) → cs ≡ Ordinary c ∷ rest → (c ≡ 0x22) ⊎ (c ≡ 0x27)
    → piece_of cs ≡ or_else (triple_at c rest) (segment_at c rest)
piece_quote c cs rest e (inl h) = piece_ordinary c cs rest e ∙ subst (λ (c : ℕ). piece_by c rest ≡ or_else (triple_at c rest) (segment_at c rest)) (sym h) refl
piece_quote c cs rest e (inr h) = piece_ordinary c cs rest e ∙ subst (λ (c : ℕ). piece_by c rest ≡ or_else (triple_at c rest) (segment_at c rest)) (sym h) refl

-- the character begins no piece except a sign
pub record IsOther (c : ℕ) : Type 0 where
  pub no_name : starts_ncname c ≡ false
  pub no_space : c ≡ 0x20 → ⊥
  pub no_tab : c ≡ 0x9 → ⊥
  pub no_hash : c ≡ 0x23 → ⊥
  pub no_backslash : c ≡ 0x5C → ⊥
  pub no_mark : c ≡ 0x22 → ⊥
  pub no_apostrophe : c ≡ 0x27 → ⊥

pub piece_sign : (c : ℕ) (cs rest : List Character) → cs ≡ Ordinary c ∷ rest → IsOther c → piece_of cs ≡ sign_at (Ordinary c) rest
piece_sign c cs rest e h = piece_ordinary c cs rest e
    ∙ rw (
      h.no_name,
      ne_eqb c 0x20 h.no_space,
      ne_eqb c 0x9 h.no_tab,
      ne_eqb c 0x23 h.no_hash,
      ne_eqb c 0x5C h.no_backslash,
      ne_eqb c 0x22 h.no_mark,
      ne_eqb c 0x27 h.no_apostrophe,
    ) refl

pub or_left : (a b : Found) (x : Piece × List Character) → a ≡ Some x → or_else a b ≡ Some x
or_left a b x e = ap (λ (a : Found). or_else a b) e

pub or_right : (a b : Found) → a ≡ None → or_else a b ≡ b
or_right a b e = ap (λ (a : Found). or_else a b) e

-- what is found in an equal list of characters
pub finds_same : (from to : Cursor) (part : Part) (found other : Found) → other ≡ found → FindsPart from part to found → FindsPart from part to other
finds_same from to part found other e f = subst (λ (x : Found). FindsPart from part to x) (sym e) f

pub finds_all : (from : Cursor) (r : Option (Part × Cursor)) (found other : Found) → other ≡ found → Finds from r found → Finds from r other
finds_all from r found other e f = subst (λ (x : Found). Finds from r x) (sym e) f
