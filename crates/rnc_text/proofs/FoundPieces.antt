-- What is found at the front is a piece, and no longer front is one.
use Rattle.std.proofs.Common.{◌≡◌, ℕ, true, eqb, inl, inr, List, [], ◌∷◌, ◌++◌, Option, Some, None, refl, sym, ap, subst, ◌∙◌, append_assoc}
use Rattle.std.proofs.lemmas.Bool.{eqb-true}
use Rattle.std.proofs.lemmas.Option.{none-some, some_pair_parts}
use Rattle.rng_model.proofs.Truths.{chosen}
use Rattle.rnc_model.specs.declared.character.Character.{Character}
use Rattle.rnc_model.specs.declared.character.Character.TheVariants.{LineEnd, Ordinary}
use Rattle.rnc_text.specs.declared.scanning.Class.TheVariants as classes
use Rattle.rnc_model.specs.declared.token.Sign.{Sign}
use Rattle.rnc_model.specs.characters.Decoding.{numbers_of}
use Rattle.rnc_model.specs.tokens.Tokens as spec
use Rattle.rnc_model.specs.tokens.Tokens.{Piece, gap, token, characters_in, IsGapOrToken, IsNcname, is_blank_character}
use Rattle.rnc_model.specs.tokens.Tokens.{is_quote, word_kind}
use Rattle.rnc_model.specs.tokens.Tokens.{sign_of, three}
use Rattle.rnc_text.specs.plain.CutSteps.{Found, front, after, first_of, behind, behind_two, until_three, begins_ncname, starts_ncname, local_at, star_at}
use Rattle.rnc_text.specs.plain.CutSteps.{colon_at}
use Rattle.rnc_text.specs.plain.CutSteps.{name_at, quoted_at, segment_with, segment_at, triple_with, triple_in, triple_at, or_else, signed, long_sign, sign_at}
use Rattle.rnc_text.specs.plain.CutSteps.{piece_by, piece_of}
use Rattle.rnc_text.proofs.CharacterClasses.{AllIn, cut_whole, front_all, front_name}
use Rattle.rnc_text.proofs.QuoteRuns.{behind_parts, two_parts, until_found}

-- ---- what is found is a piece

-- the piece is in front, and the rest follows it
pub record InFront (cs : List Character) (piece : Piece) (rest : List Character) : Type 0 where
  pub is : IsGapOrToken piece
  pub parts : cs ≡ characters_in piece ++ rest

as_found : (cs : List Character) (p q : Piece) (rest end : List Character) → InFront cs p rest → ◌≡◌ {A = Found} (Some (p, rest)) (Some (q, end))
    → InFront cs q end
as_found cs p q rest end f e = let s = some_pair_parts _ _ _ _ e in
    subst (λ (r : List Character). InFront cs q r) s.1 (subst (λ (x : Piece). InFront cs x rest) s.0 f)

not_found : (cs : List Character) (q : Piece) (end : List Character) → ◌≡◌ {A = Found} None (Some (q, end)) → InFront cs q end
not_found cs q end e = absurd (none-some _ e)

word_front : (cs name rest : List Character) → IsNcname name → name ++ rest ≡ cs → InFront cs (token (word_kind name) name name) rest
word_front cs name rest h e = record { is = spec.word h refl; parts = sym e }

local_front : (cs name rest local : List Character) (q : Piece) (end : List Character) → IsNcname name → name ++ rest ≡ cs → rest ≡ Ordinary 0x3A ∷ local
    → local_at name rest local ≡ Some (q, end) → InFront cs q end
local_front cs name rest local q end h e r f =
    elim (chosen (begins_ncname local) _ _ _ f) [
      | inl b ↦ as_found cs _ q _ end (record {
        is = spec.cname name (front classes.Ncname local) h (front_name local b.0) refl;
        parts = sym e ∙ ap (λ (x : List Character). name ++ x) (r ∙ ap (λ (x : List Character). Ordinary 0x3A ∷ x) (sym (cut_whole classes.Ncname local)))
            ∙ sym (append_assoc name (Ordinary 0x3A ∷ front classes.Ncname local) (after classes.Ncname local));
      }) b.1
      | inr b ↦ as_found cs _ q _ end (word_front cs name rest h e) b.1
    ]

star_front : (cs name rest local : List Character) (o : Option (List Character)) (q : Piece) (end : List Character) → behind 0x2A local ≡ o → IsNcname name
    → name ++ rest ≡ cs → rest ≡ Ordinary 0x3A ∷ local → star_at name rest local o ≡ Some (q, end) → InFront cs q end
star_front cs name rest local None q end b h e r f = local_front cs name rest local q end h e r f
star_front cs name rest local (Some back) q end b h e r f =
    as_found cs _ q _ end (record {
      is = spec.nsname name h refl;
      parts = sym e ∙ ap (λ (x : List Character). name ++ x) (r ∙ ap (λ (x : List Character). Ordinary 0x3A ∷ x) (behind_parts 0x2A local back b))
          ∙ sym (append_assoc name (Ordinary 0x3A ∷ Ordinary 0x2A ∷ []) back);
    }) f

colon_front : (cs name rest : List Character) (o : Option (List Character)) (q : Piece) (end : List Character) → behind 0x3A rest ≡ o → IsNcname name
    → name ++ rest ≡ cs → colon_at name rest o ≡ Some (q, end) → InFront cs q end
colon_front cs name rest None q end b h e f = as_found cs _ q _ end (word_front cs name rest h e) f
colon_front cs name rest (Some local) q end b h e f = star_front cs name rest local (behind 0x2A local) q end refl h e (behind_parts 0x3A rest local b) f

name_front : (c : ℕ) (cs : List Character) (q : Piece) (end : List Character) → starts_ncname c ≡ true → name_at (Ordinary c ∷ cs) ≡ Some (q, end)
    → InFront (Ordinary c ∷ cs) q end
unfolding name_at
name_front c cs q end h f =
    let all = Ordinary c ∷ cs in
    colon_front all (front classes.Ncname all) (after classes.Ncname all) _ q end refl (front_name all h) (cut_whole classes.Ncname all) f

quoted_front : (cs : List Character) (q : Piece) (end : List Character) → quoted_at cs ≡ Some (q, end) → InFront (Ordinary 0x5C ∷ cs) q end
unfolding quoted_at
quoted_front cs q end f =
    elim (chosen (begins_ncname cs) _ _ _ f) [
      | inl b ↦ as_found (Ordinary 0x5C ∷ cs) _ q _ end
          (record {
            is = spec.quoted_identifier (front_name cs b.0) refl;
            parts = ap (λ (x : List Character). Ordinary 0x5C ∷ x) (sym (cut_whole classes.Ncname cs));
          }) b.1
      | inr b ↦ not_found (Ordinary 0x5C ∷ cs) q end b.1
    ]

comment_front : (cs : List Character) → InFront (Ordinary 0x23 ∷ cs) (gap (Ordinary 0x23 ∷ front classes.Line cs)) (after classes.Line cs)
comment_front cs =
    record { is = spec.comment (front_all classes.Line cs) refl; parts = ap (λ (x : List Character). Ordinary 0x23 ∷ x) (sym (cut_whole classes.Line cs)) }

segment_front : (c : ℕ) (cs content rest : List Character) (o : Option (List Character)) (q : Piece) (end : List Character) → is_quote c ≡ true
    → AllIn (classes.Segment c) content → content ++ rest ≡ cs → behind c rest ≡ o → segment_with c content o ≡ Some (q, end) → InFront (Ordinary c ∷ cs) q end
segment_front c cs content rest None q end h a e b f = not_found (Ordinary c ∷ cs) q end f
segment_front c cs content rest (Some back) q end h a e b f =
    as_found (Ordinary c ∷ cs) _ q _ end (record {
      is = spec.segment c h a refl;
      parts = ap (λ (x : List Character). Ordinary c ∷ x)
          (sym e ∙ ap (λ (x : List Character). content ++ x) (behind_parts c rest back b) ∙ sym (append_assoc content (Ordinary c ∷ []) back));
    }) f

segment_is : (c : ℕ) (cs : List Character) (q : Piece) (end : List Character) → is_quote c ≡ true → segment_at c cs ≡ Some (q, end)
    → InFront (Ordinary c ∷ cs) q end
unfolding segment_at
segment_is c cs q end h f =
    segment_front c cs (front (classes.Segment c) cs) (after (classes.Segment c) cs) _ q end h (front_all (classes.Segment c) cs)
    (cut_whole (classes.Segment c) cs) refl f

three_append : (c : ℕ) (content rest : List Character) → three c (content ++ three c rest) ≡ three c (content ++ three c []) ++ rest
three_append c content rest = ap (three c) (sym (append_assoc content (three c []) rest))

triple_front : (c : ℕ) (cs inside : List Character) (o : Option (List Character × List Character)) (q : Piece) (end : List Character) → is_quote c ≡ true
    → cs ≡ Ordinary c ∷ Ordinary c ∷ inside → until_three c inside ≡ o → triple_with c o ≡ Some (q, end) → InFront (Ordinary c ∷ cs) q end
triple_front c cs inside None q end h e u f = not_found (Ordinary c ∷ cs) q end f
triple_front c cs inside (Some x) q end h e u f =
    let t = until_found c inside x.0 x.1 u in
    as_found (Ordinary c ∷ cs) _ q _ end (record {
      is = spec.triple_segment c h t.first refl;
      parts = ap (λ (x : List Character). Ordinary c ∷ x) e ∙ ap (three c) t.is ∙ three_append c x.0 x.1;
    }) f

triple_open : (c : ℕ) (cs : List Character) (o : Option (List Character)) (q : Piece) (end : List Character) → is_quote c ≡ true → behind_two c cs ≡ o
    → triple_in c o ≡ Some (q, end) → InFront (Ordinary c ∷ cs) q end
triple_open c cs None q end h b f = not_found (Ordinary c ∷ cs) q end f
triple_open c cs (Some inside) q end h b f = triple_front c cs inside (until_three c inside) q end h (two_parts c cs inside b) refl f

triple_is : (c : ℕ) (cs : List Character) (q : Piece) (end : List Character) → is_quote c ≡ true → triple_at c cs ≡ Some (q, end)
    → InFront (Ordinary c ∷ cs) q end
unfolding triple_at
triple_is c cs q end h f = triple_open c cs _ q end h refl f

either_front : (cs : List Character) (a b : Found) (q : Piece) (end : List Character) → or_else a b ≡ Some (q, end)
    → ((p : Piece) (r : List Character) → a ≡ Some (p, r) → InFront cs p r) → ((p : Piece) (r : List Character) → b ≡ Some (p, r) → InFront cs p r)
    → InFront cs q end
either_front cs None b q end f left right = right q end f
either_front cs (Some x) b q end f left right = left q end f

signed_front : (o : Option Sign) (all rest : List Character) (q : Piece) (end : List Character) → sign_of (numbers_of all) ≡ o
    → signed o all rest ≡ Some (q, end) → InFront (all ++ rest) q end
signed_front None all rest q end e f = not_found (all ++ rest) q end f
signed_front (Some s) all rest q end e f = as_found (all ++ rest) _ q _ end (record { is = spec.sign e; parts = refl }) f

long_front : (c : Character) (cs : List Character) (q : Piece) (end : List Character) → long_sign c (first_of cs) ≡ Some (q, end) → InFront (c ∷ cs) q end
long_front c [] q end f = not_found (c ∷ []) q end f
long_front c (d ∷ cs) q end f = signed_front _ (c ∷ d ∷ []) cs q end refl f

sign_front : (c : Character) (cs : List Character) (q : Piece) (end : List Character) → sign_at c cs ≡ Some (q, end) → InFront (c ∷ cs) q end
sign_front c cs q end f =
    either_front (c ∷ cs) (long_sign c (first_of cs)) _ q end f (λ p r g. long_front c cs p r g) (λ p r g. signed_front _ (c ∷ []) cs p r refl g)

by_front : (c : ℕ) (cs : List Character) (q : Piece) (end : List Character) → piece_by c cs ≡ Some (q, end) → InFront (Ordinary c ∷ cs) q end
by_front c cs q end f =
    elim (chosen (starts_ncname c) _ _ _ f) [
      | inl h ↦ name_front c cs q end h.0 h.1
      | inr h1 ↦ elim (chosen (is_blank_character (Ordinary c)) _ _ _ h1.1) [
        | inl h ↦ as_found (Ordinary c ∷ cs) _ q _ end (record { is = spec.blank h.0; parts = refl }) h.1
        | inr h2 ↦ elim (chosen (eqb c 0x23) _ _ _ h2.1) [
          | inl h ↦ let e = eqb-true c 0x23 h.0 in
              subst (λ (c : ℕ). InFront (Ordinary c ∷ cs) q end) (sym e) (as_found (Ordinary 0x23 ∷ cs) _ q _ end (comment_front cs) (rw e at h.1))
          | inr h3 ↦ elim (chosen (eqb c 0x5C) _ _ _ h3.1) [
            | inl h ↦ subst (λ (c : ℕ). InFront (Ordinary c ∷ cs) q end) (sym (eqb-true c 0x5C h.0)) (quoted_front cs q end h.1)
            | inr h4 ↦ elim (chosen (is_quote c) _ _ _ h4.1) [
              | inl h ↦ either_front (Ordinary c ∷ cs) (triple_at c cs) (segment_at c cs) q end h.1 (λ p r g. triple_is c cs p r h.0 g)
                  (λ p r g. segment_is c cs p r h.0 g)
              | inr h ↦ sign_front (Ordinary c) cs q end h.1
            ]
          ]
        ]
      ]
    ]

pub piece_front : (cs : List Character) (q : Piece) (end : List Character) → piece_of cs ≡ Some (q, end) → InFront cs q end
unfolding piece_of
piece_front [] q end f = not_found [] q end f
piece_front (LineEnd ∷ cs) q end f = as_found (LineEnd ∷ cs) _ q _ end (record { is = spec.blank refl; parts = refl }) f
piece_front (Ordinary c ∷ cs) q end f = by_front c cs q end f
