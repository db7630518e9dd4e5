-- The first character, step by step and by its cases.
use Rattle.std.proofs.Common.{◌≡◌, ◌≢◌, ℕ, true, false, eqb, inl, inr, List, [], ◌∷◌, ◌++◌, Option, Some, None, refl, sym, ap, subst, ◌∙◌, arith}
use Rattle.std.specs.Prelude.{◌&&◌}
use Rattle.std.specs.List.{slice_get}
use Rattle.std.proofs.lemmas.Bool.{eqb-true, eqb-false, ne_eqb, and_parts, false_from_ne_true, false≢true}
use Rattle.std.proofs.lemmas.Option.{none-some, some_pair_parts}
use Rattle.rng_model.proofs.Truths.{chosen}
use Rattle.rng_model.specs.names.Names.{is_xml_char}
use Rattle.rnc_model.specs.characters.Decoding.{AreDigits, hexadecimal, OpensEscape, Begins, carriage_return_line_feed, carriage_return, line_feed, escape}
use Rattle.rnc_model.specs.characters.Decoding.{other}
use Rattle.rnc_text.specs.plain.DecodingSteps.{first_and_rest, without_line_feed, hexadecimal_end, opens_from, escape_front, ordinary_if_char, after_brace}
use Rattle.rnc_text.specs.plain.DecodingSteps.{plain_front, front_of}
use Rattle.rnc_text.proofs.Escapes.{escape_opens, opens_escape, hexadecimal_read, digits_found}
use Rattle.rnc_model.specs.declared.character.Character.{Character}
use Rattle.rnc_model.specs.declared.character.Character.TheVariants.{LineEnd, Ordinary}

abbrev Front : Type 0
Front = Option (Character × List ℕ)

-- ---- what is found begins

return_begins : (cs : List ℕ) (d : Character) (rest : List ℕ) → LineEnd ≡ d → without_line_feed cs ≡ rest → Begins (0xD ∷ cs) d rest
unfolding without_line_feed
return_begins [] d rest e f =
    subst (λ (d : Character). Begins (0xD ∷ []) d rest) e
    (carriage_return (ap (λ (x : List ℕ). 0xD ∷ x) f) (λ h. let g : None ≡ Some 0xA = ap (λ (x : List ℕ). slice_get x 0) f ∙ h in absurd (none-some _ g)))
return_begins (c ∷ cs) d rest e f =
    subst (λ (d : Character). Begins (0xD ∷ c ∷ cs) d rest) e
    (elim (chosen (eqb c 0xA) _ _ _ f) [
      | inl h ↦ carriage_return_line_feed (let a = eqb-true c 0xA h.0 in let b = h.1 in cc)
      | inr h ↦ carriage_return (ap (λ (x : List ℕ). 0xD ∷ x) h.1)
          (λ g. let a : Some c ≡ Some 0xA = ap (λ (x : List ℕ). slice_get x 0) h.1 ∙ g in eqb-false c 0xA h.0 (cc))
    ])

escape_begins : (cs : List ℕ) (d : Character) (rest : List ℕ) → ordinary_if_char (hexadecimal_end 7 0 cs) ≡ Some (d, rest)
    → Begins (0x5C ∷ 0x78 ∷ 0x7B ∷ cs) d rest
escape_begins cs d rest e = go (hexadecimal_end 7 0 cs) refl e
  where
    go : (o : Option (ℕ × List ℕ)) → hexadecimal_end 7 0 cs ≡ o → ordinary_if_char o ≡ Some (d, rest) → Begins (0x5C ∷ 0x78 ∷ 0x7B ∷ cs) d rest
    go None h e = absurd (none-some _ e)
    go (Some x) h e =
        elim (chosen (is_xml_char x.0) _ _ _ e) [
          | inl g ↦ let p = some_pair_parts _ _ _ _ g.1 in
              let f = digits_found 7 0 cs x.0 x.1 h in
              let are : AreDigits f.digits = record { some = omega (arith, f.some); most = omega (arith, f.short); are_hexadecimal = f.all } in
              subst (λ (d : Character). Begins (0x5C ∷ 0x78 ∷ 0x7B ∷ cs) d rest) p.0
              (subst (λ (r : List ℕ). Begins (0x5C ∷ 0x78 ∷ 0x7B ∷ cs) (Ordinary x.0) r) p.1
              (escape are f.value g.0 (ap (λ (x : List ℕ). 0x5C ∷ 0x78 ∷ 0x7B ∷ x) f.is)))
          | inr g ↦ absurd (none-some _ g.1)
        ]

brace_begins : (cs : List ℕ) (d : Character) (rest : List ℕ) → after_brace (first_and_rest cs) ≡ Some (d, rest) → Begins (0x5C ∷ 0x78 ∷ cs) d rest
brace_begins [] d rest e = absurd (none-some _ e)
brace_begins (c ∷ cs) d rest e =
    elim (chosen (eqb c 0x7B) _ _ _ e) [
      | inl h ↦ subst (λ (c : ℕ). Begins (0x5C ∷ 0x78 ∷ c ∷ cs) d rest) (sym (eqb-true c 0x7B h.0)) (escape_begins cs d rest h.1)
      | inr h ↦ absurd (none-some _ h.1)
    ]

backslash_begins : (cs : List ℕ) (d : Character) (rest : List ℕ) → escape_front cs ≡ Some (d, rest) → Begins (0x5C ∷ cs) d rest
unfolding escape_front
backslash_begins [] d rest e = absurd (none-some _ e)
backslash_begins (c ∷ cs) d rest e =
    elim (chosen (eqb c 0x78) _ _ _ e) [
      | inl h ↦ subst (λ (c : ℕ). Begins (0x5C ∷ c ∷ cs) d rest) (sym (eqb-true c 0x78 h.0)) (brace_begins cs d rest h.1)
      | inr h ↦ absurd (none-some _ h.1)
    ]

plain_begins : (c : ℕ) (cs : List ℕ) (d : Character) (rest : List ℕ) → eqb c 0xD ≡ false → eqb c 0xA ≡ false → (eqb c 0x5C && opens_from false cs) ≡ false
    → plain_front c cs ≡ Some (d, rest) → Begins (c ∷ cs) d rest
plain_begins c cs d rest h1 h2 h3 e =
    elim (chosen (is_xml_char c) _ _ _ e) [
      | inl h ↦ let p = some_pair_parts _ _ _ _ h.1 in
          subst (λ (d : Character). Begins (c ∷ cs) d rest) p.0
          (other (eqb-false c 0xD h1) (eqb-false c 0xA h2) h.0 (λ o. false≢true (sym h3 ∙ escape_opens c cs o)) (ap (λ (x : List ℕ). c ∷ x) p.1))
      | inr h ↦ absurd (none-some _ h.1)
    ]

pub front_begins : (cs : List ℕ) (d : Character) (rest : List ℕ) → front_of cs ≡ Some (d, rest) → Begins cs d rest
unfolding front_of
front_begins [] d rest e = absurd (none-some _ e)
front_begins (c ∷ cs) d rest e =
    elim (chosen (eqb c 0xD) _ _ _ e) [
      | inl h ↦ let p = some_pair_parts _ _ _ _ h.1 in subst (λ (c : ℕ). Begins (c ∷ cs) d rest) (sym (eqb-true c 0xD h.0)) (return_begins cs d rest p.0 p.1)
      | inr h1 ↦ elim (chosen (eqb c 0xA) _ _ _ h1.1) [
        | inl h ↦ let p = some_pair_parts _ _ _ _ h.1 in
            subst (λ (d : Character). Begins (c ∷ cs) d rest) p.0 (line_feed (let a = eqb-true c 0xA h.0 in let b = p.1 in cc))
        | inr h2 ↦ elim (chosen (eqb c 0x5C && opens_from false cs) _ _ _ h2.1) [
          | inl h ↦ subst (λ (c : ℕ). Begins (c ∷ cs) d rest) (sym (eqb-true c 0x5C (and_parts _ _ h.0).0)) (backslash_begins cs d rest h.1)
          | inr h3 ↦ plain_begins c cs d rest h1.0 h2.0 h3.0 h3.1
        ]
      ]
    ]

-- ---- what begins is found

abbrev found : Character → List ℕ → Front
found d rest = Some (d, rest)

return_found : (rest : List ℕ) → slice_get rest 0 ≢ Some 0xA → front_of (0xD ∷ rest) ≡ found LineEnd rest
unfolding front_of without_line_feed
return_found [] h = refl
return_found (c ∷ cs) h = let e : eqb c 0xA ≡ false = ne_eqb c 0xA (λ e. h (ap Some e)) in rw e refl

both_found : (rest : List ℕ) → front_of (0xD ∷ 0xA ∷ rest) ≡ found LineEnd rest
unfolding front_of without_line_feed
both_found rest = refl

line_feed_found : (rest : List ℕ) → front_of (0xA ∷ rest) ≡ found LineEnd rest
unfolding front_of
line_feed_found rest = refl

escape_found : (digits rest : List ℕ) → AreDigits digits → is_xml_char (hexadecimal digits) ≡ true
    → front_of (0x5C ∷ 0x78 ∷ 0x7B ∷ (digits ++ 0x7D ∷ rest)) ≡ found (Ordinary (hexadecimal digits)) rest
unfolding front_of opens_from escape_front
escape_found digits rest are h = rw (hexadecimal_read digits rest are, h) refl

other_found : (c : ℕ) (rest : List ℕ) → c ≢ 0xD → c ≢ 0xA → is_xml_char c ≡ true → (OpensEscape (c ∷ rest) → ⊥) → front_of (c ∷ rest) ≡ found (Ordinary c) rest
unfolding front_of
other_found c rest h1 h2 h3 h4 =
    let e : (eqb c 0x5C && opens_from false rest) ≡ false =
    false_from_ne_true _
    (λ e. let p = and_parts _ _ e in h4 (subst (λ (c : ℕ). OpensEscape (c ∷ rest)) (sym (eqb-true c 0x5C p.0)) (opens_escape rest p.1))) in
    rw (ne_eqb c 0xD h1, ne_eqb c 0xA h2, e, h3) refl

pub begins_found : {cs : List ℕ} {d : Character} {rest : List ℕ} → Begins cs d rest → front_of cs ≡ Some (d, rest)
begins_found (carriage_return_line_feed {numbers = cs} {rest} is) = ap front_of is ∙ both_found rest
begins_found (carriage_return {numbers = cs} {rest} is h) = ap front_of is ∙ return_found rest h
begins_found (line_feed {numbers = cs} {rest} is) = ap front_of is ∙ line_feed_found rest
begins_found (escape {numbers = cs} {c} {rest} {digits} are c-is h is) = ap front_of is
    ∙ escape_found digits rest are (subst (λ (c : ℕ). is_xml_char c ≡ true) c-is h) ∙ ap (λ (c : ℕ). found (Ordinary c) rest) (sym c-is)
begins_found (other {numbers = cs} {c} {rest} h1 h2 h3 h4 is) = ap front_of is ∙ other_found c rest h1 h2 h3 (λ o. h4 (subst OpensEscape (sym is) o))

-- the first character is unique
pub begins_one : {cs : List ℕ} (c d : Character) (rest end : List ℕ) → Begins cs c rest → Begins cs d end → (c ≡ d) × (rest ≡ end)
begins_one c d rest end p q = some_pair_parts c d rest end (sym (begins_found p) ∙ begins_found q)

front_none : front_of [] ≡ None
unfolding front_of
front_none = refl

pub begins_none : (c : Character) (rest : List ℕ) → Begins [] c rest → ⊥
begins_none c rest p = none-some _ (sym front_none ∙ begins_found p)

pub nothing_begins : (cs : List ℕ) → None ≡ front_of cs → (c : Character) (rest : List ℕ) → Begins cs c rest → ⊥
nothing_begins cs e c rest p = none-some _ (e ∙ begins_found p)
