-- A collapsed text has no blanks but single spaces between characters, so one that has groups of characters without them is of
-- the grammar of base64Binary.
use Rattle.std.proofs.Common.{codes, ◌≡◌, ◌⊎◌, inl, inr, ◌↔◌, ℕ, List, [], ◌∷◌, ◌++◌, Bool, true, false}
use Rattle.std.proofs.Common.{refl, sym, ap, subst, ◌∙◌, rules, append-nil, ◌&&◌, ◌||◌}
use Rattle.std.specs.Prelude.{⊤}
use Rattle.std.specs.List.{list_all, concat, join_with_byte}
use Rattle.std.proofs.lemmas.Bool.{and_parts, or_cases, not-true, eqb-true}
use Rattle.rng_model.specs.datatypes.Texts.{is_blank_byte, pieces, collapse}
use Rattle.rng_model.specs.plain.BlankRuns.{is_run_byte, is_run, HasRuns, no_run, then_run}
use Rattle.rng_model.proofs.BlankRuns.{HasRuns-pieces}
use Rattle.rng_model.specs.xsd.primitives.Octets.{is_b64, is_b16, is_b04, is_padding, is_full, is_last, are_base64_groups, without_blanks}
use Rattle.xsd_values.proofs.Base64Grammar.{Takes, alone, with_space, AreGroups, group_and, three_octets, two_octets, one_octet}
use Rattle.xsd_values.proofs.Base64Grammar.{IsBase64Binary, nothing, groups, kept, groups_if_grammar}

-- ---- characters with single spaces between them, and the characters

data AreSpaced : List ℕ → List ℕ → Type 0 where
  no_char : AreSpaced [] []
  last_char : {c : ℕ} → is_blank_byte c ≡ false → AreSpaced (c ∷ []) (c ∷ [])
  then_char : {c d : ℕ} {t cs : List ℕ} → is_blank_byte c ≡ false → AreSpaced t (d ∷ cs) → AreSpaced (c ∷ t) (c ∷ d ∷ cs)
  then_space : {c d : ℕ} {t cs : List ℕ} → is_blank_byte c ≡ false → AreSpaced t (d ∷ cs) → AreSpaced (c ∷ 0x20 ∷ t) (c ∷ d ∷ cs)

their_chars : {t cs : List ℕ} → AreSpaced t cs → without_blanks t ≡ cs
their_chars no_char = refl
their_chars (last_char {c} e) = kept c [] e
their_chars (then_char {c} {d} {t} {cs} e more) = kept c t e ∙ ap (λ x. c ∷ x) (their_chars more)
their_chars (then_space {c} {d} {t} {cs} e more) = kept c (0x20 ∷ t) e ∙ ap (λ x. c ∷ x) (their_chars more)

-- ---- groups of characters with single spaces between them are of the grammar

next_char : {test : ℕ → Bool} {t cs : List ℕ} {a b : ℕ} → test a ≡ true → AreSpaced t (a ∷ b ∷ cs) → (u : List ℕ) × Takes test t u × AreSpaced u (b ∷ cs)
next_char passes (then_char {t = u} e more) = (u, alone passes, more)
next_char passes (then_space {t = u} e more) = (u, with_space passes, more)

only_char : {t : List ℕ} {d : ℕ} → AreSpaced t (d ∷ []) → t ≡ d ∷ []
only_char (last_char e) = refl

padding_is : (c : ℕ) → is_padding c ≡ true → c ≡ 0x3D
padding_is c e = eqb-true c 0x3D e

two_paddings : {t : List ℕ} {c d : ℕ} → c ≡ 0x3D → d ≡ 0x3D → AreSpaced t (c ∷ d ∷ []) → (t ≡ codes "==") ⊎ (t ≡ codes "= =")
two_paddings p q (then_char e more) = let o = only_char more in inl (cc (p, q, o))
two_paddings p q (then_space e more) = let o = only_char more in inr (cc (p, q, o))

full_group : {t : List ℕ} (a b c d : ℕ) → is_full a b c d ≡ true → AreSpaced t (a ∷ b ∷ c ∷ d ∷ []) → AreGroups t
full_group a b c d full s =
    let halves = and_parts (is_b64 a && is_b64 b) (is_b64 c && is_b64 d) full in
    let first = and_parts (is_b64 a) (is_b64 b) halves.0 in
    let second = and_parts (is_b64 c) (is_b64 d) halves.1 in
    let p = next_char {test = is_b64} first.0 s in
    let q = next_char {test = is_b64} first.1 p.2 in
    let r = next_char {test = is_b64} second.0 q.2 in
    three_octets p.1 q.1 (subst (Takes is_b64 q.0) (only_char r.2) r.1) second.1

last_group : {t : List ℕ} (a b c d : ℕ) → is_last a b c d ≡ true → AreSpaced t (a ∷ b ∷ c ∷ d ∷ []) → AreGroups t
last_group {t} a b c d last s =
    let parts = and_parts (is_b64 a && is_padding d) ((is_b64 b && is_b16 c) || (is_b04 b && is_padding c)) last in
    let ends = and_parts (is_b64 a) (is_padding d) parts.0 in
    let p = next_char {test = is_b64} ends.0 s in
    elim (or_cases (is_b64 b && is_b16 c) (is_b04 b && is_padding c) parts.1) [
      | inl two ↦ with_two p.0 p.1 p.2 (padding_is d ends.1) (and_parts (is_b64 b) (is_b16 c) two)
      | inr one ↦ with_one p.0 p.1 p.2 (padding_is d ends.1) (and_parts (is_b04 b) (is_padding c) one)
    ]
  where
    with_two : (u : List ℕ) → Takes is_b64 t u → AreSpaced u (b ∷ c ∷ d ∷ []) → d ≡ 0x3D → (is_b64 b ≡ true) × (is_b16 c ≡ true) → AreGroups t
    with_two u front more e both =
        let q = next_char {test = is_b64} both.0 more in
        let r = next_char {test = is_b16} both.1 q.2 in
        two_octets front q.1 r.1 (only_char r.2 ∙ ap (λ x. x ∷ []) e)

    with_one : (u : List ℕ) → Takes is_b64 t u → AreSpaced u (b ∷ c ∷ d ∷ []) → d ≡ 0x3D → (is_b04 b ≡ true) × (is_padding c ≡ true) → AreGroups t
    with_one u front more e both =
        let q = next_char {test = is_b04} both.0 more in
        one_octet front q.1 (two_paddings (padding_is c both.1) e q.2)

grammar_groups : (cs : List ℕ) {t : List ℕ} (c : ℕ) → are_base64_groups (c ∷ cs) ≡ true → AreSpaced t (c ∷ cs) → AreGroups t
grammar_groups [] c e s = search rules
grammar_groups (b ∷ []) a e s = search rules
grammar_groups (b ∷ c ∷ []) a e s = search rules
grammar_groups (b ∷ c ∷ d ∷ []) a e s =
    elim (or_cases (is_full a b c d) (is_last a b c d) e) [ inl full ↦ full_group a b c d full s | inr last ↦ last_group a b c d last s ]
grammar_groups (b ∷ c ∷ d ∷ f ∷ cs) a e s =
    let both = and_parts (is_full a b c d) (are_base64_groups (f ∷ cs)) e in
    let halves = and_parts (is_b64 a && is_b64 b) (is_b64 c && is_b64 d) both.0 in
    let first = and_parts (is_b64 a) (is_b64 b) halves.0 in
    let second = and_parts (is_b64 c) (is_b64 d) halves.1 in
    let p = next_char {test = is_b64} first.0 s in
    let q = next_char {test = is_b64} first.1 p.2 in
    let r = next_char {test = is_b64} second.0 q.2 in
    let k = next_char {test = is_b64} second.1 r.2 in
    group_and p.1 q.1 r.1 k.1 (grammar_groups cs f both.1 k.2)

grammar_if_spaced : (cs : List ℕ) {t : List ℕ} → are_base64_groups cs ≡ true → AreSpaced t cs → IsBase64Binary t
grammar_if_spaced [] e no_char = nothing
grammar_if_spaced (c ∷ cs) e s = groups (grammar_groups cs c e s)

-- ---- a collapsed text has single spaces between its characters

no_blank_byte : (c : ℕ) (cs : List ℕ) → list_all is_run_byte (c ∷ cs) ≡ true → (is_blank_byte c ≡ false) × (list_all is_run_byte cs ≡ true)
no_blank_byte c cs e = let both = and_parts (is_run_byte c) (list_all is_run_byte cs) e in (not-true (is_blank_byte c) both.0, both.1)

run_spaced : (c : ℕ) (cs : List ℕ) → list_all is_run_byte (c ∷ cs) ≡ true → AreSpaced (c ∷ cs) (c ∷ cs)
run_spaced c [] e = last_char (no_blank_byte c [] e).0
run_spaced c (d ∷ cs) e = let both = no_blank_byte c (d ∷ cs) e in then_char both.0 (run_spaced d cs both.1)

run_and : (c : ℕ) (cs : List ℕ) {t ds : List ℕ} {d : ℕ} → list_all is_run_byte (c ∷ cs) ≡ true → AreSpaced t (d ∷ ds)
    → AreSpaced ((c ∷ cs) ++ (0x20 ∷ t)) ((c ∷ cs) ++ (d ∷ ds))
run_and c [] e more = then_space (no_blank_byte c [] e).0 more
run_and c (f ∷ cs) e more = let both = no_blank_byte c (f ∷ cs) e in then_char both.0 (run_and f cs both.1 more)

abbrev AreRuns : List (List ℕ) → Type 0
AreRuns [] = ⊤
AreRuns (run ∷ runs) = (is_run run ≡ true) × AreRuns runs

are_runs : {s : List ℕ} {runs : List (List ℕ)} → HasRuns s runs → AreRuns runs
are_runs (no_run e) = tt
are_runs (then_run before rest blank is ends more parts) = (is, are_runs more)

bytes_of_run : (c : ℕ) (cs : List ℕ) → is_run (c ∷ cs) ≡ true → list_all is_run_byte (c ∷ cs) ≡ true
bytes_of_run c cs e = (and_parts true (list_all is_run_byte (c ∷ cs)) e).1

joined_runs : (runs : List (List ℕ)) → AreRuns runs → AreSpaced (join_with_byte 0x20 runs) (concat runs)
joined_runs [] all = no_char
joined_runs ([] ∷ []) all = search (rules, all.0)
joined_runs ((c ∷ cs) ∷ []) all = subst (AreSpaced (c ∷ cs)) (sym (append-nil (c ∷ cs))) (run_spaced c cs (bytes_of_run c cs all.0))
joined_runs ([] ∷ run ∷ runs) all = search (rules, all.0)
joined_runs ((c ∷ cs) ∷ [] ∷ runs) all = search (rules, all.1.0)
joined_runs ((c ∷ cs) ∷ (d ∷ ds) ∷ runs) all = run_and c cs (bytes_of_run c cs all.0) (joined_runs ((d ∷ ds) ∷ runs) all.1)

collapsed_spaced : (s : List ℕ) → AreSpaced (collapse s) (concat (pieces s))
unfolding collapse
collapsed_spaced s = joined_runs (pieces s) (are_runs (HasRuns-pieces s))

pub base64_grammar : (s : List ℕ) → IsBase64Binary (collapse s) ↔ (are_base64_groups (without_blanks (collapse s)) ≡ true)
base64_grammar s = (groups_if_grammar, grammar)
  where
    grammar : are_base64_groups (without_blanks (collapse s)) ≡ true → IsBase64Binary (collapse s)
    grammar e =
        let spaced = collapsed_spaced s in
        grammar_if_spaced (concat (pieces s)) (ap are_base64_groups (sym (their_chars spaced)) ∙ e) spaced
