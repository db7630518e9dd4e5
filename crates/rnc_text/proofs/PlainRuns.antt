-- The beginning of a text that a decoded text has as it is.
use Rattle.std.proofs.Common.{◌≡◌, ℕ, ◌<◌, List, [], ◌∷◌, ◌++◌, Bool, true, false, eqb, take, refl, ap, sym, ◌∙◌, subst}
use Rattle.std.proofs.Common.{rules, tests, arith, map}
use Rattle.std.specs.List.{list_all, prefix_len}
use Rattle.std.specs.Str.{IsUtf8, IsCharBoundary, chars}
use Rattle.std.proofs.lemmas.Bool.{and_parts, eqb-true, eqb-false}
use Rattle.std.proofs.lemmas.Str.{IsUtf8-from_ascii, chars-append, chars-IsAscii}
use Rattle.rng_model.proofs.TestedRuns.{passing_ascii, run_boundary, run_passes}
use Rattle.rnc_model.specs.characters.Decoding.{Begins, line_feed, other, Decodes, here, next_is, OpensEscape}
use Rattle.rnc_model.specs.declared.character.Character.{Character}
use Rattle.rnc_text.specs.plain.DecodingSteps.{is_plain_byte}
use Rattle.rnc_text.specs.views.Held.{unmarked}

-- ---- the beginning

is_plain_ascii : (b : ℕ) → is_plain_byte b ≡ true → b < 128
is_plain_ascii b e = search (rules, tests, arith)

pub plain_boundary : (s : List ℕ) (n : ℕ) → IsUtf8 s → n ≡ prefix_len is_plain_byte s → IsCharBoundary s n
plain_boundary s n utf8 e = run_boundary is_plain_byte s n is_plain_ascii utf8 e

pub front_plain : (bs front : List ℕ) (n : ℕ) → front ≡ take n bs → n ≡ prefix_len is_plain_byte bs → list_all is_plain_byte front ≡ true
front_plain bs front n e f = rw (e, f) (run_passes is_plain_byte bs)

-- ---- its characters

no_escape : (b : ℕ) (rest : List ℕ) → is_plain_byte b ≡ true → OpensEscape (b ∷ rest) → ⊥
no_escape b rest e o = let first : b ≡ 0x5C = search rules in absurd (search (rules, tests, arith))

no_return : (b : ℕ) → is_plain_byte b ≡ true → b ≡ 0xD → ⊥
no_return b e same = absurd (search (rules, tests, arith))

begins_by : (b : ℕ) (rest : List ℕ) (x : Bool) → eqb b 0xA ≡ x → is_plain_byte b ≡ true → Begins (b ∷ rest) (unmarked b) rest
begins_by b rest true h e = rw h (line_feed (ap (λ (c : ℕ). c ∷ rest) (eqb-true b 0xA h)))
begins_by b rest false h e =
    rw h (other {c = b} (no_return b e) (eqb-false b 0xA h) (search (rules, tests, arith)) (no_escape b rest e) refl)

decodes_plain : (plain rest : List ℕ) → list_all is_plain_byte plain ≡ true → Decodes (plain ++ rest) (map unmarked plain) rest
decodes_plain [] rest e = here refl
decodes_plain (b ∷ bs) rest e =
    let both = and_parts _ _ e in
    next_is (begins_by b (bs ++ rest) (eqb b 0xA) refl both.0) (decodes_plain bs rest both.1) refl

decodes_more : {ns : List ℕ} {cs : List Character} {mid : List ℕ} → Decodes ns cs mid → (ds : List Character) (rest : List ℕ) → Decodes mid ds rest
    → Decodes ns (cs ++ ds) rest
decodes_more (here {numbers = ns} {rest = mid} e) ds rest q = subst (λ (ns : List ℕ). Decodes ns ds rest) (sym e) q
decodes_more (next_is {c = c} {cs = cs} p more e) ds rest q = next_is p (decodes_more more ds rest q) (ap (λ (x : List Character). x ++ ds) e)

-- what was decoded, and the plain beginning of what follows
pub decodes_past : (all text plain rest : List ℕ) (cs ds : List Character) → text ≡ plain ++ rest → list_all is_plain_byte plain ≡ true
    → ds ≡ cs ++ map unmarked (chars plain) → Decodes all cs (chars text) → Decodes all ds (chars rest)
decodes_past all text plain rest cs ds whole e is d =
    let ascii = passing_ascii is_plain_byte plain is_plain_ascii e in
    let same : chars plain ≡ plain = chars-IsAscii plain ascii in
    let parts : chars text ≡ plain ++ chars rest = ap chars whole ∙ chars-append plain rest (IsUtf8-from_ascii plain ascii)
    ∙ ap (λ (x : List ℕ). x ++ chars rest) same in
    let more : Decodes all (cs ++ map unmarked plain) (chars rest) =
    decodes_more (subst (λ (x : List ℕ). Decodes all cs x) parts d) _ _ (decodes_plain plain (chars rest) e) in
    subst (λ (x : List Character). Decodes all x (chars rest)) (sym (is ∙ ap (λ (x : List ℕ). cs ++ map unmarked x) same)) more
