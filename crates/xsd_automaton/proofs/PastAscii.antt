-- Classes that hold all characters past ASCII, or none of them.
use Rattle.std.proofs.Common.{◌≡◌, ◌∙◌, ◌≤◌, ◌<◌, ◌&&◌, ◌||◌, ℕ, zero, suc, List, [], ◌∷◌, length, map, Bool, true, false, not, true≢false}
use Rattle.std.proofs.Common.{refl, sym, ap, arith, leb-true, ltb-true}
use Rattle.std.specs.Prelude.{nat_le, nat_lt}
use Rattle.std.specs.List.{list_all}
use Rattle.std.proofs.lemmas.Bool.{and_parts}
use Rattle.rng_model.specs.names.Names.{is_in_ranges}
use Rattle.rng_model.specs.regexes.Expressions.{holds, no_char, either_class, minus}
use Rattle.rng_model.specs.regexes.Expressions as spec
use Rattle.rng_model.specs.regexes.plain.Spelling.{negated_if}
use Rattle.xsd_regex.specs.declared.class.CharSet.{CharSet}
use Rattle.xsd_regex.specs.declared.class.CharSet.TheVariants as sets
use Rattle.xsd_regex.specs.declared.class.Leaf.{Leaf}
use Rattle.xsd_regex.specs.declared.class.Member.{Member}
use Rattle.xsd_regex.specs.declared.class.Member.TheVariants as members
use Rattle.xsd_regex.specs.declared.class.Class.{Class}
use Rattle.xsd_regex.specs.declared.class.Class.TheVariants as classes
use Rattle.xsd_regex.specs.plain.Groups.{class_with}
use Rattle.xsd_regex.specs.views.Classes.{class_of, leaf_class, mark_of, set_class}
use Rattle.xsd_positions.specs.declared.position.Position.{Position}
use Rattle.xsd_positions.specs.views.Positions.{class_at, position_of}
use Rattle.xsd_automaton.specs.plain.Sets.{AreAlike}
use Rattle.xsd_automaton.specs.plain.PastAscii.{IsUniform, is_of_ascii, is_member_of_ascii, is_class_of_ascii}
use Rattle.xsd_automaton.proofs.AlikeChars.{next_alike}

-- ---- sets of ASCII

not_in_range : (low high c : ℕ) → high < 128 → 128 ≤ c → (nat_le low c && nat_le c high) ≡ false
not_in_range low high c below past = by (nat_le low c) (nat_le c high) refl where
  by : (a b : Bool) → nat_le c high ≡ b → (a && b) ≡ false
  by a true e = let most = leb-true c high e in absurd (omega (arith, most, below, past))
  by true false e = refl
  by false false e = refl

none_held : (rs : List (ℕ × ℕ)) (c : ℕ) → list_all (λ r. nat_lt r.1 128) rs ≡ true → 128 ≤ c → is_in_ranges rs c ≡ false
none_held [] c e past = refl
none_held (r ∷ rs) c e past =
    let both = and_parts _ _ e in
    ap (λ b. b || is_in_ranges rs c) (not_in_range r.0 r.1 c (ltb-true r.1 128 both.0) past) ∙ none_held rs c both.1 past

one_range : (low high : ℕ) → nat_lt high 128 ≡ true → list_all (λ (r : ℕ × ℕ). nat_lt r.1 128) ((low, high) ∷ []) ≡ true
one_range low high e = ap (λ b. b && true) e

set_holds_none : (s : CharSet) (c : ℕ) → is_of_ascii s ≡ true → 128 ≤ c → holds (set_class s) c ≡ false
set_holds_none (sets.Range low high) c e past = none_held ((low, high) ∷ []) c (one_range low high e) past
set_holds_none sets.NameStart c e past = absurd (true≢false (sym e))
set_holds_none sets.NameChar c e past = absurd (true≢false (sym e))
set_holds_none (sets.Category g) c e past = absurd (true≢false (sym e))
set_holds_none (sets.Categories g) c e past = absurd (true≢false (sym e))
set_holds_none sets.WhiteSpace c e past = none_held ((0x9, 0xA) ∷ (0xD, 0xD) ∷ (0x20, 0x20) ∷ []) c refl past
set_holds_none sets.LineEnds c e past = none_held ((0xA, 0xA) ∷ (0xD, 0xD) ∷ []) c refl past
set_holds_none sets.WordChars c e past = absurd (true≢false (sym e))
set_holds_none sets.PrivateUse c e past = absurd (true≢false (sym e))
set_holds_none sets.Specials c e past = absurd (true≢false (sym e))

-- ---- classes

negated_uniform : (neg : Bool) (k : spec.Class) → IsUniform k → IsUniform (negated_if neg k)
negated_uniform true k is c d p q = ap not (is c d p q)
negated_uniform false k is c d p q = is c d p q

leaf_uniform : (l : Leaf) → is_of_ascii l.set ≡ true → IsUniform (leaf_class l)
leaf_uniform l e =
    negated_uniform l.negated (set_class l.set) (λ c d p q. set_holds_none l.set c e p ∙ sym (set_holds_none l.set d e q))

either_uniform : (k l : spec.Class) → IsUniform k → IsUniform l → IsUniform (either_class k l)
either_uniform k l a b c d p q = ap (λ x. x || holds l c) (a c d p q) ∙ ap (λ x. holds k d || x) (b c d p q)

minus_uniform : (k l : spec.Class) → IsUniform k → IsUniform l → IsUniform (minus k l)
minus_uniform k l a b c d p q = ap (λ x. x && not (holds l c)) (a c d p q) ∙ ap (λ x. holds k d && not x) (b c d p q)

groups_uniform : (k : spec.Class) (ms : List Member) → IsUniform k → list_all is_member_of_ascii ms ≡ true → IsUniform (class_with k (map mark_of ms))
unfolding class_with
groups_uniform k [] is e = is
groups_uniform k (members.Leaf l ∷ ms) is e =
    let both = and_parts _ _ e in
    groups_uniform (either_class k (leaf_class l)) ms (either_uniform k (leaf_class l) is (leaf_uniform l both.0)) both.1
groups_uniform k (members.End neg ∷ []) is e = negated_uniform neg k is
groups_uniform k (members.End neg ∷ m ∷ ms) is e =
    minus_uniform (negated_if neg k) (class_with no_char (map mark_of (m ∷ ms))) (negated_uniform neg k is)
    (groups_uniform no_char (m ∷ ms) (λ c d p q. refl) e)

pub class_uniform : (k : Class) → is_class_of_ascii k ≡ true → IsUniform (class_of k)
class_uniform (classes.Leaf l) e = leaf_uniform l e
class_uniform (classes.Groups ms) e = groups_uniform no_char ms.items (λ c d p q. refl) e

-- ---- positions

all_uniform : (ks : List Class) → list_all is_class_of_ascii ks ≡ true → (n : ℕ) → n < length (map class_of ks) → IsUniform (class_at (map class_of ks) n)
all_uniform [] e n lt = absurd (omega (arith, lt))
all_uniform (k ∷ ks) e zero lt = class_uniform k (and_parts _ _ e).0
all_uniform (k ∷ ks) e (suc n) lt = all_uniform ks (and_parts _ _ e).1 n (omega (arith, lt))

pub alike_past : (ks : List Class) (ps : List Position) → list_all is_class_of_ascii ks ≡ true → (c d : ℕ) → 128 ≤ c → 128 ≤ d
    → AreAlike (map (position_of (map class_of ks)) ps) c d
alike_past ks ps e c d p q = next_alike (map class_of ks) c d (λ n lt. all_uniform ks e n lt c d p q) ps
