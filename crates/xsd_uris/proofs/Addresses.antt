-- The grammar of IPv6 addresses matches what the test of addresses passes.
use Rattle.std.proofs.Common.{◌≡◌, ◌⊎◌, ℕ, List, [], ◌∷◌, ◌++◌, Bool, true, false, not, ◌&&◌, ◌||◌, Some}
use Rattle.std.proofs.Common.{refl, sym, ap, subst, ◌∙◌, inl, inr}
use Rattle.std.proofs.lemmas.Bool.{and_from, and_parts, or_cases, or_left, or_right, not-true, not_from_false, false≢true, eqb-true}
use Rattle.std.proofs.lemmas.List.{append_assoc}
use Rattle.std.proofs.lemmas.List.Splits.{slice_split_none}
use Rattle.rng_model.specs.regexes.Expressions.{Regex, nothing_more, both, Denotes, both_are, first_is, second_is}
use Rattle.rng_model.specs.xsd.UriCharacters.{in_order, optional, the}
use Rattle.rng_model.specs.xsd.Uris.{hexseq, hexpart, embedded_address, ipv6_address}
use Rattle.xsd_uris.specs.plain.UriShapes.{is, none, is_nothing, is_dotted, are_four, is_sequence, is_hex_sequence, is_colon_and_dotted}
use Rattle.xsd_uris.specs.plain.UriShapes.{behind_double, is_address, is_address_of}
use Rattle.xsd_uris.proofs.Escapes.{all_behind}
use Rattle.xsd_uris.proofs.Notation.{last_is, last_from, only_is, Behind, the_before, before_the, optional_none, optional_one, optional_is}
use Rattle.xsd_uris.proofs.Plain.{plain_text}
use Rattle.xsd_uris.proofs.Digits.{none_all, dotted_if, dotted_then}
use Rattle.xsd_uris.proofs.Sequences.{Seq, last, IsGroup, IsDotted, group_no_colon, dotted_no_colon, hexseq_if, hexseq_then}
use Rattle.xsd_uris.proofs.Sequences.{seq_hex, hex_seq, groups_are, dotted_are, sequence_is, then_dotted, dotted_last}
use Rattle.xsd_uris.proofs.Doubles.{is_single, seq_single, before_single, behind_single, before_first, behind_first, Double, single, double, double_of}

-- ---- the parts of an address

-- nothing, or groups
abbrev MaybeGroups : List ℕ → Type 0
MaybeGroups s = (s ≡ []) ⊎ Seq IsGroup s

maybe_groups : (s : List ℕ) → Denotes (optional hexseq) s → MaybeGroups s
maybe_groups s m = elim (optional_is hexseq s m) [ inl e ↦ inl e | inr h ↦ inr (hexseq_if s h) ]

groups_maybe : (s : List ℕ) → MaybeGroups s → Denotes (optional hexseq) s
groups_maybe s (inl e) = subst (Denotes (optional hexseq)) (sym e) (optional_none hexseq)
groups_maybe s (inr h) = optional_one hexseq s (hexseq_then h)

-- groups, `::`, and what is behind it
record DoubleThen (r : Regex) (s : List ℕ) : Type 0 where
  front : List ℕ
  back : List ℕ
  groups : MaybeGroups front
  then : Denotes r back
  whole : s ≡ front ++ 0x3A ∷ 0x3A ∷ back

abbrev doubled : Regex → Regex
doubled r = in_order (optional hexseq ∷ the 0x3A ∷ the 0x3A ∷ r ∷ [])

double_then : (r : Regex) (s : List ℕ) → Denotes (doubled r) s → DoubleThen r s
double_then r s (both_are {s = u} {t} p q e) =
    let b : Behind 0x3A (both (the 0x3A) (both r nothing_more)) t = the_before 0x3A _ t q in
    let d : Behind 0x3A (both r nothing_more) b.rest = the_before 0x3A _ b.rest b.matched in
    record {
      front = u;
      back = d.rest;
      groups = maybe_groups u p;
      then = last_is r d.rest d.matched;
      whole = e ∙ ap (λ x. u ++ x) (b.whole ∙ ap (λ x. 0x3A ∷ x) d.whole);
    }

then_double : (r : Regex) (u t : List ℕ) → MaybeGroups u → Denotes r t → Denotes (doubled r) (u ++ 0x3A ∷ 0x3A ∷ t)
then_double r u t g m =
    both_are (groups_maybe u g)
    (before_the 0x3A (both (the 0x3A) (both r nothing_more)) (0x3A ∷ t) (before_the 0x3A (both r nothing_more) t (last_from r t m)))
    refl

-- ---- from the grammar

some_group : (s : List ℕ) → IsGroup s → is_nothing s ≡ false
some_group [] h = absurd (false≢true h)
some_group (c ∷ s) h = refl

some_dotted : (s : List ℕ) → IsDotted s → is_nothing s ≡ false
some_dotted [] h = absurd (false≢true h)
some_dotted (c ∷ s) h = refl

no_double : (s : List ℕ) → is_single s ≡ true → is_sequence s ≡ true → is_dotted s ≡ false → is_address s ≡ true
no_double s h k n =
    ap (λ x. is_address_of x (behind_double s)) (before_single s h) ∙ ap (is_address_of s) (behind_single s h) ∙ and_from _ _ k (not_from_false _ n)

groups_single : {s : List ℕ} → Seq IsGroup s → is_single s ≡ true
groups_single = seq_single IsGroup group_no_colon some_group

maybe_single : (s : List ℕ) → MaybeGroups s → is_single s ≡ true
maybe_single s (inl e) = ap is_single e
maybe_single s (inr h) = groups_single h

maybe_hex : (s : List ℕ) → MaybeGroups s → (is_nothing s || is_hex_sequence s) ≡ true
maybe_hex s (inl e) = or_left _ _ (ap is_nothing e)
maybe_hex s (inr h) = or_right _ _ (seq_hex h)

a_double : (s u t : List ℕ) → MaybeGroups u → (is_nothing t || (is_sequence t || is_colon_and_dotted t)) ≡ true
    → s ≡ u ++ 0x3A ∷ 0x3A ∷ t → is_address s ≡ true
a_double s u t g h e =
    ap is_address e ∙ ap (λ x. is_address_of x (behind_double (u ++ 0x3A ∷ 0x3A ∷ t))) (before_first u t (maybe_single u g))
    ∙ ap (is_address_of u) (behind_first u t (maybe_single u g)) ∙ and_from _ _ (maybe_hex u g) h

groups_not_dotted : (s : List ℕ) → Denotes hexseq s → is_dotted s ≡ false
groups_not_dotted s m =
    let t = plain_text (is 0x2E) hexseq refl s m in ap are_four (slice_split_none (is 0x2E) s (none_all (is 0x2E) s t.others))

last_not_dotted : (s u v : List ℕ) → s ≡ u ++ 0x3A ∷ v → is_dotted s ≡ false
last_not_dotted s u v e = by (is_dotted s) refl where
  by : (b : Bool) → is_dotted s ≡ b → is_dotted s ≡ false
  by false h = h
  by true h =
      let n : none (is 0x3A) (u ++ 0x3A ∷ v) ≡ true = sym (ap (none (is 0x3A)) e) ∙ dotted_no_colon s h in
      absurd (false≢true (all_behind (λ c. not (is 0x3A c)) u (0x3A ∷ v) n))

a_sequence : (t : List ℕ) → is_sequence t ≡ true → (is_nothing t || (is_sequence t || is_colon_and_dotted t)) ≡ true
a_sequence t k = or_right (is_nothing t) (is_sequence t || is_colon_and_dotted t) (or_left (is_sequence t) (is_colon_and_dotted t) k)

-- the four numbers behind groups
numbers_behind : (u t s : List ℕ) → MaybeGroups u → (t ≡ []) ⊎ Seq IsGroup t → (v : List ℕ) → IsDotted v
    → s ≡ (u ++ 0x3A ∷ 0x3A ∷ t) ++ 0x3A ∷ v → is_address s ≡ true
numbers_behind u t s g h v d e =
    a_double s u (t ++ 0x3A ∷ v) g (by h) (e ∙ append_assoc u (0x3A ∷ 0x3A ∷ t) (0x3A ∷ v)) where
      Passes : List ℕ → Type 0
      Passes x = (is_nothing x || (is_sequence x || is_colon_and_dotted x)) ≡ true

      colon_first : Passes (0x3A ∷ v)
      colon_first = or_right (is_nothing (0x3A ∷ v)) (is_sequence (0x3A ∷ v) || is_colon_and_dotted (0x3A ∷ v))
          (or_right (is_sequence (0x3A ∷ v)) (is_colon_and_dotted (0x3A ∷ v)) (and_from (is 0x3A 0x3A) (is_dotted v) refl d))

      by : (t ≡ []) ⊎ Seq IsGroup t → Passes (t ++ 0x3A ∷ v)
      by (inl n) = subst (λ x. Passes (x ++ 0x3A ∷ v)) (sym n) colon_first
      by (inr k) = a_sequence (t ++ 0x3A ∷ v) (dotted_are (then_dotted k v (t ++ 0x3A ∷ v) d refl))

part_if : (s : List ℕ) → Denotes hexpart s → is_address s ≡ true
part_if s (first_is m) = let q = hexseq_if s m in no_double s (groups_single q) (groups_are q) (groups_not_dotted s m)
part_if s (second_is m) =
    let d = double_then (optional hexseq) s (only_is (doubled (optional hexseq)) s m) in
    a_double s d.front d.back d.groups (by d.back (maybe_groups d.back d.then)) d.whole where
      by : (t : List ℕ) → MaybeGroups t → (is_nothing t || (is_sequence t || is_colon_and_dotted t)) ≡ true
      by t (inl e) = or_left _ _ (ap is_nothing e)
      by t (inr h) = a_sequence t (groups_are h)

numbers_if : (u v s : List ℕ) → Denotes hexpart u → IsDotted v → s ≡ u ++ 0x3A ∷ v → is_address s ≡ true
numbers_if u v s (first_is m) d e =
    let q = then_dotted (hexseq_if u m) v s d e in
    no_double s (seq_single IsDotted dotted_no_colon some_dotted q) (dotted_are q) (last_not_dotted s u v e)
numbers_if u v s (second_is m) d e =
    let f = double_then (optional hexseq) u (only_is (doubled (optional hexseq)) u m) in
    numbers_behind f.front f.back s f.groups (maybe_groups f.back f.then) v d (e ∙ ap (λ x. x ++ 0x3A ∷ v) f.whole)

pub address_if : (s : List ℕ) → Denotes ipv6_address s → is_address s ≡ true
address_if s (first_is m) = part_if s m
address_if s (second_is (first_is (both_are {s = u} {t} p q e))) =
    let b : Behind 0x3A (both embedded_address nothing_more) t = the_before 0x3A _ t q in
    numbers_if u b.rest s p (dotted_if b.rest (last_is embedded_address b.rest b.matched)) (e ∙ ap (λ x. u ++ x) b.whole)
address_if s (second_is (second_is m)) =
    let d = double_then embedded_address s (only_is (doubled embedded_address) s m) in
    let q : Seq IsDotted d.back = last (dotted_if d.back d.then) in
    a_double s d.front d.back d.groups (a_sequence d.back (dotted_are q)) d.whole

-- ---- to the grammar

with_numbers : (u v : List ℕ) → Denotes hexpart u → IsDotted v → Denotes ipv6_address (u ++ 0x3A ∷ v)
with_numbers u v m d =
    second_is (first_is (both_are m (before_the 0x3A (both embedded_address nothing_more) v (last_from embedded_address v (dotted_then v d))) refl))

double_part : (u t : List ℕ) → MaybeGroups u → MaybeGroups t → Denotes hexpart (u ++ 0x3A ∷ 0x3A ∷ t)
double_part u t g h = second_is (first_is (then_double (optional hexseq) u t g (groups_maybe t h)))

single_then : (s : List ℕ) → is_sequence s ≡ true → is_dotted s ≡ false → Denotes ipv6_address s
single_then s h n = elim (sequence_is s h) [
  | inl q ↦ first_is (first_is (hexseq_then q))
  | inr q ↦ elim (dotted_last q) [
    | inl d ↦ absurd (false≢true (sym n ∙ d))
    | inr d ↦ subst (Denotes ipv6_address) (sym d.whole) (with_numbers d.front d.numbers (first_is (hexseq_then d.groups)) d.dotted)
  ]
]

sequence_behind : (u t : List ℕ) → MaybeGroups u → is_sequence t ≡ true → Denotes ipv6_address (u ++ 0x3A ∷ 0x3A ∷ t)
sequence_behind u t g h = elim (sequence_is t h) [
  | inl q ↦ first_is (double_part u t g (inr q))
  | inr q ↦ elim (dotted_last q) [
    | inl d ↦ second_is (second_is (first_is (then_double embedded_address u t g (dotted_then t d))))
    | inr d ↦ subst (Denotes ipv6_address)
        (append_assoc u (0x3A ∷ 0x3A ∷ d.front) (0x3A ∷ d.numbers) ∙ ap (λ x. u ++ 0x3A ∷ 0x3A ∷ x) (sym d.whole))
        (with_numbers (u ++ 0x3A ∷ 0x3A ∷ d.front) d.numbers (double_part u d.front g (inr d.groups)) d.dotted)
  ]
]

colon_behind : (u t : List ℕ) → MaybeGroups u → is_colon_and_dotted t ≡ true → Denotes ipv6_address (u ++ 0x3A ∷ 0x3A ∷ t)
colon_behind u [] g h = absurd (false≢true h)
colon_behind u (c ∷ t) g h =
    let f = and_parts (is 0x3A c) (is_dotted t) h in
    subst (Denotes ipv6_address)
    (append_assoc u (0x3A ∷ 0x3A ∷ []) (0x3A ∷ t) ∙ ap (λ x. u ++ 0x3A ∷ 0x3A ∷ x ∷ t) (sym (eqb-true c 0x3A f.0)))
    (with_numbers (u ++ 0x3A ∷ 0x3A ∷ []) t (double_part u [] g (inl refl)) f.1)

pub nothing_in : (s : List ℕ) → is_nothing s ≡ true → s ≡ []
nothing_in [] h = refl
nothing_in (c ∷ s) h = absurd (false≢true h)

hex_maybe : (s : List ℕ) → (is_nothing s || is_hex_sequence s) ≡ true → MaybeGroups s
hex_maybe s h = elim (or_cases (is_nothing s) (is_hex_sequence s) h) [ inl e ↦ inl (nothing_in s e) | inr e ↦ inr (hex_seq s e) ]

double_then_is : (u t : List ℕ) → is_address_of u (Some t) ≡ true → Denotes ipv6_address (u ++ 0x3A ∷ 0x3A ∷ t)
double_then_is u t h =
    let f = and_parts (is_nothing u || is_hex_sequence u) (is_nothing t || (is_sequence t || is_colon_and_dotted t)) h in
    let g = hex_maybe u f.0 in
    elim (or_cases (is_nothing t) (is_sequence t || is_colon_and_dotted t) f.1) [
      | inl e ↦ first_is (double_part u t g (inl (nothing_in t e)))
      | inr e ↦ elim (or_cases (is_sequence t) (is_colon_and_dotted t) e) [ inl k ↦ sequence_behind u t g k | inr k ↦ colon_behind u t g k ]
    ]

pub address_then : (s : List ℕ) → is_address s ≡ true → Denotes ipv6_address s
address_then s h = by (double_of s) where
  by : Double s → Denotes ipv6_address s
  by (single a b) =
      let k : (is_sequence s && not (is_dotted s)) ≡ true = sym (ap (λ x. is_address_of x (behind_double s)) a ∙ ap (is_address_of s) b) ∙ h in
      let f = and_parts (is_sequence s) (not (is_dotted s)) k in
      single_then s f.0 (not-true _ f.1)
  by (double u t a b e) =
      let k : is_address_of u (Some t) ≡ true = sym (ap (λ x. is_address_of x (behind_double s)) a ∙ ap (is_address_of u) b) ∙ h in
      subst (Denotes ipv6_address) (sym e) (double_then_is u t k)
