-- Groups of hexadecimal digits with colons between them; the last one may be four numbers.
use Rattle.std.proofs.Common.{◌≡◌, ◌⊎◌, ℕ, ◌+◌, List, [], ◌∷◌, ◌++◌, length, true, ◌||◌}
use Rattle.std.proofs.Common.{refl, sym, ap, subst, arith, ◌∙◌, inl, inr}
use Rattle.std.specs.List.{list_all, slice_split, join_with_byte, count_by}
use Rattle.std.proofs.lemmas.Bool.{and_from, and_parts, or_cases, or_left, or_right, false≢true}
use Rattle.std.proofs.lemmas.List.{append-nil, append_assoc}
use Rattle.std.proofs.lemmas.List.Splits.{slice_split_none, slice_split_at, join_with_byte-slice_split, length-slice_split}
use Rattle.rng_model.specs.regexes.Expressions.{Regex, nothing_more, both, Denotes, both_are, so_often, AreCopies, no_copy, copy_and}
use Rattle.rng_model.specs.xsd.UriCharacters.{in_order, many, the}
use Rattle.rng_model.specs.xsd.Uris.{hex4, hexseq}
use Rattle.xsd_uris.specs.plain.UriShapes.{is, none, is_group, is_dotted, are_groups, is_sequence, is_hex_sequence}
use Rattle.xsd_uris.proofs.Notation.{last_is, last_from, Behind, the_before, before_the, many_none, many_more}
use Rattle.xsd_uris.proofs.Plain.{plain_text}
use Rattle.xsd_uris.proofs.Digits.{digits_if, digits_then, group_none, none_all, dotted_then}

-- groups, and a last part
pub data Seq (P : List ℕ → Type 0) : List ℕ → Type 0 where
  last : {s : List ℕ} → P s → Seq P s
  more : {s : List ℕ} (g t : List ℕ) → is_group g ≡ true → Seq P t → s ≡ g ++ 0x3A ∷ t → Seq P s

abbrev pub IsGroup : List ℕ → Type 0
IsGroup s = is_group s ≡ true

abbrev pub IsDotted : List ℕ → Type 0
IsDotted s = is_dotted s ≡ true

abbrev pub IsEither : List ℕ → Type 0
IsEither s = (is_group s || is_dotted s) ≡ true

pub group_no_colon : (s : List ℕ) → IsGroup s → none (is 0x3A) s ≡ true
group_no_colon = group_none (is 0x3A) refl

pub dotted_no_colon : (s : List ℕ) → IsDotted s → none (is 0x3A) s ≡ true
dotted_no_colon s h = let t = plain_text (is 0x3A) _ refl s (dotted_then s h) in t.others

-- ---- the grammar

abbrev more_groups : Regex
more_groups = in_order (the 0x3A ∷ hex4 ∷ [])

copies_seq : (g : List ℕ) → IsGroup g → {n : ℕ} {t : List ℕ} → AreCopies more_groups n t → (s : List ℕ) → s ≡ g ++ t → Seq IsGroup s
copies_seq g h no_copy s e = last (subst IsGroup (sym (e ∙ append-nil g)) h)
copies_seq g h (copy_and {s = u} {t = v} m others f) s e =
    let b : Behind 0x3A (both hex4 nothing_more) u = the_before 0x3A _ u m in
    more g (b.rest ++ v) h (copies_seq b.rest (digits_if _ 4 b.rest (last_is hex4 b.rest b.matched)) others (b.rest ++ v) refl)
    (e ∙ ap (λ x. g ++ x) (f ∙ ap (λ x. x ++ v) b.whole))

pub hexseq_if : (s : List ℕ) → Denotes hexseq s → Seq IsGroup s
hexseq_if s (both_are {s = g} {t} p q e) = by t (last_is (many more_groups) t q) e where
  by : (t : List ℕ) → Denotes (many more_groups) t → s ≡ g ++ t → Seq IsGroup s
  by t (so_often n copies least most) e = copies_seq g (digits_if _ 4 g p) copies s e

front_group : (g t : List ℕ) → IsGroup g → Denotes hexseq t → Denotes hexseq (g ++ 0x3A ∷ t)
front_group g t h (both_are {s = u} {t = v} p q e) =
    both_are (digits_then _ 4 g h)
    (last_from (many more_groups) ((0x3A ∷ u) ++ v)
    (many_more more_groups (0x3A ∷ u) v (before_the 0x3A (both hex4 nothing_more) u (last_from hex4 u p)) (last_is (many more_groups) v q)))
    (ap (λ x. g ++ 0x3A ∷ x) e)

pub hexseq_then : {s : List ℕ} → Seq IsGroup s → Denotes hexseq s
hexseq_then {s} (last h) = both_are (digits_then _ 4 s h) (last_from (many more_groups) [] (many_none more_groups)) (sym (append-nil s))
hexseq_then (more g t h rest e) = subst (Denotes hexseq) (sym e) (front_group g t h (hexseq_then rest))

-- ---- the parts between colons

at_colon : (g t : List ℕ) → IsGroup g → slice_split (is 0x3A) (g ++ 0x3A ∷ t) ≡ g ∷ slice_split (is 0x3A) t
at_colon g t h = slice_split_at (is 0x3A) g 0x3A t (none_all (is 0x3A) g (group_no_colon g h)) refl

no_colon : (s : List ℕ) → none (is 0x3A) s ≡ true → slice_split (is 0x3A) s ≡ s ∷ []
no_colon s h = slice_split_none (is 0x3A) s (none_all (is 0x3A) s h)

pub seq_hex : {s : List ℕ} → Seq IsGroup s → is_hex_sequence s ≡ true
seq_hex {s} (last h) = ap (list_all is_group) (no_colon s (group_no_colon s h)) ∙ and_from _ _ h refl
seq_hex (more g t h rest e) = ap (λ s. list_all is_group (slice_split (is 0x3A) s)) e ∙ ap (list_all is_group) (at_colon g t h) ∙ and_from _ _ h (seq_hex rest)

put_group : (g : List ℕ) → IsGroup g → (ls : List (List ℕ)) → are_groups ls ≡ true → are_groups (g ∷ ls) ≡ true
put_group g h [] k = absurd (false≢true k)
put_group g h (l ∷ ls) k = and_from _ _ h k

module _ (P : List ℕ → Type 0) (clear : (s : List ℕ) → P s → none (is 0x3A) s ≡ true) (ends : (s : List ℕ) → P s → IsEither s) where
  pub seq_groups : {s : List ℕ} → Seq P s → is_sequence s ≡ true
  seq_groups {s} (last h) = ap are_groups (no_colon s (clear s h)) ∙ ends s h
  seq_groups (more g t h rest e) =
      ap (λ s. are_groups (slice_split (is 0x3A) s)) e ∙ ap are_groups (at_colon g t h) ∙ put_group g h (slice_split (is 0x3A) t) (seq_groups rest)

pub groups_are : {s : List ℕ} → Seq IsGroup s → is_sequence s ≡ true
groups_are = seq_groups IsGroup group_no_colon (λ s h. or_left _ _ h)

pub dotted_are : {s : List ℕ} → Seq IsDotted s → is_sequence s ≡ true
dotted_are = seq_groups IsDotted dotted_no_colon (λ s h. or_right _ _ h)

-- ---- from the parts

some_part : (s : List ℕ) → slice_split (is 0x3A) s ≡ [] → ⊥
some_part s e = let a : 0 ≡ count_by (is 0x3A) s + 1 = sym (ap length e) ∙ length-slice_split (is 0x3A) s in omega arith

hex_parts : (ls : List (List ℕ)) → (ls ≡ [] → ⊥) → list_all is_group ls ≡ true → Seq IsGroup (join_with_byte 0x3A ls)
hex_parts [] n h = absurd (n refl)
hex_parts (g ∷ []) n h = last (and_parts (is_group g) true h).0
hex_parts (g ∷ k ∷ ls) n h =
    let f = and_parts (is_group g) (list_all is_group (k ∷ ls)) h in more g _ f.0 (hex_parts (k ∷ ls) (λ e. cc) f.1) refl

pub hex_seq : (s : List ℕ) → is_hex_sequence s ≡ true → Seq IsGroup s
hex_seq s h = subst (Seq IsGroup) (join_with_byte-slice_split 0x3A s) (hex_parts (slice_split (is 0x3A) s) (some_part s) h)

parts_are : (ls : List (List ℕ)) → are_groups ls ≡ true → Seq IsEither (join_with_byte 0x3A ls)
parts_are [] h = absurd (false≢true h)
parts_are (g ∷ []) h = last h
parts_are (g ∷ k ∷ ls) h = let f = and_parts (is_group g) (are_groups (k ∷ ls)) h in more g _ f.0 (parts_are (k ∷ ls) f.1) refl

which : {s : List ℕ} → Seq IsEither s → Seq IsGroup s ⊎ Seq IsDotted s
which {s} (last h) = elim (or_cases (is_group s) (is_dotted s) h) [ inl a ↦ inl (last a) | inr a ↦ inr (last a) ]
which (more g t h rest e) = elim (which rest) [ inl a ↦ inl (more g t h a e) | inr a ↦ inr (more g t h a e) ]

pub sequence_is : (s : List ℕ) → is_sequence s ≡ true → Seq IsGroup s ⊎ Seq IsDotted s
sequence_is s h = which (subst (Seq IsEither) (join_with_byte-slice_split 0x3A s) (parts_are (slice_split (is 0x3A) s) h))

-- ---- four numbers behind groups

pub then_dotted : {u : List ℕ} → Seq IsGroup u → (v s : List ℕ) → IsDotted v → s ≡ u ++ 0x3A ∷ v → Seq IsDotted s
then_dotted {u} (last h) v s d e = more u v h (last d) e
then_dotted (more g t h rest f) v s d e =
    more g (t ++ 0x3A ∷ v) h (then_dotted rest v (t ++ 0x3A ∷ v) d refl) (e ∙ ap (λ x. x ++ 0x3A ∷ v) f ∙ append_assoc g (0x3A ∷ t) (0x3A ∷ v))

pub record DottedLast (s : List ℕ) : Type 0 where
  pub front : List ℕ
  pub numbers : List ℕ
  pub groups : Seq IsGroup front
  pub dotted : IsDotted numbers
  pub whole : s ≡ front ++ 0x3A ∷ numbers

pub dotted_last : {s : List ℕ} → Seq IsDotted s → IsDotted s ⊎ DottedLast s
dotted_last (last h) = inl h
dotted_last {s} (more g t h rest e) = elim (dotted_last rest) [
  | inl d ↦ inr (record { front = g; numbers = t; groups = last h; dotted = d; whole = e })
  | inr r ↦ inr (record {
    front = g ++ 0x3A ∷ r.front;
    numbers = r.numbers;
    groups = more g r.front h r.groups refl;
    dotted = r.dotted;
    whole = e ∙ ap (λ x. g ++ 0x3A ∷ x) r.whole ∙ sym (append_assoc g (0x3A ∷ r.front) (0x3A ∷ r.numbers));
  })
]
