-- A text matches the grammar of URI references exactly if it has their shape.
use Rattle.std.proofs.Common.{◌≡◌, ◌↔◌, ℕ, List, [], ◌∷◌, ◌++◌, Bool, true, false, ◌||◌}
use Rattle.std.proofs.Common.{refl, sym, ap, subst, ◌∙◌, inl, inr, arith, le-leb}
use Rattle.std.specs.List.{list_all}
use Rattle.std.specs.Str.{chars, IsUtf8}
use Rattle.std.proofs.lemmas.Bool.{and_from, and_parts, or_cases, or_left, or_right, eqb-true}
use Rattle.std.proofs.lemmas.List.{append-nil}
use Rattle.std.proofs.lemmas.Str.{scalars-chars}
use Rattle.std.proofs.Math.Utf8.{scalar, scalars, scalar_cases}
use Rattle.rng_model.specs.regexes.Expressions.{Regex, nothing_more, both, Denotes, both_are, first_is, second_is}
use Rattle.rng_model.specs.regexes.plain.Decided.{is_match}
use Rattle.rng_model.specs.xsd.UriCharacters.{in_order, any_of, optional, the, uric}
use Rattle.rng_model.specs.xsd.Uris.{fragment, absolute_uri, relative_uri, uri_reference, is_uri}
use Rattle.xsd_regex.proofs.Decided.{matches_are_decided}
use Rattle.xsd_uris.specs.plain.UriShapes.{is, is_hex, before, from, are_escapes_whole, is_relative, is_absolute, is_fragment, is_reference, has_uri_shape}
use Rattle.xsd_uris.proofs.Escapes.{is_char, all_front, all_behind, escapes_join, escapes_front, escapes_behind, IsText, no_text}
use Rattle.xsd_uris.proofs.Notation.{last_is, last_from, only_is, Behind, the_before, before_the, optional_none, optional_one, optional_is}
use Rattle.xsd_uris.proofs.Leaves.{many_text, text_many}
use Rattle.xsd_uris.proofs.Classes.{ends_query, uric_leaf}
use Rattle.xsd_uris.proofs.Cuts.{Cut, whole, parts, cut, before_whole, from_whole, before_cut, from_cut}
use Rattle.xsd_uris.proofs.RelativeReferences.{relative_if, relative_then}
use Rattle.xsd_uris.proofs.AbsoluteUris.{absolute_if, absolute_then}

abbrev uris : Regex
uris = any_of (absolute_uri ∷ relative_uri ∷ [])

abbrev some_fragment : Regex
some_fragment = in_order (the 0x23 ∷ fragment ∷ [])

-- what is before the fragment
record Front (s : List ℕ) : Type 0 where
  text : IsText ends_query s
  passes : (is_relative s || is_absolute s) ≡ true

-- nothing, or `#` and a fragment
data Fragment (s : List ℕ) : Type 0 where
  no_fragment : s ≡ [] → Fragment s
  a_fragment : (rest : List ℕ) → IsText ends_query rest → s ≡ 0x23 ∷ rest → Fragment s

-- ---- from the grammar

front_if : (s : List ℕ) → Denotes (optional uris) s → Front s
front_if s m = elim (optional_is uris s m) [
  | inl e ↦ record { text = subst (IsText ends_query) (sym e) (no_text ends_query); passes = or_left (is_relative s) (is_absolute s) (ap is_relative e) }
  | inr h ↦ one h
] where
  one : Denotes uris s → Front s
  one (first_is h) = let a = absolute_if s h in record { text = a.text; passes = or_right (is_relative s) (is_absolute s) a.passes }
  one (second_is h) =
      let r = relative_if s (only_is relative_uri s h) in record { text = r.text; passes = or_left (is_relative s) (is_absolute s) r.passes }

fragment_if : (s : List ℕ) → Denotes (optional some_fragment) s → Fragment s
fragment_if s m = elim (optional_is some_fragment s m) [
  | inl e ↦ no_fragment e
  | inr h ↦
      let b : Behind 0x23 (both fragment nothing_more) s = the_before 0x23 _ s h in
      a_fragment b.rest (many_text ends_query uric uric_leaf b.rest (last_is fragment b.rest b.matched)) b.whole
]

shape_of : (s u v : List ℕ) → Front u → Fragment v → s ≡ u ++ v → has_uri_shape s ≡ true
shape_of s u v f (no_fragment g) e =
    ap has_uri_shape same ∙ and_from (are_escapes_whole u) (is_reference u) f.text.escapes
    (and_from _ _
    (ap (λ x. is_relative x || is_absolute x) (before_whole (is 0x23) u f.text.others) ∙ f.passes)
    (ap is_fragment (from_whole (is 0x23) u f.text.others))) where
      same : s ≡ u
      same = e ∙ ap (λ x. u ++ x) g ∙ append-nil u
shape_of s u v f (a_fragment rest t g) e =
    ap has_uri_shape same ∙ and_from (are_escapes_whole (u ++ 0x23 ∷ rest)) (is_reference (u ++ 0x23 ∷ rest))
    (escapes_join u (0x23 ∷ rest) f.text.escapes (and_from _ _ refl t.escapes))
    (and_from _ _
    (ap (λ x. is_relative x || is_absolute x) (before_cut (is 0x23) u 0x23 rest f.text.others refl) ∙ f.passes)
    (ap is_fragment (from_cut (is 0x23) u 0x23 rest f.text.others refl) ∙ t.others)) where
      same : s ≡ u ++ 0x23 ∷ rest
      same = e ∙ ap (λ x. u ++ x) g

pub shape_if : (s : List ℕ) → Denotes uri_reference s → has_uri_shape s ≡ true
shape_if s (both_are {s = u} {t = v} p q e) = shape_of s u v (front_if u p) (fragment_if v (last_is (optional some_fragment) v q)) e

-- ---- to the grammar

front_then : (s : List ℕ) → IsText ends_query s → (is_relative s || is_absolute s) ≡ true → Denotes (optional uris) s
front_then s t h = optional_one uris s (elim (or_cases (is_relative s) (is_absolute s) h) [
  | inl r ↦ second_is (first_is (relative_then s t r))
  | inr a ↦ first_is (absolute_then s t a)
])

fragment_then : (s : List ℕ) → IsText ends_query s → Denotes (optional some_fragment) (0x23 ∷ s)
fragment_then s t =
    optional_one some_fragment (0x23 ∷ s) (before_the 0x23 (both fragment nothing_more) s (last_from fragment s (text_many ends_query uric uric_leaf s t)))

module _ (s : List ℕ) (bounded : list_all is_char s ≡ true) where
  from_parts : are_escapes_whole s ≡ true → (is_relative (before (is 0x23) s) || is_absolute (before (is 0x23) s)) ≡ true
      → is_fragment (from (is 0x23) s) ≡ true → Cut (is 0x23) s → Denotes uri_reference s
  from_parts h a b (whole w) =
      let same : before (is 0x23) s ≡ s = before_whole (is 0x23) s w in
      both_are (front_then s (record { escapes = h; chars = bounded; others = w }) (sym (ap (λ x. is_relative x || is_absolute x) same) ∙ a))
      (last_from (optional some_fragment) [] (optional_none some_fragment)) (sym (append-nil s))
  from_parts h a b (parts u c v w p e) =
      both_are (front_then u front passes)
      (last_from (optional some_fragment) (c ∷ v) (subst (λ x. Denotes (optional some_fragment) (x ∷ v)) (sym mark) (fragment_then v back))) e where
        mark : c ≡ 0x23
        mark = eqb-true c 0x23 p

        escapes : are_escapes_whole (u ++ c ∷ v) ≡ true
        escapes = sym (ap are_escapes_whole e) ∙ h

        all : list_all is_char (u ++ c ∷ v) ≡ true
        all = sym (ap (list_all is_char) e) ∙ bounded

        front : IsText ends_query u
        front = record { escapes = escapes_front u c v (ap is_hex mark) escapes; chars = all_front is_char u (c ∷ v) all; others = w }

        passes : (is_relative u || is_absolute u) ≡ true
        passes = sym (ap (λ x. is_relative x || is_absolute x) (ap (before (is 0x23)) e ∙ before_cut (is 0x23) u c v w p)) ∙ a

        back : IsText ends_query v
        back = record {
          escapes = escapes_behind (c ∷ []) v (escapes_behind u (c ∷ v) escapes);
          chars = all_behind is_char (c ∷ []) v (all_behind is_char u (c ∷ v) all);
          others = sym (ap is_fragment (ap (from (is 0x23)) e ∙ from_cut (is 0x23) u c v w p)) ∙ b;
        }

  pub shape_then : has_uri_shape s ≡ true → Denotes uri_reference s
  shape_then h =
      let f = and_parts (are_escapes_whole s) (is_reference s) h in
      let g = and_parts (is_relative (before (is 0x23) s) || is_absolute (before (is 0x23) s)) (is_fragment (from (is 0x23) s)) f.1 in
      from_parts f.0 g.0 g.1 (cut (is 0x23) s)

-- ---- as tests

pub uri_shape : (s : List ℕ) → list_all is_char s ≡ true → (is_match uri_reference s ≡ true) ↔ (has_uri_shape s ≡ true)
uri_shape s bounded =
    let m = matches_are_decided uri_reference s in
    (λ h. shape_if s (m.0 h), λ h. m.1 (shape_then s bounded h))

same_test : (a b : Bool) → (a ≡ true) ↔ (b ≡ true) → a ≡ b
same_test true b f = sym (f.0 refl)
same_test false true f = f.1 refl
same_test false false f = refl

a_scalar : (c : ℕ) → scalar c ≡ true → is_char c ≡ true
a_scalar c h = elim (scalar_cases c h) [ inl l ↦ le-leb c 0x10FFFF (omega arith) | inr l ↦ le-leb c 0x10FFFF (omega (arith, l.1)) ]

all_chars : (s : List ℕ) → scalars s ≡ true → list_all is_char s ≡ true
all_chars [] h = refl
all_chars (c ∷ s) h = let f = and_parts (scalar c) (scalars s) h in and_from _ _ (a_scalar c f.0) (all_chars s f.1)

-- a text is a URI reference exactly if its characters have the shape of one
pub is_uri_shape : (s : List ℕ) → IsUtf8 s → is_uri s ≡ has_uri_shape (chars s)
unfolding is_uri
is_uri_shape s u = same_test _ _ (uri_shape (chars s) (all_chars (chars s) (scalars-chars s u)))
