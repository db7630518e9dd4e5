-- A relative reference: a path or nothing, and a query.
use Rattle.std.proofs.Common.{◌≡◌, ℕ, List, [], ◌∷◌, ◌++◌, Bool, true, false, not, ◌&&◌}
use Rattle.std.proofs.Common.{refl, sym, ap, subst, ◌∙◌, inl, inr}
use Rattle.std.proofs.lemmas.Bool.{and_from, and_parts, not-true, false≢true, eqb-true, cond-true, cond-false}
use Rattle.std.proofs.lemmas.List.{append-nil}
use Rattle.rng_model.specs.regexes.Expressions.{Regex, Denotes, both_are, first_is, second_is}
use Rattle.rng_model.specs.xsd.UriCharacters.{any_of, optional}
use Rattle.rng_model.specs.xsd.Uris.{abs_path, net_path, rel_path, relative_uri}
use Rattle.xsd_uris.specs.plain.UriShapes.{is, none, is_bracket, is_hex, before, is_rooted, is_path, is_relative}
use Rattle.xsd_uris.proofs.Escapes.{IsText, no_text, texts_join, text_front, text_behind, text_less, none_or, none_left, none_right}
use Rattle.xsd_uris.proofs.Notation.{last_is, last_from, only_is, optional_none, optional_one, optional_is}
use Rattle.xsd_uris.proofs.Leaves.{some_text, text_some}
use Rattle.xsd_uris.proofs.Classes.{ends_path, ends_name, ends_first, ends_query, first_leaf}
use Rattle.xsd_uris.proofs.Cuts.{Cut, whole, parts, cut, before_whole, before_cut}
use Rattle.xsd_uris.proofs.NetworkPaths.{Path, no_path, a_path, path_if, path_text}
use Rattle.xsd_uris.proofs.AddressTests.{no_bracket_in}
use Rattle.xsd_uris.proofs.AddressParts.{no_query, path_text_from, path_then}
use Rattle.xsd_uris.proofs.Queries.{path_is_text, FromRoot, plain_root, rooted, rooted_if, rooted_then}
use Rattle.xsd_uris.proofs.Queries.{WithQuery, with_query_if, with_query_then}

abbrev paths : Regex
paths = any_of (net_path ∷ abs_path ∷ rel_path ∷ [])

record PathFound (s : List ℕ) : Type 0 where
  text : IsText no_query s
  passes : is_path s ≡ true

-- ---- from the grammar

root_path : (s : List ℕ) → FromRoot s → PathFound s
root_path s r = record { text = r.text; passes = ap is_path r.begins ∙ sym (ap is_rooted r.begins) ∙ r.passes }

no_mark : (s : List ℕ) → IsText ends_first s → none (is 0x3A) s ≡ true
no_mark s t = none_left (is 0x3A) ends_name s t.others

no_slash : (s : List ℕ) → IsText ends_first s → none (is 0x2F) s ≡ true
no_slash s t = none_left (is 0x2F) ends_path s (none_right (is 0x3A) ends_name s t.others)

first_text : (s : List ℕ) → IsText ends_first s → IsText ends_path s
first_text s t = text_less ends_path (is 0x2F) s (text_less ends_name (is 0x3A) s t)

before_path : (u v : List ℕ) → none (is 0x2F) u ≡ true → Path v → before (is 0x2F) (u ++ v) ≡ u
before_path u v n (no_path e) = ap (λ x. before (is 0x2F) (u ++ x)) e ∙ ap (before (is 0x2F)) (append-nil u) ∙ before_whole (is 0x2F) u n
before_path u v n (a_path rest t e) = ap (λ x. before (is 0x2F) (u ++ x)) e ∙ before_cut (is 0x2F) u 0x2F rest n refl

from_path : (s : List ℕ) → Path s → is_path s ≡ true
from_path s (no_path e) = ap is_path e
from_path s (a_path rest t e) =
    let r : FromRoot (0x2F ∷ rest) = plain_root (0x2F ∷ rest) rest t refl in ap is_path e ∙ r.passes

segment_passes : (u v : List ℕ) → IsText ends_first u → Path v → is_path (u ++ v) ≡ true
segment_passes [] v t r = from_path v r
segment_passes (c ∷ u) v t r =
    cond-false (is 0x2F c) (is_rooted (c ∷ (u ++ v))) (none is_bracket (c ∷ (u ++ v)) && none (is 0x3A) (before (is 0x2F) (c ∷ (u ++ v)))) no_root
    ∙ and_from _ _ (no_bracket_in (c ∷ (u ++ v)) (texts_join ends_path (c ∷ u) v (first_text (c ∷ u) t) (path_text v r)))
    (ap (none (is 0x3A)) (before_path (c ∷ u) v (no_slash (c ∷ u) t) r) ∙ no_mark (c ∷ u) t) where
      no_root : is 0x2F c ≡ false
      no_root = not-true _ (and_parts (not (is 0x2F c)) (none (is 0x2F) u) (no_slash (c ∷ u) t)).0

rel_path_found : (s : List ℕ) → Denotes rel_path s → PathFound s
rel_path_found s (both_are {s = u} {t = v} p q e) =
    by (some_text ends_first _ first_leaf u p) (path_if v (last_is (optional abs_path) v q)) where
      by : IsText ends_first u → Path v → PathFound s
      by t r = record {
        text = subst (IsText no_query) (sym e) (path_is_text (u ++ v) (texts_join ends_path u v (first_text u t) (path_text v r)));
        passes = ap is_path e ∙ segment_passes u v t r;
      }

paths_found : (s : List ℕ) → Denotes paths s → PathFound s
paths_found s (first_is m) = root_path s (rooted_if s (first_is m))
paths_found s (second_is (first_is m)) = root_path s (rooted_if s (second_is (first_is m)))
paths_found s (second_is (second_is m)) = rel_path_found s (only_is rel_path s m)

maybe_found : (s : List ℕ) → Denotes (optional paths) s → PathFound s
maybe_found s m = elim (optional_is paths s m) [
  | inl e ↦ record { text = subst (IsText no_query) (sym e) (no_text no_query); passes = ap is_path e }
  | inr h ↦ paths_found s h
]

pub record Relative (s : List ℕ) : Type 0 where
  pub text : IsText ends_query s
  pub passes : is_relative s ≡ true

pub relative_if : (s : List ℕ) → Denotes relative_uri s → Relative s
relative_if s m =
    let w : WithQuery (optional paths) s = with_query_if (optional paths) (λ u n. let f = maybe_found u n in f.text) s m in
    let f : PathFound w.front = maybe_found w.front w.matched in
    record { text = w.text; passes = ap is_path w.before_is ∙ f.passes }

-- ---- to the grammar

first_from : (s : List ℕ) → IsText ends_path s → none (is 0x3A) s ≡ true → none (is 0x2F) s ≡ true → IsText ends_first s
first_from s t a b =
    record { escapes = t.escapes; chars = t.chars; others = none_or (is 0x3A) ends_name s a (none_or (is 0x2F) ends_path s b t.others) }

in_paths : (s : List ℕ) → Denotes rooted s → Denotes paths s
in_paths s (first_is m) = first_is m
in_paths s (second_is m) = second_is (first_is (only_is abs_path s m))

rooted_path : (c : ℕ) (s : List ℕ) → IsText no_query (c ∷ s) → is 0x2F c ≡ true → is_rooted (c ∷ s) ≡ true → Denotes paths (c ∷ s)
rooted_path c s t e h =
    let same : c ≡ 0x2F = eqb-true c 0x2F e in
    subst (λ x. Denotes paths (x ∷ s)) (sym same)
    (in_paths (0x2F ∷ s) (rooted_then s (subst (λ x. IsText no_query (x ∷ s)) same t) (subst (λ x. is_rooted (x ∷ s) ≡ true) same h)))

segment_then : (u v : List ℕ) → IsText ends_first u → (u ≡ [] → ⊥) → Path v → Denotes paths (u ++ v)
segment_then [] v t n r = absurd (n refl)
segment_then (c ∷ u) v t n r =
    second_is (second_is (first_is (both_are (text_some ends_first _ first_leaf c u t) (last_from (optional abs_path) v (path_then v r)) refl)))

relative_path : (c : ℕ) (s : List ℕ) → IsText ends_path (c ∷ s) → is 0x2F c ≡ false → none (is 0x3A) (before (is 0x2F) (c ∷ s)) ≡ true → Denotes paths (c ∷ s)
relative_path c s t e n = by (cut (is 0x2F) (c ∷ s)) where
  by : Cut (is 0x2F) (c ∷ s) → Denotes paths (c ∷ s)
  by (whole w) =
      let clear : none (is 0x3A) (c ∷ s) ≡ true = sym (ap (none (is 0x3A)) (before_whole (is 0x2F) (c ∷ s) w)) ∙ n in
      subst (Denotes paths) (append-nil (c ∷ s))
      (segment_then (c ∷ s) [] (first_from (c ∷ s) t clear w) (λ f. cc) (no_path refl))
  by (parts front d back w p f) =
      let clear : none (is 0x3A) front ≡ true =
      sym (ap (none (is 0x3A)) (ap (before (is 0x2F)) f ∙ before_cut (is 0x2F) front d back w p)) ∙ n in
      let mark : d ≡ 0x2F = eqb-true d 0x2F p in
      let here : IsText ends_path (front ++ d ∷ back) = subst (IsText ends_path) f t in
      let head : IsText ends_path front = text_front ends_path front d back (ap is_hex mark) here in
      subst (Denotes paths) (sym f)
      (segment_then front (d ∷ back) (first_from front head clear w) (some_front front f)
      (a_path back (text_behind ends_path (d ∷ []) back (text_behind ends_path front (d ∷ back) here)) (ap (λ x. x ∷ back) mark))) where
        some_front : (front : List ℕ) → c ∷ s ≡ front ++ d ∷ back → front ≡ [] → ⊥
        some_front [] f g = let same : c ≡ d = cc in false≢true (sym e ∙ ap (is 0x2F) same ∙ p)
        some_front (x ∷ xs) f g = cc

path_is : (s : List ℕ) → IsText no_query s → is_path s ≡ true → Denotes (optional paths) s
path_is [] t h = optional_none paths
path_is (c ∷ s) t h = optional_one paths (c ∷ s) (by (is 0x2F c) refl) where
  Rest : Bool
  Rest = none is_bracket (c ∷ s) && none (is 0x3A) (before (is 0x2F) (c ∷ s))

  by : (b : Bool) → is 0x2F c ≡ b → Denotes paths (c ∷ s)
  by true e = rooted_path c s t e (sym (cond-true (is 0x2F c) (is_rooted (c ∷ s)) Rest e) ∙ h)
  by false e =
      let k = and_parts (none is_bracket (c ∷ s)) (none (is 0x3A) (before (is 0x2F) (c ∷ s))) (sym (cond-false (is 0x2F c) (is_rooted (c ∷ s)) Rest e) ∙ h) in
      relative_path c s (path_text_from (c ∷ s) t k.0) e k.1

pub relative_then : (s : List ℕ) → IsText ends_query s → is_relative s ≡ true → Denotes relative_uri s
relative_then s t h = with_query_then (optional paths) s t (λ k. path_is (before (is 0x3F) s) k h)
