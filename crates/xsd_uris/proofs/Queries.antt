-- A path and a query, and the paths that references begin with.
use Rattle.std.proofs.Common.{◌≡◌, ℕ, List, [], ◌∷◌, ◌++◌, true, ◌&&◌}
use Rattle.std.proofs.Common.{refl, sym, ap, subst, ◌∙◌, inl, inr}
use Rattle.std.proofs.lemmas.Bool.{and_parts, or_cases, or_left, or_right, false≢true, eqb-true}
use Rattle.std.proofs.lemmas.List.{append-nil}
use Rattle.rng_model.specs.regexes.Expressions.{Regex, nothing_more, both, Denotes, both_are, first_is, second_is}
use Rattle.rng_model.specs.xsd.UriCharacters.{in_order, any_of, optional, the, uric}
use Rattle.rng_model.specs.xsd.Uris.{ipv6_address, query, abs_path, net_path}
use Rattle.xsd_uris.specs.plain.UriShapes.{is, none, is_bracket, is_hex, before, from, is_user, is_host_and_path, is_bracketed, is_rooted}
use Rattle.xsd_uris.proofs.Escapes.{IsText, no_text, texts_join, text_of_char, text_front, text_behind, text_less, text_or, none_or, none_left}
use Rattle.xsd_uris.proofs.Notation.{last_is, last_from, only_is, Behind, the_before, before_the, optional_none, optional_one, optional_is}
use Rattle.xsd_uris.proofs.Leaves.{many_text, text_many}
use Rattle.xsd_uris.proofs.Classes.{ends_path, ends_query, uric_leaf}
use Rattle.xsd_uris.proofs.Plain.{plain_text}
use Rattle.xsd_uris.proofs.Paths.{abs_path_text, text_abs_path}
use Rattle.xsd_uris.proofs.Cuts.{Cut, whole, parts, cut, before_whole, before_cut}
use Rattle.xsd_uris.proofs.NetworkPaths.{Addressed, Network, plain, addressed, net_path_if, user_text, port_text, path_text}
use Rattle.xsd_uris.proofs.AddressTests.{no_query_in, no_fragment_in, no_bracket_in, addressed_passes}
use Rattle.xsd_uris.proofs.AddressParts.{no_query, path_text_from, addressed_then, addressed_from}

-- ---- paths that begin with `/`

pub path_is_text : (s : List ℕ) → IsText ends_path s → IsText no_query s
path_is_text s t =
    record { escapes = t.escapes; chars = t.chars; others = none_or (is 0x3F) (is 0x23) s (no_query_in s t) (no_fragment_in s t) }

-- what is before the query
pub record FromRoot (s : List ℕ) : Type 0 where
  pub rest : List ℕ
  pub begins : s ≡ 0x2F ∷ rest
  pub text : IsText no_query s
  pub passes : is_rooted s ≡ true

slash_text : (s : List ℕ) → IsText ends_path s → IsText ends_path (0x2F ∷ s)
slash_text s t = texts_join ends_path (0x2F ∷ []) s (text_of_char ends_path 0x2F refl refl refl) t

pub plain_root : (s rest : List ℕ) → IsText ends_path rest → s ≡ 0x2F ∷ rest → FromRoot s
plain_root s rest t e =
    let u : IsText ends_path s = subst (IsText ends_path) (sym e) (slash_text rest t) in
    record { rest = rest; begins = e; text = path_is_text s u; passes = or_left _ _ (no_bracket_in s u) }

addressed_text : (s : List ℕ) → Addressed s → IsText no_query s
addressed_text s a = subst (IsText no_query) (sym a.whole)
    (texts_join no_query a.user _ (path_is_text a.user (user_text a.user a.is_user))
    (texts_join no_query (0x5B ∷ []) _ (text_of_char no_query 0x5B refl refl refl)
    (texts_join no_query a.address _ (plain_text no_query ipv6_address refl a.address a.is_ipv6)
    (texts_join no_query (0x5D ∷ []) _ (text_of_char no_query 0x5D refl refl refl)
    (texts_join no_query a.ports a.path (path_is_text a.ports (port_text a.ports a.is_port)) (path_is_text a.path (path_text a.path a.is_path)))))))

addressed_root : (s rest : List ℕ) → Addressed rest → s ≡ 0x2F ∷ 0x2F ∷ rest → FromRoot s
addressed_root s rest a e =
    record {
      rest = 0x2F ∷ rest;
      begins = e;
      text = subst (IsText no_query) (sym e)
          (texts_join no_query (0x2F ∷ 0x2F ∷ []) rest (path_is_text _ (slash_text _ (slash_text [] (no_text ends_path)))) (addressed_text rest a));
      passes = or_right (none is_bracket s) (is_bracketed s) (ap is_bracketed e ∙ addressed_passes rest a);
    }

abbrev pub rooted : Regex
rooted = any_of (net_path ∷ abs_path ∷ [])

pub rooted_if : (s : List ℕ) → Denotes rooted s → FromRoot s
rooted_if s (first_is m) = let n = net_path_if s m in by n.rest n.network n.whole where
  by : (t : List ℕ) → Network t → s ≡ 0x2F ∷ 0x2F ∷ t → FromRoot s
  by t (plain k) e = plain_root s (0x2F ∷ t) (slash_text t k) e
  by t (addressed a) e = addressed_root s t a e
rooted_if s (second_is m) = let r = abs_path_text s (only_is abs_path s m) in plain_root s r.rest r.text r.whole

bracketed_then : (s : List ℕ) → IsText no_query s → is_bracketed s ≡ true → Denotes net_path s
bracketed_then [] t h = absurd (false≢true h)
bracketed_then (a ∷ []) t h = absurd (false≢true h)
bracketed_then (a ∷ b ∷ s) t h =
    let f = and_parts (is 0x2F a && is 0x2F b) (is_user (before (is 0x5B) s) && is_host_and_path (from (is 0x5B) s)) h in
    let g = and_parts (is 0x2F a) (is 0x2F b) f.0 in
    let k = and_parts (is_user (before (is 0x5B) s)) (is_host_and_path (from (is 0x5B) s)) f.1 in
    subst (Denotes net_path) (ap (λ x. x ∷ 0x2F ∷ s) (sym (eqb-true a 0x2F g.0)) ∙ ap (λ x. a ∷ x ∷ s) (sym (eqb-true b 0x2F g.1)))
    (addressed_then s (addressed_from s (text_behind no_query (a ∷ b ∷ []) s t) k.0 k.1))

pub rooted_then : (s : List ℕ) → IsText no_query (0x2F ∷ s) → is_rooted (0x2F ∷ s) ≡ true → Denotes rooted (0x2F ∷ s)
rooted_then s t h = elim (or_cases (none is_bracket (0x2F ∷ s)) (is_bracketed (0x2F ∷ s)) h) [
  | inl n ↦ second_is (first_is (text_abs_path s (path_text_from s (text_behind no_query (0x2F ∷ []) s t) n)))
  | inr b ↦ first_is (bracketed_then (0x2F ∷ s) t b)
]

-- ---- a query behind a text

abbrev pub some_query : Regex
some_query = in_order (the 0x3F ∷ query ∷ [])

-- nothing, or `?` and a query
pub data Query (s : List ℕ) : Type 0 where
  no_query_behind : s ≡ [] → Query s
  a_query : (rest : List ℕ) → IsText ends_query rest → s ≡ 0x3F ∷ rest → Query s

query_if : (s : List ℕ) → Denotes (optional some_query) s → Query s
query_if s m = elim (optional_is some_query s m) [
  | inl e ↦ no_query_behind e
  | inr h ↦
      let b : Behind 0x3F (both query nothing_more) s = the_before 0x3F _ s h in
      a_query b.rest (many_text ends_query uric uric_leaf b.rest (last_is query b.rest b.matched)) b.whole
]

query_then : (s : List ℕ) → Query s → Denotes (optional some_query) s
query_then s (no_query_behind e) = subst (Denotes (optional some_query)) (sym e) (optional_none some_query)
query_then s (a_query rest t e) =
    subst (Denotes (optional some_query)) (sym e)
    (optional_one some_query (0x3F ∷ rest) (before_the 0x3F (both query nothing_more) rest (last_from query rest (text_many ends_query uric uric_leaf rest t))))

-- a text without `?`, and a query
pub record WithQuery (r : Regex) (s : List ℕ) : Type 0 where
  pub front : List ℕ
  pub matched : Denotes r front
  pub text : IsText ends_query s
  pub before_is : before (is 0x3F) s ≡ front

pub with_query_if : (r : Regex) → ((s : List ℕ) → Denotes r s → IsText no_query s) → (s : List ℕ) → Denotes (in_order (r ∷ optional some_query ∷ [])) s → WithQuery r s
with_query_if r inside s (both_are {s = u} {t = v} p q e) = by (inside u p) (query_if v (last_is (optional some_query) v q)) where
  calm : IsText no_query u → none (is 0x3F) u ≡ true
  calm t = none_left (is 0x3F) (is 0x23) u t.others

  by : IsText no_query u → Query v → WithQuery r s
  by t (no_query_behind f) =
      let same : s ≡ u = e ∙ ap (λ x. u ++ x) f ∙ append-nil u in
      record {
        front = u;
        matched = p;
        text = subst (IsText ends_query) (sym same) (text_less ends_query (is 0x3F) u t);
        before_is = ap (before (is 0x3F)) same ∙ before_whole (is 0x3F) u (calm t);
      }
  by t (a_query rest k f) =
      let same : s ≡ u ++ 0x3F ∷ rest = e ∙ ap (λ x. u ++ x) f in
      record {
        front = u;
        matched = p;
        text = subst (IsText ends_query) (sym same)
            (texts_join ends_query u (0x3F ∷ rest) (text_less ends_query (is 0x3F) u t)
            (texts_join ends_query (0x3F ∷ []) rest (text_of_char ends_query 0x3F refl refl refl) k));
        before_is = ap (before (is 0x3F)) same ∙ before_cut (is 0x3F) u 0x3F rest (calm t) refl;
      }

pub with_query_then : (r : Regex) (s : List ℕ) → IsText ends_query s → (IsText no_query (before (is 0x3F) s) → Denotes r (before (is 0x3F) s))
    → Denotes (in_order (r ∷ optional some_query ∷ [])) s
with_query_then r s t matched = by (cut (is 0x3F) s) where
  joined : (u v : List ℕ) → Denotes r u → Query v → s ≡ u ++ v → Denotes (in_order (r ∷ optional some_query ∷ [])) s
  joined u v m q e = both_are m (last_from (optional some_query) v (query_then v q)) e

  by : Cut (is 0x3F) s → Denotes (in_order (r ∷ optional some_query ∷ [])) s
  by (whole w) =
      let same : before (is 0x3F) s ≡ s = before_whole (is 0x3F) s w in
      joined (before (is 0x3F) s) [] (matched (subst (IsText no_query) (sym same) (text_or ends_query (is 0x3F) s t w))) (no_query_behind refl)
      (sym same ∙ sym (append-nil (before (is 0x3F) s)))
  by (parts front c back w p e) =
      let same : before (is 0x3F) s ≡ front = ap (before (is 0x3F)) e ∙ before_cut (is 0x3F) front c back w p in
      let cuts : IsText ends_query (front ++ c ∷ back) = subst (IsText ends_query) e t in
      let mark : c ≡ 0x3F = eqb-true c 0x3F p in
      joined (before (is 0x3F) s) (c ∷ back)
      (matched (subst (IsText no_query) (sym same) (text_or ends_query (is 0x3F) front (text_front ends_query front c back (ap is_hex mark) cuts) w)))
      (a_query back (text_behind ends_query (c ∷ []) back (text_behind ends_query front (c ∷ back) cuts)) (ap (λ x. x ∷ back) mark))
      (e ∙ ap (λ x. x ++ c ∷ back) (sym same))
