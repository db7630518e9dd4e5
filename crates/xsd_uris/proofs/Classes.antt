-- The characters that each part leaves out, and the productions of one character or an escape (RFC 2396, sections 2 and 3).
use Rattle.std.proofs.Common.{◌≡◌, ◌≤◌, ℕ, Bool, true, false, ◌||◌, refl, arith}
use Rattle.std.proofs.Common.{List, [], ◌∷◌, sym, subst}
use Rattle.std.specs.Prelude.{codes, Option}
use Rattle.std.proofs.lemmas.Bool.{or_from}
use Rattle.rng_model.specs.regexes.Expressions.{Regex, nothing_more, both, either, times, Denotes, first_is, second_is}
use Rattle.rng_model.specs.xsd.UriCharacters.{unreserved, escaped, uric, uric_no_slash, pchar, any_of, one_in, the}
use Rattle.xsd_uris.specs.plain.UriShapes.{is, is_bracket}
use Rattle.xsd_uris.proofs.Escapes.{is_char, IsText, no_text, texts_join, text_of_char}
use Rattle.xsd_uris.proofs.Notation.{the_is, times_keep, both_keep, either_keep, nothing_keep}
use Rattle.xsd_uris.proofs.Leaves.{IsLeaf, Leaf, far_from}

-- ---- the characters that are not in a part

-- a query, and a fragment
abbrev pub ends_query : ℕ → Bool
ends_query = is 0x23

-- a path, with its `/` and `;`
abbrev pub ends_path : ℕ → Bool
ends_path c = is 0x3F c || (is 0x23 c || is_bracket c)

-- a registered name
abbrev pub ends_name : ℕ → Bool
ends_name c = is 0x2F c || ends_path c

-- a segment before its first `;`, and each of its parameters
abbrev pub ends_segment : ℕ → Bool
ends_segment c = is 0x3B c || ends_name c

-- a user
abbrev pub ends_user : ℕ → Bool
ends_user c = is 0x40 c || ends_name c

-- the first segment of a relative path
abbrev pub ends_first : ℕ → Bool
ends_first c = is 0x3A c || ends_name c

-- the first character of an opaque part
abbrev pub ends_opaque : ℕ → Bool
ends_opaque c = is 0x2F c || (is_bracket c || is 0x23 c)

-- ---- beyond ASCII

far_bracket : (c : ℕ) → 128 ≤ c → is_bracket c ≡ false
far_bracket c l = or_from _ _ (far_from 0x5B c (omega arith) l) (far_from 0x5D c (omega arith) l)

far_path : (c : ℕ) → 128 ≤ c → ends_path c ≡ false
far_path c l = or_from _ _ (far_from 0x3F c (omega arith) l) (or_from _ _ (far_from 0x23 c (omega arith) l) (far_bracket c l))

far_name : (c : ℕ) → 128 ≤ c → ends_name c ≡ false
far_name c l = or_from _ _ (far_from 0x2F c (omega arith) l) (far_path c l)

-- ---- productions

unreserved_leaf : IsLeaf unreserved
unreserved_leaf = ((refl, (refl, refl)), (refl, refl))

escaped_leaf : IsLeaf escaped
escaped_leaf = (refl, (refl, refl))

pub uric_leaf : Leaf ends_query uric
uric_leaf = record {
  leaf = (refl, (unreserved_leaf, (escaped_leaf, refl)));
  spares = record { percent = refl; hexes = refl };
  far = λ c l. far_from 0x23 c (omega arith) l;
  exact = refl;
  embed = λ u m. second_is (second_is (first_is m));
}

pub opaque_leaf : Leaf ends_opaque uric_no_slash
opaque_leaf = record {
  leaf = (unreserved_leaf, (escaped_leaf, (refl, refl)));
  spares = record { percent = refl; hexes = refl };
  far = λ c l. or_from _ _ (far_from 0x2F c (omega arith) l) (or_from _ _ (far_bracket c l) (far_from 0x23 c (omega arith) l));
  exact = refl;
  embed = λ u m. second_is (first_is m);
}

pub pchar_leaf : Leaf ends_segment pchar
pchar_leaf = record {
  leaf = (unreserved_leaf, (escaped_leaf, (refl, refl)));
  spares = record { percent = refl; hexes = refl };
  far = λ c l. or_from _ _ (far_from 0x3B c (omega arith) l) (far_name c l);
  exact = refl;
  embed = λ u m. second_is (first_is m);
}

pub user_leaf : Leaf ends_user (any_of (unreserved ∷ escaped ∷ one_in (codes ";:&=+$,") ∷ []))
user_leaf = record {
  leaf = (unreserved_leaf, (escaped_leaf, (refl, refl)));
  spares = record { percent = refl; hexes = refl };
  far = λ c l. or_from _ _ (far_from 0x40 c (omega arith) l) (far_name c l);
  exact = refl;
  embed = λ u m. second_is (first_is m);
}

pub first_leaf : Leaf ends_first (any_of (unreserved ∷ escaped ∷ one_in (codes ";@&=+$,") ∷ []))
first_leaf = record {
  leaf = (unreserved_leaf, (escaped_leaf, (refl, refl)));
  spares = record { percent = refl; hexes = refl };
  far = λ c l. or_from _ _ (far_from 0x3A c (omega arith) l) (far_name c l);
  exact = refl;
  embed = λ u m. second_is (first_is m);
}

pub name_leaf : Leaf ends_name (any_of (unreserved ∷ escaped ∷ one_in (codes "$,;:@&=+") ∷ []))
name_leaf = record {
  leaf = (unreserved_leaf, (escaped_leaf, (refl, refl)));
  spares = record { percent = refl; hexes = refl };
  far = far_name;
  exact = refl;
  embed = λ u m. second_is (first_is m);
}

-- ---- texts of parts

module _ (p : ℕ → Bool) where
  pub both_text : (a b : Regex) → ((s : List ℕ) → Denotes a s → IsText p s) → ((s : List ℕ) → Denotes b s → IsText p s)
      → (s : List ℕ) → Denotes (both a b) s → IsText p s
  both_text = both_keep (IsText p) (no_text p) (texts_join p)

  pub either_text : (a b : Regex) → ((s : List ℕ) → Denotes a s → IsText p s) → ((s : List ℕ) → Denotes b s → IsText p s)
      → (s : List ℕ) → Denotes (either a b) s → IsText p s
  either_text = either_keep (IsText p) (no_text p) (texts_join p)

  pub times_text : (n : ℕ) (o : Option ℕ) (r : Regex) → ((s : List ℕ) → Denotes r s → IsText p s) → (s : List ℕ) → Denotes (times n o r) s → IsText p s
  times_text = times_keep (IsText p) (no_text p) (texts_join p)

  pub nothing_text : (s : List ℕ) → Denotes nothing_more s → IsText p s
  nothing_text = nothing_keep (IsText p) (no_text p) (texts_join p)

  pub the_text : (c : ℕ) → is 0x25 c ≡ false → is_char c ≡ true → p c ≡ false → (s : List ℕ) → Denotes (the c) s → IsText p s
  the_text c e k h s m = subst (IsText p) (sym (the_is c s m)) (text_of_char p c e k h)
