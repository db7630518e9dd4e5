-- What the tests say of a network path with an address.
use Rattle.std.proofs.Common.{◌≡◌, ℕ, List, [], ◌∷◌, ◌++◌, Bool, true, false, not, ◌&&◌, ◌||◌}
use Rattle.std.proofs.Common.{refl, sym, ap, ◌∙◌}
use Rattle.std.proofs.lemmas.Bool.{and_from, or_right}
use Rattle.std.proofs.lemmas.List.{append-nil}
use Rattle.rng_model.specs.regexes.Expressions.{Denotes, one_is}
use Rattle.rng_model.specs.xsd.UriCharacters.{digit}
use Rattle.rng_model.specs.xsd.Uris.{port, ipv6_address}
use Rattle.xsd_uris.specs.plain.UriShapes.{is, none, is_bracket, is_digit, before, from, is_address, is_path_or_nothing, is_port_and_path, is_behind_address}
use Rattle.xsd_uris.specs.plain.UriShapes.{is_host_and_path, is_one, is_user, is_nothing, is_bracketed}
use Rattle.xsd_uris.proofs.Escapes.{IsText, all_join, none_or, none_left, none_right}
use Rattle.xsd_uris.proofs.Notation.{times_keep}
use Rattle.xsd_uris.proofs.Classes.{ends_path, ends_name, ends_user}
use Rattle.xsd_uris.proofs.Plain.{plain_text}
use Rattle.xsd_uris.proofs.Cuts.{before_cut, from_cut, from_whole}
use Rattle.xsd_uris.proofs.Addresses.{address_if}
use Rattle.xsd_uris.proofs.NetworkPaths.{User, no_user, a_user, Port, no_port, a_port, Path, no_path, a_path, Addressed, user_text}

-- ---- what is not in a text

module _ (s : List ℕ) (t : IsText ends_path s) where
  pub no_query_in : none (is 0x3F) s ≡ true
  no_query_in = none_left (is 0x3F) (λ c. is 0x23 c || is_bracket c) s t.others

  no_others : none (λ c. is 0x23 c || is_bracket c) s ≡ true
  no_others = none_right (is 0x3F) (λ c. is 0x23 c || is_bracket c) s t.others

  pub no_fragment_in : none (is 0x23) s ≡ true
  no_fragment_in = none_left (is 0x23) is_bracket s no_others

  pub no_bracket_in : none is_bracket s ≡ true
  no_bracket_in = none_right (is 0x23) is_bracket s no_others

  pub no_open_in : none (is 0x5B) s ≡ true
  no_open_in = none_left (is 0x5B) (is 0x5D) s no_bracket_in

module _ (s : List ℕ) (t : IsText ends_user s) where
  pub no_at_in : none (is 0x40) s ≡ true
  no_at_in = none_left (is 0x40) ends_name s t.others

  no_name_end : none ends_name s ≡ true
  no_name_end = none_right (is 0x40) ends_name s t.others

  no_path_end : none ends_path s ≡ true
  no_path_end = none_right (is 0x2F) ends_path s no_name_end

  no_hash_end : none (λ c. is 0x23 c || is_bracket c) s ≡ true
  no_hash_end = none_right (is 0x3F) (λ c. is 0x23 c || is_bracket c) s no_path_end

  pub no_slash_or_close_in : none (λ c. is 0x2F c || is 0x5D c) s ≡ true
  no_slash_or_close_in =
      none_or (is 0x2F) (is 0x5D) s (none_left (is 0x2F) ends_path s no_name_end)
      (none_right (is 0x5B) (is 0x5D) s (none_right (is 0x23) is_bracket s no_hash_end))

-- ---- digits

abbrev pub no_digit : ℕ → Bool
no_digit d = not (is_digit d)

pub digits_none : (s : List ℕ) → Denotes port s → none no_digit s ≡ true
digits_none = times_keep (λ s. none no_digit s ≡ true) refl (all_join (λ c. not (no_digit c))) _ _ digit one where
  twice : (b : Bool) → b ≡ true → (not (not b) && true) ≡ true
  twice true h = refl
  twice false h = h

  one : (s : List ℕ) → Denotes digit s → none no_digit s ≡ true
  one _ (one_is {c} h) = twice (is_digit c) h

-- ---- the tests

user_passes : (s : List ℕ) → User s → is_user s ≡ true
user_passes s (no_user e) = ap is_user e
user_passes s (a_user name t e) = ap is_user e ∙ or_right (is_nothing (name ++ 0x40 ∷ [])) _ (and_from _ _ clear one) where
  clear : none (λ c. is 0x2F c || is 0x5D c) (name ++ 0x40 ∷ []) ≡ true
  clear = all_join (λ c. not (is 0x2F c || is 0x5D c)) name (0x40 ∷ []) (no_slash_or_close_in name t) refl

  one : is_one (from (is 0x40) (name ++ 0x40 ∷ [])) ≡ true
  one = ap is_one (from_cut (is 0x40) name 0x40 [] (no_at_in name t) refl)

path_passes : (s : List ℕ) → Path s → is_path_or_nothing s ≡ true
path_passes s (no_path e) = ap is_path_or_nothing e
path_passes s (a_path rest t e) = ap is_path_or_nothing e ∙ no_bracket_in rest t

port_passes : (p s : List ℕ) → Port p → Path s → is_port_and_path (p ++ s) ≡ true
port_passes p s (no_port e) r = ap (λ x. is_port_and_path (x ++ s)) e ∙ alone r where
  alone : Path s → is_port_and_path s ≡ true
  alone (no_path f) = ap is_port_and_path f
  alone (a_path rest t f) = ap is_port_and_path f ∙ no_bracket_in rest t
port_passes p s (a_port digits m e) r =
    ap (λ x. is_port_and_path (x ++ s)) e ∙ ap is_path_or_nothing (behind r) ∙ path_passes s r where
      behind : Path s → from no_digit (digits ++ s) ≡ s
      behind (no_path f) =
          ap (λ x. from no_digit (digits ++ x)) f ∙ ap (from no_digit) (append-nil digits) ∙ from_whole no_digit digits (digits_none digits m) ∙ sym f
      behind (a_path rest t f) =
          ap (λ x. from no_digit (digits ++ x)) f ∙ from_cut no_digit digits 0x2F rest (digits_none digits m) refl ∙ sym f

module _ (s : List ℕ) (a : Addressed s) where
  behind : List ℕ → List ℕ
  behind address = address ++ 0x5D ∷ (a.ports ++ a.path)

  front_is : before (is 0x5B) s ≡ a.user
  unfolding behind
  front_is = ap (before (is 0x5B)) a.whole ∙ before_cut (is 0x5B) a.user 0x5B (behind a.address) (no_open_in a.user (user_text a.user a.is_user)) refl

  rest_is : from (is 0x5B) s ≡ 0x5B ∷ behind a.address
  unfolding behind
  rest_is = ap (from (is 0x5B)) a.whole ∙ from_cut (is 0x5B) a.user 0x5B (behind a.address) (no_open_in a.user (user_text a.user a.is_user)) refl

  no_close : none (is 0x5D) a.address ≡ true
  no_close = let t = plain_text (is 0x5D) ipv6_address refl a.address a.is_ipv6 in t.others

  address_passes : is_address (before (is 0x5D) (behind a.address)) ≡ true
  unfolding behind
  address_passes = ap is_address (before_cut (is 0x5D) a.address 0x5D (a.ports ++ a.path) no_close refl) ∙ address_if a.address a.is_ipv6

  rest_passes : is_behind_address (from (is 0x5D) (behind a.address)) ≡ true
  unfolding behind
  rest_passes =
      ap is_behind_address (from_cut (is 0x5D) a.address 0x5D (a.ports ++ a.path) no_close refl)
      ∙ port_passes a.ports a.path a.is_port a.is_path

  pub addressed_passes : is_bracketed (0x2F ∷ 0x2F ∷ s) ≡ true
  addressed_passes =
      and_from _ _ (ap is_user front_is ∙ user_passes a.user a.is_user)
      (ap is_host_and_path rest_is ∙ and_from _ _ address_passes rest_passes)
