-- The shape of a URI is that of the text with one space for each run of blanks and of characters that are not in ASCII.
use Rattle.std.proofs.Common.{◌≡◌, ℕ, List, [], ◌∷◌, Bool, true, false, not, ◌&&◌, ◌||◌, cond, if◌then◌else◌, refl, ap, ap₂, sym, ◌∙◌, rules, tests, arith}
use Rattle.std.specs.List.{list_all}
use Rattle.std.proofs.lemmas.Bool.{and_left, and_right}
use Rattle.xsd_uris.specs.plain.UriShapes.{is, before, from, none, is_digit, is_hex, is_letter, is_scheme_char, is_bracket, is_nothing, begin_escape, are_escapes_whole}
use Rattle.xsd_uris.specs.plain.UriShapes.{is_address, is_path_or_nothing, is_port_and_path, is_behind_address, is_host_and_path, is_one, is_user, is_bracketed, is_rooted}
use Rattle.xsd_uris.specs.plain.UriShapes.{is_path, is_relative, is_scheme, is_behind_scheme, is_absolute, is_fragment, is_reference, has_uri_shape}
use Rattle.xsd_uris.proofs.RunsOfOthers.{is_other, onto_run, runs, runs-other, runs-kept, by_first, runs-is_nothing, IsAlike, runs-list_all}
use Rattle.xsd_uris.proofs.RunsOfOthers.{runs-none_pass, runs-before, runs-behind, runs-from}
use Rattle.xsd_uris.proofs.RunsOfAddresses.{other_is, other_hex, other_digit, runs-is_address}

-- ---- tests

other_is_at : (k : ℕ) → is_other k ≡ false → IsAlike false (is k)
other_is_at k apart c e = other_is k c apart e

other_bracket : IsAlike false is_bracket
other_bracket c e = search (rules, tests, arith)

other_letter : IsAlike false is_letter
other_letter c e = search (rules, tests, arith)

other_scheme_char : IsAlike false is_scheme_char
other_scheme_char c e = search (rules, tests, arith)

no_digit : IsAlike true (λ d. not (is_digit d))
no_digit c e = ap not (other_digit c e)

slash_or_bracket : IsAlike false (λ c. is 0x2F c || is 0x5D c)
slash_or_bracket c e = rw (other_is 0x2F c refl e, other_is 0x5D c refl e) refl

-- the first character passes
abbrev first : (ℕ → Bool) → List ℕ → Bool
first p [] = false
first p (c ∷ s) = p c

runs-first : (p : ℕ → Bool) → IsAlike false p → (s : List ℕ) → first p (runs s) ≡ first p s
runs-first p fail s = by_first (first p) false (λ c s e. fail c e) (λ c s e. refl) s

-- ---- escapes

escape_parts : (a : ℕ) (s : List ℕ) → begin_escape (a ∷ s) ≡ (is_hex a && first is_hex s)
escape_parts a [] = sym (and_right (is_hex a) false refl)
escape_parts a (b ∷ s) = refl

runs-begin_escape : (s : List ℕ) → begin_escape (runs s) ≡ begin_escape s
runs-begin_escape s =
    by_first begin_escape false (λ c s e. escape_parts c s ∙ and_left (is_hex c) (first is_hex s) (other_hex c e))
    (λ c s e. escape_parts c (runs s) ∙ ap (λ b. is_hex c && b) (runs-first is_hex other_hex s) ∙ sym (escape_parts c s)) s

no_escape : (c : ℕ) (s : List ℕ) → is_other c ≡ true → are_escapes_whole (c ∷ s) ≡ are_escapes_whole s
no_escape c s e = rw (other_is 0x25 c refl e) refl

escapes_onto : (s : List ℕ) → are_escapes_whole (onto_run s) ≡ are_escapes_whole s
escapes_onto [] = refl
escapes_onto (c ∷ s) = by_char (is_other c) refl where
  by_char : (b : Bool) → is_other c ≡ b → are_escapes_whole (onto_run (c ∷ s)) ≡ are_escapes_whole (c ∷ s)
  by_char true e = rw e refl
  by_char false e = rw e refl

runs-escapes : (s : List ℕ) → are_escapes_whole (runs s) ≡ are_escapes_whole s
runs-escapes [] = refl
runs-escapes (c ∷ s) = by_char (is_other c) refl (runs-escapes s) where
  by_char : (b : Bool) → is_other c ≡ b → are_escapes_whole (runs s) ≡ are_escapes_whole s → are_escapes_whole (runs (c ∷ s)) ≡ are_escapes_whole (c ∷ s)
  by_char true e h = ap are_escapes_whole (runs-other c s e) ∙ escapes_onto (runs s) ∙ h ∙ sym (no_escape c s e)
  by_char false e h = ap are_escapes_whole (runs-kept c s e) ∙ ap₂ (λ a b. (not (is 0x25 c) || a) && b) (runs-begin_escape s) h

-- ---- behind an address

runs-path_or_nothing : (s : List ℕ) → is_path_or_nothing (runs s) ≡ is_path_or_nothing s
runs-path_or_nothing s =
    by_first is_path_or_nothing false (λ c s e. and_left (is 0x2F c) (none is_bracket s) (other_is 0x2F c refl e))
    (λ c s e. ap (λ b. is 0x2F c && b) (runs-none_pass is_bracket other_bracket s)) s

port_other : (c : ℕ) (s : List ℕ) → is_other c ≡ true → is_port_and_path (c ∷ s) ≡ false
port_other c s e = rw (other_is 0x3A c refl e) (and_left (is 0x2F c) (none is_bracket s) (other_is 0x2F c refl e))

port_kept : (c : ℕ) (s : List ℕ) → is_other c ≡ false → is_port_and_path (c ∷ runs s) ≡ is_port_and_path (c ∷ s)
port_kept c s e = by_colon (is 0x3A c) where
  by_colon : (b : Bool)
      → is_path_or_nothing (if b then from (λ d. not (is_digit d)) (runs s) else c ∷ runs s) ≡ is_path_or_nothing (if b then from (λ d. not (is_digit d)) s else c ∷ s)
  by_colon true = ap is_path_or_nothing (runs-from (λ d. not (is_digit d)) no_digit s) ∙ runs-path_or_nothing (from (λ d. not (is_digit d)) s)
  by_colon false = ap (λ b. is 0x2F c && b) (runs-none_pass is_bracket other_bracket s)

runs-port_and_path : (s : List ℕ) → is_port_and_path (runs s) ≡ is_port_and_path s
runs-port_and_path s = by_first is_port_and_path false port_other port_kept s

-- ---- network paths

runs-user : (s : List ℕ) → is_user (runs s) ≡ is_user s
runs-user s =
    ap₂ ◌||◌ (runs-is_nothing s)
    (ap₂ ◌&&◌ (runs-none_pass (λ c. is 0x2F c || is 0x5D c) slash_or_bracket s)
    (runs-behind (is 0x40) (other_is_at 0x40 refl) is_one (λ c s e. runs-is_nothing s) s))

host_kept : (c : ℕ) (s : List ℕ) → is_other c ≡ false → is_host_and_path (c ∷ runs s) ≡ is_host_and_path (c ∷ s)
host_kept c s e =
    ap₂ ◌&&◌ (ap is_address (runs-before (is 0x5D) (other_is_at 0x5D refl) s) ∙ runs-is_address (before (is 0x5D) s))
    (runs-behind (is 0x5D) (other_is_at 0x5D refl) is_behind_address (λ c s e. runs-port_and_path s) s)

abbrev is_user_and_host : List ℕ → Bool
is_user_and_host s = is_user (before (is 0x5B) s) && is_host_and_path (from (is 0x5B) s)

runs-user_and_host : (s : List ℕ) → is_user_and_host (runs s) ≡ is_user_and_host s
runs-user_and_host s =
    ap₂ ◌&&◌ (ap is_user (runs-before (is 0x5B) (other_is_at 0x5B refl) s) ∙ runs-user (before (is 0x5B) s))
    (runs-behind (is 0x5B) (other_is_at 0x5B refl) is_host_and_path host_kept s)

bracketed_other : (a : ℕ) (s : List ℕ) → is_other a ≡ true → is_bracketed (a ∷ s) ≡ false
bracketed_other a [] e = refl
bracketed_other a (b ∷ s) e = and_left (is 0x2F a && is 0x2F b) (is_user_and_host s) (and_left (is 0x2F a) (is 0x2F b) (other_is 0x2F a refl e))

bracketed_kept : (a : ℕ) (s : List ℕ) → is_other a ≡ false → is_bracketed (a ∷ runs s) ≡ is_bracketed (a ∷ s)
bracketed_kept a s e = by_first (λ t. is_bracketed (a ∷ t)) false no_second second s where
  no_second : (b : ℕ) (t : List ℕ) → is_other b ≡ true → is_bracketed (a ∷ b ∷ t) ≡ false
  no_second b t other = and_left (is 0x2F a && is 0x2F b) (is_user_and_host t) (and_right (is 0x2F a) (is 0x2F b) (other_is 0x2F b refl other))

  second : (b : ℕ) (t : List ℕ) → is_other b ≡ false → is_bracketed (a ∷ b ∷ runs t) ≡ is_bracketed (a ∷ b ∷ t)
  second b t other = ap (λ x. (is 0x2F a && is 0x2F b) && x) (runs-user_and_host t)

runs-bracketed : (s : List ℕ) → is_bracketed (runs s) ≡ is_bracketed s
runs-bracketed s = by_first is_bracketed false bracketed_other bracketed_kept s

-- ---- paths

runs-rooted : (s : List ℕ) → is_rooted (runs s) ≡ is_rooted s
runs-rooted s = ap₂ ◌||◌ (runs-none_pass is_bracket other_bracket s) (runs-bracketed s)

abbrev is_unrooted : List ℕ → Bool
is_unrooted s = none is_bracket s && none (is 0x3A) (before (is 0x2F) s)

runs-unrooted : (s : List ℕ) → is_unrooted (runs s) ≡ is_unrooted s
runs-unrooted s =
    ap₂ ◌&&◌ (runs-none_pass is_bracket other_bracket s)
    (ap (none (is 0x3A)) (runs-before (is 0x2F) (other_is_at 0x2F refl) s) ∙ runs-none_pass (is 0x3A) (other_is_at 0x3A refl) (before (is 0x2F) s))

path_parts : (s : List ℕ) → is_path s ≡ (if first (is 0x2F) s then is_rooted s else is_unrooted s)
path_parts [] = refl
path_parts (c ∷ s) = refl

either_same : (a b c d e f : Bool) → a ≡ b → c ≡ d → e ≡ f → cond a c e ≡ cond b d f
either_same a b c d e f p q r = rw (p, q, r) refl

runs-path : (s : List ℕ) → is_path (runs s) ≡ is_path s
runs-path s =
    path_parts (runs s) ∙ either_same _ _ _ _ _ _ (runs-first (is 0x2F) (other_is_at 0x2F refl) s) (runs-rooted s) (runs-unrooted s) ∙ sym (path_parts s)

runs-relative : (s : List ℕ) → is_relative (runs s) ≡ is_relative s
runs-relative s = ap is_path (runs-before (is 0x3F) (other_is_at 0x3F refl) s) ∙ runs-path (before (is 0x3F) s)

-- ---- schemes

runs-scheme : (s : List ℕ) → is_scheme (runs s) ≡ is_scheme s
runs-scheme s =
    by_first is_scheme false (λ c s e. and_left (is_letter c) (list_all is_scheme_char s) (other_letter c e))
    (λ c s e. ap (λ b. is_letter c && b) (runs-list_all false is_scheme_char other_scheme_char s)) s

abbrev is_behind_colon : List ℕ → Bool
is_behind_colon s = not (is_nothing s) && (if first (is 0x2F) s then is_rooted (before (is 0x3F) s) else not (first is_bracket s))

behind_parts : (c : ℕ) (s : List ℕ) → is_behind_scheme (c ∷ s) ≡ is_behind_colon s
behind_parts c [] = refl
behind_parts c (d ∷ s) = refl

runs-behind_colon : (s : List ℕ) → is_behind_colon (runs s) ≡ is_behind_colon s
runs-behind_colon s =
    ap₂ ◌&&◌ (ap not (runs-is_nothing s))
    (either_same _ _ _ _ _ _ (runs-first (is 0x2F) (other_is_at 0x2F refl) s)
    (ap is_rooted (runs-before (is 0x3F) (other_is_at 0x3F refl) s) ∙ runs-rooted (before (is 0x3F) s))
    (ap not (runs-first is_bracket other_bracket s)))

scheme_kept : (c : ℕ) (s : List ℕ) → is_other c ≡ false → is_behind_scheme (c ∷ runs s) ≡ is_behind_scheme (c ∷ s)
scheme_kept c s e = behind_parts c (runs s) ∙ runs-behind_colon s ∙ sym (behind_parts c s)

runs-absolute : (s : List ℕ) → is_absolute (runs s) ≡ is_absolute s
runs-absolute s =
    ap₂ ◌&&◌ (ap is_scheme (runs-before (is 0x3A) (other_is_at 0x3A refl) s) ∙ runs-scheme (before (is 0x3A) s))
    (runs-behind (is 0x3A) (other_is_at 0x3A refl) is_behind_scheme scheme_kept s)

-- ---- references

runs-reference : (s : List ℕ) → is_reference (runs s) ≡ is_reference s
runs-reference s =
    ap₂ ◌&&◌ (ap (λ t. is_relative t || is_absolute t) (runs-before (is 0x23) (other_is_at 0x23 refl) s)
    ∙ ap₂ ◌||◌ (runs-relative (before (is 0x23) s)) (runs-absolute (before (is 0x23) s)))
    (runs-behind (is 0x23) (other_is_at 0x23 refl) is_fragment (λ c s e. runs-none_pass (is 0x23) (other_is_at 0x23 refl) s) s)

pub runs-shape : (s : List ℕ) → has_uri_shape (runs s) ≡ has_uri_shape s
runs-shape s = ap₂ ◌&&◌ (runs-escapes s) (runs-reference s)
