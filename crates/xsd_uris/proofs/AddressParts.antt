-- The parts of a network path that passes the tests.
use Rattle.std.proofs.Common.{◌≡◌, ℕ, List, [], ◌∷◌, ◌++◌, Bool, true, false, not, ◌&&◌, ◌||◌}
use Rattle.std.proofs.Common.{refl, sym, ap, subst, ◌∙◌, inl, inr}
use Rattle.std.proofs.lemmas.Bool.{and_parts, or_cases, not-true, not-false, false≢true, eqb-true, cond-true, cond-false}
use Rattle.std.proofs.lemmas.List.{append_assoc, append-nil}
use Rattle.rng_model.specs.regexes.Expressions.{nothing_more, both, Denotes, both_are, first_is, second_is, one_is}
use Rattle.rng_model.specs.xsd.UriCharacters.{in_order, optional, the, digit}
use Rattle.rng_model.specs.xsd.Uris.{port, ipv6_address, host, hostport, userinfo, server, authority, abs_path, net_path}
use Rattle.xsd_uris.specs.plain.UriShapes.{is, none, is_bracket, is_digit, is_hex, before, from, is_address, is_path_or_nothing, is_port_and_path, is_behind_address}
use Rattle.xsd_uris.specs.plain.UriShapes.{is_host_and_path, is_one, is_user, is_nothing}
use Rattle.xsd_uris.proofs.Escapes.{IsText, all_front, text_front, text_behind, none_or, none_left, none_right}
use Rattle.xsd_uris.proofs.Notation.{last_from, before_the, the_from, many_none, many_more, optional_none, optional_one}
use Rattle.xsd_uris.proofs.Leaves.{text_many}
use Rattle.xsd_uris.proofs.Classes.{ends_path, ends_user, user_leaf}
use Rattle.xsd_uris.proofs.Paths.{text_abs_path}
use Rattle.xsd_uris.proofs.Cuts.{Cut, whole, parts, cut, from_whole, before_cut, from_cut}
use Rattle.xsd_uris.proofs.Addresses.{nothing_in, address_then}
use Rattle.xsd_uris.proofs.NetworkPaths.{User, no_user, a_user, Port, no_port, a_port, Path, no_path, a_path, Addressed}
use Rattle.xsd_uris.proofs.AddressTests.{no_digit}

-- ---- to the grammar

user_then : (s : List ℕ) → User s → Denotes (optional (in_order (userinfo ∷ the 0x40 ∷ []))) s
user_then s (no_user e) = subst (Denotes _) (sym e) (optional_none _)
user_then s (a_user name t e) =
    optional_one _ s (both_are (text_many ends_user _ user_leaf name t) (last_from (the 0x40) (0x40 ∷ []) (the_from 0x40)) e)

port_then : (s : List ℕ) → Port s → Denotes (optional (in_order (the 0x3A ∷ port ∷ []))) s
port_then s (no_port e) = subst (Denotes _) (sym e) (optional_none _)
port_then s (a_port digits m e) =
    subst (Denotes _) (sym e) (optional_one _ (0x3A ∷ digits) (before_the 0x3A (both port nothing_more) digits (last_from port digits m)))

pub path_then : (s : List ℕ) → Path s → Denotes (optional abs_path) s
path_then s (no_path e) = subst (Denotes _) (sym e) (optional_none abs_path)
path_then s (a_path rest t e) = subst (Denotes (optional abs_path)) (sym e) (optional_one abs_path (0x2F ∷ rest) (text_abs_path rest t))

module _ (s : List ℕ) (a : Addressed s) where
  hosts : Denotes host (0x5B ∷ (a.address ++ 0x5D ∷ []))
  hosts = second_is (second_is (first_is (before_the 0x5B (in_order (ipv6_address ∷ the 0x5D ∷ [])) (a.address ++ 0x5D ∷ [])
      (both_are a.is_ipv6 (last_from (the 0x5D) (0x5D ∷ []) (the_from 0x5D)) refl))))

  located_host : List ℕ
  located_host = (0x5B ∷ (a.address ++ 0x5D ∷ [])) ++ a.ports

  server_is : Denotes server (a.user ++ located_host)
  unfolding located_host
  server_is = optional_one _ _ (both_are (user_then a.user a.is_user)
      (last_from hostport _ (both_are hosts (last_from (optional (in_order (the 0x3A ∷ port ∷ []))) a.ports (port_then a.ports a.is_port)) refl)) refl)

  joined : s ≡ (a.user ++ located_host) ++ a.path
  unfolding located_host
  joined = a.whole ∙ ap (λ x. a.user ++ 0x5B ∷ x) (sym (append_assoc a.address (0x5D ∷ []) (a.ports ++ a.path)) ∙ sym (append_assoc (a.address ++ 0x5D ∷ []) a.ports a.path))
      ∙ sym (append_assoc a.user ((0x5B ∷ (a.address ++ 0x5D ∷ [])) ++ a.ports) a.path)

  pub addressed_then : Denotes net_path (0x2F ∷ 0x2F ∷ s)
  addressed_then =
      before_the 0x2F (in_order (the 0x2F ∷ authority ∷ optional abs_path ∷ [])) (0x2F ∷ s)
      (before_the 0x2F (in_order (authority ∷ optional abs_path ∷ [])) s
      (both_are (first_is server_is) (last_from (optional abs_path) a.path (path_then a.path a.is_path)) joined))

-- ---- from the tests

abbrev pub no_query : ℕ → Bool
no_query c = is 0x3F c || is 0x23 c

pub path_text_from : (s : List ℕ) → IsText no_query s → none is_bracket s ≡ true → IsText ends_path s
path_text_from s t n =
    record {
      escapes = t.escapes;
      chars = t.chars;
      others = none_or (is 0x3F) (λ c. is 0x23 c || is_bracket c) s (none_left (is 0x3F) (is 0x23) s t.others)
          (none_or (is 0x23) is_bracket s (none_right (is 0x3F) (is 0x23) s t.others) n);
    }

digits_from : (s : List ℕ) → none no_digit s ≡ true → Denotes port s
digits_from [] h = many_none digit
digits_from (c ∷ s) h =
    let f = and_parts (not (no_digit c)) (none no_digit s) h in
    many_more digit (c ∷ []) s (one_is (not-false (is_digit c) (not-true (no_digit c) f.0))) (digits_from s f.1)

user_name : (name : List ℕ) → IsText no_query name → none (is 0x5B) name ≡ true → none (is 0x40) name ≡ true
    → none (λ c. is 0x2F c || is 0x5D c) name ≡ true → IsText ends_user name
user_name s t o a n =
    record {
      escapes = t.escapes;
      chars = t.chars;
      others = none_or (is 0x40) _ s a (none_or (is 0x2F) ends_path s (none_left (is 0x2F) (is 0x5D) s n)
          (let p = path_text_from s t (none_or (is 0x5B) (is 0x5D) s o (none_right (is 0x2F) (is 0x5D) s n)) in p.others));
    }

user_from : (s : List ℕ) → IsText no_query s → none (is 0x5B) s ≡ true → is_user s ≡ true → User s
user_from s t o h = elim (or_cases (is_nothing s) (none (λ c. is 0x2F c || is 0x5D c) s && is_one (from (is 0x40) s)) h) [
  | inl e ↦ no_user (nothing_in s e)
  | inr e ↦ let f = and_parts (none (λ c. is 0x2F c || is 0x5D c) s) (is_one (from (is 0x40) s)) e in by f.0 f.1 (cut (is 0x40) s)
] where
  by : none (λ c. is 0x2F c || is 0x5D c) s ≡ true → is_one (from (is 0x40) s) ≡ true → Cut (is 0x40) s → User s
  by n k (whole w) = absurd (false≢true (sym (ap is_one (from_whole (is 0x40) s w)) ∙ k))
  by n k (parts name c back w p e) =
      a_user name (user_name name (text_front no_query name c back at_is (subst (IsText no_query) e t))
      (all_front (λ d. not (is 0x5B d)) name (c ∷ back) (subst (λ x. none (is 0x5B) x ≡ true) e o)) w
      (all_front (λ d. not (is 0x2F d || is 0x5D d)) name (c ∷ back) (subst (λ x. none (λ d. is 0x2F d || is 0x5D d) x ≡ true) e n)))
      (e ∙ ap (λ x. name ++ x ∷ back) (eqb-true c 0x40 p) ∙ ap (λ x. name ++ 0x40 ∷ x) (nothing_in back only)) where
        at_is : is_hex c ≡ false
        at_is = ap is_hex (eqb-true c 0x40 p)

        only : is_nothing back ≡ true
        only = sym (ap is_one (ap (from (is 0x40)) e ∙ from_cut (is 0x40) name c back w p)) ∙ k

pub path_from : (s : List ℕ) → IsText no_query s → is_path_or_nothing s ≡ true → Path s
path_from [] t h = no_path refl
path_from (c ∷ s) t h =
    let f = and_parts (is 0x2F c) (none is_bracket s) h in
    a_path s (path_text_from s (text_behind no_query (c ∷ []) s t) f.1) (ap (λ x. x ∷ s) (eqb-true c 0x2F f.0))

-- a port and a path
record PortAndPath (s : List ℕ) : Type 0 where
  ports : List ℕ
  path : List ℕ
  is_port : Port ports
  is_path : Path path
  whole : s ≡ ports ++ path

port_and_path : (s : List ℕ) → IsText no_query s → is_port_and_path s ≡ true → PortAndPath s
port_and_path [] t h = record { ports = []; path = []; is_port = no_port refl; is_path = no_path refl; whole = refl }
port_and_path (c ∷ s) t h = by (is 0x3A c) refl where
  digits_then_path : is 0x3A c ≡ true → is_path_or_nothing (from no_digit s) ≡ true → Cut no_digit s → PortAndPath (c ∷ s)
  digits_then_path e k (whole w) =
      record {
        ports = 0x3A ∷ s;
        path = [];
        is_port = a_port s (digits_from s w) refl;
        is_path = no_path refl;
        whole = ap (λ x. x ∷ s) (eqb-true c 0x3A e) ∙ ap (λ x. 0x3A ∷ x) (sym (append-nil s));
      }
  digits_then_path e k (parts digits d back w p f) =
      record {
        ports = 0x3A ∷ digits;
        path = d ∷ back;
        is_port = a_port digits (digits_from digits w) refl;
        is_path = path_from (d ∷ back) (text_behind no_query digits (d ∷ back) (subst (IsText no_query) f (text_behind no_query (c ∷ []) s t)))
            (sym (ap is_path_or_nothing (ap (from no_digit) f ∙ from_cut no_digit digits d back w p)) ∙ k);
        whole = ap (λ x. x ∷ s) (eqb-true c 0x3A e) ∙ ap (λ x. 0x3A ∷ x) f;
      }

  by : (b : Bool) → is 0x3A c ≡ b → PortAndPath (c ∷ s)
  by true e = digits_then_path e (sym (ap is_path_or_nothing (cond-true (is 0x3A c) (from no_digit s) (c ∷ s) e)) ∙ h) (cut no_digit s)
  by false e =
      record {
        ports = [];
        path = c ∷ s;
        is_port = no_port refl;
        is_path = path_from (c ∷ s) t (sym (ap is_path_or_nothing (cond-false (is 0x3A c) (from no_digit s) (c ∷ s) e)) ∙ h);
        whole = refl;
      }

-- the address, from behind the `[` on
record HostAndPath (s : List ℕ) : Type 0 where
  address : List ℕ
  behind : List ℕ
  is_ipv6 : Denotes ipv6_address address
  tail : PortAndPath behind
  whole : s ≡ address ++ 0x5D ∷ behind

host_and_path : (s : List ℕ) → IsText no_query s → is_address (before (is 0x5D) s) ≡ true → is_behind_address (from (is 0x5D) s) ≡ true → HostAndPath s
host_and_path s t a b = by (cut (is 0x5D) s) where
  by : Cut (is 0x5D) s → HostAndPath s
  by (whole w) = absurd (false≢true (sym (ap is_behind_address (from_whole (is 0x5D) s w)) ∙ b))
  by (parts front c back w p e) =
      record {
        address = front;
        behind = back;
        is_ipv6 = address_then front (sym (ap is_address (ap (before (is 0x5D)) e ∙ before_cut (is 0x5D) front c back w p)) ∙ a);
        tail = port_and_path back
            (text_behind no_query (c ∷ []) back (text_behind no_query front (c ∷ back) (subst (IsText no_query) e t)))
            (sym (ap is_behind_address (ap (from (is 0x5D)) e ∙ from_cut (is 0x5D) front c back w p)) ∙ b);
        whole = e ∙ ap (λ x. front ++ x ∷ back) (eqb-true c 0x5D p);
      }

pub addressed_from : (s : List ℕ) → IsText no_query s → is_user (before (is 0x5B) s) ≡ true → is_host_and_path (from (is 0x5B) s) ≡ true → Addressed s
addressed_from s t a b = by (cut (is 0x5B) s) where
  by : Cut (is 0x5B) s → Addressed s
  by (whole w) = absurd (false≢true (sym (ap is_host_and_path (from_whole (is 0x5B) s w)) ∙ b))
  by (parts user c back w p e) =
      record {
        user = user;
        address = host.address;
        ports = host.tail.ports;
        path = host.tail.path;
        is_user = user_from user (text_front no_query user c back open_is (subst (IsText no_query) e t)) w
            (sym (ap is_user (ap (before (is 0x5B)) e ∙ before_cut (is 0x5B) user c back w p)) ∙ a);
        is_ipv6 = host.is_ipv6;
        is_port = host.tail.is_port;
        is_path = host.tail.is_path;
        whole = e ∙ ap (λ x. user ++ x ∷ back) (eqb-true c 0x5B p) ∙ ap (λ x. user ++ 0x5B ∷ x) (host.whole ∙ ap (λ x. host.address ++ 0x5D ∷ x) host.tail.whole);
      } where
        open_is : is_hex c ≡ false
        open_is = ap is_hex (eqb-true c 0x5B p)

        passes : (is_address (before (is 0x5D) back) && is_behind_address (from (is 0x5D) back)) ≡ true
        passes = sym (ap is_host_and_path (ap (from (is 0x5B)) e ∙ from_cut (is 0x5B) user c back w p)) ∙ b

        host : HostAndPath back
        host =
            let f = and_parts (is_address (before (is 0x5D) back)) (is_behind_address (from (is 0x5D) back)) passes in
            host_and_path back (text_behind no_query (c ∷ []) back (text_behind no_query user (c ∷ back) (subst (IsText no_query) e t))) f.0 f.1
