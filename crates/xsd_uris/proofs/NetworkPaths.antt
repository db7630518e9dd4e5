-- A network path is a path that begins with `/`, or has an address in brackets.
use Rattle.std.proofs.Common.{◌≡◌, ℕ, List, [], ◌∷◌, ◌++◌}
use Rattle.std.proofs.Common.{refl, sym, ap, subst, ◌∙◌, inl, inr}
use Rattle.std.proofs.lemmas.List.{append_assoc}
use Rattle.rng_model.specs.regexes.Expressions.{nothing_more, both, Denotes, nothing_is, both_are, first_is, second_is}
use Rattle.rng_model.specs.xsd.UriCharacters.{in_order, optional, the}
use Rattle.rng_model.specs.xsd.Uris.{port, hostname, ipv4_address, ipv6_address, ipv6_reference, host, hostport, userinfo, server, reg_name, authority, abs_path, net_path}
use Rattle.xsd_uris.specs.plain.UriShapes.{is}
use Rattle.xsd_uris.specs.plain.UriShapes.{is_user}
use Rattle.xsd_uris.proofs.Escapes.{IsText, no_text, texts_join, text_of_char, text_less}
use Rattle.xsd_uris.proofs.Notation.{the_is, last_is, only_is, Behind, the_before, optional_is}
use Rattle.xsd_uris.proofs.Leaves.{many_text, some_text}
use Rattle.xsd_uris.proofs.Classes.{ends_path, ends_name, ends_user, user_leaf, name_leaf}
use Rattle.xsd_uris.proofs.Plain.{plain_text}
use Rattle.xsd_uris.proofs.Paths.{abs_path_text}

-- ---- the parts of an authority

-- nothing, or a user and `@`
pub data User (s : List ℕ) : Type 0 where
  no_user : s ≡ [] → User s
  a_user : (name : List ℕ) → IsText ends_user name → s ≡ name ++ 0x40 ∷ [] → User s

-- nothing, or `:` and digits
pub data Port (s : List ℕ) : Type 0 where
  no_port : s ≡ [] → Port s
  a_port : (digits : List ℕ) → Denotes port digits → s ≡ 0x3A ∷ digits → Port s

-- nothing, or a path
pub data Path (s : List ℕ) : Type 0 where
  no_path : s ≡ [] → Path s
  a_path : (rest : List ℕ) → IsText ends_path rest → s ≡ 0x2F ∷ rest → Path s

pub record Addressed (s : List ℕ) : Type 0 where
  pub user : List ℕ
  pub address : List ℕ
  pub ports : List ℕ
  pub path : List ℕ
  pub is_user : User user
  pub is_ipv6 : Denotes ipv6_address address
  pub is_port : Port ports
  pub is_path : Path path
  pub whole : s ≡ user ++ 0x5B ∷ (address ++ 0x5D ∷ (ports ++ path))

-- ---- from the grammar

user_if : (s : List ℕ) → Denotes (optional (in_order (userinfo ∷ the 0x40 ∷ []))) s → User s
user_if s m = elim (optional_is _ s m) [ inl e ↦ no_user e | inr h ↦ one h ] where
  one : Denotes (in_order (userinfo ∷ the 0x40 ∷ [])) s → User s
  one (both_are {s = u} {t} p q e) =
      let b : Behind 0x40 nothing_more t = the_before 0x40 nothing_more t q in
      a_user u (many_text ends_user _ user_leaf u p) (e ∙ ap (λ x. u ++ x) (b.whole ∙ ap (λ x. 0x40 ∷ x) (none_behind b.rest b.matched))) where
        none_behind : (t : List ℕ) → Denotes nothing_more t → t ≡ []
        none_behind _ nothing_is = refl

port_if : (s : List ℕ) → Denotes (optional (in_order (the 0x3A ∷ port ∷ []))) s → Port s
port_if s m = elim (optional_is _ s m) [ inl e ↦ no_port e | inr h ↦ one h ] where
  one : Denotes (in_order (the 0x3A ∷ port ∷ [])) s → Port s
  one h = let b : Behind 0x3A (both port nothing_more) s = the_before 0x3A _ s h in a_port b.rest (last_is port b.rest b.matched) b.whole

pub path_if : (s : List ℕ) → Denotes (optional abs_path) s → Path s
path_if s m = elim (optional_is abs_path s m) [ inl e ↦ no_path e | inr h ↦ let r = abs_path_text s h in a_path r.rest r.text r.whole ]

pub user_text : (s : List ℕ) → User s → IsText ends_path s
user_text s (no_user e) = subst (IsText ends_path) (sym e) (no_text ends_path)
user_text s (a_user name t e) =
    subst (IsText ends_path) (sym e)
    (texts_join ends_path name (0x40 ∷ []) (text_less ends_path (is 0x2F) name (text_less ends_name (is 0x40) name t)) (text_of_char ends_path 0x40 refl refl refl))

pub port_text : (s : List ℕ) → Port s → IsText ends_path s
port_text s (no_port e) = subst (IsText ends_path) (sym e) (no_text ends_path)
port_text s (a_port digits m e) =
    subst (IsText ends_path) (sym e)
    (texts_join ends_path (0x3A ∷ []) digits (text_of_char ends_path 0x3A refl refl refl) (plain_text ends_path port refl digits m))

pub path_text : (s : List ℕ) → Path s → IsText ends_path s
path_text s (no_path e) = subst (IsText ends_path) (sym e) (no_text ends_path)
path_text s (a_path rest t e) =
    subst (IsText ends_path) (sym e) (texts_join ends_path (0x2F ∷ []) rest (text_of_char ends_path 0x2F refl refl refl) t)

-- what an authority and the path behind it are
pub data Network (s : List ℕ) : Type 0 where
  plain : IsText ends_path s → Network s
  addressed : Addressed s → Network s

-- the host, the port and the path
data Host (s : List ℕ) : Type 0 where
  plain_host : IsText ends_path s → Host s
  address_host : (address : List ℕ) → Denotes ipv6_address address → s ≡ 0x5B ∷ (address ++ 0x5D ∷ []) → Host s

bracketed_if : (s : List ℕ) → Denotes ipv6_reference s → Host s
bracketed_if s m = let b = the_before 0x5B _ s m in by b.rest b.matched b.whole where
  by : (t : List ℕ) → Denotes (in_order (ipv6_address ∷ the 0x5D ∷ [])) t → s ≡ 0x5B ∷ t → Host s
  by t (both_are {s = u} {t = v} p q e) w =
      address_host u p (w ∙ ap (λ x. 0x5B ∷ x) (e ∙ ap (λ x. u ++ x) (the_end v (last_is (the 0x5D) v q)))) where
        the_end : (v : List ℕ) → Denotes (the 0x5D) v → v ≡ 0x5D ∷ []
        the_end = the_is 0x5D

host_if : (s : List ℕ) → Denotes host s → Host s
host_if s (first_is m) = plain_host (plain_text ends_path hostname refl s m)
host_if s (second_is (first_is m)) = plain_host (plain_text ends_path ipv4_address refl s m)
host_if s (second_is (second_is m)) = bracketed_if s (only_is ipv6_reference s m)

-- the host, the port and the path behind a user
located : (user : List ℕ) → User user → (h p path s : List ℕ) → Host h → Port p → Path path → s ≡ user ++ (h ++ (p ++ path)) → Network s
located user u h p path s (plain_host t) q r e =
    plain (subst (IsText ends_path) (sym e)
    (texts_join ends_path user (h ++ (p ++ path)) (user_text user u) (texts_join ends_path h (p ++ path) t (texts_join ends_path p path (port_text p q) (path_text path r)))))
located user u h p path s (address_host a m w) q r e = addressed (record {
  user = user;
  address = a;
  ports = p;
  path = path;
  is_user = u;
  is_ipv6 = m;
  is_port = q;
  is_path = r;
  whole = e ∙ ap (λ x. user ++ x) (ap (λ x. x ++ (p ++ path)) w ∙ ap (λ x. 0x5B ∷ x) (append_assoc a (0x5D ∷ []) (p ++ path)));
})

server_if : (s path all : List ℕ) → Denotes server s → Path path → all ≡ s ++ path → Network all
server_if s path all m r e = elim (optional_is _ s m) [
  | inl f ↦ plain (subst (IsText ends_path) (sym (e ∙ ap (λ x. x ++ path) f)) (path_text path r))
  | inr h ↦ one h
] where
  at : (u t v w : List ℕ) → User u → Denotes host t → Denotes (optional (in_order (the 0x3A ∷ port ∷ []))) w → s ≡ u ++ v → v ≡ t ++ w → Network all
  at u t v w is_user m n f g =
      located u is_user t w path all (host_if t m) (port_if w n) r
      (e ∙ ap (λ x. x ++ path) (f ∙ ap (λ x. u ++ x) g) ∙ append_assoc u (t ++ w) path ∙ ap (λ x. u ++ x) (append_assoc t w path))

  one : Denotes (in_order (optional (in_order (userinfo ∷ the 0x40 ∷ [])) ∷ hostport ∷ [])) s → Network all
  one (both_are {s = u} {t = v} p q f) = two (last_is hostport v q) where
    two : Denotes hostport v → Network all
    two (both_are {s = t} {t = w} m n g) = at u t v w (user_if u p) m (last_is (optional (in_order (the 0x3A ∷ port ∷ []))) w n) f g

authority_if : (s path all : List ℕ) → Denotes authority s → Path path → all ≡ s ++ path → Network all
authority_if s path all (first_is m) r e = server_if s path all m r e
authority_if s path all (second_is m) r e =
    let t = text_less ends_path (is 0x2F) s (some_text ends_name _ name_leaf s (only_is reg_name s m)) in
    plain (subst (IsText ends_path) (sym e) (texts_join ends_path s path t (path_text path r)))

-- the two slashes, and what is behind them
pub record NetPath (s : List ℕ) : Type 0 where
  pub rest : List ℕ
  pub network : Network rest
  pub whole : s ≡ 0x2F ∷ 0x2F ∷ rest

pub net_path_if : (s : List ℕ) → Denotes net_path s → NetPath s
net_path_if s m =
    let b : Behind 0x2F (in_order (the 0x2F ∷ authority ∷ optional abs_path ∷ [])) s = the_before 0x2F _ s m in
    let d : Behind 0x2F (in_order (authority ∷ optional abs_path ∷ [])) b.rest = the_before 0x2F _ b.rest b.matched in
    record { rest = d.rest; network = by d.rest d.matched; whole = b.whole ∙ ap (λ x. 0x2F ∷ x) d.whole } where
      by : (t : List ℕ) → Denotes (in_order (authority ∷ optional abs_path ∷ [])) t → Network t
      by t (both_are {s = u} {t = v} p q e) = authority_if u v t p (path_if v (last_is (optional abs_path) v q)) e
