-- Each datatype of the table can be named in the compact syntax.
use Rattle.std.proofs.Common.{◌≡◌, ◌⊎◌, inl, inr, ℕ, List, [], Bool, true, false, cond, Option, Some, None, is_some, IsTrue, refl, sym, subst, codes, rules}
use Rattle.std.specs.List.{list_all}
use Rattle.std.specs.Option.{option_and_then}
use Rattle.std.specs.Str.{IsAscii, bytes_eq}
use Rattle.std.proofs.lemmas.Bool.{true≢false}
use Rattle.std.proofs.lemmas.Str.{IsUtf8-from_ascii, chars_from_encodes, encodes-IsAscii}
use Rattle.rng_model.proofs.ValueLaws.{known_if_allowed}
use Rattle.rng_model.proofs.Texts.{bytes_same}
use Rattle.rng_model.specs.names.Names.{is_xml_char, is_ncname}
use Rattle.rng_model.specs.simple.Tree.{Datatype}
use Rattle.rng_model.specs.datatypes.Facets.{named}
use Rattle.rng_model.specs.datatypes.Datatypes.{Maker, plain_types, xsd_types, xsd_uri, type_named, meaning_of, IsKnownDatatype, IsAllowed}
use Rattle.rnc_print_laws.specs.plain.Printable.{IsText, IsName, CanBeNamed}

pub ascii_text : (w : List ℕ) → IsAscii w → list_all is_xml_char w ≡ true → IsText w
ascii_text w a h =
    let u = IsUtf8-from_ascii w a in
    (u, subst (λ (x : List ℕ). list_all is_xml_char x ≡ true) (chars_from_encodes w w u (encodes-IsAscii w a)) h)

pub ascii_name : (w : List ℕ) → IsAscii w → is_ncname w ≡ true → IsName w
ascii_name w a h =
    let u = IsUtf8-from_ascii w a in
    (u, subst (λ (x : List ℕ). is_ncname x ≡ true) (chars_from_encodes w w u (encodes-IsAscii w a)) h)

-- ---- the rows of the table

no_truth : {P : Type 0} → IsTrue false → P
no_truth e = absurd (true≢false (sym e))

-- one more row of a list that is searched from the front
row : {A P : Type 0} (b : Bool) (x : A) (o : Option A) → (b ≡ true → P) → (IsTrue (is_some o) → P) → IsTrue (is_some (cond b (Some x) o)) → P
row true x o this more e = this refl
row false x o this more e = more e

-- a name that is written out
written_name : (name w : List ℕ) → IsAscii w → is_ncname w ≡ true → bytes_eq name w ≡ true → IsName name
written_name name w a h e = subst IsName (sym (bytes_same name w e)) (ascii_name w a h)

plain_name : (name : List ℕ) → IsTrue (is_some (named name plain_types)) → (name ≡ codes "string") ⊎ (name ≡ codes "token")
plain_name name =
    row (bytes_eq name (codes "string")) _ _ (λ e. inl (bytes_same name (codes "string") e))
    (row (bytes_eq name (codes "token")) _ _ (λ e. inr (bytes_same name (codes "token") e)) no_truth)

xsd_name : (name : List ℕ) → IsTrue (is_some (named name xsd_types)) → IsName name
xsd_name name =
    row (bytes_eq name (codes "string")) _ _ (written_name name (codes "string") (search rules) refl)
    (row (bytes_eq name (codes "token")) _ _ (written_name name (codes "token") (search rules) refl)
    (row (bytes_eq name (codes "NCName")) _ _ (written_name name (codes "NCName") (search rules) refl)
    (row (bytes_eq name (codes "NMTOKEN")) _ _ (written_name name (codes "NMTOKEN") (search rules) refl)
    (row (bytes_eq name (codes "boolean")) _ _ (written_name name (codes "boolean") (search rules) refl)
    (row (bytes_eq name (codes "integer")) _ _ (written_name name (codes "integer") (search rules) refl) no_truth)))))

pub known_named : (uri name : List ℕ) → IsTrue (is_some (type_named uri name)) → CanBeNamed uri name
unfolding type_named
known_named uri name = by_uri (bytes_eq uri []) (bytes_eq uri xsd_uri) refl refl
  where
    by_uri : (a b : Bool) → bytes_eq uri [] ≡ a → bytes_eq uri xsd_uri ≡ b
        → IsTrue (is_some (option_and_then (named name) (cond a (Some plain_types) (cond b (Some xsd_types) None)))) → CanBeNamed uri name
    by_uri true b is e known = inl (bytes_same uri [] is, plain_name name known)
    by_uri false true isnt is known = inr (bytes_same uri xsd_uri is, xsd_name name known)
    by_uri false false isnt neither known = no_truth known

-- a datatype that is known has a type
pub datatype_named : (d : Datatype) → IsKnownDatatype d → CanBeNamed d.library d.name
datatype_named d known = known_named d.library d.name (has_type (type_named d.library d.name) known)
  where
    has_type : (o : Option Maker) → IsTrue (is_some (option_and_then (λ make. make d.parameters) o)) → IsTrue (is_some o)
    has_type None e = e
    has_type (Some make) e = refl

-- and so does one that allows a text
pub allowed_named : (d : Datatype) (s : List ℕ) → IsAllowed d s → CanBeNamed d.library d.name
allowed_named d s allowed = datatype_named d (known_if_allowed (meaning_of d) s allowed)
