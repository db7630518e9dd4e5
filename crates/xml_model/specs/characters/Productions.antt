-- What productions have in common (XML 1.0 Fifth Edition, sections 2.3, 2.5, 2.6, 2.8, 4.1, 4.2.2 and 6): white space, names,
-- literals, comments, instructions, references. Names are those of Namespaces in XML 1.0 (Third Edition), sections 3, 4 and 7.
use Prim.Native.String.{String}
use Rattle.std.specs.Prelude.{ℕ, ◌==◌, Bool, true, false, not, ◌&&◌, ◌||◌, List, [], ◌∷◌, ◌++◌, ◌≡◌, ◌≢◌, ◌⊎◌, codes}
use Rattle.std.specs.Char.{char_set_contains}
use Rattle.std.specs.List.{list_all, before_first, after_first, starts_with}
use Rattle.std.specs.Str.{str_eq_ignore_ascii_case}
use Rattle.std.specs.Str.Parse.{IsNumeral, digits_value}
use Rattle.rng_model.specs.names.Names.{is_xml_char, is_name_char, is_ncname, is_colon}
use Rattle.rng_model.specs.datatypes.Texts.{is_blank}

-- ---- how productions are written (section 6)

-- the texts that match the right side of a production
abbrev pub Part : Type 1
Part = List ℕ → Type 0

-- exactly this text
abbrev pub verbatim : String → Part
verbatim s text = text ≡ codes s

-- P and then Q; it binds more tightly than P or Q
infixr 20 ◌▸◌
abbrev pub ◌▸◌ : Part → Part → Part
(P ▸ Q) text = (a b : List ℕ) × P a × Q b × (text ≡ a ++ b)

infixr 10 ◌∣◌
abbrev pub ◌∣◌ : Part → Part → Part
(P ∣ Q) text = P text ⊎ Q text

-- P or nothing
abbrev pub may : Part → Part
may P = P ∣ verbatim ""

-- any number of P, one after the other
pub data Many (P : List ℕ → Type 0) : List ℕ → Type 0 where
  none_more : Many P []
  one_and : {all part more : List ℕ} → P part → Many P more → all ≡ part ++ more → Many P all

-- this part is nowhere in the text
unfoldable pub lacks : List ℕ → List ℕ → Bool
lacks part [] = not (starts_with (◌==◌) [] part)
lacks part (c ∷ cs) = not (starts_with (◌==◌) (c ∷ cs) part) && lacks part cs

-- ---- white space and names

-- S (production 3), and S?
abbrev pub Space : Part
Space text = (text ≢ []) × (is_blank text ≡ true)

abbrev pub MaySpace : Part
MaySpace text = is_blank text ≡ true

-- QName (Namespaces, productions 7 to 11), where XML has Name (production 5): elements and attributes
abbrev pub is_qualified : List ℕ → Bool
is_qualified s = is_ncname s || (is_ncname (before_first is_colon s) && is_ncname (after_first is_colon s))

abbrev pub QualifiedName : Part
QualifiedName text = is_qualified text ≡ true

-- NCName (Namespaces, production 4), where XML has Name: entities, instructions, notations (Namespaces, section 7)
abbrev pub NCName : Part
NCName text = is_ncname text ≡ true

-- Nmtoken (production 7)
abbrev pub Nmtoken : Part
Nmtoken text = (text ≢ []) × (list_all is_name_char text ≡ true)

-- ---- literals

-- a text between two quotes of one kind, without that quote
pub data IsQuoted : List ℕ → List ℕ → Type 0 where
  double : {all text : List ℕ} → lacks (codes "\"") text ≡ true → all ≡ codes "\"" ++ (text ++ codes "\"") → IsQuoted all text
  single : {all text : List ℕ} → lacks (codes "'") text ≡ true → all ≡ codes "'" ++ (text ++ codes "'") → IsQuoted all text

abbrev pub Quoted : (List ℕ → Type 0) → Part
Quoted P all = (text : List ℕ) × IsQuoted all text × P text

-- Eq (production 25)
abbrev pub Eq : Part
Eq = MaySpace ▸ verbatim "=" ▸ MaySpace

-- PubidChar (production 13)
abbrev pub is_public_char : ℕ → Bool
is_public_char c = char_set_contains (0xD ∷ 0xA ∷ codes " abcdefghijklmnopqrstuvwxyzABCDEFGHIJKLMNOPQRSTUVWXYZ0123456789-'()+,./:=?;!*#@$_%") c

-- PubidLiteral (production 12)
abbrev pub PublicLiteral : Part
PublicLiteral = Quoted (λ text. list_all is_public_char text ≡ true)

-- SystemLiteral (production 11)
abbrev pub SystemLiteral : Part
SystemLiteral = Quoted (λ text. Unit {0})

-- ExternalID (production 75)
abbrev pub ExternalId : Part
ExternalId = verbatim "SYSTEM" ▸ Space ▸ SystemLiteral ∣ verbatim "PUBLIC" ▸ Space ▸ PublicLiteral ▸ Space ▸ SystemLiteral

-- ---- comments and instructions

-- Comment (production 15): there is no `--` in it, and no `-` right before the end
abbrev pub Comment : Part
Comment = verbatim "<!--" ▸ (λ text. lacks (codes "--") (text ++ codes "-") ≡ true) ▸ verbatim "-->"

-- PITarget (production 17): any name but `xml`, in capital and small letters
abbrev pub Target : Part
Target text = NCName text × (str_eq_ignore_ascii_case text (codes "xml") ≡ false)

-- PI (production 16)
abbrev pub Instruction : Part
Instruction = verbatim "<?" ▸ Target ▸ may (Space ▸ (λ text. lacks (codes "?>") text ≡ true)) ▸ verbatim "?>"

-- Misc* (production 27)
abbrev pub Misc : Part
Misc = Many (Comment ∣ Instruction ∣ Space)

-- ---- references

-- CharRef (production 66; WFC Legal Character), and the character
pub data IsCharacterReference : List ℕ → ℕ → Type 0 where
  decimal : {all : List ℕ} {c : ℕ} (ds : List ℕ) → IsNumeral 10 ds → c ≡ digits_value 10 ds → is_xml_char c ≡ true → all ≡ codes "&#" ++ (ds ++ codes ";")
      → IsCharacterReference all c
  hexadecimal : {all : List ℕ} {c : ℕ} (ds : List ℕ) → IsNumeral 16 ds → c ≡ digits_value 16 ds → is_xml_char c ≡ true → all ≡ codes "&#x" ++ (ds ++ codes ";")
      → IsCharacterReference all c

-- EntityRef and PEReference (productions 68 and 69), by the name
abbrev pub entity_reference : List ℕ → List ℕ
entity_reference name = codes "&" ++ (name ++ codes ";")

abbrev pub parameter_reference : List ℕ → List ℕ
parameter_reference name = codes "%" ++ (name ++ codes ";")
