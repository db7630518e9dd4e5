-- The beginnings of documents of XML: byte order marks, line ends, and documents that are not read by what they declare (XML 1.0
-- Fifth Edition, sections 2.8, 2.9, 2.11 and 4.3.3).
use Rattle.std.proofs.Common.{ℕ, List, [], ◌∷◌, ◌++◌, ◌≡◌, codes, refl, true, false, Some, None, arith}
use Rattle.xml_model.specs.characters.Encodings.{Coding, utf8, utf16, marked, unmarked, bytes_in, may_declare, line_ends, IsText}
use Rattle.xml_model.specs.characters.Productions.{Eq, lacks, double, single}
use Rattle.xml_model.specs.documents.WholeDocuments.{IsVersion11, NamesOtherEncoding, NamedSetting, VersionNumber, MayDeclareXml}
use Rattle.xml_model.specs.documents.WholeDocuments.{declaration, no_encoding, encoding, nothing, yes}
use Rattle.worked_theorems.proofs.XmlProductions.{and_then, word, space_is}

-- ---- characters

-- CR LF and a CR by itself are an LF each (section 2.11)
pub folded : line_ends (97 ∷ 13 ∷ 10 ∷ 13 ∷ 98 ∷ []) ≡ 97 ∷ 10 ∷ 10 ∷ 98 ∷ []
unfolding line_ends
folded = refl

-- `é` is C3 A9 in UTF-8, also behind a mark (section 4.3.3)
pub in_utf8 : IsText utf8 (0xEF ∷ 0xBB ∷ 0xBF ∷ 0xC3 ∷ 0xA9 ∷ []) (0xE9 ∷ [])
unfolding line_ends lib.Utf8.encode
in_utf8 = record { written = 0xE9 ∷ []; is_encoded = marked refl; chars = refl; text_is = refl }

-- U+10000 is two units in UTF-16, here with the low byte first
pub in_utf16 : IsText (utf16 false) (0xFF ∷ 0xFE ∷ 0x00 ∷ 0xD8 ∷ 0x00 ∷ 0xDC ∷ []) (0x1_0000 ∷ [])
unfolding line_ends
in_utf16 = record { written = 0x1_0000 ∷ []; is_encoded = marked refl; chars = refl; text_is = refl }

-- U+0000 is no Char (production 2)
pub no_text : (coding : Coding) (text : List ℕ) (is : IsText coding (0 ∷ []) text) → ¬ (is.written ≡ 0 ∷ [])
no_text coding text is same = let chars = is.chars in cc

-- the encoding that is declared may be written in small letters, and has to be that of the bytes
pub small_letters : may_declare utf8 (Some (codes "utf-8")) ≡ true
small_letters = refl

pub another_coding : may_declare (utf16 true) (Some (codes "UTF-8")) ≡ false
another_coding = refl

-- ---- declarations

-- ` version="1.0"` (productions 24 and 26)
pub version_is : (version : List ℕ) → VersionNumber version → lacks (codes "\"") version ≡ true
    → NamedSetting "version" (λ text. text ≡ version) (codes " " ++ (codes "version" ++ (codes "=" ++ (codes "\"" ++ (version ++ codes "\"")))))
version_is version is free = and_then _ _ space_is (and_then _ _ (word "version") (and_then _ _ (and_then [] _ refl (and_then _ [] (word "=") refl)) (version, double free refl, refl)))

-- `<?xml version="1.0" encoding='utf-8' standalone="yes" ?>` (productions 23, 32, 80 and 81)
pub declaration_is : MayDeclareXml (codes "<?xml version=\"1.0\" encoding='utf-8' standalone=\"yes\" ?>") (codes "1.0") (Some (codes "utf-8")) true
unfolding lacks
declaration_is = declaration {e = codes " encoding='utf-8'"} {a = codes " standalone=\"yes\""} (codes " version=\"1.0\"") (codes " ") version_1_0 (version_is (codes "1.0") version_1_0 refl)
    (encoding refl (and_then _ _ space_is (and_then _ _ (word "encoding") (and_then _ _ equals (codes "utf-8", single refl refl, refl)))))
    (yes (and_then _ _ space_is (and_then _ _ (word "standalone") (and_then _ _ equals (codes "yes", double refl refl, refl))))) refl refl where
      version_1_0 : VersionNumber (codes "1.0")
      version_1_0 = and_then _ _ (word "1.") (omega arith, (omega arith, tt))

      equals : Eq (codes "=")
      equals = and_then [] _ refl (and_then _ [] (word "=") refl)

-- ---- documents that are not read

version_1_1 : VersionNumber (codes "1.1")
version_1_1 = and_then _ _ (word "1.") (omega arith, (omega arith, tt))

-- `<?xml version="1.1"?><a/>`: what is behind the declaration does not matter
pub of_version_11 : IsVersion11 (codes "<?xml version=\"1.1\"?><a/>")
unfolding lacks lib.Utf8.encode
of_version_11 = record {
  coding = utf8;
  front = codes "<?xml version=\"1.1\"?>";
  behind = codes "<a/>";
  declaration = codes "<?xml version=\"1.1\"?>";
  encoding = None;
  standalone = false;
  parts = refl;
  is_front = unmarked refl;
  is_declaration = declaration {e = []} {a = []} (codes " version=\"1.1\"") [] version_1_1 (version_is (codes "1.1") version_1_1 refl) no_encoding nothing refl refl;
  in_encoding = refl;
}

abbrev low_first : List ℕ
low_first = codes "<?xml version=\"1.0\" encoding=\"UTF-16LE\"?>"

-- UTF-16 with the low byte first, and no mark: it is not the encoding UTF-16 (section 4.3.3)
pub of_other_encoding : NamesOtherEncoding (bytes_in (utf16 false) low_first ++ bytes_in (utf16 false) (codes "<a/>"))
unfolding lacks
of_other_encoding = record {
  coding = utf16 false;
  declaration = low_first;
  behind = bytes_in (utf16 false) (codes "<a/>");
  version = codes "1.0";
  name = codes "UTF-16LE";
  standalone = false;
  parts = refl;
  is_declaration = declaration {e = codes " encoding=\"UTF-16LE\""} {a = []} (codes " version=\"1.0\"") [] version_1_0 (version_is (codes "1.0") version_1_0 refl)
      (encoding refl (and_then _ _ space_is (and_then _ _ (word "encoding") (and_then _ _ (and_then [] _ refl (and_then _ [] (word "=") refl)) (codes "UTF-16LE", double refl refl, refl)))))
      nothing refl refl;
  other = others;
} where
  version_1_0 : VersionNumber (codes "1.0")
  version_1_0 = and_then _ _ (word "1.") (omega arith, (omega arith, tt))

  others : (coding : Coding) → may_declare coding (Some (codes "UTF-16LE")) ≡ false
  others utf8 = refl
  others (utf16 high_first) = refl
