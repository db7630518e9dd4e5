-- Small texts of XML by the productions of literals and content: references, entities, values of attributes, and what they tell
-- (XML 1.0 Fifth Edition, sections 2.4, 2.7, 3, 3.3.2, 3.3.3, 4.3.2, 4.4 to 4.6 and D).
use Rattle.std.proofs.Common.{◌≡◌, ℕ, List, [], ◌∷◌, ◌++◌, codes, refl, true, false, Some, None, arith, sym, true≢false, inl, inr, map}
use Rattle.std.specs.Prelude.{◌==◌, ◌&&◌, Bool, not, if◌then◌else◌}
use Rattle.std.proofs.lemmas.Bool.{and_parts, eqb-false, not-true}
use Rattle.std.specs.List.{list_all}
use Rattle.rng_model.specs.datatypes.Texts.{is_blank_byte}
use Rattle.rng_model.specs.names.Lists.{HasTwice}
use Rattle.xml_model.specs.characters.Productions.{QualifiedName, IsCharacterReference, decimal, hexadecimal, lacks, single}
use Rattle.xml_model.specs.declarations.Declared.{Declared, Entity, internal, external, initially, with_general, with_attributes, IsEntity, all_attributes, typed}
use Rattle.xml_model.specs.declarations.Literals as literals
use Rattle.xml_model.specs.declarations.Literals.{IsEntityText, no_more, itself_and, character_reference_and, entity_reference_and, IsAttributeValue, no_text}
use Rattle.xml_model.specs.declarations.Literals.{unread_mark}
use Rattle.xml_model.specs.documents.Content as content
use Rattle.xml_model.specs.documents.Content.{XmlEvent, start, character, end, none_specified, specified_and, IsStartTag, IsXmlElement, empty, filled, IsXmlContent}
use Rattle.xml_model.specs.documents.Content.{no_content, element_and}
use Rattle.xml_model.specs.documents.Sizes.{content_reads, content_depth}
use Rattle.worked_theorems.proofs.Documents.{nothing_repeats}
use Rattle.worked_theorems.proofs.XmlProductions.{and_then, word, space_is, ampersand, comment_is, instruction_is}

-- ---- how cases are written

-- no character of the text is one of these two
abbrev pub is_free_of : ℕ → ℕ → List ℕ → Bool
is_free_of c d text = list_all (λ e. not (e == c) && not (e == d)) text

-- in a literal of an entity, characters that stand for themselves
pub plain_text : (s : List ℕ) {text replacement : List ℕ} → is_free_of 0x25 0x26 s ≡ true → IsEntityText text replacement → IsEntityText (s ++ text) (s ++ replacement)
plain_text [] free is = is
plain_text (c ∷ s) free is =
    let all = and_parts _ _ free in
    let here = and_parts _ _ all.0 in
    itself_and (eqb-false c 0x25 (not-true (c == 0x25) here.0)) (eqb-false c 0x26 (not-true (c == 0x26) here.1)) (plain_text s all.1 is)

-- in a value of an attribute
abbrev pub spaced : ℕ → ℕ
spaced c = if is_blank_byte c then 0x20 else c

pub plain_value : (d : Declared) (s : List ℕ) {text value : List ℕ} → is_free_of 0x3C 0x26 s ≡ true → IsAttributeValue d text value
    → IsAttributeValue d (s ++ text) (map spaced s ++ value)
plain_value d [] free is = is
plain_value d (c ∷ s) free is =
    let all = and_parts _ _ free in
    let here = and_parts _ _ all.0 in
    literals.character_and (eqb-false c 0x3C (not-true (c == 0x3C) here.0)) (eqb-false c 0x26 (not-true (c == 0x26) here.1)) (plain_value d s all.1 is)

-- in content, also without a `]`
unless : (a b : Bool) → not a ≡ true → (a && b) ≡ false
unless true b e = absurd (true≢false (sym e))
unless false b e = refl

pub plain_content : (d : Declared) (s : List ℕ) {text : List ℕ} {events : List XmlEvent} → is_free_of 0x3C 0x26 s ≡ true → list_all (λ c. not (0x5D == c)) s ≡ true
    → IsXmlContent d text events → IsXmlContent d (s ++ text) (map character s ++ events)
plain_content d [] free no_bracket is = is
plain_content d (c ∷ s) free no_bracket is =
    let all = and_parts _ _ free in
    let here = and_parts _ _ all.0 in
    let brackets = and_parts _ _ no_bracket in
    content.character_and (eqb-false c 0x3C (not-true (c == 0x3C) here.0)) (eqb-false c 0x26 (not-true (c == 0x26) here.1)) (unless (0x5D == c) _ brackets.0) (plain_content d s all.1 brackets.1 is)

-- a document that declares nothing, and one that declares one general entity
abbrev pub nothing_declared : Declared
nothing_declared = initially false false

abbrev pub with_e : Entity → Declared
with_e e = with_general false (codes "e") e nothing_declared

pub is_e : (e : Entity) → IsEntity (with_e e) (codes "e") e
is_e e = record { declared = refl; outside = λ _. refl }

-- ---- literals of entities (production 9, section 4.5)

-- `<!ENTITY e "<b/>&#38;#60;">`: the replacement text has `&` in place of `&#38;`, and not yet `<`
pub its_text : IsEntityText (codes "<b/>&#38;#60;") (codes "<b/>&#60;")
its_text = plain_text (codes "<b/>") refl (character_reference_and {ref = codes "&#38;"} {text = codes "#60;"} ampersand (plain_text (codes "#60;") refl no_more) refl)

-- `a&f;`: the reference stays (section 4.4.7)
pub bypassed : IsEntityText (codes "a&f;") (codes "a&f;")
bypassed = plain_text (codes "a") refl (entity_reference_and {text = []} (codes "f") refl no_more refl refl)

-- ---- content (production 43)

-- `&amp;` is `&`: the text of the entity is `&#38;` (section 4.6)
pub amp_is : IsXmlContent nothing_declared (codes "&amp;") (character 38 ∷ [])
amp_is = content.entity_and {name = codes "amp"} {text = []} refl (record { declared = refl; outside = λ _. refl }) (content.reference_and {ref = codes "&#38;"} {text = []} ampersand no_content refl)
    no_content refl refl

-- `x<![CDATA[<&]]><!-- a-b --><?x a?b?>` (productions 14 and 18 to 21)
pub mixed_is : IsXmlContent nothing_declared (codes "x<![CDATA[<&]]><!-- a-b --><?x a?b?>") (character 120 ∷ character 60 ∷ character 38 ∷ [])
unfolding lacks
mixed_is = plain_content nothing_declared (codes "x") refl refl (content.section_and {text = codes "<!-- a-b --><?x a?b?>"} (codes "<&") refl
    (content.nothing_and {text = codes "<?x a?b?>"} (codes "<!-- a-b -->") (inr comment_is) (content.nothing_and {text = []} (codes "<?x a?b?>") (inl instruction_is) no_content refl) refl)
    refl refl)

-- two of the three characters of `]]>` are data (production 14)
pub brackets_are : IsXmlContent nothing_declared (codes "]]x") (character 93 ∷ character 93 ∷ character 120 ∷ [])
brackets_are = content.character_and (λ e. omega (arith, e)) (λ e. omega (arith, e)) refl (content.character_and (λ e. omega (arith, e)) (λ e. omega (arith, e)) refl
    (plain_content nothing_declared (codes "x") refl refl no_content))

-- `%e;` is no reference in content (section 4.4.1)
pub percent_is : IsXmlContent nothing_declared (codes "%e;") (character 37 ∷ character 101 ∷ character 59 ∷ [])
percent_is = plain_content nothing_declared (codes "%e;") refl refl no_content

-- a tag in which no attributes are specified
pub bare_tag : (d : Declared) (name : List ℕ) → QualifiedName name → name ≡ name ++ [] → IsStartTag d name name (all_attributes d name [])
bare_tag d name is_q parts = record {
  text = [];
  specified = [];
  is_name = is_q;
  are_specified = none_specified refl;
  once = nothing_repeats;
  all_are = refl;
  parts = parts;
}

-- `&#60;`
less_decimal : IsCharacterReference (codes "&#60;") 60
less_decimal = decimal (codes "60") (omega arith, (omega arith, (omega arith, tt))) refl refl refl

-- with the entity above, `&e;` is the empty element b and then the character `<` (sections 4.3.2 and 4.4.2)
pub e_is : IsXmlContent (with_e (internal (codes "<b/>&#60;"))) (codes "&e;") (start (codes "b") [] ∷ end ∷ character 60 ∷ [])
e_is = content.entity_and {name = codes "e"} {text = []} refl (is_e _) (element_and {part = codes "<b/>"} {text = codes "&#60;"} (empty (bare_tag _ (codes "b") refl refl) refl)
    (content.reference_and {ref = codes "&#60;"} {text = []} less_decimal no_content refl) refl refl) no_content refl refl

-- an external entity is not read (section 4.4.3)
pub external_is : IsXmlContent (with_e external) (codes "&e;") (character unread_mark ∷ [])
external_is = content.unread_and {name = codes "e"} {text = []} refl (inl (is_e external)) no_content refl

-- `<a b = 'x'>y</a >` (productions 39 to 42)
pub element_is : IsXmlElement nothing_declared (codes "<a b = 'x'>y</a >") (start (codes "a") ((codes "b", codes "x") ∷ []) ∷ character 121 ∷ end ∷ [])
unfolding lacks
element_is = filled {tag = codes "a b = 'x'"} {content = codes "y"} (codes " ") tag (plain_content nothing_declared (codes "y") refl refl no_content) refl refl refl where
  nothing_else : ¬ (HasTwice (codes "b" ∷ []))
  nothing_else h = elim h [
    | HasTwice.at_first among ↦ elim among [ ]
    | HasTwice.later more ↦ nothing_repeats more
  ]

  tag : IsStartTag nothing_declared (codes "a b = 'x'") (codes "a") ((codes "b", codes "x") ∷ [])
  tag = record {
    text = codes " b = 'x'";
    specified = (codes "b", codes "x") ∷ [];
    is_name = refl;
    are_specified = specified_and {q = codes "'x'"} {more = []} (codes " ") (codes "b") (codes " = ") space_is refl (and_then (codes " ") _ refl (and_then _ (codes " ") (word "=") refl)) (single refl refl)
        (plain_value nothing_declared (codes "x") refl no_text) (none_specified refl) refl;
    once = nothing_else;
    all_are = refl;
    parts = refl;
  }

-- ---- values of attributes (section 3.3.3): the examples of the standard, with `<!ENTITY d "&#xD;">`, `<!ENTITY a "&#xA;">` and
-- `<!ENTITY da "&#xD;&#xA;">`

abbrev pub with_three : Declared
with_three = with_general false (codes "da") (internal (0xD ∷ 0xA ∷ [])) (with_general false (codes "a") (internal (0xA ∷ [])) (with_general false (codes "d") (internal (0xD ∷ [])) nothing_declared))

-- two line ends and `xyz`
pub two_lines : IsAttributeValue with_three (0xA ∷ 0xA ∷ codes "xyz") (codes "  xyz")
two_lines = plain_value with_three (0xA ∷ 0xA ∷ codes "xyz") refl no_text

-- `&d;&a;A&#x20;&da;`: what an entity has is a space, and a character that is referred to stays
pub by_entities : IsAttributeValue with_three (codes "&d;&a;A&#xA;&da;") (codes "  A" ++ 0xA ∷ codes "  ")
unfolding lacks
by_entities = literals.entity_and {name = codes "d"} {replacement = 0xD ∷ []} {text = codes "&a;A&#xA;&da;"} refl (record { declared = refl; outside = λ _. refl }) refl
    (plain_value with_three (0xD ∷ []) refl no_text) (literals.entity_and {name = codes "a"} {replacement = 0xA ∷ []} {text = codes "A&#xA;&da;"} refl (record { declared = refl; outside = λ _. refl })
    refl (plain_value with_three (0xA ∷ []) refl no_text) (plain_value with_three (codes "A") refl (literals.reference_and {ref = codes "&#xA;"} {text = codes "&da;"} line_feed
    (literals.entity_and {name = codes "da"} {replacement = 0xD ∷ 0xA ∷ []} {text = []} refl (record { declared = refl; outside = λ _. refl }) refl
    (plain_value with_three (0xD ∷ 0xA ∷ []) refl no_text) no_text refl refl) refl)) refl refl) refl refl where
      line_feed : IsCharacterReference (codes "&#xA;") 10
      line_feed = hexadecimal (codes "A") (omega arith, (omega arith, tt)) refl refl refl

-- by a type other than CDATA spaces at both ends are dropped, and several are one; other white space stays
pub as_token : typed true (codes "  x" ++ 9 ∷ codes "  y ") ≡ codes "x" ++ 9 ∷ codes " y"
as_token = refl

pub as_text : typed false (codes "  x  y ") ≡ codes "  x  y "
as_text = refl

-- ---- defaults (section 3.3.2): `<!ATTLIST a t NMTOKEN "1" u CDATA #IMPLIED>`, and then `<!ATTLIST a t CDATA "2">`

abbrev with_defaults : Declared
with_defaults = with_attributes (record { element = codes "a"; name = codes "t"; tokenized = false; default = Some (codes "2") } ∷ [])
    (with_attributes (record { element = codes "a"; name = codes "t"; tokenized = true; default = Some (codes "1") }
    ∷ record { element = codes "a"; name = codes "u"; tokenized = false; default = None } ∷ []) nothing_declared)

-- the first declaration counts (section 3.3), and adds its default only where the attribute is not specified
pub a_has_t : all_attributes with_defaults (codes "a") [] ≡ (codes "t", codes "1") ∷ []
a_has_t = refl

pub a_has_its_own : all_attributes with_defaults (codes "a") ((codes "t", codes " 3 ") ∷ (codes "u", codes " 4 ") ∷ []) ≡ (codes "t", codes "3") ∷ (codes "u", codes " 4 ") ∷ []
a_has_its_own = refl

pub b_has_none : all_attributes with_defaults (codes "b") [] ≡ []
b_has_none = refl

-- ---- what is counted

-- `&amp;` reads no entity that is counted
pub amp_counts : (content_reads amp_is ≡ 0) × (content_depth amp_is ≡ 0)
unfolding amp_is
amp_counts = (refl, refl)

-- `&e;` reads the nine characters of its text; it is open, and so is the element in it
pub e_counts : (content_reads e_is ≡ 9) × (content_depth e_is ≡ 2)
unfolding e_is bare_tag
e_counts = (refl, refl)
