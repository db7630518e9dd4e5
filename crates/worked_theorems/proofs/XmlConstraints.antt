-- Texts that break the constraints of XML: of each it is proved that it has no derivation (XML 1.0 Fifth Edition, the well-formedness
-- constraints of sections 2.8, 3, 3.1 and 4.1).
use Rattle.std.proofs.Common.{◌≡◌, ℕ, List, [], ◌∷◌, ◌++◌, codes, refl, true, false, Some, None, Option, arith, ap, sym, subst, ◌∙◌, true≢false, inl, inr, map, eq-eqb}
use Rattle.std.proofs.lemmas.Bool.{and_parts}
use Rattle.std.proofs.lemmas.List.{append_assoc}
use Rattle.std.specs.Prelude.{◌⊎◌, ◌==◌, ◌+◌, Bool, if◌then◌else◌}
use Rattle.std.specs.List.{starts_with}
use Rattle.std.specs.Map.{lookup}
use Rattle.std.specs.Str.{bytes_eq}
use Rattle.rng_model.specs.names.Names.{is_ncname}
use Rattle.rng_model.specs.datatypes.Texts.{is_blank, is_blank_byte}
use Rattle.rng_model.specs.names.Lists.{HasTwice, here, at_first}
use Rattle.rng_model.specs.documents.PyxNamespaces.{IsForbidden, of_nothing, of_xmlns, HasNamespace, declared_here, declared_outside, xml_beforehand, no_default}
use Rattle.xml_model.specs.characters.Productions.{NCName, QualifiedName, Comment, Instruction, ◌∣◌, ◌▸◌, IsCharacterReference, decimal, hexadecimal, entity_reference, parameter_reference}
use Rattle.xml_model.specs.declarations.Declared.{Declared, Entity, internal, external, unparsed, IsEntity}
use Rattle.xml_model.specs.declarations.Literals as literals
use Rattle.xml_model.specs.declarations.Literals.{IsEntityText, IsAttributeValue}
use Rattle.xml_model.specs.declarations.DocumentTypes as subset
use Rattle.xml_model.specs.declarations.DocumentTypes.{IsSubset, NeutralPart}
use Rattle.xml_model.specs.documents.Content as content
use Rattle.xml_model.specs.documents.Content.{XmlEvent, IsStartTag, IsXmlElement, IsXmlContent}
use Rattle.worked_theorems.proofs.XmlContent.{nothing_declared, with_e}

abbrev pub first_of : List ℕ → ℕ
first_of [] = 0
first_of (c ∷ cs) = c

abbrev second_of : List ℕ → ℕ
second_of [] = 0
second_of (c ∷ cs) = first_of cs

-- ---- Legal Character (section 4.1)

-- no reference is to U+0000
pub no_null : (all : List ℕ) → ¬ (IsCharacterReference all 0)
no_null all (decimal ds are value is_char parts) = true≢false (sym is_char)
no_null all (hexadecimal ds are value is_char parts) = true≢false (sym is_char)

-- ---- what begins with which character

-- a reference begins with `&`
reference_first : {all : List ℕ} {c : ℕ} (rest : List ℕ) → IsCharacterReference all c → first_of (all ++ rest) ≡ 38
reference_first rest (decimal ds are value is_char parts) = ap (λ l. first_of (l ++ rest)) parts
reference_first rest (hexadecimal ds are value is_char parts) = ap (λ l. first_of (l ++ rest)) parts

element_first : {d : Declared} {part : List ℕ} {events : List XmlEvent} (rest : List ℕ) → IsXmlElement d part events → first_of (part ++ rest) ≡ 60
element_first rest (content.empty tag parts) = ap (λ l. first_of (l ++ rest)) parts
element_first rest (content.filled s tag inner m parts result) = ap (λ l. first_of (l ++ rest)) parts

-- what begins with `P` begins with the first character of P's texts
front_first : {P Q : List ℕ → Type 0} (c : ℕ) {part : List ℕ} (rest : List ℕ) → ((a : List ℕ) → P a → (behind : List ℕ) → first_of (a ++ behind) ≡ c) → (P ▸ Q) part
    → first_of (part ++ rest) ≡ c
front_first c rest begins is = ap (λ l. first_of (l ++ rest)) is.4 ∙ (ap first_of (append_assoc is.0 is.1 rest) ∙ begins is.0 is.2 (is.1 ++ rest))

comment_first : {part : List ℕ} (rest : List ℕ) → Comment part → first_of (part ++ rest) ≡ 60
comment_first rest is = front_first 60 rest (λ a e behind. ap (λ l. first_of (l ++ behind)) e) is

instruction_first : {part : List ℕ} (rest : List ℕ) → Instruction part → first_of (part ++ rest) ≡ 60
instruction_first rest is = front_first 60 rest (λ a e behind. ap (λ l. first_of (l ++ behind)) e) is

nothing_first : {part : List ℕ} (rest : List ℕ) → (Instruction ∣ Comment) part → first_of (part ++ rest) ≡ 60
nothing_first rest (inl is) = instruction_first rest is
nothing_first rest (inr is) = comment_first rest is

-- a text that begins with this character begins with no other
absurd_first : (n c : ℕ) {all other : List ℕ} → first_of all ≡ n → first_of other ≡ c → all ≡ other → (n == c) ≡ false → ⊥
absurd_first n c first second same differs = true≢false (sym (eq-eqb n c (sym first ∙ (ap first_of same ∙ second))) ∙ differs)

-- ---- what data may not be (section 2.4)

-- `]]>` is no content (production 14)
pub no_section_end : (d : Declared) (text : List ℕ) (events : List XmlEvent) → text ≡ codes "]]>" → ¬ (IsXmlContent d text events)
no_section_end d text events same content.no_content = absurd_first 0 93 {all = []} refl refl same refl
no_section_end d text events same (content.character_and p q no_end is) =
    true≢false (sym (ap (λ text. starts_with (◌==◌) text (codes "]]>")) same) ∙ no_end)
no_section_end d text events same (content.element_and {text = more} element is parts result) = absurd_first 93 60 {all = codes "]]>"} refl (element_first more element) (sym same ∙ parts) refl
no_section_end d text events same (content.section_and {text = more} body l is parts result) =
    absurd_first 93 60 {all = codes "]]>"} {other = codes "<![CDATA[" ++ (body ++ (codes "]]>" ++ more))} refl refl (sym same ∙ parts) refl
no_section_end d text events same (content.nothing_and {text = more} part nothing is parts) = absurd_first 93 60 {all = codes "]]>"} refl (nothing_first more nothing) (sym same ∙ parts) refl
no_section_end d text events same (content.reference_and {text = more} r is parts) = absurd_first 93 38 {all = codes "]]>"} refl (reference_first more r) (sym same ∙ parts) refl
no_section_end d text events same (content.entity_and {name = name} {text = more} n e inner is parts result) =
    absurd_first 93 38 {all = codes "]]>"} {other = entity_reference name ++ more} refl refl (sym same ∙ parts) refl
no_section_end d text events same (content.unread_and {name = name} {text = more} n e is parts) =
    absurd_first 93 38 {all = codes "]]>"} {other = entity_reference name ++ more} refl refl (sym same ∙ parts) refl

-- ---- PEs in Internal Subset (section 2.8)

-- no literal of an entity has `%p;`
pub no_parameter_reference : (text replacement : List ℕ) → first_of text ≡ 37 → text ≡ codes "%p;" → ¬ (IsEntityText text replacement)
no_parameter_reference text replacement first same literals.no_more = absurd_first 0 37 refl refl same refl
no_parameter_reference text replacement first same (literals.itself_and p q is) = p first
no_parameter_reference text replacement first same (literals.character_reference_and {text = more} r is parts) = absurd_first 37 38 first (reference_first more r) parts refl
no_parameter_reference text replacement first same (literals.entity_reference_and {text = more} name n is parts result) = absurd_first 37 38 {other = entity_reference name ++ more} first refl parts refl

-- ---- No < in Attribute Values (section 3.1)

pub no_less : (d : Declared) (text value : List ℕ) → first_of text ≡ 60 → ¬ (IsAttributeValue d text value)
no_less d text value first literals.no_text = absurd_first 60 0 {all = []} first refl refl refl
no_less d text value first (literals.character_and p q is) = p first
no_less d text value first (literals.reference_and {text = more} r is parts) = absurd_first 60 38 first (reference_first more r) parts refl
no_less d text value first (literals.entity_and {name = name} {text = more} n e l i is parts all) = absurd_first 60 38 {other = entity_reference name ++ more} first refl parts refl
no_less d text value first (literals.unknown_and {name = name} {text = more} n u is parts) = absurd_first 60 38 {other = entity_reference name ++ more} first refl parts refl

-- ---- references to e

-- the name in `&e;` is e
name_is : (sign : ℕ) (name text : List ℕ) → NCName name → sign ∷ codes "e;" ≡ sign ∷ (name ++ codes ";") ++ text → (name ≡ codes "e") × (text ≡ [])
name_is sign [] text is parts = absurd (true≢false (sym is))
name_is sign (c ∷ []) text is parts = (cc, cc)
name_is sign (c ∷ e ∷ more) text is parts =
    let head : c ≡ 101 = cc in
    let next : e ≡ 59 = cc in
    absurd (true≢false (sym (subst (λ e. is_ncname (101 ∷ e ∷ more) ≡ true) next (subst (λ c. is_ncname (c ∷ e ∷ more) ≡ true) head is))))

-- `&e;` is no reference to a character
no_character_reference : {ref : List ℕ} {c : ℕ} (rest : List ℕ) → IsCharacterReference ref c → ¬ (codes "&e;" ≡ ref ++ rest)
no_character_reference rest (decimal ds are value is_char parts) is = let e : ◌≡◌ {A = ℕ} 101 35 = ap second_of (is ∙ ap (λ l. l ++ rest) parts) in omega (arith, e)
no_character_reference rest (hexadecimal ds are value is_char parts) is = let e : ◌≡◌ {A = ℕ} 101 35 = ap second_of (is ∙ ap (λ l. l ++ rest) parts) in omega (arith, e)

none_is_not_some : {e : Entity} → ¬ (◌≡◌ {A = Option Entity} None (Some e))
none_is_not_some e = cc

some_is : (a b : Entity) → ◌≡◌ {A = Option Entity} (Some a) (Some b) → a ≡ b
some_is a b e = cc

-- the entity that `&e;` refers to is the one that is declared
e_refers : (known : Entity) (name text : List ℕ) (e : Entity) → NCName name → codes "&e;" ≡ entity_reference name ++ text → IsEntity (with_e known) name e → known ≡ e
e_refers known name text e n parts is =
    some_is known e (subst (λ name. lookup (bytes_eq name) (with_e known).general ≡ Some e) (name_is 38 name text n parts).0 is.declared)

internal_is : {a b : List ℕ} → internal a ≡ internal b → a ≡ b
internal_is e = cc

-- what `&e;` may be in content, if e is declared
data RefersTo (known : Entity) : Type 0 where
  to_internal : {replacement : List ℕ} {inner : List XmlEvent} → known ≡ internal replacement → IsXmlContent (with_e known) replacement inner → RefersTo known
  to_external : known ≡ external → RefersTo known

only_reference : (known : Entity) (text : List ℕ) (events : List XmlEvent) → text ≡ codes "&e;" → IsXmlContent (with_e known) text events → RefersTo known
only_reference known text events same content.no_content = absurd (absurd_first 0 38 {all = []} refl refl same refl)
only_reference known text events same (content.character_and p q r d) = absurd (q (ap first_of same))
only_reference known text events same (content.element_and {text = more} element d parts result) = absurd (absurd_first 38 60 {all = codes "&e;"} refl (element_first more element) (sym same ∙ parts) refl)
only_reference known text events same (content.section_and {text = more} body l d parts result) =
    absurd (absurd_first 38 60 {all = codes "&e;"} {other = codes "<![CDATA[" ++ (body ++ (codes "]]>" ++ more))} refl refl (sym same ∙ parts) refl)
only_reference known text events same (content.nothing_and {text = more} part is d parts) = absurd (absurd_first 38 60 {all = codes "&e;"} refl (nothing_first more is) (sym same ∙ parts) refl)
only_reference known text events same (content.reference_and {text = more} r d parts) = absurd (no_character_reference more r (sym same ∙ parts))
only_reference known text events same (content.entity_and {name = name} {replacement = replacement} {text = more} n is inner d parts result) =
    let told = e_refers known name more (internal replacement) n (sym same ∙ parts) is in
    to_internal told inner
only_reference known text events same (content.unread_and {name = name} {text = more} n (inl is) d parts) = to_external (e_refers known name more external n (sym same ∙ parts) is)
only_reference known text events same (content.unread_and n (inr is) d parts) = absurd (true≢false (sym is.more))

-- ---- Parsed Entity (section 4.1)

-- with `<!ENTITY e SYSTEM "e" NDATA n>`, `&e;` is no content
pub unparsed_is_no_content : (events : List XmlEvent) → ¬ (IsXmlContent (with_e unparsed) (codes "&e;") events)
unparsed_is_no_content events is = by (only_reference unparsed (codes "&e;") events refl is) where
  by : ¬ (RefersTo unparsed)
  by (to_internal same inner) = cc
  by (to_external same) = cc

-- ---- No Recursion (section 4.1)

-- with `<!ENTITY e "&e;">`, `&e;` is no content
pub no_recursion : (text : List ℕ) (events : List XmlEvent) → text ≡ codes "&e;" → ¬ (IsXmlContent (with_e (internal (codes "&e;"))) text events)
no_recursion text events same content.no_content = absurd_first 0 38 {all = []} refl refl same refl
no_recursion text events same (content.character_and p q r d) = q (ap first_of same)
no_recursion text events same (content.element_and {text = more} element d parts result) = absurd_first 38 60 {all = codes "&e;"} refl (element_first more element) (sym same ∙ parts) refl
no_recursion text events same (content.section_and {text = more} body l d parts result) =
    absurd_first 38 60 {all = codes "&e;"} {other = codes "<![CDATA[" ++ (body ++ (codes "]]>" ++ more))} refl refl (sym same ∙ parts) refl
no_recursion text events same (content.nothing_and {text = more} part is d parts) = absurd_first 38 60 {all = codes "&e;"} refl (nothing_first more is) (sym same ∙ parts) refl
no_recursion text events same (content.reference_and {text = more} r d parts) = no_character_reference more r (sym same ∙ parts)
no_recursion text events same (content.entity_and {name = name} {replacement = replacement} {text = more} n is inner d parts result) =
    let told = e_refers (internal (codes "&e;")) name more (internal replacement) n (sym same ∙ parts) is in
    no_recursion replacement _ (sym (internal_is told)) inner
no_recursion text events same (content.unread_and {name = name} {text = more} n (inl is) d parts) =
    let told : internal (codes "&e;") ≡ external = e_refers (internal (codes "&e;")) name more external n (sym same ∙ parts) is in
    cc
no_recursion text events same (content.unread_and n (inr is) d parts) = true≢false (sym is.more)

-- ---- No External Entity References, Entity Declared (sections 3.1 and 4.1)

-- with `<!ENTITY e SYSTEM "e">`, `&e;` is no value
pub external_is_no_value : (value text : List ℕ) → text ≡ codes "&e;" → ¬ (IsAttributeValue (with_e external) text value)
external_is_no_value value text same literals.no_text = absurd_first 0 38 {all = []} refl refl same refl
external_is_no_value value text same (literals.character_and p q d) = q (ap first_of same)
external_is_no_value value text same (literals.reference_and {text = more} r d parts) = no_character_reference more r (sym same ∙ parts)
external_is_no_value value text same (literals.entity_and {name = name} {replacement = replacement} {text = more} n is l inner d parts result) =
    let told : external ≡ internal replacement = e_refers external name more (internal replacement) n (sym same ∙ parts) is in
    cc
external_is_no_value value text same (literals.unknown_and n is d parts) = true≢false (sym is.more)

-- in a document that declares nothing, `&e;` is no value
pub undeclared_is_no_value : (value text : List ℕ) → text ≡ codes "&e;" → ¬ (IsAttributeValue nothing_declared text value)
undeclared_is_no_value value text same literals.no_text = absurd_first 0 38 {all = []} refl refl same refl
undeclared_is_no_value value text same (literals.character_and p q d) = q (ap first_of same)
undeclared_is_no_value value text same (literals.reference_and {text = more} r d parts) = no_character_reference more r (sym same ∙ parts)
undeclared_is_no_value value text same (literals.entity_and {name = name} {replacement = replacement} {text = more} n is l inner d parts result) =
    let found : lookup (bytes_eq (codes "e")) nothing_declared.general ≡ Some (internal replacement) =
    subst (λ name. lookup (bytes_eq name) nothing_declared.general ≡ Some (internal replacement)) (name_is 38 name more n (sym same ∙ parts)).0 is.declared in
    none_is_not_some found
undeclared_is_no_value value text same (literals.unknown_and n is d parts) = true≢false (sym is.more)

-- ---- No Recursion of parameter entities, PE Between Declarations (sections 2.8 and 4.1)

-- what declares nothing begins with `<` or white space
neutral_first : {part : List ℕ} (rest : List ℕ) → NeutralPart part → (first_of (part ++ rest) ≡ 60) ⊎ (is_blank_byte (first_of (part ++ rest)) ≡ true)
neutral_first rest (inl is) = inl (front_first 60 rest (λ a e behind. ap (λ l. first_of (l ++ behind)) e) is)
neutral_first rest (inr (inl is)) = inl (front_first 60 rest (λ a e behind. ap (λ l. first_of (l ++ behind)) e) is)
neutral_first rest (inr (inr (inl is))) = inl (instruction_first rest is)
neutral_first rest (inr (inr (inr (inl is)))) = inl (comment_first rest is)
neutral_first {part = []} rest (inr (inr (inr (inr is)))) = absurd (is.0 refl)
neutral_first {part = c ∷ cs} rest (inr (inr (inr (inr is)))) = inr (blank_head c cs is.1) where
  blank_head : (c : ℕ) (cs : List ℕ) → is_blank (c ∷ cs) ≡ true → is_blank_byte c ≡ true
  blank_head c cs is = (and_parts _ _ is).0

declaration_first : {all front : List ℕ} (rest : List ℕ) → all ≡ codes "<!" ++ front → first_of (all ++ rest) ≡ 60
declaration_first rest parts = ap (λ l. first_of (l ++ rest)) parts

-- a text that begins with another character is a reference to a parameter entity, or nothing
no_neutral : (n : ℕ) {all : List ℕ} (part rest : List ℕ) → first_of all ≡ n → NeutralPart part → all ≡ part ++ rest → (n == 60) ≡ false → is_blank_byte n ≡ false → ⊥
no_neutral n part rest first is parts differs no_blank = by (neutral_first rest is) where
  by : (first_of (part ++ rest) ≡ 60) ⊎ (is_blank_byte (first_of (part ++ rest)) ≡ true) → ⊥
  by (inl is) = absurd_first n 60 first is parts differs
  by (inr is) = true≢false (sym is ∙ (ap is_blank_byte (sym (ap first_of parts) ∙ first) ∙ no_blank))

-- with a parameter entity e whose text is `%e;`, `%e;` is no subset
pub no_parameter_recursion : (inside : Bool) (text : List ℕ) (d last : Declared) → text ≡ codes "%e;" → lookup (bytes_eq (codes "e")) d.parameter ≡ Some (internal (codes "%e;"))
    → ¬ (IsSubset inside text d last)
no_parameter_recursion inside text d last same known subset.no_more = absurd_first 0 37 {all = []} refl refl same refl
no_parameter_recursion inside text d last same known (subset.neutral_and {text = rest} part is more parts) = no_neutral 37 {all = codes "%e;"} part rest refl is (sym same ∙ parts) refl refl
no_parameter_recursion inside text d last same known (subset.general_and {text = rest} is more parts) = absurd_first 37 60 {all = codes "%e;"} refl (declaration_first rest is.parts) (sym same ∙ parts) refl
no_parameter_recursion inside text d last same known (subset.parameter_and {text = rest} is p more parts) = absurd_first 37 60 {all = codes "%e;"} refl (declaration_first rest is.parts) (sym same ∙ parts) refl
no_parameter_recursion inside text d last same known (subset.attributes_and {text = rest} is more parts) = absurd_first 37 60 {all = codes "%e;"} refl (declaration_first rest is.parts) (sym same ∙ parts) refl
no_parameter_recursion inside text d last same known (subset.read_and {replacement = replacement} {text = rest} {middle = middle} name n found inner more parts) =
    let its_own : ◌≡◌ {A = Option Entity} (Some (internal replacement)) (Some (internal (codes "%e;"))) =
    sym (subst (λ name. lookup (bytes_eq name) d.parameter ≡ Some (internal replacement)) (name_is 37 name rest n (sym same ∙ parts)).0 found) ∙ known in
    no_parameter_recursion true replacement _ middle (internal_is (some_is _ _ its_own)) known inner
no_parameter_recursion inside text d last same known (subset.unread_and {text = rest} name n not_internal more parts) =
    not_internal (codes "%e;") (subst (λ name. lookup (bytes_eq name) d.parameter ≡ Some (internal (codes "%e;"))) (sym (name_is 37 name rest n (sym same ∙ parts)).0) known)

-- `x` is no subset, and so no text of a parameter entity that is referred to
pub no_letter : (inside : Bool) (text : List ℕ) (d last : Declared) → text ≡ codes "x" → ¬ (IsSubset inside text d last)
no_letter inside text d last same subset.no_more = absurd_first 0 120 {all = []} refl refl same refl
no_letter inside text d last same (subset.neutral_and {text = rest} part is more parts) = no_neutral 120 {all = codes "x"} part rest refl is (sym same ∙ parts) refl refl
no_letter inside text d last same (subset.general_and {text = rest} is more parts) = absurd_first 120 60 {all = codes "x"} refl (declaration_first rest is.parts) (sym same ∙ parts) refl
no_letter inside text d last same (subset.parameter_and {text = rest} is p more parts) = absurd_first 120 60 {all = codes "x"} refl (declaration_first rest is.parts) (sym same ∙ parts) refl
no_letter inside text d last same (subset.attributes_and {text = rest} is more parts) = absurd_first 120 60 {all = codes "x"} refl (declaration_first rest is.parts) (sym same ∙ parts) refl
no_letter inside text d last same (subset.read_and {text = rest} name n found inner more parts) = absurd_first 120 37 {all = codes "x"} {other = parameter_reference name ++ rest} refl refl (sym same ∙ parts) refl
no_letter inside text d last same (subset.unread_and {text = rest} name n not_internal more parts) = absurd_first 120 37 {all = codes "x"} {other = parameter_reference name ++ rest} refl refl (sym same ∙ parts) refl

-- ---- Element Type Match (section 3)

second_last : List ℕ → ℕ
second_last [] = 0
second_last (c ∷ []) = 0
second_last (c ∷ d ∷ []) = c
second_last (c ∷ d ∷ e ∷ cs) = second_last (d ∷ e ∷ cs)

before_end : (xs : List ℕ) (a b : ℕ) → second_last (xs ++ (a ∷ b ∷ [])) ≡ a
unfolding second_last
before_end [] a b = refl
before_end (x ∷ []) a b = refl
before_end (x ∷ y ∷ []) a b = refl
before_end (x ∷ y ∷ z ∷ xs) a b = before_end (y ∷ z ∷ xs) a b

-- how often the letter a is in a text
abbrev letters_a : List ℕ → ℕ
letters_a [] = 0
letters_a (c ∷ cs) = (if c == 97 then 1 else 0) + letters_a cs

letters_in_both : (xs ys : List ℕ) → letters_a (xs ++ ys) ≡ letters_a xs + letters_a ys
letters_in_both [] ys = omega arith
letters_in_both (x ∷ xs) ys = let more = letters_in_both xs ys in omega (arith, more)

-- the name of the start tag begins with a, which `<a></b>` has once
mismatch : (name text tag inside s : List ℕ) → QualifiedName name → tag ≡ name ++ text
    → ¬ (codes "<a></b>" ≡ codes "<" ++ (tag ++ (codes ">" ++ (inside ++ (codes "</" ++ (name ++ (s ++ codes ">")))))))
mismatch [] text tag inside s is_name tag_is parts = true≢false (sym is_name)
mismatch (c ∷ cs) text tag inside s is_name tag_is parts =
    let rest : List ℕ = codes "</" ++ ((c ∷ cs) ++ (s ++ codes ">")) in
    let all : codes "<a></b>" ≡ codes "<" ++ (((c ∷ cs) ++ text) ++ (codes ">" ++ (inside ++ rest))) =
    subst (λ tag. codes "<a></b>" ≡ codes "<" ++ (tag ++ (codes ">" ++ (inside ++ rest)))) tag_is parts in
    let first : ◌≡◌ {A = ℕ} 97 c = ap second_of all in
    let once : 1 ≡ 0 + letters_a (((c ∷ cs) ++ text) ++ (codes ">" ++ (inside ++ rest))) = ap letters_a all in
    let front = letters_in_both ((c ∷ cs) ++ text) (codes ">" ++ (inside ++ rest)) in
    let name = letters_in_both (c ∷ cs) text in
    let behind = letters_in_both inside rest in
    let end = letters_in_both (c ∷ cs) (s ++ codes ">") in
    let is_a : letters_a (c ∷ cs) ≡ 1 + letters_a cs = subst (λ c. letters_a (c ∷ cs) ≡ 1 + letters_a cs) first refl in
    omega (arith, once, front, name, behind, end, is_a)

-- `<a></b>` is no element
pub no_match : (d : Declared) (text : List ℕ) (events : List XmlEvent) → text ≡ codes "<a></b>" → ¬ (IsXmlElement d text events)
unfolding second_last
no_match d text events same (content.empty {tag = tag} is parts) =
    let e : ◌≡◌ {A = ℕ} 98 47 = ap second_last (sym same ∙ parts) ∙ before_end (60 ∷ tag) 47 62 in omega (arith, e)
no_match d text events same (content.filled {tag = tag} {name = name} {content = inside} s is inner m parts result) = mismatch name is.text tag inside s is.is_name is.parts (sym same ∙ parts)

-- ---- Unique Att Spec (section 3.1)

-- no tag has `b="1"` and `b="2"`
pub not_twice : (d : Declared) (text name : List ℕ) (attributes : List (List ℕ × List ℕ)) (is : IsStartTag d text name attributes)
    → ¬ (is.specified ≡ (codes "b", codes "1") ∷ (codes "b", codes "2") ∷ [])
not_twice d text name attributes is same = is.once (subst (λ all. HasTwice (map (λ a. a.0) all)) (sym same) (at_first here))

-- ---- constraints of Namespaces in XML (sections 3 and 5)

-- No Prefix Undeclaring: `xmlns:p=""`
pub undeclared_prefix : IsForbidden (record { prefix = Some (codes "p"); uri = [] })
undeclared_prefix = of_nothing refl refl

-- Reserved Prefixes and Namespace Names: `xmlns:xmlns="u"`
pub reserved_prefix : IsForbidden (record { prefix = Some (codes "xmlns"); uri = codes "u" })
reserved_prefix = of_xmlns refl

-- Prefix Declared: in a tag without declarations at the root, p has no namespace
pub prefix_without_namespace : (uri : List ℕ) → ¬ (HasNamespace ([] ∷ []) (Some (codes "p")) uri)
prefix_without_namespace uri (declared_here is) = elim is [ ]
prefix_without_namespace uri (declared_outside none outside) = at_root (Some (codes "p")) uri refl outside where
  at_root : (p : Option (List ℕ)) (uri : List ℕ) → p ≡ Some (codes "p") → ¬ (HasNamespace [] p uri)
  at_root p uri same xml_beforehand = cc
  at_root p uri same no_default = cc
