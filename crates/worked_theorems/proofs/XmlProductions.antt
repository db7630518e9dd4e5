-- Texts by the productions of XML that most others are made of (XML 1.0 Fifth Edition, sections 2.3, 2.5, 2.6, 2.8, 4.1 and 4.2.2).
use Prim.Native.String.{String}
use Rattle.std.proofs.Common.{◌≡◌, ℕ, List, [], ◌++◌, codes, refl, true, false, arith, inl, inr}
use Rattle.xml_model.specs.characters.Productions.{verbatim, ◌▸◌, none_more, one_and, lacks, Space, QualifiedName, NCName, Nmtoken}
use Rattle.xml_model.specs.characters.Productions.{double, single, Eq, SystemLiteral, ExternalId, Comment, Target, Instruction, Misc}
use Rattle.xml_model.specs.characters.Productions.{IsCharacterReference, decimal, hexadecimal}

-- ---- how cases are written

-- one part and then the other
pub and_then : {P Q : List ℕ → Type 0} (a b : List ℕ) → P a → Q b → (P ▸ Q) (a ++ b)
and_then a b p q = (a, b, p, q, refl)

pub word : (s : String) → verbatim s (codes s)
word s = refl

pub space_is : Space (codes " ")
space_is = ((λ e. cc), refl)

-- ---- names and literals

-- `a:b` has one colon, `a:b:c` has two (Namespaces, production 7)
pub prefixed_name : QualifiedName (codes "a:b")
prefixed_name = refl

pub no_prefixed_name : ¬ (QualifiedName (codes "a:b:c"))
no_prefixed_name e = cc

pub no_entity_name : ¬ (NCName (codes "a:b"))
no_entity_name e = cc

-- a Nmtoken may begin with any name character (production 7)
pub token_is : Nmtoken (codes "-1:a")
token_is = ((λ e. cc), refl)

-- `"it's"` (production 11)
pub literal_is : SystemLiteral (codes "\"it's\"")
unfolding lacks
literal_is = (codes "it's", double refl refl, tt)

-- `PUBLIC '-//A' "a.dtd"` (productions 12, 13 and 75)
pub external_id : ExternalId (codes "PUBLIC '-//A' \"a.dtd\"")
unfolding lacks
external_id = inr (and_then _ _ (word "PUBLIC") (and_then _ _ space_is (and_then _ _ (codes "-//A", single refl refl, refl)
    (and_then _ _ space_is (codes "a.dtd", double refl refl, tt)))))

-- ` =` (production 25)
pub equals_sign : Eq (codes " =")
equals_sign = and_then (codes " ") _ refl (and_then _ [] (word "=") refl)

-- ---- comments and instructions

-- one hyphen may be in a comment (production 15)
pub comment_is : Comment (codes "<!-- a-b -->")
unfolding lacks
comment_is = and_then _ _ (word "<!--") (and_then (codes " a-b ") _ refl (word "-->"))

-- `<?x a?b?>` (productions 16 and 17)
pub instruction_is : Instruction (codes "<?x a?b?>")
unfolding lacks
instruction_is = and_then _ _ (word "<?") (and_then (codes "x") _ (refl, refl) (and_then _ _ (inl (and_then _ (codes "a?b") space_is refl)) (word "?>")))

-- `<?x?>`
pub bare_instruction : Instruction (codes "<?x?>")
bare_instruction = and_then _ _ (word "<?") (and_then (codes "x") _ (refl, refl) (and_then [] _ (inr refl) (word "?>")))

-- ` <?x?><!-- a-b -->` (production 27)
pub misc_is : Misc (codes " <?x?><!-- a-b -->")
misc_is = one_and {part = codes " "} (inr (inr space_is)) (one_and {part = codes "<?x?>"} (inr (inl bare_instruction))
    (one_and {part = codes "<!-- a-b -->"} (inl comment_is) none_more refl) refl) refl

-- `--` is not in a comment, and `-` not at its end
pub no_hyphens : lacks (codes "--") (codes " a--b " ++ codes "-") ≡ false
unfolding lacks
no_hyphens = refl

pub no_hyphen_before_end : lacks (codes "--") (codes " B-" ++ codes "-") ≡ false
unfolding lacks
no_hyphen_before_end = refl

-- `xML` is no target (production 17)
pub no_target : ¬ (Target (codes "xML"))
no_target is = let e : true ≡ false = is.1 in cc

-- ---- references to characters

-- `&#38;` is an ampersand (production 66)
pub ampersand : IsCharacterReference (codes "&#38;") 38
ampersand = decimal (codes "38") (omega arith, (omega arith, (omega arith, tt))) refl refl refl

-- `&#x3c;` is `<`
pub less : IsCharacterReference (codes "&#x3c;") 60
less = hexadecimal (codes "3c") (omega arith, (omega arith, (omega arith, tt))) refl refl refl
