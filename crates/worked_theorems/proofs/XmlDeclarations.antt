-- Small document types of XML: markup declarations, parameter entities, and what is declared (XML 1.0 Fifth Edition, sections 2.8, 3.2,
-- 3.3, 4.2, 4.7, 5.1 and D).
use Rattle.std.proofs.Common.{◌≡◌, ℕ, List, [], ◌∷◌, ◌++◌, codes, refl, true, false, Some, None, arith, inl, inr}
use Rattle.std.specs.Map.{lookup}
use Rattle.std.specs.Str.{bytes_eq}
use Rattle.xml_model.specs.characters.Productions.{verbatim, ◌▸◌, none_more, one_and, lacks, Space, NCName, double, single, decimal}
use Rattle.xml_model.specs.declarations.Declared.{Declared, internal, external, unparsed, initially, with_general, with_parameter}
use Rattle.xml_model.specs.declarations.Declared.{IsUnknown}
use Rattle.xml_model.specs.declarations.Literals.{IsEntityText, no_more, character_reference_and, no_text}
use Rattle.xml_model.specs.declarations.MarkupDeclarations.{ElementDeclaration, NotationDeclaration, ContentSpecification, MixedContent, IsContentParticle, IsParticleGroup}
use Rattle.xml_model.specs.declarations.MarkupDeclarations.{EnumeratedType, members, close, more_and, string, tokens, no_default, default_value, no_definitions, definition_and}
use Rattle.xml_model.specs.declarations.MarkupDeclarations.{DeclaresAttributes, DeclaresEntity, value, id, data_of}
use Rattle.xml_model.specs.declarations.MarkupDeclarations as markup
use Rattle.xml_model.specs.declarations.DocumentTypes.{IsSubset, neutral_and, general_and, parameter_and, attributes_and, read_and, unread_and, without_subset, with_subset}
use Rattle.xml_model.specs.declarations.DocumentTypes.{MayHaveDocumentType, name_alone, with_declarations}
use Rattle.xml_model.specs.declarations.DocumentTypes as subset
use Rattle.worked_theorems.proofs.XmlProductions.{and_then, word, space_is}
use Rattle.worked_theorems.proofs.XmlContent.{nothing_declared, plain_text, plain_value}

-- ---- elements and notations

-- `(a,(b|c)*)` (productions 47 to 50)
pub group_is : IsParticleGroup (codes "(a,(b|c)*)")
group_is = members {p = codes "a"} {more = codes ",(b|c)*)"} (codes ",") [] (inr refl) refl (markup.name (codes "a") [] refl (inr refl) refl)
    (more_and {p = codes "(b|c)*"} {more = codes ")"} [] [] refl refl (markup.group {g = codes "(b|c)"} (codes "*") inner (inl (inr (inl refl))) refl) (close [] refl refl) refl) refl where
      inner : IsParticleGroup (codes "(b|c)")
      inner = members {p = codes "b"} {more = codes "|c)"} (codes "|") [] (inl refl) refl (markup.name (codes "b") [] refl (inr refl) refl)
          (more_and {p = codes "c"} {more = codes ")"} [] [] refl refl (markup.name (codes "c") [] refl (inr refl) refl) (close [] refl refl) refl) refl

-- `<!ELEMENT a (a,(b|c)*)>` (productions 45 and 46)
pub element_declared : ElementDeclaration (codes "<!ELEMENT a (a,(b|c)*)>")
element_declared = and_then _ _ (word "<!ELEMENT") (and_then _ _ space_is (and_then (codes "a") _ refl (and_then _ _ space_is (and_then (codes "(a,(b|c)*)") _
    (inr (inr (inr (and_then _ [] group_is (inr refl))))) (and_then [] _ refl (word ">"))))))

-- `(#PCDATA|a)*` (production 51)
pub mixed_content : MixedContent (codes "(#PCDATA|a)*")
mixed_content = inl (and_then (codes "(#PCDATA|a)") _ (and_then _ _ (word "(") (and_then [] _ refl (and_then _ _ (word "#PCDATA") (and_then (codes "|a") _
    (one_and {part = codes "|a"} (and_then [] _ refl (and_then _ _ (word "|") (and_then [] (codes "a") refl refl))) none_more refl) (and_then [] _ refl (word ")")))))) (word "*"))

-- `<!NOTATION n PUBLIC 'p'>` (productions 82 and 83)
pub notation_declared : NotationDeclaration (codes "<!NOTATION n PUBLIC 'p'>")
unfolding lacks
notation_declared = and_then _ _ (word "<!NOTATION") (and_then _ _ space_is (and_then (codes "n") _ refl (and_then _ _ space_is (and_then (codes "PUBLIC 'p'") _
    (inr (and_then _ _ (word "PUBLIC") (and_then _ (codes "'p'") space_is (codes "p", single refl refl, refl)))) (and_then [] _ refl (word ">"))))))

-- ---- attributes

-- `<!ATTLIST a t (x|y) #FIXED 'x' u ID #IMPLIED>` (productions 52 to 60)
pub attributes_declared : DeclaresAttributes nothing_declared (codes "<!ATTLIST a t (x|y) #FIXED 'x' u ID #IMPLIED>")
    (record { element = codes "a"; name = codes "t"; tokenized = true; default = Some (codes "x") }
    ∷ record { element = codes "a"; name = codes "u"; tokenized = true; default = None } ∷ [])
unfolding lacks
attributes_declared = record {
  space = codes " ";
  element = codes "a";
  definitions = codes " t (x|y) #FIXED 'x' u ID #IMPLIED";
  is_space = space_is;
  is_name = refl;
  are_definitions = definition_and {type = codes "(x|y)"} {default = codes "#FIXED 'x'"} {more = codes " u ID #IMPLIED"} (codes " ") (codes "t") (codes " ") (codes " ") space_is refl space_is
      (tokens (inr (inr (and_then _ _ (word "(") (and_then [] _ refl (and_then (codes "x") _ ((λ e. cc), refl) (and_then (codes "|y") _
      (one_and {part = codes "|y"} (and_then [] _ refl (and_then _ _ (word "|") (and_then [] (codes "y") refl ((λ e. cc), refl)))) none_more refl) (and_then [] _ refl (word ")")))))))))
      space_is (default_value {q = codes "'x'"} (codes "#FIXED ") (inl (and_then _ _ (word "#FIXED") space_is)) (single refl refl) (plain_value nothing_declared (codes "x") refl no_text) refl)
      (definition_and {type = codes "ID"} {default = codes "#IMPLIED"} {more = []} (codes " ") (codes "u") (codes " ") (codes " ") space_is refl space_is (tokens (inl (inl refl))) space_is
      (no_default (inr refl)) (no_definitions refl) refl) refl;
  parts = refl;
}

-- `NOTATION (n)` (production 58)
notation_type : EnumeratedType (codes "NOTATION (n)")
notation_type = inl (and_then _ _ (word "NOTATION") (and_then _ (codes "(n)") space_is (and_then _ _ (word "(") (and_then [] _ refl (and_then (codes "n") _ refl
    (and_then [] _ none_more (and_then [] _ refl (word ")"))))))))

-- `<!ATTLIST a v CDATA ' y' w NOTATION (n) #REQUIRED>`: a default of the type CDATA keeps its spaces
pub more_attributes_declared : DeclaresAttributes nothing_declared (codes "<!ATTLIST a v CDATA ' y' w NOTATION (n) #REQUIRED>")
    (record { element = codes "a"; name = codes "v"; tokenized = false; default = Some (codes " y") }
    ∷ record { element = codes "a"; name = codes "w"; tokenized = true; default = None } ∷ [])
unfolding lacks
more_attributes_declared = record {
  space = codes " ";
  element = codes "a";
  definitions = codes " v CDATA ' y' w NOTATION (n) #REQUIRED";
  is_space = space_is;
  is_name = refl;
  are_definitions = definition_and {type = codes "CDATA"} {default = codes "' y'"} {more = codes " w NOTATION (n) #REQUIRED"} (codes " ") (codes "v") (codes " ") (codes " ") space_is refl
      space_is (string refl) space_is (default_value {q = codes "' y'"} [] (inr refl) (single refl refl) (plain_value nothing_declared (codes " y") refl no_text) refl)
      (definition_and {type = codes "NOTATION (n)"} {default = codes "#REQUIRED"} {more = []} (codes " ") (codes "w") (codes " ") (codes " ") space_is refl space_is
      (tokens (inr notation_type)) space_is (no_default (inl refl)) (no_definitions refl) refl) refl;
  parts = refl;
}

-- ---- entities

-- `<!ENTITY e SYSTEM "e" NDATA n>` (productions 70 to 76)
pub unparsed_declared : DeclaresEntity Space (codes "<!ENTITY e SYSTEM \"e\" NDATA n>") (codes "e") unparsed
unfolding lacks
unparsed_declared = record {
  before = codes " ";
  space = codes " ";
  definition = codes "SYSTEM \"e\" NDATA n";
  end = [];
  is_before = space_is;
  is_name = refl;
  is_space = space_is;
  is_definition = data_of (and_then _ _ (inl (and_then _ _ (word "SYSTEM") (and_then _ (codes "\"e\"") space_is (codes "e", double refl refl, tt)))) (and_then _ _ space_is (and_then _ _ (word "NDATA")
      (and_then _ (codes "n") space_is refl))));
  is_end = refl;
  parts = refl;
}

pub percent_before : (Space ▸ verbatim "%" ▸ Space) (codes " % ")
percent_before = and_then _ _ space_is (and_then _ _ (word "%") space_is)

-- an internal entity, of either kind
pub internal_declared : (Before : List ℕ → Type 0) (before name text replacement : List ℕ) → Before before → NCName name → lacks (codes "'") text ≡ true → IsEntityText text replacement
    → DeclaresEntity Before (codes "<!ENTITY" ++ (before ++ (name ++ (codes " " ++ ((codes "'" ++ (text ++ codes "'")) ++ ([] ++ codes ">")))))) name (internal replacement)
internal_declared Before before name text replacement is_before is_name free is = record {
  before = before;
  space = codes " ";
  definition = codes "'" ++ (text ++ codes "'");
  end = [];
  is_before = is_before;
  is_name = is_name;
  is_space = space_is;
  is_definition = value (single free refl) is;
  is_end = refl;
  parts = refl;
}

-- ---- parameter entities: the example of appendix D

-- `<!ENTITY % xx '&#37;zz;'><!ENTITY % zz '&#60;!ENTITY tricky "error-prone" >' >%xx;`
abbrev declares_xx : List ℕ
declares_xx = codes "<!ENTITY % xx '&#37;zz;'>"

abbrev declares_zz : List ℕ
declares_zz = codes "<!ENTITY % zz '&#60;!ENTITY tricky \"error-prone\" >'>"

abbrev tricky_text : List ℕ
tricky_text = codes "<!ENTITY tricky \"error-prone\" >"

xx_is : DeclaresEntity (Space ▸ verbatim "%" ▸ Space) declares_xx (codes "xx") (internal (codes "%zz;"))
unfolding lacks
xx_is = internal_declared _ (codes " % ") (codes "xx") (codes "&#37;zz;") (codes "%zz;") percent_before refl refl
    (character_reference_and {ref = codes "&#37;"} {text = codes "zz;"} (decimal (codes "37") (omega arith, (omega arith, (omega arith, tt))) refl refl refl) (plain_text (codes "zz;") refl no_more) refl)

zz_is : DeclaresEntity (Space ▸ verbatim "%" ▸ Space) declares_zz (codes "zz") (internal tricky_text)
unfolding lacks
zz_is = internal_declared _ (codes " % ") (codes "zz") (codes "&#60;!ENTITY tricky \"error-prone\" >") tricky_text percent_before refl refl
    (character_reference_and {ref = codes "&#60;"} {text = codes "!ENTITY tricky \"error-prone\" >"} (decimal (codes "60") (omega arith, (omega arith, (omega arith, tt))) refl refl refl)
    (plain_text (codes "!ENTITY tricky \"error-prone\" >") refl no_more) refl)

tricky_is : DeclaresEntity Space tricky_text (codes "tricky") (internal (codes "error-prone"))
unfolding lacks
tricky_is = record {
  before = codes " ";
  space = codes " ";
  definition = codes "\"error-prone\"";
  end = codes " ";
  is_before = space_is;
  is_name = refl;
  is_space = space_is;
  is_definition = value (double refl refl) (plain_text (codes "error-prone") refl no_more);
  is_end = refl;
  parts = refl;
}

abbrev with_both : Declared
with_both = with_parameter (codes "zz") (internal tricky_text) (with_parameter (codes "xx") (internal (codes "%zz;")) nothing_declared)

abbrev with_tricky : Declared
with_tricky = with_general true (codes "tricky") (internal (codes "error-prone")) (record with_both { has_more = true })

-- both entities are read, and the general entity is declared in them alone (productions 28a, 28b, 29 and 69)
pub tricky_declared : IsSubset false (declares_xx ++ (declares_zz ++ codes "%xx;")) nothing_declared with_tricky
tricky_declared = parameter_and {part = declares_xx} {text = declares_zz ++ codes "%xx;"} xx_is (λ e. cc) (parameter_and {part = declares_zz} {text = codes "%xx;"} zz_is (λ e. cc)
    (read_and {replacement = codes "%zz;"} {text = []} (codes "xx") refl refl (read_and {replacement = tricky_text} {text = []} (codes "zz") refl refl
    (general_and {part = tricky_text} {text = []} tricky_is subset.no_more refl) subset.no_more refl) subset.no_more refl) refl) refl

pub tricky_means : lookup (bytes_eq (codes "tricky")) with_tricky.general ≡ Some (internal (codes "error-prone"))
tricky_means = refl

-- ---- what is not read (section 5.1)

-- `<!ENTITY % p SYSTEM 'p'>`
external_declared : DeclaresEntity (Space ▸ verbatim "%" ▸ Space) (codes "<!ENTITY % p SYSTEM 'p'>") (codes "p") external
unfolding lacks
external_declared = record {
  before = codes " % ";
  space = codes " ";
  definition = codes "SYSTEM 'p'";
  end = [];
  is_before = percent_before;
  is_name = refl;
  is_space = space_is;
  is_definition = id (inl (and_then _ _ (word "SYSTEM") (and_then _ (codes "'p'") space_is (codes "p", single refl refl, tt))));
  is_end = refl;
  parts = refl;
}

abbrev with_p : Declared
with_p = with_parameter (codes "p") external nothing_declared

abbrev unread_p : Declared
unread_p = record with_p { has_more = true; unread = true }

-- `<!ENTITY % p SYSTEM 'p'>%p;<!ENTITY e 'x'>`: p may have declared e, so the last declaration does not count
pub does_not_count : IsSubset false (codes "<!ENTITY % p SYSTEM 'p'>%p;<!ENTITY e 'x'>") nothing_declared unread_p
unfolding lacks
does_not_count = parameter_and {part = codes "<!ENTITY % p SYSTEM 'p'>"} {text = codes "%p;<!ENTITY e 'x'>"} external_declared (λ e. cc)
    (unread_and {text = codes "<!ENTITY e 'x'>"} (codes "p") refl (λ replacement e. cc) (general_and {part = codes "<!ENTITY e 'x'>"} {text = []}
    (internal_declared _ (codes " ") (codes "e") (codes "x") (codes "x") space_is refl refl (plain_text (codes "x") refl no_more)) subset.no_more refl) refl) refl

-- so a reference to e is no fault (WFC Entity Declared), unless the document is standalone
pub e_is_unknown : IsUnknown unread_p (codes "e")
e_is_unknown = record { undeclared = refl; more = refl; not_alone = refl }

pub is_known_if_standalone : ¬ (IsUnknown (record unread_p { standalone = true }) (codes "e"))
is_known_if_standalone is = let alone = is.not_alone in cc

-- ---- document types (production 28)

-- `<!DOCTYPE a SYSTEM 's'>`: the external subset is not read
pub name_and_subset : MayHaveDocumentType false (codes "<!DOCTYPE a SYSTEM 's'>") (record (initially false true) { unread = true })
unfolding lacks
name_and_subset = name_alone {id = codes " SYSTEM 's'"} (codes "<!DOCTYPE a") [] (and_then _ _ (word "<!DOCTYPE") (and_then _ (codes "a") space_is refl))
    (with_subset (and_then _ _ space_is (inl (and_then _ _ (word "SYSTEM") (and_then _ (codes "'s'") space_is (codes "s", single refl refl, tt)))))) refl refl

-- `<!DOCTYPE a [<!ELEMENT a (a,(b|c)*)>]>`
pub with_internal_subset : MayHaveDocumentType false (codes "<!DOCTYPE a [<!ELEMENT a (a,(b|c)*)>]>") nothing_declared
with_internal_subset = with_declarations {id = []} {subset = codes "<!ELEMENT a (a,(b|c)*)>"} (codes "<!DOCTYPE a") (codes " ") [] (and_then _ _ (word "<!DOCTYPE") (and_then _ (codes "a") space_is refl))
    without_subset refl (neutral_and {text = []} (codes "<!ELEMENT a (a,(b|c)*)>") (inl element_declared) subset.no_more refl) refl refl
