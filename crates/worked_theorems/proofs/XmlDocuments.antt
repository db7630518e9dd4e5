-- Documents of XML, from their bytes to their answers (XML 1.0 Fifth Edition, sections 2.1 and 4.4; Namespaces in XML 1.0, section 6):
-- one with an entity that has markup and a default of an attribute, one that has a part which is not read, and one with a prefix
-- that is not declared.
use Rattle.std.proofs.Common.{◌≡◌, ℕ, List, [], ◌∷◌, ◌++◌, codes, refl, true, false, Some, None, Option, arith, inl, inr, length, ap, sym, subst, ◌∙◌, true≢false, suc}
use Rattle.std.specs.Str.{is_utf8, chars}
use Rattle.std.proofs.lemmas.Str.{IsUtf8-from_is_utf8}
use Rattle.std.proofs.lemmas.List.Elements.{All-nil}
use Rattle.rng_model.specs.names.Names.{Name, is_ncname}
use Rattle.rng_model.specs.matching.Document.{Attribute, Item, a_text, an_element, no_items, item_and, none, one_more, nothing_named}
use Rattle.rng_model.specs.plain.WellFormed as formed
use Rattle.rng_model.specs.documents.PyxLines.{QName, IsNcnameText, IsName, alone, prefixed}
use Rattle.rng_model.specs.documents.PyxNamespaces as spaces
use Rattle.rng_model.specs.documents.PyxNamespaces.{xmlns, NamespaceDeclaration, WrittenAttribute, AreParted, NamesElement, HasNamespace, Declares, DeclaresNothing, default_namespace, prefix_declared, declared_outside, no_default, element_name}
use Rattle.rng_model.specs.documents.PyxTrees.{text_at, element_at, none_placed, placed_and, a_start, a_string, an_end, EventKind}
use Rattle.rng_model.specs.documents.Telling.{events_behind}
use Rattle.xml_model.specs.characters.Encodings.{utf8, unmarked, line_ends}
use Rattle.xml_model.specs.characters.Productions.{Space, double, none_more, lacks}
use Rattle.xml_model.specs.declarations.Declared.{Declared, DeclaredAttribute, internal, initially, with_general, with_attributes}
use Rattle.xml_model.specs.declarations.Literals.{no_more, no_text, unread_mark}
use Rattle.xml_model.specs.declarations.MarkupDeclarations.{DeclaresEntity, DeclaresAttributes, value, default_value, tokens, definition_and, no_definitions}
use Rattle.xml_model.specs.declarations.DocumentTypes.{MayHaveDocumentType, with_declarations, no_type, without_subset, general_and, attributes_and, no_more as no_declarations}
use Rattle.xml_model.specs.documents.Content as content
use Rattle.xml_model.specs.documents.Content.{XmlEvent, start, character, end, IsXmlElement, filled, empty, no_content, element_and}
use Rattle.xml_model.specs.documents.WholeDocuments.{IsXml, no_declaration}
use Rattle.xml_model.specs.documents.Answers.{IsDocument, IsIncomplete, BreaksNamespaces, HaveNames, IsNamedTag, AreNamed, no_names, name_and, no_events, start_and, character_and, end_and}
use Rattle.worked_theorems.proofs.XmlProductions.{and_then, word, space_is}
use Rattle.worked_theorems.proofs.XmlContent.{nothing_declared, bare_tag, plain_text, plain_value, plain_content}
use Rattle.worked_theorems.proofs.XmlDeclarations.{name_and_subset}
use Rattle.worked_theorems.proofs.XmlConstraints.{first_of, prefix_without_namespace}

-- ---- `<!DOCTYPE a [<!ENTITY e "<b/>"><!ATTLIST b t NMTOKEN " 1">]><a>&e;x</a>`

abbrev entity_part : List ℕ
entity_part = codes "<!ENTITY e \"<b/>\">"

abbrev attributes_part : List ℕ
attributes_part = codes "<!ATTLIST b t NMTOKEN \" 1\">"

abbrev doctype_part : List ℕ
doctype_part = codes "<!DOCTYPE a [" ++ (entity_part ++ (attributes_part ++ codes "]>"))

abbrev pub the_bytes : List ℕ
the_bytes = doctype_part ++ codes "<a>&e;x</a>"

-- ---- what is declared

abbrev with_entity : Declared
with_entity = with_general false (codes "e") (internal (codes "<b/>")) (initially false false)

abbrev the_attribute : List DeclaredAttribute
the_attribute = record { element = codes "b"; name = codes "t"; tokenized = true; default = Some (codes "1") } ∷ []

abbrev with_all : Declared
with_all = with_attributes the_attribute with_entity

declares_e : DeclaresEntity Space entity_part (codes "e") (internal (codes "<b/>"))
unfolding lacks
declares_e = record {
  before = codes " ";
  space = codes " ";
  definition = codes "\"<b/>\"";
  end = [];
  is_before = space_is;
  is_name = refl;
  is_space = space_is;
  is_definition = value (double refl refl) (plain_text (codes "<b/>") refl no_more);
  is_end = refl;
  parts = refl;
}

declares_t : DeclaresAttributes with_entity attributes_part the_attribute
unfolding lacks
declares_t = record {
  space = codes " ";
  element = codes "b";
  definitions = codes " t NMTOKEN \" 1\"";
  is_space = space_is;
  is_name = refl;
  are_definitions = definition_and {type = codes "NMTOKEN"} {default = codes "\" 1\""} {more = []} (codes " ") (codes "t") (codes " ") (codes " ") space_is refl space_is
      (tokens (inl (inr (inr (inr (inr (inr (inl refl)))))))) space_is (default_value {q = codes "\" 1\""} [] (inr refl) (double refl refl) (plain_value with_entity (codes " 1") refl no_text) refl)
      (no_definitions refl) refl;
  parts = refl;
}

the_doctype : MayHaveDocumentType false doctype_part with_all
the_doctype = with_declarations {id = []} {subset = entity_part ++ attributes_part} (codes "<!DOCTYPE a") (codes " ") []
    (and_then _ _ (word "<!DOCTYPE") (and_then _ (codes "a") space_is refl)) without_subset refl
    (general_and {part = entity_part} {text = attributes_part} declares_e (attributes_and {part = attributes_part} {text = []} declares_t no_declarations refl) refl) refl refl

-- ---- the element

abbrev the_events : List XmlEvent
the_events = start (codes "a") [] ∷ start (codes "b") ((codes "t", codes "1") ∷ []) ∷ end ∷ character 120 ∷ end ∷ []

the_root : IsXmlElement with_all (codes "<a>&e;x</a>") the_events
the_root = filled {tag = codes "a"} {content = codes "&e;x"} [] (bare_tag with_all (codes "a") refl refl)
    (content.entity_and {name = codes "e"} {replacement = codes "<b/>"} {text = codes "x"} refl (record { declared = refl; outside = λ _. refl })
    (element_and {part = codes "<b/>"} {text = []} (empty (bare_tag with_all (codes "b") refl refl) refl) no_content refl refl)
    (plain_content with_all (codes "x") refl refl no_content) refl refl)
    refl refl refl

-- the bytes are well-formed (productions 1 and 22)
pub the_xml : IsXml the_bytes with_all the_events
unfolding line_ends lib.Utf8.encode
the_xml = record {
  coding = utf8;
  text = the_bytes;
  is_text = record { written = the_bytes; is_encoded = unmarked refl; chars = refl; text_is = refl };
  declaration = [];
  before = [];
  doctype = doctype_part;
  between = [];
  root = codes "<a>&e;x</a>";
  behind = [];
  parts = refl;
  version = codes "1.0";
  encoding = None;
  standalone = false;
  is_declaration = no_declaration;
  in_version = refl;
  in_encoding = refl;
  misc_before = none_more;
  is_doctype = the_doctype;
  misc_between = none_more;
  is_root = the_root;
  misc_behind = none_more;
}

-- ---- names

abbrev named : List ℕ → QName
named local = record { prefix = None; local = local }

letter_is_name : (n : ℕ) → is_utf8 (n ∷ []) ≡ true → is_ncname (chars (n ∷ [])) ≡ true → IsName (n ∷ []) (named (n ∷ []))
letter_is_name n is_text ncname = alone (record { utf8 = IsUtf8-from_is_utf8 (n ∷ []) is_text; ncname = ncname })

t_declares_nothing : DeclaresNothing (named (codes "t"))
t_declares_nothing p declares = by declares refl where
  by : {name : QName} {p : Option (List ℕ)} → Declares name p → ¬ (name ≡ named (codes "t"))
  by default_namespace same = let e : ◌≡◌ {A = ℕ} 5 1 = ap (λ (name : QName). length name.local) same in omega (arith, e)
  by prefix_declared same = let e : Some xmlns ≡ None = ap (λ (name : QName). name.prefix) same in cc

abbrev in_none : List ℕ → Name
in_none local = record { ns = []; local = local }

tag_a : IsNamedTag [] (codes "a") [] [] (in_none (codes "a")) []
unfolding chars is_utf8 lib.Utf8.encode
tag_a = record {
  written = [];
  have_names = no_names;
  others = [];
  are_parted = spaces.nothing;
  allowed = All-nil _;
  qname = named (codes "a");
  is_name = letter_is_name 97 refl refl;
  is_named = element_name (declared_outside (All-nil _) no_default);
  are_expanded = spaces.none_left;
  distinct = none;
}

abbrev attribute_t : Attribute
attribute_t = record { name = in_none (codes "t"); content = codes "1" }

tag_b : IsNamedTag ([] ∷ []) (codes "b") ((codes "t", codes "1") ∷ []) [] (in_none (codes "b")) (attribute_t ∷ [])
unfolding chars is_utf8 lib.Utf8.encode
tag_b = record {
  written = record { name = named (codes "t"); content = codes "1" } ∷ [];
  have_names = name_and (letter_is_name 116 refl refl) no_names;
  others = record { name = named (codes "t"); content = codes "1" } ∷ [];
  are_parted = spaces.other t_declares_nothing spaces.nothing;
  allowed = All-nil _;
  qname = named (codes "b");
  is_name = letter_is_name 98 refl refl;
  is_named = element_name (declared_outside (All-nil _) (declared_outside (All-nil _) no_default));
  are_expanded = spaces.expanded_and spaces.without_prefix spaces.none_left;
  distinct = one_more nothing_named none;
}

-- ---- what the document says

abbrev pub the_element : Item
the_element = an_element (in_none (codes "a")) [] (item_and (an_element (in_none (codes "b")) (attribute_t ∷ []) no_items) (item_and (a_text (codes "x")) no_items))

-- the bytes are the document of this element, and nothing is unread
pub the_document : IsDocument the_bytes the_element false
unfolding chars is_utf8 lib.Utf8.encode events_behind
the_document = record {
  declared = with_all;
  events = the_events;
  is_xml = the_xml;
  known = refl;
  calls = a_start (in_none (codes "a")) [] ∷ a_start (in_none (codes "b")) (attribute_t ∷ []) ∷ an_end ∷ a_string (codes "x") ∷ an_end ∷ [];
  are_named = start_and tag_a (start_and tag_b (end_and (character_and (end_and no_events))));
  tree = element_at 0 (in_none (codes "a")) [] (placed_and (element_at 0 (in_none (codes "b")) (attribute_t ∷ []) none_placed 0) (placed_and (text_at 0 (codes "x")) none_placed)) 0;
  told = record {
    good = ((refl, refl, none), ((refl, refl, one_more nothing_named none), (tt, (refl, (tt, tt)))));
    element = tt;
    formed = (none, formed.element formed.string, ((one_more nothing_named none, formed.nothing, tt), ((λ e. cc), tt)));
    events = refl;
  };
  element_is = refl;
  unread_is = refl;
}

-- ---- `<!DOCTYPE a SYSTEM 's'><a>&e;</a>`: what is not read may declare e

abbrev not_read : List ℕ
not_read = codes "<!DOCTYPE a SYSTEM 's'><a>&e;</a>"

abbrev with_unread : Declared
with_unread = record (initially false true) { unread = true }

abbrev unread_events : List XmlEvent
unread_events = start (codes "a") [] ∷ character unread_mark ∷ end ∷ []

pub incomplete_xml : IsXml not_read with_unread unread_events
unfolding line_ends lib.Utf8.encode
incomplete_xml = record {
  coding = utf8;
  text = not_read;
  is_text = record { written = not_read; is_encoded = unmarked refl; chars = refl; text_is = refl };
  declaration = [];
  before = [];
  doctype = codes "<!DOCTYPE a SYSTEM 's'>";
  between = [];
  root = codes "<a>&e;</a>";
  behind = [];
  parts = refl;
  version = codes "1.0";
  encoding = None;
  standalone = false;
  is_declaration = no_declaration;
  in_version = refl;
  in_encoding = refl;
  misc_before = none_more;
  is_doctype = name_and_subset;
  misc_between = none_more;
  is_root = filled {tag = codes "a"} {content = codes "&e;"} [] (bare_tag with_unread (codes "a") refl refl)
      (content.unread_and {name = codes "e"} {text = []} refl (inr (record { undeclared = refl; more = refl; not_alone = refl })) no_content refl) refl refl refl;
  misc_behind = none_more;
}

pub incomplete : IsIncomplete not_read
incomplete = (with_unread, unread_events, incomplete_xml, refl)

-- ---- `<p:a/>`: p is not declared

abbrev not_declared : List ℕ
not_declared = codes "<p:a/>"

abbrev prefixed_events : List XmlEvent
prefixed_events = start (codes "p:a") [] ∷ end ∷ []

pub prefixed_xml : IsXml not_declared nothing_declared prefixed_events
unfolding line_ends lib.Utf8.encode
prefixed_xml = record {
  coding = utf8;
  text = not_declared;
  is_text = record { written = not_declared; is_encoded = unmarked refl; chars = refl; text_is = refl };
  declaration = [];
  before = [];
  doctype = [];
  between = [];
  root = not_declared;
  behind = [];
  parts = refl;
  version = codes "1.0";
  encoding = None;
  standalone = false;
  is_declaration = no_declaration;
  in_version = refl;
  in_encoding = refl;
  misc_before = none_more;
  is_doctype = no_type;
  misc_between = none_more;
  is_root = empty (bare_tag nothing_declared (codes "p:a") refl refl) refl;
  misc_behind = none_more;
}

abbrev behind_two : List ℕ → List ℕ
behind_two [] = []
behind_two (c ∷ []) = []
behind_two (c ∷ d ∷ cs) = cs

no_longer : (e : ℕ) (more local : List ℕ) → ¬ (codes "a" ≡ e ∷ (more ++ 58 ∷ local))
no_longer e [] local same = let n : 1 ≡ suc (suc (length local)) = ap length same in omega (arith, n)
no_longer e (c ∷ more) local same = let n : 1 ≡ suc (suc (length (more ++ 58 ∷ local))) = ap length same in omega (arith, n)

no_empty_name : ¬ (IsNcnameText [])
unfolding chars
no_empty_name is = true≢false (sym is.ncname)

no_colon_in_name : ¬ (IsNcnameText (codes "p:a"))
unfolding chars
no_colon_in_name is = true≢false (sym is.ncname)

before_colon : (prefix local : List ℕ) → IsNcnameText prefix → codes "p:a" ≡ prefix ++ 58 ∷ local → prefix ≡ codes "p"
before_colon [] local is parts = absurd (no_empty_name is)
before_colon (c ∷ []) local is parts = let first : ◌≡◌ {A = ℕ} 112 c = ap first_of parts in ap (λ c. c ∷ []) (sym first)
before_colon (c ∷ d ∷ []) local is parts = let third : ◌≡◌ {A = ℕ} 97 58 = ap (λ l. first_of (behind_two l)) parts in absurd (omega (arith, third))
before_colon (c ∷ d ∷ e ∷ more) local is parts = absurd (no_longer e more local (ap behind_two parts))

-- its name has the prefix p
prefix_is_p : (text : List ℕ) (name : QName) → text ≡ codes "p:a" → IsName text name → name.prefix ≡ Some (codes "p")
prefix_is_p text name same (alone is) = absurd (no_colon_in_name (subst IsNcnameText same is))
prefix_is_p text name same (prefixed {prefix = prefix} {local = local} is_prefix is_local parts) = ap Some (before_colon prefix local is_prefix (sym same ∙ parts))

-- a tag without attributes declares nothing
declares_none : (written others : List WrittenAttribute) (ds : List NamespaceDeclaration) → HaveNames [] written → AreParted written ds others → ds ≡ []
declares_none written others ds no_names spaces.nothing = refl

no_names_for_it : (calls : List EventKind) → ¬ (AreNamed [] prefixed_events calls)
unfolding lib.Utf8.encode
no_names_for_it calls (start_and {ds = ds} {q = q} tag more) = by tag.qname q tag.is_named (prefix_is_p _ tag.qname refl tag.is_name) where
  none_declared : ds ≡ []
  none_declared = declares_none tag.written tag.others ds tag.have_names tag.are_parted

  by : (name : QName) (q : Name) → NamesElement (ds ∷ []) name q → name.prefix ≡ Some (codes "p") → ⊥
  by name q (element_name {uri = uri} is) prefix =
      prefix_without_namespace uri (subst (λ p. HasNamespace ([] ∷ []) p uri) prefix (subst (λ ds. HasNamespace (ds ∷ []) name.prefix uri) none_declared is))

pub breaks_namespaces : BreaksNamespaces not_declared false
breaks_namespaces = (nothing_declared, prefixed_events, prefixed_xml, refl, no_names_for_it, refl)
