-- Worked examples of files that break a rule about declarations, and of files that break none.
use Rattle.std.proofs.Common.{◌≢◌, refl, ℕ, List, [], ◌∷◌, Some, None, codes}
use Rattle.rng_model.specs.names.Lists.{here, there}
use Rattle.rng_model.specs.names.Names.{xml_uri}
use Rattle.rnc_model.specs.grammar.Syntax.{written, prefixed, name_is, any_except, ns_name, prefixed_type, PatternAt, element, empty, data_of, external, start}
use Rattle.rnc_model.specs.grammar.Syntax.{include, component_and, no_components, inherit, literal, Declaration, namespace, default_namespace, datatypes}
use Rattle.rnc_model.specs.grammar.Syntax.{pattern_body, grammar_body, File}
use Rattle.rnc_model.specs.declarations.Declarations.{file_tree}
use Rattle.rnc_model.specs.declarations.DeclarationRules.{namespace_prefix, datatype_prefix, IsUndeclared, at_first, later, BreaksDeclarationRule}
use Rattle.rnc_model.specs.declarations.DeclarationRules.{namespace_prefix_twice}
use Rattle.rnc_model.specs.declarations.DeclarationRules.{default_namespace_twice, xml_as_another, xmlns_declared, namespace_prefix_undeclared}
use Rattle.rnc_model.specs.declarations.DeclarationRules.{datatype_prefix_undeclared}
use Rattle.rnc_grammar.proofs.DeclarationRules.{kept_where_tree}

-- the declarations, and one pattern
abbrev file : List Declaration → PatternAt written → File
file ds p = record { declarations = ds; body = pattern_body p }

-- the prefixes of these examples
abbrev p : List ℕ
p = codes "p"

abbrev q : List ℕ
q = codes "q"

p_is_not_xml : p ≢ codes "xml"
p_is_not_xml e = cc

-- `element p:a { .. }`
abbrev element_of : List ℕ → PatternAt written → PatternAt written
element_of p content = element (name_is (prefixed p (codes "a"))) content

-- `namespace xml = inherit`
pub xml_inherited : BreaksDeclarationRule (file (namespace (codes "xml") inherit ∷ []) empty)
xml_inherited = xml_as_another here no_literal where
  no_literal : inherit ≢ literal xml_uri
  no_literal e = cc

-- `namespace xmlns = "u"`
pub xmlns_is_declared : BreaksDeclarationRule (file (namespace (codes "xmlns") (literal (codes "u")) ∷ []) empty)
xmlns_is_declared = xmlns_declared here

-- `default namespace p = "u"` and `namespace p = "v"`
pub default_and_prefix : BreaksDeclarationRule (file (default_namespace (Some p) (literal (codes "u")) ∷ namespace p (literal (codes "v")) ∷ []) empty)
default_and_prefix = namespace_prefix_twice (later (at_first here))

-- `default namespace = "u"` and `default namespace p = "u"`
pub two_defaults : BreaksDeclarationRule (file (default_namespace None (literal (codes "u")) ∷ default_namespace (Some p) (literal (codes "u")) ∷ []) empty)
two_defaults = default_namespace_twice (at_first here)

-- `namespace p = "u"`, written twice
pub written_twice : BreaksDeclarationRule (file (namespace p (literal (codes "u")) ∷ namespace p (literal (codes "u")) ∷ []) empty)
written_twice = namespace_prefix_twice (at_first here)

-- `element p:a { empty }`
pub of_an_element : BreaksDeclarationRule (file [] (element_of p empty))
of_an_element = namespace_prefix_undeclared here p_is_not_xml (λ u a. elim a [ ])

-- `namespace p = "u"`
abbrev declaring_p : List Declaration
declaring_p = namespace p (literal (codes "u")) ∷ []

-- `datatypes p = "u"`, and `element p:a { empty }`: a datatype prefix is no namespace prefix
abbrev datatypes_p : List Declaration
datatypes_p = datatypes p (codes "u") ∷ []

pub of_another_table : BreaksDeclarationRule (file datatypes_p (element_of p empty))
of_another_table = namespace_prefix_undeclared here p_is_not_xml none where
  none : IsUndeclared (namespace_prefix p) datatypes_p
  none u (there a) = elim a [ ]

-- `namespace p = "u"`, and `p:integer`: a namespace prefix is no datatype prefix
pub of_a_datatype : BreaksDeclarationRule (file declaring_p (data_of (prefixed_type p (codes "integer")) []))
of_a_datatype = datatype_prefix_undeclared here differs none where
  differs : p ≢ codes "xsd"
  differs e = cc

  none : IsUndeclared (datatype_prefix p) declaring_p
  none u (there a) = elim a [ ]

-- `element * - p:* { empty }`
pub of_an_except : BreaksDeclarationRule (file [] (element (any_except (ns_name p)) empty))
of_an_except = namespace_prefix_undeclared here p_is_not_xml (λ u a. elim a [ ])

-- `external "x" inherit = p`
pub of_an_external : BreaksDeclarationRule (file [] (external (record { href = codes "x"; inherit = Some p; token = 1 })))
of_an_external = namespace_prefix_undeclared here p_is_not_xml (λ u a. elim a [ ])

-- `namespace p = "u"`, and `include "x" inherit = p { start = element q:a { empty } }`
pub in_braces : (m : _) → BreaksDeclarationRule (record {
  declarations = declaring_p;
  body = grammar_body (component_and (include (record { href = codes "x"; inherit = Some p; token = 5 })
      (component_and (start m (element_of q empty)) no_components)) no_components);
})
in_braces m = namespace_prefix_undeclared (there here) differs none where
  differs : q ≢ codes "xml"
  differs e = cc

  none : IsUndeclared (namespace_prefix q) declaring_p
  none u (there a) = elim a [ ]

-- `datatypes p = "u"` and `namespace p = "u"`
pub two_tables : ¬ (BreaksDeclarationRule (file (datatypes p (codes "u") ∷ namespace p (literal (codes "u")) ∷ []) empty))
unfolding file_tree
two_tables = kept_where_tree _ _ refl

-- `element xml:a { xsd:integer }`
pub beforehand : ¬ (BreaksDeclarationRule (file [] (element_of (codes "xml") (data_of (prefixed_type (codes "xsd") (codes "integer")) []))))
unfolding file_tree
beforehand = kept_where_tree _ _ refl

-- `namespace xml = "http://www.w3.org/XML/1998/namespace"`
pub xml_as_itself : ¬ (BreaksDeclarationRule (file (namespace (codes "xml") (literal xml_uri) ∷ []) empty))
unfolding file_tree
xml_as_itself = kept_where_tree _ _ refl

-- `namespace p = "http://www.w3.org/XML/1998/namespace"`
pub another_as_xml : ¬ (BreaksDeclarationRule (file (namespace p (literal xml_uri) ∷ []) empty))
unfolding file_tree
another_as_xml = kept_where_tree _ _ refl
