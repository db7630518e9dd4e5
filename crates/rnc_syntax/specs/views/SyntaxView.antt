-- Views of the syntax trees of the code, without their place in memory.
use Rattle.std.specs.Prelude.{ℕ, List, map, Option, Some, None, option_map}
use Rattle.rng_model.specs.simple.Tree.{choice, group, interleave}
use Rattle.rnc_syntax.specs.declared.syntax_tree.QualifiedName.{QualifiedName}
use Rattle.rnc_syntax.specs.declared.syntax_tree.Literal.{Literal}
use Rattle.rnc_syntax.specs.declared.syntax_tree.NameClass.{NameClass, fold-NameClass}
use Rattle.rnc_syntax.specs.declared.syntax_tree.NameClass.TheOpen.{NameClass-F}
use Rattle.rnc_syntax.specs.declared.syntax_tree.DatatypeName.{DatatypeName}
use Rattle.rnc_syntax.specs.declared.syntax_tree.DatatypeName.TheVariants as types
use Rattle.rnc_syntax.specs.declared.syntax_tree.Parameter.{Parameter}
use Rattle.rnc_syntax.specs.declared.syntax_tree.Mention.{Mention}
use Rattle.rnc_syntax.specs.declared.syntax_tree.Pattern.{Pattern}
use Rattle.rnc_syntax.specs.declared.syntax_tree.Component.{Component}
use Rattle.rnc_syntax.specs.declared.syntax_tree.Component.TheFolds.{fold-Pattern, fold-Component}
use Rattle.rnc_syntax.specs.declared.syntax_tree.Component.TheOpen.{Pattern-F, Component-F}
use Rattle.rnc_syntax.specs.declared.syntax_tree.Uri.{Uri}
use Rattle.rnc_syntax.specs.declared.syntax_tree.Uri.TheVariants as uris
use Rattle.rnc_syntax.specs.declared.syntax_tree.Declaration.{Declaration}
use Rattle.rnc_syntax.specs.declared.syntax_tree.Declaration.TheVariants as declarations
use Rattle.rnc_syntax.specs.declared.syntax_tree.Body.{Body}
use Rattle.rnc_syntax.specs.declared.syntax_tree.Body.TheVariants as bodies
use Rattle.rnc_syntax.specs.declared.syntax_tree.File.{File}
use Rattle.rnc_syntax.specs.declared.atoms.Setting.{Setting}
use Rattle.rnc_syntax.specs.declared.atoms.Setting.TheVariants as settings
use Rattle.rnc_model.specs.grammar.Grammar as grammar
use Rattle.rnc_model.specs.grammar.Syntax as syntax
use Rattle.rnc_model.specs.grammar.Syntax.{written}
use Rattle.rnc_model.specs.grammar.SyntaxTrees.{joined_text}

-- the text of a literal
abbrev pub text_of : Literal → List ℕ
text_of l = joined_text (map (λ s. s.now) l.segments.items)

-- a name with its prefix, if it has one
abbrev pub name_with : Option (List ℕ) → List ℕ → syntax.NameAt written
name_with None l = syntax.unprefixed l
name_with (Some p) l = syntax.prefixed p l

abbrev pub name_of : QualifiedName → syntax.NameAt written
name_of n = name_with (option_map (λ p. p.now) n.prefix) n.local.now

-- one level of a name class, if the classes inside are viewed already
abbrev pub class_step : NameClass-F (syntax.NameClassAt written) → syntax.NameClassAt written
class_step NameClass-F.Any = syntax.any_name
class_step (NameClass-F.AnyExcept c) = syntax.any_except c.value
class_step (NameClass-F.Ns p) = syntax.ns_name p.now
class_step (NameClass-F.NsExcept p c) = syntax.ns_except p.now c.value
class_step (NameClass-F.Name n) = syntax.name_is (name_of n)
class_step (NameClass-F.Choice cs) = syntax.choice_of cs.items

abbrev pub class_of : NameClass → syntax.NameClassAt written
class_of = fold-NameClass (syntax.NameClassAt written) class_step

abbrev pub type_of : DatatypeName → syntax.DatatypeName written
type_of types.String = syntax.string_type
type_of types.Token = syntax.token_type
type_of (types.Prefixed p l) = syntax.prefixed_type p.now l.now

abbrev pub parameter_of : Parameter → List ℕ × List ℕ
parameter_of p = (p.name.now, text_of p.value)

abbrev pub mention_of : Mention → syntax.Mention written
mention_of m = record { href = text_of m.href; inherit = option_map (λ p. p.now) m.inherit; token = m.token }

-- one level of a pattern, if the patterns and components inside are viewed already
abbrev pub pattern_step : Pattern-F (syntax.ComponentAt written) (syntax.PatternAt written) → syntax.PatternAt written
pattern_step (Pattern-F.Element c p) = syntax.element (class_of c) p.value
pattern_step (Pattern-F.Attribute c p) = syntax.attribute (class_of c) p.value
pattern_step (Pattern-F.List p) = syntax.list p.value
pattern_step (Pattern-F.Mixed p) = syntax.mixed p.value
pattern_step (Pattern-F.Optional p) = syntax.optional p.value
pattern_step (Pattern-F.ZeroOrMore p) = syntax.zero_or_more p.value
pattern_step (Pattern-F.OneOrMore p) = syntax.one_or_more p.value
pattern_step (Pattern-F.Ref n) = syntax.ref n.now
pattern_step (Pattern-F.ParentRef n) = syntax.parent_ref n.now
pattern_step Pattern-F.Empty = syntax.empty
pattern_step Pattern-F.Text = syntax.text
pattern_step Pattern-F.NotAllowed = syntax.not_allowed
pattern_step (Pattern-F.Value d v) = syntax.value (type_of d) (text_of v)
pattern_step (Pattern-F.Data d ps) = syntax.data_of (type_of d) (map parameter_of ps.items)
pattern_step (Pattern-F.DataExcept d ps p) = syntax.data_except (type_of d) (map parameter_of ps.items) p.value
pattern_step (Pattern-F.External m) = syntax.external (mention_of m)
pattern_step (Pattern-F.Grammar cs) = syntax.grammar (syntax.components_of cs.items)
pattern_step (Pattern-F.Group ps) = syntax.members group ps.items
pattern_step (Pattern-F.Interleave ps) = syntax.members interleave ps.items
pattern_step (Pattern-F.Choice ps) = syntax.members choice ps.items

-- one level of a component
abbrev pub component_step : Component-F (syntax.ComponentAt written) (syntax.PatternAt written) → syntax.ComponentAt written
component_step (Component-F.Start m p) = syntax.start m p
component_step (Component-F.Define n m p) = syntax.define n.now m p
component_step (Component-F.Div cs) = syntax.div (syntax.components_of cs.items)
component_step (Component-F.Include m cs) = syntax.include (mention_of m) (syntax.components_of cs.items)

abbrev pub pattern_of : Pattern → syntax.PatternAt written
pattern_of = fold-Pattern (syntax.ComponentAt written) (syntax.PatternAt written) component_step pattern_step

abbrev pub component_of : Component → syntax.ComponentAt written
component_of = fold-Component (syntax.ComponentAt written) (syntax.PatternAt written) component_step pattern_step

abbrev pub setting_of : Setting → grammar.Setting
setting_of settings.Content = grammar.content
setting_of settings.Override = grammar.override

abbrev pub uri_of : Uri → syntax.Uri
uri_of uris.Inherit = syntax.inherit
uri_of (uris.Literal l) = syntax.literal (text_of l)

abbrev pub declaration_of : Declaration → syntax.Declaration
declaration_of (declarations.Namespace p u) = syntax.namespace p.now (uri_of u)
declaration_of (declarations.Default p u) = syntax.default_namespace (option_map (λ p. p.now) p) (uri_of u)
declaration_of (declarations.Datatypes d) = syntax.datatypes d.name.now (text_of d.value)

abbrev pub body_of : Body → syntax.Body
body_of (bodies.Pattern p) = syntax.pattern_body (pattern_of p)
body_of (bodies.Grammar cs) = syntax.grammar_body (syntax.components_of (map component_of cs.items))

abbrev pub file_of : File → syntax.File
file_of f = record { declarations = map declaration_of f.declarations.items; body = body_of f.body }
