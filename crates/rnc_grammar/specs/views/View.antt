-- Views of the file trees of the code, without their place in memory.
use Rattle.std.specs.Prelude.{ℕ, List, map, Option, Some, None, option_map, string_bytes}
use Rattle.rng_model.specs.names.NameViews.{namespace_bytes}
use Rattle.rng_model.specs.simple.Tree.{choice, group, interleave}
use Rattle.rnc_grammar.specs.declared.file_tree.Namespace.{Namespace}
use Rattle.rnc_grammar.specs.declared.file_tree.Namespace.TheVariants as namespaces
use Rattle.rnc_grammar.specs.declared.file_tree.ExpandedName.{ExpandedName}
use Rattle.rnc_grammar.specs.declared.file_tree.NameClass.{NameClass, fold-NameClass}
use Rattle.rnc_grammar.specs.declared.file_tree.NameClass.TheOpen.{NameClass-F}
use Rattle.rnc_grammar.specs.declared.file_tree.DatatypeName.{DatatypeName}
use Rattle.rnc_grammar.specs.declared.file_tree.Datatype.{Datatype}
use Rattle.rnc_grammar.specs.declared.file_tree.Mention.{Mention}
use Rattle.rnc_grammar.specs.declared.file_tree.Pattern.{Pattern}
use Rattle.rnc_grammar.specs.declared.file_tree.Component.{Component}
use Rattle.rnc_grammar.specs.declared.file_tree.Component.TheFolds.{fold-Pattern, fold-Component}
use Rattle.rnc_grammar.specs.declared.file_tree.Component.TheOpen.{Pattern-F, Component-F}
use Rattle.rnc_grammar.specs.declared.file_tree.FileTree.{FileTree}
use Rattle.rnc_grammar.specs.declared.file_tree.FileTree.TheVariants as files
use Rattle.rnc_grammar.specs.declared.mentions.MentionedFile.{MentionedFile}
use Rattle.rnc_grammar.specs.declared.mentions.MentionedFile.TheVariants as mentioned_files
use Rattle.rnc_model.specs.grammar.Syntax as tree
use Rattle.rnc_model.specs.grammar.Syntax.{applied}
use Rattle.rnc_model.specs.declarations.FileTree as file
use Rattle.rnc_model.specs.loading.Mentions as mentions

abbrev pub namespace_of : Namespace → tree.Namespace
namespace_of namespaces.Inherited = tree.inherited
namespace_of (namespaces.Given uri) = tree.given (namespace_bytes uri)

abbrev pub name_of : ExpandedName → tree.NameAt applied
name_of n = record { namespace = namespace_of n.namespace; local = string_bytes n.local }

-- one level of a name class, if the classes inside are viewed already
abbrev pub class_step : NameClass-F (tree.NameClassAt applied) → tree.NameClassAt applied
class_step NameClass-F.Any = tree.any_name
class_step (NameClass-F.AnyExcept c) = tree.any_except c.value
class_step (NameClass-F.Ns ns) = tree.ns_name (namespace_of ns)
class_step (NameClass-F.NsExcept ns c) = tree.ns_except (namespace_of ns) c.value
class_step (NameClass-F.Name n) = tree.name_is (name_of n)
class_step (NameClass-F.Choice cs) = tree.choice_of cs.items

abbrev pub class_of : NameClass → tree.NameClassAt applied
class_of = fold-NameClass (tree.NameClassAt applied) class_step

abbrev pub type_of : DatatypeName → tree.DatatypeName applied
type_of d = record { library = string_bytes d.library; name = string_bytes d.name }

abbrev pub parameters_of : Datatype → List (List ℕ × List ℕ)
parameters_of d = map (λ p. (string_bytes p.0, string_bytes p.1)) d.parameters.items

abbrev pub mention_of : Mention → tree.Mention applied
mention_of m = record { href = string_bytes m.href; inherit = namespace_of m.namespace; token = m.token }

-- a datatype with the pattern that it excludes, if there is one
abbrev pub data_of : Datatype → Option (tree.PatternAt applied) → tree.PatternAt applied
data_of d None = tree.data_of (type_of d.type_name) (parameters_of d)
data_of d (Some p) = tree.data_except (type_of d.type_name) (parameters_of d) p

-- one level of a pattern, if the patterns and components inside are viewed already
abbrev pub pattern_step : Pattern-F (tree.ComponentAt applied) (tree.PatternAt applied) → tree.PatternAt applied
pattern_step (Pattern-F.Element c p) = tree.element (class_of c.value) p.value
pattern_step (Pattern-F.Attribute c p) = tree.attribute (class_of c.value) p.value
pattern_step (Pattern-F.List p) = tree.list p.value
pattern_step (Pattern-F.Mixed p) = tree.mixed p.value
pattern_step (Pattern-F.Optional p) = tree.optional p.value
pattern_step (Pattern-F.ZeroOrMore p) = tree.zero_or_more p.value
pattern_step (Pattern-F.OneOrMore p) = tree.one_or_more p.value
pattern_step (Pattern-F.Ref n) = tree.ref (string_bytes n)
pattern_step (Pattern-F.ParentRef n) = tree.parent_ref (string_bytes n)
pattern_step Pattern-F.Empty = tree.empty
pattern_step Pattern-F.Text = tree.text
pattern_step Pattern-F.NotAllowed = tree.not_allowed
pattern_step (Pattern-F.Value v) = tree.value (type_of v.value.type_name) (string_bytes v.value.text)
pattern_step (Pattern-F.Data d e) = data_of d.value (option_map (λ p. p.value) e)
pattern_step (Pattern-F.External m) = tree.external (mention_of m.value)
pattern_step (Pattern-F.Grammar cs) = tree.grammar (tree.components_of cs.items)
pattern_step (Pattern-F.Group ps) = tree.members group ps.items
pattern_step (Pattern-F.Interleave ps) = tree.members interleave ps.items
pattern_step (Pattern-F.Choice ps) = tree.members choice ps.items

-- one level of a component
abbrev pub component_step : Component-F (tree.ComponentAt applied) (tree.PatternAt applied) → tree.ComponentAt applied
component_step (Component-F.Start m p) = tree.start m p
component_step (Component-F.Define n m p) = tree.define (string_bytes n) m p
component_step (Component-F.Div cs) = tree.div (tree.components_of cs.items)
component_step (Component-F.Include m cs) = tree.include (mention_of m.value) (tree.components_of cs.items)

abbrev pub pattern_of : Pattern → tree.PatternAt applied
pattern_of = fold-Pattern (tree.ComponentAt applied) (tree.PatternAt applied) component_step pattern_step

abbrev pub component_of : Component → tree.ComponentAt applied
component_of = fold-Component (tree.ComponentAt applied) (tree.PatternAt applied) component_step pattern_step

abbrev pub file_of : FileTree → file.FileTree
file_of (files.Pattern p) = file.pattern_file (pattern_of p)
file_of (files.Grammar cs) = file.grammar_file (tree.components_of (map component_of cs.items))

abbrev pub mentioned_file_of : MentionedFile → mentions.MentionedFile
mentioned_file_of (mentioned_files.External m) = mentions.external_file (mention_of m.now)
mentioned_file_of (mentioned_files.Included m over) = mentions.included_file (mention_of m.now) (tree.components_of (map component_of over.now))
