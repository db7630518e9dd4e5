-- Well spelled trees of schema files: their names are NCNames, their texts and the namespaces that they declare are
-- made of Chars, and their name classes nest within the limit (RELAX NG Compact Syntax, "Syntax").
use Rattle.std.specs.Prelude.{ℕ, List}
use Rattle.std.specs.List.{AllByRecursion}
use Rattle.rnc_model.specs.grammar.Syntax as tree
use Rattle.rnc_model.specs.grammar.Syntax.{applied, Namespace, inherited, given}
use Rattle.rnc_model.specs.declarations.FileTree.{FileTree, grammar_file, pattern_file}
use Rattle.rnc_model.specs.loading.Places.{class_in}
use Rattle.rnc_print_laws.specs.plain.Printable.{IsText, IsName, IsPrintableClass, IsPrintableParameter}

-- a namespace that is given is made of Chars
abbrev pub IsTextNamespace : Namespace → Type 0
IsTextNamespace inherited = Unit {0}
IsTextNamespace (given u) = IsText u

-- the library of a datatype is a text, and its name is an NCName
abbrev pub IsWellSpelledType : tree.DatatypeName applied → Type 0
IsWellSpelledType d = IsText d.library × IsName d.name

-- the name of another file and the namespace that it inherits are texts
abbrev pub IsWellSpelledMention : tree.Mention applied → Type 0
IsWellSpelledMention m = IsText m.href × IsTextNamespace m.inherit

-- whatever namespace of Chars the file inherits, the class is printable
abbrev pub IsWellSpelledClass : tree.NameClassAt applied → Type 0
IsWellSpelledClass c = (u : List ℕ) → IsText u → IsPrintableClass (class_in u c)

-- everything in the pattern is well spelled, including the files that it mentions
abbrev mutual
  pub IsWellSpelledPattern : tree.PatternAt applied → Type 0
  IsWellSpelledPattern (tree.element c p) = IsWellSpelledClass c × IsWellSpelledPattern p
  IsWellSpelledPattern (tree.attribute c p) = IsWellSpelledClass c × IsWellSpelledPattern p
  IsWellSpelledPattern (tree.list p) = IsWellSpelledPattern p
  IsWellSpelledPattern (tree.mixed p) = IsWellSpelledPattern p
  IsWellSpelledPattern (tree.optional p) = IsWellSpelledPattern p
  IsWellSpelledPattern (tree.zero_or_more p) = IsWellSpelledPattern p
  IsWellSpelledPattern (tree.one_or_more p) = IsWellSpelledPattern p
  IsWellSpelledPattern (tree.ref n) = IsName n
  IsWellSpelledPattern (tree.parent_ref n) = IsName n
  IsWellSpelledPattern tree.empty = Unit {0}
  IsWellSpelledPattern tree.text = Unit {0}
  IsWellSpelledPattern tree.not_allowed = Unit {0}
  IsWellSpelledPattern (tree.value d v) = IsWellSpelledType d × IsText v
  IsWellSpelledPattern (tree.data_of d ps) = IsWellSpelledType d × AllByRecursion IsPrintableParameter ps
  IsWellSpelledPattern (tree.data_except d ps p) = (IsWellSpelledType d × AllByRecursion IsPrintableParameter ps) × IsWellSpelledPattern p
  IsWellSpelledPattern (tree.external m) = IsWellSpelledMention m
  IsWellSpelledPattern (tree.grammar cs) = AreWellSpelledComponents cs
  IsWellSpelledPattern (tree.joined k ps) = AreWellSpelledPatterns ps

  pub AreWellSpelledPatterns : tree.PatternsAt applied → Type 0
  AreWellSpelledPatterns tree.no_patterns = Unit {0}
  AreWellSpelledPatterns (tree.pattern_and p ps) = IsWellSpelledPattern p × AreWellSpelledPatterns ps

  pub IsWellSpelledComponent : tree.ComponentAt applied → Type 0
  IsWellSpelledComponent (tree.start m p) = IsWellSpelledPattern p
  IsWellSpelledComponent (tree.define n m p) = IsName n × IsWellSpelledPattern p
  IsWellSpelledComponent (tree.div cs) = AreWellSpelledComponents cs
  IsWellSpelledComponent (tree.include m cs) = IsWellSpelledMention m × AreWellSpelledComponents cs

  pub AreWellSpelledComponents : tree.ComponentsAt applied → Type 0
  AreWellSpelledComponents tree.no_components = Unit {0}
  AreWellSpelledComponents (tree.component_and c cs) = IsWellSpelledComponent c × AreWellSpelledComponents cs

abbrev pub IsWellSpelledFile : FileTree → Type 0
IsWellSpelledFile (pattern_file p) = IsWellSpelledPattern p
IsWellSpelledFile (grammar_file cs) = AreWellSpelledComponents cs
