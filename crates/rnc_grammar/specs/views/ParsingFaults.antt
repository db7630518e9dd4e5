-- Which file tree tokens or a syntax tree have, or which clause they break.
use Rattle.std.specs.Prelude.{◌≡◌, ◌⊎◌, List, Option, Some, None}
use Rattle.rnc_model.specs.declarations.DeclarationRules.{BreaksDeclarationRule}
use Rattle.rnc_model.specs.declarations.Declarations.{file_tree}
use Rattle.rnc_model.specs.grammar.Syntax.{File}
use Rattle.rnc_model.specs.declarations.FileTree.{FileTree}
use Rattle.rnc_grammar.specs.declared.fault.ParseFault.{ParseFault}
use Rattle.rnc_grammar.specs.declared.fault.ParseFault.TheVariants as faults
use Rattle.rnc_model.specs.tokens.Cut.{Lexeme}
use Rattle.rnc_model.specs.grammar.Sentence.{BreaksNesting, BreaksGrammarAt}
use Rattle.rnc_model.specs.loading.SchemaFile.{BreaksDeclarations}

-- ---- a syntax tree

-- it keeps the rules about declarations, and this is its file tree
pub record IsResolved (f : File) (t : FileTree) : Type 0 where
  pub kept : ¬ (BreaksDeclarationRule f)
  pub tree : file_tree f ≡ Some t

-- it breaks a rule about declarations and has this fault, unless memory ran out
abbrev pub IsFaultOfTree : File → ParseFault → Type 0
IsFaultOfTree f faults.Memory = Unit {0}
IsFaultOfTree f (faults.At c number) = ⊥
IsFaultOfTree f (faults.Clause c) = (c ≡ 8) × BreaksDeclarationRule f

-- ---- tokens

-- the tokens have this fault, unless memory ran out
abbrev pub IsFaultOf : List Lexeme → ParseFault → Type 0
IsFaultOf ts faults.Memory = Unit {0}
IsFaultOf ts (faults.At c number) = (c ≡ 6) × BreaksGrammarAt ts number
IsFaultOf ts (faults.Clause c) = ((c ≡ 7) × BreaksNesting ts) ⊎ ((c ≡ 8) × BreaksDeclarations ts)

-- ---- both

-- what a fault says: nothing if memory ran out
abbrev pub unless_memory : ParseFault → Option ParseFault
unless_memory faults.Memory = None
unless_memory (faults.At c number) = Some (faults.At c number)
unless_memory (faults.Clause c) = Some (faults.Clause c)
