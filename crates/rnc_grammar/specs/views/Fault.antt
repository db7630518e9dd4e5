-- The fault that is reported for tokens without a syntax tree, or for a syntax tree without a file tree.
use Rattle.std.specs.Prelude.{Option, Some, None, Result, Ok, Err}
use Rattle.rnc_syntax.specs.declared.fault.SyntaxFault.{SyntaxFault}
use Rattle.rnc_syntax.specs.declared.fault.SyntaxFault.TheVariants as syntax_faults
use Rattle.rnc_grammar.specs.declared.fault.ParseFault.{ParseFault}
use Rattle.rnc_grammar.specs.declared.fault.ParseFault.TheVariants as faults
use Rattle.rnc_model.specs.declarations.FileTree.{FileTree}

-- the fault of tokens without a syntax tree
abbrev pub fault_of : SyntaxFault → ParseFault
fault_of syntax_faults.TooDeep = faults.Clause 7
fault_of (syntax_faults.Unexpected number) = faults.At 6 number
fault_of syntax_faults.Memory = faults.Memory

-- the file tree of a syntax tree, or the fault if it has none
abbrev pub tree_or_fault : Option FileTree → Result FileTree ParseFault
tree_or_fault None = Err (faults.Clause 8)
tree_or_fault (Some t) = Ok t
