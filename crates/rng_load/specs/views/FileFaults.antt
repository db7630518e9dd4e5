-- Why a file has no tree: the faults of the layers below, and the verdict that each result means.
use Rattle.std.specs.Prelude.{Result, Ok, Err, Option, Some, None}
use Rattle.rnc_text.specs.declared.fault.TextFault.{TextFault}
use Rattle.rnc_text.specs.declared.fault.TextFault.TheVariants as texts
use Rattle.rnc_grammar.specs.declared.fault.ParseFault.{ParseFault}
use Rattle.rnc_grammar.specs.declared.fault.ParseFault.TheVariants as parses
use Rattle.rnc_grammar.specs.declared.file_tree.FileTree as declared
use Rattle.rnc_grammar.specs.views.View.{file_of}
use Rattle.rnc_model.specs.loading.FileVerdicts.{FileVerdict, breaks, has_tree}
use Rattle.rng_load.specs.declared.fault.FileFault.{FileFault}
use Rattle.rng_load.specs.declared.fault.FileFault.TheVariants.{Clause, Memory}

-- offsets, and the numbers of tokens, are dropped
abbrev pub fault_of_text : TextFault → FileFault
fault_of_text (texts.At clause offset) = Clause clause
fault_of_text texts.Memory = Memory

abbrev pub fault_of_parse : ParseFault → FileFault
fault_of_parse (parses.At clause number) = Clause clause
fault_of_parse (parses.Clause clause) = Clause clause
fault_of_parse parses.Memory = Memory

-- the verdict on a file, unless memory ran out
abbrev pub verdict_of : Result declared.FileTree FileFault → Option FileVerdict
verdict_of (Ok t) = Some (has_tree (file_of t))
verdict_of (Err (Clause clause)) = Some (breaks clause)
verdict_of (Err Memory) = None
