-- Files that break no clause can be read.
use Rattle.std.proofs.Common.{◌≡◌, refl, List, Option, Some, None, option_map, Bor}
use Rattle.std.specs.Option.{IsSome}
use Rattle.rnc_grammar.specs.views.View.{file_of}
use Rattle.rnc_grammar.specs.declared.file_tree.FileTree as declared
use Rattle.rnc_model.specs.declarations.FileTree.{FileTree}
use Rattle.rng_load.specs.plain.FoundGrammars.{CanBeRead}
use Rattle.rnc_model.specs.loading.Loading.{BreaksIncludes, FilesHaveOnlyVerdict, TakenFiles, are_taken, hrefs_in, includes_break, mentions_break, tree_in}
use Rattle.rnc_model.specs.loading.Mentions.{BreaksMentions}
use Rattle.rnc_model.specs.loading.SchemaFile.{FileName, NamedFile}
use Rattle.rng_load.proofs.LoadOrder.ClosedFiles.{are_closed, main_there}
use Rattle.rng_load.proofs.Patterns.PlainReading.{main_readable}

module _ (files : List NamedFile) (main : FileName) (read : TakenFiles) (verdict : FilesHaveOnlyVerdict files main (are_taken read)) where
  no_mention : ¬ (BreaksMentions (hrefs_in read) main)
  no_mention b = verdict.is.1 9 (mentions_break b refl)

  no_include : ¬ (BreaksIncludes read)
  no_include b = verdict.is.1 10 (includes_break no_mention b refl)

  -- the main file is one of them
  pub main_is_there : (t : FileTree) × (tree_in read main ≡ Some t)
  main_is_there = main_there files main read verdict.is.0

  -- every mention can be followed
  pub can_be_read : (t : FileTree) → tree_in read main ≡ Some t → CanBeRead (tree_in read) t
  can_be_read t e = main_readable read (are_closed files main read verdict.is.0) no_include main t e no_mention

-- a tree that is found
pub found_some : (o : Option (Bor declared.FileTree)) (t : FileTree) → option_map (λ t. file_of t.now) o ≡ Some t → IsSome o
found_some None t e = absurd cc
found_some (Some x) t e = refl
