-- Small schemas whose files mention one another: which mentions form a cycle, and how many paths of mentions there are.
use Rattle.std.proofs.Common.{refl, [], ◌∷◌, arith, inl, codes}
use Rattle.rng_model.specs.names.Lists.{here}
use Rattle.rng_model.specs.simple.Tree.{group}
use Rattle.rnc_model.specs.grammar.Syntax as tree
use Rattle.rnc_model.specs.grammar.Syntax.{applied, inherited}
use Rattle.rnc_model.specs.declarations.FileTree.{pattern_file}
use Rattle.rng_load.specs.plain.Counting.{paths, paths_along, HasPaths, has, have_none, have_more}
use Rattle.rnc_model.specs.loading.Loading.{TakenFiles, hrefs_in}
use Rattle.rnc_model.specs.loading.Mentions.{IsCyclic, HasMorePathsThan, directly, through}
use Rattle.rnc_model.specs.loading.SchemaFile.{FileName}
use Rattle.rng_load.proofs.Mentions.CountedPaths.{at_most}
use Rattle.rng_load.proofs.Mentions.PathLists.{more_here, more_found}

abbrev a : FileName
a = codes "a.rnc"

abbrev b : FileName
b = codes "b.rnc"

abbrev mention : FileName → tree.PatternAt applied
mention f = tree.external (record { href = f; inherit = inherited; token = 0 })

-- ---- cycles of mentions

-- a.rnc: external "a.rnc"
abbrev one_file : TakenFiles
one_file = (a, pattern_file (mention a)) ∷ []

mentions_itself : IsCyclic (hrefs_in one_file) a
mentions_itself = (a, inl refl, directly here)

-- a.rnc: external "b.rnc"   b.rnc: external "a.rnc"
abbrev ring : TakenFiles
ring = (a, pattern_file (mention b)) ∷ (b, pattern_file (mention a)) ∷ []

goes_round : IsCyclic (hrefs_in ring) a
goes_round = (a, inl refl, through (directly here) here)

-- ---- paths of mentions

-- a.rnc: external "b.rnc", external "b.rnc"   b.rnc: empty
abbrev two_mentions : TakenFiles
two_mentions =
    (a, pattern_file (tree.joined group (tree.pattern_and (mention b) (tree.pattern_and (mention b) tree.no_patterns))))
    ∷ (b, pattern_file tree.empty) ∷ []

-- the empty path, and one along each mention
three_paths : HasPaths (hrefs_in two_mentions) a 3
three_paths = has (have_more leaf (have_more leaf (have_none refl) refl) refl) refl where
  leaf : HasPaths (hrefs_in two_mentions) b 1
  leaf = has (have_none refl) refl

more_than_two : HasMorePathsThan (hrefs_in two_mentions) 2 a
unfolding paths paths_along
more_than_two = more_here (hrefs_in two_mentions) 2 1 (omega arith)

not_more_than_three : ¬ (HasMorePathsThan (hrefs_in two_mentions) 3 a)
not_more_than_three m =
    let found = more_found (hrefs_in two_mentions) 3 m in
    let few = at_most (hrefs_in two_mentions) three_paths found.0 in
    let more = found.1 in
    omega (arith, few, more)
