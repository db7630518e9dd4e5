use Rattle.std.proofs.Common.{map, take}
use Rattle.rng_load.specs.plain.Counting.{marks_of}
use Rattle.rng_load.specs.views.FilesView.{taken_files_of}
use Rattle.rnc_model.specs.loading.Loading.{hrefs_in}
use Rattle.rng_load.proofs.Mentions.CountMarks.{IsCounting}
use Rattle.rng_load.proofs.paths.+count_paths.Given as goal

abbrev pub decreases-count_paths : goal.decreases-count_paths
decreases-count_paths l = l.levels

abbrev pub invariant-loop-next : goal.invariant-loop-next
invariant-loop-next l =
    IsCounting (hrefs_in (taken_files_of l.trees)) l.name (marks_of l.fn.marks) (marks_of l.marks) (map (λ n. n.now) (take l.next-index l.next-items)) l.total
