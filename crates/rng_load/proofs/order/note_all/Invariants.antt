use Rattle.std.proofs.Common.{◌≡◌, map, fold, take}
use Rattle.rng_load.specs.views.FilesView.{names_of}
use Rattle.rnc_model.specs.loading.Loading.{with_name}
use Rattle.rng_load.proofs.order.note_all.Given as goal

abbrev pub invariant-loop-name : goal.invariant-loop-name
invariant-loop-name l = names_of l.names ≡ fold with_name (names_of l.fn.names) (map (λ n. n.now) (take l.name-index l.name-items))
