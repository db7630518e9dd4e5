use Rattle.std.proofs.Common.{◌≡◌, map, subst, IfOk}
use Rattle.std.proofs.lemmas.Iterator.Consumers.{map_from_collect, YieldsList-from_first}
use Rattle.rng_model.specs.datatypes.Texts.{pieces}
use Rattle.rng_model.specs.views.PiecesView.{pieces_left}
use Rattle.rng_model.proofs.BlankRuns.{runs_are}
use Rattle.rng_model.proofs.blanks.split_blanks.Goals as goal

pub returns-clause-runs : goal.returns-clause-runs
returns-clause-runs c =
    let collected =
    map_from_collect c.collect.result c.collect.ensures.ran (YieldsList-from_first (λ x. x.now) pieces_left (pieces c.args.text.now) c.new.ensures) in
    runs_are _ _ (subst (λ r. IfOk r (λ v. map (λ x. x.now) v.items ≡ pieces c.args.text.now)) c.in_ok-collect.was collected)
