use Rattle.std.proofs.Common.{Some}
use Rattle.rng_load.specs.plain.ComponentNames.{names_in}
use Rattle.rng_load.proofs.LoadOrder.HandedIn.{is_not}
use Rattle.rng_load.proofs.Overriding.GatheredNames.{all_there, part_of, lacking}
use Rattle.rng_load.proofs.component_names.ComponentNames.have_all_of.Goals.{else-others-via-then-others+else-not-self, else-others-via-else-others}
use Rattle.rng_load.proofs.component_names.ComponentNames.have_all_of.Goals as goal

pub returns-clause-all : goal.returns-clause-all
returns-clause-all c = λ t y h.
    all_there (names_in c.args.others.now) (names_in c.args.self.now)
    (λ s. elim c.else-others.branch [
      | else-others-via-then-others+else-not-self w ↦ w.if-not-self.false
      | else-others-via-else-others w ↦ absurd (is_not w.if-others.false s)
    ])
    (part_of c.args.others.now.defines.keys c.args.self.now.defines.keys (c.is_subset.ensures.0 t)) y h

pub returns-clause-lack : goal.returns-clause-lack
returns-clause-lack c = λ f.
    let l = lacking c.args.others.now.defines.keys c.args.self.now.defines.keys (λ sub. is_not f (c.is_subset.ensures.1 sub)) in
    (Some l.0, l.1, l.2)
