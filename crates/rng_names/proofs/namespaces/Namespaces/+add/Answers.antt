use Rattle.std.proofs.Common.{◌≡◌, map, arith}
use Rattle.rng_model.proofs.ChoiceViews.{choice_is}
use Rattle.rng_model.specs.names.Names.{some_of}
use Rattle.rng_model.specs.names.NameViews.{class_of}
use Rattle.rng_names.proofs.CoveredNames.{covers_all, covers_more}
use Rattle.rng_names.proofs.namespaces.Namespaces.+add.Goals as goal

pub members-preserved : goal.members-preserved
members-preserved t c = record {
  kept = λ u e. c.in_ok-add-in-Choice.ensures.kept u (c.members.invariant.kept u e);
  covers = covers_more class_of c.deref-member-items.result.now c.members.self c.add.new.self c.members.member-index c.member-item.result
      c.members-test.true c.member-item.is c.in_ok-add-in-Choice.ensures.kept c.in_ok-add-in-Choice.ensures.covers c.members.invariant.covers;
}

pub returns-after-members-clause-covers : goal.returns-after-members-clause-covers
returns-after-members-clause-covers t c =
    let xs = c.deref-member-items.result.now in
    let whole : class_of c.args.class.now ≡ some_of (map class_of xs) = choice_is _ _ xs c.in-Choice.is c.deref-member-items.ensures.value in
    covers_all class_of xs c.members.self c.members.member-index (class_of c.args.class.now) (omega (arith, c.members-test.false)) whole
    c.members.invariant.covers
