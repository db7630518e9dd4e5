use Rattle.std.proofs.Common.{arith}
use Rattle.rng_load.specs.views.PlacedGrammars.{schema_of}
use Rattle.rng_schema_checks.proofs.LeastClause.{from_eleven, next, unbroken}
use Rattle.rng_schema_checks.proofs.checking.Judge.check.Goals as goal

pub returns-then-branch : goal.returns-then-branch
returns-then-branch c =
    let types = c.args.self.types in
    let s = schema_of c.args.self.schema.now in
    (omega arith, record { broken = c.in_ok-breaks.ensures.0 c.if-branch.true; least = from_eleven types s })

pub returns-then-branch-2 : goal.returns-then-branch-2
returns-then-branch-2 c =
    let types = c.args.self.types in
    let s = schema_of c.args.self.schema.now in
    let from12 = next types s 11 (from_eleven types s) (unbroken types s 11 c.if-branch.false c.in_ok-breaks.ensures) in
    (omega arith, record { broken = c.in_ok-breaks-2.ensures.0 c.if-branch-2.true; least = from12 })

pub returns-then-branch-3 : goal.returns-then-branch-3
returns-then-branch-3 c =
    let types = c.args.self.types in
    let s = schema_of c.args.self.schema.now in
    let from12 = next types s 11 (from_eleven types s) (unbroken types s 11 c.if-branch.false c.in_ok-breaks.ensures) in
    let from13 = next types s 12 from12 (unbroken types s 12 c.if-branch-2.false c.in_ok-breaks-2.ensures) in
    (omega arith, record { broken = c.in_ok-breaks-3.ensures.0 c.if-branch-3.true; least = from13 })

pub returns-then-branch-4 : goal.returns-then-branch-4
returns-then-branch-4 c =
    let types = c.args.self.types in
    let s = schema_of c.args.self.schema.now in
    let from12 = next types s 11 (from_eleven types s) (unbroken types s 11 c.if-branch.false c.in_ok-breaks.ensures) in
    let from13 = next types s 12 from12 (unbroken types s 12 c.if-branch-2.false c.in_ok-breaks-2.ensures) in
    let from14 = next types s 13 from13 (unbroken types s 13 c.if-branch-3.false c.in_ok-breaks-3.ensures) in
    (omega arith, record { broken = c.in_ok-breaks-4.ensures.0 c.if-branch-4.true; least = from14 })

pub returns-then-branch-5 : goal.returns-then-branch-5
returns-then-branch-5 c =
    let types = c.args.self.types in
    let s = schema_of c.args.self.schema.now in
    let from12 = next types s 11 (from_eleven types s) (unbroken types s 11 c.if-branch.false c.in_ok-breaks.ensures) in
    let from13 = next types s 12 from12 (unbroken types s 12 c.if-branch-2.false c.in_ok-breaks-2.ensures) in
    let from14 = next types s 13 from13 (unbroken types s 13 c.if-branch-3.false c.in_ok-breaks-3.ensures) in
    let from15 = next types s 14 from14 (unbroken types s 14 c.if-branch-4.false c.in_ok-breaks-4.ensures) in
    (omega arith, record { broken = c.in_ok-breaks-5.ensures.0 c.if-branch-5.true; least = from15 })

pub returns : goal.returns
returns c =
    let types = c.args.self.types in
    let s = schema_of c.args.self.schema.now in
    let from12 = next types s 11 (from_eleven types s) (unbroken types s 11 c.if-branch.false c.in_ok-breaks.ensures) in
    let from13 = next types s 12 from12 (unbroken types s 12 c.if-branch-2.false c.in_ok-breaks-2.ensures) in
    let from14 = next types s 13 from13 (unbroken types s 13 c.if-branch-3.false c.in_ok-breaks-3.ensures) in
    let from15 = next types s 14 from14 (unbroken types s 14 c.if-branch-4.false c.in_ok-breaks-4.ensures) in
    let from16 = next types s 15 from15 (unbroken types s 15 c.if-branch-5.false c.in_ok-breaks-5.ensures) in
    λ clause within broken. absurd (omega (arith, within, from16 clause broken))
