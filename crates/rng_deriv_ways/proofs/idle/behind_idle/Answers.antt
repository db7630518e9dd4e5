use Rattle.std.proofs.Common.{◌≡◌, ◌∙◌, Some, ap, arith, map, slice_get, subst, sym}
use Rattle.std.proofs.lemmas.Option.{slice_get-get_or}
use Rattle.rng_deriv_table.specs.views.Trees.{tree_of}
use Rattle.rng_deriv_table.specs.declared.pattern.PatternNumber.{PatternNumber}
use Rattle.rng_deriv_table.specs.declared.skips.Skip.{Skip}
use Rattle.rng_deriv_ways.specs.plain.Idle.{IsIdle}
use Rattle.rng_deriv_ways.proofs.IdleMembers.{member_is}
use Rattle.rng_deriv_ways.proofs.idle.behind_idle.Goals as goal

pub returns-in-Some-clause-further : goal.returns-in-Some-clause-further
returns-in-Some-clause-further c =
    let skip : Skip = c.in-Some.skip.now in
    let look = c.in-Some.ensures.lookup in
    let found : slice_get c.args.skips.now c.args.position ≡ Some skip = slice_get-get_or c.args.skips.now c.args.position skip look.3.0 ∙ ap Some (sym look.1) in
    let further = (c.requires.skips c.args.position skip found).further in
    omega (arith, further)

pub returns-in-Some-clause-idle : goal.returns-in-Some-clause-idle
returns-in-Some-clause-idle c = λ k m low high at t kind among.
    let ns = c.args.table.now in
    let skip : Skip = c.in-Some.skip.now in
    let look = c.in-Some.ensures.lookup in
    let found : slice_get c.args.skips.now c.args.position ≡ Some skip = slice_get-get_or c.args.skips.now c.args.position skip look.3.0 ∙ ap Some (sym look.1) in
    let within = (c.requires.skips c.args.position skip found).within in
    c.lacks.ensures c.if-lacks.true t ns kind (tree_of t ns m) among (λ e has. within k m low high at t e has)

pub returns-in_default-clause-idle : goal.returns-in_default-clause-idle
returns-in_default-clause-idle c = λ k m low high at.
    let none : PatternNumber = record { 0 = 0 } in
    let same_place : k ≡ c.args.position = omega (arith, low, high) in
    let is = member_is c.args.members.now c.args.position m none (subst (λ k. slice_get (map (λ (m : PatternNumber). m.0) c.args.members.now) k ≡ Some m) same_place at) in
    subst (IsIdle c.args.table.now c.args.candidates) is (c.is_idle.ensures c.if-is_idle.true)
