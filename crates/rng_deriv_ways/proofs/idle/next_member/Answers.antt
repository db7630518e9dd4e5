use Rattle.std.proofs.Common.{◌≡◌, ◌∙◌, ◌<◌, ℕ, All, List, Some, ap, arith, get_or, length, map, refl, slice_get, subst, sym}
use Rattle.std.proofs.lemmas.List.{length-map}
use Rattle.std.proofs.lemmas.Option.{slice_get-get_or, slice_get-map}
use Rattle.std.specs.Option.{option_map}
use Rattle.rng_deriv_table.specs.views.Skips.{AreSkipsOf, members_at}
use Rattle.rng_deriv_table.specs.declared.pattern.PatternNumber.{PatternNumber}
use Rattle.rng_deriv_table.proofs.KnownFacts.{of_members}
use Rattle.rng_deriv_ways.specs.plain.Idle.{AreIdle}
use Rattle.rng_deriv_ways.proofs.IdleMembers.{idle_further, idle_up_to, members_are}
use Rattle.rng_deriv_ways.proofs.PatternNodes.{parts_there}
use Rattle.rng_deriv_ways.proofs.idle.next_member.Goals as goal

pub behind_idle-behind-requires-clause-inside : goal.behind_idle-behind-requires-clause-inside
behind_idle-behind-requires-clause-inside c =
    let ns = c.args.table.now in
    let below = parts_there ns c.args.number.0 c.pattern.result.now _ c.pattern.ensures.table c.pattern.ensures.found c.in-Choice.is in
    let inside = c.requires.inside in
    let Inside : List PatternNumber → Type 0 = λ ms. All (λ m. m.0 < length ns) ms in
    subst Inside (sym c.as_slice-members.ensures.value) (λ k d h.
    let one = of_members (λ m. m < c.args.number.0) c.in-Choice.members.items below.1 k d h in omega (arith, one, inside))

pub behind_idle-behind-requires-clause-skips : goal.behind_idle-behind-requires-clause-skips
behind_idle-behind-requires-clause-skips c =
    let ns = c.args.table.now in
    let number : PatternNumber → ℕ = λ m. m.0 in
    let is = members_are ns c.args.number.0 c.pattern.result.now c.in-Choice.members c.pattern.ensures.found c.in-Choice.is
    ∙ ap (map number) (sym c.as_slice-members.ensures.value) in
    subst (λ ms. AreSkipsOf ns ms c.skips_of-skips.result.now) is (c.skips_of-skips.ensures ns c.requires.candidates)

pub members-preserved : goal.members-preserved
members-preserved c =
    let ns = c.args.table.now in
    let number : PatternNumber → ℕ = λ m. m.0 in
    let is = members_are ns c.args.number.0 c.pattern.result.now c.in-Choice.members c.pattern.ensures.found c.in-Choice.is
    ∙ ap (map number) (sym c.as_slice-members.ensures.value) in
    let from = c.members.invariant.from in
    let further = c.behind_idle-behind.ensures.further in
    record {
      from = omega (arith, from, further);
      idle = idle_further ns c.args.candidates (members_at ns c.args.number.0) c.args.from c.members.position c.behind_idle-behind.result
          c.members.invariant.idle
          (subst (λ ms. AreIdle ns c.args.candidates ms c.members.position c.behind_idle-behind.result) (sym is) c.behind_idle-behind.ensures.idle);
    }

pub returns-then-behind-position : goal.returns-then-behind-position
returns-then-behind-position c =
    let ns = c.args.table.now in
    let members = c.as_slice-members.result.now in
    let none : PatternNumber = record { 0 = 0 } in
    let number : PatternNumber → ℕ = λ m. m.0 in
    let i = c.members.position in
    let is = members_are ns c.args.number.0 c.pattern.result.now c.in-Choice.members c.pattern.ensures.found c.in-Choice.is
    ∙ ap (map number) (sym c.as_slice-members.ensures.value) in
    let found : slice_get (map number members) i ≡ Some (get_or members i none).0 =
    slice_get-map number members i ∙ ap (option_map number) (slice_get-get_or members i none c.members-test.true) in
    (i, refl, c.members.invariant.from, subst (λ ms. slice_get ms i ≡ Some (get_or members i none).0) (sym is) found, c.members.invariant.idle)

pub returns : goal.returns
returns c =
    let ns = c.args.table.now in
    let number : PatternNumber → ℕ = λ m. m.0 in
    let is = members_are ns c.args.number.0 c.pattern.result.now c.in-Choice.members c.pattern.ensures.found c.in-Choice.is
    ∙ ap (map number) (sym c.as_slice-members.ensures.value) in
    let over = c.members-test.false in
    let long = ap length is ∙ length-map c.as_slice-members.result.now number in
    idle_up_to ns c.args.candidates (members_at ns c.args.number.0) c.args.from c.members.position (omega (arith, over, long)) c.members.invariant.idle
