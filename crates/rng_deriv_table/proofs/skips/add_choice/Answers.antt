use Rattle.std.proofs.Common.{◌≡◌, ◌∙◌, ◌<◌, All, List, Some, ap, length, map, refl, subst, sym}
use Rattle.std.proofs.lemmas.Result.{IfOk-weaker}
use Rattle.rng_deriv_table.specs.plain.Selecting.{parts_of}
use Rattle.rng_deriv_table.specs.views.Node.{node_of}
use Rattle.rng_deriv_table.specs.views.Skips.{AreSkipsOf, members_at, members_found}
use Rattle.rng_deriv_table.specs.declared.pattern.PatternNumber.{PatternNumber}
use Rattle.rng_deriv_table.proofs.KnownFacts.{of_members}
use Rattle.rng_deriv_table.proofs.MarkedNumbers.{parts_inside}
use Rattle.rng_deriv_table.proofs.MemberSkips.{choice_put}
use Rattle.rng_deriv_table.proofs.skips.add_choice.Goals as goal

pub single_skips-requires : goal.single_skips-requires
single_skips-requires c =
    let l = length c.args.table.now in
    let Below : List PatternNumber → Type 0 = λ ms. All (λ n. n.0 < l) ms in
    subst Below (sym c.as_slice.ensures.value)
    (of_members (λ m. m < l) c.in-Choice.members.items
    (parts_inside c.args.table.now c.args.number.0 c.pattern.result.now (map (λ n. n.0) c.in-Choice.members.items) c.pattern.ensures.found
    (ap (λ p. parts_of (node_of p)) c.in-Choice.is) c.pattern.ensures.table l refl c.requires))

pub returns : goal.returns
returns c =
    let ns = c.args.table.now in
    let members = c.in-Choice.members.items in
    let ms = map (λ (m : PatternNumber). m.0) members in
    let below = parts_inside ns c.args.number.0 c.pattern.result.now ms c.pattern.ensures.found
    (ap (λ p. parts_of (node_of p)) c.in-Choice.is) c.pattern.ensures.table (length ns) refl c.requires in
    let is : members_at ns c.args.number.0 ≡ ms = ap members_found (c.pattern.ensures.found ∙ ap (λ p. Some (node_of p)) c.in-Choice.is) in
    let single = subst (λ (ms : List PatternNumber). AreSkipsOf ns (map (λ (m : PatternNumber). m.0) ms) c.in_ok-skips.skips.items) c.as_slice.ensures.value c.in_ok-skips.ensures in
    IfOk-weaker c.keep_skips.result _ _ (λ u within. λ all. choice_put ns c.args.by_choice.now c.keep_skips.new.by_choice c.args.number ms c.widen_all.new.skips.items
    c.requires is below (c.widen_all.ensures ns ms single) within all) c.keep_skips.ensures
