use Rattle.std.proofs.Common.{◌≡◌, ◌<◌, ◌≤◌, ◌+◌, length, arith, rules}
use Rattle.xsd_positions.specs.views.Drafts.{draft_of, links_of}
use Rattle.xsd_positions.proofs.Wholes.{IsDraftOf, not_written, is_written, some_links}
use Rattle.xsd_positions.proofs.Wholes.{AreLinksOf, are_links, some_positions, few_positions, some_places, are_placed}
use Rattle.xsd_positions.proofs.making.positions_of_rows.Goals as goal

pub returns-in_default-clause-exact : goal.returns-in_default-clause-exact
returns-in_default-clause-exact c r is = not_written draft_of r _ _ is c.in_ok-draft.ensures c.in_default.is

pub returns-in_default-2-clause-exact : goal.returns-in_default-2-clause-exact
returns-in_default-2-clause-exact c r is =
    let draft : IsDraftOf r (draft_of c.in-Some.draft) = is_written draft_of r _ _ is c.in_ok-draft.ensures _ c.in-Some.is in
    absurd (some_links r _ draft links_of _ _ c.as_slice.ensures.value c.in_ok-links.ensures c.in_default-2.is)

pub returns-then-count-gt-MOST_POSITIONS-clause-exact : goal.returns-then-count-gt-MOST_POSITIONS-clause-exact
returns-then-count-gt-MOST_POSITIONS-clause-exact c r is =
    let draft : IsDraftOf r (draft_of c.in-Some.draft) = is_written draft_of r _ _ is c.in_ok-draft.ensures _ c.in-Some.is in
    let are : AreLinksOf r (draft_of c.in-Some.draft) c.in-Some-2.links.positions.items =
    are_links links_of r _ _ _ _ draft c.as_slice.ensures.value c.in_ok-links.ensures c.in-Some-2.is in
    let same : c.len-count.result ≡ length c.in-Some-2.links.positions.items = search rules in
    let few : length c.in-Some-2.links.positions.items ≤ 12286 = few_positions r _ _ are in
    absurd (omega (arith, same, few))

pub returns-in_default-checked_sub-clause-exact : goal.returns-in_default-checked_sub-clause-exact
returns-in_default-checked_sub-clause-exact c r is =
    let draft : IsDraftOf r (draft_of c.in-Some.draft) = is_written draft_of r _ _ is c.in_ok-draft.ensures _ c.in-Some.is in
    let are : AreLinksOf r (draft_of c.in-Some.draft) c.in-Some-2.links.positions.items =
    are_links links_of r _ _ _ _ draft c.as_slice.ensures.value c.in_ok-links.ensures c.in-Some-2.is in
    let same : c.len-count.result ≡ length c.in-Some-2.links.positions.items = search rules in
    let some : 0 < length c.in-Some-2.links.positions.items = some_positions r _ _ are in
    let least : 1 ≤ c.len-count.result = omega (arith, same, some) in
    absurd (c.in_default-checked_sub.ensures least)

pub returns-in_default-3-clause-exact : goal.returns-in_default-3-clause-exact
returns-in_default-3-clause-exact c r is =
    let draft : IsDraftOf r (draft_of c.in-Some.draft) = is_written draft_of r _ _ is c.in_ok-draft.ensures _ c.in-Some.is in
    let are : AreLinksOf r (draft_of c.in-Some.draft) c.in-Some-2.links.positions.items =
    are_links links_of r _ _ _ _ draft c.as_slice.ensures.value c.in_ok-links.ensures c.in-Some-2.is in
    let all : length c.in-Some-2.links.positions.items ≡ c.len-count.result = search rules in
    absurd (some_places r _ _ are (λ v. v.items) _ _ all c.in_ok-positions.ensures.same c.in_default-3.is)

pub returns-clause-exact : goal.returns-clause-exact
returns-clause-exact c r is =
    let draft : IsDraftOf r (draft_of c.in-Some.draft) = is_written draft_of r _ _ is c.in_ok-draft.ensures _ c.in-Some.is in
    let are : AreLinksOf r (draft_of c.in-Some.draft) c.in-Some-2.links.positions.items =
    are_links links_of r _ _ _ _ draft c.as_slice.ensures.value c.in_ok-links.ensures c.in-Some-2.is in
    let all : length c.in-Some-2.links.positions.items ≡ c.len-count.result = search rules in
    let before = c.in-Some-checked_sub.ensures in
    let first : c.in-Some-checked_sub.first + 1 ≡ c.len-count.result = omega arith in
    (draft.small, are_placed r _ _ are (λ v. v.items) _ _ all c.in_ok-positions.ensures.same _ _ c.in-Some-3.is first)
