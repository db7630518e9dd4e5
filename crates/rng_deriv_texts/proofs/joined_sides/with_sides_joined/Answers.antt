use Rattle.std.proofs.Common.{◌≡◌, ◌∙◌, ◌<◌, ◌↔◌, All, List, ℕ, Some, ap, arith, length, rules, subst, sym}
use Rattle.std.proofs.lemmas.List.Elements.{All-weaker}
use Rattle.std.proofs.lemmas.Result.{IfOk-weaker as if_ok}
use Rattle.rng_model.specs.simple.Tree.{Simple}
use Rattle.rng_deriv_laws.specs.plain.Restricted.{IsRestricted}
use Rattle.rng_model.specs.matching.Document.{Attribute, Item}
use Rattle.rng_deriv_laws.specs.plain.Taking.{Same, Takes}
use Rattle.rng_deriv_table.specs.views.Choices.{SomeTakes}
use Rattle.rng_deriv_table.specs.views.Node.{node_of}
use Rattle.rng_deriv_table.specs.views.Trees.{tree_of}
use Rattle.rng_deriv_table.specs.declared.pattern.PatternNumber.{PatternNumber}
use Rattle.rng_deriv_texts.proofs.JoinedRests.{choice_same, choice_there, restricted_members}
use Rattle.rng_deriv_texts.proofs.joined_sides.with_sides_joined.Goals as goal

pub have_sides_in_common-requires : goal.have_sides_in_common-requires
have_sides_in_common-requires c =
    let ns = c.args.table.now in
    let found = c.pattern.ensures.found ∙ ap (λ p. Some (node_of p)) c.in-Choice.is in
    let there = choice_there ns c.args.number.0 c.in-Choice.members.items c.pattern.ensures.table found in
    let inside = c.requires in
    subst (λ (ms : List PatternNumber). All (λ (m : PatternNumber). m.0 < length ns) ms) (sym c.as_slice.ensures.value)
    (All-weaker (λ (m : PatternNumber). m.0 < c.args.number.0) (λ (m : PatternNumber). m.0 < length ns) (λ m below. omega (arith, below, inside))
    c.in-Choice.members.items there.0)

pub joined-requires-clause-inside : goal.joined-requires-clause-inside
joined-requires-clause-inside c =
    let ns = c.args.table.now in
    let found = c.pattern.ensures.found ∙ ap (λ p. Some (node_of p)) c.in-Choice.is in
    let there = choice_there ns c.args.number.0 c.in-Choice.members.items c.pattern.ensures.table found in
    let inside = c.requires in
    let same : c.as_slice-3.result.now ≡ c.in-Choice.members.items = search rules in
    subst (λ (ms : List PatternNumber). All (λ (m : PatternNumber). m.0 < length ns) ms) (sym same)
    (All-weaker (λ (m : PatternNumber). m.0 < c.args.number.0) (λ (m : PatternNumber). m.0 < length ns) (λ m below. omega (arith, below, inside))
    c.in-Choice.members.items there.0)

pub returns-clause-same : goal.returns-clause-same
returns-clause-same c =
    let ns = c.args.table.now in
    let found = c.pattern.ensures.found ∙ ap (λ p. Some (node_of p)) c.in-Choice.is in
    let ms = c.in-Choice.members.items in
    let there = choice_there ns c.args.number.0 ms c.pattern.ensures.table found in
    let same : c.as_slice-3.result.now ≡ ms = search rules in
    if_ok c.joined.result _ _ (λ n takes. λ t g.
    let whole = tree_of t c.joined.new.table n.0 in
    subst (λ (p : Simple ℕ). Same g whole p) (sym (there.1 t)) (choice_same t ns ms whole g
    (subst (λ (ks : List PatternNumber). (xs : List Attribute) (is : List Item) → Takes g whole xs is ↔ SomeTakes g (tree_of t ns) ks xs is) same (takes t g))))
    c.joined.ensures.matches

pub returns-clause-restricted : goal.returns-clause-restricted
returns-clause-restricted c =
    let ns = c.args.table.now in
    let found = c.pattern.ensures.found ∙ ap (λ p. Some (node_of p)) c.in-Choice.is in
    let ms = c.in-Choice.members.items in
    let there = choice_there ns c.args.number.0 ms c.pattern.ensures.table found in
    let same : c.as_slice-3.result.now ≡ ms = search rules in
    if_ok c.joined.result _ _ (λ n kept. λ t o. kept t
    (subst (λ (ks : List PatternNumber). All (λ (m : PatternNumber). IsRestricted (tree_of t ns m.0)) ks) (sym same)
    (restricted_members (tree_of t ns) ms (subst IsRestricted (there.1 t) o))))
    c.joined.ensures.restricted
