use Rattle.std.proofs.Common.{◌+◌, ◌++◌, ◌∷◌, [], List, ap, arith, refl, subst, sym, ◌∙◌, take}
use Rattle.std.proofs.lemmas.List.{append_assoc, take_all}
use Rattle.std.proofs.lemmas.List.Elements.{All-append}
use Rattle.rng_deriv_laws.specs.plain.Derivatives.{Way, behind}
use Rattle.rng_model.specs.simple.Table.{Table}
use Rattle.rng_deriv_table.specs.views.Trees.{tree_of}
use Rattle.rng_deriv_table.proofs.Trees.{Longer-length, Longer-trans}
use Rattle.rng_deriv_ways.specs.plain.Ways.{IsInside, StandFor, filled, way_at, ways_by}
use Rattle.rng_deriv_ways.specs.declared.way.LeafWay as numbered
use Rattle.rng_deriv_ways.proofs.AddedWays.{filled_more, filled_stays, one_inside}
use Rattle.rng_deriv_ways.proofs.NumberedWays.{stands_as, stands_itself, stands_longer, stands_on, stands_then}
use Rattle.rng_deriv_ways.proofs.filling.add_many.Goals as goal

pub ways-preserved : goal.ways-preserved
ways-preserved c =
    let first = c.args.table.now in
    let new = c.fill.new.table in
    let ways : List numbered.LeafWay = c.args.ways.now in
    let i = c.ways.way-index in
    let own = c.requires.ways i _ c.ways-test.true in
    let inv = c.ways.invariant in
    let rest = c.in_ok-rest.rest in
    let way : numbered.LeafWay = record { leaf = (way_at ways i).leaf; rest = rest } in
    let Front : Table → List Way = λ t. ways_by (tree_of t first) c.args.all.now.items in
    let Side : Table → List Way = λ t. behind (filled (tree_of t first) c.args.hole) (ways_by (tree_of t first) (take i ways)) in
    let longer = Longer-trans first c.ways.table new inv.longer c.in_ok-rest.ensures.longer in
    let before = stands_longer c.ways.table new c.ways.both.items (λ t. Front t ++ Side t) c.in_ok-rest.ensures.longer inv.ways in
    let leaf = own.0 in
    let long = Longer-length first new longer in
    let inside = All-append (IsInside new) c.ways.both.items (way ∷ []) before.inside
    (one_inside new way (omega (arith, leaf, long), c.in_ok-rest.ensures.tree.inside)) in
    record {
      longer = longer;
      ways = subst (λ both. StandFor new both (λ t. Front t ++ behind (filled (tree_of t first) c.args.hole)
          (ways_by (tree_of t first) (take (i + 1) ways)))) (sym c.in_ok-push.ensures.items)
          (stands_as new (c.ways.both.items ++ way ∷ []) _ _
          (λ t. append_assoc (Front t) (Side t) _ ∙ ap (λ us. Front t ++ us)
          (filled_more t first new c.args.hole ways i _ _ rest c.ways-test.true longer own refl
          (c.in_ok-rest.ensures.tree.is t ∙ filled_stays t first c.ways.table c.args.hole _ inv.longer c.requires.hole own.1)))
          (stands_then new new c.ways.both.items (c.ways.both.items ++ way ∷ []) way (λ t. Front t ++ Side t) before
          (stands_itself new (c.ways.both.items ++ way ∷ []) inside)));
    }

pub returns-clause-ways : goal.returns-clause-ways
returns-clause-ways c =
    let first = c.args.table.now in
    let last = c.ways.table in
    let ways : List numbered.LeafWay = c.args.ways.now in
    let new = c.joined_ways.new.table in
    let whole = stands_as last c.ways.both.items _ _
    (λ t. ap (λ ws. ways_by (tree_of t first) c.args.all.now.items ++ behind (filled (tree_of t first) c.args.hole) (ways_by (tree_of t first) ws))
    (take_all c.ways.way-index ways c.ways-test.false)) c.ways.invariant.ways in
    stands_on last new c.ways.both.items _ _ whole
    (subst (λ (ws : List numbered.LeafWay). StandFor new c.in_ok-all.field-0.items (λ t. ways_by (tree_of t last) ws)) c.as_slice-2.ensures.value c.in_ok-all.ensures.ways)
