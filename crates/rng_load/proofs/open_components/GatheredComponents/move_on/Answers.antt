use Rattle.std.proofs.Common.{◌≡◌, ◌∙◌, ◌++◌, [], ap, map, subst, sym}
use Rattle.rng_load.specs.plain.OpenComponents.{gathered_at_end}
use Rattle.rng_load.specs.views.GatheredComponents.{gathered_of, lists_in}
use Rattle.rng_load.specs.views.GrammarParts.{AreJoined}
use Rattle.rng_load.proofs.Patterns.GatheredParts.{gathered_first, moved_on}
use Rattle.rng_load.proofs.open_components.GatheredComponents.move_on.Goals as goal

pub returns : goal.returns
returns c = λ files x all joined.
    let os = lists_in c.args.self.now in
    let moved = map gathered_of c.replace.result.items in
    let rest = (gathered_at_end files os ([], x)).0 in
    let none : map gathered_of c.replace.new.dest.items ≡ [] =
    ap (λ v. map gathered_of v.items) c.replace.ensures.after ∙ ap (map gathered_of) c.new.ensures.items in
    let before : (gathered_at_end files os (map gathered_of c.args.self.now.all.items, x)).0 ≡ moved ++ rest =
    gathered_first files os x (map gathered_of c.args.self.now.all.items) (c.has_enough.ensures c.if-not-has_enough.false)
    ∙ ap (λ v. map gathered_of v.items ++ rest) (sym c.replace.ensures.value) in
    subst (λ gs. AreJoined c.append.new.self (gathered_at_end files os (gs, x)).0 all) (sym none)
    (moved_on c.args.parts.now c.append.new.self moved c.in_ok-append.ensures.components c.in_ok-append.ensures.nested rest all
    (subst (λ gs. AreJoined c.args.parts.now gs all) before joined))
