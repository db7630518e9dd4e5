use Rattle.std.proofs.Common.{rules, ◌≡◌, ◌∙◌, subst, map, IfOk, Some, None, []}
use Rattle.rng_load.proofs.Overriding.MentionedNames.{mentions_found}
use Rattle.rng_load.proofs.mentioned.hrefs_in.Goals as goal

pub returns-in-Some : goal.returns-in-Some
returns-in-Some c =
    subst (λ ns. IfOk c.hrefs.result (λ names. map (λ n. n.now) names.items ≡ ns))
    (mentions_found c.args.trees.now.entries c.args.name.now (Some c.in-Some.tree.now) c.in-Some.ensures.value) c.hrefs.ensures

pub returns-in-None : goal.returns-in-None
returns-in-None c =
    let none : map (λ n. n.now) c.new.result.items ≡ [] = search rules in
    none ∙ mentions_found c.args.trees.now.entries c.args.name.now None c.in-None.ensures.value
