use Rattle.std.proofs.Common.{◌≡◌, ◌∷◌, ap, ◌∙◌, map, drop, take, length, ◌-◌}
use Rattle.rng_model.proofs.Places.{first_and_rest}
use Rattle.rng_model.specs.names.Names.{class_list, some_of}
use Rattle.rng_model.specs.simple.Leaves.{class_depth}
use Rattle.rng_model.specs.names.NameViews.{class_of}
use Rattle.rng_simple.specs.plain.InTwos.{nested}
use Rattle.rng_simple.specs.plain.DepthWith.{cut_off}
use Rattle.rng_simple.specs.plain.MemberDepths.{nested_class_depth}
use Rattle.rng_simple.proofs.NumberedGraphs.MemberDepths.{choice_depth}
use Rattle.rng_simple.proofs.graph.depth.+classes.Goals as goal

pub choice_depth-loop-member-init : goal.choice_depth-loop-member-init
choice_depth-loop-member-init t c =
    let rest = take (length c.args.members.now - 1) (drop 1 c.args.members.now) in
    let whole : c.first-item.result ∷ rest ≡ c.args.members.now =
    first_and_rest c.args.members.now c.first-item.result c.in-len1-up.len_at_least c.first-item.is in
    ap (λ n. nested_class_depth n (class_list (map class_of rest))) c.class_depth-depth.ensures
    ∙ choice_depth (class_of c.first-item.result) (map class_of rest)
    ∙ ap (λ cs. cut_off (class_depth (nested (some_of (map class_of cs))))) whole
