use Rattle.rng_model.specs.names.NameViews.{name_of}
use Rattle.rng_expected.specs.plain.TagLeaves.{HasContent, IsContentLike}
use Rattle.rng_expected.proofs.TagLeaves.{none_told, one_content, one_told}
use Rattle.rng_expected.proofs.contents.contents_of.Goals as goal

pub attributes-preserved-in_default : goal.attributes-preserved-in_default
attributes-preserved-in_default c =
    let t = c.args.context.now.grammar.now in
    let ns = c.args.table.now in
    none_told t ns c.args.attributes.now c.attributes.leaf-index _ c.attributes-test.true (HasContent t ns (name_of c.args.name.now)) (IsContentLike t ns)
    c.attributes.contents.items c.attributes.invariant c.in_default.ensures

pub attributes-preserved : goal.attributes-preserved
attributes-preserved c =
    let t = c.args.context.now.grammar.now in
    let ns = c.args.table.now in
    let q = name_of c.args.name.now in
    one_told t ns c.args.attributes.now c.attributes.leaf-index _ c.attributes-test.true (HasContent t ns q) (IsContentLike t ns) c.attributes.contents.items
    c.attributes.invariant (one_content t ns q) c.in-Some.content c.push.new.self.items c.in-Some.ensures c.in_ok-push.ensures.items
