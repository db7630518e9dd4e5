use Rattle.std.proofs.Common.{sym, ap, ap₂, ◌∙◌, is_some}
use Rattle.rng_model.specs.datatypes.Texts.{pieces, collapse, are_equal}
use Rattle.rng_types.specs.views.View.{lengths_of}
use Rattle.rng_types.proofs.TextValues.{texts_equal, never_equal}
use Rattle.xsd_types.specs.views.View.{item_test}
use Rattle.xsd_types.proofs.Items.{is_good, list_collapsed}
use Rattle.xsd_types.proofs.lists.List.equal.Goals as goal

pub returns-then-allows : goal.returns-then-allows
returns-then-allows c =
    let k = item_test c.args.self.now.kind in
    let l = lengths_of c.args.self.now.lengths in
    let a = c.args.a.now in
    let b = c.args.b.now in
    c.is_same_collapsed.ensures
    ∙ texts_equal (λ t. is_good k l (pieces t)) (collapse a) (collapse b) (ap is_some (list_collapsed k l a) ∙ sym c.allows.ensures ∙ c.if-allows.true)
    ∙ ap₂ are_equal (list_collapsed k l a) (list_collapsed k l b)

pub returns-else-allows : goal.returns-else-allows
returns-else-allows c = c.if-allows.false ∙ sym (never_equal _ _ (sym c.allows.ensures ∙ c.if-allows.false))
