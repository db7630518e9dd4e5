use Rattle.std.proofs.Common.{◌≡◌, ◌∙◌, ◌++◌, sym, subst, Some, rules, slice_get}
use Rattle.std.specs.Prelude.{OnOk}
use Rattle.rng_model.specs.simple.Table.{tree_at}
use Rattle.rng_model.specs.declared.simple.Simple.TheVariants as simple
use Rattle.rncv_model.specs.printed.Items as text
use Rattle.rncv_model.specs.printed.PrintedText.{item_name, reference}
use Rattle.rnc_print.specs.views.Items.{items_seen}
use Rattle.rnc_print.specs.declared.items.Item.TheVariants as variants
use Rattle.rnc_print.proofs.ItemNumbers.{name_is}
use Rattle.rnc_print.proofs.ItemTables.{leaf_listed}
use Rattle.rnc_print.proofs.lines.Lines.write_reference.Goals as goal

pub returns-in-Element : goal.returns-in-Element
returns-in-Element c =
    let t = c.args.self.now.grammar.now in
    let items = c.args.self.now.items.now in
    let at : slice_get t.patterns c.args.id.0 ≡ Some (simple.Element c.in-Element.element) = search rules in
    let is : reference (items_seen t items) (tree_at t.patterns c.args.id) ≡ item_name (items_seen t items) (text.element c.in-Element.element.0) =
    search rules in
    subst (λ w. OnOk c.write_name.result (c.write_name.new.text.items ≡ c.args.text.now.items ++ w))
    (name_is t items (variants.Element c.in-Element.element) c.requires.items (leaf_listed t c.requires.items.table c.args.id.0 _ at)
    ∙ sym is) c.write_name.ensures

pub returns-in-Attribute : goal.returns-in-Attribute
returns-in-Attribute c =
    let t = c.args.self.now.grammar.now in
    let items = c.args.self.now.items.now in
    let is : reference (items_seen t items) (tree_at t.patterns c.args.id) ≡ item_name (items_seen t items) (text.pattern (tree_at t.patterns c.args.id)) =
    search rules in
    subst (λ w. OnOk c.write_name-in-Attribute.result (c.write_name-in-Attribute.new.text.items ≡ c.args.text.now.items ++ w))
    (name_is t items (variants.Pattern c.args.id) c.requires.items c.requires.inside ∙ sym is) c.write_name-in-Attribute.ensures
