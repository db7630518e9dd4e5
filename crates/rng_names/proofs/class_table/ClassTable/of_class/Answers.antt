use Rattle.std.proofs.Common.{◌≡◌, ap, subst, sym, ◌∙◌, length, slice_get, arith}
use Rattle.rng_model.specs.names.NameViews.{class_of}
use Rattle.rng_names.specs.views.Alternatives.{Adds, has_alternative}
use Rattle.rng_names.proofs.ExceptTables.{own_table}
use Rattle.rng_names.proofs.class_table.ClassTable.of_class.Goals as goal

pub invariant_of-result : goal.invariant_of-result
invariant_of-result c =
    let none = c.new-tables.result.items in
    let ys = c.add.new.tables.items in
    let ys_long : c.add.new.tables.len ≡ length ys = c.add.new.tables.ok.0 in
    let bare = c.new-all.result in
    let all = c.add.new.self in
    let adds = c.in_ok-add.ensures in
    let whole = subst (λ d. Adds bare all (λ test. has_alternative test d)) (sym c.new-all.ensures.class) adds.adds in
    let made = own_table none ys c.push.new.self.items bare all c.new-tables.ensures.items c.new-all.ensures.bare whole adds.grows adds.linked
    c.in_ok-push.ensures.items in
    record {
      are = made.0;
      table = all;
      at = ap (slice_get c.push.new.self.items) (c.len-own.ensures ∙ ys_long) ∙ made.1;
      class = ap (λ k. class_of k.now) adds.adds.class ∙ c.new-all.ensures.class;
      covers = c.in_ok-of_class.ensures;
      longer = omega (arith, c.longest.ensures, c.in_ok-fresh_text.ensures);
    }
