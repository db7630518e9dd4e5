use Rattle.std.proofs.Common.{◌∙◌, [], sym}
use Rattle.rng_model.specs.simple.Table.{Table}
use Rattle.rng_model.specs.declared.type_set.TypeSet.TheVariants.{Profile}
use Rattle.rng_expected.proofs.FoundLeaves.{adds_leaf, adds_parts}
use Rattle.rng_expected.proofs.leaves.take_row.Goals as goal

pub returns-then-is_leaf-clause-row : goal.returns-then-is_leaf-clause-row
returns-then-is_leaf-clause-row c = λ t.
    adds_leaf c.args.standing t c.args.table.now c.args.number c.pattern.result.now c.pattern.ensures.table c.pattern.ensures.found c.args.marks.now.items
    c.args.found.now.items c.push.new.self.items c.requires.inside (sym c.is_leaf.ensures ∙ c.if-is_leaf.true) c.in_ok-push.ensures.items

pub returns-clause-row : goal.returns-clause-row
returns-clause-row c = λ t.
    adds_parts c.args.standing t c.args.table.now c.args.number c.pattern.result.now c.pattern.ensures.table c.pattern.ensures.found c.args.marks.now.items
    c.mark_parts.new.marks.items c.args.found.now.items (sym c.is_leaf.ensures ∙ c.if-is_leaf.false) (c.mark_parts.ensures.marks t)

-- a table, whichever
none : Table
none = record { patterns = []; elements = []; start = record { 0 = 0 }; types = Profile }

pub returns-clause-long : goal.returns-clause-long
returns-clause-long c = (c.mark_parts.ensures.marks none).long
