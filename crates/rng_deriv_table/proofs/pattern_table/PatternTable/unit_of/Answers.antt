use Rattle.std.proofs.Common.{◌≡◌, rules}
use Rattle.rng_deriv_table.proofs.Units.{unit_of_both}
use Rattle.rng_deriv_table.proofs.pattern_table.PatternTable.unit_of.Goals as goal

pub returns : goal.returns
returns c =
    let same : c.unit-unit.result ≡ c.unit.result = search rules in
    unit_of_both c.args.self.now c.args.pattern.now c.in-Group.first c.in-Group.second c.in-Group.is c.unit-unit.result c.unit.result c.min.result
    same c.unit-unit.ensures.inside c.unit-unit.ensures.copies c.unit.ensures.copies (search rules)
