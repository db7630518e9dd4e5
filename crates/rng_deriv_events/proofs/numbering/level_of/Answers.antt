use Rattle.std.proofs.Common.{◌≡◌, ◌∙◌, ap, subst, sym}
use Rattle.std.specs.List.{list_all, list_any}
use Rattle.std.specs.Option.{IfSome}
use Rattle.rng_deriv_laws.specs.plain.Derivatives.{has_data, is_not_allowed}
use Rattle.rng_deriv_events.specs.views.Basis.{reading_by}
use Rattle.rng_deriv_events.specs.plain.Bits.{bits_of}
use Rattle.rng_deriv_events.specs.views.LevelTable.{levels_in}
use Rattle.rng_deriv_events.specs.declared.level_table.level.Level.{Level}
use Rattle.rng_deriv_events.specs.views.KeptLevels.{nullable_in}
use Rattle.rng_deriv_events.specs.views.Numbers.{tree_of}
use Rattle.rng_deriv_events.proofs.KeptLevels.{adds_level, adds_same, last_level}
use Rattle.rng_deriv_events.proofs.LevelTests.{all_mapped, any_mapped}
use Rattle.rng_deriv_events.proofs.numbering.level_of.Goals as goal

pub returns-in-Some-clause-adds : goal.returns-in-Some-clause-adds
returns-in-Some-clause-adds g c =
    let d = c.args.derivatives.now in
    adds_same (reading_by (g.D.Derivatives.basis d)) (g.D.Derivatives.basis d).keys (g.D.Derivatives.trees d) c.args.table.now c.requires.kept

pub returns-in-Some-clause-level : goal.returns-in-Some-clause-level
returns-in-Some-clause-level g c =
    let found = c.in-Some.ensures in (found.0, found.1 ∙ c.as_slice.ensures)

pub returns-clause-adds : goal.returns-clause-adds
returns-clause-adds g c =
    let d = c.args.derivatives.now in
    let trees = g.D.Derivatives.trees d in
    let ps = c.args.numbers.items in
    let told = c.in_ok-number.ensures in
    let level : Level = record {
      numbers = c.args.numbers;
      good = c.in_ok-good.good;
      dead = c.is_hopeless-dead.result;
      tests_strings = c.some_tests_strings-tests_strings.result;
    } in
    adds_level (reading_by (g.D.Derivatives.basis d)) (g.D.Derivatives.basis d).keys trees c.args.table.now c.add.new.self c.requires.kept level
    (record {
      inside = c.requires.inside;
      good = subst (λ ns. IfSome level.good (λ bits. bits ≡ bits_of (nullable_in trees ns))) c.as_slice-2.ensures c.in_ok-good.ensures;
      dead = c.is_hopeless-dead.ensures ∙ ap (list_all (λ p. is_not_allowed (tree_of trees p))) c.as_slice-3.ensures
          ∙ sym (all_mapped is_not_allowed (tree_of trees) ps);
      tests = c.some_tests_strings-tests_strings.ensures ∙ ap (list_any (λ p. has_data (tree_of trees p))) c.as_slice-4.ensures
          ∙ sym (any_mapped has_data (tree_of trees) ps);
    }) told.levels told.steps told.known.closed told.known.sampled told.known.ends

pub returns-clause-level : goal.returns-clause-level
returns-clause-level g c =
    let told = c.in_ok-number.ensures in
    let level : Level = record {
      numbers = c.args.numbers;
      good = c.in_ok-good.good;
      dead = c.is_hopeless-dead.result;
      tests_strings = c.some_tests_strings-tests_strings.result;
    } in
    last_level (levels_in c.args.table.now) (levels_in c.add.new.self) level c.in_ok-number.number.0 told.number told.levels
