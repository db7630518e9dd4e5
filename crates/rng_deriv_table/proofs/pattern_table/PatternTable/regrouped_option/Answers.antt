use Rattle.std.proofs.Common.{arith, subst, sym, ℕ}
use Rattle.rng_model.specs.simple.Tree.{Simple}
use Rattle.rng_deriv_table.specs.plain.Kept.{IsRegrouped}
use Rattle.rng_deriv_table.specs.views.Options.{option}
use Rattle.rng_deriv_table.specs.views.Trees.{tree_of}
use Rattle.rng_deriv_table.proofs.Regrouped.{option_by, options_longer, regrouped_same}
use Rattle.rng_deriv_table.proofs.Trees.{Longer-length, tree_stays}
use Rattle.rng_deriv_table.proofs.pattern_table.PatternTable.regrouped_option.Goals as goal

pub returns-in_default-clause-options : goal.returns-in_default-clause-options
returns-in_default-clause-options c = c.in_ok-keep_option.ensures c.args.self.now
    (record {
      body = c.requires.body;
      inside = c.requires.number;
      is = λ t.
          let whole = tree_of t c.args.self.now c.args.number.0 in
          subst (λ (p : Simple ℕ). IsRegrouped p whole) (c.requires.is t) (regrouped_same whole);
    })
    c.requires.options

pub returns-clause-options : goal.returns-clause-options
returns-clause-options c =
    let old = c.args.self.now in
    let new = c.group.new.self in
    let longer = c.in_ok-option.ensures.longer in
    let long = Longer-length old new longer in
    let inside = c.requires.body in
    c.in_ok-keep_option-2.ensures new
    (record {
      body = omega (arith, inside, long);
      inside = c.in_ok-option.ensures.tree.inside;
      is = λ t.
          let made = tree_of t new c.in_ok-option.option.0 in
          subst (λ (p : Simple ℕ). IsRegrouped (option p) made) (sym (tree_stays t old new c.args.body.0 longer inside))
          (option_by (tree_of t old c.args.body.0) (tree_of t old c.in-Some.first.0) (tree_of t old c.in-Some.copies.0) made (c.in-Some.ensures.sides t)
          (c.in_ok-option.ensures.matches t) (c.in_ok-option.ensures.tree.is t));
    })
    (options_longer old new c.args.options.now longer c.requires.options)

pub returns-clause-is : goal.returns-clause-is
returns-clause-is c = λ t.
    let old = c.args.self.now in
    let made = tree_of t c.group.new.self c.in_ok-option.option.0 in
    subst (λ (p : Simple ℕ). IsRegrouped p made) (sym (c.requires.is t))
    (option_by (tree_of t old c.args.body.0) (tree_of t old c.in-Some.first.0) (tree_of t old c.in-Some.copies.0) made (c.in-Some.ensures.sides t)
    (c.in_ok-option.ensures.matches t) (c.in_ok-option.ensures.tree.is t))
