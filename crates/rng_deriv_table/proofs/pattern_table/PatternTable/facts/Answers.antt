use Rattle.std.proofs.Common.{ap, subst, sym, ◌∙◌}
use Rattle.rng_deriv_table.specs.plain.Facts.{IsWithin}
use Rattle.rng_deriv_table.specs.views.PatternTable.{facts_of}
use Rattle.rng_deriv_table.specs.views.Trees.{tree_of}
use Rattle.rng_deriv_table.specs.declared.pattern.Facts.{Facts}
use Rattle.rng_deriv_laws.proofs.Nullable.{nullable_exact}
use Rattle.rng_deriv_table.proofs.KnownFacts.{elements_within}
use Rattle.rng_deriv_table.proofs.TableRows.{facts_there}
use Rattle.rng_deriv_table.proofs.Subsequences.{loses_first}
use Rattle.rng_deriv_table.proofs.pattern_table.PatternTable.facts.Goals as goal

pub returns-clause-exact : goal.returns-clause-exact
returns-clause-exact c = λ t.
    facts_there c.self.inside.rows.entries c.args.number.0 _ _ c.self.invariant.1 c.row_at.ensures t
    ∙ ap (λ ns. facts_of (tree_of t ns c.args.number.0)) c.self.view_is

pub returns-clause-nullable : goal.returns-clause-nullable
returns-clause-nullable c = λ t g.
    nullable_exact g (tree_of t c.args.self.now c.args.number.0) _ (ap (λ (f : Facts). f.nullable) (returns-clause-exact c t))

pub returns-clause-elements : goal.returns-clause-elements
returns-clause-elements c = λ t e h.
    subst (λ (f : Facts). IsWithin f.elements e) (sym (returns-clause-exact c t)) (elements_within (tree_of t c.args.self.now c.args.number.0) e h)

pub returns-clause-subsequences : goal.returns-clause-subsequences
returns-clause-subsequences c = λ t g n s.
    let exact = returns-clause-exact c t in
    loses_first g (tree_of t c.args.self.now c.args.number.0)
    (sym (ap (λ (f : Facts). f.nullable) exact) ∙ n)
    (sym (ap (λ (f : Facts). f.subsequences) exact) ∙ s)
