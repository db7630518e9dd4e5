use Rattle.std.proofs.Common.{◌≡◌, ap, subst, sym, OnOk}
use Rattle.rng_model.specs.simple.Table.{grammar_of}
use Rattle.rng_deriv_table.specs.declared.pattern.Pattern.TheVariants as pattern
use Rattle.rng_deriv_ways.proofs.PatternNodes.{is_over}
use Rattle.rng_expected.specs.plain.Nexts.{with_leaf}
use Rattle.rng_expected.specs.views.Next.{next_of}
use Rattle.rng_expected.proofs.FoundLeaves.{leaf_is_text}
use Rattle.rng_expected.proofs.collecting.take_leaf.Goals as goal

pub returns-in-Element : goal.returns-in-Element
returns-in-Element c =
    let t = c.args.grammar.now in
    subst (λ p. OnOk c.take_element.result (next_of c.take_element.new.expected ≡ with_leaf (grammar_of t) (next_of c.args.expected.now) p))
    (sym (is_over t c.args.table.now c.args.leaf.0 c.pattern.result.now (pattern.Element c.in-Element.element) c.pattern.ensures.table c.pattern.ensures.found
    c.in-Element.is))
    c.take_element.ensures

pub returns-in-Data : goal.returns-in-Data
returns-in-Data c =
    let t = c.args.grammar.now in
    subst (λ p. OnOk c.take_data.result (next_of c.take_data.new.expected ≡ with_leaf (grammar_of t) (next_of c.args.expected.now) p))
    (sym (is_over t c.args.table.now c.args.leaf.0 c.pattern.result.now (pattern.Data c.in-Data.position) c.pattern.ensures.table c.pattern.ensures.found
    c.in-Data.is))
    c.take_data.ensures

pub returns-in_default : goal.returns-in_default
returns-in_default c =
    let t = c.args.grammar.now in
    ap (with_leaf (grammar_of t) (next_of c.args.expected.now))
    (sym (leaf_is_text t c.args.table.now c.args.leaf c.pattern.result.now c.pattern.ensures.table c.pattern.ensures.found c.requires
    c.in_default.not-Element c.in_default.not-Data))
