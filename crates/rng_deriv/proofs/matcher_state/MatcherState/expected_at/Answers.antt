use Rattle.std.proofs.Common.{◌≡◌, ◌∙◌, ◌<◌, All, Some, ap, length, map, option_map, subst, sym}
use Rattle.rng_model.specs.simple.Table.{grammar_of}
use Rattle.rng_deriv_table.specs.views.Trees.{tree_of}
use Rattle.rng_deriv_table.specs.declared.pattern.PatternNumber.{PatternNumber}
use Rattle.rng_deriv_events.specs.views.Innermost.{innermost_of}
use Rattle.rng_expected.specs.Expectations.{IsExpected}
use Rattle.rng_expected.specs.views.Next.{next_of}
use Rattle.rng_deriv.specs.views.Alternatives.{unless_lost}
use Rattle.rng_deriv.specs.declared.learned.Learned.{Learned}
use Rattle.rng_deriv.proofs.FollowingEvents.{is_left_at, left_at, left_in, numbers_left, there_at}
use Rattle.rng_deriv.proofs.matcher_state.MatcherState.expected_at.Goals as goal

pub expected-requires : goal.expected-requires
expected-requires c =
    let s = c.args.self.now in
    let l = c.in-Some.left in
    let left = left_in l in
    let is : innermost_of s.progress ≡ Some left = sym c.innermost.ensures ∙ ap (option_map left_in) c.in-Some.is in
    let numbers = c.numbers_at.ensures ∙ numbers_left c.args.in_place l in
    let same = c.unless_lost-alternatives.ensures ∙ ap (unless_lost c.deref-learned.result.now.lost) numbers
    ∙ ap (λ (n : Learned). unless_lost n.lost (left_at c.args.in_place left)) c.deref-learned.ensures in
    subst (λ (n : Learned). All (λ (p : PatternNumber). p.0 < length n.table) c.unless_lost-alternatives.result.now) (sym c.deref-learned.ensures)
    (subst (All (λ (p : PatternNumber). p.0 < length s.learned.value.table)) (sym same) (there_at c.args.grammar.now s c.requires left is c.args.in_place))

pub returns-clause-expected : goal.returns-clause-expected
returns-clause-expected c =
    let t = c.args.grammar.now in
    let s = c.args.self.now in
    let l = c.in-Some.left in
    let left = left_in l in
    let is : innermost_of s.progress ≡ Some left = sym c.innermost.ensures ∙ ap (option_map left_in) c.in-Some.is in
    let numbers = c.numbers_at.ensures ∙ numbers_left c.args.in_place l in
    let same = c.unless_lost-alternatives.ensures ∙ ap (unless_lost c.deref-learned.result.now.lost) numbers
    ∙ ap (λ (n : Learned). unless_lost n.lost (left_at c.args.in_place left)) c.deref-learned.ensures in
    let next = next_of c.in_ok-expected.expected in
    is_left_at t s c.requires left is c.args.in_place (λ now. IsExpected (grammar_of t) now next)
    (subst (λ now. IsExpected (grammar_of t) (map (λ (p : PatternNumber). tree_of t s.learned.value.table p.0) now) next) same
    (subst (λ (n : Learned). IsExpected (grammar_of t) (map (λ (p : PatternNumber). tree_of t n.table p.0) c.unless_lost-alternatives.result.now) next)
    c.deref-learned.ensures c.in_ok-expected.ensures))
