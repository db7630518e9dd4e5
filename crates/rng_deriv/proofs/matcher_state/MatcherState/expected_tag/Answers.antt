use Rattle.std.proofs.Common.{◌≡◌, ◌∙◌, ◌<◌, All, Bool, Some, ap, false, length, map, option_map, subst, sym, true}
use Rattle.rng_model.specs.matching.GrammarMatching.{reading_of}
use Rattle.rng_model.specs.names.NameViews.{name_of}
use Rattle.rng_deriv_table.specs.views.Trees.{tree_of}
use Rattle.rng_deriv_table.specs.declared.pattern.PatternNumber.{PatternNumber}
use Rattle.rng_deriv_events.specs.views.Innermost.{innermost_of}
use Rattle.rng_expected.specs.Tags.{IsTag}
use Rattle.rng_expected.specs.views.Next.{tag_of}
use Rattle.rng_expected.proofs.TagParts.{no_tag_there}
use Rattle.rng_deriv.specs.views.Alternatives.{unless_lost}
use Rattle.rng_deriv.specs.declared.learned.Learned.{Learned}
use Rattle.rng_deriv.proofs.FollowingEvents.{alternatives_there, is_left_at, left_in}
use Rattle.rng_deriv.proofs.matcher_state.MatcherState.expected_tag.Goals as goal

pub returns-then-learned-clause-tag : goal.returns-then-learned-clause-tag
returns-then-learned-clause-tag c =
    let t = c.args.grammar.now in
    let s = c.args.self.now in
    let q = name_of c.args.name.now in
    let l = c.in-Some.left in
    let left = left_in l in
    let is : innermost_of s.progress ≡ Some left =
    sym c.innermost.ensures
    ∙ ap (option_map left_in) c.in-Some.is in
    let lost : s.learned.value.lost ≡ true = sym (ap (λ (n : Learned). n.lost) c.deref-learned.ensures) ∙ c.if-learned.true in
    let tag = tag_of c.nothing.result in
    is_left_at t s c.requires left is false (λ now. IsTag (reading_of t) now q tag)
    (subst (λ (b : Bool). IsTag (reading_of t) (map (λ (p : PatternNumber). tree_of t s.learned.value.table p.0) (unless_lost b left.now)) q tag) (sym lost)
    (no_tag_there t q tag c.nothing.ensures))

pub expected_tag-requires-clause-inside : goal.expected_tag-requires-clause-inside
expected_tag-requires-clause-inside c =
    let s = c.args.self.now in
    let l = c.in-Some.left in
    let left = left_in l in
    let is : innermost_of s.progress ≡ Some left =
    sym c.innermost.ensures
    ∙ ap (option_map left_in) c.in-Some.is in
    let kept : s.learned.value.lost ≡ false = sym (ap (λ (n : Learned). n.lost) c.deref-learned.ensures) ∙ c.if-learned.false in
    subst (λ (n : Learned). All (λ (p : PatternNumber). p.0 < length n.table) left.now) (sym c.deref-learned.ensures)
    (subst (λ (b : Bool). All (λ (p : PatternNumber). p.0 < length s.learned.value.table) (unless_lost b left.now)) kept
    (alternatives_there c.args.grammar.now s c.requires left is))

pub returns-clause-tag : goal.returns-clause-tag
returns-clause-tag c =
    let t = c.args.grammar.now in
    let s = c.args.self.now in
    let q = name_of c.args.name.now in
    let l = c.in-Some.left in
    let left = left_in l in
    let is : innermost_of s.progress ≡ Some left =
    sym c.innermost.ensures
    ∙ ap (option_map left_in) c.in-Some.is in
    let kept : s.learned.value.lost ≡ false = sym (ap (λ (n : Learned). n.lost) c.deref-learned.ensures) ∙ c.if-learned.false in
    let tag = tag_of c.in_ok-tag.tag in
    is_left_at t s c.requires left is false (λ now. IsTag (reading_of t) now q tag)
    (subst (λ (b : Bool). IsTag (reading_of t) (map (λ (p : PatternNumber). tree_of t s.learned.value.table p.0) (unless_lost b left.now)) q tag) (sym kept)
    (subst (λ (n : Learned). IsTag (reading_of t) (map (λ (p : PatternNumber). tree_of t n.table p.0) left.now) q tag) c.deref-learned.ensures
    c.in_ok-tag.ensures))
