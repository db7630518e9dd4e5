use Rattle.std.proofs.Common.{◌≡◌, ◌∙◌, ◌<◌, List, All, Bool, Some, ap, false, length, map, option_map, subst, sym}
use Rattle.rng_model.specs.matching.GrammarMatching.{reading_of}
use Rattle.rng_model.specs.simple.Tree.{Simple}
use Rattle.rng_deriv_table.specs.views.Node.{Node}
use Rattle.rng_deriv_table.specs.views.Trees.{tree_of}
use Rattle.rng_deriv_table.specs.declared.pattern.PatternNumber.{PatternNumber}
use Rattle.rng_deriv_events.specs.views.Innermost.{innermost_of}
use Rattle.rng_reasons.specs.Reasons.{IsEndReason}
use Rattle.rng_reasons.specs.views.Left.{AreThere, alternatives_in}
use Rattle.rng_reasons.specs.declared.reasons.LeftHere.{LeftHere}
use Rattle.rng_deriv.specs.views.Alternatives.{left_here, unless_lost}
use Rattle.rng_deriv.specs.declared.learned.Learned.{Learned}
use Rattle.rng_deriv.proofs.FollowingEvents.{alternatives, alternatives_there, in_place_there, is_left, left_in}
use Rattle.rng_deriv.proofs.matcher_state.MatcherState.end_reason.Goals as goal

pub end_reason-requires : goal.end_reason-requires
end_reason-requires c =
    let s = c.args.self.now in
    let l = c.in-Some.left in
    let left = left_in l in
    let is : innermost_of s.progress ≡ Some left = sym c.innermost.ensures ∙ ap (option_map left_in) c.in-Some.is in
    let same = c.deref-learned.ensures in
    let kept : s.learned.value.lost ≡ false = sym (ap (λ (n : Learned). n.lost) same) ∙ c.if-learned.false in
    let There : List PatternNumber → Type 0 = λ ns. All (λ (p : PatternNumber). p.0 < length s.learned.value.table) ns in
    subst (AreThere c.deref-learned.result.now.table) (sym c.left_here-left.ensures)
    (subst (λ (n : Learned). AreThere n.table (left_here l)) (sym same) (record {
      behind = subst (λ (b : Bool). There (unless_lost b left.now)) kept (alternatives_there c.args.grammar.now s c.requires left is);
      in_place = subst (λ (b : Bool). There (unless_lost b left.in_place)) kept (in_place_there c.args.grammar.now s c.requires left is);
    }))

pub returns : goal.returns
returns c =
    let t = c.args.grammar.now in
    let s = c.args.self.now in
    let g = reading_of t in
    let l = c.in-Some.left in
    let left = left_in l in
    let is : innermost_of s.progress ≡ Some left = sym c.innermost.ensures ∙ ap (option_map left_in) c.in-Some.is in
    let same = c.deref-learned.ensures in
    let kept : s.learned.value.lost ≡ false = sym (ap (λ (n : Learned). n.lost) same) ∙ c.if-learned.false in
    let n = c.deref-learned.result.now in
    let reason = c.in_ok-reason.reason in
    let In : List Node → List PatternNumber → List (Simple _) = λ ps ns. map (λ (p : PatternNumber). tree_of t ps p.0) ns in
    is_left t s c.requires left is (λ left. IsEndReason g left reason)
    (subst (λ (b : Bool). IsEndReason g (alternatives (In s.learned.value.table (unless_lost b left.now))
    (In s.learned.value.table (unless_lost b left.in_place)) left.has_text) reason) (sym kept)
    (subst (λ (n : Learned). IsEndReason g (alternatives (In n.table left.now) (In n.table left.in_place) left.has_text) reason) same
    (subst (λ (h : LeftHere). IsEndReason g (alternatives_in t n.table h) reason) c.left_here-left.ensures c.in_ok-reason.ensures)))
