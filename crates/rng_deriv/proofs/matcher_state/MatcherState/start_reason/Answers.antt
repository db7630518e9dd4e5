use Rattle.std.proofs.Common.{◌≡◌, ◌∙◌, ◌<◌, List, All, Bool, Some, ap, false, length, map, option_map, subst, sym}
use Rattle.rng_model.specs.documents.EventViews.{attribute_of}
use Rattle.rng_model.specs.matching.GrammarMatching.{reading_of}
use Rattle.rng_model.specs.names.NameViews.{name_of}
use Rattle.rng_model.specs.simple.Tree.{Simple}
use Rattle.rng_deriv_table.specs.views.Node.{Node}
use Rattle.rng_deriv_table.specs.views.Trees.{tree_of, trees}
use Rattle.rng_deriv_table.specs.declared.pattern.PatternNumber.{PatternNumber}
use Rattle.rng_deriv_ways.specs.plain.Starting.{HasRestrictedBodies}
use Rattle.rng_deriv_events.specs.views.Innermost.{innermost_of}
use Rattle.rng_deriv_events.specs.views.Positions.{IsKnown, IsProgressInside}
use Rattle.rng_deriv_events.specs.declared.progress.Progress.{Progress}
use Rattle.rng_reasons.specs.Reasons.{IsStartReason}
use Rattle.rng_reasons.specs.views.Left.{AreThere, alternatives_in}
use Rattle.rng_reasons.specs.declared.reasons.LeftHere.{LeftHere}
use Rattle.rng_deriv.specs.views.Alternatives.{left_here, unless_lost}
use Rattle.rng_deriv.specs.declared.learned.Learned.{Learned}
use Rattle.rng_deriv.proofs.FollowingEvents.{alternatives, alternatives_there, in_place_there, is_left, left_in}
use Rattle.rng_deriv.proofs.GrownTables.{inside_grown, known_grown, left_grown, served_state}
use Rattle.rng_deriv.proofs.KeptStarts.{serves_longer}
use Rattle.rng_deriv.proofs.matcher_state.MatcherState.start_reason.Goals as goal

pub start_reason-requires-clause-inside : goal.start_reason-requires-clause-inside
start_reason-requires-clause-inside c =
    let s = c.args.self.now in
    let l = c.in-Some.left in
    let left = left_in l in
    let is : innermost_of s.progress ≡ Some left =
    sym (ap innermost_of c.replace-progress.ensures.value) ∙ sym c.innermost.ensures ∙ ap (option_map left_in) c.in-Some.is in
    let same = c.deref_mut-learned.ensures.value in
    let kept : s.learned.value.lost ≡ false = sym (ap (λ (n : Learned). n.lost) same) ∙ c.if-learned.false in
    let There : List PatternNumber → Type 0 = λ ns. All (λ (p : PatternNumber). p.0 < length s.learned.value.table) ns in
    subst (AreThere c.deref_mut-learned.result.now.table) (sym c.left_here-left.ensures)
    (subst (λ (n : Learned). AreThere n.table (left_here l)) (sym same) (record {
      behind = subst (λ (b : Bool). There (unless_lost b left.now)) kept (alternatives_there c.args.grammar.now s c.requires left is);
      in_place = subst (λ (b : Bool). There (unless_lost b left.in_place)) kept (in_place_there c.args.grammar.now s c.requires left is);
    }))

pub start_reason-requires-clause-restricted : goal.start_reason-requires-clause-restricted
start_reason-requires-clause-restricted c =
    let t = c.args.grammar.now in
    let n = c.deref_mut-learned.result.now in
    let served = served_state t c.args.self.now c.requires n c.deref_mut-learned.ensures.value c.if-learned.false in
    subst (HasRestrictedBodies t n.table) (sym c.as_slice.ensures.value) served.0.bodies

pub returns-clause-state : goal.returns-clause-state
returns-clause-state c =
    let t = c.args.grammar.now in
    let s = c.args.self.now in
    let n = c.deref_mut-learned.result.now in
    let new = c.start_reason.new.table in
    let same = c.deref_mut-learned.ensures.value in
    let there = c.if-learned.false in
    let longer = c.in_ok-reason.ensures.longer in
    record {
      serves = serves_longer t n.table new n.keys longer n.numbers.items n.known (served_state t s c.requires n same there) c.start_reason.new.known
          c.in_ok-reason.ensures.known;
      inside = subst (IsProgressInside (reading_of t) n.keys (trees t new)) (sym c.replace-progress.ensures.value)
          (inside_grown t s c.requires n same there new longer);
      reduced = λ kept. c.reduced_pattern_law.ensures t;
    }

pub returns-clause-knows : goal.returns-clause-knows
returns-clause-knows c = λ es known.
    let t = c.args.grammar.now in
    let new = c.start_reason.new.table in
    subst (λ (p : Progress). IsKnown (reading_of t) (trees t new) p es) (sym c.replace-progress.ensures.value)
    (known_grown t c.args.self.now c.requires c.deref_mut-learned.result.now c.deref_mut-learned.ensures.value c.if-learned.false new
    c.in_ok-reason.ensures.longer es known)

pub returns-clause-reason : goal.returns-clause-reason
returns-clause-reason c = λ es known.
    let t = c.args.grammar.now in
    let s = c.args.self.now in
    let g = reading_of t in
    let q = name_of c.args.tag.now.name.now in
    let xs = map attribute_of c.args.tag.now.attrs.now in
    let l = c.in-Some.left in
    let left = left_in l in
    let is : innermost_of s.progress ≡ Some left =
    sym (ap innermost_of c.replace-progress.ensures.value) ∙ sym c.innermost.ensures ∙ ap (option_map left_in) c.in-Some.is in
    let n = c.deref_mut-learned.result.now in
    let same = c.deref_mut-learned.ensures.value in
    let kept : s.learned.value.lost ≡ false = sym (ap (λ (n : Learned). n.lost) same) ∙ c.if-learned.false in
    let new = trees t c.start_reason.new.table in
    let reason = c.in_ok-reason.reason in
    let In : List Node → List PatternNumber → List (Simple _) = λ ps ns. map (λ (p : PatternNumber). tree_of t ps p.0) ns in
    left_grown t s c.requires n same c.if-learned.false c.start_reason.new.table c.in_ok-reason.ensures.longer (λ left. IsStartReason g new q xs left reason) es
    (is_left t s c.requires left is (λ left. IsStartReason g new q xs left reason)
    (subst (λ (b : Bool). IsStartReason g new q xs (alternatives (In s.learned.value.table (unless_lost b left.now))
    (In s.learned.value.table (unless_lost b left.in_place)) left.has_text) reason) (sym kept)
    (subst (λ (n : Learned). IsStartReason g new q xs (alternatives (In n.table left.now) (In n.table left.in_place) left.has_text) reason) same
    (subst (λ (h : LeftHere). IsStartReason g new q xs (alternatives_in t n.table h) reason) c.left_here-left.ensures c.in_ok-reason.ensures.reason)))
    es known)
