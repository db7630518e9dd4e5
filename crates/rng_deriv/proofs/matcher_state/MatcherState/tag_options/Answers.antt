use Rattle.std.proofs.Common.{◌≡◌, ◌∙◌, ◌<◌, List, All, Bool, Some, ap, false, length, map, option_map, subst, sym}
use Rattle.rng_model.specs.documents.EventViews.{attribute_of}
use Rattle.rng_model.specs.matching.GrammarMatching.{reading_of}
use Rattle.rng_model.specs.names.NameViews.{name_of}
use Rattle.rng_model.specs.simple.Tree.{Simple}
use Rattle.rng_deriv_table.specs.views.Trees.{tree_of, trees}
use Rattle.rng_deriv_table.specs.declared.pattern.PatternNumber.{PatternNumber}
use Rattle.rng_deriv_ways.specs.plain.Starting.{HasRestrictedBodies}
use Rattle.rng_deriv_events.specs.views.Innermost.{innermost_of}
use Rattle.rng_deriv_events.specs.views.Positions.{IsKnown, IsProgressInside}
use Rattle.rng_deriv_events.specs.declared.progress.Progress.{Progress}
use Rattle.rng_reasons.specs.Reasons.{Alternatives}
use Rattle.rng_reasons.specs.TagOptions.{IsTagOptionsOf}
use Rattle.rng_reasons.specs.views.Options.{options_of}
use Rattle.rng_deriv.specs.views.Alternatives.{unless_lost}
use Rattle.rng_deriv.specs.declared.learned.Learned.{Learned}
use Rattle.rng_deriv.proofs.FollowingEvents.{alternatives_there, is_left_at, left_in}
use Rattle.rng_deriv.proofs.GrownTables.{inside_grown, known_grown, left_grown, served_state}
use Rattle.rng_deriv.proofs.KeptStarts.{serves_longer}
use Rattle.rng_deriv.proofs.matcher_state.MatcherState.tag_options.Goals as goal

pub tag_options-requires-clause-inside : goal.tag_options-requires-clause-inside
tag_options-requires-clause-inside c =
    let s = c.args.self.now in
    let left = left_in c.in-Some.left in
    let is : innermost_of s.progress ≡ Some left =
    sym (ap innermost_of c.replace-progress.ensures.value) ∙ sym c.innermost.ensures ∙ ap (option_map left_in) c.in-Some.is in
    let same = c.deref_mut-learned.ensures.value in
    let kept : s.learned.value.lost ≡ false = sym (ap (λ (n : Learned). n.lost) same) ∙ c.if-learned.false in
    subst (λ (n : Learned). All (λ (p : PatternNumber). p.0 < length n.table) left.now) (sym same)
    (subst (λ (b : Bool). All (λ (p : PatternNumber). p.0 < length s.learned.value.table) (unless_lost b left.now)) kept
    (alternatives_there c.args.grammar.now s c.requires left is))

pub tag_options-requires-clause-restricted : goal.tag_options-requires-clause-restricted
tag_options-requires-clause-restricted c =
    let t = c.args.grammar.now in
    let n = c.deref_mut-learned.result.now in
    let served = served_state t c.args.self.now c.requires n c.deref_mut-learned.ensures.value c.if-learned.false in
    subst (HasRestrictedBodies t n.table) (sym c.as_slice.ensures.value) served.0.bodies

pub returns-clause-state : goal.returns-clause-state
returns-clause-state c =
    let t = c.args.grammar.now in
    let s = c.args.self.now in
    let n = c.deref_mut-learned.result.now in
    let new = c.tag_options.new.table in
    let same = c.deref_mut-learned.ensures.value in
    let there = c.if-learned.false in
    let longer = c.in_ok-options.ensures.longer in
    record {
      serves = serves_longer t n.table new n.keys longer n.numbers.items n.known (served_state t s c.requires n same there) c.tag_options.new.known
          c.in_ok-options.ensures.known;
      inside = subst (IsProgressInside (reading_of t) n.keys (trees t new)) (sym c.replace-progress.ensures.value)
          (inside_grown t s c.requires n same there new longer);
      reduced = λ kept. c.reduced_pattern_law.ensures t;
    }

pub returns-clause-knows : goal.returns-clause-knows
returns-clause-knows c = λ es known.
    let t = c.args.grammar.now in
    let new = c.tag_options.new.table in
    subst (λ (p : Progress). IsKnown (reading_of t) (trees t new) p es) (sym c.replace-progress.ensures.value)
    (known_grown t c.args.self.now c.requires c.deref_mut-learned.result.now c.deref_mut-learned.ensures.value c.if-learned.false new
    c.in_ok-options.ensures.longer es known)

pub returns-clause-options : goal.returns-clause-options
returns-clause-options c = λ es known.
    let t = c.args.grammar.now in
    let s = c.args.self.now in
    let g = reading_of t in
    let q = name_of c.args.tag.now.name.now in
    let xs = map attribute_of c.args.tag.now.attrs.now in
    let named = name_of c.args.named.now in
    let left = left_in c.in-Some.left in
    let is : innermost_of s.progress ≡ Some left =
    sym (ap innermost_of c.replace-progress.ensures.value) ∙ sym c.innermost.ensures ∙ ap (option_map left_in) c.in-Some.is in
    let same = c.deref_mut-learned.ensures.value in
    let kept : s.learned.value.lost ≡ false = sym (ap (λ (n : Learned). n.lost) same) ∙ c.if-learned.false in
    let options = option_map options_of c.in_ok-options.options in
    let Options : List (Simple _) → Type 0 = λ now. IsTagOptionsOf g (trees t c.tag_options.new.table) now q xs named options in
    left_grown t s c.requires c.deref_mut-learned.result.now same c.if-learned.false c.tag_options.new.table c.in_ok-options.ensures.longer
    (λ (a : Alternatives). Options a.behind) es
    (is_left_at t s c.requires left is false Options
    (subst (λ (b : Bool). Options (map (λ (p : PatternNumber). tree_of t s.learned.value.table p.0) (unless_lost b left.now))) (sym kept)
    (subst (λ (n : Learned). Options (map (λ (p : PatternNumber). tree_of t n.table p.0) left.now)) same c.in_ok-options.ensures.options))
    es known)
