use Rattle.std.proofs.Common.{◌≡◌, ◌∙◌, ◌↔◌, ◌<◌, All, List, Result, IfOk, ap, get_or, inr, length, subst, sym}
use Rattle.std.proofs.lemmas.List.Elements.{Contains-get_or}
use Rattle.rng_model.specs.declared.simple.PatternId.{PatternId}
use Rattle.rng_deriv_laws.specs.plain.Taking.{Takes}
use Rattle.rng_deriv_table.specs.declared.pattern.PatternNumber.{PatternNumber}
use Rattle.rng_deriv_table.specs.plain.Kept.{IsChoiceTaken}
use Rattle.rng_deriv_table.specs.views.Choices.{IsAlternativeOf, SomeTakes}
use Rattle.rng_deriv_table.specs.views.Taking.{numbers_at}
use Rattle.rng_deriv_table.specs.views.Trees.{tree_of}
use Rattle.rng_deriv_table.proofs.Choices.{both_ok}
use Rattle.rng_deriv_table.proofs.OpenedChoices.{each_below}
use Rattle.rng_deriv_table.proofs.Taking.{all_numbers_at}
use Rattle.rng_deriv_table.proofs.pattern_table.PatternTable.take_choice.Goals as goal

three_ok : {X E : Type 0} (r : Result X E) (P Q S R : X → Type 0) → ((x : X) → P x → Q x → S x → R x) → IfOk r P → IfOk r Q → IfOk r S → IfOk r R
three_ok r P Q S R f p q s = both_ok r (λ x. P x × Q x) S R (λ x h k. f x h.0 h.1 k) (both_ok r P Q (λ x. P x × Q x) (λ x h k. (h, k)) p q) s

pub numbers_at-requires : goal.numbers_at-requires
numbers_at-requires c =
    let positions = c.in_ok-members.members.items in
    let n = length c.args.numbers.now in
    subst (λ (ids : List PatternId). All (λ (id : PatternId). id.0 < n) ids) (sym c.as_slice.ensures.value)
    (λ k d h. each_below c.args.uses.now.grammar.now c.args.uses.now.by_position.items c.args.first c.args.second n c.requires.first c.requires.second
    c.in_ok-members.ensures (get_or positions k d) (inr (Contains-get_or positions k d h)))

pub choice-requires : goal.choice-requires
choice-requires c =
    let is : c.as_slice-2.result.now ≡ numbers_at c.args.numbers.now c.as_slice.result.now = c.as_slice-2.ensures.value ∙ c.in_ok-members-2.ensures in
    subst (λ (ms : List PatternNumber). All (λ (m : PatternNumber). m.0 < length c.args.self.now) ms) (sym is)
    (all_numbers_at (λ (m : PatternNumber). m.0 < length c.args.self.now) c.args.numbers.now c.as_slice.result.now c.requires.inside
    (subst (λ (ids : List PatternId). All (λ (id : PatternId). id.0 < length c.args.numbers.now) ids) (sym c.as_slice.ensures.value)
    (λ k d h. each_below c.args.uses.now.grammar.now c.args.uses.now.by_position.items c.args.first c.args.second (length c.args.numbers.now)
    c.requires.first c.requires.second c.in_ok-members.ensures (get_or c.in_ok-members.members.items k d)
    (inr (Contains-get_or c.in_ok-members.members.items k d h)))))

pub returns-clause-taken : goal.returns-clause-taken
returns-clause-taken c =
    let t = c.args.uses.now.grammar.now in
    let us = c.args.uses.now.by_position.items in
    let numbers = c.args.numbers.now in
    let positions = c.in_ok-members.members.items in
    let is : c.as_slice-2.result.now ≡ numbers_at numbers positions = c.as_slice-2.ensures.value
    ∙ c.in_ok-members-2.ensures ∙ ap (numbers_at numbers) c.as_slice.ensures.value in
    three_ok c.choice.result _ _ _
    (λ n. IsChoiceTaken t us numbers c.args.first c.args.second c.args.self.now c.choice.new.self n.0)
    (λ n matches among reduced. record {
      positions = positions;
      opened = c.in_ok-members.ensures;
      takes = λ g xs ks. subst (λ (ms : List PatternNumber). Takes g (tree_of t c.choice.new.self n.0) xs ks
          ↔ SomeTakes g (tree_of t c.args.self.now) ms xs ks) is (matches t g xs ks);
      made = record { within = λ s h. subst (λ (ms : List PatternNumber). IsAlternativeOf (tree_of t c.args.self.now) ms s) is (among t s h); reduced = reduced t };
    })
    c.choice.ensures.matches c.choice.ensures.alternatives c.choice.ensures.reduced
