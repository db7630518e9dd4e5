use Rattle.std.proofs.Common.{◌≡◌, ◌<◌, ◌↔◌, ℕ, All, List, length}
use Rattle.std.proofs.lemmas.Result.{IfOk-weaker}
use Rattle.rng_model.specs.matching.Document.{Attribute, Item}
use Rattle.rng_model.specs.simple.Table.{Table}
use Rattle.rng_model.specs.simple.Tree.{Simple, s_not_allowed}
use Rattle.rng_model.specs.matching.GrammarMatching.{Reading}
use Rattle.rng_deriv_laws.specs.plain.Taking.{Takes}
use Rattle.rng_deriv_laws.specs.plain.Restricted.{IsRestricted, IsTyped}
use Rattle.rng_deriv_table.specs.views.Choices.{IsAlternativeOf, SomeTakes}
use Rattle.rng_deriv_table.specs.plain.Reduced.{HasAlternative, MayBeMember}
use Rattle.rng_deriv_table.specs.views.Trees.{tree_of}
use Rattle.rng_deriv_table.proofs.Alternatives.{choice_restricted, choice_typed, no_alternatives}
use Rattle.rng_deriv_table.proofs.Choices.{all_within, as_sets, both_ok, takes_some, takes_within}
use Rattle.rng_deriv_table.proofs.OnlyMember.{only_among, only_inside, only_none, only_restricted, only_takes, only_typed}
use Rattle.rng_deriv_table.proofs.pattern_table.PatternTable.choice.Goals as goal

-- one pattern represents all members
pub returns-in-Some-clause-alternatives : goal.returns-in-Some-clause-alternatives
returns-in-Some-clause-alternatives c = only_among c.args.self.now c.args.members.now c.in-Some.only c.in-Some.ensures

pub returns-in-Some-clause-matches : goal.returns-in-Some-clause-matches
returns-in-Some-clause-matches c = only_takes c.args.self.now c.args.members.now c.in-Some.only c.in-Some.ensures

pub returns-in-Some-clause-none : goal.returns-in-Some-clause-none
returns-in-Some-clause-none c = only_none c.args.self.now c.args.members.now c.in-Some.only c.in-Some.ensures

pub returns-in-Some-clause-restricted : goal.returns-in-Some-clause-restricted
returns-in-Some-clause-restricted c = only_restricted c.args.self.now c.args.members.now c.in-Some.only c.in-Some.ensures

pub returns-in-Some-clause-typed : goal.returns-in-Some-clause-typed
returns-in-Some-clause-typed c = only_typed c.args.self.now c.args.members.now c.in-Some.only c.in-Some.ensures

pub returns-in-Some-clause-inside : goal.returns-in-Some-clause-inside
returns-in-Some-clause-inside c = only_inside c.args.self.now c.args.members.now c.in-Some.only c.in-Some.ensures c.requires

-- what is put in order is one of the alternatives
pub remove_covered-requires : goal.remove_covered-requires
remove_covered-requires c =
    all_within (λ m. m.0 < length c.args.self.now) c.in_ok-alternatives.alternatives.items c.remove_absorbed.new.alternatives.items
    c.in_ok-remove_absorbed.ensures.within c.in_ok-alternatives.ensures.inside

pub choice_of-requires-clause-inside : goal.choice_of-requires-clause-inside
choice_of-requires-clause-inside c =
    all_within (λ m. m.0 < length c.args.self.now) c.in_ok-alternatives.alternatives.items c.put_in_order.new.numbers.items
    (λ m h. c.in_ok-remove_absorbed.ensures.within m (c.in_ok-remove_covered.ensures.within m ((c.in_ok-put_in_order.ensures.same m).0 h)))
    c.in_ok-alternatives.ensures.inside

pub choice_of-requires-clause-members : goal.choice_of-requires-clause-members
choice_of-requires-clause-members c = λ t.
    all_within (λ m. MayBeMember (tree_of t c.args.self.now m.0)) c.in_ok-alternatives.alternatives.items c.put_in_order.new.numbers.items
    (λ m h. c.in_ok-remove_absorbed.ensures.within m (c.in_ok-remove_covered.ensures.within m ((c.in_ok-put_in_order.ensures.same m).0 h)))
    (c.in_ok-alternatives.ensures.members t)

pub returns-clause-alternatives : goal.returns-clause-alternatives
returns-clause-alternatives c =
    let ns = c.args.self.now in
    let all = c.in_ok-alternatives.alternatives.items in
    let ordered = c.put_in_order.new.numbers.items in
    IfOk-weaker c.choice_of.result
    (λ n. (t : Table) (s : Simple ℕ) → HasAlternative (tree_of t c.choice_of.new.self n.0) s ↔ IsAlternativeOf (tree_of t ns) ordered s)
    (λ n. (t : Table) (s : Simple ℕ) → HasAlternative (tree_of t c.choice_of.new.self n.0) s → IsAlternativeOf (tree_of t ns) c.args.members.now s)
    (λ n has t s h.
    (c.in_ok-alternatives.ensures.same t s).0
    (as_sets (tree_of t ns) ordered all s
    (λ m i. c.in_ok-remove_absorbed.ensures.within m (c.in_ok-remove_covered.ensures.within m ((c.in_ok-put_in_order.ensures.same m).0 i))) ((has t s).0 h)))
    c.choice_of.ensures.same

pub returns-clause-matches : goal.returns-clause-matches
returns-clause-matches c =
    let ns = c.args.self.now in
    let all = c.in_ok-alternatives.alternatives.items in
    let ordered = c.put_in_order.new.numbers.items in
    let members = c.args.members.now in
    IfOk-weaker c.choice_of.result
    (λ n. (t : Table) (s : Simple ℕ) → HasAlternative (tree_of t c.choice_of.new.self n.0) s ↔ IsAlternativeOf (tree_of t ns) ordered s)
    (λ n. (t : Table) (g : Reading) (xs : List Attribute) (ks : List Item)
    → Takes g (tree_of t c.choice_of.new.self n.0) xs ks ↔ SomeTakes g (tree_of t ns) members xs ks)
    (λ n has t g xs ks.
    let made = takes_some g (tree_of t ns) ordered (tree_of t c.choice_of.new.self n.0) (has t) xs ks in (
      λ d. let o = made.0 d in
          takes_within g (tree_of t ns) all members (λ s. (c.in_ok-alternatives.ensures.same t s).0) xs ks
          (o.0, c.in_ok-remove_absorbed.ensures.within o.0 (c.in_ok-remove_covered.ensures.within o.0 ((c.in_ok-put_in_order.ensures.same o.0).0 o.1)), o.2),
      λ d. let l = c.in_ok-remove_covered.ensures.takes t g xs ks (c.in_ok-remove_absorbed.ensures.takes t g xs ks
          (takes_within g (tree_of t ns) members all (λ s. (c.in_ok-alternatives.ensures.same t s).1) xs ks d)) in
          made.1 (l.0, (c.in_ok-put_in_order.ensures.same l.0).1 l.1, l.2),
    ))
    c.choice_of.ensures.same

pub returns-clause-none : goal.returns-clause-none
returns-clause-none c =
    let ns = c.args.self.now in
    both_ok c.choice_of.result _ _
    (λ n. (t : Table) → ((s : Simple ℕ) → IsAlternativeOf (tree_of t ns) c.args.members.now s → ⊥) → tree_of t c.choice_of.new.self n.0 ≡ s_not_allowed)
    (λ n has reduced t. no_alternatives (tree_of t ns) c.args.members.now (tree_of t c.choice_of.new.self n.0) (reduced t) (has t))
    (returns-clause-alternatives c) c.choice_of.ensures.reduced

pub returns-clause-restricted : goal.returns-clause-restricted
returns-clause-restricted c =
    let ns = c.args.self.now in
    both_ok c.choice_of.result _ _
    (λ n. (t : Table) → All (λ m. IsRestricted (tree_of t ns m.0)) c.args.members.now → IsRestricted (tree_of t c.choice_of.new.self n.0))
    (λ n has reduced t. choice_restricted (tree_of t ns) c.args.members.now (tree_of t c.choice_of.new.self n.0) (reduced t) (has t))
    (returns-clause-alternatives c) c.choice_of.ensures.reduced

pub returns-clause-typed : goal.returns-clause-typed
returns-clause-typed c =
    let ns = c.args.self.now in
    both_ok c.choice_of.result _ _
    (λ n. (t : Table) → All (λ m. IsTyped (tree_of t ns m.0)) c.args.members.now → IsTyped (tree_of t c.choice_of.new.self n.0))
    (λ n has reduced t. choice_typed (tree_of t ns) c.args.members.now (tree_of t c.choice_of.new.self n.0) (reduced t) (has t))
    (returns-clause-alternatives c) c.choice_of.ensures.reduced
