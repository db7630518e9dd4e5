use Rattle.std.proofs.Common.{◌<◌, ◌++◌, All, List, [], ◌∷◌, Some, ap, arith, length, subst, sym, ◌∙◌}
use Rattle.std.proofs.lemmas.List.Elements.{All-append, All-cons, All-nil}
use Rattle.rng_deriv_table.specs.views.Node.{node_of}
use Rattle.rng_deriv_table.specs.plain.Reduced.{MayBeMember}
use Rattle.rng_deriv_table.specs.views.Trees.{tree_of}
use Rattle.rng_deriv_table.specs.declared.pattern.PatternNumber.{PatternNumber}
use Rattle.rng_deriv_table.proofs.Choices.{choice_added, none_added, one_added}
use Rattle.rng_deriv_table.proofs.KnownFacts.{of_members}
use Rattle.rng_deriv_table.proofs.PatternKinds.{may_be_member}
use Rattle.rng_deriv_table.proofs.Trees.{tree_of-over_parts}
use Rattle.rng_deriv_table.proofs.pattern_table.PatternTable.add_alternatives.Goals as goal

pub returns-in-NotAllowed-clause-joined : goal.returns-in-NotAllowed-clause-joined
returns-in-NotAllowed-clause-joined c = λ t s.
    let ns = c.args.self.now in
    let i = c.args.member.0 in
    let found = c.pattern.ensures.found ∙ ap (λ p. Some (node_of p)) c.in-NotAllowed.is in
    none_added (tree_of t ns) c.args.all.now.items c.args.member s (tree_of-over_parts t ns i _ (c.pattern.ensures.table.falls i _ found) found)

pub returns-in_ok-extend_from_slice-in-Choice-clause-inside : goal.returns-in_ok-extend_from_slice-in-Choice-clause-inside
returns-in_ok-extend_from_slice-in-Choice-clause-inside c = λ old.
    let ns = c.args.self.now in
    let i = c.args.member.0 in
    let ms = c.in-Choice.members.items in
    let Below : List PatternNumber → Type 0 = λ xs. All (λ m. m.0 < length ns) xs in
    let found = c.pattern.ensures.found ∙ ap (λ p. Some (node_of p)) c.in-Choice.is in
    let lower = of_members (λ m. m < i) ms (c.pattern.ensures.table.falls i _ found).1 in
    let inside = c.requires in
    let own : Below ms = λ k d h. let l = lower k d h in omega (arith, l, inside) in
    subst Below (sym (c.in_ok-extend_from_slice-in-Choice.ensures.items ∙ ap (λ xs. c.args.all.now.items ++ xs) c.as_slice.ensures.value))
    (All-append (λ m. m.0 < length ns) c.args.all.now.items ms old own)

pub returns-in_ok-extend_from_slice-in-Choice-clause-members : goal.returns-in_ok-extend_from_slice-in-Choice-clause-members
returns-in_ok-extend_from_slice-in-Choice-clause-members c = λ t old.
    let ns = c.args.self.now in
    let ms = c.in-Choice.members.items in
    let May : PatternNumber → Type 0 = λ m. MayBeMember (tree_of t ns m.0) in
    let found = c.pattern.ensures.found ∙ ap (λ p. Some (node_of p)) c.in-Choice.is in
    subst (All May) (sym (c.in_ok-extend_from_slice-in-Choice.ensures.items ∙ ap (λ xs. c.args.all.now.items ++ xs) c.as_slice.ensures.value))
    (All-append May c.args.all.now.items ms old
    (of_members (λ m. MayBeMember (tree_of t ns m)) ms (c.pattern.ensures.table.reduced t c.args.member.0 _ found)))

pub returns-in_ok-extend_from_slice-in-Choice-clause-joined : goal.returns-in_ok-extend_from_slice-in-Choice-clause-joined
returns-in_ok-extend_from_slice-in-Choice-clause-joined c = λ t s.
    let ns = c.args.self.now in
    let i = c.args.member.0 in
    let found = c.pattern.ensures.found ∙ ap (λ p. Some (node_of p)) c.in-Choice.is in
    choice_added (tree_of t ns) c.args.all.now.items c.in-Choice.members.items c.extend_from_slice.new.self.items c.args.member s
    (c.in_ok-extend_from_slice-in-Choice.ensures.items ∙ ap (λ xs. c.args.all.now.items ++ xs) c.as_slice.ensures.value)
    (tree_of-over_parts t ns i _ (c.pattern.ensures.table.falls i _ found) found)

pub returns-in_ok-push-in_default : goal.returns-in_ok-push-in_default
returns-in_ok-push-in_default c =
    let ns = c.args.self.now in
    let all = c.args.all.now.items in
    let own : (P : PatternNumber → Type 0) → P c.args.member → All P all → All P c.push.new.self.items =
    λ P h old. subst (All P) (sym c.in_ok-push-in_default.ensures.items)
    (All-append P all (c.args.member ∷ []) old (All-cons P c.args.member [] h (All-nil P))) in
    record {
      inside = own (λ m. m.0 < length ns) c.requires;
      members = λ t. own (λ m. MayBeMember (tree_of t ns m.0))
          (may_be_member t ns c.args.member.0 c.pattern.result.now c.pattern.ensures.table c.pattern.ensures.found
          c.in_default.not-NotAllowed c.in_default.not-Choice);
      joined = λ t s. one_added (tree_of t ns) all c.push.new.self.items c.args.member s c.in_ok-push-in_default.ensures.items;
    }
