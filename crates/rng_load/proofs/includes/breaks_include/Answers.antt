use Rattle.std.proofs.Common.{rules, ◌≡◌, ap, sym, map, Some, None, length}
use Rattle.std.proofs.lemmas.List.{nil_from_length}
use Rattle.rnc_model.specs.grammar.Syntax.{components_of}
use Rattle.rnc_grammar.specs.views.View.{component_of, file_of, mention_of}
use Rattle.rng_load.specs.views.FilesView.{taken_files_of}
use Rattle.rng_load.proofs.Overriding.BrokenIncludes.{found_at, unread, is_no_grammar, nothing_in_braces, judged}
use Rattle.rng_load.proofs.includes.breaks_include.Goals as goal

pub returns-in_default : goal.returns-in_default
returns-in_default c =
    unread (taken_files_of c.args.trees.now) (mention_of c.args.mention.now) (components_of (map component_of c.args.overriding.now))
    (found_at c.args.trees.now.entries c.as_str.result.now _ None c.in_default.ensures.value c.as_str.ensures.value)

pub returns-in_default-grammar : goal.returns-in_default-grammar
returns-in_default-grammar c =
    let is = found_at c.args.trees.now.entries c.as_str.result.now _ (Some c.in-Some.tree.now) c.in-Some.ensures.value c.as_str.ensures.value in
    is_no_grammar (taken_files_of c.args.trees.now) (mention_of c.args.mention.now) (components_of (map component_of c.args.overriding.now))
    (file_of c.in-Some.tree.now) is
    (sym c.in_default-grammar.ensures)

pub returns-then-is_empty : goal.returns-then-is_empty
returns-then-is_empty c =
    let empty : length c.args.overriding.now ≡ 0 = search rules in
    let is = found_at c.args.trees.now.entries c.as_str.result.now _ (Some c.in-Some.tree.now) c.in-Some.ensures.value c.as_str.ensures.value in
    nothing_in_braces (taken_files_of c.args.trees.now) (mention_of c.args.mention.now) (components_of (map component_of c.args.overriding.now))
    (file_of c.in-Some.tree.now) is
    (components_of (map component_of c.in-Some-grammar.included.now)) (sym c.in-Some-grammar.ensures)
    (ap (λ cs. components_of (map component_of cs)) (nil_from_length c.args.overriding.now empty))

pub returns : goal.returns
returns c =
    let is = found_at c.args.trees.now.entries c.as_str.result.now _ (Some c.in-Some.tree.now) c.in-Some.ensures.value c.as_str.ensures.value in
    judged (taken_files_of c.args.trees.now) (mention_of c.args.mention.now) (components_of (map component_of c.args.overriding.now))
    (file_of c.in-Some.tree.now) is
    (components_of (map component_of c.in-Some-grammar.included.now)) (sym c.in-Some-grammar.ensures) c.have_all_of.result
    (λ t y h. (c.in_ok-there.ensures y).0 (c.have_all_of.ensures.all t y ((c.in_ok-overridden.ensures y).1 h)))
    (λ f. let l = c.have_all_of.ensures.lack f in (l.0, (c.in_ok-overridden.ensures l.0).0 l.1, λ h. l.2 ((c.in_ok-there.ensures l.0).1 h)))
