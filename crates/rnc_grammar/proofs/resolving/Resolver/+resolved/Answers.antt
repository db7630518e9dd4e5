use Rattle.std.proofs.Common.{◌≡◌, Some, Err, Vec, Global, ap, sym, refl, map, ◌∙◌}
use Rattle.std.proofs.lemmas.Result.{err_from_is_err_and}
use Rattle.rng_model.specs.simple.Tree.{choice, group, interleave}
use Rattle.rnc_grammar.specs.declared.file_tree.Component.{Component}
use Rattle.rnc_grammar.specs.declared.file_tree.Pattern.{Pattern}
use Rattle.rnc_model.specs.declarations.Declarations.{◌>>=◌, component_in, pattern_in}
use Rattle.rnc_model.specs.grammar.Syntax as trees
use Rattle.rnc_grammar.specs.views.Resolved.{Resolves, connector_of, each, scope_view}
use Rattle.rnc_syntax.specs.views.SyntaxView as syntax
use Rattle.rnc_grammar.specs.views.View as tree
use Rattle.rnc_grammar.proofs.ResolvedMembers.{components_row, fails, found, is_through, stops_at}
use Rattle.rnc_grammar.proofs.ResolvedViews.{choice_pattern_in, data_except_in, data_in, except_in, group_in, interleave_in, typed_with}
use Rattle.rnc_grammar.proofs.resolving.Resolver.+resolved.Goals as goal

pub pattern-returns-in-Group : goal.pattern-returns-in-Group
pattern-returns-in-Group t c =
    let s = scope_view c.args.self.scope.now in
    let all : pattern_in s (syntax.pattern_of c.args.pattern.now) ≡ (each (pattern_in s) (map syntax.pattern_of c.deref-in-Group.result.now)
    >>= λ all. Some (trees.members group all)) = ap (λ p. pattern_in s (syntax.pattern_of p)) c.in-Group.is
    ∙ group_in s c.in-Group.all _ c.deref-in-Group.ensures.value in
    rw all c.members.ensures

pub pattern-returns-in-Interleave : goal.pattern-returns-in-Interleave
pattern-returns-in-Interleave t c =
    let s = scope_view c.args.self.scope.now in
    let all : pattern_in s (syntax.pattern_of c.args.pattern.now) ≡ (each (pattern_in s) (map syntax.pattern_of c.deref-in-Interleave.result.now)
    >>= λ all. Some (trees.members interleave all)) = ap (λ p. pattern_in s (syntax.pattern_of p)) c.in-Interleave.is
    ∙ interleave_in s c.in-Interleave.all _ c.deref-in-Interleave.ensures.value in
    rw all c.members-in-Interleave.ensures

pub pattern-returns-in-Choice : goal.pattern-returns-in-Choice
pattern-returns-in-Choice t c =
    let s = scope_view c.args.self.scope.now in
    let all : pattern_in s (syntax.pattern_of c.args.pattern.now) ≡ (each (pattern_in s) (map syntax.pattern_of c.deref-in-Choice.result.now)
    >>= λ all. Some (trees.members choice all)) = ap (λ p. pattern_in s (syntax.pattern_of p)) c.in-Choice.is
    ∙ choice_pattern_in s c.in-Choice.all _ c.deref-in-Choice.ensures.value in
    rw all c.members-in-Choice.ensures

pub pattern-returns-in-Data : goal.pattern-returns-in-Data
pattern-returns-in-Data t c =
    let s = scope_view c.args.self.scope.now in
    let seen = ap (λ p. pattern_in s (syntax.pattern_of p)) c.in-Data.is
    ∙ data_in s c.in-Data.type_name c.in-Data.parameters _ c.deref-in-Data.ensures.value in
    rw seen c.put_datatype.ensures

pub pattern-returns-in-DataExcept : goal.pattern-returns-in-DataExcept
pattern-returns-in-DataExcept t c =
    let s = scope_view c.args.self.scope.now in
    let seen = ap (λ p. pattern_in s (syntax.pattern_of p)) c.in-DataExcept.is
    ∙ data_except_in s c.in-DataExcept.type_name c.in-DataExcept.parameters c.in-DataExcept.except _ _ c.deref-in-DataExcept.ensures.value
    c.deref-in-DataExcept-2.ensures in
    rw seen c.data_except.ensures

pub data_except-returns : goal.data_except-returns
data_except-returns t c =
    let s = scope_view c.args.self.scope.now in
    let typed = typed_with _ _ _ _ c.in_ok-datatype.ensures in
    except_in s (syntax.type_of c.args.type_name.now) (map syntax.parameter_of c.args.parameters.now) _ (syntax.pattern_of c.args.except.now) _ _ typed.0
    (ap Some typed.1) c.in_ok-except.ensures ∙ ap Some (sym c.put_data.ensures)

pub members-returns-in_err-pattern : goal.members-returns-in_err-pattern
members-returns-in_err-pattern t c =
    let s = scope_view c.args.self.scope.now in
    let p = err_from_is_err_and c.from_residual-in_err-pattern.result c.from_residual-in_err-pattern.ensures.1 in
    let stops = stops_at (pattern_in s) syntax.pattern_of tree.pattern_of
    (λ (all : Vec Pattern Global). map tree.pattern_of all.items) c.args.all.now c.loop-pattern.pattern-index c.pattern-item.result
    (map tree.pattern_of c.loop-pattern.patterns.items) c.in_err-pattern.field-0.0 c.loop-pattern-test.true c.pattern-item.is
    c.loop-pattern.invariant c.in_err-pattern.ensures in
    rw (p.1, p.2) (fails (λ (all : Vec Pattern Global). map tree.pattern_of all.items) tree.pattern_of
    (trees.members (connector_of c.args.connector)) c.in_err-pattern.field-0.0 _ _ refl stops)

pub members-returns : goal.members-returns
members-returns t c =
    let s = scope_view c.args.self.scope.now in
    let all : each (pattern_in s) (map syntax.pattern_of c.args.all.now) ≡ Some (map tree.pattern_of c.loop-pattern.patterns.items) =
    is_through (pattern_in s) syntax.pattern_of c.args.all.now c.loop-pattern.pattern-index _ c.loop-pattern-test.false c.loop-pattern.invariant in
    rw (all, c.put_members.ensures) refl

pub components-returns-in_err-component : goal.components-returns-in_err-component
components-returns-in_err-component t c =
    let s = scope_view c.args.self.scope.now in
    let p = err_from_is_err_and c.from_residual-in_err-component.result c.from_residual-in_err-component.ensures.1 in
    let stops : Resolves (λ (all : Vec Component Global). map tree.component_of all.items) (Err c.in_err-component.field-0.0)
    (each (component_in s) (map syntax.component_of c.args.all.now)) = stops_at (component_in s) syntax.component_of tree.component_of
    (λ (all : Vec Component Global). map tree.component_of all.items) c.args.all.now c.loop-component.component-index c.component-item.result
    (map tree.component_of c.loop-component.components.items) c.in_err-component.field-0.0 c.loop-component-test.true c.component-item.is
    c.loop-component.invariant c.in_err-component.ensures in
    rw (p.1, p.2) (fails (λ (all : Vec Component Global). map tree.component_of all.items)
    (λ (all : Vec Component Global). trees.components_of (map tree.component_of all.items)) trees.components_of c.in_err-component.field-0.0 _ _
    (components_row s (map syntax.component_of c.args.all.now)) stops)

pub components-returns : goal.components-returns
components-returns t c =
    let s = scope_view c.args.self.scope.now in
    let all : each (component_in s) (map syntax.component_of c.args.all.now) ≡ Some (map tree.component_of c.loop-component.components.items) =
    is_through (component_in s) syntax.component_of c.args.all.now c.loop-component.component-index _ c.loop-component-test.false c.loop-component.invariant
    in
    found (λ (all : Vec Component Global). trees.components_of (map tree.component_of all.items)) trees.components_of _ _ _ c.loop-component.components
    (components_row s (map syntax.component_of c.args.all.now)) all refl
