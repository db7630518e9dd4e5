use Rattle.std.proofs.Common.{◌≡◌, ◌∷◌, ◌++◌, [], Some, Vec, Global, ap, map, ◌∙◌}
use Rattle.std.proofs.lemmas.List.{map_push}
use Rattle.std.proofs.lemmas.Result.{err_from_is_err_and}
use Rattle.rnc_grammar.specs.declared.file_tree.NameClass.{NameClass}
use Rattle.rnc_model.specs.declarations.Declarations.{◌>>=◌, class_in}
use Rattle.rnc_model.specs.grammar.Syntax as trees
use Rattle.rnc_grammar.specs.views.Resolved.{each, namespace_at, scope_view}
use Rattle.rnc_syntax.specs.views.SyntaxView as syntax
use Rattle.rnc_grammar.specs.views.View as tree
use Rattle.rnc_grammar.proofs.ResolvedMembers.{fails, found, goes_on}
use Rattle.rnc_grammar.proofs.FileTreeViews.{choice_class}
use Rattle.rnc_grammar.proofs.ResolvedViews.{choice_class_in}
use Rattle.rnc_grammar.proofs.resolving.Resolver.+resolved_classes.Goals as goal

pub class-returns-in_err-classes-in-Choice : goal.class-returns-in_err-classes-in-Choice
class-returns-in_err-classes-in-Choice t c =
    let s = scope_view c.args.self.scope.now in
    let ns = namespace_at s c.args.place in
    let p = err_from_is_err_and c.from_residual-in_err-classes-in-Choice.result c.from_residual-in_err-classes-in-Choice.ensures.1 in
    let all : class_in s ns (syntax.class_of c.args.class.now) ≡ (each (class_in s ns) (map syntax.class_of c.deref-in-Choice.result.now)
    >>= λ all. Some (trees.choice_of all)) = ap (λ p. class_in s ns (syntax.class_of p)) c.in-Choice.is ∙ choice_class_in s ns c.in-Choice.all _
    c.deref-in-Choice.ensures.value in
    rw (p.1, p.2) (fails (λ (all : Vec NameClass Global). map tree.class_of all.items) tree.class_of trees.choice_of c.in_err-classes-in-Choice.field-0.0 _ _
    all c.in_err-classes-in-Choice.ensures)

pub class-returns-in_ok-classes-in-Choice : goal.class-returns-in_ok-classes-in-Choice
class-returns-in_ok-classes-in-Choice t c =
    let s = scope_view c.args.self.scope.now in
    let ns = namespace_at s c.args.place in
    let all : class_in s ns (syntax.class_of c.args.class.now) ≡ (each (class_in s ns) (map syntax.class_of c.deref-in-Choice.result.now)
    >>= λ all. Some (trees.choice_of all)) = ap (λ p. class_in s ns (syntax.class_of p)) c.in-Choice.is ∙ choice_class_in s ns c.in-Choice.all _
    c.deref-in-Choice.ensures.value in
    found tree.class_of trees.choice_of _ _ _ _ all c.in_ok-classes-in-Choice.ensures (choice_class c.in_ok-classes-in-Choice.field-0)

pub classes-loop-class-preserved : goal.classes-loop-class-preserved
classes-loop-class-preserved t c =
    let s = scope_view c.args.self.scope.now in
    let ns = namespace_at s c.args.place in
    let grown : map tree.class_of c.push.new.self.items ≡ map tree.class_of c.loop-class.classes.items ++ tree.class_of c.in_ok-class.field-0 ∷ [] =
    ap (map tree.class_of) c.in_ok-push.ensures.items ∙ map_push tree.class_of c.loop-class.classes.items c.in_ok-class.field-0 in
    goes_on (class_in s ns) syntax.class_of c.args.all.now c.loop-class.class-index c.class-item.result (map tree.class_of c.loop-class.classes.items)
    (map tree.class_of c.push.new.self.items) (tree.class_of c.in_ok-class.field-0) c.loop-class-test.true c.class-item.is c.loop-class.invariant
    c.in_ok-class.ensures grown
