use Rattle.std.proofs.Common.{Some, ap, map, sym, ◌∙◌}
use Rattle.rnc_grammar.specs.views.Resolved.{scope_view}
use Rattle.rnc_syntax.specs.views.SyntaxView as syntax
use Rattle.rnc_grammar.proofs.ResolvedViews.{plain_in, typed_with}
use Rattle.rnc_grammar.proofs.resolving.Resolver.put_datatype.Goals as goal

pub returns : goal.returns
returns c =
    let s = scope_view c.args.self.scope.now in
    let typed = typed_with _ _ _ _ c.in_ok-datatype.ensures in
    plain_in s (syntax.type_of c.args.type_name.now) (map syntax.parameter_of c.args.parameters.now) _ _ typed.0 (ap Some typed.1) ∙ ap Some (sym c.put_data.ensures)
