use Rattle.std.proofs.Common.{rules, ◌≡◌, ◌∙◌, sym, refl, true, false, is_some}
use Rattle.rnc_model.specs.declarations.Declarations.{may_stand_for}
use Rattle.rnc_grammar.specs.views.View.{namespace_of}
use Rattle.rnc_grammar.proofs.ScopeTables.{one_is_new}
use Rattle.rnc_grammar.proofs.scope.Scope.declare_prefix.Goals as goal

pub returns : goal.returns
returns c =
    let may : may_stand_for c.args.prefix.now (namespace_of c.args.namespace) ≡ true = search rules in
    let there : is_some c.in_ok-insert.field-0 ≡ false = sym c.is_some.ensures ∙ c.if-is_some.false in
    rw (
      may,
      one_is_new namespace_of c.args.prefix.now c.args.namespace c.args.self.now.namespaces c.insert.new.self c.in_ok-insert.field-0
          c.in_ok-insert.ensures.old there c.in_ok-insert.ensures.updates,
    ) refl
