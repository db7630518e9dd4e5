use Rattle.std.proofs.Common.{rules, ◌≡◌, ◌∙◌, sym, refl, true, false, is_some, String, Global, string_bytes}
use Rattle.rnc_model.specs.declarations.Declarations.{may_stand_for_types}
use Rattle.rnc_grammar.proofs.ScopeTables.{one_is_new}
use Rattle.rnc_grammar.proofs.scope.Scope.declare_datatypes.Goals as goal

pub returns : goal.returns
returns c =
    let may : may_stand_for_types c.args.prefix.now (string_bytes c.args.uri) ≡ true = search rules in
    let there : is_some c.in_ok-insert.field-0 ≡ false = sym c.is_some.ensures ∙ c.if-is_some.false in
    rw (
      may,
      one_is_new (λ (uri : String Global). string_bytes uri) c.args.prefix.now c.args.uri c.args.self.now.datatypes c.insert.new.self
          c.in_ok-insert.field-0 c.in_ok-insert.ensures.old there c.in_ok-insert.ensures.updates,
    ) refl
