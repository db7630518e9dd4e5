use Rattle.std.proofs.Common.{refl, ◌∙◌}
use Rattle.rng_names.specs.declared.alternatives.Excepted.{Excepted}
use Rattle.rng_names.proofs.alternatives.Alternatives.add_except.Goals as goal

pub returns-clause-except : goal.returns-clause-except
returns-clause-except c =
    let entry : Excepted = record { ns = c.args.ns; except = c.args.except.class; table = c.len.result } in
    record { tables = c.in_ok-push.ensures.items; entry = entry; entries = c.in_ok-push-2.ensures.items; number = c.len.ensures ∙ c.args.tables.now.ok.0; class = refl }
