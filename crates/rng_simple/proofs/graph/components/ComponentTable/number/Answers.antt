use Rattle.std.proofs.Common.{◌≡◌, ◌∙◌, [], ◌∷◌, ap, sym, length, arith}
use Rattle.std.proofs.lemmas.List.{length-append, length-map}
use Rattle.rng_simple.specs.views.ComponentTable.{table_of}
use Rattle.rng_simple.specs.views.Definitions.{definition_of}
use Rattle.rng_simple.specs.plain.Graph.{number_of}
use Rattle.rng_simple.proofs.BuiltGraphs.ComponentTables.{all_seen, no_definition_more, one_definition_more}
use Rattle.rng_simple.proofs.graph.components.ComponentTable.number.Goals as goal

pub returns-in_ok-push-clause-table : goal.returns-in_ok-push-clause-table
returns-in_ok-push-clause-table c =
    let t = c.args.self.now in
    let d = definition_of c.args.definition in
    let ds = (table_of t).definitions in
    let last : number_of ds d ≡ length ds =
    sym c.in_ok-number.ensures.number ∙ c.if-number-len.true ∙ c.len.ensures ∙ t.components.ok.0 ∙ sym (length-map t.components.items all_seen) ∙ c.requires in
    let items = ap length c.in_ok-push.ensures.items in
    omega (
      arith,
      items,
      length-append t.components.items (c.new.result ∷ []),
      length-map c.push.new.self.items all_seen,
      length-map t.components.items all_seen,
      c.requires,
      ap length c.in_ok-number.ensures.numbered,
      one_definition_more d ds last,
    )

pub returns-else-number-len-clause-table : goal.returns-else-number-len-clause-table
returns-else-number-len-clause-table c =
    let t = c.args.self.now in
    let d = definition_of c.args.definition in
    let ds = (table_of t).definitions in
    let same : length (table_of t).components ≡ c.len.result = length-map t.components.items all_seen ∙ sym t.components.ok.0 ∙ sym c.len.ensures in
    c.requires
    ∙ sym (no_definition_more d ds (λ e. c.if-number-len.false (c.in_ok-number.ensures.number ∙ e ∙ sym c.requires ∙ same)))
    ∙ sym (ap length c.in_ok-number.ensures.numbered)
