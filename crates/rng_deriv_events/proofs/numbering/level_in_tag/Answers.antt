use Rattle.std.proofs.Common.{◌≡◌, ◌∙◌, [], IfOk, length, map, subst, sym}
use Rattle.std.proofs.lemmas.Bool.Decides.{Decides-eqb}
use Rattle.std.proofs.lemmas.List.{nil_from_length}
use Rattle.rng_model.specs.documents.EventViews.{attribute_of}
use Rattle.rng_deriv_laws.specs.plain.LevelStates.{IsAfterTag}
use Rattle.rng_deriv_events.specs.views.Basis.{reading_by}
use Rattle.rng_deriv_events.specs.views.LevelTable.{levels_in, numbers_in}
use Rattle.rng_deriv_events.specs.views.KeptLevels.{AddsAfter}
use Rattle.rng_deriv_events.proofs.numbering.level_in_tag.Goals as goal

pub returns-then-is_empty-clause-after : goal.returns-then-is_empty-clause-after
returns-then-is_empty-clause-after g c =
    let attrs = c.args.attrs.now in
    let none : attrs ≡ [] = nil_from_length attrs ((Decides-eqb (length attrs) 0).0 (sym c.is_empty.ensures ∙ c.if-is_empty.true)) in
    subst (λ xs. IfOk c.level_in_bare_tag.result (AddsAfter (IsAfterTag (reading_by (g.D.Derivatives.basis c.args.derivatives.now)) (map attribute_of xs))
    (g.D.Derivatives.trees c.args.derivatives.now) (g.D.Derivatives.trees c.level_in_bare_tag.new.derivatives)
    (numbers_in (levels_in c.args.table.now) c.args.level.0) c.level_in_bare_tag.new.table)) (sym none) c.level_in_bare_tag.ensures.after
