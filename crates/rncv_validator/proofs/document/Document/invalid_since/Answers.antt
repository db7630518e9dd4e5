use Rattle.std.proofs.Common.{◌≡◌, ◌∙◌, None, ap, rules, subst}
use Rattle.rng_model.specs.declared.type_set.TypeSet.TheVariants.{Profile}
use Rattle.rncv_validator.specs.views.FedDocuments.{Judging}
use Rattle.rncv_validator.proofs.FedDocuments.{hopeless_from, names_known, of_some, reader_works}
use Rattle.rncv_validator.proofs.document.Document.invalid_since.Goals as goal

pub returns-clause-hopeless : goal.returns-clause-hopeless
returns-clause-hopeless c = of_some c.failed_at.result
    (λ line e s bytes judges fed. hopeless_from c.args.self.now line Profile s bytes (search rules) judges fed)

pub returns-clause-hopeless_with : goal.returns-clause-hopeless_with
returns-clause-hopeless_with c = of_some c.failed_at.result
    (λ line e types s bytes judges fed. hopeless_from c.args.self.now line types s bytes (search rules) judges fed)

pub returns-clause-known : goal.returns-clause-known
returns-clause-known c = λ none calm types s bytes n judges fed ended.
    let d = c.self.inside in
    let works = reader_works d.reader d.state d.fault (ap (λ (j : Judging). j.fault) c.self.view_is ∙ calm) c.self.invariant.2 in
    let calm_reader = subst (λ (j : Judging). j.reader.fault ≡ None) c.self.view_is works in
    names_known c.args.self.now types s bytes n (search rules) (search rules) calm_reader judges fed ended
