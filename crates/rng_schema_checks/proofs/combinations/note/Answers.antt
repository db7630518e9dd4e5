use Rattle.std.proofs.Common.{◌∙◌, ap, map, not, sym}
use Rattle.std.proofs.lemmas.Bool.{not-true}
use Rattle.rng_schema_checks.specs.plain.GrammarTests.{has, seen_name}
use Rattle.rng_schema_checks.proofs.NameSets.{is_kept, new_goes_last, one_more_kept}
use Rattle.rng_schema_checks.proofs.combinations.note.Goals as goal

pub returns-clause-new : goal.returns-clause-new
returns-clause-new c = c.in_ok-insert.ensures.added ∙ ap not (is_kept c.args.name c.args.names.now.keys)

pub returns-clause-last : goal.returns-clause-last
returns-clause-last c = λ new.
    let absent = not-true _ (sym (c.in_ok-insert.ensures.added ∙ ap not (is_kept c.args.name c.args.names.now.keys)) ∙ new) in
    ap (map seen_name) c.in_ok-insert.ensures.keys ∙ new_goes_last c.args.names.now.keys c.args.name absent

pub returns-clause-there : goal.returns-clause-there
returns-clause-there c = λ y.
    ap (λ ks. has (map seen_name ks) y) c.in_ok-insert.ensures.keys ∙ one_more_kept c.args.names.now.keys c.args.name y
