use Rattle.std.proofs.Common.{rules, ◌≡◌, ◌∙◌, ap, w32, to_z, of_z}
use Rattle.rncv_c_values.specs.views.Codes.{code_of}
use Rattle.rncv_c.proofs.rncv_events_tag_options.Goals as goal

pub returns-clause-texts : goal.returns-clause-texts
returns-clause-texts c = λ malformed memory misuse.
    let coded : to_z w32 (of_z w32 c.code.result) ≡ code_of c.tag_options.result = search rules in
    c.tag_options.ensures.texts (λ e. misuse (coded ∙ ap code_of e)) (λ e. malformed (coded ∙ ap code_of e)) (λ e. memory (coded ∙ ap code_of e))
