use Rattle.std.proofs.Common.{◌∙◌, ap, map, subst, sym}
use Rattle.rng_model.specs.matching.GrammarMatching.{reading_of}
use Rattle.rng_deriv.specs.views.Followers.{HasStartReason}
use Rattle.rng_deriv.specs.views.Matchers.{trees_in}
use Rattle.element_events.specs.views.Told.{attribute_told}
use Rattle.rncv_c_values.specs.views.Attributes.{name_of}
use Rattle.rncv_c_handles.proofs.reasons.start_numbers.Goals as goal

pub returns-in-Ok-start_reason-clause-told : goal.returns-in-Ok-start_reason-clause-told
returns-in-Ok-start_reason-clause-told c =
    let old = c.args.document.now in
    let told = c.in-Ok-start_reason.ensures in
    let reason = c.in-Ok-start_reason.reason in
    record {
      reason = reason;
      is = λ calls taken.
          subst (λ xs. HasStartReason (reading_of old.grammar) old.matching.progress (trees_in c.start_reason.new.self.matching) (name_of c.args.name) xs reason taken.events)
          (ap (map attribute_told) c.as_slice.ensures.value ∙ c.in-Ok-text_attributes.ensures.attributes)
          (subst (λ q. HasStartReason (reading_of old.grammar) old.matching.progress (trees_in c.start_reason.new.self.matching) q
          (map attribute_told c.as_slice.result.now) reason taken.events) c.in-Ok.ensures.name (told.reason calls taken));
      told_is = c.reason_to_tell.ensures;
      mode = told.mode;
    }
