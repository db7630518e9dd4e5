use Rattle.std.proofs.Common.{None, Some, ap, map, option_map, refl, subst}
use Rattle.element_events.specs.views.Told.{attribute_told, name_told}
use Rattle.rng_reasons.specs.views.Options.{options_of}
use Rattle.rncv_c_handles.specs.views.Options.{MayHaveAfter}
use Rattle.rncv_c_handles.proofs.options.text_told.Goals as goal

pub returns-in_default-clause-told : goal.returns-in_default-clause-told
returns-in_default-clause-told c = record {
  options = None;
  may = subst (λ o. MayHaveAfter (name_told c.args.name) (map attribute_told c.args.attributes.now) (name_told c.args.named) c.args.document.now
      c.tag_options.new.self (option_map options_of o)) c.in_default.is c.in_ok-options.ensures.options;
  text_is = refl;
}

pub returns-clause-told : goal.returns-clause-told
returns-clause-told c = record {
  options = Some (options_of c.in-Some.options);
  may = subst (λ o. MayHaveAfter (name_told c.args.name) (map attribute_told c.args.attributes.now) (name_told c.args.named) c.args.document.now
      c.tag_options.new.self (option_map options_of o)) c.in-Some.is c.in_ok-options.ensures.options;
  text_is = ap Some c.in_ok-text.ensures;
}
