use Rattle.std.proofs.Common.{rules, tests, refl, ◌&&◌, sym, ◌∙◌, ap}
use Rattle.std.specs.Str.{chars}
use Rattle.std.specs.List.{list_all}
use Rattle.std.proofs.lemmas.Str.{chars_past_char, IsUtf8-past_char}
use Rattle.std.proofs.lemmas.Iterator.{YieldsList-from_chars}
use Rattle.std.proofs.lemmas.Iterator.Search.{all_from_yields_List}
use Rattle.rng_model.specs.names.Names.{is_name_char}
use Rattle.rng_model.specs.xsd.Names.{is_name}
use Rattle.xsd_types.proofs.names.is_name.Goals as goal

pub returns-then-is_name_start : goal.returns-then-is_name_start
returns-then-is_name_start c =
    let parts = sym c.chars-rest.ensures.rest ∙ c.in-Some.ensures.steps.0 in
    let all = all_from_yields_List is_name_char _ _ c.all.result c.all.ensures.ran
    (YieldsList-from_chars c.next.new.self.rest.now (IsUtf8-past_char _ _ _ c.utf8.text parts) refl) (λ x b q k. search (rules, tests)) in
    all ∙ ap (λ b. b && list_all is_name_char (chars c.next.new.self.rest.now)) (sym (sym c.is_name_start.ensures ∙ c.if-is_name_start.true))
    ∙ ap is_name (sym (chars_past_char _ _ _ c.utf8.text parts))
