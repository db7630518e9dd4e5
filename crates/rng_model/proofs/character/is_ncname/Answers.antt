use Rattle.std.proofs.Common.{rules, tests, refl, ◌&&◌, not, sym, ◌∙◌, ap}
use Rattle.std.specs.Str.{chars}
use Rattle.std.specs.List.{list_all}
use Rattle.std.proofs.lemmas.Str.{chars_past_char, IsUtf8-past_char}
use Rattle.std.proofs.lemmas.Iterator.{YieldsList-from_chars}
use Rattle.std.proofs.lemmas.Iterator.Search.{all_from_yields_List}
use Rattle.rng_model.specs.names.Names.{is_name_char, is_colon, is_ncname}
use Rattle.rng_model.proofs.character.is_ncname.Goals as goal

pub returns-then-is_ncname_start : goal.returns-then-is_ncname_start
returns-then-is_ncname_start c =
    let parts = sym c.chars-rest.ensures.rest ∙ c.in-Some.ensures.steps.0 in
    let all = all_from_yields_List (λ d. is_name_char d && not (is_colon d)) _ _ c.all.result c.all.ensures.ran
    (YieldsList-from_chars c.next.new.self.rest.now (IsUtf8-past_char _ _ _ c.utf8.text parts) refl) (λ x b q k. search (rules, tests)) in
    let starts = sym c.is_ncname_start.ensures ∙ c.if-is_ncname_start.true in
    all ∙ ap (λ b. b && list_all (λ d. is_name_char d && not (is_colon d)) (chars c.next.new.self.rest.now)) (sym starts)
    ∙ ap is_ncname (sym (chars_past_char _ _ _ c.utf8.text parts))
