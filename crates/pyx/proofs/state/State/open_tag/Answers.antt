use Rattle.std.proofs.Common.{◌≡◌, ◌∙◌, ap, arith, length, map, sym}
use Rattle.std.proofs.lemmas.List.{nil_from_length}
use Rattle.pyx.specs.views.WrittenAttributes.{written_attribute}
use Rattle.pyx.proofs.Tags.BareTags.{gives_bare}
use Rattle.pyx.proofs.state.State.open_tag.Goals as goal

pub returns-in-empty-empty-clause-element : goal.returns-in-empty-empty-clause-element
returns-in-empty-empty-clause-element c =
    let none : length c.as_slice.result.now ≡ 0 = grind arith in
    let no_others : length c.as_slice-2.result.now ≡ 0 = grind arith in
    gives_bare c.open.new.self.names c.clear.new.self.items c.open.result _ _ _ _
    (ap (map written_attribute) (sym c.as_slice.ensures.value ∙ nil_from_length _ none))
    (ap (map written_attribute) (sym c.as_slice-2.ensures.value ∙ nil_from_length _ no_others)) c.clear.ensures.items c.open.ensures.name
