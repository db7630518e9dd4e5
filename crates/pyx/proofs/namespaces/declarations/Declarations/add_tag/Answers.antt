use Rattle.std.proofs.Common.{◌∙◌, ◌∷◌, ◌++◌, [], ap, append_assoc, map, sym}
use Rattle.std.proofs.lemmas.List.{map_push}
use Rattle.pyx.specs.views.WrittenAttributes.{written_attribute}
use Rattle.pyx.proofs.namespaces.declarations.Declarations.add_tag.Goals as goal

pub declarations-preserved : goal.declarations-preserved
declarations-preserved c =
    let rest = c.pop.new.self.items in
    let front = map written_attribute rest in
    let w = written_attribute c.in-Some.written in
    ap (λ s. front ++ s) c.in_ok-push.ensures ∙ sym (append_assoc front (w ∷ []) c.declarations.self)
    ∙ ap (λ a. a ++ c.declarations.self) (sym (map_push written_attribute rest c.in-Some.written) ∙ ap (map written_attribute) (sym c.in-Some.ensures.items))
    ∙ c.declarations.invariant
