use Rattle.std.proofs.Common.{◌∙◌, ap, map, sym}
use Rattle.std.proofs.lemmas.List.{map_push}
use Rattle.rng_model.specs.names.NameViews.{class_of}
use Rattle.rng_expected.specs.views.Next.{next_of}
use Rattle.rng_expected.proofs.CollectedLeaves.{class_pushed}
use Rattle.rng_expected.proofs.collecting.take_element.Goals as goal

pub returns : goal.returns
returns c =
    class_pushed c.args.grammar.now c.args.element.0 c.in-Some.field-0.now (next_of c.args.expected.now) (map (λ k. class_of k.now) c.push.new.self.items)
    (sym c.in-Some.ensures) (ap (map (λ k. class_of k.now)) c.in_ok-push.ensures.items ∙ map_push (λ k. class_of k.now) _ _)
