use Rattle.std.proofs.Common.{rules, tests, ◌∙◌}
use Rattle.std.proofs.lemmas.Iterator.{YieldsList-from_slice}
use Rattle.std.proofs.lemmas.Iterator.Search.{all_from_yields_List}
use Rattle.xsd_automaton.specs.views.WhiteSpace.{treated}
use Rattle.xsd_patterns.specs.Facet.{is_matched}
use Rattle.xsd_patterns.proofs.Collected.{all_matched}
use Rattle.xsd_patterns.proofs.patterns.Patterns.match_all.Goals as goal

pub returns : goal.returns
returns c =
    let white_space = c.args.self.now.white_space in
    all_from_yields_List (λ t. is_matched t (treated white_space c.args.text.now)) _ _ c.all.result c.all.ensures.ran
    (YieldsList-from_slice c.args.self.now.expressions.items cc) (λ x b q k. search (rules, tests))
    ∙ all_matched (treated white_space) c.args.self.now.expressions.items c.args.text.now
