use Rattle.std.proofs.Common.{◌≡◌, subst}
use Rattle.xsd_automaton.specs.views.WhiteSpace.{treated}
use Rattle.xsd_patterns.specs.Facet.{is_matched}
use Rattle.xsd_patterns.proofs.Taken.{matched_by}
use Rattle.xsd_patterns.proofs.pattern.Pattern.matches.Goals as goal

pub returns : goal.returns
returns c =
    subst (λ t. c.accepts_treated.result ≡ is_matched t (treated c.args.white_space c.args.text.now)) c.self.view_is
    (matched_by _ c.self.invariant.expression (treated c.args.white_space c.args.text.now) c.accepts_treated.result c.self.invariant.taken
    (c.accepts_treated.ensures c.self.invariant.expression c.self.invariant.are))
