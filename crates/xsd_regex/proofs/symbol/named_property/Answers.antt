use Rattle.xsd_regex.proofs.SymbolSteps.{named_found, named_unended}
use Rattle.xsd_regex.proofs.symbol.named_property.Goals as goal

pub returns-in-Some-find_property : goal.returns-in-Some-find_property
returns-in-Some-find_property c =
    named_found c.args.negated c.args.text.now c.in-Some.name c.in-Some.rest _ c.utf8.text c.in-Some.ensures.cases c.in-Some-find_property.ensures

pub returns-in-None-find_property : goal.returns-in-None-find_property
returns-in-None-find_property c =
    named_found c.args.negated c.args.text.now c.in-Some.name c.in-Some.rest _ c.utf8.text c.in-Some.ensures.cases c.in-None-find_property.ensures

pub returns-in-None : goal.returns-in-None
returns-in-None c = named_unended c.args.negated c.args.text.now c.utf8.text c.in-None.ensures.cases
