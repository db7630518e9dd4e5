-- Views of the connectors of the code.
use Rattle.rng_model.specs.simple.Tree as tree
use Rattle.rng_simple.specs.declared.joining.Connector.{Connector}
use Rattle.rng_simple.specs.declared.joining.Connector.TheVariants as connector

abbrev pub connector_of : Connector → tree.Connector
connector_of connector.Choice = tree.choice
connector_of connector.Group = tree.group
connector_of connector.Interleave = tree.interleave
