use Rattle.xsd_octets.proofs.HexPairs.{half_as_many}
use Rattle.xsd_octets.proofs.hex_binary.hex_binary_len.Goals as goal

pub returns-in-Some : goal.returns-in-Some
returns-in-Some c = half_as_many c.args.text.now c.in-Some.digits.now c.in-Some.ensures
