use Rattle.xsd_octets.proofs.HexPairs.{same_digits}
use Rattle.xsd_octets.proofs.hex_binary.is_same_hex_binary.Goals as goal

pub returns-in-Some-Some : goal.returns-in-Some-Some
returns-in-Some-Some c =
    same_digits c.args.a.now c.args.b.now c.in-Some-Some.a.now c.in-Some-Some.b.now c.eq_ignore_ascii_case.result c.in-Some-Some.ensures c.in-Some-Some.ensures'
    c.eq_ignore_ascii_case.ensures.test
