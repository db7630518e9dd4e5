use Rattle.std.proofs.Common.{rules, ◌≡◌, Some, option_map, string_bytes}
use Rattle.rng_overrides.proofs.NamesThatOverride.{looked_up}
use Rattle.rng_overrides.proofs.overriding_names.OverridingNames.has.Goals as goal

pub returns-in-Some : goal.returns-in-Some
returns-in-Some c =
    let name = option_map (λ n. string_bytes n) c.args.name.now in
    let is : name ≡ Some c.as_str.result.now = search rules in
    looked_up c.args.self.now c.as_str.result name c.contains.result c.contains.ensures is
