use Rattle.std.proofs.Common.{rules, refl, ◌≡◌, Some, option_map, string_bytes}
use Rattle.rng_overrides.proofs.NamesThatOverride.{define_added}
use Rattle.rng_overrides.proofs.overriding_names.OverridingNames.add.Goals as goal

pub returns-in_ok-insert-in-Some : goal.returns-in_ok-insert-in-Some
returns-in_ok-insert-in-Some c =
    let name = option_map (λ n. string_bytes n) c.args.name.now in
    let is : name ≡ Some c.as_str.result.now = search rules in
    define_added c.args.self.now (record { defines = c.insert.new.self; has_start = c.args.self.now.has_start }) c.as_str.result
    c.in_ok-insert-in-Some.ensures.keys refl name is
