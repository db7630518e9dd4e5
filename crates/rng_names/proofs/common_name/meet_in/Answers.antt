use Rattle.std.proofs.Common.{◌≡◌, false, ap, sym, ◌∙◌, rules}
use Rattle.rng_model.specs.names.NameViews.{class_of}
use Rattle.rng_names.specs.plain.Holding.{pair}
use Rattle.rng_names.specs.plain.Written.{both_hold, is_met}
use Rattle.rng_names.proofs.FreshTexts.{none_is_found}
use Rattle.rng_names.proofs.common_name.meet_in.Goals as goal

pub returns-else-is_met-clause-apart : goal.returns-else-is_met-clause-apart
returns-else-is_met-clause-apart c = λ denied.
    let x = class_of c.args.a.now in
    let y = class_of c.args.b.now in
    let fresh = c.args.fresh.now in
    let test = both_hold x y in
    let outside : test (pair fresh fresh) ≡ false = search rules in
    let met : is_met test fresh (class_of c.class-first.result.now) ≡ false = search rules in
    let first : is_met test fresh x ≡ false = ap (λ k. is_met test fresh (class_of k)) (sym c.class-first.ensures) ∙ met in
    let second : is_met test fresh y ≡ false =
    ap (λ k. is_met test fresh (class_of k)) (sym c.class-second.ensures) ∙ sym c.is_met-else-is_met.ensures.test ∙ denied in
    none_is_found fresh x y c.requires.fresh_first c.requires.fresh_second outside first second
