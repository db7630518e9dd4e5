use Rattle.std.proofs.Common.{◌≡◌, ◌≢◌, ◌∙◌, ◌<◌, ℕ, length-set, get_or, set, refl, sym, ap, inl, inr, arith}
use Rattle.std.proofs.lemmas.Bool.{cases_lt}
use Rattle.std.proofs.lemmas.List.{get_or-replicate, get_or-set_same, get_or-set_other}
use Rattle.xsd_automaton.specs.plain.Sets.{no_set}
use Rattle.xsd_automaton.proofs.sets.SetRow.new.Goals as goal

pub loop-byte-init : goal.loop-byte-init
loop-byte-init c = record {
  long = refl;
  front = λ b lt. absurd (omega (arith, lt));
  back = λ b from below. get_or-replicate 256 b c.args.past no_set below;
}

pub loop-byte-preserved : goal.loop-byte-preserved
loop-byte-preserved c =
    let at : ℕ = c.loop-byte.byte in
    let to : ℕ = c.from.result in
    let to_is : to ≡ at = c.from.ensures in
    let below : at < 192 = c.loop-byte-test.true in
    let long = c.loop-byte.invariant.long in
    let targets = c.loop-byte.targets in
    let t = c.target_or.result in
    record {
      long = length-set targets to t ∙ long;
      front = λ b lt.
          elim (cases_lt b at) [
            | inl before ↦
                let apart : b ≢ to = omega (arith, before, to_is) in
                get_or-set_other targets to b t no_set apart ∙ c.loop-byte.invariant.front b before
            | inr past ↦
                let b_is : b ≡ to = omega (arith, lt, past, to_is) in
                ap (λ k. get_or (set targets to t) k no_set) b_is ∙ get_or-set_same targets to t no_set (omega (arith, to_is, below, long))
                ∙ c.target_or.ensures ∙ ap (λ k. get_or c.args.ascii.now k c.args.own) (sym (b_is ∙ to_is))
          ];
      back = λ b from under.
          let apart : b ≢ to = omega (arith, from, to_is, below) in
          get_or-set_other targets to b t no_set apart ∙ c.loop-byte.invariant.back b from under;
    }
