use Rattle.std.proofs.Common.{◌≡◌, ◌∙◌, Equal, ap, sym, List, ℕ, Result, Ok, Err, IfOk, HoldsAt, is_ok, length, slice_index_or, true, true≢false}
use Rattle.std.specs.List.{Contains}
use Rattle.std.specs.Ordering.{nat_cmp}
use Rattle.std.specs.List.Sorted.{IsSearchInRange}
use Rattle.std.proofs.lemmas.Map.Lookups.{exact_unsigned}
use Rattle.rng_deriv_table.specs.declared.pattern.PatternNumber.{PatternNumber}
use Rattle.rng_deriv_table.proofs.covering.is_among.Goals as goal

among : (r : Result ℕ ℕ) (ms : List PatternNumber) (n : PatternNumber) → IsSearchInRange r (length ms)
    → IfOk r (HoldsAt (λ (m : PatternNumber). nat_cmp m.0 n.0 ≡ Equal) ms) → is_ok r ≡ true → Contains ms n
among (Ok k) ms n within found e = (k, within, ap (λ i. record { 0 = i }) (exact_unsigned (slice_index_or ms k n).0 n.0 (found n)))
among (Err k) ms n within found e = absurd (true≢false (sym e))

pub returns : goal.returns
returns c = λ e. among c.binary_search.result c.args.members.now c.args.number c.binary_search.ensures.bound c.binary_search.ensures.ok
    (sym c.is_ok.ensures.value ∙ e)
