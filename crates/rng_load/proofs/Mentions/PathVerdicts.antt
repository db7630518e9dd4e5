-- The verdict from the count.
use Rattle.std.proofs.Common.{◌≡◌, refl, sym, ℕ, List, Bool, true, false, inl, inr, Option, Some, None}
use Rattle.std.specs.Bool.{IsTrue}
use Rattle.std.specs.Option.{is_some}
use Rattle.std.specs.Prelude.{◌↔◌, MatchOption, not}
use Rattle.rnc_model.specs.loading.Mentions.{BreaksMentions, path_limit}
use Rattle.rnc_model.specs.loading.SchemaFile.{FileName}
use Rattle.rng_load.proofs.Mentions.PathLists.{breaks_found, breaks_here}
use Rattle.rng_load.specs.plain.Counting.{HasFewPaths, StopsAt}
use Rattle.rng_load.proofs.Mentions.CountedPaths.{few_keep, long_breaks}

no_truth : IsTrue false → ⊥
no_truth w = cc

module _ (mentions : FileName → List FileName) (f : FileName) where
  stopped : StopsAt mentions path_limit f → BreaksMentions mentions f
  stopped (inl b) = breaks_here mentions b
  stopped (inr q) = breaks_here mentions (long_breaks mentions q)

  pub judged : (o : Option ℕ) (b : Bool) → is_some o ≡ not b → MatchOption o (StopsAt mentions path_limit f) (HasFewPaths mentions f)
      → IsTrue b ↔ BreaksMentions mentions f
  judged None true e h = (λ w. stopped h, λ w. refl)
  judged None false e h = absurd (no_truth e)
  judged (Some n) true e h = absurd (no_truth (sym e))
  judged (Some n) false e h = (λ w. absurd (no_truth w), λ w. absurd (few_keep mentions h.0 h.1 (breaks_found mentions w)))
