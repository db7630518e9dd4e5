-- The loop that reads a text symbol by symbol.
use Rattle.std.proofs.Common.{◌≡◌, ◌∙◌, ◌==◌, ℕ, ◌<◌, List, [], ◌∷◌, length, false, true, refl, sym, ap, subst, arith, eqb-true}
use Rattle.std.proofs.Common.{Option, Some, None, Result, Ok, Err, Vec}
use Rattle.std.specs.Str.{chars, IsUtf8, encode_utf8_all}
use Rattle.std.proofs.lemmas.Str.{chars-nil, encodes-chars}
use Rattle.xsd_regex.specs.declared.expression.Row.{Row}
use Rattle.xsd_regex.specs.declared.fault.ReadFault.{ReadFault}
use Rattle.xsd_regex.specs.declared.fault.ReadFault.TheVariants as faults
use Rattle.rng_model.specs.regexes.Symbols.{Symbol}
use Rattle.rng_model.specs.regexes.plain.Spelling.{next_symbol}
use Rattle.xsd_regex.specs.plain.KeptSteps as kept
use Rattle.xsd_regex.specs.plain.KeptSteps.{Kept}
use Rattle.xsd_regex.specs.views.Steps.{IsRefused, IsFinish, AreRead, IsUnread}
use Rattle.xsd_regex.specs.views.Readings.{IsNoRegex}
use Rattle.xsd_regex.proofs.Progress.{Progress, progress_refused, progress_stuck, progress_whole, progress_none}

no_chars : (bs : List ℕ) → length bs ≡ 0 → length (chars bs) ≡ 0
no_chars [] e = ap length chars-nil
no_chars (b ∷ bs) e = absurd (omega (arith, e))

some_chars : (bs : List ℕ) → IsUtf8 bs → (length bs == 0) ≡ false → 0 < length (chars bs)
some_chars bs u e = by (chars bs) refl
  where
    by : (cs : List ℕ) → chars bs ≡ cs → 0 < length cs
    by [] f = let none : [] ≡ bs = ap encode_utf8_all (sym f) ∙ encodes-chars bs u in
        let zero : (length bs == 0) ≡ true = subst (λ l. (length l == 0) ≡ true) none refl in
        absurd (let both : false ≡ true = sym e ∙ zero in cc)
    by (c ∷ cs) f = omega arith

-- at a symbol that there is no step for
pub refused : (text rest after : List ℕ) (u : Symbol) (w : Kept) (e : ReadFault)
    → ◌≡◌ {A = Option (Symbol × List ℕ)} (Some (u, after)) (next_symbol rest) → IsRefused e (kept.step_in w.mode u w) → Progress text rest w
    → IsUnread text e
refused text rest after u w faults.NoExpression s f p = progress_refused text rest after u w s f p
refused text rest after u w faults.Memory s f p = tt

-- at a text that begins with no symbol
pub stuck : (text rest : List ℕ) (w : Kept) → IsUtf8 rest → (length rest == 0) ≡ false
    → ◌≡◌ {A = Option (Symbol × List ℕ)} None (next_symbol (chars rest)) → Progress text (chars rest) w → IsNoRegex text
stuck text rest w u some e p = progress_stuck text (chars rest) w (some_chars rest u some) e p

-- at the end of the text
pub finished : {Z : Type 0} (text rest : List ℕ) (w : Kept) (r : Result (Vec Row Z) ReadFault) → (length rest == 0) ≡ true
    → IsFinish r (kept.finished_in w.mode w) → Progress text (chars rest) w → AreRead text r
finished text rest w (Ok rows) none e p = progress_whole text (chars rest) w _ (no_chars rest (eqb-true _ 0 none)) e p
finished text rest w (Err faults.NoExpression) none e p = progress_none text (chars rest) w (no_chars rest (eqb-true _ 0 none)) e p
finished text rest w (Err faults.Memory) none e p = tt
