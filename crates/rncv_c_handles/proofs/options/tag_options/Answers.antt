use Rattle.std.proofs.Common.{◌≡◌, ◌≢◌, refl}
use Rattle.rncv_c_values.specs.declared.status.Status.{Status}
use Rattle.rncv_c_values.specs.declared.status.Status.TheVariants as status
use Rattle.rncv_c_handles.proofs.options.tag_options.Goals as goal

-- a status that is none of these five is that of nothing left
only_refused : {T : Type 0} (s : Status) → (s ≡ status.Refused → T) → (s ≢ status.Done) × (s ≢ status.Space) → s ≢ status.Misuse → s ≢ status.Malformed
    → s ≢ status.Memory → T
only_refused status.Done refused others misuse malformed memory = absurd (others.0 refl)
only_refused status.Refused refused others misuse malformed memory = refused refl
only_refused status.Malformed refused others misuse malformed memory = absurd (malformed refl)
only_refused status.Memory refused others misuse malformed memory = absurd (memory refl)
only_refused status.Misuse refused others misuse malformed memory = absurd (misuse refl)
only_refused status.Space refused others misuse malformed memory = absurd (others.1 refl)

pub returns-in-Err-clause-texts : goal.returns-in-Err-clause-texts
returns-in-Err-clause-texts c = λ misuse malformed memory. only_refused c.in-Err.status c.in-Err.ensures.no_text c.in-Err.ensures.others misuse malformed memory
