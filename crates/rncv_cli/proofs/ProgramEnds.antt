-- How the program ends.
use Rattle.std.proofs.Common.{arith, ◌≡◌, ◌∙◌, ◌+◌, ℕ, List, Option, Result, Ok, Err, IfErr, ap, length, le_refl, take_all}
use Rattle.std.proofs.KnownBytes.{Appends-kept}
use Rattle.std.specs.Io.KnownBytes.{Keeps}
use Rattle.rng_model.specs.declared.device.Device.{Device}
use Rattle.rng_model.specs.devices.Device.{device_failures, device_inner}
use Rattle.rncv_model.specs.answers.Answer.{Answer, output_of}
use Rattle.rncv_model.specs.answers.Run.{WritesAnswer}
use Rattle.rncv_model.specs.declared.status.Status.{Status}
use Rattle.rncv_cli.specs.declared.fault.Fault.{Fault}
use Rattle.rncv_cli.specs.declared.fault.Fault.TheVariants.{Write}
use Rattle.rncv_cli.specs.views.ExitStatus.{exit_status_of}
use Rattle.rncv_cli.specs.views.Faults.{IsFaultOfRun}
use Rattle.rncv_cli.specs.views.ProgramEnds.{HasEnded}

-- a run wrote its answer, and the flush after it failed
pub flush_failed : {R W : Type 0} (remaining : R → Option (List ℕ)) (contents : W → Option (List ℕ))
    (answers : Option (List ℕ) → Option (List ℕ) → Answer → Type 0) (input_old input_new : Device R) (output_old output_mid output_new : Device W) (status : Status)
    → WritesAnswer (answers (remaining (device_inner input_old)) (remaining (device_inner input_new))) status
    (contents (device_inner output_old)) (contents (device_inner output_mid))
    → device_failures output_mid ≡ device_failures output_old → Keeps (contents (device_inner output_mid)) (contents (device_inner output_new))
    → device_failures output_new ≡ device_failures output_mid + 1
    → HasEnded input_old input_new output_old output_new remaining contents answers IsFaultOfRun (Err Write)
flush_failed remaining contents answers input_old input_new output_old output_mid output_new status wrote calm kept counted = record {
  answer = tt;
  flushed = tt;
  calm = tt;
  fault = tt;
  shown = omega (arith, calm, counted);
  written = record {
    answer = wrote.answer;
    is = wrote.is;
    front = (
      length (output_of wrote.answer),
      rw (take_all (length (output_of wrote.answer)) (output_of wrote.answer) (le_refl (length (output_of wrote.answer))))
          (Appends-kept _ _ _ _ wrote.output kept),
    );
  };
}

-- the exit status of the end to which an error in place of the words leads
pub status_by : {A E : Type 0} (given : Result A E) (K : E → Type 0) (end other : Result Status Fault) (status : ℕ) → IfErr given (λ e. K e → end ≡ other)
    → status ≡ exit_status_of end → IfErr given (λ e. K e → status ≡ exit_status_of other)
status_by (Ok x) K end other status so is = tt
status_by (Err e) K end other status so is = λ k. is ∙ ap exit_status_of (so k)
