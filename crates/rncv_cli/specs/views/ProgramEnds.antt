-- How the program ends, and what its devices show of that.
use Rattle.std.specs.Prelude.{◌≡◌, ◌<◌, ℕ, List, true, Option, Result, IfOk, IfErr, OnOk}
use Rattle.rng_model.specs.declared.device.Device.{Device}
use Rattle.rng_model.specs.devices.Device.{device_failures, device_inner}
use Rattle.rng_model.specs.views.DeviceViews.{device_flushed}
use Rattle.rncv_model.specs.answers.Answer.{Answer}
use Rattle.rncv_model.specs.answers.Run.{WritesAnswer}
use Rattle.rncv_model.specs.declared.status.Status.{Status}
use Rattle.rncv_cli.specs.plain.Answering.{LeavesWritten}
use Rattle.rncv_cli.specs.declared.fault.Fault.{Fault}
use Rattle.rncv_cli.specs.declared.fault.Fault.TheVariants.{Memory, Read, Write, File, Usage}

module _ {R W : Type 0} (input_old input_new : Device R) (output_old output_new : Device W) where
  -- no call failed
  abbrev pub IsCalm : Type 0
  IsCalm = (device_failures input_new ≡ device_failures input_old) × (device_failures output_new ≡ device_failures output_old)

  -- nothing was called
  abbrev pub IsUntouched : Type 0
  IsUntouched = (input_new ≡ input_old) × (output_new ≡ output_old)

  -- What the devices show of a fault: that of a device is counted there, out of memory is no failed call, and the words
  -- and the files are judged before anything is read of the document or written.
  abbrev pub IsShown : Fault → Type 0
  IsShown Memory = IsCalm
  IsShown Read = device_failures input_old < device_failures input_new
  IsShown Write = device_failures output_old < device_failures output_new
  IsShown (File name) = IsUntouched
  IsShown Usage = IsUntouched

  -- The program ends with a status once it has written and flushed one of these answers, and no call failed. Or it ends
  -- with one of these faults.
  pub record HasEnded (remaining : R → Option (List ℕ)) (contents : W → Option (List ℕ)) (answers : Option (List ℕ) → Option (List ℕ) → Answer → Type 0)
      (faults : Fault → Type 0) (end : Result Status Fault) : Type 0 where
    pub answer : IfOk end (λ status. WritesAnswer (answers (remaining (device_inner input_old)) (remaining (device_inner input_new)))
        status (contents (device_inner output_old)) (contents (device_inner output_new)))
    pub flushed : OnOk end (device_flushed output_new ≡ true)
    pub calm : OnOk end IsCalm
    pub fault : IfErr end faults
    pub shown : IfErr end IsShown
    pub written : IfErr end (λ fault. LeavesWritten (answers (remaining (device_inner input_old)) (remaining (device_inner input_new)))
        fault (contents (device_inner output_old)) (contents (device_inner output_new)))
