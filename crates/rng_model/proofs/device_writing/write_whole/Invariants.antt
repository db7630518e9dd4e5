use Rattle.std.proofs.Common.{◌≡◌, ◌≤◌, ◌-◌, length, take}
use Rattle.std.specs.Io.KnownBytes.{Appends}
use Rattle.rng_model.specs.devices.Device.{device_inner, device_failures, device_taken}
use Rattle.rng_model.proofs.device_writing.write_whole.Given as goal

abbrev pub invariant-pieces : goal.invariant-pieces
invariant-pieces g l =
    let contents = g.W.Write.contents in record {
      within : l.at ≤ length l.bytes;
      written : Appends (contents (device_inner l.fn.output)) (contents (device_inner l.output)) (take l.at l.bytes);
      calm : device_failures l.output ≡ device_failures l.fn.output;
      taken : device_taken l.output ≡ device_taken l.fn.output;
    }

abbrev pub decreases-pieces : goal.decreases-pieces
decreases-pieces g l = length l.bytes - l.at
