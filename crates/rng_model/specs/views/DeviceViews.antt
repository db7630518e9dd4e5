-- Whether a device was flushed.
use Rattle.std.specs.Prelude.{Bool}
use Rattle.rng_model.specs.declared.device.Device.{Device}

-- nothing was written through it since a flush that succeeded
abbrev pub device_flushed : {T : Type 0} → Device T → Bool
device_flushed d = d.flushed
