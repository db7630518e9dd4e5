use Rattle.std.proofs.Common.{◌≡◌, ◌-◌, ◌^◌, length}
use Rattle.rng_model.specs.devices.Device.{device_inner, device_failures, device_taken}
use Rattle.rncv_validator.specs.views.FedDocuments.{HasBeenFed}
use Rattle.rncv_run.proofs.FedInput.{IsBegun}
use Rattle.rncv_run.proofs.document_input.feed_whole.Given as goal

abbrev pub invariant-pieces : goal.invariant-pieces
invariant-pieces g l =
    let remaining = g.R.Read.remaining in record {
      begun : IsBegun (HasBeenFed l.document) (remaining (device_inner l.fn.input)) (remaining (device_inner l.input));
      room : length l.piece ≡ 32768;
      grammar : l.document.grammar ≡ l.fn.document.grammar;
      calm : device_failures l.input ≡ device_failures l.fn.input;
    }

abbrev pub decreases-pieces : goal.decreases-pieces
decreases-pieces g l = 2 ^ 62 - device_taken l.input
