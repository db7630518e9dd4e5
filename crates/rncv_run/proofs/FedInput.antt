-- A document that is read and fed piece by piece.
use Rattle.std.proofs.Common.{ℕ, List, [], ◌++◌, Option, Some, None, Err, refl, sym, subst}
use Rattle.std.specs.Io.KnownBytes.{Consumes, IsAtEnd}
use Rattle.std.proofs.KnownBytes.{Consumes-nil, Consumes-trans}
use Rattle.std.proofs.lemmas.List.{append-nil}
use Rattle.rncv_model.specs.answers.Verdict.{HasLeft}
use Rattle.rncv_validator.specs.declared.fault.DocumentFault.{DocumentFault}
use Rattle.rncv_validator.specs.declared.fault.DocumentFault.TheVariants as document
use Rattle.rncv_validator.specs.views.Documents.{IsFaultOfFed, UnlessMemory}
use Rattle.rncv_validator.specs.views.FedDocuments.{HasBeenFed, Judging}
use Rattle.rncv_run.specs.views.DocumentInput.{IsFaultOfInput, IsFedWhole}
use Rattle.rncv_run.specs.declared.document_input.InputFault.TheVariants as faults

-- so far these bytes are read and fed
pub record IsBegun (IsFed : List ℕ → Type 0) (input_old input_new : Option (List ℕ)) : Type 0 where
  pub bytes : List ℕ
  pub consumed : Consumes input_old input_new bytes
  pub fed : IsFed bytes

pub nothing_read : (IsFed : List ℕ → Type 0) (input : Option (List ℕ)) → IsFed [] → IsBegun IsFed input input
nothing_read IsFed input fed = record { bytes = []; consumed = Consumes-nil input; fed = fed }

-- what is left of an input
abbrev rest_of : Option (List ℕ) → List ℕ
rest_of None = []
rest_of (Some bytes) = bytes

left_is : (input : Option (List ℕ)) → HasLeft input (rest_of input)
left_is None = tt
left_is (Some bytes) = refl

nothing_left : (input : Option (List ℕ)) → IsAtEnd input → HasLeft input []
nothing_left None e = tt
nothing_left (Some bytes) e = e

module _ (d e : Judging) (input_old input_mid input_new : Option (List ℕ)) (begun : IsBegun (HasBeenFed d) input_old input_mid) (piece : List ℕ)
    (read : Consumes input_mid input_new piece) where
  abbrev bytes : List ℕ
  bytes = begun.bytes ++ piece

  consumed : Consumes input_old input_new bytes
  consumed = Consumes-trans input_old input_mid input_new begun.bytes piece begun.consumed read

  pub piece_read : ((bytes : List ℕ) → HasBeenFed d bytes → HasBeenFed e (bytes ++ piece)) → IsBegun (HasBeenFed e) input_old input_new
  piece_read fed = record { bytes = bytes; consumed = consumed; fed = fed begun.bytes begun.fed }

  -- the document returned an error for a piece
  pub piece_refused : (A : Type 0) (f : DocumentFault)
      → UnlessMemory {A = A} (Err f) ((bytes : List ℕ) → HasBeenFed d bytes → HasBeenFed e (bytes ++ piece)) → IsFaultOfFed e f
      → IsFaultOfInput input_old input_new (faults.Document f)
  piece_refused A document.Memory fed fault = tt
  piece_refused A (document.Malformed clause line) fed fault = (
    bytes ++ rest_of input_new,
    rest_of input_new,
    record { read = bytes; parts = refl; consumed = consumed; left = left_is input_new },
    fault bytes (rest_of input_new) (fed begun.bytes begun.fed),
  )

-- everything is read
pub whole_read : (d : Judging) (input_old input_mid input_new : Option (List ℕ)) → IsBegun (HasBeenFed d) input_old input_mid
    → Consumes input_mid input_new [] → IsAtEnd input_new → IsFedWhole (HasBeenFed d) input_old input_new
whole_read d input_old input_mid input_new begun read end = record {
  bytes = begun.bytes;
  read = record {
    read = begun.bytes;
    parts = sym (append-nil begun.bytes);
    consumed = subst (Consumes input_old input_new) (append-nil begun.bytes)
        (Consumes-trans input_old input_mid input_new begun.bytes [] begun.consumed read);
    left = nothing_left input_new end;
  };
  fed = begun.fed;
}
