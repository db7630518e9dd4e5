-- Reading files one after the other.
use Rattle.std.proofs.Common.{◌≡◌, ◌≢◌, ◌∙◌, ◌⊎◌, inl, inr, ℕ, List, [], ◌∷◌, ◌++◌, Result, Ok, Err, IfErr, sym, ap, subst, string_bytes, String, Vec, Global}
use Rattle.std.specs.IoError.{error_kind}
use Rattle.std.specs.declared.io.Error.{Error}
use Rattle.std.specs.declared.io.ErrorKind.TheVariants.{OutOfMemory}
use Rattle.std.proofs.lemmas.List.{map_push}
use Rattle.std.proofs.lemmas.List.Elements.{All-push}
use Rattle.rncv_cli.specs.plain.Answering.{AreRead, IsFirstUnread}
use Rattle.rncv_cli.specs.plain.CommandLine.{Text}
use Rattle.rncv_cli.specs.views.Faults.{IsUnreadable}
use Rattle.rncv_cli.specs.declared.fault.Fault.{Fault}
use Rattle.rncv_cli.specs.declared.fault.Fault.TheVariants.{Memory, File}

module _ (reads : Text → List ℕ → Type 0) where
  -- one more file is read
  pub one_more : (names : List (String Global)) (files : List (String Global × Vec ℕ Global)) (name : String Global) (bytes : Vec ℕ Global) →
      AreRead reads names files → reads (string_bytes name) bytes.items → AreRead reads (names ++ name ∷ []) (files ++ (name, bytes) ∷ [])
  one_more names files name bytes are is = record {
    named = map_push (λ file. file.0) files (name, bytes) ∙ ap (λ ns. ns ++ name ∷ []) are.named;
    each = All-push (λ file. reads (string_bytes file.0) file.1.items) files (name, bytes) are.each is;
  }

  module _ (IsUnread : Text → Type 0) where
    -- the next file is not read
    pub is_first_unread : (names before after left : List (String Global)) (files : List (String Global × Vec ℕ Global)) (name : String Global) →
        before ++ left ≡ names → left ≡ name ∷ after → AreRead reads before files → IsUnread (string_bytes name) → IsFirstUnread reads IsUnread names name
    is_first_unread names before after left files name all next are unread = record {
      before = before;
      after = after;
      parts = sym all ∙ ap (λ ns. before ++ ns) next;
      files = files;
      are_read = are;
      is_unread = unread;
    }

    -- a fault that is reported at the first file that is not read, for a reason P
    pub is_unreadable : (names : List (String Global)) (name : String Global) (fault : Fault) (P : Type 0) → (P → IsFirstUnread reads IsUnread names name) →
        (fault ≡ Memory) ⊎ ((fault ≡ File name) × P) → IsUnreadable reads IsUnread names fault
    is_unreadable names name fault P first (inl memory) = rw memory tt
    is_unreadable names name fault P first (inr file) = rw (file.0) (first file.1)

same_error : (A : Type 0) (e f : Error) → ◌≡◌ {A = Result A Error} (Err e) (Err f) → e ≡ f
same_error A e f h = cc

-- the error of what was opened is this one, if there is one
pub not_memory : {R : Type 0} (A : Type 0) (opened : Result R Error) (error : Error) → error_kind error ≢ OutOfMemory →
    IfErr opened (λ e. ◌≡◌ {A = Result A Error} (Err error) (Err e)) → IfErr opened (λ e. error_kind e ≢ OutOfMemory)
not_memory A (Ok reader) error other same = tt
not_memory A (Err e) error other same = subst (λ x. error_kind x ≢ OutOfMemory) (same_error A error e same) other
