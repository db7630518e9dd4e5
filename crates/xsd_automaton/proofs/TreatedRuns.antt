-- A text of which a part is read, and the rest of which is still to be treated.
use Rattle.std.proofs.Common.{◌≡◌, ◌∙◌, ℕ, List, [], ◌++◌, true, take, drop, refl, sym, ap, subst, append-nil, append_assoc}
use Rattle.std.specs.List.{list_all}
use Rattle.std.specs.Str.{IsUtf8, chars}
use Rattle.std.proofs.lemmas.List.{take-append-drop}
use Rattle.std.proofs.lemmas.Str.{chars-append, chars-nil}
use Rattle.rng_model.specs.plain.BlankRuns.{is_run_byte}
use Rattle.xsd_automaton.specs.declared.white_space.WhiteSpace.{WhiteSpace}
use Rattle.xsd_automaton.specs.declared.white_space.WhiteSpace.TheVariants as white_space
use Rattle.xsd_automaton.specs.plain.ReadParts.{IsRead}
use Rattle.xsd_automaton.specs.views.WhiteSpace.{left_by}
use Rattle.xsd_automaton.proofs.TreatedParts.{replaced_run}
use Rattle.rng_types.proofs.CollapsedBytes.{run_then}

-- a run in front stays as it is
left_run : (kind : WhiteSpace) (run rest : List ℕ) → list_all is_run_byte run ≡ true → left_by kind (run ++ rest) ≡ run ++ left_by kind rest
left_run white_space.Preserve run rest e = refl
left_run white_space.Replace run rest e = replaced_run run rest e
left_run white_space.Collapse run rest e = run_then run rest e

pub begins : (Leads : List ℕ → Type 0) (all left : List ℕ) → left ≡ all → Leads [] → IsRead Leads (chars all) left
begins Leads all left e leads = record { read = []; leads = leads; parts = ap chars (sym e) }

pub goes_on : (Leads More : List ℕ → Type 0) (whole left part after : List ℕ) → IsUtf8 part → left ≡ part ++ after
    → ((read : List ℕ) → Leads read → More (read ++ chars part)) → IsRead Leads whole left → IsRead More whole after
goes_on Leads More whole left part after utf8 e more is = record {
  read = is.read ++ chars part;
  leads = more is.read is.leads;
  parts = is.parts ∙ ap (λ t. is.read ++ chars t) e ∙ ap (λ t. is.read ++ t) (chars-append part after utf8)
      ∙ sym (append_assoc is.read (chars part) (chars after));
}

pub ends : (Leads : List ℕ → Type 0) (whole left : List ℕ) → left ≡ [] → IsRead Leads whole left → Leads whole
ends Leads whole left e is =
    subst Leads (sym (is.parts ∙ ap (λ t. is.read ++ chars t) e ∙ ap (λ t. is.read ++ t) chars-nil ∙ append-nil is.read)) is.leads

-- a run is read
pub past_run : (Leads More : List ℕ → Type 0) (kind : WhiteSpace) (whole s after : List ℕ) (n : ℕ) → list_all is_run_byte (take n s) ≡ true
    → IsUtf8 (take n s) → after ≡ drop n s → ((read : List ℕ) → Leads read → More (read ++ chars (take n s))) → IsRead Leads whole (left_by kind s)
    → IsRead More whole (left_by kind after)
past_run Leads More kind whole s after n run utf8 behind more =
    goes_on Leads More whole (left_by kind s) (take n s) (left_by kind after) utf8
    (ap (left_by kind) (sym (take-append-drop n s)) ∙ left_run kind (take n s) (drop n s) run ∙ ap (λ t. take n s ++ left_by kind t) (sym behind))
    more
