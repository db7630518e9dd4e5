-- What the reader keeps, and what its steps and its loop give.
use Rattle.std.specs.Prelude.{◌≡◌, ℕ, List, Option, Some, None, Result, Ok, Err, map, reverse, ⊤, Vec}
use Rattle.xsd_regex.specs.declared.expression.Row.{Row}
use Rattle.xsd_regex.specs.declared.fault.ReadFault.{ReadFault}
use Rattle.xsd_regex.specs.declared.fault.ReadFault.TheVariants as faults
use Rattle.xsd_regex.specs.declared.reader.Reader.{Reader}
use Rattle.rng_model.specs.regexes.plain.Postfix as spec
use Rattle.xsd_regex.specs.plain.KeptSteps.{Kept, Next}
use Rattle.xsd_regex.specs.views.Classes.{mark_of}
use Rattle.xsd_regex.specs.views.Rows.{row_of}
use Rattle.xsd_regex.specs.views.Readings.{AreRowsOf, IsNoRegex}

abbrev pub kept_of : Reader → Kept
kept_of r =
    record {
      members = map mark_of r.members.items;
      rows = map row_of r.rows.items;
      groups = reverse r.groups.items;
      alternative = r.alternative;
      depth = r.depth;
      mode = r.mode;
    }

-- there is nothing, or memory is out
abbrev pub IsRefused : {A : Type 0} → ReadFault → Option A → Type 0
IsRefused faults.NoExpression next = None ≡ next
IsRefused faults.Memory next = ⊤

-- this is what is kept after a step, or there is no step
abbrev pub IsStep : {A : Type 0} → Result A ReadFault → Kept → Next → Type 0
IsStep (Ok x) w next = Some w ≡ next
IsStep (Err e) w next = IsRefused e next

-- these are the rows, or there are none
abbrev pub IsFinish : {Z : Type 0} → Result (Vec Row Z) ReadFault → Option (List spec.Row) → Type 0
IsFinish (Ok rows) whole = Some (map row_of rows.items) ≡ whole
IsFinish (Err e) whole = IsRefused e whole

-- the text is no expression, or memory is out
abbrev pub IsUnread : List ℕ → ReadFault → Type 0
IsUnread text faults.NoExpression = IsNoRegex text
IsUnread text faults.Memory = ⊤

-- these are the rows of the expression that the text is
abbrev pub AreRead : {Z : Type 0} → List ℕ → Result (Vec Row Z) ReadFault → Type 0
AreRead text (Ok rows) = AreRowsOf text (map row_of rows.items)
AreRead text (Err e) = IsUnread text e
