use Rattle.std.proofs.Common.{ℕ, List, ◌++◌, subst}
use Rattle.std.specs.Str.{chars}
use Rattle.xsd_automaton.specs.plain.ReadParts.{IsRead}
use Rattle.xsd_automaton.specs.views.Sets.{IsSetTable, LeadsToSet}
use Rattle.xsd_automaton.specs.views.WhiteSpace.{left_by, treated}
use Rattle.xsd_automaton.proofs.TreatedRuns.{goes_on, ends}
use Rattle.xsd_automaton.proofs.treated.accepts_treated_by_sets.Goals as goal

pub returns-in_default-next_part : goal.returns-in_default-next_part
returns-in_default-next_part c ps first r tables of =
    let rows = c.args.sets.now.rows.items in
    let whole = chars (treated c.args.white_space c.args.text.now) in
    let set : ℕ = c.in-Some.behind in
    let left = left_by c.args.white_space c.in-Some.after.now in
    let is : IsRead (LeadsToSet ps first rows tables.table set) whole left =
    subst (λ rows. (table : IsSetTable ps first rows) → IsRead (LeadsToSet ps first rows table c.runs.set) whole (left_by c.args.white_space c.runs.rest.now)
    → IsRead (LeadsToSet ps first rows table set) whole left) c.as_slice-rows.ensures.value
    (λ table. c.in-Some.ensures.leads ps first table c.args.white_space whole) tables.table (c.runs.invariant.leads ps first tables.table) in
    c.is_end.ensures ps first r tables whole of (ends (LeadsToSet ps first rows tables.table set) whole left c.in_default-next_part.ensures is)

pub runs-preserved : goal.runs-preserved
runs-preserved c = record {
  utf8 = c.in-Some-next_part.ensures.3;
  leads = λ ps first table.
      let rows = c.args.sets.now.rows.items in
      let whole = chars (treated c.args.white_space c.args.text.now) in
      let set : ℕ = c.in-Some.behind in
      let left = left_by c.args.white_space c.in-Some.after.now in
      let is : IsRead (LeadsToSet ps first rows table set) whole left =
      subst (λ rows. (table : IsSetTable ps first rows) → IsRead (LeadsToSet ps first rows table c.runs.set) whole (left_by c.args.white_space c.runs.rest.now)
      → IsRead (LeadsToSet ps first rows table set) whole left) c.as_slice-rows.ensures.value
      (λ table. c.in-Some.ensures.leads ps first table c.args.white_space whole) table (c.runs.invariant.leads ps first table) in
      let more : (read : List ℕ) → LeadsToSet ps first rows table set read
      → LeadsToSet ps first rows table c.in-Some-set_behind.next (read ++ chars c.in-Some-next_part.part.now) =
      subst (λ rows. (table : IsSetTable ps first rows) (read : List ℕ) → LeadsToSet ps first rows table set read
      → LeadsToSet ps first rows table c.in-Some-set_behind.next (read ++ chars c.in-Some-next_part.part.now)) c.as_slice-rows.ensures.value
      (c.in-Some-set_behind.ensures ps first) table in
      goes_on (LeadsToSet ps first rows table set) (LeadsToSet ps first rows table c.in-Some-set_behind.next) whole left c.in-Some-next_part.part.now
      (left_by c.args.white_space c.in-Some-next_part.more.now) c.in-Some-next_part.ensures.2 c.in-Some-next_part.ensures.0 more is;
}
