use Rattle.std.proofs.Common.{take}
use Rattle.std.specs.List.{list_any}
use Rattle.rng_model.specs.names.NameViews.{class_of}
use Rattle.rng_names.specs.views.Alternatives.{Adds, Grows, Linked, has_alternative}
use Rattle.rng_names.proofs.alternatives.Alternatives.+additions.Given as goal

-- the alternatives of the members so far are added
abbrev pub invariant-add-members : goal.invariant-add-members
invariant-add-members l = record {
  adds : Adds l.fn.self l.self (λ test. list_any (λ c. has_alternative test (class_of c)) (take l.member-index l.member-items));
  grows : Grows l.fn.tables.items l.tables.items;
  linked : Linked l.fn.tables.items l.fn.self → Linked l.tables.items l.self;
}
