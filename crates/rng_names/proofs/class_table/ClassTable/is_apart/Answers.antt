use Rattle.std.proofs.Common.{sym, subst}
use Rattle.rng_model.specs.names.Names.{In}
use Rattle.rng_model.specs.names.NameViews.{class_of}
use Rattle.rng_names.proofs.CoveredNames.{apart_by_namespaces}
use Rattle.rng_names.proofs.class_table.ClassTable.is_apart.Goals as goal

pub returns : goal.returns
returns c = λ told q in_c in_d.
    apart_by_namespaces c.self.inside.namespaces c.other.inside.namespaces (class_of c.self.inside.class.now) (class_of c.other.inside.class.now)
    c.self.invariant.covers c.other.invariant.covers (c.are_apart.ensures told) q (subst (λ k. In (class_of k) q) (sym c.self.view_is) in_c)
    (subst (λ k. In (class_of k) q) (sym c.other.view_is) in_d)
