use Rattle.std.proofs.Common.{◌≡◌, take, flat_map}
use Rattle.std.specs.Str.{bytes_eq}
use Rattle.rng_model.specs.names.NameViews.{class_of}
use Rattle.rncv_model.specs.printed.Items.{and_new}
use Rattle.rncv_model.specs.printed.PrintedText.{namespaces_in}
use Rattle.rnc_print.specs.views.Prefixes.{namespaces_seen}
use Rattle.rnc_print.proofs.prefixes.Prefixes.+add_class.Given as goal

-- the namespaces of the members so far are added
abbrev pub invariant-members : goal.invariant-members
invariant-members l =
    namespaces_seen l.self ≡ and_new bytes_eq (namespaces_seen l.fn.self) (flat_map (λ c. namespaces_in (class_of c)) (take l.member-index l.member-items))
