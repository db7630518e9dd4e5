-- Names of components, gathered file by file: the names themselves, and the included files whose components must still
-- be read.
use Rattle.std.specs.Prelude.{◌≡◌, List, [], Option, Some, None, Bool, true, false, map}
use Rattle.rng_model.specs.names.Lists.{Among}
use Rattle.rnc_model.specs.grammar.Syntax as tree
use Rattle.rnc_model.specs.grammar.Syntax.{applied}
use Rattle.rnc_model.specs.loading.Loading.{with_name}
use Rattle.rnc_model.specs.loading.SchemaFile.{FileName}
use Rattle.rng_load.specs.declared.component_names.ComponentNames as declared

-- the names of defines, whether there is a start, and the names of included files
pub record Names : Type 0 where
  pub defines : List FileName
  pub has_start : Bool
  pub included : List FileName

abbrev pub no_names : Names
no_names = record { defines = []; has_start = false; included = [] }

abbrev mutual
  -- the names together with those of a component
  pub gather_component : Names → tree.ComponentAt applied → Names
  gather_component ns (tree.start m p) = record { defines = ns.defines; has_start = true; included = ns.included }
  gather_component ns (tree.define n m p) = record { defines = with_name ns.defines n; has_start = ns.has_start; included = ns.included }
  gather_component ns (tree.div cs) = gather ns cs
  gather_component ns (tree.include m over) =
      gather (record { defines = ns.defines; has_start = ns.has_start; included = with_name ns.included m.href }) over

  -- the names together with those of components
  pub gather : Names → tree.ComponentsAt applied → Names
  gather ns tree.no_components = ns
  gather ns (tree.component_and c cs) = gather (gather_component ns c) cs

-- the names together with those of components, if there are any
abbrev pub gather_if : Names → Option (tree.ComponentsAt applied) → Names
gather_if ns None = ns
gather_if ns (Some cs) = gather ns cs

-- some component has this name, or is a start
abbrev pub HasIt : Names → Option FileName → Type 0
HasIt ns None = ns.has_start ≡ true
HasIt ns (Some n) = Among n ns.defines

-- the names of the code
abbrev pub names_in : declared.ComponentNames → Names
names_in ns = record {
  defines = map (λ n. n.now) ns.defines.keys;
  has_start = ns.has_start;
  included = map (λ n. n.now) ns.included.keys;
}
