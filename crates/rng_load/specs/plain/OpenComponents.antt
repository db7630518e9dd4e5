-- What is gathered, when the lists of components that are open are gathered to their ends.
use Rattle.std.specs.Prelude.{◌≡◌, ℕ, List, [], ◌∷◌, ◌++◌, drop, Option}
use Rattle.rnc_model.specs.grammar.Syntax as tree
use Rattle.rnc_model.specs.grammar.Syntax.{applied, components_of}
use Rattle.rnc_model.specs.declarations.FileTree.{FileTree}
use Rattle.rnc_model.specs.loading.Places.{TreePath, Gathered}
use Rattle.rng_load.specs.plain.PlainReading.{gather_at, replaced_by}

-- what is to be done at the end of a list of components
pub data AtEnd : Type 0 where
  nothing : AtEnd
  -- what is gathered before the include, where its braces are read, and the components in these
  braces : List Gathered → ℕ → List ℕ → List (tree.ComponentAt applied) → AtEnd
  -- what is gathered before the include, and the components of the included file
  override : List Gathered → List Gathered → AtEnd

-- a list of components that is not gathered to its end: where it is read, the components that are left, the number of
-- the first of them, and what is to be done at the end
pub record OpenList : Type 0 where
  pub levels : ℕ
  pub uri : List ℕ
  pub number : ℕ
  pub left : List (tree.ComponentAt applied)
  pub at_end : AtEnd

-- one list is open, with nothing to do at its end
pub record IsLast (os : List OpenList) : Type 0 where
  pub list : OpenList
  pub alone : os ≡ list ∷ []
  pub ends : list.at_end ≡ nothing

-- the trees of the files by name
abbrev pub Files : Type 0
Files = List ℕ → Option FileTree

-- what is gathered, and the way
abbrev pub Gathering : Type 0
Gathering = List Gathered × TreePath

module _ (files : Files) where
  -- what the components add that are left of the list at this way
  abbrev pub components_at : TreePath → OpenList → List Gathered
  components_at x o = gather_at files o.levels o.uri x o.number (components_of o.left)

  -- what is gathered once the end of a list is done, whose way this is
  abbrev pub after_end : AtEnd → Gathering → Gathering
  after_end nothing s = s
  after_end (braces before levels u over) s =
      let x = drop 1 s.1 in
      (before ++ replaced_by s.0 (gather_at files levels u (1 ∷ x) 0 (components_of over)), x)
  after_end (override before included) s = (before ++ replaced_by included s.0, drop 1 s.1)

  -- what is gathered once the list at this way is
  abbrev pub with_list : OpenList → Gathering → Gathering
  with_list o s = after_end o.at_end (s.0 ++ components_at s.1 o, s.1)

  -- What is gathered when all open lists are gathered to their ends, the innermost first. The way is that of a component
  -- of the innermost list.
  unfoldable pub gathered_at_end : List OpenList → Gathering → Gathering
  gathered_at_end [] s = s
  gathered_at_end (o ∷ os) s = gathered_at_end os (with_list o (s.0, drop 1 s.1))
