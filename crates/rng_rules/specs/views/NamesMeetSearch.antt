-- Two rows with name classes that have a name in common, on the two sides of a row. Private contracts cite it.
use Rattle.std.specs.Prelude.{◌≡◌, ℕ, List, [], ◌∷◌, length, slice_get, Some, true, Contains}
use Rattle.rng_model.specs.names.Names.{Overlap}
use Rattle.rng_model.specs.restrictions.Restrictions.{BreaksAttributeNames, BreaksElementNames, ClassIn}
use Rattle.rng_model.specs.simple.Table.{Table}
use Rattle.rng_model.specs.simple.Grammar.{Grammar}
use Rattle.rng_model.specs.simple.Tree.{Simple}
use Rattle.rng_model.specs.names.NameViews.{class_of}
use Rattle.rng_model.specs.declared.name.NameClass.{NameClass}
use Rattle.rng_rules.specs.declared.names_meet.NamesOf.{NamesOf}
use Rattle.rng_rules.specs.declared.names_meet.NamesOf.TheVariants as names_of
use Rattle.rng_rules.specs.declared.names_meet_search.Search.{Search}
use Rattle.rng_rules.specs.declared.names_meet_sides.Rows as declared
use Rattle.rng_rules.specs.views.NamesMeetHeads.{AreHeads, MeetsItself}
use Rattle.rng_rules.specs.views.NamesMeetSides.{AreMarks, MeetBetween}

-- what is checked for a start or a body
abbrev pub Breaks : NamesOf → Grammar → Simple ℕ → Type 0
Breaks names_of.Attributes g p = BreaksAttributeNames p
Breaks names_of.Elements g p = BreaksElementNames (ClassIn g) p

pub record Meeting (of : NamesOf) (t : Table) (above : List (List ℕ)) (labels : List (ℕ × NameClass)) : Type 0 where
  pub first : ℕ × NameClass
  pub second : ℕ × NameClass
  pub first_there : Contains labels first
  pub second_there : Contains labels second
  pub overlap : Overlap (class_of first.1) (class_of second.1)
  pub meet : MeetBetween of t above (first.0 ∷ []) (second.0 ∷ [])

-- what a search keeps is right for these rows, and its marks are of earlier rounds
pub record IsSearch (rows : declared.Rows) (round : ℕ) (search : Search) : Type 0 where
  pub long : length search.heads.items ≡ length rows.standing.items
  pub heads : AreHeads rows search.heads.items
  pub apart_long : length search.apart.items ≡ length rows.standing.items
  pub apart : (k : ℕ) → slice_get search.apart.items k ≡ Some true → ¬ (MeetsItself rows k)
  pub marks : AreMarks (length rows.standing.items) round search.marks
