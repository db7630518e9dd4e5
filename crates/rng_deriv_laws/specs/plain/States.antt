-- Patterns inside open elements, and what each event does to them. What remains of a document is a list of levels: what
-- remains in each open element, the innermost first. If the pattern inside an element or what follows it is notAllowed,
-- the pair of both is never matched. So a state after which no continuation is valid is `never`.
use Rattle.std.specs.Prelude.{◌⊎◌, ℕ, List, [], ◌∷◌, Bool, true, false, ◌||◌, ◌&&◌, cond}
use Rattle.rng_model.specs.names.Names.{Name}
use Rattle.rng_model.specs.simple.Tree.{Simple}
use Rattle.rng_model.specs.matching.Document.{Attribute, Item, a_text, an_element, Items, no_items, item_and, list_of}
use Rattle.rng_model.specs.datatypes.Texts.{is_blank}
use Rattle.rng_model.specs.matching.GrammarMatching.{Reading}
use Rattle.rng_deriv_laws.specs.plain.Reading.{body_of}
use Rattle.rng_deriv_laws.specs.plain.Taking.{Takes, WeaklyTakes}
use Rattle.rng_deriv_laws.specs.plain.Restricted.{IsRestricted, IsRestrictedBody}
use Rattle.rng_deriv_laws.specs.plain.Blanks.{has_element, without_blanks, string_of}
use Rattle.rng_deriv_laws.specs.plain.Derivatives.{is_not_allowed, is_nullable, Way, closed, after_text, has_text, after_attributes, after_start}

pub data State : Type 0 where
  never : State
  finished : State
  -- the pattern inside, and the state of the levels around
  after : Simple ℕ → State → State
  either : State → State → State

abbrev pub is_never : State → Bool
is_never never = true
is_never finished = false
is_never (after p r) = false
is_never (either r s) = false

-- ---- states that are built

abbrev pub after_of : Simple ℕ → State → State
after_of p r = cond (is_not_allowed p) never (cond (is_never r) never (after p r))

abbrev pub either_of : State → State → State
either_of r s = cond (is_never r) s (cond (is_never s) r (either r s))

abbrev pub if_so : Bool → State → State
if_so b r = cond b r never

-- ---- events

-- the end of an element that has a child element
abbrev pub end_tag : State → State
end_tag never = never
end_tag finished = never
end_tag (after p r) = if_so (is_nullable p) r
end_tag (either r s) = either_of (end_tag r) (end_tag s)

-- nothing remains, and nothing is needed
abbrev pub is_ended : State → Bool
is_ended never = false
is_ended finished = true
is_ended (after p r) = false
is_ended (either r s) = is_ended r || is_ended s

-- nothing remains in the innermost level, which is the only one, and nothing is needed
abbrev pub accepts : State → Bool
accepts never = false
accepts finished = false
accepts (after p r) = is_nullable p && is_ended r
accepts (either r s) = accepts r || accepts s

module _ (g : Reading) where
  -- the state inside the bodies of the ways, after the attributes of the tag
  abbrev pub enter : List Attribute → List Way → State → State
  enter xs [] r = never
  enter xs (w ∷ ws) r = either_of (after_of (closed (after_attributes g w.leaf xs)) (after_of w.rest r)) (enter xs ws r)

  abbrev pub start_tag : State → Name → List Attribute → State
  start_tag never q xs = never
  start_tag finished q xs = never
  start_tag (after p r) q xs = enter xs (after_start g p q) r
  start_tag (either r s) q xs = either_of (start_tag r q xs) (start_tag s q xs)

  -- a string that has an element beside it
  abbrev pub string : State → List ℕ → State
  string never s = never
  string finished s = never
  string (after p r) s = after_of (after_text g p s) r
  string (either r t) s = either_of (string r s) (string t s)

  -- the end of an element with only one string, or with nothing
  abbrev pub end_text : State → List ℕ → State
  end_text never s = never
  end_text finished s = never
  end_text (after p r) s = if_so (has_text g p s) r
  end_text (either r t) s = either_of (end_text r s) (end_text t s)

  -- the state after the children of an element, and after an item
  abbrev mutual
    pub after_items : Items → State → State
    after_items no_items r = r
    after_items (item_and n ns) r = after_items ns (after_item n r)

    pub after_item : Item → State → State
    after_item (a_text s) r = cond (is_blank s) r (string r s)
    after_item (an_element q xs kids) r =
        cond (has_element (list_of kids)) (end_tag (after_items kids (start_tag r q xs))) (end_text (start_tag r q xs) (string_of (list_of kids)))

  -- ---- the meaning of states

  -- the state allows these items to remain in each level
  abbrev pub Holds : State → List (List Item) → Type 0
  Holds never ls = ⊥
  Holds finished [] = Unit {0}
  Holds finished (ns ∷ ls) = ⊥
  Holds (after p r) [] = ⊥
  Holds (after p r) (ns ∷ ls) = Takes g p [] ns × Holds r ls
  Holds (either r s) ls = Holds r ls ⊎ Holds s ls

  -- the pattern takes the whole content of an element; if the content has an element, its blank strings are removed
  -- first
  abbrev pub Contains : Bool → Simple ℕ → List Item → Type 0
  Contains true p kids = Takes g p [] (without_blanks kids)
  Contains false p kids = WeaklyTakes g p [] kids

  -- the state allows this whole content of an element, with these items in the levels around it
  abbrev pub Begins : State → List Item → List (List Item) → Type 0
  Begins never kids ls = ⊥
  Begins finished kids ls = ⊥
  Begins (after p r) kids ls = Contains (has_element kids) p kids × Holds r ls
  Begins (either r s) kids ls = Begins r kids ls ⊎ Begins s kids ls

  -- every body of the grammar obeys the restrictions
  abbrev pub HasRestrictedBodies : Type 0
  HasRestrictedBodies = (k : ℕ) → IsRestrictedBody (body_of g k)

-- every pattern of the state obeys the restrictions
abbrev pub IsRestrictedState : State → Type 0
IsRestrictedState never = Unit {0}
IsRestrictedState finished = Unit {0}
IsRestrictedState (after p r) = IsRestricted p × IsRestrictedState r
IsRestrictedState (either r s) = IsRestrictedState r × IsRestrictedState s
