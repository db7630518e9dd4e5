-- A matcher that takes the events of a document one by one. It holds a string until the next event shows whether the
-- string is an only child. A blank string is data only if it is (RELAX NG Specification, section 6.2.7).
use Rattle.std.specs.Prelude.{ℕ, zero, suc, List, [], ◌∷◌, ◌++◌, Bool, true, false, cond, map, Option, Some, None}
use Rattle.rng_model.specs.simple.Tree.{Simple}
use Rattle.rng_model.specs.matching.Document.{a_text, an_element, Items, no_items, item_and}
use Rattle.rng_model.specs.datatypes.Texts.{is_blank}
use Rattle.rng_model.specs.documents.PyxTrees.{Event, EventKind, a_start, a_string, an_end}
use Rattle.rng_model.specs.matching.GrammarMatching.{Reading}
use Rattle.rng_deriv_laws.specs.plain.States.{State, finished, after_of, start_tag, string, end_tag, end_text, accepts}

-- the kinds of events, without their lines
abbrev pub kinds : List Event → List EventKind
kinds es = map (λ e. e.kind) es

-- the events of a list of children, without lines
abbrev pub events_of_items : Items → List EventKind
events_of_items no_items = []
events_of_items (item_and (a_text s) ns) = a_string s ∷ events_of_items ns
events_of_items (item_and (an_element q xs kids) ns) = a_start q xs ∷ (events_of_items kids ++ an_end ∷ events_of_items ns)

-- The number of open elements after these events, given the number before. It is `None` if an element ends that is not
-- open.
abbrev pub open_after : ℕ → List EventKind → Option ℕ
open_after n [] = Some n
open_after n (a_start q xs ∷ es) = open_after (suc n) es
open_after n (a_string s ∷ es) = open_after n es
open_after zero (an_end ∷ es) = None
open_after (suc n) (an_end ∷ es) = open_after n es

pub record Matcher : Type 0 where
  pub state : State
  -- the element at this level has a child element already
  pub has_begun : Bool
  -- the string since the last tag, or the empty string if there is none
  pub held : List ℕ

abbrev pub new : Simple ℕ → Matcher
new start = record { state = after_of start finished; has_begun = false; held = [] }

module _ (g : Reading) where
  -- the state after the held string, given that an element is beside it
  abbrev pub settled : Matcher → State
  settled m = cond (is_blank m.held) m.state (string g m.state m.held)

  abbrev pub step : Matcher → EventKind → Matcher
  step m (a_start q xs) = record { state = start_tag g (settled m) q xs; has_begun = false; held = [] }
  step m (a_string s) = record { state = m.state; has_begun = m.has_begun; held = s }
  step m an_end = record { state = cond m.has_begun (end_tag (settled m)) (end_text g m.state m.held); has_begun = true; held = [] }

  abbrev pub run : Matcher → List EventKind → Matcher
  run m [] = m
  run m (e ∷ es) = run (step m e) es

  -- the matcher accepts after these events
  abbrev pub is_valid : List EventKind → Bool
  is_valid es = accepts (run (new g.grammar.start) es).state
