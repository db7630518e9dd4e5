-- Whether the end tag of the innermost open element may come next.
use Rattle.std.proofs.Common.{◌≡◌, ◌↔◌, ◌∙◌, ◌&&◌, ◌||◌, ◌==◌, ℕ, ◌<◌, zero, suc, List, [], ◌∷◌, ◌++◌, length, map, fold, All, ap, ap₂, subst, refl, sym}
use Rattle.std.proofs.Common.{Bool, true, false, not, Option, Some, None, Contains, arith, ne_eqb, Result, Ok, Err, IfOk, OnOk}
use Rattle.std.specs.List.{AllZip, list_any}
use Rattle.std.proofs.lemmas.Bool.{or_left, or_right}
use Rattle.std.proofs.lemmas.List.Elements.{Contains-append_right}
use Rattle.rng_names.specs.plain.Keys.{Keys}
use Rattle.rng_model.proofs.Places.{contains_at}
use Rattle.rng_model.specs.documents.PyxTrees.{Event}
use Rattle.rng_model.specs.matching.Document.{a_text, no_texts, text_and}
use Rattle.rng_model.specs.matching.GrammarMatching.{Reading}
use Rattle.rng_model.specs.simple.Tree.{Simple}
use Rattle.rng_deriv_laws.specs.plain.Blanks.{IsBare, strings_alone}
use Rattle.rng_deriv_laws.specs.plain.Derivatives.{is_nullable}
use Rattle.rng_deriv_laws.specs.plain.LevelEvents.{LevelMatcher, SettlesLevels, as_blank, as_text}
use Rattle.rng_deriv_laws.specs.plain.LevelStates as level
use Rattle.rng_deriv_laws.specs.plain.LevelStates.{EndsNow, EndsWith, IsAfterText, LevelState}
use Rattle.rng_deriv_laws.proofs.Levels.States.{beside_first, beside_second, found_at}
use Rattle.rng_deriv_table.specs.declared.pattern.PatternNumber.{PatternNumber}
use Rattle.rng_deriv_events.specs.views.Basis.{Basis, HoldsBy, Keeps, reading_by}
use Rattle.rng_deriv_events.specs.views.Inputs.{tests_at}
use Rattle.rng_deriv_events.specs.views.KeptLevels.{AddsLevels, Grows, IsLevelKept, ends_by, nullable_in}
use Rattle.rng_deriv_events.specs.views.LevelRenewal.{IsPositionRenewed}
use Rattle.rng_deriv_events.specs.views.LevelTable.{levels_in, numbers_in, steps_in}
use Rattle.rng_deriv_events.specs.views.LevelsLeft.{is_within, mark_of, settled_level}
use Rattle.rng_deriv_events.specs.views.Marks.{IsMarkKept, IsMarkOf}
use Rattle.rng_deriv_events.specs.views.NextEnds.{EndMayCome, LeadToEnd, SomeEnds, behind_string, with_string}
use Rattle.rng_deriv_events.specs.views.Numbers.{Longer, tree_of}
use Rattle.rng_deriv_events.specs.views.OpenPositions.{IsHeldKept, IsPositionKept, level_at, open_level, open_position, open_state, open_string}
use Rattle.rng_deriv_events.specs.views.Positions.{HasCome, IsPositionOf}
use Rattle.rng_deriv_events.specs.views.States.{OpenLevel, levels_of, state_of, with_level}
use Rattle.rng_deriv_events.specs.views.Levels.{link_of}
use Rattle.rng_deriv_events.specs.views.Strings.{HeldString, IsHeld}
use Rattle.rng_deriv_events.specs.declared.held.Held.{Held}
use Rattle.rng_deriv_events.specs.declared.left.Mark.{Mark}
use Rattle.rng_deriv_events.specs.declared.level_table.level.LevelNumber.{LevelNumber}
use Rattle.rng_deriv_events.specs.declared.level_table.step.StepNumber.{StepNumber}
use Rattle.rng_deriv_events.specs.declared.level_table.table.LevelTable.{LevelTable}
use Rattle.rng_deriv_events.specs.declared.position.Position.{Position}
use Rattle.rng_deriv_events.specs.declared.state.WaysOut.{WaysOut}
use Rattle.rng_deriv_events.proofs.KeptLevels.{below_grows, numbers_grow, numbers_inside, tests_grow, zip_long}
use Rattle.rng_deriv_events.proofs.LevelTests.{ends_not_blank, or_false, tests_long, which_by, which_null}
use Rattle.rng_deriv_events.proofs.MarkedLevels.{Settled, settled}
use Rattle.rng_deriv_events.proofs.Numbers.{trees_stay}
use Rattle.rng_deriv_events.proofs.OpenStates.{state_grows, state_inside}
use Rattle.rng_deriv_events.proofs.Positions.{state_stays}

-- ---- some alternative passes a test

true_not_false : true ≡ false → ⊥
true_not_false e = cc

-- some of these satisfies P
abbrev SomeOf : (Simple ℕ → Type 0) → List (Simple ℕ) → Type 0
SomeOf P ps = (p : Simple ℕ) × Contains ps p × P p

module _ (P : Simple ℕ → Type 0) where
  some_from : (ps : List (Simple ℕ)) (bs : List Bool) → AllZip (λ p b. (b ≡ true) ↔ P p) ps bs → list_any (λ b. b) bs ≡ true → SomeOf P ps
  some_from [] [] h e = absurd (cc)
  some_from [] (b ∷ bs) h e = absurd h
  some_from (p ∷ ps) [] h e = absurd h
  some_from (p ∷ ps) (true ∷ bs) h e = (p, contains_at (p ∷ ps) 0 p refl, h.0.0 refl)
  some_from (p ∷ ps) (false ∷ bs) h e = let r = some_from ps bs h.1 e in (r.0, Contains-append_right (p ∷ []) ps r.0 r.1, r.2)

  some_to : (ps : List (Simple ℕ)) (bs : List Bool) → AllZip (λ p b. (b ≡ true) ↔ P p) ps bs → (p : Simple ℕ) → Contains ps p → P p
      → list_any (λ b. b) bs ≡ true
  some_to [] bs h q (i, lt, e) is = absurd (omega (arith, lt))
  some_to (p ∷ ps) [] h q c is = absurd h
  some_to (p ∷ ps) (b ∷ bs) h q (zero, lt, e) is = or_left b (list_any (λ b. b) bs) (h.0.1 (subst P (sym e) is))
  some_to (p ∷ ps) (b ∷ bs) h q (suc i, lt, e) is = or_right b (list_any (λ b. b) bs) (some_to ps bs h.1 q (i, omega (arith, lt), e) is)

  some_by : (ps : List (Simple ℕ)) (bs : List Bool) (b : Bool) → AllZip (λ p b. (b ≡ true) ↔ P p) ps bs → list_any (λ b. b) bs ≡ b → (b ≡ true) ↔ SomeOf P ps
  some_by ps bs b h is = (λ e. some_from ps bs h (is ∙ e), λ s. sym is ∙ some_to ps bs h s.0 s.1 s.2)

module _ (trees : List (Simple ℕ)) where
  abbrev pub some_nullable : List PatternNumber → Bool
  some_nullable ns = list_any (λ n. is_nullable (tree_of trees n)) ns

  some_in : (ns : List PatternNumber) → list_any (λ b. b) (nullable_in trees ns) ≡ some_nullable ns
  some_in [] = refl
  some_in (n ∷ ns) = ap (λ b. is_nullable (tree_of trees n) || b) (some_in ns)

  -- the tests of a call, by the lists that it takes
  pub some_alone : (now after ns rs : List PatternNumber) (blank told : Bool) → ns ≡ now → rs ≡ after
      → told ≡ (some_nullable rs || (blank && some_nullable ns)) → (some_nullable after || (blank && some_nullable now)) ≡ told
  some_alone now after ns rs blank told a b is = ap₂ (λ r n. some_nullable r || (blank && some_nullable n)) (sym b) (sym a) ∙ sym is

or_true : (a b : Bool) → (a || (true || b)) ≡ true
or_true true b = refl
or_true false b = refl

-- some alternative may end with the string if one is nullable behind it, or before it if it is blank
some_ends : (blank : Bool) (ns rs : List Bool) → length ns ≡ length rs
    → list_any (λ b. b) (ends_by blank ns rs) ≡ (list_any (λ b. b) rs || (blank && list_any (λ b. b) ns))
some_ends false ns rs e = ap (list_any (λ b. b)) (ends_not_blank ns rs e) ∙ sym (or_false (list_any (λ b. b) rs) (list_any (λ b. b) ns))
some_ends true [] [] e = refl
some_ends true [] (a ∷ rs) e = absurd (omega (arith, e))
some_ends true (n ∷ ns) [] e = absurd (omega (arith, e))
some_ends true (n ∷ ns) (true ∷ rs) e = refl
some_ends true (true ∷ ns) (false ∷ rs) e = sym (or_true (list_any (λ b. b) rs) (list_any (λ b. b) ns))
some_ends true (false ∷ ns) (false ∷ rs) e = some_ends true ns rs (omega (arith, e))

module _ (g : Reading) (trees : List (Simple ℕ)) where
  some_now : (ns : List PatternNumber) → (some_nullable trees ns ≡ true) ↔ SomeOf (EndsNow g) (map (tree_of trees) ns)
  some_now ns = some_by (EndsNow g) (map (tree_of trees) ns) (nullable_in trees ns) (some_nullable trees ns) (which_null g trees ns) (some_in trees ns)

  some_with : (now : List PatternNumber) (h : HeldString) (s : List ℕ) → IsHeld g trees now (Some h) s
      → ((some_nullable trees h.after || (h.blank && some_nullable trees now)) ≡ true) ↔ SomeOf (EndsWith g s) (map (tree_of trees) now)
  some_with now h s is =
      let long = tests_long trees now ∙ zip_long (IsAfterText g s) trees now h.after is.1 ∙ sym (tests_long trees h.after) in
      some_by (EndsWith g s) (map (tree_of trees) now) (ends_by h.blank (nullable_in trees now) (nullable_in trees h.after))
      (some_nullable trees h.after || (h.blank && some_nullable trees now)) (which_by g trees now h.after h.blank s is.0 is.1)
      (some_ends h.blank (nullable_in trees now) (nullable_in trees h.after) long
      ∙ ap₂ (λ a n. a || (h.blank && n)) (some_in trees h.after) (some_in trees now))

-- ---- at a matcher of levels

-- what is left behind a string may end whichever state it is
ends_alike : (g : Reading) (s : List ℕ) (m k n : LevelState) → SettlesLevels g s m k → SettlesLevels g s m n → SomeOf (EndsNow g) k.now
    → SomeOf (EndsNow g) n.now
ends_alike g s m k n (as_blank e) (as_blank f) some = some
ends_alike g s m k n (as_blank e) (as_text f t) some = absurd (true_not_false (sym e ∙ f))
ends_alike g s m k n (as_text e t) (as_blank f) some = absurd (true_not_false (sym f ∙ e))
ends_alike g s m k n (as_text e t) (as_text f u) (p, c, ends) =
    let bare : IsBare (a_text s ∷ []) = strings_alone (text_and no_texts) in
    let x = beside_second (IsAfterText g s) m.now k.now c.0 p t.now (found_at k.now p c) in
    let y = beside_first (IsAfterText g s) m.now n.now c.0 x.0 u.now x.1 in
    (y.0, contains_at n.now c.0 y.0 y.1, (y.2 [] bare).1 ((x.2 [] bare).0 ends))

module _ (g : Reading) (trees : List (Simple ℕ)) (t : LevelTable) (k : Mark) (m : LevelMatcher) (of : IsMarkOf g trees t k m) where
  pub closed_cannot : k.is_open ≡ false → (false ≡ true) ↔ EndMayCome g m
  closed_cannot closed = (λ e. absurd (true_not_false (sym e)), λ h. absurd (true_not_false (sym (of.is_open.1 h.0) ∙ closed)))

  module _ (is_open : k.is_open ≡ true) where
    pub ends_behind : k.has_begun ≡ true → (some_nullable trees (numbers_in (levels_in t) (settled_level k.level k.string).0) ≡ true) ↔ EndMayCome g m
    ends_behind begun = (to, λ h. back h.1) where
      behind : Settled g trees m (numbers_in (levels_in t) (settled_level k.level k.string).0)
      behind = settled g trees t k.level m of.now k.string of.held

      to : some_nullable trees (numbers_in (levels_in t) (settled_level k.level k.string).0) ≡ true → EndMayCome g m
      to e =
          let some = (some_now g trees (numbers_in (levels_in t) (settled_level k.level k.string).0)).0 e in (
            of.is_open.0 is_open,
            behind_string behind.state some.0 (of.has_begun ∙ begun) behind.settles (subst (λ ps. Contains ps some.0) (sym behind.now_is) some.1) some.2,
          )

      back : SomeEnds g m → some_nullable trees (numbers_in (levels_in t) (settled_level k.level k.string).0) ≡ true
      back (behind_string n p is settles c ends) =
          (some_now g trees (numbers_in (levels_in t) (settled_level k.level k.string).0)).1
          (subst (SomeOf (EndsNow g)) behind.now_is (ends_alike g m.held m.state n behind.state settles behind.settles (p, c, ends)))
      back (with_string p is c ends) = absurd (true_not_false (sym (of.has_begun ∙ begun) ∙ is))

    pub ends_alone : k.has_begun ≡ false → (new : List (Simple ℕ)) (now : List PatternNumber) (h : HeldString) → m.state.now ≡ map (tree_of new) now
        → IsHeld g new now (Some h) m.held → ((some_nullable new h.after || (h.blank && some_nullable new now)) ≡ true) ↔ EndMayCome g m
    ends_alone begun new now h at held = (to, λ h. back h.1) where
      to : (some_nullable new h.after || (h.blank && some_nullable new now)) ≡ true → EndMayCome g m
      to e =
          let some = (some_with g new now h m.held held).0 e in
          (of.is_open.0 is_open, with_string some.0 (of.has_begun ∙ begun) (subst (λ ps. Contains ps some.0) (sym at) some.1) some.2)

      back : SomeEnds g m → (some_nullable new h.after || (h.blank && some_nullable new now)) ≡ true
      back (behind_string n p is settles c ends) = absurd (true_not_false (sym is ∙ of.has_begun ∙ begun))
      back (with_string p is c ends) = (some_with g new now h m.held held).1 (p, subst (λ ps. Contains ps p) at c, ends)

-- ---- the mark of a position

-- an element is open where there are ways out
some_level : (trees : List (Simple ℕ)) (ls : List OpenLevel) (l : List level.Link) (levels : List (List level.Link)) → fold (with_level trees) (l ∷ levels) ls ≡ [] → ⊥
some_level trees [] l levels e = cc
some_level trees (x ∷ ls) l levels e = some_level trees ls (map (link_of trees) x.links) (l ∷ levels) e

within_is : (trees : List (Simple ℕ)) (at : StepNumber → OpenLevel) (cs : List WaysOut) (ns : List StepNumber)
    → (not ((length cs == 0) && (length ns == 0)) ≡ true) ↔ ¬ (levels_of trees (map open_level cs ++ map at ns) ≡ [])
within_is trees at [] [] = (λ e. absurd (true_not_false (sym e)), λ f. absurd (f refl))
within_is trees at (c ∷ cs) ns = (
  λ e none. some_level trees (map open_level cs ++ map at ns) (map (link_of trees) (open_level c).links) [] none,
  λ f. ap (λ b. not (b && (length ns == 0))) (ne_eqb (length (c ∷ cs)) 0 (λ e. omega (arith, e))),
)
within_is trees at [] (n ∷ ns) = (
  λ e none. some_level trees (map at ns) (map (link_of trees) (at n).links) [] none,
  λ f. ap (λ b. not b) (ne_eqb (length (n ∷ ns)) 0 (λ e. omega (arith, e))),
)

pub mark_is : (g : Reading) (trees : List (Simple ℕ)) (p : Position) (m : LevelMatcher) → IsPositionOf g trees (open_position p) m
    → IsMarkOf g trees p.state.table (mark_of p) m
mark_is g trees p m of = record {
  now = ap (λ s. s.now) of.state;
  is_open = subst (λ (s : LevelState). (is_within p.state ≡ true) ↔ ¬ (s.levels ≡ [])) (sym of.state)
      (within_is trees (level_at (steps_in p.state.table)) p.state.carried.items p.state.steps.items);
  has_begun = of.has_begun;
  held = of.held;
}

-- ---- in a table that has grown

module _ (t u : LevelTable) (grows : Grows (levels_in t) (levels_in u)) where
  held_kept : (now : LevelNumber) (o : Option Held) → now.0 < length (levels_in t) → IsHeldKept t now o → IsHeldKept u now o
  held_kept now None lt k = tt
  held_kept now (Some h) lt k = (
    below_grows (levels_in t) (levels_in u) h.after.0 grows k.0,
    ap length (numbers_grow (levels_in t) (levels_in u) now.0 grows lt) ∙ k.1 ∙ sym (ap length (numbers_grow (levels_in t) (levels_in u) h.after.0 grows k.0)),
  )

  pub mark_kept : (k : Mark) → IsMarkKept t k → IsMarkKept u k
  mark_kept k is = (below_grows (levels_in t) (levels_in u) k.level.0 grows is.0, held_kept k.level k.string is.0 is.1)

  module _ (g : Reading) (old new : List (Simple ℕ)) (longer : Longer old new) (all : All (IsLevelKept old) (levels_in t)) where
    trees_at : (n : LevelNumber) → n.0 < length (levels_in t)
        → map (tree_of new) (numbers_in (levels_in u) n.0) ≡ map (tree_of old) (numbers_in (levels_in t) n.0)
    trees_at n lt =
        ap (map (tree_of new)) (numbers_grow (levels_in t) (levels_in u) n.0 grows lt)
        ∙ trees_stay old new longer (numbers_in (levels_in t) n.0) (numbers_inside old (levels_in t) n.0 all lt)

    held_stays : (now : LevelNumber) (o : Option Held) (s : List ℕ) → now.0 < length (levels_in t) → IsHeldKept t now o
        → IsHeld g old (numbers_in (levels_in t) now.0) (open_string t o) s → IsHeld g new (numbers_in (levels_in u) now.0) (open_string u o) s
    held_stays now None s lt k is = is
    held_stays now (Some h) s lt k is = (
      is.0,
      subst (λ ps. AllZip (IsAfterText g s) ps (map (tree_of new) (numbers_in (levels_in u) h.after.0))) (sym (trees_at now lt))
          (subst (AllZip (IsAfterText g s) (map (tree_of old) (numbers_in (levels_in t) now.0))) (sym (trees_at h.after k.0)) is.1),
    )

    pub mark_stays : (k : Mark) (m : LevelMatcher) → IsMarkKept t k → IsMarkOf g old t k m → IsMarkOf g new u k m
    mark_stays k m is of = record {
      now = of.now ∙ sym (trees_at k.level is.0);
      is_open = of.is_open;
      has_begun = of.has_begun;
      held = held_stays k.level k.string m.held is.0 is.1 of.held;
    }

-- only the table changes
abbrev pub with_table : Position → LevelTable → Position
with_table p u = record {
  state = record { table = u; now = p.state.now; carried = p.state.carried; steps = p.state.steps };
  has_begun = p.has_begun;
  held = p.held;
  keeps_tag = p.keeps_tag;
}

module _ (g h : Reading) (keys others : Keys) (old new : List (Simple ℕ)) (longer : Longer old new) (p : Position) (u : LevelTable)
    (k : IsPositionKept g keys old p) (a : AddsLevels p.state.table h others new u) where
  pub position_same : IsPositionRenewed old new (open_position p) (open_position (with_table p u))
  position_same r m of = record {
    state = of.state ∙ sym (state_stays old new longer (open_state p.state) (state_inside g keys old p.state k.state))
        ∙ ap (state_of new) (sym (state_grows g h keys others old new longer p.state (with_table p u).state k.state a refl refl refl));
    has_begun = of.has_begun;
    held = held_stays p.state.table u a.levels r old new longer k.state.kept.levels p.state.now p.held m.held k.state.now k.held of.held;
  }

module _ {A E : Type 0} (b d : Basis) (old new : List (Simple ℕ)) (p : Position) (u : LevelTable) (k : HoldsBy IsPositionKept b old p) where
  pub same_ok : (r : Result A E) → OnOk r (Longer old new) → OnOk r (Keeps (AddsLevels p.state.table) b d new u)
      → OnOk r (IsPositionRenewed old new (open_position p) (open_position (with_table p u)))
  same_ok (Ok x) longer a = position_same (reading_by b) (reading_by d) b.keys d.keys old new longer p u k a.right
  same_ok (Err f) longer a = tt

  -- whether strings are tested stays too
  pub tests_ok : (r : Result A E) → OnOk r (Keeps (AddsLevels p.state.table) b d new u) → OnOk r (tests_at (with_table p u) ≡ tests_at p)
  tests_ok (Ok x) a = tests_grow (levels_in p.state.table) (levels_in u) p.state.now.0 a.right.levels k.state.now
  tests_ok (Err f) a = tt

-- ---- what is told

-- at the mark of a position
pub mark_told : {E : Type 0} (g : Reading) (trees : List (Simple ℕ)) (p : Position) (k : Mark) (r : Result Bool E) → k ≡ mark_of p
    → IfOk r (λ told. (m : LevelMatcher) → IsMarkOf g trees p.state.table k m → (told ≡ true) ↔ EndMayCome g m)
    → IfOk r (λ told. (m : LevelMatcher) → IsPositionOf g trees (open_position p) m → (told ≡ true) ↔ EndMayCome g m)
mark_told g trees p k (Ok told) at ends = λ m of. ends m (subst (λ k. IsMarkOf g trees p.state.table k m) (sym at) (mark_is g trees p m of))
mark_told g trees p k (Err f) at ends = tt

pub come_tells : (g : Reading) (trees : List (Simple ℕ)) (p : Position) (line : ℕ) (told : Bool) (es : List Event) → HasCome g trees (open_position p) line es
    → ((m : LevelMatcher) → IsPositionOf g trees (open_position p) m → (told ≡ true) ↔ EndMayCome g m) → LeadToEnd g told es
come_tells g trees p line told es come ends =
    record { matcher = come.matcher; stands = come.stands; ends = ends come.matcher come.position }

pub going_tells : {E : Type 0} (g : Reading) (trees : List (Simple ℕ)) (p : Position) (line : ℕ) (r : Result Bool E)
    → IfOk r (λ told. (m : LevelMatcher) → IsPositionOf g trees (open_position p) m → (told ≡ true) ↔ EndMayCome g m)
    → IfOk r (λ told. (es : List Event) → HasCome g trees (open_position p) line es → LeadToEnd g told es)
going_tells g trees p line (Ok told) ends = λ es come. come_tells g trees p line told es come ends
going_tells g trees p line (Err f) ends = tt

-- at the mark of a position, in tables that have grown
pub mark_tells : (g : Reading) (keys : Keys) (old new : List (Simple ℕ)) (p : Position) (u : LevelTable) (k : Mark) (told : Bool)
    → IsPositionKept g keys old p → Longer old new → Grows (levels_in p.state.table) (levels_in u) → k ≡ mark_of p
    → ((m : LevelMatcher) → IsMarkOf g new u k m → (told ≡ true) ↔ EndMayCome g m)
    → (line : ℕ) (es : List Event) → HasCome g old (open_position p) line es → LeadToEnd g told es
mark_tells g keys old new p u k told kept longer grows at ends line es come =
    let is = mark_stays p.state.table u grows g old new longer kept.state.kept.levels (mark_of p) come.matcher (kept.state.now, kept.held)
    (mark_is g old p come.matcher come.position) in
    record {
      matcher = come.matcher;
      stands = come.stands;
      ends = ends come.matcher (subst (λ k. IsMarkOf g new u k come.matcher) (sym at) is);
    }
