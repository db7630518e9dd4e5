-- The state at each tag, in a table that grows.
use Rattle.std.proofs.Common.{◌≡◌, ◌↔◌, true, ℕ, ◌<◌, List, [], ◌∷◌, ◌++◌, length, map, fold, refl, sym, ap, ◌∙◌, subst, All, inr, Bool}
use Rattle.std.specs.List.{AllZip}
use Rattle.std.proofs.lemmas.List.Elements.{All-weaker, All-push, All-head, All-tail, All-contains, Contains-push}
use Rattle.rng_model.specs.names.Names.{Name}
use Rattle.rng_model.specs.simple.Tree.{Simple}
use Rattle.rng_model.specs.matching.Document.{Attribute}
use Rattle.rng_model.specs.matching.GrammarMatching.{Reading}
use Rattle.rng_deriv_laws.specs.plain.LevelStates as level
use Rattle.rng_deriv_laws.specs.plain.LevelStates.{IsAfterTag, AreOpened, StartsLevel, LevelState, EndsLevel, IsAfterText, TakesString}
use Rattle.rng_deriv_table.specs.declared.pattern.PatternNumber.{PatternNumber}
use Rattle.rng_deriv_events.specs.views.Numbers.{Longer, IsInside, tree_of, AddsEach}
use Rattle.rng_deriv_events.specs.views.Levels.{link_of, IsLinkWithin, IsRestWithin, AddsOpened, AddsEnded}
use Rattle.rng_deriv_events.specs.views.States.{OpenLevel, OpenState, with_level, levels_of, state_of, IsLevelInside, IsStateInside, AddsState, EndsBy}
use Rattle.rng_deriv_events.specs.views.States.{EndsLevelBy}
use Rattle.rng_deriv_events.proofs.Numbers.{longer_through, inside_stays, trees_stay, all_before}
use Rattle.rng_deriv_events.proofs.StartedElements.{links_stay}

pub level_stays : (old new : List (Simple ℕ)) → Longer old new → (l : OpenLevel) → IsLevelInside old l → IsLevelInside new l
level_stays old new longer l inside =
    All-weaker (IsRestWithin old l.around) (IsRestWithin new l.around) (λ k w. (w.0, inside_stays old new longer k.rest w.1)) l.links inside

folds_stay : (old new : List (Simple ℕ)) → Longer old new → (acc : List (List level.Link)) (ls : List OpenLevel) → All (IsLevelInside old) ls
    → fold (with_level new) acc ls ≡ fold (with_level old) acc ls
folds_stay old new longer acc [] all = refl
folds_stay old new longer acc (l ∷ ls) all =
    let rests = All-weaker (IsRestWithin old l.around) (λ k. IsInside old k.rest) (λ k w. w.1) l.links (All-head (IsLevelInside old) l ls all) in
    ap (λ k. fold (with_level new) (k ∷ acc) ls) (links_stay old new longer l.links rests)
    ∙ folds_stay old new longer (map (link_of old) l.links ∷ acc) ls (All-tail (IsLevelInside old) l ls all)

pub levels_stay : (old new : List (Simple ℕ)) → Longer old new → (ls : List OpenLevel) → All (IsLevelInside old) ls → levels_of new ls ≡ levels_of old ls
levels_stay old new longer ls all = folds_stay old new longer [] ls all

folds_push : (trees : List (Simple ℕ)) (acc : List (List level.Link)) (ls : List OpenLevel) (l : OpenLevel)
    → fold (with_level trees) acc (ls ++ l ∷ []) ≡ map (link_of trees) l.links ∷ fold (with_level trees) acc ls
folds_push trees acc [] l = refl
folds_push trees acc (k ∷ ls) l = folds_push trees (map (link_of trees) k.links ∷ acc) ls l

pub levels_push : (trees : List (Simple ℕ)) (ls : List OpenLevel) (l : OpenLevel) →
    levels_of trees (ls ++ l ∷ []) ≡ map (link_of trees) l.links ∷ levels_of trees ls
levels_push trees ls l = folds_push trees [] ls l

-- ---- a start tag

module _ (g : Reading) (q : Name) (xs : List Attribute) (old mid new : List (Simple ℕ)) (s n : OpenState) (bodies : List PatternNumber) (l : OpenLevel)
    (inside : IsStateInside old s) (o : AddsOpened g q old mid s.now bodies l.links)
    (e : AddsEach (IsAfterTag g xs) mid new bodies n.now) (around : l.around ≡ length s.now)
    (pushed : n.levels ≡ s.levels ++ l ∷ []) where
  longer : Longer old new
  longer = longer_through old mid new o.longer e.longer

  opened : AreOpened g q (map (tree_of old) s.now) (map (tree_of new) bodies) (map (link_of new) l.links)
  opened =
      let rests = All-weaker (IsLinkWithin mid (length bodies) (length s.now)) (λ k. IsInside mid k.rest) (λ k w. w.2) l.links o.within in
      subst (λ os. AreOpened g q os (map (tree_of new) bodies) (map (link_of new) l.links)) (trees_stay old mid o.longer s.now inside.now)
      (subst (λ bs. AreOpened g q (map (tree_of mid) s.now) bs (map (link_of new) l.links)) (sym (trees_stay mid new e.longer bodies o.inside))
      (subst (λ ls. AreOpened g q (map (tree_of mid) s.now) (map (tree_of mid) bodies) ls) (sym (links_stay mid new e.longer l.links rests))
      o.opened))

  level_inside : IsLevelInside new l
  level_inside =
      All-weaker (IsLinkWithin mid (length bodies) (length s.now)) (IsRestWithin new l.around)
      (λ k w. (subst (λ a. k.outer < a) (sym around) w.1, inside_stays mid new e.longer k.rest w.2)) l.links o.within

  all_inside : All (IsLevelInside new) n.levels
  all_inside =
      subst (All (IsLevelInside new)) (sym pushed)
      (All-push (IsLevelInside new) s.levels l
      (All-weaker (IsLevelInside old) (IsLevelInside new) (level_stays old new longer) s.levels inside.levels) level_inside)

  pub enters : AddsState (StartsLevel g q xs (state_of old s)) old new n
  enters = record {
    longer = longer;
    inside = record { now = e.inside; levels = all_inside };
    is = record {
      bodies = map (tree_of new) bodies;
      links = map (link_of new) l.links;
      opened = opened;
      entered = e.each;
      levels = ap (levels_of new) pushed ∙ levels_push new s.levels l
          ∙ ap (λ ls. map (link_of new) l.links ∷ ls) (levels_stay old new longer s.levels inside.levels);
    };
  }

-- ---- an end tag

pub ends : (g : Reading) (good : List Bool) (old new : List (Simple ℕ)) (s n : OpenState) (l : OpenLevel) → IsStateInside old s →
    s.levels ≡ n.levels ++ l ∷ [] →
    AddsEnded g good l.around old new l.links n.now → AddsState (EndsBy g good (state_of old s)) old new n
ends g good old new s n l inside popped e =
    let all = subst (All (IsLevelInside old)) popped inside.levels in
    let outer = all_before (IsLevelInside old) n.levels l all in
    let inner = All-weaker (IsRestWithin old l.around) (λ k. IsInside old k.rest) (λ k w. w.1) l.links (All-contains (IsLevelInside old) _ l all
    (Contains-push n.levels l)) in
    record {
      longer = e.longer;
      inside = record { now = e.inside; levels = All-weaker (IsLevelInside old) (IsLevelInside new) (level_stays old new e.longer) n.levels outer };
      is = inr (record {
        links = map (link_of new) l.links;
        levels = ap (levels_of old) popped ∙ levels_push old n.levels l
            ∙ ap (λ k. k ∷ levels_of old n.levels) (sym (links_stay old new e.longer l.links inner))
            ∙ ap (λ ls. map (link_of new) l.links ∷ ls) (sym (levels_stay old new e.longer n.levels outer));
        ended = e.ended;
      });
    }

-- given the tests of the alternatives, it is the end of a level
pub ends_level : (g : Reading) (MayEnd : Simple ℕ → Type 0) (good : List Bool) (m n : LevelState) → AllZip (λ p b. (b ≡ true) ↔ MayEnd p) m.now good →
    EndsLevelBy g good m n → EndsLevel g MayEnd m n
ends_level g MayEnd good m n which e = record { links = e.links; good = good; levels = e.levels; which = which; ended = e.ended }

-- ---- a string beside an element

pub takes_string : (g : Reading) (s : List ℕ) (old new : List (Simple ℕ)) (m n : OpenState) → IsStateInside old m →
    AddsEach (IsAfterText g s) old new m.now n.now → n.levels ≡ m.levels → AddsState (TakesString g s (state_of old m)) old new n
takes_string g s old new m n inside a same = record {
  longer = a.longer;
  inside = record {
    now = a.inside;
    levels = subst (All (IsLevelInside new)) (sym same)
        (All-weaker (IsLevelInside old) (IsLevelInside new) (level_stays old new a.longer) m.levels inside.levels);
  };
  is = record {
    now = subst (λ ps. AllZip (IsAfterText g s) ps (map (tree_of new) n.now)) (trees_stay old new a.longer m.now inside.now) a.each;
    levels = ap (levels_of new) same ∙ levels_stay old new a.longer m.levels inside.levels;
  };
}
