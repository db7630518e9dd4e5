-- The result of each task of a search.
use Rattle.std.proofs.Common.{◌≡◌, refl, ap, sym, ◌∙◌, subst, ℕ, ◌+◌, ◌<◌, List, [], ◌∷◌, ◌++◌, length, map, set, slice_get, slice_index_or, Option}
use Rattle.std.proofs.Common.{Some, None, length-append, arith}
use Rattle.std.proofs.lemmas.List.{length-map}
use Rattle.rng_model.proofs.Places.{at_place_of_end}
use Rattle.rng_simple.specs.declared.graph.order.Mark.{Mark}
use Rattle.rng_simple.specs.declared.graph.order.Mark.TheVariants as mark
use Rattle.rng_simple.specs.declared.graph.order.Task.{Task}
use Rattle.rng_simple.specs.declared.graph.order.Task.TheVariants as task
use Rattle.rng_simple.specs.plain.Search.{AreMentionsBelow, number_of, IsSearch, IsStep, goes_on, found_loop, weight}
use Rattle.rng_simple.proofs.NumberedGraphs.DepthFirstSearch.{enter_done, enter_open, enter_new, leave, weight_open, weight_done}

module _ (all : List (List ℕ)) (marks : List Mark) (rest : List Task) (order : List ℕ) (t : Task) (s : IsSearch all marks (rest ++ t ∷ []) order) where
  pub number_below : number_of t < length all
  number_below = s.tasks_below (length rest) t (at_place_of_end rest t (length rest) refl)

  pub number_marked : number_of t < length marks
  number_marked = omega (arith, s.tasks_below (length rest) t (at_place_of_end rest t (length rest) refl), s.long)

module _ (all : List (List ℕ)) (marks : List Mark) (rest : List Task) (order : List ℕ) (t : Task) (j : ℕ)
    (s : IsSearch all marks (rest ++ t ∷ []) order) where
  pub step_new : t ≡ task.Enter j → slice_get marks j ≡ Some mark.New → AreMentionsBelow all → (mentions : List ℕ) → slice_index_or all j [] ≡ mentions
      → (tasks : List Task) → tasks ≡ (rest ++ task.Leave j ∷ []) ++ map task.Enter mentions →
      IsStep all (weight marks all + length rest + 1) (set marks j mark.Open) tasks order None
  step_new e new below mentions m tasks f =
      let here : IsSearch all marks (rest ++ task.Enter j ∷ []) order = subst (λ u. IsSearch all marks (rest ++ u ∷ []) order) e s in
      let same : tasks ≡ (rest ++ task.Leave j ∷ []) ++ map task.Enter (slice_index_or all j []) = f
      ∙ ap (λ xs. (rest ++ task.Leave j ∷ []) ++ map task.Enter xs) (sym m) in
      let long : length tasks ≡ length rest + 1 + length (slice_index_or all j []) =
      omega (
        arith,
        ap length same,
        length-append (rest ++ task.Leave j ∷ []) (map task.Enter (slice_index_or all j [])),
        length-append rest (task.Leave j ∷ []),
        length-map (slice_index_or all j []) task.Enter,
      ) in
      goes_on (subst (λ xs. IsSearch all (set marks j mark.Open) xs order) (sym same) (enter_new all marks rest order j here new below))
      (omega (arith, long, weight_open marks all j new (subst (λ u. number_of u < length all) e (number_below all marks rest order t s))))

  pub step_open : t ≡ task.Enter j → slice_get marks j ≡ Some mark.Open → IsStep all (weight marks all + length rest + 1) marks rest order (Some j)
  step_open e o =
      let here : IsSearch all marks (rest ++ task.Enter j ∷ []) order = subst (λ u. IsSearch all marks (rest ++ u ∷ []) order) e s in
      found_loop (subst (λ u. number_of u < length all) e (number_below all marks rest order t s)) (enter_open all marks rest order j here o)

  pub step_done : t ≡ task.Enter j → slice_get marks j ≡ Some mark.Done → IsStep all (weight marks all + length rest + 1) marks rest order None
  step_done e d =
      let here : IsSearch all marks (rest ++ task.Enter j ∷ []) order = subst (λ u. IsSearch all marks (rest ++ u ∷ []) order) e s in
      goes_on (enter_done all marks rest order j here d) (omega arith)

  pub step_leave : t ≡ task.Leave j → (after : List ℕ) → after ≡ order ++ j ∷ []
      → IsStep all (weight marks all + length rest + 1) (set marks j mark.Done) rest after None
  step_leave e after f =
      let here : IsSearch all marks (rest ++ task.Leave j ∷ []) order = subst (λ u. IsSearch all marks (rest ++ u ∷ []) order) e s in
      subst (λ xs. IsStep all (weight marks all + length rest + 1) (set marks j mark.Done) rest xs None) (sym f)
      (goes_on (leave all marks rest order j here) (omega (arith, weight_done marks all j)))

-- a step that finds no loop
pub step_goes : {all : List (List ℕ)} {before : ℕ} {marks : List Mark} {tasks : List Task} {order : List ℕ} {r : Option ℕ}
    → IsStep all before marks tasks order r → r ≡ None → IsSearch all marks tasks order
step_goes (goes_on s h) e = s
step_goes (found_loop h w) e = absurd (let z = e in cc)

pub step_nears : {all : List (List ℕ)} {before : ℕ} {marks : List Mark} {tasks : List Task} {order : List ℕ} {r : Option ℕ}
    → IsStep all before marks tasks order r → r ≡ None → weight marks all + length tasks < before
step_nears (goes_on s h) e = h
step_nears (found_loop h w) e = absurd (let z = e in cc)
