-- What is left after an attribute, where alternatives are joined.
use Rattle.std.proofs.Common.{◌≡◌, ◌↔◌, ◌<◌, ◌+◌, ⊎_elim, All, Bor, List, [], ◌∷◌, ◌++◌, Some, ℕ, zero, suc, arith, get_or, length, refl}
use Rattle.std.proofs.Common.{slice_get, subst, sym, take}
use Rattle.std.proofs.lemmas.List.{get_or-map, length-map, take_more}
use Rattle.std.proofs.lemmas.List.Elements.{All-contains, Contains-append_left, Contains-push, Contains-push_cases}
use Rattle.rng_model.specs.simple.Tree.{Simple, choice, s_joined}
use Rattle.rng_model.specs.matching.Document.{Attribute, Item}
use Rattle.rng_model.specs.matching.GrammarMatching.{reading_of, Reading}
use Rattle.rng_model.specs.simple.Table.{Table}
use Rattle.rng_model.specs.declared.document.Attr.{Attr}
use Rattle.rng_deriv_laws.specs.plain.Restricted.{IsRestricted}
use Rattle.rng_deriv_laws.specs.plain.Taking.{Same, Takes}
use Rattle.rng_deriv_table.specs.views.Choices.{SomeTakes}
use Rattle.rng_deriv_table.specs.views.Node.{Node}
use Rattle.rng_deriv_table.specs.views.Node as node
use Rattle.rng_deriv_table.specs.views.PatternTable.{IsPatternTable, Longer}
use Rattle.rng_deriv_table.specs.views.Trees.{choice_over, tree_of}
use Rattle.rng_deriv_table.specs.declared.pattern.PatternNumber.{PatternNumber}
use Rattle.rng_deriv_table.proofs.Choices.{all_within, numbers, of_choice, only_one, takes_some}
use Rattle.rng_deriv_table.proofs.Trees.{Longer-refl, Longer-trans, tree_of-over_parts, tree_stays}
use Rattle.rng_deriv_table.proofs.WiderParts.{of_two}
use Rattle.rng_deriv_texts.specs.plain.After.{IsLeft}
use Rattle.rng_deriv_texts.specs.declared.first.First.TheVariants as firsts

-- the members of a choice are before it, and it is a choice of their trees
pub choice_there : (ns : List Node) (i : ℕ) (ms : List PatternNumber) → IsPatternTable ns → slice_get ns i ≡ Some (node.choice (numbers ms))
    → All (λ (m : PatternNumber). m.0 < i) ms × ((t : Table) → tree_of t ns i ≡ choice_over (tree_of t ns) (numbers ms))
choice_there ns i ms table found =
    let falls = table.falls i (node.choice (numbers ms)) found in (
      λ k d inside.
          let long : length (numbers ms) ≡ length ms = length-map ms (λ (m : PatternNumber). m.0) in
          subst (λ n. n < i) (get_or-map (λ (m : PatternNumber). m.0) ms k d d.0 inside) (falls.1 k d.0 (omega (arith, inside, long))),
      λ t. tree_of-over_parts t ns i (node.choice (numbers ms)) falls found,
    )

-- what takes what one of the members takes is a choice of them
pub choice_same : (u : Table) (ns : List Node) (ms : List PatternNumber) (whole : Simple ℕ) (g : Reading)
    → ((xs : List Attribute) (is : List Item) → Takes g whole xs is ↔ SomeTakes g (tree_of u ns) ms xs is)
    → Same g whole (choice_over (tree_of u ns) (numbers ms))
choice_same u ns ms whole g takes =
    let members : (xs : List Attribute) (is : List Item) → Takes g (choice_over (tree_of u ns) (numbers ms)) xs is ↔ SomeTakes g (tree_of u ns) ms xs is =
    takes_some g (tree_of u ns) ms (choice_over (tree_of u ns) (numbers ms)) (of_choice (tree_of u ns) ms) in
    record {
      to = λ xs is d. (members xs is).1 ((takes xs is).0 d);
      back = λ xs is d. (takes xs is).1 ((members xs is).0 d);
    }

restricted_sides : (p q : Simple ℕ) → IsRestricted (s_joined choice p q) → IsRestricted p × IsRestricted q
restricted_sides p q h = (record { repeats = h.repeats.0; texts = h.texts.0 }, record { repeats = h.repeats.1; texts = h.texts.1 })

-- the members of a choice obey the restrictions that it obeys
pub restricted_members : (f : ℕ → Simple ℕ) (ms : List PatternNumber) → IsRestricted (choice_over f (numbers ms))
    → All (λ (m : PatternNumber). IsRestricted (f m.0)) ms
restricted_members f [] h k d inside = absurd (omega (arith, inside))
restricted_members f (m ∷ []) h zero d inside = h
restricted_members f (m ∷ []) h (suc k) d inside = absurd (omega (arith, inside))
restricted_members f (m ∷ (n ∷ ms)) h zero d inside = (restricted_sides _ _ h).0
restricted_members f (m ∷ (n ∷ ms)) h (suc k) d inside = restricted_members f (n ∷ ms) (restricted_sides _ _ h).1 k d (omega (arith, inside))

-- ---- members joined one after the other

-- the pattern takes what one of the members takes, and obeys the restrictions that all of them obey
pub record AreJoined (old new : List Node) (ms : List PatternNumber) (whole : PatternNumber) : Type 0 where
  pub longer : Longer old new
  pub inside : whole.0 < length new
  pub matches : (t : Table) (g : Reading) (xs : List Attribute) (is : List Item) → Takes g (tree_of t new whole.0) xs is
      ↔ SomeTakes g (tree_of t old) ms xs is
  pub restricted : (t : Table) → All (λ (m : PatternNumber). IsRestricted (tree_of t old m.0)) ms → IsRestricted (tree_of t new whole.0)

pub first_joined : (old : List Node) (ms : List PatternNumber) (d : PatternNumber) → 0 < length ms → (get_or ms 0 d).0 < length old
    → AreJoined old old (take 1 ms) (get_or ms 0 d)
first_joined old ms d some below =
    let m = get_or ms 0 d in
    subst (λ ks. AreJoined old old ks m) (sym (take_more ms 0 d some)) (record {
      longer = Longer-refl old;
      inside = below;
      matches = λ t g xs is. (
        λ h. (m, Contains-push [] m, h),
        λ h. subst (λ (k : PatternNumber). Takes g (tree_of t old k.0) xs is) (sym (only_one m h.0 h.1)) h.2,
      );
      restricted = λ t all. All-contains (λ (k : PatternNumber). IsRestricted (tree_of t old k.0)) (m ∷ []) m all (Contains-push [] m);
    })

pub all_of_two : (P : PatternNumber → Type 0) (m n : PatternNumber) → P m → P n → All P (m ∷ n ∷ [])
all_of_two P m n p q zero d h = p
all_of_two P m n p q (suc zero) d h = q
all_of_two P m n p q (suc (suc k)) d h = absurd (omega (arith, h))

pub next_joined : (old mid new : List Node) (ms : List PatternNumber) (i : ℕ) (d whole next : PatternNumber) → i < length ms
    → (get_or ms i d).0 < length old → AreJoined old mid (take i ms) whole → Longer mid new → next.0 < length new
    → ((t : Table) (g : Reading) (xs : List Attribute) (is : List Item) → Takes g (tree_of t new next.0) xs is
    ↔ SomeTakes g (tree_of t mid) (whole ∷ get_or ms i d ∷ []) xs is)
    → ((t : Table) → All (λ (m : PatternNumber). IsRestricted (tree_of t mid m.0)) (whole ∷ get_or ms i d ∷ []) → IsRestricted (tree_of t new next.0))
    → AreJoined old new (take (i + 1) ms) next
next_joined old mid new ms i d whole next within below h longer inside matches restricted =
    let m = get_or ms i d in
    let front = take i ms in
    let stays : (t : Table) → tree_of t mid m.0 ≡ tree_of t old m.0 = λ t. tree_stays t old mid m.0 h.longer below in
    subst (λ ks. AreJoined old new ks next) (sym (take_more ms i d within)) (record {
      longer = Longer-trans old mid new h.longer longer;
      inside = inside;
      matches = λ t g xs is. (
        λ k. ⊎_elim
            (λ w. let s = (h.matches t g xs is).0 w in (s.0, Contains-append_left front (m ∷ []) s.0 s.1, s.2))
            (λ o. (m, Contains-push front m, subst (λ p. Takes g p xs is) (stays t) o))
            (of_two (λ (k : PatternNumber). Takes g (tree_of t mid k.0) xs is) whole m ((matches t g xs is).0 k)),
        λ s. (matches t g xs is).1 (⊎_elim
            (λ c. (whole, (0, omega arith, refl), (h.matches t g xs is).1 (s.0, c, s.2)))
            (λ e. (
              m,
              (1, omega arith, refl),
              subst (λ p. Takes g p xs is) (sym (stays t)) (subst (λ (k : PatternNumber). Takes g (tree_of t old k.0) xs is) (sym e) s.2),
            ))
            (Contains-push_cases front m s.0 s.1)),
      );
      restricted = λ t all.
          let Old : PatternNumber → Type 0 = λ k. IsRestricted (tree_of t old k.0) in
          restricted t (all_of_two (λ (k : PatternNumber). IsRestricted (tree_of t mid k.0)) whole m
          (h.restricted t (all_within Old (front ++ m ∷ []) front (λ k c. Contains-append_left front (m ∷ []) k c) all))
          (subst IsRestricted (sym (stays t)) (All-contains Old (front ++ m ∷ []) m all (Contains-push front m))));
    })

-- what is left is also what takes the same, if it is restricted where the first is
pub left_joined : (t : Table) (old mid new : List Node) (a : Bor Attr) (number rest made : PatternNumber) → IsLeft t old mid (firsts.Attribute a) number rest
    → made.0 < length new → Same (reading_of t) (tree_of t new made.0) (tree_of t mid rest.0)
    → (IsRestricted (tree_of t mid rest.0) → IsRestricted (tree_of t new made.0)) → IsLeft t old new (firsts.Attribute a) number made
left_joined t old mid new a number rest made left inside same restricted = record {
  inside = inside;
  law = λ o xs ns d. let l = left.law o xs ns d in (λ h. l.0 (same.to xs ns h), λ h. same.back xs ns (l.1 h));
  kept = λ o. restricted (left.kept o);
}
