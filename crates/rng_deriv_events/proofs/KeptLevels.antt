-- What is kept of levels stays right when patterns, levels and steps are added.
use Rattle.std.proofs.Common.{◌≡◌, ◌⊎◌, inl, inr, ◌∙◌, ℕ, ◌<◌, zero, suc, List, [], ◌∷◌, ◌++◌, length, map, refl, sym, ap, subst, All, arith}
use Rattle.std.proofs.Common.{Bool, Some, slice_get, append_assoc}
use Rattle.std.specs.Option.{IfSome}
use Rattle.std.specs.List.{AllZip, list_all, list_any}
use Rattle.std.proofs.lemmas.Option.{none-some, same_Some, slice_get_within}
use Rattle.std.proofs.lemmas.List.{append-nil, length-append}
use Rattle.std.proofs.lemmas.List.Elements.{All-head, All-nil, All-push, All-tail, All-weaker}
use Rattle.rng_model.proofs.Places.{at_end, in_front, front_stays, all_at as all_there}
use Rattle.rng_names.specs.plain.Keys.{Keys, key_of}
use Rattle.rng_model.specs.names.Names.{Name}
use Rattle.rng_model.specs.simple.Tree.{Simple}
use Rattle.rng_model.specs.matching.GrammarMatching.{Reading}
use Rattle.rng_deriv_laws.specs.plain.Derivatives.{has_data, is_not_allowed, is_nullable}
use Rattle.rng_deriv_laws.specs.plain.LevelStates.{AreEnded, AreOpened, IsAfterTag, IsAfterText}
use Rattle.rng_deriv_table.specs.declared.pattern.PatternNumber.{PatternNumber}
use Rattle.rng_deriv_events.specs.plain.Bits.{bits_of}
use Rattle.rng_deriv_events.specs.views.LevelTable.{IsEndAt, IsKnownAt, closed_in, ends_in, levels_in, numbers_in, numbers_or_none, sample_in, sample_of, tests_in, tests_or_true}
use Rattle.rng_deriv_events.specs.views.LevelTable.{sampled_in, steps_in}
use Rattle.rng_deriv_events.specs.declared.level_table.level.Level.{Level}
use Rattle.rng_deriv_events.specs.declared.level_table.level.LevelNumber.{LevelNumber}
use Rattle.rng_deriv_events.specs.declared.level_table.table.LevelTable.{LevelTable}
use Rattle.rng_deriv_events.specs.declared.level_table.link.Link.{Link}
use Rattle.rng_deriv_events.specs.declared.level_table.step.End.{End}
use Rattle.rng_deriv_events.specs.declared.level_table.step.Step.{Step}
use Rattle.rng_deriv_events.specs.views.Basis.{Basis, HoldsBy, Keeps, reading_by}
use Rattle.rng_deriv_events.specs.views.KeptLevels.{AddsAfter, AddsEndedLevel, AddsLevels, AreKept, Grows, IsAfterLevel, IsEndKept, IsLevelKept, IsStepKept}
use Rattle.rng_deriv_events.specs.views.KeptLevels.{nullable_in}
use Rattle.rng_deriv_events.specs.views.Levels.{AddsEnded, AddsOpened, IsLinkWithin, IsRestWithin, link_of}
use Rattle.rng_deriv_events.specs.views.Numbers.{AddsEach, IsInside, Longer, tree_of}
use Rattle.rng_deriv_events.proofs.Numbers.{all_inside_stay, inside_stays, longer_same, trees_stay}
use Rattle.rng_deriv_events.proofs.LevelTests.{all_mapped, ended_as}
use Rattle.rng_deriv_events.proofs.StartedElements.{links_stay}

-- ---- lists that grow

pub grows_same : {A : Type 0} (xs : List A) → Grows xs xs
grows_same xs = ([], sym (append-nil xs))

pub grows_through : {A : Type 0} (xs ys zs : List A) → Grows xs ys → Grows ys zs → Grows xs zs
grows_through xs ys zs g h = (g.0 ++ h.0, h.1 ∙ ap (λ l. l ++ h.0) g.1 ∙ append_assoc xs g.0 h.0)

pub grows_as : {A : Type 0} (xs ys : List A) → ys ≡ xs → Grows xs ys
grows_as xs ys e = ([], e ∙ sym (append-nil xs))

pub below_grows : {A : Type 0} (xs ys : List A) (n : ℕ) → Grows xs ys → n < length xs → n < length ys
below_grows xs ys n g lt = let e = ap length g.1 in let long = length-append xs g.0 in omega (arith, lt, e, long)

pub get_grows : {A : Type 0} (xs ys : List A) (i : ℕ) → Grows xs ys → i < length xs → slice_get ys i ≡ slice_get xs i
get_grows xs ys i g lt = ap (λ l. slice_get l i) g.1 ∙ front_stays xs g.0 i lt

-- the item at a place, and what holds of it
pub all_at : {A : Type 0} (P : A → Type 0) (xs : List A) (i : ℕ) → All P xs → i < length xs → (x : A) × (slice_get xs i ≡ Some x) × P x
all_at P [] i all lt = absurd (omega (arith, lt))
all_at P (x ∷ xs) zero all lt = (x, refl, All-head P x xs all)
all_at P (x ∷ xs) (suc i) all lt = all_at P xs i (All-tail P x xs all) (omega (arith, lt))

pub numbers_grow : (old new : List Level) (n : ℕ) → Grows old new → n < length old → numbers_in new n ≡ numbers_in old n
numbers_grow old new n g lt = ap numbers_or_none (get_grows old new n g lt)

pub tests_grow : (old new : List Level) (n : ℕ) → Grows old new → n < length old → tests_in new n ≡ tests_in old n
tests_grow old new n g lt = ap tests_or_true (get_grows old new n g lt)

pub sample_grows : (old new : List Level) (n : ℕ) → Grows old new → n < length old → sample_in new n ≡ sample_in old n
sample_grows old new n g lt = ap sample_of (get_grows old new n g lt)

pub numbers_inside : (trees : List (Simple ℕ)) (levels : List Level) (n : ℕ) → All (IsLevelKept trees) levels → n < length levels
    → All (IsInside trees) (numbers_in levels n)
numbers_inside trees levels n all lt =
    let l = all_at (IsLevelKept trees) levels n all lt in
    subst (λ o. All (IsInside trees) (numbers_or_none o)) (sym l.1) l.2.inside

-- ---- patterns that are added

module _ (old new : List (Simple ℕ)) (longer : Longer old new) where
  pub level_stays : (l : Level) → IsLevelKept old l → IsLevelKept new l
  level_stays l k =
      let ps = l.numbers.items in
      let same = trees_stay old new longer ps k.inside in
      record {
        inside = all_inside_stay old new longer ps k.inside;
        good = subst (λ ts. IfSome l.good (λ bits. bits ≡ bits_of (map is_nullable ts))) (sym same) k.good;
        dead = k.dead ∙ ap (list_all is_not_allowed) (sym same);
        tests = k.tests ∙ ap (list_any has_data) (sym same);
      }

  pub each_stays : (Is : Simple ℕ → Simple ℕ → Type 0) (ps qs : List PatternNumber) → All (IsInside old) ps → AddsEach Is old old ps qs
      → AddsEach Is new new ps qs
  each_stays Is ps qs inside a = record {
    longer = longer_same new;
    inside = all_inside_stay old new longer qs a.inside;
    each = subst (λ xs. AllZip Is xs (map (tree_of new) qs)) (sym (trees_stay old new longer ps inside))
        (subst (AllZip Is (map (tree_of old) ps)) (sym (trees_stay old new longer qs a.inside)) a.each);
  }

  pub rests_stay : (around : ℕ) (links : List Link) → All (IsRestWithin old around) links → All (IsRestWithin new around) links
  rests_stay around links all = All-weaker (IsRestWithin old around) (IsRestWithin new around) (λ k w. (w.0, inside_stays old new longer k.rest w.1)) links all

  links_same : (around : ℕ) (links : List Link) → All (IsRestWithin old around) links → map (link_of new) links ≡ map (link_of old) links
  links_same around links all =
      links_stay old new longer links (All-weaker (IsRestWithin old around) (λ k. IsInside old k.rest) (λ k w. w.1) links all)

  pub opened_stays : (g : Reading) (q : Name) (outside bodies : List PatternNumber) (links : List Link) → All (IsInside old) outside
      → AddsOpened g q old old outside bodies links → AddsOpened g q new new outside bodies links
  opened_stays g q outside bodies links inside o =
      let Within : Link → Type 0 = IsLinkWithin old (length bodies) (length outside) in
      let rests = All-weaker Within (λ k. IsInside old k.rest) (λ k w. w.2) links o.within in
      record {
        longer = longer_same new;
        inside = all_inside_stay old new longer bodies o.inside;
        within = All-weaker Within (IsLinkWithin new (length bodies) (length outside)) (λ k w. (w.0, w.1, inside_stays old new longer k.rest w.2)) links
            o.within;
        opened = subst (λ os. AreOpened g q os (map (tree_of new) bodies) (map (link_of new) links)) (sym (trees_stay old new longer outside inside))
            (subst (λ bs. AreOpened g q (map (tree_of old) outside) bs (map (link_of new) links)) (sym (trees_stay old new longer bodies o.inside))
            (subst (AreOpened g q (map (tree_of old) outside) (map (tree_of old) bodies)) (sym (links_stay old new longer links rests)) o.opened));
      }

  pub ended_stays : (g : Reading) (good : List Bool) (around : ℕ) (links : List Link) (outside : List PatternNumber) → All (IsRestWithin old around) links
      → AddsEnded g good around old old links outside → AddsEnded g good around new new links outside
  ended_stays g good around links outside all e = record {
    longer = longer_same new;
    inside = all_inside_stay old new longer outside e.inside;
    count = e.count;
    ended = subst (λ ls. AreEnded g good ls (map (tree_of new) outside)) (sym (links_same around links all))
        (subst (AreEnded g good (map (link_of old) links)) (sym (trees_stay old new longer outside e.inside)) e.ended);
  }

  -- ---- and levels

  module _ (levels more : List Level) (grown : Grows levels more) (insides : All (IsLevelKept old) levels) where
    pub after_stays : (Is : Simple ℕ → Simple ℕ → Type 0) (n : ℕ) (m : LevelNumber) → IsAfterLevel Is old levels n m → IsAfterLevel Is new more n m
    after_stays Is n m a =
        let first = numbers_grow levels more n grown a.from in
        let second = numbers_grow levels more m.0 grown a.to in
        record {
          from = below_grows levels more n grown a.from;
          to = below_grows levels more m.0 grown a.to;
          after = subst (λ ps. AddsEach Is new new ps (numbers_in more m.0)) (sym first)
              (subst (AddsEach Is new new (numbers_in levels n)) (sym second)
              (each_stays Is (numbers_in levels n) (numbers_in levels m.0) (numbers_inside old levels n insides a.from) a.after));
        }

    pub step_stays : (g : Reading) (keys : Keys) (s : Step) → IsStepKept g keys old levels s → IsStepKept g keys new more s
    step_stays g keys s k =
        let first = numbers_grow levels more s.from.0 grown k.from in
        let second = numbers_grow levels more s.child.0 grown k.child in
        record {
          from = below_grows levels more s.from.0 grown k.from;
          child = below_grows levels more s.child.0 grown k.child;
          around = k.around ∙ ap length (sym first);
          links = rests_stay s.around s.links.items k.links;
          opened = λ q e. subst (λ ps. AddsOpened g q new new ps (numbers_in more s.child.0) s.links.items) (sym first)
              (subst (λ ps. AddsOpened g q new new (numbers_in levels s.from.0) ps s.links.items) (sym second)
              (opened_stays g q (numbers_in levels s.from.0) (numbers_in levels s.child.0) s.links.items
              (numbers_inside old levels s.from.0 insides k.from) (k.opened q e)));
        }

    pub end_stays : (g : Reading) (keys : Keys) (steps behind : List Step) (n : ℕ) (e : End) → Grows steps behind → All (IsStepKept g keys old levels) steps
        → IsEndKept g old levels steps n e → IsEndKept g new more behind n e
    end_stays g keys steps behind n e taken all k = record {
      step = k.step;
      at = subst (λ ss. slice_get ss n ≡ Some k.step) (sym taken.1) (in_front steps taken.0 n k.step k.at);
      outside = below_grows levels more e.outside.0 grown k.outside;
      ended = λ good bits. subst (AddsEnded g good k.step.around new new k.step.links.items) (sym (numbers_grow levels more e.outside.0 grown k.outside))
          (ended_stays g good k.step.around k.step.links.items (numbers_in levels e.outside.0)
          (all_there (IsStepKept g keys old levels) steps n k.step all k.at).links (k.ended good bits));
    }

-- ---- what was computed, as it is kept

pub kept_after : (Is : Simple ℕ → Simple ℕ → Type 0) (old new : List (Simple ℕ)) (t u : LevelTable) (n : ℕ) (m : LevelNumber) → n < length (levels_in t)
    → Grows (levels_in t) (levels_in u) → AddsAfter Is old new (numbers_in (levels_in t) n) u m → IsAfterLevel Is new (levels_in u) n m
kept_after Is old new t u n m lt grown a = record {
  from = below_grows (levels_in t) (levels_in u) n grown lt;
  to = a.there;
  after = subst (λ ps. AddsEach Is new new ps (numbers_in (levels_in u) m.0)) (sym (numbers_grow (levels_in t) (levels_in u) n grown lt))
      (record { longer = longer_same new; inside = a.after.inside; each = a.after.each });
}

-- what is kept, as it is found
pub found_after : (Is : Simple ℕ → Simple ℕ → Type 0) (trees : List (Simple ℕ)) (t : LevelTable) (n : ℕ) (m : LevelNumber)
    → IsAfterLevel Is trees (levels_in t) n m → AddsAfter Is trees trees (numbers_in (levels_in t) n) t m
found_after Is trees t n m a = record { there = a.to; after = a.after }

-- the level at the end of a table
pub last_level : (old new : List Level) (l : Level) (n : ℕ) → n ≡ length old → new ≡ old ++ l ∷ [] → (n < length new) × (numbers_in new n ≡ l.numbers.items)
last_level old new l n is pushed =
    let at : slice_get new n ≡ Some l = ap (slice_get new) is ∙ ap (λ ls. slice_get ls (length old)) pushed ∙ at_end old l in
    (slice_get_within new n l at, ap numbers_or_none at)

pub last_step : (old new : List Step) (s : Step) (n : ℕ) → n ≡ length old → new ≡ old ++ s ∷ [] → slice_get new n ≡ Some s
last_step old new s n is pushed = ap (slice_get new) is ∙ ap (λ ls. slice_get ls (length old)) pushed ∙ at_end old s

-- ---- whole tables

-- what is kept stays right, in a table that has grown by levels and steps that are right
pub kept_grown : (g : Reading) (keys : Keys) (old new : List (Simple ℕ)) (t u : LevelTable) → Longer old new → AreKept g keys old t
    → Grows (levels_in t) (levels_in u) → Grows (steps_in t) (steps_in u) → All (IsLevelKept new) (levels_in u)
    → All (IsStepKept g keys new (levels_in u)) (steps_in u) → closed_in u ≡ closed_in t → sampled_in u ≡ sampled_in t → ends_in u ≡ ends_in t
    → AreKept g keys new u
kept_grown g keys old new t u longer k levels steps all every closed sampled ends = record {
  levels = all;
  steps = every;
  closed = λ n m h. after_stays old new longer (levels_in t) (levels_in u) levels k.levels (IsAfterTag g []) n m
      (k.closed n m (subst (λ ks. IsKnownAt ks n m) closed h));
  sampled = λ n m h.
      let was = k.sampled n m (subst (λ ks. IsKnownAt ks n m) sampled h) in
      subst (λ s. IsAfterLevel (IsAfterText g s) new (levels_in u) n m) (sym (sample_grows (levels_in t) (levels_in u) n levels was.from))
      (after_stays old new longer (levels_in t) (levels_in u) levels k.levels (IsAfterText g (sample_in (levels_in t) n)) n m was);
  ends = λ n e h. end_stays old new longer (levels_in t) (levels_in u) levels k.levels g keys (steps_in t) (steps_in u) n e steps k.steps
      (k.ends n e (subst (λ es. IsEndAt es n e) ends h));
}

-- in a table of patterns that has grown
pub kept_longer : (g : Reading) (keys : Keys) (old new : List (Simple ℕ)) (t : LevelTable) → Longer old new → AreKept g keys old t → AreKept g keys new t
kept_longer g keys old new t longer k =
    kept_grown g keys old new t t longer k (grows_same (levels_in t)) (grows_same (steps_in t))
    (All-weaker (IsLevelKept old) (IsLevelKept new) (level_stays old new longer) (levels_in t) k.levels)
    (All-weaker (IsStepKept g keys old (levels_in t)) (IsStepKept g keys new (levels_in t))
    (step_stays old new longer (levels_in t) (levels_in t) (grows_same (levels_in t)) k.levels g keys) (steps_in t) k.steps)
    refl refl refl

-- the same, for derivatives that have changed
pub kept_on : (b d : Basis) (old new : List (Simple ℕ)) (t : LevelTable) → d ≡ b → Longer old new → HoldsBy AreKept b old t → HoldsBy AreKept d new t
kept_on b d old new t basis longer k =
    subst (λ b. HoldsBy AreKept b new t) (sym basis) (kept_longer (reading_by b) b.keys old new t longer k)

pub adds_same : (g : Reading) (keys : Keys) (trees : List (Simple ℕ)) (t : LevelTable) → AreKept g keys trees t → AddsLevels t g keys trees t
adds_same g keys trees t k = record { kept = k; levels = grows_same (levels_in t); steps = grows_same (steps_in t) }

-- nothing has changed
pub keeps_same : (b : Basis) (trees : List (Simple ℕ)) (t : LevelTable) → HoldsBy AreKept b trees t → Keeps (AddsLevels t) b b trees t
keeps_same b trees t k = record { basis = refl; right = adds_same (reading_by b) b.keys trees t k }

pub adds_through : (g h : Reading) (keys others : Keys) (mid new : List (Simple ℕ)) (a b c : LevelTable) → AddsLevels a g keys mid b
    → AddsLevels b h others new c → AddsLevels a h others new c
adds_through g h keys others mid new a b c first second = record {
  kept = second.kept;
  levels = grows_through (levels_in a) (levels_in b) (levels_in c) first.levels second.levels;
  steps = grows_through (steps_in a) (steps_in b) (steps_in c) first.steps second.steps;
}

module _ (g : Reading) (keys : Keys) (trees : List (Simple ℕ)) where
  -- nothing is kept
  pub kept_nothing : (t : LevelTable) → levels_in t ≡ [] → steps_in t ≡ [] → closed_in t ≡ [] → sampled_in t ≡ [] → ends_in t ≡ [] → AreKept g keys trees t
  kept_nothing t levels steps closed sampled ends = record {
    levels = subst (All (IsLevelKept trees)) (sym levels) (All-nil (IsLevelKept trees));
    steps = subst (All (IsStepKept g keys trees (levels_in t))) (sym steps) (All-nil (IsStepKept g keys trees (levels_in t)));
    closed = λ n m h. absurd (none_known n m (subst (λ ks. IsKnownAt ks n m) closed h));
    sampled = λ n m h. absurd (none_known n m (subst (λ ks. IsKnownAt ks n m) sampled h));
    ends = λ n e h. absurd (none_ends n e (subst (λ es. IsEndAt es n e) ends h));
  } where
    none_known : (n : ℕ) (m : LevelNumber) → IsKnownAt [] n m → ⊥
    none_known n m e = none-some (Some m) e

    none_ends : (n : ℕ) (e : End) → IsEndAt [] n e → ⊥
    none_ends n e h = none-some h.0 h.1

  module _ (t u : LevelTable) (k : AreKept g keys trees t) where
    -- one more level
    pub adds_level : (l : Level) → IsLevelKept trees l → levels_in u ≡ levels_in t ++ l ∷ [] → steps_in u ≡ steps_in t → closed_in u ≡ closed_in t
        → sampled_in u ≡ sampled_in t → ends_in u ≡ ends_in t → AddsLevels t g keys trees u
    adds_level l kept levels steps closed sampled ends =
        let grown : Grows (levels_in t) (levels_in u) = (l ∷ [], levels) in
        let same = grows_as (steps_in t) (steps_in u) steps in
        record {
          kept = kept_grown g keys trees trees t u (longer_same trees) k grown same
              (subst (All (IsLevelKept trees)) (sym levels) (All-push (IsLevelKept trees) (levels_in t) l k.levels kept))
              (subst (All (IsStepKept g keys trees (levels_in u))) (sym steps)
              (All-weaker (IsStepKept g keys trees (levels_in t)) (IsStepKept g keys trees (levels_in u))
              (step_stays trees trees (longer_same trees) (levels_in t) (levels_in u) grown k.levels g keys) (steps_in t) k.steps))
              closed sampled ends;
          levels = grown;
          steps = same;
        }

    -- one more step
    pub adds_step : (s : Step) → IsStepKept g keys trees (levels_in t) s → levels_in u ≡ levels_in t → steps_in u ≡ steps_in t ++ s ∷ []
        → closed_in u ≡ closed_in t → sampled_in u ≡ sampled_in t → ends_in u ≡ ends_in t → AddsLevels t g keys trees u
    adds_step s kept levels steps closed sampled ends =
        let grown : Grows (steps_in t) (steps_in u) = (s ∷ [], steps) in
        let same = grows_as (levels_in t) (levels_in u) levels in
        record {
          kept = kept_grown g keys trees trees t u (longer_same trees) k same grown (subst (All (IsLevelKept trees)) (sym levels) k.levels)
              (subst (λ ls. All (IsStepKept g keys trees ls) (steps_in u)) (sym levels)
              (subst (All (IsStepKept g keys trees (levels_in t))) (sym steps)
              (All-push (IsStepKept g keys trees (levels_in t)) (steps_in t) s k.steps kept)))
              closed sampled ends;
          levels = same;
          steps = grown;
        }

    module _ (levels : levels_in u ≡ levels_in t) (steps : steps_in u ≡ steps_in t) where
      same_levels : All (IsLevelKept trees) (levels_in u)
      same_levels = subst (All (IsLevelKept trees)) (sym levels) k.levels

      same_steps : All (IsStepKept g keys trees (levels_in u)) (steps_in u)
      same_steps =
          subst (λ ls. All (IsStepKept g keys trees ls) (steps_in u)) (sym levels) (subst (All (IsStepKept g keys trees (levels_in t))) (sym steps) k.steps)

      same_after : (Is : Simple ℕ → Simple ℕ → Type 0) (n : ℕ) (m : LevelNumber) → IsAfterLevel Is trees (levels_in t) n m
          → IsAfterLevel Is trees (levels_in u) n m
      same_after Is n m a = subst (λ ls. IsAfterLevel Is trees ls n m) (sym levels) a

      same_sampled : (n : ℕ) (m : LevelNumber) → IsAfterLevel (IsAfterText g (sample_in (levels_in t) n)) trees (levels_in t) n m
          → IsAfterLevel (IsAfterText g (sample_in (levels_in u) n)) trees (levels_in u) n m
      same_sampled n m a = subst (λ ls. IsAfterLevel (IsAfterText g (sample_in ls n)) trees ls n m) (sym levels) a

      same_end : (n : ℕ) (e : End) → IsEndKept g trees (levels_in t) (steps_in t) n e → IsEndKept g trees (levels_in u) (steps_in u) n e
      same_end n e a =
          subst (λ ls. IsEndKept g trees ls (steps_in u) n e) (sym levels) (subst (λ ss. IsEndKept g trees (levels_in t) ss n e) (sym steps) a)

      -- one more level behind a tag without attributes
      pub adds_closed : (from : ℕ) (to : LevelNumber) → IsAfterLevel (IsAfterTag g []) trees (levels_in t) from to
          → ((n : ℕ) (m : LevelNumber) → IsKnownAt (closed_in u) n m → IsKnownAt (closed_in t) n m ⊎ ((n ≡ from) × (m ≡ to)))
          → sampled_in u ≡ sampled_in t → ends_in u ≡ ends_in t → AddsLevels t g keys trees u
      adds_closed from to a closed sampled ends = record {
        kept = record {
          levels = same_levels;
          steps = same_steps;
          closed = λ n m h. same_after (IsAfterTag g []) n m (by n m (closed n m h));
          sampled = λ n m h. same_sampled n m (k.sampled n m (subst (λ ks. IsKnownAt ks n m) sampled h));
          ends = λ n e h. same_end n e (k.ends n e (subst (λ es. IsEndAt es n e) ends h));
        };
        levels = grows_as (levels_in t) (levels_in u) levels;
        steps = grows_as (steps_in t) (steps_in u) steps;
      } where
        by : (n : ℕ) (m : LevelNumber) → IsKnownAt (closed_in t) n m ⊎ ((n ≡ from) × (m ≡ to)) → IsAfterLevel (IsAfterTag g []) trees (levels_in t) n m
        by n m (inl h) = k.closed n m h
        by n m (inr h) = subst (λ n. IsAfterLevel (IsAfterTag g []) trees (levels_in t) n m) (sym h.0)
            (subst (IsAfterLevel (IsAfterTag g []) trees (levels_in t) from) (sym h.1) a)

      -- one more level after a sample string
      pub adds_sampled : (from : ℕ) (to : LevelNumber) → IsAfterLevel (IsAfterText g (sample_in (levels_in t) from)) trees (levels_in t) from to
          → closed_in u ≡ closed_in t
          → ((n : ℕ) (m : LevelNumber) → IsKnownAt (sampled_in u) n m → IsKnownAt (sampled_in t) n m ⊎ ((n ≡ from) × (m ≡ to)))
          → ends_in u ≡ ends_in t → AddsLevels t g keys trees u
      adds_sampled from to a closed sampled ends = record {
        kept = record {
          levels = same_levels;
          steps = same_steps;
          closed = λ n m h. same_after (IsAfterTag g []) n m (k.closed n m (subst (λ ks. IsKnownAt ks n m) closed h));
          sampled = λ n m h. same_sampled n m (by n m (sampled n m h));
          ends = λ n e h. same_end n e (k.ends n e (subst (λ es. IsEndAt es n e) ends h));
        };
        levels = grows_as (levels_in t) (levels_in u) levels;
        steps = grows_as (steps_in t) (steps_in u) steps;
      } where
        by : (n : ℕ) (m : LevelNumber) → IsKnownAt (sampled_in t) n m ⊎ ((n ≡ from) × (m ≡ to))
            → IsAfterLevel (IsAfterText g (sample_in (levels_in t) n)) trees (levels_in t) n m
        by n m (inl h) = k.sampled n m h
        by n m (inr h) = subst (λ n. IsAfterLevel (IsAfterText g (sample_in (levels_in t) n)) trees (levels_in t) n m) (sym h.0)
            (subst (IsAfterLevel (IsAfterText g (sample_in (levels_in t) from)) trees (levels_in t) from) (sym h.1) a)

      -- one more end
      pub adds_end : (step : ℕ) (end : End) → IsEndKept g trees (levels_in t) (steps_in t) step end → closed_in u ≡ closed_in t → sampled_in u ≡ sampled_in t
          → ((n : ℕ) (e : End) → IsEndAt (ends_in u) n e → IsEndAt (ends_in t) n e ⊎ ((n ≡ step) × (e ≡ end))) → AddsLevels t g keys trees u
      adds_end step end a closed sampled ends = record {
        kept = record {
          levels = same_levels;
          steps = same_steps;
          closed = λ n m h. same_after (IsAfterTag g []) n m (k.closed n m (subst (λ ks. IsKnownAt ks n m) closed h));
          sampled = λ n m h. same_sampled n m (k.sampled n m (subst (λ ks. IsKnownAt ks n m) sampled h));
          ends = λ n e h. same_end n e (by n e (ends n e h));
        };
        levels = grows_as (levels_in t) (levels_in u) levels;
        steps = grows_as (steps_in t) (steps_in u) steps;
      } where
        by : (n : ℕ) (e : End) → IsEndAt (ends_in t) n e ⊎ ((n ≡ step) × (e ≡ end)) → IsEndKept g trees (levels_in t) (steps_in t) n e
        by n e (inl h) = k.ends n e h
        by n e (inr h) = subst (λ n. IsEndKept g trees (levels_in t) (steps_in t) n e) (sym h.0)
            (subst (IsEndKept g trees (levels_in t) (steps_in t) step) (sym h.1) a)

-- in a table with the same levels
pub numbers_same_at : (Is : Simple ℕ → Simple ℕ → Type 0) (old new : List (Simple ℕ)) (now : List PatternNumber) (t u : LevelTable) (m : LevelNumber)
    → levels_in u ≡ levels_in t → AddsAfter Is old new now t m → AddsAfter Is old new now u m
numbers_same_at Is old new now t u m same a = record {
  there = subst (λ ls. m.0 < length ls) (sym same) a.there;
  after = subst (λ ls. AddsEach Is old new now (numbers_in ls m.0)) (sym same) a.after;
}

-- ---- a step that was computed

module _ (b d : Basis) (old new : List (Simple ℕ)) (t u : LevelTable) (s : Step) (bodies : List PatternNumber) (q : Name)
    (basis : d ≡ b) (from : s.from.0 < length (levels_in t)) (grown : Grows (levels_in t) (levels_in u))
    (around : s.around ≡ length (numbers_in (levels_in t) s.from.0)) (named : key_of b.keys q ≡ s.key.0)
    (opens : (r : Name) → key_of b.keys r ≡ s.key.0 → AddsOpened (reading_by b) r old new (numbers_in (levels_in t) s.from.0) bodies s.links.items)
    (child : (s.child.0 < length (levels_in u)) × (numbers_in (levels_in u) s.child.0 ≡ bodies)) where
  same_around : numbers_in (levels_in u) s.from.0 ≡ numbers_in (levels_in t) s.from.0
  same_around = numbers_grow (levels_in t) (levels_in u) s.from.0 grown from

  opened_later : (r : Name) → key_of d.keys r ≡ s.key.0
      → AddsOpened (reading_by d) r new new (numbers_in (levels_in u) s.from.0) (numbers_in (levels_in u) s.child.0) s.links.items
  opened_later r e =
      let o = opens r (subst (λ (b : Basis). key_of b.keys r ≡ s.key.0) basis e) in
      let here : AddsOpened (reading_by b) r new new (numbers_in (levels_in t) s.from.0) bodies s.links.items =
      record { longer = longer_same new; inside = o.inside; within = o.within; opened = o.opened } in
      subst (λ b. AddsOpened (reading_by b) r new new (numbers_in (levels_in u) s.from.0) (numbers_in (levels_in u) s.child.0) s.links.items) (sym basis)
      (subst (λ ps. AddsOpened (reading_by b) r new new ps (numbers_in (levels_in u) s.child.0) s.links.items) (sym same_around)
      (subst (λ ps. AddsOpened (reading_by b) r new new (numbers_in (levels_in t) s.from.0) ps s.links.items) (sym child.1) here))

  pub step_kept : IsStepKept (reading_by d) d.keys new (levels_in u) s
  step_kept = record {
    from = below_grows (levels_in t) (levels_in u) s.from.0 grown from;
    child = child.0;
    around = around ∙ ap length (sym same_around);
    links = All-weaker (IsLinkWithin new (length bodies) (length (numbers_in (levels_in t) s.from.0))) (IsRestWithin new s.around)
        (λ k w. (subst (λ n. k.outer < n) (sym around) w.1, w.2)) s.links.items (opens q named).within;
    opened = opened_later;
  }

-- ---- an end that was computed, or found

-- in a table with the same levels
pub ended_same_at : (g : Reading) (good : List Bool) (old new : List (Simple ℕ)) (s : Step) (t u : LevelTable) (m : LevelNumber)
    → levels_in u ≡ levels_in t → AddsEndedLevel g good old new s t m → AddsEndedLevel g good old new s u m
ended_same_at g good old new s t u m same e = record {
  there = subst (λ ls. m.0 < length ls) (sym same) e.there;
  ended = subst (λ ls. AddsEnded g good s.around old new s.links.items (numbers_in ls m.0)) (sym same) e.ended;
}

pub found_end : (g : Reading) (keys : Keys) (trees : List (Simple ℕ)) (t : LevelTable) (n : ℕ) (e : End) (good : List Bool) (s : Step)
    → AreKept g keys trees t → IsEndAt (ends_in t) n e → slice_get (steps_in t) n ≡ Some s → bits_of good ≡ e.good
    → AddsEndedLevel g good trees trees s t e.outside
found_end g keys trees t n e good s k h at bits =
    let law = k.ends n e h in
    let is : law.step ≡ s = same_Some law.step s (sym law.at ∙ at) in
    subst (λ (s : Step). AddsEndedLevel g good trees trees s t e.outside) is (record { there = law.outside; ended = law.ended good bits })

pub end_kept : (g h : Reading) (keys : Keys) (old new : List (Simple ℕ)) (t u : LevelTable) (n : ℕ) (e : End) (good : List Bool) → h ≡ g
    → AreKept g keys old t → n < length (steps_in t) → Grows (steps_in t) (steps_in u) → e.good ≡ bits_of good
    → ((s : Step) → slice_get (steps_in t) n ≡ Some s → AddsEndedLevel g good old new s u e.outside)
    → IsEndKept h new (levels_in u) (steps_in u) n e
end_kept g h keys old new t u n e good reading k lt grown bits ended =
    let s = all_at (IsStepKept g keys old (levels_in t)) (steps_in t) n k.steps lt in
    let a = ended s.0 s.1 in
    let now : AddsEnded g good s.0.around new new s.0.links.items (numbers_in (levels_in u) e.outside.0) =
    record { longer = longer_same new; inside = a.ended.inside; count = a.ended.count; ended = a.ended.ended } in
    record {
      step = s.0;
      at = get_grows (steps_in t) (steps_in u) n grown lt ∙ s.1;
      outside = a.there;
      ended = λ other same. subst (λ g. AddsEnded g other s.0.around new new s.0.links.items (numbers_in (levels_in u) e.outside.0)) (sym reading)
          (ended_as g good other s.0.around new new s.0.links.items (numbers_in (levels_in u) e.outside.0) (sym bits ∙ sym same) now);
    }

-- the bits that are kept of a level
pub good_is : (trees : List (Simple ℕ)) (levels : List Level) (n : ℕ) (l : Level) (bits : ℕ) → All (IsLevelKept trees) levels → slice_get levels n ≡ Some l
    → l.good ≡ Some bits → bits_of (nullable_in trees (numbers_in levels n)) ≡ bits
good_is trees levels n l bits all at good =
    let k = all_there (IsLevelKept trees) levels n l all at in
    let is : bits ≡ bits_of (nullable_in trees l.numbers.items) =
    subst (λ o. IfSome o (λ bits. bits ≡ bits_of (nullable_in trees l.numbers.items))) good k.good in
    ap (λ o. bits_of (nullable_in trees (numbers_or_none o))) at ∙ sym is

-- ---- lengths of levels

pub zip_long : (Is : Simple ℕ → Simple ℕ → Type 0) (trees : List (Simple ℕ)) (ps qs : List PatternNumber)
    → AllZip Is (map (tree_of trees) ps) (map (tree_of trees) qs) → length ps ≡ length qs
zip_long Is trees [] [] h = refl
zip_long Is trees [] (q ∷ qs) h = absurd h
zip_long Is trees (p ∷ ps) [] h = absurd h
zip_long Is trees (p ∷ ps) (q ∷ qs) h = ap suc (zip_long Is trees ps qs h.1)

pub after_long : (Is : Simple ℕ → Simple ℕ → Type 0) (old new : List (Simple ℕ)) (t u : LevelTable) (n : ℕ) (m : LevelNumber) → n < length (levels_in t)
    → Grows (levels_in t) (levels_in u) → AddsAfter Is old new (numbers_in (levels_in t) n) u m
    → length (numbers_in (levels_in u) n) ≡ length (numbers_in (levels_in u) m.0)
after_long Is old new t u n m lt grown a =
    ap length (numbers_grow (levels_in t) (levels_in u) n grown lt) ∙ zip_long Is new (numbers_in (levels_in t) n) (numbers_in (levels_in u) m.0) a.after.each

-- whether a level is dead, as a test of its alternatives
pub dead_is : (trees : List (Simple ℕ)) (levels : List Level) (n : ℕ) (l : Level) (b : Bool) → All (IsLevelKept trees) levels → slice_get levels n ≡ Some l
    → l.dead ≡ b → list_all (λ p. is_not_allowed (tree_of trees p)) (numbers_in levels n) ≡ b
dead_is trees levels n l b all at dead =
    ap (λ o. list_all (λ p. is_not_allowed (tree_of trees p)) (numbers_or_none o)) at
    ∙ sym (all_mapped is_not_allowed (tree_of trees) l.numbers.items) ∙ sym (all_there (IsLevelKept trees) levels n l all at).dead ∙ dead
