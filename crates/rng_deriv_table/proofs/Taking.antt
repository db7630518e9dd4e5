-- A pattern that is put into the table takes what the grammar's pattern takes.
use Rattle.std.proofs.Common.{◌≡◌, ℕ, zero, suc, ◌<◌, ◌≤◌, List, [], ◌∷◌, ◌++◌, length, map, get_or, slice_get, slice_index_or, Some, refl, sym, ap, ◌∙◌}
use Rattle.std.proofs.Common.{◌↔◌, inl, inr, subst, ⊎_elim, arith, All, Contains, length-append}
use Rattle.std.proofs.lemmas.Bool.{cases_lt}
use Rattle.std.proofs.lemmas.List.{get_or_append_left, get_or-map, length-map}
use Rattle.std.proofs.lemmas.List.Elements.{All-map, Contains-get_or, Contains-append_cases, Contains-append_left, Contains-append_right}
use Rattle.std.proofs.Math.Seq.{get_or-append_seam}
use Rattle.rng_model.proofs.Members.{not_in_none}
use Rattle.rng_model.specs.simple.Tree as tree
use Rattle.rng_model.specs.simple.Tree.{choice, s_joined}
use Rattle.rng_model.specs.simple.Table.{Table, tree_at, tree_over}
use Rattle.rng_model.specs.simple.TableRules.{AreChildrenBelow}
use Rattle.rng_model.specs.declared.simple.PatternId.{PatternId}
use Rattle.rng_model.specs.declared.simple.Simple.{Simple}
use Rattle.rng_model.specs.declared.simple.Simple.TheVariants as simple
use Rattle.rng_model.specs.matching.Document.{Attribute, Item}
use Rattle.rng_model.specs.matching.GrammarMatching.{Reading}
use Rattle.rng_deriv_laws.specs.plain.Taking.{Same, Takes}
use Rattle.rng_deriv_laws.specs.plain.Taking as t
use Rattle.rng_deriv_laws.proofs.SamePatterns.{same, same_group, same_interleave, same_repeat, same_through}
use Rattle.rng_deriv_table.specs.declared.uses.Use.{Use}
use Rattle.rng_deriv_table.specs.plain.AskedFor.{HasNumber, HasPart, IsNoChoice, IsOwn}
use Rattle.rng_deriv_table.specs.plain.Kept.{IsChoiceTaken, IsRegrouped, IsTakenAs, by_members, by_parts, unnumbered}
use Rattle.rng_deriv_table.specs.views.Choices.{SomeTakes}
use Rattle.rng_deriv_table.specs.views.Node.{Node}
use Rattle.rng_deriv_table.specs.views.PatternTable.{Longer}
use Rattle.rng_deriv_table.specs.views.Taking.{AreTakenAt, numbers_at, taken_over, tree_by}
use Rattle.rng_deriv_table.specs.views.Trees.{tree_of}
use Rattle.rng_deriv_table.specs.declared.pattern.PatternNumber.{PatternNumber}
use Rattle.rng_deriv_table.proofs.Choices.{only_one}
use Rattle.rng_deriv_table.proofs.OpenedChoices.{each_below, each_numbered, member_takes, some_member}
use Rattle.rng_deriv_table.proofs.Trees.{Longer-length, tree_stays}

module _ (g : Reading) where
  -- a choice of two
  pub choice_of_two : (f : ℕ → tree.Simple ℕ) (a b : PatternNumber) (p : tree.Simple ℕ)
      → ((xs : List Attribute) (ns : List Item) → Takes g p xs ns ↔ SomeTakes g f (a ∷ b ∷ []) xs ns) → Same g p (s_joined choice (f a.0) (f b.0))
  choice_of_two f a b p some = record {
    to = λ xs ns d.
        let h = (some xs ns).0 d in
        let At : PatternNumber → Type 0 = λ k. Takes g (f k.0) xs ns in
        ⊎_elim (λ c. t.first (subst At (sym (only_one a h.0 c)) h.2)) (λ c. t.second (subst At (sym (only_one b h.0 c)) h.2))
        (Contains-append_cases (a ∷ []) (b ∷ []) h.0 h.1);
    back = λ xs ns d. (some xs ns).1 (either xs ns d);
  }
    where
      either : (xs : List Attribute) (ns : List Item) → Takes g (s_joined choice (f a.0) (f b.0)) xs ns → SomeTakes g f (a ∷ b ∷ []) xs ns
      either xs ns (t.first d) = (a, Contains-append_left (a ∷ []) (b ∷ []) a (Contains-get_or (a ∷ []) 0 a (omega arith)), d)
      either xs ns (t.second d) = (b, Contains-append_right (a ∷ []) (b ∷ []) b (Contains-get_or (b ∷ []) 0 b (omega arith)), d)

  -- over parts that take the same
  pub taken_same : (t : Table) (f : PatternId → tree.Simple ℕ) (row : Simple) → IsNoChoice row
      → ((id : PatternId) → HasPart row id.0 → Same g (f id) (tree_at t.patterns id)) → Same g (taken_over t f row) (tree_over (tree_at t.patterns) row)
  taken_same t f simple.NotAllowed plain each = same g tree.s_not_allowed
  taken_same t f simple.Empty plain each = same g tree.s_empty
  taken_same t f simple.Text plain each = same g tree.s_text
  taken_same t f (simple.Element e) plain each = same g _
  taken_same t f (simple.Attribute class body) plain each = same g _
  taken_same t f (simple.List body) plain each = same g _
  taken_same t f (simple.Data datatype) plain each = same g _
  taken_same t f (simple.DataExcept datatype except) plain each = same g _
  taken_same t f (simple.Value value) plain each = same g _
  taken_same t f (simple.OneOrMore body) plain each = same_repeat g (each body refl)
  taken_same t f (simple.Group a b) plain each = same_group g (each a (inl refl)) (each b (inr refl))
  taken_same t f (simple.Interleave a b) plain each = same_interleave g (each a (inl refl)) (each b (inr refl))
  taken_same t f (simple.Choice a b) plain each = absurd plain

-- the parts of a pattern are before it
pub part_below : (row : Simple) (n k : ℕ) → AreChildrenBelow n row → HasPart row k → k < n
part_below simple.NotAllowed n k below h = absurd h
part_below simple.Empty n k below h = absurd h
part_below simple.Text n k below h = absurd h
part_below (simple.Element e) n k below h = absurd h
part_below (simple.Attribute class body) n k below h = subst (λ j. j < n) h below
part_below (simple.List body) n k below h = subst (λ j. j < n) h below
part_below (simple.Data datatype) n k below h = absurd h
part_below (simple.DataExcept datatype except) n k below h = subst (λ j. j < n) h below
part_below (simple.Value value) n k below h = absurd h
part_below (simple.OneOrMore body) n k below h = subst (λ j. j < n) h below
part_below (simple.Group a b) n k below h = ⊎_elim (λ e. subst (λ j. j < n) e below.0) (λ e. subst (λ j. j < n) e below.1) h
part_below (simple.Interleave a b) n k below h = ⊎_elim (λ e. subst (λ j. j < n) e below.0) (λ e. subst (λ j. j < n) e below.1) h
part_below (simple.Choice a b) n k below h = absurd h

-- ---- a choice of members

-- what is among the results of a function is the result for one of the arguments
map_among : {A B : Type 0} (f : A → B) (xs : List A) (y : B) → Contains (map f xs) y → (x : A) × Contains xs x × (f x ≡ y)
map_among f [] y h = let inside = h.1 in absurd (omega (arith, inside))
map_among f (x ∷ xs) y (zero, h, e) = (x, Contains-get_or (x ∷ xs) 0 x (omega arith), e)
map_among f (x ∷ xs) y (suc i, h, e) =
    let rest = map_among f xs y (i, omega (arith, h), e) in
    (rest.0, Contains-append_right (x ∷ []) xs rest.0 rest.1, rest.2)

pub number_among : (numbers : List PatternNumber) (ids : List PatternId) (id : PatternId) → Contains ids id
    → Contains (numbers_at numbers ids) (slice_index_or numbers id.0 (record { 0 = 0 }))
number_among numbers ids id h =
    let at : PatternId → PatternNumber = λ k. slice_index_or numbers k.0 (record { 0 = 0 }) in
    (h.0, omega (arith, h.1, length-map ids at), get_or-map at ids h.0 id (at id) h.1 ∙ ap at h.2)

-- a number at the positions is that of one of them
pub position_among : (numbers : List PatternNumber) (ids : List PatternId) (m : PatternNumber) → Contains (numbers_at numbers ids) m
    → (id : PatternId) × Contains ids id × (slice_index_or numbers id.0 (record { 0 = 0 }) ≡ m)
position_among numbers ids m h = map_among (λ (k : PatternId). slice_index_or numbers k.0 (record { 0 = 0 })) ids m h

pub all_numbers_at : (P : PatternNumber → Type 0) (numbers : List PatternNumber) (ids : List PatternId) → All P numbers
    → All (λ (id : PatternId). id.0 < length numbers) ids → All P (numbers_at numbers ids)
all_numbers_at P numbers ids all below =
    All-map P (λ (id : PatternId). slice_index_or numbers id.0 (record { 0 = 0 })) ids (λ k d h. all (get_or ids k d).0 (record { 0 = 0 }) (below k d h))

module _ (t : Table) (us : List Use) (old new : List Node) (numbers : List PatternNumber) (first second : PatternId) (n : ℕ)
    (first_below : first.0 < length numbers) (second_below : second.0 < length numbers) (taken : AreTakenAt (HasNumber t us) t old numbers)
    (is : IsChoiceTaken t us numbers first second old new n) where
  below : (id : PatternId) → Contains is.positions id → id.0 < length numbers
  below id h = each_below t us first second (length numbers) first_below second_below is.opened id (inr h)

  member_same : (g : Reading) (id : PatternId) → Contains is.positions id → Same g (tree_by t old numbers id) (tree_at t.patterns id)
  member_same g id h = taken.same id.0 (below id h) (each_numbered t us first second is.opened id h) g

  pub choice_same : (g : Reading) → Same g (tree_of t new n) (s_joined choice (tree_at t.patterns first) (tree_at t.patterns second))
  choice_same g = record {
    to = λ xs ns d.
        let some = (is.takes g xs ns).0 d in
        let at = position_among numbers is.positions some.0 some.1 in
        let own = subst (λ (m : PatternNumber). Takes g (tree_of t old m.0) xs ns) (sym at.2) some.2 in
        member_takes t us first second g xs ns is.opened at.0 (inr at.1) ((member_same g at.0 at.1).to xs ns own);
    back = λ xs ns d.
        let some = some_member t us first second g xs ns is.opened d in
        let there : Contains is.positions some.0 = ⊎_elim (λ h. absurd (not_in_none h)) (λ h. h) some.1 in
        (is.takes g xs ns).1 (
          slice_index_or numbers some.0.0 (record { 0 = 0 }),
          number_among numbers is.positions some.0 there,
          (member_same g some.0 there).back xs ns some.2,
        );
  }

-- ---- all rows

pub none_taken : (Has : ℕ → Type 0) (t : Table) (ns : List Node) → AreTakenAt Has t ns []
none_taken Has t ns = record { inside = λ i h. absurd (omega (arith, h)); same = λ i h has. absurd (omega (arith, h)) }

-- the pattern that is taken takes what the grammar's pattern takes
pub row_same : (t : Table) (us : List Use) (old new : List Node) (numbers : List PatternNumber) (row : Simple) (n : ℕ) (g : Reading)
    → AreTakenAt (HasNumber t us) t old numbers → AreChildrenBelow (length numbers) row → slice_get t.patterns (length numbers) ≡ Some row
    → ((k : ℕ) → HasPart row k → IsOwn us k) → HasNumber t us (length numbers) → IsTakenAs t us numbers (length numbers) row old new n
    → Same g (tree_of t new n) (tree_over (tree_at t.patterns) row)
row_same t us old new numbers row n g taken below found parts numbered (by_parts plain is made) =
    same_through g (is g) (taken_same g t (tree_by t old numbers) row plain
    (λ id part. taken.same id.0 (part_below row (length numbers) id.0 below part) (λ p at. inr (parts id.0 part)) g))
row_same t us old new numbers row n g taken below found parts numbered (by_members first second e is) =
    let sides = subst (AreChildrenBelow (length numbers)) e below in
    subst (λ r. Same g (tree_of t new n) (tree_over (tree_at t.patterns) r)) (sym e)
    (choice_same t us old new numbers first second n sides.0 sides.1 taken is g)
row_same t us old new numbers row n g taken below found parts numbered (unnumbered first second e none) =
    absurd (⊎_elim (λ plain. subst IsNoChoice e plain) (λ own. none own) (numbered row found))

-- one more, which may be regrouped once it is taken over
pub one_taken : (t : Table) (us : List Use) (old mid new : List Node) (numbers more : List PatternNumber) (first number : PatternNumber) (row : Simple)
    → AreTakenAt (HasNumber t us) t old numbers → Longer old new
    → more ≡ numbers ++ number ∷ [] → number.0 < length new → AreChildrenBelow (length numbers) row → slice_get t.patterns (length numbers) ≡ Some row
    → tree_at t.patterns (record { 0 = length numbers }) ≡ tree_over (tree_at t.patterns) row → ((k : ℕ) → HasPart row k → IsOwn us k)
    → IsTakenAs t us numbers (length numbers) row old mid first.0 → IsRegrouped (tree_of t mid first.0) (tree_of t new number.0)
    → AreTakenAt (HasNumber t us) t new more
one_taken t us old mid new numbers more first number row kept longer added inside below found is parts own regrouped =
    subst (AreTakenAt (HasNumber t us) t new) (sym added) (record {
      inside = λ i h. ⊎_elim
          (λ l. let stays = get_or_append_left numbers (number ∷ []) (record { 0 = 0 }) i l in let was = kept.inside i l in
          let long = Longer-length old new longer in
          let P : PatternNumber → Type 0 = λ k. k.0 < length new in subst P (sym stays) (omega (arith, was, long)))
          (λ l. let P : PatternNumber → Type 0 = λ k. k.0 < length new in subst P (sym (at_end i h l)) inside)
          (cases_lt i (length numbers));
      same = λ i h has g. ⊎_elim
          (λ l. let stays = get_or_append_left numbers (number ∷ []) (record { 0 = 0 }) i l in
          let P : tree.Simple ℕ → Type 0 = λ p. Same g p (tree_at t.patterns (record { 0 = i })) in
          subst P (sym (ap (λ (k : PatternNumber). tree_of t new k.0) stays ∙ tree_stays t old new _ longer (kept.inside i l))) (kept.same i l has g))
          (λ l. let P : PatternNumber → ℕ → Type 0 = λ k j. Same g (tree_of t new k.0) (tree_at t.patterns (record { 0 = j })) in
          let here : i ≡ length numbers = last i h l in
          subst (λ k. P k i) (sym (at_end i h l)) (subst (P number) (sym here)
          (subst (λ p. Same g (tree_of t new number.0) p) (sym is)
          (same_through g (regrouped.same g)
          (row_same t us old mid numbers row first.0 g kept below found parts (subst (HasNumber t us) here has) own)))))
          (cases_lt i (length numbers));
    })
  where
    last : (i : ℕ) → i < length (numbers ++ number ∷ []) → length numbers ≤ i → i ≡ length numbers
    last i h l = omega (arith, h, l, length-append numbers (number ∷ []))

    at_end : (i : ℕ) → i < length (numbers ++ number ∷ []) → length numbers ≤ i → get_or (numbers ++ number ∷ []) i (record { 0 = 0 }) ≡ number
    at_end i h l = ap (λ j. get_or (numbers ++ number ∷ []) j (record { 0 = 0 })) (last i h l) ∙ get_or-append_seam numbers number [] (record { 0 = 0 })

-- each number is below a bound
pub each_inside : (bound : ℕ) (numbers : List PatternNumber) → ((i : ℕ) → i < length numbers → (slice_index_or numbers i (record { 0 = 0 })).0 < bound)
    → All (λ n. n.0 < bound) numbers
each_inside bound [] f k d h = absurd (omega (arith, h))
each_inside bound (n ∷ ns) f zero d h = f zero (omega arith)
each_inside bound (n ∷ ns) f (suc k) d h = each_inside bound ns (λ i l. f (suc i) (omega (arith, l))) k d (omega (arith, h))

-- with numbers at fewer positions
pub taken_where : (Has Fewer : ℕ → Type 0) (t : Table) (ns : List Node) (numbers : List PatternNumber) → ((k : ℕ) → Fewer k → Has k)
    → AreTakenAt Has t ns numbers → AreTakenAt Fewer t ns numbers
taken_where Has Fewer t ns numbers fewer taken = record { inside = taken.inside; same = λ i h few g. taken.same i h (fewer i few) g }
