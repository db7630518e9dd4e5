-- A choice takes what its members take, and the members obey what the choice obeys.
use Rattle.std.proofs.Common.{◌≡◌, ◌⊎◌, ℕ, zero, suc, ◌+◌, ◌<◌, ◌≤◌, List, [], ◌∷◌, ◌++◌, refl, sym, ap, ◌∙◌, subst}
use Rattle.std.proofs.Common.{⊎_elim, inl, inr, arith, Contains}
use Rattle.std.proofs.lemmas.List.Elements.{Contains-get_or, Contains-append_left, Contains-append_right, Contains-append_cases}
use Rattle.std.proofs.lemmas.List.Elements.{Contains-push_cases}
use Rattle.rng_model.proofs.Members.{not_in_none}
use Rattle.rng_model.specs.simple.Tree.{Simple, choice, s_joined}
use Rattle.rng_model.specs.matching.Document.{Attribute, Item}
use Rattle.rng_model.specs.simple.Table.{Table, tree_at}
use Rattle.rng_model.specs.declared.simple.PatternId.{PatternId}
use Rattle.rng_model.specs.matching.GrammarMatching.{Reading}
use Rattle.rng_deriv_laws.specs.plain.Taking.{Takes}
use Rattle.rng_deriv_laws.specs.plain.Taking as t
use Rattle.rng_deriv_table.specs.declared.uses.Use.{Use}
use Rattle.rng_deriv_table.specs.plain.AskedFor.{AreOpened, HasNumber, begun, moved, opened, steps_for, steps_of}

-- ---- lists of positions

abbrev pub Within : List PatternId → List PatternId → PatternId → Type 0
Within todo members k = Contains todo k ⊎ Contains members k

here : (ks ls : List PatternId) (k : PatternId) → Contains (ks ++ k ∷ ls) k
here ks ls k = Contains-append_right ks (k ∷ ls) k (Contains-get_or (k ∷ ls) 0 k (omega arith))

only_position : (k l : PatternId) → Contains (k ∷ []) l → k ≡ l
only_position k l h = ⊎_elim (λ c. absurd (not_in_none c)) (λ e. e) (Contains-push_cases [] k l h)

after : (ks : List PatternId) (k l : PatternId) → Contains (ks ++ k ∷ l ∷ []) l
after ks k l = Contains-append_right ks (k ∷ l ∷ []) l (Contains-get_or (k ∷ l ∷ []) 1 l (omega arith))

-- a position among some is in the front or the last one
module _ (Q : PatternId → Type 0) where
  each_of_two : (a b : PatternId) → Q a → Q b → (k : PatternId) → Contains (a ∷ b ∷ []) k → Q k
  each_of_two a b h i k c = ⊎_elim (λ x. subst Q (only_position a k x) h) (λ x. subst Q (only_position b k x) i) (Contains-append_cases (a ∷ []) (b ∷ []) k c)

  each_of_one_more : (front : List PatternId) (k : PatternId) → ((l : PatternId) → Contains front l → Q l) → Q k
      → (l : PatternId) → Contains (front ++ k ∷ []) l → Q l
  each_of_one_more front k each own l c = ⊎_elim (λ x. each l x) (λ e. subst Q e own) (Contains-push_cases front k l c)

  each_of_two_more : (front : List PatternId) (a b : PatternId) → ((l : PatternId) → Contains front l → Q l) → Q a → Q b
      → (l : PatternId) → Contains (front ++ a ∷ b ∷ []) l → Q l
  each_of_two_more front a b each h i l c = ⊎_elim (λ x. each l x) (λ x. each_of_two a b h i l x) (Contains-append_cases front (a ∷ b ∷ []) l c)

module _ (table : Table) (us : List Use) (first second : PatternId) where
  abbrev Opened : List PatternId → List PatternId → Type 0
  Opened = AreOpened table us first second

  abbrev tree : PatternId → Simple ℕ
  tree k = tree_at table.patterns k

  abbrev whole : Simple ℕ
  whole = s_joined choice (tree first) (tree second)

  -- ---- what each member has

  -- a property that both sides of a choice have where the choice has it
  module _ (Q : Simple ℕ → Type 0) (sides : (p q : Simple ℕ) → Q (s_joined choice p q) → Q p × Q q) (h : Q whole) where
    pub each_has : {todo members : List PatternId} → Opened todo members → (k : PatternId) → Within todo members k → Q (tree k)
    each_has (begun is none) k w = ⊎_elim
        (λ c. each_of_two (λ l. Q (tree l)) first second (sides _ _ h).0 (sides _ _ h).1 k (subst (λ ks. Contains ks k) is c))
        (λ c. absurd (not_in_none (subst (λ ks. Contains ks k) none c)))
        w
    each_has (opened {todo} {members} {next} front l a b o cut is below more) k w =
        let at_front : (x : PatternId) → Contains front x → Q (tree x) = λ x c. each_has o x (inl (subst (λ ks. Contains ks x) (sym cut) (Contains-append_left front (l ∷ []) x c))) in
        let own = subst Q is (each_has o l (inl (subst (λ ks. Contains ks l) (sym cut) (here front [] l)))) in
        let both = sides (tree a) (tree b) own in
        ⊎_elim
        (λ c. each_of_two_more (λ x. Q (tree x)) front a b at_front both.0 both.1 k (subst (λ ks. Contains ks k) more c))
        (λ c. each_has o k (inr c))
        w
    each_has (moved {todo} {members} {front} {more} l o cut numbered longer) k w =
        ⊎_elim
        (λ c. each_has o k (inl (subst (λ ks. Contains ks k) (sym cut) (Contains-append_left front (l ∷ []) k c))))
        (λ c. each_of_one_more (λ x. Q (tree x)) members l (λ x i. each_has o x (inr i))
        (each_has o l (inl (subst (λ ks. Contains ks l) (sym cut) (here front [] l)))) k (subst (λ ks. Contains ks k) longer c))
        w

  -- the members have numbers
  pub each_numbered : {todo members : List PatternId} → Opened todo members → (k : PatternId) → Contains members k → HasNumber table us k.0
  each_numbered (begun is none) k c = absurd (not_in_none (subst (λ ks. Contains ks k) none c))
  each_numbered (opened front l a b o cut is below more) k c = each_numbered o k c
  each_numbered (moved {todo} {members} {front} {more} l o cut numbered longer) k c =
      each_of_one_more (λ x. HasNumber table us x.0) members l (λ x i. each_numbered o x i) numbered k (subst (λ ks. Contains ks k) longer c)

  -- and are at positions below a bound of the sides
  pub each_below : (n : ℕ) → first.0 < n → second.0 < n → {todo members : List PatternId} → Opened todo members
      → (k : PatternId) → Within todo members k → k.0 < n
  each_below n f g (begun is none) k w = ⊎_elim
      (λ c. each_of_two (λ l. l.0 < n) first second f g k (subst (λ ks. Contains ks k) is c))
      (λ c. absurd (not_in_none (subst (λ ks. Contains ks k) none c)))
      w
  each_below n f g (opened {todo} {members} {next} front l a b o cut is below more) k w =
      let at_front : (x : PatternId) → Contains front x → x.0 < n = λ x c. each_below n f g o x (inl (subst (λ ks. Contains ks x) (sym cut) (Contains-append_left front (l ∷ []) x c))) in
      let own = each_below n f g o l (inl (subst (λ ks. Contains ks l) (sym cut) (here front [] l))) in
      let a_below = below.0 in
      let b_below = below.1 in
      ⊎_elim
      (λ c. each_of_two_more (λ x. x.0 < n) front a b at_front (omega (arith, own, a_below)) (omega (arith, own, b_below)) k (subst (λ ks. Contains ks k) more c))
      (λ c. each_below n f g o k (inr c))
      w
  each_below n f g (moved {todo} {members} {front} {more} l o cut numbered longer) k w =
      ⊎_elim
      (λ c. each_below n f g o k (inl (subst (λ ks. Contains ks k) (sym cut) (Contains-append_left front (l ∷ []) k c))))
      (λ c. each_of_one_more (λ x. x.0 < n) members l (λ x i. each_below n f g o x (inr i))
      (each_below n f g o l (inl (subst (λ ks. Contains ks l) (sym cut) (here front [] l)))) k (subst (λ ks. Contains ks k) longer c))
      w

  -- ---- what the members take

  module _ (g : Reading) (xs : List Attribute) (ns : List Item) where
    -- one of these positions takes it
    abbrev SomeOf : List PatternId → List PatternId → Type 0
    SomeOf todo members = (k : PatternId) × Within todo members k × Takes g (tree k) xs ns

    pub some_member : {todo members : List PatternId} → Opened todo members → Takes g whole xs ns → SomeOf todo members
    some_member (begun is none) (t.first d) = (first, inl (subst (λ ks. Contains ks first) (sym is) (here [] (second ∷ []) first)), d)
    some_member (begun is none) (t.second d) = (second, inl (subst (λ ks. Contains ks second) (sym is) (after [] first second)), d)
    some_member (opened {todo} {members} {next} front l a b o cut is below more) d =
        let old = some_member o d in
        let In : List PatternId → PatternId → Type 0 = λ ks k. Contains ks k in
        ⊎_elim
        (λ c. ⊎_elim
        (λ i. (old.0, inl (subst (λ ks. Contains ks old.0) (sym more) (Contains-append_left front (a ∷ b ∷ []) old.0 i)), old.2))
        (λ i. opened_side (subst (λ p. Takes g p xs ns) (ap tree (sym (only_position l old.0 i)) ∙ is) old.2))
        (Contains-append_cases front (l ∷ []) old.0 (subst (λ ks. Contains ks old.0) cut c)))
        (λ c. (old.0, inr c, old.2))
        old.1
      where
        opened_side : Takes g (s_joined choice (tree a) (tree b)) xs ns → SomeOf next members
        opened_side (t.first e) = (a, inl (subst (λ ks. Contains ks a) (sym more) (here front (b ∷ []) a)), e)
        opened_side (t.second e) = (b, inl (subst (λ ks. Contains ks b) (sym more) (after front a b)), e)
    some_member (moved {todo} {members} {front} {more} l o cut numbered longer) d =
        let old = some_member o d in
        ⊎_elim
        (λ c. ⊎_elim
        (λ i. (old.0, inl i, old.2))
        (λ i. (old.0, inr (subst (λ ks. Contains ks old.0) (sym longer) (Contains-append_right members (l ∷ []) old.0 i)), old.2))
        (Contains-append_cases front (l ∷ []) old.0 (subst (λ ks. Contains ks old.0) cut c)))
        (λ c. (old.0, inr (subst (λ ks. Contains ks old.0) (sym longer) (Contains-append_left members (l ∷ []) old.0 c)), old.2))
        old.1

    pub member_takes : {todo members : List PatternId} → Opened todo members → (k : PatternId) → Within todo members k → Takes g (tree k) xs ns → Takes g whole xs ns
    member_takes (begun is none) k w = ⊎_elim
        (λ c. each_of_two (λ l. Takes g (tree l) xs ns → Takes g whole xs ns) first second (λ d. t.first d) (λ d. t.second d) k
        (subst (λ ks. Contains ks k) is c))
        (λ c. absurd (not_in_none (subst (λ ks. Contains ks k) none c)))
        w
    member_takes (opened {todo} {members} {next} front l a b o cut is below more) k w =
        let at_front : (x : PatternId) → Contains front x → Takes g (tree x) xs ns → Takes g whole xs ns = λ x c. member_takes o x (inl (subst (λ ks. Contains ks x) (sym cut) (Contains-append_left front (l ∷ []) x c))) in
        let own = member_takes o l (inl (subst (λ ks. Contains ks l) (sym cut) (here front [] l))) in
        ⊎_elim
        (λ c. each_of_two_more (λ x. Takes g (tree x) xs ns → Takes g whole xs ns) front a b at_front
        (λ d. own (subst (λ p. Takes g p xs ns) (sym is) (t.first d)))
        (λ d. own (subst (λ p. Takes g p xs ns) (sym is) (t.second d))) k (subst (λ ks. Contains ks k) more c))
        (λ c. member_takes o k (inr c))
        w
    member_takes (moved {todo} {members} {front} {more} l o cut numbered longer) k w =
        ⊎_elim
        (λ c. member_takes o k (inl (subst (λ ks. Contains ks k) (sym cut) (Contains-append_left front (l ∷ []) k c))))
        (λ c. each_of_one_more (λ x. Takes g (tree x) xs ns → Takes g whole xs ns) members l (λ x i. member_takes o x (inr i))
        (member_takes o l (inl (subst (λ ks. Contains ks l) (sym cut) (here front [] l)))) k (subst (λ ks. Contains ks k) longer c))
        w

-- ---- steps

steps_positive : (k : ℕ) → 0 < steps_of k
unfolding steps_of
steps_positive zero = omega arith
steps_positive (suc k) = omega arith

steps_rise : (a k : ℕ) → a ≤ k → steps_of a ≤ steps_of k
unfolding steps_of
steps_rise zero k h = steps_positive k
steps_rise (suc a) zero h = absurd (omega (arith, h))
steps_rise (suc a) (suc k) h = let i = steps_rise a k (omega (arith, h)) in omega (arith, i)

-- the sides of a choice are opened in fewer steps than the choice
pub sides_fewer : (a b k : ℕ) → a < k → b < k → steps_of a + steps_of b < steps_of k
unfolding steps_of
sides_fewer a b zero h i = absurd (omega (arith, h))
sides_fewer a b (suc k) h i = let x = steps_rise a k (omega (arith, h)) in let y = steps_rise b k (omega (arith, i)) in omega (arith, x, y)

pub steps_joined : (ks ls : List PatternId) → steps_for (ks ++ ls) ≡ steps_for ks + steps_for ls
unfolding steps_for
steps_joined [] ls = let none : steps_for [] ≡ 0 = refl in omega (arith, none)
steps_joined (k ∷ ks) ls = let h = steps_joined ks ls in omega (arith, h)

pub steps_of_one : (ks : List PatternId) (k : PatternId) → steps_for (ks ++ k ∷ []) ≡ steps_for ks + steps_of k.0
unfolding steps_for
steps_of_one ks k = let h = steps_joined ks (k ∷ []) in omega (arith, h)

pub moved_fewer : (front : List PatternId) (k : PatternId) → steps_for front < steps_for (front ++ k ∷ [])
moved_fewer front k = let h = steps_of_one front k in let p = steps_positive k.0 in omega (arith, h, p)

pub opened_fewer : (front next : List PatternId) (k a b : PatternId) → next ≡ front ++ a ∷ b ∷ [] → a.0 < k.0 → b.0 < k.0
    → steps_for next < steps_for (front ++ k ∷ [])
unfolding steps_for
opened_fewer front next k a b is h i =
    let whole = steps_of_one front k in
    let parts = steps_joined front (a ∷ b ∷ []) in
    let fewer = sides_fewer a.0 b.0 k.0 h i in
    let same = ap steps_for is in
    omega (arith, whole, parts, fewer, same)
