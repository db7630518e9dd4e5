-- Rows that meet, in lists and one by one.
use Rattle.std.proofs.Common.{◌≡◌, inl, inr, refl, ap, sym, ◌∙◌, subst, ℕ, ◌+◌, ◌<◌, Bool, true≢false, IsTrue, IsFalse}
use Rattle.std.proofs.Common.{List, [], ◌∷◌, ◌++◌, length, slice_index_or, All, Contains, get_or, Vec, vec_items, Result, Ok, Err, IfOk, arith}
use Rattle.std.proofs.Common.{Some, set, slice_get, true}
use Rattle.std.proofs.lemmas.Bool.{cases_eq, cases_lt}
use Rattle.std.proofs.lemmas.List.{get_or-map, get_or-set_other, length-set}
use Rattle.std.proofs.lemmas.Option.{get_or_from_slice_get, slice_get-get_or, slice_get_within}
use Rattle.std.proofs.lemmas.List.Elements.{Contains-push_cases}
use Rattle.rng_model.proofs.Members.{one_only, all_from_members}
use Rattle.rng_model.specs.names.Names.{Overlap}
use Rattle.rng_model.specs.simple.Table.{Table}
use Rattle.rng_model.specs.names.NameViews.{class_of}
use Rattle.rng_model.specs.declared.name.NameClass.{NameClass}
use Rattle.rng_names.specs.views.PlainNames.{IsPlain}
use Rattle.rng_rules.specs.declared.names_meet.NamesOf.{NamesOf}
use Rattle.rng_labels.specs.plain.Queues.{at_start, onward}
use Rattle.rng_rules.specs.plain.NamesMeetReach.{AreBelow, lists}
use Rattle.rng_rules.specs.views.NamesMeetSearch.{Meeting}
use Rattle.rng_rules.specs.views.NamesMeetSides.{Climbs, MeetBetween}

pub if_ok : {A E : Type 0} {P Q : A → Type 0} (r : Result A E) → ((x : A) → P x → Q x) → IfOk r P → IfOk r Q
if_ok (Ok x) f p = f x p
if_ok (Err x) f p = p

-- ---- a group

pub group_at : {Z : Type 0} (groups : List (Vec ℕ Z)) (i : ℕ) (g : Vec ℕ Z) → i < length groups → g ≡ get_or groups i g → vec_items g ≡ slice_index_or (lists groups) i []
group_at groups i g h e = sym (get_or-map vec_items groups i g [] h ∙ ap vec_items (sym e))

pub group_below : (n : ℕ) (all : List (List ℕ)) (i : ℕ) (xs : List ℕ) → AreBelow n all → xs ≡ slice_index_or all i [] → All (λ k. k < n) xs
group_below n all i xs below e = all_from_members (λ k. k < n) xs (λ k c. below i k (subst (λ ys. Contains ys k) e c))

pub none_more : {P : ℕ → Type 0} (i : ℕ) → ((k : ℕ) → k < i → ¬ (P k)) → ¬ (P i) → (k : ℕ) → k < i + 1 → ¬ (P k)
none_more {P} i so_far one k h = elim (cases_lt k i) [ inl l ↦ so_far k l | inr l ↦ subst (λ j. ¬ (P j)) (let e : i ≡ k = omega (arith, l, h) in e) one ]

-- ---- one row of each list

module _ (above : List (List ℕ)) (start : List ℕ) where
  climbs_one : {k : ℕ} → Climbs above start k → (x : ℕ) × Contains start x × Climbs above (x ∷ []) k
  climbs_one (at_start {x} c) = (x, c, at_start (0, omega arith, refl))
  climbs_one (onward r c) = let s = climbs_one r in (s.0, s.1, onward s.2 c)

  climbs_more : {a k : ℕ} → Contains start a → Climbs above (a ∷ []) k → Climbs above start k
  climbs_more {a} h (at_start {x} c) = at_start (subst (Contains start) (one_only a x c) h)
  climbs_more h (onward r c) = onward (climbs_more h r) c

pub plain_more : (ls new : List (ℕ × NameClass)) (l : ℕ × NameClass) (m : ℕ × NameClass) → new ≡ ls ++ l ∷ [] → (Contains ls m → IsPlain m.1)
    → (m ≡ l → IsPlain m.1) → Contains new m → IsPlain m.1
plain_more ls new l m more so_far one h = elim (Contains-push_cases ls l m (subst (λ xs. Contains xs m) more h)) [ inl i ↦ so_far i | inr e ↦ one (sym e) ]

module _ {of : NamesOf} {t : Table} {above : List (List ℕ)} where
  pub between_one : {first second : List ℕ} → MeetBetween of t above first second
      → (a : ℕ) × Contains first a × (b : ℕ) × Contains second b × MeetBetween of t above (a ∷ []) (b ∷ [])
  between_one {first} {second} m = elim m.meet [
    | inl c ↦
        let f = climbs_one above first c.0 in
        let s = climbs_one above second c.1 in
        (f.0, f.1, s.0, s.1, record { row = m.row; left = m.left; right = m.right; join = m.join; meet = inl (f.2, s.2) })
    | inr c ↦
        let f = climbs_one above first c.0 in
        let s = climbs_one above second c.1 in
        (f.0, f.1, s.0, s.1, record { row = m.row; left = m.left; right = m.right; join = m.join; meet = inr (f.2, s.2) })
  ]

  pub between_more : {first second : List ℕ} {a b : ℕ} → Contains first a → Contains second b → MeetBetween of t above (a ∷ []) (b ∷ [])
      → MeetBetween of t above first second
  between_more {first} {second} f s m = record {
    row = m.row;
    left = m.left;
    right = m.right;
    join = m.join;
    meet = elim m.meet [ inl c ↦ inl (climbs_more above first f c.0, climbs_more above second s c.1) | inr c ↦ inr (climbs_more above first f c.0, climbs_more above second s c.1) ];
  }

  -- the sides exchanged
  pub turned : {a b : ℕ} → MeetBetween of t above (a ∷ []) (b ∷ []) → MeetBetween of t above (b ∷ []) (a ∷ [])
  turned m = record {
    row = m.row;
    left = m.left;
    right = m.right;
    join = m.join;
    meet = elim m.meet [ inl c ↦ inr (c.1, c.0) | inr c ↦ inl (c.1, c.0) ];
  }

  module _ (ls : List (ℕ × NameClass)) (row : ℕ) (class : NameClass) (alone others : List ℕ) (one : alone ≡ row ∷ []) (there : Contains ls (row, class))
      (are : (k : ℕ) → (Contains others k → (c : NameClass) × Contains ls (k, c) × Overlap (class_of class) (class_of c)))
      (all : (k : ℕ) (c : NameClass) → Contains ls (k, c) → Overlap (class_of class) (class_of c) → Contains others k) where
    pub meeting_of : MeetBetween of t above alone others → Meeting of t above ls
    meeting_of m =
        let b = between_one m in
        let c = are b.2 b.3 in
        let same : row ≡ b.0 = one_only row b.0 (subst (λ xs. Contains xs b.0) one b.1) in record {
          first = (row, class);
          second = (b.2, c.0);
          first_there = there;
          second_there = c.1;
          overlap = c.2;
          meet = subst (λ k. MeetBetween of t above (k ∷ []) (b.2 ∷ [])) (sym same) b.4;
        }

    pub no_meeting : (answer : Bool) → (MeetBetween of t above alone others → IsTrue answer) → IsFalse answer → (m : Meeting of t above ls) → ◌≡◌ {A = ℕ × NameClass} m.first (row, class)
        → IsPlain m.first.1
    no_meeting answer found untrue m e =
        let of_class : Overlap (class_of class) (class_of m.second.1) = subst (λ (l : ℕ × NameClass). Overlap (class_of l.1) (class_of m.second.1)) e m.overlap in
        let here : Contains alone m.first.0 = subst (λ xs. Contains xs m.first.0) (sym one) (0, omega arith, sym (ap (λ (l : ℕ × NameClass). l.0) e)) in
        absurd (true≢false (sym (found (between_more here (all m.second.0 m.second.1 m.second_there of_class) m.meet)) ∙ untrue))

-- one more row is marked, of which the same holds as of those that are marked
pub marked_more : (P : ℕ → Type 0) (marks : List Bool) (row : ℕ) → ((k : ℕ) → slice_get marks k ≡ Some true → P k) → P row
    → (k : ℕ) → slice_get (set marks row true) k ≡ Some true → P k
marked_more P marks row each own k h = elim (cases_eq k row) [
  | inl e ↦ subst P (sym e) own
  | inr n ↦
      let inside = slice_get_within (set marks row true) k true h in
      let there : k < length marks = omega (arith, inside, length-set marks row true) in
      each k (slice_get-get_or marks k true there
      ∙ ap Some (sym (get_or-set_other marks row k true true n) ∙ get_or_from_slice_get (set marks row true) k true true h))
]
