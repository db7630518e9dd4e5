-- Rows that meet are found in the groups by name, or have a class that is not a name.
use Rattle.std.proofs.Common.{◌≡◌, refl, ap, sym, ◌∙◌, subst, ℕ, ◌<◌, List, [], length, slice_index_or, Some, Contains, inl, inr, arith}
use Rattle.std.proofs.lemmas.Option.{slice_get_cases, slice_get_within}
use Rattle.rng_model.proofs.Options.{one_value, none_is_some}
use Rattle.rng_model.specs.names.Names as names
use Rattle.rng_model.specs.names.Names.{Overlap}
use Rattle.rng_model.specs.simple.Table.{Table}
use Rattle.rng_model.specs.names.NameViews.{class_of, name_of}
use Rattle.rng_model.specs.declared.name.Name.{Name}
use Rattle.rng_model.specs.declared.name.NameClass.{NameClass}
use Rattle.rng_model.specs.declared.name.NameClass.TheVariants as class
use Rattle.rng_names.specs.views.PlainNames.{IsPlain}
use Rattle.rng_names.proofs.NameViews.{are_texts, name_class_is}
use Rattle.rng_rules.specs.declared.names_meet.NamesOf.{NamesOf}
use Rattle.rng_rules.specs.views.NamesMeetLabels.{HasName, AreGroups}
use Rattle.rng_rules.specs.plain.NamesMeetReach.{AreBelow}
use Rattle.rng_rules.specs.views.NamesMeetRows.{IsLabelled, class_in}
use Rattle.rng_rules.specs.views.NamesMeetSearch.{Meeting}
use Rattle.rng_rules.specs.views.NamesMeetSides.{MeetBetween}
use Rattle.rng_rules.proofs.NamesMeetSearch.{between_one, between_more, turned}

overlap_of_same : (n m : Name) → name_of n ≡ name_of m → Overlap (class_of (class.Name n)) (class_of (class.Name m))
overlap_of_same n m e = (
  name_of n,
  are_texts n,
  subst (λ c. names.In c (name_of n)) (sym (name_class_is (class.Name n) n refl)) refl,
  subst (λ c. names.In c (name_of n)) (sym (name_class_is (class.Name m) m refl)) e,
)

module _ (of : NamesOf) (t : Table) (above : List (List ℕ)) (ls : List (ℕ × NameClass)) (qs : List names.Name) (groups : List (List ℕ))
    (are : AreGroups ls qs groups) where
  abbrev group : ℕ → List ℕ
  group k = slice_index_or groups k []

  pub group_meeting : (k : ℕ) → MeetBetween of t above (group k) (group k) → Meeting of t above ls
  group_meeting k m =
      let b = between_one m in
      let f = are.sound k b.0 b.1 in
      let s = are.sound k b.2 b.3 in
      let same : f.0 ≡ s.0 = one_value f.1 s.1 in record {
        first = (b.0, class.Name f.2.0);
        second = (b.2, class.Name s.2.0);
        first_there = f.2.1;
        second_there = s.2.1;
        overlap = overlap_of_same f.2.0 s.2.0 (f.2.2 ∙ same ∙ sym s.2.2);
        meet = b.4;
      }

  named : (l : ℕ × NameClass) (n : Name) → Contains ls l → l.1 ≡ class.Name n → HasName ls l.0 (name_of n)
  named l n h e = (n, subst (λ c. Contains ls (l.0, c)) e h, refl)

  -- two names meet in their group
  plain_meet : (m : Meeting of t above ls) → IsPlain m.first.1 → IsPlain m.second.1
      → (k : ℕ) × (k < length groups) × MeetBetween of t above (group k) (group k)
  plain_meet m f s =
      let o = m.overlap in
      let one : o.0 ≡ name_of f.0 = subst (λ c. names.In c o.0) (name_class_is m.first.1 f.0 f.1) o.2 in
      let two : o.0 ≡ name_of s.0 = subst (λ c. names.In c o.0) (name_class_is m.second.1 s.0 s.1) o.3 in
      let g = are.complete m.first.0 (name_of f.0) (named m.first f.0 m.first_there f.1) in
      let h = are.complete m.second.0 (name_of s.0) (named m.second s.0 m.second_there s.1) in
      let same : h.0 ≡ g.0 = are.apart h.0 g.0 (name_of s.0) h.1 (g.1 ∙ ap Some (sym one ∙ two)) in (
        g.0,
        (let l = slice_get_within qs g.0 (name_of f.0) g.1 in omega (arith, l, are.long)),
        between_more g.2 (subst (λ k. Contains (group k) m.second.0) same h.2) m.meet,
      )

  other_way : Meeting of t above ls → Meeting of t above ls
  other_way m = record {
    first = m.second;
    second = m.first;
    first_there = m.second_there;
    second_there = m.first_there;
    overlap = (m.overlap.0, m.overlap.1, m.overlap.3, m.overlap.2);
    meet = turned m.meet;
  }

  pub none_meet : ((k : ℕ) → k < length groups → ¬ (MeetBetween of t above (group k) (group k))) → ((m : Meeting of t above ls) → IsPlain m.first.1)
      → Meeting of t above ls → ⊥
  unfolding other_way
  none_meet none plain m = let p = plain_meet m (plain m) (plain (other_way m)) in none p.0 p.1 p.2

pub labelled_inside : (of : NamesOf) (t : Table) (row : ℕ) (c : NameClass) → IsLabelled of t row c → row < length t.patterns
labelled_inside of t row c e = elim (slice_get_cases t.patterns row).1 [
  | inl f ↦ slice_get_within t.patterns row f.0 f.2
  | inr f ↦ none_is_some (sym (ap (class_in of t.elements) f.1) ∙ e)
]

pub groups_inside : (of : NamesOf) (t : Table) (ls : List (ℕ × NameClass)) (qs : List names.Name) (groups : List (List ℕ)) → AreGroups ls qs groups
    → ((row : ℕ) (c : NameClass) → Contains ls (row, c) → IsLabelled of t row c) → AreBelow (length t.patterns) groups
groups_inside of t ls qs groups are sound k row h =
    let s = are.sound k row h in labelled_inside of t row (class.Name s.2.0) (sound row (class.Name s.2.0) s.2.1)
