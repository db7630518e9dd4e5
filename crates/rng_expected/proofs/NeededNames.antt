-- Names of attributes that patterns need.
use Rattle.std.proofs.Common.{◌≡◌, ◌∙◌, ◌↔◌, ◌⊎◌, inl, inr, ℕ, ◌+◌, ◌<◌, ◌≤◌, List, [], ◌∷◌, ◌++◌, All, Bool, true, false, length, map, take, rules, get_or, refl, sym, ap, subst}
use Rattle.std.proofs.Common.{Bor, Box, Contains, Global, Vec, arith, ⊎_elim}
use Rattle.std.proofs.lemmas.List.{get_or_append_left, get_or_push, length-append, map_more, take_all, take_more}
use Rattle.std.proofs.lemmas.Bool.{cases_eq}
use Rattle.std.proofs.lemmas.List.Elements.{All-append, All-cons, All-head, All-map, All-nil, All-tail}
use Rattle.rng_model.specs.names.Names.{Name, NameClass, NameClasses, any_except, any_name, class_list, name_is, ns_except, ns_name, one_of, some_of}
use Rattle.rng_model.specs.names.NameViews.{class_of, namespace_bytes}
use Rattle.rng_model.specs.declared.name.NameClass as declared
use Rattle.rng_model.specs.declared.name.NameClass.{fold-NameClass, the_lemmas}
use Rattle.rng_model.specs.declared.namespace.Namespace.{Namespace}
use Rattle.rng_model.specs.declared.name.NameClass.TheVariants as classes
use Rattle.std.proofs.lemmas.Bool.{and_parts, eqb-true}
use Rattle.std.proofs.lemmas.List.{length-map}
use Rattle.std.specs.List.{list_all}
use Rattle.std.specs.Prelude.{◌==◌, ◌&&◌}
use Rattle.rng_model.specs.simple.TableRules.{IsPaired, paired_step}
use Rattle.rng_model.specs.simple.Table.{Table}
use Rattle.rng_model.specs.simple.Tree.{Simple}
use Rattle.rng_deriv_table.specs.views.Trees.{choice_from, choice_over, tree_of}
use Rattle.rng_expected.specs.Tags.{Needs}
use Rattle.rng_deriv_table.proofs.KnownFacts.{of_members}
use Rattle.rng_deriv_table.specs.views.Node.{Node}
use Rattle.rng_deriv_table.specs.declared.pattern.PatternNumber.{PatternNumber}
use Rattle.rng_expected.specs.plain.TagLeaves.{AllNeed, AreNeeded, AreTests, IsNoName}
use Rattle.rng_expected.proofs.TagLeaves.{kept, kept_or_pushed, pushed}

module _ (n : Name) (of : ℕ → Simple ℕ) where
  abbrev Has : ℕ → Type 0
  Has k = Needs n (of k)

  choice_needs : (m : ℕ) (ms : List ℕ) → Needs n (choice_from of m ms) ↔ All Has (m ∷ ms)
  choice_needs m [] = (λ h. All-cons Has m [] h (All-nil Has), λ a. All-head Has m [] a)
  choice_needs m (k ∷ ms) = (
    λ h. All-cons Has m (k ∷ ms) h.0 ((choice_needs k ms).0 h.1),
    λ a. (All-head Has m (k ∷ ms) a, (choice_needs k ms).1 (All-tail Has m (k ∷ ms) a)),
  )

  -- a choice needs what each of its members needs
  pub members_need : (ms : List ℕ) → Needs n (choice_over of ms) ↔ All Has ms
  members_need [] = (λ h. All-nil Has, λ a. tt)
  members_need (m ∷ ms) = choice_needs m ms

-- one more item of which something is so
pub one_more : {A : Type 0} (P : A → Type 0) (xs : List A) (i : ℕ) (d : A) → i < length xs → All P (take i xs) → P (get_or xs i d)
    → All P (take (i + 1) xs)
one_more P xs i d within all p = subst (All P) (sym (take_more xs i d within))
    (All-append P (take i xs) (get_or xs i d ∷ []) all (All-cons P (get_or xs i d) [] p (All-nil P)))

-- all items are among the first ones
pub all_of_first : {A : Type 0} (P : A → Type 0) (xs : List A) (i : ℕ) → length xs ≤ i → All P (take i xs) → All P xs
all_of_first P xs i long all = subst (All P) (take_all i xs long) all

-- ---- tests of the patterns of a table

module _ (n : Name) (of : ℕ → Simple ℕ) (tests : List Bool) (each : (i : ℕ) → i < length tests → (get_or tests i false ≡ true) ↔ Needs n (of i)) where
  abbrev Holds : PatternNumber → Type 0
  Holds m = get_or tests m.0 false ≡ true

  -- a choice of these members
  pub members_tested : (ms : List PatternNumber) → All (λ m. m.0 < length tests) ms → All Holds ms ↔ Needs n (choice_over of (map (λ m. m.0) ms))
  members_tested ms below = (
    λ a. (members_need n of (map (λ (m : PatternNumber). m.0) ms)).1
        (All-map (λ k. Needs n (of k)) (λ (m : PatternNumber). m.0) ms (λ k d within. (each (get_or ms k d).0 (below k d within)).0 (a k d within))),
    λ h.
        let all = of_members (λ k. Needs n (of k)) ms ((members_need n of (map (λ (m : PatternNumber). m.0) ms)).0 h) in
        λ k d within. (each (get_or ms k d).0 (below k d within)).1 (all k d within),
  )

module _ (t : Table) (ns : List Node) (n : Name) (old new : List Bool) (b : Bool) (was : AreTests t ns n old) (added : new ≡ old ++ b ∷ []) where
  -- the test of one more pattern
  pub one_test : ((b ≡ true) ↔ Needs n (tree_of t ns (length old))) → AreTests t ns n new
  one_test row = record { each = λ i within. ⊎_elim (before i) (this i) (below_or_there i (long i within)) }
    where
      long : (i : ℕ) → i < length new → i < length old + 1
      long i within = let e = ap length added ∙ length-append old (b ∷ []) in omega (arith, e, within)

      below_or_there : (i : ℕ) → i < length old + 1 → (i < length old) ⊎ (i ≡ length old)
      below_or_there i within = ⊎_elim (λ e. inr e) (λ ne. inl (omega (arith, within, ne))) (cases_eq i (length old))

      before : (i : ℕ) → i < length old → (get_or new i false ≡ true) ↔ Needs n (tree_of t ns i)
      before i within = subst (λ v. (v ≡ true) ↔ Needs n (tree_of t ns i))
          (sym (ap (λ xs. get_or xs i false) added ∙ get_or_append_left old (b ∷ []) false i within)) (was.each i within)

      this : (i : ℕ) → i ≡ length old → (get_or new i false ≡ true) ↔ Needs n (tree_of t ns i)
      this i e = subst (λ k. (get_or new k false ≡ true) ↔ Needs n (tree_of t ns k)) (sym e)
          (subst (λ v. (v ≡ true) ↔ Needs n (tree_of t ns (length old)))
          (sym (ap (λ xs. get_or xs (length old) false) added ∙ get_or_push old b false (length old) refl)) row)

-- ---- one more class

module _ (t : Table) (ns : List Node) (bodies : List PatternNumber) (cs more : List NameClass) (c : NameClass) (are : more ≡ cs ++ c ∷ [])
    (names : List Name) (was : AreNeeded t ns bodies cs names) where
  -- none that is needed
  pub not_needed : ((n : Name) → c ≡ name_is n → AllNeed t ns n bodies → ⊥) → AreNeeded t ns bodies more names
  not_needed none = λ n. (
    λ h. let d = (was n).0 h in (kept cs more c are (name_is n) d.0, d.1),
    λ d. ⊎_elim (λ before. (was n).1 (before, d.1)) (λ e. absurd (none n e d.1)) (kept_or_pushed cs more c are (name_is n) d.0),
  )

  -- one that is needed
  pub one_needed : (n : Name) (after : List Name) → c ≡ name_is n → AllNeed t ns n bodies → after ≡ names ++ n ∷ [] → AreNeeded t ns bodies more after
  one_needed n after is all added = λ m. (
    λ h. ⊎_elim
        (λ before. let d = (was m).0 before in (kept cs more c are (name_is m) d.0, d.1))
        (λ e. (subst (Contains more) (is ∙ ap name_is e) (pushed cs more c are), subst (λ n. AllNeed t ns n bodies) e all))
        (kept_or_pushed names after n added m h),
    λ d. ⊎_elim
        (λ before. kept names after n added m ((was m).1 (before, d.1)))
        (λ e. subst (Contains after) (let same : name_is n ≡ name_is m = sym is ∙ e in cc) (pushed names after n added))
        (kept_or_pushed cs more c are (name_is m) d.0),
  )

-- the class of one more item
pub class_more : (xs : List (Bor declared.NameClass)) (i : ℕ) (d : Bor declared.NameClass) → i < length xs → d ≡ get_or xs i d
    → map (λ c. class_of c.now) (take (i + 1) xs) ≡ map (λ c. class_of c.now) (take i xs) ++ class_of d.now ∷ []
class_more xs i d within is =
    map_more (λ c. class_of c.now) xs i d within ∙ ap (λ e. map (λ c. class_of c.now) (take i xs) ++ class_of e.now ∷ []) (sym is)

pub other_name : (n m : Name) → name_is n ≡ name_is m → n ≡ m
other_name n m e = cc

-- ---- classes that are not one name alone

pub any_is_no_name : (class : declared.NameClass) → class ≡ classes.Any → IsNoName (class_of class)
any_is_no_name class is n e =
    let seen : class_of classes.Any ≡ any_name = search (rules, the_lemmas) in
    let no : any_name ≡ name_is n = sym seen ∙ sym (ap class_of is) ∙ e in absurd cc

pub any_except_is_no_name : (class : declared.NameClass) (b : Box declared.NameClass Global) → class ≡ classes.AnyExcept b → IsNoName (class_of class)
any_except_is_no_name class b is n e =
    let seen : class_of (classes.AnyExcept b) ≡ any_except (class_of b.value) = search (rules, the_lemmas) in
    let no : any_except (class_of b.value) ≡ name_is n = sym seen ∙ sym (ap class_of is) ∙ e in absurd cc

pub ns_is_no_name : (class : declared.NameClass) (ns : Namespace) → class ≡ classes.Ns ns → IsNoName (class_of class)
ns_is_no_name class ns is n e =
    let seen : class_of (classes.Ns ns) ≡ ns_name (namespace_bytes ns) = search (rules, the_lemmas) in
    let no : ns_name (namespace_bytes ns) ≡ name_is n = sym seen ∙ sym (ap class_of is) ∙ e in absurd cc

pub ns_except_is_no_name : (class : declared.NameClass) (ns : Namespace) (b : Box declared.NameClass Global) → class ≡ classes.NsExcept ns b
    → IsNoName (class_of class)
ns_except_is_no_name class ns b is n e =
    let seen : class_of (classes.NsExcept ns b) ≡ ns_except (namespace_bytes ns) (class_of b.value) = search (rules, the_lemmas) in
    let no : ns_except (namespace_bytes ns) (class_of b.value) ≡ name_is n = sym seen ∙ sym (ap class_of is) ∙ e in absurd cc

two_are_not_one : (n : Name) (c d : NameClass) (cs : NameClasses) → one_of c d cs ≡ name_is n → ⊥
two_are_not_one n c d cs e = absurd cc

some_are_not_one : (n : Name) (cs : List declared.NameClass) → length cs ≡ 2 → some_of (map class_of cs) ≡ name_is n → ⊥
some_are_not_one n [] long e = absurd cc
some_are_not_one n (c ∷ []) long e = absurd cc
some_are_not_one n (c ∷ (d ∷ cs)) long e = two_are_not_one n (class_of c) (class_of d) (class_list (map class_of cs)) e

abbrev are_paired : List declared.NameClass → List Bool
are_paired cs = map (fold-NameClass Bool paired_step) cs

-- each choice has two members
pub choice_is_no_name : (class : declared.NameClass) (members : Vec declared.NameClass Global) → class ≡ classes.Choice members → IsPaired class
    → IsNoName (class_of class)
choice_is_no_name class members is paired n e =
    let seen : class_of (classes.Choice members) ≡ some_of (map class_of members.items) = search (rules, the_lemmas) in
    let both : fold-NameClass Bool paired_step (classes.Choice members)
    ≡ ((length (are_paired members.items) == 2) && list_all (λ b. b) (are_paired members.items)) = search (rules, the_lemmas) in
    let two = and_parts (length (are_paired members.items) == 2) (list_all (λ b. b) (are_paired members.items))
    (sym both ∙ sym (ap (fold-NameClass Bool paired_step) is) ∙ paired) in
    some_are_not_one n members.items (sym (length-map members.items (fold-NameClass Bool paired_step)) ∙ eqb-true (length (are_paired members.items)) 2 two.0)
    (sym seen ∙ sym (ap class_of is) ∙ e)
