-- Groups with copies of an option, nested in another way: they take the same, and obey the same restrictions.
use Rattle.std.proofs.Common.{◌≡◌, ◌∙◌, ℕ, ◌<◌, ◌≤◌, inl, Bool, true, false, List, [], ◌∷◌, ◌++◌, Option, Some, None, cond, length, map, slice_get}
use Rattle.std.proofs.Common.{slice_index_or, refl, sym, ap, subst, arith}
use Rattle.std.proofs.lemmas.List.{append-nil}
use Rattle.std.specs.HashMap.{HashMap, IsEmpty, get}
use Rattle.std.specs.Map.{lookup}
use Rattle.std.proofs.lemmas.Option.{none-some, same_Some}
use Rattle.rng_deriv_laws.proofs.Restricted.{greater_itself}
use Rattle.rng_model.specs.matching.Document.{Attribute, Item, Interleaves, done}
use Rattle.rng_model.specs.matching.GrammarMatching.{Reading}
use Rattle.rng_model.specs.restrictions.Contents.{ContentType, empty_content, complex_content, simple_content}
use Rattle.rng_model.specs.simple.Table.{Table}
use Rattle.rng_model.specs.simple.Tree.{Simple, choice, group, s_joined}
use Rattle.rng_model.proofs.OneSidedInterleavings.{left_alone, right_alone}
use Rattle.rng_deriv_laws.specs.plain.Derivatives.{is_empty, joined_of}
use Rattle.rng_deriv_laws.specs.plain.Restricted.{content_type, type_of_both, type_of_choice}
use Rattle.rng_deriv_laws.specs.plain.Taking.{Takes, Same}
use Rattle.rng_deriv_laws.specs.plain.Taking as t
use Rattle.rng_deriv_laws.proofs.SamePatterns.{empty_then, group_associative, same, same_back, same_group, same_through, then_empty, empty_is}
use Rattle.rng_deriv_table.specs.plain.Copies.{AreCopies, one, both}
use Rattle.rng_deriv_table.specs.plain.Kept.{IsRegrouped, KeepsRestrictions}
use Rattle.rng_deriv_table.specs.views.Node.{Node}
use Rattle.rng_deriv_table.specs.views.Node as node
use Rattle.rng_deriv_table.specs.views.Options.{AreOptions, IsOfOption, IsOptionOf, option}
use Rattle.rng_deriv_table.specs.views.PatternTable.{IsPatternTable, Longer}
use Rattle.rng_deriv_table.specs.views.Trees.{tree_of}
use Rattle.rng_deriv_table.specs.declared.pattern.PatternNumber.{PatternNumber}
use Rattle.rng_deriv_table.specs.contracts.pattern.PatternNumberPartialEq.TheImpl as number
use Rattle.rng_deriv_table.proofs.KeptRestrictions.{group_kept, kept_same, kept_through}
use Rattle.rng_deriv_table.proofs.MemberSkips.{same_number}
use Rattle.rng_deriv_table.proofs.Trees.{Longer-length, tree_of-over_parts, tree_stays}

-- ---- what is taken

module _ (g : Reading) (p o : Simple ℕ) (is : Same g o (option p)) where
  abbrev Implies : Simple ℕ → Simple ℕ → Type 0
  Implies p q = (xs : List Attribute) (ns : List Item) → Takes g p xs ns → Takes g q xs ns

  -- copies of the option may all be left out
  nothing : (q : Simple ℕ) → AreCopies o q → Takes g q [] []
  nothing q (one e) = subst (λ (r : Simple ℕ). Takes g r [] []) (sym e) (is.back [] [] (t.first t.empty_is))
  nothing (s_joined group q r) (both c d) = t.grouped (nothing q c) (nothing r d) done refl

  abbrev then_copies : Simple ℕ → Simple ℕ
  then_copies q = option (s_joined group p q)

  one_begins : (q : Simple ℕ) → AreCopies o q → {xs : List Attribute} {ns : List Item} → Takes g (option p) xs ns → Takes g (then_copies q) xs ns
  one_begins q c (t.first h) = t.first h
  one_begins q c {xs} {ns} (t.second h) = t.second (t.grouped h (nothing q c) (left_alone xs) (append-nil ns))

  behind_none : (q r : Simple ℕ) → AreCopies o q → Implies (then_copies r) (then_copies (s_joined group q r))
  behind_none q r c xs ns (t.first h) = t.first h
  behind_none q r c xs ns (t.second (t.grouped {ys = ys} h j i k)) = t.second (t.grouped h (t.grouped (nothing q c) j (right_alone ys) refl) i k)

  both_begin : (q r : Simple ℕ) → AreCopies o q → Implies r (then_copies r) → {xs ys zs : List Attribute} {ms ns os : List Item}
      → Takes g (then_copies q) xs ms → Takes g r ys ns → Interleaves xs ys zs → ms ++ ns ≡ os → Takes g (then_copies (s_joined group q r)) zs os
  both_begin q r c more {zs = zs} {os = os} (t.first h) e i k =
      behind_none q r c zs os (more zs os ((empty_then g r).back zs os (t.grouped h e i k)))
  both_begin q r c more {zs = zs} {os = os} (t.second h) e i k = t.second ((group_associative g p q r).to zs os (t.grouped h e i k))

  -- what copies take is nothing, or begins with what the pattern takes
  copies_begin : (q : Simple ℕ) → AreCopies o q → Implies q (then_copies q)
  copies_begin q (one e) xs ns d = one_begins q (one e) (is.to xs ns (subst (λ (r : Simple ℕ). Takes g r xs ns) e d))
  copies_begin (s_joined group q r) (both c f) xs ns (t.grouped d e i k) = both_begin q r c (copies_begin r f) (copies_begin q c _ _ d) e i k

  -- an option of a pattern and then copies of that option
  pub option_first : (q : Simple ℕ) → AreCopies o q → Same g (s_joined group o q) (then_copies q)
  option_first q c = record { to = to; back = back } where
    by : {xs ys zs : List Attribute} {ms ns os : List Item} → Takes g (option p) xs ms → Takes g q ys ns → Interleaves xs ys zs → ms ++ ns ≡ os
        → Takes g (then_copies q) zs os
    by {zs = zs} {os = os} (t.first h) e i k = copies_begin q c zs os ((empty_then g q).back zs os (t.grouped h e i k))
    by (t.second h) e i k = t.second (t.grouped h e i k)

    to : Implies (s_joined group o q) (then_copies q)
    to xs ns (t.grouped d e i k) = by (is.to _ _ d) e i k

    back : Implies (then_copies q) (s_joined group o q)
    back xs ns (t.first t.empty_is) = t.grouped (is.back [] [] (t.first t.empty_is)) (nothing q c) done refl
    back xs ns (t.second (t.grouped d e i k)) = t.grouped (is.back _ _ (t.second d)) e i k

  -- the option of a pattern and then the pattern
  pub option_last : Same g (s_joined group p o) (s_joined group o p)
  option_last = record { to = to; back = back } where
    none : Takes g o [] []
    none = is.back [] [] (t.first t.empty_is)

    forth_by : {xs ys zs : List Attribute} {ms ns os : List Item} → Takes g p xs ms → Takes g (option p) ys ns → Interleaves xs ys zs → ms ++ ns ≡ os
        → Takes g (s_joined group o p) zs os
    forth_by {zs = zs} {os = os} d (t.first h) i k = t.grouped none ((then_empty g p).back zs os (t.grouped d h i k)) (right_alone zs) refl
    forth_by d (t.second h) i k = t.grouped (is.back _ _ (t.second d)) h i k

    to : Implies (s_joined group p o) (s_joined group o p)
    to xs ns (t.grouped d e i k) = forth_by d (is.to _ _ e) i k

    back_by : {xs ys zs : List Attribute} {ms ns os : List Item} → Takes g (option p) xs ms → Takes g p ys ns → Interleaves xs ys zs → ms ++ ns ≡ os
        → Takes g (s_joined group p o) zs os
    back_by {zs = zs} {os = os} (t.first h) e i k = t.grouped ((empty_then g p).back zs os (t.grouped h e i k)) none (left_alone zs) (append-nil os)
    back_by (t.second h) e i k = t.grouped h (is.back _ _ (t.second e)) i k

    back : Implies (s_joined group o p) (s_joined group p o)
    back xs ns (t.grouped d e i k) = back_by (is.to _ _ d) e i k

-- a copy in front of copies, or behind them
copies_turned : (g : Reading) (o q : Simple ℕ) → AreCopies o q → Same g (s_joined group o q) (s_joined group q o)
copies_turned g o q (one e) = subst (λ (r : Simple ℕ). Same g (s_joined group o r) (s_joined group r o)) (sym e) (same g (s_joined group o o))
copies_turned g o (s_joined group q r) (both c d) =
    same_through g (same_back g (group_associative g o q r))
    (same_through g (same_group g (copies_turned g o q c) (same g r))
    (same_through g (group_associative g q o r)
    (same_through g (same_group g (same g q) (copies_turned g o r d)) (same_back g (group_associative g q r o)))))

pub one_more_copy : (g : Reading) (p o q : Simple ℕ) → AreCopies o q
    → Same g (s_joined group p (s_joined group o q)) (s_joined group (s_joined group p q) o)
one_more_copy g p o q c = same_through g (same_group g (same g p) (copies_turned g o q c)) (same_back g (group_associative g p q o))

-- ---- restrictions

-- the type of a group whose first side may be left out is that of the group that may be left out
with_option : (a b : Option ContentType) (c : ContentType) → type_of_choice (Some empty_content) (type_of_both a b) ≡ Some c
    → type_of_both (type_of_choice (Some empty_content) a) b ≡ Some c
with_option None None c e = absurd (cc)
with_option None (Some empty_content) c e = absurd (cc)
with_option None (Some complex_content) c e = absurd (cc)
with_option None (Some simple_content) c e = absurd (cc)
with_option (Some empty_content) None c e = absurd (cc)
with_option (Some empty_content) (Some empty_content) c e = e
with_option (Some empty_content) (Some complex_content) c e = e
with_option (Some empty_content) (Some simple_content) c e = e
with_option (Some complex_content) None c e = absurd (cc)
with_option (Some complex_content) (Some empty_content) c e = e
with_option (Some complex_content) (Some complex_content) c e = e
with_option (Some complex_content) (Some simple_content) c e = absurd (cc)
with_option (Some simple_content) None c e = absurd (cc)
with_option (Some simple_content) (Some empty_content) c e = e
with_option (Some simple_content) (Some complex_content) c e = absurd (cc)
with_option (Some simple_content) (Some simple_content) c e = e

both_turned : (a b : Option ContentType) (c : ContentType) → type_of_both a b ≡ Some c → type_of_both b a ≡ Some c
both_turned None None c e = absurd (cc)
both_turned None (Some empty_content) c e = absurd (cc)
both_turned None (Some complex_content) c e = absurd (cc)
both_turned None (Some simple_content) c e = absurd (cc)
both_turned (Some empty_content) None c e = absurd (cc)
both_turned (Some empty_content) (Some empty_content) c e = e
both_turned (Some empty_content) (Some complex_content) c e = e
both_turned (Some empty_content) (Some simple_content) c e = e
both_turned (Some complex_content) None c e = absurd (cc)
both_turned (Some complex_content) (Some empty_content) c e = e
both_turned (Some complex_content) (Some complex_content) c e = e
both_turned (Some complex_content) (Some simple_content) c e = absurd (cc)
both_turned (Some simple_content) None c e = absurd (cc)
both_turned (Some simple_content) (Some empty_content) c e = e
both_turned (Some simple_content) (Some complex_content) c e = absurd (cc)
both_turned (Some simple_content) (Some simple_content) c e = e

-- the types of three, grouped in another way and in another order
both_regrouped : (a b d : Option ContentType) (c : ContentType) → type_of_both (type_of_both a b) d ≡ Some c → type_of_both a (type_of_both d b) ≡ Some c
both_regrouped None b d c e = absurd (cc)
both_regrouped (Some empty_content) None d c e = absurd (cc)
both_regrouped (Some empty_content) (Some empty_content) None c e = absurd (cc)
both_regrouped (Some empty_content) (Some empty_content) (Some empty_content) c e = e
both_regrouped (Some empty_content) (Some empty_content) (Some complex_content) c e = e
both_regrouped (Some empty_content) (Some empty_content) (Some simple_content) c e = e
both_regrouped (Some empty_content) (Some complex_content) None c e = absurd (cc)
both_regrouped (Some empty_content) (Some complex_content) (Some empty_content) c e = e
both_regrouped (Some empty_content) (Some complex_content) (Some complex_content) c e = e
both_regrouped (Some empty_content) (Some complex_content) (Some simple_content) c e = absurd (cc)
both_regrouped (Some empty_content) (Some simple_content) None c e = absurd (cc)
both_regrouped (Some empty_content) (Some simple_content) (Some empty_content) c e = e
both_regrouped (Some empty_content) (Some simple_content) (Some complex_content) c e = absurd (cc)
both_regrouped (Some empty_content) (Some simple_content) (Some simple_content) c e = e
both_regrouped (Some complex_content) None d c e = absurd (cc)
both_regrouped (Some complex_content) (Some empty_content) None c e = absurd (cc)
both_regrouped (Some complex_content) (Some empty_content) (Some empty_content) c e = e
both_regrouped (Some complex_content) (Some empty_content) (Some complex_content) c e = e
both_regrouped (Some complex_content) (Some empty_content) (Some simple_content) c e = absurd (cc)
both_regrouped (Some complex_content) (Some complex_content) None c e = absurd (cc)
both_regrouped (Some complex_content) (Some complex_content) (Some empty_content) c e = e
both_regrouped (Some complex_content) (Some complex_content) (Some complex_content) c e = e
both_regrouped (Some complex_content) (Some complex_content) (Some simple_content) c e = absurd (cc)
both_regrouped (Some complex_content) (Some simple_content) d c e = absurd (cc)
both_regrouped (Some simple_content) None d c e = absurd (cc)
both_regrouped (Some simple_content) (Some empty_content) None c e = absurd (cc)
both_regrouped (Some simple_content) (Some empty_content) (Some empty_content) c e = e
both_regrouped (Some simple_content) (Some empty_content) (Some complex_content) c e = absurd (cc)
both_regrouped (Some simple_content) (Some empty_content) (Some simple_content) c e = e
both_regrouped (Some simple_content) (Some complex_content) d c e = absurd (cc)
both_regrouped (Some simple_content) (Some simple_content) None c e = absurd (cc)
both_regrouped (Some simple_content) (Some simple_content) (Some empty_content) c e = e
both_regrouped (Some simple_content) (Some simple_content) (Some complex_content) c e = absurd (cc)
both_regrouped (Some simple_content) (Some simple_content) (Some simple_content) c e = e

-- a group that may be left out, and a group whose first side may be
option_kept : (p q : Simple ℕ) → KeepsRestrictions (option (s_joined group p q)) (s_joined group (option p) q)
option_kept p q = record {
  bare = λ h. ((h.0, h.1.0), h.1.1);
  ungrouped = λ h. ((h.0, h.1.0), h.1.1);
  repeats = λ h. ((h.0, h.1.0), h.1.1);
  texts = λ h. ((h.0, h.1.0), h.1.1);
  unlisted = λ h. ((h.0, h.1.0), h.1.1);
  content = λ c e. inl (c, with_option (content_type p) (content_type q) c e, greater_itself c);
  not_allowed = λ e. absurd (cc);
}

turned_kept : (p q : Simple ℕ) → KeepsRestrictions (s_joined group p q) (s_joined group q p)
turned_kept p q = record {
  bare = λ h. (h.1, h.0);
  ungrouped = λ h. (h.1, h.0);
  repeats = λ h. (h.1, h.0);
  texts = λ h. (h.1, h.0);
  unlisted = λ h. (h.1, h.0);
  content = λ c e. inl (c, both_turned (content_type p) (content_type q) c e, greater_itself c);
  not_allowed = λ e. absurd (cc);
}

more_kept : (p q o : Simple ℕ) → KeepsRestrictions (s_joined group (s_joined group p q) o) (s_joined group p (s_joined group o q))
more_kept p q o = record {
  bare = λ h. (h.0.0, (h.1, h.0.1));
  ungrouped = λ h. (h.0.0, (h.1, h.0.1));
  repeats = λ h. (h.0.0, (h.1, h.0.1));
  texts = λ h. (h.0.0, (h.1, h.0.1));
  unlisted = λ h. (h.0.0, (h.1, h.0.1));
  content = λ c e. inl (c, both_regrouped (content_type p) (content_type q) (content_type o) c e, greater_itself c);
  not_allowed = λ e. absurd (cc);
}

-- ---- both

pub regrouped_same : (p : Simple ℕ) → IsRegrouped p p
regrouped_same p = record { same = λ g. same g p; kept = kept_same p }

pub regrouped_through : (p q r : Simple ℕ) → IsRegrouped p q → IsRegrouped q r → IsRegrouped p r
regrouped_through p q r a b = record { same = λ g. same_through g (b.same g) (a.same g); kept = kept_through a.kept b.kept }

-- a group as it is made
kept_made : (a b made : Simple ℕ) → made ≡ joined_of group a b → KeepsRestrictions (s_joined group a b) made
kept_made a b made e = subst (KeepsRestrictions (s_joined group a b)) (sym e) (group_kept a b a b (kept_same a) (kept_same b))

option_made : (p o q made : Simple ℕ) → IsRegrouped (option p) o → AreCopies o q → ((g : Reading) → Same g made (s_joined group o q))
    → made ≡ joined_of group o q → IsRegrouped (option (s_joined group p q)) made
option_made p o q made is c takes e = record {
  same = λ g. same_through g (takes g) (option_first g p o (is.same g) q c);
  kept = kept_through (option_kept p q)
      (subst (KeepsRestrictions (s_joined group (option p) q)) (sym e) (group_kept (option p) q o q is.kept (kept_same q)));
}

pub option_by : (whole o q made : Simple ℕ) → IsOfOption whole o q → ((g : Reading) → Same g made (s_joined group o q)) → made ≡ joined_of group o q
    → IsRegrouped (option whole) made
option_by whole o q made is takes e =
    subst (λ (w : Simple ℕ). IsRegrouped (option w) made) (sym is.is) (option_made is.first o q made is.option_is is.copies takes e)

pub turned_made : (p o made : Simple ℕ) → IsRegrouped (option p) o → ((g : Reading) → Same g made (s_joined group p o)) → made ≡ joined_of group p o
    → IsRegrouped (s_joined group o p) made
turned_made p o made is takes e = record {
  same = λ g. same_through g (takes g) (option_last g p o (is.same g));
  kept = kept_through (turned_kept o p) (kept_made p o made e);
}

pub more_made : (p o q inner made : Simple ℕ) → AreCopies o q → ((g : Reading) → Same g inner (s_joined group o q)) → inner ≡ joined_of group o q
    → ((g : Reading) → Same g made (s_joined group p inner)) → made ≡ joined_of group p inner → IsRegrouped (s_joined group (s_joined group p q) o) made
more_made p o q inner made c inside is takes e = record {
  same = λ g. same_through g (takes g) (same_through g (same_group g (same g p) (inside g)) (one_more_copy g p o q c));
  kept = kept_through (more_kept p q o)
      (subst (KeepsRestrictions (s_joined group p (s_joined group o q))) (sym e)
      (group_kept p (s_joined group o q) p inner (kept_same p) (kept_made o q inner is)));
}

-- ---- options that are kept

pub no_options : {Z : Type 0} (ns : List Node) (kept : HashMap PatternNumber PatternNumber Z) → IsEmpty kept → AreOptions ns kept
no_options {Z} ns kept empty p o h = absurd (none-some _ (subst (λ es. lookup (number.ghosts.eq p) es ≡ Some o) empty h))

-- one more
pub option_put : {Z : Type 0} (ns : List Node) (old more : HashMap PatternNumber PatternNumber Z) (p o : PatternNumber) → IsOptionOf ns p o
    → ((m : PatternNumber) → get number.ghosts.eq more m ≡ cond (number.ghosts.eq p m) (Some o) (get number.ghosts.eq old m)) → AreOptions ns old
    → AreOptions ns more
option_put {Z} ns old more p o is put all m n h = by (number.ghosts.eq p m) refl (sym (put m) ∙ h)
  where
    by : (b : Bool) → number.ghosts.eq p m ≡ b → cond b (Some o) (get number.ghosts.eq old m) ≡ Some n → IsOptionOf ns m n
    by true f e = subst (λ n. IsOptionOf ns m n) (same_Some _ _ e) (subst (λ m. IsOptionOf ns m o) (same_number p m f) is)
    by false f e = all m n e

pub options_longer : {Z : Type 0} (old new : List Node) (kept : HashMap PatternNumber PatternNumber Z) → Longer old new → AreOptions old kept
    → AreOptions new kept
options_longer old new kept longer all p o h =
    let is = all p o h in
    let long = Longer-length old new longer in
    let body = is.body in
    let inside = is.inside in
    record {
      body = omega (arith, body, long);
      inside = omega (arith, inside, long);
      is = λ t.
          subst (λ (q : Simple ℕ). IsRegrouped (option q) (tree_of t new o.0)) (sym (tree_stays t old new p.0 longer body))
          (subst (IsRegrouped (option (tree_of t old p.0))) (sym (tree_stays t old new o.0 longer inside)) (is.is t));
    }

-- ---- a choice of two patterns

-- the members of a choice of two are before it, and if the first one is empty, the choice is the option of the second one
pub option_there : (ns : List Node) (i : ℕ) (ms : List PatternNumber) (d e : PatternNumber) → IsPatternTable ns
    → slice_get ns i ≡ Some (node.choice (map (λ (m : PatternNumber). m.0) ms)) → 2 ≤ length ms → length ms < 3
    → ((slice_index_or ms 0 d).0 < i) × ((slice_index_or ms 1 e).0 < i)
    × ((t : Table) → is_empty (tree_of t ns (slice_index_or ms 0 d).0) ≡ true → tree_of t ns i ≡ option (tree_of t ns (slice_index_or ms 1 e).0))
option_there ns i [] d e table found two below = absurd (omega (arith, two))
option_there ns i (x ∷ []) d e table found two below = absurd (omega (arith, two))
option_there ns i (x ∷ y ∷ []) d e table found two below =
    let falls = table.falls i (node.choice (x.0 ∷ y.0 ∷ [])) found in (
      falls.1 0 0 (omega arith),
      falls.1 1 0 (omega arith),
      λ t none. tree_of-over_parts t ns i (node.choice (x.0 ∷ y.0 ∷ [])) falls found
          ∙ ap (λ p. s_joined choice p (tree_of t ns y.0)) (empty_is (tree_of t ns x.0) none),
    )
option_there ns i (x ∷ y ∷ z ∷ ms) d e table found two below = absurd (omega (arith, below))
