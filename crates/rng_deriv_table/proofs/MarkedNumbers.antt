-- Marks on numbers.
use Rattle.std.proofs.Common.{◌≡◌, ◌⊎◌, ℕ, ◌+◌, ◌<◌, ◌≤◌, All, Bool, true, false, List, [], ◌∷◌, ◌++◌, length, set, get_or, refl, sym, ap, ◌∙◌}
use Rattle.std.proofs.Common.{subst, ⊎_elim, arith}
use Rattle.std.proofs.Common.{Contains, Some, inl, inr, slice_get}
use Rattle.std.proofs.lemmas.Bool.{cases_eq, cases_lt}
use Rattle.std.proofs.lemmas.List.{get_or_past, get_or-set_same, get_or-set_other, length-set}
use Rattle.std.proofs.lemmas.List.Elements.{All-append, All-cons, All-contains, All-nil, All-weaker, Contains-append_left, Contains-append_right}
use Rattle.std.proofs.lemmas.List.Elements.{Contains-get_or}
use Rattle.std.proofs.lemmas.Option.{get_or_from_slice_get}
use Rattle.rng_deriv_table.specs.views.Node.{Node, node_of}
use Rattle.rng_deriv_table.specs.views.Node as node
use Rattle.rng_deriv_table.specs.views.PatternTable.{IsPatternTable}
use Rattle.rng_deriv_table.specs.plain.Selecting.{AreClosedFrom, IsMarked, Marks, node_at, parts_of}
use Rattle.rng_deriv_table.specs.declared.pattern.Pattern.{Pattern}
use Rattle.rng_deriv_table.specs.declared.pattern.Pattern.TheVariants as pattern
use Rattle.rng_deriv_table.specs.declared.pattern.PatternNumber.{PatternNumber}
use Rattle.rng_deriv_table.proofs.Renumbering.{below_all, parts_below}

at_or_above : (i j : ℕ) → i ≤ j → (j ≡ i) ⊎ (i + 1 ≤ j)
at_or_above i j low = ⊎_elim (λ l. inr (omega (arith, l))) (λ l. inl (omega (arith, l, low))) (cases_lt i j)

pub nothing_marked : (marks : List Bool) → Marks marks marks []
nothing_marked marks = record { long = refl; stay = λ k m. m; done = All-nil (IsMarked marks); only = λ k m. inr m }

pub one_marked : (marks : List Bool) (i : ℕ) → i < length marks → Marks marks (set marks i true) (i ∷ [])
one_marked marks i inside = record {
  long = length-set marks i true;
  stay = λ k m. ⊎_elim (λ e. subst (IsMarked (set marks i true)) (sym e) here) (λ n. get_or-set_other marks i k true false n ∙ m) (cases_eq k i);
  done = All-cons (IsMarked (set marks i true)) i [] here (All-nil (IsMarked (set marks i true)));
  only = λ k m. ⊎_elim
      (λ e. inl (subst (Contains (i ∷ [])) (sym e) (Contains-get_or (i ∷ []) 0 i (omega arith))))
      (λ n. inr (sym (get_or-set_other marks i k true false n) ∙ m))
      (cases_eq k i);
}
  where
    here : get_or (set marks i true) i false ≡ true
    here = get_or-set_same marks i true false inside

pub then_marked : (old mid new : List Bool) (ms ks : List ℕ) → Marks old mid ms → Marks mid new ks → Marks old new (ms ++ ks)
then_marked old mid new ms ks f g = record {
  long = g.long ∙ f.long;
  stay = λ k m. g.stay k (f.stay k m);
  done = All-append (IsMarked new) ms ks (All-weaker (IsMarked mid) (IsMarked new) g.stay ms f.done) g.done;
  only = λ k m. ⊎_elim
      (λ c. inl (Contains-append_right ms ks k c))
      (λ o. ⊎_elim (λ c. inl (Contains-append_left ms ks k c)) (λ p. inr p) (f.only k o))
      (g.only k m);
}

-- one more pattern, from the last one down
pub closed_more : (ns : List Node) (old new : List Bool) (i : ℕ) → IsPatternTable ns → i < length ns → AreClosedFrom (i + 1) ns old
    → Marks old new (parts_of (node_at ns i)) → AreClosedFrom i ns new
closed_more ns old new i table inside closed marked j low m = ⊎_elim
    (λ e. subst (λ j. All (IsMarked new) (parts_of (node_at ns j))) (sym e) marked.done)
    (λ n. All-weaker (IsMarked old) (IsMarked new) marked.stay (parts_of (node_at ns j)) (closed j (above n) (was n)))
    (cases_eq j i)
  where
    above : (j ≡ i → ⊥) → i + 1 ≤ j
    above n = ⊎_elim (λ e. absurd (n e)) (λ l. l) (at_or_above i j low)

    was : (j ≡ i → ⊥) → IsMarked old j
    was n = ⊎_elim
        (λ c. let l = All-contains (λ k. k < i) (parts_of (node_at ns i)) j (parts_below ns table i inside) c in absurd (omega (arith, l, low)))
        (λ o. o)
        (marked.only j m)

-- a pattern that is not marked
pub closed_past : (ns : List Node) (marks : List Bool) (i : ℕ) → (IsMarked marks i → ⊥) → AreClosedFrom (i + 1) ns marks → AreClosedFrom i ns marks
closed_past ns marks i unmarked closed j low m = ⊎_elim
    (λ e. absurd (unmarked (subst (IsMarked marks) e m)))
    (λ l. closed j l m)
    (at_or_above i j low)

-- no pattern is past the end
pub closed_at_end : (ns : List Node) (marks : List Bool) (low : ℕ) → length ns ≤ low → AreClosedFrom low ns marks
closed_at_end ns marks low past i h m =
    subst (λ n. All (IsMarked marks) (parts_of n)) (sym (get_or_past ns i node.not_allowed (omega (arith, past, h)))) (All-nil (IsMarked marks))

-- other patterns have no parts
pub no_parts : (p : Pattern) → ((ms : _) → p ≡ pattern.Choice ms → ⊥) → ((a b : _) → p ≡ pattern.Group a b → ⊥)
    → ((a b : _) → p ≡ pattern.Interleave a b → ⊥) → ((a : _) → p ≡ pattern.OneOrMore a → ⊥) → parts_of (node_of p) ≡ []
no_parts pattern.NotAllowed c g i o = refl
no_parts pattern.Empty c g i o = refl
no_parts pattern.Text c g i o = refl
no_parts (pattern.Choice ms) c g i o = absurd (c ms refl)
no_parts (pattern.Group a b) c g i o = absurd (g a b refl)
no_parts (pattern.Interleave a b) c g i o = absurd (i a b refl)
no_parts (pattern.OneOrMore a) c g i o = absurd (o a refl)
no_parts (pattern.Element e) c g i o = refl
no_parts (pattern.Attribute a) c g i o = refl
no_parts (pattern.Data d) c g i o = refl

pub parts_of_two : (p : Pattern) (a b : PatternNumber) → (p ≡ pattern.Group a b) ⊎ (p ≡ pattern.Interleave a b) → parts_of (node_of p) ≡ a.0 ∷ b.0 ∷ []
parts_of_two p a b is = ⊎_elim (λ e. ap (λ p. parts_of (node_of p)) e) (λ e. ap (λ p. parts_of (node_of p)) e) is

-- ---- the parts of a pattern of a table

module _ (ns : List Node) (i : ℕ) (p : Pattern) (ks : List ℕ) (found : slice_get ns i ≡ Some (node_of p)) (is : parts_of (node_of p) ≡ ks) where
  pub parts_inside : IsPatternTable ns → (l : ℕ) → l ≡ length ns → i < length ns → All (λ m. m < l) ks
  parts_inside table l long inside =
      subst (All (λ m. m < l)) is
      (All-weaker (λ m. m < i) (λ m. m < l) (λ m h. omega (arith, h, inside, long)) (parts_of (node_of p))
      (below_all (node_of p) i (table.falls i (node_of p) found)))

  pub parts_marked : (old new : List Bool) → Marks old new ks → Marks old new (parts_of (node_at ns i))
  parts_marked old new marked =
      subst (Marks old new) (sym (ap parts_of (get_or_from_slice_get ns i (node_of p) node.not_allowed found) ∙ is)) marked
