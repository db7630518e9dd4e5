-- Ways of a whole, from those of its sides: the law, and what is kept.
use Rattle.std.proofs.Common.{◌≡◌, ℕ, List, [], ◌∷◌, ◌++◌, map, refl, sym, ap, subst, arith, false, cond}
use Rattle.std.proofs.lemmas.List.{append-nil}
use Rattle.rng_model.specs.simple.Tree.{Simple, choice, group, s_not_allowed}
use Rattle.rng_model.specs.simple.Tree.{s_one_or_more, s_joined}
use Rattle.rng_model.specs.simple.Table.{Table}
use Rattle.rng_model.specs.matching.GrammarMatching.{Reading, reading_of}
use Rattle.rng_deriv_laws.specs.plain.Taking.{Same}
use Rattle.rng_deriv_laws.specs.plain.Restricted.{RepeatsWell}
use Rattle.rng_deriv_laws.specs.plain.Derivatives.{Way, behind, group_of, is_nullable, item_ways, joined_of, more_of}
use Rattle.rng_deriv_laws.proofs.SameWays.{choice_all, choice_all-append}
use Rattle.rng_deriv_laws.proofs.KeptRestrictions.{IsHereditary, RepeatsWell-hereditary, each_behind, group_of-keeps, interleave_of-keeps}
use Rattle.rng_deriv_laws.proofs.SamePatterns.{group_associative, group_of-same, interleave_of-same, or_not_allowed, same, same_back, same_choice, same_group}
use Rattle.rng_deriv_laws.proofs.SamePatterns.{same_through}
use Rattle.rng_deriv_laws.proofs.ItemWays as items
use Rattle.rng_deriv_laws.proofs.AttributeWays as attributes
use Rattle.rng_deriv_table.specs.views.Node.{Node}
use Rattle.rng_deriv_table.specs.views.PatternTable.{Longer}
use Rattle.rng_deriv_table.specs.views.Trees.{choice_from, choice_over, tree_of}
use Rattle.rng_deriv_table.specs.declared.pattern.PatternNumber.{PatternNumber}
use Rattle.rng_deriv_ways.specs.plain.Kinds.{HasNoOrder, IsLeafOf, IsOfItems, Obeys, connector_of, takes_kind}
use Rattle.rng_deriv_ways.specs.plain.Ways.{AreKept, AreWays, AreWaysOf, StandFor, filled, ways_by}
use Rattle.rng_deriv_ways.specs.declared.way.LeafWay as numbered
use Rattle.rng_deriv_ways.specs.declared.way.Hole.TheVariants as holes
use Rattle.rng_deriv_ways.specs.declared.way.Joint.{Joint}
use Rattle.rng_deriv_ways.specs.declared.way.Joint.TheVariants as joints
use Rattle.rng_deriv_ways.specs.declared.way.Kind.{Kind}
use Rattle.rng_deriv_ways.specs.declared.way.Kind.TheVariants as kinds
use Rattle.rng_deriv_ways.specs.declared.way.Place.{Place}
use Rattle.rng_deriv_ways.proofs.KeptRestrictions.{Obeys-hereditary, each_both}
use Rattle.rng_deriv_ways.proofs.WayLists.{inside_longer, law_moves, ways_stay}
use Rattle.rng_deriv_ways.proofs.NumberedWays.{behind-whole, stands_as, stands_itself, stands_more}
use Rattle.rng_deriv_ways.proofs.WaysOfLeaves.{no_law}

-- numbered ways that represent ways of a pattern are ways of it
pub made : (t : Table) (ns : List Node) (kind : Kind) (p : Simple ℕ) (numbers : List numbered.LeafWay) (ws : Table → List Way) → StandFor ns numbers ws
    → AreWays (reading_of t) kind p (ws t) → ((place : Place) → Obeys place p → AreKept kind place (ws t)) → AreWaysOf t ns kind p numbers
made t ns kind p numbers ws stand law kept = record {
  inside = stand.inside;
  law = law_moves (reading_of t) kind p (ws t) (ways_by (tree_of t ns) numbers)
      (λ xs ks ys ms. let e = stand.offers t (reading_of t) xs ks ys ms in (e.1, e.0)) law;
  kept = λ place o. stand.kept t kind place (kept place o);
}

-- ---- patterns that take the same

-- each hereditary property of q holds for p
abbrev pub HandsOn : Simple ℕ → Simple ℕ → Type 1
HandsOn q p = (Q : Simple ℕ → Type 0) → IsHereditary Q → Q q → Q p

same_law : (g : Reading) (kind : Kind) (p q : Simple ℕ) (ws : List Way) → Same g p q → HandsOn q p → AreWays g kind p ws → AreWays g kind q ws
same_law g (kinds.Element n) p q ws e hands law = items.same_has_ways g _ p q ws e law
same_law g (kinds.Attribute n) p q ws e hands law = λ well. attributes.same_has_ways g _ p q ws e (law (hands RepeatsWell RepeatsWell-hereditary well))
same_law g kinds.Text p q ws e hands law = items.same_has_ways g _ p q ws e law

pub ways_of_same : (t : Table) (ns : List Node) (kind : Kind) (p q : Simple ℕ) (numbers : List numbered.LeafWay) → Same (reading_of t) p q → HandsOn q p
    → AreWaysOf t ns kind p numbers → AreWaysOf t ns kind q numbers
ways_of_same t ns kind p q numbers e hands h = record {
  inside = h.inside;
  law = same_law (reading_of t) kind p q (ways_by (tree_of t ns) numbers) e hands h.law;
  kept = λ place o. h.kept place (hands (Obeys place) (Obeys-hereditary place) o);
}

pub opened_hands_on : (p q r : Simple ℕ) → HandsOn (s_joined group (s_joined group p q) r) (s_joined group p (group_of q r))
opened_hands_on p q r = λ Q hereditary h.
    let outer = hereditary.sides group (s_joined group p q) r h in
    let inner = hereditary.sides group p q outer.0 in
    hereditary.of_both group p (group_of q r) inner.0 (group_of-keeps Q hereditary q r inner.1 outer.1)

pub opened_same : (g : Reading) (p q r : Simple ℕ) → Same g (s_joined group p (group_of q r)) (s_joined group (s_joined group p q) r)
opened_same g p q r = same_through g (same_group g (same g p) (group_of-same g q r)) (same_back g (group_associative g p q r))

-- ---- two sides

pub both_law : (g : Reading) (kind : Kind) (joint : Joint) (p q : Simple ℕ) (f h : Simple ℕ → Simple ℕ) (ws vs : List Way) → HasNoOrder kind joint
    → ((r : Simple ℕ) → Same g (f r) (s_joined (connector_of joint) r q)) → ((r : Simple ℕ) → Same g (h r) (s_joined (connector_of joint) p r))
    → AreWays g kind p ws → AreWays g kind q vs → AreWays g kind (s_joined (connector_of joint) p q) (behind f ws ++ behind h vs)
both_law g (kinds.Element n) joints.Group p q f h ws vs order on around a b = absurd order
both_law g (kinds.Element n) joints.Interleave p q f h ws vs order on around a b = items.interleave_ways g _ p q f h ws vs on around a b
both_law g (kinds.Attribute n) joints.Group p q f h ws vs order on around a b = λ well.
    attributes.group_ways g _ p q f h ws vs on around (a well.0) (b well.1)
both_law g (kinds.Attribute n) joints.Interleave p q f h ws vs order on around a b = λ well.
    attributes.interleave_ways g _ p q f h ws vs on around (a well.0) (b well.1)
both_law g kinds.Text joints.Group p q f h ws vs order on around a b = absurd order
both_law g kinds.Text joints.Interleave p q f h ws vs order on around a b = items.interleave_ways g _ p q f h ws vs on around a b

pub behind_kept : (kind : Kind) (place : Place) (f : Simple ℕ → Simple ℕ) → ((r : Simple ℕ) → Obeys place r → Obeys place (f r)) → (ws : List Way)
    → AreKept kind place ws → AreKept kind place (behind f ws)
behind_kept kind place f on ws h = each_behind (Obeys place) (Obeys-hereditary place) (λ l. IsLeafOf kind l × Obeys place l) f on ws h

-- ---- a group, with an item first

pub group_law : (g : Reading) (kind : Kind) (p q : Simple ℕ) (f : Simple ℕ → Simple ℕ) (ws vs : List Way) → IsOfItems kind
    → ((r : Simple ℕ) → Same g (f r) (s_joined group r q)) → AreWays g kind p ws → AreWays g kind q vs
    → AreWays g kind (s_joined group p q) (behind f ws ++ cond (is_nullable p) vs [])
group_law g (kinds.Element n) p q f ws vs item on a b = items.group_ways g _ p q f ws vs on a b
group_law g (kinds.Attribute n) p q f ws vs item on a b = absurd item
group_law g kinds.Text p q f ws vs item on a b = items.group_ways g _ p q f ws vs on a b

-- ---- copies

pub copies_law : (g : Reading) (kind : Kind) (p : Simple ℕ) (f : Simple ℕ → Simple ℕ) (ws : List Way)
    → ((r : Simple ℕ) → Same g (f r) (s_joined group r (more_of p))) → AreWays g kind p ws → AreWays g kind (s_one_or_more p) (behind f ws)
copies_law g (kinds.Element n) p f ws on a = items.repeat_ways g _ p f ws on a
copies_law g (kinds.Attribute n) p f ws on a = λ well. attributes.repeat_ways g _ p well.0 f ws on (a well.1)
copies_law g kinds.Text p f ws on a = items.repeat_ways g _ p f ws on a

pub choice_law : (g : Reading) (kind : Kind) (p q : Simple ℕ) (ws vs : List Way) → AreWays g kind p ws → AreWays g kind q vs
    → AreWays g kind (s_joined choice p q) (ws ++ vs)
choice_law g (kinds.Element n) p q ws vs a b = items.choice_ways g _ p q ws vs a b
choice_law g (kinds.Attribute n) p q ws vs a b = λ well. attributes.choice_ways g _ p q ws vs (a well.0) (b well.1)
choice_law g kinds.Text p q ws vs a b = items.choice_ways g _ p q ws vs a b

-- ---- what is added to others

joined_same : (g : Reading) (joint : Joint) (p q : Simple ℕ) → Same g (joined_of (connector_of joint) p q) (s_joined (connector_of joint) p q)
joined_same g joints.Group p q = group_of-same g p q
joined_same g joints.Interleave p q = interleave_of-same g p q

pub joined_obeys : (joint : Joint) (place : Place) (p q : Simple ℕ) → Obeys place p → Obeys place q → Obeys place (joined_of (connector_of joint) p q)
joined_obeys joints.Group place p q h k = group_of-keeps (Obeys place) (Obeys-hereditary place) p q h k
joined_obeys joints.Interleave place p q h k = interleave_of-keeps (Obeys place) (Obeys-hereditary place) p q h k

-- the trees of sides stay in longer tables
pub side_law : (t : Table) (old new : List Node) (kind : Kind) (p : Simple ℕ) (numbers : List numbered.LeafWay) → Longer old new → AreWaysOf t old kind p numbers
    → AreWaysOf t new kind p numbers
side_law t old new kind p numbers longer h =
    let e = sym (ways_stay t old new numbers longer h.inside) in record {
      inside = inside_longer old new numbers longer h.inside;
      law = subst (AreWays (reading_of t) kind p) e h.law;
      kept = λ place o. subst (AreKept kind place) e (h.kept place o);
    }

-- two sides, either first; p and q are the trees of the two
pub both_made : (t : Table) (n2 n3 n4 : List Node) (kind : Kind) (joint : Joint) (first second : PatternNumber) (p q : Simple ℕ)
    (firsts seconds none some all : List numbered.LeafWay)
    → HasNoOrder kind joint → none ≡ [] → tree_of t n3 first.0 ≡ p → tree_of t n2 second.0 ≡ q
    → AreWaysOf t n2 kind p firsts → AreWaysOf t n3 kind q seconds
    → StandFor n3 some (λ t. ways_by (tree_of t n2) none ++ behind (filled (tree_of t n2) (holes.First joint second)) (ways_by (tree_of t n2) firsts))
    → StandFor n4 all (λ t. ways_by (tree_of t n3) some ++ behind (filled (tree_of t n3) (holes.Second joint first)) (ways_by (tree_of t n3) seconds))
    → AreWaysOf t n4 kind (s_joined (connector_of joint) p q) all
both_made t n2 n3 n4 kind joint first second p q firsts seconds none some all order empty first_is second_is a b s u =
    made t n4 kind (s_joined (connector_of joint) p q) all Whole (stands_more n3 n4 some all Before After s u)
    (subst (λ ns. AreWays (reading_of t) kind (s_joined (connector_of joint) p q)
    ((ways_by (tree_of t n2) ns ++ behind (λ r. joined_of (connector_of joint) r (tree_of t n2 second.0)) (ways_by (tree_of t n2) firsts)) ++ After t))
    (sym empty)
    (both_law (reading_of t) kind joint p q (λ r. joined_of (connector_of joint) r (tree_of t n2 second.0))
    (λ r. joined_of (connector_of joint) (tree_of t n3 first.0) r) (ways_by (tree_of t n2) firsts) (ways_by (tree_of t n3) seconds) order
    (λ r. subst (λ o. Same (reading_of t) (joined_of (connector_of joint) r o) (s_joined (connector_of joint) r q)) (sym second_is)
    (joined_same (reading_of t) joint r q))
    (λ r. subst (λ o. Same (reading_of t) (joined_of (connector_of joint) o r) (s_joined (connector_of joint) p r)) (sym first_is)
    (joined_same (reading_of t) joint p r))
    a.law b.law))
    (λ place o.
    let sides = (Obeys-hereditary place).sides (connector_of joint) p q o in
    subst (λ ns. AreKept kind place ((ways_by (tree_of t n2) ns ++ behind (λ r. joined_of (connector_of joint) r (tree_of t n2 second.0))
    (ways_by (tree_of t n2) firsts)) ++ After t)) (sym empty)
    (each_both _ _ (behind (λ r. joined_of (connector_of joint) r (tree_of t n2 second.0)) (ways_by (tree_of t n2) firsts)) (After t)
    (behind_kept kind place _ (λ r k. joined_obeys joint place r (tree_of t n2 second.0) k (subst (Obeys place) (sym second_is) sides.1))
    (ways_by (tree_of t n2) firsts) (a.kept place sides.0))
    (behind_kept kind place _ (λ r k. joined_obeys joint place (tree_of t n3 first.0) r (subst (Obeys place) (sym first_is) sides.0) k)
    (ways_by (tree_of t n3) seconds) (b.kept place sides.1))))
  where
    Before : Table → List Way
    Before t = ways_by (tree_of t n2) none ++ behind (filled (tree_of t n2) (holes.First joint second)) (ways_by (tree_of t n2) firsts)

    After : Table → List Way
    After t = behind (filled (tree_of t n3) (holes.Second joint first)) (ways_by (tree_of t n3) seconds)

    Whole : Table → List Way
    Whole t = Before t ++ After t

some_ways : Kind → Simple ℕ → List Way
some_ways kind q = item_ways q

some_law : (g : Reading) (kind : Kind) (q : Simple ℕ) → IsOfItems kind → AreWays g kind q (some_ways kind q)
unfolding some_ways
some_law g (kinds.Element n) q item = items.item_ways-are g _ q
some_law g (kinds.Attribute n) q item = absurd item
some_law g kinds.Text q item = items.item_ways-are g _ q

pub first_made : (t : Table) (n1 n2 : List Node) (kind : Kind) (second : PatternNumber) (p q : Simple ℕ) (firsts none all : List numbered.LeafWay)
    → IsOfItems kind → is_nullable p ≡ false → none ≡ [] → tree_of t n1 second.0 ≡ q → AreWaysOf t n1 kind p firsts
    → StandFor n2 all (λ t. ways_by (tree_of t n1) none ++ behind (filled (tree_of t n1) (holes.First joints.Group second)) (ways_by (tree_of t n1) firsts))
    → AreWaysOf t n2 kind (s_joined group p q) all
first_made t n1 n2 kind second p q firsts none all item nullable empty second_is a s =
    made t n2 kind (s_joined group p q) all Before s
    (subst (λ ns. AreWays (reading_of t) kind (s_joined group p q) (ways_by (tree_of t n1) ns ++ Side)) (sym empty)
    (subst (AreWays (reading_of t) kind (s_joined group p q)) (append-nil Side)
    (subst (λ b. AreWays (reading_of t) kind (s_joined group p q) (Side ++ cond b (some_ways kind q) [])) nullable
    (group_law (reading_of t) kind p q (λ r. group_of r (tree_of t n1 second.0)) (ways_by (tree_of t n1) firsts) (some_ways kind q) item
    (λ r. subst (λ o. Same (reading_of t) (group_of r o) (s_joined group r q)) (sym second_is) (group_of-same (reading_of t) r q)) a.law
    (some_law (reading_of t) kind q item)))))
    (λ place o.
    let sides = (Obeys-hereditary place).sides group p q o in
    subst (λ ns. AreKept kind place (ways_by (tree_of t n1) ns ++ Side)) (sym empty)
    (behind_kept kind place _ (λ r k. joined_obeys joints.Group place r (tree_of t n1 second.0) k (subst (Obeys place) (sym second_is) sides.1))
    (ways_by (tree_of t n1) firsts) (a.kept place sides.0)))
  where
    Side : List Way
    Side = behind (λ r. group_of r (tree_of t n1 second.0)) (ways_by (tree_of t n1) firsts)

    Before : Table → List Way
    Before t = ways_by (tree_of t n1) none ++ behind (filled (tree_of t n1) (holes.First joints.Group second)) (ways_by (tree_of t n1) firsts)

-- copies: `more` takes what more copies take
pub copies_made : (t : Table) (n1 n2 : List Node) (kind : Kind) (more : PatternNumber) (p : Simple ℕ) (copies none all : List numbered.LeafWay)
    → none ≡ [] → Same (reading_of t) (tree_of t n1 more.0) (more_of p)
    → ((place : Place) → Obeys place (s_one_or_more p) → Obeys place (tree_of t n1 more.0)) → AreWaysOf t n1 kind p copies
    → StandFor n2 all (λ t. ways_by (tree_of t n1) none ++ behind (filled (tree_of t n1) (holes.First joints.Group more)) (ways_by (tree_of t n1) copies))
    → AreWaysOf t n2 kind (s_one_or_more p) all
copies_made t n1 n2 kind more p copies none all empty same_more obeys a s =
    made t n2 kind (s_one_or_more p) all
    (λ t. ways_by (tree_of t n1) none ++ behind (filled (tree_of t n1) (holes.First joints.Group more)) (ways_by (tree_of t n1) copies)) s
    (subst (λ ns. AreWays (reading_of t) kind (s_one_or_more p) (ways_by (tree_of t n1) ns ++ Side)) (sym empty)
    (copies_law (reading_of t) kind p (λ r. group_of r (tree_of t n1 more.0)) (ways_by (tree_of t n1) copies)
    (λ r. same_through (reading_of t) (group_of-same (reading_of t) r (tree_of t n1 more.0))
    (same_group (reading_of t) (same (reading_of t) r) same_more)) a.law))
    (λ place o. subst (λ ns. AreKept kind place (ways_by (tree_of t n1) ns ++ Side)) (sym empty)
    (behind_kept kind place _ (λ r k. joined_obeys joints.Group place r (tree_of t n1 more.0) k (obeys place o)) (ways_by (tree_of t n1) copies)
    (a.kept place ((Obeys-hereditary place).copy p o))))
  where
    Side : List Way
    Side = behind (λ r. group_of r (tree_of t n1 more.0)) (ways_by (tree_of t n1) copies)

-- one more member of a choice
pub member_made : (t : Table) (n1 n2 : List Node) (kind : Kind) (ps : List (Simple ℕ)) (p : Simple ℕ) (ways some all : List numbered.LeafWay)
    → AreWaysOf t n1 kind (choice_all ps) some → AreWaysOf t n1 kind p ways
    → StandFor n2 all (λ t. ways_by (tree_of t n1) some ++ behind (filled (tree_of t n1) holes.Whole) (ways_by (tree_of t n1) ways))
    → AreWaysOf t n2 kind (choice_all (ps ++ p ∷ [])) all
member_made t n1 n2 kind ps p ways some all a b s =
    ways_of_same t n2 kind (s_joined choice (choice_all ps) p) (choice_all (ps ++ p ∷ [])) all same_choices (λ Q hereditary h. parts Q hereditary ps h)
    (made t n2 kind (s_joined choice (choice_all ps) p) all
    (λ t. ways_by (tree_of t n1) some ++ behind (filled (tree_of t n1) holes.Whole) (ways_by (tree_of t n1) ways)) s
    (subst (λ vs. AreWays (reading_of t) kind (s_joined choice (choice_all ps) p) (ways_by (tree_of t n1) some ++ vs))
    (sym (behind-whole (ways_by (tree_of t n1) ways)))
    (choice_law (reading_of t) kind (choice_all ps) p (ways_by (tree_of t n1) some) (ways_by (tree_of t n1) ways) a.law b.law))
    (λ place o.
    let sides = (Obeys-hereditary place).sides choice (choice_all ps) p o in
    subst (λ vs. AreKept kind place (ways_by (tree_of t n1) some ++ vs)) (sym (behind-whole (ways_by (tree_of t n1) ways)))
    (each_both _ _ (ways_by (tree_of t n1) some) (ways_by (tree_of t n1) ways) (a.kept place sides.0) (b.kept place sides.1))))
  where
    same_choices : Same (reading_of t) (s_joined choice (choice_all ps) p) (choice_all (ps ++ p ∷ []))
    same_choices = same_back (reading_of t) (same_through (reading_of t) (choice_all-append (reading_of t) ps (p ∷ []))
        (same_choice (reading_of t) (same (reading_of t) (choice_all ps)) (same_back (reading_of t) (or_not_allowed (reading_of t) p))))

    parts : (Q : Simple ℕ → Type 0) → IsHereditary Q → (ps : List (Simple ℕ)) → Q (choice_all (ps ++ p ∷ [])) → Q (s_joined choice (choice_all ps) p)
    parts Q hereditary [] h = hereditary.of_both choice s_not_allowed p hereditary.of_not_allowed (hereditary.sides choice p s_not_allowed h).0
    parts Q hereditary (x ∷ ps) h =
        let cut = hereditary.sides choice x (choice_all (ps ++ p ∷ [])) h in
        let rest = hereditary.sides choice (choice_all ps) p (parts Q hereditary ps cut.1) in
        hereditary.of_both choice (s_joined choice x (choice_all ps)) p (hereditary.of_both choice x (choice_all ps) cut.0 rest.0) rest.1

-- a member without ways
pub none_more : (t : Table) (ns : List Node) (kind : Kind) (ps : List (Simple ℕ)) (p : Simple ℕ) (some : List numbered.LeafWay)
    → AreWaysOf t ns kind (choice_all ps) some → AreWaysOf t ns kind p [] → AreWaysOf t ns kind (choice_all (ps ++ p ∷ [])) some
none_more t ns kind ps p some a none =
    member_made t ns ns kind ps p [] some some a none (stands_as ns some (λ t. ways_by (tree_of t ns) some) (λ t. ways_by (tree_of t ns) some ++ [])
    (λ t. sym (append-nil (ways_by (tree_of t ns) some))) (stands_itself ns some a.inside))

-- a choice over numbers, which ends with its last member
pub over_same : (g : Reading) (f : ℕ → Simple ℕ) (ms : List ℕ) → Same g (choice_all (map f ms)) (choice_over f ms)
over_same g f [] = same g s_not_allowed
over_same g f (m ∷ ms) = from m ms where
  from : (m : ℕ) (ms : List ℕ) → Same g (choice_all (map f (m ∷ ms))) (choice_from f m ms)
  from m [] = same_back g (or_not_allowed g (f m))
  from m (n ∷ ms) = same_choice g (same g (f m)) (from n ms)

pub over_hands_on : (f : ℕ → Simple ℕ) (ms : List ℕ) → HandsOn (choice_over f ms) (choice_all (map f ms))
over_hands_on f [] = λ Q hereditary h. h
over_hands_on f (m ∷ ms) = λ Q hereditary h. from Q hereditary m ms h where
  from : (Q : Simple ℕ → Type 0) → IsHereditary Q → (m : ℕ) (ms : List ℕ) → Q (choice_from f m ms) → Q (choice_all (map f (m ∷ ms)))
  from Q hereditary m [] h = hereditary.of_both choice (f m) s_not_allowed h hereditary.of_not_allowed
  from Q hereditary m (n ∷ ms) h =
      let cut = hereditary.sides choice (f m) (choice_from f n ms) h in
      hereditary.of_both choice (f m) (choice_all (map f (n ∷ ms))) cut.0 (from Q hereditary n ms cut.1)

pub none_made : (t : Table) (ns : List Node) (kind : Kind) → AreWaysOf t ns kind s_not_allowed []
none_made t ns kind = record {
  inside = λ i d h. absurd (omega (arith, h));
  law = no_law (reading_of t) kind s_not_allowed tt (none_taken kind);
  kept = λ place o. tt;
}
  where
    none_taken : (kind : Kind) → takes_kind (reading_of t) kind s_not_allowed ≡ false
    none_taken (kinds.Element q) = refl
    none_taken (kinds.Attribute q) = refl
    none_taken kinds.Text = refl

pub no_order_between : (kind : Kind) → HasNoOrder kind joints.Interleave
no_order_between (kinds.Element q) = tt
no_order_between (kinds.Attribute q) = tt
no_order_between kinds.Text = tt

pub map_numbers : (f : ℕ → Simple ℕ) (ms : List PatternNumber) → map f (map (λ (m : PatternNumber). m.0) ms) ≡ map (λ (m : PatternNumber). f m.0) ms
map_numbers f [] = refl
map_numbers f (m ∷ ms) = ap (λ ps. f m.0 ∷ ps) (map_numbers f ms)
