-- The positions of a tree stand for states.
use Rattle.std.proofs.Common.{◌≡◌, ◌≤◌, ◌<◌, ◌∙◌, ℕ, suc, ◌+◌, ◌-◌, List, [], ◌∷◌, ◌++◌, length, map, get_or}
use Rattle.std.proofs.Common.{None, refl, sym, ap, subst, arith, inl, inr}
use Rattle.std.proofs.lemmas.Bool.{cases_lt}
use Rattle.std.proofs.lemmas.List.{append_assoc, length-append, length-map, map-append, get_or_at, get_or_past, append-nil}
use Rattle.rng_model.specs.regexes.Expressions.{Class, Regex, nothing_more, times}
use Rattle.rng_model.specs.regexes.plain.LinearForms.{RegexState, AcceptsState}
use Rattle.xsd_regex.specs.plain.StateTable.{state_at}
use Rattle.xsd_regex.specs.plain.Positions as spec
use Rattle.xsd_regex.specs.plain.Positions.{IsPart, is_nothing, is_class, is_both, is_either, is_optional, is_repeated}
use Rattle.xsd_regex.specs.plain.Positions.{IsPosition, ArePositions, ArePositionsOf, position_at}
use Rattle.xsd_regex.proofs.Runs.{alone_if, alone_then}
use Rattle.xsd_positions.specs.declared.position.Part.{Part}
use Rattle.xsd_positions.specs.declared.position.Part.TheVariants as part
use Rattle.xsd_positions.specs.declared.position.Position.{Position}
use Rattle.xsd_positions.specs.plain.Trees as tree
use Rattle.xsd_positions.specs.plain.Trees.{Tree}
use Rattle.xsd_positions.specs.plain.WrittenOut.{written_out}
use Rattle.xsd_positions.specs.plain.TreeRows.{regex_of, root, is_nullable, tree_of, classes_in}
use Rattle.xsd_positions.specs.plain.Links.{position}
use Rattle.xsd_positions.specs.plain.Places.{tree_places}
use Rattle.xsd_positions.specs.views.Positions.{part_of, position_of}
use Rattle.xsd_positions.proofs.WrittenOut.{written_if, written_then}
use Rattle.xsd_positions.proofs.Trees.{whole_regex, nullable_same}
use Rattle.xsd_positions.proofs.TreeSizes.{one_behind, two_behind, root_least}
use Rattle.xsd_positions.proofs.PlacedRows.{places_root}

-- ---- a list within another one

-- from this number on
record Within {A : Type 0} (all : List A) (n : ℕ) (xs : List A) : Type 0 where
  front : List A
  back : List A
  parts : all ≡ front ++ (xs ++ back)
  at : length front ≡ n

module _ {A : Type 0} {all : List A} {n : ℕ} where
  first_within : (xs ys : List A) → Within all n (xs ++ ys) → Within all n xs
  first_within xs ys w =
      record { front = w.front; back = ys ++ w.back; parts = w.parts ∙ ap (λ l. w.front ++ l) (append_assoc xs ys w.back); at = w.at }

  second_within : (xs ys : List A) → Within all n (xs ++ ys) → (m : ℕ) → n + length xs ≡ m → Within all m ys
  second_within xs ys w m e =
      record {
        front = w.front ++ xs;
        back = w.back;
        parts = w.parts ∙ ap (λ l. w.front ++ l) (append_assoc xs ys w.back) ∙ sym (append_assoc w.front xs (ys ++ w.back));
        at = let l = length-append w.front xs in let a = w.at in omega arith;
      }

  head_at : {x : A} {xs : List A} (d : A) → Within all n (x ∷ xs) → get_or all n d ≡ x
  head_at {x} {xs} d w = ap (λ l. get_or l n d) w.parts ∙ get_or_at w.front x (xs ++ w.back) d n w.at

  mapped_within : {B : Type 0} (f : A → B) {xs : List A} → Within all n xs → Within (map f all) n (map f xs)
  mapped_within f {xs} w =
      record {
        front = map f w.front;
        back = map f w.back;
        parts = ap (map f) w.parts ∙ map-append f w.front (xs ++ w.back) ∙ ap (λ l. map f w.front ++ l) (map-append f xs w.back);
        at = length-map w.front f ∙ w.at;
      }

all_within : {A : Type 0} (all : List A) → Within all 0 all
all_within all = record { front = []; back = []; parts = sym (append-nil all); at = refl }

-- ---- states

module _ (ks : List Class) where
  -- the states of the positions of a tree with this state behind the tree
  unfoldable states_of : RegexState → Tree → List RegexState
  states_of k tree.nothing = (nothing_more ∷ k) ∷ []
  states_of k (tree.class c) = (regex_of ks (tree.class c) ∷ k) ∷ []
  states_of k tree.never = (regex_of ks tree.never ∷ k) ∷ []
  states_of k (tree.both a b) = states_of (regex_of ks b ∷ k) a ++ (states_of k b ++ (regex_of ks (tree.both a b) ∷ k) ∷ [])
  states_of k (tree.either a b) = states_of k a ++ (states_of k b ++ (regex_of ks (tree.either a b) ∷ k) ∷ [])
  states_of k (tree.optional a) = states_of k a ++ (regex_of ks (tree.optional a) ∷ k) ∷ []
  states_of k (tree.repeated a) = states_of (regex_of ks (tree.repeated a) ∷ k) a ++ (regex_of ks (tree.repeated a) ∷ k) ∷ []

  states_root : (t : Tree) (n : ℕ) (k : RegexState) → n + length (states_of k t) ≡ suc (root n t)
  unfolding states_of root
  states_root tree.nothing n k = omega arith
  states_root (tree.class c) n k = omega arith
  states_root tree.never n k = omega arith
  states_root (tree.both a b) n k =
      let e = two_behind (states_of (regex_of ks b ∷ k) a) (states_of k b) (regex_of ks (tree.both a b) ∷ k) in
      let p = states_root a n (regex_of ks b ∷ k) in let q = states_root b (suc (root n a)) k in omega arith
  states_root (tree.either a b) n k =
      let e = two_behind (states_of k a) (states_of k b) (regex_of ks (tree.either a b) ∷ k) in
      let p = states_root a n k in let q = states_root b (suc (root n a)) k in omega arith
  states_root (tree.optional a) n k =
      let e = one_behind (states_of k a) (regex_of ks (tree.optional a) ∷ k) in let p = states_root a n k in omega arith
  states_root (tree.repeated a) n k =
      let e = one_behind (states_of (regex_of ks (tree.repeated a) ∷ k) a) (regex_of ks (tree.repeated a) ∷ k) in
      let p = states_root a n (regex_of ks (tree.repeated a) ∷ k) in omega arith

  module _ (states : List RegexState) where
    -- the state of the whole tree
    root_state : (t : Tree) (n : ℕ) (k : RegexState) → Within states n (states_of k t) → state_at states (root n t) ≡ regex_of ks t ∷ k
    unfolding states_of root regex_of
    root_state tree.nothing n k w = head_at [] w
    root_state (tree.class c) n k w = head_at [] w
    root_state tree.never n k w = head_at [] w
    root_state (tree.both a b) n k w =
        let m = suc (root n a) in
        head_at [] (second_within _ _ (second_within _ _ w m (states_root a n (regex_of ks b ∷ k))) (suc (root m b)) (states_root b m k))
    root_state (tree.either a b) n k w =
        let m = suc (root n a) in
        head_at [] (second_within _ _ (second_within _ _ w m (states_root a n k)) (suc (root m b)) (states_root b m k))
    root_state (tree.optional a) n k w = head_at [] (second_within _ _ w (suc (root n a)) (states_root a n k))
    root_state (tree.repeated a) n k w = head_at [] (second_within _ _ w (suc (root n a)) (states_root a n (regex_of ks (tree.repeated a) ∷ k)))

    module _ (all : List Position) (count : ℕ) where
      abbrev ps : List spec.Position
      ps = map (position_of ks) all

      -- one position
      one_position : (t : Tree) (i x : ℕ) (k : RegexState) (p : Part) → state_at states i ≡ regex_of ks t ∷ k → state_at states x ≡ k → i < x → x ≤ count
          → IsPart states i x (part_of ks p) (regex_of ks t) → position_at ps i ≡ position_of ks (position p x (is_nullable t))
          → IsPosition states count i (position_at ps i)
      one_position t i x k p here there later within is e =
          subst (IsPosition states count i) (sym e)
          (record {
            expression = regex_of ks t;
            state = here ∙ ap (λ q. regex_of ks t ∷ q) (sym there);
            part = is;
            later = later;
            within = within;
            nullable = sym (nullable_same ks t);
          })

      before_this : (j : ℕ) {s : RegexState} → state_at states j ≡ s → state_at states (suc j - 1) ≡ s
      before_this j e = let same : suc j - 1 ≡ j = omega arith in ap (state_at states) same ∙ e

      -- a position of two parts, the second one before it, and of one part
      abbrev EachFrom : ℕ → ℕ → Type 0
      EachFrom n m = (i : ℕ) → n ≤ i → i ≤ m → IsPosition states count i (position_at ps i)

      each_of_two : (n l m : ℕ) → EachFrom n l → EachFrom (suc l) m → IsPosition states count (suc m) (position_at ps (suc m)) → EachFrom n (suc m)
      each_of_two n l m first second this i low high = elim (cases_lt l i) [
        | inr e ↦ first i low e
        | inl e ↦ elim (cases_lt m i) [
          | inr f ↦ second i (omega arith) f
          | inl f ↦ let same : suc m ≡ i = omega arith in subst (λ j. IsPosition states count j (position_at ps j)) same this
        ]
      ]

      each_of_one : (n m : ℕ) → EachFrom n m → IsPosition states count (suc m) (position_at ps (suc m)) → EachFrom n (suc m)
      each_of_one n m first this i low high = elim (cases_lt m i) [
        | inr e ↦ first i low e
        | inl e ↦ let same : suc m ≡ i = omega arith in subst (λ j. IsPosition states count j (position_at ps j)) same this
      ]

      only_one : (n : ℕ) → IsPosition states count n (position_at ps n) → EachFrom n n
      only_one n this i low high = let same : n ≡ i = omega arith in subst (λ j. IsPosition states count j (position_at ps j)) same this

      place_head : {p : Position} {qs : List Position} (n : ℕ) → Within all n (p ∷ qs) → position_at ps n ≡ position_of ks p
      place_head n w = head_at _ (mapped_within (position_of ks) w)

      each_position : (t : Tree) (n x : ℕ) (k : RegexState) → Within all n (tree_places n x t) → Within states n (states_of k t)
          → state_at states x ≡ k → root n t < x → x ≤ count → EachFrom n (root n t)
      unfolding states_of tree_places root regex_of is_nullable
      each_position tree.nothing n x k w s e later within =
          only_one n (one_position tree.nothing n x k part.Nothing (head_at [] s) e later within is_nothing (place_head n w))
      each_position (tree.class c) n x k w s e later within =
          only_one n (one_position (tree.class c) n x k (part.OneOf c) (head_at [] s) e later within is_class (place_head n w))
      each_position tree.never n x k w s e later within =
          only_one n (one_position tree.never n x k part.Never (head_at [] s) e later within is_class (place_head n w))
      each_position (tree.both a b) n x k w s e later within =
          let l = root n a in
          let m = suc l in
          let j = root m b in
          let ka = regex_of ks b ∷ k in
          let sa = first_within _ _ s in
          let sr = second_within _ _ s m (states_root a n ka) in
          let sb = first_within _ _ sr in
          let wr = second_within _ _ w m (places_root a n j) in
          let here = head_at [] (second_within _ _ sr (suc j) (states_root b m k)) in
          let ra = root_state a n ka sa in
          let rb = root_state b m k sb in
          let q : m ≤ j = root_least m b in
          each_of_two n l j
          (each_position a n j ka (first_within _ _ w) sa rb (omega arith) (omega arith))
          (each_position b m x k (first_within _ _ wr) sb e (omega arith) within)
          (one_position (tree.both a b) (suc j) x k (part.Both l) here e later within
          (is_both (omega arith) (omega arith) (ra ∙ ap (λ q. regex_of ks a ∷ regex_of ks b ∷ q) (sym e))
          (before_this j (rb ∙ ap (λ q. regex_of ks b ∷ q) (sym e))))
          (place_head (suc j) (second_within _ _ wr (suc j) (places_root b m x))))
      each_position (tree.either a b) n x k w s e later within =
          let l = root n a in
          let m = suc l in
          let j = root m b in
          let sa = first_within _ _ s in
          let sr = second_within _ _ s m (states_root a n k) in
          let sb = first_within _ _ sr in
          let wr = second_within _ _ w m (places_root a n x) in
          let here = head_at [] (second_within _ _ sr (suc j) (states_root b m k)) in
          let ra = root_state a n k sa in
          let rb = root_state b m k sb in
          let q : m ≤ j = root_least m b in
          each_of_two n l j
          (each_position a n x k (first_within _ _ w) sa e (omega arith) within)
          (each_position b m x k (first_within _ _ wr) sb e (omega arith) within)
          (one_position (tree.either a b) (suc j) x k (part.Either l) here e later within
          (is_either (omega arith) (omega arith) (ra ∙ ap (λ q. regex_of ks a ∷ q) (sym e))
          (before_this j (rb ∙ ap (λ q. regex_of ks b ∷ q) (sym e))))
          (place_head (suc j) (second_within _ _ wr (suc j) (places_root b m x))))
      each_position (tree.optional a) n x k w s e later within =
          let j = root n a in
          let here = head_at [] (second_within _ _ s (suc j) (states_root a n k)) in
          let ra = root_state a n k (first_within _ _ s) in
          each_of_one n j
          (each_position a n x k (first_within _ _ w) (first_within _ _ s) e (omega arith) within)
          (one_position (tree.optional a) (suc j) x k part.Optional here e later within
          (is_optional (omega arith) (before_this j (ra ∙ ap (λ q. regex_of ks a ∷ q) (sym e))))
          (place_head (suc j) (second_within _ _ w (suc j) (places_root a n x))))
      each_position (tree.repeated a) n x k w s e later within =
          let j = root n a in
          let ka = regex_of ks (tree.repeated a) ∷ k in
          let here = head_at [] (second_within _ _ s (suc j) (states_root a n ka)) in
          let ra = root_state a n ka (first_within _ _ s) in
          each_of_one n j
          (each_position a n (suc j) ka (first_within _ _ w) (first_within _ _ s) here (omega arith) (omega arith))
          (one_position (tree.repeated a) (suc j) x k part.Repeated here e later within
          (is_repeated (omega arith) (before_this j (ra ∙ ap (λ q. regex_of ks a ∷ times 0 None (regex_of ks a) ∷ q) (sym e))))
          (place_head (suc j) (second_within _ _ w (suc j) (places_root a n (suc j)))))

-- ---- the positions of an expression

module _ (ks : List Class) (t : Tree) where
  abbrev last : ℕ
  last = root 0 t

  abbrev all : List Position
  all = tree_places 0 (suc last) t

  all_length : length all ≡ suc last
  all_length = let e = places_root t 0 (suc last) in omega arith

  states_length : length (states_of ks [] t) ≡ suc last
  states_length = let e = states_root ks t 0 [] in omega arith

  tree_positions : ArePositions (states_of ks [] t) (map (position_of ks) all)
  tree_positions = record {
    as_many = states_length ∙ sym (length-map all (position_of ks) ∙ all_length);
    each = λ i below.
        let count : length (map (position_of ks) all) ≡ suc last = length-map all (position_of ks) ∙ all_length in
        subst (λ n. IsPosition (states_of ks [] t) n i (position_at (map (position_of ks) all) i)) (sym count)
        (each_position ks (states_of ks [] t) all (suc last) t 0 (suc last) [] (all_within all) (all_within (states_of ks [] t))
        (get_or_past (states_of ks [] t) (suc last) [] (omega (arith, states_length))) (omega arith) (omega arith) i (omega arith) (omega arith));
  }

  first_state : state_at (states_of ks [] t) last ≡ regex_of ks t ∷ []
  first_state = root_state ks (states_of ks [] t) t 0 [] (all_within (states_of ks [] t))

pub are_positions : (r : Regex) (ks : List Class) → ks ≡ classes_in r
    → ArePositionsOf r (root 0 (tree_of 0 r)) (map (position_of ks) (tree_places 0 (suc (root 0 (tree_of 0 r))) (tree_of 0 r)))
are_positions r ks e =
    let t = tree_of 0 r in
    let state : state_at (states_of ks [] t) (root 0 t) ≡ written_out r ∷ [] =
    first_state ks t ∙ ap (λ q. q ∷ []) (whole_regex ks r e) in
    record {
      states = states_of ks [] t;
      are = tree_positions ks t;
      some = let l = length-map (all ks t) (position_of ks) in let m = all_length ks t in omega arith;
      to = λ s m. subst (λ q. AcceptsState q s) (sym state) (alone_if (written_out r) s (written_if r s m));
      back = λ s a. written_then r s (alone_then (written_out r) s (subst (λ q. AcceptsState q s) state a));
    }
