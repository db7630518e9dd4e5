-- What the passes make of the rows of an expression.
use Rattle.std.proofs.Common.{◌≡◌, ◌≤◌, ◌<◌, ◌∙◌, ℕ, suc, ◌+◌, List, [], ◌∷◌, length, map, reverse, Option, Some, None, refl, sym, ap, subst, arith, inl, inr}
use Rattle.std.specs.Option.{option_map}
use Rattle.std.proofs.lemmas.Bool.{cases_lt}
use Rattle.std.proofs.lemmas.List.{append-nil}
use Rattle.rng_model.specs.regexes.Expressions.{Regex}
use Rattle.rng_model.specs.regexes.Sizes.{size, most_size}
use Rattle.rng_model.specs.regexes.plain.Postfix.{Row, postfix}
use Rattle.xsd_regex.specs.plain.Positions.{ArePositionsOf}
use Rattle.xsd_positions.specs.declared.drafts.Kind.{Kind}
use Rattle.xsd_positions.specs.declared.position.Position.{Position}
use Rattle.xsd_positions.specs.plain.Folds.{folded}
use Rattle.xsd_positions.specs.plain.TreeRows.{classes_in, tree_of, rows_of, root}
use Rattle.xsd_positions.specs.plain.Drafts.{Draft, nothing_written, written}
use Rattle.xsd_positions.specs.plain.Links.{Links, no_links, linked, tree_links}
use Rattle.xsd_positions.specs.plain.Places.{placed, tree_places}
use Rattle.xsd_positions.specs.views.Positions.{position_of}
use Rattle.xsd_positions.proofs.TreeSizes.{rows_root, rows_fit}
use Rattle.xsd_positions.proofs.DraftRows.{pushed, fits, too_large}
use Rattle.xsd_positions.proofs.LinkedRows.{behind, linked_tree, links_root}
use Rattle.xsd_positions.proofs.PlacedRows.{placed_tree}
use Rattle.xsd_positions.proofs.PositionStates.{are_positions}

-- ---- the counts are written out

written_small : (r : Regex) (rows : List Row) → rows ≡ postfix r → size r ≤ most_size → written rows nothing_written ≡ Some (pushed r nothing_written)
unfolding folded
written_small r rows e l =
    ap (λ xs. written xs nothing_written) (e ∙ sym (append-nil (postfix r)))
    ∙ fits r nothing_written [] (omega arith) (omega arith)

written_large : (r : Regex) (rows : List Row) → rows ≡ postfix r → most_size < size r → written rows nothing_written ≡ None
written_large r rows e l =
    ap (λ xs. written xs nothing_written) (e ∙ sym (append-nil (postfix r)))
    ∙ too_large r nothing_written [] (omega arith) (omega arith)

pub record IsDraftOf (r : Regex) (d : Draft) : Type 0 where
  pub small : size r ≤ most_size
  pub rows : d.rows ≡ rows_of (tree_of 0 r)
  pub classes : d.classes ≡ classes_in r

module _ {X : Type 0} (view : X → Draft) (r : Regex) (rows : List Row) (o : Option X)
    (is : rows ≡ postfix r) (made : option_map view o ≡ written rows nothing_written) where
  pub not_written : o ≡ None → most_size < size r
  not_written none = elim (cases_lt most_size (size r)) [
    | inl large ↦ large
    | inr small ↦ let w = written_small r rows is small in let n = ap (option_map view) none in absurd (cc)
  ]

  pub is_written : (x : X) → o ≡ Some x → IsDraftOf r (view x)
  is_written x some = elim (cases_lt most_size (size r)) [
    | inl large ↦ let w = written_large r rows is large in let n = ap (option_map view) some in absurd (cc)
    | inr small ↦
        let w = written_small r rows is small in
        let n = ap (option_map view) some in
        let same : view x ≡ pushed r nothing_written = cc in
        record { small = small; rows = ap (λ d. d.rows) same; classes = ap (λ d. d.classes) same }
  ]

-- ---- positions

module _ (r : Regex) (d : Draft) (is : IsDraftOf r d) where
  abbrev end : ℕ
  end = suc (root 0 (tree_of 0 r))

  few : end ≤ 12286
  few = let e = rows_root 0 (tree_of 0 r) in let f = rows_fit 0 r in let s = is.small in omega arith

  rows_linked : (rows : List Kind) → rows ≡ d.rows → linked rows no_links ≡ Some (behind 0 (tree_of 0 r) no_links)
  unfolding folded
  rows_linked rows e =
      let l = few in
      ap (λ ks. linked ks no_links) (e ∙ is.rows ∙ sym (append-nil (rows_of (tree_of 0 r))))
      ∙ linked_tree (tree_of 0 r) no_links [] 0 refl (omega arith)

  pub some_links : {X : Type 0} (view : X → Links) (rows : List Kind) (o : Option X) → rows ≡ d.rows → option_map view o ≡ linked rows no_links → o ≡ None → ⊥
  some_links view rows o same made none = let w = rows_linked rows same in let n = ap (option_map view) none in cc

pub record AreLinksOf (r : Regex) (d : Draft) (positions : List Position) : Type 0 where
  pub draft : IsDraftOf r d
  pub links : positions ≡ tree_links 0 (tree_of 0 r)

-- the positions of the rows
pub are_links : {X : Type 0} (view : X → Links) (r : Regex) (d : Draft) (rows : List Kind) (o : Option X) (x : X) → IsDraftOf r d → rows ≡ d.rows
    → option_map view o ≡ linked rows no_links → o ≡ Some x → AreLinksOf r d (view x).positions
are_links view r d rows o x is same made some =
    let w = rows_linked r d is rows same in
    let n = ap (option_map view) some in
    let e : view x ≡ behind 0 (tree_of 0 r) no_links = cc in
    record { draft = is; links = ap (λ l. l.positions) e }

module _ (r : Regex) (d : Draft) (positions : List Position) (are : AreLinksOf r d positions) where
  count_is : length positions ≡ end r d are.draft
  count_is = ap length are.links ∙ (let e = links_root 0 (tree_of 0 r) in omega arith)

  pub some_positions : 0 < length positions
  some_positions = let e = count_is in omega arith

  pub few_positions : length positions ≤ 12286
  few_positions = let e = count_is in let l = few r d are.draft in omega arith

  positions_placed : (count : ℕ) → length positions ≡ count
      → placed (reverse positions) (count ∷ []) [] ≡ Some (tree_places 0 (end r d are.draft) (tree_of 0 r))
  unfolding placed
  positions_placed count e =
      let c : count ≡ end r d are.draft = sym e ∙ count_is in
      let links = are.links in
      rw (c, links)
      (ap (λ ps. placed ps (end r d are.draft ∷ []) []) (sym (append-nil (reverse (tree_links 0 (tree_of 0 r)))))
      ∙ placed_tree (tree_of 0 r) 0 (end r d are.draft) [] [] [] refl
      ∙ ap Some (append-nil (tree_places 0 (end r d are.draft) (tree_of 0 r))))

  module _ {X : Type 0} (view : X → List Position) (o : Option X) (count : ℕ) (all : length positions ≡ count)
      (made : option_map view o ≡ placed (reverse positions) (count ∷ []) []) where
    pub some_places : o ≡ None → ⊥
    some_places none = let w = positions_placed count all in let n = ap (option_map view) none in cc

    pub are_placed : (x : X) (first : ℕ) → o ≡ Some x → first + 1 ≡ count → ArePositionsOf r first (map (position_of d.classes) (view x))
    are_placed x first some e =
        let w = positions_placed count all in
        let n = ap (option_map view) some in
        let same : tree_places 0 (end r d are.draft) (tree_of 0 r) ≡ view x = cc in
        let last : root 0 (tree_of 0 r) ≡ first = let c = count_is in omega arith in
        let draft = are.draft in
        subst (λ i. ArePositionsOf r i (map (position_of d.classes) (view x))) last
        (subst (λ ps. ArePositionsOf r (root 0 (tree_of 0 r)) (map (position_of d.classes) ps)) same (are_positions r d.classes draft.classes))
