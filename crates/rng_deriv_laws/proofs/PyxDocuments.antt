-- A PYX document is an element tree with distinct attribute names in each tag, without empty strings and without
-- adjacent strings.
use Rattle.std.proofs.Common.{ℕ, List, [], ◌∷◌, subst, sym}
use Rattle.rng_model.specs.names.Names.{Name}
use Rattle.rng_model.specs.matching.Document.{Attribute, an_element, list_of}
use Rattle.rng_model.specs.plain.WellFormed.{Separate, IsWellFormed, AreWellFormed}
use Rattle.rng_model.specs.plain.WellFormed as w
use Rattle.rng_model.specs.documents.PyxLines.{Said}
use Rattle.rng_model.specs.documents.PyxNamespaces.{NamespaceScope}
use Rattle.rng_model.specs.documents.PyxTrees.{Placed, PlacedItems, element_at, none_placed, placed_and, items_of, string_before, IsElement, IsContent}
use Rattle.rng_model.specs.documents.PyxTrees.{IsPyxDocument}
use Rattle.rng_model.specs.documents.ElementTrees.{IsElementTree}
use Rattle.rng_model.specs.documents.PyxTrees as p

record AreFormed (kids : PlacedItems) : Type 0 where
  formed : AreWellFormed (items_of kids)
  apart : Separate (list_of (items_of kids))

alone : (n : ℕ) (joined : List ℕ) → AreFormed (string_before n joined none_placed)
alone n [] = record { formed = tt; apart = w.nothing }
alone n (c ∷ cs) = record { formed = (λ e. cc, tt); apart = w.string }

before_element : (n : ℕ) (joined : List ℕ) (line : ℕ) (q : Name) (xs : List Attribute) (kids rest : PlacedItems) (last : ℕ) →
    IsWellFormed (an_element q xs (items_of kids)) → AreFormed rest → AreFormed (string_before n joined (placed_and (element_at line q xs kids last) rest))
before_element n [] line q xs kids rest last f r = record { formed = (f, r.formed); apart = w.element r.apart }
before_element n (c ∷ cs) line q xs kids rest last f r = record { formed = (λ e. cc, (f, r.formed)); apart = w.string_element r.apart }

before_tree : (n : ℕ) (joined : List ℕ) (tree : Placed) (rest : PlacedItems) → IsElementTree tree → AreFormed rest
    → AreFormed (string_before n joined (placed_and tree rest))
before_tree n joined tree rest t r =
    subst (λ x. AreFormed (string_before n joined (placed_and x rest))) (sym t.is)
    (before_element n joined t.line t.name t.attributes t.kids rest t.last t.formed r)

mutual
  element_formed : {room n : ℕ} {outer : NamespaceScope} {all : List Said} {tree : Placed} → IsElement room outer n all tree → IsElementTree tree
  element_formed (p.element {q = q} {attrs = attrs} {kids = kids} tag content parts is) =
      let c = content_formed content in
      record { line = _; name = q; attributes = attrs; kids = kids; last = _; is = is; formed = (tag.distinct, c.apart, c.formed) }

  content_formed : {room n : ℕ} {scope : NamespaceScope} {all : List Said} {kids : PlacedItems} → IsContent room scope n all kids → AreFormed kids
  content_formed (p.last_run {joined = joined} run limit is) = subst AreFormed (sym is) (alone _ joined)
  content_formed (p.run_and_element {rest = rest} {joined = joined} {tree = tree} run limit inner more parts is) =
      subst AreFormed (sym is) (before_tree _ joined tree rest (element_formed inner) (content_formed more))

pub document_formed : {bytes : List ℕ} {d : Placed} → IsPyxDocument bytes d → IsElementTree d
document_formed is = element_formed is.is_root
