-- Positions get the numbers of what has to match behind them, from the last one on.
use Rattle.std.specs.Prelude.{ℕ, zero, suc, List, [], ◌∷◌, ◌++◌, length, ◌&&◌, ◌||◌, true, false, Option, Some, None}
use Rattle.std.specs.Option.{option_and_then}
use Rattle.xsd_positions.specs.declared.position.Part.{Part}
use Rattle.xsd_positions.specs.declared.position.Part.TheVariants as part
use Rattle.xsd_positions.specs.declared.position.Position.{Position}
use Rattle.xsd_positions.specs.plain.Trees as tree
use Rattle.xsd_positions.specs.plain.Trees.{Tree}
use Rattle.xsd_positions.specs.plain.TreeRows.{root, is_nullable}
use Rattle.xsd_positions.specs.plain.Links.{position}

-- What is behind both parts of a position with this number: behind the first part is the second one, which is the position
-- before this one.
abbrev pub behind_both : ℕ → ℕ → List ℕ → Option (List ℕ)
behind_both zero x ns = None
behind_both (suc j) x ns = Some (x ∷ j ∷ ns)

-- what is behind the parts of a position with this number, and behind those before it, the last one first
abbrev pub behind_parts : Part → ℕ → ℕ → List ℕ → Option (List ℕ)
behind_parts part.Nothing i x ns = Some ns
behind_parts (part.OneOf c) i x ns = Some ns
behind_parts part.Never i x ns = Some ns
behind_parts (part.Both l) i x ns = behind_both i x ns
behind_parts (part.Either l) i x ns = Some (x ∷ x ∷ ns)
behind_parts part.Optional i x ns = Some (x ∷ ns)
behind_parts part.Repeated i x ns = Some (i ∷ ns)

-- the positions that are left, the last one first, what is behind them, and the positions that are done
unfoldable pub placed : List Position → List ℕ → List Position → Option (List Position)
placed [] ns done = Some done
placed (p ∷ left) [] done = None
placed (p ∷ left) (x ∷ ns) done =
    option_and_then (λ ms. placed left ms (position p.part x p.is_nullable ∷ done)) (behind_parts p.part (length left) x ns)

-- the positions of a tree, of which the first one has this number, with what is behind the tree
unfoldable pub tree_places : ℕ → ℕ → Tree → List Position
tree_places n x tree.nothing = position part.Nothing x true ∷ []
tree_places n x (tree.class c) = position (part.OneOf c) x false ∷ []
tree_places n x tree.never = position part.Never x false ∷ []
tree_places n x (tree.both a b) =
    tree_places n (root (suc (root n a)) b) a
    ++ (tree_places (suc (root n a)) x b ++ position (part.Both (root n a)) x (is_nullable a && is_nullable b) ∷ [])
tree_places n x (tree.either a b) =
    tree_places n x a ++ (tree_places (suc (root n a)) x b ++ position (part.Either (root n a)) x (is_nullable a || is_nullable b) ∷ [])
tree_places n x (tree.optional a) = tree_places n x a ++ position part.Optional x true ∷ []
tree_places n x (tree.repeated a) = tree_places n (suc (root n a)) a ++ position part.Repeated x true ∷ []
