-- Rows without counts get the numbers of their first parts, and whether they match the empty text.
use Rattle.std.specs.Prelude.{ℕ, suc, List, [], ◌∷◌, ◌++◌, length, Bool, true, false, ◌&&◌, ◌||◌}
use Rattle.std.specs.Prelude.{Option, Some, None, if◌then◌else◌, nat_le}
use Rattle.xsd_positions.specs.declared.drafts.Kind.{Kind}
use Rattle.xsd_positions.specs.declared.drafts.Kind.TheVariants as kind
use Rattle.xsd_positions.specs.declared.links.Root.{Root}
use Rattle.xsd_positions.specs.declared.position.Part.{Part}
use Rattle.xsd_positions.specs.declared.position.Part.TheVariants as part
use Rattle.xsd_positions.specs.declared.position.Position.{Position}
use Rattle.xsd_positions.specs.plain.Folds.{folded}
use Rattle.xsd_positions.specs.plain.Trees as tree
use Rattle.xsd_positions.specs.plain.Trees.{Tree}
use Rattle.xsd_positions.specs.plain.TreeRows.{root, is_nullable}

-- the positions so far, and the parts that are not yet a part of another one, the last one first
pub record Links : Type 0 where
  pub positions : List Position
  pub roots : List Root

abbrev pub no_links : Links
no_links = record { positions = []; roots = [] }

abbrev pub with_part : Part → Bool → List Root → Links → Option Links
with_part p e rs l =
    if nat_le (length l.positions) 0xFFFF
    then Some (record {
      positions = l.positions ++ record { part = p; next = 0; is_nullable = e } ∷ [];
      roots = record { number = length l.positions; is_nullable = e } ∷ rs;
    })
    else None

abbrev pub with_both : List Root → Links → Option Links
with_both [] l = None
with_both (b ∷ []) l = None
with_both (b ∷ a ∷ rs) l = with_part (part.Both a.number) (a.is_nullable && b.is_nullable) rs l

abbrev pub with_either : List Root → Links → Option Links
with_either [] l = None
with_either (b ∷ []) l = None
with_either (b ∷ a ∷ rs) l = with_part (part.Either a.number) (a.is_nullable || b.is_nullable) rs l

abbrev pub with_around : Part → List Root → Links → Option Links
with_around p [] l = None
with_around p (a ∷ rs) l = with_part p true rs l

abbrev pub with_kind : Kind → Links → Option Links
with_kind kind.Nothing l = with_part part.Nothing true l.roots l
with_kind (kind.OneOf n) l = with_part (part.OneOf n) false l.roots l
with_kind kind.Never l = with_part part.Never false l.roots l
with_kind kind.Both l = with_both l.roots l
with_kind kind.Either l = with_either l.roots l
with_kind kind.Optional l = with_around part.Optional l.roots l
with_kind kind.Repeated l = with_around part.Repeated l.roots l

abbrev pub linked : List Kind → Links → Option Links
linked ks l = folded with_kind ks l

-- ---- the positions of a tree, of which the first one has this number

abbrev pub position : Part → ℕ → Bool → Position
position p x e = record { part = p; next = x; is_nullable = e }

unfoldable pub tree_links : ℕ → Tree → List Position
tree_links n tree.nothing = position part.Nothing 0 true ∷ []
tree_links n (tree.class c) = position (part.OneOf c) 0 false ∷ []
tree_links n tree.never = position part.Never 0 false ∷ []
tree_links n (tree.both a b) =
    tree_links n a ++ (tree_links (suc (root n a)) b ++ position (part.Both (root n a)) 0 (is_nullable a && is_nullable b) ∷ [])
tree_links n (tree.either a b) =
    tree_links n a ++ (tree_links (suc (root n a)) b ++ position (part.Either (root n a)) 0 (is_nullable a || is_nullable b) ∷ [])
tree_links n (tree.optional a) = tree_links n a ++ position part.Optional 0 true ∷ []
tree_links n (tree.repeated a) = tree_links n a ++ position part.Repeated 0 true ∷ []
