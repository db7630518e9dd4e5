-- Expressions whose counts are written out, as trees, and the rows of such a tree. A class has a number.
use Rattle.std.specs.Prelude.{ℕ, zero, suc, ◌+◌, ◌-◌, List, [], ◌∷◌, ◌++◌, length, Bool, true, false, ◌&&◌, ◌||◌}
use Rattle.std.specs.Prelude.{Option, Some, None, if◌then◌else◌, nat_le}
use Rattle.rng_model.specs.regexes.Expressions.{Class, no_char, Regex, nothing_more, one_of, both, either, times}
use Rattle.xsd_positions.specs.declared.drafts.Kind.{Kind}
use Rattle.xsd_positions.specs.declared.drafts.Kind.TheVariants as kind
use Rattle.xsd_positions.specs.views.Positions.{class_at}
use Rattle.xsd_positions.specs.plain.Trees as tree
use Rattle.xsd_positions.specs.plain.Trees.{Tree}

-- ---- the expression of a tree

unfoldable pub regex_of : List Class → Tree → Regex
regex_of ks tree.nothing = nothing_more
regex_of ks (tree.class n) = one_of (class_at ks n)
regex_of ks tree.never = one_of no_char
regex_of ks (tree.both a b) = both (regex_of ks a) (regex_of ks b)
regex_of ks (tree.either a b) = either (regex_of ks a) (regex_of ks b)
regex_of ks (tree.optional a) = either nothing_more (regex_of ks a)
regex_of ks (tree.repeated a) = times 0 None (regex_of ks a)

-- whether the expression matches the empty text
unfoldable pub is_nullable : Tree → Bool
is_nullable tree.nothing = true
is_nullable (tree.class n) = false
is_nullable tree.never = false
is_nullable (tree.both a b) = is_nullable a && is_nullable b
is_nullable (tree.either a b) = is_nullable a || is_nullable b
is_nullable (tree.optional a) = true
is_nullable (tree.repeated a) = true

-- ---- the tree of an expression

-- the classes of an expression, in order
unfoldable pub classes_in : Regex → List Class
classes_in nothing_more = []
classes_in (one_of k) = k ∷ []
classes_in (both a b) = classes_in a ++ classes_in b
classes_in (either a b) = classes_in a ++ classes_in b
classes_in (times n m a) = classes_in a

unfoldable pub tree_copies : ℕ → Tree → Tree → Tree
tree_copies zero a rest = rest
tree_copies (suc n) a rest = tree.both a (tree_copies n a rest)

unfoldable pub tree_at_most : ℕ → Tree → Tree
tree_at_most zero a = tree.nothing
tree_at_most (suc n) a = tree.optional (tree.both a (tree_at_most n a))

abbrev pub tree_counted : ℕ → Option ℕ → Tree → Tree
tree_counted n None a = tree_copies n a (tree.repeated a)
tree_counted n (Some m) a = if nat_le n m then tree_copies n a (tree_at_most (m - n) a) else tree.never

-- The counts are written out, and the first class has this number.
unfoldable pub tree_of : ℕ → Regex → Tree
tree_of c nothing_more = tree.nothing
tree_of c (one_of k) = tree.class c
tree_of c (both a b) = tree.both (tree_of c a) (tree_of (c + length (classes_in a)) b)
tree_of c (either a b) = tree.either (tree_of c a) (tree_of (c + length (classes_in a)) b)
tree_of c (times n m a) = tree_counted n m (tree_of c a)

-- ---- rows

-- each part behind its own parts
unfoldable pub rows_of : Tree → List Kind
rows_of tree.nothing = kind.Nothing ∷ []
rows_of (tree.class n) = kind.OneOf n ∷ []
rows_of tree.never = kind.Never ∷ []
rows_of (tree.both a b) = rows_of a ++ (rows_of b ++ kind.Both ∷ [])
rows_of (tree.either a b) = rows_of a ++ (rows_of b ++ kind.Either ∷ [])
rows_of (tree.optional a) = rows_of a ++ kind.Optional ∷ []
rows_of (tree.repeated a) = rows_of a ++ kind.Repeated ∷ []

-- the number of the last row, if the first one has this number
unfoldable pub root : ℕ → Tree → ℕ
root n tree.nothing = n
root n (tree.class c) = n
root n tree.never = n
root n (tree.both a b) = suc (root (suc (root n a)) b)
root n (tree.either a b) = suc (root (suc (root n a)) b)
root n (tree.optional a) = suc (root n a)
root n (tree.repeated a) = suc (root n a)
