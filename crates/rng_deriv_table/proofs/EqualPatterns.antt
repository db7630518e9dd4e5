-- Nodes distinguish patterns.
use Rattle.std.proofs.Common.{◌≡◌, refl, ap, ap₂, sym, ◌∙◌, Bool, true, false, true≢false, ◌&&◌, List, [], ◌∷◌, map, ◌==◌}
use Rattle.std.proofs.lemmas.Bool.{and_parts, and_from}
use Rattle.std.proofs.lemmas.Bool.Decides.{Decides-eqb}
use Rattle.std.specs.Cmp.Lexicographic.{pointwise}
use Rattle.std.specs.Str.{bytes_eq}
use Rattle.std.proofs.lemmas.Slice.Eq.{bytes_eq-Decides}
use Rattle.rng_deriv_table.specs.views.Node.{Node, node_of}
use Rattle.rng_deriv_table.specs.views.Node as node
use Rattle.rng_deriv_table.specs.declared.pattern.PatternNumber.{PatternNumber}
use Rattle.rng_deriv_table.specs.declared.pattern.Pattern.{Pattern}
use Rattle.rng_deriv_table.specs.declared.pattern.Pattern.TheVariants as pattern
use Rattle.rng_deriv_table.specs.contracts.pattern.PatternPartialEq.TheImpl as same

abbrev numbers_eq : List PatternNumber → List PatternNumber → Bool
numbers_eq ms ns = pointwise (λ (m n : PatternNumber). m.0 == n.0) ms ns

same_numbers : (ms ns : List PatternNumber) → numbers_eq ms ns ≡ true → map (λ (m : PatternNumber). m.0) ms ≡ map (λ (m : PatternNumber). m.0) ns
same_numbers [] [] e = refl
same_numbers [] (n ∷ ns) e = absurd (true≢false (sym e))
same_numbers (m ∷ ms) [] e = absurd (true≢false (sym e))
same_numbers (m ∷ ms) (n ∷ ns) e =
    let both = and_parts (m.0 == n.0) (numbers_eq ms ns) e in
    ap₂ (λ x xs. x ∷ xs) ((Decides-eqb m.0 n.0).0 both.0) (same_numbers ms ns both.1)

-- equal patterns have one node
pub same_node : (p q : Pattern) → same.ghosts.eq p q ≡ true → node_of p ≡ node_of q
same_node pattern.NotAllowed pattern.NotAllowed e = refl
same_node pattern.Empty pattern.Empty e = refl
same_node pattern.Text pattern.Text e = refl
same_node (pattern.Choice ms) (pattern.Choice ns) e = ap node.choice (same_numbers ms.items ns.items e)
same_node (pattern.Group a b) (pattern.Group c d) e =
    let both = and_parts (a.0 == c.0) (b.0 == d.0) e in ap₂ node.group ((Decides-eqb a.0 c.0).0 both.0) ((Decides-eqb b.0 d.0).0 both.1)
same_node (pattern.Interleave a b) (pattern.Interleave c d) e =
    let both = and_parts (a.0 == c.0) (b.0 == d.0) e in ap₂ node.interleave ((Decides-eqb a.0 c.0).0 both.0) ((Decides-eqb b.0 d.0).0 both.1)
same_node (pattern.OneOrMore a) (pattern.OneOrMore c) e = ap node.one_or_more ((Decides-eqb a.0 c.0).0 e)
same_node (pattern.Element a) (pattern.Element c) e = ap node.element ((Decides-eqb a.0 c.0).0 e)
same_node (pattern.Attribute a) (pattern.Attribute c) e = ap node.attribute ((Decides-eqb a.0 c.0).0 e)
same_node (pattern.Data a) (pattern.Data c) e = ap node.data_at ((Decides-eqb a.0 c.0).0 e)
same_node _ _ e = absurd (true≢false (sym e))

-- whether a pattern has the node
abbrev has_node : Pattern → Node → Bool
has_node pattern.NotAllowed node.not_allowed = true
has_node pattern.Empty node.empty = true
has_node pattern.Text node.text = true
has_node (pattern.Choice ms) (node.choice ns) = bytes_eq (map (λ (m : PatternNumber). m.0) ms.items) ns
has_node (pattern.Group a b) (node.group c d) = (a.0 == c) && (b.0 == d)
has_node (pattern.Interleave a b) (node.interleave c d) = (a.0 == c) && (b.0 == d)
has_node (pattern.OneOrMore a) (node.one_or_more c) = a.0 == c
has_node (pattern.Element a) (node.element c) = a.0 == c
has_node (pattern.Attribute a) (node.attribute c) = a.0 == c
has_node (pattern.Data a) (node.data_at c) = a.0 == c
has_node _ _ = false

has_own : (p : Pattern) → has_node p (node_of p) ≡ true
has_own pattern.NotAllowed = refl
has_own pattern.Empty = refl
has_own pattern.Text = refl
has_own (pattern.Choice ms) = let xs = map (λ (m : PatternNumber). m.0) ms.items in (bytes_eq-Decides xs xs).1 refl
has_own (pattern.Group a b) = and_from (a.0 == a.0) (b.0 == b.0) ((Decides-eqb a.0 a.0).1 refl) ((Decides-eqb b.0 b.0).1 refl)
has_own (pattern.Interleave a b) = and_from (a.0 == a.0) (b.0 == b.0) ((Decides-eqb a.0 a.0).1 refl) ((Decides-eqb b.0 b.0).1 refl)
has_own (pattern.OneOrMore a) = (Decides-eqb a.0 a.0).1 refl
has_own (pattern.Element a) = (Decides-eqb a.0 a.0).1 refl
has_own (pattern.Attribute a) = (Decides-eqb a.0 a.0).1 refl
has_own (pattern.Data a) = (Decides-eqb a.0 a.0).1 refl

compares_numbers : (ms ns : List PatternNumber) → numbers_eq ms ns ≡ bytes_eq (map (λ (m : PatternNumber). m.0) ms) (map (λ (m : PatternNumber). m.0) ns)
compares_numbers [] [] = refl
compares_numbers [] (n ∷ ns) = refl
compares_numbers (m ∷ ms) [] = refl
compares_numbers (m ∷ ms) (n ∷ ns) = ap (λ b. (m.0 == n.0) && b) (compares_numbers ms ns)

compares : (p q : Pattern) → same.ghosts.eq p q ≡ has_node p (node_of q)
compares pattern.NotAllowed pattern.NotAllowed = refl
compares pattern.Empty pattern.Empty = refl
compares pattern.Text pattern.Text = refl
compares (pattern.Choice ms) (pattern.Choice ns) = compares_numbers ms.items ns.items
compares (pattern.Group a b) (pattern.Group c d) = refl
compares (pattern.Interleave a b) (pattern.Interleave c d) = refl
compares (pattern.OneOrMore a) (pattern.OneOrMore c) = refl
compares (pattern.Element a) (pattern.Element c) = refl
compares (pattern.Attribute a) (pattern.Attribute c) = refl
compares (pattern.Data a) (pattern.Data c) = refl
compares _ _ = refl

-- patterns with one node are equal
pub equal_pattern : (p q : Pattern) → node_of p ≡ node_of q → same.ghosts.eq p q ≡ true
equal_pattern p q e = compares p q ∙ ap (has_node p) (sym e) ∙ has_own p
