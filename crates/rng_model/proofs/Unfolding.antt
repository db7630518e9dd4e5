-- A pattern has at most one tree, and no tree if its expansion goes on forever.
use Rattle.std.proofs.Common.{◌≡◌, refl, ap, ◌∙◌, subst, Some}
use Rattle.rng_model.specs.simple.Tree.{Tree, leaf, attribute, list, data_except, mixed, optional, zero_or_more, one_or_more, Trees}
use Rattle.rng_model.specs.schema.Patterns.{Place, Point}
use Rattle.rng_model.specs.schema.Schema.{Schema, Definition, body}
use Rattle.rng_model.specs.simple.Leaves.{LeafIn, LeafAmong}
use Rattle.rng_model.specs.simple.Leaves as at
use Rattle.rng_model.specs.schema.Unfolding.{Leaf, Aim, to_element, to_definition, aim, Unfolds, UnfoldAll, IsTreeOf}
use Rattle.rng_model.specs.schema.Unfolding as u
use Rattle.rng_model.proofs.Options.{one_value}

pub one_element : {w : Aim} {l m : Leaf} → w ≡ to_element l → w ≡ to_element m → l ≡ m
one_element e f = cc

pub one_definition : {w : Aim} {d e : Definition} → w ≡ to_definition d → w ≡ to_definition e → d ≡ e
one_definition p q = cc

pub not_both : {w : Aim} {l : Leaf} {d : Definition} → w ≡ to_element l → w ≡ to_definition d → ⊥
not_both e f = cc

module _ (s : Schema) where
  -- a definition has one combined body
  pub moved : {d e : Definition} {a b : Tree Point} {t : Tree Leaf} → d ≡ e → body s d ≡ Some a → body s e ≡ Some b → Unfolds s d.place a t
      → Unfolds s e.place b t
  moved {d = d} {a = a} {b = b} {t = t} p f g u =
      subst (λ w. Unfolds s w.place b t) p (subst (λ c. Unfolds s d.place c t) (one_value f (ap (body s) p ∙ g)) u)

  mutual
    pub one_tree : {x : Place} {a : Tree Point} {t v : Tree Leaf} → Unfolds s x a t → Unfolds s x a v → t ≡ v
    one_tree u.not_allowed_is u.not_allowed_is = refl
    one_tree u.empty_is u.empty_is = refl
    one_tree u.text_is u.text_is = refl
    one_tree (u.element_is e) (u.element_is f) = ap leaf (one_element e f)
    one_tree (u.element_is e) (u.found f b d) = absurd (not_both e f)
    one_tree (u.found f b d) (u.element_is e) = absurd (not_both e f)
    one_tree (u.found f b d) (u.found g c e) = one_tree d (moved (one_definition g f) c b e)
    one_tree (u.attribute_is d) (u.attribute_is {c} e) = ap (attribute c) (one_tree d e)
    one_tree (u.list_is d) (u.list_is e) = ap list (one_tree d e)
    one_tree u.data_is u.data_is = refl
    one_tree (u.except_is d) (u.except_is {d = n} e) = ap (data_except n) (one_tree d e)
    one_tree u.value_is u.value_is = refl
    one_tree (u.mixed_is d) (u.mixed_is e) = ap mixed (one_tree d e)
    one_tree (u.optional_is d) (u.optional_is e) = ap optional (one_tree d e)
    one_tree (u.zero_or_more_is d) (u.zero_or_more_is e) = ap zero_or_more (one_tree d e)
    one_tree (u.one_or_more_is d) (u.one_or_more_is e) = ap one_or_more (one_tree d e)
    one_tree (u.joined_is c d ds) (u.joined_is e f es) = let p = one_tree c e in let q = one_tree d f in let r = one_trees ds es in cc

    one_trees : {x : Place} {ts : Trees Point} {us vs : Trees Leaf} → UnfoldAll s x ts us → UnfoldAll s x ts vs → us ≡ vs
    one_trees u.none_is u.none_is = refl
    one_trees (u.more_are d ds) (u.more_are e es) = let p = one_tree d e in let q = one_trees ds es in cc

-- the pattern at the place mentions, outside elements, a definition for which P holds
pub record MentionsSome (s : Schema) (P : Definition → Type 0) (x : Place) (a : Tree Point) : Type 0 where
  pub point : Point
  pub definition : Definition
  pub there : LeafIn point a
  pub aimed : aim s x point ≡ to_definition definition
  pub holds : P definition

-- each definition of the set mentions one of the set
abbrev pub IsStuck : Schema → (Definition → Type 0) → Type 0
IsStuck s P = (d : Definition) → P d → (a : Tree Point) → body s d ≡ Some a → MentionsSome s P d.place a

-- no pattern that mentions one of a stuck set has a tree
module _ (s : Schema) (P : Definition → Type 0) (stuck : IsStuck s P) where
  mutual
    pub no_tree : {x : Place} {a : Tree Point} {t : Tree Leaf} {l : Point} {d : Definition} → LeafIn l a → Unfolds s x a t → aim s x l ≡ to_definition d
        → P d → ⊥
    no_tree at.here (u.element_is e) f p = not_both e f
    no_tree at.here (u.found {d = d} e b v) f p = let k = stuck d (subst P (one_definition f e) p) _ b in no_tree k.there v k.aimed k.holds
    no_tree (at.of_attribute i) (u.attribute_is d) f p = no_tree i d f p
    no_tree (at.of_list i) (u.list_is d) f p = no_tree i d f p
    no_tree (at.of_except i) (u.except_is d) f p = no_tree i d f p
    no_tree (at.of_mixed i) (u.mixed_is d) f p = no_tree i d f p
    no_tree (at.of_optional i) (u.optional_is d) f p = no_tree i d f p
    no_tree (at.of_zero_or_more i) (u.zero_or_more_is d) f p = no_tree i d f p
    no_tree (at.of_one_or_more i) (u.one_or_more_is d) f p = no_tree i d f p
    no_tree (at.of_first i) (u.joined_is d e es) f p = no_tree i d f p
    no_tree (at.of_second i) (u.joined_is d e es) f p = no_tree i e f p
    no_tree (at.of_others i) (u.joined_is d e es) f p = no_tree_among i es f p

    no_tree_among : {x : Place} {ts : Trees Point} {us : Trees Leaf} {l : Point} {d : Definition} → LeafAmong l ts → UnfoldAll s x ts us
        → aim s x l ≡ to_definition d → P d → ⊥
    no_tree_among (at.in_this i) (u.more_are d es) f p = no_tree i d f p
    no_tree_among (at.in_later i) (u.more_are d es) f p = no_tree_among i es f p

  -- a definition of a stuck set has no tree
  pub none_of_stuck : (d : Definition) → P d → (t : Tree Leaf) → IsTreeOf s d t → ⊥
  none_of_stuck d p t v = let k = stuck d p v.0 v.1 in no_tree k.there v.2 k.aimed k.holds
