-- A table that is filled in an order in which each definition comes after those that it mentions is right everywhere.
use Rattle.std.proofs.Common.{◌≡◌, ap, ◌∙◌, sym, subst, ◌⊎◌, inl, inr, List, Contains}
use Rattle.std.proofs.lemmas.List.Elements.{Contains-push, Contains-push_cases, Contains-append_left}
use Rattle.rng_model.proofs.Members.{not_in_none}
use Rattle.rng_model.specs.simple.Tree.{Tree, leaf}
use Rattle.rng_model.specs.schema.Patterns.{Place, Point}
use Rattle.rng_model.specs.schema.Schema.{Schema, Definition}
use Rattle.rng_model.specs.simple.Leaves.{LeafIn}
use Rattle.rng_model.specs.schema.Unfolding.{Leaf, to_definition, aim, Unfolds}
use Rattle.rng_model.specs.schema.Unfolding as u
use Rattle.rng_simple.specs.plain.Met.{IsSettled, IsOrder, none_yet, and_then}
use Rattle.rng_simple.specs.plain.DepthWith.{of_aim, IsFilled, IsRight}
use Rattle.rng_model.proofs.Options.{one_value}

module _ (A : Type 0) (s : Schema) (of_tree : Tree Leaf → A) (one : Leaf → A) (other : A) (is_one : (m : Leaf) → one m ≡ of_tree (leaf m))
    (table : Definition → A) where
  point_is : {x : Place} {l : Point} {v : Tree Leaf} → Unfolds s x (leaf l) v
      → ((d : Definition) → aim s x l ≡ to_definition d → IsRight s of_tree table d) → of_aim one other table (aim s x l) ≡ of_tree v
  point_is (u.element_is {m = m} e) h = ap (of_aim one other table) e ∙ is_one m
  point_is (u.found {d = d} {a = a} e b v) h = ap (of_aim one other table) e ∙ h d e _ (a, b, v)

  module _ (of_body : Place → Tree Point → A)
      (body_is : (x : Place) (a : Tree Point) (t : Tree Leaf) → Unfolds s x a t
      → ((l : Point) (v : Tree Leaf) → LeafIn l a → Unfolds s x (leaf l) v → of_aim one other table (aim s x l) ≡ of_tree v) → of_body x a ≡ of_tree t) where
    -- a body is right if the table is right for the definitions that it mentions
    pub body_right : (P : Definition → Type 0) → ((d : Definition) → P d → IsRight s of_tree table d) → (x : Place) (a : Tree Point)
        → ((l : Point) → LeafIn l a → IsSettled P (aim s x l)) → (t : Tree Leaf) → Unfolds s x a t → of_body x a ≡ of_tree t
    body_right P right x a k t d = body_is x a t d (λ l v i e. point_is e (λ c f. right c (subst (IsSettled P) f (k l i))))

    newest_right : (ds : List Definition) (d e : Definition) → ((c : Definition) → Contains ds c → IsRight s of_tree table c) → IsRight s of_tree table e
        → Contains ds d ⊎ (e ≡ d) → IsRight s of_tree table d
    newest_right ds d e right h (inl i) = right d i
    newest_right ds d e right h (inr q) = subst (IsRight s of_tree table) q h

    pub filled_right : {ds : List Definition} → IsOrder s ds → IsFilled s of_body table ds → (d : Definition) → Contains ds d → IsRight s of_tree table d
    filled_right none_yet f d c = absurd (not_in_none c)
    filled_right (and_then {ds} {es} {a} e o b k p) f d c =
        let right = filled_right o (λ g i. f g (subst (λ xs. Contains xs g) (sym p) (Contains-append_left ds _ g i))) in
        let ends : Contains es e = subst (λ xs. Contains xs e) (sym p) (Contains-push ds e) in
        newest_right ds d e right
        (λ t w. f e ends a b ∙ body_right (Contains ds) right e.place a k t (subst (λ z. Unfolds s e.place z t) (one_value w.1 b) w.2))
        (Contains-push_cases ds e d (subst (λ xs. Contains xs d) p c))
