-- Lists of ways, one way at a time.
use Rattle.std.proofs.Common.{◌≡◌, ◌∙◌, List, [], ◌∷◌, ◌++◌, ℕ, Bool, cond, map, refl, sym, ap, rules}
use Rattle.std.proofs.lemmas.List.{map-append}
use Rattle.rng_deriv_laws.proofs.ListFacts.{behind-append}
use Rattle.rng_model.specs.simple.Tree.{Simple, s_not_allowed}
use Rattle.rng_deriv_laws.specs.plain.Derivatives.{Way, behind, choice_of, rests_of}
use Rattle.rng_plain_matcher.specs.declared.ways.Way as declared
use Rattle.rng_plain_matcher.specs.declared.tree.Tree.{the_lemmas}
use Rattle.rng_plain_matcher.specs.declared.tree.Tree.TheVariants as trees
use Rattle.rng_plain_matcher.specs.views.Trees.{tree_of}
use Rattle.rng_plain_matcher.specs.views.Ways.{way_of}

-- one more way of a list is made
pub one_more : (f : Simple ℕ → Simple ℕ) (made new seen : List declared.Way) (way added : declared.Way) → map way_of made ≡ behind f (map way_of seen)
    → new ≡ made ++ added ∷ [] → way_of added ≡ record { leaf = (way_of way).leaf; rest = f (way_of way).rest }
    → map way_of new ≡ behind f (map way_of (seen ++ way ∷ []))
one_more f made new seen way added so_far is made_of =
    ap (map way_of) is
    ∙ map-append way_of made (added ∷ [])
    ∙ ap (λ l. l ++ way_of added ∷ []) so_far
    ∙ ap (λ w. behind f (map way_of seen) ++ w ∷ []) made_of
    ∙ sym (behind-append f (map way_of seen) (way_of way ∷ []))
    ∙ ap (behind f) (sym (map-append way_of seen (way ∷ [])))

-- a choice of what is left after the ways, and of this pattern
abbrev pub rests_with : (Simple ℕ → Bool) → List Way → Simple ℕ → Simple ℕ
rests_with takes [] left = left
rests_with takes (w ∷ ws) left = choice_of (cond (takes w.leaf) w.rest s_not_allowed) (rests_with takes ws left)

pub rests_with_none : (takes : Simple ℕ → Bool) (ws : List Way) → rests_with takes ws s_not_allowed ≡ rests_of takes ws
rests_with_none takes [] = refl
rests_with_none takes (w ∷ ws) = ap (choice_of (cond (takes w.leaf) w.rest s_not_allowed)) (rests_with_none takes ws)

pub rests_with_last : (takes : Simple ℕ → Bool) (ws : List Way) (w : Way) (left : Simple ℕ)
    → rests_with takes (ws ++ w ∷ []) left ≡ rests_with takes ws (choice_of (cond (takes w.leaf) w.rest s_not_allowed) left)
rests_with_last takes [] w left = refl
rests_with_last takes (v ∷ ws) w left = ap (choice_of (cond (takes v.leaf) v.rest s_not_allowed)) (rests_with_last takes ws w left)

-- the last way is taken off
pub rests_more : (takes : Simple ℕ → Bool) (old ws : List declared.Way) (way : declared.Way) (left new whole : Simple ℕ) → old ≡ ws ++ way ∷ []
    → new ≡ choice_of (cond (takes (way_of way).leaf) (way_of way).rest s_not_allowed) left → rests_with takes (map way_of old) left ≡ whole
    → rests_with takes (map way_of ws) new ≡ whole
rests_more takes old ws way left new whole popped is before =
    ap (rests_with takes (map way_of ws)) is
    ∙ sym (rests_with_last takes (map way_of ws) (way_of way) left)
    ∙ ap (λ l. rests_with takes l left) (sym (map-append way_of ws (way ∷ [])) ∙ ap (map way_of) (sym popped))
    ∙ before

-- nothing is left of the pattern
pub none_left : tree_of trees.NotAllowed ≡ s_not_allowed
none_left = search (rules, the_lemmas)
