-- At each place of a set of files there is at most one grammar, with at most one around it.
use Rattle.std.proofs.Common.{◌≡◌, refl, sym, subst, ap, ◌∙◌, ℕ, suc, ◌<◌, Option, Some, None, List, [], ◌∷◌, ◌++◌, arith, inl, inr}
use Rattle.std.proofs.lemmas.Bool.{cases_order}
use Rattle.std.proofs.lemmas.List.{append_assoc}
use Rattle.rng_model.specs.names.Lists.{Among}
use Rattle.rng_model.specs.schema.Patterns.{Place}
use Rattle.rnc_model.specs.grammar.Syntax as tree
use Rattle.rnc_model.specs.grammar.Syntax.{applied}
use Rattle.rnc_model.specs.declarations.FileTree.{FileTree}
use Rattle.rnc_model.specs.loading.Places.{TreePath, Gathered, main_grammar}
use Rattle.rnc_model.specs.loading.LoadedSchema.{Gathers, HasGrammar, main_is, nested_is}
use Rattle.rng_load.proofs.Places.OneSchema.{one_gathering}
use Rattle.rng_load.specs.plain.FoundGrammars.{nested_in}
use Rattle.rng_load.proofs.Places.PlacesApart.{longer, same_entry, in_nested, gathered_children}

module _ (files : List ℕ → Option FileTree) (main : FileTree) where
  -- the number of grammars around a grammar
  abbrev pub depth : {x : Place} {o : Option Place} {u : List ℕ} {cs : tree.ComponentsAt applied} → HasGrammar files main x o u cs → ℕ
  depth (main_is e) = 0
  depth (nested_is h d i j) = suc (depth h)

  -- two are equal: the place, the one around it, the namespace and the components
  pub record AreOne (x y : Place) (o p : Option Place) (u v : List ℕ) (cs ds : tree.ComponentsAt applied) : Type 0 where
    pub place : x ≡ y
    pub outer : o ≡ p
    pub uri : u ≡ v
    pub components : cs ≡ ds

  gathered_once : {x y : Place} {u v : List ℕ} {cs ds : tree.ComponentsAt applied} {all more : List Gathered} → x ≡ y → u ≡ v → cs ≡ ds
      → Gathers files u x 0 cs all → Gathers files v y 0 ds more → all ≡ more
  gathered_once {x} {y} {u} {v} {cs} {ds} {all} {more} e f g a b =
      one_gathering files a (subst (λ w. Gathers files w x 0 cs more) (sym f) (subst (λ z. Gathers files v z 0 cs more) (sym e)
      (subst (λ is. Gathers files v y 0 is more) (sym g) b)))

  further_up : (f g : TreePath) (i : ℕ) (z : TreePath) → (f ++ g ++ i ∷ []) ++ z ≡ f ++ (g ++ i ∷ z)
  further_up f g i z = append_assoc (f ++ g) (i ∷ []) z ∙ append_assoc f g (i ∷ z)

  -- a way extends the place of at most one grammar of each depth
  pub one_at_depth : {x y : Place} {o p : Option Place} {u v : List ℕ} {cs ds : tree.ComponentsAt applied} (h : HasGrammar files main x o u cs)
      → (k : HasGrammar files main y p v ds) → depth h ≡ depth k → (f g : TreePath) → f ++ x ≡ g ++ y → AreOne x y o p u v cs ds
  one_at_depth (main_is d) (main_is e) l f g w = record { place = refl; outer = refl; uri = refl; components = d ∙ sym e }
  one_at_depth (main_is d) (nested_is k e i j) l f g w = absurd (omega (arith, l))
  one_at_depth (nested_is h d i j) (main_is e) l f g w = absurd (omega (arith, l))
  one_at_depth (nested_is {x} {n = n} h d i j) (nested_is {x = y} {n = m} k e a b) l f g w =
      let c = (gathered_children files d).leads n (in_nested i j) in
      let t = (gathered_children files e).leads m (in_nested a b) in
      let up = further_up f c.0 c.1 x ∙ ap (λ z. f ++ z) (sym c.3) ∙ w ∙ ap (λ z. g ++ z) t.3 ∙ sym (further_up g t.0 t.1 y) in
      let r = one_at_depth h k (omega (arith, l)) (f ++ c.0 ++ c.1 ∷ []) (g ++ t.0 ++ t.1 ∷ []) up in
      let s = gathered_once r.place r.uri r.components d e in
      let q = same_entry f g (gathered_children files d).apart (in_nested i j) (subst (λ gs. Among m (nested_in gs)) (sym s) (in_nested a b)) w in
      record { place = ap (λ k. k.place) q; outer = ap (λ z. Some z) r.place; uri = ap (λ k. k.uri) q; components = ap (λ k. k.components) q }

  -- a grammar with k grammars around it whose place this place extends
  pub record Around (x : Place) (k : ℕ) : Type 0 where
    pub place : Place
    pub outer : Option Place
    pub uri : List ℕ
    pub components : tree.ComponentsAt applied
    pub there : HasGrammar files main place outer uri components
    pub deep : depth there ≡ k
    pub way : TreePath
    pub child : ℕ
    pub leads : x ≡ way ++ child ∷ place

  further : (y x : Place) (f : TreePath) (i k : ℕ) → y ≡ f ++ i ∷ x → Around x k → Around y k
  further y x f i k e r = record {
    place = r.place;
    outer = r.outer;
    uri = r.uri;
    components = r.components;
    there = r.there;
    deep = r.deep;
    way = (f ++ i ∷ []) ++ r.way;
    child = r.child;
    leads = e ∙ sym (append_assoc f (i ∷ []) x) ∙ ap (λ z. (f ++ i ∷ []) ++ z) r.leads ∙ sym (append_assoc (f ++ i ∷ []) r.way (r.child ∷ r.place));
  }

  -- a grammar with more than k grammars around it has one of depth k among them
  pub around : {x : Place} {o : Option Place} {u : List ℕ} {cs : tree.ComponentsAt applied} (h : HasGrammar files main x o u cs) (k : ℕ) → k < depth h
      → Around x k
  around (main_is e) k l = absurd (omega (arith, l))
  around (nested_is {x} {o} {u} {cs} {n = n} h d i j) k l =
      let c = (gathered_children files d).leads n (in_nested i j) in
      elim (cases_order k (depth h)) [
        | inl e ↦ record { place = x; outer = o; uri = u; components = cs; there = h; deep = sym e; way = c.0; child = c.1; leads = c.3 }
        | inr b ↦ elim b [ inl s ↦ further n.place x c.0 c.1 k c.3 (around h k s) | inr g ↦ absurd (omega (arith, l, g)) ]
      ]

  never : {x : Place} {o p : Option Place} {u v : List ℕ} {cs ds : tree.ComponentsAt applied} (h : HasGrammar files main x o u cs)
      → (k : HasGrammar files main x p v ds) → depth h < depth k → ⊥
  never {x} h k l =
      let r = around k (depth h) l in
      let s = one_at_depth h r.there (sym r.deep) [] (r.way ++ r.child ∷ []) (r.leads ∙ sym (append_assoc r.way (r.child ∷ []) r.place)) in
      longer x r.way r.child (r.leads ∙ ap (λ z. r.way ++ r.child ∷ z) (sym s.place))

  -- the grammar of the main file is at the empty place
  pub main_there : HasGrammar files main [] None [] (main_grammar main)
  main_there = main_is refl

  -- at a place there is at most one grammar, one around it, and one namespace that its file inherits
  pub one_grammar : {x : Place} {o p : Option Place} {u v : List ℕ} {cs ds : tree.ComponentsAt applied} → HasGrammar files main x o u cs
      → HasGrammar files main x p v ds → (o ≡ p) × (u ≡ v) × (cs ≡ ds)
  one_grammar h k = elim (cases_order (depth h) (depth k)) [
    | inl e ↦ let r = one_at_depth h k e [] [] refl in (r.outer, r.uri, r.components)
    | inr b ↦ elim b [ inl s ↦ absurd (never h k s) | inr g ↦ absurd (never k h g) ]
  ]
