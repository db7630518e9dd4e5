-- Ways by the texts of values: what an index leaves out takes nothing.
use Rattle.std.proofs.Common.{◌≡◌, ◌∙◌, inl, inr, ⊎_elim, ℕ, zero, suc, ◌<◌, List, [], ◌∷◌, ◌++◌, length, Bool, true, false, cond, Contains}
use Rattle.std.proofs.Common.{Option, Some, None}
use Rattle.std.proofs.Common.{String, Global, string_bytes, refl, sym, ap, subst, arith}
use Rattle.std.specs.Prelude.{unwrap_or}
use Rattle.std.specs.HashMap.{HashMap, get_by_text}
use Rattle.std.specs.Map.{lookup}
use Rattle.std.specs.Str.{bytes_eq}
use Rattle.std.proofs.lemmas.List.Elements.{All-contains, Contains-push, Contains-push_cases, Contains-append_cases, Contains-append_left}
use Rattle.std.proofs.lemmas.List.Elements.{Contains-append_right, Contains-get_or}
use Rattle.std.proofs.lemmas.Slice.Eq.{bytes_eq-Decides}
use Rattle.std.proofs.lemmas.Option.{same_Some, none-some}
use Rattle.rng_model.proofs.Members.{not_in_none}
use Rattle.smallvec.specs.SmallVec.{SmallVec}
use Rattle.rng_model.specs.datatypes.Texts.{collapse}
use Rattle.rng_model.specs.datatypes.Datatypes.{Meaning, known_equates}
use Rattle.rng_model.specs.matching.Document.{a_text}
use Rattle.rng_model.specs.matching.GrammarMatching.{reading_of, Reading}
use Rattle.rng_model.specs.names.Lists.{Among, here, there}
use Rattle.rng_model.specs.xsd.TypeSets.{meaning_in}
use Rattle.rng_model.specs.simple.Table.{Table}
use Rattle.rng_model.specs.simple.Tree.{Simple, Datatype, s_value}
use Rattle.rng_deriv_laws.specs.plain.Derivatives.{Way}
use Rattle.rng_deriv_laws.specs.plain.Taking.{Takes}
use Rattle.rng_deriv_laws.specs.plain.Taking as t
use Rattle.rng_deriv_laws.specs.plain.Ways.{EachWay}
use Rattle.rng_deriv_table.specs.views.Node.{Node}
use Rattle.rng_deriv_table.specs.views.Trees.{tree_of}
use Rattle.rng_deriv_table.specs.declared.pattern.PatternNumber.{PatternNumber}
use Rattle.rng_deriv_ways.specs.plain.Ways.{AreInside, IsInside, way_by, ways_by}
use Rattle.rng_deriv_ways.specs.views.Plans.{IsIndex, IsKeptFor, TakesOnly}
use Rattle.rng_deriv_ways.specs.declared.plans.ValueIndex.{ValueIndex}
use Rattle.rng_deriv_ways.specs.declared.way.LeafWay.{LeafWay}
use Rattle.rng_deriv_texts.specs.plain.After.{AreFor, AreRests, attributes_of, items_of}
use Rattle.rng_deriv_texts.specs.plain.ValueWays.{AreNarrowed, AreNarrowedFor, ComparesTexts, IsKeptOrIs}
use Rattle.rng_deriv_texts.specs.declared.first.First.{First}
use Rattle.rng_deriv_ways.proofs.JoinedWays.{ways_among}

-- ---- values whose texts are compared

-- a value of such a type takes one text, once blanks are collapsed
as_value : (g : Reading) (d : Datatype) (v s : List ℕ) → Takes g (s_value d v) [] (a_text s ∷ []) → g.tests.equals d v s ≡ true
as_value g d v s (t.value_is e) = e

pub value_takes_only : (t : Table) (ns : List Node) (leaf : PatternNumber) (d : Datatype) (v : List ℕ) (meaning : Meaning) → leaf.0 < length ns
    → tree_of t ns leaf.0 ≡ s_value d v → meaning_in t.types d ≡ Some meaning → ComparesTexts meaning → TakesOnly t ns (collapse v) leaf
value_takes_only t ns leaf d v type inside is named compares = record {
  inside = inside;
  only = λ s taken. compares v s (sym (ap (λ o. known_equates o v s) named)
      ∙ as_value (reading_of t) d v s (subst (λ p. Takes (reading_of t) p [] (a_text s ∷ [])) is taken));
}

-- ---- what is kept for a text

-- the ways for a text are taken out, and put back with one more
module _ {Y Z : Type 0} (before middle after : HashMap (String Y) (SmallVec LeafWay) Z) (key : List ℕ) (put : String Y) (way : LeafWay)
    (none base all : SmallVec LeafWay) (is_key : key ≡ string_bytes put) (is_none : none.items ≡ [])
    (is_base : base ≡ unwrap_or (get_by_text before key) none) (more : all.items ≡ base.items ++ way ∷ [])
    (taken : (q : String Y) → get_by_text middle (string_bytes q) ≡ cond (bytes_eq key (string_bytes q)) None (get_by_text before (string_bytes q)))
    (added : (q : String Y) → get_by_text after (string_bytes q)
    ≡ cond (bytes_eq (string_bytes put) (string_bytes q)) (Some all) (get_by_text middle (string_bytes q)))
  where
    at_put : (q : String Y) → bytes_eq (string_bytes put) (string_bytes q) ≡ true → get_by_text after (string_bytes q) ≡ Some all
    at_put q e = added q ∙ ap (λ b. cond b (Some all) (get_by_text middle (string_bytes q))) e

    elsewhere : (q : String Y) → bytes_eq (string_bytes put) (string_bytes q) ≡ false → get_by_text after (string_bytes q) ≡ get_by_text before (string_bytes q)
    elsewhere q e = added q ∙ ap (λ b. cond b (Some all) (get_by_text middle (string_bytes q))) e ∙ taken q
        ∙ ap (λ b. cond b None (get_by_text before (string_bytes q))) (ap (λ k. bytes_eq k (string_bytes q)) is_key ∙ e)

    base_at : (q : String Y) → bytes_eq (string_bytes put) (string_bytes q) ≡ true → base ≡ unwrap_or (get_by_text before (string_bytes q)) none
    base_at q e = is_base ∙ ap (λ k. unwrap_or (get_by_text before k) none) (is_key ∙ (bytes_eq-Decides (string_bytes put) (string_bytes q)).0 e)

    was_kept : (q : String Y) (w : LeafWay) (o : Option (SmallVec LeafWay)) → get_by_text before (string_bytes q) ≡ o → base ≡ unwrap_or o none
        → Contains base.items w → IsKeptFor before q w
    was_kept q w None at is c = absurd (not_in_none (subst (λ ws. Contains ws w) (ap (λ (v : SmallVec LeafWay). v.items) is ∙ is_none) c))
    was_kept q w (Some vs) at is c = (vs, at, subst (λ (v : SmallVec LeafWay). Contains v.items w) is c)

    pub kept_within : (q : String Y) (w : LeafWay) → IsKeptFor after q w → IsKeptOrIs before q way w
    kept_within q w h = by (bytes_eq (string_bytes put) (string_bytes q)) refl where
      by : (b : Bool) → bytes_eq (string_bytes put) (string_bytes q) ≡ b → IsKeptOrIs before q way w
      by true e =
          let same : h.0 ≡ all = same_Some _ _ (sym h.1 ∙ at_put q e) in
          let c = subst (λ ws. Contains ws w) more (subst (λ (v : SmallVec LeafWay). Contains v.items w) same h.2) in
          ⊎_elim (λ a. inl (was_kept q w _ refl (base_at q e) a)) (λ i. inr (sym i)) (Contains-push_cases base.items way w c)
      by false e = inl (h.0, sym (elsewhere q e) ∙ h.1, h.2)

    pub kept_still : (q : String Y) (w : LeafWay) → IsKeptFor before q w → IsKeptFor after q w
    kept_still q w h = by (bytes_eq (string_bytes put) (string_bytes q)) refl where
      by : (b : Bool) → bytes_eq (string_bytes put) (string_bytes q) ≡ b → IsKeptFor after q w
      by true e =
          let is : base ≡ h.0 = base_at q e ∙ ap (λ o. unwrap_or o none) h.1 in (
            all,
            at_put q e,
            subst (λ ws. Contains ws w) (sym more) (Contains-append_left base.items (way ∷ []) w
                (subst (λ (v : SmallVec LeafWay). Contains v.items w) (sym is) h.2)),
          )
      by false e = (h.0, elsewhere q e ∙ h.1, h.2)

    pub kept_own : IsKeptFor after put way
    kept_own = (
      all,
      at_put put ((bytes_eq-Decides (string_bytes put) (string_bytes put)).1 refl),
      subst (λ ws. Contains ws way) (sym more) (Contains-push base.items way),
    )

-- ---- indexes

-- an index of no ways
pub no_index : (t : Table) (ns : List Node) (index : ValueIndex) → index.others.items ≡ [] → index.by_text.entries ≡ [] → IsIndex t ns [] index
no_index t ns index others texts = record {
  others = λ w c. subst (λ ws. Contains ws w) others c;
  kept = λ text w h. absurd (none-some _ (sym (ap (λ es. lookup (λ k. bytes_eq (string_bytes text) (string_bytes k)) es) texts) ∙ h.1));
  all = λ w c. absurd (not_in_none c);
}

module _ (t : Table) (ns : List Node) (ws : List LeafWay) (way : LeafWay) (before after : ValueIndex) (was : IsIndex t ns ws before) where
  own : (w : LeafWay) → way ≡ w → Contains (ws ++ way ∷ []) w
  own w e = subst (Contains (ws ++ way ∷ [])) e (Contains-push ws way)

  pub other_added : after.others.items ≡ before.others.items ++ way ∷ [] → after.by_text ≡ before.by_text → IsIndex t ns (ws ++ way ∷ []) after
  other_added others texts = record {
    others = λ w c. ⊎_elim (λ a. Contains-append_left ws (way ∷ []) w (was.others w a)) (λ e. own w e)
        (Contains-push_cases before.others.items way w (subst (λ vs. Contains vs w) others c));
    kept = λ text w h. Contains-append_left ws (way ∷ []) w (was.kept text w (subst (λ m. IsKeptFor m text w) texts h));
    all = λ w c. ⊎_elim
        (λ a. ⊎_elim (λ b. inl (subst (λ vs. Contains vs w) (sym others) (Contains-append_left before.others.items (way ∷ []) w b)))
        (λ h. inr (h.0, subst (λ m. IsKeptFor m h.0 w) (sym texts) h.1, h.2)) (was.all w a))
        (λ e. inl (subst (λ vs. Contains vs w) (sym others) (subst (Contains (before.others.items ++ way ∷ [])) e (Contains-push before.others.items way))))
        (Contains-push_cases ws way w c);
  }

  pub text_added : (text : String Global) → TakesOnly t ns (string_bytes text) way.leaf → after.others ≡ before.others
      → ((q : String Global) (w : LeafWay) → IsKeptFor after.by_text q w → IsKeptOrIs before.by_text q way w)
      → ((q : String Global) (w : LeafWay) → IsKeptFor before.by_text q w → IsKeptFor after.by_text q w) → IsKeptFor after.by_text text way
      → IsIndex t ns (ws ++ way ∷ []) after
  text_added text only others within stay put = record {
    others = λ w c. Contains-append_left ws (way ∷ []) w (was.others w (subst (λ (v : SmallVec LeafWay). Contains v.items w) others c));
    kept = λ q w h. ⊎_elim (λ a. Contains-append_left ws (way ∷ []) w (was.kept q w a)) (λ e. own w (sym e)) (within q w h);
    all = λ w c. ⊎_elim
        (λ a. ⊎_elim (λ b. inl (subst (λ (v : SmallVec LeafWay). Contains v.items w) (sym others) b)) (λ h. inr (h.0, stay h.0 w h.1, h.2)) (was.all w a))
        (λ e. inr (text, subst (IsKeptFor after.by_text text) e put, subst (λ (v : LeafWay). TakesOnly t ns (string_bytes text) v.leaf) e only))
        (Contains-push_cases ws way w c);
  }

-- the ways that were found, if any were
abbrev pub found_ways : Option (SmallVec LeafWay) → List LeafWay
found_ways None = []
found_ways (Some vs) = vs.items

-- the ways that an index has for a text, and the others
pub narrowed : (t : Table) (ns : List Node) (ws : List LeafWay) (index : ValueIndex) (s key : List ℕ) (own : String Global) (found : Option (SmallVec LeafWay))
    (few : List LeafWay) → key ≡ string_bytes own → string_bytes own ≡ collapse s → get_by_text index.by_text key ≡ found
    → few ≡ index.others.items ++ found_ways found → IsIndex t ns ws index → AreNarrowedFor t ns [] (a_text s ∷ []) ws few
narrowed t ns ws index s key own found few is_key is_own at is h = record {
  within = λ w c. ⊎_elim (λ a. h.others w a) (λ b. of_found found w (sym (ap (get_by_text index.by_text) is_key) ∙ at) b)
      (Contains-append_cases index.others.items (found_ways found) w (subst (λ vs. Contains vs w) is c));
  all = λ w c taken. subst (λ vs. Contains vs w) (sym is) (⊎_elim (λ a. Contains-append_left index.others.items (found_ways found) w a)
      (λ k.
      let same : string_bytes k.0 ≡ key = sym (k.2.only s taken) ∙ sym is_own ∙ sym is_key in
      let met : found ≡ Some k.1.0 = sym at ∙ sym (ap (get_by_text index.by_text) same) ∙ k.1.1 in
      Contains-append_right index.others.items (found_ways found) w (subst (λ o. Contains (found_ways o) w) (sym met) k.1.2)) (h.all w c));
} where
  of_found : (o : Option (SmallVec LeafWay)) (w : LeafWay) → get_by_text index.by_text (string_bytes own) ≡ o → Contains (found_ways o) w → Contains ws w
  of_found None w e c = absurd (not_in_none c)
  of_found (Some vs) w e c = h.kept own w (vs, e, c)

-- all ways
pub all_narrowed : (t : Table) (ns : List Node) (first : First) (ws few : List LeafWay) → few ≡ ws → AreNarrowed t ns first ws few
all_narrowed t ns first ws few is = record {
  within = λ w c. subst (λ vs. Contains vs w) is c;
  all = λ w c taken. subst (λ vs. Contains vs w) (sym is) c;
}

-- ---- rests of fewer ways

module _ (f : ℕ → Simple ℕ) where
  numbered_way : (ws : List LeafWay) (w : Way) → Among w (ways_by f ws) → (v : LeafWay) × Contains ws v × (way_by f v ≡ w)
  numbered_way [] w a = elim a [ ]
  numbered_way (v ∷ ws) _ here = (v, Contains-get_or (v ∷ ws) 0 v (omega arith), refl)
  numbered_way (v ∷ ws) w (there a) = let h = numbered_way ws w a in (h.0, Contains-append_right (v ∷ []) ws h.0 h.1, h.2)

  module _ (P Q : Simple ℕ → Type 0) where
    each_at : (ws : List LeafWay) → EachWay P Q (ways_by f ws) → (v : LeafWay) → Contains ws v → P (f v.leaf.0) × Q (f v.rest.0)
    each_at [] each v c = absurd (not_in_none c)
    each_at (w ∷ ws) each v c = ⊎_elim (λ a. let T : LeafWay → Type 0 = λ u. P (f u.leaf.0) × Q (f u.rest.0) in subst T (only a) each.0)
        (λ b. each_at ws each.1 v b) (Contains-append_cases (w ∷ []) ws v c) where
          only : Contains (w ∷ []) v → w ≡ v
          only (zero, h, e) = e
          only (suc k, h, e) = absurd (omega (arith, h))

    each_of : (ws : List LeafWay) → ((v : LeafWay) → Contains ws v → P (f v.leaf.0) × Q (f v.rest.0)) → EachWay P Q (ways_by f ws)
    each_of [] each = tt
    each_of (w ∷ ws) each = (each w (Contains-get_or (w ∷ ws) 0 w (omega arith)), each_of ws (λ v c. each v (Contains-append_right (w ∷ []) ws v c)))

module _ (t : Table) (old new : List Node) (first : First) (ws few : List LeafWay) (narrow : AreNarrowed t old first ws few) where
  abbrev f : ℕ → Simple ℕ
  f = tree_of t old

  for_few : AreFor first (ways_by f ws) → AreFor first (ways_by f few)
  for_few each = each_of f _ _ few (λ v c. each_at f _ _ ws each v (narrow.within v c))

  -- the ways that are left out add no rest
  pub rests_of_all : (rests : List PatternNumber) → AreRests t old new first few rests → AreRests t old new first ws rests
  rests_of_all rests own = record {
    inside = own.inside;
    takes = λ each xs ns. let law = own.takes (for_few each) xs ns in (
      λ h. let o = law.0 h in let v = numbered_way f few o.0 o.1 in
          (o.0, subst (λ w. Among w (ways_by f ws)) v.2 (ways_among f ws v.0 (narrow.within v.0 v.1)), o.2, o.3),
      λ o. let v = numbered_way f ws o.0 o.1 in
          let taken = subst (λ (w : Way). Takes (reading_of t) w.leaf (attributes_of first) (items_of first)) (sym v.2) o.2 in
          law.1 (o.0, subst (λ w. Among w (ways_by f few)) v.2 (ways_among f few v.0 (narrow.all v.0 v.1 taken)), o.2, o.3),
    );
    kept = λ each. own.kept (for_few each);
  }

  pub few_inside : (ns : List Node) → AreInside ns ws → AreInside ns few
  few_inside ns inside = λ i d h.
      All-contains (IsInside ns) ws _ inside (narrow.within _ (Contains-get_or few i d h))
