-- Names and bodies of elements, in terms of the rows of a grammar, and the bodies that a start opens.
use Rattle.std.proofs.Common.{◌≡◌, ◌∙◌, ℕ, List, ◌∷◌, Bool, true, false, Option, Some, None, cond, if◌then◌else◌, refl, sym, ap, slice_get, length, arith}
use Rattle.std.proofs.Common.{⊎_elim}
use Rattle.std.specs.Option.{option_map}
use Rattle.std.proofs.lemmas.Bool.{cases_lt}
use Rattle.std.proofs.lemmas.List.{get_or_past}
use Rattle.std.proofs.lemmas.Option.{slice_get-map, slice_get-get_or}
use Rattle.rng_model.proofs.Options.{some_is_none}
use Rattle.rng_model.specs.names.Names as names
use Rattle.rng_model.specs.names.Names.{Name}
use Rattle.rng_model.specs.names.NameViews.{class_of}
use Rattle.rng_model.specs.simple.Tree.{Simple, s_not_allowed, s_empty, s_text, s_leaf, s_attribute, s_list, s_data, s_data_except, s_value, s_one_or_more}
use Rattle.rng_model.specs.simple.Tree.{s_joined}
use Rattle.rng_model.specs.simple.Table.{Table, tree_at, tree_over, trees}
use Rattle.rng_model.specs.declared.name.NameClass.{NameClass}
use Rattle.rng_model.specs.declared.simple.PatternId.{PatternId}
use Rattle.rng_model.specs.declared.simple.Simple as rows
use Rattle.rng_model.specs.matching.GrammarMatching.{Reading, reading_of}
use Rattle.rng_model.proofs.NumberedTrees as numbered
use Rattle.rng_names.specs.plain.Holding.{holds}
use Rattle.rng_deriv_laws.specs.plain.Reading.{body_in, body_of, has_name, named_in}
use Rattle.rng_deriv_laws.specs.plain.Derivatives.{Way, bodies_of}
use Rattle.rng_plain_matcher.specs.plain.Bodies.{body_named}

-- past the end of the patterns there is the tree notAllowed
pub tree_past : (ps : List rows.Simple) (id : PatternId) → slice_get ps id.0 ≡ None → s_not_allowed ≡ tree_at ps id
unfolding trees
tree_past ps id none =
    sym (get_or_past (trees ps) id.0 s_not_allowed (⊎_elim
    (λ h. absurd (some_is_none (sym (slice_get-get_or ps id.0 rows.TheVariants.Empty h) ∙ none)))
    (λ h. omega (arith, h, numbered.length-trees s_not_allowed (λ of. tree_over (λ child. of child.0)) ps))
    (cases_lt id.0 (length ps))))

module _ (t : Table) (k : ℕ) where
  seen : NameClass × PatternId → names.NameClass × Simple ℕ
  seen e = (class_of e.0, tree_at t.patterns e.1)

  -- the body of an element that is listed
  pub body_there : (e : NameClass × PatternId) (q : Name) → slice_get t.elements k ≡ Some e
      → body_named (reading_of t) q (s_leaf k) ≡ (if holds (class_of e.0) q then Some (tree_at t.patterns e.1) else None)
  unfolding seen
  body_there e q found =
      let row = slice_get-map seen t.elements k ∙ ap (option_map seen) found in
      ap (λ o. if named_in o q then Some (body_in o) else None) row

  pub no_body_there : (q : Name) → slice_get t.elements k ≡ None → body_named (reading_of t) q (s_leaf k) ≡ None
  unfolding seen
  no_body_there q none = ap (λ o. if named_in o q then Some (body_in o) else None) (slice_get-map seen t.elements k ∙ ap (option_map seen) none)

-- the list with one more way if there is a body
abbrev pub with_body : Option (Simple ℕ) → Simple ℕ → List Way → List Way
with_body None r ws = ws
with_body (Some body) r ws = record { leaf = body; rest = r } ∷ ws

named_or_not : (b : Bool) (body r : Simple ℕ) (ws : List Way)
    → cond b (record { leaf = body; rest = r } ∷ ws) ws ≡ with_body (if b then Some body else None) r ws
named_or_not true body r ws = refl
named_or_not false body r ws = refl

pub bodies_more : (g : Reading) (q : Name) (leaf r : Simple ℕ) (ws : List Way)
    → bodies_of g q (record { leaf = leaf; rest = r } ∷ ws) ≡ with_body (body_named g q leaf) r (bodies_of g q ws)
bodies_more g q s_not_allowed r ws = refl
bodies_more g q s_empty r ws = refl
bodies_more g q s_text r ws = refl
bodies_more g q (s_leaf k) r ws = named_or_not (has_name g k q) (body_of g k) r (bodies_of g q ws)
bodies_more g q (s_attribute c p) r ws = refl
bodies_more g q (s_list p) r ws = refl
bodies_more g q (s_data d) r ws = refl
bodies_more g q (s_data_except d p) r ws = refl
bodies_more g q (s_value d v) r ws = refl
bodies_more g q (s_one_or_more p) r ws = refl
bodies_more g q (s_joined j p p') r ws = refl
