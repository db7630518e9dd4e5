-- What is still to be written of a name class, the last part first.
use Rattle.std.specs.Prelude.{ℕ, ◌+◌, List, [], ◌∷◌, ◌++◌, codes, flat_map, fold, map}
use Rattle.std.specs.List.{sum_by}
use Rattle.rng_model.specs.names.Names as names
use Rattle.rng_model.specs.names.NameViews.{class_of}
use Rattle.rng_model.specs.declared.name.NameClass.{NameClass, fold-NameClass}
use Rattle.rng_model.specs.declared.name.NameClass.TheOpen.{NameClass-F}
use Rattle.expected_text.specs.ExpectationText.{class_texts}
use Rattle.expected_text.specs.declared.parts.Part.{Part}
use Rattle.expected_text.specs.declared.parts.Part.TheVariants as parts
use Rattle.expected_text.specs.declared.parts.Place.{Place}
use Rattle.expected_text.specs.declared.parts.Place.TheVariants as places

-- ---- texts

abbrev pub front : Place → List ℕ
front places.Element = codes "element "
front places.Attribute = codes "attribute "
front places.Except = []

abbrev pub back : Place → List ℕ
back places.Element = 0xA ∷ []
back places.Attribute = 0xA ∷ []
back places.Except = codes " "

-- the text of a class at its place
abbrev pub placed : Place → List ℕ → List ℕ
placed p w = front p ++ (w ++ back p)

abbrev pub text_at : Place → names.NameClass → List ℕ
text_at p c = flat_map (placed p) (class_texts c)

abbrev pub part_text : Part → List ℕ
part_text (parts.Class p c) = text_at p (class_of c.now)
part_text (parts.Members p cs) = flat_map (λ c. text_at p (class_of c)) cs.now
part_text (parts.Words w) = w.now

unfoldable pub left_text : List Part → List ℕ
left_text ps = fold (λ w p. part_text p ++ w) [] ps

-- ---- measures: what is put in the place of a part is less

abbrev pub members_weight : List ℕ → ℕ
members_weight ns = sum_by (λ n. n + 1) ns

abbrev pub weight_step : NameClass-F ℕ → ℕ
weight_step NameClass-F.Any = 1
weight_step (NameClass-F.AnyExcept except) = except.value + 3
weight_step (NameClass-F.Ns ns) = 1
weight_step (NameClass-F.NsExcept ns except) = except.value + 3
weight_step (NameClass-F.Name n) = 1
weight_step (NameClass-F.Choice all) = members_weight all.items + 2

abbrev pub class_weight : NameClass → ℕ
class_weight = fold-NameClass ℕ weight_step

abbrev pub part_weight : Part → ℕ
part_weight (parts.Class p c) = class_weight c.now
part_weight (parts.Members p cs) = members_weight (map class_weight cs.now) + 1
part_weight (parts.Words w) = 1

unfoldable pub left_weight : List Part → ℕ
left_weight ps = sum_by part_weight ps
