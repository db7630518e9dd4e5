-- Content types: which of two is greater, and which are groupable.
use Rattle.std.proofs.Common.{◌≡◌, Option, Some, None, refl, sym, ap, ◌∙◌}
use Rattle.std.proofs.lemmas.Option.{same_Some}
use Rattle.rng_deriv_laws.proofs.Restricted.{greater_itself}
use Rattle.rng_model.specs.restrictions.Contents.{ContentType, empty_content, complex_content, simple_content, greater}
use Rattle.rng_deriv_laws.specs.plain.Restricted.{type_of_both, type_of_choice}

pub greater_simple : (u : ContentType) → greater u simple_content ≡ simple_content
greater_simple empty_content = refl
greater_simple complex_content = refl
greater_simple simple_content = refl

greater_assoc : (a b c : ContentType) → greater (greater a b) c ≡ greater a (greater b c)
greater_assoc empty_content b c = refl
greater_assoc complex_content empty_content empty_content = refl
greater_assoc complex_content empty_content complex_content = refl
greater_assoc complex_content empty_content simple_content = refl
greater_assoc complex_content complex_content empty_content = refl
greater_assoc complex_content complex_content complex_content = refl
greater_assoc complex_content complex_content simple_content = refl
greater_assoc complex_content simple_content c = refl
greater_assoc simple_content b c = refl

greater_swapped : (a b : ContentType) → greater a b ≡ greater b a
greater_swapped empty_content empty_content = refl
greater_swapped empty_content complex_content = refl
greater_swapped empty_content simple_content = refl
greater_swapped complex_content empty_content = refl
greater_swapped complex_content complex_content = refl
greater_swapped complex_content simple_content = refl
greater_swapped simple_content empty_content = refl
greater_swapped simple_content complex_content = refl
greater_swapped simple_content simple_content = refl

-- a type within one of two is within the greater one
pub within_first : (x a b : ContentType) → greater x a ≡ a → greater x (greater a b) ≡ greater a b
within_first x a b e = sym (greater_assoc x a b) ∙ ap (λ y. greater y b) e

pub within_second : (x a b : ContentType) → greater x b ≡ b → greater x (greater a b) ≡ greater a b
within_second x a b e = ap (greater x) (greater_swapped a b) ∙ within_first x b a e ∙ greater_swapped b a

pub both_within : (x y c : ContentType) → greater x c ≡ c → greater y c ≡ c → greater (greater x y) c ≡ c
both_within x y c e f = greater_assoc x y c ∙ ap (greater x) f ∙ e

-- two types that are groupable are still so if they become less
pub less_together : (a b c x y : ContentType) → type_of_both (Some a) (Some b) ≡ Some c → greater x a ≡ a → greater y b ≡ b
    → type_of_both (Some x) (Some y) ≡ Some (greater x y)
less_together a b c empty_content y e f h = refl
less_together a b c complex_content empty_content e f h = refl
less_together a b c complex_content complex_content e f h = refl
less_together empty_content b c complex_content simple_content e f h = absurd (cc)
less_together complex_content empty_content c complex_content simple_content e f h = absurd (cc)
less_together complex_content complex_content c complex_content simple_content e f h = absurd (cc)
less_together complex_content simple_content c complex_content simple_content e f h = absurd (cc)
less_together simple_content empty_content c complex_content simple_content e f h = absurd (cc)
less_together simple_content complex_content c complex_content simple_content e f h = absurd (cc)
less_together simple_content simple_content c complex_content simple_content e f h = absurd (cc)
less_together a b c simple_content empty_content e f h = refl
less_together empty_content b c simple_content complex_content e f h = absurd (cc)
less_together complex_content b c simple_content complex_content e f h = absurd (cc)
less_together simple_content empty_content c simple_content complex_content e f h = absurd (cc)
less_together simple_content complex_content c simple_content complex_content e f h = absurd (cc)
less_together simple_content simple_content c simple_content complex_content e f h = absurd (cc)
less_together empty_content b c simple_content simple_content e f h = absurd (cc)
less_together complex_content b c simple_content simple_content e f h = absurd (cc)
less_together simple_content empty_content c simple_content simple_content e f h = absurd (cc)
less_together simple_content complex_content c simple_content simple_content e f h = absurd (cc)
less_together simple_content simple_content c simple_content simple_content e f h = absurd (cc)

-- the type of two groupable types is the greater one
pub together_greater : (a b c : ContentType) → type_of_both (Some a) (Some b) ≡ Some c → greater a b ≡ c
together_greater a b c e = same_Some _ c (sym (less_together a b c a b e (greater_itself a) (greater_itself b)) ∙ e)

pub both_have : (a b : Option ContentType) (c : ContentType) → type_of_both a b ≡ Some c
    → (u : ContentType) × (v : ContentType) × (a ≡ Some u) × (b ≡ Some v) × (type_of_both (Some u) (Some v) ≡ Some c)
both_have None b c e = absurd (cc)
both_have (Some u) None c e = absurd (cc)
both_have (Some u) (Some v) c e = (u, v, refl, refl, e)

pub both_members : (a b : Option ContentType) (c : ContentType) → type_of_choice a b ≡ Some c
    → (u : ContentType) × (v : ContentType) × (a ≡ Some u) × (b ≡ Some v) × (greater u v ≡ c)
both_members None b c e = absurd (cc)
both_members (Some u) None c e = absurd (cc)
both_members (Some u) (Some v) c e = (u, v, refl, refl, same_Some _ c e)

-- the order of two groupable types makes no difference
pub both_swapped : (a b : Option ContentType) → type_of_both a b ≡ type_of_both b a
both_swapped None None = refl
both_swapped None (Some b) = refl
both_swapped (Some a) None = refl
both_swapped (Some empty_content) (Some empty_content) = refl
both_swapped (Some empty_content) (Some complex_content) = refl
both_swapped (Some empty_content) (Some simple_content) = refl
both_swapped (Some complex_content) (Some empty_content) = refl
both_swapped (Some complex_content) (Some complex_content) = refl
both_swapped (Some complex_content) (Some simple_content) = refl
both_swapped (Some simple_content) (Some empty_content) = refl
both_swapped (Some simple_content) (Some complex_content) = refl
both_swapped (Some simple_content) (Some simple_content) = refl

pub both_regrouped : (a b c : ContentType)
    → type_of_both (type_of_both (Some a) (Some b)) (Some c) ≡ type_of_both (Some a) (type_of_both (Some b) (Some c))
both_regrouped empty_content empty_content empty_content = refl
both_regrouped empty_content empty_content complex_content = refl
both_regrouped empty_content empty_content simple_content = refl
both_regrouped empty_content complex_content empty_content = refl
both_regrouped empty_content complex_content complex_content = refl
both_regrouped empty_content complex_content simple_content = refl
both_regrouped empty_content simple_content empty_content = refl
both_regrouped empty_content simple_content complex_content = refl
both_regrouped empty_content simple_content simple_content = refl
both_regrouped complex_content empty_content empty_content = refl
both_regrouped complex_content empty_content complex_content = refl
both_regrouped complex_content empty_content simple_content = refl
both_regrouped complex_content complex_content empty_content = refl
both_regrouped complex_content complex_content complex_content = refl
both_regrouped complex_content complex_content simple_content = refl
both_regrouped complex_content simple_content empty_content = refl
both_regrouped complex_content simple_content complex_content = refl
both_regrouped complex_content simple_content simple_content = refl
both_regrouped simple_content empty_content empty_content = refl
both_regrouped simple_content empty_content complex_content = refl
both_regrouped simple_content empty_content simple_content = refl
both_regrouped simple_content complex_content empty_content = refl
both_regrouped simple_content complex_content complex_content = refl
both_regrouped simple_content complex_content simple_content = refl
both_regrouped simple_content simple_content empty_content = refl
both_regrouped simple_content simple_content complex_content = refl
both_regrouped simple_content simple_content simple_content = refl
