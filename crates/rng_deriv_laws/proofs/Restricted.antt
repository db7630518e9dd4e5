-- What grammars that break no restriction satisfy (RELAX NG Specification, section 7).
use Rattle.std.proofs.Common.{◌≡◌, ◌⊎◌, inl, inr, ℕ, [], ◌∷◌, refl, sym, ap, ◌∙◌, subst, Option, Some, None, slice_get}
use Rattle.std.proofs.lemmas.Option.{same_Some}
use Rattle.rng_model.proofs.Places.{at_among}
use Rattle.rng_model.specs.names.Names.{NameClass}
use Rattle.rng_model.specs.simple.Tree.{Simple, Datatype, Connector, choice, group, interleave, s_not_allowed, s_empty, s_text, s_leaf, s_attribute, s_list}
use Rattle.rng_model.specs.simple.Tree.{s_data}
use Rattle.rng_model.specs.simple.Tree.{s_data_except, s_value, s_one_or_more, s_joined}
use Rattle.rng_model.specs.simple.Grammar.{Grammar, Kind, kind_of, StandsIn, Inside, itself, attribute_kind, list_kind, data_kind, one_or_more_kind}
use Rattle.rng_model.specs.simple.Grammar.{group_kind, interleave_kind}
use Rattle.rng_model.proofs.Inside.{in_attribute, in_list, in_except, in_one_or_more, in_left, in_right, inside_list, inside_one_or_more, inside_left}
use Rattle.rng_model.proofs.Inside.{inside_right}
use Rattle.rng_model.proofs.Inside.{inside_except}
use Rattle.rng_model.specs.restrictions.Contents as contents
use Rattle.rng_model.specs.restrictions.Contents.{IsProhibited, IsProhibitedInStart, HasProhibited, HasProhibitedInStart, ContentType, empty_content}
use Rattle.rng_model.specs.restrictions.Contents.{complex_content, simple_content, greater, AreGroupable, HasContent, BreaksContent}
use Rattle.rng_model.specs.restrictions.Restrictions as r
use Rattle.rng_model.specs.restrictions.Restrictions.{BreaksRestriction, IsPart}
use Rattle.rng_deriv_laws.specs.plain.Reading.{body_in}
use Rattle.rng_deriv_laws.specs.plain.Restricted.{HasNoAttribute, HasNoneGrouped, RepeatsWell, MayBeExcepted, MayBeListed, HasTexts, MayStart, type_of_choice}
use Rattle.rng_deriv_laws.specs.plain.Restricted.{type_of_both}
use Rattle.rng_deriv_laws.specs.plain.Restricted.{type_of_attribute, content_type, IsTyped, IsRestricted, IsRestrictedBody}

-- the last kinds of the paths that begin with a list or with a data
abbrev BarredFromList : Kind → Type 0
BarredFromList k = IsProhibited 20 (list_kind ∷ k ∷ [])

abbrev BarredFromExcept : Kind → Type 0
BarredFromExcept k = IsProhibited 21 (data_kind ∷ k ∷ [])

-- ---- section 7.1.2

no_attribute : (p : Simple ℕ) → ((inner : Simple ℕ) → StandsIn inner p → kind_of inner ≡ attribute_kind → ⊥) → HasNoAttribute p
no_attribute s_not_allowed f = tt
no_attribute s_empty f = tt
no_attribute s_text f = tt
no_attribute (s_leaf k) f = tt
no_attribute (s_attribute c p) f = f (s_attribute c p) itself refl
no_attribute (s_list p) f = no_attribute p (λ i s e. f i (in_list s) e)
no_attribute (s_data d) f = tt
no_attribute (s_data_except d p) f = no_attribute p (λ i s e. f i (in_except s) e)
no_attribute (s_value d v) f = tt
no_attribute (s_one_or_more p) f = no_attribute p (λ i s e. f i (in_one_or_more s) e)
no_attribute (s_joined k p q) f = (no_attribute p (λ i s e. f i (in_left s) e), no_attribute q (λ i s e. f i (in_right s) e))

abbrev IsBetween : Simple ℕ → Type 0
IsBetween p = (kind_of p ≡ group_kind) ⊎ (kind_of p ≡ interleave_kind)

none_grouped : (p : Simple ℕ) →
    ((between inner : Simple ℕ) → StandsIn between p → IsBetween between → Inside inner between → kind_of inner ≡ attribute_kind → ⊥) → HasNoneGrouped p
none_grouped s_not_allowed f = tt
none_grouped s_empty f = tt
none_grouped s_text f = tt
none_grouped (s_leaf k) f = tt
none_grouped (s_attribute c p) f = none_grouped p (λ b i s k d e. f b i (in_attribute s) k d e)
none_grouped (s_list p) f = none_grouped p (λ b i s k d e. f b i (in_list s) k d e)
none_grouped (s_data d) f = tt
none_grouped (s_data_except d p) f = none_grouped p (λ b i s k d e. f b i (in_except s) k d e)
none_grouped (s_value d v) f = tt
none_grouped (s_one_or_more p) f = none_grouped p (λ b i s k d e. f b i (in_one_or_more s) k d e)
none_grouped (s_joined choice p q) f =
    (none_grouped p (λ b i s k d e. f b i (in_left s) k d e), none_grouped q (λ b i s k d e. f b i (in_right s) k d e))
none_grouped (s_joined group p q) f = (
  no_attribute p (λ i s e. f (s_joined group p q) i itself (inl refl) (inside_left s) e),
  no_attribute q (λ i s e. f (s_joined group p q) i itself (inl refl) (inside_right s) e),
)
none_grouped (s_joined interleave p q) f = (
  no_attribute p (λ i s e. f (s_joined interleave p q) i itself (inr refl) (inside_left s) e),
  no_attribute q (λ i s e. f (s_joined interleave p q) i itself (inr refl) (inside_right s) e),
)

abbrev NoneRepeated : Simple ℕ → Type 0
NoneRepeated p = (repeated between inner : Simple ℕ) → StandsIn repeated p → kind_of repeated ≡ one_or_more_kind → Inside between repeated → IsBetween between
    → Inside inner between → kind_of inner ≡ attribute_kind → ⊥

repeats_well : (p : Simple ℕ) → NoneRepeated p → RepeatsWell p
repeats_well s_not_allowed f = tt
repeats_well s_empty f = tt
repeats_well s_text f = tt
repeats_well (s_leaf k) f = tt
repeats_well (s_attribute c p) f = repeats_well p (λ o b i s m u k d e. f o b i (in_attribute s) m u k d e)
repeats_well (s_list p) f = repeats_well p (λ o b i s m u k d e. f o b i (in_list s) m u k d e)
repeats_well (s_data d) f = tt
repeats_well (s_data_except d p) f = repeats_well p (λ o b i s m u k d e. f o b i (in_except s) m u k d e)
repeats_well (s_value d v) f = tt
repeats_well (s_one_or_more p) f = (
  none_grouped p (λ b i s k d e. f (s_one_or_more p) b i itself refl (inside_one_or_more s) k d e),
  repeats_well p (λ o b i s m u k d e. f o b i (in_one_or_more s) m u k d e),
)
repeats_well (s_joined k p q) f =
    (repeats_well p (λ o b i s m u j d e. f o b i (in_left s) m u j d e), repeats_well q (λ o b i s m u j d e. f o b i (in_right s) m u j d e))

pub repeats_without_break : (p : Simple ℕ) → (HasProhibited 19 p → ⊥) → RepeatsWell p
repeats_without_break p keeps = repeats_well p (λ o b i s m u k d e. elim k [
  | inl f ↦ keeps (_, contents.repeated_group_attribute, (o, s, m, (b, u, f, (i, d, e, tt))))
  | inr f ↦ keeps (_, contents.repeated_interleave_attribute, (o, s, m, (b, u, f, (i, d, e, tt))))
])

-- ---- sections 7.1.3 and 7.1.4

may_be_excepted : (p : Simple ℕ) → ((inner : Simple ℕ) → StandsIn inner p → BarredFromExcept (kind_of inner) → ⊥) → MayBeExcepted p
may_be_excepted s_not_allowed f = tt
may_be_excepted s_empty f = f s_empty itself contents.data_empty
may_be_excepted s_text f = f s_text itself contents.data_text
may_be_excepted (s_leaf k) f = f (s_leaf k) itself contents.data_ref
may_be_excepted (s_attribute c p) f = f (s_attribute c p) itself contents.data_attribute
may_be_excepted (s_list p) f = f (s_list p) itself contents.data_list
may_be_excepted (s_data d) f = tt
may_be_excepted (s_data_except d p) f = may_be_excepted p (λ i s b. f i (in_except s) b)
may_be_excepted (s_value d v) f = tt
may_be_excepted (s_one_or_more p) f = f (s_one_or_more p) itself contents.data_one_or_more
may_be_excepted (s_joined choice p q) f = (may_be_excepted p (λ i s b. f i (in_left s) b), may_be_excepted q (λ i s b. f i (in_right s) b))
may_be_excepted (s_joined group p q) f = f (s_joined group p q) itself contents.data_group
may_be_excepted (s_joined interleave p q) f = f (s_joined interleave p q) itself contents.data_interleave

-- each except has only what it may have
abbrev ExceptsWell : Simple ℕ → Type 0
ExceptsWell p = (d : Datatype) (except inner : Simple ℕ) → StandsIn (s_data_except d except) p → StandsIn inner except → BarredFromExcept (kind_of inner) → ⊥

may_be_listed : (p : Simple ℕ) → ((inner : Simple ℕ) → StandsIn inner p → BarredFromList (kind_of inner) → ⊥) → ExceptsWell p → MayBeListed p
may_be_listed s_not_allowed f h = tt
may_be_listed s_empty f h = tt
may_be_listed s_text f h = f s_text itself contents.list_text
may_be_listed (s_leaf k) f h = f (s_leaf k) itself contents.list_ref
may_be_listed (s_attribute c p) f h = f (s_attribute c p) itself contents.list_attribute
may_be_listed (s_list p) f h = f (s_list p) itself contents.list_list
may_be_listed (s_data d) f h = tt
may_be_listed (s_data_except d p) f h = may_be_excepted p (λ i s b. h d p i itself s b)
may_be_listed (s_value d v) f h = tt
may_be_listed (s_one_or_more p) f h = may_be_listed p (λ i s b. f i (in_one_or_more s) b) (λ d x i s u b. h d x i (in_one_or_more s) u b)
may_be_listed (s_joined choice p q) f h = (
  may_be_listed p (λ i s b. f i (in_left s) b) (λ d x i s u b. h d x i (in_left s) u b),
  may_be_listed q (λ i s b. f i (in_right s) b) (λ d x i s u b. h d x i (in_right s) u b),
)
may_be_listed (s_joined group p q) f h = (
  may_be_listed p (λ i s b. f i (in_left s) b) (λ d x i s u b. h d x i (in_left s) u b),
  may_be_listed q (λ i s b. f i (in_right s) b) (λ d x i s u b. h d x i (in_right s) u b),
)
may_be_listed (s_joined interleave p q) f h = f (s_joined interleave p q) itself contents.list_interleave

-- each list has only what it may have
abbrev ListsWell : Simple ℕ → Type 0
ListsWell p = (outer inner : Simple ℕ) → StandsIn outer p → kind_of outer ≡ list_kind → Inside inner outer → BarredFromList (kind_of inner) → ⊥

has_texts : (p : Simple ℕ) → ListsWell p → ExceptsWell p → HasTexts MayBeListed p
has_texts s_not_allowed f h = tt
has_texts s_empty f h = tt
has_texts s_text f h = tt
has_texts (s_leaf k) f h = tt
has_texts (s_attribute c p) f h = has_texts p (λ o i s e u b. f o i (in_attribute s) e u b) (λ d x i s u b. h d x i (in_attribute s) u b)
has_texts (s_list p) f h = may_be_listed p (λ i s b. f (s_list p) i itself refl (inside_list s) b) (λ d x i s u b. h d x i (in_list s) u b)
has_texts (s_data d) f h = tt
has_texts (s_data_except d p) f h = may_be_excepted p (λ i s b. h d p i itself s b)
has_texts (s_value d v) f h = tt
has_texts (s_one_or_more p) f h = has_texts p (λ o i s e u b. f o i (in_one_or_more s) e u b) (λ d x i s u b. h d x i (in_one_or_more s) u b)
has_texts (s_joined k p q) f h = (
  has_texts p (λ o i s e u b. f o i (in_left s) e u b) (λ d x i s u b. h d x i (in_left s) u b),
  has_texts q (λ o i s e u b. f o i (in_right s) e u b) (λ d x i s u b. h d x i (in_right s) u b),
)

pub texts_without_break : (p : Simple ℕ) → (HasProhibited 20 p → ⊥) → (HasProhibited 21 p → ⊥) → HasTexts MayBeListed p
texts_without_break p lists excepts =
    has_texts p (λ o i s e u b. lists (_, b, (o, s, e, (i, u, refl, tt))))
    (λ d x i s u b. excepts (_, b, (s_data_except d x, s, refl, (i, inside_except u, refl, tt))))

-- ---- section 7.1.5

may_start : (p : Simple ℕ) → ((inner : Simple ℕ) → StandsIn inner p → IsProhibitedInStart (kind_of inner) → ⊥) → MayStart p
may_start s_not_allowed f = tt
may_start s_empty f = f s_empty itself contents.start_empty
may_start s_text f = f s_text itself contents.start_text
may_start (s_leaf k) f = tt
may_start (s_attribute c p) f = f (s_attribute c p) itself contents.start_attribute
may_start (s_list p) f = f (s_list p) itself contents.start_list
may_start (s_data d) f = f (s_data d) itself contents.start_data
may_start (s_data_except d p) f = f (s_data_except d p) itself contents.start_data
may_start (s_value d v) f = f (s_value d v) itself contents.start_value
may_start (s_one_or_more p) f = f (s_one_or_more p) itself contents.start_one_or_more
may_start (s_joined choice p q) f = (may_start p (λ i s b. f i (in_left s) b), may_start q (λ i s b. f i (in_right s) b))
may_start (s_joined group p q) f = f (s_joined group p q) itself contents.start_group
may_start (s_joined interleave p q) f = f (s_joined interleave p q) itself contents.start_interleave

pub starts_without_break : (p : Simple ℕ) → (HasProhibitedInStart p → ⊥) → MayStart p
starts_without_break p keeps = may_start p (λ i s b. keeps (kind_of i, b, (i, s, refl, tt)))

-- ---- section 7.2

groupable_type : (s u : ContentType) → AreGroupable s u → type_of_both (Some s) (Some u) ≡ Some (greater s u)
groupable_type empty_content u contents.empty_first = refl
groupable_type empty_content empty_content contents.empty_second = refl
groupable_type complex_content empty_content contents.empty_second = refl
groupable_type simple_content empty_content contents.empty_second = refl
groupable_type complex_content complex_content contents.both_complex = refl
groupable_type complex_content simple_content h = elim h [ ]
groupable_type simple_content complex_content h = elim h [ ]
groupable_type simple_content simple_content h = elim h [ ]

pub greater_itself : (u : ContentType) → greater u u ≡ u
greater_itself empty_content = refl
greater_itself complex_content = refl
greater_itself simple_content = refl

-- the content type of a pattern by the definition is the one that the function computes
pub content_type_in : (p : Simple ℕ) (u : ContentType) → HasContent p u → content_type p ≡ Some u
content_type_in s_not_allowed u h = elim h [ ]
content_type_in s_empty u contents.of_empty = refl
content_type_in s_text u contents.of_text = refl
content_type_in (s_leaf k) u contents.of_ref = refl
content_type_in (s_attribute c p) u (contents.of_attribute {t = v} h) = ap type_of_attribute (content_type_in p v h)
content_type_in (s_list p) u contents.of_list = refl
content_type_in (s_data d) u contents.of_data = refl
content_type_in (s_data_except d p) u contents.of_data_except = refl
content_type_in (s_value d v) u contents.of_value = refl
content_type_in (s_one_or_more p) u (contents.of_one_or_more h both) =
    ap (λ a. type_of_both a a) (content_type_in p u h) ∙ groupable_type u u both ∙ ap Some (greater_itself u)
content_type_in (s_joined choice p q) u (contents.of_choice {t = v} {u = x} h k) =
    ap (λ a. type_of_choice a (content_type q)) (content_type_in p v h) ∙ ap (λ a. type_of_choice (Some v) a) (content_type_in q x k)
content_type_in (s_joined choice p q) u (contents.of_both none h k both) = elim none [ ]
content_type_in (s_joined group p q) u (contents.of_both {t = v} {u = x} none h k both) =
    ap (λ a. type_of_both a (content_type q)) (content_type_in p v h) ∙ ap (λ a. type_of_both (Some v) a) (content_type_in q x k) ∙ groupable_type v x both
content_type_in (s_joined interleave p q) u (contents.of_both {t = v} {u = x} none h k both) =
    ap (λ a. type_of_both a (content_type q)) (content_type_in p v h) ∙ ap (λ a. type_of_both (Some v) a) (content_type_in q x k) ∙ groupable_type v x both

-- two types that combine are groupable
groupable_by : (s u v : ContentType) → type_of_both (Some s) (Some u) ≡ Some v → AreGroupable s u × (greater s u ≡ v)
groupable_by empty_content u v e = (contents.empty_first, cc)
groupable_by complex_content empty_content v e = (contents.empty_second, cc)
groupable_by complex_content complex_content v e = (contents.both_complex, cc)
groupable_by complex_content simple_content v e = absurd (cc)
groupable_by simple_content empty_content v e = (contents.empty_second, cc)
groupable_by simple_content complex_content v e = absurd (cc)
groupable_by simple_content simple_content v e = absurd (cc)

choice_content : (p q : Simple ℕ) (a b : Option ContentType) (u : ContentType) →
    ((s : ContentType) → a ≡ Some s → HasContent p s) → ((s : ContentType) → b ≡ Some s → HasContent q s) → type_of_choice a b ≡ Some u
    → HasContent (s_joined choice p q) u
choice_content p q None b u f h e = absurd (cc)
choice_content p q (Some s) None u f h e = absurd (cc)
choice_content p q (Some s) (Some v) u f h e =
    let same : greater s v ≡ u = cc in subst (λ x. HasContent (s_joined choice p q) x) same (contents.of_choice (f s refl) (h v refl))

both_content : (k : Connector) → contents.IsNoChoice k → (p q : Simple ℕ) (a b : Option ContentType) (u : ContentType) →
    ((s : ContentType) → a ≡ Some s → HasContent p s) → ((s : ContentType) → b ≡ Some s → HasContent q s) → type_of_both a b ≡ Some u
    → HasContent (s_joined k p q) u
both_content k none p q None b u f h e = absurd (cc)
both_content k none p q (Some s) None u f h e = absurd (cc)
both_content k none p q (Some s) (Some v) u f h e =
    let g = groupable_by s v u e in subst (λ x. HasContent (s_joined k p q) x) g.1 (contents.of_both none (f s refl) (h v refl) g.0)

repeated_content : (p : Simple ℕ) (a : Option ContentType) (u : ContentType) → ((s : ContentType) → a ≡ Some s → HasContent p s) → type_of_both a a ≡ Some u
    → HasContent (s_one_or_more p) u
repeated_content p None u f e = absurd (cc)
repeated_content p (Some s) u f e =
    let g = groupable_by s s u e in subst (λ x. HasContent (s_one_or_more p) x) (sym (greater_itself s) ∙ g.1) (contents.of_one_or_more (f s refl) g.0)

attribute_content : (c : NameClass) (p : Simple ℕ) (a : Option ContentType) (u : ContentType) → ((s : ContentType) → a ≡ Some s → HasContent p s) →
    type_of_attribute a ≡ Some u → HasContent (s_attribute c p) u
attribute_content c p None u f e = absurd (cc)
attribute_content c p (Some s) u f e =
    let same : empty_content ≡ u = cc in subst (λ x. HasContent (s_attribute c p) x) same (contents.of_attribute (f s refl))

-- .. and the other way round
pub content_type_out : (p : Simple ℕ) (u : ContentType) → content_type p ≡ Some u → HasContent p u
content_type_out s_not_allowed u e = absurd (cc)
content_type_out s_empty u e = subst (λ x. HasContent {L = ℕ} s_empty x) (same_Some empty_content u e) contents.of_empty
content_type_out s_text u e = subst (λ x. HasContent {L = ℕ} s_text x) (same_Some complex_content u e) contents.of_text
content_type_out (s_leaf k) u e = subst (λ x. HasContent (s_leaf k) x) (same_Some complex_content u e) contents.of_ref
content_type_out (s_attribute c p) u e = attribute_content c p (content_type p) u (content_type_out p) e
content_type_out (s_list p) u e = subst (λ x. HasContent (s_list p) x) (same_Some simple_content u e) contents.of_list
content_type_out (s_data d) u e = subst (λ x. HasContent {L = ℕ} (s_data d) x) (same_Some simple_content u e) contents.of_data
content_type_out (s_data_except d p) u e = subst (λ x. HasContent (s_data_except d p) x) (same_Some simple_content u e) contents.of_data_except
content_type_out (s_value d v) u e = subst (λ x. HasContent {L = ℕ} (s_value d v) x) (same_Some simple_content u e) contents.of_value
content_type_out (s_one_or_more p) u e = repeated_content p (content_type p) u (content_type_out p) e
content_type_out (s_joined choice p q) u e = choice_content p q (content_type p) (content_type q) u (content_type_out p) (content_type_out q) e
content_type_out (s_joined group p q) u e =
    both_content group contents.grouped p q (content_type p) (content_type q) u (content_type_out p) (content_type_out q) e
content_type_out (s_joined interleave p q) u e =
    both_content interleave contents.interleaved p q (content_type p) (content_type q) u (content_type_out p) (content_type_out q) e

not_allowed_or_not : (p : Simple ℕ) → (p ≡ s_not_allowed) ⊎ (p ≡ s_not_allowed → ⊥)
not_allowed_or_not s_not_allowed = inl refl
not_allowed_or_not s_empty = inr (λ e. cc)
not_allowed_or_not s_text = inr (λ e. cc)
not_allowed_or_not (s_leaf k) = inr (λ e. cc)
not_allowed_or_not (s_attribute c p) = inr (λ e. cc)
not_allowed_or_not (s_list p) = inr (λ e. cc)
not_allowed_or_not (s_data d) = inr (λ e. cc)
not_allowed_or_not (s_data_except d p) = inr (λ e. cc)
not_allowed_or_not (s_value d v) = inr (λ e. cc)
not_allowed_or_not (s_one_or_more p) = inr (λ e. cc)
not_allowed_or_not (s_joined k p q) = inr (λ e. cc)

typed_by : (p : Simple ℕ) → (BreaksContent p → ⊥) → (o : Option ContentType) → content_type p ≡ o → IsTyped p
typed_by p keeps (Some u) e = inl (u, e)
typed_by p keeps None e = elim (not_allowed_or_not p) [
  | inl a ↦ inr a
  | inr b ↦ absurd (keeps (record { not_whole = b; no_type = λ u h. let f : None ≡ Some u = sym e ∙ content_type_in p u h in cc }))
]

pub typed_without_break : (p : Simple ℕ) → (BreaksContent p → ⊥) → IsTyped p
typed_without_break p keeps = typed_by p keeps (content_type p) refl

-- ---- a grammar

module _ (g : Grammar) (keeps : (clause : ℕ) → BreaksRestriction g clause → ⊥) where
  part_restricted : (p : Simple ℕ) → IsPart g p → IsRestricted p
  part_restricted p is = record {
    repeats = repeats_without_break p (λ b. keeps 19 (r.in_path is b));
    texts = texts_without_break p (λ b. keeps 20 (r.in_path is b)) (λ b. keeps 21 (r.in_path is b));
  }

  pub start_may_start : MayStart g.start
  start_may_start = starts_without_break g.start (λ b. keeps 22 (r.in_start b))

  pub start_restricted : IsRestricted g.start
  start_restricted = part_restricted g.start r.the_start

  body_restricted : (k : ℕ) (o : Option (NameClass × Simple ℕ)) → slice_get g.elements k ≡ o → IsRestrictedBody (body_in o)
  body_restricted k None e = record { restricted = record { repeats = tt; texts = tt }; typed = inr refl }
  body_restricted k (Some (c, p)) e =
      let is = at_among g.elements k (c, p) e in record {
        restricted = part_restricted p (r.a_body is);
        typed = typed_without_break p (λ b. keeps 23 (r.in_content is b));
      }

  pub bodies_restricted : (k : ℕ) → IsRestrictedBody (body_in (slice_get g.elements k))
  bodies_restricted k = body_restricted k (slice_get g.elements k) refl
