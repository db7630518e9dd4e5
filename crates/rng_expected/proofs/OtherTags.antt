-- Tags that are not expected leave nothing.
use Rattle.std.proofs.Common.{◌≡◌, ◌⊎◌, inl, inr, ℕ, List, [], true, refl, subst, ⊎_elim, Contains}
use Rattle.std.proofs.lemmas.List.Elements.{All-contains}
use Rattle.rng_model.specs.names.Lists.{Among, here, there}
use Rattle.rng_model.specs.names.Names.{In, Name, NameClass, name_is}
use Rattle.rng_model.specs.simple.Tree.{Simple}
use Rattle.rng_model.specs.matching.Document.{Attribute, HasNoName, Interleaves, Item, another_name, nothing_named}
use Rattle.rng_model.specs.matching.Document as document
use Rattle.rng_model.specs.matching.GrammarMatching.{Reading}
use Rattle.rng_names.specs.plain.Holding.{holds}
use Rattle.rng_names.proofs.Holding.{holds-Decides}
use Rattle.rng_deriv_laws.specs.plain.Reading.{body_of}
use Rattle.rng_deriv_laws.specs.plain.Taking.{Same, Takes, WeaklyTakes}
use Rattle.rng_deriv_laws.specs.plain.Taking as t
use Rattle.rng_expected.specs.Laws.{LackingTagIsInvalid, OtherAttributeIsInvalid}
use Rattle.rng_expected.specs.Tags.{HasAttributeOf, IsTag, Needs, Tag}
use Rattle.rng_expected.proofs.UntakenStarts.{NoneTakes, untaken_start}

-- ---- members of lists

module _ {A : Type 0} (x : A) where
  in_whole_left : {xs ys zs : List A} → Interleaves xs ys zs → Among x xs → Among x zs
  in_whole_left (document.left i) here = here
  in_whole_left (document.left i) (there a) = there (in_whole_left i a)
  in_whole_left (document.right i) a = there (in_whole_left i a)
  in_whole_left document.done a = a

  in_whole_right : {xs ys zs : List A} → Interleaves xs ys zs → Among x ys → Among x zs
  in_whole_right (document.right i) here = here
  in_whole_right (document.right i) (there a) = there (in_whole_right i a)
  in_whole_right (document.left i) a = there (in_whole_right i a)
  in_whole_right document.done a = a

  in_one_part : {xs ys zs : List A} → Interleaves xs ys zs → Among x zs → Among x xs ⊎ Among x ys
  in_one_part (document.left i) here = inl here
  in_one_part (document.left i) (there a) = ⊎_elim (λ h. inl (there h)) (λ h. inr h) (in_one_part i a)
  in_one_part (document.right i) here = inr here
  in_one_part (document.right i) (there a) = ⊎_elim (λ h. inl h) (λ h. inr (there h)) (in_one_part i a)
  in_one_part document.done a = inl a

  in_none : {B : Type 0} → Among x [] → B
  in_none a = elim a [ ]

no_name_among : {n : Name} {xs : List Attribute} → HasNoName n xs → (x : Attribute) → Among x xs → x.name ≡ n → ⊥
no_name_among nothing_named x a is = in_none x a
no_name_among (another_name other h) x here is = other is
no_name_among (another_name other h) x (there a) is = no_name_among h x a is

module _ (g : Reading) where
  -- ---- names that a pattern needs

  module _ (n : Name) where
    -- some attribute has the name
    abbrev HasOne : List Attribute → Type 0
    HasOne xs = (x : Attribute) × Among x xs × (x.name ≡ n)

    one_left : {xs ys zs : List Attribute} → Interleaves xs ys zs → HasOne xs → HasOne zs
    one_left i h = (h.0, in_whole_left h.0 i h.1, h.2)

    one_right : {xs ys zs : List Attribute} → Interleaves xs ys zs → HasOne ys → HasOne zs
    one_right i h = (h.0, in_whole_right h.0 i h.1, h.2)

    has_needed : {p : Simple ℕ} {xs : List Attribute} {ns : List Item} → Takes g p xs ns → Needs n p → HasOne xs
    has_needed t.empty_is h = absurd h
    has_needed (t.text_is all) h = absurd h
    has_needed (t.first d) h = has_needed d h.0
    has_needed (t.second d) h = has_needed d h.1
    has_needed (t.grouped d f i c) h = ⊎_elim (λ a. one_left i (has_needed d a)) (λ b. one_right i (has_needed f b)) h
    has_needed (t.interleaved d f i j) h = ⊎_elim (λ a. one_left i (has_needed d a)) (λ b. one_right i (has_needed f b)) h
    has_needed (t.once d) h = has_needed d h
    has_needed (t.again d f r i c) h = one_left i (has_needed d h)
    has_needed (t.attribute_is {v = v} named w) h = (v, here, (holds-Decides (name_is n) v.name).0 (subst (λ c. holds c v.name ≡ true) h named))
    has_needed (t.element_is named w pad) h = absurd h
    has_needed (t.data_is e) h = absurd h
    has_needed (t.data_but e but) h = absurd h
    has_needed (t.value_is e) h = absurd h
    has_needed (t.list_is e d) h = absurd h

  -- ---- attributes that a pattern has

  module _ (x : Attribute) where
    -- an attribute of the pattern has the name
    abbrev HasPlace : Simple ℕ → Type 0
    HasPlace p = (c : NameClass) × HasAttributeOf p c × In c x.name

    has_place : {p : Simple ℕ} {xs : List Attribute} {ns : List Item} → Takes g p xs ns → Among x xs → HasPlace p
    has_place t.empty_is a = in_none x a
    has_place (t.text_is all) a = in_none x a
    has_place (t.first d) a = let h = has_place d a in (h.0, (h.1.0, inl h.1.1), h.2)
    has_place (t.second d) a = let h = has_place d a in (h.0, (h.1.0, inr h.1.1), h.2)
    has_place (t.grouped d f i c) a = ⊎_elim
        (λ a. let h = has_place d a in (h.0, (h.1.0, inl h.1.1), h.2))
        (λ a. let h = has_place f a in (h.0, (h.1.0, inr h.1.1), h.2))
        (in_one_part x i a)
    has_place (t.interleaved d f i j) a = ⊎_elim
        (λ a. let h = has_place d a in (h.0, (h.1.0, inl h.1.1), h.2))
        (λ a. let h = has_place f a in (h.0, (h.1.0, inr h.1.1), h.2))
        (in_one_part x i a)
    has_place (t.once d) a = has_place d a
    has_place (t.again d f r i c) a = ⊎_elim (λ a. has_place d a) (λ a. has_place f a) (in_one_part x i a)
    has_place (t.attribute_is {c = c} {p = p} {v = v} named w) here = (c, (p, refl), (holds-Decides c v.name).0 named)
    has_place (t.attribute_is named w) (there a) = in_none x a
    has_place (t.element_is named w pad) a = in_none x a
    has_place (t.data_is e) a = in_none x a
    has_place (t.data_but e but) a = in_none x a
    has_place (t.value_is e) a = in_none x a
    has_place (t.list_is e d) a = in_none x a

  -- ---- the bodies of a tag

  -- what takes the same takes these attributes too
  taken_by_same : (b p : Simple ℕ) (xs : List Attribute) (kids : List Item) → Same g b p → WeaklyTakes g p xs kids → (ns : List Item) × Takes g b xs ns
  taken_by_same b p xs kids s (t.as_is d) = (kids, s.back xs kids d)
  taken_by_same b p xs kids s (t.blank_text d blank) = ([], s.back xs [] d)
  taken_by_same b p xs kids s (t.nothing_there d) = (_, s.back xs _ d)

  -- no element takes the attributes if no body of the tag does
  no_body_takes : (now : List (Simple ℕ)) (q : Name) (tag : Tag) (is : IsTag g now q tag) (xs : List Attribute)
      → ((b : Simple ℕ) (ns : List Item) → Contains is.bodies b → Takes g b xs ns → ⊥) → NoneTakes g now q xs
  no_body_takes now q tag is xs none = λ k kids may w.
      let b = is.are.all k may in
      let d = taken_by_same b.0 (body_of g k) xs kids b.2 w in
      none b.0 d.0 b.1 d.1

pub lacking_tag : LackingTagIsInvalid
lacking_tag g m k es line q tag n xs stands settles is required lacking =
    untaken_start g m k es line q xs stands settles (no_body_takes g k.now q tag is xs (λ b ns c d.
    let h = has_needed g n d (All-contains (Needs n) is.bodies b ((is.has.required n).0 required).1 c) in
    no_name_among lacking h.0 h.1 h.2))

pub other_attribute : OtherAttributeIsInvalid
other_attribute g m k es line q tag x xs stands settles is among none =
    untaken_start g m k es line q xs stands settles (no_body_takes g k.now q tag is xs (λ b ns c d.
    let h = has_place g x d among in
    ⊎_elim (λ told. none h.0 told h.2) (λ empty. empty x.name h.2) (is.has.all b h.0 c h.1)))
